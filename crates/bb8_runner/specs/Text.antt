-- The output bytes of a script.
use Rattle.std.specs.Prelude.{ℕ, ◌/◌, ◌==◌, List, [], ◌∷◌, ◌++◌, true, false, Option, Some, None, codes, decimal, if◌then◌else◌, flat_map}
use Rattle.bb8_runner.specs.Words.{Counts, Figures, figures_of, Answer}
use Rattle.bb8_core.specs.declared.replay.events.Answer.TheVariants.{Begun, Memory, Exhausted, Served, Taken, Waiting, Kept, Closed, GaveUp, Granted, Claimed, Ended, Entered, Late, GivenBack, Added, Broken, NoCapacity, Withheld, Reaped, Shown, Joined, Left, Looked, Unfit}
use Rattle.bb8_types.specs.declared.grants.Grant.{Grant}

-- ` grant N at F` if approvals were granted, and ` withheld W` if any were withheld
abbrev pub grant_text : Grant → List ℕ
grant_text g = (if g.count == 0 then [] else codes " grant " ++ (decimal g.count ++ (codes " at " ++ decimal g.first)))
    ++ (if g.withheld == 0 then [] else codes " withheld " ++ decimal g.withheld)

-- ` notifies G` if a get was notified
abbrev pub notifies_text : Option ℕ → List ℕ
notifies_text None = []
notifies_text (Some g) = codes " notifies " ++ decimal g

-- the counts of gets
abbrev pub gets_text : Counts → List ℕ
gets_text c = codes " started " ++ (decimal c.started ++ (codes " direct " ++ (decimal c.direct ++ (codes " waited " ++ (decimal c.waited
    ++ (codes " timed_out " ++ (decimal c.timed_out ++ (codes " cancelled " ++ decimal c.cancelled))))))))

-- the wait time in whole microseconds, and the counts of opened connections and of closed ones, by
-- reason
abbrev pub connections_text : Counts → List ℕ
connections_text c = codes " wait_us " ++ (decimal (c.wait_time / 1_000) ++ (codes " created " ++ (decimal c.created ++ (codes " broken " ++ (decimal c.broken
    ++ (codes " invalid " ++ (decimal c.invalid ++ (codes " lifetime " ++ (decimal c.max_lifetime ++ (codes " idle_timeout " ++ decimal c.idle_timeout))))))))))

-- ` retired N` if retired ones were closed, and ` detached N` if any were detached
abbrev pub gone_text : Counts → List ℕ
gone_text c = (if c.retired == 0 then [] else codes " retired " ++ decimal c.retired)
    ++ (if c.detached == 0 then [] else codes " detached " ++ decimal c.detached)

-- the state line without its line feed
abbrev pub state_text : Figures → List ℕ
state_text f = codes "state connections " ++ (decimal f.connections ++ (codes " idle " ++ (decimal f.idle
    ++ (gets_text f.counts ++ (connections_text f.counts ++ gone_text f.counts)))))

-- a result without its line feed
abbrev pub answer_text : Answer → List ℕ
answer_text (Begun g) = codes "begun " ++ decimal g
answer_text Memory = codes "memory"
answer_text Exhausted = codes "exhausted"
answer_text (Served k grant) = codes "served " ++ (decimal k ++ grant_text grant)
answer_text (Taken k grant) = codes "taken " ++ (decimal k ++ grant_text grant)
answer_text (Waiting grant) = codes "waiting" ++ grant_text grant
answer_text (Kept k notified) = codes "kept " ++ (decimal k ++ notifies_text notified)
answer_text (Closed k grant notified) = codes "closed " ++ (decimal k ++ (grant_text grant ++ notifies_text notified))
answer_text (GaveUp notified) = codes "gave up" ++ notifies_text notified
answer_text (Granted grant) = codes "granted" ++ grant_text grant
answer_text (Claimed (Some a)) = codes "claimed " ++ decimal a
answer_text (Claimed None) = codes "none"
answer_text Ended = codes "ended"
answer_text (Entered a notified) = codes "entered " ++ (decimal a ++ notifies_text notified)
answer_text (Late a) = codes "late " ++ decimal a
answer_text GivenBack = codes "given back"
answer_text (Added k notified) = codes "added " ++ (decimal k ++ notifies_text notified)
answer_text Broken = codes "broken"
answer_text NoCapacity = codes "full"
answer_text Withheld = codes "withheld"
answer_text (Reaped closed by_idle by_life grant) =
    codes "reaped " ++ (decimal closed ++ (codes " idle " ++ (decimal by_idle ++ (codes " life " ++ (decimal by_life ++ grant_text grant)))))
answer_text (Shown state) = state_text (figures_of state)
answer_text Joined = codes "joined"
answer_text (Left n) = codes "left " ++ decimal n
answer_text (Looked m true) = codes "looked " ++ (decimal m.0 ++ codes " open")
answer_text (Looked m false) = codes "looked " ++ (decimal m.0 ++ codes " closed")
answer_text Unfit = codes "unfit"

-- a text with its line feed
abbrev pub line : List ℕ → List ℕ
line text = text ++ 10 ∷ []

-- the output of a script that ran: a line for each result, and the final state
abbrev pub output_of : List Answer → Figures → List ℕ
output_of answers last = flat_map (λ a. line (answer_text a)) answers ++ line (state_text last)

-- the message about line n, the first bad one
abbrev pub bad_line_text : ℕ → List ℕ
bad_line_text n = codes "line " ++ (decimal n ++ (if n == 1 then line (codes ": not a configuration") else line (codes ": not an event")))
