-- The table of the polls of a dedicated connection, over the relations of any opener.
use Rattle.std.specs.Prelude.{◌≡◌, max, Bool, true, false, Result, Ok, Err}
use Rattle.bb8_tasks.specs.Words.{MatchBool, Poll, Ready, Pending, Moment, OpenerOf}
use Rattle.bb8_tasks.specs.declared.dedicated.Dedicated.{Dedicated}
use Rattle.bb8_tasks.specs.declared.dedicated.Opened.{Opened}
use Rattle.bb8_tasks.specs.declared.dedicated.Attempt.{Attempt}
use Rattle.bb8_tasks.specs.declared.dedicated.Attempt.TheVariants.{Fresh, Connecting, Acquiring, Done}

module _ {C V A : Type 0} where
  -- an attempt that was not polled yet
  abbrev pub fresh : Dedicated C V A
  fresh = record { latest = record { 0 = 0 }; stage = Fresh }

  -- whether an attempt in this stage has returned its result
  abbrev pub is_done : Attempt C V A → Bool
  is_done Done = true
  is_done _ = false

  -- this result and stage
  abbrev pub AttemptIsAt : {E : Type 0} → Poll (Result C E) → Attempt C V A → Opened C V A E → Type 0
  AttemptIsAt answer stage next = (next.answer ≡ answer) × (next.stage ≡ stage)

-- an attempt in this stage drops what it holds: its attempt or preparation ends, then the
-- connection is dropped
abbrev pub DropsAttempt : {C E V A W : Type 0} → OpenerOf W C E V A → Attempt C V A → W → W → Type 0
DropsAttempt opener (Connecting connecting) w w' = opener.ends_connect w connecting w'
DropsAttempt {W = W} opener (Acquiring c acquiring) w w' = (w1 : W) × opener.ends_acquire w acquiring w1 × opener.lets_go w1 c w'
DropsAttempt opener stage w w' = w' ≡ w

module _ {C E V A W : Type 0} (opener : OpenerOf W C E V A) (m : Moment) where
  -- after a poll of the preparation, which left the connection and the preparation in these states:
  -- a finished preparation is ended first
  abbrev pub AfterAttemptAcquire : Poll (Result (Unit {0}) E) → C → A → W → Opened C V A E → W → Type 0
  AfterAttemptAcquire Pending c acquiring w next w' = AttemptIsAt Pending (Acquiring c acquiring) next × (w' ≡ w)
  AfterAttemptAcquire (Ready (Ok u)) c acquiring w next w' = opener.ends_acquire w acquiring w' × AttemptIsAt (Ready (Ok c)) Done next
  AfterAttemptAcquire (Ready (Err e)) c acquiring w next w' =
      (w1 : W) × opener.ends_acquire w acquiring w1 × opener.lets_go w1 c w' × AttemptIsAt (Ready (Err e)) Done next

  -- the preparation is polled
  abbrev pub AttemptAcquires : C → A → W → Opened C V A E → W → Type 0
  AttemptAcquires c acquiring w next w' =
      (answer : Poll (Result (Unit {0}) E)) × (c1 : C) × (acquiring1 : A) × (w1 : W)
      × opener.acquire_answers w c acquiring m answer c1 acquiring1 w1 × AfterAttemptAcquire answer c1 acquiring1 w1 next w'

  -- after a poll of the attempt, which left it in this state: a finished attempt is ended first
  abbrev pub AfterAttemptConnect : Poll (Result C E) → V → W → Opened C V A E → W → Type 0
  AfterAttemptConnect Pending connecting w next w' = AttemptIsAt Pending (Connecting connecting) next × (w' ≡ w)
  AfterAttemptConnect (Ready (Ok c)) connecting w next w' =
      (w1 : W) × opener.ends_connect w connecting w1
      × ((acquiring : A) × (c1 : C) × (w2 : W) × opener.acquires w1 c acquiring c1 w2 × AttemptAcquires c1 acquiring w2 next w')
  AfterAttemptConnect (Ready (Err e)) connecting w next w' = opener.ends_connect w connecting w' × AttemptIsAt (Ready (Err e)) Done next

  -- the attempt is polled
  abbrev pub AttemptConnects : V → W → Opened C V A E → W → Type 0
  AttemptConnects connecting w next w' =
      (answer : Poll (Result C E)) × (connecting1 : V) × (w1 : W)
      × opener.connect_answers w connecting m answer connecting1 w1 × AfterAttemptConnect answer connecting1 w1 next w'

  -- an attempt is begun
  abbrev pub AttemptBegins : W → Opened C V A E → W → Type 0
  AttemptBegins w next w' = (connecting : V) × (w1 : W) × opener.connects w connecting w1 × AttemptConnects connecting w1 next w'

  -- the rows of each stage
  abbrev pub AttemptAdvances : Attempt C V A → W → Opened C V A E → W → Type 0
  AttemptAdvances Fresh w next w' = AttemptBegins w next w'
  AttemptAdvances (Connecting connecting) w next w' = AttemptConnects connecting w next w'
  AttemptAdvances (Acquiring c acquiring) w next w' = AttemptAcquires c acquiring w next w'
  AttemptAdvances Done w next w' = AttemptIsAt Pending Done next × (w' ≡ w)

module _ {C E V A W : Type 0} (opener : OpenerOf W C E V A) where
  -- a poll of an attempt without a result yet: the clock is read, and the poll's moment is the
  -- latest reading so far
  abbrev pub AttemptTurns : Dedicated C V A → W → Poll (Result C E) → Dedicated C V A → W → Type 0
  AttemptTurns d w answer d' w' =
      (at : Moment) × (w1 : W) × opener.reports w at w1 × (d'.latest.0 ≡ max at.0 d.latest.0)
      × AttemptAdvances opener d'.latest d.stage w1 (record { answer = answer; stage = d'.stage }) w'

  -- the whole poll; after the result it is pending, makes no callback and changes nothing
  abbrev pub AttemptPolls : Dedicated C V A → W → Poll (Result C E) → Dedicated C V A → W → Type 0
  AttemptPolls d w answer d' w' = MatchBool (is_done d.stage) ((answer ≡ Pending) × (d' ≡ d) × (w' ≡ w)) (AttemptTurns d w answer d' w')
