-- The worked rows: what happens to a pool, line by line, with the results that were worked out by hand, or that the original gave.
-- Written by gate/ledger_rows from crates/bb8_rows/stdin.
use Rattle.std.specs.Prelude.{true, false, List, [], ◌∷◌, Some, None}
use Rattle.bb8_types.specs.declared.api.configuration.QueueStrategy.TheVariants.{Lifo}
use Rattle.bb8_types.specs.Settings.{default_settings}
use Rattle.bb8_types.specs.Figures.{no_counts}
use Rattle.bb8_ledger.specs.Acts.{Begin, Try, CheckedOk, CheckedErr, GiveUp, PutBack, Detach, Evict, Fill, Ask, Claim, Failed, Add, Reap, Retire, Join, Leave, Close, TimedOut, Cancelled}
use Rattle.bb8_ledger.specs.Answers.{Begun, Exhausted, Served, Taken, Waiting, Kept, Closed, GaveUp, Granted, Claimed, Ended, Entered, Late, GivenBack, Added, Broken, NoCapacity, Withheld, Reaped, Joined, Left, Unfit}
use Rattle.bb8_ledger.specs.Rows.{WorkedRow, ◌▸◌⇒◌, grant◌at◌, opens, returns, adds, shows, row, unchecked}

-- a newer get takes the idle connection from the notified one, which waits again
abbrev pub overtaken : WorkedRow
overtaken =
    row (unchecked 1) 0 0 (shows 1 0 (record no_counts { started = 2; direct = 1; waited = 1; created = 1 }))
    (0 ▸ Begin ⇒ Begun 0
    ∷ 0 ▸ Try 0 ⇒ Waiting (grant 1 at 0)
    ∷ 0 ▸ Claim ⇒ Claimed (Some 0)
    ∷ 0 ▸ opens 0 ⇒ Entered 0 (Some 0)
    ∷ 0 ▸ Begin ⇒ Begun 1
    ∷ 0 ▸ Try 1 ⇒ Served 0 (grant 0 at 1)
    ∷ 0 ▸ Try 0 ⇒ Waiting (grant 0 at 1)
    ∷ 0 ▸ returns 0 ⇒ Kept 0 (Some 0)
    ∷ 0 ▸ Try 0 ⇒ Served 0 (grant 0 at 1)
    ∷ [])

-- a close notifies the oldest waiter, whose try asks for another connection and waits anew, behind the others
abbrev pub closed_puts_last : WorkedRow
closed_puts_last =
    row (unchecked 1) 0 0 (shows 1 0 (record no_counts { started = 3; waited = 2; created = 2; broken = 1 }))
    (0 ▸ Begin ⇒ Begun 0
    ∷ 0 ▸ Try 0 ⇒ Waiting (grant 1 at 0)
    ∷ 0 ▸ Claim ⇒ Claimed (Some 0)
    ∷ 0 ▸ opens 0 ⇒ Entered 0 (Some 0)
    ∷ 0 ▸ Try 0 ⇒ Served 0 (grant 0 at 1)
    ∷ 0 ▸ Begin ⇒ Begun 1
    ∷ 0 ▸ Try 1 ⇒ Waiting (grant 0 at 1)
    ∷ 0 ▸ Begin ⇒ Begun 2
    ∷ 0 ▸ Try 2 ⇒ Waiting (grant 0 at 1)
    ∷ 0 ▸ PutBack 0 0 true ⇒ Closed 0 (grant 0 at 1) (Some 1)
    ∷ 0 ▸ Try 1 ⇒ Waiting (grant 1 at 1)
    ∷ 0 ▸ Claim ⇒ Claimed (Some 1)
    ∷ 0 ▸ opens 1 ⇒ Entered 1 (Some 2)
    ∷ 0 ▸ Try 2 ⇒ Served 1 (grant 0 at 2)
    ∷ [])

-- two closes: the oldest waiter goes behind another each time, and a newcomer is served before it, too
abbrev pub passed_by_two : WorkedRow
passed_by_two =
    row (unchecked 1) 0 0 (shows 1 0 (record no_counts { started = 4; waited = 3; created = 3; broken = 2 }))
    (0 ▸ Begin ⇒ Begun 0
    ∷ 0 ▸ Try 0 ⇒ Waiting (grant 1 at 0)
    ∷ 0 ▸ Claim ⇒ Claimed (Some 0)
    ∷ 0 ▸ opens 0 ⇒ Entered 0 (Some 0)
    ∷ 0 ▸ Try 0 ⇒ Served 0 (grant 0 at 1)
    ∷ 0 ▸ Begin ⇒ Begun 1
    ∷ 0 ▸ Try 1 ⇒ Waiting (grant 0 at 1)
    ∷ 0 ▸ Begin ⇒ Begun 2
    ∷ 0 ▸ Try 2 ⇒ Waiting (grant 0 at 1)
    ∷ 0 ▸ PutBack 0 0 true ⇒ Closed 0 (grant 0 at 1) (Some 1)
    ∷ 0 ▸ Try 1 ⇒ Waiting (grant 1 at 1)
    ∷ 0 ▸ Claim ⇒ Claimed (Some 1)
    ∷ 0 ▸ opens 1 ⇒ Entered 1 (Some 2)
    ∷ 0 ▸ Try 2 ⇒ Served 1 (grant 0 at 2)
    ∷ 0 ▸ Begin ⇒ Begun 3
    ∷ 0 ▸ Try 3 ⇒ Waiting (grant 0 at 2)
    ∷ 0 ▸ PutBack 1 1 true ⇒ Closed 1 (grant 0 at 2) (Some 1)
    ∷ 0 ▸ Try 1 ⇒ Waiting (grant 1 at 2)
    ∷ 0 ▸ Claim ⇒ Claimed (Some 2)
    ∷ 0 ▸ opens 2 ⇒ Entered 2 (Some 3)
    ∷ 0 ▸ Try 3 ⇒ Served 2 (grant 0 at 3)
    ∷ [])

-- after a close a get that is thrown away asks for the connection: who was notified keeps its place, and is served first
abbrev pub closed_keeps_place : WorkedRow
closed_keeps_place =
    row (unchecked 1) 0 0 (shows 1 0 (record no_counts { started = 4; waited = 3; cancelled = 1; created = 2; broken = 1 }))
    (0 ▸ Begin ⇒ Begun 0
    ∷ 0 ▸ Try 0 ⇒ Waiting (grant 1 at 0)
    ∷ 0 ▸ Claim ⇒ Claimed (Some 0)
    ∷ 0 ▸ opens 0 ⇒ Entered 0 (Some 0)
    ∷ 0 ▸ Try 0 ⇒ Served 0 (grant 0 at 1)
    ∷ 0 ▸ Begin ⇒ Begun 1
    ∷ 0 ▸ Try 1 ⇒ Waiting (grant 0 at 1)
    ∷ 0 ▸ Begin ⇒ Begun 2
    ∷ 0 ▸ Try 2 ⇒ Waiting (grant 0 at 1)
    ∷ 0 ▸ PutBack 0 0 true ⇒ Closed 0 (grant 0 at 1) (Some 1)
    ∷ 0 ▸ Begin ⇒ Begun 3
    ∷ 0 ▸ Try 3 ⇒ Waiting (grant 1 at 1)
    ∷ 0 ▸ GiveUp 3 Cancelled None false ⇒ GaveUp None
    ∷ 0 ▸ Claim ⇒ Claimed (Some 1)
    ∷ 0 ▸ opens 1 ⇒ Entered 1 (Some 2)
    ∷ 0 ▸ Try 1 ⇒ Served 1 (grant 0 at 2)
    ∷ 0 ▸ returns 1 ⇒ Kept 1 None
    ∷ 0 ▸ Try 2 ⇒ Served 1 (grant 0 at 2)
    ∷ [])

-- an attempt is given up, and the waiter gets no approval by trying again: an ask grants it one, and no more
abbrev pub asked_anew : WorkedRow
asked_anew =
    row (unchecked 2) 0 0 (shows 1 0 (record no_counts { started = 1; waited = 1; created = 1 }))
    (0 ▸ Begin ⇒ Begun 0
    ∷ 0 ▸ Try 0 ⇒ Waiting (grant 1 at 0)
    ∷ 0 ▸ Claim ⇒ Claimed (Some 0)
    ∷ 0 ▸ Failed 0 ⇒ GivenBack
    ∷ 0 ▸ Try 0 ⇒ Waiting (grant 0 at 1)
    ∷ 0 ▸ Ask ⇒ Granted (grant 1 at 1)
    ∷ 0 ▸ Ask ⇒ Granted (grant 0 at 2)
    ∷ 0 ▸ Claim ⇒ Claimed (Some 1)
    ∷ 0 ▸ opens 1 ⇒ Entered 1 (Some 0)
    ∷ 0 ▸ Try 0 ⇒ Served 1 (grant 0 at 2)
    ∷ [])

-- a close notifies a get, though it brings nothing: an ask grants nothing for that one, as its own try asks
abbrev pub asked_for_notified : WorkedRow
asked_for_notified =
    row (unchecked 3) 0 0 (shows 0 0 (record no_counts { started = 3; waited = 1; created = 1; broken = 1 }))
    (0 ▸ Begin ⇒ Begun 0
    ∷ 0 ▸ Try 0 ⇒ Waiting (grant 1 at 0)
    ∷ 0 ▸ Begin ⇒ Begun 1
    ∷ 0 ▸ Try 1 ⇒ Waiting (grant 1 at 1)
    ∷ 0 ▸ Begin ⇒ Begun 2
    ∷ 0 ▸ Try 2 ⇒ Waiting (grant 1 at 2)
    ∷ 0 ▸ Claim ⇒ Claimed (Some 0)
    ∷ 0 ▸ opens 0 ⇒ Entered 0 (Some 0)
    ∷ 0 ▸ Try 0 ⇒ Served 0 (grant 0 at 3)
    ∷ 0 ▸ Claim ⇒ Claimed (Some 1)
    ∷ 0 ▸ Failed 1 ⇒ GivenBack
    ∷ 0 ▸ Claim ⇒ Claimed (Some 2)
    ∷ 0 ▸ Failed 2 ⇒ GivenBack
    ∷ 0 ▸ PutBack 0 0 true ⇒ Closed 0 (grant 0 at 3) (Some 1)
    ∷ 0 ▸ Ask ⇒ Granted (grant 1 at 3)
    ∷ 0 ▸ Try 1 ⇒ Waiting (grant 1 at 4)
    ∷ [])

-- all rows, each with its name in bb8_rows
abbrev pub worked_rows : List WorkedRow
worked_rows =
    -- two_opened: two connections are to be idle: the two are opened
    row (record (unchecked 5) { min_idle = Some 2 }) 0 0 (shows 2 2 (record no_counts { created = 2 }))
    (0 ▸ Fill false ⇒ Granted (grant 2 at 0)
    ∷ 0 ▸ Claim ⇒ Claimed (Some 0)
    ∷ 0 ▸ Claim ⇒ Claimed (Some 1)
    ∷ 0 ▸ opens 0 ⇒ Entered 0 None
    ∷ 0 ▸ opens 1 ⇒ Entered 1 None
    ∷ [])
    -- three_out: the two are opened and three gets take one each: what is idle is replaced each time
    ∷ row (record (unchecked 5) { min_idle = Some 2 }) 0 0 (shows 5 2 (record no_counts { started = 3; direct = 3; created = 5 }))
    (0 ▸ Fill false ⇒ Granted (grant 2 at 0)
    ∷ 0 ▸ Claim ⇒ Claimed (Some 0)
    ∷ 0 ▸ Claim ⇒ Claimed (Some 1)
    ∷ 0 ▸ opens 0 ⇒ Entered 0 None
    ∷ 0 ▸ opens 1 ⇒ Entered 1 None
    ∷ 0 ▸ Begin ⇒ Begun 0
    ∷ 0 ▸ Try 0 ⇒ Served 0 (grant 1 at 2)
    ∷ 0 ▸ Claim ⇒ Claimed (Some 2)
    ∷ 0 ▸ opens 2 ⇒ Entered 2 None
    ∷ 0 ▸ Begin ⇒ Begun 1
    ∷ 0 ▸ Try 1 ⇒ Served 1 (grant 1 at 3)
    ∷ 0 ▸ Claim ⇒ Claimed (Some 3)
    ∷ 0 ▸ opens 3 ⇒ Entered 3 None
    ∷ 0 ▸ Begin ⇒ Begun 2
    ∷ 0 ▸ Try 2 ⇒ Served 2 (grant 1 at 4)
    ∷ 0 ▸ Claim ⇒ Claimed (Some 4)
    ∷ 0 ▸ opens 4 ⇒ Entered 4 None
    ∷ [])
    -- oldest_first: of three added connections the one idle longest goes out first
    ∷ row (unchecked 3) 0 0 (shows 3 2 (record no_counts { started = 1; direct = 1 }))
    (0 ▸ adds 0 ⇒ Added 0 None
    ∷ 0 ▸ adds 1 ⇒ Added 1 None
    ∷ 0 ▸ adds 2 ⇒ Added 2 None
    ∷ 0 ▸ Begin ⇒ Begun 0
    ∷ 0 ▸ Try 0 ⇒ Served 0 (grant 0 at 3)
    ∷ [])
    -- newest_first: of three added connections the one idle last goes out first
    ∷ row (record (unchecked 3) { queue_strategy = Lifo }) 0 0 (shows 3 2 (record no_counts { started = 1; direct = 1 }))
    (0 ▸ adds 0 ⇒ Added 0 None
    ∷ 0 ▸ adds 1 ⇒ Added 1 None
    ∷ 0 ▸ adds 2 ⇒ Added 2 None
    ∷ 0 ▸ Begin ⇒ Begun 0
    ∷ 0 ▸ Try 0 ⇒ Served 2 (grant 0 at 3)
    ∷ [])
    -- added_until_full: a fourth connection is refused, and a broken one is called broken although the pool is full
    ∷ row (record default_settings { max_size = 3; min_idle = Some 1 }) 0 0 (shows 3 3 (record no_counts { created = 1 }))
    (0 ▸ Fill false ⇒ Granted (grant 1 at 0)
    ∷ 0 ▸ Claim ⇒ Claimed (Some 0)
    ∷ 0 ▸ opens 0 ⇒ Entered 0 None
    ∷ 0 ▸ adds 1 ⇒ Added 1 None
    ∷ 0 ▸ adds 2 ⇒ Added 2 None
    ∷ 0 ▸ adds 3 ⇒ NoCapacity
    ∷ 0 ▸ Add 3 true ⇒ Broken
    ∷ [])
    -- returned_unfit: a number that was never given, or is not out, cannot be returned
    ∷ row (unchecked 1) 0 0 (shows 1 1 (record no_counts { started = 1; direct = 1 }))
    (0 ▸ adds 0 ⇒ Added 0 None
    ∷ 0 ▸ returns 7 ⇒ Unfit
    ∷ 0 ▸ returns 0 ⇒ Unfit
    ∷ 0 ▸ Begin ⇒ Begun 0
    ∷ 0 ▸ Try 0 ⇒ Served 0 (grant 0 at 1)
    ∷ 0 ▸ returns 0 ⇒ Kept 0 None
    ∷ 0 ▸ returns 0 ⇒ Unfit
    ∷ [])
    -- returned_too_old: a connection that is returned past its lifetime is closed (upstream's test_max_lifetime_reap_on_drop)
    ∷ row (record (unchecked 1) { max_lifetime = Some 1_000_000_000 }) 0 0 (shows 0 0 (record no_counts { started = 1; direct = 1; max_lifetime = 1 }))
    (0 ▸ adds 0 ⇒ Added 0 None
    ∷ 0 ▸ Begin ⇒ Begun 0
    ∷ 0 ▸ Try 0 ⇒ Served 0 (grant 0 at 1)
    ∷ 2_000_000_000 ▸ returns 0 ⇒ Closed 0 (grant 0 at 1) None
    ∷ [])
    ∷ overtaken
    ∷ closed_puts_last
    ∷ passed_by_two
    ∷ closed_keeps_place
    -- handed_on: a notified get is cancelled, and hands its notification on
    ∷ row (unchecked 1) 0 0 (shows 1 1 (record no_counts { started = 3; waited = 1; cancelled = 1; created = 1 }))
    (0 ▸ Begin ⇒ Begun 0
    ∷ 0 ▸ Try 0 ⇒ Waiting (grant 1 at 0)
    ∷ 0 ▸ Claim ⇒ Claimed (Some 0)
    ∷ 0 ▸ opens 0 ⇒ Entered 0 (Some 0)
    ∷ 0 ▸ Try 0 ⇒ Served 0 (grant 0 at 1)
    ∷ 0 ▸ Begin ⇒ Begun 1
    ∷ 0 ▸ Try 1 ⇒ Waiting (grant 0 at 1)
    ∷ 0 ▸ Begin ⇒ Begun 2
    ∷ 0 ▸ Try 2 ⇒ Waiting (grant 0 at 1)
    ∷ 0 ▸ returns 0 ⇒ Kept 0 (Some 1)
    ∷ 0 ▸ GiveUp 1 Cancelled None false ⇒ GaveUp (Some 2)
    ∷ [])
    -- waited_five_micros: a wait of 5999 nanoseconds counts as 5 whole microseconds (upstream's test_state_get_contention)
    ∷ row (record (unchecked 1) { min_idle = Some 1 }) 0 0 (shows 1 0 (record no_counts { started = 2; direct = 1; waited = 1; wait_time = 5_000; created = 1 }))
    (0 ▸ Fill false ⇒ Granted (grant 1 at 0)
    ∷ 0 ▸ Claim ⇒ Claimed (Some 0)
    ∷ 0 ▸ opens 0 ⇒ Entered 0 None
    ∷ 0 ▸ Begin ⇒ Begun 0
    ∷ 0 ▸ Try 0 ⇒ Served 0 (grant 0 at 1)
    ∷ 0 ▸ Begin ⇒ Begun 1
    ∷ 0 ▸ Try 1 ⇒ Waiting (grant 0 at 1)
    ∷ 5_999 ▸ returns 0 ⇒ Kept 0 (Some 1)
    ∷ 5_999 ▸ Try 1 ⇒ Served 0 (grant 0 at 1)
    ∷ [])
    -- used_again: a returned connection is used again, and a second one is opened only when a get finds none (upstream's test_reuse_on_drop)
    ∷ row (record (unchecked 100) { min_idle = Some 0; queue_strategy = Lifo }) 0 0 (shows 2 0 (record no_counts { started = 3; direct = 1; waited = 2; created = 2 }))
    (0 ▸ Begin ⇒ Begun 0
    ∷ 0 ▸ Try 0 ⇒ Waiting (grant 1 at 0)
    ∷ 0 ▸ Claim ⇒ Claimed (Some 0)
    ∷ 0 ▸ opens 0 ⇒ Entered 0 (Some 0)
    ∷ 0 ▸ Try 0 ⇒ Served 0 (grant 0 at 1)
    ∷ 0 ▸ returns 0 ⇒ Kept 0 None
    ∷ 0 ▸ Begin ⇒ Begun 1
    ∷ 0 ▸ Try 1 ⇒ Served 0 (grant 0 at 1)
    ∷ 0 ▸ Begin ⇒ Begun 2
    ∷ 0 ▸ Try 2 ⇒ Waiting (grant 1 at 1)
    ∷ 0 ▸ Claim ⇒ Claimed (Some 1)
    ∷ 0 ▸ opens 1 ⇒ Entered 1 (Some 2)
    ∷ 0 ▸ Try 2 ⇒ Served 1 (grant 0 at 2)
    ∷ [])
    -- check_failed: a check fails, and the connection is broken: it counts as invalid and as broken
    ∷ row default_settings 0 0 (shows 0 0 (record no_counts { started = 1; broken = 1; invalid = 1 }))
    (0 ▸ adds 0 ⇒ Added 0 None
    ∷ 0 ▸ Begin ⇒ Begun 0
    ∷ 0 ▸ Try 0 ⇒ Taken 0 (grant 0 at 1)
    ∷ 0 ▸ CheckedErr 0 true ⇒ Closed 0 (grant 0 at 1) None
    ∷ [])
    -- none_left_valid: both connections fail the check of a third get, which waits and times out (upstream's test_now_invalid)
    ∷ row (record default_settings { max_size = 2; min_idle = Some 2; connection_timeout = 1_000_000_000 }) 0 0
    (shows 0 0 (record no_counts { started = 3; direct = 2; timed_out = 1; wait_time = 1_000_000_000; created = 2; invalid = 2 }))
    (0 ▸ Fill false ⇒ Granted (grant 2 at 0)
    ∷ 0 ▸ Claim ⇒ Claimed (Some 0)
    ∷ 0 ▸ Claim ⇒ Claimed (Some 1)
    ∷ 0 ▸ opens 0 ⇒ Entered 0 None
    ∷ 0 ▸ opens 1 ⇒ Entered 1 None
    ∷ 0 ▸ Begin ⇒ Begun 0
    ∷ 0 ▸ Try 0 ⇒ Taken 0 (grant 0 at 2)
    ∷ 0 ▸ CheckedOk 0 ⇒ Served 0 (grant 0 at 2)
    ∷ 0 ▸ Begin ⇒ Begun 1
    ∷ 0 ▸ Try 1 ⇒ Taken 1 (grant 0 at 2)
    ∷ 0 ▸ CheckedOk 1 ⇒ Served 1 (grant 0 at 2)
    ∷ 0 ▸ returns 0 ⇒ Kept 0 None
    ∷ 0 ▸ returns 1 ⇒ Kept 1 None
    ∷ 4_000_000_000 ▸ Begin ⇒ Begun 2
    ∷ 4_000_000_000 ▸ Try 2 ⇒ Taken 0 (grant 0 at 2)
    ∷ 4_000_000_000 ▸ CheckedErr 2 false ⇒ Closed 0 (grant 1 at 2) None
    ∷ 4_000_000_000 ▸ Try 2 ⇒ Taken 1 (grant 0 at 3)
    ∷ 4_000_000_000 ▸ CheckedErr 2 false ⇒ Closed 1 (grant 1 at 3) None
    ∷ 4_000_000_000 ▸ Try 2 ⇒ Waiting (grant 0 at 4)
    ∷ 5_000_000_000 ▸ GiveUp 2 TimedOut None false ⇒ GaveUp None
    ∷ [])
    -- cancelled_in_check: a get is cancelled while it checks, and the waiter takes its connection; that one is cancelled with a broken one
    ∷ row (record default_settings { max_size = 1 }) 0 0 (shows 0 0 (record no_counts { started = 2; cancelled = 2; broken = 1 }))
    (0 ▸ adds 0 ⇒ Added 0 None
    ∷ 0 ▸ Begin ⇒ Begun 0
    ∷ 0 ▸ Try 0 ⇒ Taken 0 (grant 0 at 1)
    ∷ 0 ▸ Begin ⇒ Begun 1
    ∷ 0 ▸ Try 1 ⇒ Waiting (grant 0 at 1)
    ∷ 0 ▸ GiveUp 0 Cancelled (Some 0) false ⇒ Kept 0 (Some 1)
    ∷ 0 ▸ Try 1 ⇒ Taken 0 (grant 0 at 1)
    ∷ 0 ▸ GiveUp 1 Cancelled (Some 0) true ⇒ Closed 0 (grant 0 at 1) None
    ∷ [])
    -- given_back: a failed attempt frees a slot and notifies nobody
    ∷ row (unchecked 1) 0 0 (shows 1 1 (record no_counts { started = 1 }))
    (0 ▸ Begin ⇒ Begun 0
    ∷ 0 ▸ Try 0 ⇒ Waiting (grant 1 at 0)
    ∷ 0 ▸ Failed 0 ⇒ Unfit
    ∷ 0 ▸ Claim ⇒ Claimed (Some 0)
    ∷ 0 ▸ Failed 0 ⇒ GivenBack
    ∷ 0 ▸ Failed 0 ⇒ Unfit
    ∷ 0 ▸ opens 0 ⇒ Unfit
    ∷ 0 ▸ adds 1 ⇒ Added 1 (Some 0)
    ∷ [])
    -- last_handle_left: the last handle goes: ten idle connections end, the eleventh comes too late, and a reap ends as a claim does
    ∷ row (record default_settings { max_size = 11; min_idle = Some 11 }) 0 0 (shows 0 0 (record no_counts { created = 10 }))
    (0 ▸ Fill false ⇒ Granted (grant 11 at 0)
    ∷ 0 ▸ Claim ⇒ Claimed (Some 0)
    ∷ 0 ▸ Claim ⇒ Claimed (Some 1)
    ∷ 0 ▸ Claim ⇒ Claimed (Some 2)
    ∷ 0 ▸ Claim ⇒ Claimed (Some 3)
    ∷ 0 ▸ Claim ⇒ Claimed (Some 4)
    ∷ 0 ▸ Claim ⇒ Claimed (Some 5)
    ∷ 0 ▸ Claim ⇒ Claimed (Some 6)
    ∷ 0 ▸ Claim ⇒ Claimed (Some 7)
    ∷ 0 ▸ Claim ⇒ Claimed (Some 8)
    ∷ 0 ▸ Claim ⇒ Claimed (Some 9)
    ∷ 0 ▸ Claim ⇒ Claimed (Some 10)
    ∷ 0 ▸ opens 0 ⇒ Entered 0 None
    ∷ 0 ▸ opens 1 ⇒ Entered 1 None
    ∷ 0 ▸ opens 2 ⇒ Entered 2 None
    ∷ 0 ▸ opens 3 ⇒ Entered 3 None
    ∷ 0 ▸ opens 4 ⇒ Entered 4 None
    ∷ 0 ▸ opens 5 ⇒ Entered 5 None
    ∷ 0 ▸ opens 6 ⇒ Entered 6 None
    ∷ 0 ▸ opens 7 ⇒ Entered 7 None
    ∷ 0 ▸ opens 8 ⇒ Entered 8 None
    ∷ 0 ▸ opens 9 ⇒ Entered 9 None
    ∷ 0 ▸ Leave ⇒ Left 10
    ∷ 0 ▸ opens 10 ⇒ Late 10
    ∷ 0 ▸ Reap ⇒ Ended
    ∷ 0 ▸ Claim ⇒ Ended
    ∷ 0 ▸ Begin ⇒ Unfit
    ∷ [])
    -- returned_after_last_handle: both handles are dropped while a connection is out: it is closed when it is returned and counts nowhere, and no handle joins
    ∷ row (unchecked 1) 0 0 (shows 0 0 (record no_counts { started = 1; direct = 1 }))
    (0 ▸ adds 0 ⇒ Added 0 None
    ∷ 0 ▸ Join ⇒ Joined
    ∷ 0 ▸ Begin ⇒ Begun 0
    ∷ 0 ▸ Try 0 ⇒ Served 0 (grant 0 at 1)
    ∷ 0 ▸ Leave ⇒ Left 0
    ∷ 0 ▸ Leave ⇒ Left 0
    ∷ 0 ▸ returns 0 ⇒ Closed 0 (grant 0 at 1) None
    ∷ 0 ▸ Join ⇒ Unfit
    ∷ [])
    -- reaped_at_the_limit: both limits are one second: a reap closes nothing before, the connection at the second, and nothing twice (upstream's test_conn_is_expired)
    ∷ row (record default_settings { max_size = 1; max_lifetime = Some 1_000_000_000; idle_timeout = Some 1_000_000_000 }) 0 0 (shows 0 0 (record no_counts { max_lifetime = 1 }))
    (0 ▸ adds 0 ⇒ Added 0 None
    ∷ 999_999_999 ▸ Reap ⇒ Reaped 0 0 0 (grant 0 at 1)
    ∷ 1_000_000_000 ▸ Reap ⇒ Reaped 1 0 1 (grant 0 at 1)
    ∷ 1_000_000_000 ▸ Reap ⇒ Reaped 0 0 0 (grant 0 at 1)
    ∷ [])
    -- moment_goes_back: a moment goes back: the return counts as one at ten seconds
    ∷ row (record (unchecked 1) { max_lifetime = None; idle_timeout = Some 1_000_000_000 }) 0 0 (shows 0 0 (record no_counts { started = 1; direct = 1; idle_timeout = 1 }))
    (10_000_000_000 ▸ adds 0 ⇒ Added 0 None
    ∷ 10_000_000_000 ▸ Begin ⇒ Begun 0
    ∷ 10_000_000_000 ▸ Try 0 ⇒ Served 0 (grant 0 at 1)
    ∷ 7_000_000_000 ▸ returns 0 ⇒ Kept 0 None
    ∷ 10_999_999_999 ▸ Reap ⇒ Reaped 0 0 0 (grant 0 at 1)
    ∷ 11_000_000_000 ▸ Reap ⇒ Reaped 1 1 0 (grant 0 at 1)
    ∷ [])
    -- idled_out: no more are idle than min_idle: a reap closes none, though each is idle for the limit (where upstream's test_idle_timeout sees them drop)
    ∷ row (record (unchecked 5) { min_idle = Some 5; max_lifetime = None; idle_timeout = Some 1_000_000_000 }) 0 0 (shows 5 5 (record no_counts { started = 1; direct = 1; created = 5 }))
    (0 ▸ Fill false ⇒ Granted (grant 5 at 0)
    ∷ 0 ▸ Claim ⇒ Claimed (Some 0)
    ∷ 0 ▸ Claim ⇒ Claimed (Some 1)
    ∷ 0 ▸ Claim ⇒ Claimed (Some 2)
    ∷ 0 ▸ Claim ⇒ Claimed (Some 3)
    ∷ 0 ▸ Claim ⇒ Claimed (Some 4)
    ∷ 0 ▸ opens 0 ⇒ Entered 0 None
    ∷ 0 ▸ opens 1 ⇒ Entered 1 None
    ∷ 0 ▸ opens 2 ⇒ Entered 2 None
    ∷ 0 ▸ opens 3 ⇒ Entered 3 None
    ∷ 0 ▸ opens 4 ⇒ Entered 4 None
    ∷ 0 ▸ Begin ⇒ Begun 0
    ∷ 0 ▸ Try 0 ⇒ Served 0 (grant 0 at 5)
    ∷ 1_000_000_000 ▸ Reap ⇒ Reaped 0 0 0 (grant 0 at 5)
    ∷ 1_000_000_000 ▸ Claim ⇒ Claimed None
    ∷ 2_400_000_000 ▸ returns 0 ⇒ Kept 0 None
    ∷ 3_400_000_000 ▸ Reap ⇒ Reaped 0 0 0 (grant 0 at 5)
    ∷ [])
    -- spared_oldest: five are idle for the limit: a reap closes those beyond min_idle, the one that entered first before the others
    ∷ row (record (unchecked 5) { min_idle = Some 2; max_lifetime = None; idle_timeout = Some 1_000_000_000 }) 0 0 (shows 2 1 (record no_counts { started = 1; direct = 1; idle_timeout = 3 }))
    (0 ▸ adds 0 ⇒ Added 0 None
    ∷ 0 ▸ adds 1 ⇒ Added 1 None
    ∷ 0 ▸ adds 2 ⇒ Added 2 None
    ∷ 0 ▸ adds 3 ⇒ Added 3 None
    ∷ 0 ▸ adds 4 ⇒ Added 4 None
    ∷ 1_000_000_000 ▸ Reap ⇒ Reaped 3 3 0 (grant 0 at 5)
    ∷ 1_000_000_000 ▸ Begin ⇒ Begun 0
    ∷ 1_000_000_000 ▸ Try 0 ⇒ Served 3 (grant 1 at 5)
    ∷ [])
    -- spared_newest: the same of a pool that serves the newest: the newer of the two that are left goes out
    ∷ row (record (unchecked 5) { min_idle = Some 2; max_lifetime = None; idle_timeout = Some 1_000_000_000; queue_strategy = Lifo }) 0 0
    (shows 2 1 (record no_counts { started = 1; direct = 1; idle_timeout = 3 }))
    (0 ▸ adds 0 ⇒ Added 0 None
    ∷ 0 ▸ adds 1 ⇒ Added 1 None
    ∷ 0 ▸ adds 2 ⇒ Added 2 None
    ∷ 0 ▸ adds 3 ⇒ Added 3 None
    ∷ 0 ▸ adds 4 ⇒ Added 4 None
    ∷ 1_000_000_000 ▸ Reap ⇒ Reaped 3 3 0 (grant 0 at 5)
    ∷ 1_000_000_000 ▸ Begin ⇒ Begun 0
    ∷ 1_000_000_000 ▸ Try 0 ⇒ Served 4 (grant 1 at 5)
    ∷ [])
    -- spared_after_expired: one lives too long and three are idle too long: a reap closes the one, and then one of the three
    ∷ row (record default_settings { max_size = 4; min_idle = Some 2; max_lifetime = Some 2_000_000_000; idle_timeout = Some 1_000_000_000 }) 0 0
    (shows 2 2 (record no_counts { max_lifetime = 1; idle_timeout = 1 }))
    (0 ▸ adds 0 ⇒ Added 0 None
    ∷ 1_000_000_000 ▸ adds 1 ⇒ Added 1 None
    ∷ 1_000_000_000 ▸ adds 2 ⇒ Added 2 None
    ∷ 1_000_000_000 ▸ adds 3 ⇒ Added 3 None
    ∷ 2_000_000_000 ▸ Reap ⇒ Reaped 2 1 1 (grant 0 at 4)
    ∷ 2_000_000_000 ▸ Reap ⇒ Reaped 0 0 0 (grant 0 at 4)
    ∷ [])
    -- expired_not_spared: both live too long: min_idle spares none of them
    ∷ row (record default_settings { max_size = 2; min_idle = Some 2; max_lifetime = Some 1_000_000_000; idle_timeout = Some 1_000_000_000 }) 0 0
    (shows 0 0 (record no_counts { max_lifetime = 2 }))
    (0 ▸ adds 0 ⇒ Added 0 None
    ∷ 0 ▸ adds 1 ⇒ Added 1 None
    ∷ 1_000_000_000 ▸ Reap ⇒ Reaped 2 0 2 (grant 2 at 2)
    ∷ [])
    -- checked_after_a_second: a connection idle for less than `test_after`, one second, goes out unchecked, and at the second it is checked
    ∷ row (record default_settings { max_size = 1; test_after = 1_000_000_000 }) 0 0 (shows 1 0 (record no_counts { started = 2; direct = 2 }))
    (0 ▸ adds 0 ⇒ Added 0 None
    ∷ 0 ▸ Begin ⇒ Begun 0
    ∷ 999_999_999 ▸ Try 0 ⇒ Served 0 (grant 0 at 1)
    ∷ 2_000_000_000 ▸ returns 0 ⇒ Kept 0 None
    ∷ 2_000_000_000 ▸ Begin ⇒ Begun 1
    ∷ 3_000_000_000 ▸ Try 1 ⇒ Taken 0 (grant 0 at 1)
    ∷ 3_000_000_000 ▸ CheckedOk 1 ⇒ Served 0 (grant 0 at 1)
    ∷ [])
    -- doubted_in_check: a get gives up in mid check: with `test_after` its connection counts as broken and is closed
    ∷ row (record default_settings { max_size = 1; test_after = 1 }) 0 0 (shows 0 0 (record no_counts { started = 2; timed_out = 1; broken = 1 }))
    (0 ▸ adds 0 ⇒ Added 0 None
    ∷ 0 ▸ Begin ⇒ Begun 0
    ∷ 1 ▸ Try 0 ⇒ Taken 0 (grant 0 at 1)
    ∷ 1 ▸ Begin ⇒ Begun 1
    ∷ 1 ▸ Try 1 ⇒ Waiting (grant 0 at 1)
    ∷ 2 ▸ GiveUp 0 TimedOut (Some 0) false ⇒ Closed 0 (grant 0 at 1) (Some 1)
    ∷ 2 ▸ Try 1 ⇒ Waiting (grant 1 at 1)
    ∷ [])
    -- fresh_since_its_entry: idleness counts from the latest entry, by effective moments
    ∷ row (record default_settings { max_size = 1; test_after = 10 }) 0 0 (shows 1 0 (record no_counts { started = 3; direct = 2; waited = 1; created = 1 }))
    (0 ▸ Begin ⇒ Begun 0
    ∷ 0 ▸ Try 0 ⇒ Waiting (grant 1 at 0)
    ∷ 0 ▸ Claim ⇒ Claimed (Some 0)
    ∷ 100 ▸ opens 0 ⇒ Entered 0 (Some 0)
    ∷ 109 ▸ Try 0 ⇒ Served 0 (grant 0 at 1)
    ∷ 200 ▸ returns 0 ⇒ Kept 0 None
    ∷ 200 ▸ Begin ⇒ Begun 1
    ∷ 0 ▸ Try 1 ⇒ Served 0 (grant 0 at 1)
    ∷ 150 ▸ returns 0 ⇒ Kept 0 None
    ∷ 210 ▸ Begin ⇒ Begun 2
    ∷ 210 ▸ Try 2 ⇒ Taken 0 (grant 0 at 1)
    ∷ 210 ▸ CheckedOk 2 ⇒ Served 0 (grant 0 at 1)
    ∷ [])
    -- retired_at_one: at 1 all are retired: the idle one closes at once, the one that is out when it is returned, and one that is born later stays
    ∷ row (unchecked 2) 0 0 (shows 1 1 (record no_counts { started = 1; direct = 1; retired = 2 }))
    (0 ▸ adds 0 ⇒ Added 0 None
    ∷ 0 ▸ adds 1 ⇒ Added 1 None
    ∷ 0 ▸ Begin ⇒ Begun 0
    ∷ 0 ▸ Try 0 ⇒ Served 0 (grant 0 at 2)
    ∷ 1 ▸ Retire ⇒ Reaped 1 0 0 (grant 0 at 2)
    ∷ 2 ▸ adds 2 ⇒ Added 2 None
    ∷ 3 ▸ returns 0 ⇒ Closed 0 (grant 0 at 3) None
    ∷ 4 ▸ Reap ⇒ Reaped 0 0 0 (grant 0 at 3)
    ∷ [])
    -- retired_while_opening: an attempt is in progress at a retire: its connection comes too late, and the waiter is served with a new one
    ∷ row (record (unchecked 2) { min_idle = Some 1 }) 0 0 (shows 1 1 (record no_counts { started = 1; waited = 1; created = 1 }))
    (0 ▸ Fill true ⇒ Granted (grant 1 at 0)
    ∷ 1 ▸ Retire ⇒ Reaped 0 0 0 (grant 0 at 1)
    ∷ 2 ▸ Begin ⇒ Begun 0
    ∷ 2 ▸ Try 0 ⇒ Waiting (grant 0 at 1)
    ∷ 3 ▸ opens 0 ⇒ Late 0
    ∷ 3 ▸ Ask ⇒ Granted (grant 1 at 1)
    ∷ 3 ▸ Fill false ⇒ Granted (grant 0 at 2)
    ∷ 3 ▸ Claim ⇒ Claimed (Some 1)
    ∷ 4 ▸ opens 1 ⇒ Entered 1 (Some 0)
    ∷ 4 ▸ Try 0 ⇒ Served 1 (grant 1 at 2)
    ∷ 5 ▸ returns 1 ⇒ Kept 1 None
    ∷ [])
    -- retired_and_made_good: `min_idle` spares nothing at a retire and is restored, and the new connections are not retired
    ∷ row (record (unchecked 3) { min_idle = Some 2 }) 0 0 (shows 1 1 (record no_counts { started = 1; direct = 1; created = 1; retired = 2 }))
    (0 ▸ adds 0 ⇒ Added 0 None
    ∷ 0 ▸ adds 1 ⇒ Added 1 None
    ∷ 7 ▸ Retire ⇒ Reaped 2 0 0 (grant 2 at 2)
    ∷ 7 ▸ Claim ⇒ Claimed (Some 2)
    ∷ 7 ▸ opens 2 ⇒ Entered 2 None
    ∷ 7 ▸ Begin ⇒ Begun 0
    ∷ 7 ▸ Try 0 ⇒ Served 2 (grant 1 at 4)
    ∷ 8 ▸ returns 2 ⇒ Kept 2 None
    ∷ [])
    -- detached_once: a guard leaves with its connection for good: the oldest waiter is notified and asks for another; it leaves once, and counts as closed nowhere
    ∷ row (record (unchecked 1) { max_lifetime = Some 1 }) 0 0 (shows 0 0 (record no_counts { started = 2; direct = 1; detached = 1 }))
    (0 ▸ adds 0 ⇒ Added 0 None
    ∷ 0 ▸ Begin ⇒ Begun 0
    ∷ 0 ▸ Try 0 ⇒ Served 0 (grant 0 at 1)
    ∷ 0 ▸ Begin ⇒ Begun 1
    ∷ 0 ▸ Try 1 ⇒ Waiting (grant 0 at 1)
    ∷ 0 ▸ Detach 0 ⇒ Closed 0 (grant 0 at 1) (Some 1)
    ∷ 0 ▸ Detach 0 ⇒ Unfit
    ∷ 0 ▸ returns 0 ⇒ Unfit
    ∷ 0 ▸ Try 1 ⇒ Waiting (grant 1 at 1)
    ∷ [])
    -- detached_and_made_good: two guards leave past the lifetime: `min_idle` is restored each time, and the oldest of two waiters is notified
    ∷ row (record (unchecked 2) { min_idle = Some 1; max_lifetime = Some 1 }) 0 0 (shows 1 0 (record no_counts { started = 4; direct = 2; waited = 1; created = 1; detached = 2 }))
    (0 ▸ adds 0 ⇒ Added 0 None
    ∷ 0 ▸ adds 1 ⇒ Added 1 None
    ∷ 0 ▸ Begin ⇒ Begun 0
    ∷ 0 ▸ Try 0 ⇒ Served 0 (grant 0 at 2)
    ∷ 0 ▸ Begin ⇒ Begun 1
    ∷ 0 ▸ Try 1 ⇒ Served 1 (grant 0 at 2)
    ∷ 0 ▸ Begin ⇒ Begun 2
    ∷ 0 ▸ Try 2 ⇒ Waiting (grant 0 at 2)
    ∷ 0 ▸ Begin ⇒ Begun 3
    ∷ 0 ▸ Try 3 ⇒ Waiting (grant 0 at 2)
    ∷ 5 ▸ Detach 1 ⇒ Closed 1 (grant 1 at 2) (Some 2)
    ∷ 5 ▸ Try 2 ⇒ Waiting (grant 0 at 3)
    ∷ 5 ▸ Claim ⇒ Claimed (Some 2)
    ∷ 5 ▸ opens 2 ⇒ Entered 2 (Some 3)
    ∷ 5 ▸ Try 3 ⇒ Served 2 (grant 0 at 3)
    ∷ 5 ▸ Detach 0 ⇒ Closed 0 (grant 1 at 3) (Some 2)
    ∷ [])
    -- evicted_and_made_good: idle connections past the lifetime are evicted by their numbers: they leave the queue, `min_idle` is restored, and they count as detached
    ∷ row (record (unchecked 3) { min_idle = Some 2; max_lifetime = Some 1 }) 0 0 (shows 2 1 (record no_counts { started = 1; direct = 1; created = 1; detached = 2 }))
    (0 ▸ adds 0 ⇒ Added 0 None
    ∷ 0 ▸ adds 1 ⇒ Added 1 None
    ∷ 0 ▸ adds 2 ⇒ Added 2 None
    ∷ 5 ▸ Evict 1 ⇒ Closed 1 (grant 0 at 3) None
    ∷ 5 ▸ Evict 1 ⇒ Unfit
    ∷ 5 ▸ Evict 0 ⇒ Closed 0 (grant 1 at 3) None
    ∷ 5 ▸ Evict 3 ⇒ Unfit
    ∷ 5 ▸ Claim ⇒ Claimed (Some 3)
    ∷ 5 ▸ Evict 3 ⇒ Unfit
    ∷ 5 ▸ opens 3 ⇒ Entered 3 None
    ∷ 5 ▸ Begin ⇒ Begun 0
    ∷ 5 ▸ Try 0 ⇒ Served 2 (grant 1 at 4)
    ∷ [])
    -- evicted_from_waiter: an idle connection is evicted before the notified waiter takes it: the next waiter is notified, too
    ∷ row (unchecked 1) 0 0 (shows 0 0 (record no_counts { started = 3; direct = 1; detached = 1 }))
    (0 ▸ adds 0 ⇒ Added 0 None
    ∷ 0 ▸ Begin ⇒ Begun 0
    ∷ 0 ▸ Try 0 ⇒ Served 0 (grant 0 at 1)
    ∷ 0 ▸ Evict 0 ⇒ Unfit
    ∷ 0 ▸ Begin ⇒ Begun 1
    ∷ 0 ▸ Try 1 ⇒ Waiting (grant 0 at 1)
    ∷ 0 ▸ Begin ⇒ Begun 2
    ∷ 0 ▸ Try 2 ⇒ Waiting (grant 0 at 1)
    ∷ 0 ▸ returns 0 ⇒ Kept 0 (Some 1)
    ∷ 0 ▸ Evict 0 ⇒ Closed 0 (grant 0 at 1) (Some 2)
    ∷ 0 ▸ Try 1 ⇒ Waiting (grant 1 at 1)
    ∷ 0 ▸ Try 2 ⇒ Waiting (grant 0 at 2)
    ∷ [])
    ∷ asked_anew
    ∷ asked_for_notified
    -- asked_up_to_the_size: three wait for two slots: an ask grants no more than there are slots
    ∷ row (unchecked 2) 0 0 (shows 1 1 (record no_counts { started = 3; created = 1 }))
    (0 ▸ Begin ⇒ Begun 0
    ∷ 0 ▸ Try 0 ⇒ Waiting (grant 1 at 0)
    ∷ 0 ▸ Begin ⇒ Begun 1
    ∷ 0 ▸ Try 1 ⇒ Waiting (grant 1 at 1)
    ∷ 0 ▸ Begin ⇒ Begun 2
    ∷ 0 ▸ Try 2 ⇒ Waiting (grant 0 at 2)
    ∷ 0 ▸ Claim ⇒ Claimed (Some 0)
    ∷ 0 ▸ Claim ⇒ Claimed (Some 1)
    ∷ 0 ▸ Ask ⇒ Granted (grant 0 at 2)
    ∷ 0 ▸ Failed 0 ⇒ GivenBack
    ∷ 0 ▸ Failed 1 ⇒ GivenBack
    ∷ 0 ▸ Ask ⇒ Granted (grant 2 at 2)
    ∷ 0 ▸ Ask ⇒ Granted (grant 0 at 4)
    ∷ 0 ▸ Claim ⇒ Claimed (Some 2)
    ∷ 0 ▸ opens 2 ⇒ Entered 2 (Some 0)
    ∷ 0 ▸ Ask ⇒ Granted (grant 0 at 4)
    ∷ [])
    -- shut_once: two handles, one connection out, one idle, one approval: a close ends the last two and leaves no handle; the waiter gives up, and the returned connection is closed
    ∷ row (unchecked 3) 0 0 (shows 0 0 (record no_counts { started = 2; direct = 1; cancelled = 1 }))
    (0 ▸ Join ⇒ Joined
    ∷ 0 ▸ adds 0 ⇒ Added 0 None
    ∷ 0 ▸ Begin ⇒ Begun 0
    ∷ 0 ▸ Try 0 ⇒ Served 0 (grant 0 at 1)
    ∷ 0 ▸ Begin ⇒ Begun 1
    ∷ 0 ▸ Try 1 ⇒ Waiting (grant 1 at 1)
    ∷ 0 ▸ adds 2 ⇒ Added 2 (Some 1)
    ∷ 0 ▸ Close ⇒ Left 1
    ∷ 0 ▸ Close ⇒ Unfit
    ∷ 0 ▸ Join ⇒ Unfit
    ∷ 0 ▸ Begin ⇒ Unfit
    ∷ 0 ▸ Claim ⇒ Ended
    ∷ 0 ▸ Reap ⇒ Ended
    ∷ 0 ▸ Try 1 ⇒ Waiting (grant 0 at 3)
    ∷ 0 ▸ Ask ⇒ Granted (grant 0 at 3)
    ∷ 0 ▸ returns 0 ⇒ Closed 0 (grant 0 at 3) (Some 1)
    ∷ 0 ▸ GiveUp 1 Cancelled None false ⇒ GaveUp None
    ∷ [])
    -- shut_with_waiters: a pool is closed while three gets wait: each is given up, and the notified one hands its notification on
    ∷ row (unchecked 1) 0 0 (shows 0 0 (record no_counts { started = 4; direct = 1; timed_out = 2; cancelled = 1; wait_time = 10_000 }))
    (0 ▸ adds 0 ⇒ Added 0 None
    ∷ 0 ▸ Begin ⇒ Begun 0
    ∷ 0 ▸ Try 0 ⇒ Served 0 (grant 0 at 1)
    ∷ 0 ▸ Begin ⇒ Begun 1
    ∷ 0 ▸ Try 1 ⇒ Waiting (grant 0 at 1)
    ∷ 0 ▸ Begin ⇒ Begun 2
    ∷ 0 ▸ Try 2 ⇒ Waiting (grant 0 at 1)
    ∷ 0 ▸ Begin ⇒ Begun 3
    ∷ 0 ▸ Try 3 ⇒ Waiting (grant 0 at 1)
    ∷ 0 ▸ returns 0 ⇒ Kept 0 (Some 1)
    ∷ 0 ▸ Close ⇒ Left 1
    ∷ 5_000 ▸ GiveUp 1 TimedOut None false ⇒ GaveUp (Some 2)
    ∷ 5_000 ▸ GiveUp 3 Cancelled None false ⇒ GaveUp None
    ∷ 5_000 ▸ GiveUp 2 TimedOut None false ⇒ GaveUp None
    ∷ 5_000 ▸ GiveUp 2 TimedOut None false ⇒ Unfit
    ∷ 5_000 ▸ Retire ⇒ Ended
    ∷ [])
    -- get_numbers_used_up: one get takes the last number that is left, and the next one finds none
    ∷ row default_settings 0 18_446_744_073_709_551_614 (shows 0 0 (record no_counts { started = 1 }))
    (0 ▸ Begin ⇒ Begun 18_446_744_073_709_551_614
    ∷ 0 ▸ Begin ⇒ Exhausted
    ∷ [])
    -- numbers_used_up: the approvals that are wanted take the last two numbers: one more is withheld, and so is an adding, but a broken connection is called broken
    ∷ row (record default_settings { max_size = 5; min_idle = Some 3 }) 18_446_744_073_709_551_613 0 (shows 0 0 no_counts)
    (0 ▸ Fill false ⇒ Granted (record { first = 18_446_744_073_709_551_613; count = 2; withheld = 1 })
    ∷ 0 ▸ adds 18_446_744_073_709_551_615 ⇒ Withheld
    ∷ 0 ▸ Add 18_446_744_073_709_551_615 true ⇒ Broken
    ∷ 0 ▸ Fill false ⇒ Granted (record { first = 18_446_744_073_709_551_615; count = 0; withheld = 1 })
    ∷ [])
    -- third_place_refused: memory for the third place is refused: what is wanted is withheld, and granted at the next ask
    ∷ row (record (unchecked 5) { min_idle = Some 2 }) 0 0 (shows 2 0 (record no_counts { started = 2; direct = 2; created = 2 }))
    (0 ▸ Fill false ⇒ Granted (grant 2 at 0)
    ∷ 0 ▸ Claim ⇒ Claimed (Some 0)
    ∷ 0 ▸ Claim ⇒ Claimed (Some 1)
    ∷ 0 ▸ opens 0 ⇒ Entered 0 None
    ∷ 0 ▸ opens 1 ⇒ Entered 1 None
    ∷ 0 ▸ Begin ⇒ Begun 0
    ∷ 0 ▸ Try 0 ⇒ Served 0 (record { first = 2; count = 0; withheld = 1 })
    ∷ 0 ▸ Begin ⇒ Begun 1
    ∷ 0 ▸ Try 1 ⇒ Served 1 (grant 2 at 2)
    ∷ [])
    -- third_adding_withheld: there were two connections once: a second one needs no memory, but a third one does, which is added at the next ask
    ∷ row (unchecked 3) 0 0 (shows 3 3 (record no_counts { started = 1; direct = 1; broken = 1 }))
    (0 ▸ adds 0 ⇒ Added 0 None
    ∷ 0 ▸ adds 1 ⇒ Added 1 None
    ∷ 0 ▸ Begin ⇒ Begun 0
    ∷ 0 ▸ Try 0 ⇒ Served 0 (grant 0 at 2)
    ∷ 0 ▸ PutBack 0 0 true ⇒ Closed 0 (grant 0 at 2) None
    ∷ 0 ▸ adds 2 ⇒ Added 2 None
    ∷ 0 ▸ adds 3 ⇒ Withheld
    ∷ 0 ▸ adds 3 ⇒ Added 3 None
    ∷ [])
    -- first_script: the first script: three gets are served while two connections are kept idle, and all return (upstream's test_min_idle)
    ∷ row (record (unchecked 5) { min_idle = Some 2 }) 0 0 (shows 5 5 (record no_counts { started = 3; direct = 3; created = 5 }))
    (0 ▸ Fill false ⇒ Granted (grant 2 at 0)
    ∷ 0 ▸ Claim ⇒ Claimed (Some 0)
    ∷ 0 ▸ Claim ⇒ Claimed (Some 1)
    ∷ 0 ▸ opens 0 ⇒ Entered 0 None
    ∷ 0 ▸ opens 1 ⇒ Entered 1 None
    ∷ 0 ▸ Begin ⇒ Begun 0
    ∷ 0 ▸ Try 0 ⇒ Served 0 (grant 1 at 2)
    ∷ 0 ▸ Claim ⇒ Claimed (Some 2)
    ∷ 0 ▸ opens 2 ⇒ Entered 2 None
    ∷ 0 ▸ Begin ⇒ Begun 1
    ∷ 0 ▸ Try 1 ⇒ Served 1 (grant 1 at 3)
    ∷ 0 ▸ Claim ⇒ Claimed (Some 3)
    ∷ 0 ▸ opens 3 ⇒ Entered 3 None
    ∷ 0 ▸ Begin ⇒ Begun 2
    ∷ 0 ▸ Try 2 ⇒ Served 2 (grant 1 at 4)
    ∷ 0 ▸ Claim ⇒ Claimed (Some 4)
    ∷ 0 ▸ opens 4 ⇒ Entered 4 None
    ∷ 0 ▸ returns 0 ⇒ Kept 0 None
    ∷ 0 ▸ returns 1 ⇒ Kept 1 None
    ∷ 0 ▸ returns 2 ⇒ Kept 2 None
    ∷ [])
    ∷ []
