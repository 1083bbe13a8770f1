-- Views are the same that are the same field by field.
use Rattle.bb8_tables.proofs.Words.{◌≡◌, Result, OnErr, RecordsView, GetsView, arith, nat_tests}

pub same_records : {C : Type 0} (s t : RecordsView C) → s.next ≡ t.next → s.places ≡ t.places → s.idle ≡ t.idle → s.unclaimed ≡ t.unclaimed
    → s.conns ≡ t.conns → s.approved ≡ t.approved → s.peak ≡ t.peak → s ≡ t
same_records s t next places idle unclaimed conns approved peak = grind (arith, nat_tests)

pub same_gets : (s t : GetsView) → s.next ≡ t.next → s.places ≡ t.places → s.waiting ≡ t.waiting → s.alive ≡ t.alive → s.peak ≡ t.peak → s ≡ t
same_gets s t next places waiting alive peak = λ i. record { next = next i; places = places i; waiting = waiting i; alive = alive i; peak = peak i }

-- what holds holds where a step failed
pub on_err : {T E P : Type 0} (r : Result T E) → P → OnErr r P
on_err r p = grind (arith, nat_tests)
