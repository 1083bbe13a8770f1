use Rattle.bb8_tables.proofs.Words.{◌++◌, ◌∷◌, [], List, arith, refl, ap, ◌∙◌, Slot, Ordered, end_of_numbers}
use Rattle.bb8_tables.proofs.Tables
use Rattle.bb8_tables.proofs.table.Table.add_place.Goals as goal

pub push_reserved-requires-then-place-gt0 : goal.push_reserved-requires-then-place-gt0
push_reserved-requires-then-place-gt0 g c = omega (
  arith,
  Tables.added_room c.self.inside c.self.invariant,
  c.in_ok-reserve.ensures.ok,
  c.in_ok-reserve.ensures.len,
  c.saturating_sub.ensures,
  c.len.ensures,
  c.len-place.ensures,
)

pub invariant_of-self-then-place-gt0 : goal.invariant_of-self-then-place-gt0
invariant_of-self-then-place-gt0 g c = Tables.added_good c.self.inside c.self.invariant _ (record { number = end_of_numbers; standing = c.vacant.result }) refl
    (c.push_reserved.ensures.items ∙ ap (λ (xs : List (Slot g.row.S.Denot)). xs ++ record { number = end_of_numbers; standing = c.vacant.result } ∷ []) c.in_ok-reserve-2.ensures.items)
    (omega (arith, c.push_reserved.ensures.len, c.in_ok-reserve-2.ensures.len))
    (ap (λ (l : Ordered). l.size) c.in_ok-add_place.ensures.ok) (ap (λ (l : Ordered). l.size) c.in_ok-add_place-2.ensures.ok) c.in_ok-add_place.ensures.few
    (omega (arith, c.push_reserved-then-place-gt0.ensures.capacity, c.in_ok-reserve.ensures.ok, c.in_ok-reserve.ensures.len, c.saturating_sub.ensures, c.len.ensures, c.len-place.ensures))
    (rw (c.push_reserved-then-place-gt0.ensures.items, c.in_ok-reserve.ensures.items) (Tables.added_places c.self.inside c.self.invariant _ c.len-place.ensures c.if-place-gt0.true))

pub invariant_of-self-else-place-gt0 : goal.invariant_of-self-else-place-gt0
invariant_of-self-else-place-gt0 g c = Tables.added_good c.self.inside c.self.invariant _ (record { number = end_of_numbers; standing = c.vacant.result }) refl
    (c.push_reserved.ensures.items ∙ ap (λ (xs : List (Slot g.row.S.Denot)). xs ++ record { number = end_of_numbers; standing = c.vacant.result } ∷ []) c.in_ok-reserve-2.ensures.items)
    (omega (arith, c.push_reserved.ensures.len, c.in_ok-reserve-2.ensures.len))
    (ap (λ (l : Ordered). l.size) c.in_ok-add_place.ensures.ok) (ap (λ (l : Ordered). l.size) c.in_ok-add_place-2.ensures.ok) c.in_ok-add_place.ensures.few
    (omega (arith, c.in_ok-reserve.ensures.ok, c.in_ok-reserve.ensures.len, c.saturating_sub.ensures, c.len.ensures, c.len-place.ensures))
    (rw c.in_ok-reserve.ensures.items (Tables.added_first c.self.inside c.self.invariant))
