-- The first line that is no event.
use Rattle.bb8_runner.proofs.Speech.{◌≡◌, ℕ, ◌+◌, ◌<◌, List, [], length, get_or, take, map, Some, None, ap, arith, Bor, length-take, take-map, get_or-map, length-map, Event, event_of, IsFirstNoEvent}

pub first_no_event : (xs : List (Bor (List ℕ))) (i number : ℕ) (events : List Event) (d : Bor (List ℕ)) → i < length xs
    → map event_of (map (λ x. x.now) (take i xs)) ≡ map Some events → number ≡ i + 2 → event_of (get_or xs i d).now ≡ None
    → IsFirstNoEvent (map (λ x. x.now) xs) number
first_no_event xs i number events d below each counted bad =
    let len : length events ≡ i = omega (arith, simp (length-map, length-take) at (ap length each), length-take i xs) in
    record {
      before = events;
      each = rw (len, take-map (λ (x : Bor (List ℕ)). x.now)) each;
      inside = rw length-map (omega arith);
      bad = rw (len, get_or-map (λ (x : Bor (List ℕ)). x.now) xs i d [] below) bad;
      number = omega arith;
    }
