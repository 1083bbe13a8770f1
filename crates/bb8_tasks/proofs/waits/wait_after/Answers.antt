use Rattle.bb8_tasks.proofs.Words.{◌≡◌, ◌*◌, ◌^◌, ◌%◌, lit<, arith, as_nanos}
use Rattle.std.proofs.lemmas.Nat.{shl_whole}
use Rattle.bb8_tasks.proofs.Waiting.{wait-long}
use Rattle.bb8_tasks.proofs.waits.wait_after.Goals as goal

pub returns-then-k-ge-LONGEST : goal.returns-then-k-ge-LONGEST
returns-then-k-ge-LONGEST c = let far = wait-long (as_nanos c.args.timeout) c.args.k (omega arith) (omega arith) in omega arith

pub returns : goal.returns
returns c =
    let whole : (200_000_000 * 2 ^ c.args.k) % 2 ^ 128 ≡ 200_000_000 * 2 ^ c.args.k = shl_whole 200_000_000 28 c.args.k 128 (lit< tt) (omega arith) in
    omega arith
