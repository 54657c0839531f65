use Rattle.std.proofs.Common.{◌≡◌, ◌+◌, ◌*◌, ◌%◌, ◌^◌, arith, lit<}
use Rattle.std.proofs.lemmas.Nat.{one_shl}
use Rattle.hart_words.proofs.Powers.{more_places}
use Rattle.row_compare.proofs.masks.ones.Goals as goal

pub overflow_sub-result : goal.overflow_sub-result
overflow_sub-result c =
    let low : 1 * 2 ^ c.args.from % 2 ^ 64 ≡ 2 ^ c.args.from = one_shl c.args.from 64 (omega arith) in
    let high : 1 * 2 ^ (c.args.from + c.from.result) % 2 ^ 64 ≡ 2 ^ (c.args.from + c.from.result) =
    one_shl (c.args.from + c.from.result) 64 (omega arith) in
    rw (low, high) (more_places 2 c.args.from c.from.result (lit< tt))
