use Rattle.std.proofs.Common.{◌≡◌, ℕ, ◌+◌, ◌-◌, ◌*◌, ◌<◌, ◌%◌, ◌^◌, ap, sym, ◌∙◌, arith, lit<}
use Rattle.std.proofs.lemmas.Nat.{one_shl}
use Rattle.hart_words.proofs.Powers.{bits_of_bytes, more_places}
use Rattle.row_compare.proofs.masks.byte_ones.Goals as goal

-- so many bytes' bits, of up to eight bytes
shifted : (bytes : ℕ) → 8 * bytes < 128 → 1 * 2 ^ (8 * bytes) % 2 ^ 128 ≡ 256 ^ bytes
shifted bytes few = one_shl (8 * bytes) 128 few ∙ sym (bits_of_bytes bytes)

pub overflow_sub-result : goal.overflow_sub-result
overflow_sub-result c =
    rw (shifted c.args.from (omega arith), shifted (c.args.from + c.from.result) (omega arith))
    (more_places 256 c.args.from c.from.result (lit< tt))

pub returns : goal.returns
returns c =
    rw (shifted c.args.from (omega arith), shifted (c.args.from + c.from.result) (omega arith))
    (ap (λ (n : ℕ). 256 ^ (c.args.from + n) - 256 ^ c.args.from) c.from.ensures)
