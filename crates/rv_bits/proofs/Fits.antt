-- Operands of 64 bits give results of 64 bits.
use Rattle.std.proofs.Common.{◌≡◌, ℕ, ◌%◌, ◌^◌, ◌<◌, ◌≤◌, ◌==◌, Bool, true, false, List, map, reverse}
use Rattle.std.proofs.Common.{get_or, arith, if◌then◌else◌, nat_lt, bit_xor}
use Rattle.std.specs.Prelude.{int_lt}
use Rattle.std.proofs.Math.Pow.{pow-lt}
use Rattle.std.proofs.lemmas.Nat.{and_le_l, or_lt, xor_lt, leading_le, trailing_le, ones-le}
use Rattle.std.specs.Int.{w64, cast_signed, from_le_bytes, to_le_bytes, bit_not}
use Rattle.std.specs.Int.Count.{count_leading_zeros, count_trailing_zeros, ones}
use Rattle.hart_words.specs.Words.{sign_extended}
use Rattle.hart_words.proofs.Extended.{extends_signs}
use Rattle.rv_decode.specs.declared.operation.BitsOp.TheVariants.{Sh1add, Sh2add, Sh3add, AddUw, Sh1addUw, Sh2addUw}
use Rattle.rv_decode.specs.declared.operation.BitsOp.TheVariants.{Sh3addUw, SlliUw, Andn, Orn, Xnor, Clz, Clzw, Ctz}
use Rattle.rv_decode.specs.declared.operation.BitsOp.TheVariants.{Ctzw, Cpop, Cpopw, Max, Maxu, Min, Minu, SextB, SextH}
use Rattle.rv_decode.specs.declared.operation.BitsOp.TheVariants.{ZextH, Rol, Rolw, Ror, Rorw, OrcB, Rev8, Bclr, Bext}
use Rattle.rv_decode.specs.declared.operation.BitsOp.TheVariants.{Binv, Bset}
use Rattle.rv_bits.specs.Counts.{zeros_above, zeros_below, population}
use Rattle.rv_bits.specs.Laws.{ResultsFit}
use Rattle.rv_bits.specs.Results.{bits_result, filled_byte, low}
use Rattle.rv_bits.proofs.Counted.{leading_zeros_are, trailing_zeros_are, ones_are}
use Rattle.rv_bits.proofs.Reversed.{are_bytes, mapped_below}
use Rattle.rv_bits.proofs.Rotated.{left_fits, right_fits}

pub wrapped : (x : ℕ) → x % 2 ^ 64 < 2 ^ 64
wrapped x = omega arith

pub no_more : (x a : ℕ) → x ≤ a → a < 2 ^ 64 → x < 2 ^ 64
no_more x a less small = omega arith

complement : (x : ℕ) → bit_not w64 x < 2 ^ 64
complement x = omega arith

pub choice : (test : Bool) (a b : ℕ) → a < 2 ^ 64 → b < 2 ^ 64 → (if test then a else b) < 2 ^ 64
choice true a b one other = one
choice false a b one other = other

pub extended : (count x : ℕ) → 1 ≤ count → count ≤ 64 → sign_extended count x < 2 ^ 64
extended count x some few = (extends_signs count x some few).fits

above : (width x : ℕ) → width ≤ 64 → x < 2 ^ width → zeros_above width x < 2 ^ 64
above width x few fits =
    let is : zeros_above width x ≡ count_leading_zeros width x = leading_zeros_are width x fits in
    let most : count_leading_zeros width x ≤ width = leading_le width x in
    omega arith

below : (width x : ℕ) → width ≤ 64 → zeros_below width x < 2 ^ 64
below width x few =
    let is : zeros_below width x ≡ count_trailing_zeros width x = trailing_zeros_are width x in
    let most : count_trailing_zeros width x ≤ width = trailing_le width x in
    omega arith

counted : (width x : ℕ) → width ≤ 64 → x < 2 ^ width → population width x < 2 ^ 64
counted width x few fits =
    let is : population width x ≡ ones x = ones_are width x fits in
    let most : ones x ≤ width = ones-le width x fits in
    omega arith

of_bytes : (bytes : List ℕ) → ((i : ℕ) → get_or bytes i 0 < 256) → from_le_bytes w64 bytes < 2 ^ 64
of_bytes bytes are =
    omega (arith, are 0, are 1, are 2, are 3, are 4, are 5, are 6, are 7)

filled_by : (test : Bool) → (if test then 0 else 0xff) < 256
filled_by true = omega arith
filled_by false = omega arith

filled_below : (byte : ℕ) → filled_byte byte < 256
filled_below byte = filled_by (byte == 0)

one_bit : (amount : ℕ) → amount < 64 → 2 ^ amount < 2 ^ 64
one_bit amount inside = pow-lt inside

pub results_fit : ResultsFit
unfolding bits_result
results_fit Sh1add a b one other = wrapped _
results_fit Sh2add a b one other = wrapped _
results_fit Sh3add a b one other = wrapped _
results_fit AddUw a b one other = wrapped _
results_fit Sh1addUw a b one other = wrapped _
results_fit Sh2addUw a b one other = wrapped _
results_fit Sh3addUw a b one other = wrapped _
results_fit SlliUw a b one other = wrapped _
results_fit Andn a b one other = no_more _ a (and_le_l a (bit_not w64 b)) one
results_fit Orn a b one other = or_lt 64 a (bit_not w64 b) one (complement b)
results_fit Xnor a b one other = complement (bit_xor a b)
results_fit Clz a b one other = above 64 a (omega arith) one
results_fit Clzw a b one other = above 32 (low a) (omega arith) (omega arith)
results_fit Ctz a b one other = below 64 a (omega arith)
results_fit Ctzw a b one other = below 32 (low a) (omega arith)
results_fit Cpop a b one other = counted 64 a (omega arith) one
results_fit Cpopw a b one other = counted 32 (low a) (omega arith) (omega arith)
results_fit Max a b one other = choice (int_lt (cast_signed w64 a) (cast_signed w64 b)) b a other one
results_fit Maxu a b one other = choice (nat_lt a b) b a other one
results_fit Min a b one other = choice (int_lt (cast_signed w64 a) (cast_signed w64 b)) a b one other
results_fit Minu a b one other = choice (nat_lt a b) a b one other
results_fit SextB a b one other = extended 8 a (omega arith) (omega arith)
results_fit SextH a b one other = extended 16 a (omega arith) (omega arith)
results_fit ZextH a b one other = omega arith
results_fit Rol a b one other = left_fits 64 a (b % 64) one (omega arith)
results_fit Rolw a b one other = extended 32 _ (omega arith) (omega arith)
results_fit Ror a b one other = right_fits 64 a (b % 64) one (omega arith)
results_fit Rorw a b one other = extended 32 _ (omega arith) (omega arith)
results_fit OrcB a b one other =
    of_bytes (map filled_byte (to_le_bytes w64 a)) (mapped_below filled_byte filled_below (to_le_bytes w64 a))
results_fit Rev8 a b one other = of_bytes (reverse (to_le_bytes w64 a)) (are_bytes a)
results_fit Bclr a b one other = no_more _ a (and_le_l a (bit_not w64 (2 ^ (b % 64)))) one
results_fit Bext a b one other = omega arith
results_fit Binv a b one other = xor_lt 64 a (2 ^ (b % 64)) one (one_bit (b % 64) (omega arith))
results_fit Bset a b one other = or_lt 64 a (2 ^ (b % 64)) one (one_bit (b % 64) (omega arith))
