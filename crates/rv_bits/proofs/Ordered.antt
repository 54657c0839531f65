-- Minima and maxima are their operands in order.
use Rattle.std.proofs.Common.{◌≡◌, ℕ, ◌≤◌, Bool, true, false, refl, arith, if◌then◌else◌, inl, inr}
use Rattle.std.specs.Prelude.{◌≤ℤ◌, int_lt, nat_lt}
use Rattle.std.specs.Int.{w64, cast_signed}
use Rattle.std.proofs.lemmas.Int.{ints}
use Rattle.std.proofs.lemmas.Bool.Decides.{nat_tests}
use Rattle.rv_bits.specs.Laws.{AreBoth, SignedOrder, UnsignedOrder}
use Rattle.rv_bits.specs.Results.{bits_result}

signed_by : (a b : ℕ) (less : Bool) → int_lt (cast_signed w64 a) (cast_signed w64 b) ≡ less
    → AreBoth (if less then a else b) (if less then b else a) a b
    × (cast_signed w64 (if less then a else b) ≤ℤ cast_signed w64 (if less then b else a))
signed_by a b true is = (inl (refl, refl), grind (arith, ints))
signed_by a b false is = (inr (refl, refl), grind (arith, ints))

pub signed : SignedOrder
unfolding bits_result
signed a b = signed_by a b (int_lt (cast_signed w64 a) (cast_signed w64 b)) refl

unsigned_by : (a b : ℕ) (less : Bool) → nat_lt a b ≡ less
    → AreBoth (if less then a else b) (if less then b else a) a b
    × ((if less then a else b) ≤ (if less then b else a))
unsigned_by a b true is = (inl (refl, refl), grind (arith, nat_tests))
unsigned_by a b false is = (inr (refl, refl), grind (arith, nat_tests))

pub unsigned : UnsignedOrder
unfolding bits_result
unsigned a b = unsigned_by a b (nat_lt a b) refl
