-- Powers that count bytes and bits.
use Rattle.std.proofs.Common.{◌≡◌, ◌⊎◌, ℕ, zero, suc, ◌+◌, ◌*◌, ◌/◌, ◌%◌, ◌<◌, ◌≤◌, ◌^◌, nat_eq, nat_lt, inl, inr, refl, arith}
use Rattle.std.proofs.Common.{lit<}
use Rattle.std.proofs.Math.Nat.{pow-le-pow_right, pow-suc}
use Rattle.std.proofs.lemmas.Nat.{pow-add, pow_pos, div_below, le-div}
use Rattle.std.proofs.lemmas.Bool.{cases_lt}
use Rattle.std.proofs.lemmas.Bool.Decides.{nat_tests}

-- up to eight bytes, and up to seven
pub eight_bytes : (count : ℕ) → count ≤ 8 → 256 ^ count ≤ 256 ^ 8
eight_bytes count few = pow-le-pow_right (lit< tt) few

pub seven_bytes : (count : ℕ) → count ≤ 7 → 256 ^ count ≤ 256 ^ 7
seven_bytes count few = pow-le-pow_right (lit< tt) few

pub some_bytes : (count : ℕ) → 1 ≤ 256 ^ count
some_bytes count = pow-le-pow_right {n = 256} (lit< tt) {i = 0} {j = count} (omega arith)

-- more of them are not less
pub more_places : (base from count : ℕ) → 0 < base → base ^ from ≤ base ^ (from + count)
more_places base from count positive = pow-le-pow_right positive (omega arith)

-- a byte has eight bits
pub bits_of_bytes : (count : ℕ) → 256 ^ count ≡ 2 ^ (8 * count)
bits_of_bytes zero = refl
bits_of_bytes (suc count) =
    let more : 8 * suc count ≡ 8 * count + 8 = omega arith in
    rw (pow-suc 256 count, more, pow-add 2 (8 * count) 8, bits_of_bytes count) refl

-- a number is below 2 ^ width where no bit is left above the width
pub none_left : (value width : ℕ) → nat_eq (value / 2 ^ width) 0 ≡ nat_lt value (2 ^ width)
none_left value width = elim (cases_lt value (2 ^ width)) [
  | inl under ↦
      let none : value / 2 ^ width < 1 = div_below value (2 ^ width) 1 (pow_pos width) (omega arith) in
      let zero : value / 2 ^ width ≡ 0 = omega arith in
      grind (arith, nat_tests)
  | inr over ↦
      let some : 1 ≤ value / 2 ^ width = le-div 1 value (2 ^ width) (pow_pos width) (omega arith) in
      grind (arith, nat_tests)
]

-- a number below 2
pub zero_or_one : (n : ℕ) → n < 2 → (n ≡ 0) ⊎ (n ≡ 1)
zero_or_one zero below = inl refl
zero_or_one (suc n) below = inr (omega arith)

-- a bit shifted in 128 bits is a power of 2
pub one_shifted : (k : ℕ) → k ≤ 64 → 1 * 2 ^ k % 2 ^ 128 ≡ 2 ^ k
one_shifted k few =
    let below : 2 ^ k ≤ 2 ^ 64 = pow-le-pow_right {n = 2} (lit< tt) few in
    omega (arith, below)
