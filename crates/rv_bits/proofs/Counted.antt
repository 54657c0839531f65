-- The counts by the list of bits are those of std's calls.
use Rattle.std.proofs.Common.{◌≡◌, ℕ, zero, suc, ◌+◌, ◌*◌, ◌/◌, ◌%◌, ◌^◌, ◌<◌, refl, sym, ap, ◌∙◌, arith}
use Rattle.std.proofs.Common.{cond, eqb, false}
use Rattle.std.proofs.lemmas.Bool.Decides.{nat_tests}
use Rattle.std.proofs.Math.Nat.{pow-suc}
use Rattle.std.proofs.Math.Pow.{shr_lt}
use Rattle.std.proofs.lemmas.Nat.{shr_split}
use Rattle.std.proofs.lemmas.List.Sums.{sum_by-cons}
use Rattle.std.specs.Int.{bit_at}
use Rattle.std.specs.Int.Count.{count_leading_zeros, count_trailing_zeros, ones, ones_step, under, leading_unique}
use Rattle.std.specs.Int.Count.{leading_length}
use Rattle.rv_bits.specs.Counts.{bits_low_first, bits_high_first, zeros_above, zeros_below, population}

-- a number of one bit more is below the highest bit, or not, as this bit says
pub top_bit : (width x bit : ℕ) → x < 2 ^ suc width → bit_at x width ≡ bit → x ≡ bit * 2 ^ width + x % 2 ^ width
top_bit width x bit fits is =
    let twice : 2 ^ suc width ≡ 2 ^ (1 + width) = ap (λ n. 2 ^ n) (omega arith) in
    let below : x < 2 ^ (1 + width) = omega arith in
    let high : x / 2 ^ width < 2 ^ 1 = shr_lt 1 width below in
    let same : x / 2 ^ width ≡ bit = omega arith in
    rw (← same) (sym (shr_split x width))

never : (bit : ℕ) → eqb (suc bit) 0 ≡ false
never bit = grind (arith, nat_tests)

above_by : (width x bit : ℕ) → x < 2 ^ suc width → bit_at x width ≡ bit
    → (x < 2 ^ width → zeros_above width x ≡ count_leading_zeros width x)
    → cond (eqb bit 0) (1 + zeros_above width x) 0 ≡ count_leading_zeros (suc width) x
above_by width x zero fits is rest =
    let split : x ≡ 0 * 2 ^ width + x % 2 ^ width = top_bit width x zero fits is in
    let low : x < 2 ^ width = omega arith in
    let length = leading_length width x low in
    ap (λ n. 1 + n) (rest low)
    ∙ leading_unique (suc width) x (1 + count_leading_zeros width x) length.0 (omega arith) length.2 length.3
above_by width x (suc bit) fits is rest =
    let split : x ≡ suc bit * 2 ^ width + x % 2 ^ width = top_bit width x (suc bit) fits is in
    let least : bit < 1 = omega arith in
    let none : bit ≡ 0 = omega arith in
    let full : x ≡ 1 * 2 ^ width + x % 2 ^ width = rw none at split in
    let twice : 2 ^ suc width ≡ 2 ^ width * 2 = pow-suc 2 width in
    rw (never bit) (leading_unique (suc width) x 0 (suc width) (omega arith) fits (omega arith))

pub leading_zeros_are : (width x : ℕ) → x < 2 ^ width → zeros_above width x ≡ count_leading_zeros width x
unfolding bits_high_first count_leading_zeros
leading_zeros_are zero x fits = refl
leading_zeros_are (suc width) x fits = above_by width x (bit_at x width) fits refl (leading_zeros_are width x)

below_by : (bit rest : ℕ) → cond (eqb bit 0) (1 + rest) 0 ≡ under bit rest
below_by zero rest = omega arith
below_by (suc bit) rest = rw (never bit) refl

pub trailing_zeros_are : (width x : ℕ) → zeros_below width x ≡ count_trailing_zeros width x
unfolding bits_low_first count_trailing_zeros
trailing_zeros_are zero x = refl
trailing_zeros_are (suc width) x =
    below_by (x % 2) (zeros_below width (x / 2)) ∙ ap (under (x % 2)) (trailing_zeros_are width (x / 2))

bit_by : (bit : ℕ) → bit < 2 → cond (eqb bit 1) 1 0 ≡ bit
bit_by zero below = refl
bit_by (suc zero) below = refl
bit_by (suc (suc bit)) below = absurd (omega arith)

pub population_step : (width x : ℕ) → population (suc width) x ≡ x % 2 + population width (x / 2)
unfolding bits_low_first
population_step width x =
    sum_by-cons (λ bit. cond (eqb bit 1) 1 0) (x % 2) (bits_low_first width (x / 2))
    ∙ ap (λ n. n + population width (x / 2)) (bit_by (x % 2) (omega arith))

pub ones_are : (width x : ℕ) → x < 2 ^ width → population width x ≡ ones x
unfolding bits_low_first ones
ones_are zero x fits =
    let none : x ≡ 0 = omega arith in
    rw none refl
ones_are (suc width) x fits =
    let twice : 2 ^ suc width ≡ 2 ^ width * 2 = pow-suc 2 width in
    population_step width x ∙ ap (λ n. x % 2 + n) (ones_are width (x / 2) (omega arith)) ∙ sym (ones_step x)
