-- What the counts of zeros and ones say of a value.
use Rattle.std.proofs.Common.{◌≡◌, ℕ, zero, suc, ◌+◌, ◌-◌, ◌*◌, ◌/◌, ◌%◌, ◌^◌, ◌<◌, ◌≤◌, refl, sym, ap, ◌∙◌, arith}
use Rattle.std.proofs.Common.{subst}
use Rattle.std.proofs.Math.Nat.{pow-suc, one-dvd, dvd-mul_left, mul-dvd-mul_right, dvd_of_mul-dvd-mul_right}
use Rattle.std.proofs.lemmas.Nat.{leading_top}
use Rattle.std.proofs.lemmas.Nat.Gcd.{mod-eq-zero_of_dvd, dvd_trans}
use Rattle.std.specs.Int.{◌∣◌}
use Rattle.std.specs.Int.Count.{count_leading_zeros, count_trailing_zeros, under, leading_of_zero, trailing_of_zero}
use Rattle.rv_bits.specs.Counts.{bits_low_first, zeros_above, zeros_below, population}
use Rattle.rv_bits.specs.Laws.{LeadingZerosBracket, TrailingZerosDivide, ZeroHasAllZeros, OnesAndZerosAreAll}
use Rattle.rv_bits.specs.Results.{bits_result}
use Rattle.rv_bits.proofs.Counted.{leading_zeros_are, trailing_zeros_are, population_step}

pub bracket : LeadingZerosBracket
unfolding bits_result
bracket a b some fits =
    let top = leading_top 64 a some fits in
    let is : zeros_above 64 a ≡ count_leading_zeros 64 a = leading_zeros_are 64 a fits in
    let lower : 63 - zeros_above 64 a ≡ top.0 = omega arith in
    let upper : 64 - zeros_above 64 a ≡ suc top.0 = omega arith in
    (rw lower top.2, rw upper top.3)

divides_by : (bit n t : ℕ) → n % 2 ≡ bit → 2 ^ t ∣ n / 2 → 2 ^ under bit t ∣ n
divides_by zero n t is rest =
    let twice : n ≡ n / 2 * 2 = omega arith in
    let more : 2 ^ t * 2 ∣ n / 2 * 2 = mul-dvd-mul_right (2 ^ t) rest 2 in
    subst (λ (x : ℕ). 2 ^ suc t ∣ x) (sym twice) (rw (pow-suc 2 t) more)
divides_by (suc bit) n t is rest = one-dvd n

divides : (width n : ℕ) → 2 ^ count_trailing_zeros width n ∣ n
unfolding count_trailing_zeros
divides zero n = one-dvd n
divides (suc width) n = divides_by (n % 2) n (count_trailing_zeros width (n / 2)) refl (divides width (n / 2))

halved : (n power : ℕ) → n % 2 ≡ 0 → 2 ^ suc power ∣ n → 2 ^ power ∣ n / 2
halved n power even by =
    let twice : n ≡ n / 2 * 2 = omega arith in
    let more : 2 ^ power * 2 ∣ n / 2 * 2 = subst (λ (x : ℕ). 2 ^ power * 2 ∣ x) twice (rw (pow-suc 2 power) at by) in
    dvd_of_mul-dvd-mul_right (2 ^ power) (omega arith) more

even_of : (n power : ℕ) → 2 ^ suc power ∣ n → n % 2 ≡ 0
even_of n power by =
    let two : 2 ∣ 2 ^ suc power = rw (pow-suc 2 power) (dvd-mul_left 2 (2 ^ power)) in
    mod-eq-zero_of_dvd 2 (dvd_trans 2 two by)

greatest_by : (bit n t power : ℕ) → n % 2 ≡ bit → (n % 2 ≡ 0 → (lower : ℕ) → 2 ^ lower ∣ n / 2 → lower ≤ t)
    → 2 ^ power ∣ n → power ≤ under bit t
greatest_by bit n t zero is rest by = omega arith
greatest_by zero n t (suc power) is rest by =
    let below : power ≤ t = rest is power (halved n power is by) in
    omega arith
greatest_by (suc bit) n t (suc power) is rest by =
    let even : n % 2 ≡ 0 = even_of n power by in
    absurd (omega arith)

greatest : (width n : ℕ) → 0 < n → n < 2 ^ width → (power : ℕ) → 2 ^ power ∣ n → power ≤ count_trailing_zeros width n
unfolding count_trailing_zeros
greatest zero n some fits power by = absurd (omega arith)
greatest (suc width) n some fits power by =
    let twice : 2 ^ suc width ≡ 2 ^ width * 2 = pow-suc 2 width in
    greatest_by (n % 2) n (count_trailing_zeros width (n / 2)) power refl
    (λ even lower below. greatest width (n / 2) (omega arith) (omega arith) lower below) by

pub divide : TrailingZerosDivide
unfolding bits_result
divide a b some fits =
    let is : zeros_below 64 a ≡ count_trailing_zeros 64 a = trailing_zeros_are 64 a in
    (rw is (divides 64 a), λ power by. rw is (greatest 64 a some fits power by))

pub zero_has : ZeroHasAllZeros
unfolding bits_result
zero_has b = (
  leading_zeros_are 64 0 (omega arith) ∙ leading_of_zero 64,
  trailing_zeros_are 64 0 ∙ trailing_of_zero 64,
  leading_zeros_are 32 0 (omega arith) ∙ leading_of_zero 32,
  trailing_zeros_are 32 0 ∙ trailing_of_zero 32,
)

complement : (width x : ℕ) → x < 2 ^ width → population width x + population width (2 ^ width - 1 - x) ≡ width
unfolding bits_low_first
complement zero x fits = refl
complement (suc width) x fits =
    let twice : 2 ^ suc width ≡ 2 ^ width * 2 = pow-suc 2 width in
    let half : (2 ^ suc width - 1 - x) / 2 ≡ 2 ^ width - 1 - x / 2 = omega arith in
    let here : population (suc width) x ≡ x % 2 + population width (x / 2) = population_step width x in
    let there : population (suc width) (2 ^ suc width - 1 - x)
    ≡ (2 ^ suc width - 1 - x) % 2 + population width (2 ^ width - 1 - x / 2) =
    population_step width (2 ^ suc width - 1 - x)
    ∙ ap (λ n. (2 ^ suc width - 1 - x) % 2 + population width n) half in
    let rest : population width (x / 2) + population width (2 ^ width - 1 - x / 2) ≡ width =
    complement width (x / 2) (omega arith) in
    omega arith

pub are_all : OnesAndZerosAreAll
unfolding bits_result
are_all a b fits = complement 64 a fits
