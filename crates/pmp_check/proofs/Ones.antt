-- The ones at the low end of a number.
use Rattle.std.proofs.Common.{◌≡◌, ℕ, zero, suc, ◌+◌, ◌-◌, ◌*◌, ◌/◌, ◌%◌, ◌^◌, ◌<◌, ◌≤◌, ◌⊎◌, refl, sym, ◌∙◌, ap, inl}
use Rattle.std.proofs.Common.{inr, pow-add, subst, arith}
use Rattle.std.proofs.Math.Nat.{pow-suc}
use Rattle.std.proofs.Math.Pow.{pow_mono}
use Rattle.std.proofs.lemmas.Nat.{trailing_le, pow_pos, mod-pow-add}
use Rattle.std.specs.Int.Count.{count_trailing_zeros, under}
use Rattle.std.specs.Int.{w64, trailing_ones}
use Rattle.hart_words.proofs.Powers.{zero_or_one}

odd_or_even : (n : ℕ) → (n % 2 ≡ 0) ⊎ (n % 2 ≡ 1)
odd_or_even n = zero_or_one (n % 2) (omega arith)

-- the zeros at the low end of the complement of a number of k digits
zeros : ℕ → ℕ → ℕ
zeros k n = count_trailing_zeros k (2 ^ k - 1 - n)

zeros-none : (n : ℕ) → zeros 0 n ≡ 0
unfolding zeros count_trailing_zeros
zeros-none n = refl

zeros-even : (k n : ℕ) → n < 2 ^ suc k → n % 2 ≡ 0 → zeros (suc k) n ≡ 0
unfolding zeros count_trailing_zeros
zeros-even k n h even =
    let e : (2 ^ suc k - 1 - n) % 2 ≡ 1 = omega (arith, pow-suc 2 k, h) in
    ap (λ b. under b (count_trailing_zeros k ((2 ^ suc k - 1 - n) / 2))) e

zeros-odd : (k n : ℕ) → n < 2 ^ suc k → n % 2 ≡ 1 → zeros (suc k) n ≡ suc (zeros k (n / 2))
unfolding zeros count_trailing_zeros
zeros-odd k n h odd =
    let e : (2 ^ suc k - 1 - n) % 2 ≡ 0 = omega (arith, pow-suc 2 k, h) in
    let f : (2 ^ suc k - 1 - n) / 2 ≡ 2 ^ k - 1 - n / 2 = omega (arith, pow-suc 2 k, h) in
    ap (λ b. under b (count_trailing_zeros k ((2 ^ suc k - 1 - n) / 2))) e ∙ ap (λ m. suc (count_trailing_zeros k m)) f

below_half : (k n : ℕ) → n < 2 ^ suc k → n / 2 < 2 ^ k
below_half k n h = omega (arith, pow-suc 2 k)

-- a number that ends in so many ones, with a zero above them
abbrev pub EndsInOnes : ℕ → ℕ → Type 0
EndsInOnes n ones = n % 2 ^ suc ones + 1 ≡ 2 ^ ones

one_more : (n ones : ℕ) → n % 2 ^ (ones + 1) ≡ n % 2 ^ suc ones
one_more n ones = let e : ones + 1 ≡ suc ones = omega arith in ap (λ k. n % 2 ^ k) e

pub EndsInOnes-field : (n ones : ℕ) → EndsInOnes n ones → n % 2 ^ (ones + 1) ≡ 2 ^ ones - 1
EndsInOnes-field n ones ends = omega (arith, one_more n ones)

pub Ends_from_field : (n ones : ℕ) → n % 2 ^ (ones + 1) ≡ 2 ^ ones - 1 → EndsInOnes n ones
Ends_from_field n ones field = omega (arith, one_more n ones, pow_pos ones)

mod-suc : (n ones : ℕ) → n % 2 ^ suc ones ≡ n / 2 % 2 ^ ones * 2 + n % 2
mod-suc n ones =
    let e : ones + 1 ≡ suc ones = omega arith in
    let P : ℕ → Type 0 = λ k. n % 2 ^ k ≡ n / 2 % 2 ^ ones * 2 + n % 2 in subst P e (mod-pow-add n ones 1)

EndsInOnes-even : (n : ℕ) → n % 2 ≡ 0 → EndsInOnes n 0
EndsInOnes-even n even = omega (arith, mod-suc n 0)

EndsInOnes-odd : (n ones : ℕ) → n % 2 ≡ 1 → EndsInOnes (n / 2) ones → EndsInOnes n (suc ones)
EndsInOnes-odd n ones odd ends = omega (arith, mod-suc n (suc ones), pow-suc 2 ones)

half-EndsInOnes : (n ones : ℕ) → EndsInOnes n (suc ones) → (n % 2 ≡ 1) × EndsInOnes (n / 2) ones
half-EndsInOnes n ones ends = omega (arith, mod-suc n (suc ones), pow-suc 2 ones)

even-EndsInOnes : (n ones : ℕ) → n % 2 ≡ 0 → EndsInOnes n ones → ones ≡ 0
even-EndsInOnes n zero even ends = refl
even-EndsInOnes n (suc ones) even ends = omega (arith, mod-suc n (suc ones), pow-suc 2 ones)

Ends_at : (n : ℕ) {z t : ℕ} → z ≡ t → EndsInOnes n t → EndsInOnes n z
Ends_at n {z} {t} e h = let P : ℕ → Type 0 = λ x. EndsInOnes n x in subst P (sym e) h

zeros-EndsInOnes : (k n : ℕ) → n < 2 ^ k → EndsInOnes n (zeros k n)
zeros-EndsInOnes zero n h = Ends_at n (zeros-none n) (EndsInOnes-even n (omega arith))
zeros-EndsInOnes (suc k) n h =
    let ih : EndsInOnes (n / 2) (zeros k (n / 2)) = zeros-EndsInOnes k (n / 2) (below_half k n h) in
    elim (odd_or_even n) [
      | inl even ↦ Ends_at n (zeros-even k n h even) (EndsInOnes-even n even)
      | inr odd ↦ Ends_at n (zeros-odd k n h odd) (EndsInOnes-odd n (zeros k (n / 2)) odd ih)
    ]

-- there is one such number of ones
zeros_from_Ends : (k n ones : ℕ) → n < 2 ^ k → EndsInOnes n ones → zeros k n ≡ ones
zeros_from_Ends zero n ones h ends = zeros-none n ∙ sym (even-EndsInOnes n ones (omega arith) ends)
zeros_from_Ends (suc k) n zero h ends = zeros-even k n h (omega (arith, mod-suc n 0))
zeros_from_Ends (suc k) n (suc ones) h ends =
    let parts : (n % 2 ≡ 1) × EndsInOnes (n / 2) ones = half-EndsInOnes n ones ends in
    zeros-odd k n h parts.0 ∙ ap (λ m. suc m) (zeros_from_Ends k (n / 2) ones (below_half k n h) parts.1)

pub trailing_ones-EndsInOnes : (n : ℕ) → n < 2 ^ 64 → EndsInOnes n (trailing_ones w64 n)
unfolding zeros
trailing_ones-EndsInOnes n h = zeros-EndsInOnes 64 n h

pub trailing_ones_from_Ends : (n ones : ℕ) → n < 2 ^ 64 → EndsInOnes n ones → trailing_ones w64 n ≡ ones
unfolding zeros
trailing_ones_from_Ends n ones h ends = zeros_from_Ends 64 n ones h ends

-- a number that ends in so many ones is at least as great
mod_le : (n m : ℕ) → 0 < m → n % m ≤ n
mod_le n m h = omega arith

pub ones_fit : (n : ℕ) → n < 2 ^ 64 → 2 ^ trailing_ones w64 n ≤ n + 1
ones_fit n h =
    omega (
      arith,
      trailing_ones-EndsInOnes n h,
      mod_le n (2 ^ suc (trailing_ones w64 n)) (pow_pos (suc (trailing_ones w64 n))),
    )

pub ones_few : (n : ℕ) → 2 ^ (trailing_ones w64 n + 3) ≤ 2 ^ 67
ones_few n = pow_mono {i = trailing_ones w64 n + 3} {j = 67} (omega (arith, trailing_le 64 (2 ^ 64 - 1 - n)))

-- eight times a power of two by a shift of 128 bits
pub eight_shifted : (n : ℕ) → n ≤ 64 → 8 * 2 ^ n % 2 ^ 128 ≡ 2 ^ (n + 3)
eight_shifted n few =
    let most : 2 ^ n ≤ 2 ^ 64 = pow_mono {i = n} {j = 64} few in
    let whole : 2 ^ (n + 3) ≡ 2 ^ n * 8 = pow-add 2 n 3 in
    omega (arith, most, whole)

pub few_ones : (n : ℕ) → trailing_ones w64 n ≤ 64
few_ones n = trailing_le 64 (2 ^ 64 - 1 - n)
