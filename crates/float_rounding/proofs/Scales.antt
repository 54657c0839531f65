-- How many digits of the whole part rounding drops.
use Rattle.std.proofs.Common.{◌≡◌, ℕ, suc, ◌+◌, ◌-◌, ◌*◌, ◌/◌, ◌^◌, ◌<◌, ◌≤◌, sym, subst}
use Rattle.std.proofs.Common.{arith}
use Rattle.std.proofs.Common.{inl, inr}
use Rattle.std.proofs.Common.{eq-zero-or-pos}
use Rattle.std.proofs.Common.{lt_of_lt_of_le, lt_of_not-le, not-le_of_lt, le-div_iff_mul-le, div-lt_iff_lt-mul}
use Rattle.std.proofs.Math.Nat.{div-div-eq-div-mul}
use Rattle.std.proofs.Math.Pow.{pow-add, pow_pos, pow_mono}
use Rattle.std.specs.Float.Ieee.{size}
use lib.Ieee.Digits.{size-lt, size-le, size_reaches}
use Rattle.float_rounding.specs.Rounding.{scale}

size-gt : (n j : ℕ) → 2 ^ j ≤ n → j < size n
size-gt n j h = lt_of_not-le (λ (g : size n ≤ j). not-le_of_lt (lt_of_lt_of_le (size-lt n) (pow_mono g)) h)

-- k is the scale where p + 1 digits are enough for the quotient, and none could be kept more
pub by_whole : (p w k : ℕ) → w / 2 ^ k < 2 ^ suc p → (0 < k → 2 ^ p ≤ w / 2 ^ k) → size w - suc p ≡ k
by_whole p w k fits full =
    let fits' : w < 2 ^ (suc p + k) =
    subst (λ n. w < n) (sym (pow-add 2 (suc p) k)) ((div-lt_iff_lt-mul (pow_pos k)).0 fits) in
    let most : size w ≤ suc p + k = size-le w (suc p + k) fits' in
    elim (eq-zero-or-pos k) [
      | inl none ↦ omega arith
      | inr some ↦
          let full' : 2 ^ (p + k) ≤ w = subst (λ n. n ≤ w) (sym (pow-add 2 p k))
          ((le-div_iff_mul-le (pow_pos k)).0 (full some)) in
          let least : p + k < size w = size-gt w (p + k) full' in
          omega arith
    ]

pub scale_is : (p num den k : ℕ) → num / (den * 2 ^ k) < 2 ^ suc p → (0 < k → 2 ^ p ≤ num / (den * 2 ^ k))
    → scale p num den ≡ k
scale_is p num den k fits full =
    let same : num / den / 2 ^ k ≡ num / (den * 2 ^ k) = div-div-eq-div-mul num den (2 ^ k) in
    by_whole p (num / den) k (rw same fits) (λ some. rw same (full some))

pub scale_fits : (p num den : ℕ) → num / (den * 2 ^ scale p num den) < 2 ^ suc p
scale_fits p num den =
    let w = num / den in
    let k = scale p num den in
    let below : w < 2 ^ (suc p + k) = lt_of_lt_of_le (size-lt w)
    (pow_mono {i = size w} {j = suc p + k} (omega arith)) in
    let same : w / 2 ^ k ≡ num / (den * 2 ^ k) = div-div-eq-div-mul num den (2 ^ k) in
    subst (λ n. n < 2 ^ suc p) same
    ((div-lt_iff_lt-mul (pow_pos k)).1 (subst (λ n. w < n) (pow-add 2 (suc p) k) below))

pub scale_full : (p num den : ℕ) → 0 < scale p num den → 2 ^ p ≤ num / (den * 2 ^ scale p num den)
scale_full p num den some =
    let w = num / den in
    let k = scale p num den in
    let over : 2 ^ (p + k) ≤ w = size_reaches w (p + k) (omega arith) in
    let same : w / 2 ^ k ≡ num / (den * 2 ^ k) = div-div-eq-div-mul num den (2 ^ k) in
    subst (λ n. 2 ^ p ≤ n) same ((le-div_iff_mul-le (pow_pos k)).1 (subst (λ n. n ≤ w) (pow-add 2 p k) over))

pub below_of_pow : (i j : ℕ) → 2 ^ i < 2 ^ j → i < j
below_of_pow i j h = lt_of_not-le (λ (g : j ≤ i). not-le_of_lt h (pow_mono g))
