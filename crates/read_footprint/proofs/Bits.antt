-- Bits of blocks.
use Rattle.std.proofs.Common.{◌≡◌, ◌⊎◌, inl, inr, ℕ, zero, suc, ◌+◌, ◌-◌, ◌*◌, ◌/◌, ◌%◌, ◌<◌, ◌≤◌, ◌^◌, Bool, true}
use Rattle.std.proofs.Common.{false, ◌==◌, ◌&&◌, ◌||◌, bit_and, bit_or, min, max, refl, ap, ◌∙◌, sym, arith, lit<}
use Rattle.std.specs.Prelude.{not, nat_le, nat_lt}
use Rattle.std.specs.Int.{bit_at, w64}
use Rattle.std.proofs.lemmas.Nat.Bits.{bit_at_and, bit_at_or, bit_at_not, bit_at-lt, bit_at-zero, bit_at_mask_below}
use Rattle.std.proofs.lemmas.Nat.Bits.{bit_at_mask_inside, bit_at_mask_above}
use Rattle.std.proofs.Math.Nat.{pow-le-pow_right, mod-eq_of_lt}
use Rattle.std.proofs.lemmas.Bool.{cases_lt, lt-ltb, le-ltb, le-leb, lt-leb}
use Rattle.read_footprint.specs.Bits.{has_bit}

two : (n : ℕ) → n < 2 → (n ≡ 0) ⊎ (n ≡ 1)
two zero below = inl refl
two (suc zero) below = inr refl
two (suc (suc n)) below = absurd (omega arith)

either : (x y : ℕ) → x < 2 → y < 2 → (max x y == 1) ≡ ((x == 1) || (y == 1))
either x y h k = elim (two x h) [
  | inl none ↦ elim (two y k) [ inl no_other ↦ rw (none, no_other) refl | inr other ↦ rw (none, other) refl ]
  | inr one ↦ elim (two y k) [ inl no_other ↦ rw (one, no_other) refl | inr other ↦ rw (one, other) refl ]
]

both : (x y : ℕ) → x < 2 → y < 2 → (min x (1 - y) == 1) ≡ ((x == 1) && not (y == 1))
both x y h k = elim (two x h) [
  | inl none ↦ elim (two y k) [ inl no_other ↦ rw (none, no_other) refl | inr other ↦ rw (none, other) refl ]
  | inr one ↦ elim (two y k) [ inl no_other ↦ rw (one, no_other) refl | inr other ↦ rw (one, other) refl ]
]

pub has_either : (a b place : ℕ) → has_bit (bit_or a b) place ≡ (has_bit a place || has_bit b place)
has_either a b place = ap (λ bit. bit == 1) (bit_at_or a b place) ∙ either _ _ (bit_at-lt a place) (bit_at-lt b place)

has_without : (a b place : ℕ) → b < 2 ^ 64 → place < 64
    → has_bit (bit_and a (2 ^ 64 - 1 - b)) place ≡ (has_bit a place && not (has_bit b place))
has_without a b place small inside =
    ap (λ bit. bit == 1)
    (bit_at_and a (2 ^ 64 - 1 - b) place ∙ ap (min (bit_at a place)) (bit_at_not w64 b place small inside))
    ∙ both _ _ (bit_at-lt a place) (bit_at-lt b place)

pub has_later : (a b w place : ℕ) → w < 2 ^ 64 → place < 64
    → has_bit (bit_or a (bit_and b (2 ^ 64 - 1 - w))) place
    ≡ (has_bit a place || (has_bit b place && not (has_bit w place)))
has_later a b w place small inside =
    has_either a (bit_and b (2 ^ 64 - 1 - w)) place
    ∙ ap (λ bit. has_bit a place || bit) (has_without b w place small inside)

pub none_has : (place : ℕ) → has_bit 0 place ≡ false
none_has place = ap (λ bit. bit == 1) (bit_at-zero place)

pub shifted : (k : ℕ) → k ≤ 64 → 1 * 2 ^ k % 2 ^ 128 ≡ 2 ^ k
shifted k at_most_64 =
    let below : 2 ^ k ≤ 2 ^ 64 = pow-le-pow_right {n = 2} (lit< tt) at_most_64 in
    let same : 1 * 2 ^ k ≡ 2 ^ k = omega arith in
    rw same (mod-eq_of_lt (omega (arith, below)))

-- where the addresses from one up to another begin and end in a block
pub record AreEnds (number pa end from to : ℕ) : Type 0 where
  pub begins : from ≡ max pa (number * 64) - number * 64
  pub ends : to ≡ min end (number * 64 + 64) - number * 64

-- the bits of a block from one address up to another
pub bits_are : {number pa end from to bits : ℕ} (address : ℕ) → AreEnds number pa end from to
    → bits ≡ 2 ^ to - 2 ^ from → address / 64 ≡ number
    → has_bit bits (address % 64) ≡ (nat_le pa address && nat_lt address end)
bits_are {pa = pa} {end} {from} {to} address at are here = elim (cases_lt (address % 64) from) [
  | inl before ↦
      ap (λ b. has_bit b (address % 64)) are ∙ ap (λ b. b == 1) (bit_at_mask_below from to (address % 64) before)
      ∙ sym (rw (lt-leb pa address (omega (arith, before, at.begins, here))) refl)
  | inr after ↦ elim (cases_lt (address % 64) to) [
    | inl inside ↦
        ap (λ b. has_bit b (address % 64)) are
        ∙ ap (λ b. b == 1) (bit_at_mask_inside from to (address % 64) after inside)
        ∙ sym
        (rw (
          le-leb pa address (omega (arith, after, at.begins, here)),
          lt-ltb address end (omega (arith, inside, at.ends, here)),
        ) refl)
    | inr beyond ↦
        ap (λ b. has_bit b (address % 64)) are ∙ ap (λ b. b == 1) (bit_at_mask_above from to (address % 64) beyond)
        ∙ sym (rw (le-ltb address end (omega (arith, beyond, at.ends, here))) (and_false (nat_le pa address)))
  ]
]
  where
    and_false : (b : Bool) → (b && false) ≡ false
    and_false true = refl
    and_false false = refl
