-- Lemmas on bits and masks.
use Rattle.std.proofs.Common.{◌≡◌, ◌⊎◌, inl, inr, ℕ, ◌+◌, ◌-◌, ◌*◌, ◌<◌, ◌≤◌, ◌^◌, true, false, ◌==◌, bit_and, bit_or}
use Rattle.std.proofs.Common.{min, max, refl, ap, ◌∙◌, sym, arith, if◌then◌else◌}
use Rattle.std.specs.Int.{bit_at, w64}
use Rattle.std.proofs.lemmas.Nat.{and_assoc, and_comm, and_or_apart}
use Rattle.std.specs.Int.Bits.{and_le_r, and_self, and_zero_r, or_lt}
use Rattle.std.proofs.lemmas.Nat.Bits.{bit_at_above, bit_at_and, bit_at_or, bit_at_not, bit_at-lt, bit_at-zero, same_from_bits}
use Rattle.std.proofs.lemmas.Bool.{cases_eq, cases_lt}
use Rattle.std.proofs.lemmas.Grind.{and_not_apart}
use Rattle.csr_file.specs.Fields.{bit_is_set, masked_update, mpp_of}
use Rattle.csr_file.specs.Fields.{all_bits}

-- a number of 64 bits has none further up
pub no_high_bit : (value bit : ℕ) → value < 2 ^ 64 → 64 ≤ bit → bit_is_set value bit ≡ false
no_high_bit value bit small high = ap (λ b. b == 1) (bit_at_above value 64 bit small high)

-- all bits of a value are in a mask
abbrev pub IsWithinMask : ℕ → ℕ → Type 0
IsWithinMask mask value = bit_and value mask ≡ value

-- a value under a mask is within it
pub within_mask : (mask value : ℕ) → IsWithinMask mask (bit_and value mask)
within_mask mask value = and_assoc mask value mask ∙ ap (bit_and value) (and_self mask)

-- what is within a mask stays so under another mask, on either side
pub within_first : (mask value other : ℕ) → IsWithinMask mask value → IsWithinMask mask (bit_and value other)
within_first mask value other h =
    and_assoc mask value other ∙ ap (bit_and value) (and_comm other mask) ∙ sym (and_assoc other value mask)
    ∙ ap (λ v. bit_and v other) h

pub within_second : (mask value other : ℕ) → IsWithinMask mask other → IsWithinMask mask (bit_and value other)
within_second mask value other h = and_assoc mask value other ∙ ap (bit_and value) h

-- what is within a mask is within a larger one
pub within_larger : (mask larger value : ℕ) → bit_and mask larger ≡ mask → IsWithinMask mask value
    → IsWithinMask larger value
within_larger mask larger value part h =
    ap (λ v. bit_and v larger) (sym h) ∙ and_assoc larger value mask ∙ ap (bit_and value) part ∙ h

either_within : (m a b : ℕ) → min a m ≡ a → min b m ≡ b → min (max a b) m ≡ max a b
either_within m a b here there = omega arith

-- so is what has the bits of two values that are
pub within_or : (mask a b : ℕ) → IsWithinMask mask a → IsWithinMask mask b → IsWithinMask mask (bit_or a b)
within_or mask a b here there = same_from_bits _ _ (λ i.
    bit_at_and (bit_or a b) mask i
    ∙ ap (λ v. min v (bit_at mask i)) (bit_at_or a b i)
    ∙ either_within (bit_at mask i) (bit_at a i) (bit_at b i) (sym (bit_at_and a mask i) ∙ ap (λ v. bit_at v i) here)
    (sym (bit_at_and b mask i) ∙ ap (λ v. bit_at v i) there)
    ∙ sym (bit_at_or a b i))

-- the bits of a merged value
bit_of_merged : (mask old value i : ℕ) → mask < 2 ^ 64 → i < 64
    → bit_at (masked_update mask old value) i
    ≡ max (min (bit_at old i) (1 - bit_at mask i)) (min (bit_at value i) (bit_at mask i))
unfolding masked_update
bit_of_merged mask old value i small inside =
    bit_at_or (bit_and old (2 ^ 64 - 1 - mask)) (bit_and value mask) i
    ∙ ap (λ v. max v (bit_at (bit_and value mask) i))
    (bit_at_and old (2 ^ 64 - 1 - mask) i ∙ ap (min (bit_at old i)) (bit_at_not w64 mask i small inside))
    ∙ ap (max (min (bit_at old i) (1 - bit_at mask i))) (bit_at_and value mask i)

taken : (m a b : ℕ) → m ≡ 1 → b < 2 → max (min a (1 - m)) (min b m) ≡ b
taken m a b is few = omega arith

kept : (m a b : ℕ) → m ≡ 0 → a < 2 → max (min a (1 - m)) (min b m) ≡ a
kept m a b is few = omega arith

-- a bit of the mask is taken, any other is kept
pub bit_taken : (mask old value i : ℕ) → mask < 2 ^ 64 → i < 64 → bit_at mask i ≡ 1
    → bit_at (masked_update mask old value) i ≡ bit_at value i
bit_taken mask old value i small inside is =
    bit_of_merged mask old value i small inside ∙ taken _ _ _ is (bit_at-lt value i)

pub bit_kept : (mask old value i : ℕ) → mask < 2 ^ 64 → i < 64 → bit_at mask i ≡ 0
    → bit_at (masked_update mask old value) i ≡ bit_at old i
bit_kept mask old value i small inside is =
    bit_of_merged mask old value i small inside ∙ kept _ _ _ is (bit_at-lt old i)

cases : (n : ℕ) → n < 2 → ((n ≡ 1) × ((n == 1) ≡ true)) ⊎ ((n ≡ 0) × ((n == 1) ≡ false))
cases n few = elim (cases_eq n 1) [
  | inl one ↦ inl (one, ap (λ k. k == 1) one)
  | inr other ↦ let none : n ≡ 0 = omega arith in inr (none, ap (λ k. k == 1) none)
]

pub merges : (mask old value : ℕ) → mask < 2 ^ 64 → (bit : ℕ) → bit < 64
    → bit_at (masked_update mask old value) bit ≡ (if bit_is_set mask bit then bit_at value bit else bit_at old bit)
merges mask old value small bit inside = elim (cases (bit_at mask bit) (bit_at-lt mask bit)) [
  | inl is ↦
      bit_taken mask old value bit small inside is.0
      ∙ ap (λ b. if b then bit_at value bit else bit_at old bit) (sym is.1)
  | inr is ↦
      bit_kept mask old value bit small inside is.0
      ∙ ap (λ b. if b then bit_at value bit else bit_at old bit) (sym is.1)
]

-- a bit that a mask leaves out is 0 under it
pub out_of : (value mask i : ℕ) → bit_at mask i ≡ 0 → bit_at (bit_and value mask) i ≡ 0
out_of value mask i none = bit_at_and value mask i ∙ ap (min (bit_at value i)) none ∙ none_of_two (bit_at value i)
  where
    none_of_two : (n : ℕ) → min n 0 ≡ 0
    none_of_two n = omega arith

-- bits that the mask leaves out stay, taken together
pub merged_keeps : (mask old value rest : ℕ) → mask < 2 ^ 64 → rest < 2 ^ 64 → bit_and mask rest ≡ 0
    → bit_and (masked_update mask old value) rest ≡ bit_and old rest
unfolding masked_update
merged_keeps mask old value rest small fits none =
    let new : bit_and (bit_and value mask) rest ≡ 0 =
    and_assoc rest value mask ∙ ap (bit_and value) none ∙ and_zero_r value in
    let low : mask ≤ 2 ^ 64 - 1 = omega arith in
    let high : rest ≤ 2 ^ 64 - 1 = omega arith in
    and_or_apart rest (bit_and old (2 ^ 64 - 1 - mask)) (bit_and value mask) new
    ∙ and_not_apart old (2 ^ 64 - 1) mask rest refl low high none

none_of_none : (n : ℕ) → min 0 n ≡ 0
none_of_none n = omega arith

-- no bit is both in a mask and out of it
pub apart_from_rest : (mask : ℕ) → mask < 2 ^ 64 → bit_and mask (all_bits - mask) ≡ 0
apart_from_rest mask small = same_from_bits _ _ (λ i. elim (cases_lt i 64) [
  | inl inside ↦
      bit_at_and mask (all_bits - mask) i ∙ ap (min (bit_at mask i)) (bit_at_not w64 mask i small inside)
      ∙ no_bit_twice (bit_at mask i) (bit_at-lt mask i) ∙ sym (bit_at-zero i)
  | inr above ↦
      bit_at_and mask (all_bits - mask) i ∙ ap (λ v. min v (bit_at (all_bits - mask) i)) (bit_at_above mask 64 i small above)
      ∙ none_of_none (bit_at (all_bits - mask) i) ∙ sym (bit_at-zero i)
])
  where
    no_bit_twice : (b : ℕ) → b < 2 → min b (1 - b) ≡ 0
    no_bit_twice b few = omega arith

-- nor is a bit of what is under a mask
pub under_apart : (value mask : ℕ) → mask < 2 ^ 64 → bit_and (bit_and value mask) (all_bits - mask) ≡ 0
under_apart value mask small =
    and_assoc (all_bits - mask) value mask ∙ ap (bit_and value) (apart_from_rest mask small) ∙ and_zero_r value

-- a value that has no bit of a mask is within the rest
pub within_rest : (value mask : ℕ) → value < 2 ^ 64 → mask < 2 ^ 64 → bit_and value mask ≡ 0
    → IsWithinMask (all_bits - mask) value
within_rest value mask fits small none = same_from_bits _ _ (λ i. elim (cases_lt i 64) [
  | inl inside ↦
      let apart : min (bit_at value i) (bit_at mask i) ≡ 0 =
      sym (bit_at_and value mask i) ∙ ap (λ v. bit_at v i) none ∙ bit_at-zero i in
      bit_at_and value (all_bits - mask) i ∙ ap (min (bit_at value i)) (bit_at_not w64 mask i small inside)
      ∙ all_kept (bit_at value i) (bit_at mask i) (bit_at-lt value i) apart
  | inr above ↦
      let gone : bit_at value i ≡ 0 = bit_at_above value 64 i fits above in
      bit_at_and value (all_bits - mask) i ∙ ap (λ v. min v (bit_at (all_bits - mask) i)) gone
      ∙ none_of_none (bit_at (all_bits - mask) i) ∙ sym gone
])
  where
    all_kept : (a m : ℕ) → a < 2 → min a m ≡ 0 → min a (1 - m) ≡ a
    all_kept a m few apart = omega arith

-- a value with some of its own bits is itself
pub absorbed : (a m : ℕ) → bit_or a (bit_and m a) ≡ a
absorbed a m = same_from_bits _ _ (λ i.
    bit_at_or a (bit_and m a) i ∙ ap (max (bit_at a i)) (bit_at_and m a i) ∙ most (bit_at a i) (bit_at m i))
  where
    most : (n k : ℕ) → max n (min k n) ≡ n
    most n k = omega arith

-- a bit that either of two values has is one of both
pub bit_of_first : (a b i : ℕ) → bit_at a i ≡ 1 → bit_at (bit_or a b) i ≡ 1
bit_of_first a b i is = bit_at_or a b i ∙ ap (λ v. max v (bit_at b i)) is ∙ most (bit_at b i) (bit_at-lt b i)
  where
    most : (n : ℕ) → n < 2 → max 1 n ≡ 1
    most n few = omega arith

-- and one that neither has is of none
pub bit_of_neither : (a b i : ℕ) → bit_at a i ≡ 0 → bit_at b i ≡ 0 → bit_at (bit_or a b) i ≡ 0
bit_of_neither a b i one other = bit_at_or a b i ∙ ap (λ v. max v (bit_at b i)) one ∙ ap (max 0) other

-- under two masks, the first of which leaves a bit out
pub out_of_first : (value mask i : ℕ) → bit_at value i ≡ 0 → bit_at (bit_and value mask) i ≡ 0
out_of_first value mask i none =
    bit_at_and value mask i ∙ ap (λ v. min v (bit_at mask i)) none ∙ none_of_none (bit_at mask i)

-- what is merged has 64 bits
pub merged_fits : (mask old value : ℕ) → mask < 2 ^ 64 → masked_update mask old value < 2 ^ 64
unfolding masked_update
merged_fits mask old value small =
    or_lt 64 (bit_and old (all_bits - mask)) (bit_and value mask)
    (omega (arith, and_le_r old (all_bits - mask))) (omega (arith, and_le_r value mask, small))

-- MPP by its bits
pub mpp_bits : (status : ℕ) → mpp_of status ≡ bit_at status 11 + 2 * bit_at status 12
mpp_bits status = omega arith
