-- The bits of registers that a core chooses.
use Rattle.std.proofs.Common.{◌≡◌, ℕ, ◌-◌, ◌%◌, ◌<◌, ◌^◌, ◌==◌, bit_and, bit_or, nat_lt, refl, ap, ◌∙◌, sym, arith}
use Rattle.std.proofs.Common.{inl, slice_index, subst}
use Rattle.std.specs.Int.{bit_at}
use Rattle.std.specs.Int.Bits.{and_comm, and_le_l, and_le_r, and_zero_r, or_comm, or_lt}
use Rattle.std.proofs.lemmas.Bool.Decides.{Decides-eqb, Decides-ltb}
use Rattle.std.proofs.lemmas.Nat.{and_assoc, and_mask, and_or_self}
use Rattle.csr_file.specs.declared.stored_csr.StoredCsr.{StoredCsr}
use Rattle.csr_file.specs.declared.stored_csr.StoredCsr.TheVariants.{Mstatus, Satp}
use Rattle.csr_file.specs.declared.stored_row.FieldRule.TheVariants.{TranslationMode}
use Rattle.csr_file.specs.declared.profile.CsrProfile.{CsrProfile}
use Rattle.csr_file.specs.Fields.{all_bits}
use Rattle.csr_file.specs.Table.{held, stored_index_of, stored_row_of}
use Rattle.csr_file.specs.Profiles.{chosen_bits, fixable_bits, fixed_bits, least_bits, most_bits, plain_profile}
use Rattle.csr_file.specs.Profiles.{writable_bits}
use Rattle.csr_file.specs.Legal.{FollowsRule, KeepsFixed}
use Rattle.csr_file.specs.Laws.{IsAsTheTable}
use Rattle.csr_file.proofs.Bits.{IsWithinMask, absorbed, bit_of_first, bit_of_neither, mpp_bits, out_of, out_of_first}
use Rattle.csr_file.proofs.Bits.{within_first, within_mask, within_or, within_rest}
use Rattle.csr_file.proofs.Places.{of_each}

-- ---- each row by itself

least_fits : (stored : StoredCsr) → least_bits stored < 2 ^ 64
least_fits stored = (Decides-ltb _ _).0 (of_each (λ one. nat_lt (least_bits one) (2 ^ 64)) refl stored)

most_fits : (stored : StoredCsr) → most_bits stored < 2 ^ 64
most_fits stored = (Decides-ltb _ _).0 (of_each (λ one. nat_lt (most_bits one) (2 ^ 64)) refl stored)

constant_fits : (stored : StoredCsr) → (stored_row_of stored).constant < 2 ^ 64
constant_fits stored = (Decides-ltb _ _).0 (of_each (λ one. nat_lt (stored_row_of one).constant (2 ^ 64)) refl stored)

-- what must be is what may be
least_within : (stored : StoredCsr) → IsWithinMask (most_bits stored) (least_bits stored)
least_within stored =
    (Decides-eqb _ _).0 (of_each (λ one. bit_and (least_bits one) (most_bits one) == least_bits one) refl stored)

-- no write may change a constant
constant_apart : (stored : StoredCsr) → bit_and (stored_row_of stored).constant (most_bits stored) ≡ 0
constant_apart stored =
    (Decides-eqb _ _).0 (of_each (λ one. bit_and (stored_row_of one).constant (most_bits one) == 0) refl stored)

-- ---- what a core makes of a row

chosen_fits : (profile : CsrProfile) (stored : StoredCsr) → chosen_bits profile stored < 2 ^ 64
chosen_fits profile stored =
    let mask = slice_index profile.masks (stored_index_of stored) in
    or_lt 64 (least_bits stored) (bit_and mask (most_bits stored)) (least_fits stored)
    (omega (arith, and_le_r mask (most_bits stored), most_fits stored))

-- the bits that a write changes are bits of a word
pub writable_fits : (profile : CsrProfile) (stored : StoredCsr) → writable_bits profile stored < 2 ^ 64
unfolding writable_bits
writable_fits profile stored =
    let rest = all_bits - bit_and profile.lines (stored_row_of stored).lines in
    omega (arith, and_le_l (chosen_bits profile stored) rest, chosen_fits profile stored)

-- where no bit may be a line, the core's choice is what a write changes
pub without_lines : (profile : CsrProfile) (stored : StoredCsr) → (stored_row_of stored).lines ≡ 0
    → writable_bits profile stored ≡ chosen_bits profile stored
unfolding writable_bits
without_lines profile stored none =
    let all = chosen_bits profile stored in
    let fits = chosen_fits profile stored in
    let same : all % 2 ^ 64 ≡ all = omega (arith, fits) in
    ap (λ lines. bit_and all (all_bits - bit_and profile.lines lines)) none
    ∙ ap (λ lines. bit_and all (all_bits - lines)) (and_zero_r profile.lines)
    ∙ and_mask all 64 ∙ same

-- a bit that a core must let writes change
pub least_is_writable : (profile : CsrProfile) (stored : StoredCsr) (i : ℕ) → (stored_row_of stored).lines ≡ 0
    → bit_at (least_bits stored) i ≡ 1 → bit_at (writable_bits profile stored) i ≡ 1
least_is_writable profile stored i none is =
    ap (λ writable. bit_at writable i) (without_lines profile stored none)
    ∙ bit_of_first (least_bits stored) (bit_and (slice_index profile.masks (stored_index_of stored)) (most_bits stored))
    i is

-- all of them together
pub least_stays : (profile : CsrProfile) (stored : StoredCsr) → (stored_row_of stored).lines ≡ 0
    → IsWithinMask (writable_bits profile stored) (least_bits stored)
least_stays profile stored none =
    let least = least_bits stored in
    let more = bit_and (slice_index profile.masks (stored_index_of stored)) (most_bits stored) in
    ap (bit_and least) (without_lines profile stored none)
    ∙ and_comm least (bit_or least more) ∙ ap (λ v. bit_and v least) (or_comm least more) ∙ and_or_self least more

writable_within : (profile : CsrProfile) (stored : StoredCsr) → IsWithinMask (most_bits stored) (writable_bits profile stored)
unfolding writable_bits
writable_within profile stored =
    within_first (most_bits stored) (chosen_bits profile stored) _
    (within_or (most_bits stored) (least_bits stored) _ (least_within stored)
    (within_mask (most_bits stored) (slice_index profile.masks (stored_index_of stored))))

-- the bits that are always 1 are out of what writes change
constant_within : (profile : CsrProfile) (stored : StoredCsr)
    → IsWithinMask (all_bits - writable_bits profile stored) (stored_row_of stored).constant
constant_within profile stored =
    let writable = writable_bits profile stored in
    let constant = (stored_row_of stored).constant in
    let none : bit_and constant writable ≡ 0 =
    ap (bit_and constant) (sym (writable_within profile stored) ∙ and_comm writable (most_bits stored))
    ∙ sym (and_assoc writable constant (most_bits stored)) ∙ ap (λ v. bit_and v writable) (constant_apart stored)
    ∙ and_comm 0 writable ∙ and_zero_r writable in
    within_rest constant writable (constant_fits stored) (writable_fits profile stored) none

pub fixed_keeps : (profile : CsrProfile) (stored : StoredCsr) → KeepsFixed profile stored (fixed_bits profile stored)
unfolding fixed_bits
fixed_keeps profile stored =
    within_or (all_bits - writable_bits profile stored) (stored_row_of stored).constant _ (constant_within profile stored)
    (within_mask (all_bits - writable_bits profile stored)
    (bit_and (slice_index profile.fixed (stored_index_of stored)) (fixable_bits stored)))

-- they are bits of a word
pub fixed_fits : (profile : CsrProfile) (stored : StoredCsr) → fixed_bits profile stored < 2 ^ 64
unfolding fixed_bits
fixed_fits profile stored =
    let said = bit_and (slice_index profile.fixed (stored_index_of stored)) (fixable_bits stored) in
    or_lt 64 (stored_row_of stored).constant (bit_and said (all_bits - writable_bits profile stored)) (constant_fits stored)
    (omega (arith, and_le_r said (all_bits - writable_bits profile stored)))

no_bits : (said rest : ℕ) → bit_or 0 (bit_and (bit_and said 0) rest) ≡ 0
no_bits said rest =
    ap (λ v. bit_or 0 (bit_and v rest)) (and_zero_r said) ∙ ap (bit_or 0) (and_comm 0 rest ∙ and_zero_r rest)

-- a register whose bits no core chooses
pub held_writable : (profile : CsrProfile) (stored : StoredCsr) (mask : ℕ) → stored_row_of stored ≡ held mask
    → writable_bits profile stored ≡ mask
held_writable profile stored mask is =
    let said = slice_index profile.masks (stored_index_of stored) in
    without_lines profile stored (ap (λ row. row.lines) is)
    ∙ ap (λ row. bit_or row.least (bit_and said row.most)) is ∙ absorbed mask said

pub held_fixed : (profile : CsrProfile) (stored : StoredCsr) (mask : ℕ) → stored_row_of stored ≡ held mask
    → fixed_bits profile stored ≡ 0
unfolding fixed_bits
held_fixed profile stored mask is =
    let said = slice_index profile.fixed (stored_index_of stored) in
    let rest = all_bits - writable_bits profile stored in
    ap (λ row. bit_or row.constant (bit_and (bit_and said row.fixable) rest)) is ∙ no_bits said rest

-- the fields of the bits that are always 1
fixed_status : (profile : CsrProfile) → FollowsRule (stored_row_of Mstatus).rule (fixed_bits profile Mstatus)
unfolding fixed_bits
fixed_status profile = λ two.
    let low = no_bit 11 refl refl in
    let high = no_bit 12 refl refl in
    let none = mpp_bits (fixed_bits profile Mstatus) in
    omega (arith, none, low, high, two)
  where
    no_bit : (i : ℕ) → bit_at (stored_row_of Mstatus).constant i ≡ 0 → bit_at (fixable_bits Mstatus) i ≡ 0
        → bit_at (fixed_bits profile Mstatus) i ≡ 0
    no_bit i constant fixable =
        bit_of_neither (stored_row_of Mstatus).constant _ i constant
        (out_of_first (bit_and (slice_index profile.fixed (stored_index_of Mstatus)) (fixable_bits Mstatus)) _ i
        (out_of (slice_index profile.fixed (stored_index_of Mstatus)) (fixable_bits Mstatus) i fixable))

fixed_translation : (profile : CsrProfile) → FollowsRule (stored_row_of Satp).rule (fixed_bits profile Satp)
unfolding fixed_bits
fixed_translation profile =
    let none : fixed_bits profile Satp ≡ 0 = no_bits (slice_index profile.fixed (stored_index_of Satp)) (all_bits - writable_bits profile Satp) in
    subst (FollowsRule TranslationMode) (sym none) (inl refl)

pub fixed_rule : (profile : CsrProfile) (stored : StoredCsr)
    → FollowsRule (stored_row_of stored).rule (fixed_bits profile stored)
fixed_rule profile Mstatus = fixed_status profile
fixed_rule profile Satp = fixed_translation profile
fixed_rule profile _ = tt

-- where nothing is said, the table stands
pub as_the_table : (stored : StoredCsr) → IsAsTheTable stored
unfolding plain_profile writable_bits fixed_bits
as_the_table Mstatus = (refl, refl)
as_the_table _ = (refl, refl)
