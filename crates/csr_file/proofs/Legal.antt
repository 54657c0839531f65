-- What is written can be stored, so that registers stay legal.
use Rattle.std.proofs.Common.{◌≡◌, ◌≢◌, ◌⊎◌, inl, inr, ℕ, ◌+◌, ◌-◌, ◌*◌, ◌^◌, ◌<◌, Bool, true, false, ◌==◌, refl}
use Rattle.std.proofs.Common.{ap, ◌∙◌, sym, subst, lit<, arith, bit_and, length-set, if◌then◌else◌}
use Rattle.std.specs.Int.{bit_at}
use Rattle.std.specs.Int.Bits.{and_comm, and_le_r}
use Rattle.std.proofs.lemmas.Nat.{and_assoc}
use Rattle.std.proofs.lemmas.Bool.{cases_eq}
use Rattle.std.proofs.lemmas.Bool.Decides.{nat_tests}
use Rattle.csr_table.specs.declared.registers.Csr.{Csr}
use Rattle.csr_table.specs.declared.registers.Csr.TheVariants as csr
use Rattle.csr_file.specs.declared.csrs.Csrs.{Csrs}
use Rattle.csr_file.specs.declared.stored_csr.StoredCsr.{StoredCsr}
use Rattle.csr_file.specs.declared.stored_csr.StoredCsr.TheVariants.{Mstatus, Mideleg, Mie, Mip, Satp}
use Rattle.csr_file.specs.declared.stored_row.FieldRule.{FieldRule}
use Rattle.csr_file.specs.declared.stored_row.FieldRule.TheVariants.{Free, PreviousMode, TranslationMode}
use Rattle.csr_file.specs.declared.csr_kind.CsrKind.{CsrKind}
use Rattle.csr_file.specs.declared.csr_kind.CsrKind.TheVariants.{Stored, Status, Pending, SupervisorStatus}
use Rattle.csr_file.specs.declared.csr_kind.CsrKind.TheVariants.{SupervisorEnables, SupervisorPending, Translation}
use Rattle.csr_file.specs.declared.csr_kind.CsrKind.TheVariants.{LowConfigurations, HighConfigurations, EntryAddress}
use Rattle.csr_file.specs.declared.csr_kind.CsrKind.TheVariants.{Constant, ImplementationDefined, Counter}
use Rattle.csr_file.specs.declared.profile.CsrProfile.{CsrProfile}
use Rattle.csr_file.specs.Registers.{at, with_at, csrs_at_reset_of}
use Rattle.csr_file.specs.declared.fields.TheConstants.{BARE, SV39, MPP}
use Rattle.csr_file.specs.Fields.{all_bits, field_bits, is_supported_mode, masked_update, mpp_of, satp_mode_of}
use Rattle.csr_file.specs.Table.{csr_kind_of, sip_writable, sstatus_writable, stored_index_of, stored_row_of}
use Rattle.csr_file.specs.Profiles.{fixed_bits, is_from_row, kind_in, presence_of, writable_bits}
use Rattle.csr_file.specs.Values.{csr_write_of, status_write_of, status_written_bits, stored_write_of}
use Rattle.csr_file.specs.Values.{supervisor_status_bits, translation_write_of}
use Rattle.csr_file.specs.Legal.{FollowsRule, IsLegal, IsLegalValue, KeepsFixed}
use Rattle.csr_file.proofs.Places.{at_list, at_same, at_other, same_index}
use Rattle.csr_file.proofs.Protection.{configurations_legal, address_legal, reset_entries_legal, reset_missing}
use Rattle.csr_file.proofs.Profiles.{fixed_keeps, fixed_rule, least_is_writable, writable_fits}
use Rattle.csr_file.proofs.Bits.{apart_from_rest, bit_kept, bit_taken, merged_fits, merged_keeps, mpp_bits, out_of}
use Rattle.csr_file.proofs.Bits.{out_of_first, under_apart}

-- a value that a register can have keeps all registers legal
pub legal_with : (csrs : Csrs) (stored : StoredCsr) (value : ℕ) → IsLegal csrs → IsLegalValue csrs.profile stored value
    → IsLegal (with_at csrs stored value)
unfolding with_at
legal_with csrs stored value legal can = record {
  whole = length-set csrs.values (stored_index_of stored) value ∙ legal.whole;
  values = λ other. elim (cases_eq (stored_index_of other) (stored_index_of stored)) [
    | inl same ↦ let e : other ≡ stored = same_index other stored same in
        subst (λ h. IsLegalValue csrs.profile h (at (with_at csrs stored value) h)) (sym e)
        (subst (IsLegalValue csrs.profile stored) (sym (at_same csrs stored value legal.whole)) can)
    | inr apart ↦
        subst (IsLegalValue csrs.profile other) (sym (at_other csrs stored other value apart)) (legal.values other)
  ];
  entries = legal.entries;
  missing = legal.missing;
}

-- what is written under a mask of bits that a write may change keeps those that it may not
pub merged_fixed : (profile : CsrProfile) (stored : StoredCsr) (mask old value : ℕ) → mask < 2 ^ 64
    → bit_and mask (all_bits - writable_bits profile stored) ≡ 0 → KeepsFixed profile stored old
    → KeepsFixed profile stored (masked_update mask old value)
merged_fixed profile stored mask old value small apart keeps =
    merged_keeps mask old value (all_bits - writable_bits profile stored) small (omega arith) apart ∙ keeps

-- mstatus keeps what it is where MPP is left out, or takes no 2
pub status_without_mpp : {profile : CsrProfile} {old : ℕ} (mask value : ℕ) → mask < 2 ^ 64
    → bit_and mask (all_bits - writable_bits profile Mstatus) ≡ 0 → bit_at mask 11 ≡ 0 → bit_at mask 12 ≡ 0
    → IsLegalValue profile Mstatus old → IsLegalValue profile Mstatus (masked_update mask old value)
status_without_mpp {profile} {old} mask value small apart low high legal = record {
  constant = merged_fixed profile Mstatus mask old value small apart legal.constant;
  rule = λ two. legal.rule (
      mpp_bits old
      ∙ ap (λ b. b + 2 * bit_at old 12) (sym (bit_kept mask old value 11 small (lit< tt) low))
      ∙ ap (λ b. bit_at (masked_update mask old value) 11 + 2 * b)
      (sym (bit_kept mask old value 12 small (lit< tt) high))
      ∙ sym (mpp_bits (masked_update mask old value)) ∙ two);
}

pub status_with_mpp : {profile : CsrProfile} {old : ℕ} (mask value : ℕ) → mask < 2 ^ 64
    → bit_and mask (all_bits - writable_bits profile Mstatus) ≡ 0
    → bit_at mask 11 ≡ 1 → bit_at mask 12 ≡ 1 → mpp_of value ≢ 2 → IsLegalValue profile Mstatus old
    → IsLegalValue profile Mstatus (masked_update mask old value)
status_with_mpp {profile} {old} mask value small apart low high mode legal = record {
  constant = merged_fixed profile Mstatus mask old value small apart legal.constant;
  rule = λ two. mode (
      mpp_bits value
      ∙ ap (λ b. b + 2 * bit_at value 12) (sym (bit_taken mask old value 11 small (lit< tt) low))
      ∙ ap (λ b. bit_at (masked_update mask old value) 11 + 2 * b)
      (sym (bit_taken mask old value 12 small (lit< tt) high))
      ∙ sym (mpp_bits (masked_update mask old value)) ∙ two);
}

differs : (a b : ℕ) → (a == b) ≡ false → a ≢ b
differs a b off same = grind (arith, nat_tests)

-- mstatus under what a write of it changes, without MPP or with it
status_by : (profile : CsrProfile) (old value : ℕ) (two : Bool) → (mpp_of value == 2) ≡ two → IsLegalValue profile Mstatus old
    → IsLegalValue profile Mstatus (masked_update
    (if two then bit_and (writable_bits profile Mstatus) (all_bits - field_bits MPP 2) else writable_bits profile Mstatus)
    old value)
status_by profile old value true is legal =
    let writable = writable_bits profile Mstatus in
    let small = writable_fits profile Mstatus in
    let rest : ℕ = all_bits - field_bits MPP 2 in
    status_without_mpp (bit_and writable rest) value (omega (arith, and_le_r writable rest))
    (ap (λ mask. bit_and mask (all_bits - writable)) (and_comm writable rest) ∙ under_apart rest writable small)
    (out_of writable rest 11 refl) (out_of writable rest 12 refl) legal
status_by profile old value false is legal =
    status_with_mpp (writable_bits profile Mstatus) value (writable_fits profile Mstatus)
    (apart_from_rest (writable_bits profile Mstatus) (writable_fits profile Mstatus))
    (least_is_writable profile Mstatus 11 refl refl) (least_is_writable profile Mstatus 12 refl refl)
    (differs _ _ is) legal

status_written : (profile : CsrProfile) (old value : ℕ) → IsLegalValue profile Mstatus old
    → IsLegalValue profile Mstatus (masked_update (status_written_bits profile value) old value)
status_written profile old value legal = status_by profile old value (mpp_of value == 2) refl legal

supervisor_status : (profile : CsrProfile) (old value : ℕ) → IsLegalValue profile Mstatus old
    → IsLegalValue profile Mstatus (masked_update (supervisor_status_bits profile) old value)
supervisor_status profile old value legal =
    let writable = writable_bits profile Mstatus in
    status_without_mpp (bit_and sstatus_writable writable) value
    (omega (arith, and_le_r sstatus_writable writable, writable_fits profile Mstatus))
    (under_apart sstatus_writable writable (writable_fits profile Mstatus))
    (out_of_first sstatus_writable writable 11 refl) (out_of_first sstatus_writable writable 12 refl) legal

-- what a write leaves in a register of which nothing else is asked
written : (csrs : Csrs) (stored : StoredCsr) (value : ℕ) → KeepsFixed csrs.profile stored (at csrs stored)
    → KeepsFixed csrs.profile stored (masked_update (writable_bits csrs.profile stored) (at csrs stored) value)
written csrs stored value keeps =
    let small = writable_fits csrs.profile stored in
    merged_fixed csrs.profile stored (writable_bits csrs.profile stored) (at csrs stored) value small
    (apart_from_rest (writable_bits csrs.profile stored) small) keeps

-- the same under a smaller mask
part_written : (csrs : Csrs) (stored : StoredCsr) (part value : ℕ) → KeepsFixed csrs.profile stored (at csrs stored)
    → KeepsFixed csrs.profile stored
    (masked_update (bit_and part (writable_bits csrs.profile stored)) (at csrs stored) value)
part_written csrs stored part value keeps =
    let writable = writable_bits csrs.profile stored in
    let small = writable_fits csrs.profile stored in
    merged_fixed csrs.profile stored (bit_and part writable) (at csrs stored) value (omega (arith, and_le_r part writable, small))
    (under_apart part writable small) keeps

-- satp takes a mode that the hart has, or keeps what it is
one_of_two : (mode : ℕ) → is_supported_mode mode ≡ true → (mode ≡ BARE) ⊎ (mode ≡ SV39)
one_of_two mode supported = grind (arith, nat_tests, supported)

top_bits : (n : ℕ) → n < 2 ^ 64
    → satp_mode_of n ≡ bit_at n 60 + 2 * bit_at n 61 + 4 * bit_at n 62 + 8 * bit_at n 63
top_bits n small = omega (arith, small)

mode_taken : (profile : CsrProfile) (old value : ℕ) → satp_mode_of value < 16
    → satp_mode_of (masked_update (writable_bits profile Satp) old value) ≡ satp_mode_of value
mode_taken profile old value few =
    let mask = writable_bits profile Satp in
    let small = writable_fits profile Satp in
    let taken : (i : ℕ) → i < 64 → bit_at mask i ≡ 1 → bit_at (masked_update mask old value) i ≡ bit_at value i =
    λ i inside is. bit_taken mask old value i small inside is in
    let one = taken 60 (lit< tt) (least_is_writable profile Satp 60 refl refl) in
    let two = taken 61 (lit< tt) (least_is_writable profile Satp 61 refl refl) in
    let three = taken 62 (lit< tt) (least_is_writable profile Satp 62 refl refl) in
    let four = taken 63 (lit< tt) (least_is_writable profile Satp 63 refl refl) in
    let fits : value < 2 ^ 64 = omega (arith, few) in
    top_bits (masked_update mask old value) (merged_fits mask old value small)
    ∙ rw (one, two, three, four) (sym (top_bits value fits))

supported_legal : (csrs : Csrs) (value : ℕ) → (satp_mode_of value ≡ BARE) ⊎ (satp_mode_of value ≡ SV39)
    → IsLegalValue csrs.profile Satp (at csrs Satp)
    → IsLegalValue csrs.profile Satp (masked_update (writable_bits csrs.profile Satp) (at csrs Satp) value)
supported_legal csrs value (inl bare) legal =
    let same = mode_taken csrs.profile (at csrs Satp) value (omega (arith, bare)) in
    record { constant = written csrs Satp value legal.constant; rule = inl (same ∙ bare) }
supported_legal csrs value (inr sv39) legal =
    let same = mode_taken csrs.profile (at csrs Satp) value (omega (arith, sv39)) in
    record { constant = written csrs Satp value legal.constant; rule = inr (same ∙ sv39) }

translation_by : (csrs : Csrs) (value : ℕ) (supported : Bool) → is_supported_mode (satp_mode_of value) ≡ supported
    → IsLegal csrs → IsLegal (if supported then stored_write_of csrs Satp value else csrs)
unfolding stored_write_of
translation_by csrs value true is legal =
    legal_with csrs Satp _ legal
    (supported_legal csrs value (one_of_two (satp_mode_of value) is) (legal.values Satp))
translation_by csrs value false is legal = legal

translation_legal : (csrs : Csrs) (value : ℕ) → IsLegal csrs → IsLegal (translation_write_of csrs value)
unfolding translation_write_of
translation_legal csrs value legal = translation_by csrs value (is_supported_mode (satp_mode_of value)) refl legal

stored_interrupts : (csrs : Csrs) (value : ℕ) → KeepsFixed csrs.profile Mip (at csrs Mip)
    → KeepsFixed csrs.profile Mip (masked_update
    (bit_and (at csrs Mideleg) (bit_and sip_writable (writable_bits csrs.profile Mip))) (at csrs Mip) value)
stored_interrupts csrs value keeps =
    subst (λ mask. KeepsFixed csrs.profile Mip (masked_update mask (at csrs Mip) value))
    (and_assoc (writable_bits csrs.profile Mip) (at csrs Mideleg) sip_writable)
    (part_written csrs Mip (bit_and (at csrs Mideleg) sip_writable) value keeps)

-- a register of which nothing is asked but that it keeps what no write changes
abbrev is_free : FieldRule → Bool
is_free Free = true
is_free _ = false

abbrev is_free_kind : CsrKind → Bool
is_free_kind (Stored stored) = is_free (stored_row_of stored).rule
is_free_kind _ = true

-- only those are written as they are
kinds_free : (csr : Csr) → is_free_kind (csr_kind_of csr) ≡ true
unfolding csr_kind_of
kinds_free csr.Misa = refl
kinds_free _ = refl

free_rule : (rule : FieldRule) (value : ℕ) → is_free rule ≡ true → FollowsRule rule value
free_rule Free value is = tt
free_rule PreviousMode value is = absurd cc
free_rule TranslationMode value is = absurd cc

free_legal : (csrs : Csrs) (stored : StoredCsr) (value : ℕ) → is_free (stored_row_of stored).rule ≡ true
    → IsLegal csrs → KeepsFixed csrs.profile stored value → IsLegal (with_at csrs stored value)
free_legal csrs stored value free legal keeps =
    legal_with csrs stored value legal
    (record { constant = keeps; rule = free_rule (stored_row_of stored).rule value free })

by_kind : (csrs : Csrs) (kind : CsrKind) (value : ℕ) → is_free_kind kind ≡ true → IsLegal csrs
    → IsLegal (csr_write_of csrs kind value)
unfolding csr_write_of status_write_of stored_write_of
by_kind csrs (Stored stored) value free legal =
    free_legal csrs stored _ free legal (written csrs stored value (legal.values stored).constant)
by_kind csrs Status value free legal =
    legal_with csrs Mstatus _ legal (status_written csrs.profile (at csrs Mstatus) value (legal.values Mstatus))
by_kind csrs Pending value free legal =
    free_legal csrs Mip _ refl legal (written csrs Mip value (legal.values Mip).constant)
by_kind csrs SupervisorStatus value free legal =
    legal_with csrs Mstatus _ legal (supervisor_status csrs.profile (at csrs Mstatus) value (legal.values Mstatus))
by_kind csrs SupervisorEnables value free legal =
    free_legal csrs Mie _ refl legal (part_written csrs Mie (at csrs Mideleg) value (legal.values Mie).constant)
by_kind csrs SupervisorPending value free legal =
    free_legal csrs Mip _ refl legal (stored_interrupts csrs value (legal.values Mip).constant)
by_kind csrs Translation value free legal = translation_legal csrs value legal
by_kind csrs LowConfigurations value free legal = configurations_legal csrs 0 value legal
by_kind csrs HighConfigurations value free legal = configurations_legal csrs 8 value legal
by_kind csrs (EntryAddress number) value free legal = address_legal csrs number value legal
by_kind csrs (Constant number) value free legal = legal
by_kind csrs ImplementationDefined value free legal = legal
by_kind csrs (Counter bit) value free legal = legal

kind_legal : (csrs : Csrs) (csr : Csr) (value : ℕ) (from_row : Bool) → IsLegal csrs
    → IsLegal (csr_write_of csrs (if from_row then ImplementationDefined else csr_kind_of csr) value)
unfolding csr_write_of
kind_legal csrs csr value true legal = legal
kind_legal csrs csr value false legal = by_kind csrs (csr_kind_of csr) value (kinds_free csr) legal

pub write_legal : (csrs : Csrs) (csr : Csr) (value : ℕ) → IsLegal csrs
    → IsLegal (csr_write_of csrs (kind_in csrs.profile csr) value)
unfolding kind_in
write_legal csrs csr value legal =
    kind_legal csrs csr value (is_from_row (presence_of csrs.profile csr)) legal

-- at reset each has the bits that are always 1
pub fixed_at : (profile : CsrProfile) (stored : StoredCsr)
    → at (csrs_at_reset_of profile) stored ≡ fixed_bits profile stored
unfolding at csrs_at_reset_of
fixed_at profile stored = at_list (fixed_bits profile) stored

legal_at_reset : (profile : CsrProfile) (stored : StoredCsr)
    → IsLegalValue profile stored (at (csrs_at_reset_of profile) stored)
legal_at_reset profile stored =
    subst (IsLegalValue profile stored) (sym (fixed_at profile stored))
    (record { constant = fixed_keeps profile stored; rule = fixed_rule profile stored })

pub reset_legal : (profile : CsrProfile) → IsLegal (csrs_at_reset_of profile)
unfolding csrs_at_reset_of
reset_legal profile = record {
  whole = refl;
  values = legal_at_reset profile;
  entries = reset_entries_legal profile;
  missing = reset_missing profile;
}
