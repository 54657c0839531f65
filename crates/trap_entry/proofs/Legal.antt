-- Entries and returns keep the registers legal.
use Rattle.std.proofs.Common.{◌≡◌, ◌≢◌, inl, inr, ℕ, ◌+◌, ◌-◌, ◌*◌, ◌%◌, ◌^◌, ◌<◌, Bool, ◌==◌, bit_and}
use Rattle.std.proofs.Common.{slice_index, if◌then◌else◌, refl, ap, ◌∙◌, sym, subst, lit<, arith}
use Rattle.std.specs.Int.{bit_at}
use Rattle.std.specs.Int.Bits.{and_comm, and_le_r}
use Rattle.std.proofs.lemmas.Nat.{and_assoc}
use Rattle.std.proofs.lemmas.Nat.Bits.{bit_at-lt}
use Rattle.std.proofs.lemmas.Bool.{cases_Bool, cases_eq}
use Rattle.hart_words.specs.declared.privilege.Mode.{Mode}
use Rattle.hart_words.specs.declared.privilege.Mode.TheVariants.{User, Supervisor, Machine}
use Rattle.hart_words.specs.Privilege.{mode_number}
use Rattle.csr_file.specs.declared.csrs.Csrs.{Csrs}
use Rattle.csr_file.specs.declared.stored_csr.StoredCsr.TheVariants.{Mstatus, Mepc, Mcause, Mtval, Sepc, Scause, Stval}
use Rattle.csr_file.specs.declared.profile.CsrProfile.{CsrProfile}
use Rattle.csr_file.specs.declared.fields.TheConstants.{MIE, MPIE, SIE, SPIE, MPRV}
use Rattle.csr_file.specs.Registers.{at as value_at, with_at}
use Rattle.csr_file.specs.Fields.{all_bits, masked_update, mpp_of}
use Rattle.csr_file.specs.Table.{status_constant, stored_index_of}
use Rattle.csr_file.specs.Profiles.{fixable_bits, fixed_bits, least_bits, writable_bits}
use Rattle.csr_file.specs.Legal.{IsLegal, IsLegalValue, KeepsFixed}
use Rattle.csr_file.proofs.Bits.{IsWithinMask, merged_keeps, under_apart, within_first, within_larger, within_or}
use Rattle.csr_file.proofs.Bits.{within_second}
use Rattle.csr_file.proofs.Profiles.{least_stays, writable_fits}
use Rattle.csr_file.proofs.LegalTests.{even_legal, whole_legal}
use Rattle.csr_file.proofs.Legal.{legal_with, status_with_mpp, status_without_mpp}
use Rattle.trap_entry.specs.Entries.{machine_stack, supervisor_stack, status_into_machine, status_into_supervisor}
use Rattle.trap_entry.specs.Entries.{enter_machine_of, enter_supervisor_of}
use Rattle.trap_entry.specs.Returns.{machine_stack_and_mprv, supervisor_stack_and_mprv, status_by_mret, status_by_sret}
use Rattle.trap_entry.specs.Returns.{mret_of, sret_of}
use Rattle.trap_entry.proofs.Stacks.{differs, number_fits, machine_mpp, mpp_kept, mpp_taken, mret_mpp}

is_a_mode : (mode : Mode) → mode_number mode ≢ 2
is_a_mode User two = differs 0 2 refl two
is_a_mode Supervisor two = differs 1 2 refl two
is_a_mode Machine two = differs 3 2 refl two

-- the bits of mstatus that no write changes
abbrev kept_bits : CsrProfile → ℕ
kept_bits profile = all_bits - writable_bits profile Mstatus

-- what every core lets writes change is apart from them
part_of_least : (profile : CsrProfile) (mask : ℕ) → IsWithinMask (least_bits Mstatus) mask
    → bit_and mask (kept_bits profile) ≡ 0
part_of_least profile mask part =
    let writable = writable_bits profile Mstatus in
    ap (λ v. bit_and v (all_bits - writable))
    (sym (within_larger (least_bits Mstatus) writable mask (least_stays profile Mstatus refl) part))
    ∙ under_apart mask writable (writable_fits profile Mstatus)

into_machine : {profile : CsrProfile} (status : ℕ) (mode : Mode) → IsLegalValue profile Mstatus status
    → IsLegalValue profile Mstatus (status_into_machine status mode)
unfolding status_into_machine
into_machine {profile} status mode legal =
    status_with_mpp machine_stack _ (lit< tt) (part_of_least profile machine_stack refl) refl refl
    (λ two. is_a_mode mode
    (sym (machine_mpp (bit_at status MIE) (mode_number mode) (bit_at-lt status MIE) (number_fits mode)) ∙ two))
    legal

into_supervisor : {profile : CsrProfile} (status : ℕ) (mode : Mode) → IsLegalValue profile Mstatus status
    → IsLegalValue profile Mstatus (status_into_supervisor status mode)
unfolding status_into_supervisor
into_supervisor {profile} status mode legal =
    status_without_mpp supervisor_stack _ (lit< tt) (part_of_least profile supervisor_stack refl) refl refl legal

-- all bits but MPRV, which a core may keep at 0
abbrev other_bits : ℕ
other_bits = all_bits - 2 ^ MPRV

-- the bits of mstatus that are always 1 are not MPRV
fixed_elsewhere : (profile : CsrProfile) → IsWithinMask other_bits (fixed_bits profile Mstatus)
unfolding fixed_bits
fixed_elsewhere profile =
    let fixed = slice_index profile.fixed (stored_index_of Mstatus) in
    within_or other_bits status_constant _ refl
    (within_first other_bits (bit_and fixed (fixable_bits Mstatus)) (all_bits - writable_bits profile Mstatus)
    (within_second other_bits fixed (fixable_bits Mstatus) refl))

cleared : (mask old value : ℕ) → IsWithinMask other_bits (all_bits - mask) → IsWithinMask other_bits value
    → IsWithinMask other_bits (masked_update mask old value)
unfolding masked_update
cleared mask old value clear zero =
    within_or other_bits (bit_and old (all_bits - mask)) (bit_and value mask)
    (within_second other_bits old (all_bits - mask) clear) (within_first other_bits value mask zero)

-- what clears MPRV leaves the bits that no write changes
clears_mprv : (profile : CsrProfile) (part mask old value : ℕ) → mask < 2 ^ 64
    → bit_and part (kept_bits profile) ≡ 0 → bit_and mask other_bits ≡ part
    → IsWithinMask other_bits (all_bits - mask) → IsWithinMask other_bits value
    → KeepsFixed profile Mstatus old → KeepsFixed profile Mstatus (masked_update mask old value)
clears_mprv profile part mask old value small apart is clear zero keeps =
    let kept = kept_bits profile in
    let rest = bit_and other_bits kept in
    let none : bit_and mask rest ≡ 0 = sym (and_assoc kept mask other_bits) ∙ ap (λ v. bit_and v kept) is ∙ apart in
    let fits : rest < 2 ^ 64 = omega (arith, and_le_r other_bits kept) in
    ap (λ v. bit_and v kept) (sym (cleared mask old value clear zero))
    ∙ and_assoc kept (masked_update mask old value) other_bits
    ∙ merged_keeps mask old value rest small fits none
    ∙ ap (bit_and old) (and_comm other_bits kept) ∙ sym (and_assoc other_bits old kept)
    ∙ ap (λ v. bit_and v other_bits) keeps ∙ fixed_elsewhere profile

-- what MRET and SRET write has not MPRV
mret_clears : (enable : ℕ) → enable < 2 → IsWithinMask other_bits (2 ^ MIE * enable + 2 ^ MPIE)
mret_clears enable few = elim (cases_eq enable 0) [
  | inl none ↦ rw none refl
  | inr other ↦ let one : enable ≡ 1 = omega arith in rw one refl
]

sret_clears : (enable : ℕ) → enable < 2 → IsWithinMask other_bits (2 ^ SIE * enable + 2 ^ SPIE)
sret_clears enable few = elim (cases_eq enable 0) [
  | inl none ↦ rw none refl
  | inr other ↦ let one : enable ≡ 1 = omega arith in rw one refl
]

none_is_not_2 : (n : ℕ) → n ≡ 0 → n ≢ 2
none_is_not_2 n none two = omega arith

to_machine : {profile : CsrProfile} (status : ℕ) → IsLegalValue profile Mstatus status
    → IsLegalValue profile Mstatus (masked_update machine_stack status (2 ^ MIE * bit_at status MPIE + 2 ^ MPIE))
to_machine {profile} status legal =
    status_with_mpp machine_stack _ (lit< tt) (part_of_least profile machine_stack refl) refl refl
    (none_is_not_2 _ (mret_mpp (bit_at status MPIE) (bit_at-lt status MPIE))) legal

to_other : {profile : CsrProfile} (status : ℕ) → IsLegalValue profile Mstatus status
    → IsLegalValue profile Mstatus (masked_update machine_stack_and_mprv status (2 ^ MIE * bit_at status MPIE + 2 ^ MPIE))
to_other {profile} status legal =
    let value = 2 ^ MIE * bit_at status MPIE + 2 ^ MPIE in
    let few = bit_at-lt status MPIE in
    record {
      constant =
          clears_mprv profile machine_stack machine_stack_and_mprv status value (lit< tt)
          (part_of_least profile machine_stack refl) refl refl (mret_clears (bit_at status MPIE) few) legal.constant;
      rule =
          none_is_not_2 _
          (mpp_taken machine_stack_and_mprv status value (lit< tt) refl refl ∙ mret_mpp (bit_at status MPIE) few);
    }

by_mret : {profile : CsrProfile} (status : ℕ) → IsLegalValue profile Mstatus status
    → IsLegalValue profile Mstatus (status_by_mret status)
unfolding status_by_mret
by_mret {profile} status legal =
    let Legal : Bool → Type 0 =
    λ b. IsLegalValue profile Mstatus
    (masked_update (if b then machine_stack else machine_stack_and_mprv) status
    (2 ^ MIE * bit_at status MPIE + 2 ^ MPIE)) in
    elim (cases_Bool (mpp_of status == 3)) [
      | inl machine ↦ subst Legal (sym machine) (to_machine status legal)
      | inr other ↦ subst Legal (sym other) (to_other status legal)
    ]

by_sret : {profile : CsrProfile} (status : ℕ) → IsLegalValue profile Mstatus status
    → IsLegalValue profile Mstatus (status_by_sret status)
unfolding status_by_sret
by_sret {profile} status legal =
    let value = 2 ^ SIE * bit_at status SPIE + 2 ^ SPIE in
    let few = bit_at-lt status SPIE in
    record {
      constant =
          clears_mprv profile supervisor_stack supervisor_stack_and_mprv status value (lit< tt)
          (part_of_least profile supervisor_stack refl) refl refl (sret_clears (bit_at status SPIE) few)
          legal.constant;
      rule = λ two. legal.rule (
          sym (mpp_kept supervisor_stack_and_mprv status value (lit< tt) refl refl) ∙ two);
    }

pub machine_legal : (csrs : Csrs) (mode : Mode) (value tval pc : ℕ) → IsLegal csrs → pc % 2 ≡ 0
    → IsLegal (enter_machine_of csrs mode value tval pc)
unfolding enter_machine_of with_at
machine_legal csrs mode value tval pc legal even =
    let first = legal_with csrs Mepc pc legal (even_legal _ Mepc pc refl even) in
    let second = legal_with _ Mcause value first (whole_legal _ Mcause value refl) in
    let third = legal_with _ Mtval tval second (whole_legal _ Mtval tval refl) in
    legal_with _ Mstatus _ third (into_machine (value_at csrs Mstatus) mode (legal.values Mstatus))

pub supervisor_legal : (csrs : Csrs) (mode : Mode) (value tval pc : ℕ) → IsLegal csrs → pc % 2 ≡ 0
    → IsLegal (enter_supervisor_of csrs mode value tval pc)
unfolding enter_supervisor_of with_at
supervisor_legal csrs mode value tval pc legal even =
    let first = legal_with csrs Sepc pc legal (even_legal _ Sepc pc refl even) in
    let second = legal_with _ Scause value first (whole_legal _ Scause value refl) in
    let third = legal_with _ Stval tval second (whole_legal _ Stval tval refl) in
    legal_with _ Mstatus _ third (into_supervisor (value_at csrs Mstatus) mode (legal.values Mstatus))

pub mret_legal : (csrs : Csrs) → IsLegal csrs → IsLegal (mret_of csrs)
unfolding mret_of
mret_legal csrs legal = legal_with csrs Mstatus _ legal (by_mret (value_at csrs Mstatus) (legal.values Mstatus))

pub sret_legal : (csrs : Csrs) → IsLegal csrs → IsLegal (sret_of csrs)
unfolding sret_of
sret_legal csrs legal = legal_with csrs Mstatus _ legal (by_sret (value_at csrs Mstatus) (legal.values Mstatus))
