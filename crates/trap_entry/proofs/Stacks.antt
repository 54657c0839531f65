-- mstatus bit by bit at entries and returns.
use Rattle.std.proofs.Common.{◌≡◌, ◌≢◌, ℕ, ◌+◌, ◌*◌, ◌/◌, ◌%◌, ◌^◌, ◌<◌, inl, inr, max, false, ◌==◌, refl, ap, ◌∙◌, sym}
use Rattle.std.proofs.Common.{subst, lit<, arith, if◌then◌else◌}
use Rattle.std.specs.Int.{bit_at}
use Rattle.std.proofs.lemmas.Nat.Bits.{bit_at-lt, bit_at_or}
use Rattle.std.proofs.lemmas.Bool.{cases_Bool, cases_eq, eqb-true}
use Rattle.std.proofs.lemmas.Bool.Decides.{nat_tests}
use Rattle.hart_words.specs.declared.privilege.Mode.{Mode}
use Rattle.hart_words.specs.declared.privilege.Mode.TheVariants.{User, Supervisor, Machine}
use Rattle.hart_words.specs.Privilege.{mode_number}
use Rattle.csr_file.specs.declared.fields.TheConstants.{SIE, MIE, SPIE, MPIE, SPP, MPP, MPRV}
use Rattle.csr_file.specs.Fields.{bit_is_set, masked_update, mpp_of}
use Rattle.csr_file.proofs.Bits.{bit_taken, bit_kept, merges, mpp_bits}
use Rattle.trap_entry.specs.Entries.{machine_stack, supervisor_stack, status_into_machine, status_into_supervisor}
use Rattle.trap_entry.specs.Returns.{machine_stack_and_mprv, supervisor_stack_and_mprv, status_by_mret, status_by_sret}
use Rattle.trap_entry.specs.Laws.{KeepsOtherBits, IsStackedForMachine, IsStackedForSupervisor, IsUnstackedByMret}
use Rattle.trap_entry.specs.Laws.{IsUnstackedBySret}

pub differs : (a b : ℕ) → (a == b) ≡ false → a ≢ b
differs a b off same = grind (arith, nat_tests)

-- a merge changes no bit out of its mask
pub keeps : (mask old value : ℕ) → mask < 2 ^ 64 → KeepsOtherBits mask old (masked_update mask old value)
keeps mask old value small bit inside out =
    merges mask old value small bit inside ∙ ap (λ b. if b then bit_at value bit else bit_at old bit) out

-- MPP is taken as a whole
pub mpp_taken : (mask old value : ℕ) → mask < 2 ^ 64 → bit_at mask 11 ≡ 1 → bit_at mask 12 ≡ 1
    → mpp_of (masked_update mask old value) ≡ mpp_of value
mpp_taken mask old value small low high =
    mpp_bits (masked_update mask old value)
    ∙ ap (λ b. b + 2 * bit_at (masked_update mask old value) 12) (bit_taken mask old value 11 small (lit< tt) low)
    ∙ ap (λ b. bit_at value 11 + 2 * b) (bit_taken mask old value 12 small (lit< tt) high)
    ∙ sym (mpp_bits value)

-- and kept as a whole
pub mpp_kept : (mask old value : ℕ) → mask < 2 ^ 64 → bit_at mask 11 ≡ 0 → bit_at mask 12 ≡ 0
    → mpp_of (masked_update mask old value) ≡ mpp_of old
mpp_kept mask old value small low high =
    mpp_bits (masked_update mask old value)
    ∙ ap (λ b. b + 2 * bit_at (masked_update mask old value) 12) (bit_kept mask old value 11 small (lit< tt) low)
    ∙ ap (λ b. bit_at old 11 + 2 * b) (bit_kept mask old value 12 small (lit< tt) high)
    ∙ sym (mpp_bits old)

pub number_fits : (mode : Mode) → mode_number mode < 4
number_fits User = lit< tt
number_fits Supervisor = lit< tt
number_fits Machine = lit< tt

machine_mpie : (b m : ℕ) → b < 2 → m < 4 → (2 ^ MPIE * b + 2 ^ MPP * m) / 2 ^ MPIE % 2 ≡ b
machine_mpie b m few modes = omega arith

machine_mie : (b m : ℕ) → b < 2 → m < 4 → (2 ^ MPIE * b + 2 ^ MPP * m) / 2 ^ MIE % 2 ≡ 0
machine_mie b m few modes = omega arith

pub machine_mpp : (b m : ℕ) → b < 2 → m < 4 → (2 ^ MPIE * b + 2 ^ MPP * m) / 2 ^ MPP % 4 ≡ m
machine_mpp b m few modes = omega arith

pub stacked_for_machine : (status : ℕ) (mode : Mode) → IsStackedForMachine status mode (status_into_machine status mode)
unfolding status_into_machine
stacked_for_machine status mode =
    let few = bit_at-lt status MIE in
    let modes = number_fits mode in
    record {
      mpie =
          bit_taken machine_stack status _ MPIE (lit< tt) (lit< tt) refl
          ∙ machine_mpie (bit_at status MIE) (mode_number mode) few modes;
      mie =
          bit_taken machine_stack status _ MIE (lit< tt) (lit< tt) refl
          ∙ machine_mie (bit_at status MIE) (mode_number mode) few modes;
      mpp =
          mpp_taken machine_stack status _ (lit< tt) refl refl
          ∙ machine_mpp (bit_at status MIE) (mode_number mode) few modes;
      rest = keeps machine_stack status _ (lit< tt);
    }

supervisor_spie : (b m : ℕ) → b < 2 → m < 4 → (2 ^ SPIE * b + 2 ^ SPP * m) / 2 ^ SPIE % 2 ≡ b
supervisor_spie b m few modes = omega arith

supervisor_sie : (b m : ℕ) → b < 2 → m < 4 → (2 ^ SPIE * b + 2 ^ SPP * m) / 2 ^ SIE % 2 ≡ 0
supervisor_sie b m few modes = omega arith

supervisor_spp : (b m : ℕ) → b < 2 → m < 2 → (2 ^ SPIE * b + 2 ^ SPP * m) / 2 ^ SPP % 2 ≡ m
supervisor_spp b m few modes = omega arith

pub stacked_for_supervisor : (status : ℕ) (mode : Mode)
    → IsStackedForSupervisor status mode (status_into_supervisor status mode)
unfolding status_into_supervisor
stacked_for_supervisor status mode =
    let few = bit_at-lt status SIE in
    let modes = number_fits mode in
    record {
      spie =
          bit_taken supervisor_stack status _ SPIE (lit< tt) (lit< tt) refl
          ∙ supervisor_spie (bit_at status SIE) (mode_number mode) few modes;
      sie =
          bit_taken supervisor_stack status _ SIE (lit< tt) (lit< tt) refl
          ∙ supervisor_sie (bit_at status SIE) (mode_number mode) few modes;
      spp =
          λ below. bit_taken supervisor_stack status _ SPP (lit< tt) (lit< tt) refl
          ∙ supervisor_spp (bit_at status SIE) (mode_number mode) few below;
      rest = keeps supervisor_stack status _ (lit< tt);
    }

mret_mie : (b : ℕ) → b < 2 → (2 ^ MIE * b + 2 ^ MPIE) / 2 ^ MIE % 2 ≡ b
mret_mie b few = omega arith

mret_mpie : (b : ℕ) → b < 2 → (2 ^ MIE * b + 2 ^ MPIE) / 2 ^ MPIE % 2 ≡ 1
mret_mpie b few = omega arith

pub mret_mpp : (b : ℕ) → b < 2 → (2 ^ MIE * b + 2 ^ MPIE) / 2 ^ MPP % 4 ≡ 0
mret_mpp b few = omega arith

mret_mprv : (b : ℕ) → b < 2 → (2 ^ MIE * b + 2 ^ MPIE) / 2 ^ MPRV % 2 ≡ 0
mret_mprv b few = omega arith

first_off : (a b : ℕ) → a < 2 → b < 2 → (max a b == 1) ≡ false → (a == 1) ≡ false
first_off a b few also out = elim (cases_eq a 1) [
  | inl one ↦ absurd (differs (max a b) 1 out (omega arith))
  | inr other ↦ let none : a ≡ 0 = omega arith in ap (λ n. n == 1) none
]

-- what is out of a mask is out of a smaller one
smaller : (bit : ℕ) → bit_is_set machine_stack_and_mprv bit ≡ false → bit_is_set machine_stack bit ≡ false
smaller bit out =
    first_off (bit_at machine_stack bit) (bit_at (2 ^ MPRV) bit) (bit_at-lt machine_stack bit)
    (bit_at-lt (2 ^ MPRV) bit) (ap (λ n. n == 1) (sym (bit_at_or machine_stack (2 ^ MPRV) bit)) ∙ out)

to_machine : (status : ℕ) → mpp_of status ≡ 3
    → IsUnstackedByMret status (masked_update machine_stack status (2 ^ MIE * bit_at status MPIE + 2 ^ MPIE))
to_machine status machine =
    let few = bit_at-lt status MPIE in
    record {
      mie = bit_taken machine_stack status _ MIE (lit< tt) (lit< tt) refl ∙ mret_mie (bit_at status MPIE) few;
      mpie = bit_taken machine_stack status _ MPIE (lit< tt) (lit< tt) refl ∙ mret_mpie (bit_at status MPIE) few;
      mpp = mpp_taken machine_stack status _ (lit< tt) refl refl ∙ mret_mpp (bit_at status MPIE) few;
      mprv = λ other. absurd (other machine);
      mprv_in_machine = λ same. bit_kept machine_stack status _ MPRV (lit< tt) (lit< tt) refl;
      rest = λ bit inside out. keeps machine_stack status _ (lit< tt) bit inside (smaller bit out);
    }

to_other : (status : ℕ) → mpp_of status ≢ 3
    → IsUnstackedByMret status (masked_update machine_stack_and_mprv status (2 ^ MIE * bit_at status MPIE + 2 ^ MPIE))
to_other status other =
    let few = bit_at-lt status MPIE in
    record {
      mie = bit_taken machine_stack_and_mprv status _ MIE (lit< tt) (lit< tt) refl ∙ mret_mie (bit_at status MPIE) few;
      mpie =
          bit_taken machine_stack_and_mprv status _ MPIE (lit< tt) (lit< tt) refl ∙ mret_mpie (bit_at status MPIE) few;
      mpp = mpp_taken machine_stack_and_mprv status _ (lit< tt) refl refl ∙ mret_mpp (bit_at status MPIE) few;
      mprv =
          λ same. bit_taken machine_stack_and_mprv status _ MPRV (lit< tt) (lit< tt) refl
          ∙ mret_mprv (bit_at status MPIE) few;
      mprv_in_machine = λ machine. absurd (other machine);
      rest = keeps machine_stack_and_mprv status _ (lit< tt);
    }

pub unstacked_by_mret : (status : ℕ) → IsUnstackedByMret status (status_by_mret status)
unfolding status_by_mret
unstacked_by_mret status = elim (cases_Bool (mpp_of status == 3)) [
  | inl machine ↦
      subst
      (λ b. IsUnstackedByMret status
      (masked_update (if b then machine_stack else machine_stack_and_mprv) status
      (2 ^ MIE * bit_at status MPIE + 2 ^ MPIE))) (sym machine) (to_machine status (eqb-true _ _ machine))
  | inr other ↦
      subst
      (λ b. IsUnstackedByMret status
      (masked_update (if b then machine_stack else machine_stack_and_mprv) status
      (2 ^ MIE * bit_at status MPIE + 2 ^ MPIE))) (sym other) (to_other status (differs _ _ other))
]

sret_sie : (b : ℕ) → b < 2 → (2 ^ SIE * b + 2 ^ SPIE) / 2 ^ SIE % 2 ≡ b
sret_sie b few = omega arith

sret_spie : (b : ℕ) → b < 2 → (2 ^ SIE * b + 2 ^ SPIE) / 2 ^ SPIE % 2 ≡ 1
sret_spie b few = omega arith

sret_spp : (b : ℕ) → b < 2 → (2 ^ SIE * b + 2 ^ SPIE) / 2 ^ SPP % 2 ≡ 0
sret_spp b few = omega arith

sret_mprv : (b : ℕ) → b < 2 → (2 ^ SIE * b + 2 ^ SPIE) / 2 ^ MPRV % 2 ≡ 0
sret_mprv b few = omega arith

pub unstacked_by_sret : (status : ℕ) → IsUnstackedBySret status (status_by_sret status)
unfolding status_by_sret
unstacked_by_sret status =
    let few = bit_at-lt status SPIE in
    record {
      sie =
          bit_taken supervisor_stack_and_mprv status _ SIE (lit< tt) (lit< tt) refl ∙ sret_sie (bit_at status SPIE) few;
      spie =
          bit_taken supervisor_stack_and_mprv status _ SPIE (lit< tt) (lit< tt) refl
          ∙ sret_spie (bit_at status SPIE) few;
      spp =
          bit_taken supervisor_stack_and_mprv status _ SPP (lit< tt) (lit< tt) refl ∙ sret_spp (bit_at status SPIE) few;
      mprv =
          bit_taken supervisor_stack_and_mprv status _ MPRV (lit< tt) (lit< tt) refl
          ∙ sret_mprv (bit_at status SPIE) few;
      rest = keeps supervisor_stack_and_mprv status _ (lit< tt);
    }
