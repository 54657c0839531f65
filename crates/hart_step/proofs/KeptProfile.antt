-- No step changes what the core makes of its registers: what an instruction writes leaves it, and so do traps.
use Rattle.std.proofs.Common.{◌≡◌, false, inl, inr, ap, ◌∙◌}
use Rattle.std.proofs.lemmas.Bool.{cases_Bool}
use Rattle.hart_words.specs.declared.privilege.Mode.{Mode}
use Rattle.hart_words.specs.Memory.{Bytes}
use Rattle.hart_words.specs.Signals.{Shown}
use Rattle.csr_file.specs.declared.csrs.Csrs.{Csrs}
use Rattle.csr_file.proofs.Writes.{leaves_profile}
use Rattle.hart_step.specs.declared.state.Core.{Core}
use Rattle.hart_step.specs.Instructions.{instruction_run}
use Rattle.hart_step.specs.Steps.{before_instruction}
use Rattle.hart_step.specs.Laws.{next_of}
use Rattle.hart_step.proofs.Entries.{ChangesIn, begun_keeps, finished_keeps, ran_changes}
use Rattle.hart_step.proofs.Phases.{next_halted, next_running}

changed_keeps : (mode : Mode) (before after : Csrs) → ChangesIn mode before after → after.profile ≡ before.profile
changed_keeps mode before after changes = elim changes [
  | inl kept ↦ kept.0
  | inr written ↦ ap (λ (csrs : Csrs). csrs.profile) written.written ∙ leaves_profile before written.csr written.value
]

running_keeps : (core : Core) (shown : Shown) (bytes : Bytes) → core.halted ≡ false
    → (next_of core shown bytes).csrs.profile ≡ core.csrs.profile
running_keeps core shown bytes runs =
    let begun = before_instruction core shown in
    let done = ((instruction_run begun shown).run bytes).value in
    ap (λ (k : Core). k.csrs.profile) (next_running core shown bytes runs) ∙ (finished_keeps done shown).0
    ∙ changed_keeps begun.mode begun.csrs done.core.csrs (ran_changes begun shown bytes) ∙ (begun_keeps core shown).0

pub profile_stays : (core : Core) (shown : Shown) (bytes : Bytes)
    → (next_of core shown bytes).csrs.profile ≡ core.csrs.profile
profile_stays core shown bytes = elim (cases_Bool core.halted) [
  | inl halted ↦ ap (λ (k : Core). k.csrs.profile) (next_halted core shown bytes halted)
  | inr runs ↦ running_keeps core shown bytes runs
]
