use Rattle.hart_step.proofs.Translated.{step_mapped}
use Rattle.hart_step.proofs.translation_laws.translated_accesses_are_mapped.Goals as goal

pub returns : goal.returns
returns c = step_mapped
