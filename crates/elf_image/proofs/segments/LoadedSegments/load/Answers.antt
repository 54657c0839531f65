use Rattle.std.proofs.Common.{sym}
use Rattle.elf_image.proofs.Checks.{has_no_fault}
use Rattle.elf_image.proofs.segments.LoadedSegments.load.Goals as goal

pub returns : goal.returns
returns c = λ earlier loaded.
    let checked = sym (c.in_ok-check.ensures.exact earlier loaded) in
    (checked, c.in_ok-keep.ensures earlier loaded (has_no_fault _ _ _ _ _ checked).apart)
