use Rattle.elf_image.proofs.Underway.{IsUnderway}
use Rattle.elf_image.proofs.image.read_elf.Given as goal

abbrev pub invariant-loop-index : goal.invariant-loop-index
invariant-loop-index l = IsUnderway l.ram l.file l.header l.index l.loaded
