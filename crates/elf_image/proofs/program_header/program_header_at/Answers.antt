use Rattle.std.proofs.Common.{refl}
use Rattle.elf_image.specs.Headers.{program_header_at}
use Rattle.elf_image.proofs.program_header.program_header_at.Goals as goal

pub returns : goal.returns
unfolding program_header_at
returns c =
    rw (
      c.number_at_offset.ensures.value,
      c.number_at_offset-2.ensures.value,
      c.number_at_offset-3.ensures.value,
      c.number_at_offset-4.ensures.value,
      c.number_at_offset-5.ensures.value,
    ) refl
