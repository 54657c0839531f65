use Rattle.std.proofs.Common.{refl}
use Rattle.elf_image.specs.Headers.{header_of}
use Rattle.elf_image.proofs.header.header_of.Goals as goal

pub returns : goal.returns
unfolding header_of
returns c =
    rw (
      c.number_at_offset.ensures.value,
      c.number_at_offset-2.ensures.value,
      c.number_at_offset-3.ensures.value,
      c.number_at_offset-4.ensures.value,
      c.number_at_offset-5.ensures.value,
      c.number_at_offset-6.ensures.value,
      c.number_at_offset-7.ensures.value,
      c.number_at_offset-8.ensures.value,
    ) refl
