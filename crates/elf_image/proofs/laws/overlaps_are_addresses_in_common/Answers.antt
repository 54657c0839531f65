use Rattle.elf_image.proofs.Overlaps.{in_common}
use Rattle.elf_image.proofs.laws.overlaps_are_addresses_in_common.Goals as goal

pub returns : goal.returns
returns c = in_common
