use Rattle.std.proofs.Common.{refl}
use Rattle.elf_image.specs.Image.{segment_bytes}
use Rattle.elf_image.specs.Loading.{segment_end, AreApart}
use Rattle.elf_image.proofs.segments.LoadedSegments.empty.Goals as goal

pub returns : goal.returns
unfolding segment_bytes segment_end AreApart
returns c = λ file. record { bytes = c.empty.ensures; ends = λ address. rw c.new.ensures.empty refl; apart = tt }
