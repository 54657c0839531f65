use Rattle.std.proofs.Common.{◌≡◌, ◌+◌, ◌<◌, ◌^◌, length}
use Rattle.image_text.specs.Image.{image_of}
use Rattle.image_text.specs.Steps.{remaining_tokens}
use Rattle.image_text.specs.Taking.{led_to}
use Rattle.image_text.proofs.image.read_image.Given as goal

abbrev pub invariant-loop-after : goal.invariant-loop-after
invariant-loop-after l = record {
  leads : led_to l.ram l.image (remaining_tokens l.rest) ≡ image_of l.ram l.text;
  room : l.rest.line + length l.rest.text.now < 2 ^ 64;
}

abbrev pub decreases-loop-after : goal.decreases-loop-after
decreases-loop-after l = length l.rest.text.now
