use Rattle.std.proofs.Common.{refl, arith}
use Rattle.image_text.proofs.Pages.{zeros_are_bytes}
use Rattle.image_text.proofs.pieces.PiecePage.plain.Goals as goal

pub loop-k-init : goal.loop-k-init
loop-k-init c = record { len = refl; done = λ j below. absurd (omega (arith, below)); small = zeros_are_bytes 4096 }
