use Rattle.std.proofs.Common.{◌∙◌, sym, ap}
use Rattle.image_text.specs.Image.{bytes_after}
use Rattle.image_text.specs.Taking.{led_to}
use Rattle.image_text.proofs.ImageLemmas.{image_inside}
use Rattle.image_text.proofs.image.read_image.Goals as goal

pub returns-in-End-clause-exact : goal.returns-in-End-clause-exact
unfolding bytes_after
returns-in-End-clause-exact c =
    sym c.loop-after.invariant.leads ∙ ap (led_to c.args.ram c.loop-after.image) c.in-End.ensures

pub returns-in-End-clause-inside : goal.returns-in-End-clause-inside
unfolding bytes_after
returns-in-End-clause-inside c =
    image_inside c.args.ram c.args.text.now _
    (sym c.loop-after.invariant.leads ∙ ap (led_to c.args.ram c.loop-after.image) c.in-End.ensures)
