use Rattle.std.proofs.Common.{ap, sym, ◌∙◌}
use Rattle.std.specs.Option.{option_copied}
use Rattle.row_origin.proofs.Placed.{found_at}
use Rattle.row_origin.proofs.places.Places.block.Goals as goal

pub returns-in-Some : goal.returns-in-Some
returns-in-Some c =
    λ place. found_at c.args.self.now c.args.number place _
    (sym c.get.ensures.value ∙ ap option_copied c.in-Some.is)

pub returns-in-None : goal.returns-in-None
returns-in-None c =
    λ place. c.empty.ensures place
    ∙ found_at c.args.self.now c.args.number place _ (sym c.get.ensures.value ∙ ap option_copied c.in-None.is)
