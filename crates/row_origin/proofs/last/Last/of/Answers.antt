use Rattle.std.proofs.Common.{refl, sym}
use Rattle.row_origin.specs.Trails.{facts_of}
use Rattle.row_origin.proofs.last.Last.of.Goals as goal

pub returns : goal.returns
returns c = λ trail are.
    c.origins_of.ensures trail (facts_of c.args.stepped.now c.args.hart) are refl refl (sym c.as_slice.ensures)
