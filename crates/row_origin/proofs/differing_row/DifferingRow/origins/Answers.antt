use Rattle.std.proofs.Common.{refl, sym}
use Rattle.row_origin.specs.DifferingRows.{facts_in}
use Rattle.row_origin.proofs.differing_row.DifferingRow.origins.Goals as goal

pub returns : goal.returns
returns c = λ trail are.
    c.origins_of.ensures trail (facts_in c.args.self.now) are refl refl (sym c.as_slice.ensures.value)
