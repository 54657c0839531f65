use Rattle.std.proofs.Common.{◌∙◌, Some, ap, option_map, sym}
use Rattle.row_origin.specs.DifferingRows.{facts_in}
use Rattle.row_origin.specs.Histories.{facts_boxed}
use Rattle.row_origin.specs.Origins.{origins_of}
use Rattle.row_origin.proofs.history.History.origins.Goals as goal

pub returns-in-Some : goal.returns-in-Some
returns-in-Some c = λ view is.
    ap Some
    (c.origins.ensures view.before is.last
    ∙ ap (λ row. origins_of view.before (facts_in row)) c.deref.ensures)
    ∙ ap (option_map (origins_of view.before))
    (sym (ap (option_map facts_boxed) c.in-Some.is) ∙ is.differing)
