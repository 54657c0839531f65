use Rattle.std.proofs.Common.{◌∙◌, ap, length}
use Rattle.line_text.proofs.Texts.{laid_out-length}
use Rattle.line_text.proofs.lines.Lines.len.Goals as goal

pub returns-clause-count : goal.returns-clause-count
returns-clause-count c =
    c.len.ensures ∙ c.self.inside.ends.ok.0 ∙ laid_out-length _ _ c.self.invariant ∙ ap length c.self.view_is
