use Rattle.std.proofs.Common.{◌≡◌, ◌==◌, ◌∙◌, ap, length, ℕ}
use Rattle.std.specs.Vec.{vec_len}
use Rattle.line_text.proofs.Texts.{laid_out-length}
use Rattle.line_text.proofs.lines.Lines.is_empty.Goals as goal

pub returns : goal.returns
returns c =
    let count : vec_len c.self.inside.ends ≡ length c.args.self.now =
    c.self.inside.ends.ok.0 ∙ laid_out-length _ _ c.self.invariant ∙ ap length c.self.view_is in
    c.is_empty.ensures ∙ ap (λ (n : ℕ). n == 0) count
