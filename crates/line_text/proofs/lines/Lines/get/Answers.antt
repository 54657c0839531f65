use Rattle.std.proofs.Common.{◌∙◌, ap, sym, length, ◌<◌, ◌≤◌, ◌-◌, drop, take, slice_get, Some, ℕ, List, arith}
use Rattle.std.proofs.lemmas.Option.{slice_get_past}
use Rattle.line_text.specs.Lines.{text_lines}
use Rattle.line_text.proofs.Texts.{IsCut, is_cut, cut_line, cut_laid_out, laid_out-length}
use Rattle.line_text.proofs.lines.Lines.get.Goals as goal
use Rattle.line_text.proofs.lines.Lines.get.Goals.{After-deref-2}

pub returns-then-number-len : goal.returns-then-number-len
returns-then-number-len c =
    let past : length c.args.self.now ≤ c.args.number =
    omega (arith, c.self.inside.ends.ok.0, laid_out-length _ _ c.self.invariant, ap length c.self.view_is) in
    sym (slice_get_past c.args.self.now c.args.number past)

pub start_of-start-requires-clause-fits : goal.start_of-start-requires-clause-fits
start_of-start-requires-clause-fits c =
    let inside : c.args.number < length c.self.inside.ends.items = omega (arith, c.self.inside.ends.ok.0) in
    let cut = cut_laid_out c.self.inside.text.items c.self.inside.ends.items c.args.number c.self.invariant inside in
    rw c.deref.ensures.value (omega (arith, cut.ordered, cut.within, c.self.inside.text.ok.0))

-- the places are those of the line
found : (c : After-deref-2)
    → IsCut (text_lines c.self.inside.text.items) c.self.inside.text.items 0 c.args.number c.start_of-start.result
    c.index-end.result.now
found c =
    let inside : c.args.number < length c.self.inside.ends.items = omega (arith, c.self.inside.ends.ok.0) in
    is_cut c.args.number c.start_of-start.result c.index-end.result.now c.self.invariant inside
    (rw c.deref.ensures.value at c.start_of-start.ensures) c.index-end.ensures

pub cut-requires-clause-ordered : goal.cut-requires-clause-ordered
cut-requires-clause-ordered c = (found c).ordered

pub cut-requires-clause-within : goal.cut-requires-clause-within
cut-requires-clause-within c = omega (arith, (found c).within, ap length c.deref-2.ensures.value)

pub returns : goal.returns
returns c =
    ap Some
    (c.cut.ensures
    ∙ ap (λ (text : List ℕ). take (c.index-end.result.now - c.start_of-start.result)
    (drop c.start_of-start.result text)) c.deref-2.ensures.value)
    ∙ sym
    (cut_line c.self.inside.text.items c.self.inside.ends.items c.args.number c.start_of-start.result
    c.index-end.result.now (found ((goal.at.returns c).After-deref-2)))
    ∙ ap (λ (lines : List (List ℕ)). slice_get lines c.args.number) c.self.view_is
