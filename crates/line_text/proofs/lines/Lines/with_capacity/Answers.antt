use Rattle.line_text.proofs.Texts.{none_laid_out, none_in}
use Rattle.line_text.proofs.lines.Lines.with_capacity.Goals as goal

pub invariant_of-result : goal.invariant_of-result
invariant_of-result c =
    let text = c.in_ok-with_capacity in
    let ends = c.in_ok-with_capacity-2 in
    none_laid_out text.field-0.items ends.field-0.items text.ensures.items ends.ensures.items

pub returns : goal.returns
returns c = none_in c.in_ok-with_capacity.field-0.items c.in_ok-with_capacity.ensures.items
