use Rattle.line_text.proofs.Texts.{none_laid_out, none_in}
use Rattle.line_text.proofs.lines.Lines.new.Goals as goal

pub invariant_of-result : goal.invariant_of-result
invariant_of-result c = none_laid_out c.new.result.items c.new-2.result.items c.new.ensures.items c.new-2.ensures.items

pub returns : goal.returns
returns c = none_in c.new.result.items c.new.ensures.items
