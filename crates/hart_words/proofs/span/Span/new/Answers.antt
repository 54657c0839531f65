use Rattle.std.proofs.Common.{refl, sym, ◌∙◌}
use Rattle.hart_words.proofs.Spans.{some_span, no_span}
use Rattle.hart_words.proofs.span.Span.new.Goals as goal

pub returns-then-is_whole : goal.returns-then-is_whole
returns-then-is_whole c = some_span _ _ _ refl refl (sym c.is_whole.ensures ∙ c.if-is_whole.true)

pub returns-else-is_whole : goal.returns-else-is_whole
returns-else-is_whole c = no_span _ _ (sym c.is_whole.ensures ∙ c.if-is_whole.false)
