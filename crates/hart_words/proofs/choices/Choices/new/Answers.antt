use Rattle.std.proofs.Common.{refl, sym, ◌∙◌}
use Rattle.hart_words.proofs.Chosen.{some_choices, no_choices}
use Rattle.hart_words.proofs.choices.Choices.new.Goals as goal

pub returns-then-is_block_size : goal.returns-then-is_block_size
returns-then-is_block_size c = some_choices _ refl refl (sym c.is_block_size.ensures ∙ c.if-is_block_size.true)

pub returns-else-is_block_size : goal.returns-else-is_block_size
returns-else-is_block_size c =
    no_choices _ _ _ _ _ (sym c.is_block_size.ensures ∙ c.if-is_block_size.false)
