use Rattle.std.proofs.Common.{refl, sym, ◌∙◌}
use Rattle.hart_words.proofs.Maps.{map_apart, map_refused}
use Rattle.hart_words.proofs.map.Map.beside.Goals as goal

pub returns-then-are_apart_from : goal.returns-then-are_apart_from
returns-then-are_apart_from c =
    map_apart _ _ _ refl refl (sym c.are_apart_from.ensures ∙ c.if-are_apart_from.true)

pub returns-else-are_apart_from : goal.returns-else-are_apart_from
returns-else-are_apart_from c = map_refused _ _ (sym c.are_apart_from.ensures ∙ c.if-are_apart_from.false)
