use Rattle.std.proofs.Common.{◌≡◌, ◌⊎◌, ℕ, true, is_some}
use Rattle.std.specs.Prelude.{nat_eq}
use Rattle.std.specs.Map.{lookup}
use Rattle.page_layers.proofs.BlockMaps.{AreFound, IsMerged}
use Rattle.page_layers.proofs.blocks.Blocks.union.Given as goal

-- what is no more to be looked at was put over the others
abbrev pub invariant-loop-number : goal.invariant-loop-number
invariant-loop-number l = record {
  can_go : (goal.iterator-loop-number).can_next l.number-iterator;
  ends : (goal.iterator-loop-number).is_finite l.number-iterator;
  found : AreFound l.self l.number-iterator;
  done : (q : ℕ) → (is_some (lookup (nat_eq q) l.number-iterator) ≡ true) ⊎ IsMerged l.self l.others l.all q;
}
