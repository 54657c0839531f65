use Rattle.board_core.proofs.Bags.{bag_from_times, bag_times, contained_has, has_contained}
use Rattle.board_core.proofs.laws.pairs_are_counted.Goals as goal

pub returns : goal.returns
returns c = record {
  has = λ pairs pair. (has_contained pairs pair, contained_has pairs pair);
  bags = λ one other. (bag_times one other, bag_from_times one other);
}
