use Rattle.std.specs.Prelude.{option_map}
use Rattle.judge_words.specs.Lists.{list_size}
use Rattle.judge_words.proofs.lists.+read_ranges.Given as goal

abbrev pub decreases-read_ranges : goal.decreases-read_ranges
decreases-read_ranges l = list_size (option_map (λ text. text.now) l.list)
