use Rattle.std.specs.Prelude.{option_map}
use Rattle.judge_words.specs.Lists.{list_size}
use Rattle.judge_words.proofs.lists.+read_causes.Given as goal

abbrev pub decreases-read_causes : goal.decreases-read_causes
decreases-read_causes l = list_size (option_map (λ text. text.now) l.list)
