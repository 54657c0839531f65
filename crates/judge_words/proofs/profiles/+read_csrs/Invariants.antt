use Rattle.std.specs.Prelude.{option_map}
use Rattle.judge_words.specs.Lists.{list_size}
use Rattle.judge_words.proofs.profiles.+read_csrs.Given as goal

abbrev pub decreases-read_csrs : goal.decreases-read_csrs
decreases-read_csrs l = list_size (option_map (λ text. text.now) l.list)
