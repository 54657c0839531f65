use Rattle.std.specs.Prelude.{option_map}
use Rattle.judge_words.specs.Lists.{list_size}
use Rattle.judge_words.proofs.profiles.+is_named.Given as goal

abbrev pub decreases-is_named : goal.decreases-is_named
decreases-is_named l = list_size (option_map (λ text. text.now) l.list)
