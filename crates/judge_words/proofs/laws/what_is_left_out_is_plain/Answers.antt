use Rattle.judge_words.proofs.Defaults.{choices_left_out, profile_left_out}
use Rattle.judge_words.proofs.laws.what_is_left_out_is_plain.Goals as goal

pub returns-clause-choices : goal.returns-clause-choices
returns-clause-choices c = choices_left_out

pub returns-clause-profile : goal.returns-clause-profile
returns-clause-profile c = profile_left_out
