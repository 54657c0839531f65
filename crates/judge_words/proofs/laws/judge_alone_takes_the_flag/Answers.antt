use Rattle.judge_words.proofs.Flags.{flag_left_out, flag_refused, flag_taken}
use Rattle.judge_words.proofs.laws.judge_alone_takes_the_flag.Goals as goal

pub returns-clause-given : goal.returns-clause-given
returns-clause-given c = flag_taken

pub returns-clause-left_out : goal.returns-clause-left_out
returns-clause-left_out c = flag_left_out

pub returns-clause-refused : goal.returns-clause-refused
returns-clause-refused c = flag_refused
