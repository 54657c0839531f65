use Rattle.judge_words.proofs.MadeJobs.{made_plain}
use Rattle.judge_words.proofs.laws.made_jobs_are_plain.Goals as goal

pub returns : goal.returns
returns c = made_plain
