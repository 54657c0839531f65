use Rattle.judge_words.proofs.MadeJobs.{made_asked}
use Rattle.judge_words.proofs.laws.made_jobs_stand.Goals as goal

pub returns : goal.returns
returns c = made_asked
