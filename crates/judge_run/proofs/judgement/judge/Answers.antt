use Rattle.judge_run.proofs.Runs.{back, headline, counted, fault, made_answer, made_counts, misses, words_decide}
use Rattle.judge_run.proofs.Runs.{out_of_memory, range}
use Rattle.judge_run.proofs.judgement.judge.Goals as goal

pub returns-clause-headline : goal.returns-clause-headline
returns-clause-headline g c = headline c.run.ensures.ends

pub returns-clause-counted : goal.returns-clause-counted
returns-clause-counted g c = counted c.run.ensures.ends

pub returns-clause-fault : goal.returns-clause-fault
returns-clause-fault g c = fault c.run.ensures.ends

pub returns-clause-misses : goal.returns-clause-misses
returns-clause-misses g c = misses c.run.ensures.ends

pub returns-clause-words : goal.returns-clause-words
returns-clause-words g c = words_decide c.run.ensures.ends

pub returns-clause-out_of_memory : goal.returns-clause-out_of_memory
returns-clause-out_of_memory g c = out_of_memory c.run.ensures.ends

pub returns-clause-range : goal.returns-clause-range
returns-clause-range g c = range c.run.ensures.ends

pub returns-clause-made : goal.returns-clause-made
returns-clause-made g c = made_counts c.run.ensures.ends

pub returns-clause-made_answer : goal.returns-clause-made_answer
returns-clause-made_answer g c = made_answer c.run.ensures.ends

pub returns-clause-back : goal.returns-clause-back
returns-clause-back g c = back c.run.ensures.ends
