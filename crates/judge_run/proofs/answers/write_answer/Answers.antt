use Rattle.std.proofs.Common.{ap, option_map}
use Rattle.hart_step.specs.HartSets.{set_state_of}
use Rattle.page_layers.specs.Memories.{layered_bytes, layered_ram}
use Rattle.judge_run.specs.Ends.{answer_view}
use Rattle.judge_run.proofs.Written.{backs, some_there, state_front}
use Rattle.judge_run.proofs.answers.write_answer.Goals as goal

pub returns-in-Err-clause-written : goal.returns-in-Err-clause-written
returns-in-Err-clause-written g c =
    state_front (answer_view c.args.answer.now) (set_state_of layered_bytes c.in-Some.harts)
    (ap (option_map (set_state_of layered_bytes)) c.in-Some.is) c.in-Err.ensures.front c.in-Err.ensures.fault

pub returns-in-Ok-clause-back : goal.returns-in-Ok-clause-back
returns-in-Ok-clause-back g c =
    backs (answer_view c.args.answer.now) (set_state_of layered_bytes c.in-Some.harts)
    (ap (option_map (set_state_of layered_bytes)) c.in-Some.is)
    (some_there layered_ram c.in-Some.is c.requires) c.in-Ok.ensures.back

pub returns-in-Err-clause-back : goal.returns-in-Err-clause-back
returns-in-Err-clause-back g c =
    backs (answer_view c.args.answer.now) (set_state_of layered_bytes c.in-Some.harts)
    (ap (option_map (set_state_of layered_bytes)) c.in-Some.is)
    (some_there layered_ram c.in-Some.is c.requires) c.in-Err.ensures.back
