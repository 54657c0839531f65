use Rattle.std.proofs.Common.{ap, ap₂, option_map, ◌∙◌}
use Rattle.hart_step.specs.HartSets.{set_state_of}
use Rattle.judge_words.specs.Job.{job_view}
use Rattle.page_layers.specs.Memories.{layered_bytes}
use Rattle.row_origin.specs.Origins.{origins_in}
use Rattle.judge_run.specs.Answer.{answer_of, asks_origins, outcome_of, state_written}
use Rattle.judge_run.proofs.answers.answer_with.Goals as goal

pub returns-clause-answer : goal.returns-clause-answer
returns-clause-answer c = λ history kept.
    let job = job_view c.args.job.now in
    let end = option_map (set_state_of layered_bytes) c.args.end.harts in
    let ruling = c.ruling_at_end-ruling.ensures.ruling in
    let same = ap₂ (λ outcome state. answer_of outcome state (option_map origins_in c.origins_kept-origins.result))
    (c.outcome_of.ensures.outcome ∙ ap (outcome_of job) ruling)
    (c.in_ok-harts.ensures.state ∙ c.harts_written.ensures.state
    ∙ ap (λ ruling. state_written job.command ruling end) ruling) in
    same
    ∙ ap (answer_of _ _) (c.origins_kept-origins.ensures (asks_origins job.command) history kept)
