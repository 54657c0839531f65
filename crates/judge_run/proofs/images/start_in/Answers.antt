use Rattle.std.proofs.Common.{Some, Err, ap, refl, sym, ◌∙◌}
use Rattle.judge_words.specs.Job.{job_view}
use Rattle.hart_step.specs.HartSets.{SetState}
use Rattle.hart_words.specs.Memory.{Bytes}
use Rattle.judge_run.specs.Starts.{start_view, state_view}
use Rattle.judge_run.proofs.Starts.{IsReadWhole, begins_built, too_large, whole_built, whole_refused}
use Rattle.judge_run.proofs.images.start_in.Goals as goal

pub returns-then-front-clause-meant : goal.returns-then-front-clause-meant
returns-then-front-clause-meant c = λ file is.
    too_large (job_view c.args.job.now) file c.args.front.now is c.if-front.true
    ∙ ap (λ outcome. Err (Some outcome)) (sym c.outcome_of.ensures.outcome)

pub returns-in-Err-clause-meant : goal.returns-in-Err-clause-meant
returns-in-Err-clause-meant c =
    let job = job_view c.args.job.now in
    let refused = rw c.deref.ensures.value at c.in-Err.ensures.meant in
    λ file is.
    let whole : IsReadWhole job file c.args.front.now = record { has_front = is; whole = c.if-front.false } in
    whole_refused state_view (λ start. start_view start) c.in-Err.stop whole refused

pub returns-in-Ok-build-clause-meant : goal.returns-in-Ok-build-clause-meant
returns-in-Ok-build-clause-meant c =
    let job = job_view c.args.job.now in
    let read = rw c.deref.ensures.value at c.in-Ok.ensures.meant in
    let state : Bytes → SetState = λ bytes. record { core = c.in-Ok.state.cores.items; bytes = bytes } in
    λ file is.
    let whole : IsReadWhole job file c.args.front.now = record { has_front = is; whole = c.if-front.false } in
    whole_built whole read (ap state c.in-Ok-build.ensures.bytes)

pub returns-in-Ok-build-clause-begins : goal.returns-in-Ok-build-clause-begins
returns-in-Ok-build-clause-begins c =
    begins_built (record { image = c.in-Ok-build.image; cores = c.in-Ok.state.cores }) c.in-Ok.ensures.start refl
    c.in-Ok-build.ensures.ram c.in-Ok-build.ensures.bytes
