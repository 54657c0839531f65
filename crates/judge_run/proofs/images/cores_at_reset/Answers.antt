use Rattle.std.proofs.Common.{◌≡◌, ◌∙◌, ◌++◌, ◌∷◌, [], arith, ap, replicate, subst, sym}
use Rattle.std.specs.List.{All}
use Rattle.std.proofs.lemmas.List.{replicate_more}
use Rattle.std.proofs.lemmas.List.Elements.{All-replicate}
use Rattle.hart_step.specs.declared.state.Core.{Core}
use Rattle.hart_step.specs.Cores.{IsSound}
use Rattle.judge_run.proofs.Starts.{all_at_reset, as_many_at_reset}
use Rattle.judge_run.proofs.images.cores_at_reset.Goals as goal

pub loop-preserved : goal.loop-preserved
loop-preserved c =
    c.in_ok-push.ensures.items ∙ ap (λ cores. cores ++ c.core_at_reset-core.result ∷ []) c.loop.invariant
    ∙ replicate_more c.loop.counter c.core_at_reset-core.result

pub returns-clause-cores : goal.returns-clause-cores
returns-clause-cores c =
    all_at_reset c.core_at_reset-core.result c.loop.cores.items c.loop.counter c.args.job.now.harts c.loop.invariant
    (omega (arith, c.loop.auto.counter-end, c.loop-test.false))
    ∙ ap (replicate c.args.job.now.harts) c.core_at_reset-core.ensures.core

pub returns-clause-some : goal.returns-clause-some
returns-clause-some c =
    omega (
      arith,
      as_many_at_reset c.core_at_reset-core.result c.loop.cores.items c.loop.counter c.loop.invariant,
      c.loop-test.false,
      c.requires.lawful.harts.0,
    )

pub returns-clause-few : goal.returns-clause-few
returns-clause-few c =
    omega (
      arith,
      as_many_at_reset c.core_at_reset-core.result c.loop.cores.items c.loop.counter c.loop.invariant,
      c.loop.auto.counter-end,
      c.requires.lawful.harts.1,
    )

pub returns-clause-sound : goal.returns-clause-sound
returns-clause-sound c =
    subst (All IsSound) (sym c.loop.invariant)
    (All-replicate IsSound c.loop.counter c.core_at_reset-core.result c.core_at_reset-core.ensures.sound)

pub returns-clause-maps : goal.returns-clause-maps
returns-clause-maps c =
    let P : Core → Type 0 = λ core. core.map ≡ c.args.job.now.map in
    subst (All P) (sym c.loop.invariant)
    (All-replicate P c.loop.counter c.core_at_reset-core.result c.core_at_reset-core.ensures.map)
