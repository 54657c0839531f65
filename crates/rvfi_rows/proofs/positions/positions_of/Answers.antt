use Rattle.std.proofs.Common.{◌∙◌, refl, subst, length-set}
use Rattle.std.proofs.lemmas.List.{take_all}
use Rattle.rvfi_rows.specs.Kept.{AreFoundAt}
use Rattle.rvfi_rows.proofs.Standing.{found_next}
use Rattle.rvfi_rows.proofs.positions.positions_of.Goals as goal

pub loop-place-init : goal.loop-place-init
loop-place-init c = (refl, λ signal among. absurd cc)

pub loop-place-preserved : goal.loop-place-preserved
loop-place-preserved c = (
  length-set _ _ _ ∙ c.loop-place.invariant.0,
  found_next c.args.signals.now c.loop-place.place c.loop-place.positions c.loop-place-test.true c.from.ensures
      c.index.ensures.value c.loop-place.invariant.0 c.loop-place.invariant.1,
)

pub returns : goal.returns
returns c =
    subst (λ signals. AreFoundAt signals c.loop-place.positions)
    (take_all c.loop-place.place c.args.signals.now c.loop-place-test.false) c.loop-place.invariant.1
