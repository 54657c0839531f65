use Rattle.std.proofs.Common.{◌≡◌, ◌+◌, ◌%◌, ◌^◌, ◌∙◌, ap, arith, refl}
use Rattle.trace_maker.specs.Runs.{turns_before}
use Rattle.trace_maker.proofs.Runs.{before_next, before_same}
use Rattle.trace_maker.proofs.run.Run.go_on.Goals as goal

pub returns-then-order-ne0-clause-before : goal.returns-then-order-ne0-clause-before
returns-then-order-ne0-clause-before c =
    let same : turns_before (c.args.order + 1) ≡ turns_before c.args.order = omega arith in
    before_same c.args.self.now c.args.order same c.requires.before

pub returns-clause-before : goal.returns-clause-before
returns-clause-before c =
    let next : turns_before (c.args.order + 1) ≡ turns_before c.args.order + 1 = omega arith in
    before_next c.args.self.now _ c.args.order next refl
    (ap (λ n. (c.args.self.now.x1 + n) % 2 ^ 64) (c.from.ensures ∙ c.immediate.ensures.value)) refl
    c.requires.before
