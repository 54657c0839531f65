use Rattle.std.proofs.Common.{◌+◌, ◌∙◌, ap, arith, drop}
use Rattle.std.specs.Prelude.{max}
use Rattle.rvfi_rows.specs.Columns.{highest_port}
use Rattle.rvfi_rows.proofs.PortRows.{highest-end, highest-next, highest_below}
use Rattle.rvfi_rows.proofs.columns.port_count.Goals as goal

pub loop-index-preserved : goal.loop-index-preserved
loop-index-preserved c =
    ap (λ n. max n (highest_port (drop (c.loop-index.index + 1) c.args.columns.now))) c.greater-highest.ensures
    ∙ highest-next c.args.columns.now c.loop-index.index _ c.loop-index.highest c.port_or_zero.result
    c.loop-index-test.true c.port_or_zero.ensures.number c.loop-index.invariant

pub overflow_add-result : goal.overflow_add-result
overflow_add-result c =
    let all =
    highest-end c.args.columns.now c.loop-index.index c.loop-index.highest c.loop-index-test.false
    c.loop-index.invariant in
    omega (arith, all, highest_below c.args.columns.now)

pub returns-clause-number : goal.returns-clause-number
returns-clause-number c =
    ap (λ n. n + 1)
    (highest-end c.args.columns.now c.loop-index.index c.loop-index.highest c.loop-index-test.false
    c.loop-index.invariant)

pub returns-clause-at_most_4 : goal.returns-clause-at_most_4
returns-clause-at_most_4 c =
    let all =
    highest-end c.args.columns.now c.loop-index.index c.loop-index.highest c.loop-index-test.false
    c.loop-index.invariant in
    omega (arith, all, highest_below c.args.columns.now)
