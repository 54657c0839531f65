use Rattle.rvfi_rows.specs.Cells.{shown_in}
use Rattle.row_compare.proofs.Registers.{all_agree, hidden_agree, more_agree, rest_agree, shifted}
use Rattle.row_compare.proofs.Registers.{some_differs}
use Rattle.row_compare.proofs.comparison.csrs_agree.Goals as goal
use Rattle.row_compare.proofs.comparison.csrs_agree.Goals.{else-bits-ne0-via-else-bits-ne0}
use Rattle.row_compare.proofs.comparison.csrs_agree.Goals.{else-bits-ne0-via-then-bits-ne0+else-not-register_agrees}

pub returns-then-bits-eq0 : goal.returns-then-bits-eq0
returns-then-bits-eq0 c =
    let shown = shown_in c.args.row.now in
    rest_agree c.args.retired.now shown c.csr_bits-bits.result c.loop-index.index
    c.csr_bits-bits.ensures.bits c.loop-index.invariant.0 c.if-bits-eq0.true
    c.loop-index.invariant.1

pub returns-then-not-register_agrees : goal.returns-then-not-register_agrees
returns-then-not-register_agrees c =
    some_differs c.args.retired.now (shown_in c.args.row.now) c.loop-index.index _ c.loop-index-test.true
    c.register_agrees.ensures c.if-not-register_agrees.true c.loop-index.invariant.1

pub loop-index-preserved : goal.loop-index-preserved
loop-index-preserved c =
    let retired = c.args.retired.now in
    let shown = shown_in c.args.row.now in
    let index = c.loop-index.index in
    let bits = c.csr_bits-bits.result in (
      shifted bits index c.loop-index.invariant.0,
      elim c.else-bits-ne0.branch [
        | else-bits-ne0-via-then-bits-ne0+else-not-register_agrees w ↦
            more_agree retired shown index _ c.loop-index-test.true w.register_agrees.ensures
            w.if-not-register_agrees.false c.loop-index.invariant.1
        | else-bits-ne0-via-else-bits-ne0 w ↦
            hidden_agree retired shown bits index c.loop-index-test.true
            c.csr_bits-bits.ensures.bits c.loop-index.invariant.0 w.if-bits-ne0.false c.loop-index.invariant.1
      ],
    )

pub returns : goal.returns
returns c =
    all_agree c.args.retired.now (shown_in c.args.row.now) c.loop-index.index c.loop-index-test.false
    c.loop-index.invariant.1
