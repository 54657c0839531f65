use Rattle.std.proofs.Common.{◌++◌, ◌∙◌, ap}
use Rattle.trace_maker.specs.Rows.{made_row}
use Rattle.trace_maker.specs.Texts.{header_text, row_text}
use Rattle.trace_maker.proofs.Lines.{lines_go_on}
use Rattle.trace_maker.proofs.trace.trace_text.Goals as goal

pub loop-order-preserved : goal.loop-order-preserved
loop-order-preserved c =
    let so_far = c.loop-order.invariant in
    let row = c.step-row.ensures.row ∙ ap (λ n. made_row n c.loop-order.order) so_far.0 in (
      c.step-row.ensures.number ∙ so_far.0,
      c.step-row.ensures.before,
      c.in_ok-put_row.ensures
          ∙ ap (λ made. c.loop-order.text ++ row_text made) row
          ∙ ap (λ text. text ++ row_text (made_row c.args.number c.loop-order.order)) so_far.2
          ∙ lines_go_on c.args.number c.loop-order.order header_text,
    )
