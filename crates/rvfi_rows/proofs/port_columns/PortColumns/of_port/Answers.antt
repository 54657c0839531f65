use Rattle.std.proofs.Common.{◌++◌, ◌∷◌, [], ◌∙◌, ap, append-nil, None, sym}
use Rattle.rvfi_rows.specs.Placed.{placed_from}
use Rattle.rvfi_rows.proofs.Steps.{placed-next}
use Rattle.rvfi_rows.proofs.port_columns.PortColumns.of_port.Goals as goal
use Rattle.rvfi_rows.proofs.port_columns.PortColumns.of_port.Goals.{in-Some+in_ok-push, in_default}

pub loop-place-init : goal.loop-place-init
unfolding placed_from
loop-place-init c = c.new-placed.ensures.items

pub loop-place-preserved : goal.loop-place-preserved
unfolding placed_from
loop-place-preserved c =
    let items = c.loop-place.placed.items in
    elim c.match-column_if_of.branch [
      | in-Some+in_ok-push w ↦
          rw w.placed-is
          (placed-next c.args.columns.now c.args.port c.loop-place.place None items c.loop-place-test.true
          (w.in_ok-push.ensures.items
          ∙ ap (λ found. items ++ placed_from c.loop-place.place (found ∷ [])) (sym w.in-Some.is ∙ c.column_if_of.ensures))
          c.loop-place.invariant)
      | in_default w ↦
          rw w.placed-is
          (placed-next c.args.columns.now c.args.port c.loop-place.place None items c.loop-place-test.true
          (sym (append-nil items)
          ∙ ap (λ found. items ++ placed_from c.loop-place.place (found ∷ []))
          (sym w.in_default.is ∙ c.column_if_of.ensures)) c.loop-place.invariant)
    ]
