use Rattle.std.proofs.Common.{◌≤◌, ◌<◌, ◌∙◌, ap, arith, length, Ok}
use Rattle.std.proofs.lemmas.Result.{err_from_is_err_and}
use Rattle.rvfi_rows.proofs.QuickCells.{cell-end, cell-fail, cell-next, cell-skip}
use Rattle.rvfi_rows.proofs.ShownBits.{none_shown}
use Rattle.rvfi_rows.proofs.Steps.{cells-start}
use Rattle.rvfi_rows.specs.Cells.{shown_by}
use Rattle.rvfi_rows.proofs.cells.fill_cells.Goals as goal
use Rattle.rvfi_rows.proofs.cells.fill_cells.Goals.{in-Some+in_ok-shown, in_default}

pub loop-index-init : goal.loop-index-init
loop-index-init c = record {
  front = cells-start c.args.known.now.placed.items c.args.fields.now _ (none_shown c.args.row.now.values);
  within = omega arith;
}

pub loop-index-preserved : goal.loop-index-preserved
loop-index-preserved c =
    let known = c.args.known.now in
    let front = shown_by c.loop-index.shown c.loop-index.row.values in
    let within : c.loop-index.index < length known.cells.items = omega arith in
    elim c.match-untrimmed.branch [
      | in-Some+in_ok-shown w ↦ rw (w.row-is, w.shown-is) (record {
        front =
            cell-next known c.args.fields.now c.loop-index.index c.index-one.result.now front within c.index-one.ensures
            w.in-Some.ensures w.in_ok-shown.ensures.adds c.loop-index.invariant.front;
        within = w.in_ok-shown.ensures.within c.loop-index.invariant.within;
      })
      | in_default w ↦ rw (w.row-is, w.shown-is) (record {
        front =
            cell-skip known c.args.fields.now c.loop-index.index c.index-one.result.now front within c.index-one.ensures
            w.in_default.ensures c.loop-index.invariant.front;
        within = c.loop-index.invariant.within;
      })
    ]

pub returns : goal.returns
returns c =
    let known = c.args.known.now in
    let past : length known.cells.items ≤ c.loop-index.index = omega arith in
    ap Ok c.show.ensures
    ∙ cell-end known c.args.fields.now c.loop-index.index (shown_by c.loop-index.shown c.loop-index.row.values) _ past
    c.loop-index.invariant.front

pub returns-in_err-shown : goal.returns-in_err-shown
returns-in_err-shown c =
    let known = c.args.known.now in
    let within : c.loop-index.index < length known.cells.items = omega arith in
    let p = err_from_is_err_and c.from_residual.result c.from_residual.ensures.1 in
    rw (p.1, p.2)
    (cell-fail known c.args.fields.now c.loop-index.index c.index-one.result.now
    (shown_by c.loop-index.shown c.loop-index.row.values) within c.index-one.ensures c.in-Some.ensures
    c.in_err-shown.ensures.adds c.loop-index.invariant.front)
