use Rattle.std.proofs.Common.{◌<◌, Ok, None, arith, get_or, length, sym}
use Rattle.std.proofs.lemmas.Option.{slice_get-get_or}
use Rattle.rvfi_rows.specs.Readings.{readings_in}
use Rattle.boundary_guess.specs.Guesses.{set_state_of}
use Rattle.boundary_guess.proofs.Passed.{row_stops, row_turn, rows_end}
use Rattle.boundary_guess.proofs.guessing.pass_rows.Goals as goal

pub pass_place-requires-clause-there : goal.pass_place-requires-clause-there
pass_place-requires-clause-there g c = omega (arith, c.loop-place-test.true, c.len-place-end.ensures.count)

pub returns-then-not-branch-clause-guess : goal.returns-then-not-branch-clause-guess
returns-then-not-branch-clause-guess g c =
    let readings = readings_in c.args.rows.now in
    let place = c.loop-place.place in
    let below : place < length readings =
    omega (arith, c.loop-place-test.true, c.len-place-end.ensures.count) in
    let here = sym (slice_get-get_or readings place (Ok None) below) in
    let before = set_state_of g.M.PhysMem.bytes c.loop-place.harts in
    let now = set_state_of g.M.PhysMem.bytes c.pass_place.new.harts in
    row_stops before now readings place here c.if-not-branch.true
    (c.in_ok-pass_place.ensures.passes (get_or readings place (Ok None)) here) c.loop-place.invariant.whole

pub loop-place-preserved : goal.loop-place-preserved
loop-place-preserved g c =
    let readings = readings_in c.args.rows.now in
    let place = c.loop-place.place in
    let below : place < length readings =
    omega (arith, c.loop-place-test.true, c.len-place-end.ensures.count) in
    let here = sym (slice_get-get_or readings place (Ok None) below) in
    let before = set_state_of g.M.PhysMem.bytes c.loop-place.harts in
    let now = set_state_of g.M.PhysMem.bytes c.pass_place.new.harts in
    record {
      whole =
          row_turn before now readings place here c.if-not-branch.false
          (c.in_ok-pass_place.ensures.passes (get_or readings place (Ok None)) here) c.loop-place.invariant.whole;
      can_step = c.in_ok-pass_place.ensures.can_step;
    }

pub returns-clause-guess : goal.returns-clause-guess
returns-clause-guess g c =
    let before = set_state_of g.M.PhysMem.bytes c.loop-place.harts in
    rows_end before (readings_in c.args.rows.now) c.loop-place.place _
    (omega (arith, c.loop-place-test.false, c.len-place-end.ensures.count)) c.loop-place.invariant.whole
