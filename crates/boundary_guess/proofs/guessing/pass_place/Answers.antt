use Rattle.std.proofs.lemmas.Result.{IfOk-weaker}
use Rattle.rvfi_rows.specs.Readings.{readings_in}
use Rattle.boundary_guess.specs.Guesses.{set_state_of}
use Rattle.boundary_guess.proofs.Passed.{slow_passes}
use Rattle.boundary_guess.proofs.guessing.pass_place.Goals as goal

pub returns-clause-passes : goal.returns-clause-passes
returns-clause-passes g c =
    let before = set_state_of g.M.PhysMem.bytes c.args.harts.now in
    let same = set_state_of g.M.PhysMem.bytes c.take_quiet.new.harts in
    let now = set_state_of g.M.PhysMem.bytes c.pass_reading.new.harts in
    IfOk-weaker c.pass_reading.result _ _
    (λ goes_on passes.
    slow_passes before same now (readings_in c.args.rows.now) c.args.place _ goes_on
    (c.take_quiet.ensures.kept c.if-take_quiet.false) c.in-Some.ensures passes) c.pass_reading.ensures.passes
