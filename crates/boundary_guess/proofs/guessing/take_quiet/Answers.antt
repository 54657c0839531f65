use Rattle.std.proofs.Common.{ap}
use Rattle.rvfi_rows.specs.Readings.{kept_shown, readings_in}
use Rattle.boundary_guess.proofs.Passed.{quiet_passes_there, same_state}
use Rattle.boundary_guess.proofs.guessing.take_quiet.Goals as goal

pub returns-in-Some-clause-passes : goal.returns-in-Some-clause-passes
returns-in-Some-clause-passes g c = λ is.
    quiet_passes_there g.M.PhysMem.bytes c.args.harts.now c.take_quiet.new.self (kept_shown c.in-Some.row)
    (readings_in c.args.rows.now) c.args.place c.in-Some.ensures (c.take_quiet.ensures.taken is)
    (ap g.M.PhysMem.bytes c.take_quiet.ensures.mem)

pub returns-in-Some-clause-kept : goal.returns-in-Some-clause-kept
returns-in-Some-clause-kept g c = λ is.
    same_state g.M.PhysMem.bytes c.take_quiet.new.self c.args.harts.now (c.take_quiet.ensures.kept is)
    (ap g.M.PhysMem.bytes c.take_quiet.ensures.mem)
