use Rattle.std.proofs.Common.{◌≡◌, drop}
use Rattle.rvfi_rows.specs.Readings.{readings_in}
use Rattle.boundary_guess.specs.Guesses.{SetCanStep, guess_after, set_state_of}
use Rattle.boundary_guess.proofs.guessing.pass_rows.Given as goal

-- the guess after the rows that are left is the guess after all rows
abbrev pub invariant-loop-place : goal.invariant-loop-place
invariant-loop-place g l = record {
  whole : guess_after (set_state_of g.M.PhysMem.bytes l.harts) (drop l.place (readings_in l.rows))
      ≡ guess_after (set_state_of g.M.PhysMem.bytes l.fn.harts) (readings_in l.rows);
  can_step : SetCanStep g.M.PhysMem.ram l.harts;
}
