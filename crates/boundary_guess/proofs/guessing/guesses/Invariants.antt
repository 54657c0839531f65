use Rattle.std.proofs.Common.{◌≡◌, ◌++◌, drop, map}
use Rattle.std.specs.List.{All}
use Rattle.rvfi_rows.specs.Segments.{segment_lines}
use Rattle.boundary_guess.specs.Guesses.{SetCanStep, guesses_of, set_state_of}
use Rattle.boundary_guess.proofs.guessing.guesses.Given as goal

-- the guesses so far and those of the segments that are left are those of all segments
abbrev pub invariant-loop-index : goal.invariant-loop-index
invariant-loop-index g l = record {
  whole : map (set_state_of g.M.PhysMem.bytes) l.guesses.items
      ++ guesses_of (set_state_of g.M.PhysMem.bytes l.harts) l.columns (drop l.index (map segment_lines l.segments))
      ≡ guesses_of (set_state_of g.M.PhysMem.bytes l.start) l.columns (map segment_lines l.segments);
  can_step : SetCanStep g.M.PhysMem.ram l.harts;
  all : All (SetCanStep g.M.PhysMem.ram) l.guesses.items;
}
