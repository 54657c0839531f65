use Rattle.std.proofs.Common.{◌≡◌, ◌<◌, ◌++◌, drop, length}
use Rattle.std.specs.List.{concat}
use Rattle.state_text.specs.Texts.{cores_lines}
use Rattle.state_text.proofs.Underway.{IsUnderway}
use Rattle.state_text.proofs.writing.write_cores.Given as goal

-- what was sent and what is kept, with the lines of the harts that are left
abbrev pub invariant-loop-place : goal.invariant-loop-place
invariant-loop-place g l = record {
  room : length l.piece < 8192;
  no_fault : g.S.Sink.faults l.sink ≡ g.S.Sink.faults l.fn.sink;
  text : IsUnderway (l.fn.piece ++ concat (cores_lines l.cores)) (g.S.Sink.held l.fn.sink) (g.S.Sink.held l.sink)
      l.piece (concat (cores_lines (drop l.place l.cores)));
}
