use Rattle.std.proofs.Common.{◌*◌, ◌≤◌, length}
use Rattle.std.specs.List.{flat_map}
use Rattle.rvfi_rows.specs.Segments.{segment_lines}
use Rattle.stage_times.proofs.windows.take_window.Given as goal

-- so many segments, each with so many lines at most
abbrev pub invariant-segments : goal.invariant-segments
invariant-segments g l = record {
  one_each : length l.segments.items ≤ l.counter;
  lines : length (flat_map segment_lines l.segments.items) ≤ l.counter * 4096;
}
