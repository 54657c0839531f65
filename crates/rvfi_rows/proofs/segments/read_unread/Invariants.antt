use Rattle.std.proofs.Common.{◌≡◌, map, take}
use Rattle.std.specs.List.{All}
use Rattle.rvfi_rows.specs.Segments.{IsRead, segment_lines}
use Rattle.rvfi_rows.proofs.segments.read_unread.Given as goal

-- the first segments were read
abbrev pub invariant-loop-place : goal.invariant-loop-place
invariant-loop-place l = record {
  lines : map segment_lines l.segments ≡ map segment_lines l.initial.segments;
  read : All (IsRead l.columns) (take l.place l.segments);
}
