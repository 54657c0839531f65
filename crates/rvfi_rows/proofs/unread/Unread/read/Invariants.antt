use Rattle.std.proofs.Common.{map}
use Rattle.std.specs.List.{All}
use Rattle.rvfi_rows.specs.Segments.{ReadsPlace, segment_lines}
use Rattle.rvfi_rows.proofs.unread.Unread.read.Given as goal

abbrev pub invariant-loop : goal.invariant-loop
invariant-loop l = All (ReadsPlace (map segment_lines l.self.segments.now)) l.done.items
