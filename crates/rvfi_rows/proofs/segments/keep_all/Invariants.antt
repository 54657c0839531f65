use Rattle.std.proofs.Common.{◌≡◌, map}
use Rattle.std.specs.List.{All}
use Rattle.std.specs.Vec.Iter.{into_iter_items}
use Rattle.rvfi_rows.specs.Segments.{ReadsPlace, segment_lines}
use Rattle.rvfi_rows.proofs.segments.keep_all.Given as goal

-- what is left to be kept was read of these lines
abbrev pub invariant-loop-one : goal.invariant-loop-one
invariant-loop-one l = record {
  lines : map segment_lines l.segments ≡ map segment_lines l.initial.segments;
  left : All (ReadsPlace (map segment_lines l.initial.segments)) (into_iter_items l.one-iterator);
}
