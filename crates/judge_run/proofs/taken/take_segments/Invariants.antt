use Rattle.std.proofs.Common.{◌≡◌, ◌≤◌, ◌+◌, ◌*◌, length, string_bytes}
use Rattle.std.specs.List.{flat_map}
use Rattle.outside_ports.specs.Ports.{IsThere, file_of}
use Rattle.rvfi_rows.specs.Segments.{segment_lines}
use Rattle.trace_lines.specs.Takers.{room_of}
use Rattle.judge_run.specs.Taking.{TakesSoFarWhereKnown}
use Rattle.judge_run.proofs.taken.take_segments.Given as goal

-- so many segments were taken, each whole
abbrev pub invariant-segments : goal.invariant-segments
invariant-segments g l = record {
  known_files : g.H.Shelf.known_files l.shelf ≡ g.H.Shelf.known_files l.initial.shelf;
  faults : g.H.Shelf.faults l.shelf ≡ g.H.Shelf.faults l.initial.shelf;
  misses : g.H.Shelf.misses l.shelf ≡ g.H.Shelf.misses l.initial.shelf;
  file_exists : IsThere (g.H.Shelf.known_files l.initial.shelf) (string_bytes l.taker.name);
  taken : TakesSoFarWhereKnown (file_of (g.H.Shelf.known_files l.initial.shelf) (string_bytes l.initial.taker.name))
      (l.counter * l.job.sharing.segment) l.initial.taker (flat_map segment_lines l.segments.items) l.taker;
  count : length (flat_map segment_lines l.segments.items) ≡ l.counter * l.job.sharing.segment;
  at_most_counter : length l.segments.items ≤ l.counter;
  full : length l.segments.items ≤ length (flat_map segment_lines l.segments.items);
  room : length (flat_map segment_lines l.segments.items) + room_of l.taker ≤ room_of l.initial.taker;
}
