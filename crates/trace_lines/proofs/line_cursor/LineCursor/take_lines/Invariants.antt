use Rattle.std.proofs.Common.{◌≡◌, ◌+◌, ◌≤◌, length}
use Rattle.outside_ports.specs.Ports.{file_of}
use Rattle.trace_lines.specs.Pieces.{with_lines}
use Rattle.trace_lines.specs.Cursors.{ForFile, lines_from_cursor, room_in}
use Rattle.trace_lines.proofs.line_cursor.LineCursor.take_lines.Given as goal

abbrev pub invariant-taking : goal.invariant-taking
invariant-taking g l = record {
  known_files : g.H.Shelf.known_files l.shelf ≡ g.H.Shelf.known_files l.initial.shelf;
  faults : g.H.Shelf.faults l.shelf ≡ g.H.Shelf.faults l.initial.shelf;
  misses : g.H.Shelf.misses l.shelf ≡ g.H.Shelf.misses l.initial.shelf;
  left : ForFile (file_of (g.H.Shelf.known_files l.initial.shelf) l.name)
      (λ file. with_lines l.lines (lines_from_cursor file l.self) ≡ lines_from_cursor file l.initial.self);
  room : length l.lines + room_in l.self ≤ room_in l.initial.self;
  count : length l.lines ≤ l.asked;
}

abbrev pub decreases-taking : goal.decreases-taking
decreases-taking g l = room_in l.self
