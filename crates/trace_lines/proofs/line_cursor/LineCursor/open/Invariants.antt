use Rattle.std.proofs.Common.{◌≡◌, ◌≤◌}
use Rattle.outside_ports.specs.Ports.{file_of, IsThere}
use Rattle.trace_lines.specs.Cursors.{ForFile, Holds, room_in, read_count}
use Rattle.trace_lines.proofs.line_cursor.LineCursor.open.Given as goal

abbrev pub invariant-marking : goal.invariant-marking
invariant-marking g l = record {
  known_files : g.H.Shelf.known_files l.shelf ≡ g.H.Shelf.known_files l.fn.shelf;
  faults : g.H.Shelf.faults l.shelf ≡ g.H.Shelf.faults l.fn.shelf;
  misses : g.H.Shelf.misses l.shelf ≡ g.H.Shelf.misses l.fn.shelf;
  exists : IsThere (g.H.Shelf.known_files l.fn.shelf) l.name;
  holds : ForFile (file_of (g.H.Shelf.known_files l.fn.shelf) l.name) (Holds l.most l.cursor);
  at : l.cursor.at ≡ 0;
  number : l.cursor.number ≡ 1;
  most : l.cursor.most ≡ l.most;
  room : room_in l.cursor ≤ l.most;
}

abbrev pub decreases-marking : goal.decreases-marking
decreases-marking g l = read_count l.cursor
