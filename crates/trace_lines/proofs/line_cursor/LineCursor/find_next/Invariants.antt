use Rattle.std.proofs.Common.{◌≡◌}
use Rattle.outside_ports.specs.Ports.{file_of}
use Rattle.trace_lines.specs.Cursors.{ForFile, lines_from_cursor, room_in, read_count}
use Rattle.trace_lines.proofs.line_cursor.LineCursor.find_next.Given as goal

abbrev pub invariant-reading : goal.invariant-reading
invariant-reading g l = record {
  known_files : g.H.Shelf.known_files l.shelf ≡ g.H.Shelf.known_files l.initial.shelf;
  faults : g.H.Shelf.faults l.shelf ≡ g.H.Shelf.faults l.initial.shelf;
  misses : g.H.Shelf.misses l.shelf ≡ g.H.Shelf.misses l.initial.shelf;
  left : ForFile (file_of (g.H.Shelf.known_files l.initial.shelf) l.name)
      (λ file. lines_from_cursor file l.self ≡ lines_from_cursor file l.initial.self);
  room : room_in l.self ≡ room_in l.initial.self;
}

abbrev pub decreases-reading : goal.decreases-reading
decreases-reading g l = read_count l.self
