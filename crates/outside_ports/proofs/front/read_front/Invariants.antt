use Rattle.std.proofs.Common.{◌≡◌, ◌<◌, ◌+◌, ◌-◌, vec_len}
use Rattle.outside_ports.specs.Ports.{file_of, IsThere}
use Rattle.outside_ports.proofs.Fronts.{IsRead}
use Rattle.outside_ports.proofs.front.read_front.Given as goal

abbrev pub invariant-reading : goal.invariant-reading
invariant-reading g l =
    (g.H.Shelf.known_files l.shelf ≡ g.H.Shelf.known_files l.initial.shelf)
    × (g.H.Shelf.faults l.shelf ≡ g.H.Shelf.faults l.initial.shelf)
    × (g.H.Shelf.misses l.shelf ≡ g.H.Shelf.misses l.initial.shelf)
    × (0 < vec_len l.chunk)
    × IsRead (file_of (g.H.Shelf.known_files l.initial.shelf) l.name) l.bytes.items
    × (0 < vec_len l.bytes → IsThere (g.H.Shelf.known_files l.initial.shelf) l.name)

abbrev pub decreases-reading : goal.decreases-reading
decreases-reading g l = l.most + 1 - vec_len l.bytes
