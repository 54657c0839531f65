use Rattle.std.proofs.Common.{◌≡◌, map, length}
use Rattle.segment_workers.specs.Works.{seat_of}
use Rattle.segment_workers.proofs.running.workers_at.Given as goal

abbrev pub invariant-loop-seat : goal.invariant-loop-seat
invariant-loop-seat l =
    (goal.iterator-loop-seat).can_next l.seat-iterator × (goal.iterator-loop-seat).is_finite l.seat-iterator
    × (l.number ≡ length l.yielded) × (map seat_of l.workers.items ≡ l.yielded)
