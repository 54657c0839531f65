use Rattle.std.proofs.lemmas.Grind.{common_steps}
use Rattle.std.proofs.Common.{◌≡◌, ◌++◌, ◌≤◌, take, length, rules, arith, ◌∙◌}
use Rattle.outside_ports.specs.Ports.{file_of}
use Rattle.outside_ports.proofs.Fronts.{read_more}
use Rattle.outside_ports.proofs.front.read_front.Goals as goal

pub reading-preserved : goal.reading-preserved
reading-preserved g c =
    let kept = c.reading.invariant in
    let place : c.len-in-reading.result ≡ length c.reading.bytes.items = search rules in
    let next = rw (kept.0, place) at c.in_ok-count.ensures.next in
    let within : c.in_ok-count.count ≤ length c.read_chunk.new.chunk.items = search rules in
    let more =
    read_more (file_of (g.H.Shelf.known_files c.args.shelf.now) c.args.name.now) c.reading.bytes.items
    c.read_chunk.new.chunk.items c.in_ok-count.count within kept.4 next in
    let grown : c.extend_from_slice.new.self.items ≡ c.reading.bytes.items
    ++ take c.in_ok-count.count c.read_chunk.new.chunk.items =
    grind (arith, common_steps, c.in_ok-extend_from_slice.ensures) in (
      c.read_chunk.ensures.known_files ∙ kept.0,
      c.in_ok-count.ensures.faults ∙ kept.1,
      c.in_ok-count.ensures.misses ∙ kept.2,
      omega (arith, c.read_chunk.ensures.len, kept.3),
      rw grown more,
      (λ some. rw kept.0 at c.in_ok-count.ensures.file_exists),
    )
