use Rattle.std.proofs.Common.{◌≡◌, ◌≤◌, ◌<◌, ◌+◌, ◌-◌, ◌%◌, length}
use Rattle.page_layers.specs.Memories.{layered_bytes}
use Rattle.state_text.specs.Writes.{text_from}
use Rattle.state_text.proofs.Underway.{IsUnderway, rest_from}
use Rattle.state_text.proofs.writing.write_memory.Given as goal

-- what was sent and what is kept, with the lines that are left
abbrev pub invariant-pages : goal.invariant-pages
invariant-pages g l = record {
  room : length l.piece < 8192;
  whole : l.from % 4096 ≡ 0;
  low : l.ram.base ≤ l.from;
  high : l.from ≤ l.ram.base + l.ram.size;
  no_fault : g.S.Sink.faults l.sink ≡ g.S.Sink.faults l.fn.sink;
  text : IsUnderway (text_from l.fn.piece (layered_bytes l.mem) l.ram) (g.S.Sink.held l.fn.sink)
      (g.S.Sink.held l.sink) l.piece (rest_from (layered_bytes l.mem) l.ram l.from);
}

abbrev pub decreases-pages : goal.decreases-pages
decreases-pages g l = l.ram.base + l.ram.size - l.from
