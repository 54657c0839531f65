use Rattle.std.proofs.Common.{◌≡◌, ◌≤◌, ◌+◌, ◌-◌, ◌*◌, ◌++◌, length}
use Rattle.std.specs.List.{concat}
use Rattle.page_layers.specs.Memories.{layered_bytes}
use Rattle.state_text.specs.Memory.{memory_lines}
use Rattle.state_text.proofs.writing.put_page.Given as goal

-- what was put, with the lines of the blocks that are left
abbrev pub invariant-loop-k : goal.invariant-loop-k
invariant-loop-k l = record {
  room : length l.piece ≤ length l.fn.piece + 64 * l.k;
  text : l.piece ++ concat (memory_lines (layered_bytes l.mem) (l.page + 16 * l.k) (256 - l.k))
      ≡ l.fn.piece ++ concat (memory_lines (layered_bytes l.mem) l.page 256);
}
