use Rattle.std.proofs.Common.{◌≡◌, ◌≤◌, ◌+◌, ◌/◌, ℕ, ◌&&◌, if◌then◌else◌}
use Rattle.std.specs.Prelude.{nat_lt}
use Rattle.std.specs.HashMap.{spare}
use Rattle.hart_words.specs.Memory.{is_within}
use Rattle.row_origin.specs.Last.{byte_at}
use Rattle.row_origin.specs.Places.{as_row}
use Rattle.row_origin.proofs.last.note_write.Given as goal

-- the blocks up to this one were filled
abbrev pub invariant-loop-number : goal.invariant-loop-number
invariant-loop-number l = record {
  from : l.pa / 32 ≤ l.number;
  room : spare l.fn.bytes.blocks + l.pa / 32 ≤ spare l.bytes.blocks + l.number;
  rows : (address : ℕ)
      → byte_at l.bytes address
      ≡ (if is_within l.pa l.len address && nat_lt (address / 32) l.number then as_row l.row
      else byte_at l.fn.bytes address);
}
