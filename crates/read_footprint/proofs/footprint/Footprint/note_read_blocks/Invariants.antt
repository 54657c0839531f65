use Rattle.std.proofs.Common.{◌≡◌, ◌≤◌, ◌+◌, ◌/◌, ℕ, ◌&&◌, ◌||◌}
use Rattle.std.specs.Prelude.{not, nat_lt}
use Rattle.std.specs.HashMap.{spare}
use Rattle.hart_words.specs.Memory.{is_within}
use Rattle.read_footprint.specs.Sets.{has_read, has_written}
use Rattle.read_footprint.proofs.footprint.Footprint.note_read_blocks.Given as goal

-- the blocks up to this one were noted
abbrev pub invariant-loop-number : goal.invariant-loop-number
invariant-loop-number l = record {
  from : l.pa / 64 ≤ l.number;
  room : spare l.fn.self.blocks + l.pa / 64 ≤ spare l.self.blocks + l.number;
  read : (address : ℕ)
      → has_read l.self address
      ≡ (has_read l.fn.self address
      || (is_within l.pa l.len address && nat_lt (address / 64) l.number && not (has_written l.fn.self address)));
  wrote : (address : ℕ) → has_written l.self address ≡ has_written l.fn.self address;
}
