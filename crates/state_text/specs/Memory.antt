-- Memory in a saved state: its blocks of 16 bytes, as a text has them and as a reader finds them.
use Rattle.std.specs.Prelude.{ℕ, zero, suc, ◌+◌, ◌-◌, if◌then◌else◌, List, [], ◌∷◌, length, map, slice_index}
use Rattle.std.specs.Prelude.{Result, Ok, Err, unwrap_or}
use Rattle.std.specs.List.{range_with_len}
use Rattle.hart_words.specs.declared.span.Span.{Span}
use Rattle.hart_words.specs.Memory.{Bytes, is_within}
use Rattle.hart_words.specs.Results.{◌>>=◌}
use Rattle.image_text.specs.declared.pieces.Pieces.{Pieces}
use Rattle.image_text.specs.Bytes.{byte_at}
use Rattle.state_text.specs.declared.fault.FaultKind.TheVariants.{BadLine}
use Rattle.state_text.specs.declared.fault.StateFault.{StateFault}
use Rattle.state_text.specs.Lines.{block_line, end_line}
use Rattle.state_text.specs.declared.memory.MemoryBlock.{MemoryBlock}
use Rattle.state_text.specs.Reading.{Remaining, fault_at, is_next, after, is_zero, block_in}

-- the 16 bytes from an address on
abbrev pub bytes_from : Bytes → ℕ → List ℕ
bytes_from bytes address = map bytes (range_with_len address 16)

-- the line of a block, with no byte where the block is all 0
abbrev pub block_text : ℕ → List ℕ → List ℕ
block_text address bytes = if is_zero bytes then [] else block_line address bytes

-- the lines of so many blocks from an address on, of those alone that are not all 0
unfoldable pub memory_lines : Bytes → ℕ → ℕ → List (List ℕ)
memory_lines bytes address zero = []
memory_lines bytes address (suc count) =
    if is_zero (bytes_from bytes address) then memory_lines bytes (address + 16) count
    else block_line address (bytes_from bytes address) ∷ memory_lines bytes (address + 16) count

-- memory with a block
abbrev pub with_block : MemoryBlock → Bytes → Bytes
with_block block bytes address =
    if is_within block.address (length block.bytes) address
    then slice_index block.bytes (address - block.address)
    else bytes address

-- the last line, with nothing after it
abbrev pub memory_end_in : Bytes → Remaining → Result Bytes StateFault
memory_end_in bytes remaining = nothing_after remaining.text
  where
    nothing_after : List ℕ → Result Bytes StateFault
    nothing_after [] = Ok bytes
    nothing_after (_ ∷ _) = Err (fault_at remaining BadLine)

-- Memory after the blocks of a text, each at or above the least address that it may have, and the end. There are fewer
-- lines than the first number says: one more than there are bytes will do.
unfoldable pub memory_in : Span → ℕ → ℕ → Bytes → Remaining → Result Bytes StateFault
memory_in ram zero least bytes remaining = Err (fault_at remaining BadLine)
memory_in ram (suc most) least bytes remaining =
    if is_next end_line remaining then memory_end_in bytes (after end_line remaining)
    else (block_in ram least remaining
    >>= λ read. memory_in ram most (read.0.address + 16) (with_block read.0 bytes) read.1)

-- the bytes of pieces, 0 where they have none
abbrev pub memory_of : Pieces → Bytes
memory_of pieces address = unwrap_or (byte_at pieces address) 0
