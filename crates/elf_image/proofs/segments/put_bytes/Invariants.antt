use Rattle.std.proofs.Common.{◌≡◌, ◌+◌, ◌<◌, ◌^◌, length}
use Rattle.image_text.specs.Bytes.{byte_at}
use Rattle.image_text.specs.Runs.{with_bytes}
use Rattle.elf_image.proofs.segments.put_bytes.Given as goal

-- what was put, with the bytes that are left, is all bytes
abbrev pub invariant-loop-rest : goal.invariant-loop-rest
invariant-loop-rest l = record {
  whole :
      with_bytes (byte_at l.pieces) l.at l.rest ≡ with_bytes (byte_at l.initial.pieces) l.address l.bytes;
  room : l.at + length l.rest < 2 ^ 64;
}

abbrev pub decreases-loop-rest : goal.decreases-loop-rest
decreases-loop-rest l = length l.rest
