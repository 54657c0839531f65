use Rattle.std.proofs.Common.{◌<◌, All, take}
use Rattle.segment_tests.proofs.footprints.are_bytes.Given as goal

-- the values so far are bytes
abbrev pub invariant-loop-byte : goal.invariant-loop-byte
invariant-loop-byte l = All (λ byte. byte < 256) (take l.byte-index l.bytes)
