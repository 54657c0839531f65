use Rattle.std.proofs.Common.{◌≡◌, ◌++◌}
use Rattle.row_origin.specs.Last.{byte_in}
use Rattle.row_origin.specs.Origins.{byte_origins, bytes_in, registers_in}
use Rattle.row_origin.specs.Sources.{addresses_from}
use Rattle.row_origin.proofs.last.Last.put_read.Given as goal

-- the first k bytes were added
abbrev pub invariant-loop-k : goal.invariant-loop-k
invariant-loop-k l = record {
  bytes : bytes_in l.origins
      ≡ bytes_in l.fn.origins ++ byte_origins (byte_in l.self) (addresses_from l.read.pa l.k);
  registers : registers_in l.origins ≡ registers_in l.fn.origins;
}
