use Rattle.std.proofs.Common.{arith, ap, length}
use Rattle.row_origin.specs.Last.{byte_in}
use Rattle.row_origin.specs.Origins.{bytes_in}
use Rattle.row_origin.proofs.Read.{origins_count}
use Rattle.row_origin.proofs.last.Last.put_in_order.Goals as goal

pub put_read-requires-then-first-second-clause-room : goal.put_read-requires-then-first-second-clause-room
put_read-requires-then-first-second-clause-room c =
    omega (
      arith,
      origins_count (byte_in c.args.self.now) c.args.first.pa c.args.first.len (bytes_in c.args.origins.now)
          (bytes_in c.put_read.new.origins) c.put_read.ensures.bytes,
      ap length c.requires.none,
      c.requires.few,
    )

pub put_read-requires-else-first-second-2-clause-room : goal.put_read-requires-else-first-second-2-clause-room
put_read-requires-else-first-second-2-clause-room c =
    omega (
      arith,
      origins_count (byte_in c.args.self.now) c.args.second.pa c.args.second.len (bytes_in c.args.origins.now)
          (bytes_in c.put_read-else-first-second.new.origins) c.put_read-else-first-second.ensures.bytes,
      ap length c.requires.none,
      c.requires.few,
    )
