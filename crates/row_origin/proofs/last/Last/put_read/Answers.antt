use Rattle.std.proofs.Common.{arith, ap, ◌∙◌, ◌+◌, ◌++◌, ◌∷◌, [], refl}
use Rattle.row_origin.specs.Last.{byte_in}
use Rattle.row_origin.specs.Origins.{bytes_in}
use Rattle.row_origin.proofs.Read.{no_origins, origins_count, origins_more}
use Rattle.row_origin.proofs.last.Last.put_read.Goals as goal

pub loop-k-init : goal.loop-k-init
loop-k-init c = record {
  bytes = no_origins (byte_in c.args.self.now) c.args.read.pa (bytes_in c.args.origins.now);
  registers = refl;
}

pub put_byte-requires : goal.put_byte-requires
put_byte-requires c =
    omega (
      arith,
      origins_count (byte_in c.args.self.now) c.args.read.pa c.loop-k.k (bytes_in c.args.origins.now)
          (bytes_in c.loop-k.origins) c.loop-k.invariant.bytes,
      c.requires.room,
    )

pub loop-k-preserved : goal.loop-k-preserved
loop-k-preserved c = record {
  bytes =
      origins_more (byte_in c.args.self.now) c.args.read.pa c.loop-k.k (bytes_in c.args.origins.now) _ _
      c.loop-k.invariant.bytes
      (c.put_byte.ensures.bytes
      ∙ ap (λ row. bytes_in c.loop-k.origins ++ record { address = c.args.read.pa + c.loop-k.k; row = row } ∷ [])
      c.byte-row.ensures);
  registers = c.put_byte.ensures.registers ∙ c.loop-k.invariant.registers;
}
