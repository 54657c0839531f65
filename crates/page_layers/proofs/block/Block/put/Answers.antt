use Rattle.std.proofs.Common.{◌%◌, ◌+◌, sym, ap, arith}
use Rattle.std.proofs.Math.Nat.{div-one}
use Rattle.page_image.proofs.Stored.{stored-none, rest_more}
use Rattle.page_layers.specs.Blocks.{block_byte}
use Rattle.page_layers.proofs.BlockBytes.{IsByteOf, SetsByte, put_more}
use Rattle.page_layers.proofs.block.Block.put.Goals as goal

pub loop-k-init : goal.loop-k-init
loop-k-init c = record {
  bytes = λ at in_block. ap (λ bytes. bytes at) (sym (stored-none c.args.pa c.args.value (block_byte c.args.self.now)));
  rest = sym (div-one c.args.value);
}

pub loop-k-preserved : goal.loop-k-preserved
loop-k-preserved c =
    let byte = ap (λ v. v % 256) c.loop-k.invariant.rest in
    let byte_of : IsByteOf c.args.pa c.args.len c.loop-k.k =
    record { inside = c.requires.block; below = omega arith } in
    let set : SetsByte (block_byte c.loop-k.self) (block_byte c.set.new.self) (c.args.pa + c.loop-k.k)
    (c.loop-k.rest % 256) = record { sets = c.set.ensures } in
    record {
      bytes =
          λ at in_block. put_more (block_byte c.args.self.now) c.args.value at byte byte_of in_block set
          (c.loop-k.invariant.bytes at in_block);
      rest = rest_more c.args.value c.loop-k.k c.loop-k.rest c.loop-k.invariant.rest;
    }
