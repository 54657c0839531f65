use Rattle.std.proofs.Common.{ap, ◌+◌, ◌∙◌, arith}
use Rattle.read_footprint.specs.Sets.{has_read, has_written}
use Rattle.read_footprint.proofs.Noting.{bits_up_to, read_more, written_same}
use Rattle.read_footprint.proofs.footprint.Footprint.note_read_blocks.Goals as goal

pub loop-number-preserved : goal.loop-number-preserved
unfolding has_read has_written
loop-number-preserved c = record {
  from = omega (arith, c.loop-number.invariant.from);
  room = omega (arith, c.loop-number.invariant.room, c.note-block.ensures.room, c.remember.ensures.room);
  read =
      λ address. c.remember.ensures.same.read address ∙ read_more c.args.self.now address c.note-block.ensures.noted
      (bits_up_to (ap (λ n. c.args.pa + n) c.from.ensures) c.bits_of-read.ensures)
      (c.loop-number.invariant.read address) (c.loop-number.invariant.wrote address);
  wrote =
      λ address. c.remember.ensures.same.wrote address ∙ written_same c.loop-number.self c.note-block.new.self c.loop-number.number c.bits_of-read.result address
      c.note-block.ensures.noted ∙ c.loop-number.invariant.wrote address;
}
