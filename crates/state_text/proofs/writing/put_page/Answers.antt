use Rattle.std.proofs.Common.{arith}
use Rattle.page_layers.specs.Memories.{layered_bytes}
use Rattle.state_text.proofs.Underway.{page_ends, page_on}
use Rattle.state_text.proofs.writing.put_page.Goals as goal

pub loop-k-preserved : goal.loop-k-preserved
loop-k-preserved c = record {
  room = omega (arith, c.put_block.ensures.len, c.loop-k.invariant.room);
  text = page_on (layered_bytes c.args.mem.now) c.args.page c.loop-k.k c.args.piece.now c.loop-k.piece
      c.put_block.new.piece c.loop-k-test.true c.loop-k.invariant.text c.put_block.ensures.text;
}

pub returns-clause-text : goal.returns-clause-text
returns-clause-text c =
    page_ends (layered_bytes c.args.mem.now) c.args.page c.loop-k.k c.args.piece.now c.loop-k.piece
    c.loop-k-test.false c.loop-k.invariant.text

pub returns-clause-len : goal.returns-clause-len
returns-clause-len c = omega (arith, c.loop-k.invariant.room, c.requires.room, c.loop-k.auto.k-end)
