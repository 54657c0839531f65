use Rattle.std.proofs.Common.{sym}
use Rattle.std.proofs.lemmas.Result.{err_from_is_err_and}
use Rattle.state_text.specs.Memory.{memory_of}
use Rattle.state_text.specs.Views.{remaining_of}
use Rattle.state_text.proofs.Blocks.{has_block}
use Rattle.state_text.proofs.Walks.{ends_here, ends_later, blocked, goes_past, memory_with, inside_with}
use Rattle.state_text.proofs.memory.read_memory.Goals as goal

pub returns-then-is_empty-clause-exact : goal.returns-then-is_empty-clause-exact
returns-then-is_empty-clause-exact c =
    ends_here c.args.ram _ c.blocks-2.least (memory_of c.blocks-2.pieces) (remaining_of c.blocks-2.remaining)
    (remaining_of c.in-Some.after) c.is_empty.result c.blocks-2.invariant.walk c.in-Some.ensures.remaining c.is_empty.ensures
    c.if-is_empty.true

pub returns-in-Some-clause-exact : goal.returns-in-Some-clause-exact
returns-in-Some-clause-exact c =
    rw c.fault.ensures
    (ends_later c.args.ram _ c.blocks-2.least (memory_of c.blocks-2.pieces) (remaining_of c.blocks-2.remaining)
    (remaining_of c.in-Some.after) c.is_empty.result c.blocks-2.invariant.walk c.in-Some.ensures.remaining c.is_empty.ensures
    c.if-is_empty.false)

pub returns-in_err-block-clause-exact : goal.returns-in_err-block-clause-exact
returns-in_err-block-clause-exact c =
    let p = err_from_is_err_and c.from_residual.result c.from_residual.ensures.1 in
    rw (p.1, p.2)
    (blocked c.args.ram _ c.blocks-2.least (memory_of c.blocks-2.pieces) (remaining_of c.blocks-2.remaining) _
    c.blocks-2.invariant.walk c.in_default.ensures.remaining c.in_err-block.ensures.block)

pub blocks-2-preserved : goal.blocks-2-preserved
blocks-2-preserved c =
    let block = c.in_ok-block.block in
    let has =
    has_block c.args.ram c.blocks-2.least (remaining_of c.blocks-2.remaining) block (remaining_of c.in_ok-block.after)
    (sym c.in_ok-block.ensures.block) in
    let put = c.in_ok-put_bytes.ensures.put in
    record {
      walk = goes_past c.args.ram _ c.blocks-2.least (memory_of c.blocks-2.pieces) (remaining_of c.blocks-2.remaining) block
          (remaining_of c.in_ok-block.after) (memory_of c.put_bytes.new.self) c.blocks-2.invariant.walk
          c.in_default.ensures.remaining c.in_ok-block.ensures.block c.in_ok-block.ensures.less
          (memory_with c.blocks-2.pieces c.put_bytes.new.self block put);
      inside = inside_with c.args.ram c.blocks-2.pieces c.put_bytes.new.self block put has.len c.in_ok-block.ensures.low
          c.in_ok-block.ensures.high c.blocks-2.invariant.inside;
    }
