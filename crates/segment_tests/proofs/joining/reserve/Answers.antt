use Rattle.std.proofs.Common.{Option, subst, sym}
use Rattle.std.specs.Prelude.{IfSome}
use Rattle.rv_atomic.specs.declared.reservation.Block.{Block}
use Rattle.hart_step.specs.Cores.{IsBlockInRam}
use Rattle.hart_step.proofs.ReservedBlocks.{block_in_ram}
use Rattle.segment_tests.proofs.joining.reserve.Goals as goal

pub returns-clause-sound : goal.returns-clause-sound
returns-clause-sound c =
    let ram = c.args.core.now.map.ram in
    let size = c.args.core.now.choices.block_size in
    record {
      even = c.requires.sound.even;
      legal = c.requires.sound.legal;
      reserved = subst (λ (block : Option Block). IfSome block (IsBlockInRam ram size)) (sym c.set.ensures)
          (block_in_ram ram size c.args.pa c.args.core.now.choices.block
          (c.contains.ensures.lies.0 c.if-not-contains.false));
    }
