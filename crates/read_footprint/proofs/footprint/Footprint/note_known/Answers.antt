use Rattle.std.proofs.Common.{sym, ap, ◌∙◌, refl}
use Rattle.std.specs.Option.{option_copied_mut}
use Rattle.read_footprint.proofs.Noting.{noted, block_found}
use Rattle.read_footprint.proofs.footprint.Footprint.note_known.Goals as goal

pub returns-clause-noted : goal.returns-clause-noted
returns-clause-noted c =
    let found = sym c.get_mut.ensures.value ∙ ap option_copied_mut c.in_ok-block.was in
    let updates = (c.get_mut.follows.holds c.then.result).3 (rw found refl) in
    noted
    (record { was = block_found c.args.self.now c.args.number c.in_ok-block.block.now found; sets = updates.0 })
    (record { read = c.then.ensures.read; wrote = c.then.ensures.wrote })
