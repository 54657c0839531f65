use Rattle.std.proofs.Common.{refl, sym, ◌∙◌, ap}
use Rattle.std.specs.Option.{option_copied_mut}
use Rattle.image_text.specs.Bytes.{has_page}
use Rattle.image_text.proofs.Runs.{written_run}
use Rattle.image_text.proofs.pieces.Pieces.set_bytes.Goals as goal

pub unreachable-requires : goal.unreachable-requires
unfolding has_page
unreachable-requires c =
    let absent = sym c.get_mut.ensures.value ∙ ap option_copied_mut c.in-None.is in
    let present = rw absent at c.requires.page in
    cc

pub returns : goal.returns
returns c =
    let was = sym c.get_mut.ensures.value ∙ ap option_copied_mut c.in-Some.is in
    let updates = (c.get_mut.follows.holds _).3 (rw was refl) in
    written_run _ _ c.args.address c.args.bytes.now (record { updates = updates.0 }) was c.requires.within
    (rw c.deref_mut.ensures.value at c.put_bytes.ensures)
