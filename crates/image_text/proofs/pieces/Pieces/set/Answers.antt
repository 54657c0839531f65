use Rattle.std.proofs.Common.{length, ◌<◌, ◌%◌, refl, arith, sym, ◌∙◌, ap}
use Rattle.std.specs.Option.{option_copied_mut}
use Rattle.image_text.specs.Bytes.{has_page}
use Rattle.image_text.proofs.Pages.{written_page, set_at}
use Rattle.image_text.proofs.pieces.Pieces.set.Goals as goal

pub unreachable-requires : goal.unreachable-requires
unfolding has_page
unreachable-requires c =
    let absent = sym c.get_mut.ensures.value ∙ ap option_copied_mut c.in-None.is in
    let present = rw absent at c.requires in
    cc

pub returns : goal.returns
returns c =
    let below : c.args.address % 4096 < length c.in-Some.page.now.value.bytes =
    omega (arith, c.in-Some.page.now.value.full) in
    let was = sym c.get_mut.ensures.value ∙ ap option_copied_mut c.in-Some.is in
    let updates = (c.get_mut.follows.holds _).3 (rw was refl) in
    written_page _ _ c.args.address c.args.value (record { updates = updates.0 }) was
    (λ k. rw c.deref_mut.ensures.value (set_at c.in-Some.page.now.value.bytes (c.args.address % 4096) k _ _ below))
