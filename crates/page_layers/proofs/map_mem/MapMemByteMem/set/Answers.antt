use Rattle.std.proofs.Common.{refl, sym, ◌∙◌, ap, nat_cmp}
use Rattle.std.specs.BTreeMap.{get}
use Rattle.std.specs.Option.{option_copied_mut}
use Rattle.page_layers.specs.Memories.{map_has_byte}
use Rattle.page_layers.proofs.Changes.{byte_changed, there_still}
use Rattle.page_layers.proofs.map_mem.MapMemByteMem.set.Goals as goal

pub unreachable-requires : goal.unreachable-requires
unfolding map_has_byte
unreachable-requires c =
    let absent = sym c.get_mut.ensures.value ∙ ap option_copied_mut c.in-None.is in
    let present = rw absent at (c.requires c.args.pa refl) in
    cc

pub returns-clause-bytes : goal.returns-clause-bytes
returns-clause-bytes c =
    let was = sym c.get_mut.ensures.value ∙ ap option_copied_mut c.in-Some.is in
    let updates = (c.get_mut.follows.holds _).3 (rw was refl) in
    byte_changed _ _ c.args.pa c.args.value updates.0 c.ranges.value.fits

pub returns-clause-keeps : goal.returns-clause-keeps
unfolding map_has_byte
returns-clause-keeps c =
    let was = sym c.get_mut.ensures.value ∙ ap option_copied_mut c.in-Some.is in
    let updates = (c.get_mut.follows.holds _).3 (rw was refl) in
    λ page held pa in_page. there_still (get nat_cmp c.args.self.now.bytes) _ c.args.pa c.args.value updates.0 pa
    (held pa in_page)
