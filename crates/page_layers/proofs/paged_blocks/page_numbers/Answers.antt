use Rattle.std.proofs.Common.{◌∙◌, ap, inl, sym, is_some}
use Rattle.std.specs.Prelude.{nat_eq}
use Rattle.std.specs.HashMap.{get}
use Rattle.std.specs.Set.{is_member}
use Rattle.page_layers.proofs.BlockMaps.{there_found}
use Rattle.page_layers.proofs.paged_blocks.page_numbers.Goals as goal

pub loop-number-init : goal.loop-number-init
loop-number-init c = record {
  can_go = tt;
  ends = tt;
  listed = λ q there. inl (
      ap (λ keys. is_member nat_eq keys q) c.into_iter-number-iterator.ensures.into_iter_gives
      ∙ sym (c.keys-number-items.ensures.has q)
      ∙ ap (λ map. is_some (get nat_eq map q)) c.map.ensures
      ∙ there_found c.args.blocks.now q there);
}
