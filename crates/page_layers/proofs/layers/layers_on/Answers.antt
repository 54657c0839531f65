use Rattle.std.proofs.Common.{◌∙◌, ◌++◌, ◌∷◌, [], ap}
use Rattle.page_layers.proofs.Stacks.{PutsCopy, stacked_first, stacked_next, stacked_all}
use Rattle.page_layers.proofs.layers.layers_on.Goals as goal

pub loop-layer-init : goal.loop-layer-init
loop-layer-init c =
    let items =
    c.in_ok-push.ensures.items ∙ ap (λ layers. layers ++ c.in_ok-of.field-0 ∷ []) c.new-layers.ensures.items in
    stacked_first c.push.new.self.items c.in_ok-of.field-0 c.args.newest.blocks c.args.older.now items (ap (λ paged. paged.blocks) c.in_ok-of.ensures)

pub loop-layer-preserved : goal.loop-layer-preserved
loop-layer-preserved c = λ number.
    let put : PutsCopy c.loop-layer.layers.items c.push-in-loop-layer.new.self.items c.in_ok-clone.field-0
    c.args.older.now c.loop-layer.layer-index c.layer-item.result =
    record {
      within = c.loop-layer-test.true;
      pushed = c.in_ok-push-2.ensures.items;
      same = c.in_ok-clone.ensures.cases ∙ ap (λ layer. layer.blocks.value.blocks) c.layer-item.is;
    } in
    stacked_next number put (c.loop-layer.invariant number)

pub returns : goal.returns
returns c =
    λ number. stacked_all c.loop-layer.layers.items c.args.older.now c.loop-layer.layer-index number _
    c.loop-layer-test.false (c.loop-layer.invariant number)
