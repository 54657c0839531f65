use Rattle.std.proofs.Common.{◌∙◌, ap, sym, option_copied}
use Rattle.page_layers.specs.Blocks.{block_at}
use Rattle.page_layers.proofs.Stacks.{among-next, among-end}
use Rattle.page_layers.proofs.layers.block_among.Goals as goal

pub returns-in-Some : goal.returns-in-Some
returns-in-Some c =
    let looked =
    c.block.ensures ∙ ap (λ blocks. block_at blocks c.args.number) c.blocks-in-loop-layer.ensures
    ∙ ap (λ layer. block_at layer.blocks.value.blocks c.args.number) c.layer-item.is in
    among-next c.args.layers.now c.loop-layer.layer-index _ c.args.number c.loop-layer-test.true
    (ap option_copied (sym c.in-Some.is) ∙ looked) c.loop-layer.invariant

pub loop-layer-preserved : goal.loop-layer-preserved
loop-layer-preserved c =
    let looked =
    c.block.ensures ∙ ap (λ blocks. block_at blocks c.args.number) c.blocks-in-loop-layer.ensures
    ∙ ap (λ layer. block_at layer.blocks.value.blocks c.args.number) c.layer-item.is in
    among-next c.args.layers.now c.loop-layer.layer-index _ c.args.number c.loop-layer-test.true
    (ap option_copied (sym c.in_default.is) ∙ looked) c.loop-layer.invariant

pub returns : goal.returns
returns c =
    among-end c.args.layers.now c.loop-layer.layer-index c.args.number _ c.loop-layer-test.false c.loop-layer.invariant
