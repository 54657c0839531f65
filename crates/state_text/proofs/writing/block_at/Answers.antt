use Rattle.std.proofs.Common.{◌∙◌, ◌+◌, ap}
use Rattle.std.specs.Int.{w64, to_le_bytes}
use Rattle.state_text.proofs.Underway.{number_bytes, two_halves}
use Rattle.page_layers.specs.Memories.{layered_bytes}
use Rattle.state_text.proofs.writing.block_at.Goals as goal

pub returns : goal.returns
returns c =
    let bytes = layered_bytes c.args.mem.now in
    let low = c.to_le_bytes-low.ensures ∙ ap (to_le_bytes w64) c.read.ensures.value
    ∙ number_bytes bytes c.args.address c.read.ensures.small in
    let high = c.to_le_bytes-high.ensures ∙ ap (to_le_bytes w64) c.read-2.ensures.value
    ∙ number_bytes bytes (c.args.address + 8) c.read-2.ensures.small in
    two_halves bytes c.args.address _ _ low high
