use Rattle.std.proofs.Common.{◌/◌, ◌∙◌, ap, sym, option_copied}
use Rattle.page_image.specs.Bytes.{byte_of}
use Rattle.page_layers.specs.Blocks.{block_byte}
use Rattle.page_layers.specs.Memories.{layered_bytes}
use Rattle.page_layers.proofs.Reading.{number_of_block}
use Rattle.page_layers.proofs.LayeredBytes.{block_absent, block_there}
use Rattle.page_layers.proofs.layered.Layered.number.Goals as goal

pub returns-in-Some-clause-value : goal.returns-in-Some-clause-value
returns-in-Some-clause-value c =
    let found = sym c.block.ensures ∙ ap option_copied c.in-Some.is in
    c.number_of.ensures.value
    ∙ number_of_block c.args.pa c.args.len (block_byte c.in-Some.block.now) (layered_bytes c.args.self.now)
    c.requires.block (block_there c.args.self.now (c.args.pa / 64) c.in-Some.block.now found)

pub returns-in-None-clause-value : goal.returns-in-None-clause-value
returns-in-None-clause-value c =
    let absent = sym c.block.ensures ∙ ap option_copied c.in-None.is in
    c.image_number.ensures.value
    ∙ number_of_block c.args.pa c.args.len (byte_of c.args.self.now.image.now) (layered_bytes c.args.self.now)
    c.requires.block (block_absent c.args.self.now (c.args.pa / 64) absent)
