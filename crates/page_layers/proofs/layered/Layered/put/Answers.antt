use Rattle.hart_words.specs.Memory.{bytes_after_store}
use Rattle.page_layers.proofs.LayeredBytes.{put_under}
use Rattle.page_layers.proofs.layered.Layered.put.Goals as goal

pub returns-clause-bytes : goal.returns-clause-bytes
returns-clause-bytes c =
    put_under c.args.self.now.written c.put.new.self c.args.self.now.layers.items c.args.self.now.image.now
    c.put.result (bytes_after_store c.args.pa c.args.len c.args.value) c.put.ensures.bytes
