use Rattle.page_layers.proofs.SameBlocks.{same_all_seen}
use Rattle.page_layers.proofs.layered.Layered.same_as.Goals as goal

pub returns-then-same_under : goal.returns-then-same_under
returns-then-same_under c = (
  (λ known_files. same_all_seen c.args.self.now c.args.other.now _ _ c.deref.ensures.value
      c.deref-then-same_under.ensures.value (c.same_under.ensures.known_files c.if-same_under.true)
      (c.same_under-then-same_under.ensures.known_files known_files)),
  c.same_under-then-same_under.ensures.same,
)
