use Rattle.std.proofs.Common.{All, subst}
use Rattle.hart_step.specs.Harts.{CoreHoldsWords}
use Rattle.hart_step.proofs.words.set_holds_words.Goals as goal

pub returns : goal.returns
returns g c = record {
  cores = subst (All CoreHoldsWords) c.deref.ensures.value c.hold_core_words.ensures;
  bytes = λ address. g.met.M.PhysMem.bytes_are_bytes c.args.set.now.mem address;
}
