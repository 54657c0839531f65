use Rattle.std.proofs.Common.{◌∙◌, ◌/◌, get_or, subst, take}
use Rattle.std.specs.Prelude.{All}
use Rattle.std.proofs.lemmas.List.{take_all}
use Rattle.std.proofs.lemmas.List.Elements.{All-more}
use Rattle.hart_words.specs.declared.accesses.Write.{Write}
use Rattle.hart_words.specs.declared.span.TheConstants.{PAGE_SIZE}
use Rattle.hart_step.specs.Changes.{AreReady}
use Rattle.hart_step.proofs.step.ready_all.Goals as goal

pub loop-write-preserved : goal.loop-write-preserved
loop-write-preserved g c =
    let is_ready = g.M.PhysMem.is_ready c.ready.new.self in
    let P : Write → Type 0 = λ w. is_ready (w.pa / PAGE_SIZE) in
    let done = take c.loop-write.write-index c.args.writes.now in
    let still : All P done =
    λ k d below. c.in_ok-ready.ensures.ready ((get_or done k d).pa / PAGE_SIZE)
    (c.loop-write.invariant.ready k d below) in
    record {
      ready =
          All-more P c.args.writes.now c.loop-write.write-index _ c.loop-write-test.true still
          c.in_ok-ready.ensures.ok;
      bytes = c.in_ok-ready.ensures.bytes ∙ c.loop-write.invariant.bytes;
      ram = c.in_ok-ready.ensures.ram ∙ c.loop-write.invariant.ram;
    }

pub returns-clause-ok : goal.returns-clause-ok
returns-clause-ok g c =
    subst (AreReady (g.M.PhysMem.is_ready c.loop-write.mem))
    (take_all c.loop-write.write-index c.args.writes.now c.loop-write-test.false) c.loop-write.invariant.ready
