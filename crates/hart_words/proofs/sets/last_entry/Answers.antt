use Rattle.std.proofs.Common.{refl, sym, ap, ◌∙◌, unwrap_or}
use Rattle.hart_words.specs.Memory.{number_at, after_writes}
use Rattle.hart_words.proofs.Overlaid.{entry_set, entry_stays}
use Rattle.hart_words.proofs.sets.last_entry.Goals.{then-write-pa, else-write-pa}
use Rattle.hart_words.proofs.sets.last_entry.Goals as goal

pub loop-write-init : goal.loop-write-init
unfolding after_writes
loop-write-init c = λ bytes. refl

pub loop-write-preserved : goal.loop-write-preserved
loop-write-preserved c =
    let i = c.loop-write.write-index in
    let writes = c.args.writes.now in
    let is = c.requires.entries i _ c.loop-write-test.true in
    elim c.if-write-pa.branch [
      | then-write-pa w ↦
          λ bytes. entry_set writes i c.args.pa bytes c.loop-write-test.true is w.if-write-pa.true
          ∙ ap (λ f. unwrap_or f (number_at bytes c.args.pa 8)) (sym w.found-is)
      | else-write-pa w ↦
          λ bytes. entry_stays writes i c.args.pa bytes c.loop-write-test.true is c.requires.aligned w.if-write-pa.false
          ∙ c.loop-write.invariant bytes ∙ ap (λ f. unwrap_or f (number_at bytes c.args.pa 8)) (sym w.found-is)
    ]
