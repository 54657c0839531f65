use Rattle.std.proofs.Common.{refl, sym, ap, ◌∙◌, unwrap_or}
use Rattle.hart_words.specs.Memory.{after_writes}
use Rattle.hart_words.proofs.Overlaid.{byte_set, byte_stays}
use Rattle.hart_words.proofs.sets.last_byte.Goals.{then-is_over, else-is_over}
use Rattle.hart_words.proofs.sets.last_byte.Goals as goal

pub loop-write-init : goal.loop-write-init
unfolding after_writes
loop-write-init c = λ bytes. refl

pub loop-write-preserved : goal.loop-write-preserved
loop-write-preserved c =
    let i = c.loop-write.write-index in
    let writes = c.args.writes.now in
    let is = c.requires i _ c.loop-write-test.true in
    elim c.if-is_over.branch [
      | then-is_over w ↦
          λ bytes. byte_set writes i c.args.pa bytes c.loop-write-test.true is (sym w.if-is_over.ensures)
          ∙ sym w.byte_of.ensures ∙ ap (λ f. unwrap_or f (bytes c.args.pa)) (sym w.found-is)
      | else-is_over w ↦
          λ bytes. byte_stays writes i c.args.pa bytes c.loop-write-test.true is
          (sym w.if-is_over.ensures) ∙ c.loop-write.invariant bytes
          ∙ ap (λ f. unwrap_or f (bytes c.args.pa)) (sym w.found-is)
    ]
