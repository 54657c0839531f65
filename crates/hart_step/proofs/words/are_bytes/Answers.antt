use Rattle.std.proofs.Common.{◌≡◌, ◌+◌, ◌<◌, ◌^◌, All, arith, subst, suc, sym, take}
use Rattle.std.proofs.Math.Seq.{take-suc}
use Rattle.std.proofs.lemmas.List.{take_all}
use Rattle.std.proofs.lemmas.List.Elements.{All-push}
use Rattle.hart_words.specs.declared.privilege.PmpEntry.{PmpEntry}
use Rattle.hart_step.proofs.words.are_bytes.Goals as goal

pub loop-entry-preserved : goal.loop-entry-preserved
loop-entry-preserved c =
    let P : PmpEntry → Type 0 = λ entry. entry.cfg < 2 ^ 8 in
    let one_more : suc c.loop-entry.entry-index ≡ c.loop-entry.entry-index + 1 = omega arith in
    let front = take-suc c.args.entries.now c.loop-entry.entry-index _ c.loop-entry-test.true in
    let all =
    All-push P (take c.loop-entry.entry-index c.args.entries.now) _ c.loop-entry.invariant c.is_byte.ensures in
    subst (λ count. All P (take count c.args.entries.now)) one_more (subst (All P) (sym front) all)

pub returns : goal.returns
returns c =
    let P : PmpEntry → Type 0 = λ entry. entry.cfg < 2 ^ 8 in
    subst (All P) (take_all c.loop-entry.entry-index c.args.entries.now (omega (arith, c.loop-entry-test.false)))
    c.loop-entry.invariant
