use Rattle.hart_step.proofs.StoreWords.{store_parcel}
use Rattle.hart_step.proofs.plain_rows.may_store.Goals as goal

pub returns-then-word-ne1 : goal.returns-then-word-ne1
returns-then-word-ne1 c is = (store_parcel c.args.word c.if-word-eq3.false is).1
