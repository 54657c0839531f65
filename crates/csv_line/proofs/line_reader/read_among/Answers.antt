use Rattle.std.proofs.Common.{List, ℕ, Bor, subst, sym}
use Rattle.csv.specs.declared.reader.Reader.{Reader}
use Rattle.csv_line.specs.Readers.{StandsAt}
use Rattle.csv_line.proofs.line_reader.read_among.Goals as goal

pub returns-then-branch : goal.returns-then-branch
returns-then-branch c = λ line rest shared.
    let text = c.args.text.now in
    let here : StandsAt text c.deref_mut.result.now =
    subst (λ (reader : Reader (Bor (List ℕ))). StandsAt text reader) (sym c.deref_mut.ensures.value)
    (c.in_ok-reader.ensures shared.unmarked) in
    c.in_ok-read_on.ensures c.if-branch.true text line rest here shared
