use Rattle.std.proofs.Common.{sym, ap, ◌∙◌}
use Rattle.rvfi_rows.specs.Cells.{is_among}
use Rattle.rvfi_rows.proofs.Among.{last_among, none_among, one_among}
use Rattle.rvfi_rows.proofs.rows.put_signal.Goals as goal

pub returns-in-None-clause-has : goal.returns-in-None-clause-has
returns-in-None-clause-has c = none_among c.args.signals.now.items c.in-None.is

pub returns-then-is_among-clause-has : goal.returns-then-is_among-clause-has
returns-then-is_among-clause-has c =
    one_among c.args.signals.now.items c.in-Some.is
    (ap (λ signals. is_among signals c.in-Some.column.signal) (sym c.deref.ensures.value)
    ∙ sym c.is_among.ensures ∙ c.if-is_among.true)

pub returns-in_ok-push-in-Some-clause-has : goal.returns-in_ok-push-in-Some-clause-has
returns-in_ok-push-in-Some-clause-has c =
    one_among c.push.new.self.items c.in-Some.is
    (ap (λ signals. is_among signals c.in-Some.column.signal) c.in_ok-push-in-Some.ensures.items
    ∙ last_among c.args.signals.now.items c.in-Some.column.signal)
