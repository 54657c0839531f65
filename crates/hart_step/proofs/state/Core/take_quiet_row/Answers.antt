use Rattle.std.proofs.Common.{refl}
use Rattle.rvfi_rows.specs.Readings.{kept_shown}
use Rattle.hart_step.proofs.TakenWrites.{took_none}
use Rattle.hart_step.proofs.state.Core.take_quiet_row.Goals as goal

pub returns-else-not-is_quiet-clause-taken : goal.returns-else-not-is_quiet-clause-taken
returns-else-not-is_quiet-clause-taken c = λ is. record {
  plain = c.if-not-is_quiet.ensures.plain refl;
  taken = λ bytes.
      took_none c.args.self.now c.take_word.new.self (kept_shown c.args.row.now) bytes
      (c.if-not-is_quiet.ensures.no_store refl) c.take_word.ensures.state;
}
