use Rattle.std.proofs.Common.{◌==◌, List, length, sym, ap, ◌∙◌}
use Rattle.hart_words.specs.declared.privilege.PmpEntry.{PmpEntry}
use Rattle.mem_access.proofs.Unconfigured.{machine_allowed, others_allowed}
use Rattle.mem_access.proofs.place.is_allowed.Goals as goal

pub returns-then-is_machine : goal.returns-then-is_machine
returns-then-is_machine c =
    c.if-is_machine.true
    ∙ sym
    (machine_allowed c.args.csrs.now c.args.mode c.args.pa c.args.len c.args.access
    (sym c.is_unset.ensures ∙ c.if-is_unset.true) (sym c.is_machine.ensures ∙ c.if-is_machine.true))

pub returns-else-is_machine : goal.returns-else-is_machine
returns-else-is_machine c =
    c.is_empty.ensures ∙ ap (λ (entries : List PmpEntry). length entries == 0) c.pmp_entries.ensures
    ∙ sym
    (others_allowed c.args.csrs.now c.args.mode c.args.pa c.args.len c.args.access
    (sym c.is_unset.ensures ∙ c.if-is_unset.true) (sym c.is_machine.ensures ∙ c.if-is_machine.false))
