use Rattle.std.proofs.Common.{◌∙◌, [], ap, sym, subst, length, List, All}
use Rattle.std.proofs.lemmas.List.Elements.{All-from_recursion}
use Rattle.std.proofs.lemmas.Result.{err_from_is_err_and}
use Rattle.hart_step.specs.declared.state.Core.{Core}
use Rattle.hart_step.specs.Cores.{IsSound}
use Rattle.state_text.specs.Laws.{IsOver}
use Rattle.state_text.specs.Memory.{memory_of}
use Rattle.state_text.specs.Views.{remaining_of}
use Rattle.state_text.proofs.OneText.{has_cores}
use Rattle.state_text.proofs.States.{all_read, no_cores, no_front, no_memory, wrong_harts}
use Rattle.state_text.proofs.state.read_state.Goals as goal

pub returns-then-not-says_harts-clause-exact : goal.returns-then-not-says_harts-clause-exact
returns-then-not-says_harts-clause-exact c =
    wrong_harts c.args.platform.now.profile c.args.platform.now.map c.args.platform.now.choices
    c.args.harts c.args.bytes.now c.says_harts.result c.says_harts.ensures
    c.if-not-says_harts.true

pub returns-in_err-remaining-clause-exact : goal.returns-in_err-remaining-clause-exact
returns-in_err-remaining-clause-exact c =
    let p = err_from_is_err_and c.from_residual.result c.from_residual.ensures.1 in
    rw (p.1, p.2)
    (no_front c.args.platform.now.profile c.args.platform.now.map c.args.platform.now.choices
    c.args.harts c.args.bytes.now c.says_harts.result _ c.says_harts.ensures
    c.if-not-says_harts.false (sym c.in_err-remaining.ensures))

pub returns-in_err-cores-clause-exact : goal.returns-in_err-cores-clause-exact
returns-in_err-cores-clause-exact c =
    let p = err_from_is_err_and c.from_residual-in_err-cores.result c.from_residual-in_err-cores.ensures.1 in
    rw (p.1, p.2)
    (no_cores c.args.platform.now.profile c.args.platform.now.map c.args.platform.now.choices
    c.args.harts c.args.bytes.now c.says_harts.result
    (remaining_of c.in_ok-remaining.remaining) _ c.says_harts.ensures c.if-not-says_harts.false
    (sym c.in_ok-remaining.ensures) c.in_err-cores.ensures)

pub returns-in_err-pieces-clause-exact : goal.returns-in_err-pieces-clause-exact
returns-in_err-pieces-clause-exact c =
    let p = err_from_is_err_and c.from_residual-in_err-pieces.result c.from_residual-in_err-pieces.ensures.1 in
    rw (p.1, p.2)
    (no_memory c.args.platform.now.profile c.args.platform.now.map c.args.platform.now.choices
    c.args.harts c.args.bytes.now c.in_ok-cores.cores.items
    (remaining_of c.in_ok-remaining.remaining) (remaining_of c.in_ok-cores.remaining) _
    (record {
      said = sym c.says_harts.ensures ∙ c.if-not-says_harts.false;
      fronted = sym c.in_ok-remaining.ensures;
      read = c.in_ok-cores.ensures;
    })
    c.in_err-pieces.ensures.exact)

pub returns-clause-exact : goal.returns-clause-exact
returns-clause-exact c =
    all_read c.args.platform.now.profile c.args.platform.now.map c.args.platform.now.choices
    c.args.harts c.args.bytes.now c.in_ok-cores.cores.items
    (remaining_of c.in_ok-remaining.remaining) (remaining_of c.in_ok-cores.remaining) (memory_of c.in_ok-pieces.pieces)
    (record {
      said = sym c.says_harts.ensures ∙ c.if-not-says_harts.false;
      fronted = sym c.in_ok-remaining.ensures;
      read = c.in_ok-cores.ensures;
    })
    c.in_ok-pieces.ensures.exact

pub returns-clause-count : goal.returns-clause-count
returns-clause-count c =
    let has = has_cores c.args.platform.now.profile c.args.platform.now.map c.args.platform.now.choices
    c.args.harts [] (remaining_of c.in_ok-remaining.remaining)
    c.in_ok-cores.cores.items (remaining_of c.in_ok-cores.remaining) c.in_ok-cores.ensures in
    ap (λ (cores : List Core). length cores) has.all ∙ has.count

pub returns-clause-sound : goal.returns-clause-sound
returns-clause-sound c =
    let has = has_cores c.args.platform.now.profile c.args.platform.now.map c.args.platform.now.choices
    c.args.harts [] (remaining_of c.in_ok-remaining.remaining)
    c.in_ok-cores.cores.items (remaining_of c.in_ok-cores.remaining) c.in_ok-cores.ensures in
    subst (All IsSound) (sym has.all) (All-from_recursion IsSound has.read has.sound)

pub returns-clause-over : goal.returns-clause-over
returns-clause-over c =
    let has = has_cores c.args.platform.now.profile c.args.platform.now.map c.args.platform.now.choices
    c.args.harts [] (remaining_of c.in_ok-remaining.remaining)
    c.in_ok-cores.cores.items (remaining_of c.in_ok-cores.remaining) c.in_ok-cores.ensures in
    subst (All (IsOver c.args.platform.now.profile c.args.platform.now.map c.args.platform.now.choices)) (sym has.all)
    (All-from_recursion
    (IsOver c.args.platform.now.profile c.args.platform.now.map c.args.platform.now.choices) has.read has.over)
