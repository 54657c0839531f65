use Rattle.std.proofs.Common.{◌≡◌, ◌≤◌, ◌-◌, ◌∙◌, ◌++◌, List, ap, arith, get_or, length, map, refl, rules, sym}
use Rattle.std.proofs.lemmas.List.{get_or-map}
use Rattle.csr_file.specs.declared.stored_csr.StoredCsr.{StoredCsr}
use Rattle.csr_file.specs.Registers.{at}
use Rattle.state_text.specs.Numbers.{numbers_of, protection_numbers_of, saved_csrs}
use Rattle.state_text.proofs.Underway.{number_in_first, number_in_second}
use Rattle.state_text.proofs.numbers.number_of.Goals as goal

pub returns-then-place-lt52 : goal.returns-then-place-lt52
unfolding numbers_of
returns-then-place-lt52 c =
    let csrs = c.args.csrs.now in
    let integers = c.args.integers.now in
    let place = c.args.place in
    let len : length integers ≡ 31 = search rules in
    let past : 31 ≤ place = omega (arith, c.if-place-lt31.false) in
    c.get.ensures
    ∙ ap (λ (stored : List StoredCsr). at csrs (get_or stored (place - 31) _)) c.requires.stored
    ∙ sym (get_or-map (at csrs) saved_csrs (place - 31) _ 0 (omega (arith, c.if-place-lt52.true, past)))
    ∙ number_in_first (map (at csrs) saved_csrs) (protection_numbers_of csrs) (place - 31)
    (omega (arith, c.if-place-lt52.true, past))
    ∙ number_in_second integers (map (at csrs) saved_csrs ++ protection_numbers_of csrs) 31 place len past

pub returns-else-place-lt52 : goal.returns-else-place-lt52
unfolding numbers_of
returns-else-place-lt52 c =
    let csrs = c.args.csrs.now in
    let integers = c.args.integers.now in
    let place = c.args.place in
    let len : length integers ≡ 31 = search rules in
    let far : 52 ≤ place = omega (arith, c.if-place-lt52.false) in
    let past : 31 ≤ place = omega (arith, far) in
    let next : 21 ≤ place - 31 = omega (arith, far) in
    let same : place - 52 ≡ place - 31 - 21 = omega (arith, far) in
    c.number_of_protection.ensures ∙ ap (λ n. get_or (protection_numbers_of csrs) n 0) same
    ∙ number_in_second (map (at csrs) saved_csrs) (protection_numbers_of csrs) 21 (place - 31) refl next
    ∙ number_in_second integers (map (at csrs) saved_csrs ++ protection_numbers_of csrs) 31 place len past
