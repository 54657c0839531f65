use Rattle.std.proofs.Common.{◌∙◌, arith, [], List, ℕ, Bor}
use Rattle.std.proofs.lemmas.List.{length-set}
use Rattle.std.proofs.lemmas.Result.{err_from_is_err_and}
use Rattle.state_text.specs.Numbers.{number_names}
use Rattle.state_text.specs.Views.{remaining_of}
use Rattle.state_text.proofs.Names.{short_name, name_at}
use Rattle.state_text.proofs.NumberLines.{numbers_on, numbers_unread, numbers_refused, numbers_all}
use Rattle.state_text.proofs.numbers.read_numbers.Goals as goal

pub read_number-requires : goal.read_number-requires
read_number-requires c =
    let name =
    name_at (λ (name : Bor (List ℕ)). name.now) c.args.names.now number_names c.loop-place.place
    (record { ref_ptr = (0, 0); now = [] }) c.requires c.loop-place-test.true in
    rw name (short_name c.loop-place.place c.loop-place-test.true)

pub returns-in_err-number : goal.returns-in_err-number
returns-in_err-number c =
    let p = err_from_is_err_and c.from_residual.result c.from_residual.ensures.1 in
    rw (p.1, p.2)
    (numbers_unread c.args.profile.now number_names c.args.kinds.now _
    (remaining_of c.loop-place.remaining) c.loop-place.place _ _ _
    c.loop-place-test.true (omega arith) c.loop-place.invariant.leads
    (name_at (λ (name : Bor (List ℕ)). name.now) c.args.names.now number_names c.loop-place.place
    (record { ref_ptr = (0, 0); now = [] }) c.requires c.loop-place-test.true) c.in_err-number.ensures)

pub returns-then-not-is_legal : goal.returns-then-not-is_legal
returns-then-not-is_legal c =
    rw c.fault.ensures
    (numbers_refused c.args.profile.now number_names c.args.kinds.now _
    (remaining_of c.loop-place.remaining) c.loop-place.place _ _
    c.is_legal.result c.in_ok-number.number _ _ c.loop-place-test.true (omega arith) c.loop-place.invariant.leads
    (name_at (λ (name : Bor (List ℕ)). name.now) c.args.names.now number_names c.loop-place.place
    (record { ref_ptr = (0, 0); now = [] }) c.requires c.loop-place-test.true) c.in_ok-number.ensures
    c.is_legal.ensures c.if-not-is_legal.true)

pub loop-place-preserved : goal.loop-place-preserved
loop-place-preserved c = record {
  len = length-set c.loop-place.numbers c.loop-place.place c.in_ok-number.number ∙ c.loop-place.invariant.len;
  leads = numbers_on c.args.profile.now number_names c.args.kinds.now c.loop-place.numbers
      (remaining_of c.loop-place.remaining) c.loop-place.place _ _
      c.is_legal.result c.in_ok-number.number (remaining_of c.in_ok-number.after) _ c.loop-place-test.true (omega arith)
      (omega (arith, c.loop-place.invariant.len)) c.loop-place.invariant.leads
      (name_at (λ (name : Bor (List ℕ)). name.now) c.args.names.now number_names c.loop-place.place
      (record { ref_ptr = (0, 0); now = [] }) c.requires c.loop-place-test.true) c.in_ok-number.ensures
      c.is_legal.ensures c.if-not-is_legal.false;
}

pub returns : goal.returns
returns c =
    numbers_all c.args.profile.now number_names c.args.kinds.now c.loop-place.numbers
    (remaining_of c.loop-place.remaining) c.loop-place.place _
    c.loop-place-test.false (omega (arith, c.loop-place.invariant.len)) c.loop-place.invariant.leads
