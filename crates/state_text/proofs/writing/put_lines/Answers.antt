use Rattle.std.proofs.Common.{◌∙◌, ◌++◌, [], List, ℕ, Bor, ap, append-nil, arith, length, refl, sym}
use Rattle.state_text.specs.Numbers.{number_names, numbers_of}
use Rattle.state_text.proofs.Names.{name_at, short_name}
use Rattle.state_text.proofs.Underway.{number_line_on, numbers_end}
use Rattle.state_text.proofs.writing.put_lines.Goals as goal

pub number_line-requires : goal.number_line-requires
number_line-requires c =
    let name =
    name_at (λ (name : Bor (List ℕ)). name.now) c.args.names.now number_names c.loop-place.place
    (record { ref_ptr = (0, 0); now = [] }) c.requires.names c.loop-place-test.true in
    rw name (short_name c.loop-place.place c.loop-place-test.true)

pub loop-place-preserved : goal.loop-place-preserved
loop-place-preserved c = record {
  room = omega (arith, c.put.ensures.len, ap length c.as_slice.ensures, c.number_line.ensures.short, c.loop-place.invariant.room);
  text =
      let name =
      name_at (λ (name : Bor (List ℕ)). name.now) c.args.names.now number_names c.loop-place.place
      (record { ref_ptr = (0, 0); now = [] }) c.requires.names c.loop-place-test.true in
      number_line_on number_names (numbers_of c.args.core.now.registers c.args.core.now.csrs) c.loop-place.place _ _ _ _
      _ c.loop-place-test.true c.requires.count name c.number_of-number.ensures
      (c.put.ensures.bytes ∙ ap (λ line. c.loop-place.piece ++ line) (c.as_slice.ensures ∙ c.number_line.ensures.line))
      c.loop-place.invariant.text refl;
}

pub returns-clause-text : goal.returns-clause-text
returns-clause-text c =
    sym (append-nil c.loop-place.piece)
    ∙ ap (λ more. c.loop-place.piece ++ more)
    (sym (numbers_end number_names (numbers_of c.args.core.now.registers c.args.core.now.csrs) c.loop-place.place
    c.loop-place-test.false))
    ∙ c.loop-place.invariant.text
