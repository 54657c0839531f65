use Rattle.std.proofs.Common.{◌≡◌, ◌++◌, codes}
use Rattle.std.proofs.lemmas.Result.{on_ok_weaker}
use Rattle.trace_maker.proofs.Lines.{row_written}
use Rattle.trace_maker.proofs.trace.put_row.Goals as goal

pub returns : goal.returns
returns c =
    on_ok_weaker c.put.result
    (λ (last : c.put.new.self ≡ c.put_doubleword_field-7.new.text ++ codes "\n"). rw (
      last,
      c.in_ok-put_doubleword_field-7.ensures,
      c.in_ok-put_doubleword_field-6.ensures,
      c.in_ok-put_doubleword_field-5.ensures,
      c.in_ok-put_byte_field-2.ensures,
      c.in_ok-put_byte_field.ensures,
      c.in_ok-put_doubleword_field-4.ensures,
      c.in_ok-put_doubleword_field-3.ensures,
      c.in_ok-put_decimal_field-2.ensures,
      c.in_ok-put_doubleword_field-2.ensures,
      c.in_ok-put_doubleword_field.ensures,
      c.in_ok-put_decimal_field.ensures,
      c.in_ok-put_word_field.ensures,
      c.in_ok-put_decimal.ensures,
    ) (row_written c.args.text.now c.args.row.now)) c.put.ensures
