use Rattle.std.proofs.Common.{true, take, ◌∙◌}
use Rattle.hart_words.specs.declared.signal.TheConstants.{SIGNALS}
use Rattle.rvfi_rows.specs.Cells.{shown_in}
use Rattle.row_compare.proofs.Among.{agree_at_end, none_of_valid, written_out}
use Rattle.row_compare.proofs.comparison.plain_agree.Goals as goal

pub returns : goal.returns
returns c =
    let retired = c.args.retired.now in
    let shown = shown_in c.args.row.now in
    rw (
      c.agrees.ensures,
      c.agrees-2.ensures,
      c.agrees-3.ensures,
      c.agrees-4.ensures,
      c.agrees-5.ensures,
      c.agrees-6.ensures,
      c.agrees-7.ensures,
      c.agrees-8.ensures,
      c.agrees-9.ensures,
      c.agrees-10.ensures,
      c.agrees-11.ensures,
      c.agrees-12.ensures,
      c.agrees-13.ensures,
      c.agrees-14.ensures,
      c.agrees-15.ensures,
      c.agrees-16.ensures,
      c.agrees-17.ensures,
      c.agrees-18.ensures,
      c.agrees-19.ensures,
      c.agrees-20.ensures,
    )
    (agree_at_end retired shown _
    ∙ rw (none_of_valid retired shown) at (written_out retired shown true (take 23 SIGNALS)))
