use Rattle.std.proofs.Common.{◌≡◌, true, false, drop, take}
use Rattle.std.specs.Option.{is_none}
use Rattle.hart_words.specs.declared.signal.TheConstants.{SIGNALS}
use Rattle.rvfi_rows.specs.Cells.{shown_in}
use Rattle.rvfi_rows.specs.Rows.{shows_csr}
use Rattle.row_compare.specs.Difference.{first_among}
use Rattle.row_compare.proofs.Among.{agree_too, without_csrs}
use Rattle.row_compare.proofs.comparison.retired_difference.Goals as goal
use Rattle.row_compare.proofs.comparison.retired_difference.Goals.{then-not-shows_csr, else-not-shows_csr}

pub returns-then-csrs_agree : goal.returns-then-csrs_agree
returns-then-csrs_agree c =
    let retired = c.args.retired.now in
    let shown = shown_in c.args.row.now in
    let agree : is_none (first_among c.args.retired.now (shown_in c.args.row.now) (take 23 SIGNALS)) ≡ true = cc in
    elim c.if-not-shows_csr.branch [
      | then-not-shows_csr w ↦
          let hidden : shows_csr (shown_in c.args.row.now) ≡ false = cc in
          without_csrs retired shown agree hidden
      | else-not-shows_csr w ↦
          let others : is_none (first_among c.args.retired.now (shown_in c.args.row.now) (drop 23 SIGNALS)) ≡ true = cc in
          agree_too retired shown agree others
    ]
