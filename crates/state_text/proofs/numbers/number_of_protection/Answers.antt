use Rattle.std.proofs.Common.{◌∙◌, ap, sym}
use Rattle.std.specs.Prelude.{slice_index}
use Rattle.csr_file.specs.Profiles.{kind_in, presence_of}
use Rattle.csr_file.specs.Table.{csr_kind_of}
use Rattle.csr_file.specs.Values.{csr_value_of, shown_csr}
use Rattle.state_text.specs.Numbers.{protection_numbers_of}
use Rattle.state_text.proofs.numbers.number_of_protection.Goals as goal

pub returns-in-0 : goal.returns-in-0
unfolding shown_csr kind_in presence_of csr_kind_of csr_value_of
returns-in-0 c =
    c.shown.ensures ∙ ap (slice_index (protection_numbers_of c.args.csrs.now)) (sym c.in-0.is)

pub returns-in-1 : goal.returns-in-1
unfolding shown_csr kind_in presence_of csr_kind_of csr_value_of
returns-in-1 c =
    c.shown-in-1.ensures ∙ ap (slice_index (protection_numbers_of c.args.csrs.now)) (sym c.in-1.is)
