-- What the header of a made trace names.
use Rattle.std.proofs.Common.{◌≡◌, Ok, codes, ◌++◌, refl}
use Rattle.csv.specs.Machine.{next_record}
use Rattle.csv.specs.Reading.{strip_bom}
use Rattle.hart_words.specs.SignalNames.{prefix_of, stem_of, suffix_of}
use Rattle.csv_line.specs.Fields.{fields_of_line, trimmed_of}
use Rattle.rvfi_rows.specs.Columns.{column_of_name, first_repeated, header_columns, highest_port, less_prefix}
use Rattle.rvfi_rows.specs.Columns.{signal_of_name, suffix_port}
use Rattle.trace_maker.specs.Texts.{header_text}
use Rattle.made_runs.specs.Shows.{header_line, made_columns}

pub header_named : header_columns header_line ≡ Ok made_columns
unfolding header_columns fields_of_line trimmed_of next_record strip_bom less_prefix first_repeated signal_of_name
    column_of_name highest_port suffix_port prefix_of stem_of suffix_of
header_named = refl

pub header_is : header_text ≡ header_line ++ codes "\n"
header_is = refl
