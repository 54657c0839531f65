-- What a row that differs did, as code keeps it.
use Rattle.row_origin.specs.declared.differing_row.DifferingRow.{DifferingRow}
use Rattle.row_origin.specs.Trails.{RowFacts}

abbrev pub facts_in : DifferingRow → RowFacts
facts_in row =
    record { hart = row.hart; expected = row.expected; reads = row.reads.items; wrote = row.wrote.items }
