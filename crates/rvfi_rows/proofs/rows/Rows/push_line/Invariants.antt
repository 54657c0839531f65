use Rattle.std.proofs.Common.{◌≡◌, ◌++◌, map}
use Rattle.std.specs.List.{range_with_len}
use Rattle.rvfi_rows.specs.Readings.{readings_in}
use Rattle.rvfi_rows.specs.Rows.{row_of_fields}
use Rattle.rvfi_rows.proofs.rows.Rows.push_line.Given as goal

-- the rows of the ports before stand after the others
abbrev pub invariant-loop-port : goal.invariant-loop-port
invariant-loop-port l = record {
  signals : l.self.signals.items ≡ l.fn.self.signals.items;
  rows : readings_in l.self
      ≡ readings_in l.fn.self ++ map (row_of_fields l.columns l.has_return l.fields) (range_with_len 0 l.port);
}
