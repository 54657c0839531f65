use Rattle.std.proofs.Common.{◌≡◌, ◌++◌}
use Rattle.std.specs.List.{flat_map}
use Rattle.trace_maker.specs.Texts.{header_text, made_rows, row_text}
use Rattle.trace_maker.specs.Runs.{IsBefore}
use Rattle.trace_maker.proofs.trace.trace_text.Given as goal

abbrev pub invariant-loop-order : goal.invariant-loop-order
invariant-loop-order l =
    (l.run.number ≡ l.fn.number)
    × IsBefore l.run l.order
    × (l.text ≡ header_text ++ flat_map row_text (made_rows l.fn.number l.order))
