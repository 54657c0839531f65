-- The registers of the loop between two rows.
use Rattle.std.specs.Prelude.{◌≡◌, ℕ, ◌+◌, ◌/◌}
use Rattle.trace_maker.specs.Rows.{x1_after, x3_after}
use Rattle.trace_maker.specs.declared.run.Run.{Run}

-- the turns that began before a row
abbrev pub turns_before : ℕ → ℕ
turns_before order = (order + 3) / 5

-- the registers before a row are those after the turn that began last
pub record IsBefore (run : Run) (order : ℕ) : Type 0 where
  pub x1 : run.x1 ≡ x1_after run.number (turns_before order)
  pub x3 : run.x3 ≡ x3_after run.number (turns_before order)
