-- What the steps of rows did, and which row is the last that passes a test. Rows are numbered from 1.
use Rattle.std.specs.Prelude.{◌≡◌, ℕ, zero, suc, ◌<◌, Bool, true, false, if◌then◌else◌, List, [], ◌∷◌}
use Rattle.std.specs.Prelude.{Option, Some, None, option_map, unwrap_or}
use Rattle.std.specs.List.{slice_get}
use Rattle.std.specs.Option.{option_or}
use Rattle.hart_words.specs.declared.accesses.Read.{Read}
use Rattle.hart_words.specs.declared.accesses.Write.{Write}
use Rattle.rvfi_rows.specs.declared.expected.Expected.{Expected}
use Rattle.rvfi_rows.specs.declared.expected.Stepped.{Stepped}

-- what the step of a valid row did: its hart, what the hart did, and what it read from memory and wrote to it
pub record RowFacts : Type 0 where
  pub hart : ℕ
  pub expected : Expected
  pub reads : List Read
  pub wrote : List Write

abbrev pub facts_of : Stepped → ℕ → RowFacts
facts_of stepped hart =
    record { hart = hart; expected = stepped.expected; reads = stepped.seen; wrote = stepped.wrote }

-- what each row did, in order; nothing where the row is not valid
abbrev pub Trail : Type 0
Trail = List (Option RowFacts)

abbrev pub passes : (RowFacts → Bool) → Option RowFacts → Bool
passes test None = false
passes test (Some facts) = test facts

-- the row of a number is there, is valid and passes a test
abbrev pub row_passes : (RowFacts → Bool) → Trail → ℕ → Bool
row_passes test trail zero = false
row_passes test trail (suc index) = passes test (unwrap_or (slice_get trail index) None)

-- no row passes a test, or this one does and no later one
abbrev pub IsLastRow : (RowFacts → Bool) → Trail → Option ℕ → Type 0
IsLastRow test trail None = (row : ℕ) → row_passes test trail row ≡ false
IsLastRow test trail (Some last) =
    (row_passes test trail last ≡ true) × ((row : ℕ) → last < row → row_passes test trail row ≡ false)

-- the last row that passes a test: that of the rows after the first, where there is one, and else the first
unfoldable pub last_row : (RowFacts → Bool) → Trail → Option ℕ
last_row test [] = None
last_row test (first ∷ trail) =
    option_or (option_map suc (last_row test trail)) (if passes test first then Some 1 else None)
