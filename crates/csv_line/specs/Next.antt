-- The next line of a reader of lines.
use Rattle.std.specs.Prelude.{◌≡◌, ℕ, List, [], ◌∷◌, Option, Some, None}
use Rattle.csv_line.specs.declared.line_reader.LineRead.{LineRead}
use Rattle.csv_line.specs.Fields.{fields_of_line, has_return_in}

-- the first of the lines was read, and the others are left
pub record ReadsLine (line : List ℕ) (lines : List (List ℕ)) (read : Option LineRead)
    (left fields : List (List ℕ)) : Type 0 where
  pub found : read ≡ Some (record { has_return = has_return_in line })
  pub fields_are : fields ≡ fields_of_line line
  pub others : left ≡ lines

-- what was left before and is left now, with the fields before and now: at the end nothing changes
abbrev pub ReadsNext : (lines before : List (List ℕ)) (read : Option LineRead)
    (left fields : List (List ℕ)) → Type 0
ReadsNext [] before read left fields = (read ≡ None) × (left ≡ []) × (fields ≡ before)
ReadsNext (line ∷ lines) before read left fields = ReadsLine line lines read left fields
