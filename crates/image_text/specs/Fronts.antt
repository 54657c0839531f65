-- What stands at the front of a text.
use Rattle.std.specs.Prelude.{ℕ, ◌+◌, Bool, false, ◌||◌, if◌then◌else◌, List, [], ◌∷◌}
use Rattle.image_text.specs.Tokens.{is_blank, opens_line, opens_block, closes_block}

-- a text begins a comment
abbrev pub opens_comment : List ℕ → Bool
opens_comment [] = false
opens_comment (a ∷ []) = false
opens_comment (a ∷ b ∷ rest) = opens_line a b || opens_block a b

-- a text begins with the end of a block comment
abbrev pub begins_with_close : List ℕ → Bool
begins_with_close [] = false
begins_with_close (a ∷ []) = false
begins_with_close (a ∷ b ∷ rest) = closes_block a b

-- how many bytes the run at the front of a text has
unfoldable pub run_len : List ℕ → ℕ
run_len [] = 0
run_len (a ∷ rest) = if is_blank a || opens_comment (a ∷ rest) then 0 else run_len rest + 1
