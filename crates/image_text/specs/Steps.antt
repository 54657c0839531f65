-- What one step over a text tells of its tokens.
use Rattle.std.specs.Prelude.{◌≡◌, ℕ, ◌+◌, ◌<◌, ◌^◌, List, [], ◌∷◌, length, Option, Some, None, true, false}
use Rattle.image_text.specs.declared.tokens.Token.{Token}
use Rattle.image_text.specs.declared.tokens.Rest.{Rest}
use Rattle.image_text.specs.declared.tokens.Step.{Step}
use Rattle.image_text.specs.declared.tokens.Step.TheVariants.{Skipped, Found, End}
use Rattle.image_text.specs.Tokens.{TokenView, tokens_from, has_close, Plain, BlockComment}

-- a token without where it lies in memory
abbrev pub token_view : Token → TokenView
token_view piece = record { line = piece.line; bytes = piece.bytes.now }

-- the tokens that are left
abbrev pub remaining_tokens : Rest → List TokenView
remaining_tokens rest = tokens_from rest.line Plain rest.text.now

-- less of the text is left, and its lines can still be counted
abbrev pub LeavesLess : ℕ → Rest → Type 0
LeavesLess len after = (length after.text.now < len) × (after.line + length after.text.now < 2 ^ 64)

-- a step leaves the tokens after the one that it found, or all of them
abbrev pub StepGives : Rest → Step → Type 0
StepGives rest (Skipped after) =
    (remaining_tokens rest ≡ remaining_tokens after) × LeavesLess (length rest.text.now) after
StepGives rest (Found token after) =
    (remaining_tokens rest ≡ token_view token ∷ remaining_tokens after) × LeavesLess (length rest.text.now) after
StepGives rest End = remaining_tokens rest ≡ []

-- what follows a block comment, or that it is never closed
abbrev pub BlockGives : ℕ → List ℕ → Option Rest → Type 0
BlockGives line comment None = has_close comment ≡ false
BlockGives line comment (Some after) =
    (has_close comment ≡ true) × (tokens_from line BlockComment comment ≡ remaining_tokens after)
    × (length after.text.now < length comment) × (after.line + length after.text.now < 2 ^ 64)
