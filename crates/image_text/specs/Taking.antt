-- What one token does to an image underway.
use Rattle.std.specs.Prelude.{◌≡◌, ℕ, List, ◌∷◌, Option, Result, Ok, Err}
use Rattle.hart_words.specs.declared.span.Span.{Span}
use Rattle.image_text.specs.declared.fault.ImageError.{ImageError}
use Rattle.image_text.specs.declared.fault.ImageFault.{ImageFault}
use Rattle.image_text.specs.declared.image.PartialImage.{PartialImage}
use Rattle.image_text.specs.declared.tokens.Token.{Token}
use Rattle.image_text.specs.Bytes.{byte_at}
use Rattle.hart_words.specs.Results.{FailsAs}
use Rattle.image_text.specs.Image.{image_fault, bytes_after}
use Rattle.image_text.specs.Steps.{token_view}
use Rattle.image_text.specs.Tokens.{TokenView}

-- what further tokens lead to
abbrev pub led_to : Span → PartialImage → List TokenView → Result (ℕ → Option ℕ) ImageFault
led_to ram image tokens = bytes_after ram (byte_at image.pieces) image.address tokens

-- what the token and others lead to, the others lead to from the new image, or the token is the fault
abbrev pub TakeGives : Span → PartialImage → Token → PartialImage → Result (Unit {0}) ImageError → Type 0
TakeGives ram old token new (Ok done) =
    (others : List TokenView) → led_to ram old (token_view token ∷ others) ≡ led_to ram new others
TakeGives ram old token new (Err e) =
    (others : List TokenView) → FailsAs (image_fault e) (led_to ram old (token_view token ∷ others))
