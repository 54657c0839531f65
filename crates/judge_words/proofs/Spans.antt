-- Ranges without a colon.
use Rattle.std.proofs.Common.{◌≡◌, ◌∙◌, ◌==◌, ◌+◌, ℕ, List, [], length, drop, Option, Some, None, refl, ap, arith}
use Rattle.std.specs.List.{after_first, before_first, position_or_len}
use Rattle.std.proofs.Common.{drop_of_length-le}
use Rattle.hart_words.specs.Numbers.{digits_number, number_of, number_within}
use Rattle.judge_words.specs.Values.{◌>>=◌, colon, number_of_text, span_in}
use Rattle.hart_words.specs.Spans.{span_of}

number_of_text-nil : number_of_text [] ≡ None
unfolding number_of_text number_within number_of digits_number
number_of_text-nil = refl

-- a text without a colon is no range
pub span_in-no_colon : (text : List ℕ) → position_or_len (λ byte. byte == colon) text ≡ length text
    → span_in text ≡ None
unfolding span_in
span_in-no_colon text none =
    let past : drop (position_or_len (λ byte. byte == colon) text + 1) text ≡ [] =
    drop_of_length-le text (omega arith) in
    let size : number_of_text (after_first (λ byte. byte == colon) text) ≡ None = ap number_of_text past
    ∙ number_of_text-nil in
    go (number_of_text (before_first (λ byte. byte == colon) text))
    (number_of_text (after_first (λ byte. byte == colon) text))
    size
  where
    go : (base size : Option ℕ) → size ≡ None → (base >>= (λ b. size >>= (λ s. span_of b s))) ≡ None
    go None size is = refl
    go (Some b) size is = rw is refl
