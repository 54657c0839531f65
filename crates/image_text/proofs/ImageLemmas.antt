-- What a token leads to.
use Rattle.std.proofs.Common.{◌≡◌, ℕ, ◌+◌, ◌%◌, ◌^◌, true, false, List, ◌∷◌, Option, is_some, Ok, Err, IsTrue, refl}
use Rattle.std.proofs.Common.{inl, inr, arith}
use Rattle.std.proofs.lemmas.Bool.Decides.{nat_tests}
use Rattle.hart_words.specs.declared.span.Span.{Span}
use Rattle.image_text.specs.declared.fault.FaultKind.{FaultKind}
use Rattle.image_text.specs.declared.fault.FaultKind.TheVariants.{OutsideRam, Overlap}
use Rattle.image_text.specs.declared.word.Word.{Word}
use Rattle.image_text.specs.declared.word.Word.TheVariants.{Byte, Address}
use Rattle.image_text.specs.Bytes.{with_byte}
use Rattle.image_text.specs.Image.{word_of_token, bytes_after_word, in_line, bytes_after}
use Rattle.hart_words.specs.Spans.{LiesIn, is_in}
use Rattle.image_text.specs.Tokens.{TokenView}
use Rattle.image_text.proofs.TokenLemmas.{test}
use Rattle.image_text.proofs.Pages.{eq_other}
use Rattle.std.proofs.lemmas.Bool.{cases_eq}
use Rattle.image_text.specs.declared.fault.ImageFault.{ImageFault}
use Rattle.hart_words.specs.Results.{◌>>=◌}
use Rattle.std.proofs.Common.{[], ◌∙◌, subst, sym}
use Rattle.std.specs.Prelude.{Result, None}
use Rattle.image_text.specs.Image.{image_of}
use Rattle.image_text.specs.Tokens.{tokens_of}

pub put_address : (ram : Span) (bytes : ℕ → Option ℕ) (address next : ℕ)
    → bytes_after_word ram bytes address (Address next) ≡ Ok (bytes, next)
unfolding bytes_after_word
put_address ram bytes address next = refl

pub put_outside : (ram : Span) (bytes : ℕ → Option ℕ) (address value : ℕ) → is_in ram address ≡ false
    → bytes_after_word ram bytes address (Byte value) ≡ Err OutsideRam
unfolding bytes_after_word
put_outside ram bytes address value h = rw h refl

pub put_overlap : (ram : Span) (bytes : ℕ → Option ℕ) (address value : ℕ) → is_in ram address ≡ true
    → is_some (bytes address) ≡ true → bytes_after_word ram bytes address (Byte value) ≡ Err Overlap
unfolding bytes_after_word
put_overlap ram bytes address value h taken = rw (h, taken) refl

pub put_byte : (ram : Span) (bytes : ℕ → Option ℕ) (address value : ℕ) → is_in ram address ≡ true
    → is_some (bytes address) ≡ false
    → bytes_after_word ram bytes address (Byte value) ≡ Ok (with_byte bytes address value, (address + 1) % 2 ^ 64)
unfolding bytes_after_word
put_byte ram bytes address value h free = rw (h, free) refl

pub after_bad : (ram : Span) (bytes : ℕ → Option ℕ) (address : ℕ) (token : TokenView) (others : List TokenView)
    (kind : FaultKind)
    → word_of_token token.bytes ≡ Err kind
    → bytes_after ram bytes address (token ∷ others) ≡ Err (record { kind = kind; line = token.line })
unfolding bytes_after
after_bad ram bytes address token others kind word = rw word refl

pub after_refused : (ram : Span) (bytes : ℕ → Option ℕ) (address : ℕ) (token : TokenView) (others : List TokenView)
    {word : Word} {kind : FaultKind}
    → word_of_token token.bytes ≡ Ok word → bytes_after_word ram bytes address word ≡ Err kind
    → bytes_after ram bytes address (token ∷ others) ≡ Err (record { kind = kind; line = token.line })
unfolding bytes_after
after_refused ram bytes address token others is refused = rw (is, refused) refl

pub after_put : (ram : Span) (bytes : ℕ → Option ℕ) (address : ℕ) (token : TokenView) (others : List TokenView)
    {word : Word} {new : ℕ → Option ℕ} {next : ℕ}
    → word_of_token token.bytes ≡ Ok word → bytes_after_word ram bytes address word ≡ Ok (new, next)
    → bytes_after ram bytes address (token ∷ others) ≡ bytes_after ram new next others
unfolding bytes_after
after_put ram bytes address token others is puts = rw (is, puts) refl

-- every byte of an image is in RAM
abbrev AreInside : Span → (ℕ → Option ℕ) → Type 0
AreInside ram bytes = (a : ℕ) → is_some (bytes a) ≡ true → is_in ram a ≡ true

ok_same : {A E : Type 0} (x y : A) → ◌≡◌ {A = Result A E} (Ok x) (Ok y) → x ≡ y
ok_same x y h = cc

step_ok : {A B : Type 0} (line : ℕ) (r : Result A FaultKind) (f : A → Result B ImageFault) (x : B)
    → (in_line line r >>= f) ≡ Ok x → (y : A) × (r ≡ Ok y) × (f y ≡ Ok x)
step_ok line (Ok y) f x h = (y, refl, h)
step_ok line (Err e) f x h = cc

with_inside : (ram : Span) (bytes : ℕ → Option ℕ) (address value : ℕ) → is_in ram address ≡ true → AreInside ram bytes
    → AreInside ram (with_byte bytes address value)
with_inside ram bytes address value here inside a some =
    elim (cases_eq a address) [
      | inl same ↦ rw same here
      | inr apart ↦ inside a (rw (eq_other a address apart) at some)
    ]

put_inside : (ram : Span) (bytes : ℕ → Option ℕ) (address : ℕ) (word : Word) (next : (ℕ → Option ℕ) × ℕ)
    → bytes_after_word ram bytes address word ≡ Ok next → AreInside ram bytes → AreInside ram next.0
put_inside ram bytes address (Address a) next h inside =
    let P : (ℕ → Option ℕ) × ℕ → Type 0 = λ n. AreInside ram n.0 in
    subst P (ok_same _ _ (sym (put_address ram bytes address a) ∙ h)) inside
put_inside ram bytes address (Byte value) next h inside =
    let P : (ℕ → Option ℕ) × ℕ → Type 0 = λ n. AreInside ram n.0 in
    elim (test (is_in ram address)) [
      | inl here ↦ elim (test (is_some (bytes address))) [
        | inl taken ↦ (let none = sym (put_overlap ram bytes address value here taken) ∙ h in cc)
        | inr free ↦
            subst P (ok_same _ _ (sym (put_byte ram bytes address value here free) ∙ h))
            (with_inside ram bytes address value here inside)
      ]
      | inr outside ↦ (let none = sym (put_outside ram bytes address value outside) ∙ h in cc)
    ]

pub all_inside : (ram : Span) (bytes : ℕ → Option ℕ) (address : ℕ) (tokens : List TokenView) (new : ℕ → Option ℕ)
    → AreInside ram bytes → bytes_after ram bytes address tokens ≡ Ok new → AreInside ram new
unfolding bytes_after
all_inside ram bytes address [] new inside h = subst (AreInside ram) (ok_same _ _ h) inside
all_inside ram bytes address (token ∷ others) new inside h =
    let word = step_ok token.line (word_of_token token.bytes) _ new h in
    let next = step_ok token.line (bytes_after_word ram bytes address word.0) _ new word.2 in
    all_inside ram next.0.0 next.0.1 others new (put_inside ram bytes address word.0 next.0 next.1 inside) next.2

pub image_inside : (ram : Span) (text : List ℕ) (bytes : ℕ → Option ℕ) → image_of ram text ≡ Ok bytes → (a : ℕ)
    → IsTrue (is_some (bytes a)) → LiesIn a ram
image_inside ram text bytes h a some =
    let is = all_inside ram (λ _. None) 0 (tokens_of text) bytes (λ _ none. cc) h a some in
    grind (arith, nat_tests, is)
