-- Texts that are cut at a byte.
use Rattle.std.proofs.Common.{◌≡◌, ◌∙◌, ◌<◌, ◌==◌, ℕ, Bool, true, false, List, [], ◌∷◌, length, Option, Some}
use Rattle.std.proofs.Common.{None, if◌then◌else◌, refl, ap, arith, drop_of_length-le}
use Rattle.std.specs.List.{All, after_first, before_first, position_or_len}
use Rattle.std.proofs.lemmas.List.{take_all}
use Rattle.std.proofs.lemmas.List.Folds.{list_any_at, list_any_none}
use Rattle.std.proofs.lemmas.List.Splits.{slice_split_first, slice_split_none}
use Rattle.std.proofs.lemmas.List.Sums.{fails_before_first, passes_at_first}
use Rattle.std.specs.Prelude.{codes, option_map}
use Rattle.std.specs.Str.{bytes_eq}
use Rattle.hart_words.specs.Numbers.{digits_number, number_of, number_within}
use Rattle.hart_words.specs.declared.options.TrapValues.TheVariants.{ZeroFor}
use Rattle.csr_file.specs.declared.profile.CsrProfile.{CsrProfile}
use Rattle.judge_words.specs.Lists.{causes_in, comma, items, value_at, zero_for_in}
use Rattle.judge_words.specs.Profiles.{after_colon, chosen_named, equals, name_of, presence_names, value_of, with_item}
use Rattle.judge_words.specs.Profiles.{with_mask, with_value}
use Rattle.judge_words.specs.Values.{◌>>=◌, colon, number_of_text}

-- where the first element that passes is past all, none passes
fails_all : {X : Type 0} (p : X → Bool) (xs : List X) → position_or_len p xs ≡ length xs
    → All (λ x. p x ≡ false) xs
fails_all p xs none k d inside = fails_before_first p xs k d (omega (arith, none, inside))

-- a list without a comma is one item
pub items_alone : (text : List ℕ) → position_or_len (λ byte. byte == comma) text ≡ length text
    → items text ≡ text ∷ []
unfolding items
items_alone text none =
    slice_split_none (λ byte. byte == comma) text (fails_all (λ byte. byte == comma) text none)

-- and one with a comma is an item, and the list behind the comma
pub items_first : (text : List ℕ) → position_or_len (λ byte. byte == comma) text < length text
    → items text
    ≡ before_first (λ byte. byte == comma) text ∷ items (after_first (λ byte. byte == comma) text)
unfolding items
items_first text inside = slice_split_first (λ byte. byte == comma) text 0 inside

-- an item without `=` is all name
pub name_alone : (item : List ℕ) → position_or_len (λ byte. byte == equals) item ≡ length item
    → name_of item ≡ item
name_alone item none = take_all (position_or_len (λ byte. byte == equals) item) item (omega (arith, none))

-- a text without a colon is all before it, and has nothing after it
pub before_colon_alone : (text : List ℕ) → position_or_len (λ byte. byte == colon) text ≡ length text
    → before_first (λ byte. byte == colon) text ≡ text
before_colon_alone text none =
    take_all (position_or_len (λ byte. byte == colon) text) text (omega (arith, none))

pub after_colon_none : (text : List ℕ) → position_or_len (λ byte. byte == colon) text ≡ length text
    → after_colon text ≡ None
after_colon_none text none =
    ap (λ (test : Bool). if test then Some (after_first (λ byte. byte == colon) text) else None)
    (list_any_none (λ byte. byte == colon) text (fails_all (λ byte. byte == colon) text none))

pub after_colon_some : (text : List ℕ) → position_or_len (λ byte. byte == colon) text < length text
    → after_colon text ≡ Some (after_first (λ byte. byte == colon) text)
after_colon_some text inside =
    ap (λ (test : Bool). if test then Some (after_first (λ byte. byte == colon) text) else None)
    (list_any_at (λ byte. byte == colon) text (position_or_len (λ byte. byte == colon) text) 0 inside
    (passes_at_first (λ byte. byte == colon) text 0 inside))

-- nothing comes of a step that gives nothing
nothing_after : {A B : Type 0} (found : Option A) (f : A → Option B) → ((a : A) → f a ≡ None) → (found >>= f) ≡ None
nothing_after None f none = refl
nothing_after (Some a) f none = none a

causes_in-nil : causes_in (items []) ≡ None
unfolding items number_of_text number_within number_of digits_number
causes_in-nil = refl

-- `zero` without a colon has no causes
pub zero_for_in-no_colon : (text : List ℕ) → position_or_len (λ byte. byte == colon) text ≡ length text
    → zero_for_in text ≡ None
unfolding zero_for_in
zero_for_in-no_colon text none =
    let past : after_first (λ byte. byte == colon) text ≡ [] = drop_of_length-le text (omega (arith, none)) in
    let nothing : causes_in (items (after_first (λ byte. byte == colon) text)) ≡ None =
    ap (λ (rest : List ℕ). causes_in (items rest)) past ∙ causes_in-nil in
    go (bytes_eq (before_first (λ byte. byte == colon) text) (codes "zero"))
    (causes_in (items (after_first (λ byte. byte == colon) text))) nothing
  where
    go : (test : Bool) (causes : Option ℕ) → causes ≡ None
        → (if test then option_map (λ causes. ZeroFor (record { codes = causes })) causes else None) ≡ None
    go true causes is = rw is refl
    go false causes is = refl

-- without a value there is neither a way nor a mask
with_value-nil : (name : List ℕ) (profile : CsrProfile)
    → with_value (value_at presence_names []) name [] profile ≡ None
unfolding presence_names with_mask number_of_text number_within number_of digits_number
with_value-nil name profile = nothing_after (chosen_named name) _ (λ csr. refl)

-- an item without `=` says nothing
pub with_item-no_equals : (item : List ℕ) (profile : CsrProfile)
    → position_or_len (λ byte. byte == equals) item ≡ length item → with_item item profile ≡ None
unfolding with_item
with_item-no_equals item profile none =
    let past : value_of item ≡ [] = drop_of_length-le item (omega (arith, none)) in
    ap (λ (value : List ℕ). with_value (value_at presence_names value) (name_of item) value profile) past
    ∙ with_value-nil (name_of item) profile
