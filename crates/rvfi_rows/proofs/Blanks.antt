-- No blank stands in a number, so that a field which writes one is trimmed already.
use Rattle.std.proofs.Common.{◌≡◌, ◌∙◌, ap, refl, subst, sym, ℕ, ◌+◌, ◌-◌, ◌<◌, ◌≤◌, ◌==◌, ◌&&◌, not, Bool, true, false}
use Rattle.std.proofs.Common.{List, [], ◌∷◌, arith, drop, get_or, length, Some, None, inl, inr}
use Rattle.std.specs.Prelude.{if◌then◌else◌, slice_index}
use Rattle.std.specs.List.{list_all}
use Rattle.std.specs.Char.{digit_value, is_digit}
use Rattle.std.specs.Str.Parse.{digits_value}
use Rattle.std.proofs.lemmas.Bool.{and_parts, eqb-true, ltb-true}
use Rattle.std.proofs.lemmas.Bool.Decides.{eqb_tells}
use Rattle.std.proofs.lemmas.List.{get_or-drop, length-drop}
use Rattle.std.proofs.lemmas.List.Sums.{AllPass-from_list_all}
use Rattle.hart_words.specs.Numbers.{digits_number, is_hexadecimal, number_of}
use Rattle.csv_line.specs.Fields.{is_space_or_tab, trimmed_of}
use Rattle.csv_line.proofs.Trimmed.{trimmed_already, trimmed_empty}

-- a digit is no blank
no_digit : (byte radix : ℕ) → digit_value byte ≡ 36 → radix ≤ 36 → is_digit byte radix ≡ true → ⊥
no_digit byte radix none most digit =
    let below : digit_value byte < radix = ltb-true (digit_value byte) radix digit in
    omega arith

digit_is_no_blank : (byte radix : ℕ) → radix ≤ 36 → is_digit byte radix ≡ true → is_space_or_tab byte ≡ false
digit_is_no_blank byte radix most digit = elim (eqb_tells byte 32) [
  | inl space ↦ absurd (no_digit byte radix (ap digit_value space.1) most digit)
  | inr other ↦ elim (eqb_tells byte 9) [
    | inl tab ↦ absurd (no_digit byte radix (ap digit_value tab.1) most digit)
    | inr another ↦ rw (other.0, another.0) refl
  ]
]

-- a number has a digit, and nothing else
record IsDigits (radix : ℕ) (text : List ℕ) : Type 0 where
  some : 0 < length text
  digits : list_all (λ c. is_digit c radix) text ≡ true

from_value : (radix value x : ℕ) (text : List ℕ) (empty all : Bool) → empty ≡ (length text == 0)
    → all ≡ list_all (λ c. is_digit c radix) text
    → (if not empty && all then Some x else None) ≡ Some value → IsDigits radix text
from_value radix value x [] true all is every found = absurd cc
from_value radix value x [] false all is every found = absurd cc
from_value radix value x (byte ∷ text) true all is every found = absurd cc
from_value radix value x (byte ∷ text) false true is every found = record { some = omega arith; digits = sym every }
from_value radix value x (byte ∷ text) false false is every found = absurd cc

are_digits : (radix value : ℕ) (text : List ℕ) → digits_number radix text ≡ Some value → IsDigits radix text
unfolding digits_number
are_digits radix value text is =
    from_value radix value (digits_value radix text) text (length text == 0) (list_all (λ c. is_digit c radix) text)
    refl refl is

no_blank_at : (radix : ℕ) (text : List ℕ) (i : ℕ) → radix ≤ 36 → IsDigits radix text → i < length text
    → is_space_or_tab (get_or text i 0) ≡ false
no_blank_at radix text i most number within =
    digit_is_no_blank (get_or text i 0) radix most
    (AllPass-from_list_all (λ c. is_digit c radix) text number.digits i 0 within)

decimal : (text : List ℕ) → IsDigits 10 text → trimmed_of text ≡ text
decimal text number =
    trimmed_already text number.some (no_blank_at 10 text 0 (omega arith) number number.some)
    (no_blank_at 10 text (length text - 1) (omega arith) number (omega (arith, number.some)))

hexadecimal : (text : List ℕ) → is_hexadecimal text ≡ true → IsDigits 16 (drop 2 text) → trimmed_of text ≡ text
hexadecimal text begins number =
    let longer : 2 < length text = omega (arith, number.some, length-drop 2 text) in
    let zero_first : slice_index text 0 ≡ 48 = eqb-true _ _ (and_parts (slice_index text 0 == 48) _ begins).0 in
    let first : is_space_or_tab (get_or text 0 0) ≡ false =
    subst (λ byte. is_space_or_tab byte ≡ false) (sym zero_first) refl in
    let at_end : 2 + (length text - 3) ≡ length text - 1 = omega arith in
    let within : length text - 3 < length (drop 2 text) = omega (arith, length-drop 2 text) in
    let same : get_or (drop 2 text) (length text - 3) 0 ≡ get_or text (length text - 1) 0 =
    get_or-drop 2 text (length text - 3) 0 ∙ ap (λ i. get_or text i 0) at_end in
    let last : is_space_or_tab (get_or text (length text - 1) 0) ≡ false =
    subst (λ byte. is_space_or_tab byte ≡ false) same
    (no_blank_at 16 (drop 2 text) (length text - 3) (omega arith) number within) in
    trimmed_already text (omega arith) first last

pub number_is_trimmed : (text : List ℕ) (value : ℕ) → number_of text ≡ Some value → trimmed_of text ≡ text
unfolding number_of
number_is_trimmed text value is = by (is_hexadecimal text) refl is
  where
    by : (test : Bool) → is_hexadecimal text ≡ test
        → (if test then digits_number 16 (drop 2 text) else digits_number 10 text) ≡ Some value → trimmed_of text ≡ text
    by true begins found = hexadecimal text begins (are_digits 16 value (drop 2 text) found)
    by false begins found = decimal text (are_digits 10 value text found)

pub empty_is_trimmed : (text : List ℕ) (test : Bool) → test ≡ (length text == 0) → test ≡ true → trimmed_of text ≡ text
empty_is_trimmed [] test is holds = trimmed_empty
empty_is_trimmed (byte ∷ text) test is holds =
    let none : length (byte ∷ text) ≡ 0 = eqb-true _ _ (sym is ∙ holds) in
    absurd (omega arith)
