-- Values that are lists of items, parted by commas.
use Rattle.std.specs.Prelude.{ℕ, ◌+◌, ◌^◌, ◌==◌, nat_lt, List, [], ◌∷◌, length, replicate, Option, Some, None, option_map}
use Rattle.std.specs.Prelude.{bit_and, bit_or, codes, if◌then◌else◌}
use Rattle.std.specs.List.{after_first, before_first, list_any, slice_set, slice_split}
use Rattle.std.specs.Str.{bytes_eq}
use Rattle.hart_words.specs.declared.span.Span.{Span}
use Rattle.hart_words.specs.declared.map.TheConstants.{MOST_DEVICES}
use Rattle.hart_words.specs.declared.options.TrapValues.{TrapValues}
use Rattle.hart_words.specs.declared.options.TrapValues.TheVariants.{Value, Zero, ZeroFor}
use Rattle.judge_words.specs.Values.{◌>>=◌, colon, number_of_text, span_in}

-- the byte `,`
abbrev pub comma : ℕ
comma = 44

-- the items of a list, at least one
unfoldable pub items : List ℕ → List (List ℕ)
items text = slice_split (λ byte. byte == comma) text

-- the items of a list that may be left out
abbrev pub items_of : Option (List ℕ) → List (List ℕ)
items_of None = []
items_of (Some text) = items text

-- what is left of a list: it grows less with each item that is taken off
abbrev pub list_size : Option (List ℕ) → ℕ
list_size None = 0
list_size (Some text) = length text + 1

-- what stands beside the first word that the text is
abbrev pub value_at : {X : Type 0} → List (List ℕ × X) → List ℕ → Option X
value_at [] text = None
value_at (entry ∷ entries) text = if bytes_eq text entry.0 then Some entry.1 else value_at entries text

-- the causes whose trap value a core may have as 0 on its own
abbrev pub single_causes : List ℕ
single_causes = 1 ∷ 2 ∷ 3 ∷ 4 ∷ 5 ∷ 6 ∷ 7 ∷ 12 ∷ 13 ∷ 15 ∷ []

-- the bit of such a cause
abbrev pub cause_bit : ℕ → Option ℕ
cause_bit code = if list_any (λ cause. cause == code) single_causes then Some (2 ^ code) else None

-- a set of causes with one more, where it is not in the set
abbrev pub with_cause : ℕ → ℕ → Option ℕ
with_cause causes bit = if bit_and causes bit == 0 then Some (bit_or causes bit) else None

-- the set of the causes that the items write, each once
abbrev pub causes_in : List (List ℕ) → Option ℕ
causes_in [] = Some 0
causes_in (item ∷ others) = do
  code ← number_of_text item
  bit ← cause_bit code
  causes ← causes_in others
  with_cause causes bit

-- `zero:` and a list of causes
unfoldable pub zero_for_in : List ℕ → Option TrapValues
zero_for_in text =
    if bytes_eq (before_first (λ byte. byte == colon) text) (codes "zero")
    then option_map (λ causes. ZeroFor (record { codes = causes }))
    (causes_in (items (after_first (λ byte. byte == colon) text)))
    else None

-- what traps put into mtval and stval
unfoldable pub trap_values_in : List ℕ → Option TrapValues
trap_values_in text =
    if bytes_eq text (codes "value") then Some Value
    else (if bytes_eq text (codes "zero") then Some Zero else zero_for_in text)

-- the ranges that the items write, from the place `index` on, beside those that are there
abbrev pub ranges_from : ℕ → List (Option Span) → List (List ℕ) → Option (List (Option Span))
ranges_from index ranges [] = Some ranges
ranges_from index ranges (item ∷ others) =
    if nat_lt index MOST_DEVICES
    then span_in item >>= (λ range. ranges_from (index + 1) (slice_set ranges index (Some range)) others)
    else None

-- the ranges of devices, which may be left out
abbrev pub io_in : Option (List ℕ) → Option (List (Option Span))
io_in text = ranges_from 0 (replicate MOST_DEVICES None) (items_of text)
