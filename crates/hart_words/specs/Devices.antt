-- The ranges of devices of a map, each of which may be left out.
use Rattle.std.specs.Prelude.{ℕ, Bool, true, false, ◌&&◌, ◌||◌, List, [], ◌∷◌, Option, Some, None}
use Rattle.hart_words.specs.declared.span.Span.{Span}
use Rattle.hart_words.specs.Spans.{holds_all, is_apart_from}

abbrev pub range_holds : Option Span → ℕ → ℕ → Bool
range_holds None pa len = false
range_holds (Some range) pa len = holds_all range pa len

-- so many bytes from an address on are all of one range of devices
abbrev pub is_device : List (Option Span) → ℕ → ℕ → Bool
is_device [] pa len = false
is_device (range ∷ ranges) pa len = range_holds range pa len || is_device ranges pa len

abbrev pub apart_by : Span → Option Span → Bool
apart_by range None = true
apart_by range (Some other) = is_apart_from range other

-- none of the others has a byte in common with a range
abbrev pub are_apart_from : Span → List (Option Span) → Bool
are_apart_from range [] = true
are_apart_from range (other ∷ others) = apart_by range other && are_apart_from range others

abbrev pub is_apart_from_all : Option Span → List (Option Span) → Bool
is_apart_from_all None others = true
is_apart_from_all (Some range) others = are_apart_from range others

-- no two of the ranges have a byte in common
abbrev pub are_apart : List (Option Span) → Bool
are_apart [] = true
are_apart (range ∷ ranges) = is_apart_from_all range ranges && are_apart ranges
