-- The map of physical addresses: RAM, up to eight ranges of devices, and nothing elsewhere.
use Rattle.std.specs.Prelude.{◌≡◌, Bool, true, false, List, ◌∷◌, replicate, Option, Some, None, refl}
use Rattle.std.specs.Prelude.{if◌then◌else◌}
use Rattle.hart_words.specs.declared.span.Span.{Span}
use Rattle.hart_words.specs.declared.map.Map.{Map}
use Rattle.hart_words.specs.Devices.{are_apart, are_apart_from}

abbrev pub map_by : (ram : Span) (io : List (Option Span)) (test : Bool) → are_apart_from ram io ≡ test → Option Map
map_by ram io false fails = None
map_by ram io true holds = Some (record { ram = ram; io = io; apart = holds })

-- RAM beside ranges of devices, where none of these has a byte in common with RAM
unfoldable pub map_beside : Span → List (Option Span) → Option Map
map_beside ram io = map_by ram io (are_apart_from ram io) refl

-- the same, where no two of all have a byte in common
unfoldable pub map_with : Span → List (Option Span) → Option Map
map_with ram io = if are_apart io then map_beside ram io else None

-- RAM beside one range of devices, or none
unfoldable pub map_of : Span → Option Span → Option Map
map_of ram io = map_with ram (io ∷ replicate 7 None)
