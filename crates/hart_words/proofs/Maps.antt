-- A map is determined by its ranges.
use Rattle.std.proofs.Common.{◌≡◌, Bool, true, false, List, Option, Some, None, refl, ap, subst, IsTrue}
use Rattle.std.proofs.Props.{props}
use Rattle.hart_words.specs.declared.span.Span.{Span}
use Rattle.hart_words.specs.declared.map.Map.{Map}
use Rattle.hart_words.specs.Devices.{are_apart_from}
use Rattle.hart_words.specs.Map.{map_beside, map_by}

apart_with : (ram : Span) (io : List (Option Span)) → IsTrue (are_apart_from ram io) → Map
apart_with ram io apart = record { ram = ram; io = io; apart = apart }

apart_prop : (ram : Span) (io : List (Option Span)) → IsProp (IsTrue (are_apart_from ram io))
apart_prop ram io = Prim.hlevel props

same_with : (ram ram' : Span) (io io' : List (Option Span)) → ram ≡ ram' → io ≡ io'
    → (one : IsTrue (are_apart_from ram io)) (other : IsTrue (are_apart_from ram' io'))
    → apart_with ram io one ≡ apart_with ram' io' other
same_with ram ram' io io' r i one =
    let P : Span → Type 0 = λ x. (other : IsTrue (are_apart_from x io')) → apart_with ram io one ≡ apart_with x io' other in
    let Q : List (Option Span) → Type 0 =
    λ x. (other : IsTrue (are_apart_from ram x)) → apart_with ram io one ≡ apart_with ram x other in
    subst P r (subst Q i (λ other. ap (apart_with ram io) (apart_prop ram io one other)))

pub same_map : (one other : Map) → one.ram ≡ other.ram → one.io ≡ other.io → one ≡ other
unfolding apart_with
same_map one other ram io = same_with one.ram other.ram one.io other.io ram io one.apart other.apart

by_true : (ram : Span) (io : List (Option Span)) (test : Bool) (is : are_apart_from ram io ≡ test) (map : Map)
    → map.ram ≡ ram → map.io ≡ io → test ≡ true → Some map ≡ map_by ram io test is
by_true ram io true is map r i test = ap (λ (x : Map). Some x) (same_map map _ r i)
by_true ram io false is map r i test = cc

by_false : (ram : Span) (io : List (Option Span)) (test : Bool) (is : are_apart_from ram io ≡ test) → test ≡ false
    → None ≡ map_by ram io test is
by_false ram io false is test = refl
by_false ram io true is test = cc

pub map_apart : (ram : Span) (io : List (Option Span)) (map : Map) → map.ram ≡ ram → map.io ≡ io
    → are_apart_from ram io ≡ true → Some map ≡ map_beside ram io
unfolding map_beside
map_apart ram io map r i test = by_true ram io (are_apart_from ram io) refl map r i test

pub map_refused : (ram : Span) (io : List (Option Span)) → are_apart_from ram io ≡ false → None ≡ map_beside ram io
unfolding map_beside
map_refused ram io test = by_false ram io (are_apart_from ram io) refl test
