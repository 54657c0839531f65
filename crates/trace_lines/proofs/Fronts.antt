-- The lines that were taken and those that are left.
use Rattle.std.proofs.Common.{◌≡◌, ℕ, ◌<◌, true, false, List, [], ◌++◌, length, drop, refl, sym, ap, ◌∙◌, arith}
use Rattle.std.proofs.Common.{length-append, append-nil, nat_le, Some}
use Rattle.std.proofs.lemmas.List.{take_at, drop_at, drop_all}
use Rattle.std.proofs.lemmas.Bool.{le-leb, lt-leb}
use Rattle.trace_lines.specs.declared.piece.Ending.{Ending}
use Rattle.trace_lines.specs.declared.piece.Ending.TheVariants.{More, End, TooLong, TooLarge}
use Rattle.trace_lines.specs.Lines.{RemainingLines}
use Rattle.trace_lines.specs.Nexts.{TakesNext}
use Rattle.trace_lines.specs.Pieces.{with_lines, front_of, back_of, FitsEnding, IsLast}

-- as many lines as were asked for
pub front_full : (asked : ℕ) (lines : List (List ℕ)) (rest all : RemainingLines) → length lines ≡ asked
    → with_lines lines rest ≡ all → record { lines = lines; ending = More } ≡ front_of asked all
unfolding front_of
front_full asked lines rest all full is =
    let enough : nat_le asked (length (lines ++ rest.lines)) ≡ true =
    le-leb _ _ (omega (arith, length-append lines rest.lines)) in
    rw (← is) (rw (enough, take_at lines rest.lines asked full) refl)

pub back_full : (asked : ℕ) (lines : List (List ℕ)) (rest all : RemainingLines) → length lines ≡ asked
    → with_lines lines rest ≡ all → rest ≡ back_of asked all
unfolding back_of
back_full asked lines rest all full is = rw (← is) (rw (drop_at lines rest.lines asked full) refl)

-- fewer, and the ending
front_short : (asked : ℕ) (lines : List (List ℕ)) (ending : Ending) (rest all : RemainingLines) → length lines < asked
    → rest ≡ record { lines = []; ending = ending } → with_lines lines rest ≡ all
    → record { lines = lines; ending = ending } ≡ front_of asked all
unfolding front_of
front_short asked lines ending rest all short none is =
    let whole : record { lines = lines ++ []; ending = ending } ≡ all =
    ap (λ left. with_lines lines left) (sym none) ∙ is in
    let few : nat_le asked (length (lines ++ [])) ≡ false = lt-leb _ _ (omega (arith, length-append lines [])) in
    rw (← whole) (rw few (rw (append-nil lines) refl))

back_short : (asked : ℕ) (lines : List (List ℕ)) (ending : Ending) (rest all : RemainingLines) → length lines < asked
    → rest ≡ record { lines = []; ending = ending } → with_lines lines rest ≡ all → rest ≡ back_of asked all
unfolding back_of
back_short asked lines ending rest all short none is =
    let whole : record { lines = lines ++ []; ending = ending } ≡ all =
    ap (λ left. with_lines lines left) (sym none) ∙ is in
    let gone : drop asked (lines ++ []) ≡ [] = drop_all asked (lines ++ []) (omega (arith, length-append lines [])) in
    none ∙ rw (← whole) (rw gone refl)

-- the same of the step that found the ending
pub front_ended : (asked : ℕ) {lines now : List (List ℕ)} {ending : Ending} {left rest all : RemainingLines}
    → length lines < asked → TakesNext lines left (Some ending) now rest → with_lines lines left ≡ all
    → record { lines = now; ending = ending } ≡ front_of asked all
front_ended asked {lines} {ending} {left} {all} short next is =
    rw next.2 (front_short asked lines ending left all short next.0 is)

pub back_ended : (asked : ℕ) {lines now : List (List ℕ)} {ending : Ending} {left rest all : RemainingLines}
    → length lines < asked → TakesNext lines left (Some ending) now rest → with_lines lines left ≡ all
    → rest ≡ back_of asked all
back_ended asked {lines} {ending} {left} {all} short next is =
    next.1 ∙ back_short asked lines ending left all short next.0 is

-- an ending that nothing follows comes with fewer lines than were asked for
pub counts_short : (asked count : ℕ) (ending : Ending) → IsLast ending → count < asked → FitsEnding ending asked count
counts_short asked count More last h = absurd last
counts_short asked count End last h = h
counts_short asked count (TooLong number) last h = h
counts_short asked count TooLarge last h = h
