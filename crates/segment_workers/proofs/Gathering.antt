-- How far a worker has come.
use Rattle.std.proofs.Common.{◌≡◌, ℕ, suc, ◌-◌, ◌<◌, ◌≤◌, Bool, true, false, nat_le, max, List, [], ◌∷◌, ◌++◌}
use Rattle.std.proofs.Common.{MatchBool, Result, Ok, Some, refl, sym, ap, subst, arith}
use Rattle.std.specs.List.{All}
use Rattle.std.specs.Result.{IfOk}
use Rattle.std.proofs.lemmas.List.Elements.{All-head, All-pop, All-same, All-tail}
use Rattle.board_core.specs.Bags.{Has, count}
use Rattle.board_core.proofs.Bags.{Has-left, Has-push, Has-right, count_push, one_if}
use Rattle.std.proofs.lemmas.Bool.Decides.{nat_tests}
use Rattle.verdict_board.specs.declared.view.View.{View}
use Rattle.verdict_board.specs.Seats.{FindsNone}
use Rattle.verdict_board.specs.Views.{AreBelow, view_after_draw, is_done, is_past, lead}

-- a number above each that was drawn
abbrev pub end_of : List (ℕ × ℕ) → ℕ
end_of [] = 0
end_of (draw ∷ draws) = max (suc draw.1) (end_of draws)

end_of-below : (number : ℕ) (draws : List (ℕ × ℕ)) → AreBelow number draws → end_of draws ≤ number
end_of-below number [] below = omega arith
end_of-below number (draw ∷ draws) below =
    omega (
      arith,
      below draw (Has-left (draw ∷ []) draws draw (Has-push [] draw)),
      end_of-below number draws (λ one has. below one (Has-right (draw ∷ []) draws one has)),
    )

end_of-push : (draws : List (ℕ × ℕ)) (draw : ℕ × ℕ) → draw.1 < end_of (draws ++ draw ∷ [])
end_of-push [] draw = omega arith
end_of-push (first ∷ draws) draw = omega (arith, end_of-push draws draw)

-- less is left when the next number was drawn
pub less_left : (n number worker : ℕ) (draws now : List (ℕ × ℕ)) → now ≡ draws ++ (worker, number) ∷ [] → number < n
    → AreBelow number draws → n - end_of now < n - end_of draws
less_left n number worker draws now is low below =
    omega (arith, low, end_of-below number draws below, end_of-push draws (worker, number), ap end_of is)

-- what was drawn now is among its draws
pub drawn_has : (before now : View) (number : ℕ) → now ≡ view_after_draw before number
    → Has now.draws (lead now, number)
drawn_has before now number is =
    let P : View → Type 0 = λ view. Has view.draws (lead view, number) in
    subst P (sym is) (Has-push before.draws (lead before, number))

-- a seat that finds no segment left has passed
pub has_none_left : (n : ℕ) (before now : View) → before.segments ≡ n → FindsNone before now
    → 0 < count (is_past n) now.draws
has_none_left n before now n_is finds = by (is_done before) refl finds
  where
    by : (done : Bool) → is_done before ≡ done
        → MatchBool done (now ≡ before)
        ((number : ℕ) × (before.segments ≤ number)
        × ((now ≡ view_after_draw before number) × AreBelow number before.draws))
        → 0 < count (is_past n) now.draws
    by true is same =
        let past : 0 < count (is_past before.segments) before.draws = grind (arith, nat_tests) in
        omega
        (arith, past, ap (λ view. count (is_past n) view.draws) same, ap (λ m. count (is_past m) before.draws) n_is)
    by false is drawn =
        let high : n ≤ drawn.0 = omega (arith, drawn.1, n_is) in
        omega (
          arith,
          ap (λ view. count (is_past n) view.draws) drawn.2.0,
          count_push (is_past n) before.draws (lead before, drawn.0),
          one_if (nat_le n drawn.0) (grind (arith, nat_tests)),
        )

module _ {W E : Type 0} (P : W → Type 0) where
  -- the first of those that did something, and the rest
  pub first_did : (work : Result W E) (one : W) (works rest : List (Result W E)) → works ≡ work ∷ rest → work ≡ Ok one
      → All (λ w. IfOk w P) works → P one × All (λ w. IfOk w P) rest
  first_did work one works rest is ok all =
      let Q : Result W E → Type 0 = λ w. IfOk w P in
      let whole : All Q (work ∷ rest) = All-same Q (work ∷ rest) works (sym is) all in
      (subst Q ok (All-head Q work rest whole), All-tail Q work rest whole)

  -- the last
  pub last_did : (work : Result W E) (one : W) (works rest : List (Result W E)) → works ≡ rest ++ work ∷ []
      → work ≡ Ok one → All (λ w. IfOk w P) works → P one × All (λ w. IfOk w P) rest
  last_did work one works rest is ok all =
      let Q : Result W E → Type 0 = λ w. IfOk w P in
      let parts = All-pop Q works rest (Some work) is all in
      (subst Q ok parts.1, parts.0)
