-- The ways in which a worker finds out about a segment.
use Rattle.std.proofs.Common.{◌≡◌, ℕ, ◌<◌, ◌≤◌, Bool, true, false, ◌&&◌, ◌==◌, List, [], ◌∷◌, ◌++◌, refl, sym, ap, ◌∙◌}
use Rattle.std.proofs.Common.{subst, arith}
use Rattle.board_core.specs.Bags.{Has, Names, as_number, count, is_numbered}
use Rattle.board_core.proofs.Bags.{count_push, counted, equal_test}
use Rattle.segment_judge.specs.declared.found.What.TheVariants.{Judged, Skipped}
use Rattle.segment_judge.specs.declared.judged.Judged.{Judged as JudgedSegment}
use Rattle.verdict_board.specs.declared.view.View.{View}
use Rattle.verdict_board.specs.Seats.{Posts}
use Rattle.verdict_board.specs.Views.{lead, view_after_look}
use Rattle.segment_workers.specs.Runs.{ends_trace}
use Rattle.segment_workers.specs.Works.{FindsSo}

-- one test decides where the other is known
if_false : (test other : Bool) → other ≡ false → as_number (test && other) ≡ 0
if_false true other is = ap as_number is
if_false false other is = refl

if_true : (test other : Bool) → other ≡ true → as_number (test && other) ≡ as_number test
if_true true other is = ap as_number is
if_true false other is = refl

-- a seat that drew a segment has it among its draws
pub named : (view now : View) (least worker seg : ℕ) → now ≡ view_after_look view least → Has view.draws (worker, seg)
    → Names now.draws seg
named view now least worker seg is has =
    let P : View → Type 0 = λ one. Names one.draws seg in
    subst P (sym is) (counted (is_numbered seg) view.draws (worker, seg) has (equal_test seg seg refl))

module _ {M : Type 0} (before now : View) (seg least : ℕ) (is : now ≡ view_after_look before least) where
  pub skips : least < seg → FindsSo {M = M} before now seg (Skipped least)
  skips low =
      let P : View → Type 0 = λ view. FindsSo {M = M} before view seg (Skipped least) in
      subst P (sym is) (record {
        draws_are = refl;
        least = least;
        looks_are = refl;
        posts_are = λ number. omega (arith, if_false (seg == number) false refl);
        so = (refl, low);
      })

  pub agrees : seg ≤ least → (judged : JudgedSegment M) → ends_trace judged.verdict ≡ false
      → FindsSo before now seg (Judged judged)
  agrees high judged no_end =
      let P : View → Type 0 = λ view. FindsSo before view seg (Judged judged) in
      subst P (sym is) (record {
        draws_are = refl;
        least = least;
        looks_are = refl;
        posts_are = λ number. omega (arith, if_false (seg == number) (ends_trace judged.verdict) no_end);
        so = high;
      })

  pub posts : seg ≤ least → (after : View) (judged : JudgedSegment M) → ends_trace judged.verdict ≡ true
      → Posts seg now after → FindsSo before after seg (Judged judged)
  posts high after judged an_end posted =
      let after_is : after.looks ≡ before.looks ++ (lead before, least) ∷ [] =
      ap (λ view. view.looks) posted.2 ∙ ap (λ view. view.looks) is in
      let lead_is : lead after ≡ lead before = ap lead posted.2 ∙ ap lead is in
      record {
        draws_are = ap (λ view. view.draws) posted.2 ∙ ap (λ view. view.draws) is;
        least = least;
        looks_are = after_is ∙ ap (λ worker. before.looks ++ (worker, least) ∷ []) (sym lead_is);
        posts_are = λ number.
            omega (
              arith,
              if_true (seg == number) (ends_trace judged.verdict) an_end,
              ap (λ view. count (is_numbered number) view.posts) posted.2,
              count_push (is_numbered number) now.posts (posted.0, seg),
              ap (λ view. count (is_numbered number) view.posts) is,
            );
        so = high;
      }
