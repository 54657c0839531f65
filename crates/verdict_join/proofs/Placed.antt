-- How segments were judged, under their numbers.
use Rattle.std.proofs.Common.{◌≡◌, ℕ, zero, suc, ◌+◌, ◌<◌, ◌==◌, Bool, true, false, List, [], ◌∷◌, ◌++◌, length, take}
use Rattle.std.proofs.Common.{slice_get, slice_index_or, slice_set, if◌then◌else◌, Option, Some, None, option_copied}
use Rattle.std.proofs.Common.{refl, sym, ap, ◌∙◌, add-one}
use Rattle.std.proofs.lemmas.Bool.{eqb-false, eqb-true}
use Rattle.std.proofs.lemmas.Grind.{get_or-set_at}
use Rattle.std.proofs.lemmas.List.{get_or-set_other}
use Rattle.std.specs.Borrow.{Bor}
use Rattle.std.specs.Option.{option_or}
use Rattle.segment_judge.specs.declared.found.Found.{Found}
use Rattle.segment_judge.specs.declared.found.What.TheVariants.{Judged, Skipped}
use Rattle.segment_judge.specs.declared.judged.Judged.{Judged as JudgedSegment}
use Rattle.verdict_join.specs.Walks.{judged_segment_by, judged_segment_in}

pub or_none : {A : Type 0} (x : Option A) → option_or x None ≡ x
or_none None = refl
or_none (Some a) = refl

or_three : {A : Type 0} (x y z : Option A) → option_or (option_or x y) z ≡ option_or x (option_or y z)
or_three None y z = refl
or_three (Some a) y z = refl

-- one found more
pub judged_after : {M : Type 0} (founds : List (Found (JudgedSegment M))) (found : Found (JudgedSegment M))
    (number : ℕ)
    → judged_segment_in (founds ++ found ∷ []) number
    ≡ option_or (judged_segment_by number found.seg found.what) (judged_segment_in founds number)
unfolding judged_segment_in
judged_after [] found number = sym (or_none (judged_segment_by number found.seg found.what))
judged_after (first ∷ founds) found number =
    ap (λ last. option_or last (judged_segment_by number first.seg first.what)) (judged_after founds found number)
    ∙ or_three (judged_segment_by number found.seg found.what) (judged_segment_in founds number)
    (judged_segment_by number first.seg first.what)

pub take_more : {A : Type 0} (xs : List A) (i : ℕ) (x : A) → Some x ≡ slice_get xs i
    → take (i + 1) xs ≡ take i xs ++ x ∷ []
take_more {A = A} xs i x is = ap (λ n. take n xs) (add-one i) ∙ sym (by xs i is)
  where
    by : (xs : List A) (i : ℕ) → Some x ≡ slice_get xs i → take i xs ++ x ∷ [] ≡ take (suc i) xs
    by [] i is = absurd cc
    by (y ∷ xs) zero is = let same : x ≡ y = cc in rw same refl
    by (y ∷ xs) (suc i) is = ap (λ rest. y ∷ rest) (by xs i is)

pub none_pushed : {A : Type 0} (xs : List (Option A)) (number : ℕ) → ((n : ℕ) → slice_index_or xs n None ≡ None)
    → slice_index_or (xs ++ None ∷ []) number None ≡ None
none_pushed [] zero none = refl
none_pushed [] (suc number) none = refl
none_pushed (x ∷ xs) zero none = none 0
none_pushed (x ∷ xs) (suc number) none = none_pushed xs number (λ n. none (suc n))

placed_at : {A : Type 0} (xs : List (Option A)) (at : ℕ) (x : A) (number : ℕ) → at < length xs
    → slice_index_or (slice_set xs at (Some x)) number None
    ≡ (if at == number then Some x else slice_index_or xs number None)
placed_at {A = A} xs at x number within = by (at == number) refl
  where
    by : (same : Bool) → (at == number) ≡ same
        → slice_index_or (slice_set xs at (Some x)) number None
        ≡ (if same then Some x else slice_index_or xs number None)
    by true is = get_or-set_at xs at number (Some x) None (sym (eqb-true at number is)) within
    by false is = get_or-set_other xs at number (Some x) None (λ same. eqb-false at number is (sym same))

copied_or : {A : Type 0} (test : Bool) (x : Bor A) (y : Option (Bor A)) (z : Option A) → option_copied y ≡ z
    → option_copied (if test then Some x else y) ≡ option_or (if test then Some x.now else None) z
copied_or true x y z same = refl
copied_or false x y z same = same

-- at an index stands that a segment was judged so
pub record IsJudgedAt {M : Type 0} (founds : List (Found (JudgedSegment M))) (index : ℕ)
    (found : Found (JudgedSegment M)) (judged : Bor (JudgedSegment M)) : Type 0 where
  pub here : Some found ≡ slice_get founds index
  pub judged_so : found.what ≡ Judged judged.now

-- a judged segment is placed
pub placed_turn : {M : Type 0} {founds : List (Found (JudgedSegment M))} {index : ℕ} {found : Found (JudgedSegment M)}
    {judged : Bor (JudgedSegment M)} (places : List (Option (Bor (JudgedSegment M)))) (number : ℕ)
    → IsJudgedAt founds index found judged → found.seg < length places
    → option_copied (slice_index_or places number None) ≡ judged_segment_in (take index founds) number
    → option_copied (slice_index_or (slice_set places found.seg (Some judged)) number None)
    ≡ judged_segment_in (take (index + 1) founds) number
placed_turn {founds = founds} {index = index} {found = found} {judged = judged} places number at within so_far =
    ap option_copied (placed_at places found.seg judged number within)
    ∙ copied_or (found.seg == number) judged (slice_index_or places number None)
    (judged_segment_in (take index founds) number) so_far
    ∙ ap (λ what. option_or (judged_segment_by number found.seg what) (judged_segment_in (take index founds) number))
    (sym at.judged_so)
    ∙ sym (judged_after (take index founds) found number)
    ∙ ap (λ looked. judged_segment_in looked number) (sym (take_more founds index found at.here))

-- a skipped one is passed by
pub passed_turn : {M : Type 0} (founds : List (Found (JudgedSegment M))) (index number least : ℕ)
    (found : Found (JudgedSegment M)) → Some found ≡ slice_get founds index → found.what ≡ Skipped least
    → judged_segment_in (take (index + 1) founds) number ≡ judged_segment_in (take index founds) number
passed_turn founds index number least found here is =
    ap (λ looked. judged_segment_in looked number) (take_more founds index found here)
    ∙ judged_after (take index founds) found number
    ∙ ap (λ what. option_or (judged_segment_by number found.seg what) (judged_segment_in (take index founds) number)) is
