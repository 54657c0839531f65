-- What calls at two parts of a list of jobs give is what calls at the whole list give.
use Rattle.std.proofs.Common.{◌≡◌, ℕ, ◌-◌, List, ◌++◌, length, take, drop, slice_index_or, refl, sym, ap, ◌∙◌, subst}
use Rattle.std.proofs.Common.{arith}
use Rattle.std.proofs.lemmas.Bool.{cases_lt}
use Rattle.std.proofs.lemmas.List.{get_or_append_left, get_or-append_right, length-append, take-append-drop}
use Rattle.std.specs.Fork.{GivesJob}
use Rattle.std.specs.Fork.Halves.{GivesFor}
use Rattle.std.specs.Fn.{FnReturns}
use denote.Param.Members.{Shared}
use mathlib.Core.Logic.{⊎_elim}

module _ {F J R : Type 0} (g : Shared F (J × Unit {0}) R) (f : F) where
  moved : (js ks : List J) (i k : ℕ) (r s : R) → ((d : J) → slice_index_or ks k d ≡ slice_index_or js i d) → r ≡ s
      → GivesJob g f js i r → GivesJob g f ks k s
  moved js ks i k r s same is gives =
      record {
        job = gives.job;
        job_read = gives.job_read ∙ sym (same gives.job);
        job_is = λ d. same d ∙ gives.job_is d;
        call = subst (FnReturns g f (gives.job, tt)) is gives.call;
      }

  after_each_other : (js ks : List J) (xs ys : List R) → GivesFor g f js xs → GivesFor g f ks ys
      → GivesFor g f (js ++ ks) (xs ++ ys)
  after_each_other js ks xs ys front back =
      record {
        len = omega (arith, front.len, back.len, length-append xs ys, length-append js ks);
        each = λ i d less. ⊎_elim
            (λ low. moved js (js ++ ks) i i (slice_index_or xs i d) (slice_index_or (xs ++ ys) i d)
            (λ e. get_or_append_left js ks e i low)
            (sym (get_or_append_left xs ys d i (omega (arith, low, front.len)))) (front.each i d low))
            (λ high. moved ks (js ++ ks) (i - length js) i (slice_index_or ys (i - length js) d)
            (slice_index_or (xs ++ ys) i d) (λ e. get_or-append_right js ks (length js) i e refl high)
            (sym (get_or-append_right xs ys (length js) i d front.len high))
            (back.each (i - length js) d (omega (arith, less, high, length-append js ks))))
            (cases_lt i (length js));
      }

  pub both_parts : (all js ks : List J) (at : ℕ) (xs ys zs : List R) → js ≡ take at all → ks ≡ drop at all
      → zs ≡ xs ++ ys → GivesFor g f js xs → GivesFor g f ks ys → GivesFor g f all zs
  both_parts all js ks at xs ys zs first rest is front back =
      let whole : js ++ ks ≡ all =
      ap (λ l. l ++ ks) first ∙ ap (λ l. take at all ++ l) rest ∙ take-append-drop at all in
      subst (λ l. GivesFor g f l zs) whole
      (subst (GivesFor g f (js ++ ks)) (sym is) (after_each_other js ks xs ys front back))
