-- A range is determined by its base and its size.
use Rattle.std.proofs.Common.{◌≡◌, ℕ, ◌<◌, ◌^◌, Bool, true, false, refl, Some, None, ap, subst, arith}
use Rattle.std.proofs.lemmas.Bool.Decides.{nat_tests}
use Rattle.std.proofs.Props.{props}
use Rattle.hart_words.specs.declared.span.Span.{Span}
use Rattle.hart_words.specs.Spans.{is_span, IsSpan, IsSpan-prop, is_in, span_with, span_by, span_of}

facts_prop : (base size : ℕ) → IsProp (IsSpan base size)
facts_prop base size = IsSpan-prop (Prim.hlevel props) (Prim.hlevel props) (Prim.hlevel props) (Prim.hlevel props)

same_with : (base base' size size' : ℕ) → base ≡ base' → size ≡ size'
    → (one : IsSpan base size) (other : IsSpan base' size') → span_with base size one ≡ span_with base' size' other
same_with base base' size size' b s one =
    let P : ℕ → Type 0 = λ x. (other : IsSpan x size') → span_with base size one ≡ span_with x size' other in
    let Q : ℕ → Type 0 = λ x. (other : IsSpan base x) → span_with base size one ≡ span_with base x other in
    subst P b (subst Q s (λ other. ap (span_with base size) (facts_prop base size one other)))

facts : (span : Span) → IsSpan span.base span.size
facts span = record {
  whole_base = span.whole_base;
  whole_size = span.whole_size;
  at_least_a_page = span.at_least_a_page;
  below = span.below;
}

pub same_span : (one other : Span) → one.base ≡ other.base → one.size ≡ other.size → one ≡ other
unfolding facts
same_span one other base size = same_with one.base other.base one.size other.size base size (facts one) (facts other)

by_true : (base size : ℕ) (test : Bool) (is : is_span base size ≡ test) (span : Span) → span.base ≡ base
    → span.size ≡ size → test ≡ true → Some span ≡ span_by base size test is
by_true base size true is span b s test = ap (λ (x : Span). Some x) (same_span span _ b s)
by_true base size false is span b s test = cc

by_false : (base size : ℕ) (test : Bool) (is : is_span base size ≡ test) → test ≡ false
    → None ≡ span_by base size test is
by_false base size false is test = refl
by_false base size true is test = cc

pub some_span : (base size : ℕ) (span : Span) → span.base ≡ base → span.size ≡ size → is_span base size ≡ true
    → Some span ≡ span_of base size
unfolding span_of
some_span base size span b s test = by_true base size (is_span base size) refl span b s test

pub no_span : (base size : ℕ) → is_span base size ≡ false → None ≡ span_of base size
unfolding span_of
no_span base size test = by_false base size (is_span base size) refl test

-- addresses in a range are words
pub below_end : (span : Span) (address : ℕ) → is_in span address ≡ true → address < 2 ^ 64
below_end span address inside = let end = span.below in grind (arith, nat_tests)
