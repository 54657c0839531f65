-- Sets of interrupts as bits.
use Rattle.std.proofs.Common.{◌≡◌, ◌⊎◌, inl, inr, ℕ, ◌-◌, ◌^◌, ◌<◌, not, ◌&&◌, ◌==◌, bit_and, min, refl, ap, ◌∙◌, sym}
use Rattle.std.proofs.Common.{subst, arith}
use Rattle.std.specs.Int.{bit_at, w64}
use Rattle.std.proofs.lemmas.Nat.Bits.{bit_at_and, bit_at_not, bit_at-lt}
use Rattle.std.proofs.lemmas.Bool.{cases_eq}
use Rattle.csr_file.specs.Fields.{bit_is_set}

zero_or_one : (n : ℕ) → n < 2 → (n ≡ 0) ⊎ (n ≡ 1)
zero_or_one n few = elim (cases_eq n 1) [ inl one ↦ inr one | inr other ↦ inl (omega arith) ]

abbrev Both : ℕ → ℕ → Type 0
Both a b = (min a b == 1) ≡ ((a == 1) && (b == 1))

both_at : (a b c d : ℕ) → a ≡ c → b ≡ d → Both c d → Both a b
both_at a b c d here there is = subst (λ n. Both n b) (sym here) (subst (λ n. Both c n) (sym there) is)

both : (a b : ℕ) → a < 2 → b < 2 → Both a b
both a b few also = elim (zero_or_one a few) [
  | inl none ↦
      elim (zero_or_one b also) [ inl off ↦ both_at a b 0 0 none off refl | inr one ↦ both_at a b 0 1 none one refl ]
  | inr set ↦
      elim (zero_or_one b also) [ inl off ↦ both_at a b 1 0 set off refl | inr one ↦ both_at a b 1 1 set one refl ]
]

flipped : (a : ℕ) → a < 2 → (1 - a == 1) ≡ not (a == 1)
flipped a few = elim (zero_or_one a few) [
  | inl none ↦ subst (λ n. (1 - n == 1) ≡ not (n == 1)) (sym none) refl
  | inr set ↦ subst (λ n. (1 - n == 1) ≡ not (n == 1)) (sym set) refl
]

pub in_both : (a b code : ℕ) → bit_is_set (bit_and a b) code ≡ (bit_is_set a code && bit_is_set b code)
in_both a b code =
    ap (λ n. n == 1) (bit_at_and a b code) ∙ both (bit_at a code) (bit_at b code) (bit_at-lt a code) (bit_at-lt b code)

pub out_of : (a code : ℕ) → a < 2 ^ 64 → code < 64 → bit_is_set (2 ^ 64 - 1 - a) code ≡ not (bit_is_set a code)
out_of a code small inside =
    ap (λ n. n == 1) (bit_at_not w64 a code small inside) ∙ flipped (bit_at a code) (bit_at-lt a code)

-- those of three sets, and those of two that are not in a third
pub delegated : (a b d code : ℕ)
    → bit_is_set (bit_and (bit_and a b) d) code ≡ (bit_is_set a code && bit_is_set b code && bit_is_set d code)
delegated a b d code = in_both (bit_and a b) d code ∙ ap (λ t. t && bit_is_set d code) (in_both a b code)

pub not_delegated : (a b d code : ℕ) → d < 2 ^ 64 → code < 64
    → bit_is_set (bit_and (bit_and a b) (2 ^ 64 - 1 - d)) code
    ≡ (bit_is_set a code && bit_is_set b code && not (bit_is_set d code))
not_delegated a b d code small inside =
    delegated a b (2 ^ 64 - 1 - d) code
    ∙ ap (λ t. bit_is_set a code && bit_is_set b code && t) (out_of d code small inside)
