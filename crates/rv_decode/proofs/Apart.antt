-- Rows that ask different things of a bit that both fix are never both met.
use Rattle.std.proofs.Common.{◌≡◌, ℕ, Bool, true, not, ◌&&◌, List, [], ◌∷◌, bit_and, ◌==◌, All, sym, ◌∙◌}
use Rattle.std.proofs.Common.{ap, arith, get_or}
use Rattle.std.specs.List.{list_all}
use Rattle.std.proofs.lemmas.List.Kept.{AllPairs-cons}
use Rattle.std.proofs.lemmas.Nat.{and_assoc, and_comm}
use Rattle.std.proofs.lemmas.Bool.{eqb-true, and_parts}
use Rattle.std.proofs.lemmas.Bool.Decides.{nat_tests}
use Rattle.std.proofs.lemmas.List.Sums.{AllPass-from_list_all}
use Rattle.rv_decode.specs.declared.patterns.Pattern.{Pattern}
use Rattle.hart_words.specs.Tables.{NeverBoth, MeetsOneAtMost}
use Rattle.rv_decode.specs.Table.{meets}

abbrev pub are_apart : Pattern → Pattern → Bool
are_apart one other = not (bit_and one.bits other.mask == bit_and other.bits one.mask)

abbrev pub all_apart : List Pattern → Bool
all_apart [] = true
all_apart (row ∷ rows) = list_all (are_apart row) rows && all_apart rows

differ : (a b : ℕ) → a ≡ b → not (a == b) ≡ true → ⊥
differ a b same h = grind (arith, nat_tests)

never : (one other : Pattern) → are_apart one other ≡ true → NeverBoth meets one other
never one other apart word here there =
    let first : bit_and word one.mask ≡ one.bits = eqb-true _ _ here in
    let second : bit_and word other.mask ≡ other.bits = eqb-true _ _ there in
    let left : bit_and one.bits other.mask ≡ bit_and word (bit_and one.mask other.mask) =
    rw (← first) (and_assoc other.mask word one.mask) in
    let right : bit_and other.bits one.mask ≡ bit_and word (bit_and one.mask other.mask) =
    rw (← second) (and_assoc one.mask word other.mask ∙ ap (λ m. bit_and word m) (and_comm other.mask one.mask)) in
    differ _ _ (left ∙ sym right) apart

each : (row : Pattern) (rows : List Pattern) → list_all (are_apart row) rows ≡ true → All (NeverBoth meets row) rows
each row rows h k d inside = never row (get_or rows k d) (AllPass-from_list_all (are_apart row) rows h k d inside)

pub no_two_meet : (rows : List Pattern) → all_apart rows ≡ true → MeetsOneAtMost meets rows
no_two_meet [] h = λ i j d lt inside. absurd (omega arith)
no_two_meet (row ∷ rows) h =
    let parts = and_parts (list_all (are_apart row) rows) (all_apart rows) h in
    AllPairs-cons (NeverBoth meets) row rows (each row rows parts.0) (no_two_meet rows parts.1)
