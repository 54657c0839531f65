-- Ranges of which one ends before the other begins have no address in common.
use Rattle.std.proofs.Common.{◌≡◌, ℕ, ◌<◌, ◌≤◌, ◌⊎◌, inl, inr, Bool, true, false, ◌&&◌, ◌||◌, List, [], ◌∷◌, nat_lt}
use Rattle.std.proofs.Common.{nat_le, All, refl, arith, get_or}
use Rattle.std.specs.List.{list_all}
use Rattle.std.proofs.lemmas.List.Kept.{AllPairs-cons}
use Rattle.std.proofs.lemmas.Bool.Decides.{nat_tests}
use Rattle.std.proofs.lemmas.List.Sums.{AllPass-from_list_all}
use Rattle.hart_words.specs.Tables.{NeverBoth, MeetsOneAtMost}
use Rattle.csr_table.specs.Addresses.{CsrRange, lists, csr_ranges}

abbrev pub are_apart : CsrRange → CsrRange → Bool
are_apart this other = nat_lt this.last other.first || nat_lt other.last this.first

abbrev pub all_apart : List CsrRange → Bool
all_apart [] = true
all_apart (range ∷ rest) = list_all (are_apart range) rest && all_apart rest

both : (a b : Bool) → (a && b) ≡ true → (a ≡ true) × (b ≡ true)
both true b h = (refl, h)
both false b h = cc

within : (first last address : ℕ) → (nat_le first address && nat_le address last) ≡ true
    → (first ≤ address) × (address ≤ last)
within first last address h =
    let parts = both (nat_le first address) (nat_le address last) h in
    (grind (arith, nat_tests, parts.0), grind (arith, nat_tests, parts.1))

ordered : (a b c d : ℕ) → (nat_lt a b || nat_lt c d) ≡ true → (a < b) ⊎ (c < d)
ordered a b c d h = grind (arith, nat_tests)

never : (this other : CsrRange) → are_apart this other ≡ true → NeverBoth lists this other
never this other apart address here there =
    let low = within this.first this.last address here in
    let high = within other.first other.last address there in
    elim (ordered this.last other.first other.last this.first apart) [ inl lt ↦ omega arith | inr lt ↦ omega arith ]

each : (range : CsrRange) (rest : List CsrRange) → list_all (are_apart range) rest ≡ true
    → All (NeverBoth lists range) rest
each range rest h k d inside = never range (get_or rest k d) (AllPass-from_list_all (are_apart range) rest h k d inside)

no_two_meet : (part : List CsrRange) → all_apart part ≡ true → MeetsOneAtMost lists part
no_two_meet [] h = λ i j d lt inside. absurd (omega arith)
no_two_meet (range ∷ rest) h =
    let parts = both (list_all (are_apart range) rest) (all_apart rest) h in
    AllPairs-cons (NeverBoth lists) range rest (each range rest parts.0) (no_two_meet rest parts.1)

pub ranges_apart : MeetsOneAtMost lists csr_ranges
ranges_apart = no_two_meet csr_ranges refl
