-- Rows of which one asks for what the other's fixed bits refuse are never both met.
use Rattle.std.proofs.Common.{◌≡◌, ℕ, Bool, true, false, not, ◌&&◌, ◌||◌, List, [], ◌∷◌, bit_and, ◌==◌, All}
use Rattle.std.proofs.Common.{sym, ◌∙◌, ap, arith, get_or, inl, inr, eq-eqb}
use Rattle.std.specs.List.{list_all}
use Rattle.std.proofs.lemmas.List.Kept.{AllPairs-cons}
use Rattle.std.proofs.lemmas.Nat.{and_assoc, and_comm}
use Rattle.std.proofs.lemmas.Bool.{eqb-true, and_parts, or_cases}
use Rattle.std.proofs.lemmas.Bool.Decides.{nat_tests}
use Rattle.std.proofs.lemmas.List.Sums.{AllPass-from_list_all}
use Rattle.rv_compressed.specs.declared.patterns.Condition.{Condition}
use Rattle.rv_compressed.specs.declared.patterns.Condition.TheVariants.{Always, NotZero, NotZeroNorX2}
use Rattle.rv_compressed.specs.declared.patterns.Pattern.{Pattern}
use Rattle.rv_compressed.specs.Patterns.{holds, meets}
use Rattle.hart_words.specs.Tables.{NeverBoth, MeetsOneAtMost}

-- the row fixes the bits under the mask, to this value
abbrev pub fixes : Pattern → ℕ → ℕ → Bool
fixes row mask value = (bit_and row.mask mask == mask) && (bit_and row.bits mask == value)

-- the row's fixed bits fail the condition
abbrev pub refuses : Pattern → Condition → Bool
refuses row Always = false
refuses row (NotZero mask) = fixes row mask 0
refuses row (NotZeroNorX2 mask) = fixes row mask 0 || fixes row 0x0f80 0x0100

-- both rows fix some bit, and to different values
abbrev pub disagree : Pattern → Pattern → Bool
disagree one other = not (bit_and one.bits other.mask == bit_and other.bits one.mask)

abbrev pub are_apart : Pattern → Pattern → Bool
are_apart one other = disagree one other || (refuses one other.condition || refuses other one.condition)

abbrev pub all_apart : List Pattern → Bool
all_apart [] = true
all_apart (row ∷ rows) = list_all (are_apart row) rows && all_apart rows

neither : (a : Bool) → not a ≡ true → a ≡ true → ⊥
neither true h is = cc
neither false h is = cc

differ : (a b : ℕ) → a ≡ b → not (a == b) ≡ true → ⊥
differ a b same h = grind (arith, nat_tests)

-- what a row fixes, each parcel that meets it has
had : (row : Pattern) (mask value parcel : ℕ) → bit_and parcel row.mask ≡ row.bits → fixes row mask value ≡ true
    → (bit_and parcel mask == value) ≡ true
had row mask value parcel met fixed =
    let parts = and_parts (bit_and row.mask mask == mask) (bit_and row.bits mask == value) fixed in
    let inside : bit_and row.mask mask ≡ mask = eqb-true _ _ parts.0 in
    let here : bit_and row.bits mask ≡ value = eqb-true _ _ parts.1 in
    let under : bit_and parcel mask ≡ bit_and row.bits mask =
    ap (λ m. bit_and parcel m) (sym inside) ∙ sym (and_assoc mask parcel row.mask) ∙ ap (λ m. bit_and m mask) met in
    eq-eqb _ _ (under ∙ here)

fails : (row : Pattern) (condition : Condition) (parcel : ℕ) → bit_and parcel row.mask ≡ row.bits
    → refuses row condition ≡ true → holds condition parcel ≡ true → ⊥
fails row Always parcel met refused held = cc
fails row (NotZero mask) parcel met refused held = neither _ held (had row mask 0 parcel met refused)
fails row (NotZeroNorX2 mask) parcel met refused held =
    let parts = and_parts (not (bit_and parcel mask == 0)) (not (bit_and parcel 0x0f80 == 0x0100)) held in
    elim (or_cases (fixes row mask 0) (fixes row 0x0f80 0x0100) refused) [
      | inl zero ↦ neither _ parts.0 (had row mask 0 parcel met zero)
      | inr second ↦ neither _ parts.1 (had row 0x0f80 0x0100 parcel met second)
    ]

never : (one other : Pattern) → are_apart one other ≡ true → NeverBoth meets one other
never one other apart parcel here there =
    let first = and_parts (bit_and parcel one.mask == one.bits) (holds one.condition parcel) here in
    let second = and_parts (bit_and parcel other.mask == other.bits) (holds other.condition parcel) there in
    let one_met : bit_and parcel one.mask ≡ one.bits = eqb-true _ _ first.0 in
    let other_met : bit_and parcel other.mask ≡ other.bits = eqb-true _ _ second.0 in
    let left : bit_and one.bits other.mask ≡ bit_and parcel (bit_and one.mask other.mask) =
    rw (← one_met) (and_assoc other.mask parcel one.mask) in
    let right : bit_and other.bits one.mask ≡ bit_and parcel (bit_and one.mask other.mask) =
    rw (← other_met)
    (and_assoc one.mask parcel other.mask ∙ ap (λ m. bit_and parcel m) (and_comm other.mask one.mask)) in
    elim (or_cases (disagree one other) (refuses one other.condition || refuses other one.condition) apart) [
      | inl apart ↦ differ _ _ (left ∙ sym right) apart
      | inr refused ↦ elim (or_cases (refuses one other.condition) (refuses other one.condition) refused) [
        | inl refused ↦ fails one other.condition parcel one_met refused second.1
        | inr refused ↦ fails other one.condition parcel other_met refused first.1
      ]
    ]

each : (row : Pattern) (rows : List Pattern) → list_all (are_apart row) rows ≡ true → All (NeverBoth meets row) rows
each row rows h k d inside = never row (get_or rows k d) (AllPass-from_list_all (are_apart row) rows h k d inside)

pub no_two_meet : (rows : List Pattern) → all_apart rows ≡ true → MeetsOneAtMost meets rows
no_two_meet [] h = λ i j d lt inside. absurd (omega arith)
no_two_meet (row ∷ rows) h =
    let parts = and_parts (list_all (are_apart row) rows) (all_apart rows) h in
    AllPairs-cons (NeverBoth meets) row rows (each row rows parts.0) (no_two_meet rows parts.1)
