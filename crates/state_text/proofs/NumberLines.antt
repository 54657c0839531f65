-- The numbers that were read, one after another.
use Rattle.std.proofs.Common.{◌≡◌, ℕ, zero, suc, ◌+◌, ◌<◌, ◌≤◌, Bool, true, false, List, [], ◌∷◌, ◌++◌, Ok, Err, Result}
use Rattle.std.proofs.Common.{length, drop}
use Rattle.std.proofs.Common.{take, refl, sym, ap, ◌∙◌, append_assoc, arith, get_or}
use Rattle.std.specs.Prelude.{not, ◌^◌, slice_set}
use Rattle.std.specs.List.{concat}
use Rattle.std.proofs.lemmas.List.{append-nil, drop_more, drop_all, take_all, take_more_set}
use Rattle.csr_file.specs.declared.profile.CsrProfile.{CsrProfile}
use Rattle.state_text.specs.declared.fault.FaultKind.TheVariants.{BadValue}
use Rattle.state_text.specs.declared.fault.StateFault.{StateFault}
use Rattle.state_text.specs.declared.numbers.NumberKind.{NumberKind}
use Rattle.state_text.specs.declared.numbers.NumberKind.TheVariants.{Register}
use Rattle.state_text.specs.Lines.{number_line}
use Rattle.state_text.specs.Values.{is_legal}
use Rattle.state_text.specs.Texts.{number_lines}
use Rattle.state_text.specs.Reading.{Remaining, fault_at, number_in, numbers_in}
use Rattle.state_text.proofs.Fronts.{then_read, not_refused, same_read, number_stands, number_small, joined}

-- one number more
pub numbers_on : (profile : CsrProfile) (names : List (List ℕ)) (kinds : List NumberKind) (numbers : List ℕ)
    (left : Remaining) (place : ℕ)
    (name : List ℕ) (d : NumberKind) (legal : Bool) (number : ℕ) (next : Remaining)
    (whole : Result (List ℕ × Remaining) StateFault) → place < length names → place < length kinds
    → place < length numbers
    → numbers_in profile (drop place names) (drop place kinds) (take place numbers) left ≡ whole
    → name ≡ get_or names place [] → Ok (number, next) ≡ number_in name left
    → legal ≡ is_legal profile (get_or kinds place d) number → legal ≡ true
    → numbers_in profile (drop (place + 1) names) (drop (place + 1) kinds) (take (place + 1)
    (slice_set numbers place number)) next
    ≡ whole
unfolding numbers_in
numbers_on profile names kinds numbers left place name d legal number next whole named kinded held so_far is read test
    holds =
    let reads : number_in (get_or names place []) left ≡ Ok (number, next) =
    sym (ap (λ (n : List ℕ). number_in n left) is) ∙ sym read in
    let passes : is_legal profile (get_or kinds place d) number ≡ true = sym test ∙ holds in
    rw (take_more_set numbers place number held)
    (rw (drop_more names place [] named, drop_more kinds place d kinded, reads, passes) at so_far)

-- a line that is not of the form
pub numbers_unread : (profile : CsrProfile) (names : List (List ℕ)) (kinds : List NumberKind) (before : List ℕ)
    (left : Remaining) (place : ℕ)
    (name : List ℕ) (fault : StateFault) (whole : Result (List ℕ × Remaining) StateFault)
    → place < length names → place < length kinds
    → numbers_in profile (drop place names) (drop place kinds) before left ≡ whole → name ≡ get_or names place []
    → Err fault ≡ number_in name left → Err fault ≡ whole
unfolding numbers_in
numbers_unread profile names kinds before left place name fault whole named kinded so_far is unread =
    let fails : number_in (get_or names place []) left ≡ Err fault =
    sym (ap (λ (n : List ℕ). number_in n left) is) ∙ sym unread in
    rw (drop_more names place [] named, drop_more kinds place Register kinded, fails) at so_far

-- a value that the hart cannot have
pub numbers_refused : (profile : CsrProfile) (names : List (List ℕ)) (kinds : List NumberKind) (before : List ℕ)
    (left : Remaining) (place : ℕ)
    (name : List ℕ) (d : NumberKind) (legal : Bool) (number : ℕ) (next : Remaining)
    (whole : Result (List ℕ × Remaining) StateFault) → place < length names → place < length kinds
    → numbers_in profile (drop place names) (drop place kinds) before left ≡ whole → name ≡ get_or names place []
    → Ok (number, next) ≡ number_in name left → legal ≡ is_legal profile (get_or kinds place d) number → legal ≡ false
    → Err (fault_at left BadValue) ≡ whole
unfolding numbers_in
numbers_refused profile names kinds before left place name d legal number next whole named kinded so_far is read test
    fails =
    let reads : number_in (get_or names place []) left ≡ Ok (number, next) =
    sym (ap (λ (n : List ℕ). number_in n left) is) ∙ sym read in
    let refuses : is_legal profile (get_or kinds place d) number ≡ false = sym test ∙ fails in
    rw (drop_more names place [] named, drop_more kinds place d kinded, reads, refuses) at so_far

-- all numbers
pub numbers_all : (profile : CsrProfile) (names : List (List ℕ)) (kinds : List NumberKind) (numbers : List ℕ)
    (left : Remaining) (place : ℕ)
    (whole : Result (List ℕ × Remaining) StateFault) → length names ≤ place → length numbers ≤ place
    → numbers_in profile (drop place names) (drop place kinds) (take place numbers) left ≡ whole
    → Ok (numbers, left) ≡ whole
unfolding numbers_in
numbers_all profile names kinds numbers left place whole named held so_far =
    rw (drop_all place names named, take_all place numbers held) at so_far

-- each number is one that the hart can have
unfoldable pub AreLegal : CsrProfile → List NumberKind → List ℕ → Type 0
AreLegal profile (kind ∷ kinds) (number ∷ numbers) =
    (is_legal profile kind number ≡ true) × AreLegal profile kinds numbers
AreLegal profile _ _ = Unit {0}

-- what is known of the numbers that were read after some
pub record HasNumbers (profile : CsrProfile) (names : List (List ℕ)) (kinds : List NumberKind)
    (before numbers : List ℕ) (left next : Remaining) : Type 0 where
  pub read : List ℕ
  pub all : numbers ≡ before ++ read
  pub len : length read ≡ length names
  pub stand : left.text ≡ concat (number_lines names read) ++ next.text
  pub legal : AreLegal profile kinds read
  pub small : (k : ℕ) → get_or read k 0 < 2 ^ 64

pub has_numbers : (profile : CsrProfile) (names : List (List ℕ)) (kinds : List NumberKind) (before : List ℕ)
    (left : Remaining) (numbers : List ℕ)
    (next : Remaining) → length names ≡ length kinds → numbers_in profile names kinds before left ≡ Ok (numbers, next)
    → HasNumbers profile names kinds before numbers left next
unfolding numbers_in number_lines AreLegal
has_numbers profile [] [] before left numbers next same h =
    let read = same_read before numbers left next h in
    record {
      read = [];
      all = sym read.0 ∙ sym (append-nil before);
      len = refl;
      stand = ap (λ (x : Remaining). x.text) read.1;
      legal = tt;
      small = λ k. omega arith;
    }
has_numbers profile [] (kind ∷ kinds) before left numbers next same h = absurd (omega arith)
has_numbers profile (name ∷ names) [] before left numbers next same h = absurd (omega arith)
has_numbers profile (name ∷ names) (kind ∷ kinds) before left numbers next same h =
    let first = then_read (number_in name left) _ (numbers, next) h in
    let legal = not_refused (not (is_legal profile kind first.0.0)) (fault_at left BadValue) _
    (numbers, next) first.2 in
    let more = has_numbers profile names kinds (before ++ first.0.0 ∷ []) first.0.1 numbers next
    (omega arith) legal.1 in
    record {
      read = first.0.0 ∷ more.read;
      all = more.all ∙ append_assoc before (first.0.0 ∷ []) more.read;
      len = omega (arith, more.len);
      stand = joined left.text (number_line name first.0.0) first.0.1.text (concat
          (number_lines names more.read)) next.text
          (number_stands name left first.0.0 first.0.1 first.1) more.stand;
      legal = (not_false (is_legal profile kind first.0.0) legal.0, more.legal);
      small = small first.0.0 more.read (number_small name left first.0.0 first.0.1 first.1) more.small;
    }
  where
    small : (number : ℕ) (read : List ℕ) → number < 2 ^ 64 → ((k : ℕ) → get_or read k 0 < 2 ^ 64)
        → (k : ℕ) → get_or (number ∷ read) k 0 < 2 ^ 64
    small number read first more zero = first
    small number read first more (suc k) = more k

    not_false : (test : Bool) → not test ≡ false → test ≡ true
    not_false true h = refl
    not_false false h = absurd cc

-- the number at a place is one that the hart can have
pub legal_at : (profile : CsrProfile) (kinds : List NumberKind) (numbers : List ℕ) (place : ℕ)
    → AreLegal profile kinds numbers
    → place < length kinds → place < length numbers
    → is_legal profile (get_or kinds place Register) (get_or numbers place 0) ≡ true
unfolding AreLegal
legal_at profile [] numbers place legal kinded within = absurd (omega arith)
legal_at profile (kind ∷ kinds) [] place legal kinded within = absurd (omega arith)
legal_at profile (kind ∷ kinds) (number ∷ numbers) zero legal kinded within = legal.0
legal_at profile (kind ∷ kinds) (number ∷ numbers) (suc place) legal kinded within =
    legal_at profile kinds numbers place legal.1 (omega arith) (omega arith)
