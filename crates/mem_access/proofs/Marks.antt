-- What of a page's entry stays when A, or A and D, are set.
use Rattle.std.proofs.Common.{◌≡◌, ℕ, ◌+◌, ◌/◌, ◌%◌, ◌^◌, ◌<◌, Bool, true, false, not, ◌&&◌, ◌||◌, refl, sym, ap}
use Rattle.std.proofs.Common.{◌∙◌, arith}
use Rattle.std.specs.Prelude.{◌==◌}
use Rattle.std.specs.Int.{bit_at}
use Rattle.std.proofs.lemmas.Bool.{cond-false, eqb-true}
use Rattle.std.proofs.lemmas.Bool.Decides.{nat_tests}
use Rattle.std.proofs.lemmas.Nat.{or_lt, shr-shr}
use Rattle.std.proofs.lemmas.Nat.Bits.{same_from_bits_below}
use Rattle.hart_words.specs.declared.privilege.Access.{Access}
use Rattle.hart_words.specs.declared.privilege.Access.TheVariants.{Fetch, Load, Store}
use Rattle.hart_words.specs.declared.privilege.Mode.{Mode}
use Rattle.hart_words.specs.declared.privilege.Mode.TheVariants.{User, Supervisor, Machine}
use Rattle.hart_words.specs.declared.privilege.WalkFlags.{WalkFlags}
use Rattle.sv39_walk.specs.declared.entry.Flag.{Flag}
use Rattle.sv39_walk.specs.declared.entry.Flag.TheVariants.{Valid, Readable, Writable, Executable, ForUser}
use Rattle.sv39_walk.specs.Entries.{address_in, bit_of, is_aligned, is_leaf, is_link, is_meaningless, is_open_to}
use Rattle.sv39_walk.specs.Entries.{is_pointer, is_set, leaf_allows, leaf_permits, with_marks, marks_of, page_number}
use Rattle.sv39_walk.specs.Laws.{is_mark}
use Rattle.sv39_walk.proofs.Marked.{gains_its_marks}

-- a bit that is neither A nor D
abbrev IsOther : ℕ → Type 0
IsOther i = (i ≡ 6 → ⊥) × (i ≡ 7 → ⊥)

other_bit : (access : Access) (i : ℕ) → IsOther i → is_mark access i ≡ false
other_bit Fetch i other = grind (arith, nat_tests)
other_bit Load i other = grind (arith, nat_tests)
other_bit Store i other = grind (arith, nat_tests)

kept_bit : (access : Access) (entry i : ℕ) → IsOther i → bit_at (with_marks access entry) i ≡ bit_at entry i
kept_bit access entry i other =
    gains_its_marks access entry i ∙ cond-false (is_mark access i) 1 (bit_at entry i) (other_bit access i other)

kept_flag : (access : Access) (entry : ℕ) (flag : Flag) → IsOther (bit_of flag)
    → is_set (with_marks access entry) flag ≡ is_set entry flag
unfolding is_set
kept_flag access entry flag other = ap (λ b. b == 1) (kept_bit access entry (bit_of flag) other)

kept_valid : (access : Access) (entry : ℕ) → is_set (with_marks access entry) Valid ≡ is_set entry Valid
kept_valid access entry = kept_flag access entry Valid (λ e. cc, λ e. cc)

kept_readable : (access : Access) (entry : ℕ) → is_set (with_marks access entry) Readable ≡ is_set entry Readable
kept_readable access entry = kept_flag access entry Readable (λ e. cc, λ e. cc)

kept_writable : (access : Access) (entry : ℕ) → is_set (with_marks access entry) Writable ≡ is_set entry Writable
kept_writable access entry = kept_flag access entry Writable (λ e. cc, λ e. cc)

kept_executable : (access : Access) (entry : ℕ)
    → is_set (with_marks access entry) Executable ≡ is_set entry Executable
kept_executable access entry = kept_flag access entry Executable (λ e. cc, λ e. cc)

kept_for_user : (access : Access) (entry : ℕ) → is_set (with_marks access entry) ForUser ≡ is_set entry ForUser
kept_for_user access entry = kept_flag access entry ForUser (λ e. cc, λ e. cc)

-- a page's entry is below the reserved bits
both_not : (meaningless pointer : Bool) → (not meaningless && not pointer) ≡ true
    → (meaningless ≡ false) × (pointer ≡ false)
both_not false false is = (refl, refl)
both_not true false is = cc
both_not true true is = cc
both_not false true is = cc

last_not : (one other more : Bool) → (one || other || not more) ≡ false → more ≡ true
last_not one other true is = refl
last_not true other false is = cc
last_not false true false is = cc
last_not false false false is = cc

pub leaf_below : (entry : ℕ) → is_leaf entry ≡ true → entry < 2 ^ 54
unfolding is_leaf is_meaningless
leaf_below entry leaf =
    let meaning = (both_not (is_meaningless entry) (is_pointer entry) leaf).0 in
    let none = last_not (not (is_set entry Valid)) (is_set entry Writable && not (is_set entry Readable))
    (entry / 2 ^ 54 == 0) meaning in
    omega (arith, eqb-true (entry / 2 ^ 54) 0 none)

-- a page names no table
link_not : (meaningless pointer a d u : Bool) → (not meaningless && not pointer) ≡ true
    → (not meaningless && pointer && not a && not d && not u) ≡ false
link_not false false a d u is = refl
link_not true pointer a d u is = refl
link_not false true a d u is = cc

pub leaf_no_link : (entry : ℕ) → is_leaf entry ≡ true → is_link entry ≡ false
unfolding is_leaf is_link
leaf_no_link entry leaf = link_not (is_meaningless entry) (is_pointer entry) _ _ _ leaf

marks_below : (access : Access) → marks_of access < 2 ^ 54
marks_below Fetch = omega arith
marks_below Load = omega arith
marks_below Store = omega arith

pub marked_below : (access : Access) (entry : ℕ) → entry < 2 ^ 54 → with_marks access entry < 2 ^ 54
unfolding with_marks
marked_below access entry below = or_lt 54 entry (marks_of access) below (marks_below access)

none_above : (entry : ℕ) → entry < 2 ^ 54 → (entry / 2 ^ 54 == 0) ≡ true
none_above entry below = let none : entry / 2 ^ 54 ≡ 0 = omega (arith, below) in rw none refl

pub marked_leaf : (access : Access) (entry : ℕ) → entry < 2 ^ 54 → is_leaf (with_marks access entry) ≡ is_leaf entry
unfolding is_leaf is_meaningless is_pointer
marked_leaf access entry below =
    rw (
      kept_valid access entry,
      kept_readable access entry,
      kept_writable access entry,
      kept_executable access entry,
      none_above entry below,
      none_above (with_marks access entry) (marked_below access entry below),
    ) refl

-- its page number
above_marks : (i : ℕ) → IsOther (10 + i)
above_marks i = (λ e. let none : ⊥ = omega (arith, e) in none, λ e. let none : ⊥ = omega (arith, e) in none)

shifted_bit : (n i : ℕ) → bit_at (n / 2 ^ 10) i ≡ bit_at n (10 + i)
shifted_bit n i = ap (λ m. m % 2) (shr-shr n 10 i)

same_above : (access : Access) (entry : ℕ) → entry < 2 ^ 54 → with_marks access entry / 2 ^ 10 ≡ entry / 2 ^ 10
same_above access entry below =
    let after = marked_below access entry below in
    same_from_bits_below 44 (with_marks access entry / 2 ^ 10) (entry / 2 ^ 10) (omega (arith, after))
    (omega (arith, below))
    (λ i few. shifted_bit (with_marks access entry) i ∙ kept_bit access entry (10 + i) (above_marks i)
    ∙ sym (shifted_bit entry i))

pub same_page : (access : Access) (entry : ℕ) → entry < 2 ^ 54
    → page_number (with_marks access entry) ≡ page_number entry
same_page access entry below = ap (λ n. n % 2 ^ 44) (same_above access entry below)

pub same_address : (access : Access) (level entry va : ℕ) → entry < 2 ^ 54
    → address_in level (with_marks access entry) va ≡ address_in level entry va
same_address access level entry va below = rw (same_page access entry below) refl

-- and what it allows
same_permits : (mxr : Bool) (set asked : Access) (entry : ℕ)
    → leaf_permits mxr asked (with_marks set entry) ≡ leaf_permits mxr asked entry
same_permits mxr set Fetch entry = kept_executable set entry
same_permits mxr set Load entry = rw (kept_readable set entry, kept_executable set entry) refl
same_permits mxr set Store entry = kept_writable set entry

same_open : (mode : Mode) (sum : Bool) (set asked : Access) (entry : ℕ)
    → is_open_to mode sum asked (with_marks set entry) ≡ is_open_to mode sum asked entry
same_open User sum set asked entry = kept_for_user set entry
same_open Supervisor sum set Fetch entry = rw (kept_for_user set entry) refl
same_open Supervisor sum set Load entry = rw (kept_for_user set entry) refl
same_open Supervisor sum set Store entry = rw (kept_for_user set entry) refl
same_open Machine sum set Fetch entry = rw (kept_for_user set entry) refl
same_open Machine sum set Load entry = rw (kept_for_user set entry) refl
same_open Machine sum set Store entry = rw (kept_for_user set entry) refl

same_aligned : (set : Access) (level entry : ℕ) → entry < 2 ^ 54
    → is_aligned level (with_marks set entry) ≡ is_aligned level entry
same_aligned set level entry below = rw (same_page set entry below) refl

pub same_allows : (set : Access) (level : ℕ) (flags : WalkFlags) (asked : Access) (entry : ℕ) → entry < 2 ^ 54
    → leaf_allows level flags asked (with_marks set entry) ≡ leaf_allows level flags asked entry
unfolding leaf_allows
same_allows set level flags asked entry below =
    let permits = same_permits flags.mxr set asked entry in
    let opens = same_open flags.mode flags.sum set asked entry in
    let aligned = same_aligned set level entry below in
    ap (λ b. b && is_open_to flags.mode flags.sum asked (with_marks set entry) && is_aligned level
    (with_marks set entry))
    permits
    ∙ ap (λ b. leaf_permits flags.mxr asked entry && b && is_aligned level (with_marks set entry)) opens
    ∙ ap (λ b. leaf_permits flags.mxr asked entry && is_open_to flags.mode flags.sum asked entry && b) aligned
