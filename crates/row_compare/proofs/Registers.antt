-- Going over the registers of the table of signals, one after the other.
use Rattle.std.proofs.Common.{◌≡◌, ◌∙◌, sym, ap, refl, subst, ℕ, zero, suc, ◌+◌, ◌*◌, ◌/◌, ◌%◌, ◌^◌}
use Rattle.std.proofs.Common.{◌<◌, ◌≤◌, ◌==◌, Bool, true, false, ◌&&◌, None, add-one, arith}
use Rattle.std.proofs.Common.{List, [], ◌∷◌, length, drop, get_or}
use Rattle.std.specs.Int.{bit_at}
use Rattle.std.specs.Option.{is_none, option_or}
use Rattle.std.proofs.lemmas.Bool.{and_parts, eqb-true}
use Rattle.std.proofs.lemmas.Nat.{shr-shr}
use Rattle.std.proofs.Math.Seq.{drop-cons}
use Rattle.std.proofs.Math.ListN.{drop_of_length-le}
use Rattle.hart_words.specs.declared.signal.CsrName.{CsrName}
use Rattle.hart_words.specs.declared.signal.CsrName.TheVariants.{Mstatus}
use Rattle.hart_words.specs.declared.signal.CsrSide.{CsrSide}
use Rattle.hart_words.specs.declared.signal.CsrSide.TheVariants.{Rdata, Rmask, Wdata, Wmask}
use Rattle.hart_words.specs.declared.signal.Signal.TheVariants.{Csr}
use Rattle.hart_words.specs.declared.signal.SignalEntry.{SignalEntry}
use Rattle.hart_words.specs.declared.signal.TheConstants.{SIGNALS}
use Rattle.hart_words.specs.Signals.{Shown, csr_index_of, side_index_of}
use Rattle.rvfi_rows.specs.Rows.{HasCsrBits}
use Rattle.rvfi_rows.specs.declared.expected.Retired.{Retired}
use Rattle.row_compare.specs.declared.comparison.TheConstants.{REGISTERS}
use Rattle.row_compare.specs.Signals.{expected_signal}
use Rattle.row_compare.specs.Difference.{first_among, signal_difference}
use Rattle.row_compare.proofs.Among.{free, none_of_both, not_shown}

-- the entries of registers: two masks and two values each
abbrev pub entries_of : List CsrName → List SignalEntry
entries_of [] = []
entries_of (name ∷ names) =
    record { signal = Csr name Rmask; width = 64 } ∷ record { signal = Csr name Wmask; width = 64 }
    ∷ record { signal = Csr name Rdata; width = 64 } ∷ record { signal = Csr name Wdata; width = 64 }
    ∷ entries_of names

-- those of all registers end the table
pub end_the_table : entries_of REGISTERS ≡ drop 23 SIGNALS
end_the_table = refl

-- nothing is wanted of the masks
none_of_rmask : (retired : Retired) (shown : Shown) (name : CsrName)
    → signal_difference retired shown (Csr name Rmask) ≡ None
unfolding expected_signal
none_of_rmask retired shown name = free retired shown (Csr name Rmask) refl

none_of_wmask : (retired : Retired) (shown : Shown) (name : CsrName)
    → signal_difference retired shown (Csr name Wmask) ≡ None
unfolding expected_signal
none_of_wmask retired shown name = free retired shown (Csr name Wmask) refl

-- the values of a register agree
abbrev pub values_agree : Retired → Shown → CsrName → Bool
values_agree retired shown name =
    is_none (signal_difference retired shown (Csr name Rdata))
    && is_none (signal_difference retired shown (Csr name Wdata))

and_regroup : (x y z : Bool) → (x && (y && z)) ≡ ((x && y) && z)
and_regroup true y z = refl
and_regroup false y z = refl

-- a register and those after it
first_register : (retired : Retired) (shown : Shown) (name : CsrName) (names : List CsrName)
    → is_none (first_among retired shown (entries_of (name ∷ names)))
    ≡ (values_agree retired shown name && is_none (first_among retired shown (entries_of names)))
unfolding first_among
first_register retired shown name names =
    let rdata = signal_difference retired shown (Csr name Rdata) in
    let wdata = signal_difference retired shown (Csr name Wdata) in
    let rest = first_among retired shown (entries_of names) in
    rw (none_of_rmask retired shown name, none_of_wmask retired shown name)
    (none_of_both rdata (option_or wdata rest)
    ∙ ap (λ b. is_none rdata && b) (none_of_both wdata rest)
    ∙ and_regroup (is_none rdata) (is_none wdata) (is_none rest))

pub register-next : (retired : Retired) (shown : Shown) (names : List CsrName) (i : ℕ) (d : CsrName)
    → i < length names
    → is_none (first_among retired shown (entries_of (drop i names)))
    ≡ (values_agree retired shown (get_or names i d)
    && is_none (first_among retired shown (entries_of (drop (i + 1) names))))
register-next retired shown names i d lt =
    rw (add-one, drop-cons names i d lt) (first_register retired shown (get_or names i d) (drop (suc i) names))

pub registers-end : (retired : Retired) (shown : Shown) (names : List CsrName) (i : ℕ) → length names ≤ i
    → is_none (first_among retired shown (entries_of (drop i names))) ≡ true
unfolding first_among
registers-end retired shown names i le = rw (drop_of_length-le names le) refl

-- whether the registers from one on agree
abbrev pub agree_from : Retired → Shown → ℕ → Bool
agree_from retired shown i = is_none (first_among retired shown (entries_of (drop i REGISTERS)))

in_table : (retired : Retired) (shown : Shown)
    → is_none (first_among retired shown (entries_of REGISTERS))
    ≡ is_none (first_among retired shown (drop 23 SIGNALS))
in_table retired shown = ap (λ entries. is_none (first_among retired shown entries)) end_the_table

pub some_differs : (retired : Retired) (shown : Shown) (i : ℕ) (d : CsrName) {here : Bool} → i < 22
    → here ≡ values_agree retired shown (get_or REGISTERS i d) → here ≡ false
    → agree_from retired shown i ≡ is_none (first_among retired shown (entries_of REGISTERS))
    → false ≡ is_none (first_among retired shown (drop 23 SIGNALS))
some_differs retired shown i d below is differs so_far =
    sym (ap (λ b. b && agree_from retired shown (i + 1)) (sym is ∙ differs))
    ∙ sym (register-next retired shown REGISTERS i d below) ∙ so_far ∙ in_table retired shown

pub more_agree : (retired : Retired) (shown : Shown) (i : ℕ) (d : CsrName) {here : Bool} → i < 22
    → here ≡ values_agree retired shown (get_or REGISTERS i d) → here ≡ true
    → agree_from retired shown i ≡ is_none (first_among retired shown (entries_of REGISTERS))
    → agree_from retired shown (i + 1) ≡ is_none (first_among retired shown (entries_of REGISTERS))
more_agree retired shown i d below is agrees so_far =
    sym (ap (λ b. b && agree_from retired shown (i + 1)) (sym is ∙ agrees))
    ∙ sym (register-next retired shown REGISTERS i d below) ∙ so_far

pub all_agree : (retired : Retired) (shown : Shown) (i : ℕ) → 22 ≤ i
    → agree_from retired shown i ≡ is_none (first_among retired shown (entries_of REGISTERS))
    → true ≡ is_none (first_among retired shown (drop 23 SIGNALS))
all_agree retired shown i past so_far =
    sym (registers-end retired shown REGISTERS i past) ∙ so_far ∙ in_table retired shown

-- ---- registers of which nothing is shown

-- registers stand in their order, from a place on
abbrev in_order : ℕ → List CsrName → Bool
in_order from [] = true
in_order from (name ∷ names) = (csr_index_of name == from) && in_order (from + 1) names

in_order-drop : (names : List CsrName) (from i : ℕ) → in_order from names ≡ true
    → in_order (from + i) (drop i names) ≡ true
in_order-drop names from zero all =
    let same : from ≡ from + 0 = omega arith in
    subst (λ n. in_order n names ≡ true) same all
in_order-drop [] from (suc i) all = refl
in_order-drop (name ∷ names) from (suc i) all =
    let same : from + 1 + i ≡ from + suc i = omega arith in
    subst (λ n. in_order n (drop i names) ≡ true) same
    (in_order-drop names (from + 1) i
    (and_parts (csr_index_of name == from) (in_order (from + 1) names) all).1)

rest_in_order : (i : ℕ) → in_order i (drop i REGISTERS) ≡ true
rest_in_order i =
    let same : 0 + i ≡ i = omega arith in
    subst (λ n. in_order n (drop i REGISTERS) ≡ true) same (in_order-drop REGISTERS 0 i refl)

at_its_index : (i : ℕ) (d : CsrName) → i < 22 → csr_index_of (get_or REGISTERS i d) ≡ i
at_its_index i d below =
    let name = get_or REGISTERS i d in
    let names = drop (suc i) REGISTERS in
    let all : in_order i (name ∷ names) ≡ true =
    subst (λ l. in_order i l ≡ true) (drop-cons REGISTERS i d below) (rest_in_order i) in
    eqb-true (csr_index_of name) i
    (and_parts (csr_index_of name == i) (in_order (i + 1) names) all).0

-- of four bits that are clear, the last two
clear_bits : (n : ℕ) → n % 16 ≡ 0 → (n / 2 ^ 2 % 2 ≡ 0) × (n / 2 ^ 3 % 2 ≡ 0)
clear_bits n none = (omega arith, omega arith)

-- a column of a register whose bit is clear does not differ
clear_agrees : (retired : Retired) (shown : Shown) (name : CsrName) (side : CsrSide) (bits : ℕ)
    → HasCsrBits shown bits → bit_at bits (4 * csr_index_of name + side_index_of side) ≡ 0
    → signal_difference retired shown (Csr name side) ≡ None
clear_agrees retired shown name side bits has none =
    not_shown retired shown (Csr name side) (shown (Csr name side)) refl
    (sym (has name side) ∙ ap (λ bit. bit == 1) none)

-- nor does a register whose four bits are
hidden_agrees : (retired : Retired) (shown : Shown) (name : CsrName) (bits i : ℕ)
    → HasCsrBits shown bits → csr_index_of name ≡ i → bits / 2 ^ (4 * i) % 16 ≡ 0
    → values_agree retired shown name ≡ true
hidden_agrees retired shown name bits i has at none =
    let both = clear_bits (bits / 2 ^ (4 * i)) none in
    let rdata : bit_at bits (4 * csr_index_of name + 2) ≡ 0 =
    ap (λ j. bit_at bits (4 * j + 2)) at ∙ sym (ap (λ n. n % 2) (shr-shr bits (4 * i) 2))
    ∙ both.0 in
    let wdata : bit_at bits (4 * csr_index_of name + 3) ≡ 0 =
    ap (λ j. bit_at bits (4 * j + 3)) at ∙ sym (ap (λ n. n % 2) (shr-shr bits (4 * i) 3))
    ∙ both.1 in
    rw (
      clear_agrees retired shown name Rdata bits has rdata,
      clear_agrees retired shown name Wdata bits has wdata,
    )
    refl

-- the bits of the next register come four places later
pub shifted : {here : ℕ} (bits i : ℕ) → here ≡ bits / 2 ^ (4 * i)
    → here / 2 ^ 4 ≡ bits / 2 ^ (4 * (i + 1))
shifted bits i is =
    let place : 4 * i + 4 ≡ 4 * (i + 1) = omega arith in
    ap (λ n. n / 2 ^ 4) is ∙ shr-shr bits (4 * i) 4 ∙ ap (λ k. bits / 2 ^ k) place

-- where no bit is left, nothing is shown of the registers that are left
none_left : (retired : Retired) (shown : Shown) (names : List CsrName) (bits i : ℕ)
    → HasCsrBits shown bits → in_order i names ≡ true → bits / 2 ^ (4 * i) ≡ 0
    → is_none (first_among retired shown (entries_of names)) ≡ true
unfolding first_among
none_left retired shown [] bits i has all none = refl
none_left retired shown (name ∷ names) bits i has all none =
    let parts = and_parts (csr_index_of name == i) (in_order (i + 1) names) all in
    let at = eqb-true (csr_index_of name) i parts.0 in
    let here = hidden_agrees retired shown name bits i has at (ap (λ n. n % 16) none) in
    let later = sym (shifted bits i (sym none)) in
    first_register retired shown name names
    ∙ ap (λ b. b && is_none (first_among retired shown (entries_of names))) here
    ∙ none_left retired shown names bits (i + 1) has parts.1 later

-- so the rest agree where no bit is left
pub rest_agree : (retired : Retired) (shown : Shown) (bits i : ℕ) {here : ℕ} → HasCsrBits shown bits
    → here ≡ bits / 2 ^ (4 * i) → here ≡ 0
    → agree_from retired shown i ≡ is_none (first_among retired shown (entries_of REGISTERS))
    → true ≡ is_none (first_among retired shown (drop 23 SIGNALS))
rest_agree retired shown bits i has is none so_far =
    sym (none_left retired shown (drop i REGISTERS) bits i has (rest_in_order i) (sym is ∙ none))
    ∙ so_far ∙ in_table retired shown

-- and one more register does where its bits are clear
pub hidden_agree : (retired : Retired) (shown : Shown) (bits i : ℕ) {here : ℕ} → i < 22
    → HasCsrBits shown bits → here ≡ bits / 2 ^ (4 * i) → here % 16 ≡ 0
    → agree_from retired shown i ≡ is_none (first_among retired shown (entries_of REGISTERS))
    → agree_from retired shown (i + 1) ≡ is_none (first_among retired shown (entries_of REGISTERS))
hidden_agree retired shown bits i below has is none so_far =
    let at = at_its_index i Mstatus below in
    let clear = sym (ap (λ n. n % 16) is) ∙ none in
    let agrees = hidden_agrees retired shown (get_or REGISTERS i Mstatus) bits i has at clear in
    more_agree retired shown i Mstatus below (sym agrees) refl so_far
