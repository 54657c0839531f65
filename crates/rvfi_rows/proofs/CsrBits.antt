-- Whether a row shows a column of a control and status register, by the bits of what it shows.
use Rattle.std.proofs.Common.{◌≡◌, ◌∙◌, sym, ap, refl, subst, ℕ, zero, suc, ◌+◌, ◌*◌, ◌<◌, ◌/◌, ◌%◌, ◌^◌, ◌==◌, Bool}
use Rattle.std.proofs.Common.{true, false, not, ◌&&◌, bit_or, List, [], ◌∷◌, length, drop, inl, inr, arith}
use Rattle.std.specs.Prelude.{◌||◌, slice_index}
use Rattle.std.specs.Int.{bit_at}
use Rattle.std.specs.List.{list_any}
use Rattle.std.specs.Option.{is_some}
use Rattle.std.proofs.Math.Nat.{div-eq_of_lt}
use Rattle.std.proofs.lemmas.Bool.{eqb-true}
use Rattle.std.proofs.lemmas.Bool.Decides.{eqb_tells}
use Rattle.std.proofs.lemmas.Nat.{or_lt, shr-shr}
use Rattle.std.proofs.Math.Pow.{pow-lt}
use Rattle.hart_words.specs.declared.signal.Signal.TheVariants.{Csr}
use Rattle.hart_words.specs.declared.signal.SignalEntry.{SignalEntry}
use Rattle.hart_words.specs.declared.signal.TheConstants.{SIGNALS}
use Rattle.hart_words.specs.Signals.{csr_index_of, index_of, side_index_of}
use Rattle.rvfi_rows.specs.declared.row.Row.{Row}
use Rattle.rvfi_rows.specs.Cells.{shown_in}
use Rattle.rvfi_rows.specs.Rows.{HasCsrBits, is_csr, shows_csr}
use Rattle.rvfi_rows.proofs.ShownBits.{cell_in}

-- one of so many bits from a place on is set
abbrev any_bit : ℕ → ℕ → ℕ → Bool
any_bit n from zero = false
any_bit n from (suc count) = (bit_at n from == 1) || any_bit n (from + 1) count

not_zero : (q : ℕ) → not (q == 0) ≡ ((q % 2 == 1) || not (q / 2 == 0))
not_zero q = elim (eqb_tells q 0) [
  | inl (e, is) ↦ rw is refl
  | inr (e, some) ↦ elim (eqb_tells (q % 2) 1) [
    | inl (odd, h) ↦ rw (e, odd) refl
    | inr (odd, h) ↦ elim (eqb_tells (q / 2) 0) [
      | inl (half, none) ↦ absurd (some (omega arith))
      | inr (half, h2) ↦ rw (e, odd, half) refl
    ]
  ]
]

bits_above : (n from count : ℕ) → n < 2 ^ (from + count) → not (n / 2 ^ from == 0) ≡ any_bit n from count
bits_above n from zero below =
    let no_more : from + 0 ≡ from = omega arith in
    let none : n / 2 ^ from ≡ 0 = div-eq_of_lt (subst (λ m. n < 2 ^ m) no_more below) in
    rw none refl
bits_above n from (suc count) below =
    let same : from + suc count ≡ from + 1 + count = omega arith in
    let rest = bits_above n (from + 1) count (subst (λ m. n < 2 ^ m) same below) in
    not_zero (n / 2 ^ from)
    ∙ ap (λ q. (n / 2 ^ from % 2 == 1) || not (q == 0)) (shr-shr n from 1)
    ∙ ap (λ b. (n / 2 ^ from % 2 == 1) || b) rest

-- the signals of entries are columns of registers, with indices from a place on
abbrev follow : ℕ → List SignalEntry → Bool
follow from [] = true
follow from (entry ∷ entries) = is_csr entry.signal && ((index_of entry.signal == from) && follow (from + 1) entries)

is_shown_at : (bit value : ℕ) (b : Bool) → (bit == 1) ≡ b → is_some (cell_in bit value) ≡ b
is_shown_at bit value true is = rw is refl
is_shown_at bit value false is = rw is refl

by_bits : (row : Row) (entries : List SignalEntry) (from : ℕ) → follow from entries ≡ true
    → list_any (λ entry. is_csr entry.signal && is_some (shown_in row entry.signal)) entries
    ≡ any_bit row.shown from (length entries)
unfolding shown_in
by_bits row [] from all = refl
by_bits row (entry ∷ entries) from all =
    let here = first (is_csr entry.signal) (index_of entry.signal == from) refl refl all in
    let rest = by_bits row entries (from + 1) here.1 in
    ap (λ b. b || list_any (λ entry. is_csr entry.signal && is_some (shown_in row entry.signal)) entries) here.0
    ∙ ap (λ b. (bit_at row.shown from == 1) || b) rest
  where
    first : (here there : Bool) → is_csr entry.signal ≡ here → (index_of entry.signal == from) ≡ there
        → (here && (there && follow (from + 1) entries)) ≡ true
        → ((is_csr entry.signal && is_some (shown_in row entry.signal)) ≡ (bit_at row.shown from == 1))
        × (follow (from + 1) entries ≡ true)
    first true true csr at all =
        let same : index_of entry.signal ≡ from = eqb-true _ _ at in (
          rw csr (is_shown_at (bit_at row.shown (index_of entry.signal))
              (slice_index row.values (index_of entry.signal)) (bit_at row.shown from == 1)
              (ap (λ i. bit_at row.shown i == 1) same)),
          all,
        )
    first true false csr at all = absurd cc
    first false there csr at all = absurd cc

pub shows_some : (row : Row) → not (row.shown / 2 ^ 23 == 0) ≡ shows_csr (shown_in row)
unfolding shows_csr
shows_some row = bits_above row.shown 23 88 row.within ∙ sym (by_bits row (drop 23 SIGNALS) 23 refl)

-- a column's bit among those of all columns of registers is the one at the index of its signal
pub has_csr_bits : (row : Row) → HasCsrBits (shown_in row) (row.shown / 2 ^ 23)
unfolding shown_in
has_csr_bits row csr side =
    let at = 4 * csr_index_of csr + side_index_of side in
    let index = index_of (Csr csr side) in
    let place : 23 + at ≡ index = omega arith in
    let same : bit_at (row.shown / 2 ^ 23) at ≡ bit_at row.shown index =
    ap (λ q. q % 2) (shr-shr row.shown 23 at) ∙ ap (bit_at row.shown) place in
    ap (λ bit. bit == 1) same
    ∙ sym (is_shown_at (bit_at row.shown index) (slice_index row.values index)
    (bit_at row.shown index == 1) refl)

-- no bit above those of the signals is ever set
pub stays_within : (shown index : ℕ) → shown < 2 ^ 111 → index < 111 → bit_or shown (1 * 2 ^ index % 2 ^ 128) < 2 ^ 111
stays_within shown index within below =
    let bit = pow-lt {i = index} {j = 111} below in
    or_lt 111 shown _ within (omega arith)
