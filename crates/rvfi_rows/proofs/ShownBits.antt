-- What a row shows, by its bits and values.
use Rattle.std.proofs.Common.{◌≡◌, ◌≢◌, ◌∙◌, sym, ap, subst, ℕ, ◌*◌, ◌<◌, ◌/◌, ◌%◌, ◌^◌, ◌==◌, bit_or, List, length}
use Rattle.std.proofs.Common.{inl, inr, Option, Some, None, arith}
use Rattle.std.specs.Prelude.{if◌then◌else◌, slice_index, slice_set}
use Rattle.std.specs.Int.{bit_at, w128}
use Rattle.std.proofs.Math.Path.{fun_ext}
use Rattle.std.proofs.lemmas.Nat.Bits.{bit_at-zero, bit_at-lt, bit_at_set_same, bit_at_set_other}
use Rattle.std.proofs.lemmas.List.{get_or-set_same, get_or-set_other}
use Rattle.std.proofs.lemmas.Bool.Decides.{eqb_tells}
use Rattle.hart_words.specs.declared.signal.Signal.{Signal}
use Rattle.hart_words.specs.Signals.{index_of}
use Rattle.rvfi_rows.specs.declared.row.Row.{Row}
use Rattle.rvfi_rows.specs.Cells.{shown_by, shown_in}
use Rattle.rvfi_rows.specs.Rows.{nothing, with_shown}

-- what the bit and the value at an index show
abbrev pub cell_in : ℕ → ℕ → Option ℕ
cell_in bit value = if bit == 1 then Some value else None

pub shows_nothing : (row : Row) → row.shown ≡ 0 → shown_in row ≡ nothing
unfolding shown_in
shows_nothing row is =
    fun_ext
    (λ (signal : Signal). ap (λ b. cell_in b (slice_index row.values (index_of signal)))
    (ap (λ n. bit_at n (index_of signal)) is ∙ bit_at-zero (index_of signal)))

pub is_shown : (row : Row) (signal : Signal) (index place : ℕ) → index ≡ index_of signal → place ≡ index
    → row.shown / 2 ^ index % 2 ≡ 1 → Some (slice_index row.values place) ≡ shown_in row signal
unfolding shown_in
is_shown row signal index place is at bit =
    let here : bit_at row.shown (index_of signal) ≡ 1 = subst (λ i. bit_at row.shown i ≡ 1) is bit in
    ap (λ i. Some (slice_index row.values i)) (at ∙ is)
    ∙ ap (λ b. cell_in b (slice_index row.values (index_of signal))) (sym here)

clear : (b : ℕ) → b < 2 → b ≢ 1 → b ≡ 0
clear b few not_one = omega arith

pub is_hidden : (row : Row) (signal : Signal) (index : ℕ) → index ≡ index_of signal → row.shown / 2 ^ index % 2 ≢ 1
    → None ≡ shown_in row signal
unfolding shown_in
is_hidden row signal index is bit =
    let here : bit_at row.shown index ≡ 0 = clear _ (bit_at-lt row.shown index) bit in
    let there : bit_at row.shown (index_of signal) ≡ 0 = subst (λ i. bit_at row.shown i ≡ 0) is here in
    ap (λ b. cell_in b (slice_index row.values (index_of signal))) (sym there)

-- one bit and its value more, seen at the same index and at another
cell_same : (shown : ℕ) (values : List ℕ) (index value : ℕ) → index < length values → index < 128
    → cell_in (bit_at (bit_or shown (1 * 2 ^ index % 2 ^ 128)) index)
    (slice_index (slice_set values index value) index) ≡ Some value
cell_same shown values index value within few =
    ap (λ b. cell_in b (slice_index (slice_set values index value) index)) (bit_at_set_same w128 shown index few)
    ∙ ap (λ v. Some v) (get_or-set_same values index value 0 within)

cell_other : (shown : ℕ) (values : List ℕ) (index value other : ℕ) → index < 128 → other ≢ index
    → cell_in (bit_at (bit_or shown (1 * 2 ^ index % 2 ^ 128)) other)
    (slice_index (slice_set values index value) other) ≡ cell_in (bit_at shown other) (slice_index values other)
cell_other shown values index value other few apart =
    ap (λ b. cell_in b (slice_index (slice_set values index value) other))
    (bit_at_set_other w128 shown index few other apart)
    ∙ ap (λ v. cell_in (bit_at shown other) v) (get_or-set_other values index other value 0 apart)

cell_after : (shown : ℕ) (values : List ℕ) (index value other : ℕ) → index < length values → index < 128
    → cell_in (bit_at (bit_or shown (1 * 2 ^ index % 2 ^ 128)) other) (slice_index (slice_set values index value) other)
    ≡ (if other == index then Some value else cell_in (bit_at shown other) (slice_index values other))
cell_after shown values index value other within few = elim (eqb_tells other index) [
  | inl same ↦
      rw same.0 (let P : ℕ → Type 0 = λ i. cell_in (bit_at (bit_or shown (1 * 2 ^ index % 2 ^ 128)) i)
      (slice_index (slice_set values index value) i) ≡ Some value in
      subst P (sym same.1) (cell_same shown values index value within few))
  | inr differs ↦ rw differs.0 (cell_other shown values index value other few differs.1)
]

pub shows_more : (shown : ℕ) (values : List ℕ) (signal : Signal) {index bit : ℕ} (value : ℕ) → length values ≡ 256
    → index ≡ index_of signal → index < 111 → bit ≡ 1 * 2 ^ index % 2 ^ 128
    → shown_by (bit_or shown bit) (slice_set values index value) ≡ with_shown (shown_by shown values) signal value
unfolding shown_by
shows_more shown values signal {index} {bit} value full is below bit_is =
    let within : index < length values = omega (arith, full) in
    fun_ext (λ (other : Signal).
    ap (λ b. cell_in (bit_at (bit_or shown b) (index_of other))
    (slice_index (slice_set values index value) (index_of other))) bit_is
    ∙ cell_after shown values index value (index_of other) within (omega arith)
    ∙ ap (λ i. if index_of other == i then Some value else cell_in (bit_at shown (index_of other))
    (slice_index values (index_of other))) is)

pub none_shown : (values : List ℕ) → shown_by 0 values ≡ nothing
unfolding shown_by
none_shown values =
    fun_ext
    (λ (signal : Signal). ap (λ b. cell_in b (slice_index values (index_of signal))) (bit_at-zero (index_of signal)))

-- a row shows what its bits and values say
pub by_its_bits : (row : Row) (shown : ℕ) (values : List ℕ) → row.shown ≡ shown → row.values ≡ values
    → shown_in row ≡ shown_by shown values
unfolding shown_in shown_by
by_its_bits row shown values bits are =
    fun_ext (λ (signal : Signal).
    ap (λ b. cell_in (bit_at b (index_of signal)) (slice_index row.values (index_of signal))) bits
    ∙ ap (λ v. cell_in (bit_at shown (index_of signal)) (slice_index v (index_of signal))) are)
