-- A memory whose bytes stand in a list, in tests.
use Rattle.std.proofs.Common.{◌≡◌, ◌≢◌, ℕ, zero, suc, ◌+◌, ◌-◌, ◌*◌, ◌/◌, ◌%◌, ◌<◌, ◌≤◌, ◌^◌, inl, inr, true, List}
use Rattle.std.proofs.Common.{length, refl, ap, ◌∙◌, sym, subst, arith, lit<}
use Rattle.std.specs.Prelude.{slice_index_or, slice_set}
use Rattle.std.proofs.Math.Path.{fun_ext}
use Rattle.std.proofs.Math.Nat.{div-div-eq-div-mul, div-one, pow-le-pow_right, pow-succ'}
use Rattle.std.proofs.lemmas.Nat.{pow-add}
use Rattle.std.proofs.lemmas.List.{get_or-set_same, get_or-set_other}
use Rattle.std.proofs.lemmas.Bool.{cases_lt, lt-ltb, le-leb}
use Rattle.std.proofs.lemmas.Bool.Decides.{eqb_tells}
use Rattle.hart_words.specs.declared.span.Span.{Span}
use Rattle.hart_words.specs.Memory.{Bytes, is_within, number_at, bytes_after_store}
use Rattle.hart_words.specs.Spans.{is_in}
use Rattle.hart_words.proofs.Stores.{stored-inside, stored-outside}
use Rattle.read_footprint.specs.declared.footprint.Footprint.{Footprint}
use Rattle.read_footprint.specs.LowMemory.{IsLow}
use Rattle.read_footprint.specs.Sets.{LiesInRam}
use Rattle.read_footprint.proofs.Places.{outside}

-- the list that a memory keeps, as its bytes
abbrev pub listed : List ℕ → Bytes
listed items = λ at. slice_index_or items at 0

pub number_more : (bytes : Bytes) (pa len : ℕ) → len ≢ 0
    → number_at bytes pa len ≡ bytes pa + 256 * number_at bytes (pa + 1) (len - 1)
unfolding number_at
number_more bytes pa zero some = absurd (some refl)
number_more bytes pa (suc len) some = let less : suc len - 1 ≡ len = omega arith in rw less refl

pub number_none : (bytes : Bytes) (pa len : ℕ) → len ≡ 0 → number_at bytes pa len ≡ 0
unfolding number_at
number_none bytes pa len none = rw none refl

pub fits_more : (byte rest len : ℕ) → byte < 256 → len ≢ 0 → rest < 2 ^ (8 * (len - 1))
    → byte + 256 * rest < 2 ^ (8 * len)
fits_more byte rest len small some fits =
    let more : 8 * len ≡ 8 * (len - 1) + 8 = omega (arith, some) in
    rw (more, pow-add 2 (8 * (len - 1)) 8) (omega (arith, small, fits))

pub byte_set : (items : List ℕ) (pa len value : ℕ) → len ≡ 1 → pa < length items
    → listed (slice_set items pa (value % 256)) ≡ bytes_after_store pa len value (listed items)
unfolding bytes_after_store
byte_set items pa len value one below = rw one (fun_ext (λ at. elim (eqb_tells at pa) [
  | inl same ↦
      let none : at - pa ≡ 0 = omega (arith, same.1) in
      let within : is_within pa 1 at ≡ true =
      rw (le-leb pa at (omega (arith, same.1)), lt-ltb at (pa + 1) (omega (arith, same.1))) refl in
      ap (listed (slice_set items pa (value % 256))) same.1 ∙ get_or-set_same items pa (value % 256) 0 below
      ∙ sym (rw (within, none, div-one value) refl)
  | inr apart ↦ get_or-set_other items pa at (value % 256) 0 apart.1 ∙ sym (rw (outside pa at apart.1) refl)
]))

lies : (ram : Span) (address : ℕ) → ram.base ≡ 0 → address < 4096 → is_in ram address ≡ true
lies ram address start below =
    rw (
      le-leb ram.base address (omega (arith, start)),
      lt-ltb address (ram.base + ram.size) (omega (arith, below, ram.at_least_a_page)),
    ) refl

pub low_within : (ram : Span) (footprint : Footprint) → ram.base ≡ 0 → IsLow footprint → LiesInRam ram footprint
low_within ram footprint start low = record {
  read = λ address is. lies ram address start (low.read address is);
  wrote = λ address is. lies ram address start (low.wrote address is);
}

pub small_rest : (rest len : ℕ) → len ≤ 8 → rest < 2 ^ (8 * (len - 1)) → rest < 2 ^ 56
small_rest rest len few fits =
    let fewer : 8 * (len - 1) ≤ 56 = omega (arith, few) in
    let most : 2 ^ (8 * (len - 1)) ≤ 2 ^ 56 = pow-le-pow_right {n = 2} (lit< tt) fewer in
    omega (arith, fits, most)

-- a number that is put byte by byte
stored_more : (pa len value : ℕ) (bytes : Bytes) → len ≢ 0
    → bytes_after_store (pa + 1) (len - 1) (value / 256) (bytes_after_store pa 1 value bytes)
    ≡ bytes_after_store pa len value bytes
stored_more pa len value bytes some = fun_ext (λ at. elim (cases_lt at pa) [
  | inl before ↦
      stored-outside (pa + 1) (len - 1) (value / 256) at (bytes_after_store pa 1 value bytes)
      (inl (omega (arith, before))) ∙ stored-outside pa 1 value at bytes (inl before)
      ∙ sym (stored-outside pa len value at bytes (inl before))
  | inr from ↦ elim (cases_lt at (pa + 1)) [
    | inl first ↦
        let here : pa + 0 ≡ at = omega (arith, from, first) in
        subst
        (λ at. bytes_after_store (pa + 1) (len - 1) (value / 256) (bytes_after_store pa 1 value bytes) at
        ≡ bytes_after_store pa len value bytes at) here
        (stored-outside (pa + 1) (len - 1) (value / 256) (pa + 0) (bytes_after_store pa 1 value bytes)
        (inl (omega arith)) ∙ stored-inside pa 1 value 0 bytes (omega arith)
        ∙ sym (stored-inside pa len value 0 bytes (omega (arith, some))))
    | inr later ↦ elim (cases_lt at (pa + len)) [
      | inl within ↦
          let k = at - (pa + 1) in
          let place : pa + 1 + k ≡ at = omega (arith, later) in
          let second : pa + suc k ≡ at = omega (arith, later) in
          let digit : value / 256 / 256 ^ k ≡ value / 256 ^ suc k =
          div-div-eq-div-mul value 256 (256 ^ k) ∙ ap (λ d. value / d) (sym (pow-succ' 256 k)) in
          subst
          (λ at. bytes_after_store (pa + 1) (len - 1) (value / 256) (bytes_after_store pa 1 value bytes) at
          ≡ value / 256 ^ suc k % 256) place
          (stored-inside (pa + 1) (len - 1) (value / 256) k (bytes_after_store pa 1 value bytes)
          (omega (arith, later, within)) ∙ ap (λ n. n % 256) digit)
          ∙ subst (λ at. value / 256 ^ suc k % 256 ≡ bytes_after_store pa len value bytes at) second
          (sym (stored-inside pa len value (suc k) bytes (omega (arith, later, within))))
      | inr past ↦
          stored-outside (pa + 1) (len - 1) (value / 256) at (bytes_after_store pa 1 value bytes)
          (inr (omega (arith, past, some))) ∙ stored-outside pa 1 value at bytes (inr later)
          ∙ sym (stored-outside pa len value at bytes (inr past))
    ]
  ]
])

pub put_more : (items : List ℕ) (after : Bytes) (pa len value : ℕ) → len ≢ 0 → pa < length items
    → after ≡ bytes_after_store (pa + 1) (len - 1) (value / 256) (listed (slice_set items pa (value % 256)))
    → after ≡ bytes_after_store pa len value (listed items)
put_more items after pa len value some below is =
    is ∙ ap (bytes_after_store (pa + 1) (len - 1) (value / 256)) (byte_set items pa 1 value refl below)
    ∙ stored_more pa len value (listed items) some

pub put_none : (pa len value : ℕ) (bytes : Bytes) → len ≡ 0 → bytes ≡ bytes_after_store pa len value bytes
put_none pa len value bytes none =
    fun_ext
    (λ at. sym (stored-outside pa len value at bytes (elim (cases_lt at pa)
    [ inl before ↦ inl before | inr from ↦ inr (omega (arith, none, from)) ])))

-- the first byte is small, and so are those after it
pub small_more : (bytes : Bytes) (pa at : ℕ) → bytes pa < 256 → pa ≤ at → (pa + 1 ≤ at → bytes at < 256)
    → bytes at < 256
small_more bytes pa at first from later = elim (cases_lt pa at) [
  | inl following ↦ later (omega (arith, following))
  | inr here ↦ let same : at ≡ pa = omega (arith, from, here) in rw same first
]
