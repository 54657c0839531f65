-- A store in two parts: the bytes that its row shows lie in two pages, and its two writes are one of all its bytes.
use Rattle.std.proofs.Common.{◌≡◌, inl, inr, ℕ, ◌+◌, ◌-◌, ◌/◌, ◌%◌, ◌^◌, ◌<◌, ◌≤◌, ◌==◌, Bool, true, false}
use Rattle.std.proofs.Common.{not, ◌&&◌, nat_lt, if◌then◌else◌, refl, sym, ap, ◌∙◌, arith}
use Rattle.std.specs.Prelude.{◌||◌}
use Rattle.std.proofs.Math.Nat.{div-div-eq-div-mul, min-eq_left, min-le_left}
use Rattle.std.proofs.lemmas.Nat.{pow-add}
use Rattle.std.proofs.lemmas.Bool.{cases_lt}
use Rattle.std.proofs.lemmas.Bool.Decides.{nat_tests}
use Rattle.hart_words.specs.declared.span.Span.{Span}
use Rattle.hart_words.specs.declared.span.TheConstants.{PAGE_SIZE}
use Rattle.hart_words.specs.Memory.{Bytes, bytes_after_store, is_within}
use Rattle.hart_words.specs.Spans.{holds_all}
use Rattle.rvfi_rows.specs.Window.{above}
use Rattle.mem_access.specs.Accesses.{first_len, has_second_part}
use Rattle.row_compare.specs.Memory.{ones}
use Rattle.hart_step.specs.PlainRows.{bytes_to_page_end, lies_in_two_pages}
use Rattle.boundary_guess.proofs.StoreBytes.{all_below, tried}

-- ---- where its bytes lie

-- a mask has bytes before a number and after it, where that is inside
has_both : ℕ → ℕ → ℕ → Bool
has_both away end here =
    not (nat_lt away here && nat_lt here end)
    || (not ((2 ^ end - 2 ^ away) % 2 ^ here == 0) && not ((2 ^ end - 2 ^ away) / 2 ^ here == 0))

all_both : all_below 8 (λ away. all_below 9 (λ end. all_below 8 (λ here. has_both away end here))) ≡ true
unfolding all_below has_both
all_both = refl

both_at : (away end here : ℕ) → away < 8 → end < 9 → here < 8 → has_both away end here ≡ true
both_at away end here a b c =
    tried 8 (has_both away end)
    (tried 9 (λ end. all_below 8 (λ here. has_both away end here))
    (tried 8 (λ away. all_below 9 (λ end. all_below 8 (λ here. has_both away end here))) all_both away a) end b) here
    c

both_sides : (away end here : ℕ) → end ≤ 8 → away < here → here < end
    → (not ((2 ^ end - 2 ^ away) % 2 ^ here == 0) && not ((2 ^ end - 2 ^ away) / 2 ^ here == 0)) ≡ true
unfolding has_both
both_sides away end here most from to =
    let is = both_at away end here (omega (arith, most, from, to)) (omega (arith, most)) (omega (arith, most, to)) in
    let low : nat_lt away here ≡ true = grind (arith, nat_tests, from) in
    let high : nat_lt here end ≡ true = grind (arith, nat_tests, to) in
    second (nat_lt away here) (nat_lt here end)
    (not ((2 ^ end - 2 ^ away) % 2 ^ here == 0) && not ((2 ^ end - 2 ^ away) / 2 ^ here == 0)) low high is
  where
    second : (a b c : Bool) → a ≡ true → b ≡ true → (not (a && b) || c) ≡ true → c ≡ true
    second true true c one two is = is
    second true false c one two is = absurd cc
    second false b c one two is = absurd cc

-- an access of two parts runs past the end of its page
runs_past : (va len : ℕ) → has_second_part va len ≡ true → PAGE_SIZE - va % PAGE_SIZE < len
runs_past va len two = elim (cases_lt (PAGE_SIZE - va % PAGE_SIZE) len) [
  | inl past ↦ past
  | inr whole ↦
      let all : first_len va len ≡ len = min-eq_left whole in
      let less : first_len va len < len = grind (arith, nat_tests, two) in
      absurd (omega (arith, all, less))
]

pub two_pages : (va len named : ℕ) → va < 2 ^ 64 → named < 2 ^ 64 → above va named + len ≤ 8
    → has_second_part va len ≡ true → lies_in_two_pages named (ones (above va named) len) ≡ true
unfolding lies_in_two_pages
two_pages va len named small word within two =
    let past = runs_past va len two in
    let here = bytes_to_page_end named in
    let at : here ≡ above va named + (PAGE_SIZE - va % PAGE_SIZE) = omega (arith, small, word, within, past) in
    both_sides (above va named) (above va named + len) here within (omega (arith, at)) (omega (arith, at, past))

-- ---- what its two writes leave

higher : (value low_len k j : ℕ) → j ≡ low_len + k → value / 256 ^ low_len / 256 ^ k ≡ value / 256 ^ j
higher value low_len k j is =
    div-div-eq-div-mul value (256 ^ low_len) (256 ^ k)
    ∙ ap (λ d. value / d) (sym (pow-add 256 low_len k)) ∙ ap (λ e. value / 256 ^ e) (sym is)

-- the bytes of a number, its low ones first and then the others right after them
pub two_writes : (pa low_len len value : ℕ) (bytes : Bytes) (x : ℕ) → low_len ≤ len
    → bytes_after_store (pa + low_len) (len - low_len) (value / 256 ^ low_len)
    (bytes_after_store pa low_len value bytes) x
    ≡ bytes_after_store pa len value bytes x
unfolding bytes_after_store
two_writes pa low_len len value bytes x least =
    by (is_within (pa + low_len) (len - low_len) x) (is_within pa low_len x) (is_within pa len x) refl refl refl
  where
    by : (high low whole : Bool) → is_within (pa + low_len) (len - low_len) x ≡ high → is_within pa low_len x ≡ low
        → is_within pa len x ≡ whole
        → (if high then value / 256 ^ low_len / 256 ^ (x - (pa + low_len)) % 256
        else if low then value / 256 ^ (x - pa) % 256 else bytes x)
        ≡ (if whole then value / 256 ^ (x - pa) % 256 else bytes x)
    by true low true h l w =
        let from : pa + low_len ≤ x = grind (arith, nat_tests, h) in
        ap (λ v. v % 256) (higher value low_len (x - (pa + low_len)) (x - pa) (omega (arith, from)))
    by true low false h l w =
        let inside : is_within pa len x ≡ true = grind (arith, nat_tests, h, least) in absurd cc
    by false true true h l w = refl
    by false true false h l w =
        let inside : is_within pa len x ≡ true = grind (arith, nat_tests, l, least) in absurd cc
    by false false true h l w = absurd (apart h l w)
      where
        apart : is_within (pa + low_len) (len - low_len) x ≡ false → is_within pa low_len x ≡ false
            → is_within pa len x ≡ true → ⊥
        apart h l w = grind (arith, nat_tests, h, l, w, least)
    by false false false h l w = refl

-- two parts that lie in RAM, the second right after the first
pub record AreNeighbours (ram : Span) (va len first second : ℕ) : Type 0 where
  pub here : first ≡ va
  pub next : second ≡ (va + first_len va len) % 2 ^ 64
  pub low : holds_all ram first (first_len va len) ≡ true
  pub high : holds_all ram second (len - first_len va len) ≡ true

least : (va len : ℕ) → first_len va len ≤ len
least va len = min-le_left len (PAGE_SIZE - va % PAGE_SIZE)

pub right_after : {ram : Span} {va len first second : ℕ} → AreNeighbours ram va len first second
    → second ≡ va + first_len va len
right_after {ram} {va} {len} near =
    let end = ram.below in
    let low : va + first_len va len ≤ ram.base + ram.size = grind (arith, nat_tests, near.low, near.here) in
    omega (arith, low, end, near.next)

pub whole_in_ram : {ram : Span} {va len first second : ℕ} → AreNeighbours ram va len first second
    → holds_all ram va len ≡ true
whole_in_ram {ram} {va} {len} {first} {second} near =
    let after = right_after near in
    let less = least va len in
    let from : ram.base ≤ va = grind (arith, nat_tests, near.low, near.here) in
    let to : second + (len - first_len va len) ≤ ram.base + ram.size = grind (arith, nat_tests, near.high) in
    let end : va + len ≤ ram.base + ram.size = omega (arith, after, less, to) in
    grind (arith, nat_tests, from, end)

pub parts_as_one : {ram : Span} {va len first second : ℕ} (value : ℕ) (bytes : Bytes) (x : ℕ)
    → AreNeighbours ram va len first second
    → bytes_after_store second (len - first_len va len) (value / 256 ^ first_len va len)
    (bytes_after_store first (first_len va len) value bytes) x
    ≡ bytes_after_store va len value bytes x
parts_as_one {ram} {va} {len} {first} {second} value bytes x near =
    let low_len = first_len va len in
    let high : ℕ = value / 256 ^ low_len in
    ap (λ pa. bytes_after_store pa (len - low_len) high (bytes_after_store first low_len value bytes) x)
    (right_after near)
    ∙ ap (λ pa. bytes_after_store (va + low_len) (len - low_len) high (bytes_after_store pa low_len value bytes) x)
    near.here
    ∙ two_writes va low_len len value bytes x (least va len)
