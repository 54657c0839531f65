-- Numbers that are read within a page or a block.
use Rattle.std.proofs.Common.{◌≡◌, ℕ, zero, suc, ◌+◌, ◌-◌, ◌/◌, ◌%◌, ◌<◌, ◌≤◌, sym, ap, ◌∙◌, refl, arith}
use Rattle.hart_words.specs.Memory.{Bytes, number_at}
use Rattle.page_image.proofs.Stored.{same_page}
use Rattle.page_layers.proofs.BlockBytes.{same_block}

-- the number at an address hangs on its bytes alone
number_at-congr : (len pa : ℕ) (one other : Bytes) → ((k : ℕ) → k < len → one (pa + k) ≡ other (pa + k))
    → number_at one pa len ≡ number_at other pa len
unfolding number_at
number_at-congr zero pa one other same = refl
number_at-congr (suc len) pa one other same =
    let start : pa + 0 ≡ pa = omega arith in
    let here : one pa ≡ other pa = ap one (sym start) ∙ same 0 (omega arith) ∙ ap other start in
    let rest = number_at-congr len (pa + 1) one other (λ k below.
    let place : pa + suc k ≡ pa + 1 + k = omega arith in
    ap one (sym place) ∙ same (suc k) (omega arith) ∙ ap other place) in
    rw (here, rest) refl

number_of_zeros : (len pa : ℕ) → number_at (λ _. 0) pa len ≡ 0
unfolding number_at
number_of_zeros zero pa = refl
number_of_zeros (suc len) pa = rw (number_of_zeros len (pa + 1)) refl

-- a number within a page is read from it
pub number_of_page : (pa len : ℕ) (page bytes : Bytes) → pa % 4096 + len ≤ 4096
    → ((at : ℕ) → at / 4096 ≡ pa / 4096 → bytes at ≡ page at) → number_at page pa len ≡ number_at bytes pa len
number_of_page pa len page bytes inside same =
    number_at-congr len pa page bytes (λ k below. sym (same (pa + k) (same_page pa len k inside below)))

-- a byte of a number that lies in one page lies in it
pub in_one_page : (pa len at : ℕ) → pa % 4096 + len ≤ 4096 → pa ≤ at → at < pa + len → at / 4096 ≡ pa / 4096
in_one_page pa len at inside from below =
    let place : pa + (at - pa) ≡ at = omega (arith, from) in
    ap (λ n. n / 4096) (sym place) ∙ same_page pa len (at - pa) inside (omega (arith, from, below))

pub zero_of_page : (pa len : ℕ) (bytes : Bytes) → pa % 4096 + len ≤ 4096
    → ((at : ℕ) → at / 4096 ≡ pa / 4096 → bytes at ≡ 0) → 0 ≡ number_at bytes pa len
zero_of_page pa len bytes inside same = sym (number_of_zeros len pa) ∙ number_of_page pa len (λ _. 0) bytes inside same

-- and so of blocks
pub number_of_block : (pa len : ℕ) (block bytes : Bytes) → pa % 64 + len ≤ 64
    → ((at : ℕ) → at / 64 ≡ pa / 64 → bytes at ≡ block at) → number_at block pa len ≡ number_at bytes pa len
number_of_block pa len block bytes inside same =
    number_at-congr len pa block bytes (λ k below. sym (same (pa + k) (same_block pa len k inside below)))

pub in_one_block : (pa len at : ℕ) → pa % 64 + len ≤ 64 → pa ≤ at → at < pa + len → at / 64 ≡ pa / 64
in_one_block pa len at inside from below =
    let place : pa + (at - pa) ≡ at = omega (arith, from) in
    ap (λ n. n / 64) (sym place) ∙ same_block pa len (at - pa) inside (omega (arith, from, below))

-- what lies in one block lies in one page
pub block_in_page : (pa len : ℕ) → pa % 64 + len ≤ 64 → pa % 4096 + len ≤ 4096
block_in_page pa len inside = grind arith
