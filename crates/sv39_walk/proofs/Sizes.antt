-- The sizes of pages.
use Rattle.std.proofs.Common.{◌≡◌, ℕ, Bool, true, ◌&&◌, ◌+◌, ◌-◌, ◌*◌, ◌/◌, ◌%◌, ◌^◌, ◌<◌, ◌≤◌, sym, ◌∙◌, ap, subst}
use Rattle.std.proofs.Common.{arith}
use Rattle.std.proofs.Math.Pow.{pow_mono, mod-mod-pow}
use Rattle.std.proofs.lemmas.Nat.{pow_pos, shr_split, shr-shr, shl-shr, div-mul-add, mod-mul-add, mod_below, pow-add}
use Rattle.std.proofs.lemmas.Nat.{div_below, mul-add-lt}
use Rattle.std.proofs.lemmas.Bool.{eqb-true, and_parts}
use Rattle.hart_words.specs.declared.privilege.Access.{Access}
use Rattle.hart_words.specs.declared.privilege.WalkFlags.{WalkFlags}
use Rattle.sv39_walk.specs.Entries.{address_in, leaf_permits, is_aligned, leaf_allows, is_leaf, is_open_to}
use Rattle.sv39_walk.specs.Entries.{page_number, page_size}

pub at_most_giga : (level : ℕ) → level ≤ 2 → 2 ^ (12 + 9 * level) ≤ 2 ^ 30
at_most_giga level h = pow_mono {i = 12 + 9 * level} {j = 30} (omega arith)

-- a multiple of a size with less than the size added
both : (k base low : ℕ) → base % 2 ^ k ≡ 0
    → ((base + low % 2 ^ k) % 2 ^ k ≡ low % 2 ^ k) × ((base + low % 2 ^ k) / 2 ^ k ≡ base / 2 ^ k)
both k base low e =
    let whole : base / 2 ^ k * 2 ^ k ≡ base = omega (arith, shr_split base k) in
    let below : low % 2 ^ k < 2 ^ k = mod_below low (2 ^ k) (pow_pos k) in (
      subst (λ (b : ℕ). (b + low % 2 ^ k) % 2 ^ k ≡ low % 2 ^ k) whole
          (mod-mul-add (base / 2 ^ k) (2 ^ k) (low % 2 ^ k) below),
      subst (λ (b : ℕ). (b + low % 2 ^ k) / 2 ^ k ≡ base / 2 ^ k) whole
          (div-mul-add (base / 2 ^ k) (2 ^ k) (low % 2 ^ k) below),
    )

aligned : (level entry : ℕ) → is_aligned level entry ≡ true → 4096 * page_number entry % 2 ^ (12 + 9 * level) ≡ 0
unfolding page_size
aligned level entry e = eqb-true (4096 * page_number entry % 2 ^ (12 + 9 * level)) 0 e

-- the page's number without the bits below the page's size
number_above : (n k : ℕ) → 4096 * n / 2 ^ (12 + k) ≡ n / 2 ^ k
number_above n k =
    let turned : 4096 * n ≡ n * 2 ^ 12 = omega arith in
    sym (shr-shr (4096 * n) 12 k) ∙ ap (λ m. m / 2 ^ 12 / 2 ^ k) turned ∙ ap (λ m. m / 2 ^ k) (shl-shr n 12)

pub address-low : (level entry va : ℕ) → is_aligned level entry ≡ true
    → address_in level entry va % 2 ^ (12 + 9 * level) ≡ va % 2 ^ (12 + 9 * level)
unfolding page_size
address-low level entry va e = (both (12 + 9 * level) (4096 * page_number entry) va (aligned level entry e)).0

pub address-high : (level entry va : ℕ) → is_aligned level entry ≡ true
    → address_in level entry va / 2 ^ (12 + 9 * level) ≡ page_number entry / 2 ^ (9 * level)
unfolding page_size
address-high level entry va e =
    (both (12 + 9 * level) (4096 * page_number entry) va (aligned level entry e)).1
    ∙ number_above (page_number entry) (9 * level)

-- with less than a size added, a multiple of it stays below a greater power
stays_below : (k base low : ℕ) → k ≤ 56 → base % 2 ^ k ≡ 0 → base < 2 ^ 56 → base + low % 2 ^ k < 2 ^ 56
stays_below k base low h e below =
    let split : 2 ^ 56 ≡ 2 ^ k * 2 ^ (56 - k) =
    ap (λ n. 2 ^ n) (let sum : 56 ≡ k + (56 - k) = omega arith in sum) ∙ pow-add 2 k (56 - k) in
    let whole : base / 2 ^ k * 2 ^ k ≡ base = omega (arith, shr_split base k) in
    let row : base / 2 ^ k < 2 ^ (56 - k) = div_below base (2 ^ k) (2 ^ (56 - k)) (pow_pos k) (omega (arith, split)) in
    let place : base / 2 ^ k * 2 ^ k + low % 2 ^ k < 2 ^ k * 2 ^ (56 - k) =
    mul-add-lt (base / 2 ^ k) (2 ^ k) (low % 2 ^ k) (2 ^ (56 - k)) row (mod_below low (2 ^ k) (pow_pos k)) in
    omega (arith, whole, place, split)

-- a page that allows an access is aligned
allowed-aligned : (level : ℕ) (flags : WalkFlags) (access : Access) (entry : ℕ)
    → (is_leaf entry && leaf_allows level flags access entry) ≡ true → is_aligned level entry ≡ true
unfolding leaf_allows
allowed-aligned level flags access entry e =
    let right : Bool = leaf_permits flags.mxr access entry && is_open_to flags.mode flags.sum access entry in
    (and_parts right (is_aligned level entry) (and_parts (is_leaf entry) (right && is_aligned level entry) e).1).1

pub allowed_fits : (level : ℕ) (flags : WalkFlags) (va : ℕ) (access : Access) (entry : ℕ) → level ≤ 2
    → (is_leaf entry && leaf_allows level flags access entry) ≡ true → address_in level entry va < 2 ^ 56
unfolding page_size
allowed_fits level flags va access entry h e =
    stays_below (12 + 9 * level) (4096 * page_number entry) va (omega arith)
    (aligned level entry (allowed-aligned level flags access entry e)) (omega arith)

-- the offset in a page of 4 KiB is the low part of that in a larger one
pub allowed_offset : (level : ℕ) (flags : WalkFlags) (va : ℕ) (access : Access) (entry : ℕ)
    → (is_leaf entry && leaf_allows level flags access entry) ≡ true → address_in level entry va % 4096 ≡ va % 4096
allowed_offset level flags va access entry e =
    let sum : 12 + 9 * level ≡ 9 * level + 12 = omega arith in
    let P : ℕ → Type 0 = λ k. address_in level entry va % 2 ^ k ≡ va % 2 ^ k in
    let low : address_in level entry va % 2 ^ (9 * level + 12) ≡ va % 2 ^ (9 * level + 12) =
    subst P sum (address-low level entry va (allowed-aligned level flags access entry e)) in
    sym (mod-mod-pow (address_in level entry va) (9 * level) 12) ∙ ap (λ n. n % 2 ^ 12) low
    ∙ mod-mod-pow va (9 * level) 12
