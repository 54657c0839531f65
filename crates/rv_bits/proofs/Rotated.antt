-- Rotations by shifts are those by division and remainder, and undo each other.
use Rattle.std.proofs.Common.{◌≡◌, ℕ, zero, suc, ◌+◌, ◌-◌, ◌*◌, ◌/◌, ◌%◌, ◌^◌, ◌<◌, refl, sym, ap, ◌∙◌, arith}
use Rattle.std.proofs.Common.{bit_or, subst, add_comm}
use Rattle.std.proofs.Math.Nat.{mod-mod, mod_self, mod-lt, mod-eq_of_lt, div-eq_of_lt, add-mul-div_right}
use Rattle.std.proofs.Math.Nat.{mul-mod_left, mul-one, mul_comm}
use Rattle.std.proofs.Math.Pow.{shr_lt}
use Rattle.std.proofs.lemmas.Nat.{mod-pow-add, shl-shr, or_shifted, shr_split, mod-mul-add, mul-add-lt, pow-add}
use Rattle.std.proofs.lemmas.Nat.{pow_pos}
use Rattle.std.specs.Int.{w32, w64, rotate_left, rotate_right}
use Rattle.std.specs.Int.Bits.{or_self, or_shifted_r}
use Rattle.hart_words.specs.Words.{sign_extended, residue, signed_of}
use Rattle.hart_words.proofs.Extended.{extends_signs}
use Rattle.rv_bits.specs.Laws.{RotationsUndo, WordRotationsUndo}
use Rattle.rv_bits.specs.Results.{bits_result, low}
use Rattle.rv_bits.specs.Rotations.{rotated_left, rotated_right}

-- the lower and the upper bits are all
parts : (width amount : ℕ) → amount < width → width - amount + amount ≡ width
parts width amount inside = omega arith

parts_back : (width amount : ℕ) → amount < width → amount + (width - amount) ≡ width
parts_back width amount inside = omega arith

-- the lower `lower` bits and the upper `upper` ones change places
abbrev swapped : ℕ → ℕ → ℕ → ℕ
swapped lower upper x = x % 2 ^ lower * 2 ^ upper + x / 2 ^ lower

-- a shift to the left leaves the lower bits, in the upper places
shifted : (x lower upper : ℕ) → x * 2 ^ upper % 2 ^ (lower + upper) ≡ x % 2 ^ lower * 2 ^ upper
shifted x lower upper =
    let split = mod-pow-add (x * 2 ^ upper) lower upper in
    let back : x * 2 ^ upper / 2 ^ upper ≡ x = shl-shr x upper in
    let none : x * 2 ^ upper % 2 ^ upper ≡ 0 = mul-mod_left x (2 ^ upper) in
    let here : x * 2 ^ upper % 2 ^ (lower + upper) ≡ x % 2 ^ lower * 2 ^ upper + 0 =
    split ∙ (rw (back, none) refl) in
    omega arith

high_fits : (x lower upper : ℕ) → x < 2 ^ (lower + upper) → x / 2 ^ lower < 2 ^ upper
high_fits x lower upper fits = shr_lt upper lower (subst (λ (n : ℕ). x < 2 ^ n) (add_comm lower upper) fits)

or_left : (width x lower upper : ℕ) → lower + upper ≡ width → x < 2 ^ width
    → bit_or (x * 2 ^ upper % 2 ^ width) (x / 2 ^ lower) ≡ swapped lower upper x
or_left width x lower upper whole fits =
    let here : x < 2 ^ (lower + upper) = rw whole fits in
    rw (← whole, shifted x lower upper)
    (or_shifted (x % 2 ^ lower) upper (x / 2 ^ lower) (high_fits x lower upper here))

or_right : (width x lower upper : ℕ) → lower + upper ≡ width → x < 2 ^ width
    → bit_or (x / 2 ^ lower) (x * 2 ^ upper % 2 ^ width) ≡ swapped lower upper x
or_right width x lower upper whole fits =
    let here : x < 2 ^ (lower + upper) = rw whole fits in
    rw (← whole, shifted x lower upper)
    (or_shifted_r (x % 2 ^ lower) upper (x / 2 ^ lower) (high_fits x lower upper here))

-- by no bit at all
still : (width x : ℕ) → x < 2 ^ width → x * 1 % 2 ^ width ≡ x
still width x fits = ap (λ n. n % 2 ^ width) (mul-one x) ∙ mod-eq_of_lt fits

by_none : (width : ℕ) → (width - 0) % width ≡ 0
by_none width = ap (λ n. n % width) (omega arith) ∙ mod_self width

left_by_none : (width x : ℕ) → x < 2 ^ width → rotated_left width x 0 ≡ x
left_by_none width x fits =
    let all : width - 0 ≡ width = omega arith in
    let low : x % 2 ^ (width - 0) ≡ x = ap (λ n. x % 2 ^ n) all ∙ mod-eq_of_lt fits in
    let high : x / 2 ^ (width - 0) ≡ 0 = ap (λ n. x / 2 ^ n) all ∙ div-eq_of_lt fits in
    omega arith

right_by_none : (width x : ℕ) → rotated_right width x 0 ≡ x
right_by_none width x =
    let none : x % 1 ≡ 0 = omega arith in
    let all : x / 1 ≡ x = omega arith in
    rw (none, all) (omega arith)

or_same : (x : ℕ) → bit_or x (x / 1) ≡ x
or_same x =
    let all : x / 1 ≡ x = omega arith in
    rw all (or_self x)

or_same_back : (x : ℕ) → bit_or (x / 1) x ≡ x
or_same_back x =
    let all : x / 1 ≡ x = omega arith in
    rw all (or_self x)

left_by : (width x amount : ℕ) → x < 2 ^ width → amount < width
    → bit_or (x * 2 ^ amount % 2 ^ width) (x / 2 ^ ((width - amount) % width)) ≡ rotated_left width x amount
left_by width x zero fits inside =
    rw (by_none width, still width x fits) (or_same x ∙ sym (left_by_none width x fits))
left_by width x (suc amount) fits inside =
    let rest : (width - suc amount) % width ≡ width - suc amount = mod-eq_of_lt (omega arith) in
    rw rest (or_left width x (width - suc amount) (suc amount) (parts width (suc amount) inside) fits)

right_by : (width x amount : ℕ) → x < 2 ^ width → amount < width
    → bit_or (x / 2 ^ amount) (x * 2 ^ ((width - amount) % width) % 2 ^ width) ≡ rotated_right width x amount
right_by width x zero fits inside =
    rw (by_none width, still width x fits) (or_same_back x ∙ sym (right_by_none width x))
right_by width x (suc amount) fits inside =
    let rest : (width - suc amount) % width ≡ width - suc amount = mod-eq_of_lt (omega arith) in
    rw rest (or_right width x (suc amount) (width - suc amount) (parts_back width (suc amount) inside) fits)

pub left_64 : (x b : ℕ) → x < 2 ^ 64 → rotate_left w64 x (b % 64) ≡ rotated_left 64 x (b % 64)
left_64 x b fits = rw (mod-mod b 64) (left_by 64 x (b % 64) fits (omega arith))

pub right_64 : (x b : ℕ) → x < 2 ^ 64 → rotate_right w64 x (b % 64) ≡ rotated_right 64 x (b % 64)
right_64 x b fits = rw (mod-mod b 64) (right_by 64 x (b % 64) fits (omega arith))

pub left_32 : (x b : ℕ) → x < 2 ^ 32 → rotate_left w32 x (b % 32) ≡ rotated_left 32 x (b % 32)
left_32 x b fits = rw (mod-mod b 32) (left_by 32 x (b % 32) fits (omega arith))

pub right_32 : (x b : ℕ) → x < 2 ^ 32 → rotate_right w32 x (b % 32) ≡ rotated_right 32 x (b % 32)
right_32 x b fits = rw (mod-mod b 32) (right_by 32 x (b % 32) fits (omega arith))

upper_of : (high size low : ℕ) → low < size → (high * size + low) / size ≡ high
upper_of high size low inside =
    rw (add_comm (high * size) low)
    (add-mul-div_right low high (omega arith) ∙ ap (λ n. n + high) (div-eq_of_lt inside) ∙ omega arith)

-- parts that change places twice are where they were
undone : (x lower upper : ℕ) → x < 2 ^ (lower + upper) → swapped upper lower (swapped lower upper x) ≡ x
undone x lower upper fits =
    let inside = high_fits x lower upper fits in
    let here : swapped lower upper x % 2 ^ upper ≡ x / 2 ^ lower =
    mod-mul-add (x % 2 ^ lower) (2 ^ upper) (x / 2 ^ lower) inside in
    let there : swapped lower upper x / 2 ^ upper ≡ x % 2 ^ lower =
    upper_of (x % 2 ^ lower) (2 ^ upper) (x / 2 ^ lower) inside in
    rw (here, there) (shr_split x lower)

-- and they are as many bits as before
fits_still : (x lower upper : ℕ) → x < 2 ^ (lower + upper) → swapped lower upper x < 2 ^ (lower + upper)
fits_still x lower upper fits =
    let bound : swapped lower upper x < 2 ^ upper * 2 ^ lower =
    mul-add-lt (x % 2 ^ lower) (2 ^ upper) (x / 2 ^ lower) (2 ^ lower) (mod-lt x (pow_pos lower))
    (high_fits x lower upper fits) in
    rw (pow-add 2 lower upper) (rw (mul_comm (2 ^ lower) (2 ^ upper)) bound)

left_undone : (width x amount : ℕ) → x < 2 ^ width → amount < width
    → rotated_right width (rotated_left width x amount) amount ≡ x
left_undone width x amount fits inside =
    undone x (width - amount) amount (rw (parts width amount inside) fits)

right_undone : (width x amount : ℕ) → x < 2 ^ width → amount < width
    → rotated_left width (rotated_right width x amount) amount ≡ x
right_undone width x amount fits inside =
    undone x amount (width - amount) (rw (parts_back width amount inside) fits)

pub left_fits : (width x amount : ℕ) → x < 2 ^ width → amount < width → rotated_left width x amount < 2 ^ width
left_fits width x amount fits inside =
    rw (parts width amount inside) at (fits_still x (width - amount) amount (rw (parts width amount inside) fits))

pub right_fits : (width x amount : ℕ) → x < 2 ^ width → amount < width → rotated_right width x amount < 2 ^ width
right_fits width x amount fits inside =
    rw (parts_back width amount inside)
    at (fits_still x amount (width - amount) (rw (parts_back width amount inside) fits))

pub undo : RotationsUndo
unfolding bits_result
undo a b fits = (left_undone 64 a (b % 64) fits (omega arith), right_undone 64 a (b % 64) fits (omega arith))

extended_low : (x : ℕ) → sign_extended 32 (low x) ≡ sign_extended 32 x
unfolding sign_extended
extended_low x = ap (λ l. residue w64 (signed_of 32 l)) (mod-mod x (2 ^ 32))

-- the low 32 bits of a word whose sign was extended are the word
low_extended : (x : ℕ) → x < 2 ^ 32 → low (sign_extended 32 x) ≡ x
low_extended x fits =
    let same : sign_extended 32 x % 2 ^ 32 ≡ x % 2 ^ 32 = (extends_signs 32 x (omega arith) (omega arith)).same in
    omega arith

pub undo_words : WordRotationsUndo
unfolding bits_result
undo_words a b =
    let fits : low a < 2 ^ 32 = omega arith in
    let inside : b % 32 < 32 = omega arith in
    let left = low_extended (rotated_left 32 (low a) (b % 32)) (left_fits 32 (low a) (b % 32) fits inside) in
    let right = low_extended (rotated_right 32 (low a) (b % 32)) (right_fits 32 (low a) (b % 32) fits inside) in (
      ap (λ word. sign_extended 32 (rotated_right 32 word (b % 32))) left
          ∙ ap (sign_extended 32) (left_undone 32 (low a) (b % 32) fits inside) ∙ extended_low a,
      ap (λ word. sign_extended 32 (rotated_left 32 word (b % 32))) right
          ∙ ap (sign_extended 32) (right_undone 32 (low a) (b % 32) fits inside) ∙ extended_low a,
    )
