-- Bytes that are noted: a read of them changes no set.
use Rattle.std.proofs.Common.{◌≡◌, inl, inr, ℕ, ◌+◌, ◌-◌, ◌/◌, ◌%◌, ◌<◌, ◌≤◌, ◌^◌, Bool}
use Rattle.std.proofs.Common.{true, false, ◌==◌, ◌&&◌, ◌||◌, refl, ap, ◌∙◌, sym, arith}
use Rattle.std.specs.Prelude.{not, nat_eq}
use Rattle.std.specs.Int.{w64, trailing_ones}
use lib.Count.{count_trailing_zeros}
use Rattle.std.proofs.lemmas.Nat.{shr-shr, shr_le}
use Rattle.std.proofs.lemmas.Nat.Bits.{bit_at_above, bit_at_ones, bit_at-trailing_ones}
use Rattle.std.proofs.lemmas.Bool.{cases_lt, leb-true, ltb-true}
use Rattle.hart_words.specs.Memory.{is_within}
use Rattle.std.specs.HashMap.{get}
use Rattle.read_footprint.specs.declared.footprint.Footprint.{Footprint}
use Rattle.read_footprint.specs.declared.noted_bytes.NotedBytes.{NotedBytes}
use Rattle.read_footprint.specs.NotedBytes.{AreNoted}
use Rattle.read_footprint.specs.Bits.{has_bit}
use Rattle.read_footprint.specs.Sets.{has_read, has_written}
use Rattle.read_footprint.proofs.Places.{both_hold}

-- the low ones of a number
low_ones : (n len k : ℕ) → n < 2 ^ 64 → len ≤ trailing_ones w64 n → k < len → has_bit n k ≡ true
unfolding count_trailing_zeros
low_ones n len k small ones below = elim (cases_lt (n + 1) (2 ^ 64)) [
  | inl some_zero ↦
      ap (λ b. b == 1) ((bit_at-trailing_ones w64 n some_zero).2 k (omega (arith, ones, below)))
  | inr all_ones ↦
      let is : n ≡ 2 ^ 64 - 1 = omega (arith, all_ones, small) in
      let at_most_64 : len ≤ 64 = rw is at ones in
      ap (λ m. has_bit m k) is ∙ ap (λ b. b == 1) (bit_at_ones 64 k (omega (arith, below, at_most_64)))
]

moved_bit : (bytes p k : ℕ) → has_bit (bytes / 2 ^ p) k ≡ has_bit bytes (p + k)
moved_bit bytes p k = ap (λ n. n % 2 == 1) (shr-shr bytes p k)

in_block : (bytes place : ℕ) → bytes < 2 ^ 64 → has_bit bytes place ≡ true → place < 64
in_block bytes place small is = elim (cases_lt place 64) [
  | inl inside ↦ inside
  | inr past ↦
      let never : false ≡ true =
      sym (ap (λ b. b == 1) (bit_at_above bytes 64 place small past)) ∙ is in cc
]

-- so many ones from the place of an address on are those of the bytes from there on
pub ones_are_bytes : (pa len number bytes : ℕ) → bytes < 2 ^ 64 → pa / 64 ≡ number
    → len ≤ trailing_ones w64 (bytes / 2 ^ (pa % 64))
    → (address : ℕ) → is_within pa len address ≡ true
    → (address / 64 ≡ number) × (has_bit bytes (address % 64) ≡ true)
ones_are_bytes pa len number bytes small here ones address within =
    let ends = both_hold _ _ within in
    let from : pa ≤ address = leb-true pa address ends.0 in
    let to : address < pa + len = ltb-true address (pa + len) ends.1 in
    let k = address - pa in
    let less : bytes / 2 ^ (pa % 64) < 2 ^ 64 = omega (arith, small, shr_le bytes (pa % 64)) in
    let bit : has_bit bytes (pa % 64 + k) ≡ true =
    sym (moved_bit bytes (pa % 64) k)
    ∙ low_ones (bytes / 2 ^ (pa % 64)) len k less ones (omega (arith, from, to)) in
    let inside : pa % 64 + k < 64 = in_block bytes (pa % 64 + k) small bit in
    let place : address % 64 ≡ pa % 64 + k = omega (arith, from, inside) in
    (omega (arith, from, inside, here), ap (has_bit bytes) place ∙ bit)

already : (read within wrote : Bool) → (within ≡ true → (read || wrote) ≡ true)
    → read ≡ (read || (within && not wrote))
already true within wrote noted = refl
already false false wrote noted = refl
already false true true noted = refl
already false true false noted = let never : false ≡ true = noted refl in cc

-- to read them again changes nothing
pub noted_read : (footprint : Footprint) (last : NotedBytes) (pa len : ℕ)
    → AreNoted (get nat_eq footprint.blocks) last
    → ((address : ℕ) → is_within pa len address ≡ true → (address / 64 ≡ last.number)
    × (has_bit last.bytes (address % 64) ≡ true))
    → (address : ℕ) → has_read footprint address
    ≡ (has_read footprint address || (is_within pa len address && not (has_written footprint address)))
unfolding has_read has_written
noted_read footprint last pa len noted all address =
    already (has_read footprint address) (is_within pa len address) (has_written footprint address)
    (λ within. let here = all address within in noted.each address here.0 here.1)
