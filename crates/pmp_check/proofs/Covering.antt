-- Regions, comparisons and the entry that decides, byte by byte.
use Rattle.std.proofs.Common.{◌≡◌, ℕ, ◌+◌, ◌-◌, ◌*◌, ◌/◌, ◌%◌, ◌^◌, ◌<◌, ◌≤◌, ◌↔◌, min, max, true, sym, ◌∙◌, ap, subst}
use Rattle.std.proofs.Common.{arith}
use Rattle.std.specs.Prelude.{nat_le, IsTrue}
use Rattle.std.proofs.Math.Nat.{div-eq_of_lt-le}
use Rattle.std.proofs.lemmas.Nat.{pow_pos, pow-add, div-add-mod', mod_below}
use Rattle.std.proofs.lemmas.Bool.{ltb-true, lt-ltb, leb-true, le-leb, and_parts, and_from}
use Rattle.std.specs.Int.{w64, trailing_ones}
use Rattle.hart_words.specs.declared.privilege.PmpEntry.{PmpEntry}
use Rattle.pmp_check.specs.declared.region.Matching.{Matching}
use Rattle.pmp_check.specs.declared.region.Matching.TheVariants.{Off, TopOfRange, FourBytes, PowerOfTwo}
use Rattle.pmp_check.specs.declared.region.Region.{Region}
use Rattle.pmp_check.specs.Protection.{matching_of, power_region, region_by_matching, region_of, covers_some}
use Rattle.pmp_check.specs.Protection.{covers_all}
use Rattle.pmp_check.specs.Covering.{CoversAs, Covers, IsIn, IsRegister, SomeByte, EachByte}
use Rattle.pmp_check.proofs.Ones.{EndsInOnes, EndsInOnes-field, Ends_from_field, trailing_ones-EndsInOnes}
use Rattle.pmp_check.proofs.Ones.{trailing_ones_from_Ends}

-- the numbers of one block of so many
block : (size first q a : ℕ) → 0 < size → first ≡ q * size → ((first ≤ a) × (a < first + size)) ↔ (a / size ≡ q)
block size first q a h start = (
  λ within. div-eq_of_lt-le {k = q} size {m = a} (omega (arith, within)) (omega (arith, within)),
  λ same. let e : q * size + a % size ≡ a =
      subst (λ (x : ℕ). x * size + a % size ≡ a) same (div-add-mod' a size) in omega (arith, mod_below a size h),
)

-- the region by trailing ones is a naturally aligned block
in_block : (addr ones a : ℕ) → EndsInOnes addr ones
    → IsIn (power_region addr ones) a ↔ (a / 2 ^ (ones + 3) ≡ addr / 2 ^ (ones + 1))
in_block addr ones a ends =
    let field : addr % 2 ^ (ones + 1) ≡ 2 ^ ones - 1 = EndsInOnes-field addr ones ends in
    let sum : ones + 3 ≡ ones + 1 + 2 = omega arith in
    let size : 2 ^ (ones + 3) ≡ 2 ^ (ones + 1) * 2 ^ 2 = ap (λ k. 2 ^ k) sum ∙ pow-add 2 (ones + 1) 2 in
    let split : addr / 2 ^ (ones + 1) * 2 ^ (ones + 1) + addr % 2 ^ (ones + 1) ≡ addr =
    div-add-mod' addr (2 ^ (ones + 1)) in
    block (2 ^ (ones + 3)) (4 * (addr - (2 ^ ones - 1))) (addr / 2 ^ (ones + 1)) a (pow_pos (ones + 3))
    (omega (arith, field, split, ap (λ s. addr / 2 ^ (ones + 1) * s) size))

covered-CoversAs : (matching : Matching) (before addr a : ℕ) → addr < 2 ^ 64
    → IsIn (region_by_matching matching before addr) a ↔ CoversAs matching before addr a
covered-CoversAs Off before addr a h = (λ within. omega (arith, within), λ none. absurd none)
covered-CoversAs TopOfRange before addr a h = (λ within. within, λ within. within)
covered-CoversAs FourBytes before addr a h = (λ within. omega (arith, within), λ same. omega arith)
covered-CoversAs PowerOfTwo before addr a h =
    let ends : EndsInOnes addr (trailing_ones w64 addr) = trailing_ones-EndsInOnes addr h in (
      λ within.
          record {
            ones =
                trailing_ones w64 addr;
            ends =
                EndsInOnes-field addr (trailing_ones w64 addr) ends;
            block =
                (in_block addr (trailing_ones w64 addr) a ends).0 within;
          },
      λ found.
          let found_ends : EndsInOnes addr found.ones = Ends_from_field addr found.ones found.ends in
          subst (λ (n : ℕ). IsIn (power_region addr n) a) (sym (trailing_ones_from_Ends addr found.ones h found_ends))
          ((in_block addr found.ones a found_ends).1 found.block),
    )

pub region_of-Covers : (before : ℕ) (entry : PmpEntry) (a : ℕ) → IsRegister entry
    → IsIn (region_of before entry) a ↔ Covers before entry a
unfolding region_of
region_of-Covers before entry a h = covered-CoversAs (matching_of entry.cfg) before entry.addr a h

pub some_byte : (region : Region) (pa len : ℕ) → IsTrue (covers_some region pa len) ↔ SomeByte pa len (IsIn region)
some_byte region pa len = (
  λ h. let below : max region.first pa < min region.past (pa + len) =
      ltb-true (max region.first pa) (min region.past (pa + len)) h in
      record { a = max region.first pa; low = omega arith; high = omega arith; holds = omega arith },
  λ byte. lt-ltb (max region.first pa) (min region.past (pa + len)) (omega (arith, byte.low, byte.high, byte.holds)),
)

pub each_byte : (region : Region) (pa len : ℕ) → 1 ≤ len
    → IsTrue (covers_all region pa len) ↔ EachByte pa len (IsIn region)
each_byte region pa len some = (
  λ h a low high. let within : (nat_le region.first pa ≡ true) × (nat_le (pa + len) region.past ≡ true) =
      and_parts (nat_le region.first pa) (nat_le (pa + len) region.past) h in
      omega (arith, leb-true region.first pa within.0, leb-true (pa + len) region.past within.1),
  λ each. let first : region.first ≤ pa = (each pa (omega arith) (omega arith)).0 in
      let last : pa + len ≤ region.past = omega (arith, each (pa + len - 1) (omega arith) (omega arith)) in
      and_from (nat_le region.first pa) (nat_le (pa + len) region.past) (le-leb region.first pa first)
      (le-leb (pa + len) region.past last),
)
