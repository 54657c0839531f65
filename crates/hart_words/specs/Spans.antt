-- Ranges of physical addresses: whole pages below 2^56.
use Rattle.std.specs.Prelude.{◌≡◌, ℕ, ◌+◌, ◌%◌, ◌^◌, ◌<◌, ◌≤◌, Bool, true, false, ◌&&◌, ◌||◌, ◌==◌, nat_le, nat_lt}
use Rattle.std.specs.Prelude.{Option, Some, None, refl}
use Rattle.std.proofs.Common.{arith}
use Rattle.std.proofs.lemmas.Grind.{common_steps}
use Rattle.hart_words.specs.declared.span.Span.{Span}
use Rattle.hart_words.specs.declared.span.TheConstants.{PAGE_SIZE}

-- whole pages, at least one, that end at 2^56 at the latest
abbrev pub is_span : ℕ → ℕ → Bool
is_span base size =
    (base % PAGE_SIZE == 0) && (size % PAGE_SIZE == 0) && nat_le PAGE_SIZE size && nat_le (base + size) (2 ^ 56)

pub record IsSpan (base size : ℕ) : Type 0 where
  pub whole_base : base % PAGE_SIZE ≡ 0
  pub whole_size : size % PAGE_SIZE ≡ 0
  pub at_least_a_page : PAGE_SIZE ≤ size
  pub below : base + size ≤ 2 ^ 56
  deriving IsProp as IsSpan-prop

pub is_span-true : (base size : ℕ) → is_span base size ≡ true → IsSpan base size
is_span-true base size holds = record {
  whole_base = grind (arith, common_steps);
  whole_size = grind (arith, common_steps);
  at_least_a_page = grind (arith, common_steps);
  below = grind (arith, common_steps);
}

-- the range of such a base and size
abbrev pub span_with : (base size : ℕ) → IsSpan base size → Span
span_with base size facts = record {
  base = base;
  size = size;
  whole_base = facts.whole_base;
  whole_size = facts.whole_size;
  at_least_a_page = facts.at_least_a_page;
  below = facts.below;
}

abbrev pub span_by : (base size : ℕ) (test : Bool) → is_span base size ≡ test → Option Span
span_by base size false fails = None
span_by base size true holds = Some (span_with base size (is_span-true base size holds))

-- the range of a base and a size, where they are of that form
unfoldable pub span_of : ℕ → ℕ → Option Span
span_of base size = span_by base size (is_span base size) refl

-- the byte at this address is one of the range
abbrev pub LiesIn : ℕ → Span → Type 0
LiesIn address span = (span.base ≤ address) × (address < span.base + span.size)

abbrev pub is_in : Span → ℕ → Bool
is_in span address = nat_le span.base address && nat_lt address (span.base + span.size)

-- so many bytes from an address on are bytes of the range
abbrev pub holds_all : Span → ℕ → ℕ → Bool
holds_all span pa len = nat_le span.base pa && nat_le (pa + len) (span.base + span.size)

-- so many bytes from an address on lie in the range, within one page of 4,096 bytes; a number has at most 8, an address
-- 56 bits
pub record IsPlace (span : Span) (pa len : ℕ) : Type 0 where
  pub low : span.base ≤ pa
  pub high : pa + len ≤ span.base + span.size
  pub narrow : pa + len ≤ 2 ^ 56
  pub page : pa % PAGE_SIZE + len ≤ PAGE_SIZE
  pub nonempty : 1 ≤ len
  pub at_most_8 : len ≤ 8

-- two ranges with no byte in common
abbrev pub is_apart_from : Span → Span → Bool
is_apart_from one other = nat_le (one.base + one.size) other.base || nat_le (other.base + other.size) one.base
