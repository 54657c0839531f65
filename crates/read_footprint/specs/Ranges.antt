-- Aligned ranges of bytes, of which some count.
use Rattle.std.specs.Prelude.{◌≡◌, ℕ, ◌-◌, ◌^◌, Bool, true, ◌&&◌}
use Rattle.hart_words.specs.declared.span.Span.{Span}
use Rattle.hart_words.specs.Memory.{is_within}
use Rattle.hart_words.specs.Spans.{is_in}
use Rattle.read_footprint.specs.Bits.{has_bit}
use Rattle.read_footprint.specs.declared.aligned_range.AlignedRange.{AlignedRange}

-- the byte at an address is one of a range, and counts
abbrev pub counts : AlignedRange → ℕ → Bool
counts range address = is_within range.pa (2 ^ range.power) address && has_bit range.bits (address - range.pa)

-- each byte of a range that counts lies in RAM
abbrev pub AreCounted : Span → AlignedRange → Type 0
AreCounted ram range = (address : ℕ) → counts range address ≡ true → is_in ram address ≡ true
