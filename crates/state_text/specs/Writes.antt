-- What a sink holds while a text is written to it.
use Rattle.std.specs.Prelude.{◌≡◌, ℕ, ◌+◌, ◌/◌, ◌%◌, ◌<◌, ◌≤◌, List, ◌++◌, Option, Some, None, option_map}
use Rattle.std.specs.List.{concat}
use Rattle.hart_words.specs.declared.span.Span.{Span}
use Rattle.hart_words.specs.declared.span.TheConstants.{PAGE_SIZE}
use Rattle.hart_words.specs.Memory.{Bytes}
use Rattle.state_text.specs.Lines.{end_line}
use Rattle.state_text.specs.Memory.{memory_lines}

-- a front of a text was appended
pub record WritesFront (text : List ℕ) (before now : Option (List ℕ)) : Type 0 where
  pub front : List ℕ
  pub more : List ℕ
  pub parts : front ++ more ≡ text
  pub held : now ≡ option_map (λ bytes. bytes ++ front) before

-- a front of some bytes was appended, and the others are kept
pub record Sends (bytes kept : List ℕ) (before now : Option (List ℕ)) : Type 0 where
  pub front : List ℕ
  pub parts : front ++ kept ≡ bytes
  pub held : now ≡ option_map (λ held. held ++ front) before

-- some bytes, the lines of memory and the end
abbrev pub text_from : List ℕ → Bytes → Span → List ℕ
text_from front bytes ram = front ++ (concat (memory_lines bytes ram.base (ram.size / 16)) ++ end_line)

-- the address of a page of RAM
pub record IsPageOf (ram : Span) (page : ℕ) : Type 0 where
  pub whole : page % PAGE_SIZE ≡ 0
  pub low : ram.base ≤ page
  pub high : page < ram.base + ram.size

-- the first page of RAM from an address on that may hold a byte other than 0: all bytes of RAM before it are 0, and
-- all bytes where there is none
abbrev pub FindsInRam : Bytes → Span → ℕ → Option ℕ → Type 0
FindsInRam bytes ram from None = (pa : ℕ) → from ≤ pa → pa < ram.base + ram.size → bytes pa ≡ 0
FindsInRam bytes ram from (Some page) =
    (page % PAGE_SIZE ≡ 0) × (from ≤ page) × (page < ram.base + ram.size)
    × ((pa : ℕ) → from ≤ pa → pa < page → bytes pa ≡ 0)
