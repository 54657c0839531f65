-- The states of a hart that runs the image.
use Rattle.std.specs.Prelude.{◌≡◌, ℕ, ◌+◌, ◌<◌, ◌∷◌, replicate, Option, None, false, slice_index}
use Rattle.hart_words.specs.declared.map.Map.{Map}
use Rattle.hart_words.specs.declared.privilege.Mode.TheVariants.{Machine}
use Rattle.hart_words.specs.Memory.{Bytes}
use Rattle.hart_words.specs.Choices.{plain_choices}
use Rattle.csr_file.specs.Registers.{csrs_at_reset}
use Rattle.hart_step.specs.declared.state.Core.{Core}
use Rattle.trace_maker.specs.Texts.{made_bytes}

-- in M, with values in x1 to x4 and 0 in all others
abbrev pub core_at : Map → (pc x1 x2 x3 x4 : ℕ) → Option ℕ → Core
core_at map pc x1 x2 x3 x4 order = record {
  registers = record { values = x1 ∷ x2 ∷ x3 ∷ x4 ∷ replicate 27 0 };
  pc = pc;
  mode = Machine;
  csrs = csrs_at_reset;
  reservation = record { block = None };
  next_order = order;
  trapped_last = false;
  halted = false;
  map = map;
  choices = plain_choices;
}

-- the memory has the image's bytes
abbrev pub HasImage : ℕ → Bytes → Type 0
HasImage number bytes = (place : ℕ) → place < 24 → bytes (0x80000000 + place) ≡ slice_index (made_bytes number) place

-- RAM is 0x80000000:0x8000000
pub record IsMadeMap (map : Map) : Type 0 where
  pub base : map.ram.base ≡ 0x80000000
  pub size : map.ram.size ≡ 0x8000000
