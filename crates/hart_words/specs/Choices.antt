-- What the standard leaves to the maker of a core, together.
use Rattle.std.specs.Prelude.{◌≡◌, ℕ, Bool, true, false, Option, Some, None, refl}
use Rattle.hart_words.specs.declared.options.Misaligned.{Misaligned}
use Rattle.hart_words.specs.declared.options.Misaligned.TheVariants as misaligned
use Rattle.hart_words.specs.declared.options.TrapValues.{TrapValues}
use Rattle.hart_words.specs.declared.options.TrapValues.TheVariants as values
use Rattle.hart_words.specs.declared.options.Marks.{Marks}
use Rattle.hart_words.specs.declared.options.Marks.TheVariants as marks
use Rattle.hart_words.specs.declared.options.InsnBits.{InsnBits}
use Rattle.hart_words.specs.declared.options.InsnBits.TheVariants as insn
use Rattle.hart_words.specs.declared.options.DeviceFaults.{DeviceFaults}
use Rattle.hart_words.specs.declared.options.DeviceFaults.TheVariants as faults
use Rattle.hart_words.specs.declared.choices.Choices.{Choices}
use Rattle.hart_words.specs.BlockSizes.{is_block_size}

-- the choices that have a reservation's size in common
pub record OtherChoices : Type 0 where
  pub misaligned : Misaligned
  pub trap_values : TrapValues
  pub marks : Marks
  pub bits : Bool
  pub insn_bits : InsnBits
  pub device_faults : DeviceFaults

abbrev pub choices_with : OtherChoices → (size : ℕ) → is_block_size size ≡ true → Choices
choices_with others size holds = record {
  misaligned = others.misaligned;
  trap_values = others.trap_values;
  marks = others.marks;
  block_size = size;
  bits = others.bits;
  insn_bits = others.insn_bits;
  device_faults = others.device_faults;
  block = holds;
}

abbrev pub choices_by : OtherChoices → (size : ℕ) (test : Bool) → is_block_size size ≡ test → Option Choices
choices_by others size false fails = None
choices_by others size true holds = Some (choices_with others size holds)

-- the choices, where a reservation may have that many bytes; rows show instructions whole, and devices refuse nothing
unfoldable pub choices_of : Misaligned → TrapValues → Marks → ℕ → Bool → Option Choices
choices_of misaligned trap_values marks size bits =
    let others : OtherChoices =
    record {
      misaligned = misaligned;
      trap_values = trap_values;
      marks = marks;
      bits = bits;
      insn_bits = insn.Full;
      device_faults = faults.Never;
    } in
    choices_by others size (is_block_size size) refl

-- the same, with what rows show of instructions, and say of devices
unfoldable pub with_rows : InsnBits → DeviceFaults → Choices → Choices
with_rows insn_bits device_faults choices =
    record choices { insn_bits = insn_bits; device_faults = device_faults }

-- where none is said
unfoldable pub plain_choices : Choices
plain_choices = record {
  misaligned = misaligned.Trap;
  trap_values = values.Value;
  marks = marks.Fault;
  block_size = 64;
  bits = false;
  insn_bits = insn.Full;
  device_faults = faults.Never;
  block = refl;
}
