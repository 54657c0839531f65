-- Choices are determined by what they say.
use Rattle.std.proofs.Common.{◌≡◌, ℕ, Bool, true, false, Some, None, IsTrue, refl, ap, subst}
use Rattle.std.proofs.Props.{props}
use Rattle.hart_words.specs.declared.options.Misaligned.{Misaligned}
use Rattle.hart_words.specs.declared.options.TrapValues.{TrapValues}
use Rattle.hart_words.specs.declared.options.Marks.{Marks}
use Rattle.hart_words.specs.declared.options.InsnBits.TheVariants.{Full}
use Rattle.hart_words.specs.declared.options.DeviceFaults.TheVariants.{Never}
use Rattle.hart_words.specs.declared.choices.Choices.{Choices}
use Rattle.hart_words.specs.BlockSizes.{is_block_size}
use Rattle.hart_words.specs.Choices.{OtherChoices, choices_with, choices_by, choices_of}

block_prop : (size : ℕ) → IsProp (IsTrue (is_block_size size))
block_prop size = Prim.hlevel props

pub same_with : (others : OtherChoices) (size size' : ℕ) → size ≡ size' → (one : is_block_size size ≡ true)
    → (other : is_block_size size' ≡ true) → choices_with others size one ≡ choices_with others size' other
same_with others size size' s one =
    let P : ℕ → Type 0 = λ x. (other : is_block_size x ≡ true)
    → choices_with others size one ≡ choices_with others x other in
    subst P s (λ other. ap (choices_with others size) (block_prop size one other))

-- all but the size
pub others_of : Choices → OtherChoices
others_of choices = record {
  misaligned = choices.misaligned;
  trap_values = choices.trap_values;
  marks = choices.marks;
  bits = choices.bits;
  insn_bits = choices.insn_bits;
  device_faults = choices.device_faults;
}

same_choices : (others : OtherChoices) (size : ℕ) (holds : is_block_size size ≡ true) (choices : Choices)
    → others_of choices ≡ others → choices.block_size ≡ size → choices ≡ choices_with others size holds
unfolding others_of
same_choices others size holds choices o s =
    let P : OtherChoices → Type 0 = λ x. choices ≡ choices_with x size holds in
    subst P o (same_with (others_of choices) choices.block_size size s choices.block holds)

by_true : (others : OtherChoices) (size : ℕ) (test : Bool) (is : is_block_size size ≡ test) (choices : Choices)
    → others_of choices ≡ others → choices.block_size ≡ size → test ≡ true
    → Some choices ≡ choices_by others size test is
by_true others size true is choices o s test = ap (λ (x : Choices). Some x) (same_choices others size is choices o s)
by_true others size false is choices o s test = cc

by_false : (others : OtherChoices) (size : ℕ) (test : Bool) (is : is_block_size size ≡ test) → test ≡ false
    → None ≡ choices_by others size test is
by_false others size false is test = refl
by_false others size true is test = cc

-- what a constructor says, where rows show instructions whole and devices refuse nothing
plain_others : Choices → OtherChoices
plain_others choices = record {
  misaligned = choices.misaligned;
  trap_values = choices.trap_values;
  marks = choices.marks;
  bits = choices.bits;
  insn_bits = Full;
  device_faults = Never;
}

others_plain : (choices : Choices) → choices.insn_bits ≡ Full → choices.device_faults ≡ Never
    → others_of choices ≡ plain_others choices
unfolding others_of plain_others
others_plain choices full never = λ i. record {
  misaligned = choices.misaligned;
  trap_values = choices.trap_values;
  marks = choices.marks;
  bits = choices.bits;
  insn_bits = full i;
  device_faults = never i;
}

pub some_choices : (choices : Choices) → choices.insn_bits ≡ Full → choices.device_faults ≡ Never
    → is_block_size choices.block_size ≡ true
    → Some choices
    ≡ choices_of choices.misaligned choices.trap_values choices.marks choices.block_size choices.bits
unfolding choices_of others_of plain_others
some_choices choices full never test =
    by_true (plain_others choices) choices.block_size (is_block_size choices.block_size) refl choices
    (others_plain choices full never) refl test

pub no_choices : (misaligned : Misaligned) (trap_values : TrapValues) (marks : Marks) (size : ℕ) (bits : Bool)
    → is_block_size size ≡ false → None ≡ choices_of misaligned trap_values marks size bits
unfolding choices_of
no_choices misaligned trap_values marks size bits test = by_false _ size (is_block_size size) refl test
