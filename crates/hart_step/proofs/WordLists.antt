-- Values of lists of words.
use Rattle.std.proofs.Common.{ℕ, ◌-◌, ◌^◌, ◌<◌, ◌==◌, Bool, true, false, if◌then◌else◌, inl, inr, List, length}
use Rattle.std.proofs.Common.{slice_index, All, lit<}
use Rattle.std.proofs.Math.ListN.{get_or-eq_default}
use Rattle.std.proofs.lemmas.Bool.{cases_lt}
use Rattle.hart_words.specs.declared.registers.Registers.{Registers}
use Rattle.hart_words.specs.Registers.{register_of}

-- each value of a list of words is one, and so is 0 after them
pub value_is_word : (values : List ℕ) → All (λ value. value < 2 ^ 64) values → (i : ℕ) → slice_index values i < 2 ^ 64
value_is_word values are i = elim (cases_lt i (length values)) [
  | inl below ↦ are i 0 below
  | inr past ↦ rw (get_or-eq_default values 0 past) (lit< tt)
]

zero_or_word : (zeroth : Bool) (values : List ℕ) (i : ℕ) → All (λ value. value < 2 ^ 64) values
    → (if zeroth then 0 else slice_index values i) < 2 ^ 64
zero_or_word true values i are = lit< tt
zero_or_word false values i are = value_is_word values are i

pub register_is_word : (registers : Registers) → All (λ value. value < 2 ^ 64) registers.values → (number : ℕ)
    → register_of registers number < 2 ^ 64
register_is_word registers are number = zero_or_word (number == 0) registers.values (number - 1) are
