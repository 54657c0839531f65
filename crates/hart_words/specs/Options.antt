-- What a core may do where the standard leaves it to the maker.
use Rattle.std.specs.Prelude.{ℕ, ◌/◌, ◌%◌, ◌^◌, Bool, true, false, ◌==◌}
use Rattle.hart_words.specs.declared.options.Misaligned.{Misaligned}
use Rattle.hart_words.specs.declared.options.Misaligned.TheVariants.{Trap, Done}
use Rattle.hart_words.specs.declared.options.CauseSet.{CauseSet}
use Rattle.hart_words.specs.declared.options.TrapValues.{TrapValues}
use Rattle.hart_words.specs.declared.options.TrapValues.TheVariants.{Value, Zero, ZeroFor}
use Rattle.hart_words.specs.declared.options.Marks.{Marks}
use Rattle.hart_words.specs.declared.options.Marks.TheVariants.{Fault, Set}
use Rattle.hart_words.specs.declared.options.InsnBits.{InsnBits}
use Rattle.hart_words.specs.declared.options.InsnBits.TheVariants.{Full, Length}
use Rattle.hart_words.specs.declared.options.DeviceFaults.{DeviceFaults}
use Rattle.hart_words.specs.declared.options.DeviceFaults.TheVariants.{Never, ByRow}

-- misaligned loads and stores are carried out
abbrev pub are_done : Misaligned → Bool
are_done Trap = false
are_done Done = true

-- the cause with this code is in the set
abbrev pub has_cause : CauseSet → ℕ → Bool
has_cause causes code = causes.codes / 2 ^ code % 2 == 1

-- the trap value of the cause with this code is 0
abbrev pub is_zero_for : TrapValues → ℕ → Bool
is_zero_for Value code = false
is_zero_for Zero code = true
is_zero_for (ZeroFor causes) code = has_cause causes code

-- A and D that are clear are set
abbrev pub are_set : Marks → Bool
are_set Fault = false
are_set Set = true

-- the bits above an instruction of 16 bits say nothing
abbrev pub are_cut : InsnBits → Bool
are_cut Full = false
are_cut Length = true

-- the row says that a device refused an access
abbrev pub are_by_row : DeviceFaults → Bool
are_by_row Never = false
are_by_row ByRow = true
