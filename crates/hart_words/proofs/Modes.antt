-- Modes are ordered by their numbers.
use Rattle.std.proofs.Common.{◌≤◌, ℕ, lit≤}
use Rattle.hart_words.specs.declared.privilege.Mode.{Mode}
use Rattle.hart_words.specs.declared.privilege.Mode.TheVariants.{User, Supervisor, Machine}
use Rattle.hart_words.specs.Privilege.{mode_number}

pub up_to_machine : (mode : Mode) → mode_number mode ≤ 3
up_to_machine User = lit≤ tt
up_to_machine Supervisor = lit≤ tt
up_to_machine Machine = lit≤ tt
