-- Instructions stand at even addresses, and so does what follows them.
use Rattle.std.specs.Prelude.{◌≡◌, ◌%◌}
use Rattle.rv_integer.specs.declared.int_result.IntResult.{IntResult}
use Rattle.rv_integer.specs.declared.int_result.IntResult.TheVariants as results

-- the address at which the hart goes on is even, where there is one
abbrev pub GoesToEven : IntResult → Type 0
GoesToEven (results.Jump link target) = target % 2 ≡ 0
GoesToEven (results.Continue next_pc) = next_pc % 2 ≡ 0
GoesToEven _ = Unit {0}
