-- A store writes no more bits than its access has.
use Rattle.std.specs.Prelude.{◌<◌, ◌^◌}
use Rattle.hart_words.specs.declared.access_size.AccessSize.{AccessSize}
use Rattle.hart_words.specs.AccessSizes.{bits_of}
use Rattle.rv_integer.specs.declared.int_result.IntResult.{IntResult}
use Rattle.rv_integer.specs.declared.int_result.IntResult.TheVariants as results
use Rattle.rv_integer.specs.declared.int_result.MemoryOp.{MemoryOp}
use Rattle.rv_integer.specs.declared.int_result.MemoryOp.TheVariants as memory_ops

-- the value that an access of a size stores, where it stores one, fits the size
abbrev pub FitsSize : AccessSize → MemoryOp → Type 0
FitsSize size (memory_ops.Store value) = value < 2 ^ bits_of size
FitsSize size (memory_ops.StoreConditional value) = value < 2 ^ bits_of size
FitsSize size _ = Unit {0}

-- it does where the result is an access
abbrev pub StoresWhatFits : IntResult → Type 0
StoresWhatFits (results.Access request) = FitsSize request.size request.op
StoresWhatFits _ = Unit {0}
