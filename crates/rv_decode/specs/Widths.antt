-- The access of an atomic instruction, by its width.
use Rattle.hart_words.specs.declared.access_size.AccessSize.{AccessSize}
use Rattle.hart_words.specs.declared.access_size.AccessSize.TheVariants as sizes
use Rattle.rv_decode.specs.declared.operation.Width.{Width}
use Rattle.rv_decode.specs.declared.operation.Width.TheVariants.{Word, Doubleword}

-- 4 bytes, or 8
abbrev pub size_of : Width → AccessSize
size_of Word = sizes.Word
size_of Doubleword = sizes.Doubleword
