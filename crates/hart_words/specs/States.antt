-- A state with its memory.
use Rattle.hart_words.specs.Memory.{Bytes}

-- all but memory, which may be a hart's or several harts', and the byte at each address
pub record State (C : Type 0) : Type 0 where
  pub core : C
  pub bytes : Bytes
