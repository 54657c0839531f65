-- Numbers as the judge prints them.
use Rattle.std.specs.Prelude.{ℕ, List, ◌++◌, codes}
use Rattle.std.specs.Int.{w64, to_be_bytes}
use Rattle.hex.specs.Hex.{encode_lower}

-- 0x and 16 hexadecimal digits in lower case
unfoldable pub hexadecimal : ℕ → List ℕ
hexadecimal number = codes "0x" ++ encode_lower (to_be_bytes w64 number)
