-- The lines that say who wrote what a row read.
use Rattle.std.specs.Prelude.{ℕ, List, ◌++◌, Option, Some, None, codes, decimal, flat_map}
use Rattle.row_origin.specs.Origins.{OriginsView}
use Rattle.row_origin.specs.declared.origins.ByteOrigin.{ByteOrigin}
use Rattle.row_origin.specs.declared.origins.RegisterOrigin.{RegisterOrigin}
use Rattle.trace_report.specs.Numerals.{hexadecimal}

-- the row that wrote it, to the end of the line, and what it is from where no row did
abbrev pub writer_text : List ℕ → Option ℕ → List ℕ
writer_text source None = codes " " ++ source ++ codes "\n"
writer_text source (Some row) = codes " row " ++ decimal row ++ codes "\n"

-- the line for a register
unfoldable pub register_origin_text : RegisterOrigin → List ℕ
register_origin_text origin =
    codes "origin x" ++ decimal origin.number ++ writer_text (codes "reset") origin.row

-- the line for a byte of RAM
unfoldable pub byte_origin_text : ByteOrigin → List ℕ
byte_origin_text origin =
    codes "origin byte " ++ hexadecimal origin.address ++ writer_text (codes "image") origin.row

-- a line for each register and then for each byte, in their order
unfoldable pub origins_text : OriginsView → List ℕ
origins_text origins =
    flat_map register_origin_text origins.registers ++ flat_map byte_origin_text origins.bytes
