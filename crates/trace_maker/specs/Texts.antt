-- The texts of a made image and of the trace of its run.
use Rattle.std.specs.Prelude.{ℕ, List, [], ◌∷◌, ◌++◌, codes, decimal, map}
use Rattle.std.specs.Int.{Width, w8, w32, w64, to_be_bytes, to_le_bytes}
use Rattle.std.specs.List.{flat_map, join_by, range_with_len}
use Rattle.hex.specs.Hex.{encode_lower}
use Rattle.trace_maker.specs.declared.made_row.MadeRow.{MadeRow}
use Rattle.trace_maker.specs.Rows.{addi_of, made_row}

-- the instructions from 0x80000000 on: AUIPC, ADDI, XOR, SD, LD, JAL
abbrev pub made_words : ℕ → List ℕ
made_words number =
    0x00001117 ∷ addi_of number ∷ 0x0011c1b3 ∷ 0x00313023 ∷ 0x00013203 ∷ 0xff1ff06f ∷ []

-- their bytes
abbrev pub made_bytes : ℕ → List ℕ
made_bytes number = flat_map (to_le_bytes w32) (made_words number)

-- two hexadecimal digits for each byte, with a blank between each two bytes
abbrev pub spaced : List ℕ → List ℕ
spaced bytes = join_by (λ byte. encode_lower (byte ∷ [])) (codes " ") bytes

-- the text of the image
unfoldable pub made_image : (number : ℕ) → List ℕ
made_image number = codes "@80000000\n" ++ spaced (made_bytes number) ++ codes "\n"

-- 0x and all hexadecimal digits of a width, in lower case
abbrev pub hexadecimal : Width → ℕ → List ℕ
hexadecimal width number = codes "0x" ++ encode_lower (to_be_bytes width number)

-- the fields of a row
abbrev pub fields_of : MadeRow → List (List ℕ)
fields_of row =
    decimal row.order
    ∷ hexadecimal w32 row.insn
    ∷ decimal row.trap
    ∷ hexadecimal w64 row.pc_rdata
    ∷ hexadecimal w64 row.pc_wdata
    ∷ decimal row.rd_addr
    ∷ hexadecimal w64 row.rd_wdata
    ∷ hexadecimal w64 row.mem_addr
    ∷ hexadecimal w8 row.mem_rmask
    ∷ hexadecimal w8 row.mem_wmask
    ∷ hexadecimal w64 row.mem_rdata
    ∷ hexadecimal w64 row.mem_wdata
    ∷ hexadecimal w64 row.mem_paddr
    ∷ []

-- the line of a row
unfoldable pub row_text : MadeRow → List ℕ
row_text row = join_by (λ field. field) (codes ",") (fields_of row) ++ codes "\n"

-- the names of the columns
abbrev pub header_text : List ℕ
header_text =
    codes "order,insn,trap,pc_rdata,pc_wdata,rd_addr,rd_wdata,"
    ++ codes "mem_addr,mem_rmask,mem_wmask,mem_rdata,mem_wdata,mem_paddr\n"

-- the first rows
abbrev pub made_rows : (number rows : ℕ) → List MadeRow
made_rows number rows = map (made_row number) (range_with_len 0 rows)

-- the text of the trace of these
unfoldable pub made_trace : (number rows : ℕ) → List ℕ
made_trace number rows = header_text ++ flat_map row_text (made_rows number rows)
