-- What a parcel of 16 bits expands to: the row of the table of compressed instructions that it meets.
-- From the Unprivileged ISA's chapter on the C extension, "RVC Instruction Set Listings", without the instructions on
-- floating-point registers.
use Rattle.std.specs.Prelude.{ℕ, List, [], ◌∷◌, Option, option_map, find}
use Rattle.std.specs.Option.{option_and_then}
use Rattle.hart_words.specs.Words.{bit_field}
use Rattle.rv_decode.specs.declared.operation.Op.{Op}
use Rattle.rv_decode.specs.Table.{decoded_op_of}
use Rattle.rv_compressed.specs.declared.compressed_op.CompressedOp.{CompressedOp}
use Rattle.rv_compressed.specs.declared.compressed_op.CompressedOp.TheVariants as c
use Rattle.rv_compressed.specs.declared.patterns.Condition.TheVariants.{Always}
use Rattle.rv_compressed.specs.declared.patterns.Pattern.{Pattern}
use Rattle.rv_compressed.specs.Encodings.{x0, x1, x2, lw, ld, sw, sd, addi, slli, srli, srai, andi, addiw, lui, add}
use Rattle.rv_compressed.specs.Encodings.{sub, xor, or, and, addw, subw, beq, bne, jal, jalr, ebreak}
use Rattle.rv_compressed.specs.Immediates.{compressed_register, amount_of_shift, immediate_6, immediate_addi4spn}
use Rattle.rv_compressed.specs.Immediates.{immediate_addi16sp, offset_w, offset_d, offset_j, offset_b, offset_lwsp}
use Rattle.rv_compressed.specs.Immediates.{offset_ldsp, offset_swsp, offset_sdsp}
use Rattle.rv_compressed.specs.Patterns.{by_funct3, by_funct3_and_rd, by_funct3_and_funct2, by_funct6_and_funct2}
use Rattle.rv_compressed.specs.Patterns.{by_funct4, by_funct4_and_rs2, by_parcel, rd_not_0, rs2_not_0, imm_not_0}
use Rattle.rv_compressed.specs.Patterns.{imm_not_0_rd_not_2, wide_imm_not_0, meets}

-- bits 11:7
abbrev pub rd : ℕ → ℕ
rd parcel = bit_field 7 5 parcel

-- bits 6:2
abbrev pub rs2 : ℕ → ℕ
rs2 parcel = bit_field 2 5 parcel

-- the compressed register of bits 9:7
abbrev pub rs1' : ℕ → ℕ
rs1' parcel = compressed_register 7 parcel

-- the compressed register of bits 4:2, which a load writes
abbrev pub rs2' : ℕ → ℕ
rs2' parcel = compressed_register 2 parcel

-- the 32-bit instruction that each expands to
unfoldable pub encoding_of : CompressedOp → ℕ → ℕ
encoding_of c.Addi4spn parcel = addi (rs2' parcel) x2 (immediate_addi4spn parcel)
encoding_of c.Lw parcel = lw (rs2' parcel) (offset_w parcel) (rs1' parcel)
encoding_of c.Ld parcel = ld (rs2' parcel) (offset_d parcel) (rs1' parcel)
encoding_of c.Sw parcel = sw (rs2' parcel) (offset_w parcel) (rs1' parcel)
encoding_of c.Sd parcel = sd (rs2' parcel) (offset_d parcel) (rs1' parcel)
encoding_of c.Addi parcel = addi (rd parcel) (rd parcel) (immediate_6 12 parcel)
encoding_of c.Addiw parcel = addiw (rd parcel) (rd parcel) (immediate_6 12 parcel)
encoding_of c.Li parcel = addi (rd parcel) x0 (immediate_6 12 parcel)
encoding_of c.Addi16sp parcel = addi x2 x2 (immediate_addi16sp parcel)
encoding_of c.Lui parcel = lui (rd parcel) (immediate_6 20 parcel)
encoding_of c.Srli parcel = srli (rs1' parcel) (rs1' parcel) (amount_of_shift parcel)
encoding_of c.Srai parcel = srai (rs1' parcel) (rs1' parcel) (amount_of_shift parcel)
encoding_of c.Andi parcel = andi (rs1' parcel) (rs1' parcel) (immediate_6 12 parcel)
encoding_of c.Sub parcel = sub (rs1' parcel) (rs1' parcel) (rs2' parcel)
encoding_of c.Xor parcel = xor (rs1' parcel) (rs1' parcel) (rs2' parcel)
encoding_of c.Or parcel = or (rs1' parcel) (rs1' parcel) (rs2' parcel)
encoding_of c.And parcel = and (rs1' parcel) (rs1' parcel) (rs2' parcel)
encoding_of c.Subw parcel = subw (rs1' parcel) (rs1' parcel) (rs2' parcel)
encoding_of c.Addw parcel = addw (rs1' parcel) (rs1' parcel) (rs2' parcel)
encoding_of c.J parcel = jal x0 (offset_j parcel)
encoding_of c.Beqz parcel = beq (rs1' parcel) x0 (offset_b parcel)
encoding_of c.Bnez parcel = bne (rs1' parcel) x0 (offset_b parcel)
encoding_of c.Slli parcel = slli (rd parcel) (rd parcel) (amount_of_shift parcel)
encoding_of c.Lwsp parcel = lw (rd parcel) (offset_lwsp parcel) x2
encoding_of c.Ldsp parcel = ld (rd parcel) (offset_ldsp parcel) x2
encoding_of c.Jr parcel = jalr x0 0 (rd parcel)
encoding_of c.Mv parcel = add (rd parcel) x0 (rs2 parcel)
encoding_of c.Ebreak parcel = ebreak
encoding_of c.Jalr parcel = jalr x1 0 (rd parcel)
encoding_of c.Add parcel = add (rd parcel) (rd parcel) (rs2 parcel)
encoding_of c.Swsp parcel = sw (rs2 parcel) (offset_swsp parcel) x2
encoding_of c.Sdsp parcel = sd (rs2 parcel) (offset_sdsp parcel) x2

-- the rows: quadrant, funct3 (or funct4, funct6) and further bits, and what is asked for beside them
unfoldable pub table : List Pattern
table =
    by_funct3 0 0 wide_imm_not_0 c.Addi4spn ∷
    by_funct3 0 2 Always c.Lw ∷
    by_funct3 0 3 Always c.Ld ∷
    by_funct3 0 6 Always c.Sw ∷
    by_funct3 0 7 Always c.Sd ∷
    by_funct3 1 0 Always c.Addi ∷
    by_funct3 1 1 rd_not_0 c.Addiw ∷
    by_funct3 1 2 Always c.Li ∷
    by_funct3_and_rd 1 3 2 imm_not_0 c.Addi16sp ∷
    by_funct3 1 3 imm_not_0_rd_not_2 c.Lui ∷
    by_funct3_and_funct2 1 4 0 Always c.Srli ∷
    by_funct3_and_funct2 1 4 1 Always c.Srai ∷
    by_funct3_and_funct2 1 4 2 Always c.Andi ∷
    by_funct6_and_funct2 1 0x23 0 Always c.Sub ∷
    by_funct6_and_funct2 1 0x23 1 Always c.Xor ∷
    by_funct6_and_funct2 1 0x23 2 Always c.Or ∷
    by_funct6_and_funct2 1 0x23 3 Always c.And ∷
    by_funct6_and_funct2 1 0x27 0 Always c.Subw ∷
    by_funct6_and_funct2 1 0x27 1 Always c.Addw ∷
    by_funct3 1 5 Always c.J ∷
    by_funct3 1 6 Always c.Beqz ∷
    by_funct3 1 7 Always c.Bnez ∷
    by_funct3 2 0 Always c.Slli ∷
    by_funct3 2 2 rd_not_0 c.Lwsp ∷
    by_funct3 2 3 rd_not_0 c.Ldsp ∷
    by_funct4_and_rs2 2 0x8 0 rd_not_0 c.Jr ∷
    by_funct4 2 0x8 rs2_not_0 c.Mv ∷
    by_parcel 0x9002 c.Ebreak ∷
    by_funct4_and_rs2 2 0x9 0 rd_not_0 c.Jalr ∷
    by_funct4 2 0x9 rs2_not_0 c.Add ∷
    by_funct3 2 6 Always c.Swsp ∷
    by_funct3 2 7 Always c.Sdsp ∷ []

-- the word of the row that the parcel meets
unfoldable pub expansion_by : List Pattern → ℕ → Option ℕ
expansion_by rows parcel = option_map (λ row. encoding_of row.op parcel) (find (λ row. meets row parcel) rows)

-- the 32-bit word that a parcel expands to, or none where it is reserved or no compressed instruction
unfoldable pub expansion_of : ℕ → Option ℕ
expansion_of parcel = expansion_by table parcel

-- the instruction of that word
unfoldable pub expanded_op_of : ℕ → Option Op
expanded_op_of parcel = option_and_then decoded_op_of (expansion_of parcel)
