-- What a row of the listing fixes of a parcel, by the columns that it fills, and which of its parcels are reserved.
-- From the Unprivileged ISA's chapter on the C extension ("Compressed Instruction Formats", "RVC Instruction Set
-- Listings").
use Rattle.std.specs.Prelude.{ℕ, ◌+◌, ◌*◌, ◌^◌, Bool, true, not, ◌&&◌, bit_and, ◌==◌}
use Rattle.rv_decode.specs.Patterns.{ones}
use Rattle.rv_compressed.specs.declared.compressed_op.CompressedOp.{CompressedOp}
use Rattle.rv_compressed.specs.declared.patterns.Condition.{Condition}
use Rattle.rv_compressed.specs.declared.patterns.Condition.TheVariants.{Always, NotZero, NotZeroNorX2}
use Rattle.rv_compressed.specs.declared.patterns.Pattern.{Pattern}

-- the row fixes these bits too
abbrev pub with_field : ℕ → ℕ → ℕ → Pattern → Pattern
with_field first count value row =
    record {
      mask = ones first count + row.mask;
      bits = value * 2 ^ first + row.bits;
      condition = row.condition;
      op = row.op;
    }

-- bits 1:0 are the quadrant
abbrev pub by_quadrant : ℕ → Condition → CompressedOp → Pattern
by_quadrant quadrant condition op =
    record { mask = ones 0 2; bits = quadrant; condition = condition; op = op }

-- bits 15:13 are funct3 too
abbrev pub by_funct3 : ℕ → ℕ → Condition → CompressedOp → Pattern
by_funct3 quadrant funct3 condition op = with_field 13 3 funct3 (by_quadrant quadrant condition op)

-- and bits 11:7, rd
abbrev pub by_funct3_and_rd : ℕ → ℕ → ℕ → Condition → CompressedOp → Pattern
by_funct3_and_rd quadrant funct3 rd condition op =
    with_field 7 5 rd (by_funct3 quadrant funct3 condition op)

-- and bits 11:10, funct2
abbrev pub by_funct3_and_funct2 : ℕ → ℕ → ℕ → Condition → CompressedOp → Pattern
by_funct3_and_funct2 quadrant funct3 funct2 condition op =
    with_field 10 2 funct2 (by_funct3 quadrant funct3 condition op)

-- bits 15:10 are funct6, bits 6:5 funct2
abbrev pub by_funct6_and_funct2 : ℕ → ℕ → ℕ → Condition → CompressedOp → Pattern
by_funct6_and_funct2 quadrant funct6 funct2 condition op =
    with_field 5 2 funct2 (with_field 10 6 funct6 (by_quadrant quadrant condition op))

-- bits 15:12 are funct4
abbrev pub by_funct4 : ℕ → ℕ → Condition → CompressedOp → Pattern
by_funct4 quadrant funct4 condition op = with_field 12 4 funct4 (by_quadrant quadrant condition op)

-- and bits 6:2, rs2
abbrev pub by_funct4_and_rs2 : ℕ → ℕ → ℕ → Condition → CompressedOp → Pattern
by_funct4_and_rs2 quadrant funct4 rs2 condition op =
    with_field 2 5 rs2 (by_funct4 quadrant funct4 condition op)

-- the whole parcel
abbrev pub by_parcel : ℕ → CompressedOp → Pattern
by_parcel parcel op = record { mask = ones 0 16; bits = parcel; condition = Always; op = op }

-- the register of bits 11:7, written or read, is not x0
abbrev pub rd_not_0 : Condition
rd_not_0 = NotZero (ones 7 5)

-- the register of bits 6:2 is not x0
abbrev pub rs2_not_0 : Condition
rs2_not_0 = NotZero (ones 2 5)

-- the immediate of bits 12 and 6:2 is not 0
abbrev pub imm_not_0 : Condition
imm_not_0 = NotZero (ones 12 1 + ones 2 5)

-- the same, and rd is not x2
abbrev pub imm_not_0_rd_not_2 : Condition
imm_not_0_rd_not_2 = NotZeroNorX2 (ones 12 1 + ones 2 5)

-- the immediate of bits 12:5 is not 0
abbrev pub wide_imm_not_0 : Condition
wide_imm_not_0 = NotZero (ones 5 8)

-- what a row asks for beside its fixed bits
abbrev pub holds : Condition → ℕ → Bool
holds Always parcel = true
holds (NotZero mask) parcel = not (bit_and parcel mask == 0)
holds (NotZeroNorX2 mask) parcel =
    not (bit_and parcel mask == 0) && not (bit_and parcel (ones 7 5) == 2 * 2 ^ 7)

-- the parcel meets the row
abbrev pub meets : Pattern → ℕ → Bool
meets row parcel = (bit_and parcel row.mask == row.bits) && holds row.condition parcel
