-- The opcodes of words: of those that meet a row of the table, and of those that parcels expand to.
use Rattle.std.proofs.Common.{◌≡◌, ℕ, ◌+◌, ◌*◌, ◌%◌, ◌^◌, ◌<◌, Bool, true, false, ◌&&◌, bit_and, refl, arith, lit<}
use Rattle.std.proofs.lemmas.Nat.{and_mod, and_mask}
use Rattle.rv_compressed.specs.declared.compressed_op.CompressedOp.{CompressedOp}
use Rattle.rv_compressed.specs.declared.compressed_op.CompressedOp.TheVariants as c
use Rattle.rv_compressed.specs.Formats.{r_format, i_format, s_format, b_format, u_format, j_format}
use Rattle.rv_compressed.specs.Table.{encoding_of}

pub both : (a b : Bool) → (a && b) ≡ true → (a ≡ true) × (b ≡ true)
both true b h = (refl, h)
both false b h = cc

-- a row whose mask has all bits of the opcode has the opcode of each word that meets it
pub opcode_met : (mask bits word : ℕ) → mask % 128 ≡ 127 → bit_and word mask ≡ bits → bits % 128 ≡ word % 128
opcode_met mask bits word all met =
    let split : bit_and word mask % 128 ≡ bit_and (word % 128) (mask % 128) = and_mod word mask 7 in
    let kept : bit_and (word % 128) 127 ≡ word % 128 % 128 = and_mask (word % 128) 7 in
    let here : bits % 128 ≡ bit_and (word % 128) 127 = cc in
    omega arith

-- ---- parcels

low_r : (opcode funct3 funct7 rd rs1 rs2 : ℕ) → opcode < 128 → r_format opcode funct3 funct7 rd rs1 rs2 % 128 ≡ opcode
unfolding r_format
low_r opcode funct3 funct7 rd rs1 rs2 below = omega arith

low_i : (opcode funct3 rd rs1 immediate : ℕ) → opcode < 128 → i_format opcode funct3 rd rs1 immediate % 128 ≡ opcode
unfolding i_format
low_i opcode funct3 rd rs1 immediate below = omega arith

low_s_by : (opcode funct3 rs2 rs1 a b : ℕ) → opcode < 128
    → (a * 2 ^ 25 + rs2 * 2 ^ 20 + rs1 * 2 ^ 15 + funct3 * 2 ^ 12 + b * 2 ^ 7 + opcode) % 128 ≡ opcode
low_s_by opcode funct3 rs2 rs1 a b below = omega arith

low_s : (opcode funct3 rs2 rs1 offset : ℕ) → opcode < 128 → s_format opcode funct3 rs2 rs1 offset % 128 ≡ opcode
unfolding s_format
low_s opcode funct3 rs2 rs1 offset below = low_s_by opcode funct3 rs2 rs1 _ _ below

low_b : (opcode funct3 rs1 rs2 offset : ℕ) → opcode < 128 → b_format opcode funct3 rs1 rs2 offset % 128 ≡ opcode
unfolding b_format
low_b opcode funct3 rs1 rs2 offset below = by _ _ _ _
  where
    by : (a b c d : ℕ)
        → (a * 2 ^ 31 + b * 2 ^ 25 + rs2 * 2 ^ 20 + rs1 * 2 ^ 15 + funct3 * 2 ^ 12 + c * 2 ^ 8 + d * 2 ^ 7 + opcode)
        % 128 ≡ opcode
    by a b c d = omega arith

low_u : (opcode rd upper : ℕ) → opcode < 128 → u_format opcode rd upper % 128 ≡ opcode
unfolding u_format
low_u opcode rd upper below = omega arith

low_j_by : (opcode rd a b c d : ℕ) → opcode < 128
    → (a * 2 ^ 31 + b * 2 ^ 21 + c * 2 ^ 20 + d * 2 ^ 12 + rd * 2 ^ 7 + opcode) % 128 ≡ opcode
low_j_by opcode rd a b c d below = omega arith

low_j : (opcode rd offset : ℕ) → opcode < 128 → j_format opcode rd offset % 128 ≡ opcode
unfolding j_format
low_j opcode rd offset below = low_j_by opcode rd _ _ _ _ below

abbrev pub opcode_of : CompressedOp → ℕ
opcode_of c.Addi4spn = 0x13
opcode_of c.Lw = 0x03
opcode_of c.Ld = 0x03
opcode_of c.Sw = 0x23
opcode_of c.Sd = 0x23
opcode_of c.Addi = 0x13
opcode_of c.Addiw = 0x1b
opcode_of c.Li = 0x13
opcode_of c.Addi16sp = 0x13
opcode_of c.Lui = 0x37
opcode_of c.Srli = 0x13
opcode_of c.Srai = 0x13
opcode_of c.Andi = 0x13
opcode_of c.Sub = 0x33
opcode_of c.Xor = 0x33
opcode_of c.Or = 0x33
opcode_of c.And = 0x33
opcode_of c.Subw = 0x3b
opcode_of c.Addw = 0x3b
opcode_of c.J = 0x6f
opcode_of c.Beqz = 0x63
opcode_of c.Bnez = 0x63
opcode_of c.Slli = 0x13
opcode_of c.Lwsp = 0x03
opcode_of c.Ldsp = 0x03
opcode_of c.Jr = 0x67
opcode_of c.Mv = 0x33
opcode_of c.Ebreak = 0x73
opcode_of c.Jalr = 0x67
opcode_of c.Add = 0x33
opcode_of c.Swsp = 0x23
opcode_of c.Sdsp = 0x23

pub word_opcode : (op : CompressedOp) (parcel : ℕ) → encoding_of op parcel % 128 ≡ opcode_of op
unfolding encoding_of
word_opcode c.Addi4spn parcel = low_i 0x13 _ _ _ _ (lit< tt)
word_opcode c.Lw parcel = low_i 0x03 _ _ _ _ (lit< tt)
word_opcode c.Ld parcel = low_i 0x03 _ _ _ _ (lit< tt)
word_opcode c.Sw parcel = low_s 0x23 _ _ _ _ (lit< tt)
word_opcode c.Sd parcel = low_s 0x23 _ _ _ _ (lit< tt)
word_opcode c.Addi parcel = low_i 0x13 _ _ _ _ (lit< tt)
word_opcode c.Addiw parcel = low_i 0x1b _ _ _ _ (lit< tt)
word_opcode c.Li parcel = low_i 0x13 _ _ _ _ (lit< tt)
word_opcode c.Addi16sp parcel = low_i 0x13 _ _ _ _ (lit< tt)
word_opcode c.Lui parcel = low_u 0x37 _ _ (lit< tt)
word_opcode c.Srli parcel = low_i 0x13 _ _ _ _ (lit< tt)
word_opcode c.Srai parcel = low_i 0x13 _ _ _ _ (lit< tt)
word_opcode c.Andi parcel = low_i 0x13 _ _ _ _ (lit< tt)
word_opcode c.Sub parcel = low_r 0x33 _ _ _ _ _ (lit< tt)
word_opcode c.Xor parcel = low_r 0x33 _ _ _ _ _ (lit< tt)
word_opcode c.Or parcel = low_r 0x33 _ _ _ _ _ (lit< tt)
word_opcode c.And parcel = low_r 0x33 _ _ _ _ _ (lit< tt)
word_opcode c.Subw parcel = low_r 0x3b _ _ _ _ _ (lit< tt)
word_opcode c.Addw parcel = low_r 0x3b _ _ _ _ _ (lit< tt)
word_opcode c.J parcel = low_j 0x6f _ _ (lit< tt)
word_opcode c.Beqz parcel = low_b 0x63 _ _ _ _ (lit< tt)
word_opcode c.Bnez parcel = low_b 0x63 _ _ _ _ (lit< tt)
word_opcode c.Slli parcel = low_i 0x13 _ _ _ _ (lit< tt)
word_opcode c.Lwsp parcel = low_i 0x03 _ _ _ _ (lit< tt)
word_opcode c.Ldsp parcel = low_i 0x03 _ _ _ _ (lit< tt)
word_opcode c.Jr parcel = low_i 0x67 _ _ _ _ (lit< tt)
word_opcode c.Mv parcel = low_r 0x33 _ _ _ _ _ (lit< tt)
word_opcode c.Ebreak parcel = refl
word_opcode c.Jalr parcel = low_i 0x67 _ _ _ _ (lit< tt)
word_opcode c.Add parcel = low_r 0x33 _ _ _ _ _ (lit< tt)
word_opcode c.Swsp parcel = low_s 0x23 _ _ _ _ (lit< tt)
word_opcode c.Sdsp parcel = low_s 0x23 _ _ _ _ (lit< tt)
