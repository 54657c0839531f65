-- Which operations the words of plain rows mean: none of SYSTEM, and none that is atomic.
use Rattle.std.proofs.Common.{◌≡◌, ℕ, ◌/◌, ◌%◌, ◌^◌, ◌<◌, Bool, true, false, not, ◌&&◌, List, [], ◌∷◌, Option, None}
use Rattle.std.proofs.Common.{Some, bit_and, ◌==◌, refl, sym, ◌∙◌, ap, subst, arith, if◌then◌else◌, lit<, ◌-◌}
use Rattle.std.specs.Prelude.{◌||◌}
use Rattle.std.specs.List.{list_all, find}
use Rattle.std.specs.Option.{option_map, option_and_then, option_or}
use Rattle.std.proofs.lemmas.Nat.{and_mask}
use Rattle.std.proofs.lemmas.Bool.{eqb-true}
use Rattle.std.proofs.lemmas.Bool.Decides.{nat_tests}
use Rattle.rv_decode.specs.declared.operation.Op.{Op}
use Rattle.rv_decode.specs.declared.operation.Op.TheVariants as ops
use Rattle.rv_decode.specs.declared.patterns.Form.{Form}
use Rattle.rv_decode.specs.declared.patterns.Form.TheVariants as forms
use Rattle.rv_decode.specs.declared.patterns.Pattern.{Pattern}
use Rattle.rv_decode.specs.Fields.{operation_of}
use Rattle.rv_decode.specs.Operands.{operands_of}
use Rattle.rv_decode.specs.Table.{opcodes, opcodes_with, bits_opcodes, all_rows, rows_of_opcode, meets, decoded_op_by}
use Rattle.rv_decode.specs.Table.{Opcode, decoded_op_of, decoded_op_with}
use Rattle.rv_compressed.specs.declared.compressed_op.CompressedOp.{CompressedOp}
use Rattle.rv_compressed.specs.declared.patterns.Pattern.{Pattern as Parcel}
use Rattle.rv_compressed.specs.Patterns.{holds, meets as meets_parcel}
use Rattle.hart_step.specs.declared.state.Core.{Core}
use Rattle.hart_step.specs.Instructions.{op_for}
use Rattle.hart_step.specs.PlainRows.{is_store}
use Rattle.rv_decode.proofs.ByOpcode.{further, without}
use Rattle.hart_step.proofs.WordOpcodes.{both, opcode_met, opcode_of, word_opcode}
use Rattle.rv_compressed.specs.Table.{table, encoding_of, expansion_by, expansion_of, expanded_op_of}

-- neither of SYSTEM nor atomic
abbrev pub is_plain_op : Op → Bool
is_plain_op (ops.Lui rd imm) = true
is_plain_op (ops.Auipc rd imm) = true
is_plain_op (ops.Jal rd offset) = true
is_plain_op (ops.Jalr rd rs1 offset) = true
is_plain_op (ops.Branch op rs1 rs2 offset) = true
is_plain_op (ops.Load op rd rs1 offset) = true
is_plain_op (ops.Store op rs1 rs2 offset) = true
is_plain_op (ops.Immediate op rd rs1 imm) = true
is_plain_op (ops.ImmediateWord op rd rs1 imm) = true
is_plain_op (ops.Register op rd rs1 rs2) = true
is_plain_op (ops.RegisterWord op rd rs1 rs2) = true
is_plain_op (ops.BitsRegister op rd rs1 rs2) = true
is_plain_op (ops.BitsImmediate op rd rs1 imm) = true
is_plain_op (ops.BitsUnary op rd rs1) = true
is_plain_op ops.Fence = true
is_plain_op ops.FenceI = true
is_plain_op ops.Ecall = false
is_plain_op ops.Ebreak = false
is_plain_op ops.Mret = false
is_plain_op ops.Sret = false
is_plain_op ops.Wfi = false
is_plain_op (ops.SfenceVma rs1 rs2) = false
is_plain_op (ops.Csr op rd rs1 csr) = false
is_plain_op (ops.CsrImmediate op rd imm csr) = false
is_plain_op (ops.LoadReserved width rd rs1) = false
is_plain_op (ops.StoreConditional width rd rs1 rs2) = false
is_plain_op (ops.Amo op width rd rs1 rs2) = false

-- the same of forms
abbrev is_plain_form : Form → Bool
is_plain_form forms.Lui = true
is_plain_form forms.Auipc = true
is_plain_form forms.Jal = true
is_plain_form forms.Jalr = true
is_plain_form (forms.Branch op) = true
is_plain_form (forms.Load op) = true
is_plain_form (forms.Store op) = true
is_plain_form (forms.Immediate op) = true
is_plain_form (forms.Shift op) = true
is_plain_form (forms.ImmediateWord op) = true
is_plain_form (forms.ShiftWord op) = true
is_plain_form (forms.Register op) = true
is_plain_form (forms.RegisterWord op) = true
is_plain_form (forms.BitsRegister op) = true
is_plain_form (forms.BitsShift op) = true
is_plain_form (forms.BitsShiftWord op) = true
is_plain_form (forms.BitsUnary op) = true
is_plain_form forms.Fence = true
is_plain_form forms.FenceI = true
is_plain_form forms.Ecall = false
is_plain_form forms.Ebreak = false
is_plain_form forms.Mret = false
is_plain_form forms.Sret = false
is_plain_form forms.Wfi = false
is_plain_form forms.SfenceVma = false
is_plain_form (forms.Csr op) = false
is_plain_form (forms.CsrImmediate op) = false
is_plain_form (forms.LoadReserved width) = false
is_plain_form (forms.StoreConditional width) = false
is_plain_form (forms.Amo op width) = false

of_form : (form : Form) (word : ℕ) → is_plain_op (operation_of form word) ≡ is_plain_form form
of_form forms.Lui word = refl
of_form forms.Auipc word = refl
of_form forms.Jal word = refl
of_form forms.Jalr word = refl
of_form (forms.Branch op) word = refl
of_form (forms.Load op) word = refl
of_form (forms.Store op) word = refl
of_form (forms.Immediate op) word = refl
of_form (forms.Shift op) word = refl
of_form (forms.ImmediateWord op) word = refl
of_form (forms.ShiftWord op) word = refl
of_form (forms.Register op) word = refl
of_form (forms.RegisterWord op) word = refl
of_form (forms.BitsRegister op) word = refl
of_form (forms.BitsShift op) word = refl
of_form (forms.BitsShiftWord op) word = refl
of_form (forms.BitsUnary op) word = refl
of_form forms.Fence word = refl
of_form forms.FenceI word = refl
of_form forms.Ecall word = refl
of_form forms.Ebreak word = refl
of_form forms.Mret word = refl
of_form forms.Sret word = refl
of_form forms.Wfi word = refl
of_form forms.SfenceVma word = refl
of_form (forms.Csr op) word = refl
of_form (forms.CsrImmediate op) word = refl
of_form (forms.LoadReserved width) word = refl
of_form (forms.StoreConditional width) word = refl
of_form (forms.Amo op width) word = refl

-- the opcode is SYSTEM or AMO
abbrev is_special : ℕ → Bool
is_special code = code == 0x73 || code == 0x2f

-- the row's form is plain, or the row fixes one of those opcodes
abbrev is_told : Pattern → Bool
is_told row = is_plain_form row.form || ((row.mask % 128 == 127) && is_special (row.bits % 128))

told_by : (plain : Bool) (row : Pattern) (word : ℕ)
    → (plain || ((row.mask % 128 == 127) && is_special (row.bits % 128))) ≡ true → meets row word ≡ true
    → is_special (word % 128) ≡ false → plain ≡ true
told_by true row word known_files met other = refl
told_by false row word known_files met other =
    let parts = both (row.mask % 128 == 127) (is_special (row.bits % 128)) known_files in
    let same = opcode_met row.mask row.bits word (eqb-true _ _ parts.0) (eqb-true _ _ met) in
    let special : is_special (word % 128) ≡ true = ap is_special (sym same) ∙ parts.1 in
    absurd cc

some_same : {A : Type 0} (x y : A) → Some x ≡ Some y → x ≡ y
some_same x y is = cc

plain_among : (rows : List Pattern) (word : ℕ) (op : Op) → list_all is_told rows ≡ true
    → is_special (word % 128) ≡ false
    → option_map (λ row. operation_of row.form word) (find (λ row. meets row word) rows) ≡ Some op
    → is_plain_op op ≡ true
plain_among [] word op known_files other is = absurd cc
plain_among (row ∷ rows) word op known_files other is =
    let parts = both (is_told row) (list_all is_told rows) known_files in
    by (meets row word) parts.0 refl (plain_among rows word op parts.1 other) is
  where
    by : (test : Bool) → is_told row ≡ true → meets row word ≡ test
        → (option_map (λ row. operation_of row.form word) (find (λ row. meets row word) rows) ≡ Some op
        → is_plain_op op ≡ true)
        → option_map (λ row. operation_of row.form word)
        (if test then Some row else find (λ row. meets row word) rows) ≡ Some op → is_plain_op op ≡ true
    by true told met more at =
        let same : operation_of row.form word ≡ op = some_same _ _ at in
        ap is_plain_op (sym same) ∙ of_form row.form word ∙ told_by (is_plain_form row.form) row word told met other
    by false told met more at = more at

pub plain_decoded : (word : ℕ) (op : Op) → is_special (word % 128) ≡ false → decoded_op_of word ≡ Some op
    → is_plain_op op ≡ true
unfolding decoded_op_of decoded_op_by opcodes
plain_decoded word op other is = plain_among (all_rows opcodes) word op refl other is

pub plain_decoded_with : (bits : Bool) (word : ℕ) (op : Op) → is_special (word % 128) ≡ false
    → decoded_op_with word bits ≡ Some op → is_plain_op op ≡ true
unfolding decoded_op_with decoded_op_by opcodes bits_opcodes
plain_decoded_with false word op other is = plain_among (all_rows (opcodes_with false)) word op refl other is
plain_decoded_with true word op other is = plain_among (all_rows (opcodes_with true)) word op refl other is

-- ---- compressed instructions: none but C.EBREAK expands to such a word

common_word : (op : CompressedOp) (parcel : ℕ) → is_special (opcode_of op) ≡ false
    → is_special (encoding_of op parcel % 128) ≡ false
common_word op parcel other = ap is_special (word_opcode op parcel) ∙ other

-- the row's word has another opcode, or the row fixes the whole parcel
abbrev is_told_parcel : Parcel → Bool
is_told_parcel row = not (is_special (opcode_of row.op)) || ((row.mask == 2 ^ 16 - 1) && (row.bits == 0x9002))

parcel_told : (special : Bool) (row : Parcel) (parcel : ℕ)
    → (not special || ((row.mask == 2 ^ 16 - 1) && (row.bits == 0x9002))) ≡ true → meets_parcel row parcel ≡ true
    → parcel < 2 ^ 16 → (parcel == 0x9002) ≡ false → special ≡ false
parcel_told false row parcel known_files met short other = refl
parcel_told true row parcel known_files met short other =
    let parts = both (row.mask == 2 ^ 16 - 1) (row.bits == 0x9002) known_files in
    let here = both (bit_and parcel row.mask == row.bits) (holds row.condition parcel) met in
    let fixed : bit_and parcel row.mask ≡ row.bits = eqb-true _ _ here.0 in
    let mask : row.mask ≡ 2 ^ 16 - 1 = eqb-true _ _ parts.0 in
    let bits : row.bits ≡ 0x9002 = eqb-true _ _ parts.1 in
    let low : bit_and parcel (2 ^ 16 - 1) ≡ parcel % 2 ^ 16 = and_mask parcel 16 in
    let whole : parcel ≡ 0x9002 = omega (arith, low, sym (ap (bit_and parcel) mask) ∙ fixed ∙ bits, short) in
    absurd (grind (arith, nat_tests, whole, other))

common_among : (rows : List Parcel) (parcel word : ℕ) → list_all is_told_parcel rows ≡ true → parcel < 2 ^ 16
    → (parcel == 0x9002) ≡ false
    → option_map (λ row. encoding_of row.op parcel) (find (λ row. meets_parcel row parcel) rows) ≡ Some word
    → is_special (word % 128) ≡ false
common_among [] parcel word known_files short other is = absurd cc
common_among (row ∷ rows) parcel word known_files short other is =
    let parts = both (is_told_parcel row) (list_all is_told_parcel rows) known_files in
    by (meets_parcel row parcel) parts.0 refl (common_among rows parcel word parts.1 short other) is
  where
    by : (test : Bool) → is_told_parcel row ≡ true → meets_parcel row parcel ≡ test
        → (option_map (λ row. encoding_of row.op parcel) (find (λ row. meets_parcel row parcel) rows) ≡ Some word
        → is_special (word % 128) ≡ false)
        → option_map (λ row. encoding_of row.op parcel)
        (if test then Some row else find (λ row. meets_parcel row parcel) rows) ≡ Some word
        → is_special (word % 128) ≡ false
    by true told met more at =
        let same : encoding_of row.op parcel ≡ word = some_same _ _ at in
        ap (λ w. is_special (w % 128)) (sym same)
        ∙ common_word row.op parcel (parcel_told (is_special (opcode_of row.op)) row parcel told met short other)
    by false told met more at = more at

expansion_common : (parcel word : ℕ) → parcel < 2 ^ 16 → (parcel == 0x9002) ≡ false → expansion_of parcel ≡ Some word
    → is_special (word % 128) ≡ false
unfolding expansion_of expansion_by table
expansion_common parcel word short other is = common_among table parcel word refl short other is

plain_expanded_by : (parcel : ℕ) (op : Op) (expansion : Option ℕ) → expansion_of parcel ≡ expansion → parcel < 2 ^ 16
    → (parcel == 0x9002) ≡ false → option_and_then decoded_op_of expansion ≡ Some op → is_plain_op op ≡ true
plain_expanded_by parcel op None at short other is = absurd cc
plain_expanded_by parcel op (Some word) at short other is =
    plain_decoded word op (expansion_common parcel word short other at) is

pub plain_expanded : (parcel : ℕ) (op : Op) → parcel < 2 ^ 16 → (parcel == 0x9002) ≡ false
    → expanded_op_of parcel ≡ Some op → is_plain_op op ≡ true
unfolding expanded_op_of
plain_expanded parcel op short other is = plain_expanded_by parcel op (expansion_of parcel) refl short other is

-- ---- all operations are those of forms

decoded_by_form : (P : Op → Type 0) → ((form : Form) (word : ℕ) → P (operation_of form word))
    → (found : Option Pattern) (word : ℕ) (op : Op) → option_map (λ row. operation_of row.form word) found ≡ Some op
    → P op
decoded_by_form P holds None word op is = absurd cc
decoded_by_form P holds (Some row) word op is = subst P (some_same _ _ is) (holds row.form word)

decoded_form : (P : Op → Type 0) → ((form : Form) (word : ℕ) → P (operation_of form word)) → (word : ℕ) (op : Op)
    → decoded_op_of word ≡ Some op → P op
unfolding decoded_op_of decoded_op_by
decoded_form P holds word op is = decoded_by_form P holds (find (λ row. meets row word) (all_rows opcodes)) word op is

decoded_form_with : (P : Op → Type 0) → ((form : Form) (word : ℕ) → P (operation_of form word)) → (bits : Bool)
    (word : ℕ) (op : Op) → decoded_op_with word bits ≡ Some op → P op
unfolding decoded_op_with decoded_op_by
decoded_form_with P holds bits word op is =
    decoded_by_form P holds (find (λ row. meets row word) (all_rows (opcodes_with bits))) word op is

expanded_form : (P : Op → Type 0) → ((form : Form) (word : ℕ) → P (operation_of form word))
    → (expansion : Option ℕ) (op : Op) → option_and_then decoded_op_of expansion ≡ Some op → P op
expanded_form P holds None op is = absurd cc
expanded_form P holds (Some word) op is = decoded_form P holds word op is

form_by : (P : Op → Type 0) → ((form : Form) (word : ℕ) → P (operation_of form word)) → (manipulates short : Bool)
    (bits : ℕ) (op : Op)
    → (if short then expanded_op_of bits else decoded_op_with bits manipulates) ≡ Some op → P op
unfolding expanded_op_of
form_by P holds manipulates true bits op is = expanded_form P holds (expansion_of bits) op is
form_by P holds manipulates false bits op is = decoded_form_with P holds manipulates bits op is

pub of_some_form : (P : Op → Type 0) → ((form : Form) (word : ℕ) → P (operation_of form word))
    → (core : Core) (bits len : ℕ) (op : Op) → op_for core bits len ≡ Some op → P op
of_some_form P holds core bits len op is = form_by P holds core.choices.bits (len == 2) bits op is

five_bits : (word : ℕ) → word / 2 ^ 7 % 2 ^ 5 < 32
five_bits word = omega arith

destination_by_form : (form : Form) (word : ℕ) → (operands_of (operation_of form word)).rd < 32
destination_by_form forms.Lui word = five_bits word
destination_by_form forms.Auipc word = five_bits word
destination_by_form forms.Jal word = five_bits word
destination_by_form forms.Jalr word = five_bits word
destination_by_form (forms.Branch op) word = lit< tt
destination_by_form (forms.Load op) word = five_bits word
destination_by_form (forms.Store op) word = lit< tt
destination_by_form (forms.Immediate op) word = five_bits word
destination_by_form (forms.Shift op) word = five_bits word
destination_by_form (forms.ImmediateWord op) word = five_bits word
destination_by_form (forms.ShiftWord op) word = five_bits word
destination_by_form (forms.Register op) word = five_bits word
destination_by_form (forms.RegisterWord op) word = five_bits word
destination_by_form (forms.BitsRegister op) word = five_bits word
destination_by_form (forms.BitsShift op) word = five_bits word
destination_by_form (forms.BitsShiftWord op) word = five_bits word
destination_by_form (forms.BitsUnary op) word = five_bits word
destination_by_form forms.Fence word = lit< tt
destination_by_form forms.FenceI word = lit< tt
destination_by_form forms.Ecall word = lit< tt
destination_by_form forms.Ebreak word = lit< tt
destination_by_form forms.Mret word = lit< tt
destination_by_form forms.Sret word = lit< tt
destination_by_form forms.Wfi word = lit< tt
destination_by_form forms.SfenceVma word = lit< tt
destination_by_form (forms.Csr op) word = five_bits word
destination_by_form (forms.CsrImmediate op) word = five_bits word
destination_by_form (forms.LoadReserved width) word = five_bits word
destination_by_form (forms.StoreConditional width) word = five_bits word
destination_by_form (forms.Amo op width) word = five_bits word

pub destination_below : (core : Core) (bits len : ℕ) (op : Op) → op_for core bits len ≡ Some op
    → (operands_of op).rd < 32
destination_below core bits len op is =
    of_some_form (λ op. (operands_of op).rd < 32) destination_by_form core bits len op is

-- ---- no further row of bit manipulation is a store

abbrev is_store_form : Form → Bool
is_store_form (forms.Store op) = true
is_store_form _ = false

-- the rows of an opcode have no store
abbrev has_no_store : List Pattern → Bool
has_no_store rows = list_all (λ row. not (is_store_form row.form)) rows

further_rows : (map : List Opcode) (code : ℕ) → list_all (λ opcode. has_no_store opcode.rows) map ≡ true
    → has_no_store (rows_of_opcode map code) ≡ true
further_rows [] code known_files = refl
further_rows (opcode ∷ more) code known_files =
    let parts = both (has_no_store opcode.rows) (list_all (λ opcode. has_no_store opcode.rows) more) known_files in
    by (opcode.code == code) parts.0 (further_rows more code parts.1)
  where
    by : (test : Bool) → has_no_store opcode.rows ≡ true → has_no_store (rows_of_opcode more code) ≡ true
        → has_no_store (if test then opcode.rows else rows_of_opcode more code) ≡ true
    by true here later = here
    by false here later = later

no_store : (form : Form) (word : ℕ) → not (is_store_form form) ≡ true
    → is_store (Some (operation_of form word)) ≡ false
no_store forms.Lui word other = refl
no_store forms.Auipc word other = refl
no_store forms.Jal word other = refl
no_store forms.Jalr word other = refl
no_store (forms.Branch op) word other = refl
no_store (forms.Load op) word other = refl
no_store (forms.Store op) word other = absurd cc
no_store (forms.Immediate op) word other = refl
no_store (forms.Shift op) word other = refl
no_store (forms.ImmediateWord op) word other = refl
no_store (forms.ShiftWord op) word other = refl
no_store (forms.Register op) word other = refl
no_store (forms.RegisterWord op) word other = refl
no_store (forms.BitsRegister op) word other = refl
no_store (forms.BitsShift op) word other = refl
no_store (forms.BitsShiftWord op) word other = refl
no_store (forms.BitsUnary op) word other = refl
no_store forms.Fence word other = refl
no_store forms.FenceI word other = refl
no_store forms.Ecall word other = refl
no_store forms.Ebreak word other = refl
no_store forms.Mret word other = refl
no_store forms.Sret word other = refl
no_store forms.Wfi word other = refl
no_store forms.SfenceVma word other = refl
no_store (forms.Csr op) word other = refl
no_store (forms.CsrImmediate op) word other = refl
no_store (forms.LoadReserved width) word other = refl
no_store (forms.StoreConditional width) word other = refl
no_store (forms.Amo op width) word other = refl

none_among : (rows : List Pattern) (word : ℕ) → has_no_store rows ≡ true
    → is_store (option_map (λ row. operation_of row.form word) (find (λ row. meets row word) rows)) ≡ false
none_among [] word known_files = refl
none_among (row ∷ rows) word known_files =
    let parts = both (not (is_store_form row.form)) (has_no_store rows) known_files in
    by (meets row word) parts.0 (none_among rows word parts.1)
  where
    by : (test : Bool) → not (is_store_form row.form) ≡ true
        → is_store (option_map (λ row. operation_of row.form word) (find (λ row. meets row word) rows)) ≡ false
        → is_store (option_map (λ row. operation_of row.form word)
        (if test then Some row else find (λ row. meets row word) rows)) ≡ false
    by true here later = no_store row.form word here
    by false here later = later

further_stores : (word : ℕ) → is_store (decoded_op_by (rows_of_opcode bits_opcodes (word % 128)) word) ≡ false
unfolding decoded_op_by bits_opcodes
further_stores word =
    none_among (rows_of_opcode bits_opcodes (word % 128)) word (further_rows bits_opcodes (word % 128) refl)

or_stores : (one other : Option Op) → is_store other ≡ false → is_store (option_or one other) ≡ is_store one
or_stores None other none = none
or_stores (Some op) other none = refl

-- so a word is a store with bit manipulation just where it is one without
pub stores_alike : (bits : Bool) (word : ℕ) → is_store (decoded_op_with word bits) ≡ is_store (decoded_op_of word)
stores_alike false word = ap is_store (without word)
stores_alike true word =
    ap is_store (further word)
    ∙ or_stores (decoded_op_of word) (decoded_op_by (rows_of_opcode bits_opcodes (word % 128)) word)
    (further_stores word)
