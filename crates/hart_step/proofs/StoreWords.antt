-- What the fixed bits of a store's word are: those of its opcode, or of its quadrant and funct3.
use Rattle.std.proofs.Common.{◌≡◌, ◌≢◌, ℕ, ◌/◌, ◌%◌, ◌^◌, Bool, true, false, not, ◌&&◌, List, [], ◌∷◌, Option, None}
use Rattle.std.proofs.Common.{Some, bit_and, ◌==◌, refl, sym, ◌∙◌, ap, arith, if◌then◌else◌}
use Rattle.std.specs.Prelude.{◌||◌}
use Rattle.std.specs.List.{list_all, find}
use Rattle.std.specs.Option.{option_map, option_and_then}
use Rattle.std.proofs.lemmas.Nat.{and_mod, and_mask, and_shr}
use Rattle.std.proofs.lemmas.Bool.{eqb-true, ne_eqb}
use Rattle.std.proofs.lemmas.Bool.Decides.{nat_tests}
use Rattle.rv_decode.specs.declared.opcodes.TheConstants.{STORE}
use Rattle.rv_decode.specs.declared.patterns.Form.{Form}
use Rattle.rv_decode.specs.declared.patterns.Form.TheVariants as forms
use Rattle.rv_decode.specs.declared.patterns.Pattern.{Pattern}
use Rattle.rv_decode.specs.Fields.{operation_of}
use Rattle.rv_decode.specs.Table.{opcodes, all_rows, meets, decoded_op_by, decoded_op_of}
use Rattle.rv_compressed.specs.declared.patterns.Pattern.{Pattern as Parcel}
use Rattle.rv_compressed.specs.Patterns.{holds, meets as meets_parcel}
use Rattle.rv_compressed.specs.Table.{table, encoding_of, expansion_by, expansion_of, expanded_op_of}
use Rattle.hart_step.specs.Instructions.{op_of}
use Rattle.hart_step.specs.PlainRows.{insn_bits_of, is_store, insn_length_of}
use Rattle.hart_step.proofs.WordOpcodes.{both, opcode_met, opcode_of, word_opcode}

-- ---- words of 32 bits

abbrev is_store_form : Form → Bool
is_store_form (forms.Store op) = true
is_store_form _ = false

of_form : (form : Form) (word : ℕ) → is_store (Some (operation_of form word)) ≡ is_store_form form
of_form forms.Lui word = refl
of_form forms.Auipc word = refl
of_form forms.Jal word = refl
of_form forms.Jalr word = refl
of_form (forms.Branch op) word = refl
of_form (forms.Load op) word = refl
of_form (forms.Store op) word = refl
of_form (forms.Immediate op) word = refl
of_form (forms.Shift op) word = refl
of_form (forms.ImmediateWord op) word = refl
of_form (forms.ShiftWord op) word = refl
of_form (forms.Register op) word = refl
of_form (forms.RegisterWord op) word = refl
of_form forms.Fence word = refl
of_form forms.FenceI word = refl
of_form forms.Ecall word = refl
of_form forms.Ebreak word = refl
of_form forms.Mret word = refl
of_form forms.Sret word = refl
of_form forms.Wfi word = refl
of_form forms.SfenceVma word = refl
of_form (forms.Csr op) word = refl
of_form (forms.CsrImmediate op) word = refl
of_form (forms.LoadReserved width) word = refl
of_form (forms.StoreConditional width) word = refl
of_form (forms.Amo op width) word = refl
of_form (forms.BitsRegister op) word = refl
of_form (forms.BitsShift op) word = refl
of_form (forms.BitsShiftWord op) word = refl
of_form (forms.BitsUnary op) word = refl

-- the row's form is no store, or the row fixes the opcode STORE
abbrev is_told : Pattern → Bool
is_told row = not (is_store_form row.form) || ((row.mask % 128 == 127) && (row.bits % 128 == STORE))

told_by : (stores : Bool) (row : Pattern) (word : ℕ)
    → (not stores || ((row.mask % 128 == 127) && (row.bits % 128 == STORE))) ≡ true → meets row word ≡ true
    → stores ≡ true → word % 128 ≡ STORE
told_by true row word known_files met is =
    let parts = both (row.mask % 128 == 127) (row.bits % 128 == STORE) known_files in
    sym (opcode_met row.mask row.bits word (eqb-true _ _ parts.0) (eqb-true _ _ met)) ∙ eqb-true _ _ parts.1
told_by false row word known_files met is = absurd cc

stores_by : (test : Bool) (row : Pattern) (rest : Option Pattern) (word : ℕ) → is_told row ≡ true
    → meets row word ≡ test
    → (is_store (option_map (λ row. operation_of row.form word) rest) ≡ true → word % 128 ≡ STORE)
    → is_store (option_map (λ row. operation_of row.form word) (if test then Some row else rest)) ≡ true
    → word % 128 ≡ STORE
stores_by true row rest word known_files met more is =
    told_by (is_store_form row.form) row word known_files met (sym (of_form row.form word) ∙ is)
stores_by false row rest word known_files met more is = more is

stores_among : (rows : List Pattern) (word : ℕ) → list_all is_told rows ≡ true
    → is_store (option_map (λ row. operation_of row.form word) (find (λ row. meets row word) rows)) ≡ true
    → word % 128 ≡ STORE
stores_among [] word known_files is = absurd cc
stores_among (row ∷ rows) word known_files is =
    let parts = both (is_told row) (list_all is_told rows) known_files in
    stores_by (meets row word) row (find (λ row. meets row word) rows) word parts.0 refl
    (stores_among rows word parts.1) is

store_decoded : (word : ℕ) → is_store (decoded_op_of word) ≡ true → word % 128 ≡ STORE
unfolding decoded_op_of decoded_op_by opcodes
store_decoded word is = stores_among (all_rows opcodes) word refl is

-- ---- parcels

-- the row's word is no store, or the row fixes the two highest bits and the quadrant
abbrev is_told_parcel : Parcel → Bool
is_told_parcel row =
    not (opcode_of row.op == STORE)
    || ((row.mask % 4 == 3) && (not (row.bits % 4 == 1) && ((row.mask / 2 ^ 14 == 3) && (row.bits / 2 ^ 14 == 3))))

-- the highest bits of a parcel and its quadrant are those of a store
abbrev BeginsStore : ℕ → Type 0
BeginsStore parcel = ((parcel % 4 == 1) ≡ false) × (parcel / 2 ^ 14 % 4 ≡ 3)

parcel_met : (mask bits parcel : ℕ) → mask % 4 ≡ 3 → mask / 2 ^ 14 ≡ 3 → bit_and parcel mask ≡ bits
    → (bits % 4 ≡ parcel % 4) × (bits / 2 ^ 14 ≡ parcel / 2 ^ 14 % 4)
parcel_met mask bits parcel low high met =
    let split : bit_and parcel mask % 4 ≡ bit_and (parcel % 4) (mask % 4) = and_mod parcel mask 2 in
    let kept : bit_and (parcel % 4) 3 ≡ parcel % 4 % 4 = and_mask (parcel % 4) 2 in
    let here : bits % 4 ≡ bit_and (parcel % 4) 3 = cc in
    let upper : bit_and parcel mask / 2 ^ 14 ≡ bit_and (parcel / 2 ^ 14) (mask / 2 ^ 14) = and_shr parcel mask 14 in
    let above : bit_and (parcel / 2 ^ 14) 3 ≡ parcel / 2 ^ 14 % 4 = and_mask (parcel / 2 ^ 14) 2 in
    let there : bits / 2 ^ 14 ≡ bit_and (parcel / 2 ^ 14) 3 = cc in
    (omega arith, there ∙ above)

no_1 : (a b : ℕ) → a ≡ b → not (a == 1) ≡ true → (b == 1) ≡ false
no_1 a b same other = grind (arith, nat_tests)

parcel_told : (stores : Bool) (row : Parcel) (parcel : ℕ)
    → (not stores
    || ((row.mask % 4 == 3)
    && (not (row.bits % 4 == 1) && ((row.mask / 2 ^ 14 == 3) && (row.bits / 2 ^ 14 == 3))))) ≡ true
    → meets_parcel row parcel ≡ true → stores ≡ true → BeginsStore parcel
parcel_told true row parcel known_files met is =
    let first =
    both (row.mask % 4 == 3) (not (row.bits % 4 == 1) && ((row.mask / 2 ^ 14 == 3) && (row.bits / 2 ^ 14 == 3)))
    known_files in
    let second = both (not (row.bits % 4 == 1)) ((row.mask / 2 ^ 14 == 3) && (row.bits / 2 ^ 14 == 3)) first.1 in
    let third = both (row.mask / 2 ^ 14 == 3) (row.bits / 2 ^ 14 == 3) second.1 in
    let here = both (bit_and parcel row.mask == row.bits) (holds row.condition parcel) met in
    let bits =
    parcel_met row.mask row.bits parcel (eqb-true _ _ first.0) (eqb-true _ _ third.0) (eqb-true _ _ here.0) in
    (no_1 _ _ bits.0 second.0, sym bits.1 ∙ eqb-true _ _ third.1)
parcel_told false row parcel known_files met is = absurd cc

same_test : (a b c : ℕ) → a ≡ b → a ≡ c → (b == c) ≡ true
same_test a b c left right = grind (arith, nat_tests)

some_same : {A : Type 0} (x y : A) → Some x ≡ Some y → x ≡ y
some_same x y is = cc

begins_among : (rows : List Parcel) (parcel word : ℕ) → list_all is_told_parcel rows ≡ true → word % 128 ≡ STORE
    → option_map (λ row. encoding_of row.op parcel) (find (λ row. meets_parcel row parcel) rows) ≡ Some word
    → BeginsStore parcel
begins_among [] parcel word known_files stores is = absurd cc
begins_among (row ∷ rows) parcel word known_files stores is =
    let parts = both (is_told_parcel row) (list_all is_told_parcel rows) known_files in
    by (meets_parcel row parcel) parts.0 refl (begins_among rows parcel word parts.1 stores) is
  where
    by : (test : Bool) → is_told_parcel row ≡ true → meets_parcel row parcel ≡ test
        → (option_map (λ row. encoding_of row.op parcel) (find (λ row. meets_parcel row parcel) rows) ≡ Some word
        → BeginsStore parcel)
        → option_map (λ row. encoding_of row.op parcel)
        (if test then Some row else find (λ row. meets_parcel row parcel) rows) ≡ Some word → BeginsStore parcel
    by true told met more at =
        let same : encoding_of row.op parcel ≡ word = some_same _ _ at in
        let opcode : word % 128 ≡ opcode_of row.op = ap (λ w. w % 128) (sym same) ∙ word_opcode row.op parcel in
        parcel_told (opcode_of row.op == STORE) row parcel told met (same_test _ _ _ opcode stores)
    by false told met more at = more at

expansion_begins : (parcel word : ℕ) → word % 128 ≡ STORE → expansion_of parcel ≡ Some word → BeginsStore parcel
unfolding expansion_of expansion_by table
expansion_begins parcel word stores is = begins_among table parcel word refl stores is

expanded_by : (parcel : ℕ) (expansion : Option ℕ) → expansion_of parcel ≡ expansion
    → is_store (option_and_then decoded_op_of expansion) ≡ true → BeginsStore parcel
expanded_by parcel None at is = absurd cc
expanded_by parcel (Some word) at is = expansion_begins parcel word (store_decoded word is) at

store_expanded : (parcel : ℕ) → is_store (expanded_op_of parcel) ≡ true → BeginsStore parcel
unfolding expanded_op_of
store_expanded parcel is = expanded_by parcel (expansion_of parcel) refl is

-- ---- words as rows show them

pub store_opcode : (word : ℕ) → (word % 4 == 3) ≡ true
    → is_store (op_of (insn_bits_of word) (insn_length_of word)) ≡ true → word % 128 ≡ STORE
store_opcode word long is =
    let low : word % 256 ^ 4 % 128 ≡ word % 128 = omega arith in
    sym low ∙ store_decoded (word % 256 ^ 4) (rw long at is)

pub store_parcel : (word : ℕ) → word % 4 ≢ 3 → is_store (op_of (insn_bits_of word) (insn_length_of word)) ≡ true
    → ((word % 4 == 1) ≡ false) × ((word / 2 ^ 14 % 4 == 3) ≡ true)
store_parcel word short is =
    let begins = store_expanded (word % 256 ^ 2) (rw (ne_eqb _ _ short) at is) in
    let low : word % 256 ^ 2 % 4 ≡ word % 4 = omega arith in
    let high : word % 256 ^ 2 / 2 ^ 14 % 4 ≡ word / 2 ^ 14 % 4 = omega arith in
    (rw low at begins.0, same_test _ _ _ high begins.1)
