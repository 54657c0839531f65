-- The row that a word meets in the whole table is the one that it meets among the rows of its opcode.
use Rattle.std.proofs.Common.{◌≡◌, ℕ, Bool, true, false, not, ◌&&◌, List, [], ◌∷◌, ◌++◌, Option, None, Some, bit_and}
use Rattle.std.proofs.Common.{◌==◌, ◌%◌, refl, sym, ◌∙◌, ap, append_assoc, arith, if◌then◌else◌}
use Rattle.std.specs.List.{list_all, find}
use Rattle.std.specs.Option.{option_map, option_or}
use Rattle.std.proofs.lemmas.Nat.{and_mod, and_mask}
use Rattle.std.proofs.lemmas.Bool.{eqb-true, and_parts, not-true}
use Rattle.std.proofs.lemmas.Bool.Decides.{nat_tests}
use Rattle.std.proofs.lemmas.List.Folds.{find-append}
use Rattle.rv_decode.specs.declared.patterns.Pattern.{Pattern}
use Rattle.rv_decode.specs.Fields.{operation_of}
use Rattle.rv_decode.specs.Table.{Opcode, opcodes, bits_opcodes, all_rows, rows_of_opcode, meets}
use Rattle.rv_decode.specs.Table.{decoded_op_by, decoded_op_of, decoded_op_with}

-- the row asks for the opcode
abbrev pub asks : ℕ → Pattern → Bool
asks code row = (row.mask % 128 == 127) && (row.bits % 128 == code)

-- each row asks for its list's opcode, and no opcode comes twice
abbrev pub is_map : List Opcode → Bool
is_map [] = true
is_map (opcode ∷ more) =
    list_all (asks opcode.code) opcode.rows && (list_all (λ other. not (other.code == opcode.code)) more && is_map more)

-- what a row that the word meets says of the word's opcode
opcode_met : (code mask bits word : ℕ) → mask % 128 ≡ 127 → bits % 128 ≡ code → bit_and word mask ≡ bits
    → word % 128 ≡ code
opcode_met code mask bits word all low met =
    let split : bit_and word mask % 128 ≡ bit_and (word % 128) (mask % 128) = and_mod word mask 7 in
    let kept : bit_and (word % 128) 127 ≡ word % 128 % 128 = and_mask (word % 128) 7 in
    let here : bits % 128 ≡ bit_and (word % 128) 127 = cc in
    omega arith

unmet_row : (code : ℕ) (row : Pattern) (word : ℕ) → asks code row ≡ true → (code == word % 128) ≡ false → (met : Bool)
    → meets row word ≡ met → met ≡ false
unmet_row code row word asked other true met =
    let parts = and_parts (row.mask % 128 == 127) (row.bits % 128 == code) asked in
    let same : word % 128 ≡ code =
    opcode_met code row.mask row.bits word (eqb-true _ _ parts.0) (eqb-true _ _ parts.1) (eqb-true _ _ met) in
    absurd (grind (arith, nat_tests))
unmet_row code row word asked other false met = refl

unmet : (code : ℕ) (rows : List Pattern) (word : ℕ) → list_all (asks code) rows ≡ true → (code == word % 128) ≡ false
    → find (λ row. meets row word) rows ≡ None
unmet code [] word all other = refl
unmet code (row ∷ rows) word all other =
    let parts = and_parts (asks code row) (list_all (asks code) rows) all in
    let first : meets row word ≡ false = unmet_row code row word parts.0 other (meets row word) refl in
    rw first (unmet code rows word parts.1 other)

none_with : (more : List Opcode) (code word : ℕ) → list_all (λ other. not (other.code == code)) more ≡ true
    → (code == word) ≡ true → rows_of_opcode more word ≡ []
none_with [] code word others same = refl
none_with (opcode ∷ more) code word others same =
    let parts = and_parts (not (opcode.code == code)) (list_all (λ other. not (other.code == code)) more) others in
    let differs : (opcode.code == word) ≡ false = grind (arith, nat_tests, not-true (opcode.code == code) parts.0) in
    rw differs (none_with more code word parts.1 same)

or_none : (met : Option Pattern) → option_or met None ≡ met
or_none None = refl
or_none (Some row) = refl

by_test : (opcode : Opcode) (more : List Opcode) (word : ℕ)
    → list_all (asks opcode.code) opcode.rows ≡ true
    → list_all (λ other. not (other.code == opcode.code)) more ≡ true
    → find (λ row. meets row word) (all_rows more) ≡ find (λ row. meets row word) (rows_of_opcode more (word % 128))
    → (test : Bool) → (opcode.code == word % 128) ≡ test
    → find (λ row. meets row word) (opcode.rows ++ all_rows more)
    ≡ find (λ row. meets row word) (if test then opcode.rows else rows_of_opcode more (word % 128))
by_test opcode more word rows others ih true is =
    let gone : rows_of_opcode more (word % 128) ≡ [] = none_with more opcode.code (word % 128) others is in
    let none : find (λ row. meets row word) (all_rows more) ≡ None = ih ∙ ap (find (λ row. meets row word)) gone in
    find-append (λ row. meets row word) opcode.rows (all_rows more)
    ∙ (rw none (or_none (find (λ row. meets row word) opcode.rows)))
by_test opcode more word rows others ih false is =
    let none : find (λ row. meets row word) opcode.rows ≡ None = unmet opcode.code opcode.rows word rows is in
    find-append (λ row. meets row word) opcode.rows (all_rows more) ∙ (rw none ih)

pub found : (map : List Opcode) (word : ℕ) → is_map map ≡ true
    → find (λ row. meets row word) (all_rows map) ≡ find (λ row. meets row word) (rows_of_opcode map (word % 128))
found [] word h = refl
found (opcode ∷ more) word h =
    let parts =
    and_parts (list_all (asks opcode.code) opcode.rows)
    (list_all (λ other. not (other.code == opcode.code)) more && is_map more) h in
    let rest = and_parts (list_all (λ other. not (other.code == opcode.code)) more) (is_map more) parts.1 in
    by_test opcode more word parts.0 rest.0 (found more word rest.1) (opcode.code == word % 128) refl

pub scanned : (word : ℕ)
    → decoded_op_by (rows_of_opcode opcodes (word % 128)) word ≡ decoded_op_by (all_rows opcodes) word
unfolding decoded_op_by opcodes
scanned word = ap (option_map (λ row. operation_of row.form word)) (sym (found opcodes word refl))

bits_scanned : (word : ℕ)
    → decoded_op_by (rows_of_opcode bits_opcodes (word % 128)) word ≡ decoded_op_by (all_rows bits_opcodes) word
unfolding decoded_op_by bits_opcodes
bits_scanned word = ap (option_map (λ row. operation_of row.form word)) (sym (found bits_opcodes word refl))

map_or : {A B : Type 0} (f : A → B) (one other : Option A)
    → option_map f (option_or one other) ≡ option_or (option_map f one) (option_map f other)
map_or f None other = refl
map_or f (Some x) other = refl

rows_append : (one other : List Opcode) → all_rows (one ++ other) ≡ all_rows one ++ all_rows other
rows_append [] other = refl
rows_append (opcode ∷ more) other =
    ap (λ rows. opcode.rows ++ rows) (rows_append more other)
    ∙ sym (append_assoc opcode.rows (all_rows more) (all_rows other))

decoded_append : (one other : List Pattern) (word : ℕ)
    → decoded_op_by (one ++ other) word ≡ option_or (decoded_op_by one word) (decoded_op_by other word)
unfolding decoded_op_by
decoded_append one other word =
    ap (option_map (λ row. operation_of row.form word)) (find-append (λ row. meets row word) one other)
    ∙ map_or (λ row. operation_of row.form word) (find (λ row. meets row word) one) (find (λ row. meets row word) other)

-- without the further rows the table is the one that is always there
pub without : (word : ℕ) → decoded_op_with word false ≡ decoded_op_of word
unfolding decoded_op_with decoded_op_of
without word = refl

-- with them, the word meets a row of that table, or else one of the further rows of its opcode
pub further : (word : ℕ)
    → decoded_op_with word true
    ≡ option_or (decoded_op_of word) (decoded_op_by (rows_of_opcode bits_opcodes (word % 128)) word)
unfolding decoded_op_with decoded_op_of
further word =
    ap (λ rows. decoded_op_by rows word) (rows_append opcodes bits_opcodes)
    ∙ decoded_append (all_rows opcodes) (all_rows bits_opcodes) word
    ∙ ap (option_or (decoded_op_by (all_rows opcodes) word)) (sym (bits_scanned word))
