-- The operands of a parcel of 16 bits, each immediate as the 32-bit instruction has it.
-- From the Unprivileged ISA's chapter on the C extension ("Compressed Instruction Formats" and the listings of each
-- instruction).
use Rattle.std.specs.Prelude.{ℕ, ◌+◌, ◌%◌, ◌^◌}
use Rattle.hart_words.specs.Words.{bit_field, sign_extended}
use Rattle.rv_decode.specs.Fields.{field_at}

-- a compressed register: x8 to x15, by 3 bits
abbrev pub compressed_register : ℕ → ℕ → ℕ
compressed_register first parcel = 8 + bit_field first 3 parcel

-- bit 12 is bit 5, bits 6:2 are bits 4:0
unfoldable pub amount_of_shift : ℕ → ℕ
amount_of_shift parcel = field_at 12 1 5 parcel + bit_field 2 5 parcel

-- the same bits with a sign, as an immediate of a width
unfoldable pub immediate_6 : ℕ → ℕ → ℕ
immediate_6 width parcel = sign_extended 6 (amount_of_shift parcel) % 2 ^ width

-- bits 12:11 are bits 5:4, 10:7 are 9:6, 6 is 2, 5 is 3
unfoldable pub immediate_addi4spn : ℕ → ℕ
immediate_addi4spn parcel =
    field_at 7 4 6 parcel + field_at 11 2 4 parcel + field_at 5 1 3 parcel + field_at 6 1 2 parcel

-- bit 12 is bit 9, 6 is 4, 5 is 6, 4:3 are 8:7, 2 is 5
unfoldable pub immediate_addi16sp : ℕ → ℕ
immediate_addi16sp parcel =
    sign_extended 10
    (field_at 12 1 9 parcel + field_at 3 2 7 parcel + field_at 5 1 6 parcel + field_at 2 1 5 parcel
    + field_at 6 1 4 parcel)
    % 2 ^ 12

-- bits 12:10 are bits 5:3, 6 is 2, 5 is 6
unfoldable pub offset_w : ℕ → ℕ
offset_w parcel = field_at 5 1 6 parcel + field_at 10 3 3 parcel + field_at 6 1 2 parcel

-- bits 12:10 are bits 5:3, 6:5 are 7:6
unfoldable pub offset_d : ℕ → ℕ
offset_d parcel = field_at 5 2 6 parcel + field_at 10 3 3 parcel

-- bit 12 is bit 11, 11 is 4, 10:9 are 9:8, 8 is 10, 7 is 6, 6 is 7, 5:3 are 3:1, 2 is 5
unfoldable pub offset_j : ℕ → ℕ
offset_j parcel =
    sign_extended 12
    (field_at 12 1 11 parcel + field_at 8 1 10 parcel + field_at 9 2 8 parcel + field_at 6 1 7 parcel
    + field_at 7 1 6 parcel + field_at 2 1 5 parcel + field_at 11 1 4 parcel + field_at 3 3 1 parcel)
    % 2 ^ 21

-- bit 12 is bit 8, 11:10 are 4:3, 6:5 are 7:6, 4:3 are 2:1, 2 is 5
unfoldable pub offset_b : ℕ → ℕ
offset_b parcel =
    sign_extended 9
    (field_at 12 1 8 parcel + field_at 5 2 6 parcel + field_at 2 1 5 parcel + field_at 10 2 3 parcel
    + field_at 3 2 1 parcel)
    % 2 ^ 13

-- bit 12 is bit 5, 6:4 are 4:2, 3:2 are 7:6
unfoldable pub offset_lwsp : ℕ → ℕ
offset_lwsp parcel = field_at 2 2 6 parcel + field_at 12 1 5 parcel + field_at 4 3 2 parcel

-- bit 12 is bit 5, 6:5 are 4:3, 4:2 are 8:6
unfoldable pub offset_ldsp : ℕ → ℕ
offset_ldsp parcel = field_at 2 3 6 parcel + field_at 12 1 5 parcel + field_at 5 2 3 parcel

-- bits 12:9 are bits 5:2, 8:7 are 7:6
unfoldable pub offset_swsp : ℕ → ℕ
offset_swsp parcel = field_at 7 2 6 parcel + field_at 9 4 2 parcel

-- bits 12:10 are bits 5:3, 9:7 are 8:6
unfoldable pub offset_sdsp : ℕ → ℕ
offset_sdsp parcel = field_at 7 3 6 parcel + field_at 10 3 3 parcel
