-- Lines whose fields are digits and letters, under csv's machine.
use Rattle.std.proofs.Common.{◌≡◌, ◌≢◌, ℕ, ◌-◌, ◌<◌, ◌≤◌, ◌==◌, false, List, [], ◌∷◌, ◌++◌, map, length, take, drop}
use Rattle.std.proofs.Common.{Option, Some, codes, refl, ap, ◌∙◌, arith, append-nil, append_assoc, le_refl, ne_eqb}
use Rattle.std.specs.List.{All, flat_map, join_by, prefix_len, suffix_len}
use Rattle.std.proofs.lemmas.List.{take_all}
use Rattle.std.proofs.lemmas.List.Elements.{All-append, All-cons, All-head, All-nil, All-tail, All-weaker}
use Rattle.std.proofs.lemmas.List.Folds.{list_any_none}
use Rattle.std.proofs.lemmas.List.Sums.{prefix_len_is, suffix_len_is}
use Rattle.csv.specs.Machine.{Read, next_record}
use Rattle.csv.specs.Reading.{default_config}
use Rattle.csv.specs.declared.parser.State.TheVariants.{StartRecord, StartField, InField}
use Rattle.csv_line.specs.Fields.{fields_of_line, fields_read, has_return_in, is_space_or_tab, trimmed_end_of}
use Rattle.csv_line.specs.Fields.{trimmed_of}
use Rattle.csv_line.proofs.Machine.{start_byte}
use Rattle.csv_line.proofs.FirstLines.{unmarked_from}

-- what digits and small letters are among bytes, and a comma besides
abbrev pub IsPlainByte : ℕ → Type 0
IsPlainByte byte = (48 ≤ byte) × (byte < 128)

abbrev pub IsLineByte : ℕ → Type 0
IsLineByte byte = (44 ≤ byte) × (byte < 128)

-- a field has some bytes, all of them plain
pub record IsField (field : List ℕ) : Type 0 where
  pub nonempty : 0 < length field
  pub plain : All IsPlainByte field

abbrev pub AreFields : List (List ℕ) → Type 0
AreFields [] = Unit {0}
AreFields (field ∷ fields) = IsField field × AreFields fields

-- fields with a comma between each two
abbrev pub joined : List (List ℕ) → List ℕ
joined fields = join_by (λ field. field) (codes ",") fields

-- no blank stands at the ends of a field
no_blank : (byte : ℕ) → IsPlainByte byte → is_space_or_tab byte ≡ false
no_blank byte plain =
    let space : (byte == 32) ≡ false = ne_eqb byte 32 (omega (arith, plain.0)) in
    let tab : (byte == 9) ≡ false = ne_eqb byte 9 (omega (arith, plain.0)) in
    rw (space, tab) refl

plain_trimmed : (field : List ℕ) → IsField field → trimmed_of field ≡ field
unfolding trimmed_of
plain_trimmed field is =
    let nonempty : 0 < length field = is.nonempty in
    let front : prefix_len is_space_or_tab field ≡ 0 =
    prefix_len_is is_space_or_tab field 0 0 (omega arith) (λ k low. absurd (omega (arith, low)))
    (λ within. no_blank _ (is.plain 0 0 within)) in
    let back : suffix_len is_space_or_tab field ≡ length field - length field =
    suffix_len_is is_space_or_tab field (length field) 0 (le_refl (length field))
    (λ k low high. absurd (omega (arith, low, high)))
    (λ within. no_blank _ (is.plain (length field - 1) 0 (omega arith))) in
    let whole : length field - suffix_len is_space_or_tab field ≡ length field = omega (arith, back) in
    ap (λ n. trimmed_end_of (drop n field)) front
    ∙ ap (λ n. take n field) whole
    ∙ take_all (length field) field (le_refl (length field))

all_trimmed : (fields : List (List ℕ)) → AreFields fields → map trimmed_of fields ≡ fields
all_trimmed [] are = refl
all_trimmed (field ∷ fields) are =
    ap (λ f. f ∷ map trimmed_of fields) (plain_trimmed field are.0) ∙ ap (λ fs. field ∷ fs) (all_trimmed fields are.1)

-- the bytes of a field
plain_run : (fields : List (List ℕ)) (field x tail : List ℕ) → All IsPlainByte x
    → next_record default_config InField fields field (x ++ tail)
    ≡ next_record default_config InField fields (field ++ x) tail
unfolding next_record
plain_run fields field [] tail plain = rw (append-nil field) refl
plain_run fields field (byte ∷ rest) tail plain =
    let low : 48 ≤ byte = (All-head IsPlainByte byte rest plain).0 in
    let comma : (byte == 44) ≡ false = ne_eqb byte 44 (omega arith) in
    let return : (byte == 13) ≡ false = ne_eqb byte 13 (omega arith) in
    let feed : (byte == 10) ≡ false = ne_eqb byte 10 (omega arith) in
    rw (comma, return, feed) (plain_run fields (field ++ byte ∷ []) rest tail (All-tail IsPlainByte byte rest plain)
    ∙ ap (λ (f : List ℕ). next_record default_config InField fields f tail) (append_assoc field (byte ∷ []) rest))

no_quote : (fields : List (List ℕ)) (byte : ℕ) (tail : List ℕ) → (byte == 34) ≡ false
    → next_record default_config StartField fields [] (byte ∷ tail)
    ≡ next_record default_config InField fields [] (byte ∷ tail)
unfolding next_record
no_quote fields byte tail other = rw other refl

field_run : (fields : List (List ℕ)) (x tail : List ℕ) → IsField x
    → next_record default_config StartField fields [] (x ++ tail) ≡ next_record default_config InField fields x tail
field_run fields [] tail is = absurd (omega (arith, is.nonempty))
field_run fields (byte ∷ rest) tail is =
    let low : 48 ≤ byte = (All-head IsPlainByte byte rest is.plain).0 in
    no_quote fields byte (rest ++ tail) (ne_eqb byte 34 (omega arith)) ∙ plain_run fields [] (byte ∷ rest) tail is.plain

-- the fields after one
abbrev pub following : List (List ℕ) → List ℕ
following fields = flat_map (λ field. codes "," ++ field) fields

rest_run : (fields : List (List ℕ)) (x : List ℕ) (others : List (List ℕ)) → AreFields others
    → next_record default_config InField fields x (following others) ≡ Some (fields ++ x ∷ others, StartRecord, [])
unfolding next_record
rest_run fields x [] are = refl
rest_run fields x (y ∷ others) are =
    field_run (fields ++ x ∷ []) y (following others) are.0
    ∙ rest_run (fields ++ x ∷ []) y others are.1
    ∙ ap (λ (fs : List (List ℕ)). Some (fs, StartRecord, [])) (append_assoc fields (x ∷ []) (y ∷ others))

pub fields_back : (first : List ℕ) (others : List (List ℕ)) → IsField first → AreFields others
    → fields_of_line (joined (first ∷ others)) ≡ first ∷ others
unfolding fields_of_line
fields_back [] others is are = absurd (omega (arith, is.nonempty))
fields_back (byte ∷ rest) others is are =
    let low : 48 ≤ byte = (All-head IsPlainByte byte rest is.plain).0 in
    let high : byte < 128 = (All-head IsPlainByte byte rest is.plain).1 in
    let mark : byte ≢ 239 = omega arith in
    let feed : byte ≢ 10 = omega arith in
    let return : byte ≢ 13 = omega arith in
    ap (λ (text : List ℕ). map trimmed_of (fields_read (next_record default_config StartRecord [] [] text)))
    (unmarked_from byte (rest ++ following others) mark)
    ∙ ap (λ (read : Option Read). map trimmed_of (fields_read read))
    (start_byte byte (rest ++ following others) (feed, return) ∙ field_run [] (byte ∷ rest) (following others) is
    ∙ rest_run [] (byte ∷ rest) others are)
    ∙ all_trimmed ((byte ∷ rest) ∷ others) (is, are)

-- the bytes of a line
after_bytes : (fields : List (List ℕ)) → AreFields fields → All IsLineByte (following fields)
after_bytes [] are = All-nil IsLineByte
after_bytes (field ∷ fields) are =
    All-cons IsLineByte 44 (field ++ following fields) (omega arith, omega arith)
    (All-append IsLineByte field (following fields)
    (All-weaker IsPlainByte IsLineByte (λ byte plain. (omega (arith, plain.0), plain.1)) field are.0.plain)
    (after_bytes fields are.1))

pub line_bytes : (first : List ℕ) (others : List (List ℕ)) → IsField first → AreFields others
    → All IsLineByte (joined (first ∷ others))
line_bytes first others is are =
    All-append IsLineByte first (following others)
    (All-weaker IsPlainByte IsLineByte (λ byte plain. (omega (arith, plain.0), plain.1)) first is.plain)
    (after_bytes others are)

pub no_return : (line : List ℕ) → All IsLineByte line → has_return_in line ≡ false
no_return line bytes =
    list_any_none (λ (byte : ℕ). byte == 13) line
    (All-weaker IsLineByte (λ (byte : ℕ). (byte == 13) ≡ false) (λ byte here. ne_eqb byte 13 (omega (arith, here.0)))
    line bytes)
