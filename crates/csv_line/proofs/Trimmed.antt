-- Fields and their blanks.
use Rattle.std.proofs.Common.{◌≡◌, ◌∙◌, ap, refl, subst, sym, ℕ, zero, suc, ◌-◌, ◌<◌, false, arith}
use Rattle.std.proofs.Common.{List, [], ◌∷◌, drop, get_or, length, map, take, slice_get, Option, option_map}
use Rattle.std.specs.List.{prefix_len, suffix_len}
use Rattle.std.proofs.lemmas.List.{take_all}
use Rattle.std.proofs.lemmas.List.Sums.{prefix_len-drop_no, suffix_len-take_no}
use Rattle.std.proofs.lemmas.Option.{slice_get-map}
use Rattle.csv.specs.Records.{field_at}
use Rattle.csv_line.specs.Fields.{is_space_or_tab, trimmed_end_of, trimmed_of}

-- a text with no blank at its ends is trimmed already
pub trimmed_already : (text : List ℕ) → 0 < length text → is_space_or_tab (get_or text 0 0) ≡ false
    → is_space_or_tab (get_or text (length text - 1) 0) ≡ false → trimmed_of text ≡ text
unfolding trimmed_of
trimmed_already text some first last =
    let front : prefix_len is_space_or_tab text ≡ 0 =
    prefix_len-drop_no is_space_or_tab text 0 0 some first in
    let back : suffix_len is_space_or_tab (take (length text) text) ≡ 0 =
    suffix_len-take_no is_space_or_tab text (length text) 0 some (omega arith) last in
    let whole : suffix_len is_space_or_tab text ≡ 0 =
    subst (λ l. suffix_len is_space_or_tab l ≡ 0) (take_all (length text) text (omega arith)) back in
    ap (λ n. trimmed_end_of (drop n text)) front
    ∙ take_all (length text - suffix_len is_space_or_tab text) text (omega arith)

pub trimmed_empty : trimmed_of [] ≡ []
unfolding trimmed_of
trimmed_empty = refl

-- ---- a record's fields

field_at-slice_get : (fields : List (List ℕ)) (i : ℕ) → field_at fields i ≡ slice_get fields i
unfolding field_at
field_at-slice_get [] i = refl
field_at-slice_get (f ∷ fs) zero = refl
field_at-slice_get (f ∷ fs) (suc i) = field_at-slice_get fs i

-- a field of the trimmed list is the field of the raw list, trimmed
pub trimmed_at : (fields all : List (List ℕ)) (i : ℕ) (found : Option (List ℕ)) → map trimmed_of fields ≡ all
    → found ≡ field_at fields i → option_map trimmed_of found ≡ slice_get all i
trimmed_at fields all i found same is =
    ap (option_map trimmed_of) (is ∙ field_at-slice_get fields i)
    ∙ (sym (slice_get-map trimmed_of fields i) ∙ ap (λ (xs : List (List ℕ)). slice_get xs i) same)
