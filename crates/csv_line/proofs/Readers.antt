-- A reader of csv before and after a line.
use Rattle.std.proofs.Common.{◌≡◌, ℕ, true, List, [], ◌∷◌, Option, Some, None, map, ◌==◌, length, refl, sym, ap, subst}
use Rattle.std.proofs.Common.{◌∙◌, inl, arith}
use Rattle.std.proofs.lemmas.Bool.{eqb-true}
use Rattle.line_text.specs.Lines.{text_lines}
use Rattle.csv_line.specs.Next.{ReadsNext}
use Rattle.std.specs.Borrow.{Bor}
use Rattle.csv.specs.Machine.{Read, next_record}
use Rattle.csv.specs.Reading.{Reached, ReadRecord, default_config, took_first, is_flexible}
use Rattle.csv.specs.declared.reader.Reader.{Reader}
use Rattle.csv.specs.declared.parser.State.{State}
use Rattle.csv.specs.declared.parser.State.TheVariants.{StartRecord}
use Rattle.csv.proofs.ReadFacts.{rows-more}
use Rattle.csv_line.specs.Fields.{trimmed_of, fields_of_line, fields_read}
use Rattle.csv_line.specs.SharedLines.{IsShared}
use Rattle.csv_line.specs.Readers.{StandsAt, ReadsLineFields}

-- what one record leaves, by the record that is next
record Leaves (fields found : List (List ℕ)) (state : State) (rest left : List ℕ) : Type 0 where
  fields_are : found ≡ fields
  state_is : state ≡ StartRecord
  rest_is : left ≡ rest

some_same : (x y : Read) → ◌≡◌ {A = Option Read} (Some x) (Some y) → x ≡ y
some_same x y e = cc

leaves : (text rest left : List ℕ) (fields found : List (List ℕ)) (state : State)
    → next_record default_config StartRecord [] [] text ≡ Some (fields, StartRecord, rest)
    → Reached default_config StartRecord text (found ∷ []) state left → Leaves fields found state rest left
unfolding Reached
leaves text rest left fields found state next reached =
    let (read, is, first, ends) = reached in
    let same : read ≡ (fields, StartRecord, rest) = some_same read (fields, StartRecord, rest) (sym is ∙ next) in
    record {
      fields_are = first ∙ ap (λ (r : Read). r.0) same;
      state_is = sym ends.0 ∙ ap (λ (r : Read). r.1) same;
      rest_is = sym ends.1 ∙ ap (λ (r : Read). r.2) same;
    }

pub stands_on : {text line rest : List ℕ} (found : List (List ℕ)) (before now : Reader (Bor (List ℕ)))
    → StandsAt text before → IsShared text line rest
    → ReadRecord (λ (bytes : Bor (List ℕ)). Some bytes.now) before now true found
    → is_flexible now ≡ is_flexible before → took_first now ≡ true
    → ReadsLineFields line rest (map trimmed_of found) now
unfolding fields_of_line Reached
stands_on {text} {rest} found before now stands shared reads flexible first =
    let more =
    rows-more (λ (bytes : Bor (List ℕ)). Some bytes.now) before now found default_config StartRecord text text []
    stands.config stands.source (sym stands.state, refl) reads in
    let left = leaves text rest more.0 shared.fields found now.state shared.among more.2 in
    record {
      fields_are = ap (map trimmed_of) (left.fields_are ∙ sym (ap fields_read shared.alone));
      stands = record {
        source = more.1 ∙ ap Some left.rest_is;
        state = left.state_is;
        config = reads.2 ∙ stands.config;
        trim = reads.3 ∙ stands.trim;
        flexible = flexible ∙ stands.flexible;
        ready = inl first;
      };
    }

-- at the end of the lines
pub none_left : (rest : List ℕ) (lines fields : List (List ℕ)) → (length rest == 0) ≡ true → text_lines rest ≡ lines
    → ReadsNext lines fields None lines fields
unfolding text_lines
none_left [] lines fields none is =
    let P : List (List ℕ) → Type 0 = λ (left : List (List ℕ)). ReadsNext left fields None left fields in
    subst P is (refl, refl, refl)
none_left (byte ∷ rest) lines fields some is = absurd (omega (arith, eqb-true (length (byte ∷ rest)) 0 some))
