-- One line under csv's machine, alone and among others.
use Rattle.std.proofs.Common.{◌≡◌, ◌≢◌, ℕ, ◌+◌, ◌<◌, ◌≤◌, ◌==◌, Bool, true, false, List, [], ◌∷◌, ◌++◌, length, drop}
use Rattle.std.proofs.Common.{get_or, Some, refl, sym, ap, ◌∙◌}
use Rattle.std.specs.List.{All}
use Rattle.std.proofs.lemmas.Bool.{ne_eqb}
use Rattle.std.proofs.lemmas.List.{at_drop_more, at_drop_all}
use Rattle.std.proofs.lemmas.List.Elements.{All-head, All-tail}
use Rattle.csv.specs.Machine.{step, is_end, fields_after, field_after, next_record}
use Rattle.csv.specs.Reading.{default_config}
use Rattle.csv.specs.declared.parser.State.{State}
use Rattle.csv.specs.declared.parser.State.TheVariants.{StartRecord, StartField, InField, InQuoted, AfterQuote}
use Rattle.line_text.specs.Lines.{line_feed}
use Rattle.csv_line.specs.SharedLines.{EndsNoRecord, IsPlain, machine_state_after}

-- the state is inside a record
pub data IsInside : State → Type 0 where
  start_inside : IsInside StartField
  plain_inside : IsInside InField
  quoted_inside : IsInside InQuoted
  closed_inside : IsInside AfterQuote

-- what a byte that ends no record does inside one
record StepsInside (state : State) (byte : ℕ) : Type 0 where
  goes : is_end (step default_config state byte).1 ≡ false
  stays : IsInside (step default_config state byte).0

no_return : (byte : ℕ) → EndsNoRecord byte → (byte == 13) ≡ false
no_return byte ends = ne_eqb byte 13 ends.1

no_feed : (byte : ℕ) → EndsNoRecord byte → (byte == 10) ≡ false
no_feed byte ends = ne_eqb byte 10 ends.0

plain_step : (byte : ℕ) → EndsNoRecord byte → StepsInside InField byte
plain_step byte ends = by (byte == 44) refl
  where
    by : (comma : Bool) → (byte == 44) ≡ comma → StepsInside InField byte
    by true e = record { goes = rw e refl; stays = rw e start_inside }
    by false e = record {
      goes = rw (e, no_return byte ends, no_feed byte ends) refl;
      stays = rw (e, no_return byte ends, no_feed byte ends) plain_inside;
    }

steps_inside : (state : State) (byte : ℕ) → IsInside state → EndsNoRecord byte → StepsInside state byte
steps_inside state byte start_inside ends = by (byte == 34) refl
  where
    by : (quote : Bool) → (byte == 34) ≡ quote → StepsInside StartField byte
    by true e = record { goes = rw e refl; stays = rw e quoted_inside }
    by false e = let step = plain_step byte ends in record { goes = rw e step.goes; stays = rw e step.stays }
steps_inside state byte plain_inside ends = plain_step byte ends
steps_inside state byte quoted_inside ends = by (byte == 34) refl
  where
    by : (quote : Bool) → (byte == 34) ≡ quote → StepsInside InQuoted byte
    by true e = record { goes = rw e refl; stays = rw e closed_inside }
    by false e = record { goes = rw e refl; stays = rw e quoted_inside }
steps_inside state byte closed_inside ends = by (byte == 34) refl
  where
    by : (quote : Bool) → (byte == 34) ≡ quote → StepsInside AfterQuote byte
    by true e = record { goes = rw e refl; stays = rw e quoted_inside }
    by false e = let step = plain_step byte ends in record { goes = rw e step.goes; stays = rw e step.stays }

-- one more byte for the machine
next_record-byte : (state : State) (fields : List (List ℕ)) (field : List ℕ) (byte : ℕ) (text : List ℕ)
    → is_end (step default_config state byte).1 ≡ false
    → next_record default_config state fields field (byte ∷ text)
    ≡ next_record default_config (step default_config state byte).0
    (fields_after (step default_config state byte).1 fields field)
    (field_after (step default_config state byte).1 byte field) text
unfolding next_record
next_record-byte state fields field byte text goes = rw goes refl

-- a line reads alike alone and among others
pub record ReadsAlike (state : State) (before : List (List ℕ)) (field line rest : List ℕ) : Type 0 where
  pub fields : List (List ℕ)
  pub alone : next_record default_config state before field line ≡ Some (fields, StartRecord, [])
  pub among : next_record default_config state before field (line ++ line_feed ∷ rest)
      ≡ Some (fields, StartRecord, rest)

at_feed : (state : State) (before : List (List ℕ)) (field rest : List ℕ) → IsInside state → state ≢ InQuoted
    → ReadsAlike state before field [] rest
unfolding next_record
at_feed state before field rest start_inside out = record { fields = before ++ field ∷ []; alone = refl; among = refl }
at_feed state before field rest plain_inside out = record { fields = before ++ field ∷ []; alone = refl; among = refl }
at_feed state before field rest quoted_inside out = absurd (out refl)
at_feed state before field rest closed_inside out = record { fields = before ++ field ∷ []; alone = refl; among = refl }

pub reads_alike : (state : State) (before : List (List ℕ)) (field line rest : List ℕ) → IsInside state
    → All EndsNoRecord line → machine_state_after state line ≢ InQuoted → ReadsAlike state before field line rest
unfolding machine_state_after
reads_alike state before field [] rest inside ends out = at_feed state before field rest inside out
reads_alike state before field (byte ∷ line) rest inside ends out =
    let here = steps_inside state byte inside (All-head EndsNoRecord byte line ends) in
    let more =
    reads_alike (step default_config state byte).0 (fields_after (step default_config state byte).1 before field)
    (field_after (step default_config state byte).1 byte field) line rest here.stays
    (All-tail EndsNoRecord byte line ends) out in
    record {
      fields = more.fields;
      alone = next_record-byte state before field byte line here.goes ∙ more.alone;
      among = next_record-byte state before field byte (line ++ line_feed ∷ rest) here.goes ∙ more.among;
    }

-- the first byte of a record
pub start_byte : (byte : ℕ) (text : List ℕ) → EndsNoRecord byte
    → next_record default_config StartRecord [] [] (byte ∷ text)
    ≡ next_record default_config StartField [] [] (byte ∷ text)
unfolding next_record
start_byte byte text ends = rw (no_return byte ends, no_feed byte ends) refl

-- the scan of the code
pub scan_byte : (state next now : State) (line : List ℕ) (index : ℕ) → index < length line
    → machine_state_after state (drop index line) ≡ now → next ≡ (step default_config state (get_or line index 0)).0
    → machine_state_after next (drop (index + 1) line) ≡ now
unfolding machine_state_after
scan_byte state next now line index within before steps =
    let here : machine_state_after state (drop index line)
    ≡ machine_state_after (step default_config state (get_or line index 0)).0 (drop (index + 1) line) =
    at_drop_more (machine_state_after state) line index 0 within in
    ap (λ (s : State). machine_state_after s (drop (index + 1) line)) steps ∙ sym here ∙ before

pub scan_end : (state now : State) (line : List ℕ) (index : ℕ) → length line ≤ index
    → machine_state_after state (drop index line) ≡ now → state ≡ now
unfolding machine_state_after
scan_end state now line index end before =
    let here : machine_state_after state (drop index line) ≡ state =
    at_drop_all (machine_state_after state) line index end in
    sym here ∙ before

-- the state is inside a record and outside quotes
pub data IsOutside : State → Type 0 where
  start_outside : IsOutside StartField
  plain_outside : IsOutside InField

plain_stays : (byte : ℕ) → EndsNoRecord byte → IsOutside (step default_config InField byte).0
plain_stays byte ends = by (byte == 44) refl
  where
    by : (comma : Bool) → (byte == 44) ≡ comma → IsOutside (step default_config InField byte).0
    by true e = rw e start_outside
    by false e = rw (e, no_return byte ends, no_feed byte ends) plain_outside

-- without a quote the machine stays outside quotes
outside_step : (state : State) (byte : ℕ) → IsOutside state → byte ≢ 34 → EndsNoRecord byte
    → IsOutside (step default_config state byte).0
outside_step state byte start_outside other ends =
    let no : (byte == 34) ≡ false = ne_eqb byte 34 other in rw no (plain_stays byte ends)
outside_step state byte plain_outside other ends = plain_stays byte ends

pub stays_outside : (state : State) (line : List ℕ) → IsOutside state → All IsPlain line
    → machine_state_after state line ≢ InQuoted
unfolding machine_state_after
stays_outside state [] start_outside bytes = λ quoted. cc quoted
stays_outside state [] plain_outside bytes = λ quoted. cc quoted
stays_outside state (byte ∷ line) outside bytes =
    let here = All-head IsPlain byte line bytes in
    stays_outside (step default_config state byte).0 line (outside_step state byte outside here.0 here.1)
    (All-tail IsPlain byte line bytes)
