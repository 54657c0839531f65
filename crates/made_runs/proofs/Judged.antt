-- Rows judged one after another.
use Rattle.std.proofs.Common.{◌≡◌, ◌≢◌, ℕ, zero, suc, ◌+◌, ◌*◌, ◌%◌, ◌^◌, ◌<◌, List, ◌∷◌, map, Some, Ok, refl, sym}
use Rattle.std.proofs.Common.{◌∙◌, subst, inl, arith, ne_eqb}
use Rattle.std.proofs.Math.Nat.{mod-eq_of_lt}
use Rattle.std.proofs.lemmas.Nat.{mod_below, xor_lt}
use Rattle.std.specs.List.{range_with_len}
use Rattle.hart_words.specs.declared.map.Map.{Map}
use Rattle.hart_words.specs.Choices.{plain_choices}
use Rattle.hart_words.specs.declared.accesses.Write.{Write}
use Rattle.hart_words.specs.Memory.{Bytes, after_writes, number_at, bytes_after_store}
use Rattle.hart_words.proofs.Stores.{number_after_store, stored-outside}
use Rattle.rvfi_rows.specs.Rows.{RowReading}
use Rattle.rvfi_rows.specs.declared.verdict.Verdict.TheVariants.{Agrees}
use Rattle.hart_step.specs.declared.state.Core.{Core}
use Rattle.segment_judge.specs.Judgements.{by_hart, judgement_of}
use Rattle.trace_maker.specs.declared.made_row.MadeRow.{MadeRow}
use Rattle.trace_maker.specs.Rows.{immediate_of, made_row, turn_place, turn_of, turn_row, x1_after, x3_after}
use Rattle.trace_maker.proofs.Runs.{x1_goes_on, x3_goes_on}
use Rattle.hart_words.specs.Registers.{registers_at_reset}
use Rattle.csr_file.specs.Registers.{csrs_at_reset, csrs_at_reset_of}
use Rattle.hart_step.specs.Cores.{core_at_reset, core_at_reset_of}
use Rattle.made_runs.specs.Laws.{MadeState}
use Rattle.made_runs.specs.Shows.{made_readings, shown_of}
use Rattle.made_runs.specs.States.{HasImage, IsMadeMap, core_at}
use Rattle.made_runs.proofs.Steps.{AgreesTo, addi_agrees, first_agrees, jal_agrees, ld_agrees, sd_agrees, xor_agrees}

-- a row that agrees, and the others after it
goes_on : {core next : Core} {row : MadeRow} {bytes : Bytes} {wrote : List Write} (rows : List RowReading) (n : ℕ)
    → AgreesTo core row bytes next wrote
    → (judgement_of by_hart next rows (after_writes wrote bytes)).verdict ≡ Agrees n n
    → (judgement_of by_hart core (Ok (Some (shown_of row)) ∷ rows) bytes).verdict ≡ Agrees (suc n) (suc n)
unfolding judgement_of
goes_on rows n agrees rest =
    let more : 1 + n ≡ suc n = omega arith in
    rw (agrees.difference, agrees.next_is, agrees.wrote_is, rest, more) refl

-- what rows from one on read as
abbrev readings_from : (number r n : ℕ) → List RowReading
readings_from number r n = map (λ row. Ok (Some (shown_of row))) (map (made_row number) (range_with_len r n))

-- a row of a turn
row_is : (number t k r : ℕ) → r ≡ 5 * t + 1 + k → k < 5
    → made_row number r ≡ turn_row number (x1_after number (t + 1)) (x3_after number (t + 1)) r k
unfolding made_row
row_is number t k r is small =
    let later : r ≢ 0 = omega arith in
    let turn : turn_of r ≡ t + 1 = omega arith in
    let place : turn_place r ≡ k = omega arith in
    rw (ne_eqb r 0 later, turn, place) refl

pub x1_small : (number t : ℕ) → x1_after number t < 2 ^ 64
unfolding x1_after
x1_small number t = mod_below _ (2 ^ 64) (omega arith)

pub x3_small : (number t : ℕ) → x3_after number t < 2 ^ 64
unfolding x3_after
x3_small number zero = omega arith
x3_small number (suc t) =
    xor_lt 64 (x3_after number t) (x1_after number (suc t)) (x3_small number t) (x1_small number (suc t))

-- the store leaves the image
image_kept : (number value : ℕ) (bytes : Bytes) → HasImage number bytes
    → HasImage number (bytes_after_store 0x80001000 8 value bytes)
image_kept number value bytes image place inside =
    let before : 0x80000000 + place < 0x80001000 = omega arith in
    stored-outside 0x80001000 8 value (0x80000000 + place) bytes (inl before) ∙ image place inside

-- all of the next rows agree
abbrev AllAgree : ℕ → Core → Bytes → (r n : ℕ) → Type 0
AllAgree number core bytes r n = (judgement_of by_hart core (readings_from number r n) bytes).verdict ≡ Agrees n n

none_left : (number : ℕ) (core : Core) (bytes : Bytes) (r : ℕ) → AllAgree number core bytes r 0
unfolding judgement_of
none_left number core bytes r = refl

-- the hart before a row: at a place of a turn after others
abbrev at_addi : Map → (number t x4 r : ℕ) → Core
at_addi map number t x4 r = core_at map 0x80000004 (x1_after number t) 0x80001000 (x3_after number t) x4 (Some r)

abbrev at_xor : Map → (number t x4 r : ℕ) → Core
at_xor map number t x4 r = core_at map 0x80000008 (x1_after number (t + 1)) 0x80001000 (x3_after number t) x4 (Some r)

abbrev in_turn : Map → (pc number t x4 r : ℕ) → Core
in_turn map pc number t x4 r =
    core_at map pc (x1_after number (t + 1)) 0x80001000 (x3_after number (t + 1)) x4 (Some r)

-- a made row that agrees as a row of its turn, and the others
row_agrees : {core next : Core} {bytes : Bytes} {wrote : List Write} {n : ℕ} (number t k r : ℕ) → r ≡ 5 * t + 1 + k
    → k < 5 → AgreesTo core (turn_row number (x1_after number (t + 1)) (x3_after number (t + 1)) r k) bytes next wrote
    → AllAgree number next (after_writes wrote bytes) (r + 1) n → AllAgree number core bytes r (suc n)
row_agrees {core} {next} {bytes} {wrote} {n} number t k r is small agrees rest =
    let P : MadeRow → Type 0 = λ (row : MadeRow). AgreesTo core row bytes next wrote in
    goes_on (readings_from number (r + 1) n) n (subst P (sym (row_is number t k r is small)) agrees) rest

addi_row : {number n : ℕ} (made : MadeState number) (t x4 r : ℕ) → r ≡ 5 * t + 1 → r + 1 < 2 ^ 64
    → AllAgree number (at_xor made.map number t x4 (r + 1)) made.bytes (r + 1) n
    → AllAgree number (at_addi made.map number t x4 r) made.bytes r (suc n)
unfolding after_writes
addi_row {number} made t x4 r is small rest =
    let count : (r + 1) % 2 ^ 64 ≡ r + 1 = mod-eq_of_lt small in
    let agrees =
    rw (count, ← x1_goes_on number t) at
    (addi_agrees made (x1_after number t) 0x80001000 (x3_after number t) x4 (x3_after number (t + 1)) r) in
    row_agrees number t 0 r (omega arith) (omega arith) agrees rest

xor_row : {number n : ℕ} (made : MadeState number) (t x4 r : ℕ) → r ≡ 5 * t + 2 → r + 1 < 2 ^ 64
    → AllAgree number (in_turn made.map 0x8000000c number t x4 (r + 1)) made.bytes (r + 1) n
    → AllAgree number (at_xor made.map number t x4 r) made.bytes r (suc n)
unfolding after_writes
xor_row {number} made t x4 r is small rest =
    let count : (r + 1) % 2 ^ 64 ≡ r + 1 = mod-eq_of_lt small in
    let agrees =
    rw (count, ← x3_goes_on number t) at
    (xor_agrees made (x1_after number (t + 1)) 0x80001000 (x3_after number t) x4 r) in
    row_agrees number t 1 r (omega arith) (omega arith) agrees rest

-- the state after the store of a turn
abbrev stored : (number t : ℕ) → MadeState number → MadeState number
stored number t made = record {
  map = made.map;
  bytes = bytes_after_store 0x80001000 8 (x3_after number (t + 1)) made.bytes;
  is_map = made.is_map;
  has_image = image_kept number (x3_after number (t + 1)) made.bytes made.has_image;
}

sd_row : {number n : ℕ} (made : MadeState number) (t x4 r : ℕ) → r ≡ 5 * t + 3 → r + 1 < 2 ^ 64
    → AllAgree number (in_turn made.map 0x80000010 number t x4 (r + 1)) (stored number t made).bytes (r + 1) n
    → AllAgree number (in_turn made.map 0x8000000c number t x4 r) made.bytes r (suc n)
unfolding after_writes
sd_row {number} made t x4 r is small rest =
    let count : (r + 1) % 2 ^ 64 ≡ r + 1 = mod-eq_of_lt small in
    let agrees =
    rw count at (sd_agrees made (x1_after number (t + 1)) (x3_after number (t + 1)) x4
    (x1_after number (t + 1)) r (x3_small number (t + 1))) in
    row_agrees number t 2 r (omega arith) (omega arith) agrees rest

ld_row : {number n : ℕ} (made : MadeState number) (t x4 r : ℕ)
    → number_at made.bytes 0x80001000 8 ≡ x3_after number (t + 1) → r ≡ 5 * t + 4 → r + 1 < 2 ^ 64
    → AllAgree number (in_turn made.map 0x80000014 number t (x3_after number (t + 1)) (r + 1)) made.bytes (r + 1) n
    → AllAgree number (in_turn made.map 0x80000010 number t x4 r) made.bytes r (suc n)
unfolding after_writes
ld_row {number} made t x4 r cell is small rest =
    let count : (r + 1) % 2 ^ 64 ≡ r + 1 = mod-eq_of_lt small in
    let agrees =
    rw count at (ld_agrees made (x1_after number (t + 1)) (x3_after number (t + 1)) x4
    (x1_after number (t + 1)) r (x3_small number (t + 1)) cell) in
    row_agrees number t 3 r (omega arith) (omega arith) agrees rest

jal_row : {number n : ℕ} (made : MadeState number) (t x4 r : ℕ) → r ≡ 5 * t + 5 → r + 1 < 2 ^ 64
    → AllAgree number (at_addi made.map number (t + 1) x4 (r + 1)) made.bytes (r + 1) n
    → AllAgree number (in_turn made.map 0x80000014 number t x4 r) made.bytes r (suc n)
unfolding after_writes
jal_row {number} made t x4 r is small rest =
    let count : (r + 1) % 2 ^ 64 ≡ r + 1 = mod-eq_of_lt small in
    let agrees =
    rw count at (jal_agrees made (x1_after number (t + 1)) 0x80001000 (x3_after number (t + 1)) x4
    (x1_after number (t + 1)) (x3_after number (t + 1)) r) in
    row_agrees number t 4 r (omega arith) (omega arith) agrees rest

-- the store's number is what the load finds
cell_after : (number t : ℕ) (bytes : Bytes)
    → number_at (bytes_after_store 0x80001000 8 (x3_after number (t + 1)) bytes) 0x80001000 8 ≡ x3_after number (t + 1)
cell_after number t bytes =
    number_after_store bytes 0x80001000 8 (x3_after number (t + 1)) ∙ mod-eq_of_lt (x3_small number (t + 1))

x1_none : (number : ℕ) → x1_after number 0 ≡ 0
unfolding x1_after
x1_none number = (let none : 0 * immediate_of number ≡ 0 = omega arith in rw none refl)

x3_none : (number : ℕ) → x3_after number 0 ≡ 0
unfolding x3_after
x3_none number = refl

-- so many rows from a place of a turn on agree
mutual
  from_addi : {number : ℕ} (n : ℕ) (made : MadeState number) (t x4 r : ℕ) → r ≡ 5 * t + 1 → r + n < 2 ^ 64
      → AllAgree number (at_addi made.map number t x4 r) made.bytes r n
  from_addi {number} zero made t x4 r is small = none_left number _ made.bytes r
  from_addi (suc n) made t x4 r is small =
      addi_row made t x4 r is (omega arith) (from_xor n made t x4 (r + 1) (omega arith) (omega arith))

  from_xor : {number : ℕ} (n : ℕ) (made : MadeState number) (t x4 r : ℕ) → r ≡ 5 * t + 2 → r + n < 2 ^ 64
      → AllAgree number (at_xor made.map number t x4 r) made.bytes r n
  from_xor {number} zero made t x4 r is small = none_left number _ made.bytes r
  from_xor (suc n) made t x4 r is small =
      xor_row made t x4 r is (omega arith) (from_sd n made t x4 (r + 1) (omega arith) (omega arith))

  from_sd : {number : ℕ} (n : ℕ) (made : MadeState number) (t x4 r : ℕ) → r ≡ 5 * t + 3 → r + n < 2 ^ 64
      → AllAgree number (in_turn made.map 0x8000000c number t x4 r) made.bytes r n
  from_sd {number} zero made t x4 r is small = none_left number _ made.bytes r
  from_sd {number} (suc n) made t x4 r is small =
      sd_row made t x4 r is (omega arith)
      (from_ld n (stored number t made) t x4 (r + 1) (cell_after number t made.bytes) (omega arith) (omega arith))

  from_ld : {number : ℕ} (n : ℕ) (made : MadeState number) (t x4 r : ℕ)
      → number_at made.bytes 0x80001000 8 ≡ x3_after number (t + 1) → r ≡ 5 * t + 4 → r + n < 2 ^ 64
      → AllAgree number (in_turn made.map 0x80000010 number t x4 r) made.bytes r n
  from_ld {number} zero made t x4 r cell is small = none_left number _ made.bytes r
  from_ld {number} (suc n) made t x4 r cell is small =
      ld_row made t x4 r cell is (omega arith)
      (from_jal n made t (x3_after number (t + 1)) (r + 1) (omega arith) (omega arith))

  from_jal : {number : ℕ} (n : ℕ) (made : MadeState number) (t x4 r : ℕ) → r ≡ 5 * t + 5 → r + n < 2 ^ 64
      → AllAgree number (in_turn made.map 0x80000014 number t x4 r) made.bytes r n
  from_jal {number} zero made t x4 r is small = none_left number _ made.bytes r
  from_jal (suc n) made t x4 r is small =
      jal_row made t x4 r is (omega arith) (from_addi n made (t + 1) x4 (r + 1) (omega arith) (omega arith))

-- all rows agree, from reset on
pub made_agree : (map : Map) (number rows : ℕ) (bytes : Bytes) → IsMadeMap map → HasImage number bytes → rows < 2 ^ 64
    → (judgement_of by_hart (core_at_reset 0x80000000 map plain_choices) (made_readings number rows) bytes).verdict
    ≡ Agrees rows rows
unfolding core_at_reset core_at_reset_of registers_at_reset csrs_at_reset csrs_at_reset_of after_writes made_row
made_agree map number zero bytes is_map image small = none_left number _ bytes 0
made_agree map number (suc n) bytes is_map image small =
    let made : MadeState number = record { map = map; bytes = bytes; is_map = is_map; has_image = image } in
    let rest : AllAgree number (at_addi map number 0 0 1) bytes 1 n =
    from_addi n made 0 0 1 (omega arith) (omega arith) in
    goes_on (readings_from number 1 n) n (first_agrees made) (rw (x1_none number, x3_none number) at rest)
