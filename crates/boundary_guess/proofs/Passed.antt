-- Guesses after one row and one segment more.
use Rattle.std.proofs.Common.{◌≡◌, ℕ, zero, suc, ◌+◌, ◌≤◌, ◌==◌, List, [], ◌∷◌, ◌++◌, length, drop, map, slice_get}
use Rattle.std.proofs.Common.{option_map, Some, Bool, true, false, if◌then◌else◌, refl, sym, ap, ◌∙◌, arith, add-one}
use Rattle.std.proofs.Common.{append_assoc, subst, None, Ok, Err}
use Rattle.std.proofs.lemmas.List.{drop_all, length-map, map-append}
use Rattle.std.proofs.lemmas.List.Elements.{All-append, All-cons, All-nil}
use Rattle.std.proofs.lemmas.Option.{slice_get-map}
use Rattle.std.specs.List.{All}
use Rattle.hart_words.specs.declared.span.Span.{Span}
use Rattle.hart_words.specs.Memory.{Bytes}
use Rattle.hart_words.specs.Signals.{Shown}
use Rattle.rvfi_rows.specs.declared.segment.Segment.{Segment}
use Rattle.rvfi_rows.specs.Readings.{valid_shown}
use Rattle.rvfi_rows.specs.Segments.{segment_lines}
use Rattle.rvfi_rows.specs.Columns.{TraceColumns}
use Rattle.rvfi_rows.specs.Rows.{RowReading, rows_of}
use Rattle.hart_set.specs.declared.set.HartSet.{HartSet}
use Rattle.hart_set.specs.Calls.{CanStep, TakesQuietRow}
use Rattle.hart_step.specs.declared.state.Core.{Core}
use Rattle.hart_step.specs.Cores.{IsSound}
use Rattle.hart_step.specs.HartSets.{SetState, set_after_row}
use Rattle.hart_step.specs.Meanings.{core_meaning}
use Rattle.boundary_guess.specs.Guesses.{SetCanStep, PassesReading, guess_after, guess_after_row, guesses_of}
use Rattle.boundary_guess.specs.Guesses.{set_state_of, state_shown}

drop_from : {A : Type 0} (xs : List A) (i : ℕ) (x : A) → Some x ≡ slice_get xs i → drop i xs ≡ x ∷ drop (suc i) xs
drop_from [] i x is = absurd cc
drop_from (y ∷ xs) zero x is = let same : x ≡ y = cc in rw same refl
drop_from (y ∷ xs) (suc i) x is = drop_from xs i x is

drop_found : {A : Type 0} (xs : List A) (i : ℕ) (x : A) → Some x ≡ slice_get xs i → drop i xs ≡ x ∷ drop (i + 1) xs
drop_found xs i x is = rw add-one (drop_from xs i x is)

-- a row is passed
pub row_turn : (before now : SetState) (rows : List RowReading) (place : ℕ) {row : RowReading} {whole : SetState}
    {goes_on : Bool} → Some row ≡ slice_get rows place → goes_on ≡ true → PassesReading before row goes_on now
    → guess_after before (drop place rows) ≡ whole → guess_after now (drop (place + 1) rows) ≡ whole
row_turn before now rows place {row} here is passes so_far =
    sym (passes (drop (place + 1) rows) ∙ ap (λ test. if test then guess_after now (drop (place + 1) rows) else now) is)
    ∙ sym (ap (λ rest. guess_after before rest) (drop_found rows place row here)) ∙ so_far

-- a row ends the guess
pub row_stops : (before now : SetState) (rows : List RowReading) (place : ℕ) {row : RowReading} {whole : SetState}
    {goes_on : Bool} → Some row ≡ slice_get rows place → goes_on ≡ false → PassesReading before row goes_on now
    → guess_after before (drop place rows) ≡ whole → now ≡ whole
row_stops before now rows place {row} here is passes so_far =
    sym (passes (drop (place + 1) rows) ∙ ap (λ test. if test then guess_after now (drop (place + 1) rows) else now) is)
    ∙ sym (ap (λ rest. guess_after before rest) (drop_found rows place row here)) ∙ so_far

-- no row is left
pub rows_end : (state : SetState) (rows : List RowReading) (place : ℕ) (whole : SetState) → length rows ≤ place
    → guess_after state (drop place rows) ≡ whole → state ≡ whole
unfolding guess_after
rows_end state rows place whole past so_far =
    sym (ap (λ rest. guess_after state rest) (drop_all place rows past)) ∙ so_far

-- a segment is passed
pub segment_turn : (columns : TraceColumns) (before : SetState) (segments : List (List (List ℕ))) (index : ℕ)
    (done : List SetState) {now : SetState} {lines : List (List ℕ)} {whole : List SetState}
    → Some lines ≡ slice_get segments index → now ≡ guess_after before (rows_of columns lines)
    → done ++ guesses_of before columns (drop index segments) ≡ whole
    → (done ++ before ∷ []) ++ guesses_of now columns (drop (index + 1) segments) ≡ whole
unfolding guesses_of
segment_turn columns before segments index done {now} {lines} here is so_far =
    append_assoc done (before ∷ []) (guesses_of now columns (drop (index + 1) segments))
    ∙ ap (λ state. done ++ before ∷ guesses_of state columns (drop (index + 1) segments)) is
    ∙ sym (ap (λ rest. done ++ guesses_of before columns rest) (drop_found segments index lines here))
    ∙ so_far

-- the last segment
last_of : {A : Type 0} (xs : List A) (index : ℕ) → length xs ≡ index + 1 → (x : A) × (drop index xs ≡ x ∷ [])
last_of [] index all = absurd (omega (arith, all))
last_of (x ∷ []) zero all = (x, refl)
last_of (x ∷ y ∷ xs) zero all = absurd (omega (arith, all))
last_of (x ∷ xs) (suc index) all = last_of xs index (omega (arith, all))

pub segments_end : (columns : TraceColumns) (state : SetState) (segments : List (List (List ℕ))) (index : ℕ)
    (done whole : List SetState) → length segments ≡ index + 1
    → done ++ guesses_of state columns (drop index segments) ≡ whole → done ++ state ∷ [] ≡ whole
unfolding guesses_of
segments_end columns state segments index done whole all so_far =
    let last = last_of segments index all in
    sym (ap (λ rest. done ++ guesses_of state columns rest) last.1) ∙ so_far

lines_at : (segments : List Segment) (index : ℕ) (segment : Segment) → slice_get segments index ≡ Some segment
    → Some segment.lines ≡ slice_get (map segment_lines segments) index
lines_at segments index segment here =
    sym (slice_get-map segment_lines segments index ∙ ap (λ found. option_map segment_lines found) here)

-- ---- the same of harts: what is kept is a copy, and a copy of that goes on

pub same_state : {M : Type 0} (bytes : M → Bytes) (one other : HartSet Core M) → one.cores.items ≡ other.cores.items
    → bytes one.mem ≡ bytes other.mem → set_state_of bytes one ≡ set_state_of bytes other
same_state bytes one other cores mem = rw (cores, mem) refl

pub can_copy : {M : Type 0} (ram : M → Span) (harts other : HartSet Core M) → other.cores.items ≡ harts.cores.items
    → ram other.mem ≡ ram harts.mem → SetCanStep ram harts → SetCanStep ram other
can_copy ram harts other cores mem can =
    let P : Span → List Core → Type 0 = λ span items. CanStep core_meaning IsSound span items in
    subst (λ span. P span other.cores.items) (sym mem) (subst (λ items. P (ram harts.mem) items) (sym cores) can)

kept_last : {M : Type 0} (bytes : M → Bytes) (items : List (HartSet Core M)) (kept : HartSet Core M)
    → map (set_state_of bytes) (items ++ kept ∷ []) ≡ map (set_state_of bytes) items ++ set_state_of bytes kept ∷ []
kept_last bytes items kept = map-append (set_state_of bytes) items (kept ∷ [])

-- a turn of the loop keeps a copy of the harts before a segment, and passes its rows
pub record PassesSegment {M : Type 0} (bytes : M → Bytes) (columns : TraceColumns) (segments : List Segment) (index : ℕ)
    (before kept now : HartSet Core M) : Type 0 where
  pub segment : Segment
  pub segment_is : slice_get segments index ≡ Some segment
  pub copied : set_state_of bytes kept ≡ set_state_of bytes before
  pub passed : set_state_of bytes now ≡ guess_after (set_state_of bytes before) (rows_of columns segment.lines)

pub set_turn : {M : Type 0} {bytes : M → Bytes} {columns : TraceColumns} {segments : List Segment} {index : ℕ}
    {before kept now : HartSet Core M} (items : List (HartSet Core M)) {whole : List SetState}
    → PassesSegment bytes columns segments index before kept now
    → map (set_state_of bytes) items
    ++ guesses_of (set_state_of bytes before) columns (drop index (map segment_lines segments)) ≡ whole
    → map (set_state_of bytes) (items ++ kept ∷ [])
    ++ guesses_of (set_state_of bytes now) columns (drop (index + 1) (map segment_lines segments)) ≡ whole
set_turn {bytes} {columns} {segments} {index} {before} {kept} {now} items turn so_far =
    let left = guesses_of (set_state_of bytes now) columns (drop (index + 1) (map segment_lines segments)) in
    ap (λ done. done ++ left) (kept_last bytes items kept)
    ∙ ap (λ state. (map (set_state_of bytes) items ++ state ∷ []) ++ left) turn.copied
    ∙ segment_turn columns (set_state_of bytes before) (map segment_lines segments) index
    (map (set_state_of bytes) items) (lines_at segments index turn.segment turn.segment_is) turn.passed so_far

-- where one segment is left, a copy of the harts before it is kept
pub record EndsAtSegment {M : Type 0} (bytes : M → Bytes) (segments : List Segment) (index : ℕ)
    (before kept : HartSet Core M) : Type 0 where
  pub one_left : length segments ≡ index + 1
  pub copied : set_state_of bytes kept ≡ set_state_of bytes before

pub set_end : {M : Type 0} {bytes : M → Bytes} {segments : List Segment} {index : ℕ} {before kept : HartSet Core M}
    (columns : TraceColumns) (items : List (HartSet Core M)) {whole : List SetState}
    → EndsAtSegment bytes segments index before kept
    → map (set_state_of bytes) items
    ++ guesses_of (set_state_of bytes before) columns (drop index (map segment_lines segments)) ≡ whole
    → map (set_state_of bytes) (items ++ kept ∷ []) ≡ whole
set_end {bytes} {segments} {index} {before} {kept} columns items {whole} ends so_far =
    kept_last bytes items kept
    ∙ ap (λ state. map (set_state_of bytes) items ++ state ∷ []) ends.copied
    ∙ segments_end columns (set_state_of bytes before) (map segment_lines segments) index
    (map (set_state_of bytes) items) whole (length-map segments segment_lines ∙ ends.one_left) so_far

pub no_segment : {M : Type 0} (bytes : M → Bytes) (columns : TraceColumns) (segments : List Segment) (state : SetState)
    (items : List (HartSet Core M)) → items ≡ [] → length segments ≡ 0
    → map (set_state_of bytes) items ≡ guesses_of state columns (map segment_lines segments)
unfolding guesses_of
no_segment bytes columns [] state items none empty = rw none refl
no_segment bytes columns (segment ∷ segments) state items none empty = absurd (omega (arith, empty))

pub all_push : {A : Type 0} (P : A → Type 0) (items : List A) (item : A) → All P items → P item
    → All P (items ++ item ∷ [])
all_push P items item all one = All-append P items (item ∷ []) all (All-cons P item [] one (All-nil P))

pub is_some_length : (count : ℕ) → (count == 0) ≡ false → 1 ≤ count
is_some_length zero is = absurd cc
is_some_length (suc count) is = omega arith

-- ---- a row that is passed with few looks, and one that is not

quiet_passes : {M : Type 0} (bytes : M → Bytes) (before now : HartSet Core M) (shown : Shown)
    → TakesQuietRow core_meaning before.cores.items shown now.cores.items → bytes now.mem ≡ bytes before.mem
    → PassesReading (set_state_of bytes before) (Ok (Some shown)) true (set_state_of bytes now)
unfolding guess_after guess_after_row
quiet_passes bytes before now shown quiet mem = λ rest.
    let done = quiet.taken (bytes before.mem) in
    let state = set_state_of bytes before in
    let taken : state_shown state shown ≡ set_state_of bytes now =
    sym (rw (done.value_is, mem ∙ done.bytes_are) refl) in
    ap (λ test. guess_after (if test then state_shown state shown else set_after_row state shown) rest) quiet.plain
    ∙ ap (λ after. guess_after after rest) taken

is_valid : (reading : RowReading) (shown : Shown) → Some shown ≡ valid_shown (Some reading)
    → Ok (Some shown) ≡ reading
is_valid (Err fault) shown is = absurd cc
is_valid (Ok None) shown is = absurd cc
is_valid (Ok (Some other)) shown is =
    let same : shown ≡ other = cc in
    ap (λ (one : Shown). Ok (Some one)) same

pub quiet_passes_there : {M : Type 0} (bytes : M → Bytes) (before now : HartSet Core M) (shown : Shown)
    (rows : List RowReading) (place : ℕ) → Some shown ≡ valid_shown (slice_get rows place)
    → TakesQuietRow core_meaning before.cores.items shown now.cores.items → bytes now.mem ≡ bytes before.mem
    → (reading : RowReading) → Some reading ≡ slice_get rows place
    → PassesReading (set_state_of bytes before) reading true (set_state_of bytes now)
quiet_passes_there bytes before now shown rows place valid quiet mem = λ reading there.
    let is : Ok (Some shown) ≡ reading = is_valid reading shown (valid ∙ ap valid_shown (sym there)) in
    subst (λ (r : RowReading). PassesReading (set_state_of bytes before) r true (set_state_of bytes now)) is
    (quiet_passes bytes before now shown quiet mem)

pub slow_passes : (before same now : SetState) (rows : List RowReading) (place : ℕ) (row : RowReading) (goes_on : Bool)
    → same ≡ before → Some row ≡ slice_get rows place → PassesReading same row goes_on now
    → (reading : RowReading) → Some reading ≡ slice_get rows place → PassesReading before reading goes_on now
slow_passes before same now rows place row goes_on is here passes = λ reading there.
    let both : Some row ≡ Some reading = here ∙ sym there in
    let one : row ≡ reading = cc in
    subst (λ (r : RowReading). PassesReading before r goes_on now) one
    (subst (λ (state : SetState). PassesReading state row goes_on now) is passes)
