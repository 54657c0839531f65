-- Progress by one row.
use Rattle.std.proofs.Common.{◌≡◌, ◌+◌, All, List, [], ◌∷◌, ◌++◌, Option, Some, None, Ok, Err, refl, sym, ap, ◌∙◌}
use Rattle.std.proofs.Common.{subst, append-nil, arith}
use Rattle.hart_words.specs.declared.accesses.Read.{Read}
use Rattle.hart_words.specs.declared.accesses.Write.{Write}
use Rattle.hart_words.specs.declared.span.Span.{Span}
use Rattle.hart_words.specs.declared.signal.Difference.{Difference}
use Rattle.hart_words.specs.Actions.{Performs}
use Rattle.hart_words.specs.Memory.{Bytes, after_writes}
use Rattle.hart_words.specs.Signals.{Shown}
use Rattle.rvfi_rows.specs.declared.expected.Expected.{Expected}
use Rattle.rvfi_rows.specs.declared.fault.RowFault.{RowFault}
use Rattle.rvfi_rows.specs.declared.row_counts.RowCounts.{RowCounts}
use Rattle.rvfi_rows.specs.declared.verdict.Verdict.{Verdict}
use Rattle.rvfi_rows.specs.declared.verdict.Verdict.TheVariants.{Differs, Refused}
use Rattle.hart_step.specs.HartSets.{SetCanStep, set_state_of, set_step_of}
use Rattle.row_compare.specs.Difference.{difference_of}
use Rattle.read_footprint.specs.Footprints.{Accesses}
use Rattle.read_footprint.specs.Sets.{IsFootprintOf, LiesInRam}
use Rattle.segment_judge.specs.declared.progress.Progress.{Progress}
use Rattle.segment_judge.specs.Standings.{RowGives, accesses_at}
use Rattle.segment_judge.specs.Progress.{CanJudge, JudgesRow, standing}
use Rattle.segment_judge.proofs.Turns.{agreed_gives, after_valid, differing_gives, invalid_gives, performed_state}
use Rattle.segment_judge.proofs.Turns.{performed_touched, refused_gives}
use Rattle.segment_judge.proofs.Within.{IsAdded, ReadLies, WriteLies, within_added}

pub judges_refused : {M : Type 0} (bytes_of : M → Bytes) (before : Progress M) (fault : RowFault)
    (accesses : List Accesses)
    → JudgesRow bytes_of before before (Err fault) (Some (Refused (before.counts.rows + 1) fault)) accesses
unfolding after_writes
judges_refused bytes_of before fault accesses = record {
  gives = refused_gives (standing bytes_of before accesses) fault;
  footprint = λ is. subst (IsFootprintOf before.footprint) (sym (append-nil accesses)) is;
  bytes = refl;
}

pub judges_invalid : {M : Type 0} (bytes_of : M → Bytes) (before : Progress M) (counts : RowCounts)
    (accesses : List Accesses) → counts.rows ≡ before.counts.rows + 1 → counts.valid ≡ before.counts.valid + 0
    → JudgesRow bytes_of before (record before { counts = counts }) (Ok None) None accesses
unfolding after_writes
judges_invalid bytes_of before counts accesses rows valid =
    let start = standing bytes_of before accesses in
    let valid_same : counts.valid ≡ before.counts.valid = omega (arith, valid) in
    let now : record start { rows = start.rows + 1; accesses = accesses ++ [] }
    ≡ standing bytes_of (record before { counts = counts }) (accesses ++ []) =
    rw (rows, valid_same) refl in
    record {
      gives = subst (RowGives start (Ok None) None) now (invalid_gives start);
      footprint = λ is. subst (IsFootprintOf before.footprint) (sym (append-nil accesses)) is;
      bytes = refl;
    }

-- a valid row was stepped, and what it touched was added
pub record Stepped {M : Type 0} (bytes_of : M → Bytes) (before now : Progress M) (shown : Shown) (expected : Expected)
    (seen : List Read) (wrote : List Write) : Type 0 where
  pub done : Performs (set_step_of before.harts.cores.items shown)
      (record { next = now.harts.cores.items; expected = expected }) [] seen [] wrote (bytes_of before.harts.mem)
      (bytes_of now.harts.mem)
  pub added : (rows : List Accesses) → IsFootprintOf before.footprint rows
      → IsFootprintOf now.footprint (rows ++ record { reads = seen; wrote = wrote } ∷ [])
  pub rows : now.counts.rows ≡ before.counts.rows + 1

following : {M : Type 0} (bytes_of : M → Bytes) (before now : Progress M) {shown : Shown} {expected : Expected}
    {seen : List Read} {wrote : List Write} (accesses : List Accesses)
    → Stepped bytes_of before now shown expected seen wrote
    → after_valid (standing bytes_of before accesses) shown now.counts.valid
    ≡ standing bytes_of now (accesses ++ accesses_at (set_state_of bytes_of before.harts) (Ok (Some shown)))
following bytes_of before now {shown} {expected} {seen} {wrote} accesses stepped =
    rw (
      stepped.rows,
      performed_state (set_state_of bytes_of before.harts) shown now.harts.cores.items expected seen wrote
          (bytes_of now.harts.mem) stepped.done,
    ) refl

judges_by : {M : Type 0} (bytes_of : M → Bytes) (before now : Progress M) {shown : Shown} {expected : Expected}
    {seen : List Read} {wrote : List Write} (accesses : List Accesses) (end : Option Verdict)
    → Stepped bytes_of before now shown expected seen wrote
    → RowGives (standing bytes_of before accesses) (Ok (Some shown)) end
    (after_valid (standing bytes_of before accesses) shown now.counts.valid)
    → JudgesRow bytes_of before now (Ok (Some shown)) end accesses
judges_by bytes_of before now {shown} {expected} {seen} {wrote} accesses end stepped gives =
    let state = set_state_of bytes_of before.harts in
    let touches =
    performed_touched state shown now.harts.cores.items expected seen wrote (bytes_of now.harts.mem) stepped.done in
    record {
      gives =
          subst (RowGives (standing bytes_of before accesses) (Ok (Some shown)) end)
          (following bytes_of before now accesses stepped) gives;
      footprint =
          λ is. subst (λ more. IsFootprintOf now.footprint (accesses ++ more)) (sym touches)
          (stepped.added accesses is);
      bytes =
          stepped.done.bytes_are
          ∙ ap (λ writes. after_writes writes (bytes_of before.harts.mem)) (sym (append-nil _));
    }

-- what the row's hart does
abbrev expected_by : {M : Type 0} → (M → Bytes) → Progress M → Shown → Expected
expected_by bytes_of before shown =
    ((set_step_of before.harts.cores.items shown).run (bytes_of before.harts.mem)).value.expected

expected_is : {M : Type 0} (bytes_of : M → Bytes) (before now : Progress M) {shown : Shown} {expected : Expected}
    {seen : List Read} {wrote : List Write} → Stepped bytes_of before now shown expected seen wrote
    → expected ≡ expected_by bytes_of before shown
expected_is bytes_of before now stepped = ap (λ gave. gave.expected) stepped.done.value_is

pub judges_agreed : {M : Type 0} (bytes_of : M → Bytes) (before now : Progress M) {shown : Shown}
    {expected : Expected} {seen : List Read} {wrote : List Write} (accesses : List Accesses)
    → Stepped bytes_of before now shown expected seen wrote → now.counts.valid ≡ before.counts.valid + 1
    → difference_of expected shown ≡ None → JudgesRow bytes_of before now (Ok (Some shown)) None accesses
judges_agreed bytes_of before now {shown} accesses done valid agrees =
    let start = standing bytes_of before accesses in
    let none : difference_of (expected_by bytes_of before shown) shown ≡ None =
    ap (λ did. difference_of did shown) (sym (expected_is bytes_of before now done)) ∙ agrees in
    judges_by bytes_of before now accesses None done
    (subst (λ count. RowGives start (Ok (Some shown)) None (after_valid start shown count)) (sym valid)
    (agreed_gives start shown none))

pub judges_differing : {M : Type 0} (bytes_of : M → Bytes) (before now : Progress M) {shown : Shown}
    {expected : Expected} {seen : List Read} {wrote : List Write} (accesses : List Accesses) {difference : Difference}
    → Stepped bytes_of before now shown expected seen wrote → difference_of expected shown ≡ Some difference
    → JudgesRow bytes_of before now (Ok (Some shown)) (Some (Differs now.counts.rows difference)) accesses
judges_differing bytes_of before now {shown} accesses {difference} done differs =
    let start = standing bytes_of before accesses in
    let some : difference_of (expected_by bytes_of before shown) shown ≡ Some difference =
    ap (λ did. difference_of did shown) (sym (expected_is bytes_of before now done)) ∙ differs in
    judges_by bytes_of before now accesses (Some (Differs now.counts.rows difference)) done
    (rw done.rows (differing_gives start shown difference some))

-- the next row may be judged too
pub still_judges : {M : Type 0} {before now : Progress M} {seen : List Read} {wrote : List Write} (ram_of : M → Span)
    → CanJudge ram_of before → SetCanStep ram_of now.harts → ram_of now.harts.mem ≡ ram_of before.harts.mem
    → IsAdded before.footprint now.footprint seen wrote → All (ReadLies (ram_of before.harts.mem)) seen
    → All (WriteLies (ram_of before.harts.mem)) wrote → CanJudge ram_of now
still_judges {before = before} {now} ram_of can can_step ram added reads_in writes_in = record {
  can_step = can_step;
  within =
      subst (λ span. LiesInRam span now.footprint) (sym ram)
      (within_added (ram_of before.harts.mem) added reads_in writes_in can.within);
}
