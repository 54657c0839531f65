-- All that a step of several harts reads and writes is RAM, and no step changes the map of a hart.
use Rattle.std.proofs.Common.{◌≡◌, ℕ, All, List, [], Option, Some, None, refl, sym, ap, ◌∙◌, subst}
use Rattle.std.specs.List.{slice_get}
use Rattle.std.proofs.lemmas.List.Elements.{All-nil}
use Rattle.std.proofs.lemmas.Option.{slice_get_within}
use Rattle.hart_words.specs.declared.accesses.Read.{Read}
use Rattle.hart_words.specs.declared.accesses.Write.{Write}
use Rattle.hart_words.specs.declared.map.Map.{Map}
use Rattle.hart_words.specs.declared.span.Span.{Span}
use Rattle.hart_words.specs.Actions.{Performs}
use Rattle.hart_words.specs.Memory.{Bytes}
use Rattle.hart_words.specs.Signals.{Shown}
use Rattle.rvfi_rows.specs.declared.expected.Expected.{Expected}
use Rattle.rvfi_rows.specs.Meanings.{lost_by}
use Rattle.rvfi_rows.specs.Rows.{hart_of}
use Rattle.hart_set.specs.Laws.{set_run}
use Rattle.hart_set.specs.Sets.{concluded, stepped_by}
use Rattle.hart_set.proofs.Places.{all_kept}
use Rattle.hart_set.proofs.SetLaws.{absent_idle, steps_its_hart}
use Rattle.hart_set.proofs.Steps.{has_of, lost_keeps}
use Rattle.hart_step.specs.declared.state.Core.{Core}
use Rattle.hart_step.specs.HartSets.{set_step_of}
use Rattle.hart_step.specs.Meanings.{core_meaning}
use Rattle.hart_step.specs.Steps.{step_of}
use Rattle.segment_judge.specs.Judgements.{accesses_by}
use Rattle.segment_judge.specs.Ram.{HaveRam, IsInRam}
use Rattle.segment_judge.proofs.Maps.{map_stays}
use Rattle.segment_judge.proofs.Within.{ReadLies, WriteLies, reads_lie, writes_lie}

-- RAM is that of the hart's map
abbrev HasRam : Span → Core → Type 0
HasRam ram core = ram ≡ core.map.ram

ram_of_hart : (ram : Span) (cores : List Core) (number : ℕ) (core : Core) → slice_get cores number ≡ Some core
    → HaveRam ram cores → ram ≡ core.map.ram
ram_of_hart ram cores number core there all =
    has_of (HasRam ram) number core cores there (slice_get_within cores number core there) all

-- the hart of the number steps alone
lies_there : (ram : Span) (cores : List Core) (shown : Shown) (number : ℕ) (bytes : Bytes) (core : Core)
    → slice_get cores number ≡ Some core → ram ≡ core.map.ram
    → IsInRam ram (accesses_by (set_run core_meaning cores shown number bytes))
lies_there ram cores shown number bytes core there has =
    let its = steps_its_hart core_meaning cores shown number core bytes there in
    let reads : All (ReadLies ram) ((step_of core shown).run bytes).reads =
    subst (λ span. All (ReadLies span) ((step_of core shown).run bytes).reads) (sym has) (reads_lie core shown bytes) in
    let writes : All (WriteLies ram) ((step_of core shown).run bytes).wrote =
    subst (λ span. All (WriteLies span) ((step_of core shown).run bytes).wrote) (sym has)
    (writes_lie core shown bytes) in
    record {
      reads = subst (All (ReadLies ram)) (sym its.reads) reads;
      writes = subst (All (WriteLies ram)) (sym its.wrote) writes;
    }

lies_nowhere : (ram : Span) (cores : List Core) (shown : Shown) (number : ℕ) (bytes : Bytes)
    → slice_get cores number ≡ None → IsInRam ram (accesses_by (set_run core_meaning cores shown number bytes))
lies_nowhere ram cores shown number bytes there =
    let idles = absent_idle core_meaning cores shown number bytes there in
    record {
      reads = subst (All (ReadLies ram)) (sym (ap (λ done. done.reads) idles)) (All-nil (ReadLies ram));
      writes = subst (All (WriteLies ram)) (sym (ap (λ done. done.wrote) idles)) (All-nil (WriteLies ram));
    }

step_lies : (ram : Span) (cores : List Core) (shown : Shown) (number : ℕ) (bytes : Bytes) → HaveRam ram cores
    → IsInRam ram (accesses_by (set_run core_meaning cores shown number bytes))
step_lies ram cores shown number bytes all = by (slice_get cores number) refl
  where
    by : (found : Option Core) → slice_get cores number ≡ found
        → IsInRam ram (accesses_by (set_run core_meaning cores shown number bytes))
    by None there = lies_nowhere ram cores shown number bytes there
    by (Some core) there =
        lies_there ram cores shown number bytes core there (ram_of_hart ram cores number core there all)

-- what a row reads and writes
pub row_lies : (ram : Span) (cores : List Core) (shown : Shown) (bytes : Bytes) → HaveRam ram cores
    → IsInRam ram (accesses_by ((set_step_of cores shown).run bytes))
row_lies ram cores shown bytes all = step_lies ram cores shown (hart_of shown) bytes all

-- the hart of the number keeps its map, and the others lose no map
ram_kept_there : (ram : Span) (cores : List Core) (shown : Shown) (number : ℕ) (bytes : Bytes) (core : Core)
    → slice_get cores number ≡ Some core → ram ≡ core.map.ram → HaveRam ram cores
    → HaveRam ram ((stepped_by core_meaning cores shown number (Some core)).run bytes).value.next
unfolding stepped_by concluded
ram_kept_there ram cores shown number bytes core there has all =
    let done = (step_of core shown).run bytes in
    let stays = ap (λ (map : Map). map.ram) (map_stays core shown bytes) in
    all_kept (HasRam ram) (lost_by core_meaning done.wrote) number done.value.next core cores there
    (λ c holds. holds ∙ sym (lost_keeps core_meaning (λ (k : Core). k.map.ram) (λ k pa len. refl) done.wrote c))
    (has ∙ sym stays) all

step_keeps_ram : (ram : Span) (cores : List Core) (shown : Shown) (number : ℕ) (bytes : Bytes) → HaveRam ram cores
    → HaveRam ram (set_run core_meaning cores shown number bytes).value.next
step_keeps_ram ram cores shown number bytes all = by (slice_get cores number) refl
  where
    by : (found : Option Core) → slice_get cores number ≡ found
        → HaveRam ram (set_run core_meaning cores shown number bytes).value.next
    by None there =
        subst (HaveRam ram)
        (sym (ap (λ done. done.value.next) (absent_idle core_meaning cores shown number bytes there))) all
    by (Some core) there =
        subst (λ found. HaveRam ram ((stepped_by core_meaning cores shown number found).run bytes).value.next)
        (sym there)
        (ram_kept_there ram cores shown number bytes core there (ram_of_hart ram cores number core there all) all)

-- after a row RAM is still that of each hart's map
pub row_keeps_ram : (ram : Span) (cores : List Core) (shown : Shown) (bytes : Bytes) → HaveRam ram cores
    → HaveRam ram ((set_step_of cores shown).run bytes).value.next
row_keeps_ram ram cores shown bytes all = step_keeps_ram ram cores shown (hart_of shown) bytes all

-- what a step that was performed read and wrote
pub performed_reads : {next : List Core} {expected : Expected} {seen : List Read} {wrote : List Write}
    {bytes after : Bytes} (ram : Span) (cores : List Core) (shown : Shown) → HaveRam ram cores
    → Performs (set_step_of cores shown) (record { next = next; expected = expected }) [] seen [] wrote bytes after
    → All (ReadLies ram) seen
performed_reads {bytes = bytes} ram cores shown all done =
    subst (All (ReadLies ram)) (sym done.seen_is) (row_lies ram cores shown bytes all).reads

pub performed_writes : {next : List Core} {expected : Expected} {seen : List Read} {wrote : List Write}
    {bytes after : Bytes} (ram : Span) (cores : List Core) (shown : Shown) → HaveRam ram cores
    → Performs (set_step_of cores shown) (record { next = next; expected = expected }) [] seen [] wrote bytes after
    → All (WriteLies ram) wrote
performed_writes {bytes = bytes} ram cores shown all done =
    subst (All (WriteLies ram)) (sym done.wrote_is) (row_lies ram cores shown bytes all).writes
