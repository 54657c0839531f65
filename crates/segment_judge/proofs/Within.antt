-- All that a step reads and writes is RAM.
use Rattle.std.proofs.Common.{◌≡◌, ℕ, inl, inr, Bool, true, false, List, [], ◌∷◌, Option, Some, None, refl, sym, ◌∙◌}
use Rattle.std.proofs.Common.{arith, All}
use Rattle.std.specs.Prelude.{◌||◌, ◌&&◌, not, if◌then◌else◌}
use Rattle.std.proofs.lemmas.Bool.{and_parts, or_cases}
use Rattle.std.proofs.lemmas.Bool.Decides.{nat_tests}
use Rattle.std.proofs.lemmas.List.Elements.{All-head, All-tail, All-weaker}
use Rattle.hart_words.specs.declared.span.Span.{Span}
use Rattle.hart_words.specs.declared.accesses.Read.{Read}
use Rattle.hart_words.specs.declared.accesses.Write.{Write}
use Rattle.hart_words.specs.Memory.{Bytes, is_within}
use Rattle.hart_words.specs.Signals.{Shown}
use Rattle.hart_words.specs.Spans.{holds_all, is_in}
use Rattle.read_footprint.specs.Footprints.{is_written}
use Rattle.read_footprint.specs.declared.footprint.Footprint.{Footprint}
use Rattle.read_footprint.specs.Sets.{IsNarrow, LiesInRam, has_read, has_written, is_read}
use Rattle.hart_step.specs.declared.state.Core.{Core}
use Rattle.hart_step.specs.Choices.{asks_interrupt}
use Rattle.hart_step.specs.Steps.{before_instruction, core_after_count, core_after_entry, interrupt_of}
use Rattle.hart_step.specs.Steps.{core_after_interrupt, core_after_interrupt_by, step_of}
use Rattle.hart_words.specs.declared.privilege.Mode.{Mode}
use Rattle.hart_step.proofs.Permitted.{step_reads_ram, step_writes_ram}

-- all bytes of a read, and of a write, are RAM
abbrev pub ReadLies : Span → Read → Type 0
ReadLies ram read = holds_all ram read.pa read.len ≡ true

abbrev pub WriteLies : Span → Write → Type 0
WriteLies ram write = holds_all ram write.pa write.len ≡ true

taken_map : (core : Core) (interrupt : Option (ℕ × Mode)) → (core_after_interrupt_by core interrupt).map ≡ core.map
unfolding core_after_entry
taken_map core None = refl
taken_map core (Some interrupt) = refl

interrupted_map : (core : Core) (shown : Shown) → (core_after_interrupt core shown).map ≡ core.map
unfolding core_after_interrupt
interrupted_map core shown = by (asks_interrupt core shown)
  where
    by : (asks : Bool) → (if asks then core_after_interrupt_by core (interrupt_of core shown) else core).map ≡ core.map
    by true = taken_map core (interrupt_of core shown)
    by false = refl

-- an interrupt that is entered leaves the map
pub begun_map : (core : Core) (shown : Shown) → (before_instruction core shown).map ≡ core.map
unfolding before_instruction core_after_count
begun_map core shown = interrupted_map (core_after_count core shown) shown

pub reads_lie : (core : Core) (shown : Shown) (bytes : Bytes)
    → All (ReadLies core.map.ram) ((step_of core shown).run bytes).reads
reads_lie core shown bytes =
    let begins = before_instruction core shown in
    let lies : All (ReadLies begins.map.ram) ((step_of core shown).run bytes).reads = step_reads_ram core shown bytes in
    rw (begun_map core shown) at lies

pub writes_lie : (core : Core) (shown : Shown) (bytes : Bytes)
    → All (WriteLies core.map.ram) ((step_of core shown).run bytes).wrote
writes_lie core shown bytes =
    let begins = before_instruction core shown in
    let lies : All (WriteLies begins.map.ram) ((step_of core shown).run bytes).wrote =
    step_writes_ram core shown bytes in
    rw (begun_map core shown) at lies

-- addresses of RAM are narrow
narrow : (ram : Span) (pa len : ℕ) → holds_all ram pa len ≡ true → IsNarrow pa len
narrow ram pa len holds =
    let below = ram.below in grind (arith, nat_tests, holds, below)

pub reads_narrow : (ram : Span) (reads : List Read) → All (ReadLies ram) reads
    → All (λ read. IsNarrow read.pa read.len) reads
reads_narrow ram reads all =
    All-weaker (ReadLies ram) (λ read. IsNarrow read.pa read.len) (λ read lies. narrow ram read.pa read.len lies)
    reads all

pub writes_narrow : (ram : Span) (writes : List Write) → All (WriteLies ram) writes
    → All (λ write. IsNarrow write.pa write.len) writes
writes_narrow ram writes all =
    All-weaker (WriteLies ram) (λ write. IsNarrow write.pa write.len)
    (λ write lies. narrow ram write.pa write.len lies) writes all

one_in : (ram : Span) (pa len address : ℕ) → holds_all ram pa len ≡ true → is_within pa len address ≡ true
    → is_in ram address ≡ true
one_in ram pa len address holds within = grind (arith, nat_tests, holds, within)

pub read_in : (ram : Span) (reads : List Read) (address : ℕ) → All (ReadLies ram) reads → is_read reads address ≡ true
    → is_in ram address ≡ true
read_in ram [] address all is = cc
read_in ram (read ∷ reads) address all is = elim (or_cases _ _ is) [
  | inl here ↦ one_in ram read.pa read.len address (All-head (ReadLies ram) read reads all) here
  | inr later ↦ read_in ram reads address (All-tail (ReadLies ram) read reads all) later
]

pub written_in : (ram : Span) (writes : List Write) (address : ℕ) → All (WriteLies ram) writes
    → is_written writes address ≡ true → is_in ram address ≡ true
written_in ram [] address all is = cc
written_in ram (write ∷ writes) address all is = elim (or_cases _ _ is) [
  | inl here ↦ one_in ram write.pa write.len address (All-head (WriteLies ram) write writes all) here
  | inr later ↦ written_in ram writes address (All-tail (WriteLies ram) write writes all) later
]

-- a footprint after one row more
pub record IsAdded (before after : Footprint) (reads : List Read) (writes : List Write) : Type 0 where
  pub read : (address : ℕ)
      → has_read after address
      ≡ (has_read before address || (is_read reads address && not (has_written before address)))
  pub wrote : (address : ℕ) → has_written after address ≡ (has_written before address || is_written writes address)

-- what is added within RAM keeps it within RAM
pub within_added : {before after : Footprint} {reads : List Read} {writes : List Write} (ram : Span)
    → IsAdded before after reads writes → All (ReadLies ram) reads → All (WriteLies ram) writes
    → LiesInRam ram before → LiesInRam ram after
within_added {reads = reads} {writes} ram added reads_in writes_in within = record {
  read = λ address is. elim (or_cases _ _ (sym (added.read address) ∙ is)) [
    | inl old ↦ within.read address old
    | inr new ↦ read_in ram reads address reads_in (and_parts _ _ new).0
  ];
  wrote = λ address is. elim (or_cases _ _ (sym (added.wrote address) ∙ is)) [
    | inl old ↦ within.wrote address old
    | inr new ↦ written_in ram writes address writes_in new
  ];
}
