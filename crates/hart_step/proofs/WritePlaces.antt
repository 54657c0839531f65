-- What a step is to write lies in RAM: the entries of page tables that it sets, and what it stores.
use Rattle.std.proofs.Common.{◌≡◌, ℕ, ◌+◌, ◌%◌, ◌≤◌, true, List, [], ◌∷◌, ◌++◌, length, sym, ap}
use Rattle.std.proofs.Common.{subst, arith}
use Rattle.std.specs.Prelude.{All}
use Rattle.std.proofs.lemmas.Bool.{and_parts}
use Rattle.std.proofs.lemmas.Bool.Decides.{nat_tests}
use Rattle.std.proofs.lemmas.List.Elements.{All-nil, All-append, All-push}
use Rattle.hart_words.specs.declared.span.Span.{Span}
use Rattle.hart_words.specs.declared.map.Map.{Map}
use Rattle.hart_words.specs.declared.choices.Choices.{Choices}
use Rattle.hart_words.specs.declared.accesses.Write.{Write}
use Rattle.hart_words.specs.declared.privilege.Mode.TheVariants.{Supervisor}
use Rattle.hart_words.specs.declared.privilege.Access.TheVariants.{Store}
use Rattle.hart_words.specs.Memory.{Bytes, bytes_after_store, after_writes}
use Rattle.hart_words.specs.Spans.{IsPlace, holds_all}
use Rattle.csr_file.specs.declared.csrs.Csrs.{Csrs}
use Rattle.csr_file.specs.Registers.{pmp_entries_of}
use Rattle.pmp_check.specs.Protection.{is_allowed}
use Rattle.mem_access.specs.Laws.{IsTableSet, AreTableSets, SetsAlone}
use Rattle.mem_access.proofs.Sets.{fetch_sets_alone}
use Rattle.hart_step.specs.declared.state.Core.{Core}
use Rattle.hart_step.specs.Changes.{AreInRam, AreStores}
use Rattle.hart_step.specs.Instructions.{fetch_at_pc}

-- an entry of 8 bytes at a multiple of 8
entry_place : (ram : Span) (pa : ℕ) → holds_all ram pa 8 ≡ true → pa % 8 ≡ 0 → IsPlace ram pa 8
entry_place ram pa held aligned =
    let below = ram.below in
    let low : ram.base ≤ pa = grind (arith, nat_tests) in
    let high : pa + 8 ≤ ram.base + ram.size = grind (arith, nat_tests) in
    record {
      low = low;
      high = high;
      narrow = omega arith;
      page = omega arith;
      nonempty = omega arith;
      at_most_8 = omega arith;
    }

set_place : (csrs : Csrs) (map : Map) (choices : Choices) (bytes : Bytes) (write : Write)
    → IsTableSet csrs map choices bytes write → IsPlace map.ram write.pa write.len
set_place csrs map choices bytes write is =
    let P : ℕ → Type 0 = λ n. IsPlace map.ram write.pa n in
    let whole : write.len ≡ 8 = ap (λ w. w.len) is.value in
    let held =
    (and_parts (holds_all map.ram write.pa 8) (is_allowed (pmp_entries_of csrs) Supervisor write.pa 8 Store)
    is.settable).0 in
    subst P (sym whole) (entry_place map.ram write.pa held is.aligned)

one : {X : Type 0} (P : X → Type 0) (x : X) → P x → All P (x ∷ [])
one P x holds = All-push P [] x (All-nil P) holds

table_sets_in_ram : (csrs : Csrs) (map : Map) (choices : Choices) (bytes : Bytes) (writes : List Write)
    → AreTableSets csrs map choices bytes writes → AreInRam map.ram writes
unfolding AreTableSets
table_sets_in_ram csrs map choices bytes [] sets = All-nil (λ write. IsPlace map.ram write.pa write.len)
table_sets_in_ram csrs map choices bytes (write ∷ writes) sets =
    let P : Write → Type 0 = λ w. IsPlace map.ram w.pa w.len in
    All-append P (write ∷ []) writes (one P write (set_place csrs map choices bytes write sets.0))
    (table_sets_in_ram csrs map choices (bytes_after_store write.pa write.len write.value bytes) writes sets.1)

-- entries that are set lie in RAM, after those that are set before
pub sets_in_ram : (csrs : Csrs) (map : Map) (choices : Choices) (bytes : Bytes) (before wrote : List Write)
    {after : List Write} → after ≡ before ++ wrote → AreInRam map.ram before
    → SetsAlone csrs map choices bytes wrote → AreInRam map.ram after
sets_in_ram csrs map choices bytes before wrote is old alone =
    let P : Write → Type 0 = λ w. IsPlace map.ram w.pa w.len in
    subst (All P) (sym is)
    (All-append P before wrote old (table_sets_in_ram csrs map choices bytes wrote alone.sets))

-- what a fetch sets, where nothing is set before
pub fetched_in_ram : (core : Core) (bytes : Bytes) (before : List Write) {after : List Write} → length before ≤ 0
    → after ≡ before ++ ((fetch_at_pc core).run (after_writes before bytes)).wrote → AreInRam core.map.ram after
fetched_in_ram core bytes before none is =
    let now = after_writes before bytes in
    sets_in_ram core.csrs core.map core.choices now before ((fetch_at_pc core).run now).wrote is
    (λ k d below. absurd (omega arith)) (fetch_sets_alone core.csrs core.map core.choices core.mode core.pc now)

-- what is stored
pub stores_nothing : (ram : Span) {stores : List Write} → stores ≡ [] → AreStores ram stores
stores_nothing ram is =
    subst (AreStores ram) (sym is)
    (record { at_most_two = omega arith; in_ram = All-nil (λ write. IsPlace ram write.pa write.len) })

pub stores_one : (ram : Span) (write : Write) {stores : List Write} → stores ≡ write ∷ []
    → IsPlace ram write.pa write.len → AreStores ram stores
stores_one ram write is place =
    subst (AreStores ram) (sym is)
    (record { at_most_two = omega arith; in_ram = one (λ w. IsPlace ram w.pa w.len) write place })

pub stores_two : (ram : Span) (low high : Write) {stores : List Write} → stores ≡ low ∷ high ∷ []
    → IsPlace ram low.pa low.len → IsPlace ram high.pa high.len → AreStores ram stores
stores_two ram low high is first second =
    let P : Write → Type 0 = λ w. IsPlace ram w.pa w.len in
    subst (AreStores ram) (sym is)
    (record {
      at_most_two = omega arith;
      in_ram = All-append P (low ∷ []) (high ∷ []) (one P low first) (one P high second);
    })

-- both, in the memory that the map describes
pub writes_in_ram : (sets stores : List Write) {ram known : Span} {writes : List Write} → known ≡ ram
    → writes ≡ sets ++ stores → AreInRam ram sets → AreStores ram stores → AreInRam known writes
writes_in_ram sets stores {ram} {writes} same is set stored =
    let P : Write → Type 0 = λ w. IsPlace ram w.pa w.len in
    subst (λ span. AreInRam span writes) (sym same)
    (subst (All P) (sym is) (All-append P sets stores set stored.in_ram))
