-- What rows in S and U leave, one after another.
use Rattle.std.proofs.Common.{◌^◌}
use Rattle.std.proofs.Common.{◌≡◌, ◌≢◌, ◌⊎◌, ℕ, ◌+◌, ◌<◌, ◌≤◌, Bool, true, false, List, [], ◌∷◌, refl, sym, ap, ◌∙◌}
use Rattle.std.proofs.Common.{subst, arith, All, Option, length}
use Rattle.std.specs.Prelude.{nat_lt, nat_le, ◌&&◌}
use Rattle.std.proofs.Math.Pow.{pow_mono}
use Rattle.std.proofs.lemmas.Bool.Decides.{nat_tests}
use Rattle.std.proofs.lemmas.List.Elements.{All-append, All-head, All-tail, All-take, All-weaker}
use Rattle.hart_words.specs.declared.privilege.Access.TheVariants as kind
use Rattle.hart_words.specs.declared.privilege.Mode.{Mode}
use Rattle.hart_words.specs.declared.privilege.Mode.TheVariants.{User, Supervisor, Machine}
use Rattle.hart_words.specs.declared.privilege.PmpEntry.{PmpEntry}
use Rattle.hart_words.specs.declared.accesses.Write.{Write}
use Rattle.hart_words.specs.Memory.{Bytes, after_writes, bytes_after_store}
use Rattle.hart_words.specs.Signals.{Shown}
use Rattle.hart_words.proofs.Stores.{stored-outside}
use Rattle.pmp_check.specs.Covering.{IsRegister, NoneCovers, SomeByte, CoversAt, EachByte}
use Rattle.pmp_check.specs.Protection.{is_allowed, entry_permits}
use Rattle.pmp_check.proofs.Deciding.{none_decides, whole_decides}
use Rattle.pmp_check.proofs.Parts.{byte_allowed, both_alike}
use Rattle.rv_integer.specs.declared.int_result.IntResult.{IntResult}
use Rattle.csr_file.specs.declared.csrs.Csrs.{Csrs}
use Rattle.csr_file.specs.declared.profile.CsrProfile.{CsrProfile}
use Rattle.csr_file.specs.Profiles.{entry_bits_of, entry_count_of}
use Rattle.csr_file.specs.Registers.{pmp_entries_of}
use Rattle.csr_file.specs.Legal.{IsLegal, IsLegalEntry}
use Rattle.mem_access.specs.Places.{data_mode_of}
use Rattle.hart_step.specs.declared.state.Core.{Core}
use Rattle.hart_step.specs.Cores.{IsSound}
use Rattle.hart_step.specs.Rows.{HartState, RunBelowMachine, after_row, after_rows}
use Rattle.hart_step.specs.Steps.{before_instruction, step_of}
use Rattle.hart_step.specs.Laws.{AreSetsAndStores}
use Rattle.hart_step.specs.ProtectionLaws.{ArePermittedStores, ForbidsStores, IsPermittedStore, IsPreserved, IsRefused}
use Rattle.hart_step.specs.ProtectionLaws.{LocksArePreserved}
use Rattle.hart_step.proofs.Entries.{SameEntries, begun_entries, lower_modes_leave}
use Rattle.hart_step.proofs.Permitted.{step_granted}
use Rattle.hart_step.proofs.Locks.{locks_outlast, locks_after, same_outlasts}
use Rattle.hart_step.proofs.StepSets.{IsSettable, are_settable}

-- a byte that no write reaches
abbrev pub Misses : ℕ → Write → Type 0
Misses byte write = (byte < write.pa) ⊎ (write.pa + write.len ≤ byte)

pub unreached : (wrote : List Write) (bytes : Bytes) (byte : ℕ) → All (Misses byte) wrote
    → after_writes wrote bytes byte ≡ bytes byte
unfolding after_writes
unreached [] bytes byte misses = refl
unreached (write ∷ wrote) bytes byte misses =
    unreached wrote (bytes_after_store write.pa write.len write.value bytes) byte
    (All-tail (Misses byte) write wrote misses)
    ∙ stored-outside write.pa write.len write.value byte bytes (All-head (Misses byte) write wrote misses)

unless_reached : (byte : ℕ) (write : Write) → (write.pa ≤ byte → byte < write.pa + write.len → ⊥) → Misses byte write
unless_reached byte write reached = by (nat_le write.pa byte && nat_lt byte (write.pa + write.len)) refl
  where
    by : (within : Bool) → (nat_le write.pa byte && nat_lt byte (write.pa + write.len)) ≡ within → Misses byte write
    by true is = absurd (reached (grind (arith, nat_tests, is)) (grind (arith, nat_tests, is)))
    by false is = grind (arith, nat_tests, is)

-- S and U are refused the same
lower_allowed : (csrs : Csrs) (mode : Mode) (entries : List PmpEntry) (byte : ℕ) → mode ≢ Machine
    → is_allowed entries (data_mode_of csrs mode) byte 1 kind.Store ≡ true
    → is_allowed entries Supervisor byte 1 kind.Store ≡ true
unfolding data_mode_of
lower_allowed csrs Machine entries byte lower allowed = absurd (lower refl)
lower_allowed csrs Supervisor entries byte lower allowed = allowed
lower_allowed csrs User entries byte lower allowed = sym (both_alike entries byte 1 kind.Store) ∙ allowed

-- a store that is granted does not reach a byte that is refused to every mode
pub refused_misses : (core : Core) (byte : ℕ) (write : Write)
    → ((mode : Mode) → is_allowed (pmp_entries_of core.csrs) mode byte 1 kind.Store ≡ false)
    → IsPermittedStore core write → Misses byte write
refused_misses core byte write refused granted = unless_reached byte write (λ low high.
    let mode = data_mode_of core.csrs core.mode in
    let alone = byte_allowed (pmp_entries_of core.csrs) mode write.pa write.len kind.Store granted.1 byte low high in
    let none = refused mode in
    cc)

-- so does one that is granted below M with a byte that is refused there
write_misses : (core : Core) (byte : ℕ) (write : Write) → core.mode ≢ Machine → IsRefused core byte
    → IsPermittedStore core write → Misses byte write
write_misses core byte write lower refused granted = unless_reached byte write (λ low high.
    let alone = byte_allowed (pmp_entries_of core.csrs) (data_mode_of core.csrs core.mode) write.pa write.len
    kind.Store granted.1 byte low high in
    let allowed = lower_allowed core.csrs core.mode (pmp_entries_of core.csrs) byte lower alone in
    cc)

-- so does an entry that is set, which S may store
settable_misses : (core : Core) (byte : ℕ) (write : Write) → IsRefused core byte → IsSettable core write
    → Misses byte write
settable_misses core byte write refused settable = unless_reached byte write (λ low high.
    let entries = pmp_entries_of core.csrs in
    let alone = byte_allowed entries Supervisor write.pa write.len kind.Store settable byte low high in
    cc)

-- all that a step writes misses a byte that is refused to S and that its stores miss
pub writes_miss : {asks : Option IntResult} {start : Bytes} (core : Core) (bytes : Bytes) (byte : ℕ)
    (wrote : List Write)
    → IsRefused core byte → ((write : Write) → IsPermittedStore core write → Misses byte write)
    → AreSetsAndStores core bytes (ArePermittedStores core asks start) wrote → All (Misses byte) wrote
writes_miss core bytes byte wrote refused stores_miss are =
    let settable = are_settable core bytes are.sets are.entries.sets in
    subst (All (Misses byte)) (sym are.order)
    (All-append (Misses byte) are.sets are.stored
    (All-weaker (IsSettable core) (Misses byte) (λ write may. settable_misses core byte write refused may) are.sets
    settable)
    (All-weaker (IsPermittedStore core) (Misses byte) stores_miss are.stored are.stores.permitted))

same_refused : (before after : Core) (byte : ℕ) → SameEntries before.csrs after.csrs → IsRefused before byte
    → IsRefused after byte
same_refused before after byte same refused =
    ap (λ entries. is_allowed entries Supervisor byte 1 kind.Store) same ∙ refused

byte_outlasts_row : (state : HartState) (shown : Shown) (byte : ℕ)
    → (before_instruction state.core shown).mode ≢ Machine → IsRefused state.core byte
    → (after_row state shown).bytes byte ≡ state.bytes byte
byte_outlasts_row state shown byte lower refused =
    let begins = before_instruction state.core shown in
    let wrote = ((step_of state.core shown).run state.bytes).wrote in
    let still = same_refused state.core begins byte (begun_entries state.core shown) refused in
    unreached wrote state.bytes byte
    (writes_miss begins state.bytes byte wrote still
    (λ write granted. write_misses begins byte write lower still granted)
    (step_granted state.core shown state.bytes).writes)

pub refused_outlasts : (state : HartState) (rows : List Shown) (byte : ℕ) → IsRefused state.core byte
    → IsPreserved state rows byte
unfolding after_rows RunBelowMachine
refused_outlasts state [] byte refused below = refl
refused_outlasts state (shown ∷ rows) byte refused below =
    let next = after_row state shown in
    refused_outlasts next rows byte
    (same_refused state.core next.core byte (lower_modes_leave state.core shown state.bytes below.0) refused)
    below.1
    ∙ byte_outlasts_row state shown byte below.0 refused

-- the entries over rows
pub rows_leave : (state : HartState) (rows : List Shown) → RunBelowMachine state rows
    → SameEntries state.core.csrs (after_rows state rows).core.csrs
unfolding after_rows RunBelowMachine
rows_leave state [] below = refl
rows_leave state (shown ∷ rows) below =
    rows_leave (after_row state shown) rows below.1 ∙ lower_modes_leave state.core shown state.bytes below.0

pub locks_outlast_rows : (state : HartState) (rows : List Shown)
    → LocksArePreserved state.core.csrs (after_rows state rows).core.csrs
unfolding after_rows
locks_outlast_rows state [] = same_outlasts state.core.csrs
locks_outlast_rows state (shown ∷ rows) =
    let next = after_row state shown in
    locks_after state.core.csrs next.core.csrs (after_rows next rows).core.csrs
    (locks_outlast state.core shown state.bytes) (locks_outlast_rows next rows)

-- an address register, and all of them
pub address_fits : (profile : CsrProfile) (entry : PmpEntry) → IsLegalEntry profile entry → IsRegister entry
address_fits profile entry is =
    let few : entry_bits_of profile ≤ 64 = omega arith in
    let below : 2 ^ entry_bits_of profile ≤ 2 ^ 64 = pow_mono few in
    omega (arith, is.address, below)

legal_registers : (csrs : Csrs) → IsLegal csrs → All IsRegister (pmp_entries_of csrs)
legal_registers csrs legal =
    All-take IsRegister (entry_count_of csrs.profile.entry_count) csrs.entries
    (All-weaker (IsLegalEntry csrs.profile) IsRegister (λ entry is. address_fits csrs.profile entry is) csrs.entries
    legal.entries)

one_byte : (byte a : ℕ) → byte ≤ a → a < byte + 1 → byte ≡ a
one_byte byte a low high = omega arith

each_of_one : (P : ℕ → Type 0) (byte : ℕ) → SomeByte byte 1 P → EachByte byte 1 P
each_of_one P byte some a low high =
    subst P (sym (one_byte byte some.a some.low some.high) ∙ one_byte byte a low high) some.holds

forbidden_refused : (core : Core) (byte : ℕ) → IsSound core → ForbidsStores (pmp_entries_of core.csrs) byte
    → IsRefused core byte
unfolding entry_permits
forbidden_refused core byte sound by =
    let entries = pmp_entries_of core.csrs in
    whole_decides entries by.number Supervisor byte 1 kind.Store (legal_registers core.csrs sound.legal) by.below_length
    by.decides (each_of_one (CoversAt entries by.number) byte by.decides.touches)
    ∙ by.forbids

uncovered_refused : (core : Core) (byte : ℕ) → IsSound core → 0 < length (pmp_entries_of core.csrs)
    → NoneCovers (pmp_entries_of core.csrs) byte 1 → IsRefused core byte
uncovered_refused core byte sound some none =
    none_decides (pmp_entries_of core.csrs) Supervisor byte 1 kind.Store some (legal_registers core.csrs sound.legal)
    none

pub forbidden_outlasts : (state : HartState) (rows : List Shown) (byte : ℕ) → IsSound state.core
    → ForbidsStores (pmp_entries_of state.core.csrs) byte → IsPreserved state rows byte
forbidden_outlasts state rows byte sound by =
    refused_outlasts state rows byte (forbidden_refused state.core byte sound by)

pub uncovered_outlasts : (state : HartState) (rows : List Shown) (byte : ℕ) → IsSound state.core
    → 0 < length (pmp_entries_of state.core.csrs) → NoneCovers (pmp_entries_of state.core.csrs) byte 1
    → IsPreserved state rows byte
uncovered_outlasts state rows byte sound some none =
    refused_outlasts state rows byte (uncovered_refused state.core byte sound some none)
