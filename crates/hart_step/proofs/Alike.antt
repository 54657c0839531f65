-- In S and U nothing depends on a byte that protection refuses them.
use Rattle.std.proofs.Common.{◌≡◌, ◌≢◌, ℕ, zero, suc, ◌+◌, ◌<◌, ◌≤◌, Bool, true, false, List, [], ◌∷◌, get_or}
use Rattle.std.proofs.Common.{refl, sym, ap, ◌∙◌, subst, arith, All, Ok, Err, Result, Option, Some, if◌then◌else◌}
use Rattle.std.specs.Prelude.{IfOk}
use Rattle.std.proofs.lemmas.List.Elements.{All-append, All-head, All-map, All-nil, All-tail}
use Rattle.hart_words.specs.declared.privilege.Access.{Access}
use Rattle.hart_words.specs.declared.privilege.Mode.{Mode}
use Rattle.hart_words.specs.declared.privilege.Mode.TheVariants.{User, Supervisor, Machine}
use Rattle.hart_words.specs.declared.privilege.PmpEntry.{PmpEntry}
use Rattle.hart_words.specs.declared.accesses.Read.{Read}
use Rattle.hart_words.specs.declared.accesses.Write.{Write}
use Rattle.hart_words.specs.Frames.{AgreeOn-after_writes}
use Rattle.hart_words.specs.Memory.{AgreeOn, Bytes, SameBytes, after_writes}
use Rattle.hart_words.specs.Signals.{Shown}
use Rattle.rv_integer.specs.declared.int_result.IntResult.{IntResult}
use Rattle.rv_integer.specs.declared.int_result.IntResult.TheVariants as results
use Rattle.pmp_check.specs.Protection.{is_allowed}
use Rattle.pmp_check.proofs.Parts.{byte_allowed, both_alike}
use Rattle.csr_file.specs.declared.csrs.Csrs.{Csrs}
use Rattle.csr_file.specs.Registers.{pmp_entries_of}
use Rattle.mem_access.specs.declared.place.AccessRequest.{AccessRequest}
use Rattle.mem_access.specs.Accesses.{parcel_fetch}
use Rattle.mem_access.specs.Places.{data_mode_of}
use Rattle.mem_access.specs.Reads.{CheckedRead, IsPermittedRead, access_reads_of, fetch_reads_of, own_read, reads_in}
use Rattle.mem_access.proofs.Granted.{HoldsOfOwn, Look, access_all, data_all, fetch_all, look_place, look_places}
use Rattle.hart_step.specs.declared.state.Core.{Core}
use Rattle.hart_step.specs.MemoryAccess.{atomicity_of}
use Rattle.hart_step.specs.Rows.{HartState, RunBelowMachine, after_row, after_rows}
use Rattle.hart_step.specs.Steps.{before_instruction, step_of}
use Rattle.hart_step.specs.Laws.{bytes_after_fetch, request_at_pc}
use Rattle.hart_step.specs.ProtectionLaws.{asked_reads_of, check_of, instruction_reads_of, reads_its_bytes}
use Rattle.hart_step.specs.ProtectionLaws.{step_reads_of, AgreeWherePermitted, StepsAlike, ComeToTheSame, RowsGoAlike}
use Rattle.hart_step.proofs.Entries.{SameEntries, begun_entries, lower_modes_leave}
use Rattle.hart_step.proofs.Permitted.{step_granted}

-- the bytes of an access that is granted below M
same_bytes : (len pa : ℕ) (one other : Bytes) → ((byte : ℕ) → pa ≤ byte → byte < pa + len → other byte ≡ one byte)
    → SameBytes pa len one other
unfolding SameBytes
same_bytes zero pa one other same = tt
same_bytes (suc len) pa one other same = (
  same pa (omega arith) (omega arith),
  same_bytes len (pa + 1) one other (λ byte low high. same byte (omega (arith, low)) (omega (arith, high))),
)

as_supervisor : (mode : Mode) (entries : List PmpEntry) (byte : ℕ) (access : Access) → mode ≢ Machine
    → is_allowed entries mode byte 1 access ≡ true → is_allowed entries Supervisor byte 1 access ≡ true
as_supervisor Machine entries byte access lower allowed = absurd (lower refl)
as_supervisor Supervisor entries byte access lower allowed = allowed
as_supervisor User entries byte access lower allowed = sym (both_alike entries byte 1 access) ∙ allowed

-- those of a read
SameAt : Bytes → Bytes → Read → Type 0
SameAt one other read = SameBytes read.pa read.len one other

-- a read that is permitted to a mode below M
permitted_same : (core : Core) (one other : Bytes) (check : CheckedRead) → AgreeWherePermitted core one other
    → check.mode ≢ Machine → IsPermittedRead core.csrs core.map check → SameAt one other check.read
unfolding SameAt
permitted_same core one other check agree lower permitted =
    let entries = pmp_entries_of core.csrs in
    let mode = check.mode in
    let access = check.access in
    let pa = check.read.pa in
    let len = check.read.len in
    let allowed = permitted.1 in
    same_bytes len pa one other
    (λ byte low high. agree byte access
    (as_supervisor mode entries byte access lower (byte_allowed entries mode pa len access allowed byte low high)))

supervisor_lower : Supervisor ≢ Machine
supervisor_lower is = cc

data_lower : (csrs : Csrs) (mode : Mode) → mode ≢ Machine → data_mode_of csrs mode ≢ Machine
unfolding data_mode_of
data_lower csrs Machine lower = absurd (lower refl)
data_lower csrs Supervisor lower = lower
data_lower csrs User lower = lower

-- each read of an instruction in S or U is made below M
abbrev IsLower : CheckedRead → Type 0
IsLower check = check.mode ≢ Machine

always : {A B : Type 0} (result : Result A B) (P : A → Type 0) → ((x : A) → P x) → IfOk result P
always (Err e) P holds = tt
always (Ok x) P holds = holds x

-- what an access is of, by a hart
abbrev pub look_of : Core → AccessRequest → Bytes → Look
look_of core request bytes =
    record { csrs = core.csrs; map = core.map; choices = core.choices; request = request; bytes = bytes }

access_lower : (core : Core) (request : AccessRequest) (va : ℕ) (bytes : Bytes) → request.mode ≢ Machine
    → All IsLower (access_reads_of core.csrs core.map core.choices request va bytes)
access_lower core request va bytes lower =
    let look = look_of core request bytes in
    access_all IsLower look va (λ pa can. supervisor_lower)
    (always (look_place look va) (λ place. place.is_device ≡ false → IsLower (own_read request va place))
    (λ place memory. lower))

fetch_lower : (core : Core) (bytes : Bytes) → core.mode ≢ Machine → All IsLower
    (fetch_reads_of core.csrs core.map core.choices core.mode core.pc bytes)
fetch_lower core bytes lower =
    fetch_all IsLower core.csrs core.map core.choices core.mode core.pc bytes
    (λ va now. access_lower core (parcel_fetch core.mode) va now lower)

asked_lower : (core : Core) (asks : Option IntResult) (bytes : Bytes) → core.mode ≢ Machine
    → All IsLower (asked_reads_of core asks bytes)
asked_lower core (Some (results.Access request)) bytes lower =
    let check = check_of core request in
    let look = look_of core check bytes in
    data_all IsLower look (atomicity_of request.op) (reads_its_bytes request.op) request.address
    (λ pa can. supervisor_lower)
    (always (look_places look (atomicity_of request.op) request.address) (All (HoldsOfOwn IsLower check))
    (λ placed k d below memory. data_lower core.csrs core.mode lower))
asked_lower core _ bytes lower = All-nil IsLower

instruction_lower : (core : Core) (bytes : Bytes) → core.mode ≢ Machine → All IsLower (instruction_reads_of core bytes)
unfolding instruction_reads_of
instruction_lower core bytes lower =
    let asks = request_at_pc core bytes in
    let after = bytes_after_fetch core bytes in
    All-append IsLower (fetch_reads_of core.csrs core.map core.choices core.mode core.pc bytes)
    (asked_reads_of core asks after) (fetch_lower core bytes lower) (asked_lower core asks after lower)

step_lower : (core : Core) (shown : Shown) (bytes : Bytes) → (before_instruction core shown).mode ≢ Machine
    → All IsLower (step_reads_of core shown bytes)
unfolding step_reads_of
step_lower core shown bytes lower = by core.halted
  where
    by : (halted : Bool)
        → All IsLower (if halted then [] else instruction_reads_of (before_instruction core shown) bytes)
    by true = All-nil IsLower
    by false = instruction_lower (before_instruction core shown) bytes lower

checks_same : (core : Core) (one other : Bytes) (checks : List CheckedRead) → AgreeWherePermitted core one other
    → All (IsPermittedRead core.csrs core.map) checks → All IsLower checks
    → All (λ check. SameAt one other check.read) checks
checks_same core one other checks agree permitted lower = λ k d below.
    permitted_same core one other (get_or checks k d) agree (lower k d below) (permitted k d below)

reads_same : (reads : List Read) (one other : Bytes) → All (SameAt one other) reads → AgreeOn reads one other
unfolding AgreeOn SameAt
reads_same [] one other same = tt
reads_same (read ∷ reads) one other same = (
  All-head (λ r. SameBytes r.pa r.len one other) read reads same,
  reads_same reads one other (All-tail (λ r. SameBytes r.pa r.len one other) read reads same),
)

-- a step
agree_begun : (core : Core) (shown : Shown) (one other : Bytes) → AgreeWherePermitted core one other
    → AgreeWherePermitted (before_instruction core shown) one other
agree_begun core shown one other agree byte access allowed =
    agree byte access
    (sym (ap (λ entries. is_allowed entries Supervisor byte 1 access) (begun_entries core shown)) ∙ allowed)

pub steps_alike : (core : Core) (shown : Shown) (one other : Bytes) → StepsAlike core shown one other
steps_alike core shown one other lower agree =
    let begins = before_instruction core shown in
    let checks = step_reads_of core shown one in
    let granted = (step_granted core shown one).reads in
    let same : All (λ check. SameAt one other check.read) checks =
    checks_same begins one other checks (agree_begun core shown one other agree) granted.permitted
    (step_lower core shown one lower) in
    let all : All (SameAt one other) (reads_in checks) = All-map (SameAt one other) (λ check. check.read) checks same in
    let Same : List Read → Type 0 = All (SameAt one other) in
    (step_of core shown).framed one other
    (reads_same ((step_of core shown).run one).reads one other (subst Same (sym granted.order) all))

-- what it writes it writes to both
written_alike : (wrote : List Write) (one other : Bytes) (byte : ℕ) → other byte ≡ one byte
    → after_writes wrote other byte ≡ after_writes wrote one byte
unfolding AgreeOn SameBytes
written_alike wrote one other byte same =
    let read : Read = record { pa = byte; len = 1 } in
    (AgreeOn-after_writes (read ∷ []) wrote one other ((same, tt), tt)).0.0

-- rows, the memories of which agree where the entries of the first hart grant an access
came_same : (core : Core) (one other : HartState) → SameEntries core.csrs one.core.csrs → other.core ≡ one.core
    → AgreeWherePermitted core one.bytes other.bytes → (rows : List Shown) → RunBelowMachine one rows
    → ComeToTheSame core (after_rows one rows) (after_rows other rows)
unfolding after_rows RunBelowMachine
came_same core one other entries cores agree [] below = record { cores = cores; memories = agree }
came_same core one other entries cores agree (shown ∷ rows) below =
    let still : AgreeWherePermitted one.core one.bytes other.bytes = λ byte access allowed.
    agree byte access (sym (ap (λ e. is_allowed e Supervisor byte 1 access) entries) ∙ allowed) in
    let wrote = ((step_of one.core shown).run one.bytes).wrote in
    let both : (step_of other.core shown).run other.bytes ≡ (step_of one.core shown).run one.bytes =
    ap (λ k. (step_of k shown).run other.bytes) cores
    ∙ steps_alike one.core shown one.bytes other.bytes below.0 still in
    let memories : AgreeWherePermitted core (after_writes wrote one.bytes)
    (after_writes ((step_of other.core shown).run other.bytes).wrote other.bytes) = λ byte access allowed.
    ap (λ r. after_writes r.wrote other.bytes byte) both
    ∙ written_alike wrote one.bytes other.bytes byte (agree byte access allowed) in
    came_same core (after_row one shown) (after_row other shown)
    (lower_modes_leave one.core shown one.bytes below.0 ∙ entries) (ap (λ r. r.value.next) both) memories rows
    below.1

pub rows_alike : (core : Core) (rows : List Shown) (one other : Bytes) → RowsGoAlike core rows one other
rows_alike core rows one other below agree =
    came_same core (record { core = core; bytes = one }) (record { core = core; bytes = other }) refl refl agree rows
    below
