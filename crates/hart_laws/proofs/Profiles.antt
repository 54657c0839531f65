-- What a core's own registers and its own protection come to.
use Rattle.std.proofs.Common.{◌≡◌, ℕ, Bool, true, false, ◌&&◌, ◌||◌, not, Some, Result, Ok, Err, refl}
use Rattle.std.proofs.Common.{if◌then◌else◌}
use Rattle.std.specs.Prelude.{IfOk, nat_le}
use Rattle.hart_words.specs.declared.privilege.Access.{Access}
use Rattle.hart_words.specs.declared.privilege.Mode.{Mode}
use Rattle.hart_words.specs.Privilege.{mode_number}
use Rattle.hart_words.specs.Results.{◌>>=◌}
use Rattle.csr_table.specs.declared.registers.CsrRow.{CsrRow}
use Rattle.csr_table.specs.Addresses.{csr_row_of}
use Rattle.csr_file.specs.declared.access.Illegal.{Illegal}
use Rattle.csr_file.specs.declared.csr_kind.CsrKind.{CsrKind}
use Rattle.csr_file.specs.declared.csr_kind.CsrKind.TheVariants.{Stored, Status, Pending, SupervisorStatus}
use Rattle.csr_file.specs.declared.csr_kind.CsrKind.TheVariants.{SupervisorEnables, SupervisorPending, Translation}
use Rattle.csr_file.specs.declared.csr_kind.CsrKind.TheVariants.{LowConfigurations, HighConfigurations, EntryAddress}
use Rattle.csr_file.specs.declared.csr_kind.CsrKind.TheVariants.{Constant, ImplementationDefined, Counter}
use Rattle.csr_file.specs.declared.csrs.Csrs.{Csrs}
use Rattle.csr_file.specs.Access.{csr_read_at, csr_write_at, has_entries, is_enabled, may_read, may_write}
use Rattle.csr_file.specs.Laws.{is_protective}
use Rattle.csr_file.specs.Profiles.{is_absent, kind_in, presence_of}
use Rattle.csr_file.specs.Values.{csr_write_of}
use Rattle.pmp_check.specs.Protection.{is_allowed}
use Rattle.rv_integer.specs.declared.int_result.CsrRequest.{CsrRequest}
use Rattle.rv_integer.specs.declared.int_result.SystemRequest.TheVariants.{Csr}
use Rattle.hart_step.specs.declared.choices.RowChoices.{RowChoices}
use Rattle.hart_step.specs.declared.instruction.Instruction.{Instruction}
use Rattle.hart_step.specs.declared.state.Core.{Core}
use Rattle.hart_step.specs.CsrAccess.{OldValue, csr_access_result, csr_read_and_write, csrs_after_request, new_value_of}
use Rattle.hart_step.specs.CsrAccess.{old_value_of, traps_at}
use Rattle.hart_step.specs.Instructions.{after_csr, system_execution}
use Rattle.hart_laws.specs.Profiles.{Accesses, AllowsAll, GivesRdAlone, IsDecided, IsIllegal, IsMissing, LacksEntries}

-- ---- what may not be accessed

and_false : (one other : Bool) → (one && other && false) ≡ false
and_false true true = refl
and_false true false = refl
and_false false true = refl
and_false false false = refl

and_middle : (one other : Bool) → (one && false && other) ≡ false
and_middle true true = refl
and_middle true false = refl
and_middle false true = refl
and_middle false false = refl

no_read : (core : Core) (request : CsrRequest) (row : CsrRow) (lines : ℕ) → csr_row_of request.address ≡ Some row
    → may_read core.csrs core.mode row ≡ false
    → csr_read_at core.csrs request.address core.mode lines ≡ Err (record {})
unfolding csr_read_at
no_read core request row lines listed refused = rw (listed, refused) refl

no_write : (core : Core) (request : CsrRequest) (row : CsrRow) (value : ℕ) → csr_row_of request.address ≡ Some row
    → may_read core.csrs core.mode row ≡ false
    → csr_write_at core.csrs request.address core.mode value ≡ Err (record {})
unfolding csr_write_at may_write
no_write core request row value listed refused = rw (listed, refused) refl

no_access : (core : Core) (choices : RowChoices) (request : CsrRequest) (row : CsrRow) → Accesses request
    → csr_row_of request.address ≡ Some row → may_read core.csrs core.mode row ≡ false
    → csr_read_and_write core choices request ≡ Err (record {})
unfolding csr_read_and_write old_value_of
no_access core choices request row accesses listed refused = by request.reads request.writes refl refl
  where
    by : (reads writes : Bool) → request.reads ≡ reads → request.writes ≡ writes
        → csr_read_and_write core choices request ≡ Err (record {})
    by true writes is are = rw (is, listed, no_read core request row choices.lines.up listed refused) refl
    by false true is are = rw (is, are, no_write core request row _ listed refused) refl
    by false false is are = let none : (request.reads || request.writes) ≡ false = rw (is, are) refl in cc

illegal : (core : Core) (choices : RowChoices) (request : CsrRequest) (row : CsrRow) → Accesses request
    → csr_row_of request.address ≡ Some row → may_read core.csrs core.mode row ≡ false
    → IsIllegal core choices request
unfolding csr_access_result
illegal core choices request row accesses listed refused = by (traps_at core choices request.address)
  where
    by : (traps : Bool) → (if traps then Err (record {}) else csr_read_and_write core choices request) ≡ Err (record {})
    by true = refl
    by false = no_access core choices request row accesses listed refused

pub missing_is_illegal : (core : Core) (choices : RowChoices) (request : CsrRequest) (row : CsrRow) → Accesses request
    → csr_row_of request.address ≡ Some row → IsMissing core row → IsIllegal core choices request
unfolding may_read
missing_is_illegal core choices request row accesses listed missing =
    let enabled = is_enabled core.csrs core.mode (kind_in core.csrs.profile row.csr) in
    let none : may_read core.csrs core.mode row ≡ false =
    rw missing (and_false (nat_le row.least_mode (mode_number core.mode)) enabled) in
    illegal core choices request row accesses listed none

-- a register of protection, where there is no entry
not_enabled : (csrs : Csrs) (mode : Mode) (kind : CsrKind) → is_protective kind ≡ true → has_entries csrs ≡ false
    → is_enabled csrs mode kind ≡ false
unfolding is_enabled
not_enabled csrs mode (Stored stored) is none = cc
not_enabled csrs mode Status is none = cc
not_enabled csrs mode Pending is none = cc
not_enabled csrs mode SupervisorStatus is none = cc
not_enabled csrs mode SupervisorEnables is none = cc
not_enabled csrs mode SupervisorPending is none = cc
not_enabled csrs mode Translation is none = cc
not_enabled csrs mode LowConfigurations is none = none
not_enabled csrs mode HighConfigurations is none = none
not_enabled csrs mode (EntryAddress number) is none = none
not_enabled csrs mode (Constant number) is none = cc
not_enabled csrs mode ImplementationDefined is none = cc
not_enabled csrs mode (Counter bit) is none = cc

pub lacking_is_illegal : (core : Core) (choices : RowChoices) (request : CsrRequest) (row : CsrRow) → Accesses request
    → csr_row_of request.address ≡ Some row → LacksEntries core row → IsIllegal core choices request
unfolding may_read
lacking_is_illegal core choices request row accesses listed lacks =
    let none : may_read core.csrs core.mode row ≡ false =
    rw (not_enabled core.csrs core.mode (kind_in core.csrs.profile row.csr) lacks.protective lacks.none)
    (and_middle (nat_le row.least_mode (mode_number core.mode)) (not (is_absent (presence_of core.csrs.profile row.csr)))) in
    illegal core choices request row accesses listed none

-- ---- what the core decides

-- a register that the core decides is written to no avail
same_after_write : (core : Core) (request : CsrRequest) (row : CsrRow) (value : ℕ)
    → csr_row_of request.address ≡ Some row → IsDecided core row
    → IfOk (csr_write_at core.csrs request.address core.mode value) (λ csrs. csrs ≡ core.csrs)
unfolding csr_write_at kind_in csr_write_of
same_after_write core request row value listed decided = rw (listed, decided) (by (may_write core.csrs core.mode row))
  where
    by : (may : Bool) → IfOk {E = Illegal} (if may then Ok core.csrs else Err (record {})) (λ csrs. csrs ≡ core.csrs)
    by true = refl
    by false = tt

same_after_request : (core : Core) (request : CsrRequest) (row : CsrRow) (base : ℕ)
    → csr_row_of request.address ≡ Some row → IsDecided core row
    → IfOk (csrs_after_request core request base) (λ csrs. csrs ≡ core.csrs)
same_after_request core request row base listed decided = by request.writes
  where
    by : (writes : Bool)
        → IfOk (if writes then csr_write_at core.csrs request.address core.mode
        (new_value_of request.op base request.operand) else Ok core.csrs) (λ csrs. csrs ≡ core.csrs)
    by true = same_after_write core request row _ listed decided
    by false = refl

-- what an access gives, where the registers stay
gives : (core : Core) (instruction : Instruction) (old : Result OldValue Illegal) (after : ℕ → Result Csrs Illegal)
    → ((base : ℕ) → IfOk (after base) (λ csrs. csrs ≡ core.csrs))
    → IfOk (after_csr core instruction (old >>= λ found. (after found.1 >>= λ csrs. Ok (found.0, csrs))))
    (GivesRdAlone core instruction)
unfolding after_csr
gives core instruction (Err refused) after same = tt
gives core instruction (Ok (value, base)) after same = by (after base) (same base)
  where
    by : (answer : Result Csrs Illegal) → IfOk answer (λ csrs. csrs ≡ core.csrs)
        → IfOk (after_csr core instruction (answer >>= λ csrs. Ok (value, csrs))) (GivesRdAlone core instruction)
    by (Err refused) is = tt
    by (Ok csrs) is = (refl, (value, rw is refl))

pub decided_gives : (core : Core) (choices : RowChoices) (instruction : Instruction) (request : CsrRequest)
    (row : CsrRow) → csr_row_of request.address ≡ Some row → IsDecided core row
    → IfOk (system_execution core choices instruction (Csr request)) (GivesRdAlone core instruction)
unfolding system_execution csr_access_result csr_read_and_write after_csr
decided_gives core choices instruction request row listed decided = by (traps_at core choices request.address)
  where
    by : (traps : Bool)
        → IfOk (after_csr core instruction
        (if traps then Err (record {}) else csr_read_and_write core choices request)) (GivesRdAlone core instruction)
    by true = tt
    by false =
        gives core instruction (old_value_of core choices request) (csrs_after_request core request)
        (λ base. same_after_request core request row base listed decided)

-- ---- no protection

pub allows_all : (csrs : Csrs) (mode : Mode) (pa len : ℕ) (access : Access) → AllowsAll csrs mode pa len access
unfolding is_allowed
allows_all csrs mode pa len access none = rw none refl
