-- Entries of traps, returns, and accesses to control and status registers keep a hart's state sound, and its values
-- words.
use Rattle.std.proofs.Common.{◌≡◌, ℕ, ◌+◌, ◌-◌, ◌*◌, ◌/◌, ◌%◌, ◌^◌, ◌<◌, ◌==◌, Bool, true, false, ◌&&◌, Option, Some}
use Rattle.std.proofs.Common.{None, Ok, Err, Result, refl, if◌then◌else◌, arith, lit<}
use Rattle.std.specs.Prelude.{IfOk, IfSome, unwrap_or}
use Rattle.std.specs.Int.{bit_at}
use Rattle.std.proofs.lemmas.Nat.Bits.{bit_at-lt}
use Rattle.std.proofs.lemmas.Nat.{and_le_l, or_lt}
use Rattle.hart_words.specs.declared.privilege.Mode.{Mode}
use Rattle.hart_words.specs.declared.privilege.Mode.TheVariants.{User, Supervisor, Machine}
use Rattle.hart_words.specs.Privilege.{mode_number}
use Rattle.hart_words.specs.Registers.{register_of}
use Rattle.hart_words.specs.Results.{◌>>=◌}
use Rattle.csr_table.specs.declared.registers.Csr.{Csr}
use Rattle.csr_table.specs.declared.registers.CsrRow.{CsrRow}
use Rattle.csr_table.specs.Addresses.{csr_row_of}
use Rattle.csr_file.specs.declared.csrs.Csrs.{Csrs}
use Rattle.csr_file.specs.declared.access.CsrRead.{CsrRead}
use Rattle.csr_file.specs.declared.access.Illegal.{Illegal}
use Rattle.csr_file.specs.declared.stored_csr.StoredCsr.TheVariants.{Mstatus, Mtvec, Mepc, Mcause, Mtval, Stvec, Sepc}
use Rattle.csr_file.specs.declared.stored_csr.StoredCsr.TheVariants.{Scause, Stval}
use Rattle.csr_file.specs.declared.fields.TheConstants.{SIE, MIE, SPIE, MPIE}
use Rattle.csr_file.specs.Access.{may_read, may_write, csr_read_at, csr_read_by, csr_write_at, csr_write_by}
use Rattle.csr_file.specs.Fields.{all_bits}
use Rattle.csr_file.specs.Legal.{IsLegal}
use Rattle.csr_file.specs.Registers.{at}
use Rattle.csr_file.specs.Profiles.{kind_in}
use Rattle.csr_file.specs.Values.{csr_read_of, csr_write_of, adopted_bits_of}
use Rattle.csr_file.proofs.LegalTests.{even_legal, legal_even, whole_legal}
use Rattle.csr_file.proofs.Legal.{legal_with, write_legal}
use Rattle.rv_decode.specs.declared.operation.CsrOp.{CsrOp}
use Rattle.rv_decode.specs.declared.operation.CsrOp.TheVariants.{Write, Set, Clear}
use Rattle.rv_integer.specs.declared.int_result.CsrRequest.{CsrRequest}
use Rattle.trap_entry.specs.Entries.{cause_value, enter_machine_of, enter_of, enter_supervisor_of, handler_address}
use Rattle.trap_entry.specs.Entries.{is_delegated, machine_stack, pc_by_enter, status_into_machine, trap_value_of}
use Rattle.trap_entry.specs.Entries.{status_into_supervisor, supervisor_stack}
use Rattle.trap_entry.specs.Returns.{mret_of, sret_of, status_by_mret, status_by_sret}
use Rattle.trap_entry.proofs.Legal.{machine_legal, mret_legal, sret_legal, supervisor_legal}
use Rattle.hart_step.specs.declared.state.Core.{Core}
use Rattle.hart_step.specs.declared.choices.RowChoices.{RowChoices}
use Rattle.hart_step.specs.Cores.{IsSound}
use Rattle.hart_step.specs.CsrAccess.{OldValue, csr_access_result, csr_read_and_write, new_value_of, old_value_by, old_value_of}
use Rattle.hart_step.specs.CsrAccess.{csrs_after_request, traps_at, with_choices}
use Rattle.hart_step.specs.Returns.{core_after_mret, core_after_sret}
use Rattle.hart_step.specs.Steps.{core_after_entry, written_trap_value}
use Rattle.hart_words.specs.Options.{is_zero_for}
use Rattle.boundary_guess.proofs.ResultWords.{IsEvenWord}
use Rattle.boundary_guess.proofs.CsrWords.{HasWords, base_word, kind_fits, merged_word, value_word, with_word}
use Rattle.boundary_guess.proofs.CsrWords.{write_words}

-- a hart's state is sound, and its values are words
pub record IsSane (core : Core) : Type 0 where
  pub sound : IsSound core
  pub pc : core.pc < 2 ^ 64
  pub registers : (number : ℕ) → register_of core.registers number < 2 ^ 64
  pub csrs : HasWords core.csrs

-- ---- accesses to control and status registers

abbrev IsWordRead : CsrRead → Type 0
IsWordRead read = (read.value < 2 ^ 64) × (read.base < 2 ^ 64)

abbrev IsWordOld : OldValue → Type 0
IsWordOld old = (old.0 < 2 ^ 64) × (old.1 < 2 ^ 64)

read_by_may : (may : Bool) (csrs : Csrs) (csr : Csr) (lines : ℕ) (illegal : Illegal) → IsLegal csrs → HasWords csrs
    → IfOk (if may then Ok (csr_read_of csrs (kind_in csrs.profile csr) lines) else Err illegal) IsWordRead
unfolding csr_read_of
read_by_may true csrs csr lines illegal legal words = (
  value_word csrs (kind_in csrs.profile csr) lines legal words (kind_fits csrs.profile csr),
  base_word csrs (kind_in csrs.profile csr) lines legal words (kind_fits csrs.profile csr),
)
read_by_may false csrs csr lines illegal legal words = tt

read_by_row : (csrs : Csrs) (mode : Mode) (lines : ℕ) (row : Option CsrRow) → IsLegal csrs → HasWords csrs
    → IfOk (csr_read_by csrs mode lines row) IsWordRead
read_by_row csrs mode lines None legal words = tt
read_by_row csrs mode lines (Some row) legal words =
    read_by_may (may_read csrs mode row) csrs row.csr lines _ legal words

read_words : (csrs : Csrs) (address : ℕ) (mode : Mode) (lines : ℕ) → IsLegal csrs → HasWords csrs
    → IfOk (csr_read_at csrs address mode lines) IsWordRead
unfolding csr_read_at
read_words csrs address mode lines legal words = read_by_row csrs mode lines (csr_row_of address) legal words

or_nothing : (value : Option ℕ) → IfSome value (λ v. v < 2 ^ 64) → unwrap_or value 0 < 2 ^ 64
or_nothing None word = lit< tt
or_nothing (Some value) word = word

chosen_word : (core : Core) (choices : RowChoices) (csr : Csr) (read : CsrRead)
    → IfSome choices.rd_wdata (λ v. v < 2 ^ 64) → IsWordRead read → IsWordOld (with_choices core choices csr read)
chosen_word core choices csr read word words =
    let taken = adopted_bits_of core.csrs (kind_in core.csrs.profile csr) choices.lines.shown in
    let few = and_le_l (unwrap_or choices.rd_wdata 0) taken in
    let less = or_nothing choices.rd_wdata word in
    (or_lt 64 _ _ words.0 (omega (arith, few, less)), words.1)

old_from : (core : Core) (choices : RowChoices) (csr : Csr) (read : Result CsrRead Illegal)
    → IfSome choices.rd_wdata (λ v. v < 2 ^ 64) → IfOk read IsWordRead
    → IfOk (read >>= λ r. Ok (with_choices core choices csr r)) IsWordOld
old_from core choices csr (Err illegal) word words = tt
old_from core choices csr (Ok read) word words = chosen_word core choices csr read word words

old_by_row : (core : Core) (choices : RowChoices) (address : ℕ) (row : Option CsrRow) → IsLegal core.csrs
    → HasWords core.csrs → IfSome choices.rd_wdata (λ v. v < 2 ^ 64)
    → IfOk (old_value_by core choices address row) IsWordOld
old_by_row core choices address None legal words word = tt
old_by_row core choices address (Some row) legal words word =
    old_from core choices row.csr (csr_read_at core.csrs address core.mode choices.lines.up) word
    (read_words core.csrs address core.mode choices.lines.up legal words)

old_by_reads : (reads : Bool) (old : Result OldValue Illegal) → IfOk old IsWordOld
    → IfOk (if reads then old else Ok (0, 0)) IsWordOld
old_by_reads true old words = words
old_by_reads false old words = (lit< tt, lit< tt)

old_words : (core : Core) (choices : RowChoices) (request : CsrRequest) → IsLegal core.csrs → HasWords core.csrs
    → IfSome choices.rd_wdata (λ v. v < 2 ^ 64) → IfOk (old_value_of core choices request) IsWordOld
unfolding old_value_of
old_words core choices request legal words word =
    old_by_reads request.reads (old_value_by core choices request.address (csr_row_of request.address))
    (old_by_row core choices request.address (csr_row_of request.address) legal words word)

-- the registers after it
abbrev AreSane : Csrs → Type 0
AreSane csrs = IsLegal csrs × HasWords csrs

write_by_may : (may : Bool) (csrs : Csrs) (csr : Csr) (value : ℕ) (illegal : Illegal) → IsLegal csrs → HasWords csrs
    → value < 2 ^ 64 → IfOk (if may then Ok (csr_write_of csrs (kind_in csrs.profile csr) value) else Err illegal) AreSane
write_by_may true csrs csr value illegal legal words small =
    (write_legal csrs csr value legal, write_words csrs (kind_in csrs.profile csr) value legal words small)
write_by_may false csrs csr value illegal legal words small = tt

write_by_row : (csrs : Csrs) (mode : Mode) (value : ℕ) (row : Option CsrRow) → IsLegal csrs → HasWords csrs
    → value < 2 ^ 64 → IfOk (csr_write_by csrs mode value row) AreSane
write_by_row csrs mode value None legal words small = tt
write_by_row csrs mode value (Some row) legal words small =
    write_by_may (may_write csrs mode row) csrs row.csr value _ legal words small

write_sane : (csrs : Csrs) (address : ℕ) (mode : Mode) (value : ℕ) → IsLegal csrs → HasWords csrs → value < 2 ^ 64
    → IfOk (csr_write_at csrs address mode value) AreSane
unfolding csr_write_at
write_sane csrs address mode value legal words small =
    write_by_row csrs mode value (csr_row_of address) legal words small

new_word : (op : CsrOp) (base operand : ℕ) → base < 2 ^ 64 → operand < 2 ^ 64 → new_value_of op base operand < 2 ^ 64
new_word Write base operand b o = o
new_word Set base operand b o = or_lt 64 base operand b o
new_word Clear base operand b o = let few = and_le_l base (all_bits - operand) in omega (arith, few, b)

written_by_writes : (writes : Bool) (csrs : Csrs) (written : Result Csrs Illegal) → AreSane csrs
    → IfOk written AreSane → IfOk (if writes then written else Ok csrs) AreSane
written_by_writes true csrs written sane after = after
written_by_writes false csrs written sane after = sane

written_sane : (core : Core) (request : CsrRequest) (base : ℕ) → IsLegal core.csrs → HasWords core.csrs
    → base < 2 ^ 64 → request.operand < 2 ^ 64 → IfOk (csrs_after_request core request base) AreSane
written_sane core request base legal words b o =
    written_by_writes request.writes core.csrs
    (csr_write_at core.csrs request.address core.mode (new_value_of request.op base request.operand)) (legal, words)
    (write_sane core.csrs request.address core.mode (new_value_of request.op base request.operand) legal words
    (new_word request.op base request.operand b o))

-- what an access gives
abbrev pub IsSaneAnswer : ℕ × Csrs → Type 0
IsSaneAnswer answer = (answer.0 < 2 ^ 64) × (IsLegal answer.1 × HasWords answer.1)

answer_from : (value : ℕ) (written : Result Csrs Illegal) → value < 2 ^ 64 → IfOk written AreSane
    → IfOk (written >>= λ csrs. Ok (value, csrs)) IsSaneAnswer
answer_from value (Err illegal) word sane = tt
answer_from value (Ok csrs) word sane = (word, sane)

accessed_from : (core : Core) (request : CsrRequest) (old : Result OldValue Illegal) → IsLegal core.csrs
    → HasWords core.csrs → request.operand < 2 ^ 64 → IfOk old IsWordOld
    → IfOk (old >>= λ o. (csrs_after_request core request o.1 >>= λ csrs. Ok (o.0, csrs))) IsSaneAnswer
accessed_from core request (Err illegal) legal words small olds = tt
accessed_from core request (Ok old) legal words small olds =
    answer_from old.0 (csrs_after_request core request old.1) olds.0
    (written_sane core request old.1 legal words olds.1 small)

pub csr_accessed_sane : (core : Core) (choices : RowChoices) (request : CsrRequest) → IsLegal core.csrs
    → HasWords core.csrs → request.operand < 2 ^ 64 → IfSome choices.rd_wdata (λ v. v < 2 ^ 64)
    → IfOk (csr_access_result core choices request) IsSaneAnswer
unfolding csr_access_result csr_read_and_write
csr_accessed_sane core choices request legal words small word = by (traps_at core choices request.address)
  where
    by : (traps : Bool)
        → IfOk (if traps then Err (record {}) else csr_read_and_write core choices request) IsSaneAnswer
    by true = tt
    by false =
        accessed_from core request (old_value_of core choices request) legal words small
        (old_words core choices request legal words word)

-- ---- entries of traps

mode_few : (mode : Mode) → mode_number mode < 4
mode_few User = lit< tt
mode_few Supervisor = lit< tt
mode_few Machine = lit< tt

stack_word : (bit mode : ℕ) → bit < 2 → mode < 4 → 2 ^ 7 * bit + 2 ^ 11 * mode < 2 ^ 64
stack_word bit mode b m = omega (arith, b, m)

supervisor_stack_word : (bit mode : ℕ) → bit < 2 → mode < 4 → 2 ^ 5 * bit + 2 ^ 8 * mode < 2 ^ 64
supervisor_stack_word bit mode b m = omega (arith, b, m)

into_machine_word : (status : ℕ) (mode : Mode) → status < 2 ^ 64 → status_into_machine status mode < 2 ^ 64
unfolding status_into_machine
into_machine_word status mode small =
    merged_word machine_stack status _ small
    (stack_word (bit_at status MIE) (mode_number mode) (bit_at-lt status MIE) (mode_few mode))

into_supervisor_word : (status : ℕ) (mode : Mode) → status < 2 ^ 64 → status_into_supervisor status mode < 2 ^ 64
unfolding status_into_supervisor
into_supervisor_word status mode small =
    merged_word supervisor_stack status _ small
    (supervisor_stack_word (bit_at status SIE) (mode_number mode) (bit_at-lt status SIE) (mode_few mode))

-- what an entry writes are words, and pc is even
record EntersWords (value tval pc : ℕ) : Type 0 where
  pub cause_fits : value < 2 ^ 64
  pub tval_fits : tval < 2 ^ 64
  pub pc_fits : pc < 2 ^ 64
  pub pc_even : pc % 2 ≡ 0

machine_words : (csrs : Csrs) (mode : Mode) (value tval pc : ℕ) → AreSane csrs → EntersWords value tval pc
    → HasWords (enter_machine_of csrs mode value tval pc)
unfolding enter_machine_of
machine_words csrs mode value tval pc sane enters =
    let words = sane.1 in
    let first = legal_with csrs Mepc pc sane.0 (even_legal _ Mepc pc refl enters.pc_even) in
    let first_words = with_word csrs Mepc pc sane.0 words enters.pc_fits in
    let second = legal_with _ Mcause value first (whole_legal _ Mcause value refl) in
    let second_words = with_word _ Mcause value first first_words enters.cause_fits in
    let third = legal_with _ Mtval tval second (whole_legal _ Mtval tval refl) in
    let third_words = with_word _ Mtval tval second second_words enters.tval_fits in
    with_word _ Mstatus _ third third_words (into_machine_word (at csrs Mstatus) mode (words.values Mstatus))

supervisor_words : (csrs : Csrs) (mode : Mode) (value tval pc : ℕ) → AreSane csrs → EntersWords value tval pc
    → HasWords (enter_supervisor_of csrs mode value tval pc)
unfolding enter_supervisor_of
supervisor_words csrs mode value tval pc sane enters =
    let words = sane.1 in
    let first = legal_with csrs Sepc pc sane.0 (even_legal _ Sepc pc refl enters.pc_even) in
    let first_words = with_word csrs Sepc pc sane.0 words enters.pc_fits in
    let second = legal_with _ Scause value first (whole_legal _ Scause value refl) in
    let second_words = with_word _ Scause value first first_words enters.cause_fits in
    let third = legal_with _ Stval tval second (whole_legal _ Stval tval refl) in
    let third_words = with_word _ Stval tval second second_words enters.tval_fits in
    with_word _ Mstatus _ third third_words (into_supervisor_word (at csrs Mstatus) mode (words.values Mstatus))

enter_by : (delegated : Bool) (csrs : Csrs) (mode : Mode) (value tval pc : ℕ) → AreSane csrs
    → EntersWords value tval pc
    → AreSane
    (if delegated then enter_supervisor_of csrs mode value tval pc else enter_machine_of csrs mode value tval pc)
enter_by true csrs mode value tval pc sane enters = (
  supervisor_legal csrs mode value tval pc sane.0 enters.pc_even,
  supervisor_words csrs mode value tval pc sane enters,
)
enter_by false csrs mode value tval pc sane enters = (
  machine_legal csrs mode value tval pc sane.0 enters.pc_even,
  machine_words csrs mode value tval pc sane enters,
)

enter_sane : (csrs : Csrs) (mode : Mode) (interrupt : Bool) (code tval pc : ℕ) → AreSane csrs
    → EntersWords (cause_value interrupt code) tval pc → AreSane (enter_of csrs mode interrupt code tval pc)
unfolding enter_of
enter_sane csrs mode interrupt code tval pc sane enters =
    enter_by (is_delegated csrs mode interrupt code) csrs mode (cause_value interrupt code) tval pc sane enters

-- a handler's address
handler_by : (vectored : Bool) (tvec code : ℕ) → tvec < 2 ^ 64
    → IsEvenWord (if vectored then (tvec / 4 * 4 + 4 * code) % 2 ^ 64 else tvec / 4 * 4)
handler_by true tvec code small = (omega arith, omega arith)
handler_by false tvec code small = (omega (arith, small), omega arith)

handler_even : (tvec : ℕ) (interrupt : Bool) (code : ℕ) → tvec < 2 ^ 64
    → IsEvenWord (handler_address tvec interrupt code)
unfolding handler_address
handler_even tvec interrupt code small = handler_by (interrupt && (tvec % 4 == 1)) tvec code small

vector_by : (delegated : Bool) (one other : ℕ) → one < 2 ^ 64 → other < 2 ^ 64
    → (if delegated then one else other) < 2 ^ 64
vector_by true one other a b = a
vector_by false one other a b = b

entry_even : (csrs : Csrs) (mode : Mode) (interrupt : Bool) (code : ℕ) → HasWords csrs
    → IsEvenWord (pc_by_enter csrs mode interrupt code)
unfolding pc_by_enter
entry_even csrs mode interrupt code words =
    handler_even _ interrupt code
    (vector_by (is_delegated csrs mode interrupt code) (at csrs Stvec) (at csrs Mtvec) (words.values Stvec)
    (words.values Mtvec))

trap_value_word : (zero : Bool) (value : ℕ) → value < 2 ^ 64 → trap_value_of zero value < 2 ^ 64
trap_value_word true value small = lit< tt
trap_value_word false value small = small

pub entered_sane : (core : Core) (interrupt : Bool) (code value : ℕ) → IsSane core
    → cause_value interrupt code < 2 ^ 64 → value < 2 ^ 64 → IsSane (core_after_entry core interrupt code value)
unfolding core_after_entry
entered_sane core interrupt code value sane cause small =
    let tval = written_trap_value core code value in
    let enters : EntersWords (cause_value interrupt code) tval core.pc = record {
      cause_fits = cause;
      tval_fits = trap_value_word (is_zero_for core.choices.trap_values code) value small;
      pc_fits = sane.pc;
      pc_even = sane.sound.even;
    } in
    let csrs =
    enter_sane core.csrs core.mode interrupt code tval core.pc (sane.sound.legal, sane.csrs) enters in
    let pc = entry_even core.csrs core.mode interrupt code sane.csrs in
    record {
      sound = record { even = pc.1; legal = csrs.0; reserved = sane.sound.reserved };
      pc = pc.0;
      registers = sane.registers;
      csrs = csrs.1;
    }

-- ---- returns

mret_stack : (bit : ℕ) → bit < 2 → 2 ^ 3 * bit + 2 ^ 7 < 2 ^ 64
mret_stack bit b = omega (arith, b)

sret_stack : (bit : ℕ) → bit < 2 → 2 ^ 1 * bit + 2 ^ 5 < 2 ^ 64
sret_stack bit b = omega (arith, b)

mret_words : (csrs : Csrs) → IsLegal csrs → HasWords csrs → HasWords (mret_of csrs)
unfolding mret_of status_by_mret
mret_words csrs legal words =
    with_word csrs Mstatus _ legal words
    (merged_word _ (at csrs Mstatus) _ (words.values Mstatus)
    (mret_stack (bit_at (at csrs Mstatus) MPIE) (bit_at-lt (at csrs Mstatus) MPIE)))

sret_words : (csrs : Csrs) → IsLegal csrs → HasWords csrs → HasWords (sret_of csrs)
unfolding sret_of status_by_sret
sret_words csrs legal words =
    with_word csrs Mstatus _ legal words
    (merged_word _ (at csrs Mstatus) _ (words.values Mstatus)
    (sret_stack (bit_at (at csrs Mstatus) SPIE) (bit_at-lt (at csrs Mstatus) SPIE)))

pub mret_sane : (core : Core) → IsSane core → IsSane (core_after_mret core)
unfolding core_after_mret
mret_sane core sane = record {
  sound = record {
    even = legal_even _ Mepc _ refl (sane.sound.legal.values Mepc);
    legal = mret_legal core.csrs sane.sound.legal;
    reserved = sane.sound.reserved;
  };
  pc = sane.csrs.values Mepc;
  registers = sane.registers;
  csrs = mret_words core.csrs sane.sound.legal sane.csrs;
}

pub sret_sane : (core : Core) → IsSane core → IsSane (core_after_sret core)
unfolding core_after_sret
sret_sane core sane = record {
  sound = record {
    even = legal_even _ Sepc _ refl (sane.sound.legal.values Sepc);
    legal = sret_legal core.csrs sane.sound.legal;
    reserved = sane.sound.reserved;
  };
  pc = sane.csrs.values Sepc;
  registers = sane.registers;
  csrs = sret_words core.csrs sane.sound.legal sane.csrs;
}
