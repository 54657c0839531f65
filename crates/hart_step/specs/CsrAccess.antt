-- The access of an instruction to a control and status register, from the Unprivileged ISA's chapter ""Zicsr", Control
-- and Status Register (CSR) Instructions".
use Rattle.std.specs.Prelude.{ℕ, ◌-◌, Bool, false, ◌&&◌, if◌then◌else◌, bit_and, bit_or, Option, Some, None, unwrap_or}
use Rattle.std.specs.Prelude.{Result, Ok, Err}
use Rattle.hart_words.specs.Results.{◌>>=◌}
use Rattle.csr_table.specs.declared.registers.Csr.{Csr}
use Rattle.csr_table.specs.declared.registers.CsrRow.{CsrRow}
use Rattle.csr_table.specs.Addresses.{csr_row_of}
use Rattle.csr_file.specs.declared.csrs.Csrs.{Csrs}
use Rattle.csr_file.specs.declared.access.CsrRead.{CsrRead}
use Rattle.csr_file.specs.declared.access.Illegal.{Illegal}
use Rattle.csr_file.specs.Fields.{all_bits}
use Rattle.csr_file.specs.declared.profile.CsrProfile.{CsrProfile}
use Rattle.csr_file.specs.Profiles.{kind_in, may_trap, presence_of}
use Rattle.csr_file.specs.Values.{adopted_bits_of}
use Rattle.csr_file.specs.Access.{csr_read_at, csr_write_at}
use Rattle.rv_decode.specs.declared.operation.CsrOp.{CsrOp}
use Rattle.rv_decode.specs.declared.operation.CsrOp.TheVariants.{Write, Set, Clear}
use Rattle.rv_integer.specs.declared.int_result.CsrRequest.{CsrRequest}
use Rattle.hart_step.specs.declared.state.Core.{Core}
use Rattle.hart_step.specs.declared.choices.RowChoices.{RowChoices}

-- what a read gives: the value for the destination, and what the set and clear forms start from
abbrev pub OldValue : Type 0
OldValue = ℕ × ℕ

-- the bits that the core decides, and lines that the row does not show, come from the destination's value
abbrev pub with_choices : Core → RowChoices → Csr → CsrRead → OldValue
with_choices core choices csr read =
    let taken = adopted_bits_of core.csrs (kind_in core.csrs.profile csr) choices.lines.shown in
    (bit_or read.value (bit_and (unwrap_or choices.rd_wdata 0) taken), read.base)

-- a core may make each access to a register trap, for software to answer it: where nothing is said, to `time` alone
abbrev pub traps_by : CsrProfile → RowChoices → Option CsrRow → Bool
traps_by profile choices None = false
traps_by profile choices (Some row) = may_trap (presence_of profile row.csr) && choices.traps

unfoldable pub traps_at : Core → RowChoices → ℕ → Bool
traps_at core choices address = traps_by core.csrs.profile choices (csr_row_of address)

abbrev pub old_value_by : Core → RowChoices → ℕ → Option CsrRow → Result OldValue Illegal
old_value_by core choices address None = Err (record {})
old_value_by core choices address (Some row) =
    csr_read_at core.csrs address core.mode choices.lines.up >>= λ read. Ok (with_choices core choices row.csr read)

-- a form that does not read gets nothing
unfoldable pub old_value_of : Core → RowChoices → CsrRequest → Result OldValue Illegal
old_value_of core choices request =
    if request.reads then old_value_by core choices request.address (csr_row_of request.address) else Ok (0, 0)

-- what the form writes
abbrev pub new_value_of : CsrOp → ℕ → ℕ → ℕ
new_value_of Write base operand = operand
new_value_of Set base operand = bit_or base operand
new_value_of Clear base operand = bit_and base (all_bits - operand)

abbrev pub csrs_after_request : Core → CsrRequest → ℕ → Result Csrs Illegal
csrs_after_request core request base =
    if request.writes then csr_write_at core.csrs request.address core.mode
    (new_value_of request.op base request.operand)
    else Ok core.csrs

-- the destination's value, and the registers after an access that the row does not say trapped
unfoldable pub csr_read_and_write : Core → RowChoices → CsrRequest → Result (ℕ × Csrs) Illegal
csr_read_and_write core choices request =
    old_value_of core choices request >>= λ old. (csrs_after_request core request old.1 >>= λ csrs. Ok (old.0, csrs))

-- the same of every access
unfoldable pub csr_access_result : Core → RowChoices → CsrRequest → Result (ℕ × Csrs) Illegal
csr_access_result core choices request =
    if traps_at core choices request.address then Err (record {}) else csr_read_and_write core choices request
