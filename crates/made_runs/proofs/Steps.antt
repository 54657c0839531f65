-- A step of the hart that runs the image.
use Rattle.std.proofs.Common.{◌≡◌, ℕ, ◌+◌, ◌%◌, ◌^◌, true, List, [], ◌∷◌, ◌++◌, Some, None, Result, Ok, refl}
use Rattle.std.proofs.Common.{ap, ◌∙◌}
use Rattle.hart_words.specs.declared.privilege.Mode.TheVariants.{Machine}
use Rattle.hart_words.specs.declared.map.Map.{Map}
use Rattle.hart_words.specs.declared.accesses.Read.{Read}
use Rattle.hart_words.specs.declared.signal.TheConstants.{SIGNALS}
use Rattle.hart_words.specs.Choices.{plain_choices}
use Rattle.hart_words.specs.Signals.{Shown}
use Rattle.hart_words.specs.Actions.{Run, pure, mapped}
use Rattle.hart_words.specs.Memory.{Bytes, after_writes, number_at}
use Rattle.hart_words.proofs.Runs.{run_then-is}
use Rattle.csr_file.specs.Registers.{csrs_at_reset}
use Rattle.rv_decode.specs.declared.operation.Op.{Op}
use Rattle.rv_decode.specs.Operands.{operands_of}
use Rattle.rv_decode.specs.Table.{decoded_op_of}
use Rattle.mem_access.specs.Accesses.{Exception, fetch_result}
use Rattle.hart_step.specs.declared.state.Core.{Core}
use Rattle.hart_step.specs.declared.instruction.Instruction.{Instruction}
use Rattle.hart_step.specs.Choices.{asks_interrupt, row_choices_of}
use Rattle.hart_step.specs.Instructions.{Completion, InstructionRun, run_of_result, execution_of, run_of_fetched}
use Rattle.hart_step.specs.Instructions.{instruction_run}
use Rattle.hart_step.specs.Steps.{before_instruction, core_after_count, step_result_of, core_after_interrupt}
use Rattle.hart_step.specs.Steps.{lacks_interrupt, step_of}
use Rattle.segment_judge.specs.Judgements.{RowJudgement, by_hart, row_judgement_of}
use Rattle.hart_words.specs.Spans.{holds_all}
use Rattle.hart_words.specs.declared.accesses.Write.{Write}
use Rattle.rv_integer.specs.Results.{result_of, immediate_result, register_result}
use Rattle.hart_step.specs.Instructions.{after_access, core_after_retirement}
use Rattle.hart_step.specs.Steps.{core_after_run, expected_of}
use Rattle.row_compare.specs.Difference.{difference_of}
use Rattle.std.proofs.Common.{◌≤◌, arith, lit≤}
use Rattle.std.proofs.lemmas.Bool.Decides.{nat_tests}
use Rattle.std.proofs.Math.Nat.{mod-eq_of_lt}
use Rattle.std.proofs.Common.{◌<◌, bit_xor}
use Rattle.trace_maker.specs.Rows.{addi_of, first_row, immediate_of, turn_row}
use Rattle.made_runs.specs.Laws.{MadeState}
use Rattle.made_runs.proofs.Differences.{done_agrees, load_memory, none_among, plain_memory, store_memory}
use Rattle.made_runs.proofs.Accesses.{as_at_reset, load_accessed, same_extended, store_accessed}
use Rattle.made_runs.proofs.Fetches.{fetched_at_reset}
use Rattle.made_runs.proofs.Images.{IsWordAt, auipc_at, addi_at, xor_at, sd_at, ld_at, jal_at}
use Rattle.made_runs.proofs.Decodes.{decoded_plainly, auipc_means, addi_means, xor_means, sd_means, ld_means, jal_means}
use Rattle.trace_maker.specs.declared.made_row.MadeRow.{MadeRow}
use Rattle.made_runs.specs.Shows.{shown_of}
use Rattle.made_runs.specs.States.{core_at}

-- no made row asks for an interrupt
begun_made : (core : Core) (row : MadeRow)
    → before_instruction core (shown_of row) ≡ core_after_count core (shown_of row)
unfolding before_instruction core_after_interrupt asks_interrupt
begun_made core row = refl

-- what is judged of a row, by the instruction's own run
abbrev pub judged_by : Core → MadeRow → Instruction → List Read → Run (Result Completion Exception)
    → Run (RowJudgement Core)
judged_by core row instruction reads run = record {
  value =
      row_judgement_of (shown_of row)
      (step_result_of core (shown_of row) (run_of_result (core_after_count core (shown_of row)) instruction run.value));
  reads = reads ++ run.reads;
  wrote = run.wrote;
}

-- a row is judged by what the instruction at pc does
pub judged_as : {word : ℕ} {op : Op} {reads : List Read} (map : Map) (core : Core) (row : MadeRow) (bytes : Bytes)
    → (fetch_result csrs_at_reset map plain_choices Machine core.pc).run bytes
    ≡ record { value = Ok (word, 4); reads = reads; wrote = [] }
    → decoded_op_of word ≡ Some op →
    let core = as_at_reset map core in
    let instruction : Instruction = record { op = op; bits = word; len = 4 } in
    (by_hart core (shown_of row)).run bytes
    ≡ judged_by core row instruction reads
    ((execution_of (core_after_count core (shown_of row)) (row_choices_of (shown_of row) (operands_of op).rd)
    instruction).run bytes)
unfolding by_hart step_of mapped instruction_run core_after_count after_writes
judged_as {word} {op} {reads} map core row bytes fetch means =
    let core : Core = as_at_reset map core in
    let shown : Shown = shown_of row in
    let now : Core = core_after_count core shown in
    let instruction : Instruction = record { op = op; bits = word; len = 4 } in
    let run : Run (Result Completion Exception) =
    (execution_of now (row_choices_of shown (operands_of op).rd) instruction).run bytes in
    let all : (instruction_run now shown).run bytes
    ≡ record { value = run_of_result now instruction run.value; reads = reads ++ run.reads; wrote = run.wrote } =
    run_then-is (fetch_result csrs_at_reset map plain_choices Machine core.pc) (run_of_fetched now shown) bytes
    ∙ rw (fetch, decoded_plainly word ∙ means) refl in
    let judge : Run InstructionRun → Run (RowJudgement Core) =
    λ (t : Run InstructionRun).
    record {
      value =
          row_judgement_of shown (step_result_of core shown t.value);
      reads = t.reads;
      wrote = t.wrote;
    } in
    ap (λ (c : Core). judge ((instruction_run c shown).run bytes)) (begun_made core row) ∙ ap judge all

-- a row is judged to agree, from one state to the next
pub record AgreesTo (core : Core) (row : MadeRow) (bytes : Bytes) (next : Core) (wrote : List Write) : Type 0 where
  pub next_is : ((by_hart core (shown_of row)).run bytes).value.next ≡ next
  pub difference : ((by_hart core (shown_of row)).run bytes).value.difference ≡ None
  pub wrote_is : ((by_hart core (shown_of row)).run bytes).wrote ≡ wrote

-- the word at pc is fetched
fetch_word : {number : ℕ} (made : MadeState number) (pc word : ℕ) → 0x80000000 ≤ pc → pc ≤ 0x80001000
    → IsWordAt made.bytes pc word
    → (fetch_result csrs_at_reset made.map plain_choices Machine pc).run made.bytes
    ≡ record {
      value =
          Ok (word, 4);
      reads = record { pa = pc; len = 2 } ∷ record { pa = (pc + 2) % 2 ^ 64; len = 2 } ∷ [];
      wrote = [];
    }
fetch_word made pc word low high at =
    let first : holds_all made.map.ram pc 2 ≡ true =
    rw (made.is_map.base, made.is_map.size) (grind (arith, nat_tests)) in
    let next : (pc + 2) % 2 ^ 64 ≡ pc + 2 = mod-eq_of_lt (omega arith) in
    let second : holds_all made.map.ram ((pc + 2) % 2 ^ 64) 2 ≡ true =
    rw (next, made.is_map.base, made.is_map.size) (grind (arith, nat_tests)) in
    fetched_at_reset made.map pc word made.bytes first second at.long at.whole

-- AUIPC
pub first_agrees : {number : ℕ} (made : MadeState number)
    → AgreesTo (core_at made.map 0x80000000 0 0 0 0 None) first_row made.bytes
    (core_at made.map 0x80000004 0 0x80001000 0 0 (Some 1)) []
unfolding execution_of result_of immediate_result register_result core_after_retirement core_after_count
    core_after_run step_result_of expected_of difference_of pure before_instruction core_after_interrupt
    asks_interrupt lacks_interrupt
first_agrees {number} made =
    let fetch = fetch_word made 0x80000000 0x00001117 (lit≤ tt) (lit≤ tt) (auipc_at number made.bytes made.has_image) in
    let all = judged_as made.map (core_at made.map 0x80000000 0 0 0 0 None) first_row made.bytes fetch auipc_means in
    record {
      next_is = rw all refl;
      difference =
          rw all (none_among _ _ SIGNALS (done_agrees _ _ first_row
          (record {
            order =
                tt;
            intr =
                refl;
            pc = refl;
            insn = refl;
            done = refl;
            rd = refl;
            rd_value = refl;
            next_pc = refl;
            trap = refl;
          })
          (plain_memory _ _ first_row refl refl refl)));
      wrote_is = rw all refl;
    }

-- ADDI
pub addi_agrees : {number : ℕ} (made : MadeState number) (x1 x2 x3 x4 later r : ℕ)
    → AgreesTo (core_at made.map 0x80000004 x1 x2 x3 x4 (Some r))
    (turn_row number ((x1 + immediate_of number) % 2 ^ 64) later r 0) made.bytes
    (core_at made.map 0x80000008 ((x1 + immediate_of number) % 2 ^ 64) x2 x3 x4 (Some ((r + 1) % 2 ^ 64))) []
unfolding execution_of result_of immediate_result register_result core_after_retirement core_after_count
    core_after_run step_result_of expected_of difference_of pure before_instruction core_after_interrupt
    asks_interrupt lacks_interrupt turn_row
addi_agrees {number} made x1 x2 x3 x4 later r =
    let row : MadeRow = turn_row number ((x1 + immediate_of number) % 2 ^ 64) later r 0 in
    let fetch =
    fetch_word made 0x80000004 (addi_of number) (lit≤ tt) (lit≤ tt) (addi_at number made.bytes made.has_image) in
    let all =
    judged_as made.map (core_at made.map 0x80000004 x1 x2 x3 x4 (Some r)) row made.bytes fetch (addi_means number) in
    record {
      next_is = rw all refl;
      difference =
          rw all (none_among _ _ SIGNALS (done_agrees _ _ row
          (record {
            order =
                refl;
            intr =
                refl;
            pc = refl;
            insn = refl;
            done = refl;
            rd = refl;
            rd_value = refl;
            next_pc = refl;
            trap = refl;
          })
          (plain_memory _ _ row refl refl refl)));
      wrote_is = rw all refl;
    }

-- XOR
pub xor_agrees : {number : ℕ} (made : MadeState number) (x1 x2 x3 x4 r : ℕ)
    → AgreesTo (core_at made.map 0x80000008 x1 x2 x3 x4 (Some r)) (turn_row number x1 (bit_xor x3 x1) r 1) made.bytes
    (core_at made.map 0x8000000c x1 x2 (bit_xor x3 x1) x4 (Some ((r + 1) % 2 ^ 64))) []
unfolding execution_of result_of immediate_result register_result core_after_retirement core_after_count
    core_after_run step_result_of expected_of difference_of pure before_instruction core_after_interrupt
    asks_interrupt lacks_interrupt turn_row
xor_agrees {number} made x1 x2 x3 x4 r =
    let row : MadeRow = turn_row number x1 (bit_xor x3 x1) r 1 in
    let fetch =
    fetch_word made 0x80000008 0x0011c1b3 (lit≤ tt) (lit≤ tt) (xor_at number made.bytes made.has_image) in
    let all =
    judged_as made.map (core_at made.map 0x80000008 x1 x2 x3 x4 (Some r)) row made.bytes fetch xor_means in
    record {
      next_is = rw all refl;
      difference =
          rw all (none_among _ _ SIGNALS (done_agrees _ _ row
          (record {
            order =
                refl;
            intr =
                refl;
            pc = refl;
            insn = refl;
            done = refl;
            rd = refl;
            rd_value = refl;
            next_pc = refl;
            trap = refl;
          })
          (plain_memory _ _ row refl refl refl)));
      wrote_is = rw all refl;
    }

-- JAL
pub jal_agrees : {number : ℕ} (made : MadeState number) (x1 x2 x3 x4 one three r : ℕ)
    → AgreesTo (core_at made.map 0x80000014 x1 x2 x3 x4 (Some r)) (turn_row number one three r 4) made.bytes
    (core_at made.map 0x80000004 x1 x2 x3 x4 (Some ((r + 1) % 2 ^ 64))) []
unfolding execution_of result_of immediate_result register_result core_after_retirement core_after_count
    core_after_run step_result_of expected_of difference_of pure before_instruction core_after_interrupt
    asks_interrupt lacks_interrupt turn_row
jal_agrees {number} made x1 x2 x3 x4 one three r =
    let row : MadeRow = turn_row number one three r 4 in
    let fetch =
    fetch_word made 0x80000014 0xff1ff06f (lit≤ tt) (lit≤ tt) (jal_at number made.bytes made.has_image) in
    let all =
    judged_as made.map (core_at made.map 0x80000014 x1 x2 x3 x4 (Some r)) row made.bytes fetch jal_means in
    record {
      next_is = rw all refl;
      difference =
          rw all (none_among _ _ SIGNALS (done_agrees _ _ row
          (record {
            order =
                refl;
            intr =
                refl;
            pc = refl;
            insn = refl;
            done = refl;
            rd = refl;
            rd_value = refl;
            next_pc = refl;
            trap = refl;
          })
          (plain_memory _ _ row refl refl refl)));
      wrote_is = rw all refl;
    }

-- SD
pub sd_agrees : {number : ℕ} (made : MadeState number) (x1 x3 x4 one r : ℕ) → x3 < 2 ^ 64
    → AgreesTo (core_at made.map 0x8000000c x1 0x80001000 x3 x4 (Some r)) (turn_row number one x3 r 2) made.bytes
    (core_at made.map 0x80000010 x1 0x80001000 x3 x4 (Some ((r + 1) % 2 ^ 64)))
    (record { pa = 0x80001000; len = 8; value = x3 } ∷ [])
unfolding execution_of result_of core_after_retirement core_after_count core_after_run step_result_of expected_of
    difference_of pure before_instruction core_after_interrupt asks_interrupt lacks_interrupt turn_row mapped
    after_access
sd_agrees {number} made x1 x3 x4 one r small =
    let row : MadeRow = turn_row number one x3 r 2 in
    let core : Core = core_at made.map 0x8000000c x1 0x80001000 x3 x4 (Some r) in
    let fetch =
    fetch_word made 0x8000000c 0x00313023 (lit≤ tt) (lit≤ tt) (sd_at number made.bytes made.has_image) in
    let all = judged_as made.map core row made.bytes fetch sd_means in
    let low : x3 % 2 ^ 64 ≡ x3 = mod-eq_of_lt small in
    let access =
    store_accessed made.map (core_at made.map 0x8000000c x1 0x80001000 x3 x4 (Some ((r + 1) % 2 ^ 64))) x3
    (row_choices_of (shown_of row) 0) made.bytes made.is_map in
    record {
      next_is = rw (all, low, access) refl;
      difference =
          rw (all, low, access)
          (none_among _ _ SIGNALS
          (done_agrees _ _ row
          (record {
            order =
                refl;
            intr =
                refl;
            pc = refl;
            insn = refl;
            done = refl;
            rd = refl;
            rd_value = refl;
            next_pc = refl;
            trap = refl;
          })
          (store_memory _ _ row x3 refl refl small
          (record { address = refl; mask = refl; written = refl; physical = refl }))));
      wrote_is = rw (all, low, access) refl;
    }

-- LD
pub ld_agrees : {number : ℕ} (made : MadeState number) (x1 x3 x4 one r : ℕ) → x3 < 2 ^ 64
    → number_at made.bytes 0x80001000 8 ≡ x3
    → AgreesTo (core_at made.map 0x80000010 x1 0x80001000 x3 x4 (Some r)) (turn_row number one x3 r 3) made.bytes
    (core_at made.map 0x80000014 x1 0x80001000 x3 x3 (Some ((r + 1) % 2 ^ 64))) []
unfolding execution_of result_of core_after_retirement core_after_count core_after_run step_result_of expected_of
    difference_of pure before_instruction core_after_interrupt asks_interrupt lacks_interrupt turn_row mapped
    after_access
ld_agrees {number} made x1 x3 x4 one r small cell =
    let row : MadeRow = turn_row number one x3 r 3 in
    let fetch =
    fetch_word made 0x80000010 0x00013203 (lit≤ tt) (lit≤ tt) (ld_at number made.bytes made.has_image) in
    let all =
    judged_as made.map (core_at made.map 0x80000010 x1 0x80001000 x3 x4 (Some r)) row made.bytes fetch ld_means in
    let access =
    rw (cell, same_extended x3 small) at
    (load_accessed made.map (core_at made.map 0x80000010 x1 0x80001000 x3 x4 (Some ((r + 1) % 2 ^ 64)))
    (row_choices_of (shown_of row) 4) made.bytes made.is_map) in
    record {
      next_is = rw (all, access) refl;
      difference =
          rw (all, access)
          (none_among _ _ SIGNALS
          (done_agrees _ _ row
          (record {
            order =
                refl;
            intr =
                refl;
            pc = refl;
            insn = refl;
            done = refl;
            rd = refl;
            rd_value = refl;
            next_pc = refl;
            trap = refl;
          })
          (load_memory _ _ row x3 refl refl small
          (record { address = refl; mask = refl; unwritten = refl; found = refl; physical = refl }))));
      wrote_is = rw (all, access) refl;
    }
