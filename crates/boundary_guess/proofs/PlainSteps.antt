-- What stands at pc, and what the step of a plain row does with it.
use Rattle.std.proofs.Common.{◌≡◌, ℕ, ◌%◌, ◌^◌, ◌<◌, ◌==◌, Bool, true, false, List, [], ◌++◌, Option, Some, None, refl}
use Rattle.std.proofs.Common.{sym, ap, ◌∙◌, subst, arith, Ok, Err, Result, if◌then◌else◌}
use Rattle.std.specs.Prelude.{IfOk, ◌||◌}
use Rattle.std.proofs.lemmas.Bool.Decides.{nat_tests}
use Rattle.hart_words.specs.declared.accesses.Write.{Write}
use Rattle.hart_words.specs.Memory.{Bytes, after_writes}
use Rattle.hart_words.specs.Signals.{Shown}
use Rattle.hart_words.specs.Actions.{Run, pure, mapped}
use Rattle.hart_words.proofs.Runs.{run_then-is}
use Rattle.rv_decode.specs.declared.operation.Op.{Op}
use Rattle.rv_decode.specs.Operands.{operands_of}
use Rattle.rv_decode.specs.Table.{decoded_op_of, decoded_op_with}
use Rattle.rv_compressed.specs.Table.{expanded_op_of}
use Rattle.mem_access.specs.Accesses.{Exception}
use Rattle.hart_step.specs.declared.state.Core.{Core}
use Rattle.hart_step.specs.declared.instruction.Instruction.{Instruction}
use Rattle.hart_step.specs.declared.instruction.InstructionOutcome.{InstructionOutcome}
use Rattle.hart_step.specs.declared.instruction.InstructionOutcome.TheVariants.{Trapped, Retired}
use Rattle.hart_step.specs.Choices.{row_choices_of}
use Rattle.hart_step.specs.Instructions.{Completion, InstructionRun, run_of_decoded, run_of_result, execution_of}
use Rattle.hart_step.specs.Instructions.{run_of_fetched, fetch_at_pc, op_for, op_of, instruction_run}
use Rattle.hart_step.specs.PlainRows.{insn_bits_of, insn_shown, is_store, is_system_or_atomic, insn_length_of}
use Rattle.hart_step.specs.PlainRows.{shows_store}
use Rattle.hart_step.specs.declared.plain_rows.TheConstants.{C_EBREAK}
use Rattle.rv_decode.specs.declared.opcodes.TheConstants.{AMO, SYSTEM}
use Rattle.boundary_guess.proofs.Actions.{AreBytes, unwritten}
use Rattle.boundary_guess.proofs.Compared.{IsSameInsn}
use Rattle.boundary_guess.proofs.Faults.{IsFault, IsFetchedWord, RaisesFaults, all_faults, fetch_raises, fetch_word}
use Rattle.boundary_guess.proofs.NoSets.{SetsNone, fetch_none}
use Rattle.boundary_guess.proofs.PlainOps.{is_plain_op, plain_decoded_with, plain_expanded, stores_alike}
use Rattle.boundary_guess.proofs.PlainRuns.{Does, IsDone, plain_does}

-- ---- the word that a row shows

-- each operation that so many bytes mean is plain
abbrev pub MeansPlain : Core → ℕ → ℕ → Type 0
MeansPlain core bits len = (op : Op) → op_for core bits len ≡ Some op → is_plain_op op ≡ true

neither : (a b : Bool) → (a || b) ≡ false → (a ≡ false) × (b ≡ false)
neither false false none = (refl, refl)
neither false true none = absurd cc
neither true b none = absurd cc

whole_word : (bits : ℕ) → bits < 256 ^ 2 → bits % 256 ^ 2 ≡ bits
whole_word bits below = omega (arith, below)

pub plain_word : (core : Core) (bits len : ℕ) → IsFetchedWord (bits, len) → is_system_or_atomic bits ≡ false
    → MeansPlain core bits len
plain_word core bits len word common op means = by (bits % 4 == 3) word.length common
  where
    by : (long : Bool) → len ≡ (if long then 4 else 2)
        → (if (if long then 4 else 2) == 2 then bits % 256 ^ (if long then 4 else 2) == 0x9002
        else (bits % 128 == 0x73 || bits % 128 == 0x2f)) ≡ false
        → is_plain_op op ≡ true
    by true long other =
        plain_decoded_with core.choices.bits bits op other (sym (ap (op_for core bits) long) ∙ means)
    by false short other =
        let below : bits < 256 ^ 2 = subst (λ n. bits < 256 ^ n) short word.below in
        plain_expanded bits op below (ap (λ b. b == 0x9002) (sym (whole_word bits below)) ∙ other)
        (sym (ap (op_for core bits) short) ∙ means)

-- the bits of a word that was fetched are all of it
bits_by : (long : Bool) (bits len : ℕ) → len ≡ (if long then 4 else 2) → bits < 256 ^ len
    → bits % 256 ^ (if long then 4 else 2) ≡ bits
bits_by true bits len is below = let few : bits < 256 ^ 4 = subst (λ n. bits < 256 ^ n) is below in omega (arith, few)
bits_by false bits len is below = let few : bits < 256 ^ 2 = subst (λ n. bits < 256 ^ n) is below in omega (arith, few)

fetched_bits : (bits len : ℕ) → IsFetchedWord (bits, len) → insn_bits_of bits ≡ bits
fetched_bits bits len word = bits_by (bits % 4 == 3) bits len word.length word.below

fits_by : (long : Bool) (bits len : ℕ) → len ≡ (if long then 4 else 2) → bits < 256 ^ len → bits < 2 ^ 64
fits_by true bits len is below = let few : bits < 256 ^ 4 = subst (λ n. bits < 256 ^ n) is below in omega (arith, few)
fits_by false bits len is below = let few : bits < 256 ^ 2 = subst (λ n. bits < 256 ^ n) is below in omega (arith, few)

pub fetched_fits : (bits len : ℕ) → IsFetchedWord (bits, len) → bits < 2 ^ 64
fetched_fits bits len word = fits_by (bits % 4 == 3) bits len word.length word.below

-- a word that is the same but for what is above an instruction of 16 bits has the same instruction
same_length : (word bits : ℕ) → IsSameInsn word bits → insn_length_of word ≡ insn_length_of bits
same_length word bits same =
    let low : word % 4 ≡ bits % 4 = omega (arith, same.low) in
    ap (λ n. if n == 3 then 4 else 2) low

same_bits : (word bits : ℕ) → IsSameInsn word bits → insn_bits_of word ≡ insn_bits_of bits
same_bits word bits same =
    ap (λ n. word % 256 ^ n) (same_length word bits same) ∙ by (bits % 4 == 3) refl
  where
    by : (long : Bool) → (bits % 4 == 3) ≡ long
        → word % 256 ^ (if long then 4 else 2) ≡ bits % 256 ^ (if long then 4 else 2)
    by true is = ap (λ n. n % 256 ^ 4) (same.long (grind (arith, nat_tests, is)))
    by false is = omega (arith, same.low)

pub same_kind : (word bits : ℕ) → IsSameInsn word bits → is_system_or_atomic word ≡ is_system_or_atomic bits
same_kind word bits same =
    ap (λ n. if n == 2 then insn_bits_of word == C_EBREAK else (word % 128 == SYSTEM) || (word % 128 == AMO))
    (same_length word bits same)
    ∙ by (bits % 4 == 3) refl
  where
    by : (long : Bool) → (bits % 4 == 3) ≡ long
        → (if (if long then 4 else 2) == 2 then insn_bits_of word == C_EBREAK
        else (word % 128 == SYSTEM) || (word % 128 == AMO))
        ≡ (if (if long then 4 else 2) == 2 then insn_bits_of bits == C_EBREAK
        else (bits % 128 == SYSTEM) || (bits % 128 == AMO))
    by true is =
        ap (λ n. (n % 128 == SYSTEM) || (n % 128 == AMO)) (same.long (grind (arith, nat_tests, is)))
    by false is = ap (λ n. n == C_EBREAK) (same_bits word bits same)

-- a row that shows the word of a store shows a store, whether there is bit manipulation or not
store_by : (core : Core) (bits len : ℕ) (short : Bool) → (len == 2) ≡ short
    → is_store (op_of bits len) ≡ is_store (op_for core bits len)
store_by core bits len true is =
    ap (λ s. is_store (if s then expanded_op_of bits else decoded_op_of bits)) is
    ∙ sym (ap (λ s. is_store (if s then expanded_op_of bits else decoded_op_with bits core.choices.bits)) is)
store_by core bits len false is =
    ap (λ s. is_store (if s then expanded_op_of bits else decoded_op_of bits)) is
    ∙ sym (stores_alike core.choices.bits bits)
    ∙ sym (ap (λ s. is_store (if s then expanded_op_of bits else decoded_op_with bits core.choices.bits)) is)

pub stores_as : (core : Core) (shown : Shown) (bits len : ℕ) (op : Op) → IsSameInsn (insn_shown shown) bits
    → IsFetchedWord (bits, len) → op_for core bits len ≡ Some op → shows_store shown ≡ is_store (Some op)
unfolding shows_store
stores_as core shown bits len op is word means =
    ap (λ b. is_store (op_of b (insn_length_of (insn_shown shown)))) (same_bits (insn_shown shown) bits is)
    ∙ ap (λ n. is_store (op_of (insn_bits_of bits) n)) (same_length (insn_shown shown) bits is)
    ∙ ap (λ b. is_store (op_of b (insn_length_of bits))) (fetched_bits bits len word)
    ∙ ap (λ n. is_store (op_of bits n)) (sym word.length)
    ∙ store_by core bits len (len == 2) refl
    ∙ ap is_store means

-- ---- what stands at pc

-- an instruction that retired, and what it did where it is plain
pub record IsRetired (core : Core) (i : Instruction) (done : Completion) (wrote : List Write) : Type 0 where
  pub word : IsFetchedWord (i.bits, i.len)
  pub means : op_for core i.bits i.len ≡ Some i.op
  pub does : is_plain_op i.op ≡ true → IsDone core i (is_store (Some i.op)) done wrote

-- a word that raised an exception
pub record IsRefusedWord (core : Core) (bits : ℕ) (exception : Exception) : Type 0 where
  pub len : ℕ
  pub word : IsFetchedWord (bits, len)
  pub fault : MeansPlain core bits len → IsFault exception.0

abbrev pub Runs : Core → InstructionOutcome → Core → List Write → Type 0
Runs core (Trapped None exception) after wrote = IsFault exception.0
Runs core (Trapped (Some bits) exception) after wrote = IsRefusedWord core bits exception
Runs core (Retired i access) after wrote = IsRetired core i (record { core = after; access = access }) wrote

abbrev pub RunsBy : Core → Run InstructionRun → Type 0
RunsBy core run = Runs core run.value.executed run.value.core run.wrote

ended_runs : (core : Core) (i : Instruction) (result : Result Completion Exception) (wrote : List Write)
    → IsFetchedWord (i.bits, i.len) → op_for core i.bits i.len ≡ Some i.op
    → (is_plain_op i.op ≡ true → Does core i (is_store (Some i.op)) result wrote)
    → Runs core (run_of_result core i result).executed (run_of_result core i result).core wrote
ended_runs core i (Err exception) wrote word means does =
    record { len = i.len; word = word; fault = λ plain. does (plain i.op means) }
ended_runs core i (Ok done) wrote word means does = record { word = word; means = means; does = does }

decoded_runs : (core : Core) (shown : Shown) (bits len : ℕ) (op : Option Op) (bytes : Bytes)
    → SetsNone core.choices → IsFetchedWord (bits, len) × (op_for core bits len ≡ op)
    → RunsBy core ((run_of_decoded core shown bits len op).run bytes)
unfolding pure mapped
decoded_runs core shown bits len None bytes faults is = record { len = len; word = is.0; fault = λ plain. refl }
decoded_runs core shown bits len (Some op) bytes faults is =
    let i : Instruction = record { op = op; bits = bits; len = len } in
    let run = (execution_of core (row_choices_of shown (operands_of op).rd) i).run bytes in
    ended_runs core i run.value run.wrote is.0 is.1
    (λ plain. plain_does core (row_choices_of shown (operands_of op).rd) i bytes plain faults)

fetched_runs : (core : Core) (shown : Shown) (word : Result (ℕ × ℕ) Exception) (bytes : Bytes)
    → SetsNone core.choices → RaisesFaults word → IfOk word IsFetchedWord
    → RunsBy core ((run_of_fetched core shown word).run bytes)
unfolding pure
fetched_runs core shown (Err exception) bytes faults raises is = raises
fetched_runs core shown (Ok word) bytes faults raises is =
    decoded_runs core shown word.0 word.1 (op_for core word.0 word.1) bytes faults (is, refl)

nothing_before : (wrote more : List Write) → wrote ≡ [] → wrote ++ more ≡ more
nothing_before wrote more none = ap (λ w. w ++ more) none

pub ran_runs : (core : Core) (shown : Shown) (bytes : Bytes) → SetsNone core.choices → AreBytes bytes
    → RunsBy core ((instruction_run core shown).run bytes)
unfolding instruction_run
ran_runs core shown bytes faults are =
    let fetch = fetch_at_pc core in
    let before = fetch.run bytes in
    let none = fetch_none core faults in
    let whole = run_then-is fetch (run_of_fetched core shown) bytes in
    let after = (run_of_fetched core shown before.value).run (after_writes before.wrote bytes) in
    let P : Bytes → Type 0 = λ memory. RunsBy core ((run_of_fetched core shown before.value).run memory) in
    let Q : List Write → Type 0 = λ wrote. Runs core after.value.executed after.value.core wrote in
    let R : Run InstructionRun → Type 0 = λ run. RunsBy core run in
    let runs =
    subst P (sym (unwritten fetch bytes none))
    (fetched_runs core shown before.value bytes faults
    (fetch_raises (λ exception. IsFault exception.0) core bytes (all_faults core.pc)) (fetch_word core bytes are)) in
    subst R (sym whole) (subst Q (sym (nothing_before before.wrote after.wrote (none bytes))) runs)
