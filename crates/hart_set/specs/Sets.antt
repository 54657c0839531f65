-- Several harts over one memory, and what a row does to them: the row's hart steps over the memory, and then each other
-- hart loses its reservation where a byte of RAM that the step wrote lies in its block, as the Unprivileged ISA's
-- chapter "A Extension for Atomic Instructions" has it of the stores of other harts. The order of rows is that of
-- memory.
use Rattle.std.specs.Prelude.{ℕ, suc, Bool, false, List, ◌∷◌, ◌++◌, map, take, drop, slice_get, Option, Some, None}
use Rattle.std.proofs.Common.{ap}
use Rattle.hart_words.specs.Actions.{Action, Run, pure}
use Rattle.hart_words.specs.Signals.{Shown}
use Rattle.rvfi_rows.specs.declared.expected.Expected.TheVariants.{Halted}
use Rattle.rvfi_rows.specs.Meanings.{Gave, Meaning, lost_by}
use Rattle.rvfi_rows.specs.Rows.{hart_of}

-- all that a run did, its writes too, is made into another value
unfoldable pub concluded : {A B : Type 0} → (Run A → B) → Action A → Action B
concluded f action = record {
  run =
      λ bytes. let done = action.run bytes in record { value = f done; reads = done.reads; wrote = done.wrote };
  framed =
      λ one other agree. ap (λ done. record { value = f done; reads = done.reads; wrote = done.wrote })
      (action.framed one other agree);
}

-- the harts after the one of a number went on: that one in its next state, each other one after its loss
unfoldable pub gone_on : {C : Type 0} → (C → C) → ℕ → C → List C → List C
gone_on lose number next cores = map lose (take number cores) ++ next ∷ map lose (drop (suc number) cores)

abbrev pub after_step : {C : Type 0} → Meaning C → List C → ℕ → Run (Gave C) → Gave (List C)
after_step meaning cores number done = record {
  next = gone_on (lost_by meaning done.wrote) number done.value.next cores;
  expected = done.value.expected;
}

-- a hart that is not there does nothing, as one that halted; who reads rows refuses these before
unfoldable pub stepped_by : {C : Type 0} → Meaning C → List C → Shown → ℕ → Option C → Action (Gave (List C))
stepped_by meaning cores shown number None = pure (record { next = cores; expected = Halted })
stepped_by meaning cores shown number (Some core) =
    concluded (after_step meaning cores number) (meaning.stepped core shown)

-- the step of the hart of a number by a row
abbrev pub step_of_hart : {C : Type 0} → Meaning C → List C → Shown → ℕ → Action (Gave (List C))
step_of_hart meaning cores shown number = stepped_by meaning cores shown number (slice_get cores number)

-- the step by a row
abbrev pub step_of_set : {C : Type 0} → Meaning C → List C → Shown → Action (Gave (List C))
step_of_set meaning cores shown = step_of_hart meaning cores shown (hart_of shown)

-- a row is plain for a hart that is there
abbrev pub is_plain_by : {C : Type 0} → Meaning C → Shown → Option C → Bool
is_plain_by meaning shown None = false
is_plain_by meaning shown (Some core) = meaning.is_plain core shown

abbrev pub is_plain_for_set : {C : Type 0} → Meaning C → List C → Shown → Bool
is_plain_for_set meaning cores shown = is_plain_by meaning shown (slice_get cores (hart_of shown))

abbrev pub after_taking : {C : Type 0} → Meaning C → List C → ℕ → Run C → List C
after_taking meaning cores number done = gone_on (lost_by meaning done.wrote) number done.value cores

-- the harts after a plain row: its hart is as the row shows it, and its store takes the others' reservations
unfoldable pub taken_by : {C : Type 0} → Meaning C → List C → Shown → ℕ → Option C → Action (List C)
taken_by meaning cores shown number None = pure cores
taken_by meaning cores shown number (Some core) =
    concluded (after_taking meaning cores number) (meaning.taken core shown)

abbrev pub taken_of_hart : {C : Type 0} → Meaning C → List C → Shown → ℕ → Action (List C)
taken_of_hart meaning cores shown number = taken_by meaning cores shown number (slice_get cores number)

abbrev pub taken_of_set : {C : Type 0} → Meaning C → List C → Shown → Action (List C)
taken_of_set meaning cores shown = taken_of_hart meaning cores shown (hart_of shown)
