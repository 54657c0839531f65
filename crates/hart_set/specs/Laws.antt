-- What a row does to several harts, in the words of a designer of cores.
use Rattle.std.specs.Prelude.{◌≡◌, ◌≢◌, ℕ, List, [], ◌∷◌, Some, slice_get}
use Rattle.std.specs.Option.{option_map}
use Rattle.hart_words.specs.Memory.{Bytes}
use Rattle.hart_words.specs.Actions.{Run}
use Rattle.hart_words.specs.Signals.{Shown}
use Rattle.rvfi_rows.specs.declared.expected.Expected.TheVariants.{Halted}
use Rattle.rvfi_rows.specs.Meanings.{Gave, Meaning, lost_by}
use Rattle.hart_set.specs.Sets.{step_of_hart, taken_of_hart}

-- what the step of the hart of a number does over a memory
abbrev pub set_run : {C : Type 0} → Meaning C → List C → Shown → ℕ → Bytes → Run (Gave (List C))
set_run meaning cores shown number bytes = (step_of_hart meaning cores shown number).run bytes

-- the row's hart does what it does alone over that memory; each other hart is as it was, but for what it loses by the
-- bytes that were written
pub record StepsItsHart {C : Type 0} (meaning : Meaning C) (cores : List C) (shown : Shown) (number : ℕ) (core : C)
    (bytes : Bytes) : Type 0 where
  pub own : slice_get (set_run meaning cores shown number bytes).value.next number
      ≡ Some ((meaning.stepped core shown).run bytes).value.next
  pub others : (other : ℕ) → other ≢ number
      → slice_get (set_run meaning cores shown number bytes).value.next other
      ≡ option_map (lost_by meaning ((meaning.stepped core shown).run bytes).wrote) (slice_get cores other)
  pub did : (set_run meaning cores shown number bytes).value.expected
      ≡ ((meaning.stepped core shown).run bytes).value.expected
  pub reads : (set_run meaning cores shown number bytes).reads ≡ ((meaning.stepped core shown).run bytes).reads
  pub wrote : (set_run meaning cores shown number bytes).wrote ≡ ((meaning.stepped core shown).run bytes).wrote

-- the same of the state that is taken from a plain row
abbrev pub set_taken : {C : Type 0} → Meaning C → List C → Shown → ℕ → Bytes → Run (List C)
set_taken meaning cores shown number bytes = (taken_of_hart meaning cores shown number).run bytes

pub record TakesItsHart {C : Type 0} (meaning : Meaning C) (cores : List C) (shown : Shown) (number : ℕ) (core : C)
    (bytes : Bytes) : Type 0 where
  pub own : slice_get (set_taken meaning cores shown number bytes).value number
      ≡ Some ((meaning.taken core shown).run bytes).value
  pub others : (other : ℕ) → other ≢ number
      → slice_get (set_taken meaning cores shown number bytes).value other
      ≡ option_map (lost_by meaning ((meaning.taken core shown).run bytes).wrote) (slice_get cores other)
  pub wrote : (set_taken meaning cores shown number bytes).wrote ≡ ((meaning.taken core shown).run bytes).wrote

-- one hart alone, as a set of one
abbrev pub as_set : {C : Type 0} → Run (Gave C) → Run (Gave (List C))
as_set done = record {
  value = record { next = done.value.next ∷ []; expected = done.value.expected };
  reads = done.reads;
  wrote = done.wrote;
}

-- nothing is done, as by a hart that halted
abbrev pub idle : {C : Type 0} → List C → Run (Gave (List C))
idle cores = record { value = record { next = cores; expected = Halted }; reads = []; wrote = [] }
