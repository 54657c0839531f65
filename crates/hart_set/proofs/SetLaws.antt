-- What a row does to the harts, one by one.
use Rattle.std.proofs.Common.{◌≡◌, ℕ, List, [], ◌∷◌, refl, sym, ap, ◌∙◌, subst, Option, Some, None}
use Rattle.std.specs.List.{slice_get}
use Rattle.hart_words.specs.Memory.{Bytes}
use Rattle.hart_words.specs.Actions.{pure}
use Rattle.hart_words.specs.Signals.{Shown}
use Rattle.rvfi_rows.specs.Meanings.{Meaning, lost_by}
use Rattle.hart_set.specs.Sets.{concluded, gone_on, stepped_by, taken_by}
use Rattle.hart_set.specs.Laws.{as_set, idle, set_run, set_taken, StepsItsHart, TakesItsHart}
use Rattle.hart_set.proofs.Places.{at_number, at_other}

-- the run of a hart that is there
ran : {C : Type 0} (meaning : Meaning C) (cores : List C) (shown : Shown) (number : ℕ) (core : C) (bytes : Bytes)
    → slice_get cores number ≡ Some core
    → set_run meaning cores shown number bytes ≡ record {
      value = record {
        next = gone_on (lost_by meaning ((meaning.stepped core shown).run bytes).wrote) number
            ((meaning.stepped core shown).run bytes).value.next cores;
        expected = ((meaning.stepped core shown).run bytes).value.expected;
      };
      reads = ((meaning.stepped core shown).run bytes).reads;
      wrote = ((meaning.stepped core shown).run bytes).wrote;
    }
unfolding stepped_by concluded
ran {C} meaning cores shown number core bytes there =
    let P : Option C → Type 0 = λ found.
    (stepped_by meaning cores shown number found).run bytes
    ≡ (stepped_by meaning cores shown number (Some core)).run bytes in
    subst P (sym there) refl

pub steps_its_hart : {C : Type 0} (meaning : Meaning C) (cores : List C) (shown : Shown) (number : ℕ) (core : C)
    (bytes : Bytes) → slice_get cores number ≡ Some core → StepsItsHart meaning cores shown number core bytes
steps_its_hart meaning cores shown number core bytes there =
    let done = (meaning.stepped core shown).run bytes in
    let lose = lost_by meaning done.wrote in
    let whole = ran meaning cores shown number core bytes there in
    record {
      own = ap (λ r. slice_get r.value.next number) whole ∙ at_number lose number done.value.next core cores there;
      others = λ other apart. ap (λ r. slice_get r.value.next other) whole
          ∙ at_other lose number other done.value.next core cores there apart;
      did = ap (λ r. r.value.expected) whole;
      reads = ap (λ r. r.reads) whole;
      wrote = ap (λ r. r.wrote) whole;
    }

took : {C : Type 0} (meaning : Meaning C) (cores : List C) (shown : Shown) (number : ℕ) (core : C) (bytes : Bytes)
    → slice_get cores number ≡ Some core
    → set_taken meaning cores shown number bytes ≡ record {
      value = gone_on (lost_by meaning ((meaning.taken core shown).run bytes).wrote) number
          ((meaning.taken core shown).run bytes).value cores;
      reads = ((meaning.taken core shown).run bytes).reads;
      wrote = ((meaning.taken core shown).run bytes).wrote;
    }
unfolding taken_by concluded
took {C} meaning cores shown number core bytes there =
    let P : Option C → Type 0 = λ found.
    (taken_by meaning cores shown number found).run bytes
    ≡ (taken_by meaning cores shown number (Some core)).run bytes in
    subst P (sym there) refl

pub takes_its_hart : {C : Type 0} (meaning : Meaning C) (cores : List C) (shown : Shown) (number : ℕ) (core : C)
    (bytes : Bytes) → slice_get cores number ≡ Some core → TakesItsHart meaning cores shown number core bytes
takes_its_hart meaning cores shown number core bytes there =
    let done = (meaning.taken core shown).run bytes in
    let lose = lost_by meaning done.wrote in
    let whole = took meaning cores shown number core bytes there in
    record {
      own = ap (λ r. slice_get r.value number) whole ∙ at_number lose number done.value core cores there;
      others = λ other apart. ap (λ r. slice_get r.value other) whole
          ∙ at_other lose number other done.value core cores there apart;
      wrote = ap (λ r. r.wrote) whole;
    }

pub one_alone : {C : Type 0} (meaning : Meaning C) (core : C) (shown : Shown) (bytes : Bytes)
    → set_run meaning (core ∷ []) shown 0 bytes ≡ as_set ((meaning.stepped core shown).run bytes)
unfolding stepped_by concluded gone_on
one_alone meaning core shown bytes = refl

pub absent_idle : {C : Type 0} (meaning : Meaning C) (cores : List C) (shown : Shown) (number : ℕ) (bytes : Bytes)
    → slice_get cores number ≡ None → set_run meaning cores shown number bytes ≡ idle cores
unfolding stepped_by pure
absent_idle {C} meaning cores shown number bytes there =
    let P : Option C → Type 0 = λ found. (stepped_by meaning cores shown number found).run bytes ≡ idle cores in
    subst P (sym there) refl
