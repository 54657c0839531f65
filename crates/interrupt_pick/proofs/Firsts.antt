-- What is picked is the first that M takes, or else the first that S takes.
use Rattle.std.proofs.Common.{◌≡◌, ◌≢◌, ◌⊎◌, inl, inr, ℕ, Bool, true, false, not, cond, ◌&&◌, Option, Some, None, List}
use Rattle.std.proofs.Common.{[], ◌∷◌, refl, ap, ◌∙◌, sym, subst}
use Rattle.std.specs.List.{find}
use Rattle.std.specs.Option.{option_map, option_or}
use Rattle.std.proofs.lemmas.List.Elements.{All-nil, All-cons, All-head, All-tail}
use Rattle.hart_words.specs.declared.privilege.Mode.{Mode}
use Rattle.hart_words.specs.declared.privilege.Mode.TheVariants.{User, Supervisor, Machine}
use Rattle.csr_file.specs.declared.csrs.Csrs.{Csrs}
use Rattle.csr_file.specs.declared.stored_csr.StoredCsr.TheVariants.{Mstatus, Mideleg, Mie}
use Rattle.csr_file.specs.declared.fields.TheConstants.{SIE, MIE}
use Rattle.csr_file.specs.Registers.{at as value_at}
use Rattle.csr_file.specs.Fields.{bit_is_set}
use Rattle.csr_file.specs.Values.{pending_interrupts_of}
use Rattle.interrupt_pick.specs.Interrupts.{is_pending_and_enabled, machine_takes, supervisor_takes, is_for_machine}
use Rattle.interrupt_pick.specs.Interrupts.{is_for_supervisor, pick_of}
use Rattle.interrupt_pick.specs.Laws.{standard_order, IsTakenByMachine, IsTakenBySupervisor, HoldsOfNone, IsFirst}
use Rattle.interrupt_pick.specs.Laws.{IsPicked, PicksFirst, PicksNoneRightly}
use Rattle.interrupt_pick.proofs.Taken.{wrong, both, off}

-- a test that decides what holds of an element
record Decides (test : ℕ → Bool) (holds : ℕ → Type 0) : Type 0 where
  pub sound : (code : ℕ) → test code ≡ true → holds code
  pub complete : (code : ℕ) → holds code → test code ≡ true

-- what a test decides not to hold
abbrev fails_of : (ℕ → Type 0) → ℕ → Type 0
fails_of holds code = holds code → ⊥

fails_so : {test : ℕ → Bool} {holds : ℕ → Type 0} (code : ℕ) → Decides test holds → test code ≡ false → holds code → ⊥
fails_so code decides fails is = wrong ⊥ (sym fails ∙ decides.complete code is)

-- what is found is the first
head_is : (code other : ℕ) → Some code ≡ Some other → code ≡ other
head_is code other is = cc

first_step : {test : ℕ → Bool} {holds : ℕ → Type 0} (x : ℕ) (xs : List ℕ) (code : ℕ) (b : Bool) → Decides test holds
    → test x ≡ b → (find test xs ≡ Some code → IsFirst holds xs code) → cond b (Some x) (find test xs) ≡ Some code
    → IsFirst holds (x ∷ xs) code
first_step {holds} x xs code true decides passes later is =
    let same = head_is x code is in
    record {
      before = [];
      after = xs;
      place = ap (λ c. c ∷ xs) same;
      none_before = All-nil (fails_of holds);
      here =
          subst holds same (decides.sound x passes);
    }
first_step {holds} x xs code false decides fails later is =
    let rest = later is in
    record {
      before = x ∷ rest.before;
      after = rest.after;
      place = ap (λ codes. x ∷ codes) rest.place;
      none_before =
          All-cons (fails_of holds) x rest.before (fails_so x decides fails) rest.none_before;
      here =
          rest.here;
    }

first_found : (test : ℕ → Bool) (holds : ℕ → Type 0) (xs : List ℕ) (code : ℕ) → Decides test holds
    → find test xs ≡ Some code → IsFirst holds xs code
first_found test holds [] code decides is = cc
first_found test holds (x ∷ xs) code decides is =
    first_step x xs code (test x) decides refl (first_found test holds xs code decides) is

-- nothing is found just where it holds of none
none_step : {test : ℕ → Bool} {holds : ℕ → Type 0} (x : ℕ) (xs : List ℕ) (b : Bool) → Decides test holds → test x ≡ b
    → (find test xs ≡ None → HoldsOfNone holds xs) → cond b (Some x) (find test xs) ≡ None → HoldsOfNone holds (x ∷ xs)
none_step x xs true decides passes later is = cc
none_step {holds} x xs false decides fails later is =
    All-cons (fails_of holds) x xs (fails_so x decides fails) (later is)

none_found : (test : ℕ → Bool) (holds : ℕ → Type 0) (xs : List ℕ) → Decides test holds → find test xs ≡ None
    → HoldsOfNone holds xs
none_found test holds [] decides is = All-nil (fails_of holds)
none_found test holds (x ∷ xs) decides is =
    none_step x xs (test x) decides refl (none_found test holds xs decides) is

finds_step : {test : ℕ → Bool} {holds : ℕ → Type 0} (x : ℕ) (xs : List ℕ) (b : Bool) → Decides test holds → test x ≡ b
    → (holds x → ⊥) → find test xs ≡ None → cond b (Some x) (find test xs) ≡ None
finds_step x xs true decides passes not_here later = absurd (not_here (decides.sound x passes))
finds_step x xs false decides fails not_here later = later

finds_none : (test : ℕ → Bool) (holds : ℕ → Type 0) (xs : List ℕ) → Decides test holds → HoldsOfNone holds xs
    → find test xs ≡ None
finds_none test holds [] decides none = refl
finds_none test holds (x ∷ xs) decides none =
    finds_step x xs (test x) decides refl (All-head (fails_of holds) x xs none)
    (finds_none test holds xs decides (All-tail (fails_of holds) x xs none))

-- the tests say what M and S take
all_of : (a b : Bool) → a ≡ true → b ≡ true → (a && b) ≡ true
all_of true b first second = second
all_of false b first second = first

not_of : (a : Bool) → a ≡ false → not a ≡ true
not_of true is = sym is
not_of false is = refl

machine_mask : (csrs : Csrs) (mode : Mode) → machine_takes csrs mode ≡ true → mode ≡ Machine
    → bit_is_set (value_at csrs Mstatus) MIE ≡ true
machine_mask csrs Machine takes is = takes
machine_mask csrs Supervisor takes is = cc
machine_mask csrs User takes is = cc

machine_unmasked : (csrs : Csrs) (mode : Mode) → (mode ≡ Machine → bit_is_set (value_at csrs Mstatus) MIE ≡ true)
    → machine_takes csrs mode ≡ true
machine_unmasked csrs Machine set = set refl
machine_unmasked csrs Supervisor set = refl
machine_unmasked csrs User set = refl

by_machine : (csrs : Csrs) (mode : Mode) (lines : ℕ)
    → Decides (is_for_machine csrs mode lines) (IsTakenByMachine csrs mode lines)
unfolding is_for_machine
by_machine csrs mode lines = record {
  sound = λ code is.
      let outer = both (machine_takes csrs mode && is_pending_and_enabled csrs lines code)
      (not (bit_is_set (value_at csrs Mideleg) code)) is in
      let inner = both (machine_takes csrs mode) (is_pending_and_enabled csrs lines code) outer.0 in
      let set = both (bit_is_set (pending_interrupts_of csrs lines) code) (bit_is_set (value_at csrs Mie) code)
      inner.1 in
      record {
        pending = set.0;
        enabled = set.1;
        not_delegated = off (bit_is_set (value_at csrs Mideleg) code)
            outer.1;
        unmasked = machine_mask csrs mode inner.0;
      };
  complete = λ code is.
      let set = all_of (bit_is_set (pending_interrupts_of csrs lines) code) (bit_is_set (value_at csrs Mie) code)
      is.pending is.enabled in
      let inner = all_of (machine_takes csrs mode) (is_pending_and_enabled csrs lines code)
      (machine_unmasked csrs mode is.unmasked) set in
      all_of (machine_takes csrs mode && is_pending_and_enabled csrs lines code)
      (not (bit_is_set (value_at csrs Mideleg) code)) inner
      (not_of (bit_is_set (value_at csrs Mideleg) code) is.not_delegated);
}

supervisor_below : (csrs : Csrs) (mode : Mode) → supervisor_takes csrs mode ≡ true → mode ≢ Machine
supervisor_below csrs Machine takes is = wrong ⊥ takes
supervisor_below csrs Supervisor takes is = cc
supervisor_below csrs User takes is = cc

supervisor_mask : (csrs : Csrs) (mode : Mode) → supervisor_takes csrs mode ≡ true → mode ≡ Supervisor
    → bit_is_set (value_at csrs Mstatus) SIE ≡ true
supervisor_mask csrs Machine takes is = cc
supervisor_mask csrs Supervisor takes is = takes
supervisor_mask csrs User takes is = cc

supervisor_unmasked : (csrs : Csrs) (mode : Mode) → mode ≢ Machine
    → (mode ≡ Supervisor → bit_is_set (value_at csrs Mstatus) SIE ≡ true) → supervisor_takes csrs mode ≡ true
supervisor_unmasked csrs Machine below set = absurd (below refl)
supervisor_unmasked csrs Supervisor below set = set refl
supervisor_unmasked csrs User below set = refl

by_supervisor : (csrs : Csrs) (mode : Mode) (lines : ℕ)
    → Decides (is_for_supervisor csrs mode lines) (IsTakenBySupervisor csrs mode lines)
unfolding is_for_supervisor
by_supervisor csrs mode lines = record {
  sound = λ code is.
      let outer = both (supervisor_takes csrs mode && is_pending_and_enabled csrs lines code)
      (bit_is_set (value_at csrs Mideleg) code) is in
      let inner = both (supervisor_takes csrs mode) (is_pending_and_enabled csrs lines code) outer.0 in
      let set = both (bit_is_set (pending_interrupts_of csrs lines) code) (bit_is_set (value_at csrs Mie) code)
      inner.1 in
      record {
        pending = set.0;
        enabled = set.1;
        delegated = outer.1;
        below_machine = supervisor_below csrs mode
            inner.0;
        unmasked = supervisor_mask csrs mode inner.0;
      };
  complete = λ code is.
      let set = all_of (bit_is_set (pending_interrupts_of csrs lines) code) (bit_is_set (value_at csrs Mie) code)
      is.pending is.enabled in
      let inner = all_of (supervisor_takes csrs mode) (is_pending_and_enabled csrs lines code)
      (supervisor_unmasked csrs mode is.below_machine is.unmasked) set in
      all_of (supervisor_takes csrs mode && is_pending_and_enabled csrs lines code)
      (bit_is_set (value_at csrs Mideleg) code) inner is.delegated;
}

-- where a pick comes from
abbrev picked : Option ℕ → Option ℕ → Option (ℕ × Mode)
picked here there =
    option_or {T = ℕ × Mode} (option_map (λ c. (c, Machine)) here) (option_map (λ c. (c, Supervisor)) there)

parts : (one other : ℕ × Mode) → Some one ≡ Some other → (one.0 ≡ other.0) × (one.1 ≡ other.1)
parts one other h =
    let same : one ≡ other = cc in
    (ap (λ (t : ℕ × Mode). t.0) same, ap (λ (t : ℕ × Mode). t.1) same)

source : (here there : Option ℕ) (code : ℕ) (taker : Mode) → picked here there ≡ Some (code, taker)
    → ((here ≡ Some code) × (taker ≡ Machine)) ⊎ ((here ≡ None) × (there ≡ Some code) × (taker ≡ Supervisor))
source (Some c) there code taker is = let same = parts (c, Machine) (code, taker) is in inl (ap Some same.0, sym same.1)
source None (Some c) code taker is =
    let same = parts (c, Supervisor) (code, taker) is in inr (refl, ap Some same.0, sym same.1)
source None None code taker is = cc

no_source : (here there : Option ℕ) → picked here there ≡ None → (here ≡ None) × (there ≡ None)
no_source (Some c) there is = cc
no_source None (Some c) is = cc
no_source None None is = (refl, refl)

of_none : (here there : Option ℕ) → here ≡ None → there ≡ None → picked here there ≡ None
of_none (Some c) there no_here no_there = cc
of_none None (Some c) no_here no_there = cc
of_none None None no_here no_there = refl

pub picks_first : (csrs : Csrs) (mode : Mode) (lines : ℕ) → PicksFirst csrs mode lines
unfolding pick_of
picks_first csrs mode lines code taker is =
    let machine = is_for_machine csrs mode lines in
    let supervisor = is_for_supervisor csrs mode lines in
    elim (source (find machine standard_order) (find supervisor standard_order) code taker is) [
      | inl here ↦ subst (IsPicked csrs mode lines code) (sym here.1)
          (first_found machine (IsTakenByMachine csrs mode lines) standard_order code (by_machine csrs mode lines)
          here.0)
      | inr there ↦ subst (IsPicked csrs mode lines code) (sym there.2) (
        none_found machine (IsTakenByMachine csrs mode lines) standard_order (by_machine csrs mode lines) there.0,
        first_found supervisor (IsTakenBySupervisor csrs mode lines) standard_order code
            (by_supervisor csrs mode lines) there.1,
      )
    ]

pub picks_none_rightly : (csrs : Csrs) (mode : Mode) (lines : ℕ) → PicksNoneRightly csrs mode lines
unfolding pick_of
picks_none_rightly csrs mode lines =
    let machine = is_for_machine csrs mode lines in
    let supervisor = is_for_supervisor csrs mode lines in
    record {
      takes_none = λ is.
          let none = no_source (find machine standard_order) (find supervisor standard_order) is in
          record {
            by_machine = none_found machine (IsTakenByMachine csrs mode lines) standard_order
                (by_machine csrs mode lines) none.0;
            by_supervisor = none_found supervisor (IsTakenBySupervisor csrs mode lines) standard_order
                (by_supervisor csrs mode lines) none.1;
          };
      picks_none = λ none. of_none (find machine standard_order) (find supervisor standard_order)
          (finds_none machine (IsTakenByMachine csrs mode lines) standard_order (by_machine csrs mode lines)
          none.by_machine)
          (finds_none supervisor (IsTakenBySupervisor csrs mode lines) standard_order (by_supervisor csrs mode lines)
          none.by_supervisor);
    }
