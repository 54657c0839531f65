-- What a row does to the harts whose row it is not.
use Rattle.std.proofs.Common.{◌≡◌, ◌≢◌, ◌⊎◌, ℕ, Bool, true, false, Option, Some, None, List, [], ◌∷◌, refl, sym, ap}
use Rattle.std.proofs.Common.{◌∙◌, subst, inl, inr, if◌then◌else◌}
use Rattle.std.specs.List.{slice_get}
use Rattle.std.specs.Option.{option_map}
use Rattle.std.proofs.lemmas.Bool.{cases_Bool}
use Rattle.hart_words.specs.declared.accesses.Write.{Write}
use Rattle.hart_words.specs.Memory.{after_writes}
use Rattle.hart_words.specs.Actions.{Run}
use Rattle.hart_words.specs.Signals.{Shown}
use Rattle.rv_atomic.specs.declared.reservation.Block.{Block}
use Rattle.rv_atomic.specs.Blocks.{IsReserved, block_left, is_touched}
use Rattle.rvfi_rows.specs.Meanings.{Gave, lost_by}
use Rattle.rvfi_rows.specs.Rows.{hart_of}
use Rattle.hart_set.proofs.SetLaws.{absent_idle, steps_its_hart}
use Rattle.hart_step.specs.declared.state.Core.{Core}
use Rattle.hart_step.specs.HartSets.{SetState, set_after_row, set_step_of}
use Rattle.hart_step.specs.Meanings.{core_after_loss, core_meaning, is_written}
use Rattle.hart_step.proofs.Lost.{loses_by_bytes}
use Rattle.hart_laws.specs.Rows.{IsSameButReservation, block_in, reserved_by, writes_byte}

-- what the step of a row writes
abbrev pub writes_of_row : SetState → Shown → List Write
writes_of_row state shown = ((set_step_of state.core shown).run state.bytes).wrote

-- ---- a hart that is not there

pub absent_stays : (state : SetState) (shown : Shown) → slice_get state.core (hart_of shown) ≡ None
    → set_after_row state shown ≡ state
unfolding after_writes
absent_stays state shown absent =
    ap
    (λ (run : Run (Gave (List Core))).
    let after : SetState = record { core = run.value.next; bytes = after_writes run.wrote state.bytes } in after)
    (absent_idle core_meaning state.core shown (hart_of shown) state.bytes absent)

absent_writes : (state : SetState) (shown : Shown) → slice_get state.core (hart_of shown) ≡ None
    → writes_of_row state shown ≡ []
absent_writes state shown absent =
    ap (λ (run : Run (Gave (List Core))). run.wrote)
    (absent_idle core_meaning state.core shown (hart_of shown) state.bytes absent)

-- ---- another hart

none_lost : (core : Option Core) → option_map (lost_by core_meaning []) core ≡ core
unfolding lost_by
none_lost None = refl
none_lost (Some core) = refl

-- what a row leaves of another hart
pub other_after : (state : SetState) (shown : Shown) (other : ℕ) → other ≢ hart_of shown
    → slice_get (set_after_row state shown).core other
    ≡ option_map (lost_by core_meaning (writes_of_row state shown)) (slice_get state.core other)
other_after state shown other apart = by (slice_get state.core (hart_of shown)) refl
  where
    lost : List Write → Option Core
    lost writes = option_map (lost_by core_meaning writes) (slice_get state.core other)

    by : (found : Option Core) → slice_get state.core (hart_of shown) ≡ found
        → slice_get (set_after_row state shown).core other ≡ lost (writes_of_row state shown)
    by None absent =
        ap (λ (now : SetState). slice_get now.core other) (absent_stays state shown absent)
        ∙ sym (none_lost (slice_get state.core other)) ∙ ap lost (sym (absent_writes state shown absent))
    by (Some core) there =
        let steps = steps_its_hart core_meaning state.core shown (hart_of shown) core state.bytes there in
        steps.others other apart ∙ ap lost (sym steps.wrote)

same_but_lost : (core : Option Core) (writes : List Write)
    → IsSameButReservation core (option_map (lost_by core_meaning writes) core)
same_but_lost None writes = tt
same_but_lost (Some core) writes = (loses_by_bytes core writes).alone

pub others_keep : (state : SetState) (shown : Shown) (other : ℕ) → other ≢ hart_of shown
    → IsSameButReservation (slice_get state.core other) (slice_get (set_after_row state shown).core other)
others_keep state shown other apart =
    subst (IsSameButReservation (slice_get state.core other)) (sym (other_after state shown other apart))
    (same_but_lost (slice_get state.core other) (writes_of_row state shown))

-- ---- what is taken, and what is not

taken_from : (core : Option Core) (writes : List Write) (address : ℕ) → IsReserved (block_in core) address
    → is_written writes address ≡ true → block_in (option_map (lost_by core_meaning writes) core) ≡ None
taken_from None writes address reserved written = absurd reserved
taken_from (Some core) writes address reserved written = (loses_by_bytes core writes).lost address reserved written

pub others_taken : (state : SetState) (shown : Shown) (other address : ℕ) → other ≢ hart_of shown
    → IsReserved (reserved_by state other) address → writes_byte state shown address ≡ true
    → reserved_by (set_after_row state shown) other ≡ None
others_taken state shown other address apart reserved written =
    ap block_in (other_after state shown other apart)
    ∙ taken_from (slice_get state.core other) (writes_of_row state shown) address reserved written

kept_from : (core : Option Core) (writes : List Write)
    → ((address : ℕ) → IsReserved (block_in core) address → is_written writes address ≡ false)
    → option_map (lost_by core_meaning writes) core ≡ core
kept_from None writes apart = refl
kept_from (Some core) writes apart = ap (λ (k : Core). Some k) ((loses_by_bytes core writes).kept apart)

pub others_kept : (state : SetState) (shown : Shown) (other : ℕ) → other ≢ hart_of shown
    → ((address : ℕ) → IsReserved (reserved_by state other) address → writes_byte state shown address ≡ false)
    → slice_get (set_after_row state shown).core other ≡ slice_get state.core other
others_kept state shown other apart none =
    other_after state shown other apart ∙ kept_from (slice_get state.core other) (writes_of_row state shown) none

-- ---- back from what is reserved after a row to what was before it

touched_none : (core : Core) (pa len : ℕ) → is_touched core.reservation.block pa len ≡ true
    → (core_after_loss core pa len).reservation.block ≡ None
touched_none core pa len touched =
    ap (λ (b : Bool). if b then None else core.reservation.block) touched

same_block : (core : Core) (block : Option Block) → block ≡ core.reservation.block
    → record core { reservation = record { block = block } } ≡ core
same_block core block is = ap (λ (b : Option Block). record core { reservation = record { block = b } }) is

untouched_same : (core : Core) (pa len : ℕ) → is_touched core.reservation.block pa len ≡ false
    → core_after_loss core pa len ≡ core
untouched_same core pa len apart =
    same_block core (block_left core.reservation.block pa len)
    (ap (λ (b : Bool). if b then None else core.reservation.block) apart)

none_stays : (core : Core) (writes : List Write) → core.reservation.block ≡ None
    → (lost_by core_meaning writes core).reservation.block ≡ None
none_stays core writes none =
    let apart : (address : ℕ) → IsReserved core.reservation.block address → is_written writes address ≡ false =
    λ address reserved. absurd (subst (λ (b : Option Block). IsReserved b address) none reserved) in
    ap (λ (k : Core). k.reservation.block) ((loses_by_bytes core writes).kept apart) ∙ none

all_or_nothing : (core : Core) (writes : List Write)
    → ((lost_by core_meaning writes core).reservation.block ≡ None) ⊎ (lost_by core_meaning writes core ≡ core)
unfolding lost_by
all_or_nothing core [] = inr refl
all_or_nothing core (write ∷ writes) = elim (cases_Bool (is_touched core.reservation.block write.pa write.len)) [
  | inl touched ↦
      inl (none_stays (core_after_loss core write.pa write.len) writes (touched_none core write.pa write.len touched))
  | inr apart ↦
      let P : Core → Type 0 =
      λ k. ((lost_by core_meaning writes k).reservation.block ≡ None) ⊎ (lost_by core_meaning writes k ≡ core) in
      subst P (sym (untouched_same core write.pa write.len apart)) (all_or_nothing core writes)
]

-- a block that another hart's writes left
pub record WasLeft (core : Option Core) (writes : List Write) (block : Block) : Type 0 where
  pub before : block_in core ≡ Some block
  pub apart : (address : ℕ) → IsReserved (Some block) address → is_written writes address ≡ false

left_of : (core : Option Core) (writes : List Write) (block : Block)
    → block_in (option_map (lost_by core_meaning writes) core) ≡ Some block → WasLeft core writes block
left_of None writes block left = absurd (let none : ⊥ = cc in none)
left_of (Some core) writes block left = record { before = before; apart = apart }
  where
    before : core.reservation.block ≡ Some block
    before = elim (all_or_nothing core writes) [
      | inl none ↦ absurd (let no : ⊥ = cc in no)
      | inr same ↦ ap (λ (k : Core). k.reservation.block) (sym same) ∙ left
    ]

    apart : (address : ℕ) → IsReserved (Some block) address → is_written writes address ≡ false
    apart address reserved = elim (cases_Bool (is_written writes address)) [
      | inl written ↦
          let here = subst (λ (b : Option Block). IsReserved b address) (sym before) reserved in
          let none = (loses_by_bytes core writes).lost address here written in
          absurd (let no : ⊥ = cc in no)
      | inr not_written ↦ not_written
    ]

pub others_left : (state : SetState) (shown : Shown) (other : ℕ) (block : Block) → other ≢ hart_of shown
    → reserved_by (set_after_row state shown) other ≡ Some block
    → WasLeft (slice_get state.core other) (writes_of_row state shown) block
others_left state shown other block apart left =
    left_of (slice_get state.core other) (writes_of_row state shown) block
    (ap block_in (sym (other_after state shown other apart)) ∙ left)
