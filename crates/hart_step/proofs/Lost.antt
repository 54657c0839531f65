-- What a hart loses by the writes of other harts.
use Rattle.std.proofs.Common.{◌≡◌, ℕ, ◌+◌, ◌<◌, ◌≤◌, Bool, true, false, ◌||◌, Option, Some, None, List, [], ◌∷◌, refl}
use Rattle.std.proofs.Common.{sym, ap, ◌∙◌, subst, max, arith, inl, inr, if◌then◌else◌}
use Rattle.std.proofs.lemmas.Bool.{cases_Bool}
use Rattle.std.proofs.lemmas.Bool.Decides.{nat_tests}
use Rattle.hart_words.specs.declared.accesses.Write.{Write}
use Rattle.hart_words.specs.Memory.{is_within}
use Rattle.rv_atomic.specs.declared.reservation.Block.{Block}
use Rattle.rv_atomic.specs.Blocks.{block_left, is_touched, IsReserved}
use Rattle.rvfi_rows.specs.Meanings.{lost_by}
use Rattle.hart_step.specs.declared.state.Core.{Core}
use Rattle.hart_step.specs.Meanings.{core_after_loss, core_meaning, is_written, LosesByBytes}

-- ---- one write

pub touched_at : (block : Option Block) (pa len address : ℕ) → IsReserved block address
    → is_within pa len address ≡ true → is_touched block pa len ≡ true
touched_at None pa len address reserved within = absurd reserved
touched_at (Some block) pa len address reserved within =
    let low = reserved.0 in
    let high = reserved.1 in
    grind (arith, nat_tests)

pub untouched : (block : Option Block) (pa len : ℕ)
    → ((address : ℕ) → IsReserved block address → is_within pa len address ≡ false) → is_touched block pa len ≡ false
untouched None pa len apart = refl
untouched (Some block) pa len apart = elim (cases_Bool (is_touched (Some block) pa len)) [
  | inl touched ↦
      let first = max pa block.address in
      let low : block.address ≤ first = grind (arith, nat_tests) in
      let high : first < block.address + block.size = grind (arith, nat_tests) in
      let within : is_within pa len first ≡ true = grind (arith, nat_tests) in
      let without : is_within pa len first ≡ false = apart first (low, high) in
      absurd cc
  | inr none ↦ none
]

same_reservation : (core : Core) (block : Option Block) → block ≡ core.reservation.block
    → record core { reservation = record { block = block } } ≡ core
same_reservation core block is = ap (λ (b : Option Block). record core { reservation = record { block = b } }) is

loses : (core : Core) (pa len : ℕ) → is_touched core.reservation.block pa len ≡ true
    → (core_after_loss core pa len).reservation.block ≡ None
loses core pa len touched = ap (λ b. if b then None else core.reservation.block) touched

stays : (core : Core) (pa len : ℕ) → is_touched core.reservation.block pa len ≡ false
    → core_after_loss core pa len ≡ core
stays core pa len untouched =
    same_reservation core (block_left core.reservation.block pa len)
    (ap (λ b. if b then None else core.reservation.block) untouched)

-- ---- several writes

nothing_left : (core : Core) (writes : List Write) → core.reservation.block ≡ None
    → (lost_by core_meaning writes core).reservation.block ≡ None
unfolding lost_by
nothing_left core [] none = none
nothing_left core (write ∷ writes) none =
    nothing_left (core_after_loss core write.pa write.len) writes
    (ap (λ b. block_left b write.pa write.len) none)

lost_at : (core : Core) (writes : List Write) (address : ℕ) → IsReserved core.reservation.block address
    → is_written writes address ≡ true → (lost_by core_meaning writes core).reservation.block ≡ None
unfolding lost_by
lost_at core [] address reserved written = cc
lost_at core (write ∷ writes) address reserved written =
    let next = core_after_loss core write.pa write.len in
    elim (cases_Bool (is_touched core.reservation.block write.pa write.len)) [
      | inl touched ↦ nothing_left next writes (loses core write.pa write.len touched)
      | inr apart ↦
          let later : is_written writes address ≡ true = elim (cases_Bool (is_within write.pa write.len address)) [
            | inl within ↦
                let touched = touched_at core.reservation.block write.pa write.len address reserved within in absurd cc
            | inr without ↦ ap (λ b. b || is_written writes address) (sym without) ∙ written
          ] in
          let P : Core → Type 0 = λ k. (lost_by core_meaning writes k).reservation.block ≡ None in
          subst P (sym (stays core write.pa write.len apart)) (lost_at core writes address reserved later)
    ]

pub left_false : (one other : Bool) → (one || other) ≡ false → one ≡ false
left_false true other is = absurd cc
left_false false other is = refl

pub right_false : (one other : Bool) → (one || other) ≡ false → other ≡ false
right_false true other is = absurd cc
right_false false other is = is

kept_at : (core : Core) (writes : List Write)
    → ((address : ℕ) → IsReserved core.reservation.block address → is_written writes address ≡ false)
    → lost_by core_meaning writes core ≡ core
unfolding lost_by
kept_at core [] apart = refl
kept_at core (write ∷ writes) apart =
    let first : (address : ℕ) → IsReserved core.reservation.block address
    → is_within write.pa write.len address ≡ false =
    λ address reserved. left_false (is_within write.pa write.len address) (is_written writes address)
    (apart address reserved) in
    let later : (address : ℕ) → IsReserved core.reservation.block address → is_written writes address ≡ false =
    λ address reserved. right_false (is_within write.pa write.len address) (is_written writes address)
    (apart address reserved) in
    let same = stays core write.pa write.len (untouched core.reservation.block write.pa write.len first) in
    ap (lost_by core_meaning writes) same ∙ kept_at core writes later

alone_at : (core : Core) (writes : List Write)
    → lost_by core_meaning writes core ≡ record core { reservation = (lost_by core_meaning writes core).reservation }
unfolding lost_by
alone_at core [] = refl
alone_at core (write ∷ writes) = alone_at (core_after_loss core write.pa write.len) writes

pub loses_by_bytes : (core : Core) (writes : List Write) → LosesByBytes core writes
loses_by_bytes core writes =
    record { lost = lost_at core writes; kept = kept_at core writes; alone = alone_at core writes }
