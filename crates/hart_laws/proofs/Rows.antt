-- What is reserved after rows was reserved among them, by an LR.
use Rattle.std.proofs.Common.{◌≡◌, ◌≢◌, ◌⊎◌, ℕ, true, false, Option, Some, None, List, [], ◌∷◌, ◌++◌, refl, sym, ap}
use Rattle.std.proofs.Common.{◌∙◌, subst, inl, inr, All}
use Rattle.std.specs.Prelude.{IfSome}
use Rattle.std.specs.List.{slice_get}
use Rattle.std.proofs.lemmas.Bool.{cases_Bool, cases_eq}
use Rattle.std.proofs.lemmas.List.Elements.{All-cons, All-head, All-nil, All-tail}
use Rattle.hart_words.specs.declared.accesses.Write.{Write}
use Rattle.hart_words.specs.Signals.{Shown}
use Rattle.rv_atomic.specs.declared.reservation.Block.{Block}
use Rattle.rv_atomic.specs.Blocks.{IsReserved, is_covered}
use Rattle.rvfi_rows.specs.Rows.{hart_of}
use Rattle.hart_set.proofs.SetLaws.{steps_its_hart}
use Rattle.hart_step.specs.declared.state.Core.{Core}
use Rattle.hart_step.specs.HartSets.{SetState, set_after_row}
use Rattle.hart_step.specs.Meanings.{core_meaning}
use Rattle.hart_step.specs.Steps.{before_instruction}
use Rattle.hart_step.specs.Laws.{InReservedBlock, next_of}
use Rattle.hart_step.proofs.Reserved.{stores_in_block}
use Rattle.hart_laws.specs.Rows.{after_set_rows, block_in, reserved_by, writes_byte}
use Rattle.hart_laws.specs.Reservations.{AllLeaveReserved, IsInBlockReservedBy, LeavesReserved}
use Rattle.hart_laws.specs.Reservations.{NeitherReservesNorReleases, ReservesBlock, ReservesByLr, StoresAfterReserving}
use Rattle.hart_laws.specs.Reservations.{WasReservedBy, asks_for, does, is_lr, is_sc, request_of_row}
use Rattle.hart_laws.proofs.Others.{absent_stays, others_kept, others_left}
use Rattle.hart_laws.proofs.Own.{does_lr, own_after, own_kept, own_released, own_reserved, same_reserved, sc_asked}

-- a block was reserved before a row, which left it
record WasThere (state : SetState) (shown : Shown) (number : ℕ) (block : Block) : Type 0 where
  pub before : reserved_by state number ≡ Some block
  pub left : LeavesReserved state shown number block

-- ---- another hart's row

other_row : (state : SetState) (shown : Shown) (number : ℕ) (block : Block) → number ≢ hart_of shown
    → reserved_by (set_after_row state shown) number ≡ Some block → WasThere state shown number block
other_row state shown number block apart reserved =
    let was = others_left state shown number block apart reserved in
    record {
      before = was.before;
      left = record { others = λ differs. was.apart; own = λ same. absurd (apart (sym same)) };
    }

-- ---- the hart's own row

own_row : (state : SetState) (shown : Shown) (block : Block)
    → reserved_by (set_after_row state shown) (hart_of shown) ≡ Some block
    → ReservesBlock state shown (hart_of shown) block ⊎ WasThere state shown (hart_of shown) block
own_row state shown block reserved = by (slice_get state.core (hart_of shown)) refl
  where
    by_core : (core : Core) → slice_get state.core (hart_of shown) ≡ Some core
        → ReservesBlock state shown (hart_of shown) block ⊎ WasThere state shown (hart_of shown) block
    by_core core there =
        let after : (next_of core shown state.bytes).reservation.block ≡ Some block =
        ap block_in (sym (own_after state shown core there)) ∙ reserved in
        elim (cases_Bool (does is_lr core shown state.bytes)) [
          | inl lr ↦ inl (record {
            own = refl;
            core = core;
            there = there;
            reserves = subst (ReservesByLr core shown state.bytes) after (own_reserved core shown state.bytes lr);
          })
          | inr no_lr ↦ elim (cases_Bool (does is_sc core shown state.bytes)) [
            | inl sc ↦
                let none = own_released core shown state.bytes sc in
                absurd (let no : ⊥ = cc in no)
            | inr no_sc ↦
                let kept = own_kept core shown state.bytes no_lr no_sc in
                let Neither : Option Core → Type 0 =
                λ found. IfSome found (NeitherReservesNorReleases shown state.bytes) in
                let neither : Neither (Some core) = record { no_lr = no_lr; no_sc = no_sc } in
                inr (record {
                  before = ap block_in there ∙ sym (ap (λ r. r.block) kept) ∙ after;
                  left = record {
                    others = λ differs. absurd (differs refl);
                    own = λ same. subst Neither (sym there) neither;
                  };
                })
          ]
        ]

    by : (found : Option Core) → slice_get state.core (hart_of shown) ≡ found
        → ReservesBlock state shown (hart_of shown) block ⊎ WasThere state shown (hart_of shown) block
    by None absent =
        let none : reserved_by (set_after_row state shown) (hart_of shown) ≡ None =
        ap (λ (now : SetState). reserved_by now (hart_of shown)) (absent_stays state shown absent)
        ∙ ap block_in absent in
        absurd (let no : ⊥ = cc in no)
    by (Some core) there = by_core core there

-- ---- any row

one_row : (state : SetState) (shown : Shown) (number : ℕ) (block : Block)
    → reserved_by (set_after_row state shown) number ≡ Some block
    → ReservesBlock state shown number block ⊎ WasThere state shown number block
one_row state shown number block reserved = elim (cases_eq number (hart_of shown)) [
  | inl same ↦
      let P : ℕ → Type 0 =
      λ n. reserved_by (set_after_row state shown) n ≡ Some block
      → ReservesBlock state shown n block ⊎ WasThere state shown n block in
      subst P (sym same) (own_row state shown block) reserved
  | inr apart ↦ inr (other_row state shown number block apart reserved)
]

-- ---- rows

-- the block was reserved before all of them, and each left it
record WasThereBefore (state : SetState) (rows : List Shown) (number : ℕ) (block : Block) : Type 0 where
  pub before : reserved_by state number ≡ Some block
  pub left : AllLeaveReserved state rows number block

later : (state : SetState) (shown : Shown) (rows : List Shown) (number : ℕ) (block : Block)
    → WasReservedBy (set_after_row state shown) rows number block → WasReservedBy state (shown ∷ rows) number block
unfolding after_set_rows
later state shown rows number block was = record {
  before = shown ∷ was.before;
  row = was.row;
  since = was.since;
  order = ap (λ (r : List Shown). shown ∷ r) was.order;
  reserved = was.reserved;
  left = was.left;
}

here : (state : SetState) (shown : Shown) (rows : List Shown) (number : ℕ) (block : Block)
    → ReservesBlock state shown number block → AllLeaveReserved (set_after_row state shown) rows number block
    → WasReservedBy state (shown ∷ rows) number block
unfolding after_set_rows
here state shown rows number block reserves left =
    record { before = []; row = shown; since = rows; order = refl; reserved = reserves; left = left }

among_rows : (state : SetState) (rows : List Shown) (number : ℕ) (block : Block)
    → reserved_by (after_set_rows state rows) number ≡ Some block
    → WasReservedBy state rows number block ⊎ WasThereBefore state rows number block
unfolding after_set_rows AllLeaveReserved
among_rows state [] number block reserved = inr (record { before = reserved; left = tt })
among_rows state (shown ∷ rows) number block reserved =
    elim (among_rows (set_after_row state shown) rows number block reserved) [
      | inl was ↦ inl (later state shown rows number block was)
      | inr there ↦ elim (one_row state shown number block there.before) [
        | inl reserves ↦ inl (here state shown rows number block reserves there.left)
        | inr stayed ↦ inr (record { before = stayed.before; left = (stayed.left, there.left) })
      ]
    ]

pub was_reserved : (state : SetState) (rows : List Shown) (number : ℕ) (block : Block)
    → reserved_by state number ≡ None → reserved_by (after_set_rows state rows) number ≡ Some block
    → WasReservedBy state rows number block
was_reserved state rows number block none reserved = elim (among_rows state rows number block reserved) [
  | inl was ↦ was
  | inr there ↦ absurd (let at = there.before in let no : ⊥ = cc in no)
]

-- ---- and it is reserved still

left_by_other : (state : SetState) (shown : Shown) (number : ℕ) (block : Block) → number ≢ hart_of shown
    → reserved_by state number ≡ Some block → LeavesReserved state shown number block
    → reserved_by (set_after_row state shown) number ≡ Some block
left_by_other state shown number block apart reserved left =
    let none : (address : ℕ) → IsReserved (reserved_by state number) address
    → writes_byte state shown address ≡ false =
    λ address inside. left.others apart address (subst (λ (b : Option Block). IsReserved b address) reserved inside) in
    ap block_in (others_kept state shown number apart none) ∙ reserved

left_by_own : (state : SetState) (shown : Shown) (block : Block)
    → reserved_by state (hart_of shown) ≡ Some block → LeavesReserved state shown (hart_of shown) block
    → reserved_by (set_after_row state shown) (hart_of shown) ≡ Some block
left_by_own state shown block reserved left = by (slice_get state.core (hart_of shown)) refl
  where
    by : (found : Option Core) → slice_get state.core (hart_of shown) ≡ found
        → reserved_by (set_after_row state shown) (hart_of shown) ≡ Some block
    by None absent =
        let none : reserved_by state (hart_of shown) ≡ None = ap block_in absent in
        absurd (let no : ⊥ = cc in no)
    by (Some core) there =
        let neither =
        subst (λ (found : Option Core). IfSome found (NeitherReservesNorReleases shown state.bytes)) there
        (left.own refl) in
        ap block_in (own_after state shown core there)
        ∙ ap (λ r. r.block) (own_kept core shown state.bytes neither.no_lr neither.no_sc)
        ∙ ap block_in (sym there) ∙ reserved

left_by_row : (state : SetState) (shown : Shown) (number : ℕ) (block : Block)
    → reserved_by state number ≡ Some block → LeavesReserved state shown number block
    → reserved_by (set_after_row state shown) number ≡ Some block
left_by_row state shown number block reserved left = elim (cases_eq number (hart_of shown)) [
  | inl same ↦
      let P : ℕ → Type 0 =
      λ n. reserved_by state n ≡ Some block → LeavesReserved state shown n block
      → reserved_by (set_after_row state shown) n ≡ Some block in
      subst P (sym same) (left_by_own state shown block) reserved left
  | inr apart ↦ left_by_other state shown number block apart reserved left
]

left_by_all : (state : SetState) (rows : List Shown) (number : ℕ) (block : Block)
    → reserved_by state number ≡ Some block → AllLeaveReserved state rows number block
    → reserved_by (after_set_rows state rows) number ≡ Some block
unfolding after_set_rows AllLeaveReserved
left_by_all state [] number block reserved left = reserved
left_by_all state (shown ∷ rows) number block reserved left =
    left_by_all (set_after_row state shown) rows number block (left_by_row state shown number block reserved left.0)
    left.1

in_parts : (state : SetState) (before : List Shown) (row : Shown) (since : List Shown)
    → after_set_rows state (before ++ row ∷ since)
    ≡ after_set_rows (set_after_row (after_set_rows state before) row) since
unfolding after_set_rows
in_parts state [] row since = refl
in_parts state (shown ∷ before) row since = in_parts (set_after_row state shown) before row since

reserved_by_row : (state : SetState) (shown : Shown) (number : ℕ) (block : Block)
    → ReservesBlock state shown number block → reserved_by (set_after_row state shown) number ≡ Some block
reserved_by_row state shown number block reserves =
    let core = reserves.core in
    let there : slice_get state.core (hart_of shown) ≡ Some core =
    ap (slice_get state.core) reserves.own ∙ reserves.there in
    ap (reserved_by (set_after_row state shown)) (sym reserves.own)
    ∙ ap block_in (own_after state shown core there)
    ∙ same_reserved core shown state.bytes (next_of core shown state.bytes).reservation.block (Some block)
    (own_reserved core shown state.bytes (does_lr core shown state.bytes (Some block) reserves.reserves))
    reserves.reserves

pub is_reserved_still : (state : SetState) (rows : List Shown) (number : ℕ) (block : Block)
    → WasReservedBy state rows number block → reserved_by (after_set_rows state rows) number ≡ Some block
is_reserved_still state rows number block was =
    let now = set_after_row (after_set_rows state was.before) was.row in
    ap (λ (r : List Shown). reserved_by (after_set_rows state r) number) was.order
    ∙ ap (λ (after : SetState). reserved_by after number) (in_parts state was.before was.row was.since)
    ∙ left_by_all now was.since number block
    (reserved_by_row (after_set_rows state was.before) was.row number block was.reserved) was.left

-- ---- what an SC stores after them

covered_by : (state : SetState) (rows : List Shown) (number : ℕ) (block : Option Block) (write : Write)
    → reserved_by state number ≡ None → reserved_by (after_set_rows state rows) number ≡ block
    → is_covered block write.pa write.len ≡ true → IsInBlockReservedBy state rows number write
covered_by state rows number None write none reserved covered = absurd (let no : ⊥ = cc in no)
covered_by state rows number (Some block) write none reserved covered =
    record { block = block; reserved = was_reserved state rows number block none reserved; covered = covered }

all_covered : (state : SetState) (rows : List Shown) (number : ℕ) (core : Core) (stored : List Write)
    → reserved_by state number ≡ None → slice_get (after_set_rows state rows).core number ≡ Some core
    → InReservedBlock core stored → All (IsInBlockReservedBy state rows number) stored
all_covered state rows number core [] none there inside = All-nil (IsInBlockReservedBy state rows number)
all_covered state rows number core (write ∷ stored) none there inside =
    let Covered : Write → Type 0 = λ w. is_covered core.reservation.block w.pa w.len ≡ true in
    All-cons (IsInBlockReservedBy state rows number) write stored
    (covered_by state rows number core.reservation.block write none (ap block_in there)
    (All-head Covered write stored inside))
    (all_covered state rows number core stored none there (All-tail Covered write stored inside))

pub stores_after : (state : SetState) (rows : List Shown) (core : Core) (shown : Shown)
    → reserved_by state (hart_of shown) ≡ None
    → slice_get (after_set_rows state rows).core (hart_of shown) ≡ Some core
    → asks_for is_sc (request_of_row core shown (after_set_rows state rows).bytes) ≡ true
    → StoresAfterReserving state rows core shown
stores_after state rows core shown none there is =
    let now = after_set_rows state rows in
    let begins = before_instruction core shown in
    let sc = sc_asked core shown now.bytes is in
    let stores = stores_in_block core shown now.bytes sc.request sc.value sc.asked sc.sc in
    let wrote = (steps_its_hart core_meaning now.core shown (hart_of shown) core now.bytes there).wrote in
    record {
      sets = stores.sets;
      stored = stores.stored;
      order = wrote ∙ stores.order;
      entries = stores.entries;
      stores = all_covered state rows (hart_of shown) core stores.stored none there stores.stores;
    }
