-- Values that are kept for signals, one after the other.
use Rattle.std.proofs.Common.{◌≡◌, ◌∙◌, sym, ap, refl, subst, ℕ, ◌+◌, ◌<◌, ◌≤◌, ◌==◌, ◌||◌, Bool, true, false, List, []}
use Rattle.std.proofs.Common.{map, zero, suc, ◌∷◌, length, drop, get_or, inl, inr, Option, Some, None, add-one, arith, lit<, length-set}
use Rattle.std.specs.Prelude.{if◌then◌else◌, slice_index, slice_set}
use Rattle.std.specs.Option.{option_or}
use Rattle.std.specs.Int.{bit_at}
use Rattle.std.proofs.Math.Path.{fun_ext}
use Rattle.std.proofs.lemmas.List.{get_or-set_same, get_or-set_other}
use Rattle.std.proofs.lemmas.Bool.{eqb-true}
use Rattle.std.proofs.lemmas.Bool.Decides.{eqb_tells}
use Rattle.std.proofs.Math.ListN.{drop_of_length-le}
use Rattle.std.proofs.Math.Seq.{drop-cons}
use Rattle.hart_words.specs.declared.signal.Signal.{Signal}
use Rattle.hart_words.specs.declared.signal.Signal.TheVariants.{Valid, Order, Intr, PcRdata, Mode, Ixl, Trap, Insn}
use Rattle.hart_words.specs.declared.signal.Signal.TheVariants.{Rs1Addr, Rs1Rdata, Rs2Addr, Rs2Rdata, RdAddr, RdWdata}
use Rattle.hart_words.specs.declared.signal.Signal.TheVariants.{PcWdata, MemAddr, MemRmask, MemRdata, MemWmask}
use Rattle.hart_words.specs.declared.signal.Signal.TheVariants.{MemWdata, MemPaddr, Halt, Hart, Csr}
use Rattle.hart_words.specs.declared.signal.CsrName.{CsrName}
use Rattle.hart_words.specs.declared.signal.CsrName.TheVariants.{Mstatus, Misa, Medeleg, Mideleg, Mie, Mtvec, Mscratch}
use Rattle.hart_words.specs.declared.signal.CsrName.TheVariants.{Mepc, Mcause, Mtval, Mip, Satp, Sstatus, Sie, Sip}
use Rattle.hart_words.specs.declared.signal.CsrName.TheVariants.{Stvec, Sscratch, Sepc, Scause, Stval, Pmpcfg0, Pmpcfg2}
use Rattle.hart_words.specs.declared.signal.CsrSide.{CsrSide}
use Rattle.hart_words.specs.declared.signal.CsrSide.TheVariants.{Rmask, Wmask, Rdata, Wdata}
use Rattle.hart_words.specs.Signals.{csr_index_of, side_index_of, index_of}
use Rattle.rvfi_rows.specs.declared.row.Row.{Row}
use Rattle.rvfi_rows.specs.Cells.{AreOf, is_among, shown_in, values_at, values_of, with_bits}
use Rattle.rvfi_rows.specs.Rows.{alone}
use Rattle.rvfi_rows.proofs.ShownBits.{cell_in}

-- ---- every index is below 111

side_below : (side : CsrSide) → side_index_of side < 4
side_below Rmask = lit< tt
side_below Wmask = lit< tt
side_below Rdata = lit< tt
side_below Wdata = lit< tt

csr_below : (csr : CsrName) → csr_index_of csr < 22
csr_below Mstatus = lit< tt
csr_below Misa = lit< tt
csr_below Medeleg = lit< tt
csr_below Mideleg = lit< tt
csr_below Mie = lit< tt
csr_below Mtvec = lit< tt
csr_below Mscratch = lit< tt
csr_below Mepc = lit< tt
csr_below Mcause = lit< tt
csr_below Mtval = lit< tt
csr_below Mip = lit< tt
csr_below Satp = lit< tt
csr_below Sstatus = lit< tt
csr_below Sie = lit< tt
csr_below Sip = lit< tt
csr_below Stvec = lit< tt
csr_below Sscratch = lit< tt
csr_below Sepc = lit< tt
csr_below Scause = lit< tt
csr_below Stval = lit< tt
csr_below Pmpcfg0 = lit< tt
csr_below Pmpcfg2 = lit< tt

pub index_below : (signal : Signal) → index_of signal < 111
index_below Valid = lit< tt
index_below Order = lit< tt
index_below Intr = lit< tt
index_below PcRdata = lit< tt
index_below Mode = lit< tt
index_below Ixl = lit< tt
index_below Trap = lit< tt
index_below Insn = lit< tt
index_below Rs1Addr = lit< tt
index_below Rs1Rdata = lit< tt
index_below Rs2Addr = lit< tt
index_below Rs2Rdata = lit< tt
index_below RdAddr = lit< tt
index_below RdWdata = lit< tt
index_below PcWdata = lit< tt
index_below MemAddr = lit< tt
index_below MemRmask = lit< tt
index_below MemRdata = lit< tt
index_below MemWmask = lit< tt
index_below MemWdata = lit< tt
index_below MemPaddr = lit< tt
index_below Halt = lit< tt
index_below Hart = lit< tt
index_below (Csr csr side) = omega (arith, csr_below csr, side_below side)

-- ---- values that are put at the signals' indices

-- the list with each value put at its signal's index
pub placed : List Signal → List ℕ → List ℕ → List ℕ
placed [] values list = list
placed (signal ∷ signals) [] list = list
placed (signal ∷ signals) (value ∷ values) list = placed signals values (slice_set list (index_of signal) value)

drop_at : {A : Type 0} (xs : List A) (i : ℕ) (d : A) → i < length xs → drop i xs ≡ get_or xs i d ∷ drop (i + 1) xs
drop_at xs i d within = rw add-one (drop-cons xs i d within)

-- the same with a value put at each of these indices
pub put_at : List ℕ → List ℕ → List ℕ → List ℕ
put_at [] values list = list
put_at (place ∷ places) [] list = list
put_at (place ∷ places) (value ∷ values) list = put_at places values (slice_set list place value)

pub put-next : (places values list : List ℕ) (i : ℕ) {index : ℕ} → i < length places → i < length values
    → index ≡ get_or places i 0
    → put_at (drop (i + 1) places) (drop (i + 1) values) (slice_set list index (get_or values i 0))
    ≡ put_at (drop i places) (drop i values) list
unfolding put_at
put-next places values list i some many is =
    rw (drop_at places i 0 some, drop_at values i 0 many)
    (ap (λ n. put_at (drop (i + 1) places) (drop (i + 1) values) (slice_set list n (get_or values i 0))) is)

pub put-end : (places values list whole : List ℕ) (i : ℕ) → length places ≤ i
    → put_at (drop i places) (drop i values) list ≡ whole → list ≡ whole
unfolding put_at
put-end places values list whole i past so_far = rw (drop_of_length-le places past) at so_far

pub put_placed : (signals : List Signal) (values list : List ℕ)
    → put_at (map index_of signals) values list ≡ placed signals values list
unfolding put_at placed
put_placed [] values list = refl
put_placed (signal ∷ signals) [] list = refl
put_placed (signal ∷ signals) (value ∷ values) list =
    put_placed signals values (slice_set list (index_of signal) value)

-- signals' indices are below 111
pub places_below : (places : List ℕ) (signals : List Signal) → places ≡ map index_of signals → (i : ℕ)
    → slice_index places i < 111
places_below places signals is i = subst (λ (list : List ℕ). slice_index list i < 111) (sym is) (all signals i)
  where
    all : (signals : List Signal) (i : ℕ) → slice_index (map index_of signals) i < 111
    all [] i = lit< tt
    all (signal ∷ signals) zero = index_below signal
    all (signal ∷ signals) (suc i) = all signals i

-- and the values at them are the signals'
pub values_there : (places values : List ℕ) (signals : List Signal) → places ≡ map index_of signals
    → map (λ place. slice_index values place) places ≡ values_at values signals
values_there places values signals is = ap (map (λ place. slice_index values place)) is ∙ all signals
  where
    all : (signals : List Signal) → map (λ place. slice_index values place) (map index_of signals) ≡ values_at values signals
    all [] = refl
    all (signal ∷ signals) = ap (λ rest. slice_index values (index_of signal) ∷ rest) (all signals)

-- ---- what they show

-- the value that is put there, or else the one before
assoc : (a b c : Option ℕ) → option_or a (option_or b c) ≡ option_or (option_or a b) c
assoc None b c = refl
assoc (Some x) b c = refl

set_then : (list : List ℕ) (index value other : ℕ) → index < length list
    → Some (slice_index (slice_set list index value) other)
    ≡ option_or (if other == index then Some value else None) (Some (slice_index list other))
set_then list index value other within = elim (eqb_tells other index) [
  | inl same ↦
      rw same.0 (ap Some (let P : ℕ → Type 0 = λ i. slice_index (slice_set list index value) i ≡ value in
      subst P (sym same.1) (get_or-set_same list index value 0 within)))
  | inr differs ↦ rw differs.0 (ap Some (get_or-set_other list index other value 0 differs.1))
]

pub placed_at : (signals : List Signal) (values list : List ℕ) (signal : Signal) → length list ≡ 256
    → Some (slice_index (placed signals values list) (index_of signal))
    ≡ option_or (values_of signals values signal) (Some (slice_index list (index_of signal)))
unfolding placed values_of
placed_at [] values list signal full = refl
placed_at (first ∷ signals) [] list signal full = refl
placed_at (first ∷ signals) (value ∷ values) list signal full =
    let below : index_of first < length list = omega (arith, index_below first, full) in
    placed_at signals values (slice_set list (index_of first) value) signal (length-set _ _ _ ∙ full)
    ∙ ap (option_or (values_of signals values signal)) (set_then list (index_of first) value (index_of signal) below)
    ∙ assoc (values_of signals values signal) (alone first (Some value) signal)
    (Some (slice_index list (index_of signal)))

-- a signal among them has one of these values
among_has : (signals : List Signal) (values : List ℕ) (signal : Signal) (other : ℕ) → length values ≡ length signals
    → is_among signals signal ≡ true
    → option_or (values_of signals values signal) (Some other) ≡ values_of signals values signal
unfolding values_of
among_has [] values signal other as_many among = absurd cc
among_has (first ∷ signals) [] signal other as_many among = absurd (omega (arith, as_many))
among_has (first ∷ signals) (value ∷ values) signal other as_many among =
    by (index_of signal == index_of first) (values_of signals values signal) among
    (among_has signals values signal other (omega (arith, as_many)))
  where
    by : (test : Bool) (rest : Option ℕ) → (test || is_among signals signal) ≡ true
        → (is_among signals signal ≡ true → option_or rest (Some other) ≡ rest)
        → option_or (option_or rest (if test then Some value else None)) (Some other)
        ≡ option_or rest (if test then Some value else None)
    by true None among more = refl
    by true (Some x) among more = refl
    by false None among more = more among
    by false (Some x) among more = refl

-- the row has the values that are put, under these bits
pub shows_taken : (row now : Row) {signals : List Signal} (values : List ℕ) {bits : ℕ} → AreOf signals bits
    → length values ≡ length signals → now.shown ≡ bits → now.values ≡ placed signals values row.values
    → shown_in now ≡ with_bits bits (values_of signals values)
unfolding shown_in with_bits
shows_taken row now {signals} values {bits} are as_many shown taken =
    fun_ext (λ (signal : Signal).
    ap (λ n. cell_in (bit_at n (index_of signal)) (slice_index now.values (index_of signal))) shown
    ∙ ap (λ (list : List ℕ). cell_in (bit_at bits (index_of signal)) (slice_index list (index_of signal))) taken
    ∙ by signal (bit_at bits (index_of signal) == 1) refl)
  where
    by : (signal : Signal) (test : Bool) → (bit_at bits (index_of signal) == 1) ≡ test
        → (if test then Some (slice_index (placed signals values row.values) (index_of signal)) else None)
        ≡ (if test then values_of signals values signal else None)
    by signal true is =
        placed_at signals values row.values signal row.full
        ∙ among_has signals values signal (slice_index row.values (index_of signal)) as_many
        (are.theirs signal (eqb-true _ _ is))
    by signal false is = refl

-- ---- values that are kept

-- the values at the signals' indices are theirs
kept_at : (signals : List Signal) (list : List ℕ) (signal : Signal)
    → values_of signals (values_at list signals) signal
    ≡ (if is_among signals signal then Some (slice_index list (index_of signal)) else None)
unfolding values_of
kept_at [] list signal = refl
kept_at (first ∷ signals) list signal =
    ap (λ later. option_or later (alone first (Some (slice_index list (index_of first))) signal))
    (kept_at signals list signal)
    ∙ by (index_of signal == index_of first) refl (is_among signals signal)
  where
    by : (test : Bool) → (index_of signal == index_of first) ≡ test → (more : Bool)
        → option_or (if more then Some (slice_index list (index_of signal)) else None)
        (if test then Some (slice_index list (index_of first)) else None)
        ≡ (if test || more then Some (slice_index list (index_of signal)) else None)
    by true is true = refl
    by true is false = ap (λ i. Some (slice_index list i)) (sym (eqb-true _ _ is))
    by false is true = refl
    by false is false = refl

-- so a row that shows none but these signals is what its values at them show
pub shows_kept : (row : Row) (signals : List Signal) → AreOf signals row.shown
    → with_bits row.shown (values_of signals (values_at row.values signals)) ≡ shown_in row
unfolding shown_in with_bits
shows_kept row signals are = fun_ext (λ (signal : Signal). by signal (bit_at row.shown (index_of signal) == 1) refl)
  where
    by : (signal : Signal) (test : Bool) → (bit_at row.shown (index_of signal) == 1) ≡ test
        → (if test then values_of signals (values_at row.values signals) signal else None)
        ≡ (if test then Some (slice_index row.values (index_of signal)) else None)
    by signal true is =
        kept_at signals row.values signal
        ∙ ap (λ b. if b then Some (slice_index row.values (index_of signal)) else None)
        (are.theirs signal (eqb-true _ _ is))
    by signal false is = refl
