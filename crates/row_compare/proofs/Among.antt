-- Going over the entries of the table of signals, one after the other.
use Rattle.std.proofs.Common.{◌≡◌, ◌≢◌, ◌∙◌, ◌⊎◌, inl, inr, sym, ap, refl, subst, ℕ, zero, suc, ◌+◌, ◌<◌, ◌≤◌, ◌==◌}
use Rattle.std.proofs.Common.{Bool, true, false, ◌&&◌, bit_and, List, [], ◌∷◌, ◌++◌, length, take, drop, get_or}
use Rattle.std.proofs.Common.{slice_get, Option, Some, None, add-one}
use Rattle.std.specs.Prelude.{if◌then◌else◌, ◌||◌, option_map}
use Rattle.std.specs.List.{list_all, list_any}
use Rattle.std.specs.Option.{is_none, is_some, option_or}
use Rattle.std.proofs.lemmas.Bool.Decides.{eqb_tells}
use Rattle.std.proofs.Math.Seq.{drop-cons}
use Rattle.std.proofs.Math.ListN.{drop_of_length-le}
use Rattle.hart_words.specs.declared.signal.Signal.{Signal}
use Rattle.hart_words.specs.declared.signal.Signal.TheVariants.{Halt, Hart, Valid}
use Rattle.hart_words.specs.declared.signal.SignalEntry.{SignalEntry}
use Rattle.hart_words.specs.declared.signal.Difference.{Difference}
use Rattle.hart_words.specs.declared.signal.TheConstants.{SIGNALS}
use Rattle.hart_words.specs.Signals.{Shown, index_of, signal_entry_of}
use Rattle.hart_words.proofs.SignalTable.{stands_at_its_index}
use Rattle.rvfi_rows.specs.Rows.{is_csr, shows_csr}
use Rattle.rvfi_rows.specs.declared.expected.Retired.{Retired}
use Rattle.row_compare.specs.declared.expected_signal.ExpectedSignal.{ExpectedSignal}
use Rattle.row_compare.specs.Signals.{expected_signal}
use Rattle.row_compare.specs.Difference.{difference_between, difference_of, first_among, signal_difference}
use Rattle.row_compare.specs.Laws.{IsOfShownSignal, DiffersWhereShown, AgreesInAll}

-- ---- one entry after the other

pub among-next : (retired : Retired) (shown : Shown) (entries : List SignalEntry) (i : ℕ) (d : SignalEntry)
    {here all : Option Difference} → i < length entries
    → here ≡ signal_difference retired shown (get_or entries i d).signal
    → first_among retired shown (drop i entries) ≡ all
    → option_or here (first_among retired shown (drop (i + 1) entries)) ≡ all
unfolding first_among
among-next retired shown entries i d lt is so_far = rw (is, add-one) (rw (drop-cons entries i d lt) at so_far)

pub among-end : (retired : Retired) (shown : Shown) (entries : List SignalEntry) (i : ℕ) (all : Option Difference)
    → length entries ≤ i
    → first_among retired shown (drop i entries) ≡ all → None ≡ all
unfolding first_among
among-end retired shown entries i all le so_far = rw (drop_of_length-le entries le) at so_far

-- ---- signals that are written out

regroup : (x y z : Option Difference) → option_or x (option_or y z) ≡ option_or (option_or x y) z
regroup None y z = refl
regroup (Some d) y z = refl

nothing_more : (x : Option Difference) → x ≡ option_or x None
nothing_more None = refl
nothing_more (Some d) = refl

pub none_of_both : (one other : Option Difference) → is_none (option_or one other) ≡ (is_none one && is_none other)
none_of_both None other = refl
none_of_both (Some d) other = refl

and_true : (x : Bool) → x ≡ (x && true)
and_true true = refl
and_true false = refl

and_regroup : (x y z : Bool) → ((x && y) && z) ≡ (x && (y && z))
and_regroup true y z = refl
and_regroup false y z = refl

-- those before agree, and so do the entries, one after the other
abbrev pub agree_then : Retired → Shown → Bool → List SignalEntry → Bool
agree_then retired shown before [] = before
agree_then retired shown before (entry ∷ entries) =
    agree_then retired shown (before && is_none (signal_difference retired shown entry.signal)) entries

pub written_out : (retired : Retired) (shown : Shown) (before : Bool) (entries : List SignalEntry)
    → agree_then retired shown before entries ≡ (before && is_none (first_among retired shown entries))
unfolding first_among
written_out retired shown before [] = and_true before
written_out retired shown before (entry ∷ entries) =
    let here = signal_difference retired shown entry.signal in
    let rest = first_among retired shown entries in
    written_out retired shown (before && is_none here) entries
    ∙ and_regroup before (is_none here) (is_none rest)
    ∙ ap (λ none. before && none) (sym (none_of_both here rest))

-- ---- signals of which nothing is wanted

none_wanted : (signal : Signal) (found : Option ℕ) → difference_between signal found None ≡ None
none_wanted signal None = refl
none_wanted signal (Some found) = refl

pub free : (retired : Retired) (shown : Shown) (signal : Signal) → expected_signal retired shown signal ≡ None
    → signal_difference retired shown signal ≡ None
unfolding signal_difference
free retired shown signal is = rw is (none_wanted signal (shown signal))

-- nothing is wanted of the first of these signals, and of the last two
pub none_of_valid : (retired : Retired) (shown : Shown) → signal_difference retired shown Valid ≡ None
unfolding expected_signal
none_of_valid retired shown = free retired shown Valid refl

none_of_halt : (retired : Retired) (shown : Shown) → signal_difference retired shown Halt ≡ None
unfolding expected_signal
none_of_halt retired shown = free retired shown Halt refl

none_of_hart : (retired : Retired) (shown : Shown) → signal_difference retired shown Hart ≡ None
unfolding expected_signal
none_of_hart retired shown = free retired shown Hart refl

pub agree_at_end : (retired : Retired) (shown : Shown) (before : Bool)
    → before
    ≡ ((before && is_none (signal_difference retired shown Halt)) && is_none (signal_difference retired shown Hart))
agree_at_end retired shown before =
    rw (none_of_halt retired shown, none_of_hart retired shown) (and_true before ∙ and_true (before && true))

-- ---- entries that no row shows

in_parts : (retired : Retired) (shown : Shown) (front back : List SignalEntry)
    → first_among retired shown (front ++ back)
    ≡ option_or (first_among retired shown front) (first_among retired shown back)
unfolding first_among
in_parts retired shown [] back = refl
in_parts retired shown (entry ∷ front) back =
    ap (option_or (signal_difference retired shown entry.signal)) (in_parts retired shown front back)
    ∙ regroup (signal_difference retired shown entry.signal) (first_among retired shown front)
    (first_among retired shown back)

abbrev is_shown_csr : Shown → SignalEntry → Bool
is_shown_csr shown entry = is_csr entry.signal && is_some (shown entry.signal)

pub not_shown : (retired : Retired) (shown : Shown) (signal : Signal) (here : Option ℕ)
    → here ≡ shown signal → is_some here ≡ false → signal_difference retired shown signal ≡ None
unfolding signal_difference
not_shown retired shown signal None is hidden = rw (← is) refl
not_shown retired shown signal (Some value) is hidden = absurd cc

of_csr : (csr some rest others : Bool) → ((csr && some) || rest) ≡ false → (csr && others) ≡ true
    → (some ≡ false) × (rest ≡ false) × (others ≡ true)
of_csr true false false true none all = (refl, refl, refl)
of_csr true false false false none all = absurd cc
of_csr true false true others none all = absurd cc
of_csr true true rest others none all = absurd cc
of_csr false some rest others none all = absurd cc

none_shown : (retired : Retired) (shown : Shown) (entries : List SignalEntry)
    → list_any (is_shown_csr shown) entries ≡ false → list_all (λ entry. is_csr entry.signal) entries ≡ true
    → first_among retired shown entries ≡ None
unfolding first_among
none_shown retired shown [] none all = refl
none_shown retired shown (entry ∷ entries) none all =
    let here =
    of_csr (is_csr entry.signal) (is_some (shown entry.signal)) (list_any (is_shown_csr shown) entries)
    (list_all (λ entry. is_csr entry.signal) entries) none all in
    rw (not_shown retired shown entry.signal (shown entry.signal) refl here.0)
    (none_shown retired shown entries here.1 here.2)

none_is : (found : Option Difference) → is_none found ≡ true → found ≡ None
none_is None is = refl
none_is (Some d) is = absurd cc

pub with_csrs : (retired : Retired) (shown : Shown) → is_none (first_among retired shown (take 23 SIGNALS)) ≡ true
    → first_among retired shown (drop 23 SIGNALS) ≡ first_among retired shown SIGNALS
with_csrs retired shown none =
    ap (λ front. option_or front (first_among retired shown (drop 23 SIGNALS)))
    (sym (none_is (first_among retired shown (take 23 SIGNALS)) none))
    ∙ sym (in_parts retired shown (take 23 SIGNALS) (drop 23 SIGNALS))

pub without_csrs : (retired : Retired) (shown : Shown) → is_none (first_among retired shown (take 23 SIGNALS)) ≡ true
    → shows_csr shown ≡ false → None ≡ first_among retired shown SIGNALS
unfolding shows_csr
without_csrs retired shown none hidden =
    sym (none_shown retired shown (drop 23 SIGNALS) hidden refl) ∙ with_csrs retired shown none

pub agree_too : (retired : Retired) (shown : Shown) → is_none (first_among retired shown (take 23 SIGNALS)) ≡ true
    → is_none (first_among retired shown (drop 23 SIGNALS)) ≡ true → None ≡ first_among retired shown SIGNALS
agree_too retired shown none others =
    sym (none_is (first_among retired shown (drop 23 SIGNALS)) others) ∙ with_csrs retired shown none

-- ---- what a difference is of

either : (here rest : Option Difference) (difference : Difference) → option_or here rest ≡ Some difference
    → (here ≡ Some difference) ⊎ (rest ≡ Some difference)
either None rest difference is = inr is
either (Some one) rest difference is = inl is

of_values : (signal : Signal) (value : ℕ) (want : ExpectedSignal) (difference : Difference) (test : Bool)
    → (bit_and want.value want.mask == bit_and value want.mask) ≡ test
    → (if test then None else Some
    (record { signal = signal; expected = bit_and want.value want.mask; found = bit_and value want.mask }))
    ≡ Some difference
    → (difference
    ≡ record { signal = signal; expected = bit_and want.value want.mask; found = bit_and value want.mask })
    × (bit_and want.value want.mask ≢ bit_and value want.mask)
of_values signal value want difference true test is = absurd cc
of_values signal value want difference false test is =
    elim (eqb_tells (bit_and want.value want.mask) (bit_and value want.mask)) [
      | inl (same, h) ↦ absurd cc
      | inr (other, unequal) ↦ (cc, unequal)
    ]

of_signal : (retired : Retired) (shown : Shown) (signal : Signal) (found : Option ℕ) (want : Option ExpectedSignal)
    {difference : Difference} → shown signal ≡ found → expected_signal retired shown signal ≡ want
    → difference_between signal found want ≡ Some difference → IsOfShownSignal retired shown difference
of_signal retired shown signal None want is_shown is_wanted is = absurd cc
of_signal retired shown signal (Some value) None is_shown is_wanted is = absurd cc
of_signal retired shown signal (Some value) (Some want) {difference} is_shown is_wanted is =
    let both = of_values signal value want difference _ refl is in
    subst (IsOfShownSignal retired shown) (sym both.0) (record {
      value = value;
      want = want;
      is_shown = is_shown;
      is_wanted = is_wanted;
      expected = refl;
      found = refl;
      unequal = both.1;
    })

of_entries : (retired : Retired) (shown : Shown) (entries : List SignalEntry) (difference : Difference)
    → first_among retired shown entries ≡ Some difference → IsOfShownSignal retired shown difference
unfolding first_among signal_difference
of_entries retired shown [] difference is = absurd cc
of_entries retired shown (entry ∷ entries) difference is = elim (either _ _ difference is) [
  | inl here ↦ of_signal retired shown entry.signal _ _ refl refl here
  | inr later ↦ of_entries retired shown entries difference later
]

pub differs_where_shown : (retired : Retired) (shown : Shown) → DiffersWhereShown retired shown
unfolding difference_of
differs_where_shown retired shown difference is = of_entries retired shown SIGNALS difference is

-- ---- where there is none

neither : (here rest : Option Difference) → option_or here rest ≡ None → (here ≡ None) × (rest ≡ None)
neither None rest is = (refl, is)
neither (Some one) rest is = absurd cc

none_at : (retired : Retired) (shown : Shown) (entries : List SignalEntry) (i : ℕ) (entry : SignalEntry)
    → first_among retired shown entries ≡ None → Some entry ≡ slice_get entries i
    → signal_difference retired shown entry.signal ≡ None
unfolding first_among
none_at retired shown [] i entry none at = absurd cc
none_at retired shown (first ∷ entries) zero entry none at =
    let same : entry ≡ first = cc in
    rw same (neither _ _ none).0
none_at retired shown (first ∷ entries) (suc i) entry none at =
    none_at retired shown entries i entry (neither _ _ none).1 at

at_signal : (retired : Retired) (shown : Shown) (signal : Signal) (found : Option SignalEntry)
    → first_among retired shown SIGNALS ≡ None → found ≡ slice_get SIGNALS (index_of signal)
    → option_map (λ entry. entry.signal) found ≡ Some signal → signal_difference retired shown signal ≡ None
at_signal retired shown signal None none at is = absurd cc
at_signal retired shown signal (Some entry) none at is =
    let same : entry.signal ≡ signal = cc in
    subst (λ s. signal_difference retired shown s ≡ None) same
    (none_at retired shown SIGNALS (index_of signal) entry none at)

pub agrees_in_all : (retired : Retired) (shown : Shown) → AgreesInAll retired shown
unfolding difference_of signal_entry_of
agrees_in_all retired shown none signal =
    at_signal retired shown signal (slice_get SIGNALS (index_of signal)) none refl (stands_at_its_index signal)
