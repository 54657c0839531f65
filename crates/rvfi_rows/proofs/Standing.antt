-- Where the values of signals stand.
use Rattle.std.proofs.Common.{◌≡◌, ◌∙◌, sym, ap, subst, ℕ, ◌+◌, ◌<◌, ◌==◌, ◌||◌, Bool, true, false}
use Rattle.std.proofs.Common.{List, [], ◌∷◌, ◌++◌, refl, length, take, get_or, inl, inr, Option, Some, None, arith}
use Rattle.std.proofs.Common.{length-append, ◌≢◌, ◌/◌, ◌%◌, ◌^◌}
use Rattle.std.proofs.lemmas.Nat.Bits.{bit_at-lt}
use Rattle.std.specs.Prelude.{if◌then◌else◌, slice_index, slice_set}
use Rattle.std.specs.Option.{option_or}
use Rattle.std.specs.Int.{bit_at}
use Rattle.std.proofs.lemmas.Bool.Decides.{eqb_tells}
use Rattle.std.proofs.lemmas.List.{get_or-set_same, get_or-set_other, get_or-take, length-take-le, take_more}
use Rattle.hart_words.specs.declared.signal.Signal.{Signal}
use Rattle.hart_words.specs.declared.signal.Signal.TheVariants.{Valid}
use Rattle.hart_words.specs.Signals.{Shown, index_of}
use Rattle.rvfi_rows.specs.Cells.{AreOf, is_among, values_of, with_bits}
use Rattle.rvfi_rows.specs.Kept.{AreFoundAt, StandsAt}
use Rattle.rvfi_rows.specs.Rows.{alone}
use Rattle.rvfi_rows.proofs.Values.{index_below}

or_none : (value : Option ℕ) → value ≡ option_or value None
or_none None = refl
or_none (Some value) = refl

assoc : (a b c : Option ℕ) → option_or (option_or a b) c ≡ option_or a (option_or b c)
assoc None b c = refl
assoc (Some x) b c = refl

-- the value of the last one stands last, and those of the others where they stood
values_last : (signals : List Signal) (last : Signal) (values : List ℕ) (signal : Signal)
    → length values ≡ length signals + 1
    → values_of (signals ++ last ∷ []) values signal
    ≡ option_or (alone last (Some (slice_index values (length signals))) signal)
    (values_of signals (take (length signals) values) signal)
unfolding values_of
values_last [] last [] signal as_many = absurd (omega (arith, as_many))
values_last [] last (value ∷ values) signal as_many = or_none (alone last (Some value) signal)
values_last (first ∷ signals) last [] signal as_many = absurd (omega (arith, as_many))
values_last (first ∷ signals) last (value ∷ values) signal as_many =
    ap (λ later. option_or later (alone first (Some value) signal))
    (values_last signals last values signal (omega (arith, as_many)))
    ∙ assoc (alone last (Some (slice_index values (length signals))) signal)
    (values_of signals (take (length signals) values) signal) (alone first (Some value) signal)

-- one of more signals is the last one, or one of the first
among_last : (signals : List Signal) (last signal : Signal)
    → is_among (signals ++ last ∷ []) signal ≡ (is_among signals signal || (index_of signal == index_of last))
among_last [] last signal = by (index_of signal == index_of last)
  where
    by : (test : Bool) → (test || false) ≡ test
    by true = refl
    by false = refl
among_last (first ∷ signals) last signal =
    ap (λ rest. (index_of signal == index_of first) || rest) (among_last signals last signal)
    ∙ by (index_of signal == index_of first) (is_among signals signal) (index_of signal == index_of last)
  where
    by : (a b c : Bool) → (a || (b || c)) ≡ ((a || b) || c)
    by true b c = refl
    by false b c = refl

or_other : (a b : Bool) → b ≡ false → (a || b) ≡ true → a ≡ true
or_other true b none is = refl
or_other false b none is = absurd cc

-- one signal more, at the place after the others
pub found_more : (signals : List Signal) (last : Signal) (positions : List ℕ) (index : ℕ) → index ≡ index_of last
    → length positions ≡ 111 → AreFoundAt signals positions
    → AreFoundAt (signals ++ last ∷ []) (slice_set positions index (length signals))
found_more signals last positions index is full found = λ signal among.
    let long : length (signals ++ last ∷ []) ≡ length signals + 1 = length-append signals (last ∷ []) in
    let below : index_of last < length positions = omega (arith, index_below last, full) in
    let there = slice_index (slice_set positions index (length signals)) (index_of signal) in
    let placed : there ≡ slice_index (slice_set positions (index_of last) (length signals)) (index_of signal) =
    ap (λ i. slice_index (slice_set positions i (length signals)) (index_of signal)) is in
    subst (StandsAt (signals ++ last ∷ []) signal) (sym placed)
    (elim (eqb_tells (index_of signal) (index_of last)) [
      | inl same ↦
          let at : slice_index (slice_set positions (index_of last) (length signals)) (index_of signal) ≡ length signals =
          subst (λ i. slice_index (slice_set positions (index_of last) (length signals)) i ≡ length signals)
          (sym same.1) (get_or-set_same positions (index_of last) (length signals) 0 below) in
          subst (StandsAt (signals ++ last ∷ []) signal) (sym at) (record {
            within = omega (arith, long);
            value = λ values as_many.
                values_last signals last values signal (as_many ∙ long)
                ∙ ap (λ test. option_or (if test then Some (slice_index values (length signals)) else None)
                (values_of signals (take (length signals) values) signal)) same.0;
          })
      | inr differs ↦
          let at : slice_index (slice_set positions (index_of last) (length signals)) (index_of signal)
          ≡ slice_index positions (index_of signal) =
          get_or-set_other positions (index_of last) (index_of signal) (length signals) 0 differs.1 in
          let old : StandsAt signals signal (slice_index positions (index_of signal)) =
          found signal (or_other (is_among signals signal) (index_of signal == index_of last) differs.0
          (sym (among_last signals last signal) ∙ among)) in
          subst (StandsAt (signals ++ last ∷ []) signal) (sym at) (record {
            within = omega (arith, long, old.within);
            value = λ values as_many.
                let some : length values ≡ length signals + 1 = as_many ∙ long in
                values_last signals last values signal some
                ∙ ap (λ test. option_or (if test then Some (slice_index values (length signals)) else None)
                (values_of signals (take (length signals) values) signal)) differs.0
                ∙ old.value (take (length signals) values) (length-take-le (length signals) values (omega (arith, some)))
                ∙ ap (λ v. Some v)
                (get_or-take (length signals) values (slice_index positions (index_of signal)) 0 old.within);
          })
    ])

-- the next signal is found too
pub found_next : (signals : List Signal) (place : ℕ) (positions : List ℕ) {index here : ℕ} → place < length signals
    → here ≡ index → index ≡ index_of (get_or signals place Valid) → length positions ≡ 111
    → AreFoundAt (take place signals) positions
    → AreFoundAt (take (place + 1) signals) (slice_set positions here place)
found_next signals place positions {index} {here} within at is full found =
    let long : length (take place signals) ≡ place = length-take-le place signals (omega (arith, within)) in
    let more : AreFoundAt (take place signals ++ get_or signals place Valid ∷ [])
    (slice_set positions here (length (take place signals))) =
    found_more (take place signals) (get_or signals place Valid) positions here (at ∙ is) full found in
    let same : AreFoundAt (take place signals ++ get_or signals place Valid ∷ []) (slice_set positions here place) =
    subst (λ (n : ℕ). AreFoundAt (take place signals ++ get_or signals place Valid ∷ []) (slice_set positions here n))
    long more in
    subst (λ (list : List Signal). AreFoundAt list (slice_set positions here place))
    (sym (take_more signals place Valid within)) same

-- so where a bit of a row is set, its value is the one that stands there
pub shows_there : (signals : List Signal) (positions values : List ℕ) (bits : ℕ) (signal : Signal)
    {index here position : ℕ} → AreOf signals bits → AreFoundAt signals positions
    → length values ≡ length signals → index ≡ index_of signal → here ≡ index
    → position ≡ slice_index positions here → bits / 2 ^ index % 2 ≡ 1
    → (position < length values) × (Some (slice_index values position) ≡ with_bits bits (values_of signals values) signal)
unfolding with_bits
shows_there signals positions values bits signal {index} {here} {position} are found as_many is at place set =
    let bit : bit_at bits (index_of signal) ≡ 1 = subst (λ (i : ℕ). bit_at bits i ≡ 1) is set in
    let stands : StandsAt signals signal (slice_index positions (index_of signal)) =
    found signal (are.theirs signal bit) in
    let same : position ≡ slice_index positions (index_of signal) =
    place ∙ ap (λ (i : ℕ). slice_index positions i) (at ∙ is) in (
      omega (arith, same, stands.within, as_many),
      ap (λ (i : ℕ). Some (slice_index values i)) same ∙ sym (stands.value values as_many)
          ∙ ap (λ (b : ℕ). if b == 1 then values_of signals values signal else None) (sym bit),
    )

clear : (b : ℕ) → b < 2 → b ≢ 1 → b ≡ 0
clear b few not_one = omega arith

-- and where it is not set, none is shown
pub shows_no_more : (shown : Shown) (bits : ℕ) (signal : Signal) {index : ℕ} → index ≡ index_of signal
    → bits / 2 ^ index % 2 ≢ 1 → None ≡ with_bits bits shown signal
unfolding with_bits
shows_no_more shown bits signal {index} is bit =
    let here : bit_at bits index ≡ 0 = clear _ (bit_at-lt bits index) bit in
    let there : bit_at bits (index_of signal) ≡ 0 = subst (λ (i : ℕ). bit_at bits i ≡ 0) is here in
    ap (λ (b : ℕ). if b == 1 then shown signal else None) (sym there)
