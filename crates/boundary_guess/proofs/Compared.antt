-- What a row that agrees shows of a signal.
use Rattle.std.proofs.Common.{◌≡◌, ℕ, ◌-◌, ◌%◌, ◌^◌, ◌<◌, ◌==◌, Bool, true, false, bit_and, Option, Some, None, refl}
use Rattle.std.proofs.Common.{sym, ap, ◌∙◌, arith, Ok, Err, if◌then◌else◌, lit<, ◌&&◌, not}
use Rattle.std.specs.Prelude.{IfSome}
use Rattle.std.specs.Option.{is_some, unwrap_or}
use Rattle.std.proofs.lemmas.Nat.{and_mask}
use Rattle.std.proofs.lemmas.Bool.Decides.{nat_tests}
use Rattle.hart_words.specs.declared.privilege.Cause.{Cause}
use Rattle.hart_words.specs.declared.signal.Signal.{Signal}
use Rattle.hart_words.specs.declared.signal.Signal.TheVariants.{Trap, Insn, RdAddr, RdWdata, PcWdata}
use Rattle.hart_words.specs.declared.signal.Difference.{Difference}
use Rattle.hart_words.specs.Signals.{Shown}
use Rattle.csr_file.specs.Fields.{all_bits}
use Rattle.rvfi_rows.specs.declared.expected.Retired.{Retired}
use Rattle.rvfi_rows.specs.declared.expected.Effects.{Effects}
use Rattle.row_compare.specs.declared.expected_signal.ExpectedSignal.{ExpectedSignal}
use Rattle.row_compare.specs.Wanted.{whole}
use Rattle.hart_words.specs.Options.{are_cut}
use Rattle.row_compare.specs.Signals.{expected_insn, expected_signal, expected_trap, is_call_or_breakpoint, unless_trap}
use Rattle.row_compare.specs.Difference.{difference_between, signal_difference}
use Rattle.hart_step.specs.Choices.{shows}
use Rattle.hart_step.specs.PlainRows.{insn_shown}
use Rattle.boundary_guess.specs.Truth.{IsShown}
use Rattle.boundary_guess.proofs.Faults.{IsFault}

-- what a row shows are words
abbrev pub ShowsWords : Shown → Type 0
ShowsWords shown = (signal : Signal) → IfSome (shown signal) (λ value. value < 2 ^ 64)

-- and none of its signals differs from what the hart did
pub record RowAgrees (retired : Retired) (shown : Shown) : Type 0 where
  pub words : ShowsWords shown
  pub none_differs : (signal : Signal) → signal_difference retired shown signal ≡ None

-- where nothing differs under a mask, both values are the same under it
differs_by : (want found : ℕ) (difference : Difference) (test : Bool) → (want == found) ≡ test
    → (if test then None else Some difference) ≡ None → want ≡ found
differs_by want found difference true is none = grind (arith, nat_tests, is)
differs_by want found difference false is none = absurd cc

pub same_under : (signal : Signal) (found : ℕ) (want : ExpectedSignal)
    → difference_between signal (Some found) (Some want) ≡ None → bit_and want.value want.mask ≡ bit_and found want.mask
same_under signal found want none =
    let difference : Difference =
    record { signal = signal; expected = bit_and want.value want.mask; found = bit_and found want.mask } in
    differs_by (bit_and want.value want.mask) (bit_and found want.mask) difference
    (bit_and want.value want.mask == bit_and found want.mask) refl none

-- and the same where the mask is all ones
same_word : (want found : ℕ) → want < 2 ^ 64 → found < 2 ^ 64 → bit_and want all_bits ≡ bit_and found all_bits
    → want ≡ found
same_word want found small below same =
    let left : bit_and want (2 ^ 64 - 1) ≡ want % 2 ^ 64 = and_mask want 64 in
    let right : bit_and found (2 ^ 64 - 1) ≡ found % 2 ^ 64 = and_mask found 64 in
    let both : want % 2 ^ 64 ≡ found % 2 ^ 64 = sym left ∙ same ∙ right in
    omega (arith, both, small, below)

pub found_is : (signal : Signal) (found : Option ℕ) (want : ℕ) → is_some found ≡ true
    → IfSome found (λ value. value < 2 ^ 64) → want < 2 ^ 64 → difference_between signal found (whole want) ≡ None
    → found ≡ Some want
found_is signal None want there word small none = absurd cc
found_is signal (Some found) want there word small none =
    ap (λ v. Some v)
    (sym
    (same_word want found small word (same_under signal found (record { value = want; mask = all_bits }) none)))

-- a signal that is shown, and of which a whole word is wanted, has that value
shown_is : {retired : Retired} {shown : Shown} (signal : Signal) (want : ℕ) → RowAgrees retired shown
    → IsShown shown signal → want < 2 ^ 64 → expected_signal retired shown signal ≡ whole want
    → shown signal ≡ Some want
unfolding signal_difference
shown_is {shown} signal want agrees there small is =
    found_is signal (shown signal) want there (agrees.words signal) small
    (ap (λ w. difference_between signal (shown signal) w) (sym is) ∙ agrees.none_differs signal)

-- ---- traps

one_shows : (trap : Option ℕ) → trap ≡ Some 1 → shows trap 1 ≡ false → ⊥
one_shows trap one other = let yes : shows trap 1 ≡ true = ap (λ t. shows t 1) one in cc

trap_wanted : (cause : Cause) (test : Bool) → is_call_or_breakpoint cause ≡ test → test ≡ false
    → (if test then None else whole 1) ≡ whole 1
trap_wanted cause true is fault = absurd cc
trap_wanted cause false is fault = refl

-- a row that agrees and does not show 1 did not take a trap for a fault
pub took_no_fault : {retired : Retired} {shown : Shown} {cause : Cause} → RowAgrees retired shown
    → retired.effects ≡ Err cause → IsFault cause → IsShown shown Trap → shows (shown Trap) 1 ≡ false → ⊥
unfolding expected_signal
took_no_fault {retired} {shown} {cause} agrees is fault there other =
    let want : expected_signal retired shown Trap ≡ whole 1 =
    ap expected_trap is ∙ trap_wanted cause (is_call_or_breakpoint cause) refl fault in
    one_shows (shown Trap) (shown_is Trap 1 agrees there (lit< tt) want) other

-- a word that a row shows, and the bits that were fetched: the same, but for what is above an instruction of 16 bits
pub record IsSameInsn (word bits : ℕ) : Type 0 where
  pub low : word % 2 ^ 16 ≡ bits % 2 ^ 16
  pub long : bits % 4 ≡ 3 → word ≡ bits

insn_by : (found : Option ℕ) (bits : ℕ) (cut : Bool) → is_some found ≡ true
    → IfSome found (λ value. value < 2 ^ 64) → bits < 2 ^ 64
    → difference_between Insn found (Some (record {
      value = bits;
      mask = if cut && not (bits % 4 == 3) then 2 ^ 16 - 1
          else all_bits;
    })) ≡ None
    → IsSameInsn (unwrap_or found 0) bits
insn_by None bits cut there word small none = cc
insn_by (Some found) bits cut there word small none = by (cut && not (bits % 4 == 3)) refl none
  where
    long_is : (cut long : Bool) → (cut && not long) ≡ true → long ≡ false
    long_is true false is = refl
    long_is true true is = cc
    long_is false long is = cc

    by : (short : Bool) → (cut && not (bits % 4 == 3)) ≡ short
        → difference_between Insn (Some found) (Some (record {
          value = bits;
          mask = if short then 2 ^ 16 - 1
              else all_bits;
        })) ≡ None
        → IsSameInsn found bits
    by true is none =
        let masked = same_under Insn found (record { value = bits; mask = 2 ^ 16 - 1 }) none in
        let left : bit_and bits (2 ^ 16 - 1) ≡ bits % 2 ^ 16 = and_mask bits 16 in
        let right : bit_and found (2 ^ 16 - 1) ≡ found % 2 ^ 16 = and_mask found 16 in
        let not_long : (bits % 4 == 3) ≡ false = long_is cut (bits % 4 == 3) is in
        record {
          low = sym right ∙ sym masked ∙ left;
          long = λ long. absurd (grind (arith, nat_tests, not_long, long));
        }
    by false is none =
        let same : bits ≡ found =
        same_word bits found small word (same_under Insn found (record { value = bits; mask = all_bits }) none) in
        record { low = ap (λ n. n % 2 ^ 16) (sym same); long = λ long. sym same }

pub insn_is : {retired : Retired} {shown : Shown} (bits : ℕ) → RowAgrees retired shown → retired.insn ≡ Some bits
    → bits < 2 ^ 64 → IsShown shown Insn → IsSameInsn (insn_shown shown) bits
unfolding expected_signal signal_difference
insn_is {retired} {shown} bits agrees is small there =
    insn_by (shown Insn) bits (are_cut retired.insn_bits) there (agrees.words Insn) small
    (ap (λ insn. difference_between Insn (shown Insn) (expected_insn retired.insn_bits insn)) (sym is)
    ∙ agrees.none_differs Insn)

-- what an instruction that retired did
pub rd_is : {retired : Retired} {shown : Shown} (effects : Effects) → RowAgrees retired shown
    → retired.effects ≡ Ok effects → effects.rd < 2 ^ 64 → IsShown shown RdAddr → shown RdAddr ≡ Some effects.rd
unfolding expected_signal
rd_is {retired} effects agrees is small there =
    shown_is RdAddr effects.rd agrees there small
    (ap (λ e. unless_trap (record retired { effects = e }) (λ done. whole done.rd)) is)

pub value_is : {retired : Retired} {shown : Shown} (effects : Effects) → RowAgrees retired shown
    → retired.effects ≡ Ok effects → effects.rd_value < 2 ^ 64 → IsShown shown RdWdata
    → shown RdWdata ≡ Some effects.rd_value
unfolding expected_signal
value_is {retired} effects agrees is small there =
    shown_is RdWdata effects.rd_value agrees there small
    (ap (λ e. unless_trap (record retired { effects = e }) (λ done. whole done.rd_value)) is)

pub next_is : {retired : Retired} {shown : Shown} (effects : Effects) → RowAgrees retired shown
    → retired.effects ≡ Ok effects → effects.next_pc < 2 ^ 64 → IsShown shown PcWdata
    → shown PcWdata ≡ Some effects.next_pc
unfolding expected_signal
next_is {retired} effects agrees is small there =
    shown_is PcWdata effects.next_pc agrees there small
    (ap (λ e. unless_trap (record retired { effects = e }) (λ done. whole done.next_pc)) is)
