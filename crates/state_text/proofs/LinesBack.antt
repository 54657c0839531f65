-- Lines that are written are read again.
use Rattle.std.proofs.Common.{◌≡◌, ◌≢◌, ℕ, suc, ◌+◌, ◌<◌, ◌≤◌, Bool, true, false, List, [], ◌∷◌, ◌++◌, Ok}
use Rattle.std.proofs.Common.{Result, length, drop}
use Rattle.std.proofs.Common.{refl, sym, ap, ◌∙◌, append_assoc, arith, Option, Some, None, get_or, ◌⊎◌}
use Rattle.std.proofs.Common.{inl, inr}
use Rattle.std.specs.Prelude.{codes, not, ◌==◌, ◌%◌, ◌^◌, ◌/◌, if◌then◌else◌}
use Rattle.std.specs.List.{concat}
use Rattle.std.specs.Option.{ForSome}
use Rattle.std.proofs.lemmas.Bool.{cases_lt}
use Rattle.std.proofs.lemmas.Bool.Decides.{nat_tests}
use Rattle.std.proofs.lemmas.List.{drop_at, append_cancel_left, append-nil, get_or_past}
use Rattle.hex.specs.Hex.{lower_digits, encode_with}
use Rattle.hart_words.specs.declared.span.Span.{Span}
use Rattle.hart_words.specs.declared.privilege.Mode.{Mode}
use Rattle.hart_words.specs.declared.privilege.Mode.TheVariants.{User, Supervisor, Machine}
use Rattle.csr_file.specs.declared.profile.CsrProfile.{CsrProfile}
use Rattle.state_text.specs.declared.fault.StateFault.{StateFault}
use Rattle.state_text.specs.declared.head.Head.{Head}
use Rattle.state_text.specs.declared.numbers.NumberKind.{NumberKind}
use Rattle.state_text.specs.Lines.{digits_of, number_line, option_line, version_line, harts_line, front_lines}
use Rattle.state_text.specs.Lines.{mode_line, flags_line}
use Rattle.state_text.specs.Texts.{number_lines}
use Rattle.state_text.specs.Reading.{Remaining, is_next, after, choice_in, guess_of_number, number_in, option_in}
use Rattle.state_text.specs.Reading.{version_in, count_in, front_in, pc_in, mode_in, flags_in, reserved_in}
use Rattle.state_text.specs.Reading.{head_in, is_misplaced}
use Rattle.state_text.specs.Reading.{is_outside}
use Rattle.state_text.specs.Reading.{numbers_in}
use Rattle.state_text.proofs.Fronts.{next_stands, stands_next, head_lines, read_as}
use Rattle.state_text.proofs.Guesses.{number_again}
use Rattle.state_text.proofs.NumberLines.{AreLegal}
use Rattle.state_text.proofs.LegalValues.{all_at}

-- what is left after some lines
abbrev pub left_after : Remaining → ℕ → List ℕ → Remaining
left_after left lines rest = record { line = left.line + lines; text = rest }

abbrev pub read_with : {A : Type 0} → A → Remaining → List ℕ → Result (A × Remaining) StateFault
read_with value left rest = Ok (value, left_after left 1 rest)

-- the first value that may be chosen is, where its line stands
pub choice_first : {A : Type 0} (line : A → List ℕ) (value : A) (others : List A) (left : Remaining) (rest : List ℕ)
    → left.text ≡ line value ++ rest → choice_in line (value ∷ others) left ≡ read_with value left rest
unfolding choice_in
choice_first {A} line value others left rest stands =
    rw (stands_next (line value) rest left stands)
    (ap (λ (t : List ℕ). read_with value left t)
    (ap (drop (length (line value))) stands ∙ drop_at (line value) rest (length (line value)) refl))

-- a value whose line does not stand there is passed over
pub choice_later : {A : Type 0} (line : A → List ℕ) (value : A) (others : List A) (left : Remaining)
    → is_next (line value) left ≡ false → choice_in line (value ∷ others) left ≡ choice_in line others left
unfolding choice_in
choice_later line value others left other = rw other refl

pub number_back : (name : List ℕ) (number : ℕ) (left : Remaining) (rest : List ℕ) → number < 2 ^ 64
    → left.text ≡ number_line name number ++ rest → number_in name left ≡ read_with number left rest
unfolding number_in
number_back name number left rest small stands =
    let guess : guess_of_number (length name) left.text ≡ number =
    ap (guess_of_number (length name)) stands ∙ number_again name rest number small in
    rw guess (choice_first (number_line name) number [] left rest stands)

-- no digit is the first letter of none
no_digit : (d : ℕ) → get_or lower_digits d 0 ≢ 110
no_digit d = λ is. by (cases_lt d 16) is
  where
    by : (d < 16) ⊎ (16 ≤ d) → get_or lower_digits d 0 ≡ 110 → ⊥
    by (inl within) is =
        let other : not (get_or lower_digits d 0 == 110) ≡ true =
        all_at (λ c. not (c == 110)) lower_digits d refl within in
        grind (arith, nat_tests, other, is)
    by (inr past) is =
        let nothing : get_or lower_digits d 0 ≡ 0 = get_or_past lower_digits d 0 past in
        omega (arith, nothing, is)

not_true : (test : Bool) → (test ≡ true → ⊥) → test ≡ false
not_true true h = absurd (h refl)
not_true false h = refl

pub no_number : (name : List ℕ) (number : ℕ) (left : Remaining) (rest : List ℕ)
    → left.text ≡ option_line name None ++ rest → is_next (number_line name number) left ≡ false
unfolding number_line encode_with
no_number name number left rest stands = not_true (is_next (number_line name number) left) (λ next. by next)
  where
    by : is_next (number_line name number) left ≡ true → ⊥
    by next =
        let line = name ++ (digits_of number ++ codes "\n") in
        let more = (after line left).text in
        let both : line ++ more ≡ (name ++ codes "none\n") ++ rest = sym (next_stands line left next) ∙ stands in
        let beyond : (digits_of number ++ codes "\n") ++ more ≡ codes "none\n" ++ rest =
        append_cancel_left name ((digits_of number ++ codes "\n") ++ more) (codes "none\n" ++ rest)
        (sym (append_assoc name (digits_of number ++ codes "\n") more) ∙ both
        ∙ append_assoc name (codes "none\n") rest) in
        let first = ap (λ (l : List ℕ). get_or l 0 0) beyond in
        no_digit (number / 256 ^ 7 % 256 / 16) first

pub option_back : (name : List ℕ) (number : Option ℕ) (left : Remaining) (rest : List ℕ)
    → ForSome number (λ number. number < 2 ^ 64)
    → left.text ≡ option_line name number ++ rest → option_in name left ≡ read_with number left rest
unfolding option_in
option_back name None left rest small stands =
    choice_later (option_line name) (Some (guess_of_number (length name) left.text)) (None ∷ []) left
    (no_number name (guess_of_number (length name) left.text) left rest stands)
    ∙ choice_first (option_line name) None [] left rest stands
option_back name (Some number) left rest small stands =
    let guess : guess_of_number (length name) left.text ≡ number =
    ap (guess_of_number (length name)) stands ∙ number_again name rest number (small number refl) in
    rw guess (choice_first (option_line name) (Some number) (None ∷ []) left rest stands)

version_back : (left : Remaining) (rest : List ℕ) → left.text ≡ version_line ++ rest
    → version_in left ≡ read_with tt left rest
unfolding version_in
version_back left rest stands = choice_first (λ _. version_line) tt [] left rest stands

pc_back : (pc : ℕ) (left : Remaining) (rest : List ℕ) → pc < 2 ^ 64 → pc % 2 ≡ 0
    → left.text ≡ number_line (codes "pc ") pc ++ rest → pc_in left ≡ read_with pc left rest
unfolding pc_in
pc_back pc left rest small even stands =
    let passes : (pc % 2 == 1) ≡ false = rw even refl in
    rw (number_back (codes "pc ") pc left rest small stands, passes) refl

mode_back : (mode : Mode) (left : Remaining) (rest : List ℕ) → left.text ≡ mode_line mode ++ rest
    → mode_in left ≡ read_with mode left rest
unfolding mode_in
mode_back User left rest stands = choice_first mode_line User _ left rest stands
mode_back Supervisor left rest stands =
    let user : is_next (mode_line User) left ≡ false = rw stands refl in
    choice_later mode_line User _ left user ∙ choice_first mode_line Supervisor _ left rest stands
mode_back Machine left rest stands =
    let user : is_next (mode_line User) left ≡ false = rw stands refl in
    let supervisor : is_next (mode_line Supervisor) left ≡ false = rw stands refl in
    choice_later mode_line User _ left user ∙ choice_later mode_line Supervisor _ left supervisor
    ∙ choice_first mode_line Machine _ left rest stands

abbrev line_of_flags : Bool × Bool → List ℕ
line_of_flags flags = flags_line flags.0 flags.1

flags_back : (trapped_last halted : Bool) (left : Remaining) (rest : List ℕ)
    → left.text ≡ flags_line trapped_last halted ++ rest
    → flags_in left ≡ read_with (trapped_last, halted) left rest
unfolding flags_in
flags_back false false left rest stands = choice_first line_of_flags (false, false) _ left rest stands
flags_back false true left rest stands =
    let one : is_next (flags_line false false) left ≡ false = rw stands refl in
    choice_later line_of_flags (false, false) _ left one ∙ choice_first line_of_flags (false, true) _ left rest stands
flags_back true false left rest stands =
    let one : is_next (flags_line false false) left ≡ false = rw stands refl in
    let two : is_next (flags_line false true) left ≡ false = rw stands refl in
    choice_later line_of_flags (false, false) _ left one ∙ choice_later line_of_flags (false, true) _ left two
    ∙ choice_first line_of_flags (true, false) _ left rest stands
flags_back true true left rest stands =
    let one : is_next (flags_line false false) left ≡ false = rw stands refl in
    let two : is_next (flags_line false true) left ≡ false = rw stands refl in
    let three : is_next (flags_line true false) left ≡ false = rw stands refl in
    choice_later line_of_flags (false, false) _ left one ∙ choice_later line_of_flags (false, true) _ left two
    ∙ choice_later line_of_flags (true, false) _ left three
    ∙ choice_first line_of_flags (true, true) _ left rest stands

reserved_back : (ram : Span) (size : ℕ) (reserved : Option ℕ) (left : Remaining) (rest : List ℕ)
    → ForSome reserved (λ address. address < 2 ^ 64) → is_misplaced size reserved ≡ false
    → is_outside ram size reserved ≡ false → left.text ≡ option_line (codes "reserved ") reserved ++ rest
    → reserved_in ram size left ≡ read_with reserved left rest
unfolding reserved_in
reserved_back ram size reserved left rest small placed inside stands =
    rw (option_back (codes "reserved ") reserved left rest small stands, placed, inside) refl

-- what is known of a head that is written
pub record IsHead (ram : Span) (size : ℕ) (head : Head) : Type 0 where
  pub pc : head.pc < 2 ^ 64
  pub even : head.pc % 2 ≡ 0
  pub order : ForSome head.next_order (λ order. order < 2 ^ 64)
  pub reserved : ForSome head.reserved (λ address. address < 2 ^ 64)
  pub placed : is_misplaced size head.reserved ≡ false
  pub inside : is_outside ram size head.reserved ≡ false

pub head_back : (ram : Span) (size : ℕ) (head : Head) (left : Remaining) (rest : List ℕ) → IsHead ram size head
    → left.text ≡ concat (head_lines head) ++ rest
    → head_in ram size left ≡ Ok (head, record { line = left.line + 1 + 1 + 1 + 1 + 1; text = rest })
unfolding head_in
head_back ram size head left rest is stands =
    let six = option_line (codes "reserved ") head.reserved ++ rest in
    let five = flags_line head.trapped_last head.halted ++ six in
    let four = option_line (codes "order ") head.next_order ++ five in
    let three = mode_line head.mode ++ four in
    let split : left.text ≡ number_line (codes "pc ") head.pc ++ three =
    stands ∙ five_lines (number_line (codes "pc ") head.pc) (mode_line head.mode)
    (option_line (codes "order ") head.next_order) (flags_line head.trapped_last head.halted)
    (option_line (codes "reserved ") head.reserved) rest in
    let after_pc = left_after left 1 three in
    let after_mode = left_after after_pc 1 four in
    let after_order = left_after after_mode 1 five in
    let after_flags = left_after after_order 1 six in
    rw (
      pc_back head.pc left three is.pc is.even split,
      mode_back head.mode after_pc four refl,
      option_back (codes "order ") head.next_order after_mode five is.order refl,
      flags_back head.trapped_last head.halted after_order six refl,
      reserved_back ram size head.reserved after_flags rest is.reserved is.placed is.inside refl,
    )
    refl
  where
    five_lines : (b c d e f rest : List ℕ)
        → concat (b ∷ c ∷ d ∷ e ∷ f ∷ []) ++ rest ≡ b ++ (c ++ (d ++ (e ++ (f ++ rest))))
    five_lines b c d e f rest = simp append_assoc

abbrev nothing : Unit {0}
nothing = tt

count_back : (harts : ℕ) (left : Remaining) (rest : List ℕ)
    → left.text ≡ concat (if harts == 1 then [] else harts_line harts ∷ []) ++ rest
    → (next : Remaining) × (next.text ≡ rest) × (count_in harts left ≡ read_as nothing next)
unfolding count_in
count_back harts left rest stands = by (harts == 1) stands
  where
    by : (one : Bool) → left.text ≡ concat (if one then [] else harts_line harts ∷ []) ++ rest
        → (next : Remaining) × (next.text ≡ rest)
        × ((if one then read_as nothing left else choice_in (λ _. harts_line harts) (nothing ∷ []) left)
        ≡ read_as nothing next)
    by true stands = (left, stands, refl)
    by false stands = (
      left_after left 1 rest,
      refl,
      choice_first (λ _. harts_line harts) nothing [] left rest
          (stands ∙ ap (λ (t : List ℕ). t ++ rest) (append-nil (harts_line harts))),
    )

-- the lines before those of the harts are read again
pub front_back : (harts : ℕ) (left : Remaining) (rest : List ℕ) → left.text ≡ concat (front_lines harts) ++ rest
    → (next : Remaining) × (next.text ≡ rest) × (front_in harts left ≡ read_as nothing next)
unfolding front_in
front_back harts left rest stands =
    let count = concat (if harts == 1 then [] else harts_line harts ∷ []) in
    let split : left.text ≡ version_line ++ (count ++ rest) = stands ∙ append_assoc version_line count rest in
    let more = count_back harts (left_after left 1 (count ++ rest)) rest refl in
    (more.0, more.1, rw (version_back left (count ++ rest) split) more.2)

abbrev numbers_read : List ℕ → ℕ → List ℕ → Result (List ℕ × Remaining) StateFault
numbers_read numbers line text = Ok (numbers, record { line = line; text = text })

same_done : (x y : List ℕ) (l m : ℕ) (t u : List ℕ) → x ≡ y → l ≡ m → t ≡ u → numbers_read x l t ≡ numbers_read y m u
same_done x y l m t u p q r = cc

-- the numbers that are written are read again
pub numbers_back : (profile : CsrProfile) (names : List (List ℕ)) (kinds : List NumberKind) (numbers before : List ℕ)
    (left : Remaining)
    (rest : List ℕ) → length names ≡ length kinds → length numbers ≡ length names → AreLegal profile kinds numbers
    → ((k : ℕ) → get_or numbers k 0 < 2 ^ 64) → left.text ≡ concat (number_lines names numbers) ++ rest
    → numbers_in profile names kinds before left ≡ Ok (before ++ numbers, left_after left (length names) rest)
unfolding numbers_in number_lines AreLegal
numbers_back profile [] [] [] before left rest one two legal small stands =
    same_done before (before ++ []) left.line (left.line + 0) left.text rest (sym (append-nil before))
    (omega arith) stands
numbers_back profile [] (kind ∷ kinds) numbers before left rest one two legal small stands = absurd (omega arith)
numbers_back profile [] [] (number ∷ numbers) before left rest one two legal small stands = absurd (omega arith)
numbers_back profile (name ∷ names) [] numbers before left rest one two legal small stands = absurd (omega arith)
numbers_back profile (name ∷ names) (kind ∷ kinds) [] before left rest one two legal small stands = absurd (omega arith)
numbers_back profile (name ∷ names) (kind ∷ kinds) (number ∷ numbers) before left rest one two legal small stands =
    let more = concat (number_lines names numbers) ++ rest in
    let first : left.text ≡ number_line name number ++ more =
    stands ∙ append_assoc (number_line name number) (concat (number_lines names numbers)) rest in
    let read = number_back name number left more (small 0) first in
    let others =
    numbers_back profile names kinds numbers (before ++ number ∷ []) (left_after left 1 more) rest (omega arith)
    (omega arith)
    legal.1 (λ k. small (suc k)) refl in
    rw (read, legal.0)
    (others ∙ same_done _ _ (left.line + 1 + length names) (left.line + suc (length names)) rest rest
    (append_assoc before (number ∷ []) numbers) (omega arith) refl)
