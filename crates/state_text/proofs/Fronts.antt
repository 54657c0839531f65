-- What was read stands at the front of the text.
use Rattle.std.proofs.Common.{◌≡◌, ℕ, ◌<◌, Bool, true, false, List, [], ◌∷◌, ◌++◌, Ok, Err, Result}
use Rattle.std.proofs.Common.{length}
use Rattle.std.proofs.Common.{refl, sym, ap, subst, ◌∙◌, append_assoc, Option}
use Rattle.std.specs.Prelude.{if◌then◌else◌, codes, ◌==◌, ◌%◌, ◌^◌}
use Rattle.std.proofs.lemmas.List.{append-nil}
use Rattle.std.specs.List.{concat}
use Rattle.std.proofs.lemmas.Slice.Eq.{starts_is}
use Rattle.std.proofs.lemmas.Bool.Decides.{Decides-eqb}
use Rattle.hart_words.specs.declared.span.Span.{Span}
use Rattle.hart_words.specs.declared.privilege.Mode.{Mode}
use Rattle.hart_words.specs.Results.{◌>>=◌, ◌>>◌, refuse_if}
use Rattle.state_text.specs.declared.fault.FaultKind.TheVariants.{BadLine, BadValue, OutsideRam}
use Rattle.state_text.specs.declared.fault.StateFault.{StateFault}
use Rattle.state_text.specs.declared.head.Head.{Head}
use Rattle.state_text.specs.Lines.{number_line, option_line, version_line, harts_line, front_lines, mode_line, flags_line}
use Rattle.state_text.specs.Reading.{Remaining, fault_at, is_next, after, choice_in, number_in, option_in, version_in}
use Rattle.state_text.proofs.Guesses.{guessed_small}
use Rattle.state_text.specs.Reading.{count_in, front_in, pc_in, mode_in, flags_in, reserved_in, head_in, is_misplaced, is_outside}

-- a line that is the next one stands at the front
pub next_stands : (line : List ℕ) (left : Remaining) → is_next line left ≡ true
    → left.text ≡ line ++ (after line left).text
next_stands line left next = (starts_is Decides-eqb left.text line (is_next line left) refl).0 next

-- and a line at the front is the next one
pub stands_next : (line rest : List ℕ) (left : Remaining) → left.text ≡ line ++ rest → is_next line left ≡ true
stands_next line rest left stands = (starts_is Decides-eqb left.text line (is_next line left) refl).1 rest stands

abbrev pub read_as : {A : Type 0} → A → Remaining → Result (A × Remaining) StateFault
read_as value left = Ok (value, left)

-- the parts of a pair that was read
pub same_read : {A : Type 0} (x y : A) (one other : Remaining) → read_as x one ≡ read_as y other → (x ≡ y) × (one ≡ other)
same_read {A} x y one other h =
    let p : (x, one) ≡ (y, other) = cc in (ap (λ (q : A × Remaining). q.0) p, ap (λ (q : A × Remaining). q.1) p)

-- what came after a step that gave a value
pub then_read : {A B : Type 0} (r : Result A StateFault) (f : A → Result B StateFault) (y : B)
    → (r >>= f) ≡ Ok y → (x : A) × (r ≡ Ok x) × (f x ≡ Ok y)
then_read (Ok x) f y h = (x, refl, h)
then_read (Err fault) f y h = absurd cc

-- a test that refused nothing
pub not_refused : {A : Type 0} (test : Bool) (fault : StateFault) (more : Result A StateFault) (y : A)
    → (refuse_if test fault >> more) ≡ Ok y → (test ≡ false) × (more ≡ Ok y)
not_refused true fault more y h = absurd cc
not_refused false fault more y h = (refl, h)

-- the line of the value that was chosen stands at the front
pub choice_stands : {A : Type 0} (line : A → List ℕ) (values : List A) (left : Remaining) (value : A) (next : Remaining)
    → choice_in line values left ≡ Ok (value, next) → left.text ≡ line value ++ next.text
unfolding choice_in
choice_stands line [] left value next h = absurd cc
choice_stands {A} line (first ∷ others) left value next h =
    by (λ h. choice_stands line others left value next h) (is_next (line first) left) refl h
  where
    by : (choice_in line others left ≡ read_as value next → left.text ≡ line value ++ next.text)
        → (test : Bool) → is_next (line first) left ≡ test
        → (if test then read_as first (after (line first) left) else choice_in line others left) ≡ read_as value next
        → left.text ≡ line value ++ next.text
    by rest true holds h =
        let same = same_read first value (after (line first) left) next h in
        next_stands (line first) left holds
        ∙ ap (λ (x : A). line x ++ (after (line first) left).text) same.0
        ∙ ap (λ (x : Remaining). line value ++ x.text) same.1
    by rest false fails h = rest h

-- the one value that may be chosen is the one that was
pub one_choice : {A : Type 0} (line : A → List ℕ) (guess value : A) (left next : Remaining)
    → choice_in line (guess ∷ []) left ≡ Ok (value, next) → guess ≡ value
unfolding choice_in
one_choice {A} line guess value left next h = by (is_next (line guess) left) h
  where
    by : (test : Bool) → (if test then read_as guess (after (line guess) left) else Err (fault_at left BadLine))
        ≡ read_as value next → guess ≡ value
    by true h = (same_read guess value (after (line guess) left) next h).0
    by false h = absurd cc

pub number_small : (name : List ℕ) (left : Remaining) (number : ℕ) (next : Remaining)
    → number_in name left ≡ Ok (number, next) → number < 2 ^ 64
unfolding number_in
number_small name left number next h =
    subst (λ (n : ℕ). n < 2 ^ 64) (one_choice (number_line name) _ number left next h)
    (guessed_small (length name) left.text)

pub number_stands : (name : List ℕ) (left : Remaining) (number : ℕ) (next : Remaining)
    → number_in name left ≡ Ok (number, next) → left.text ≡ number_line name number ++ next.text
unfolding number_in
number_stands name left number next h = choice_stands (number_line name) _ left number next h

pub option_stands : (name : List ℕ) (left : Remaining) (number : Option ℕ) (next : Remaining)
    → option_in name left ≡ Ok (number, next) → left.text ≡ option_line name number ++ next.text
unfolding option_in
option_stands name left number next h = choice_stands (option_line name) _ left number next h

version_stands : (left : Remaining) (version : Unit {0}) (next : Remaining)
    → version_in left ≡ Ok (version, next) → left.text ≡ version_line ++ next.text
unfolding version_in
version_stands left version next h = choice_stands (λ _. version_line) _ left version next h

mode_stands : (left : Remaining) (mode : Mode) (next : Remaining)
    → mode_in left ≡ Ok (mode, next) → left.text ≡ mode_line mode ++ next.text
unfolding mode_in
mode_stands left mode next h = choice_stands mode_line _ left mode next h

flags_stand : (left : Remaining) (flags : Bool × Bool) (next : Remaining)
    → flags_in left ≡ Ok (flags, next) → left.text ≡ flags_line flags.0 flags.1 ++ next.text
unfolding flags_in
flags_stand left flags next h = choice_stands (λ flags. flags_line flags.0 flags.1) _ left flags next h

-- pc and what is known of it
pub pc_stands : (left : Remaining) (pc : ℕ) (next : Remaining) → pc_in left ≡ Ok (pc, next)
    → (left.text ≡ number_line (codes "pc ") pc ++ next.text) × ((pc % 2 == 1) ≡ false)
unfolding pc_in
pc_stands left pc next h =
    let read = then_read (number_in (codes "pc ") left) _ (pc, next) h in
    let passed = not_refused (read.0.0 % 2 == 1) (fault_at left BadValue) (Ok read.0) (pc, next) read.2 in
    let same = same_read read.0.0 pc read.0.1 next passed.1 in (
      subst (λ (x : ℕ). left.text ≡ number_line (codes "pc ") x ++ next.text) same.0
          (subst (λ (x : Remaining). left.text ≡ number_line (codes "pc ") read.0.0 ++ x.text) same.1
          (number_stands (codes "pc ") left read.0.0 read.0.1 read.1)),
      subst (λ (x : ℕ). (x % 2 == 1) ≡ false) same.0 passed.0,
    )

-- the reserved block and what is known of it
pub reserved_stands : (ram : Span) (size : ℕ) (left : Remaining) (reserved : Option ℕ) (next : Remaining)
    → reserved_in ram size left ≡ Ok (reserved, next)
    → (left.text ≡ option_line (codes "reserved ") reserved ++ next.text)
    × (is_misplaced size reserved ≡ false) × (is_outside ram size reserved ≡ false)
unfolding reserved_in
reserved_stands ram size left reserved next h =
    let name = codes "reserved " in
    let read = then_read (option_in name left) _ (reserved, next) h in
    let placed = not_refused (is_misplaced size read.0.0) (fault_at left BadValue) _ (reserved, next) read.2 in
    let inside =
    not_refused (is_outside ram size read.0.0) (fault_at left OutsideRam) (Ok read.0) (reserved, next) placed.1 in
    let same = same_read read.0.0 reserved read.0.1 next inside.1 in (
      subst (λ (x : Option ℕ). left.text ≡ option_line name x ++ next.text) same.0
          (subst (λ (x : Remaining). left.text ≡ option_line name read.0.0 ++ x.text) same.1
          (option_stands name left read.0.0 read.0.1 read.1)),
      subst (λ (x : Option ℕ). is_misplaced size x ≡ false) same.0 placed.0,
      subst (λ (x : Option ℕ). is_outside ram size x ≡ false) same.0 inside.0,
    )

-- the lines of a hart before its numbers
abbrev pub head_lines : Head → List (List ℕ)
head_lines head =
    number_line (codes "pc ") head.pc
    ∷ mode_line head.mode
    ∷ option_line (codes "order ") head.next_order
    ∷ flags_line head.trapped_last head.halted
    ∷ option_line (codes "reserved ") head.reserved
    ∷ []

-- texts that stand one after another
pub joined : (text one more two rest : List ℕ) → text ≡ one ++ more → more ≡ two ++ rest → text ≡ (one ++ two) ++ rest
joined text one more two rest p q = p ∙ ap (λ (t : List ℕ). one ++ t) q ∙ sym (append_assoc one two rest)

count_stands : (harts : ℕ) (left : Remaining) (count : Unit {0}) (next : Remaining)
    → count_in harts left ≡ Ok (count, next)
    → left.text ≡ concat (if harts == 1 then [] else harts_line harts ∷ []) ++ next.text
unfolding count_in
count_stands harts left count next h = by (harts == 1) h
  where
    by : (one : Bool)
        → (if one then read_as tt left else choice_in (λ _. harts_line harts) (tt ∷ []) left) ≡ read_as count next
        → left.text ≡ concat (if one then [] else harts_line harts ∷ []) ++ next.text
    by true h = ap (λ (x : Remaining). x.text) (same_read tt count left next h).1
    by false h =
        choice_stands (λ _. harts_line harts) (tt ∷ []) left count next h
        ∙ ap (λ (t : List ℕ). t ++ next.text) (sym (append-nil (harts_line harts)))

-- the lines before those of the harts stand at the front
pub front_stands : (harts : ℕ) (left : Remaining) (front : Unit {0}) (next : Remaining)
    → front_in harts left ≡ Ok (front, next) → left.text ≡ concat (front_lines harts) ++ next.text
unfolding front_in
front_stands harts left front next h =
    let version = then_read (version_in left) _ (front, next) h in
    joined left.text version_line version.0.1.text (concat (if harts == 1 then [] else harts_line harts ∷ []))
    next.text
    (version_stands left version.0.0 version.0.1 version.1) (count_stands harts version.0.1 front next version.2)

-- what is known of the lines of a hart before its numbers, which were read
pub record HasHead (ram : Span) (size : ℕ) (left : Remaining) (head : Head) (next : Remaining) : Type 0 where
  pub stands : left.text ≡ concat (head_lines head) ++ next.text
  pub even : (head.pc % 2 == 1) ≡ false
  pub placed : is_misplaced size head.reserved ≡ false
  pub inside : is_outside ram size head.reserved ≡ false

pub has_head : (ram : Span) (size : ℕ) (left : Remaining) (head : Head) (next : Remaining)
    → head_in ram size left ≡ Ok (head, next) → HasHead ram size left head next
unfolding head_in
has_head ram size left head next h =
    let pc = then_read (pc_in left) _ (head, next) h in
    let mode = then_read (mode_in pc.0.1) _ (head, next) pc.2 in
    let order = then_read (option_in (codes "order ") mode.0.1) _ (head, next) mode.2 in
    let flags = then_read (flags_in order.0.1) _ (head, next) order.2 in
    let reserved = then_read (reserved_in ram size flags.0.1) _ (head, next) flags.2 in
    let two = pc_stands left pc.0.0 pc.0.1 pc.1 in
    let three = mode_stands pc.0.1 mode.0.0 mode.0.1 mode.1 in
    let four = option_stands (codes "order ") mode.0.1 order.0.0 order.0.1 order.1 in
    let five = flags_stand order.0.1 flags.0.0 flags.0.1 flags.1 in
    let six = reserved_stands ram size flags.0.1 reserved.0.0 reserved.0.1 reserved.1 in
    let read : Head = record {
      pc = pc.0.0;
      mode = mode.0.0;
      next_order = order.0.0;
      trapped_last = flags.0.0.0;
      halted = flags.0.0.1;
      reserved = reserved.0.0;
    } in
    let known : HasHead ram size left read reserved.0.1 = record {
      stands = five_lines (number_line (codes "pc ") pc.0.0) (mode_line mode.0.0)
          (option_line (codes "order ") order.0.0) (flags_line flags.0.0.0 flags.0.0.1)
          (option_line (codes "reserved ") reserved.0.0) left.text pc.0.1.text mode.0.1.text
          order.0.1.text flags.0.1.text reserved.0.1.text two.0 three four five six.0;
      even = two.1;
      placed = six.1;
      inside = six.2;
    } in
    let same = same_read read head reserved.0.1 next reserved.2 in
    subst (λ (x : Head). HasHead ram size left x next) same.0
    (subst (λ (x : Remaining). HasHead ram size left read x) same.1 known)
  where
    five_lines : (b c d e f : List ℕ) (u v w x y z : List ℕ)
        → u ≡ b ++ v → v ≡ c ++ w → w ≡ d ++ x → x ≡ e ++ y → y ≡ f ++ z
        → u ≡ concat (b ∷ c ∷ d ∷ e ∷ f ∷ []) ++ z
    five_lines b c d e f u v w x y z q r s i j = rw (q, r, s, i, j) (simp (append_assoc, append-nil))
