-- The text of a state that can be saved is read as that state.
use Rattle.std.proofs.Common.{◌≡◌, ℕ, zero, suc, ◌+◌, ◌<◌, ◌≤◌, Bool, false, List, [], ◌∷◌, ◌++◌, Ok, length}
use Rattle.std.proofs.Common.{append_assoc}
use Rattle.std.proofs.Common.{get_or}
use Rattle.std.proofs.Common.{refl, sym, ap, ap₂, subst, ◌∙◌, arith, map, Option, Some, None}
use Rattle.std.specs.Prelude.{◌^◌, ◌/◌, ◌%◌, ◌==◌, true, codes, option_map}
use Rattle.std.proofs.lemmas.Bool.Decides.{Decides-eqb}
use Rattle.hart_words.specs.Spans.{holds_all}
use Rattle.std.specs.List.{All, AllByRecursion, before_first, concat, position_or_len, range_with_len}
use Rattle.std.specs.Fmt.{digits}
use Rattle.std.proofs.lemmas.List.{append-nil}
use Rattle.std.proofs.lemmas.List.Elements.{recursion_from_All}
use Rattle.std.specs.Option.{ForSome}
use Rattle.std.proofs.lemmas.Bool.Decides.{nat_tests}
use Rattle.std.proofs.lemmas.List.FromFn.{fill_by_all}
use Rattle.hart_words.specs.declared.choices.Choices.{Choices}
use Rattle.hart_words.specs.declared.map.Map.{Map}
use Rattle.hart_words.specs.declared.span.Span.{Span}
use Rattle.hart_words.specs.declared.privilege.PmpEntry.{PmpEntry}
use Rattle.hart_words.specs.declared.registers.Registers.{Registers}
use Rattle.hart_words.specs.Memory.{Bytes}
use Rattle.rv_atomic.specs.declared.reservation.Block.{Block}
use Rattle.csr_file.specs.declared.csrs.Csrs.{Csrs}
use Rattle.csr_file.specs.Legal.{IsLegalValue}
use Rattle.csr_file.specs.Registers.{at, no_entry}
use Rattle.csr_file.specs.declared.profile.CsrProfile.{CsrProfile}
use Rattle.hart_step.specs.declared.state.Core.{Core}
use Rattle.state_text.specs.declared.head.Head.{Head}
use Rattle.state_text.specs.declared.numbers.TheConstants.{KINDS}
use Rattle.state_text.specs.Lines.{end_line, front_lines, harts_line, number_line}
use Rattle.state_text.specs.Numbers.{number_names, numbers_of, csrs_with}
use Rattle.state_text.specs.Reading.{Remaining, is_misplaced, is_outside}
use Rattle.state_text.specs.Memory.{memory_lines}
use Rattle.state_text.specs.Counts.{numeral_in, says_harts, second_line}
use Rattle.state_text.specs.Texts.{number_lines, core_lines, cores_lines, ram_lines, saved_text, block_with, core_with}
use Rattle.state_text.specs.Texts.{core_in, cores_in, lines_in, state_in}
use Rattle.hart_step.specs.Cores.{IsSound, IsSoundReservation}
use Rattle.hart_step.specs.Harts.{CoreHoldsWords}
use Rattle.state_text.specs.Laws.{IsOver, IsSaved, IsSavedCore, IsWhole, IsZeroOutside}
use Rattle.state_text.specs.declared.state.TheConstants.{MOST_HARTS}
use Rattle.state_text.proofs.SavedWords.{configuration_at, csr_value, register_value}
use Rattle.state_text.proofs.Fronts.{head_lines, read_as}
use Rattle.state_text.proofs.CoreText.{concat_both}
use Rattle.state_text.proofs.OneText.{same_ram, text_parts}
use Rattle.state_text.proofs.LinesBack.{IsHead, front_back, head_back, left_after, numbers_back}
use Rattle.state_text.proofs.BlocksBack.{memory_back}
use Rattle.state_text.proofs.ReadBack.{HasBack, AreFit, back_from, registers_from, csrs_from}

has_back : (core : Core) → IsSavedCore core → HasBack core.registers core.csrs
unfolding registers_from csrs_from
has_back core saved =
    let registers : core.registers ≡ registers_from r =
    ap (λ (values : List ℕ). with_values values) (fill_by_all r core.registers.values 31 0 saved.whole.registers
    (λ k h. refl)) in
    let csrs : core.csrs ≡ csrs_from profile v e =
    ap (λ (values : List ℕ). with_both values core.csrs.entries)
    (fill_by_all v core.csrs.values 21 0 saved.sound.legal.whole (λ k h. refl))
    ∙ ap (λ (entries : List PmpEntry). with_both (map v (range_with_len 0 21)) entries)
    (fill_by_all e core.csrs.entries 16 no_entry saved.whole.entries (λ k h. refl)) in
    let fit : AreFit profile r v e = record {
      registers = register_value core.registers saved.words.registers;
      csrs = csr_value core.csrs saved.words.csrs saved.sound.legal.whole;
      configurations = configuration_at core.csrs saved.words.configurations;
      stored = λ stored. subst (λ (c : Csrs). IsLegalValue profile stored (at c stored)) csrs
          (saved.sound.legal.values stored);
      entries = λ k h. saved.sound.legal.entries k no_entry (omega (arith, h, saved.whole.entries));
      missing = λ k none. saved.sound.legal.missing k none;
    } in
    subst (λ (g : Registers). HasBack g core.csrs) (sym registers)
    (subst (λ (c : Csrs). HasBack (registers_from r) c) (sym csrs) (back_from profile r v e fit))
  where
    profile : CsrProfile
    profile = core.csrs.profile

    r : ℕ → ℕ
    r k = get_or core.registers.values k 0

    v : ℕ → ℕ
    v k = get_or core.csrs.values k 0

    e : ℕ → PmpEntry
    e k = get_or core.csrs.entries k no_entry

    with_values : List ℕ → Registers
    with_values values = record { values = values }

    with_both : List ℕ → List PmpEntry → Csrs
    with_both values entries = record { values = values; entries = entries; profile = profile }

abbrev address_of : Option Block → Option ℕ
address_of block = option_map (λ block. block.address) block

-- what is known of a reserved block
record IsReserved (ram : Span) (size : ℕ) (block : Option Block) : Type 0 where
  placed : is_misplaced size (address_of block) ≡ false
  inside : is_outside ram size (address_of block) ≡ false
  small : ForSome (address_of block) (λ address. address < 2 ^ 64)
  same : option_map (block_with size) (address_of block) ≡ block

same_number : (a b : ℕ) → ◌≡◌ {A = Option ℕ} (Some a) (Some b) → a ≡ b
same_number a b is = cc

reserved : (ram : Span) (size : ℕ) (block : Option Block)
    → IsSoundReservation ram size (record { block = block }) → IsReserved ram size block
reserved ram size None sound =
    record { placed = refl; inside = refl; small = λ address is. absurd cc; same = refl }
reserved ram size (Some block) sound =
    let aligned : (block.address % size == 0) ≡ true = (Decides-eqb (block.address % size) 0).1 sound.aligned in
    let inside : holds_all ram block.address size ≡ true = sound.inside in
    let below : block.address < 2 ^ 64 = grind (arith, nat_tests, inside, ram.below) in
    record {
      placed = rw aligned refl;
      inside = rw inside refl;
      small = λ address is. subst (λ (n : ℕ). n < 2 ^ 64) (same_number block.address address is) below;
      same = ap (λ (size : ℕ). Some (block_with size block.address)) (sym sound.size);
    }

unfoldable head_of : Core → Head
head_of core = record {
  pc = core.pc;
  mode = core.mode;
  next_order = core.next_order;
  trapped_last = core.trapped_last;
  halted = core.halted;
  reserved = address_of core.reservation.block;
}

same_core : (core : Core) → IsSavedCore core
    → core_with core.csrs.profile core.map core.choices (head_of core) (numbers_of core.registers core.csrs) ≡ core
unfolding head_of
same_core core saved =
    let back = has_back core saved in
    let block = (reserved core.map.ram core.choices.block_size core.reservation.block saved.sound.reserved).same in
    let numbers = numbers_of core.registers core.csrs in
    ap (λ (g : Registers). made g (csrs_with core.csrs.profile numbers) (option_map (block_with core.choices.block_size)
    (address_of core.reservation.block)))
    back.registers_back
    ∙ ap (λ (c : Csrs). made core.registers c (option_map (block_with core.choices.block_size)
    (address_of core.reservation.block)))
    back.csrs_back
    ∙ ap (λ (b : Option Block). made core.registers core.csrs b) block
  where
    made : Registers → Csrs → Option Block → Core
    made registers csrs block = record {
      registers = registers;
      pc = core.pc;
      mode = core.mode;
      csrs = csrs;
      reservation = record { block = block };
      next_order = core.next_order;
      trapped_last = core.trapped_last;
      halted = core.halted;
      map = core.map;
      choices = core.choices;
    }

-- the lines of a hart are read as that hart
core_back : (core : Core) → IsSavedCore core → (left : Remaining) (rest : List ℕ)
    → left.text ≡ concat (core_lines core) ++ rest
    → (next : Remaining) × (next.text ≡ rest) × (core_in core.csrs.profile core.map core.choices left ≡ Ok (core, next))
unfolding core_in core_lines head_of
core_back core saved left rest stands =
    let ram = core.map.ram in
    let size = core.choices.block_size in
    let numbers = numbers_of core.registers core.csrs in
    let back = has_back core saved in
    let block = reserved ram size core.reservation.block saved.sound.reserved in
    let two = concat (number_lines number_names numbers) ++ rest in
    let is : IsHead ram size (head_of core) = record {
      pc = saved.words.pc;
      even = saved.sound.even;
      order = saved.whole.order;
      reserved = block.small;
      placed = block.placed;
      inside = block.inside;
    } in
    let split : left.text ≡ concat (head_lines (head_of core)) ++ two =
    stands ∙ ap (λ (t : List ℕ). t ++ rest)
    (concat_both (head_lines (head_of core)) (number_lines number_names numbers))
    ∙ append_assoc (concat (head_lines (head_of core))) (concat (number_lines number_names numbers)) rest in
    let first = head_back ram size (head_of core) left two is split in
    let after_head : Remaining = record { line = left.line + 1 + 1 + 1 + 1 + 1; text = two } in
    let second =
    numbers_back core.csrs.profile number_names KINDS numbers [] after_head rest refl back.len back.legal back.small
    refl in
    let next = left_after after_head 70 rest in
    (next, refl, rw (first, second) (ap (λ (c : Core). read_as c next) (same_core core saved)))

-- the lines of harts are read as those harts
cores_back : (profile : CsrProfile) (map : Map) (choices : Choices) (cores before : List Core)
    → AllByRecursion IsSavedCore cores
    → AllByRecursion (IsOver profile map choices) cores → (left : Remaining) (rest : List ℕ)
    → left.text ≡ concat (cores_lines cores) ++ rest
    → (next : Remaining) × (next.text ≡ rest)
    × (cores_in profile map choices (length cores) before left ≡ Ok (before ++ cores, next))
unfolding cores_in cores_lines
cores_back profile map choices [] before saved over left rest stands =
    (left, stands, ap (λ (cores : List Core). read_as cores left) (sym (append-nil before)))
cores_back profile map choices (core ∷ cores) before saved over left rest stands =
    let more = concat (cores_lines cores) ++ rest in
    let split : left.text ≡ concat (core_lines core) ++ more =
    stands ∙ ap (λ (t : List ℕ). t ++ rest) (concat_both (core_lines core) (cores_lines cores))
    ∙ append_assoc (concat (core_lines core)) (concat (cores_lines cores)) rest in
    let first = core_back core saved.0 left more split in
    let read : core_in profile map choices left ≡ read_as core first.0 =
    ap (λ (profile : CsrProfile). core_in profile map choices left) (sym over.0.profile_is)
    ∙ ap₂ (λ (map : Map) (choices : Choices). core_in core.csrs.profile map choices left) (sym over.0.map_is)
    (sym over.0.choices_are)
    ∙ first.2 in
    let others = cores_back profile map choices cores (before ++ core ∷ []) saved.1 over.1 first.0 rest first.1 in (
      others.0,
      others.1,
      rw read (others.2 ∙ ap (λ (cores : List Core). read_as cores others.0) (append_assoc before (core ∷ []) cores)),
    )

-- a byte that passes no test stands before the first that does
first_kept : (test : ℕ → Bool) (byte : ℕ) (others : List ℕ) → test byte ≡ false
    → before_first test (byte ∷ others) ≡ byte ∷ before_first test others
first_kept test byte others fails =
    let more : 1 + position_or_len test others ≡ suc (position_or_len test others) = omega arith in
    rw (fails, more) refl

-- the second line says how many harts there are: with one, it is that of its pc
said_back : (harts : ℕ) (rest more : List ℕ) → 1 ≤ harts → harts ≤ 8 → rest ≡ codes "pc " ++ more
    → says_harts harts (concat (front_lines harts) ++ rest) ≡ true
unfolding second_line numeral_in harts_line digits
said_back zero rest more some few is = absurd (omega arith)
said_back (suc zero) rest more some few is =
    let line : before_first (λ byte. byte == 10) rest
    ≡ 112 ∷ before_first (λ byte. byte == 10) (codes "c " ++ more) =
    ap (before_first (λ byte. byte == 10)) is ∙ first_kept (λ byte. byte == 10) 112 (codes "c " ++ more) refl in
    rw line refl
said_back (suc (suc zero)) rest more some few is = refl
said_back (suc (suc (suc zero))) rest more some few is = refl
said_back (suc (suc (suc (suc zero)))) rest more some few is = refl
said_back (suc (suc (suc (suc (suc zero))))) rest more some few is = refl
said_back (suc (suc (suc (suc (suc (suc zero)))))) rest more some few is = refl
said_back (suc (suc (suc (suc (suc (suc (suc zero))))))) rest more some few is = refl
said_back (suc (suc (suc (suc (suc (suc (suc (suc zero)))))))) rest more some few is = refl
said_back (suc (suc (suc (suc (suc (suc (suc (suc (suc n))))))))) rest more some few is = absurd (omega arith)

-- the lines of harts begin with a pc
first_pc : (cores : List Core) (rest : List ℕ) → 1 ≤ length cores
    → (more : List ℕ) × (concat (cores_lines cores) ++ rest ≡ codes "pc " ++ more)
unfolding cores_lines core_lines number_line
first_pc [] rest some = absurd (omega arith)
first_pc (core ∷ cores) rest some = (_, refl)

-- harts as code has them can be saved
pub saved_set : (profile : CsrProfile) (map : Map) (choices : Choices) (cores : List Core) (bytes : Bytes)
    → 0 < length cores
    → length cores ≤ MOST_HARTS → All IsSound cores → All CoreHoldsWords cores → All IsWhole cores
    → All (IsOver profile map choices) cores → ((address : ℕ) → bytes address < 2 ^ 8) → IsZeroOutside map.ram bytes
    → IsSaved profile map choices cores bytes
saved_set profile map choices cores bytes some few sound words whole over small outside = record {
  some = some;
  few = few;
  each = λ k d within. record { sound = sound k d within; words = words k d within; whole = whole k d within };
  over = over;
  small = small;
  outside = outside;
}

pub text_back : (profile : CsrProfile) (map : Map) (choices : Choices) (cores : List Core) (bytes : Bytes)
    → IsSaved profile map choices cores bytes
    → state_in profile map choices (length cores) (saved_text cores bytes) ≡ Ok (cores, bytes)
unfolding state_in lines_in
text_back profile map choices cores bytes saved =
    let ram = map.ram in
    let text = saved_text cores bytes in
    let some : 1 ≤ length cores = omega (arith, saved.some) in
    let over = recursion_from_All (IsOver profile map choices) cores saved.over in
    let three = concat (ram_lines cores bytes ++ end_line ∷ []) in
    let two = concat (cores_lines cores) ++ three in
    let parts : text ≡ concat (front_lines (length cores)) ++ two = text_parts cores bytes in
    let begins = first_pc cores three some in
    let said : says_harts (length cores) text ≡ true =
    ap (λ (t : List ℕ). says_harts (length cores) t) parts
    ∙ said_back (length cores) two begins.0 some saved.few begins.1 in
    let front = front_back (length cores) (record { line = 1; text = text }) two parts in
    let read =
    cores_back profile map choices cores []
    (recursion_from_All IsSavedCore cores saved.each) over front.0 three front.1 in
    let stands : read.0.text ≡ concat (memory_lines bytes ram.base (ram.size / 16) ++ end_line ∷ []) =
    read.1 ∙ ap (λ (lines : List (List ℕ)). concat (lines ++ end_line ∷ []))
    (same_ram profile map choices cores bytes some over) in
    let third =
    memory_back ram (length read.0.text + 1) 0 (λ _. 0) bytes read.0 ram.base (ram.size / 16)
    saved.small stands (omega arith) (omega arith) (omega (arith, ram.whole_base)) (omega arith) (omega
    (arith, ram.whole_size))
    (λ a below. sym (saved.outside a (grind (arith, nat_tests, below)))) (λ a at_least. refl)
    (λ a beyond. saved.outside a (grind (arith, nat_tests, beyond))) in
    rw (said, front.2, read.2, third) refl
