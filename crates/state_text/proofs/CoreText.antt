-- The lines of a hart that is read are the lines of that hart.
use Rattle.std.proofs.Common.{◌≡◌, ℕ, zero, suc, ◌+◌, ◌<◌, List, [], ◌∷◌, ◌++◌, Ok, length}
use Rattle.std.proofs.Common.{take, drop}
use Rattle.std.proofs.Common.{refl, sym, ap, subst, ◌∙◌, arith, append_assoc, get_or, map, Option, Some, None}
use Rattle.std.specs.Prelude.{◌^◌, codes, option_map}
use Rattle.std.specs.List.{concat, range_with_len}
use Rattle.std.proofs.lemmas.List.{take-append-drop, drop_more, drop_all}
use Rattle.std.proofs.lemmas.Nat.{from_le_bytes-to_le_bytes_8}
use Rattle.hart_words.specs.declared.map.Map.{Map}
use Rattle.hart_words.specs.declared.choices.Choices.{Choices}
use Rattle.csr_file.specs.Registers.{at}
use Rattle.csr_file.specs.Values.{packed_pmpcfg_of}
use Rattle.csr_file.specs.declared.profile.CsrProfile.{CsrProfile}
use Rattle.hart_step.specs.declared.state.Core.{Core}
use Rattle.state_text.specs.declared.head.Head.{Head}
use Rattle.state_text.specs.declared.numbers.TheConstants.{KINDS}
use Rattle.state_text.specs.Lines.{number_line, option_line, mode_line, flags_line}
use Rattle.state_text.specs.Numbers.{number_names, saved_csrs, numbers_of, registers_with, csrs_with}
use Rattle.state_text.specs.Reading.{Remaining, head_in, numbers_in}
use Rattle.state_text.specs.Texts.{number_lines, core_lines, block_with, core_with, core_in}
use Rattle.state_text.proofs.Fronts.{then_read, same_read, head_lines, HasHead, has_head}
use Rattle.state_text.proofs.NumberLines.{HasNumbers, has_numbers}

-- the end of a list, element by element
drop_is : (xs : List ℕ) (i count : ℕ) → i + count ≡ length xs
    → drop i xs ≡ map (λ k. get_or xs k 0) (range_with_len i count)
drop_is xs i zero all = drop_all i xs (omega arith)
drop_is xs i (suc count) all =
    drop_more xs i 0 (omega arith) ∙ ap (λ (l : List ℕ). get_or xs i 0 ∷ l) (drop_is xs (i + 1) count (omega arith))

pub same_numbers : (profile : CsrProfile) (numbers : List ℕ) → length numbers ≡ 70
    → ((k : ℕ) → get_or numbers k 0 < 2 ^ 64)
    → numbers_of (registers_with numbers) (csrs_with profile numbers) ≡ numbers
unfolding numbers_of csrs_with packed_pmpcfg_of at
same_numbers profile numbers len small =
    let csrs = csrs_with profile numbers in
    let low : packed_pmpcfg_of csrs 0
    ≡ get_or numbers 52 0 = from_le_bytes-to_le_bytes_8 (get_or numbers 52 0) (small 52) in
    let high : packed_pmpcfg_of csrs 8
    ≡ get_or numbers 53 0 = from_le_bytes-to_le_bytes_8 (get_or numbers 53 0) (small 53) in
    let beyond : drop 31 numbers ≡ map (λ k. get_or numbers k 0) (range_with_len 31 39) =
    drop_is numbers 31 39 (omega arith) in
    ap (λ (p : ℕ). take 31 numbers ++ (map (at csrs) saved_csrs
    ++ (p ∷ packed_pmpcfg_of csrs 8 ∷ map (λ entry. entry.addr) csrs.entries))) low
    ∙ ap (λ (p : ℕ). take 31 numbers ++ (map (at csrs) saved_csrs
    ++ (get_or numbers 52 0 ∷ p ∷ map (λ entry. entry.addr) csrs.entries))) high
    ∙ ap (λ (l : List ℕ). take 31 numbers ++ l) (sym beyond) ∙ take-append-drop 31 numbers

pub concat_both : (one other : List (List ℕ)) → concat (one ++ other) ≡ concat one ++ concat other
concat_both [] other = refl
concat_both (line ∷ one) other = ap (λ (t : List ℕ). line ++ t) (concat_both one other)
    ∙ sym (append_assoc line (concat one) (concat other))

same_address : (size : ℕ) (reserved : Option ℕ)
    → option_map (λ block. block.address) (option_map (block_with size) reserved) ≡ reserved
same_address size None = refl
same_address size (Some address) = refl

-- what is known of a hart that was read
pub record HasCore (profile : CsrProfile) (map : Map) (choices : Choices) (left : Remaining) (core : Core)
    (next : Remaining) : Type 0 where
  pub head : Head
  pub numbers : List ℕ
  pub before_numbers : Remaining
  pub has_head : HasHead map.ram choices.block_size left head before_numbers
  pub has_numbers : HasNumbers profile number_names KINDS [] numbers before_numbers next
  pub same : core_with profile map choices head numbers ≡ core

pub has_core : (profile : CsrProfile) (map : Map) (choices : Choices) (left : Remaining) (core : Core)
    (next : Remaining)
    → core_in profile map choices left ≡ Ok (core, next) → HasCore profile map choices left core next
unfolding core_in
has_core profile map choices left core next h =
    let head = then_read (head_in map.ram choices.block_size left) _ (core, next) h in
    let numbers = then_read (numbers_in profile number_names KINDS [] head.0.1) _ (core, next) head.2 in
    let same = same_read (core_with profile map choices head.0.0 numbers.0.0) core numbers.0.1 next numbers.2 in
    record {
      head = head.0.0;
      numbers = numbers.0.0;
      before_numbers = head.0.1;
      has_head = has_head map.ram choices.block_size left head.0.0 head.0.1 head.1;
      has_numbers = subst (HasNumbers profile number_names KINDS [] numbers.0.0 head.0.1) same.1
          (has_numbers profile number_names KINDS [] head.0.1 numbers.0.0 numbers.0.1 refl numbers.1);
      same = same.0;
    }

joined_text : (profile : CsrProfile) (map : Map) (choices : Choices) (head : Head) (numbers : List ℕ)
    → numbers_of (registers_with numbers) (csrs_with profile numbers) ≡ numbers
    → (text one two : List ℕ) → text ≡ concat (head_lines head) ++ one
    → one ≡ concat (number_lines number_names numbers) ++ two
    → text ≡ concat (core_lines (core_with profile map choices head numbers)) ++ two
unfolding core_lines
joined_text profile map choices head numbers same text one two first second =
    let lines = λ (reserved : Option ℕ) (numbers : List ℕ). number_line (codes "pc ") head.pc
    ∷ mode_line head.mode
    ∷ option_line (codes "order ") head.next_order
    ∷ flags_line head.trapped_last head.halted
    ∷ option_line (codes "reserved ") reserved
    ∷ number_lines number_names numbers in
    first ∙ ap (λ (t : List ℕ). concat (head_lines head) ++ t) second
    ∙ sym (append_assoc (concat (head_lines head)) (concat (number_lines number_names numbers)) two)
    ∙ ap (λ (t : List ℕ). t ++ two)
    (sym (concat_both (head_lines head) (number_lines number_names numbers))
    ∙ ap (λ (n : List ℕ). concat (lines head.reserved n)) (sym same)
    ∙ ap (λ (r : Option ℕ). concat (lines r (numbers_of (registers_with numbers) (csrs_with profile numbers))))
    (sym (same_address choices.block_size head.reserved)))

-- its lines stand at the front
pub core_stands : (profile : CsrProfile) (map : Map) (choices : Choices) (left : Remaining) (core : Core)
    (next : Remaining)
    → HasCore profile map choices left core next → left.text ≡ concat (core_lines core) ++ next.text
core_stands profile map choices left core next has =
    let same : has.numbers ≡ has.has_numbers.read = has.has_numbers.all in
    let numbers = same_numbers profile has.has_numbers.read has.has_numbers.len has.has_numbers.small in
    subst (λ (core : Core). left.text ≡ concat (core_lines core) ++ next.text) has.same
    (subst (λ (numbers : List ℕ). left.text
    ≡ concat (core_lines (core_with profile map choices has.head numbers)) ++ next.text) (sym same)
    (joined_text profile map choices has.head has.has_numbers.read numbers left.text has.before_numbers.text next.text
    has.has_head.stands has.has_numbers.stand))
