-- A text that is read is the text of the state that it says.
use Rattle.std.proofs.Common.{◌≡◌, ◌∙◌, ℕ, zero, suc, ◌+◌, ◌≤◌, Bool, true, false, List, [], ◌∷◌, ◌++◌, Ok, Err}
use Rattle.std.proofs.Common.{Result, length, refl, sym, ap, subst, arith, append_assoc}
use Rattle.std.specs.Prelude.{◌/◌, if◌then◌else◌}
use Rattle.std.specs.List.{AllByRecursion, concat}
use Rattle.std.proofs.lemmas.List.{append-nil}
use Rattle.hart_words.specs.declared.map.Map.{Map}
use Rattle.hart_words.specs.declared.choices.Choices.{Choices}
use Rattle.hart_words.specs.Memory.{Bytes}
use Rattle.csr_file.specs.declared.profile.CsrProfile.{CsrProfile}
use Rattle.hart_step.specs.declared.state.Core.{Core}
use Rattle.hart_step.specs.Cores.{IsSound}
use Rattle.state_text.specs.declared.fault.StateFault.{StateFault}
use Rattle.state_text.specs.declared.fault.StateFault.TheVariants.{WrongHarts}
use Rattle.state_text.specs.Counts.{says_harts}
use Rattle.state_text.specs.Laws.{IsOver}
use Rattle.state_text.specs.Lines.{end_line, front_lines}
use Rattle.state_text.specs.Reading.{Remaining, front_in}
use Rattle.state_text.specs.Memory.{memory_lines, memory_in}
use Rattle.state_text.specs.Texts.{core_lines, cores_lines, ram_lines, saved_lines, saved_text, core_in, cores_in}
use Rattle.state_text.specs.Texts.{lines_in, state_in}
use Rattle.state_text.proofs.Fronts.{front_stands, joined, same_read, then_read}
use Rattle.state_text.proofs.CoreText.{concat_both, core_stands, has_core}
use Rattle.state_text.proofs.Blocks.{has_memory}
use Rattle.state_text.proofs.Sound.{over_core, sound_core}

-- what is known of harts that were read after some
pub record HasCores (profile : CsrProfile) (map : Map) (choices : Choices) (harts : ℕ) (before cores : List Core)
    (left next : Remaining)
    : Type 0 where
  pub read : List Core
  pub all : cores ≡ before ++ read
  pub count : length read ≡ harts
  pub stand : left.text ≡ concat (cores_lines read) ++ next.text
  pub sound : AllByRecursion IsSound read
  pub over : AllByRecursion (IsOver profile map choices) read

pub has_cores : (profile : CsrProfile) (map : Map) (choices : Choices) (harts : ℕ) (before : List Core)
    (left : Remaining) (cores : List Core)
    (next : Remaining) → cores_in profile map choices harts before left ≡ Ok (cores, next)
    → HasCores profile map choices harts before cores left next
unfolding cores_in cores_lines
has_cores profile map choices zero before left cores next h =
    let read = same_read before cores left next h in
    record {
      read = [];
      all = sym read.0 ∙ sym (append-nil before);
      count = refl;
      stand = ap (λ (x : Remaining). x.text) read.1;
      sound = tt;
      over = tt;
    }
has_cores profile map choices (suc harts) before left cores next h =
    let first = then_read (core_in profile map choices left) _ (cores, next) h in
    let core = has_core profile map choices left first.0.0 first.0.1 first.1 in
    let more = has_cores profile map choices harts (before ++ first.0.0 ∷ []) first.0.1 cores next first.2 in
    record {
      read = first.0.0 ∷ more.read;
      all = more.all ∙ append_assoc before (first.0.0 ∷ []) more.read;
      count = omega (arith, more.count);
      stand = joined left.text (concat (core_lines first.0.0)) first.0.1.text (concat (cores_lines more.read))
          next.text (core_stands profile map choices left first.0.0 first.0.1 core) more.stand
          ∙ ap (λ (t : List ℕ). t ++ next.text) (sym (concat_both (core_lines first.0.0) (cores_lines more.read)));
      sound = (sound_core profile map choices left first.0.0 first.0.1 core, more.sound);
      over = (over_core profile map choices left first.0.0 first.0.1 core, more.over);
    }

-- what is known of a state that was read
pub record HasState (profile : CsrProfile) (map : Map) (choices : Choices) (harts : ℕ) (text : List ℕ)
    (cores : List Core) (bytes : Bytes)
    : Type 0 where
  pub before_cores : Remaining
  pub before_memory : Remaining
  pub front : text ≡ concat (front_lines harts) ++ before_cores.text
  pub has_cores : HasCores profile map choices harts [] cores before_cores before_memory
  pub memory : memory_in map.ram (length before_memory.text + 1) 0 (λ _. 0) before_memory ≡ Ok bytes

pub has_state : (profile : CsrProfile) (map : Map) (choices : Choices) (harts : ℕ) (text : List ℕ)
    (cores : List Core) (bytes : Bytes)
    → state_in profile map choices harts text ≡ Ok (cores, bytes) → HasState profile map choices harts text cores bytes
unfolding state_in lines_in
has_state profile map choices harts text cores bytes h =
    let start : Remaining = record { line = 1; text = text } in
    let lines = said (says_harts harts text) (lines_in profile map choices harts start) h in
    let front = then_read (front_in harts start) _ (cores, bytes) lines in
    let read = then_read (cores_in profile map choices harts [] front.0.1) _ (cores, bytes) front.2 in
    let memory =
    then_read (memory_in map.ram (length read.0.1.text + 1) 0 (λ _. 0) read.0.1) _ (cores, bytes) read.2 in
    let same = both_same read.0.0 cores memory.0 bytes memory.2 in
    record {
      before_cores = front.0.1;
      before_memory = read.0.1;
      front = front_stands harts start front.0.0 front.0.1 front.1;
      has_cores = subst (λ (cores : List Core). HasCores profile map choices harts [] cores front.0.1 read.0.1) same.0
          (has_cores profile map choices harts [] front.0.1 read.0.0 read.0.1 read.1);
      memory = memory.1 ∙ ap done same.1;
    }
  where
    done : Bytes → Result Bytes StateFault
    done bytes = Ok bytes

    state : List Core → Bytes → Result (List Core × Bytes) StateFault
    state cores bytes = Ok (cores, bytes)

    said : (test : Bool) (found : Result (List Core × Bytes) StateFault)
        → (if test then found else Err WrongHarts) ≡ state cores bytes → found ≡ state cores bytes
    said true found h = h
    said false found h = absurd cc

    both_same : (cores others : List Core) (bytes more : Bytes) → state cores bytes ≡ state others more
        → (cores ≡ others) × (bytes ≡ more)
    both_same cores others bytes more h =
        let p : (cores, bytes) ≡ (others, more) = cc in
        (ap (λ (q : List Core × Bytes). q.0) p, ap (λ (q : List Core × Bytes). q.1) p)

-- harts over one map have its RAM
pub same_ram : (profile : CsrProfile) (map : Map) (choices : Choices) (cores : List Core) (bytes : Bytes)
    → 1 ≤ length cores
    → AllByRecursion (IsOver profile map choices) cores
    → ram_lines cores bytes ≡ memory_lines bytes map.ram.base (map.ram.size / 16)
same_ram profile map choices [] bytes some over = absurd (omega arith)
same_ram profile map choices (core ∷ cores) bytes some over =
    ap (λ (map : Map). memory_lines bytes map.ram.base (map.ram.size / 16)) over.0.map_is

-- the text in its three parts
pub text_parts : (cores : List Core) (bytes : Bytes)
    → saved_text cores bytes
    ≡ concat (front_lines (length cores)) ++ (concat (cores_lines cores)
    ++ concat (ram_lines cores bytes ++ end_line ∷ []))
unfolding saved_lines
text_parts cores bytes =
    let memory = ram_lines cores bytes ++ end_line ∷ [] in
    concat_both (front_lines (length cores)) (cores_lines cores ++ memory)
    ∙ ap (λ (t : List ℕ). concat (front_lines (length cores)) ++ t) (concat_both (cores_lines cores) memory)

joined_text : (cores : List Core) (bytes : Bytes) (harts : ℕ) (lines : List (List ℕ)) → length cores ≡ harts
    → ram_lines cores bytes ≡ lines → (text one two : List ℕ) → text ≡ concat (front_lines harts) ++ one
    → one ≡ concat (cores_lines cores) ++ two → two ≡ concat (lines ++ end_line ∷ []) → text ≡ saved_text cores bytes
joined_text cores bytes harts lines count same text one two first second third =
    first ∙ ap (λ (n : ℕ). concat (front_lines n) ++ one) (sym count)
    ∙ ap (λ (t : List ℕ). concat (front_lines (length cores)) ++ t)
    (second ∙ ap (λ (t : List ℕ). concat (cores_lines cores) ++ t)
    (third ∙ ap (λ (lines : List (List ℕ)). concat (lines ++ end_line ∷ [])) (sym same)))
    ∙ sym (text_parts cores bytes)

pub one_text : (profile : CsrProfile) (map : Map) (choices : Choices) (harts : ℕ) (text : List ℕ) (cores : List Core)
    (bytes : Bytes)
    → 1 ≤ harts → state_in profile map choices harts text ≡ Ok (cores, bytes) → text ≡ saved_text cores bytes
one_text profile map choices harts text cores bytes some h =
    let has = has_state profile map choices harts text cores bytes h in
    let read = has.has_cores in
    let whole = map.ram.whole_size in
    let memory =
    has_memory map.ram (length has.before_memory.text + 1) 0 (λ _. 0) has.before_memory bytes map.ram.base
    (map.ram.size / 16) has.memory (omega (arith, whole)) (omega (arith, map.ram.whole_base))
    (λ a at_least in_ram. in_ram) (λ a at_least. refl) in
    let same : cores ≡ read.read = read.all in
    let ram = same_ram profile map choices read.read bytes (omega (arith, some, read.count)) read.over in
    subst (λ (cores : List Core). text ≡ saved_text cores bytes) (sym same)
    (joined_text read.read bytes harts _ read.count ram text has.before_cores.text has.before_memory.text has.front
    read.stand memory.stands)
