-- A test that tells states of harts apart.
use Rattle.std.proofs.Common.{◌≡◌, ℕ, ◌==◌, Bool, true, false, List, [], ◌∷◌, Option, Some, None, refl, ap}
use Rattle.std.proofs.Common.{IsTrue, subst}
use Rattle.std.proofs.Props.{props}
use Rattle.std.specs.Prelude.{◌&&◌}
use Rattle.std.specs.Bool.{Decides}
use Rattle.std.proofs.lemmas.Bool.{and_from, and_parts, eq-eqb, eqb-true}
use Rattle.hart_words.specs.declared.map.Map.{Map}
use Rattle.hart_words.specs.declared.span.Span.{Span}
use Rattle.hart_words.specs.declared.privilege.Mode.{Mode}
use Rattle.hart_words.specs.declared.privilege.Mode.TheVariants.{User, Supervisor, Machine}
use Rattle.hart_words.specs.declared.privilege.PmpEntry.{PmpEntry}
use Rattle.hart_words.specs.declared.registers.Registers.{Registers}
use Rattle.hart_words.specs.declared.options.Misaligned.{Misaligned}
use Rattle.hart_words.specs.declared.options.Misaligned.TheVariants.{Trap, Done}
use Rattle.hart_words.specs.declared.options.TrapValues.{TrapValues}
use Rattle.hart_words.specs.declared.options.TrapValues.TheVariants.{Value, ZeroFor}
use Rattle.hart_words.specs.declared.options.TrapValues.TheVariants as values
use Rattle.hart_words.specs.declared.options.CauseSet.{CauseSet}
use Rattle.hart_words.specs.declared.options.InsnBits.{InsnBits}
use Rattle.hart_words.specs.declared.options.InsnBits.TheVariants.{Full, Length}
use Rattle.hart_words.specs.declared.options.DeviceFaults.{DeviceFaults}
use Rattle.hart_words.specs.declared.options.DeviceFaults.TheVariants.{Never, ByRow}
use Rattle.hart_words.specs.declared.options.Marks.{Marks}
use Rattle.hart_words.specs.declared.options.Marks.TheVariants.{Fault, Set}
use Rattle.hart_words.specs.declared.choices.Choices.{Choices}
use Rattle.hart_words.specs.BlockSizes.{is_block_size}
use Rattle.hart_words.specs.Choices.{OtherChoices, choices_with}
use Rattle.hart_words.proofs.Maps.{same_map}
use Rattle.hart_words.proofs.Spans.{same_span}
use Rattle.csr_file.specs.declared.csrs.Csrs.{Csrs}
use Rattle.csr_file.specs.declared.profile.CsrProfile.{CsrProfile}
use Rattle.csr_file.specs.declared.profile.Presence.{Presence}
use Rattle.csr_file.specs.declared.profile.Presence.TheVariants.{Kept, FromRow, Absent, MayTrap}
use Rattle.csr_file.specs.declared.profile.EntryCount.{EntryCount}
use Rattle.csr_file.specs.declared.profile.EntryCount.TheVariants.{Zero, Eight, Sixteen}
use Rattle.rv_atomic.specs.declared.reservation.Block.{Block}
use Rattle.rv_atomic.specs.declared.reservation.Reservation.{Reservation}
use Rattle.hart_step.specs.declared.state.Core.{Core}
use Rattle.verdict_join.specs.Joins.{Sameness}
use Rattle.verdict_join.specs.Laws.{TellsApart}

-- a test of two values, which tells whether they are equal
abbrev Tested : {A : Type 0} → A → A → Type 0
Tested one other = (test : Bool) × Decides test (one ≡ other)

abbrev Test : Type 0 → Type 0
Test A = (one other : A) → Tested one other

-- equal just where two parts are
both : {A B C : Type 0} {a a' : A} {b b' : B} {c c' : C} → Tested a a' → Tested b b' → (a ≡ a' → b ≡ b' → c ≡ c')
    → (c ≡ c' → (a ≡ a') × (b ≡ b')) → Tested c c'
both first second made parts = (
  first.0 && second.0,
  (
    λ is. made (first.1.0 (and_parts _ _ is).0) (second.1.0 (and_parts _ _ is).1),
    λ same. and_from _ _ (first.1.1 (parts same).0) (second.1.1 (parts same).1),
  ),
)

-- or where one part is
only : {A C : Type 0} {a a' : A} {c c' : C} → Tested a a' → (a ≡ a' → c ≡ c') → (c ≡ c' → a ≡ a') → Tested c c'
only first made part = (first.0, (λ is. made (first.1.0 is), λ same. first.1.1 (part same)))

number_test : Test ℕ
number_test one other = (one == other, (eqb-true one other, eq-eqb one other))

bool_test : Test Bool
bool_test true true = (true, (λ is. refl, λ same. refl))
bool_test true false = (false, (λ is. cc, λ same. cc))
bool_test false true = (false, (λ is. cc, λ same. cc))
bool_test false false = (true, (λ is. refl, λ same. refl))

option_test : {A : Type 0} → Test A → Test (Option A)
option_test test None None = (true, (λ is. refl, λ same. refl))
option_test test None (Some b) = (false, (λ is. cc, λ same. cc))
option_test test (Some a) None = (false, (λ is. cc, λ same. cc))
option_test test (Some a) (Some b) = only (test a b) (ap Some) (λ same. cc)

list_test : {A : Type 0} → Test A → Test (List A)
list_test test [] [] = (true, (λ is. refl, λ same. refl))
list_test test [] (y ∷ ys) = (false, (λ is. cc, λ same. cc))
list_test test (x ∷ xs) [] = (false, (λ is. cc, λ same. cc))
list_test test (x ∷ xs) (y ∷ ys) =
    both (test x y) (list_test test xs ys) (λ first rest. rw (first, rest) refl) (λ same. (cc, cc))

abbrev registers_with : List ℕ → Registers
registers_with values = record { values = values }

registers_test : Test Registers
registers_test one other =
    only (list_test number_test one.values other.values) (ap registers_with)
    (ap (λ (registers : Registers). registers.values))

mode_test : Test Mode
mode_test User User = (true, (λ is. refl, λ same. refl))
mode_test User Supervisor = (false, (λ is. cc, λ same. cc))
mode_test User Machine = (false, (λ is. cc, λ same. cc))
mode_test Supervisor User = (false, (λ is. cc, λ same. cc))
mode_test Supervisor Supervisor = (true, (λ is. refl, λ same. refl))
mode_test Supervisor Machine = (false, (λ is. cc, λ same. cc))
mode_test Machine User = (false, (λ is. cc, λ same. cc))
mode_test Machine Supervisor = (false, (λ is. cc, λ same. cc))
mode_test Machine Machine = (true, (λ is. refl, λ same. refl))

abbrev entry_with : ℕ → ℕ → PmpEntry
entry_with cfg addr = record { cfg = cfg; addr = addr }

same_entry : (one other : PmpEntry) → one.cfg ≡ other.cfg → one.addr ≡ other.addr → one ≡ other
same_entry one other cfg addr =
    let equal : entry_with one.cfg one.addr ≡ entry_with other.cfg other.addr = rw (cfg, addr) refl in equal

entry_test : Test PmpEntry
entry_test one other =
    both (number_test one.cfg other.cfg) (number_test one.addr other.addr) (same_entry one other)
    (λ same. (ap (λ (entry : PmpEntry). entry.cfg) same, ap (λ (entry : PmpEntry). entry.addr) same))

presence_test : Test Presence
presence_test Kept Kept = (true, (λ is. refl, λ same. refl))
presence_test Kept FromRow = (false, (λ is. cc, λ same. cc))
presence_test Kept Absent = (false, (λ is. cc, λ same. cc))
presence_test Kept MayTrap = (false, (λ is. cc, λ same. cc))
presence_test FromRow Kept = (false, (λ is. cc, λ same. cc))
presence_test FromRow FromRow = (true, (λ is. refl, λ same. refl))
presence_test FromRow Absent = (false, (λ is. cc, λ same. cc))
presence_test FromRow MayTrap = (false, (λ is. cc, λ same. cc))
presence_test Absent Kept = (false, (λ is. cc, λ same. cc))
presence_test Absent FromRow = (false, (λ is. cc, λ same. cc))
presence_test Absent Absent = (true, (λ is. refl, λ same. refl))
presence_test Absent MayTrap = (false, (λ is. cc, λ same. cc))
presence_test MayTrap Kept = (false, (λ is. cc, λ same. cc))
presence_test MayTrap FromRow = (false, (λ is. cc, λ same. cc))
presence_test MayTrap Absent = (false, (λ is. cc, λ same. cc))
presence_test MayTrap MayTrap = (true, (λ is. refl, λ same. refl))

count_test : Test EntryCount
count_test Zero Zero = (true, (λ is. refl, λ same. refl))
count_test Zero Eight = (false, (λ is. cc, λ same. cc))
count_test Zero Sixteen = (false, (λ is. cc, λ same. cc))
count_test Eight Zero = (false, (λ is. cc, λ same. cc))
count_test Eight Eight = (true, (λ is. refl, λ same. refl))
count_test Eight Sixteen = (false, (λ is. cc, λ same. cc))
count_test Sixteen Zero = (false, (λ is. cc, λ same. cc))
count_test Sixteen Eight = (false, (λ is. cc, λ same. cc))
count_test Sixteen Sixteen = (true, (λ is. refl, λ same. refl))

-- two statements are both true, by tests of each
paired : {P Q : Type 0} → ((test : Bool) × Decides test P) → ((test : Bool) × Decides test Q)
    → (test : Bool) × Decides test (P × Q)
paired first second = (
  first.0 && second.0,
  (
    λ is. (first.1.0 (and_parts _ _ is).0, second.1.0 (and_parts _ _ is).1),
    λ both. and_from _ _ (first.1.1 both.0) (second.1.1 both.1),
  ),
)

-- the parts of a profile, two by two
abbrev ProfileParts : CsrProfile → CsrProfile → Type 0
ProfileParts one other =
    (one.masks ≡ other.masks)
    × ((one.fixed ≡ other.fixed)
    × ((one.presences ≡ other.presences)
    × ((one.entry_count ≡ other.entry_count)
    × ((one.entry_bits ≡ other.entry_bits) × (one.lines ≡ other.lines)))))

abbrev profile_with : List ℕ → List ℕ → List Presence → EntryCount → ℕ → ℕ → CsrProfile
profile_with masks fixed presences count bits lines = record {
  masks = masks;
  fixed = fixed;
  presences = presences;
  entry_count = count;
  entry_bits = bits;
  lines = lines;
}

same_profile : (one other : CsrProfile) → ProfileParts one other → one ≡ other
same_profile one other parts =
    let equal : profile_with one.masks one.fixed one.presences one.entry_count one.entry_bits one.lines
    ≡ profile_with other.masks other.fixed other.presences other.entry_count other.entry_bits other.lines =
    rw (parts.0, parts.1.0, parts.1.1.0, parts.1.1.1.0, parts.1.1.1.1.0, parts.1.1.1.1.1) refl in
    equal

profile_test : Test CsrProfile
profile_test one other =
    let parts =
    paired (list_test number_test one.masks other.masks)
    (paired (list_test number_test one.fixed other.fixed)
    (paired (list_test presence_test one.presences other.presences)
    (paired (count_test one.entry_count other.entry_count)
    (paired (number_test one.entry_bits other.entry_bits) (number_test one.lines other.lines))))) in
    (parts.0, (λ is. same_profile one other (parts.1.0 is), λ same. parts.1.1 (parts_of same)))
  where
    parts_of : one ≡ other → ProfileParts one other
    parts_of same = (
      ap (λ (profile : CsrProfile). profile.masks) same,
      (
        ap (λ (profile : CsrProfile). profile.fixed) same,
        (
          ap (λ (profile : CsrProfile). profile.presences) same,
          (
            ap (λ (profile : CsrProfile). profile.entry_count) same,
            (
              ap (λ (profile : CsrProfile). profile.entry_bits) same,
              ap (λ (profile : CsrProfile). profile.lines) same,
            ),
          ),
        ),
      ),
    )

abbrev csrs_with : List ℕ → List PmpEntry → CsrProfile → Csrs
csrs_with values entries profile = record { values = values; entries = entries; profile = profile }

abbrev CsrsParts : Csrs → Csrs → Type 0
CsrsParts one other = (one.values ≡ other.values) × ((one.entries ≡ other.entries) × (one.profile ≡ other.profile))

same_csrs : (one other : Csrs) → CsrsParts one other → one ≡ other
same_csrs one other parts =
    let equal : csrs_with one.values one.entries one.profile ≡ csrs_with other.values other.entries other.profile =
    rw (parts.0, parts.1.0, parts.1.1) refl in
    equal

csrs_test : Test Csrs
csrs_test one other =
    let parts =
    paired (list_test number_test one.values other.values)
    (paired (list_test entry_test one.entries other.entries) (profile_test one.profile other.profile)) in
    (parts.0, (λ is. same_csrs one other (parts.1.0 is), λ same. parts.1.1 (parts_of same)))
  where
    parts_of : one ≡ other → CsrsParts one other
    parts_of same = (
      ap (λ (csrs : Csrs). csrs.values) same,
      (ap (λ (csrs : Csrs). csrs.entries) same, ap (λ (csrs : Csrs). csrs.profile) same),
    )

abbrev block_with : ℕ → ℕ → Block
block_with address size = record { address = address; size = size }

same_block : (one other : Block) → one.address ≡ other.address → one.size ≡ other.size → one ≡ other
same_block one other address size =
    let equal : block_with one.address one.size ≡ block_with other.address other.size = rw (address, size) refl in
    equal

block_test : Test Block
block_test one other =
    both (number_test one.address other.address) (number_test one.size other.size) (same_block one other)
    (λ same. (ap (λ (block : Block). block.address) same, ap (λ (block : Block). block.size) same))

abbrev reservation_with : Option Block → Reservation
reservation_with block = record { block = block }

reservation_test : Test Reservation
reservation_test one other =
    only (option_test block_test one.block other.block) (ap reservation_with)
    (ap (λ (reservation : Reservation). reservation.block))

span_test : Test Span
span_test one other =
    both (number_test one.base other.base) (number_test one.size other.size) (same_span one other)
    (λ same. (ap (λ (span : Span). span.base) same, ap (λ (span : Span). span.size) same))

map_test : Test Map
map_test one other =
    both (span_test one.ram other.ram) (list_test (option_test span_test) one.io other.io) (same_map one other)
    (λ same. (ap (λ (map : Map). map.ram) same, ap (λ (map : Map). map.io) same))

misaligned_test : Test Misaligned
misaligned_test Trap Trap = (true, (λ is. refl, λ same. refl))
misaligned_test Trap Done = (false, (λ is. cc, λ same. cc))
misaligned_test Done Trap = (false, (λ is. cc, λ same. cc))
misaligned_test Done Done = (true, (λ is. refl, λ same. refl))

abbrev causes_with : ℕ → CauseSet
causes_with codes = record { codes = codes }

causes_test : Test CauseSet
causes_test one other = only (number_test one.codes other.codes) (ap causes_with) (ap (λ (causes : CauseSet). causes.codes))

trap_values_test : Test TrapValues
trap_values_test Value Value = (true, (λ is. refl, λ same. refl))
trap_values_test Value values.Zero = (false, (λ is. cc, λ same. cc))
trap_values_test Value (ZeroFor causes) = (false, (λ is. cc, λ same. cc))
trap_values_test values.Zero Value = (false, (λ is. cc, λ same. cc))
trap_values_test values.Zero values.Zero = (true, (λ is. refl, λ same. refl))
trap_values_test values.Zero (ZeroFor causes) = (false, (λ is. cc, λ same. cc))
trap_values_test (ZeroFor causes) Value = (false, (λ is. cc, λ same. cc))
trap_values_test (ZeroFor causes) values.Zero = (false, (λ is. cc, λ same. cc))
trap_values_test (ZeroFor one) (ZeroFor other) = only (causes_test one other) (ap ZeroFor) (λ same. cc)

insn_bits_test : Test InsnBits
insn_bits_test Full Full = (true, (λ is. refl, λ same. refl))
insn_bits_test Full Length = (false, (λ is. cc, λ same. cc))
insn_bits_test Length Full = (false, (λ is. cc, λ same. cc))
insn_bits_test Length Length = (true, (λ is. refl, λ same. refl))

device_faults_test : Test DeviceFaults
device_faults_test Never Never = (true, (λ is. refl, λ same. refl))
device_faults_test Never ByRow = (false, (λ is. cc, λ same. cc))
device_faults_test ByRow Never = (false, (λ is. cc, λ same. cc))
device_faults_test ByRow ByRow = (true, (λ is. refl, λ same. refl))

marks_test : Test Marks
marks_test Fault Fault = (true, (λ is. refl, λ same. refl))
marks_test Fault Set = (false, (λ is. cc, λ same. cc))
marks_test Set Fault = (false, (λ is. cc, λ same. cc))
marks_test Set Set = (true, (λ is. refl, λ same. refl))

-- the parts of choices, two by two
abbrev ChoiceParts : Choices → Choices → Type 0
ChoiceParts one other =
    (one.misaligned ≡ other.misaligned)
    × ((one.trap_values ≡ other.trap_values)
    × ((one.marks ≡ other.marks)
    × ((one.bits ≡ other.bits)
    × ((one.insn_bits ≡ other.insn_bits)
    × ((one.device_faults ≡ other.device_faults) × (one.block_size ≡ other.block_size))))))

abbrev others_with : Misaligned → TrapValues → Marks → Bool → InsnBits → DeviceFaults → OtherChoices
others_with misaligned trap_values marks bits insn_bits device_faults = record {
  misaligned = misaligned;
  trap_values = trap_values;
  marks = marks;
  bits = bits;
  insn_bits = insn_bits;
  device_faults = device_faults;
}

block_prop : (size : ℕ) → IsProp (IsTrue (is_block_size size))
block_prop size = Prim.hlevel props

same_with : (others : OtherChoices) (size size' : ℕ) → size ≡ size' → (one : is_block_size size ≡ true)
    → (other : is_block_size size' ≡ true) → choices_with others size one ≡ choices_with others size' other
same_with others size size' s one =
    let P : ℕ → Type 0 = λ x. (other : is_block_size x ≡ true)
    → choices_with others size one ≡ choices_with others x other in
    subst P s (λ other. ap (choices_with others size) (block_prop size one other))

-- choices are what they say
same_choices : (one other : Choices) → ChoiceParts one other → one ≡ other
same_choices one other parts =
    let ones = others_with one.misaligned one.trap_values one.marks one.bits one.insn_bits one.device_faults in
    let others : ones
    ≡ others_with other.misaligned other.trap_values other.marks other.bits other.insn_bits other.device_faults =
    rw (parts.0, parts.1.0, parts.1.1.0, parts.1.1.1.0, parts.1.1.1.1.0, parts.1.1.1.1.1.0) refl in
    let P : OtherChoices → Type 0 = λ x. one ≡ choices_with x other.block_size other.block in
    subst P others (same_with ones one.block_size other.block_size parts.1.1.1.1.1.1 one.block other.block)

-- the parts of a core, two by two
abbrev FirstParts : Core → Core → Type 0
FirstParts one other =
    (one.registers ≡ other.registers) × ((one.pc ≡ other.pc) × ((one.mode ≡ other.mode) × (one.csrs ≡ other.csrs)))

abbrev LastParts : Core → Core → Type 0
LastParts one other =
    (one.reservation ≡ other.reservation)
    × ((one.next_order ≡ other.next_order)
    × ((one.trapped_last ≡ other.trapped_last)
    × ((one.halted ≡ other.halted) × ((one.map ≡ other.map) × (one.choices ≡ other.choices)))))

choices_test : Test Choices
choices_test one other =
    let parts =
    paired (misaligned_test one.misaligned other.misaligned)
    (paired (trap_values_test one.trap_values other.trap_values)
    (paired (marks_test one.marks other.marks)
    (paired (bool_test one.bits other.bits)
    (paired (insn_bits_test one.insn_bits other.insn_bits)
    (paired (device_faults_test one.device_faults other.device_faults)
    (number_test one.block_size other.block_size)))))) in
    (parts.0, (λ is. same_choices one other (parts.1.0 is), λ same. parts.1.1 (parts_of same)))
  where
    parts_of : one ≡ other → ChoiceParts one other
    parts_of same = (
      ap (λ (choices : Choices). choices.misaligned) same,
      (
        ap (λ (choices : Choices). choices.trap_values) same,
        (
          ap (λ (choices : Choices). choices.marks) same,
          (
            ap (λ (choices : Choices). choices.bits) same,
            (
              ap (λ (choices : Choices). choices.insn_bits) same,
              (
                ap (λ (choices : Choices). choices.device_faults) same,
                ap (λ (choices : Choices). choices.block_size) same,
              ),
            ),
          ),
        ),
      ),
    )

abbrev core_with : Core → Registers → ℕ → Mode → Csrs → Map → Core
core_with core registers pc mode csrs map = record {
  registers = registers;
  pc = pc;
  mode = mode;
  csrs = csrs;
  reservation = core.reservation;
  next_order = core.next_order;
  trapped_last = core.trapped_last;
  halted = core.halted;
  map = map;
  choices = core.choices;
}

same_core : (one other : Core) → FirstParts one other → LastParts one other → one ≡ other
same_core one other first last =
    let equal : core_with one one.registers one.pc one.mode one.csrs one.map
    ≡ core_with other other.registers other.pc other.mode other.csrs other.map =
    rw (
      first.0,
      first.1.0,
      first.1.1.0,
      first.1.1.1,
      last.0,
      last.1.0,
      last.1.1.0,
      last.1.1.1.0,
      last.1.1.1.1.0,
      last.1.1.1.1.1,
    )
    refl in
    equal

core_test : Test Core
core_test one other =
    let first =
    paired (registers_test one.registers other.registers)
    (paired (number_test one.pc other.pc)
    (paired (mode_test one.mode other.mode) (csrs_test one.csrs other.csrs))) in
    let last =
    paired (reservation_test one.reservation other.reservation)
    (paired (option_test number_test one.next_order other.next_order)
    (paired (bool_test one.trapped_last other.trapped_last)
    (paired (bool_test one.halted other.halted)
    (paired (map_test one.map other.map) (choices_test one.choices other.choices))))) in
    let all = paired first last in
    (all.0, (λ is. let parts = all.1.0 is in same_core one other parts.0 parts.1, λ same. all.1.1 (parts_of same)))
  where
    parts_of : one ≡ other → FirstParts one other × LastParts one other
    parts_of same = (
      (
        ap (λ (core : Core). core.registers) same,
        (
          ap (λ (core : Core). core.pc) same,
          (ap (λ (core : Core). core.mode) same, ap (λ (core : Core). core.csrs) same),
        ),
      ),
      (
        ap (λ (core : Core). core.reservation) same,
        (
          ap (λ (core : Core). core.next_order) same,
          (
            ap (λ (core : Core). core.trapped_last) same,
            (
              ap (λ (core : Core). core.halted) same,
              (ap (λ (core : Core). core.map) same, ap (λ (core : Core). core.choices) same),
            ),
          ),
        ),
      ),
    )

-- as many harts, and those of each number equal
pub cores_sameness : Sameness (List Core)
cores_sameness one other = (list_test core_test one other).0

pub cores_tell : TellsApart cores_sameness
unfolding cores_sameness
cores_tell one other = (list_test core_test one other).1
