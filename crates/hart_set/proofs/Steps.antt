-- The step of a set, by the step of a hart and what the others lose.
use Rattle.std.proofs.Common.{◌≡◌, ℕ, List, [], ◌∷◌, map, length, refl, sym, ap, ◌∙◌, subst, arith, Option, Some}
use Rattle.std.proofs.Common.{◌<◌, None, get_or, zero, suc}
use Rattle.std.proofs.Math.ListN.{set}
use Rattle.std.proofs.lemmas.Option.{get_or_from_slice_get, slice_get-get_or}
use Rattle.std.specs.List.{All, slice_get}
use Rattle.std.proofs.lemmas.List.Elements.{All-get_or, All-weaker}
use Rattle.hart_words.specs.declared.span.Span.{Span}
use Rattle.hart_words.specs.declared.accesses.Read.{Read}
use Rattle.hart_words.specs.declared.accesses.Write.{Write}
use Rattle.hart_words.specs.Memory.{Bytes, after_writes}
use Rattle.hart_words.specs.Actions.{Action, Performs, Run, pure}
use Rattle.hart_words.specs.Signals.{Shown}
use Rattle.hart_words.proofs.Runs.{Performs-pure}
use Rattle.rvfi_rows.specs.Rows.{hart_of}
use Rattle.rvfi_rows.specs.declared.expected.Expected.{Expected}
use Rattle.rvfi_rows.specs.declared.expected.Expected.TheVariants.{Halted}
use Rattle.rvfi_rows.specs.Meanings.{Gave, Meaning, TakesQuiet, lost_by}
use Rattle.hart_set.specs.Sets.{after_step, after_taking, concluded, gone_on, is_plain_by, step_of_hart, stepped_by}
use Rattle.hart_set.specs.Sets.{taken_by, taken_of_hart}
use Rattle.hart_set.specs.Calls.{CanStep, IsDone, TakesQuietRow}
use Rattle.hart_set.proofs.Places.{all_kept, as_many, get_set, gone_from_set, kept}

-- the others' losses, one write after another, keep what one write's loss keeps
pub lost_keeps : {C K : Type 0} (meaning : Meaning C) (f : C → K)
    → ((core : C) (pa len : ℕ) → f (meaning.lost core pa len) ≡ f core) → (writes : List Write) (core : C)
    → f (lost_by meaning writes core) ≡ f core
unfolding lost_by
lost_keeps meaning f one [] core = refl
lost_keeps meaning f one (write ∷ writes) core =
    lost_keeps meaning f one writes (meaning.lost core write.pa write.len) ∙ one core write.pa write.len

pub lost_holds : {C : Type 0} (meaning : Meaning C) (P : C → Type 0)
    → ((core : C) (pa len : ℕ) → P core → P (meaning.lost core pa len)) → (writes : List Write) (core : C) → P core
    → P (lost_by meaning writes core)
unfolding lost_by
lost_holds meaning P one [] core holds = holds
lost_holds meaning P one (write ∷ writes) core holds =
    lost_holds meaning P one writes (meaning.lost core write.pa write.len) (one core write.pa write.len holds)

-- a run that is concluded
concludes : {A B : Type 0} (f : Run A → B) (action : Action A) {x : A} {y : B} {seen : List Read} {wrote : List Write}
    {before after : Bytes} → Performs action x [] seen [] wrote before after → y ≡ f (action.run before)
    → Performs (concluded f action) y [] seen [] wrote before after
unfolding concluded
concludes f action ran is =
    record { value_is = is; seen_is = ran.seen_is; wrote_is = ran.wrote_is; bytes_are = ran.bytes_are }

-- the hart of the number went on, and the others lost what it wrote
pub went_on : {C : Type 0} (meaning : Meaning C) (cores after : List C) (shown : Shown) (number : ℕ) (core next : C)
    (expected : Expected) {seen : List Read} {wrote : List Write} {before now : Bytes}
    → slice_get cores number ≡ Some core
    → Performs (meaning.stepped core shown) (record { next = next; expected = expected }) [] seen [] wrote before now
    → after ≡ gone_on (lost_by meaning wrote) number next cores
    → Performs (step_of_hart meaning cores shown number) (record { next = after; expected = expected }) [] seen []
    wrote before now
unfolding stepped_by
went_on {C} meaning cores after shown number core next expected {seen} {wrote} {before} {now} there ran is =
    let done = (meaning.stepped core shown).run before in
    let gave : Gave C = record { next = next; expected = expected } in
    let same_writes : wrote ≡ done.wrote = ran.wrote_is in
    let Gone : List Write → Gave C → Gave (List C) = λ writes gave. record {
      next = gone_on (lost_by meaning writes) number gave.next cores;
      expected = gave.expected;
    } in
    let value : record { next = after; expected = expected } ≡ after_step meaning cores number done =
    ap (λ xs. record { next = xs; expected = expected }) is ∙ ap (λ w. Gone w gave) same_writes
    ∙ ap (λ g. Gone done.wrote g) ran.value_is in
    let P : Option C → Type 0 = λ found.
    Performs (stepped_by meaning cores shown number found) (record { next = after; expected = expected }) [] seen []
    wrote before now in
    subst P (sym there) (concludes (after_step meaning cores number) (meaning.stepped core shown) ran value)

-- no hart has the number
pub stood : {C : Type 0} (meaning : Meaning C) (cores : List C) (shown : Shown) (number : ℕ) {bytes : Bytes}
    → slice_get cores number ≡ None
    → Performs (step_of_hart meaning cores shown number) (record { next = cores; expected = Halted }) [] [] [] []
    bytes bytes
unfolding stepped_by
stood {C} meaning cores shown number {bytes} there =
    let gave : Gave (List C) = record { next = cores; expected = Halted } in
    let P : Option C → Type 0 = λ found.
    Performs (stepped_by meaning cores shown number found) gave [] [] [] [] bytes bytes in
    subst P (sym there) (Performs-pure gave [] [] bytes)

-- the state after a plain row was taken, and the others lost what it wrote
pub was_taken : {C : Type 0} (meaning : Meaning C) (cores after : List C) (shown : Shown) (number : ℕ) (core next : C)
    {wrote : List Write} {before now : Bytes} → slice_get cores number ≡ Some core
    → Performs (meaning.taken core shown) next [] [] [] wrote before now
    → after ≡ gone_on (lost_by meaning wrote) number next cores
    → IsDone (taken_of_hart meaning cores shown number) after before now
unfolding taken_by concluded
was_taken {C} meaning cores after shown number core next {wrote} {before} {now} there ran is =
    let done = (meaning.taken core shown).run before in
    let same_writes : wrote ≡ done.wrote = ran.wrote_is in
    let value : after ≡ after_taking meaning cores number done =
    is ∙ ap (λ w. gone_on (lost_by meaning w) number next cores) same_writes
    ∙ ap (λ c. gone_on (lost_by meaning done.wrote) number c cores) ran.value_is in
    let P : Option C → Type 0 = λ found. IsDone (taken_by meaning cores shown number found) after before now in
    subst P (sym there) (record { value_is = value; bytes_are = ran.bytes_are })

pub none_taken : {C : Type 0} (meaning : Meaning C) (cores : List C) (shown : Shown) (number : ℕ) {bytes : Bytes}
    → slice_get cores number ≡ None → IsDone (taken_of_hart meaning cores shown number) cores bytes bytes
unfolding taken_by pure after_writes
none_taken {C} meaning cores shown number {bytes} there =
    let P : Option C → Type 0 = λ found. IsDone (taken_by meaning cores shown number found) cores bytes bytes in
    subst P (sym there) (record { value_is = refl; bytes_are = refl })

-- ---- what holds of the harts after one of them went on

pub maps_stay : {C K : Type 0} (meaning : Meaning C) (f : C → K) (number : ℕ) (core next : C) (cores after : List C)
    (writes : List Write) → ((c : C) (pa len : ℕ) → f (meaning.lost c pa len) ≡ f c)
    → slice_get cores number ≡ Some core → f next ≡ f core
    → after ≡ gone_on (lost_by meaning writes) number next cores → map f after ≡ map f cores
maps_stay meaning f number core next cores after writes one there same is =
    ap (map f) is
    ∙ kept f (lost_by meaning writes) number next core cores there (lost_keeps meaning f one writes) same

pub can_go_on : {C : Type 0} (meaning : Meaning C) (is_sound : C → Type 0) (ram now : Span) (number : ℕ) (core next : C)
    (cores after : List C) (writes : List Write)
    → ((c : C) (pa len : ℕ) → is_sound c → is_sound (meaning.lost c pa len))
    → ((c : C) (pa len : ℕ) → meaning.map_of (meaning.lost c pa len) ≡ meaning.map_of c)
    → slice_get cores number ≡ Some core → is_sound next → meaning.map_of next ≡ meaning.map_of core
    → ram ≡ (meaning.map_of core).ram → now ≡ ram → after ≡ gone_on (lost_by meaning writes) number next cores
    → CanStep meaning is_sound ram cores → CanStep meaning is_sound now after
can_go_on {C} meaning is_sound ram now number core next cores after writes stays maps there sound same core_ram ram_is
    is can =
    let lose = lost_by meaning writes in
    let HasRam : C → Type 0 = λ c. now ≡ (meaning.map_of c).ram in
    let before : All HasRam cores =
    All-weaker (λ c. ram ≡ (meaning.map_of c).ram) HasRam (λ c e. ram_is ∙ e) cores can.maps in
    let as_long : length after ≡ length cores =
    ap length is ∙ as_many lose number next core cores there in
    record {
      some = omega (arith, can.some, as_long);
      sound = subst (All is_sound) (sym is)
          (all_kept is_sound lose number next core cores there
          (λ c holds. lost_holds meaning is_sound stays writes c holds) sound can.sound);
      maps = subst (All HasRam) (sym is)
          (all_kept HasRam lose number next core cores there
          (λ c holds. holds ∙ ap (λ m. m.ram) (sym (lost_keeps meaning meaning.map_of maps writes c)))
          (ram_is ∙ core_ram ∙ ap (λ m. m.ram) (sym same)) before);
    }

-- ---- the same as the calls find it: the hart of the number was there, and stepped in its place

-- no hart has the number, and what is told is of a halted one
pub stood_still : {C : Type 0} (meaning : Meaning C) (cores : List C) (shown : Shown) (number : ℕ)
    {expected : Expected} {seen : List Read} {wrote : List Write} {bytes : Bytes} → slice_get cores number ≡ None
    → expected ≡ Halted → seen ≡ [] → wrote ≡ []
    → Performs (step_of_hart meaning cores shown number) (record { next = cores; expected = expected }) [] seen [] wrote
    bytes bytes
stood_still {C} meaning cores shown number {expected} {seen} {wrote} {bytes} there halted none nothing =
    let action = step_of_hart meaning cores shown number in
    let E : Expected → Type 0 = λ e.
    Performs action (record { next = cores; expected = e }) [] seen [] wrote bytes bytes in
    let S : List Read → Type 0 = λ s.
    Performs action (record { next = cores; expected = Halted }) [] s [] wrote bytes bytes in
    let W : List Write → Type 0 = λ w.
    Performs action (record { next = cores; expected = Halted }) [] [] [] w bytes bytes in
    subst E (sym halted) (subst S (sym none) (subst W (sym nothing) (stood meaning cores shown number there)))

-- the harts after the one of the number was stepped in its place, and the others lost
pub gone_after : {C : Type 0} (meaning : Meaning C) (number : ℕ) (next : C) (cores after : List C)
    (told writes : List Write) → told ≡ writes → number < length cores
    → ((core : C) → slice_get (set cores number next) number ≡ Some core
    → after ≡ gone_on (lost_by meaning told) number core (set cores number next))
    → after ≡ gone_on (lost_by meaning writes) number next cores
gone_after meaning number next cores after told writes same below gone =
    let there = slice_get-get_or cores number next below in
    gone next (get_set number next (get_or cores number next) cores there)
    ∙ gone_from_set (lost_by meaning told) number next next cores
    ∙ ap (λ w. gone_on (lost_by meaning w) number next cores) same

-- the hart of a number has what all have
pub has_of : {C : Type 0} (P : C → Type 0) (number : ℕ) (core : C) (cores : List C) → slice_get cores number ≡ Some core
    → number < length cores → All P cores → P core
has_of P number core cores there below all =
    subst P (get_or_from_slice_get cores number core core there) (All-get_or P cores number core below all)

-- the call stepped the hart of the number, and then the others lost
pub stepped_there : {C : Type 0} (meaning : Meaning C) (cores after : List C) (shown : Shown) (number : ℕ)
    (core next : C) (expected : Expected) {seen : List Read} {wrote : List Write} {before now last : Bytes}
    → slice_get cores number ≡ Some core
    → Performs (meaning.stepped core shown) (record { next = next; expected = expected }) [] seen [] wrote before now
    → after ≡ gone_on (lost_by meaning wrote) number next cores → last ≡ now
    → Performs (step_of_hart meaning cores shown number) (record { next = after; expected = expected }) [] seen []
    wrote before last
stepped_there meaning cores after shown number core next expected {seen} {wrote} {before} there ran gone same =
    let P : Bytes → Type 0 = λ bytes.
    Performs (step_of_hart meaning cores shown number) (record { next = after; expected = expected }) [] seen [] wrote
    before bytes in
    subst P (sym same) (went_on meaning cores after shown number core next expected there ran gone)

-- the call took the state of the hart of the number from the row, and then the others lost
pub taken_there : {C : Type 0} (meaning : Meaning C) (cores after : List C) (shown : Shown) (number : ℕ)
    (core next : C) {wrote : List Write} {before now last : Bytes} → slice_get cores number ≡ Some core
    → Performs (meaning.taken core shown) next [] [] [] wrote before now
    → after ≡ gone_on (lost_by meaning wrote) number next cores → last ≡ now
    → IsDone (taken_of_hart meaning cores shown number) after before last
taken_there {C} meaning cores after shown number core next {wrote} {before} {now} {last} there ran gone same =
    let P : Bytes → Type 0 = λ bytes. IsDone (taken_of_hart meaning cores shown number) after before bytes in
    subst P (sym same) (was_taken meaning cores after shown number core next there ran gone)

-- ---- a row that writes nothing

all_stay : {C : Type 0} (meaning : Meaning C) (cores : List C) → cores ≡ map (lost_by meaning []) cores
unfolding lost_by
all_stay meaning [] = refl
all_stay meaning (core ∷ cores) = ap (λ rest. core ∷ rest) (all_stay meaning cores)

-- where nothing is written the others lose nothing
pub gone_alone : {C : Type 0} (meaning : Meaning C) (number : ℕ) (core next : C) (cores : List C)
    → slice_get cores number ≡ Some core → set cores number next ≡ gone_on (lost_by meaning []) number next cores
unfolding gone_on lost_by
gone_alone meaning number core next [] there = absurd cc
gone_alone meaning zero core next (first ∷ cores) there = ap (λ rest. next ∷ rest) (all_stay meaning cores)
gone_alone meaning (suc number) core next (first ∷ cores) there =
    ap (λ rest. first ∷ rest) (gone_alone meaning number core next cores there)

-- the call took the state of the row's hart from a row that writes nothing
pub quiet_there : {C : Type 0} (meaning : Meaning C) (cores after : List C) (shown : Shown) (number : ℕ)
    (core next : C) → slice_get cores number ≡ Some core → number ≡ hart_of shown
    → TakesQuiet meaning core shown next → after ≡ gone_on (lost_by meaning []) number next cores
    → TakesQuietRow meaning cores shown after
quiet_there meaning cores after shown number core next there is quiet gone =
    let own : slice_get cores (hart_of shown) ≡ Some core =
    subst (λ (n : ℕ). slice_get cores n ≡ Some core) is there in
    record {
      plain = ap (λ found. is_plain_by meaning shown found) own ∙ quiet.plain;
      taken = λ bytes.
          subst (λ (n : ℕ). IsDone (taken_of_hart meaning cores shown n) after bytes bytes) is
          (taken_there meaning cores after shown number core next there (quiet.taken bytes) gone refl);
    }
