-- Which hart stands at which place after one of them went on.
use Rattle.std.proofs.Common.{◌≡◌, ◌≢◌, ℕ, zero, suc, List, [], ◌∷◌, map, length, refl, ap, ◌∙◌}
use Rattle.std.proofs.Common.{◌+◌, ◌<◌, ◌≤◌, ◌++◌, add-one, append-nil, arith, drop, get_or, sym, subst, take, Some}
use Rattle.std.proofs.Common.{inl, inr, true, false}
use Rattle.std.proofs.lemmas.Bool.{cases_lt}
use Rattle.std.proofs.Math.ListN.{set}
use Rattle.std.specs.List.{All, slice_get}
use Rattle.std.proofs.lemmas.List.Elements.{All-cons, All-head, All-nil, All-tail}
use Rattle.std.proofs.lemmas.List.{drop_all, length-map, take_all}
use Rattle.std.specs.Option.{option_map}
use Rattle.std.proofs.lemmas.Option.{slice_get-get_or, slice_get-map}
use Rattle.hart_set.specs.Sets.{gone_on}
use Rattle.hart_set.proofs.Filled.{filled_by_itself, filled_by_set, still_there}

-- past the first hart
pub gone_past : {C : Type 0} (lose : C → C) (number : ℕ) (next first : C) (cores : List C)
    → gone_on lose (suc number) next (first ∷ cores) ≡ lose first ∷ gone_on lose number next cores
unfolding gone_on
gone_past lose number next first cores = refl

pub gone_first : {C : Type 0} (lose : C → C) (next first : C) (cores : List C)
    → gone_on lose zero next (first ∷ cores) ≡ next ∷ map lose cores
unfolding gone_on
gone_first lose next first cores = refl

-- the hart that went on
pub at_number : {C : Type 0} (lose : C → C) (number : ℕ) (next core : C) (cores : List C)
    → slice_get cores number ≡ Some core → slice_get (gone_on lose number next cores) number ≡ Some next
at_number lose number next core [] there = absurd cc
at_number lose zero next core (first ∷ cores) there =
    ap (λ xs. slice_get xs zero) (gone_first lose next first cores)
at_number lose (suc number) next core (first ∷ cores) there =
    ap (λ xs. slice_get xs (suc number)) (gone_past lose number next first cores)
    ∙ at_number lose number next core cores there

-- each other hart
pub at_other : {C : Type 0} (lose : C → C) (number other : ℕ) (next core : C) (cores : List C)
    → slice_get cores number ≡ Some core → other ≢ number
    → slice_get (gone_on lose number next cores) other ≡ option_map lose (slice_get cores other)
at_other lose number other next core [] there apart = absurd cc
at_other lose zero zero next core (first ∷ cores) there apart = absurd (apart refl)
at_other lose zero (suc other) next core (first ∷ cores) there apart =
    ap (λ xs. slice_get xs (suc other)) (gone_first lose next first cores) ∙ slice_get-map lose cores other
at_other lose (suc number) zero next core (first ∷ cores) there apart =
    ap (λ xs. slice_get xs zero) (gone_past lose number next first cores)
at_other lose (suc number) (suc other) next core (first ∷ cores) there apart =
    ap (λ xs. slice_get xs (suc other)) (gone_past lose number next first cores)
    ∙ at_other lose number other next core cores there (λ same. apart (ap suc same))

-- there are as many
pub as_many : {C : Type 0} (lose : C → C) (number : ℕ) (next core : C) (cores : List C)
    → slice_get cores number ≡ Some core → length (gone_on lose number next cores) ≡ length cores
as_many lose number next core [] there = absurd cc
as_many lose zero next core (first ∷ cores) there =
    ap length (gone_first lose next first cores) ∙ ap suc (length-map cores lose)
as_many lose (suc number) next core (first ∷ cores) there =
    ap length (gone_past lose number next first cores) ∙ ap suc (as_many lose number next core cores there)

each_kept : {C K : Type 0} (f : C → K) (lose : C → C) (cores : List C) → ((c : C) → f (lose c) ≡ f c)
    → map f (map lose cores) ≡ map f cores
each_kept f lose [] stays = refl
each_kept f lose (core ∷ cores) stays =
    ap (λ k. k ∷ map f (map lose cores)) (stays core) ∙ ap (λ ks. f core ∷ ks) (each_kept f lose cores stays)

-- what each hart keeps, and the one that went on has too
pub kept : {C K : Type 0} (f : C → K) (lose : C → C) (number : ℕ) (next core : C) (cores : List C)
    → slice_get cores number ≡ Some core → ((c : C) → f (lose c) ≡ f c) → f next ≡ f core
    → map f (gone_on lose number next cores) ≡ map f cores
kept f lose number next core [] there stays is = absurd cc
kept f lose zero next core (first ∷ cores) there stays is =
    let same : first ≡ core = cc in
    ap (map f) (gone_first lose next first cores)
    ∙ ap (λ k. k ∷ map f (map lose cores)) (is ∙ ap f (sym same))
    ∙ ap (λ ks. f first ∷ ks) (each_kept f lose cores stays)
kept f lose (suc number) next core (first ∷ cores) there stays is =
    ap (map f) (gone_past lose number next first cores)
    ∙ ap (λ k. k ∷ map f (gone_on lose number next cores)) (stays first)
    ∙ ap (λ ks. f first ∷ ks) (kept f lose number next core cores there stays is)

every_kept : {C : Type 0} (P : C → Type 0) (lose : C → C) (cores : List C) → ((c : C) → P c → P (lose c)) → All P cores
    → All P (map lose cores)
every_kept P lose [] stays all = All-nil P
every_kept P lose (core ∷ cores) stays all =
    All-cons P (lose core) (map lose cores) (stays core (All-head P core cores all))
    (every_kept P lose cores stays (All-tail P core cores all))

-- a fact of all harts that each keeps, and the one that went on has
pub all_kept : {C : Type 0} (P : C → Type 0) (lose : C → C) (number : ℕ) (next core : C) (cores : List C)
    → slice_get cores number ≡ Some core → ((c : C) → P c → P (lose c)) → P next → All P cores
    → All P (gone_on lose number next cores)
all_kept P lose number next core [] there stays is all = absurd cc
all_kept P lose zero next core (first ∷ cores) there stays is all =
    subst (All P) (sym (gone_first lose next first cores))
    (All-cons P next (map lose cores) is (every_kept P lose cores stays (All-tail P first cores all)))
all_kept P lose (suc number) next core (first ∷ cores) there stays is all =
    subst (All P) (sym (gone_past lose number next first cores))
    (All-cons P (lose first) (gone_on lose number next cores) (stays first (All-head P first cores all))
    (all_kept P lose number next core cores there stays is (All-tail P first cores all)))

-- what stood in the place of the hart that went on tells nothing
pub gone_from_set : {C : Type 0} (lose : C → C) (number : ℕ) (next between : C) (cores : List C)
    → gone_on lose number next (set cores number between) ≡ gone_on lose number next cores
unfolding gone_on
gone_from_set lose number next between [] = refl
gone_from_set lose zero next between (first ∷ cores) = refl
gone_from_set lose (suc number) next between (first ∷ cores) =
    ap (λ xs. lose first ∷ xs) (gone_from_set lose number next between cores)

pub get_set : {C : Type 0} (number : ℕ) (next core : C) (cores : List C) → slice_get cores number ≡ Some core
    → slice_get (set cores number next) number ≡ Some next
get_set number next core [] there = absurd cc
get_set zero next core (first ∷ cores) there = refl
get_set (suc number) next core (first ∷ cores) there = get_set number next core cores there

-- what is found at a place
pub found_at : {C : Type 0} (cores : List C) (place : ℕ) (x : C) → place < length cores → x ≡ get_or cores place x
    → slice_get cores place ≡ Some x
found_at cores place x below is = slice_get-get_or cores place x below ∙ ap Some (sym is)

-- a turn over all harts: one that is passed loses what it loses
pub turned : {C : Type 0} (lose : C → C) (number other : ℕ) (core element next : C) (before cores : List C)
    → slice_get before number ≡ Some core → other ≢ number → other < length before
    → cores ≡ take other (gone_on lose number core before) ++ drop other before
    → slice_get cores other ≡ Some element → next ≡ lose element
    → set cores other next ≡ take (other + 1) (gone_on lose number core before) ++ drop (other + 1) before
turned lose number other core element next before cores there apart below so_far at is =
    let last = gone_on lose number core before in
    let y = get_or before other element in
    let old : slice_get before other ≡ Some y = slice_get-get_or before other element below in
    let new : slice_get last other ≡ Some (lose y) =
    at_other lose number other core core before there apart ∙ ap (option_map lose) old in
    let found : Some element ≡ Some y =
    sym at ∙ ap (λ xs. slice_get xs other) so_far ∙ still_there last before other (lose y) y new old in
    let same : element ≡ y = cc in
    ap (λ xs. set xs other next) so_far
    ∙ ap (set (take other last ++ drop other before) other) (is ∙ ap lose same)
    ∙ filled_by_set last before other (lose y) y new old
    ∙ ap (λ n. take n last ++ drop n before) (sym (add-one other))

-- and the one that went on stays
pub passed : {C : Type 0} (lose : C → C) (number other : ℕ) (core : C) (before cores : List C)
    → slice_get before number ≡ Some core → other ≡ number
    → cores ≡ take other (gone_on lose number core before) ++ drop other before
    → cores ≡ take (other + 1) (gone_on lose number core before) ++ drop (other + 1) before
passed lose number other core before cores there same so_far =
    let last = gone_on lose number core before in
    let old : slice_get before other ≡ Some core = ap (slice_get before) same ∙ there in
    let new : slice_get last other ≡ Some core =
    ap (slice_get last) same ∙ at_number lose number core core before there in
    so_far ∙ filled_by_itself last before other core new old
    ∙ ap (λ n. take n last ++ drop n before) (sym (add-one other))

-- after all turns
pub all_turned : {C : Type 0} (lose : C → C) (number other : ℕ) (core : C) (before cores : List C)
    → slice_get before number ≡ Some core → length before ≤ other
    → cores ≡ take other (gone_on lose number core before) ++ drop other before
    → cores ≡ gone_on lose number core before
all_turned lose number other core before cores there all so_far =
    let last = gone_on lose number core before in
    let long : length last ≤ other = omega (arith, as_many lose number core core before there) in
    so_far ∙ ap (λ xs. xs ++ drop other before) (take_all other last long)
    ∙ ap (λ xs. last ++ xs) (drop_all other before all) ∙ append-nil last

pub as_long_after : {C : Type 0} (cores : List C) (place : ℕ) (x : C) → length (set cores place x) ≡ length cores
as_long_after [] place x = refl
as_long_after (core ∷ cores) zero x = refl
as_long_after (core ∷ cores) (suc place) x = ap suc (as_long_after cores place x)

-- a hart that is not absent is there
pub present : (number long : ℕ) → (long ≤ number → false ≡ true) → number < long
present number long there = elim (cases_lt number long) [
  | inl below ↦ below
  | inr past ↦ let no = there past in absurd cc
]
