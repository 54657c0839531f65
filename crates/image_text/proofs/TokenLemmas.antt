-- The tokens of a text, from its front.
use Rattle.std.proofs.Common.{◌≡◌, ℕ, ◌+◌, ◌≤◌, ◌⊎◌, Bool, true, false, ◌||◌, ◌&&◌, List, [], ◌∷◌, length, take, drop}
use Rattle.std.proofs.Common.{refl, inl, inr, arith, if◌then◌else◌, add-one}
use Rattle.std.specs.Prelude.{◌==◌, slice_index}
use Rattle.std.proofs.lemmas.Bool.{cases_eq}
use Rattle.image_text.proofs.Pages.{eq_other}
use Rattle.image_text.specs.Tokens.{TokenView, is_blank, opens_line, opens_block, has_close, Plain, LineComment}
use Rattle.image_text.specs.Tokens.{BlockComment, uncommented, tokens_with_byte, runs, tokens_from}
use Rattle.image_text.specs.Fronts.{opens_comment, begins_with_close, run_len}

pub test : (x : Bool) → (x ≡ true) ⊎ (x ≡ false)
test true = inl refl
test false = inr refl

or_false : (x y : Bool) → (x || y) ≡ false → (x ≡ false) × (y ≡ false)
or_false false y h = (refl, h)
or_false true y h = cc

blank_no_slash : (b : ℕ) → is_blank b ≡ true → (b == 47) ≡ false
blank_no_slash b h =
    elim (cases_eq b 47) [ inl same ↦ (let none = rw same at h in cc) | inr apart ↦ eq_other b 47 apart ]

text_no_feed : (b : ℕ) → is_blank b ≡ false → (b == 10) ≡ false
text_no_feed b h = elim (cases_eq b 10) [ inl same ↦ (let none = rw same at h in cc) | inr apart ↦ eq_other b 10 apart ]

-- a line comment goes on to its line feed
pub line_more : (a : ℕ) (rest : List ℕ) → (a ≡ 10 → ⊥)
    → uncommented LineComment (a ∷ rest) ≡ uncommented LineComment rest
unfolding uncommented
line_more a rest apart = rw (eq_other a 10 apart) refl

pub line_end : (rest : List ℕ) → uncommented LineComment (10 ∷ rest) ≡ uncommented Plain (10 ∷ rest)
unfolding uncommented
line_end [] = refl
line_end (b ∷ rest) = refl

-- a block comment goes on to its end
pub block_end : (line : ℕ) (text : List ℕ) → begins_with_close text ≡ true
    → tokens_from line BlockComment text ≡ tokens_from line Plain (drop 2 text)
unfolding uncommented
block_end line [] h = cc
block_end line (a ∷ []) h = cc
block_end line (a ∷ b ∷ rest) h = rw h refl

pub block_has : (text : List ℕ) → begins_with_close text ≡ true → has_close text ≡ true
unfolding has_close
block_has [] h = cc
block_has (a ∷ []) h = cc
block_has (a ∷ b ∷ rest) h = rw h refl

pub block_long : (text : List ℕ) → begins_with_close text ≡ true → 2 ≤ length text
block_long [] h = cc
block_long (a ∷ []) h = cc
block_long (a ∷ b ∷ rest) h = omega arith

pub block_has_more : (a : ℕ) (rest : List ℕ) → begins_with_close (a ∷ rest) ≡ false
    → has_close (a ∷ rest) ≡ has_close rest
unfolding has_close
block_has_more a [] h = refl
block_has_more a (b ∷ rest) h = rw h refl

pub block_more : (line a : ℕ) (rest : List ℕ) → begins_with_close (a ∷ rest) ≡ false
    → tokens_from line BlockComment (a ∷ rest) ≡ tokens_from (if a == 10 then line + 1 else line) BlockComment rest
unfolding uncommented runs
block_more line a [] h = refl
block_more line a (b ∷ rest) h =
    elim (cases_eq a 10) [
      | inl same ↦ rw same refl
      | inr apart ↦ rw (h, eq_other a 10 apart) refl
    ]

-- plain text
pub plain_kept : (a : ℕ) (rest : List ℕ) → opens_comment (a ∷ rest) ≡ false
    → uncommented Plain (a ∷ rest) ≡ a ∷ uncommented Plain rest
unfolding uncommented
plain_kept a [] h = refl
plain_kept a (b ∷ rest) h =
    let both = or_false (opens_line a b) (opens_block a b) h in
    rw (both.0, both.1) refl

no_slash_opens : (a : ℕ) (rest : List ℕ) → (a == 47) ≡ false → opens_comment (a ∷ rest) ≡ false
no_slash_opens a [] h = refl
no_slash_opens a (b ∷ rest) h = rw h refl

pub blank_step : (line a : ℕ) (rest : List ℕ) → is_blank a ≡ true
    → tokens_from line Plain (a ∷ rest) ≡ tokens_from (if a == 10 then line + 1 else line) Plain rest
unfolding runs
blank_step line a rest blank =
    let front = plain_kept a rest (no_slash_opens a rest (blank_no_slash a blank)) in
    elim (cases_eq a 10) [
      | inl same ↦ rw front (rw same refl)
      | inr apart ↦ rw (front, blank, eq_other a 10 apart) refl
    ]

line_step : (line : ℕ) (rest : List ℕ) → tokens_from line Plain (47 ∷ 47 ∷ rest) ≡ tokens_from line LineComment rest
unfolding uncommented runs
line_step line rest = refl

block_step : (line : ℕ) (rest : List ℕ) → has_close rest ≡ true
    → tokens_from line Plain (47 ∷ 42 ∷ rest) ≡ tokens_from line BlockComment rest
unfolding uncommented runs
block_step line rest h = rw h refl

open_step : (line : ℕ) (rest : List ℕ) → has_close rest ≡ false
    → tokens_from line Plain (47 ∷ 42 ∷ rest) ≡ record { line = line; bytes = 47 ∷ 42 ∷ [] } ∷ []
unfolding uncommented runs
open_step line rest h = rw h refl

-- the two bytes of a comment's mark
eq_true : (a b : ℕ) → (a == b) ≡ true → a ≡ b
eq_true a b h = elim (cases_eq a b) [ inl same ↦ same | inr apart ↦ (let none = eq_other a b apart in cc) ]

and_both : (x y : Bool) → (x && y) ≡ true → (x ≡ true) × (y ≡ true)
and_both true y h = (refl, h)
and_both false y h = cc

mark_is : (a b : ℕ) → (opens_line a b || opens_block a b) ≡ true → (a ≡ 47) × ((b ≡ 47) ⊎ (b ≡ 42))
mark_is a b h =
    elim (test (opens_line a b)) [
      | inl line ↦ (let both = and_both (a == 47) (b == 47) line in (eq_true a 47 both.0, inl (eq_true b 47 both.1)))
      | inr other ↦
          (let both = and_both (a == 47) (b == 42) (rw other at h) in (eq_true a 47 both.0, inr (eq_true b 42 both.1)))
    ]

pub opens_long : (text : List ℕ) → opens_comment text ≡ true → 2 ≤ length text
opens_long [] h = cc
opens_long (a ∷ []) h = cc
opens_long (a ∷ b ∷ rest) h = omega arith

pub opens_line_at : (line : ℕ) (text : List ℕ) → opens_comment text ≡ true → slice_index text 1 ≡ 47
    → tokens_from line Plain text ≡ tokens_from line LineComment (drop 2 text)
opens_line_at line [] h e = cc
opens_line_at line (a ∷ []) h e = cc
opens_line_at line (a ∷ b ∷ rest) h e = rw ((mark_is a b h).0, e) (line_step line rest)

block_mark : (a b : ℕ) → (opens_line a b || opens_block a b) ≡ true → (b ≡ 47 → ⊥) → (a ≡ 47) × (b ≡ 42)
block_mark a b h apart =
    let is = mark_is a b h in elim is.1 [ inl line ↦ absurd (apart line) | inr block ↦ (is.0, block) ]

pub opens_block_at : (line : ℕ) (text : List ℕ) → opens_comment text ≡ true → (slice_index text 1 ≡ 47 → ⊥)
    → has_close (drop 2 text) ≡ true → tokens_from line Plain text ≡ tokens_from line BlockComment (drop 2 text)
opens_block_at line [] h apart closes = cc
opens_block_at line (a ∷ []) h apart closes = cc
opens_block_at line (a ∷ b ∷ rest) h apart closes =
    let mark = block_mark a b h apart in rw (mark.0, mark.1) (block_step line rest closes)

pub opens_open_at : (line : ℕ) (text : List ℕ) → opens_comment text ≡ true → (slice_index text 1 ≡ 47 → ⊥)
    → has_close (drop 2 text) ≡ false
    → tokens_from line Plain text ≡ record { line = line; bytes = take 2 text } ∷ tokens_from line Plain []
unfolding uncommented runs
opens_open_at line [] h apart open' = cc
opens_open_at line (a ∷ []) h apart open' = cc
opens_open_at line (a ∷ b ∷ rest) h apart open' =
    let mark = block_mark a b h apart in rw (mark.0, mark.1) (open_step line rest open')

pub plain_none : (line : ℕ) (text : List ℕ) → length text ≡ 0 → tokens_from line Plain text ≡ []
unfolding uncommented runs
plain_none line [] h = refl
plain_none line (a ∷ rest) h = absurd (omega arith)

pub line_none : (text : List ℕ) → length text ≡ 0 → uncommented LineComment text ≡ uncommented Plain text
unfolding uncommented
line_none [] h = refl
line_none (a ∷ rest) h = absurd (omega arith)

pub block_none : (text : List ℕ) → length text ≡ 0 → has_close text ≡ false
unfolding has_close
block_none [] h = refl
block_none (a ∷ rest) h = absurd (omega arith)

-- the run at the front of a text
pub run_none : (text : List ℕ) → length text ≡ 0 → run_len text ≡ 0
unfolding run_len
run_none [] h = refl
run_none (a ∷ rest) h = absurd (omega arith)

pub run_ends : (a : ℕ) (rest : List ℕ) → (is_blank a || opens_comment (a ∷ rest)) ≡ true → run_len (a ∷ rest) ≡ 0
unfolding run_len
run_ends a rest h = rw h refl

pub run_more : (a : ℕ) (rest : List ℕ) → is_blank a ≡ false → opens_comment (a ∷ rest) ≡ false
    → run_len (a ∷ rest) ≡ run_len rest + 1
unfolding run_len
run_more a rest blank opens = rw (blank, opens) refl

pub run_ends_blank : (a : ℕ) (rest : List ℕ) → is_blank a ≡ true → run_len (a ∷ rest) ≡ 0
run_ends_blank a rest h = run_ends a rest (rw h refl)

pub run_ends_opens : (a : ℕ) (rest : List ℕ) → is_blank a ≡ false → opens_comment (a ∷ rest) ≡ true
    → run_len (a ∷ rest) ≡ 0
run_ends_opens a rest blank h = run_ends a rest (rw (blank, h) refl)

-- what stands before a blank is a token by itself
joined_blank : (line b c : ℕ) (text rest : List ℕ) (tokens : List TokenView) → text ≡ c ∷ rest → is_blank c ≡ true
    → tokens_with_byte line b text tokens ≡ record { line = line; bytes = b ∷ [] } ∷ tokens
joined_blank line b c text rest [] e h = rw e refl
joined_blank line b c text rest (first ∷ others) e h = rw (e, h) refl

-- what stands before another byte begins that byte's token
joined_text : (line b : ℕ) {c : ℕ} {text rest : List ℕ} {tokens : List TokenView} {first : TokenView}
    {others : List TokenView} → text ≡ c ∷ rest → is_blank c ≡ false → tokens ≡ first ∷ others
    → tokens_with_byte line b text tokens ≡ record { line = first.line; bytes = b ∷ first.bytes } ∷ others
joined_text line b e h is = rw (e, is, h) refl

runs_text : (line a : ℕ) (rest : List ℕ) → is_blank a ≡ false
    → runs line (a ∷ rest) ≡ tokens_with_byte line a rest (runs line rest)
unfolding runs
runs_text line a rest blank = rw (blank, text_no_feed a blank) refl

-- a comment leaves a blank at its front
opens_shape : (x y z : Bool) (p q r s : List ℕ) → (x || y) ≡ true
    → (u : List ℕ) × ((if x then 32 ∷ p else if y then (if z then 32 ∷ q else 32 ∷ r) else s) ≡ 32 ∷ u)
opens_shape true y z p q r s h = (p, refl)
opens_shape false true true p q r s h = (q, refl)
opens_shape false true false p q r s h = (r, refl)
opens_shape false false z p q r s h = cc

opens_blank : (a : ℕ) (rest : List ℕ) → opens_comment (a ∷ rest) ≡ true
    → (u : List ℕ) × (uncommented Plain (a ∷ rest) ≡ 32 ∷ u)
unfolding uncommented
opens_blank a [] h = cc
opens_blank a (b ∷ rest) h = opens_shape (opens_line a b) (opens_block a b) (has_close rest) _ _ _ _ h

-- the run at the front of a text is its first token
abbrev HasRun : ℕ → List ℕ → Type 0
HasRun line text =
    tokens_from line Plain text ≡ record { line = line; bytes = take (run_len text) text }
    ∷ tokens_from line Plain (drop (run_len text) text)

pub run_tokens : (line a : ℕ) (rest : List ℕ) → is_blank a ≡ false → opens_comment (a ∷ rest) ≡ false
    → HasRun line (a ∷ rest)
run_tokens line a [] blank opens =
    rw (
      plain_kept a [] opens,
      runs_text line a (uncommented Plain []) blank,
      run_more a [] blank opens,
      run_none [] refl,
    ) (unfold uncommented in refl)
run_tokens line a (b ∷ rest) blank opens =
    let front = plain_kept a (b ∷ rest) opens in
    let text = runs_text line a (uncommented Plain (b ∷ rest)) blank in
    let more = run_more a (b ∷ rest) blank opens in
    elim (test (is_blank b)) [
      | inl is ↦
          rw (front, text, more, run_ends_blank b rest is)
          (joined_blank line a b _ _ _ (plain_kept b rest (no_slash_opens b rest (blank_no_slash b is))) is)
      | inr not ↦ elim (test (opens_comment (b ∷ rest))) [
        | inl is ↦
            rw (front, text, more, run_ends_opens b rest not is)
            (joined_blank line a 32 _ _ _ (opens_blank b rest is).1 refl)
        | inr neither ↦
            rw (front, text, more, add-one)
            (joined_text line a (plain_kept b rest neither) not (run_tokens line b rest not neither))
      ]
    ]
