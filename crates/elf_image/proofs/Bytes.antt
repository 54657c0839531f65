-- Bytes that are put part by part, and what they are in a file.
use Rattle.std.proofs.Common.{◌≡◌, ℕ, ◌+◌, ◌-◌, ◌<◌, ◌≤◌, Bool, true, false, List, Option, Some, length, take, drop}
use Rattle.std.proofs.Common.{get_or}
use Rattle.std.proofs.Common.{refl, sym, ◌∙◌, ap, inl, inr, arith, subst, cond, if◌then◌else◌, ◌⊎◌}
use Rattle.std.proofs.Common.{nat_cmp, ◌∷◌}
use Rattle.std.specs.Ordering.{is_eq}
use Rattle.std.proofs.Math.Path.{fun_ext}
use Rattle.std.proofs.lemmas.Bool.{cases_eq, cases_lt}
use Rattle.std.proofs.lemmas.Bool.Decides.{nat_tests}
use Rattle.std.proofs.lemmas.List.{length-take-le, length-drop, get_or-take, get_or-drop}
use Rattle.hart_words.specs.Memory.{is_within}
use Rattle.image_text.specs.Runs.{with_bytes}
use Rattle.image_text.proofs.Runs.{put_inside, put_outside}
use Rattle.image_text.proofs.Pages.{is_eq_same, is_eq_other}
use Rattle.elf_image.specs.declared.program_header.ProgramHeader.{ProgramHeader}
use Rattle.elf_image.specs.Image.{with_segment}
use Rattle.elf_image.specs.Loading.{IsFilePart, segment_end}
use Rattle.elf_image.proofs.Overlaps.{end_here, end_there}

-- no byte is put
pub put_none : (bytes : ℕ → Option ℕ) (address : ℕ) (values : List ℕ) → length values ≡ 0
    → with_bytes bytes address values ≡ bytes
put_none bytes address values none = fun_ext (λ a. put_outside address values bytes a (aside a))
  where
    aside : (a : ℕ) → (a < address) ⊎ (address + length values ≤ a)
    aside a = elim (cases_lt a address) [ inl before ↦ inl before | inr from ↦ inr (omega (arith, from, none)) ]

-- bytes are put in two parts
pub put_parts : (bytes : ℕ → Option ℕ) (address n : ℕ) (values : List ℕ) → n ≤ length values
    → with_bytes (with_bytes bytes address (take n values)) (address + n) (drop n values)
    ≡ with_bytes bytes address values
put_parts bytes address n values short = fun_ext (λ a. elim (cases_lt a address) [
  | inl before ↦ outside a (inl before)
  | inr from ↦ elim (cases_lt a (address + n)) [
    | inl first ↦
        let place : address + (a - address) ≡ a = omega (arith, from) in
        subst Same place (inside_first (a - address) (omega (arith, from, first)))
    | inr past ↦ elim (cases_lt a (address + length values)) [
      | inl second ↦
          let place : address + n + (a - (address + n)) ≡ a = omega (arith, past) in
          subst Same place (inside_second (a - (address + n)) (omega (arith, past, second)))
      | inr after ↦ outside a (inr after)
    ]
  ]
])
  where
    first : ℕ → Option ℕ
    first = with_bytes bytes address (take n values)

    front : length (take n values) ≡ n
    front = length-take-le n values short

    back : length (drop n values) ≡ length values - n
    back = length-drop n values

    Same : ℕ → Type 0
    Same a = with_bytes first (address + n) (drop n values) a ≡ with_bytes bytes address values a

    outside : (a : ℕ) → (a < address) ⊎ (address + length values ≤ a) → Same a
    outside a (inl before) =
        put_outside (address + n) (drop n values) first a (inl (omega (arith, before)))
        ∙ put_outside address (take n values) bytes a (inl before)
        ∙ sym (put_outside address values bytes a (inl before))
    outside a (inr after) =
        put_outside (address + n) (drop n values) first a (inr (omega (arith, after, back, short)))
        ∙ put_outside address (take n values) bytes a (inr (omega (arith, after, front, short)))
        ∙ sym (put_outside address values bytes a (inr after))

    inside_first : (j : ℕ) → j < n → Same (address + j)
    inside_first j below =
        put_outside (address + n) (drop n values) first (address + j) (inl (omega (arith, below)))
        ∙ put_inside address (take n values) bytes j (omega (arith, below, front))
        ∙ ap Some (get_or-take n values j 0 below)
        ∙ sym (put_inside address values bytes j (omega (arith, below, short)))

    inside_second : (j : ℕ) → n + j < length values → Same (address + n + j)
    inside_second j below =
        let place : address + (n + j) ≡ address + n + j = omega arith in
        put_inside (address + n) (drop n values) first j (omega (arith, below, back))
        ∙ ap Some (get_or-drop n values j 0)
        ∙ sym (subst (λ (a : ℕ). with_bytes bytes address values a ≡ Some (get_or values (n + j) 0)) place
        (put_inside address values bytes (n + j) below))

-- the bytes that a segment has in the file, put at its address
pub put_segment : (file : List ℕ) (header : ProgramHeader) (part : List ℕ) (bytes : ℕ → Option ℕ)
    → IsFilePart file header part → with_bytes bytes header.paddr part ≡ with_segment file header bytes
put_segment file header part bytes is = fun_ext (λ at. rw is.len (by at (is_within header.paddr header.filesz at) refl))
  where
    by : (at : ℕ) (test : Bool) → is_within header.paddr header.filesz at ≡ test
        → (if test then Some (get_or part (at - header.paddr) 0) else bytes at)
        ≡ (if test then Some (get_or file (header.offset + (at - header.paddr)) 0) else bytes at)
    by at true within = ap Some (is.value (at - header.paddr) (grind (arith, nat_tests)))
    by at false within = refl

-- one more end is kept
pub ends_more : (header : ProgramHeader) (earlier : List ProgramHeader) (before after : ℕ → Option ℕ)
    → ((q : ℕ) → after q ≡ cond (is_eq (nat_cmp header.paddr q)) (Some (header.paddr + header.memsz)) (before q))
    → ((q : ℕ) → before q ≡ segment_end earlier q) → (q : ℕ) → after q ≡ segment_end (header ∷ earlier) q
ends_more header earlier before after updates ends q = elim (cases_eq q header.paddr) [
  | inl same ↦
      rw (updates q, same, is_eq_same header.paddr) (sym (end_here header earlier header.paddr refl))
  | inr apart ↦
      (let other : header.paddr ≡ q → ⊥ = λ is. apart (sym is) in
      rw (updates q, is_eq_other header.paddr q other) (ends q ∙ sym (end_there header earlier q apart)))
]
