-- Pages at their places in a list.
use Rattle.std.proofs.Common.{◌≡◌, ℕ, ◌+◌, ◌<◌, List, [], ◌∷◌, ◌++◌, length, Option, None, Some, sym, ap, ◌∙◌, arith, subst}
use Rattle.std.proofs.Common.{inl, inr, ◌≤◌, Bor}
use Rattle.std.specs.Option.{IfSome, MatchOption}
use Rattle.std.specs.List.{HoldsAt, slice_index_or}
use Rattle.std.proofs.lemmas.Bool.{cases_lt}
use Rattle.std.proofs.lemmas.List.{get_or_append_left, get_or_push, length-append}
use Rattle.std.specs.HashMap.{HashMap}
use Rattle.page_image.specs.declared.shared_page.SharedPage.{SharedPage}
use Rattle.page_image.specs.Pages.{byte_or_zero, page_at, page_in, page_of}

-- each page of a list is the one of its number
abbrev pub ArePlaced : {S : Type 0} → HashMap ℕ SharedPage S → ℕ → List (Option SharedPage) → Type 0
ArePlaced pages lowest near = (place : ℕ) → place < length near → page_in near place ≡ page_at pages (lowest + place)

last_place : (near : List (Option SharedPage)) (page : Option SharedPage) (place : ℕ)
    → place < length (near ++ page ∷ []) → length near ≤ place → length near ≡ place
last_place near page place within last =
    let more : length (near ++ page ∷ []) ≡ length near + 1 = length-append near (page ∷ []) in
    omega (arith, within, last, more)

-- one more page is put in its place
pub placed_more : {S : Type 0} (pages : HashMap ℕ SharedPage S) (lowest number : ℕ) (near : List (Option SharedPage))
    (page : Option SharedPage) → lowest + length near ≡ number → page_of page ≡ page_at pages number
    → ArePlaced pages lowest near → ArePlaced pages lowest (near ++ page ∷ [])
placed_more pages lowest number near page end is placed place within = elim (cases_lt place (length near)) [
  | inl before ↦ ap page_of (get_or_append_left near (page ∷ []) None place before) ∙ placed place before
  | inr last ↦
      let here = last_place near page place within last in
      ap page_of (get_or_push near page None place here) ∙ is
      ∙ ap (page_at pages) (sym end ∙ ap (λ k. lowest + k) here)
]

-- what is found at the place of a number is its page
pub found_near : {S : Type 0} (pages : HashMap ℕ SharedPage S) (lowest number place : ℕ)
    (list near : List (Option SharedPage)) (found : Option (Bor (Option SharedPage))) → list ≡ near
    → lowest + place ≡ number
    → ((place pa : ℕ) → place < length near
    → byte_or_zero (page_in near place) pa ≡ byte_or_zero (page_at pages (lowest + place)) pa)
    → MatchOption found (length list ≤ place) (λ page. (place < length list) × HoldsAt (λ p. page.now ≡ p) list place)
    → IfSome found (λ page. (pa : ℕ) → byte_or_zero (page_of page.now) pa ≡ byte_or_zero (page_at pages number) pa)
found_near pages lowest number place list near None same here placed found = tt
found_near pages lowest number place list near (Some page) same here placed found = λ pa.
    let within : place < length near = subst (λ l. place < length l) same found.0 in
    ap (λ p. byte_or_zero (page_of p) pa) (found.1 None ∙ ap (λ l. slice_index_or l place None) same)
    ∙ placed place pa within ∙ ap (λ n. byte_or_zero (page_at pages n) pa) here
