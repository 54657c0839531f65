-- The byte order mark at the front of a file.
use Rattle.std.proofs.Common.{◌≡◌, ℕ, ◌≤◌, ◌⊎◌, inl, inr, Bool, true, false, ◌&&◌, ◌==◌, if◌then◌else◌, nat_lt, List}
use Rattle.std.proofs.Common.{[], ◌∷◌, ◌++◌, length, take, drop, refl, sym, ap, ◌∙◌, arith, append-nil}
use Rattle.trace_lines.specs.declared.line_cursor.Following.{Following}
use Rattle.trace_lines.specs.declared.line_cursor.Following.TheVariants.{Unread, End, TooLarge}
use Rattle.trace_lines.specs.Cursors.{unread_of}
use Rattle.trace_lines.specs.Lines.{lines_from, text_parts_of, has_mark, without_mark, file_lines}

-- a text with a mark has three bytes
marked_by : (first second : Bool) → (first && second && false) ≡ true → ⊥
marked_by true true is = cc is
marked_by true false is = cc is
marked_by false second is = cc is

text_marked : (bytes unread : List ℕ) → has_mark bytes ≡ true → without_mark (bytes ++ unread) ≡ drop 3 bytes ++ unread
unfolding without_mark
text_marked [] unread marked = absurd (marked_by (0 == 239) (0 == 187) marked)
text_marked (a ∷ []) unread marked = absurd (marked_by (a == 239) (0 == 187) marked)
text_marked (a ∷ b ∷ []) unread marked = absurd (marked_by (a == 239) (b == 187) marked)
text_marked (a ∷ b ∷ c ∷ bytes) unread marked =
    ap (λ (test : Bool). if test then bytes ++ unread else a ∷ b ∷ c ∷ (bytes ++ unread)) marked

plain_whole : (bytes unread : List ℕ) → has_mark bytes ≡ false → unread ≡ []
    → without_mark (bytes ++ unread) ≡ bytes ++ unread
unfolding without_mark
plain_whole bytes unread plain none =
    let whole : bytes ++ unread ≡ bytes = ap (λ rest. bytes ++ rest) none ∙ append-nil bytes in
    ap without_mark whole ∙ ap (λ (test : Bool). if test then drop 3 bytes else bytes) plain ∙ sym whole

text_unmarked : (bytes unread : List ℕ) → has_mark bytes ≡ false → (3 ≤ length bytes) ⊎ (unread ≡ [])
    → without_mark (bytes ++ unread) ≡ bytes ++ unread
unfolding without_mark
text_unmarked bytes unread plain (inr none) = plain_whole bytes unread plain none
text_unmarked [] unread plain (inl enough) = absurd (omega (arith, enough))
text_unmarked (a ∷ []) unread plain (inl enough) = absurd (omega (arith, enough))
text_unmarked (a ∷ b ∷ []) unread plain (inl enough) = absurd (omega (arith, enough))
text_unmarked (a ∷ b ∷ c ∷ bytes) unread plain (inl enough) =
    ap (λ (test : Bool). if test then bytes ++ unread else a ∷ b ∷ c ∷ (bytes ++ unread)) plain

-- the text, the number of its first line and whether more follows are those of a file of which nothing was taken
pub record IsAtFront (most : ℕ) (file : List ℕ) (more : Bool) (number : ℕ) (text : List ℕ) : Type 0 where
  pub first : number ≡ 1
  pub more_is : more ≡ nat_lt most (length file)
  pub text_is : text ≡ take most file

-- its lines
left_first : {most : ℕ} {file : List ℕ} {more : Bool} {number : ℕ} {whole text : List ℕ}
    → IsAtFront most file more number whole → without_mark whole ≡ text
    → lines_from more number (text_parts_of text) ≡ file_lines most file
unfolding file_lines
left_first {most} {file} {more} {number} {whole} {text} front passed =
    ap (λ n. lines_from more n (text_parts_of text)) front.first
    ∙ ap (λ (m : Bool). lines_from m 1 (text_parts_of text)) front.more_is
    ∙ ap (λ bytes. lines_from (nat_lt most (length file)) 1 (text_parts_of bytes))
    (sym passed ∙ ap without_mark front.text_is)

pub left_marked : {most : ℕ} {file : List ℕ} {more : Bool} {number : ℕ} (bytes unread : List ℕ)
    → IsAtFront most file more number (bytes ++ unread) → true ≡ has_mark bytes
    → lines_from more number (text_parts_of (drop 3 bytes ++ unread)) ≡ file_lines most file
left_marked bytes unread front marked = left_first front (text_marked bytes unread (sym marked))

pub left_unmarked : {most : ℕ} {file : List ℕ} {more : Bool} {number : ℕ} (bytes unread : List ℕ)
    → IsAtFront most file more number (bytes ++ unread) → false ≡ has_mark bytes
    → (3 ≤ length bytes) ⊎ (unread ≡ [])
    → lines_from more number (text_parts_of (bytes ++ unread)) ≡ file_lines most file
left_unmarked bytes unread front plain enough = left_first front (text_unmarked bytes unread (sym plain) enough)

-- three bytes were read, or all
pub enough_read : (following : Following) (place most : ℕ) (file bytes : List ℕ)
    → (following ≡ Unread → 3 ≤ length bytes) → (3 ≤ length bytes) ⊎ (unread_of following place most file ≡ [])
enough_read Unread place most file bytes enough = inl (enough refl)
enough_read End place most file bytes enough = inr refl
enough_read TooLarge place most file bytes enough = inr refl
