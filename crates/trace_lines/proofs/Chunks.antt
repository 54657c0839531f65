-- What one read leaves of a file.
use Rattle.std.proofs.Common.{◌≡◌, ℕ, ◌+◌, ◌-◌, ◌≤◌, List, ◌++◌, take, drop, sym, ap, ◌∙◌, arith, append_assoc}
use Rattle.std.proofs.Common.{take-add}
use Rattle.std.proofs.lemmas.List.{drop-drop}
use Rattle.outside_ports.specs.Ports.{Reads}
use Rattle.trace_lines.specs.declared.line_cursor.Following.{Following}
use Rattle.trace_lines.specs.declared.line_cursor.Following.TheVariants.{Unread}
use Rattle.trace_lines.specs.Cursors.{unread_of}

-- the bytes that a read gave come before those that are still to be read
unread_more : (file chunk : List ℕ) (place most count : ℕ) → place + count ≤ most → Reads file place chunk count
    → take count chunk ++ take (most - (place + count)) (drop (place + count) file)
    ≡ take (most - place) (drop place file)
unread_more file chunk place most count within reads =
    let left : most - place ≡ count + (most - (place + count)) = omega arith in
    ap (λ bytes. bytes ++ take (most - (place + count)) (drop (place + count) file)) reads.bytes
    ∙ ap (λ rest. take count (drop place file) ++ take (most - (place + count)) rest) (sym (drop-drop count place file))
    ∙ sym (take-add count (most - (place + count)) (drop place file))
    ∙ ap (λ n. take n (drop place file)) (sym left)

pub text_more : {file chunk : List ℕ} (held : List ℕ) {items : List ℕ} (following : Following) {place : ℕ} (most : ℕ)
    {count : ℕ} → following ≡ Unread → place + count ≤ most → Reads file place chunk count
    → items ≡ held ++ take count chunk
    → items ++ unread_of following (place + count) most file ≡ held ++ unread_of following place most file
text_more {file} {chunk} held following {place} most {count} unread within reads is =
    ap (λ bytes. bytes ++ unread_of following (place + count) most file) is
    ∙ ap (λ b. (held ++ take count chunk) ++ unread_of b (place + count) most file) unread
    ∙ append_assoc held (take count chunk) (take (most - (place + count)) (drop (place + count) file))
    ∙ ap (λ bytes. held ++ bytes) (unread_more file chunk place most count within reads)
    ∙ ap (λ b. held ++ unread_of b place most file) (sym unread)
