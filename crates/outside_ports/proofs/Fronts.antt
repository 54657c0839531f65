-- What one more read makes of the front of a file.
use Rattle.std.proofs.Common.{◌≡◌, ℕ, ◌+◌, ◌-◌, ◌<◌, ◌≤◌, List, ◌++◌, take, drop, length, Option, Some, None, Ok}
use Rattle.std.proofs.Common.{IsSome, [], refl, sym, ap, ◌∙◌, arith, length-append}
use Rattle.std.proofs.lemmas.List.{length-take-le}
use Rattle.std.proofs.Math.Seq.{take-add}
use Rattle.outside_ports.specs.Ports.{Files, misses_after, misses_of_file, IsMissing, IsThere, ReadsWhereKnown}
use Rattle.outside_ports.specs.Ports.{ReadsFile}
use Rattle.outside_ports.specs.Front.{ReadsChunk}

-- the bytes read so far are the front of the file
abbrev pub IsRead : Option (List ℕ) → List ℕ → Type 0
IsRead None bytes = Unit {0}
IsRead (Some file) bytes = (length bytes ≤ length file) × (bytes ≡ take (length bytes) file)

pub read_more : (file : Option (List ℕ)) (bytes chunk : List ℕ) (count : ℕ) → count ≤ length chunk
    → IsRead file bytes → ReadsChunk file (length bytes) chunk count → IsRead file (bytes ++ take count chunk)
read_more None bytes chunk count within so_far next = tt
read_more (Some file) bytes chunk count within so_far next =
    let inside : count ≤ length file - length bytes = omega (arith, next.within) in
    let here : take count chunk ≡ take count (drop (length bytes) file) = next.bytes in
    let len : length (bytes ++ take count chunk) ≡ length bytes + count =
    length-append bytes (take count chunk) ∙ ap (λ n. length bytes + n) (length-take-le count chunk within) in
    let parts : bytes ++ take count chunk ≡ take (length bytes) file ++ take count (drop (length bytes) file) =
    ap (λ xs. xs ++ take count chunk) so_far.1 ∙ ap (λ xs. take (length bytes) file ++ xs) here in (
      rw len (omega (arith, so_far.0)),
      parts ∙ sym (take-add (length bytes) count file) ∙ ap (λ n. take n file) (sym len),
    )

-- a read raises the misses only where a told file is not there
pub misses_rise : (known_files : Option Files) (name : List ℕ) (before now : ℕ)
    → now ≡ misses_after known_files name before → before < now → IsMissing known_files name
misses_rise None name before now is rise = absurd (omega arith)
misses_rise (Some files) name before now is rise = rise_of (files name) refl
  where
    rise_of : (file : Option (List ℕ)) → files name ≡ file → files name ≡ None
    rise_of None e = e
    rise_of (Some bytes) e = let same : now ≡ before = is ∙ ap (λ f. misses_of_file f before) e in absurd (omega arith)

-- a read that gives bytes is of a file that is there
pub read_there : (known_files : Option Files) (name : List ℕ) (at : ℕ) (buffer : List ℕ) (count : ℕ)
    → ReadsWhereKnown known_files name at buffer (Ok count) → IsThere known_files name
read_there None name at buffer count reads = tt
read_there (Some files) name at buffer count reads = of (files name) reads
  where
    of : (file : Option (List ℕ)) → ReadsFile file at buffer (Ok count) → IsSome file
    of None reads = cc
    of (Some bytes) reads = refl
