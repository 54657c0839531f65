-- Last writers, and the trail that they are of.
use Rattle.std.proofs.Common.{◌≡◌, ℕ, ◌+◌, ◌*◌, ◌/◌, ◌%◌, ◌<◌, ◌^◌, ◌++◌, [], ◌∷◌, List, length, Option, Some, None}
use Rattle.std.proofs.Common.{sym, ap, ◌∙◌, arith, if◌then◌else◌}
use Rattle.std.proofs.Math.Path.{fun_ext}
use Rattle.std.specs.List.{filter}
use Rattle.hart_words.specs.declared.accesses.Read.{Read}
use Rattle.hart_words.specs.declared.accesses.Write.{Write}
use Rattle.rvfi_rows.specs.declared.expected.Effects.{Effects}
use Rattle.row_origin.specs.declared.last.Last.{Last}
use Rattle.row_origin.specs.declared.origins.Origins.{Origins}
use Rattle.row_origin.specs.declared.places.Places.{Places}
use Rattle.row_origin.specs.Last.{CountsFrom, IsAsBefore, IsLastOf, byte_at, byte_in, register_in}
use Rattle.row_origin.specs.Origins.{byte_origins, bytes_in, origins_in, origins_of, register_origins, registers_in}
use Rattle.row_origin.specs.Places.{AreSame, PlacesFit, as_row, laid_over, row_at}
use Rattle.row_origin.specs.Sources.{addresses_of, effects_of, is_kept, is_written, load_of, loaded_by, parts_in}
use Rattle.row_origin.specs.Sources.{registers_read, sources_of, writes_byte, writes_register}
use Rattle.row_origin.specs.Trails.{RowFacts, Trail, last_row}
use Rattle.row_origin.proofs.Trails.{last_row_added, last_row_laid, last_row_of_none, row_counts}

-- those of no row
pub of_no_row : (last : Last) → ((hart number : ℕ) → row_at last.registers hart number ≡ None)
    → ((number place : ℕ) → row_at last.bytes number place ≡ None) → IsLastOf last []
unfolding last_row
of_no_row last registers bytes = record {
  registers = λ hart number. registers hart number;
  bytes = λ address. bytes (address / 32) (address % 32);
}

pub of_none_more : (last : Last) (trail : Trail) → IsLastOf last trail → IsLastOf last (trail ++ None ∷ [])
of_none_more last trail are = record {
  registers = λ hart number. are.registers hart number ∙ sym (last_row_of_none (writes_register hart number) trail);
  bytes = λ address. are.bytes address ∙ sym (last_row_of_none (writes_byte address) trail);
}

pub count_on : (last : Last) (trail : Trail) (base : ℕ) → IsLastOf last trail → base + length trail < 2 ^ 64
    → CountsFrom base last
count_on last trail base are fits = record {
  registers =
      λ hart number row found. row_counts (writes_register hart number) trail base row
      (sym (are.registers hart number) ∙ found) fits;
  bytes = λ address row found. row_counts (writes_byte address) trail base row (sym (are.bytes address) ∙ found) fits;
}

-- one row more
pub of_one_more : (before after : Last) (registers bytes : Places) (facts : RowFacts) (wrote : List Write) (row : ℕ)
    → AreSame before.registers registers → AreSame before.bytes bytes → wrote ≡ facts.wrote
    → ((hart number : ℕ) → row_at after.registers hart number
    ≡ (if writes_register hart number facts then as_row row else row_at registers hart number))
    → ((address : ℕ) → byte_at after.bytes address
    ≡ (if is_written wrote address then as_row row else byte_at bytes address))
    → (trail : Trail) → IsLastOf before trail → length trail + 1 ≡ row → IsLastOf after (trail ++ Some facts ∷ [])
of_one_more before after registers bytes facts wrote row same_registers same_bytes same_writes one two trail are is =
    record {
      registers =
          λ hart number. last_row_added (writes_register hart number) facts trail row _ _
          (same_registers hart number ∙ are.registers hart number) is (one hart number);
      bytes =
          λ address. last_row_added (writes_byte address) facts trail row _ _
          (same_bytes (address / 32) (address % 32) ∙ are.bytes address) is
          (two address
          ∙ ap (λ writes. if is_written writes address then as_row row else byte_at bytes address) same_writes);
    }

-- later rows laid over others
pub of_more_rows : (before later after : Last) (registers bytes : Places) (base : ℕ)
    → AreSame before.registers registers → AreSame before.bytes bytes
    → ((hart number : ℕ) → row_at after.registers hart number
    ≡ laid_over base (row_at later.registers hart number) (row_at registers hart number))
    → ((number place : ℕ) → row_at after.bytes number place
    ≡ laid_over base (row_at later.bytes number place) (row_at bytes number place))
    → (first second : Trail) → IsLastOf before first → IsLastOf later second → base ≡ length first
    → IsLastOf after (first ++ second)
of_more_rows before later after registers bytes base same_registers same_bytes one two first second are those from =
    record {
      registers =
          λ hart number. last_row_laid (writes_register hart number) first second base _ _ _
          (same_registers hart number ∙ are.registers hart number) (those.registers hart number) from
          (one hart number);
      bytes =
          λ address. last_row_laid (writes_byte address) first second base _ _ _
          (same_bytes (address / 32) (address % 32) ∙ are.bytes address) (those.bytes address) from
          (two (address / 32) (address % 32));
    }

-- two that have the same places are as before
pub as_before : (before after : Last) → AreSame before.registers after.registers → AreSame before.bytes after.bytes
    → IsAsBefore before after
as_before before after registers bytes = record {
  registers = registers;
  bytes = λ address. bytes (address / 32) (address % 32);
}

-- places of bytes can be counted on, where each byte's row can
address_of : (number place : ℕ) → place < 32
    → ((number * 32 + place) / 32 ≡ number) × ((number * 32 + place) % 32 ≡ place)
address_of number place within = (grind arith, grind arith)

pub bytes_fit : (last : Last) (base : ℕ) → CountsFrom base last → PlacesFit base last.bytes
bytes_fit last base counts number place row within found =
    let at = address_of number place within in
    counts.bytes (number * 32 + place) row (rw (at.0, at.1) found)

pub registers_fit : (last : Last) (base : ℕ) → CountsFrom base last → PlacesFit base last.registers
registers_fit last base counts number place row within found = counts.registers number place row found

-- the origins of a row
pub are_origins : (last : Last) (trail : Trail) (facts : RowFacts) (origins : Origins)
    → registers_in origins ≡ register_origins (λ number. register_in last facts.hart number) (sources_of facts.expected)
    → bytes_in origins ≡ byte_origins (byte_in last) (addresses_of (loaded_by facts.expected facts.reads))
    → IsLastOf last trail → origins_in origins ≡ origins_of trail facts
are_origins last trail facts origins registers bytes are =
    let sources = sources_of facts.expected in
    let addresses = addresses_of (loaded_by facts.expected facts.reads) in
    let one = registers
    ∙ ap (λ (rows : ℕ → Option ℕ). register_origins rows sources)
    (fun_ext (λ number. are.registers facts.hart number)) in
    let two = bytes ∙ ap (λ (rows : ℕ → Option ℕ). byte_origins rows addresses) (fun_ext are.bytes) in
    λ i. record { registers = one i; bytes = two i }

-- those of an instruction that was retired
pub are_effects : (last : Last) (trail : Trail) (facts : RowFacts) (origins : Origins) (effects : Effects)
    (reads : List Read) → effects_of facts.expected ≡ Some effects → reads ≡ facts.reads
    → registers_in origins
    ≡ register_origins (λ number. register_in last facts.hart number) (filter is_kept (registers_read (Some effects)))
    → bytes_in origins ≡ byte_origins (byte_in last) (addresses_of (parts_in (load_of (Some effects)) reads))
    → IsLastOf last trail → origins_in origins ≡ origins_of trail facts
are_effects last trail facts origins effects reads is same registers bytes are =
    are_origins last trail facts origins
    (registers
    ∙ ap
    (λ done. register_origins (λ number. register_in last facts.hart number) (filter is_kept (registers_read done)))
    (sym is))
    (bytes
    ∙ ap (λ done. byte_origins (byte_in last) (addresses_of (parts_in (load_of done) reads))) (sym is)
    ∙ ap (λ list. byte_origins (byte_in last) (addresses_of (loaded_by facts.expected list))) same)
    are
