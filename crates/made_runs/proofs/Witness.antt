-- A map and a memory with the image.
use Rattle.std.proofs.Common.{◌≡◌, ℕ, ◌+◌, ◌-◌, None, refl, ap, arith}
use Rattle.std.specs.Prelude.{replicate, slice_index}
use Rattle.hart_words.specs.declared.span.Span.{Span}
use Rattle.hart_words.specs.Spans.{is_span-true, span_with}
use Rattle.trace_maker.specs.Texts.{made_bytes}
use Rattle.made_runs.specs.Laws.{MadeState}

ram : Span
ram = span_with 0x80000000 0x8000000 (is_span-true 0x80000000 0x8000000 refl)

pub made_state : (number : ℕ) → MadeState number
unfolding ram
made_state number = record {
  map = record { ram = ram; io = replicate 8 None; apart = refl };
  bytes = λ address. slice_index (made_bytes number) (address - 0x80000000);
  is_map = record { base = refl; size = refl };
  has_image =
      λ place inside. let back : 0x80000000 + place - 0x80000000 ≡ place =
      omega arith in ap (slice_index (made_bytes number)) back;
}
