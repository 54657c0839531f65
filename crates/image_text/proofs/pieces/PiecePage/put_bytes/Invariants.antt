use Rattle.std.proofs.Common.{◌≡◌, ℕ, length, take, None}
use Rattle.std.specs.List.{slice_index_or}
use Rattle.image_text.specs.Runs.{with_bytes}
use Rattle.image_text.proofs.pieces.PiecePage.put_bytes.Given as goal

abbrev pub invariant-loop-k : goal.invariant-loop-k
invariant-loop-k l = record {
  len : length l.self.bytes ≡ 4096;
  put : (j : ℕ) → slice_index_or l.self.bytes j None
      ≡ with_bytes (λ k. slice_index_or l.initial.self.bytes k None) l.offset (take l.k l.bytes) j;
}
