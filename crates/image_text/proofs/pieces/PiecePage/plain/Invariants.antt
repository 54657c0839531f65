use Rattle.std.proofs.Common.{◌≡◌, ◌<◌, ℕ, length, None, unwrap_or, slice_index}
use Rattle.std.specs.List.{slice_index_or}
use Rattle.image_text.proofs.pieces.PiecePage.plain.Given as goal

abbrev pub invariant-loop-k : goal.invariant-loop-k
invariant-loop-k l = record {
  len : length l.plain ≡ 4096;
  done : (j : ℕ) → j < l.k → slice_index l.plain j ≡ unwrap_or (slice_index_or l.self.bytes j None) 0;
  small : (j : ℕ) → slice_index l.plain j < 256;
}
