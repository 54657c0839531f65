-- Pieces of lines: what the lines of segments are.
use Rattle.std.specs.Prelude.{ℕ, List}
use Rattle.std.specs.List.{flat_map}

-- the lines of pieces, in order
abbrev pub lines_of_pieces : List (List (List ℕ)) → List (List ℕ)
lines_of_pieces pieces = flat_map (λ piece. piece) pieces
