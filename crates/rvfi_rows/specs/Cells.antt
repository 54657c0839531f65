-- What a row's bits and values show.
use Rattle.std.specs.Prelude.{◌≡◌, ℕ, ◌<◌, ◌^◌, ◌==◌, Bool, true, List, [], ◌∷◌, map, if◌then◌else◌, Some, None}
use Rattle.std.specs.Prelude.{slice_index, Result, Ok, Err}
use Rattle.std.specs.Int.{bit_at}
use Rattle.std.specs.List.{list_any}
use Rattle.hart_words.specs.declared.signal.Signal.{Signal}
use Rattle.hart_words.specs.Signals.{Shown, index_of}
use Rattle.hart_words.specs.Results.{◌>>=◌}
use Rattle.rvfi_rows.specs.declared.fault.RowFault.{RowFault}
use Rattle.rvfi_rows.specs.declared.row.Row.{Row}
use Rattle.rvfi_rows.specs.Rows.{alone, nothing, shown_then}

-- a signal is shown where the bit at its index is set, with the value there
unfoldable pub shown_in : Row → Shown
shown_in row signal =
    if bit_at row.shown (index_of signal) == 1 then Some (slice_index row.values (index_of signal)) else None

-- the same by these bits and values
unfoldable pub shown_by : ℕ → List ℕ → Shown
shown_by bits values signal =
    if bit_at bits (index_of signal) == 1 then Some (slice_index values (index_of signal)) else None

-- what a field shows is shown besides, by the bits and values then, unless the field is refused
abbrev pub Adds : Shown → List ℕ → Result ℕ RowFault → Result Shown RowFault → Type 0
Adds before values (Ok bits) more = (more >>= λ field. Ok (shown_then before field)) ≡ Ok (shown_by bits values)
Adds before values (Err fault) more = more ≡ Err fault

-- of what is shown, the signals whose bits are set
unfoldable pub with_bits : ℕ → Shown → Shown
with_bits bits shown signal = if bit_at bits (index_of signal) == 1 then shown signal else None

-- signals with a value each
unfoldable pub values_of : List Signal → List ℕ → Shown
values_of [] values = nothing
values_of (signal ∷ signals) [] = nothing
values_of (signal ∷ signals) (value ∷ values) = shown_then (alone signal (Some value)) (values_of signals values)

-- the values at the signals' indices
abbrev pub values_at : List ℕ → List Signal → List ℕ
values_at values signals = map (λ signal. slice_index values (index_of signal)) signals

-- one of the signals is this one
abbrev pub is_among : List Signal → Signal → Bool
is_among signals signal = list_any (λ other. index_of signal == index_of other) signals

-- no bits are set but those of the signals
pub record AreOf (signals : List Signal) (bits : ℕ) : Type 0 where
  pub below : bits < 2 ^ 111
  pub theirs : (signal : Signal) → bit_at bits (index_of signal) ≡ 1 → is_among signals signal ≡ true
  deriving IsProp as AreOf-prop
