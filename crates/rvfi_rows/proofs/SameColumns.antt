-- Columns are the same where their signals have the same index, and their ports the same number.
use Rattle.std.proofs.Common.{◌≡◌, Decides, Option, Some, None, option_map, slice_get, sym, ap, ◌∙◌, refl, Bool, true, false, ◌&&◌}
use Rattle.std.proofs.lemmas.Bool.Decides.{Decides-eqb}
use Rattle.hart_words.specs.declared.signal.Signal.{Signal}
use Rattle.hart_words.specs.declared.signal.TheConstants.{SIGNALS}
use Rattle.hart_words.specs.Signals.{index_of, signal_entry_of}
use Rattle.hart_words.proofs.SignalTable.{stands_at_its_index}
use Rattle.rvfi_rows.specs.declared.column.Column.{Column}
use Rattle.rvfi_rows.specs.declared.column.Port.{Port}
use Rattle.rvfi_rows.specs.declared.column.Port.TheVariants.{Zero, One, Two, Three}
use Rattle.rvfi_rows.specs.declared.column.TheConstants.{PORTS}
use Rattle.rvfi_rows.specs.Ports.{is_column, port_number}

same_index : (one other : Signal) → index_of one ≡ index_of other → one ≡ other
unfolding signal_entry_of
same_index one other e =
    let found : Some one ≡ Some other =
    sym (stands_at_its_index one)
    ∙ ap (λ index. option_map (λ entry. entry.signal) (slice_get SIGNALS index)) e
    ∙ stands_at_its_index other in
    cc

same_number : (one other : Port) → port_number one ≡ port_number other → one ≡ other
same_number one other e =
    let found : Some one ≡ Some other =
    sym (stands_at one) ∙ ap (slice_get PORTS) e ∙ stands_at other in
    cc
  where
    stands_at : (port : Port) → slice_get PORTS (port_number port) ≡ Some port
    stands_at Zero = refl
    stands_at One = refl
    stands_at Two = refl
    stands_at Three = refl

same_parts : (one other : Column) → one.signal ≡ other.signal → one.port ≡ other.port → one ≡ other
same_parts one other signal port = λ i. record { signal = signal i; port = port i }

both : (x y : Bool) → (x && y) ≡ true → (x ≡ true) × (y ≡ true)
both true y e = (refl, e)
both false y e = absurd cc

-- the test of a column decides whether it is the other
pub is_column_decides : (column : Column) (other : Option Column)
    → Decides (is_column column other) (Some column ≡ other)
is_column_decides column None = (λ never. absurd cc, λ never. absurd cc)
is_column_decides column (Some other) =
    let signals = Decides-eqb (index_of other.signal) (index_of column.signal) in
    let ports = Decides-eqb (port_number other.port) (port_number column.port) in (
      λ yes. let parts = both _ _ yes in
          ap Some (same_parts column other (sym (same_index _ _ (signals.0 parts.0)))
          (sym (same_number _ _ (ports.0 parts.1)))),
      λ e. let same : column ≡ other = cc in
          rw (signals.1 (ap (λ c. index_of c.signal) (sym same)), ports.1 (ap (λ c. port_number c.port) (sym same)))
          refl,
    )
