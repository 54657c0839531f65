use Rattle.std.proofs.Common.{◌≡◌, ◌⊎◌, ◌/◌, ℕ, true, is_some}
use Rattle.std.specs.Prelude.{nat_eq}
use Rattle.std.specs.HashMap.{get}
use Rattle.std.specs.Map.{lookup}
use Rattle.read_footprint.specs.Sets.{ArePartlyMoved, has_written}
use Rattle.read_footprint.proofs.Entries.{AreFound}
use Rattle.read_footprint.proofs.footprint.Footprint.moved.Given as goal

-- what is no more to be looked at was moved
abbrev pub invariant-loop-number : goal.invariant-loop-number
invariant-loop-number g l = record {
  can_go : (goal.iterator-loop-number g).can_next l.number-iterator;
  ends : (goal.iterator-loop-number g).is_finite l.number-iterator;
  found : AreFound l.self l.number-iterator;
  done : (q : ℕ) → is_some (get nat_eq l.self.blocks q) ≡ true → (is_some (lookup (nat_eq q) l.number-iterator) ≡ true)
      ⊎ ((address : ℕ) → address / 64 ≡ q → has_written l.self address ≡ true
      → g.M.PhysMem.bytes l.memory address ≡ g.N.PhysMem.bytes l.judged address);
  either : ArePartlyMoved (has_written l.self) (g.N.PhysMem.bytes l.judged) (g.M.PhysMem.bytes l.fn.memory)
      (g.M.PhysMem.bytes l.memory);
  ram : g.M.PhysMem.ram l.memory ≡ g.M.PhysMem.ram l.fn.memory;
}
