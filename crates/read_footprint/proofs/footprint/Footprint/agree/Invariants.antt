use Rattle.std.proofs.Common.{◌≡◌, ◌⊎◌, ◌/◌, ℕ, true, is_some}
use Rattle.std.specs.Prelude.{nat_eq}
use Rattle.std.specs.HashMap.{get}
use Rattle.std.specs.Map.{lookup}
use Rattle.read_footprint.specs.Sets.{has_read}
use Rattle.read_footprint.proofs.Entries.{AreFound}
use Rattle.read_footprint.proofs.footprint.Footprint.agree.Given as goal

-- what is no more to be looked at agrees
abbrev pub invariant-loop-number : goal.invariant-loop-number
invariant-loop-number g l = record {
  can_go : (goal.iterator-loop-number g).can_next l.number-iterator;
  ends : (goal.iterator-loop-number g).is_finite l.number-iterator;
  found : AreFound l.self l.number-iterator;
  done : (q : ℕ) → is_some (get nat_eq l.self.blocks q) ≡ true → (is_some (lookup (nat_eq q) l.number-iterator) ≡ true)
      ⊎ ((address : ℕ) → address / 64 ≡ q → has_read l.self address ≡ true
      → g.N.PhysMem.bytes l.other address ≡ g.M.PhysMem.bytes l.one address);
}
