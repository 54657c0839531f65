use Rattle.std.proofs.Common.{◌≡◌, ◌+◌, ◌-◌, ◌<◌, ◌≤◌, ◌^◌}
use Rattle.elf_image.specs.Headers.{number_at_offset}
use Rattle.elf_image.proofs.header.number_at_offset.Given as goal

-- the bytes from the k-th on were read
abbrev pub invariant-loop-k : goal.invariant-loop-k
invariant-loop-k l = record {
  number : l.number ≡ number_at_offset l.file (l.at + l.k) (l.len - l.k);
  small : l.number < 256 ^ (l.len - l.k);
  within : l.k ≤ l.len;
}

abbrev pub decreases-loop-k : goal.decreases-loop-k
decreases-loop-k l = l.k
