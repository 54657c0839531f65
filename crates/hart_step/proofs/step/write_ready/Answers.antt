use Rattle.std.proofs.Common.{◌≡◌, ℕ, ◌+◌, ◌/◌, ◌<◌, ◌∙◌, List, ◌∷◌, get_or, length, drop, sym, ap, refl, add-one}
use Rattle.std.proofs.Common.{drop-cons}
use Rattle.std.proofs.lemmas.List.{drop_all}
use Rattle.hart_words.specs.declared.accesses.Write.{Write}
use Rattle.hart_words.specs.declared.span.TheConstants.{PAGE_SIZE}
use Rattle.hart_words.specs.Memory.{Bytes, after_writes, bytes_after_store}
use Rattle.hart_step.proofs.step.write_ready.Goals as goal

-- one more is written
one_more : (writes : List Write) (i : ℕ) (d : Write) (old : Bytes) {new : Bytes} → i < length writes
    → new ≡ bytes_after_store (get_or writes i d).pa (get_or writes i d).len (get_or writes i d).value old
    → after_writes (drop (i + 1) writes) new ≡ after_writes (drop i writes) old
unfolding after_writes
one_more writes i d old below is =
    let split : drop i writes ≡ get_or writes i d ∷ drop (i + 1) writes = rw (add-one, drop-cons writes i d) refl in
    ap (λ b. after_writes (drop (i + 1) writes) b) is ∙ ap (λ w. after_writes w old) (sym split)

pub loop-write-preserved : goal.loop-write-preserved
loop-write-preserved g c = record {
  ready =
      λ k d below. c.in_ok-write.ensures.ready ((get_or c.args.writes.now k d).pa / PAGE_SIZE)
      (c.loop-write.invariant.ready k d below);
  bytes =
      one_more c.args.writes.now c.loop-write.write-index _ (g.M.PhysMem.bytes c.loop-write.mem)
      c.loop-write-test.true c.in_ok-write.ensures.ok
      ∙ c.loop-write.invariant.bytes;
  ram = c.in_ok-write.ensures.ram ∙ c.loop-write.invariant.ram;
}

pub returns-clause-bytes : goal.returns-clause-bytes
unfolding after_writes
returns-clause-bytes g c =
    sym
    (ap (λ w. after_writes w (g.M.PhysMem.bytes c.loop-write.mem))
    (drop_all c.loop-write.write-index c.args.writes.now c.loop-write-test.false))
    ∙ c.loop-write.invariant.bytes
