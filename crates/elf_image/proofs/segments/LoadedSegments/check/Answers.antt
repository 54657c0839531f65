use Rattle.std.proofs.Common.{refl, sym, ◌∙◌}
use Rattle.elf_image.specs.Segments.{checked_segment}
use Rattle.elf_image.proofs.segments.LoadedSegments.check.Goals as goal

pub returns-then-has_bad_size-clause-exact : goal.returns-then-has_bad_size-clause-exact
unfolding checked_segment
returns-then-has_bad_size-clause-exact c = λ earlier loaded.
    rw (sym c.has_bad_size.ensures ∙ c.if-has_bad_size.true) refl

pub returns-then-not-lies_in-clause-exact : goal.returns-then-not-lies_in-clause-exact
unfolding checked_segment
returns-then-not-lies_in-clause-exact c = λ earlier loaded.
    rw (
      sym c.has_bad_size.ensures ∙ c.if-has_bad_size.false,
      sym c.lies_in.ensures.value ∙ c.if-not-lies_in.true,
    ) refl

pub returns-then-overlaps-clause-exact : goal.returns-then-overlaps-clause-exact
unfolding checked_segment
returns-then-overlaps-clause-exact c = λ earlier loaded.
    rw (
      sym c.has_bad_size.ensures ∙ c.if-has_bad_size.false,
      sym c.lies_in.ensures.value ∙ c.if-not-lies_in.false,
      sym (c.overlaps.ensures _ earlier loaded) ∙ c.if-overlaps.true,
    ) refl

pub returns-clause-exact : goal.returns-clause-exact
unfolding checked_segment
returns-clause-exact c = λ earlier loaded.
    rw (
      sym c.has_bad_size.ensures ∙ c.if-has_bad_size.false,
      sym c.lies_in.ensures.value ∙ c.if-not-lies_in.false,
      sym (c.overlaps.ensures _ earlier loaded) ∙ c.if-overlaps.false,
    ) refl
