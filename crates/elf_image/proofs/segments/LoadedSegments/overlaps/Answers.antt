use Rattle.std.proofs.Common.{sym, ◌∙◌, ap, is_some}
use Rattle.elf_image.proofs.Orders.{less_from, is_less, not_less}
use Rattle.elf_image.proofs.Overlaps.{decided, undecided}
use Rattle.elf_image.proofs.segments.LoadedSegments.overlaps.Goals as goal

pub returns-in-Some : goal.returns-in-Some
returns-in-Some c = λ file earlier loaded.
    let entry = (c.range.ensures.in_range tt).3 _ _ c.in-Some.ensures.steps in
    let greatest = (c.range.ensures.in_range tt).4 _ _ c.in-Some.ensures.steps in
    decided c.args.header.now earlier _ _ loaded.apart (sym (loaded.ends _) ∙ entry.1) (less_from _ _ entry.0.1)
    (λ q below some. not_less _ _
    (greatest q (tt, is_less _ _ below) (ap is_some (loaded.ends q) ∙ some)))

pub returns-in-None : goal.returns-in-None
returns-in-None c = λ file earlier loaded.
    let none = (c.range.ensures.in_range tt).5 c.in-None.ensures.steps.0 in
    sym (undecided c.args.header.now earlier (λ q below. sym (loaded.ends q) ∙ none q (tt, is_less _ _ below)))
