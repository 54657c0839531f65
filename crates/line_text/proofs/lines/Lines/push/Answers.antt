use Rattle.std.proofs.Common.{◌≡◌, ◌∙◌, ap, length, ◌+◌, ◌++◌, ◌∷◌, [], ℕ, List, append_assoc, length-append}
use Rattle.line_text.specs.Lines.{line_feed, text_lines}
use Rattle.line_text.proofs.Texts.{laid_out-push, lines_in-push}
use Rattle.line_text.proofs.lines.Lines.push.Goals as goal
use Rattle.line_text.proofs.lines.Lines.push.Goals.{After-push_reserved-2}

-- the text with the line and its line feed
grown : (c : After-push_reserved-2)
    → c.push_reserved.new.self.items ≡ c.self.inside.text.items ++ (c.args.line.now ++ line_feed ∷ [])
grown c =
    let text : c.extend_from_slice.new.self.items ≡ c.self.inside.text.items ++ c.args.line.now =
    c.in_ok-extend_from_slice.ensures.items
    ∙ ap (λ (front : List ℕ). front ++ c.args.line.now) c.reserve.ensures.items in
    c.push_reserved.ensures.items
    ∙ ap (λ (front : List ℕ). front ++ line_feed ∷ []) text
    ∙ append_assoc c.self.inside.text.items c.args.line.now (line_feed ∷ [])

at_end : (c : After-push_reserved-2) → c.len-end.result ≡ length c.self.inside.text.items + length c.args.line.now
at_end c =
    let text : c.extend_from_slice.new.self.items ≡ c.self.inside.text.items ++ c.args.line.now =
    c.in_ok-extend_from_slice.ensures.items
    ∙ ap (λ (front : List ℕ). front ++ c.args.line.now) c.reserve.ensures.items in
    c.len-end.ensures ∙ c.extend_from_slice.new.self.ok.0 ∙ ap length text
    ∙ length-append c.self.inside.text.items c.args.line.now

placed : (c : After-push_reserved-2)
    → c.push_reserved-2.new.self.items ≡ c.self.inside.ends.items ++ c.len-end.result ∷ []
placed c =
    c.push_reserved-2.ensures.items ∙ ap (λ (front : List ℕ). front ++ c.len-end.result ∷ []) c.reserve-2.ensures.items

pub invariant_of-self-2 : goal.invariant_of-self-2
invariant_of-self-2 c = rw (grown c, placed c) (laid_out-push _ _ _ _ c.self.invariant c.requires (at_end c))

pub returns-clause-pushed : goal.returns-clause-pushed
returns-clause-pushed c =
    ap text_lines (grown c)
    ∙ lines_in-push _ _ c.self.invariant.made c.requires
    ∙ ap (λ (lines : List (List ℕ)). lines ++ c.args.line.now ∷ []) c.self.view_is
