use Rattle.std.proofs.Common.{◌≡◌, drop}
use Rattle.pmp_check.specs.Protection.{is_allowed_after}
use Rattle.pmp_check.proofs.check.first_allows.Given as goal

-- the entries from here on decide as all of them do
abbrev pub invariant-loop-entry : goal.invariant-loop-entry
invariant-loop-entry l =
    is_allowed_after l.before (drop l.entry-index l.entries) l.mode l.pa l.len l.access
    ≡ is_allowed_after 0 l.entries l.mode l.pa l.len l.access
