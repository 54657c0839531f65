use Rattle.std.proofs.Common.{sym, ◌∙◌, ap, is_some, nat_cmp}
use Rattle.std.specs.BTreeMap.{get}
use Rattle.page_layers.specs.Memories.{map_has_byte}
use Rattle.page_layers.proofs.Changes.{byte_added, map_unchanged, has_unchanged, there_still, untested}
use Rattle.page_layers.proofs.map_mem.MapMem.hold.Goals as goal

pub returns-then-contains_key-clause-ok : goal.returns-then-contains_key-clause-ok
unfolding map_has_byte
returns-then-contains_key-clause-ok c = sym c.contains_key.ensures ∙ c.if-contains_key.true

pub returns-in_err-insert-clause-bytes : goal.returns-in_err-insert-clause-bytes
returns-in_err-insert-clause-bytes c = map_unchanged _ _ c.in_err-insert.ensures.err

pub returns-in_err-insert-clause-held : goal.returns-in_err-insert-clause-held
unfolding map_has_byte
returns-in_err-insert-clause-held c = λ there. untested (sym c.contains_key.ensures ∙ c.if-contains_key.false) there

pub returns-in_err-insert-clause-keeps : goal.returns-in_err-insert-clause-keeps
returns-in_err-insert-clause-keeps c = λ at there. has_unchanged _ _ c.in_err-insert.ensures.err at ∙ there

pub returns-clause-bytes : goal.returns-clause-bytes
returns-clause-bytes c =
    byte_added _ _ c.args.pa c.in_ok-insert.ensures.updates.0 (sym c.contains_key.ensures ∙ c.if-contains_key.false)

pub returns-clause-ok : goal.returns-clause-ok
unfolding map_has_byte
returns-clause-ok c = ap is_some c.in_ok-insert.ensures.updates.1

pub returns-clause-keeps : goal.returns-clause-keeps
unfolding map_has_byte
returns-clause-keeps c =
    λ at there. there_still (get nat_cmp c.args.self.now.bytes) (get nat_cmp c.insert.new.self) c.args.pa 0
    c.in_ok-insert.ensures.updates.0 at there
