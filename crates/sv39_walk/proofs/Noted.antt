-- What the calls of a walk note, step by step.
use Rattle.std.proofs.Common.{◌≡◌, ℕ, ◌+◌, ◌≤◌, Bool, true, false, List, [], ◌∷◌, ◌++◌, length, sym, ◌∙◌, ap}
use Rattle.std.proofs.Common.{append_assoc, arith}
use Rattle.std.specs.Prelude.{Option, Some, None, Result, Err}
use Rattle.std.proofs.lemmas.List.{append-nil, length-append}
use Rattle.hart_words.specs.declared.accesses.Read.{Read}
use Rattle.hart_words.specs.declared.accesses.Write.{Write}
use Rattle.hart_words.specs.declared.options.Marks.TheVariants as marks
use Rattle.hart_words.specs.declared.privilege.Access.{Access}
use Rattle.hart_words.specs.declared.privilege.Cause.{Cause}
use Rattle.hart_words.specs.declared.privilege.WalkFlags.{WalkFlags}
use Rattle.hart_words.specs.Actions.{Action, Notes}
use Rattle.hart_words.specs.Memory.{Bytes, after_writes, entry_of}
use Rattle.hart_words.specs.Privilege.{access_fault_of, page_fault_of}
use Rattle.sv39_walk.specs.declared.walk.Request.{Request}
use Rattle.sv39_walk.specs.declared.walk.Table.{Table}
use Rattle.sv39_walk.specs.Entries.{Tables, is_canonical, leads_on}
use Rattle.sv39_walk.specs.Walk.{address_of, entry_read, entry_writes_of, root_of, tables_for, translation_of}
use Rattle.sv39_walk.specs.Walk.{walk_for, walk_of}
use Rattle.sv39_walk.proofs.Marked.{writes_at_most_one, writes_none_under_fault}
use Rattle.sv39_walk.proofs.Walks.{after, alone, next_table, place_in, result_at, result_in, step_ends}
use Rattle.sv39_walk.proofs.Walks.{step_on, step_refused, translation_refused, translation_walks}

-- the same action by another name
same_run : (one other : Action (Result ℕ Cause)) {value : Result ℕ Cause} {s0 s1 : List Read} {w0 w1 : List Write}
    {bytes : Bytes} → one.run (after_writes w0 bytes) ≡ other.run (after_writes w0 bytes)
    → Notes other value s0 s1 w0 w1 bytes → Notes one value s0 s1 w0 w1 bytes
same_run one other {s0} {w0} is noted = record {
  value_is = noted.value_is ∙ sym (ap (λ r. r.value) is);
  seen_is = noted.seen_is ∙ ap (λ r. s0 ++ r.reads) (sym is);
  wrote_is = noted.wrote_is ∙ ap (λ r. w0 ++ r.wrote) (sym is);
}

-- a value alone notes nothing
alone_noted : (action : Action (Result ℕ Cause)) {value : Result ℕ Cause} {seen : List Read} {sets : List Write}
    {bytes : Bytes} → action.run (after_writes sets bytes) ≡ alone value
    → Notes action value seen seen sets sets bytes
alone_noted action {seen} {sets} is = record {
  value_is = sym (ap (λ r. r.value) is);
  seen_is = sym (append-nil seen) ∙ ap (λ r. seen ++ r.reads) (sym is);
  wrote_is = sym (append-nil sets) ∙ ap (λ r. sets ++ r.wrote) (sym is);
}

-- an entry is read where the walk from a table begins
pub record ReadsEntry (readable : ℕ → Bool) (bytes : Bytes) (request : Request) (table : Table) (s0 s1 : List Read)
    (pa entry : ℕ) : Type 0 where
  pub place : pa ≡ place_in request table
  pub got : entry_of readable bytes pa ≡ Some entry
  pub read : s1 ≡ s0 ++ entry_read pa ∷ []

got_there : (readable : ℕ → Bool) (bytes : Bytes) (request : Request) (table : Table) {pa : ℕ} {found : Option ℕ}
    → pa ≡ place_in request table → entry_of readable bytes pa ≡ found
    → entry_of readable bytes (place_in request table) ≡ found
got_there readable bytes request table place got = ap (λ a. entry_of readable bytes a) (sym place) ∙ got

pub refused : (readable settable : ℕ → Bool) (request : Request) (table : Table) {pa : ℕ} {fault : Cause}
    {seen : List Read} {sets : List Write} {bytes : Bytes} → pa ≡ place_in request table
    → entry_of readable (after_writes sets bytes) pa ≡ None → fault ≡ access_fault_of request.access
    → Notes (walk_for readable settable request table) (Err fault) seen seen sets sets bytes
refused readable settable request table {sets} {bytes} place got is =
    let now : Bytes = after_writes sets bytes in
    alone_noted (walk_for readable settable request table)
    (step_refused readable settable now request table (got_there readable now request table place got)
    ∙ ap (λ f. alone (Err f)) (sym is))

pub goes_on : (readable settable : ℕ → Bool) (request : Request) (table : Table) {next : Table} {pa entry : ℕ}
    {value : Result ℕ Cause} {s0 s1 s2 : List Read} {w0 w1 : List Write} {bytes : Bytes}
    → ReadsEntry readable (after_writes w0 bytes) request table s0 s1 pa entry → leads_on table.level entry ≡ true
    → next ≡ next_table table entry → Notes (walk_for readable settable request next) value s1 s2 w0 w1 bytes
    → Notes (walk_for readable settable request table) value s0 s2 w0 w1 bytes
goes_on readable settable request table {next} {s0} {w0} {bytes} step on names noted =
    let now : Bytes = after_writes w0 bytes in
    let got = got_there readable now request table step.place step.got in
    let later = (walk_for readable settable request next).run now in
    let is : (walk_for readable settable request table).run now ≡ after (place_in request table) later =
    step_on readable settable now request table got on
    ∙ ap (λ t. after (place_in request table) ((walk_for readable settable request t).run now)) (sym names) in
    record {
      value_is = noted.value_is ∙ sym (ap (λ r. r.value) is);
      seen_is =
          noted.seen_is ∙ ap (λ s. s ++ later.reads) (step.read ∙ ap (λ a. s0 ++ entry_read a ∷ []) step.place)
          ∙ append_assoc s0 (entry_read (place_in request table) ∷ []) later.reads
          ∙ ap (λ r. s0 ++ r.reads) (sym is);
      wrote_is = noted.wrote_is ∙ ap (λ r. w0 ++ r.wrote) (sym is);
    }

pub ends : (readable settable : ℕ → Bool) (request : Request) (table : Table) {pa entry : ℕ}
    {result : Result (ℕ × Option ℕ) Cause} {s0 s1 : List Read} {w0 w1 : List Write} {bytes : Bytes}
    → ReadsEntry readable (after_writes w0 bytes) request table s0 s1 pa entry → leads_on table.level entry ≡ false
    → result ≡ result_at (tables_for readable settable request) request table.level pa entry
    → w1 ≡ w0 ++ entry_writes_of pa result
    → Notes (walk_for readable settable request table) (address_of result) s0 s1 w0 w1 bytes
ends readable settable request table {entry} {result} {s0} {w0} {bytes} step last is sets =
    let now : Bytes = after_writes w0 bytes in
    let got = got_there readable now request table step.place step.got in
    let there : result ≡ result_in readable settable request table entry =
    is ∙ ap (λ a. result_at (tables_for readable settable request) request table.level a entry) step.place in
    let run = step_ends readable settable now request table got last there in
    record {
      value_is = sym (ap (λ r. r.value) run);
      seen_is =
          step.read ∙ ap (λ a. s0 ++ entry_read a ∷ []) step.place ∙ ap (λ r. s0 ++ r.reads) (sym run);
      wrote_is =
          sets ∙ ap (λ a. w0 ++ entry_writes_of a result) step.place ∙ ap (λ r. w0 ++ r.wrote) (sym run);
    }

-- ---- the whole translation

pub from_root : (tables : Tables) (satp : ℕ) (flags : WalkFlags) (va : ℕ) (access : Access) {value : Result ℕ Cause}
    {s0 s1 : List Read} {w0 w1 : List Write} {bytes : Bytes} → is_canonical va ≡ true
    → Notes (walk_of tables flags va access 2 (root_of satp)) value s0 s1 w0 w1 bytes
    → Notes (translation_of tables satp flags va access) value s0 s1 w0 w1 bytes
from_root tables satp flags va access {w0} {bytes} can noted =
    same_run (translation_of tables satp flags va access) (walk_of tables flags va access 2 (root_of satp))
    (translation_walks tables (after_writes w0 bytes) satp flags va access can) noted

pub not_canonical : (tables : Tables) (satp : ℕ) (flags : WalkFlags) (va : ℕ) (access : Access) {fault : Cause}
    {seen : List Read} {sets : List Write} {bytes : Bytes} → is_canonical va ≡ false → fault ≡ page_fault_of access
    → Notes (translation_of tables satp flags va access) (Err fault) seen seen sets sets bytes
not_canonical tables satp flags va access {sets} {bytes} cannot is =
    alone_noted (translation_of tables satp flags va access)
    (translation_refused tables (after_writes sets bytes) satp flags va access cannot
    ∙ ap (λ f. alone (Err f)) (sym is))

pub sets_at_most_one : (tables : Tables) (satp : ℕ) (flags : WalkFlags) (va : ℕ) (access : Access)
    {value : Result ℕ Cause} {s0 s1 : List Read} {w0 w1 : List Write} {bytes : Bytes}
    → Notes (translation_of tables satp flags va access) value s0 s1 w0 w1 bytes → length w1 ≤ length w0 + 1
sets_at_most_one tables satp flags va access {w0} {w1} {bytes} noted =
    let run = (translation_of tables satp flags va access).run (after_writes w0 bytes) in
    let most = writes_at_most_one tables (after_writes w0 bytes) satp flags va access in
    let total : length w1 ≡ length w0 + length run.wrote = ap length noted.wrote_is ∙ length-append w0 run.wrote in
    omega (arith, total, most)

pub sets_none : (tables : Tables) (satp : ℕ) (flags : WalkFlags) (va : ℕ) (access : Access)
    {value : Result ℕ Cause} {s0 s1 : List Read} {w0 w1 : List Write} {bytes : Bytes}
    → Notes (translation_of tables satp flags va access) value s0 s1 w0 w1 bytes → tables.marks ≡ marks.Fault
    → w1 ≡ w0
sets_none tables satp flags va access {w0} {bytes} noted fault =
    noted.wrote_is
    ∙ ap (λ w. w0 ++ w) (writes_none_under_fault tables (after_writes w0 bytes) satp flags va access fault)
    ∙ append-nil w0
