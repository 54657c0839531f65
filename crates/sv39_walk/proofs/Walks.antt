-- What the walk's action gives, reads and writes, step by step and by its chain.
use Rattle.std.proofs.Common.{◌≡◌, ℕ, zero, suc, ◌-◌, inl, inr, Bool, true, false, ◌&&◌, cond, List, [], ◌∷◌}
use Rattle.std.proofs.Common.{refl, sym, ◌∙◌, ap, arith}
use Rattle.std.specs.Prelude.{nat_lt, Option, Some, None, Result, Ok, Err}
use Rattle.std.proofs.lemmas.Bool.{cond-true, cond-false, cases_Bool, and_left, and_right, and_from, and_parts}
use Rattle.std.proofs.lemmas.Bool.{lt-ltb}
use Rattle.hart_words.specs.declared.privilege.Access.{Access}
use Rattle.hart_words.specs.declared.privilege.Cause.{Cause}
use Rattle.hart_words.specs.declared.privilege.WalkFlags.{WalkFlags}
use Rattle.hart_words.specs.declared.accesses.Write.{Write}
use Rattle.hart_words.specs.Memory.{Bytes, number_at, entry_of, after_writes}
use Rattle.hart_words.specs.Actions.{Run, Action, pure, read_memory, write_memory, run_then, ◌>>=◌, mapped}
use Rattle.sv39_walk.specs.Entries.{Tables, page_number, is_link, leads_on, final_result, entry_address, is_canonical}
use Rattle.hart_words.specs.Privilege.{access_fault_of, page_fault_of}
use Rattle.sv39_walk.specs.declared.walk.Request.{Request}
use Rattle.sv39_walk.specs.declared.walk.Table.{Table}
use Rattle.sv39_walk.specs.Walk.{root_of, entry_read, visit_of, after_result, walk_of, translation_of, tables_for}
use Rattle.sv39_walk.specs.Walk.{walk_for, Visit, chain_from, chain, visit_result, address_of, entry_writes_of}
use Rattle.sv39_walk.specs.Walk.{chain_result, chain_wrote, entry_reads_of, by_chain}

abbrev Got : Type 0
Got = Run (Result ℕ Cause)

-- a value with nothing read and nothing written
abbrev pub alone : Result ℕ Cause → Got
alone value = record { value = value; reads = []; wrote = [] }

-- what follows, with an entry read before
abbrev pub after : ℕ → Got → Got
after pa got = record { value = got.value; reads = entry_read pa ∷ got.reads; wrote = got.wrote }

-- what an entry at an address gives, with nothing read
abbrev pub reached : ℕ → Result (ℕ × Option ℕ) Cause → Got
reached pa result = record { value = address_of result; reads = []; wrote = entry_writes_of pa result }

visited_read : (readable : ℕ → Bool) (bytes : Bytes) (access : Access) (pa : ℕ) (next : ℕ → Action (Result ℕ Cause))
    → readable pa ≡ true
    → (visit_of readable access pa next).run bytes ≡ after pa ((next (number_at bytes pa 8)).run bytes)
unfolding visit_of read_memory ◌>>=◌ run_then after_writes
visited_read readable bytes access pa next e =
    ap (λ action. action.run bytes)
    (cond-true (readable pa) (read_memory (entry_read pa) >>= next) (pure (Err (access_fault_of access))) e)

visited_refused : (readable : ℕ → Bool) (bytes : Bytes) (access : Access) (pa : ℕ)
    (next : ℕ → Action (Result ℕ Cause)) → readable pa ≡ false
    → (visit_of readable access pa next).run bytes ≡ alone (Err (access_fault_of access))
unfolding visit_of pure
visited_refused readable bytes access pa next e =
    ap (λ action. action.run bytes)
    (cond-false (readable pa) (read_memory (entry_read pa) >>= next) (pure (Err (access_fault_of access))) e)

given : (bytes : Bytes) (value : Result ℕ Cause) → (pure value).run bytes ≡ alone value
unfolding pure
given bytes value = refl

after_result-run : (pa : ℕ) (result : Result (ℕ × Option ℕ) Cause) (bytes : Bytes)
    → (after_result pa result).run bytes ≡ reached pa result
unfolding after_result pure mapped write_memory
after_result-run pa (Err fault) bytes = refl
after_result-run pa (Ok (address, None)) bytes = refl
after_result-run pa (Ok (address, Some entry)) bytes = refl

-- ---- one step

-- for a request: the address of an entry, what the last entry gives, and the walk from a table on
abbrev pub entry_place : Request → ℕ → ℕ → ℕ
entry_place request level table = entry_address level table request.va

abbrev pub result_at : Tables → Request → ℕ → ℕ → ℕ → Result (ℕ × Option ℕ) Cause
result_at tables request level pa entry =
    final_result tables level request.flags request.va request.access pa entry

abbrev pub walk_at : Tables → Request → ℕ → ℕ → Action (Result ℕ Cause)
walk_at tables request level table = walk_of tables request.flags request.va request.access level table

abbrev last_for : Tables → Request → ℕ → ℕ → ℕ → Action (Result ℕ Cause)
last_for tables request level pa entry = after_result pa (result_at tables request level pa entry)

pub walk_of_refused : (tables : Tables) (bytes : Bytes) (request : Request) (level table : ℕ)
    → tables.readable (entry_place request level table) ≡ false
    → (walk_at tables request level table).run bytes ≡ alone (Err (access_fault_of request.access))
unfolding walk_of
walk_of_refused tables bytes request zero table e =
    let pa : ℕ = entry_place request 0 table in
    visited_refused tables.readable bytes request.access pa (last_for tables request 0 pa) e
walk_of_refused tables bytes request (suc level) table e =
    let pa : ℕ = entry_place request (suc level) table in
    visited_refused tables.readable bytes request.access pa
    (λ entry. cond (is_link entry) (walk_at tables request level (page_number entry))
    (last_for tables request (suc level) pa entry)) e

pub walk_of_on : (tables : Tables) (bytes : Bytes) (request : Request) (level table : ℕ)
    → tables.readable (entry_place request (suc level) table) ≡ true
    → is_link (number_at bytes (entry_place request (suc level) table) 8) ≡ true
    → (walk_at tables request (suc level) table).run bytes
    ≡ after (entry_place request (suc level) table)
    ((walk_at tables request level
    (page_number (number_at bytes (entry_place request (suc level) table) 8))).run bytes)
unfolding walk_of
walk_of_on tables bytes request level table e link =
    let pa : ℕ = entry_place request (suc level) table in
    let entry : ℕ = number_at bytes pa 8 in
    visited_read tables.readable bytes request.access pa
    (λ entry. cond (is_link entry) (walk_at tables request level (page_number entry))
    (last_for tables request (suc level) pa entry)) e
    ∙ ap (λ (action : Action (Result ℕ Cause)). after pa (action.run bytes))
    (cond-true (is_link entry) (walk_at tables request level (page_number entry))
    (last_for tables request (suc level) pa entry) link)

pub walk_of_last : (tables : Tables) (bytes : Bytes) (request : Request) (table : ℕ)
    → tables.readable (entry_place request 0 table) ≡ true
    → (walk_at tables request 0 table).run bytes
    ≡ after (entry_place request 0 table) (reached (entry_place request 0 table)
    (result_at tables request 0 (entry_place request 0 table) (number_at bytes (entry_place request 0 table) 8)))
unfolding walk_of
walk_of_last tables bytes request table e =
    let pa : ℕ = entry_place request 0 table in
    visited_read tables.readable bytes request.access pa (last_for tables request 0 pa) e
    ∙ ap (after pa) (after_result-run pa (result_at tables request 0 pa (number_at bytes pa 8)) bytes)

pub walk_of_stops : (tables : Tables) (bytes : Bytes) (request : Request) (level table : ℕ)
    → tables.readable (entry_place request level table) ≡ true
    → is_link (number_at bytes (entry_place request level table) 8) ≡ false
    → (walk_at tables request level table).run bytes
    ≡ after (entry_place request level table) (reached (entry_place request level table)
    (result_at tables request level (entry_place request level table)
    (number_at bytes (entry_place request level table) 8)))
unfolding walk_of
walk_of_stops tables bytes request zero table e none = walk_of_last tables bytes request table e
walk_of_stops tables bytes request (suc level) table e none =
    let pa : ℕ = entry_place request (suc level) table in
    let entry : ℕ = number_at bytes pa 8 in
    visited_read tables.readable bytes request.access pa
    (λ entry. cond (is_link entry) (walk_at tables request level (page_number entry))
    (last_for tables request (suc level) pa entry)) e
    ∙ ap (λ (action : Action (Result ℕ Cause)). after pa (action.run bytes))
    (cond-false (is_link entry) (walk_at tables request level (page_number entry))
    (last_for tables request (suc level) pa entry) none)
    ∙ ap (after pa) (after_result-run pa (result_at tables request (suc level) pa entry) bytes)

-- ---- one step, from what the call of `entry` says

read_fact : (readable : ℕ → Bool) (bytes : Bytes) (pa entry : ℕ) → entry_of readable bytes pa ≡ Some entry
    → (readable pa ≡ true) × (number_at bytes pa 8 ≡ entry)
read_fact readable bytes pa entry e = go (readable pa) refl e
  where
    go : (b : Bool) → readable pa ≡ b → cond b (Some (number_at bytes pa 8)) None ≡ Some entry
        → (readable pa ≡ true) × (number_at bytes pa 8 ≡ entry)
    go true is got = (is, cc)
    go false is got = cc

refused_fact : (readable : ℕ → Bool) (bytes : Bytes) (pa : ℕ) → entry_of readable bytes pa ≡ None → readable pa ≡ false
refused_fact readable bytes pa e = go (readable pa) refl e
  where
    go : (b : Bool) → readable pa ≡ b → cond b (Some (number_at bytes pa 8)) None ≡ None → readable pa ≡ false
    go true is got = cc
    go false is got = is

-- the address of the entry that a walk from a table reads
abbrev pub place_in : Request → Table → ℕ
place_in request table = entry_place request table.level table.number

-- what the last entry gives there
abbrev pub result_in : (ℕ → Bool) → (ℕ → Bool) → Request → Table → ℕ → Result (ℕ × Option ℕ) Cause
result_in readable settable request table entry =
    result_at (tables_for readable settable request) request table.level (place_in request table) entry

pub step_refused : (readable settable : ℕ → Bool) (bytes : Bytes) (request : Request) (table : Table)
    → entry_of readable bytes (place_in request table) ≡ None
    → (walk_for readable settable request table).run bytes ≡ alone (Err (access_fault_of request.access))
step_refused readable settable bytes request table got =
    walk_of_refused (tables_for readable settable request) bytes request table.level table.number
    (refused_fact readable bytes (place_in request table) got)

on_at : (tables : Tables) (bytes : Bytes) (request : Request) (level number : ℕ) {entry : ℕ}
    → (tables.readable (entry_place request level number) ≡ true)
    × (number_at bytes (entry_place request level number) 8 ≡ entry) → leads_on level entry ≡ true
    → (walk_at tables request level number).run bytes
    ≡ after (entry_place request level number)
    ((walk_at tables request (level - 1) (page_number entry)).run bytes)
on_at tables bytes request zero number fact on = cc
on_at tables bytes request (suc level) number {entry} fact on =
    let pa : ℕ = entry_place request (suc level) number in
    let below : suc level - 1 ≡ level = omega arith in
    walk_of_on tables bytes request level number fact.0
    (ap is_link fact.1 ∙ (and_parts (nat_lt 0 (suc level)) (is_link entry) on).1)
    ∙ ap (λ e. after pa ((walk_at tables request level (page_number e)).run bytes)) fact.1
    ∙ ap (λ l. after pa ((walk_at tables request l (page_number entry)).run bytes)) (sym below)

-- the table that an entry names
abbrev pub next_table : Table → ℕ → Table
next_table table entry = record { level = table.level - 1; number = page_number entry }

pub step_on : (readable settable : ℕ → Bool) (bytes : Bytes) (request : Request) (table : Table) {entry : ℕ}
    → entry_of readable bytes (place_in request table) ≡ Some entry → leads_on table.level entry ≡ true
    → (walk_for readable settable request table).run bytes
    ≡ after (place_in request table)
    ((walk_for readable settable request (next_table table entry)).run bytes)
step_on readable settable bytes request table {entry} got on =
    on_at (tables_for readable settable request) bytes request table.level table.number
    (read_fact readable bytes (place_in request table) entry got) on

ends_at : (tables : Tables) (bytes : Bytes) (request : Request) (level number : ℕ) {entry : ℕ}
    → (tables.readable (entry_place request level number) ≡ true)
    × (number_at bytes (entry_place request level number) 8 ≡ entry) → leads_on level entry ≡ false
    → (walk_at tables request level number).run bytes
    ≡ after (entry_place request level number) (reached (entry_place request level number)
    (result_at tables request level (entry_place request level number) entry))
ends_at tables bytes request zero number fact ends =
    let pa : ℕ = entry_place request 0 number in
    walk_of_last tables bytes request number fact.0
    ∙ ap (λ e. after pa (reached pa (result_at tables request 0 pa e))) fact.1
ends_at tables bytes request (suc level) number {entry} fact ends =
    let pa : ℕ = entry_place request (suc level) number in
    let above : nat_lt 0 (suc level) ≡ true = lt-ltb 0 (suc level) (omega arith) in
    let none : is_link entry ≡ false = ap (λ b. b && is_link entry) (sym above) ∙ ends in
    walk_of_stops tables bytes request (suc level) number fact.0 (ap is_link fact.1 ∙ none)
    ∙ ap (λ e. after pa (reached pa (result_at tables request (suc level) pa e))) fact.1

pub step_ends : (readable settable : ℕ → Bool) (bytes : Bytes) (request : Request) (table : Table) {entry : ℕ}
    {result : Result (ℕ × Option ℕ) Cause}
    → entry_of readable bytes (place_in request table) ≡ Some entry → leads_on table.level entry ≡ false
    → result ≡ result_in readable settable request table entry
    → (walk_for readable settable request table).run bytes
    ≡ after (place_in request table) (reached (place_in request table) result)
step_ends readable settable bytes request table {entry} got ends is =
    let pa : ℕ = place_in request table in
    ends_at (tables_for readable settable request) bytes request table.level table.number
    (read_fact readable bytes pa entry got) ends ∙ ap (λ r. after pa (reached pa r)) (sym is)

-- ---- the whole translation

pub translation_walks : (tables : Tables) (bytes : Bytes) (satp : ℕ) (flags : WalkFlags) (va : ℕ) (access : Access)
    → is_canonical va ≡ true
    → (translation_of tables satp flags va access).run bytes
    ≡ (walk_of tables flags va access 2 (root_of satp)).run bytes
unfolding translation_of
translation_walks tables bytes satp flags va access e =
    ap (λ action. action.run bytes)
    (cond-true (is_canonical va) (walk_of tables flags va access 2 (root_of satp))
    (pure (Err (page_fault_of access))) e)

pub translation_refused : (tables : Tables) (bytes : Bytes) (satp : ℕ) (flags : WalkFlags) (va : ℕ) (access : Access)
    → is_canonical va ≡ false
    → (translation_of tables satp flags va access).run bytes ≡ alone (Err (page_fault_of access))
unfolding translation_of
translation_refused tables bytes satp flags va access e =
    ap (λ action. action.run bytes)
    (cond-false (is_canonical va) (walk_of tables flags va access 2 (root_of satp))
    (pure (Err (page_fault_of access))) e)
    ∙ given bytes (Err (page_fault_of access))

-- ---- by the chain

pub chain_from-stops : (readable : ℕ → Bool) (bytes : Bytes) (va level table : ℕ)
    → (readable (entry_address (suc level) table va)
    && is_link (number_at bytes (entry_address (suc level) table va) 8)) ≡ false
    → chain_from readable bytes va (suc level) table
    ≡ record { level = suc level; pa = entry_address (suc level) table va } ∷ []
unfolding chain_from
chain_from-stops readable bytes va level table e =
    let pa : ℕ = entry_address (suc level) table va in
    let entry : ℕ = number_at bytes pa 8 in
    ap (λ (visits : List Visit). record { level = suc level; pa = pa } ∷ visits)
    (cond-false (readable pa && is_link entry) (chain_from readable bytes va level (page_number entry)) [] e)

pub chain_from-goes_on : (readable : ℕ → Bool) (bytes : Bytes) (va level table : ℕ)
    → (readable (entry_address (suc level) table va)
    && is_link (number_at bytes (entry_address (suc level) table va) 8)) ≡ true
    → chain_from readable bytes va (suc level) table
    ≡ record { level = suc level; pa = entry_address (suc level) table va }
    ∷ chain_from readable bytes va level (page_number (number_at bytes (entry_address (suc level) table va) 8))
unfolding chain_from
chain_from-goes_on readable bytes va level table e =
    let pa : ℕ = entry_address (suc level) table va in
    let entry : ℕ = number_at bytes pa 8 in
    ap (λ (visits : List Visit). record { level = suc level; pa = pa } ∷ visits)
    (cond-true (readable pa && is_link entry) (chain_from readable bytes va level (page_number entry)) [] e)

pub chain_from-last : (readable : ℕ → Bool) (bytes : Bytes) (va table : ℕ)
    → chain_from readable bytes va 0 table ≡ record { level = 0; pa = entry_address 0 table va } ∷ []
unfolding chain_from
chain_from-last readable bytes va table = refl

-- what a chain gives for a request
abbrev chained : Tables → Bytes → Request → List Visit → Got
chained tables bytes request visits = by_chain tables bytes request.flags request.va request.access visits

abbrev result_for : Tables → Bytes → Request → Visit → Result (ℕ × Option ℕ) Cause
result_for tables bytes request visit = visit_result tables bytes request.flags request.va request.access visit

abbrev chain_result_for : Tables → Bytes → Request → List Visit → Result ℕ Cause
chain_result_for tables bytes request visits =
    chain_result tables bytes request.flags request.va request.access visits

abbrev chain_wrote_for : Tables → Bytes → Request → List Visit → List Write
chain_wrote_for tables bytes request visits =
    chain_wrote tables bytes request.flags request.va request.access visits

-- a chain of one entry
single-read : (tables : Tables) (bytes : Bytes) (request : Request) (level pa : ℕ) → tables.readable pa ≡ true
    → after pa (reached pa (result_at tables request level pa (number_at bytes pa 8)))
    ≡ chained tables bytes request (record { level = level; pa = pa } ∷ [])
unfolding chain_result chain_wrote
single-read tables bytes request level pa e = rw e refl

single-refused : (tables : Tables) (bytes : Bytes) (request : Request) (level pa : ℕ) → tables.readable pa ≡ false
    → alone (Err (access_fault_of request.access))
    ≡ chained tables bytes request (record { level = level; pa = pa } ∷ [])
unfolding chain_result chain_wrote
single-refused tables bytes request level pa e = rw e refl

-- an entry before a chain of some entries
chain_result-front : (tables : Tables) (bytes : Bytes) (request : Request) (visit : Visit) (level table : ℕ)
    → chain_result_for tables bytes request (visit ∷ chain_from tables.readable bytes request.va level table)
    ≡ chain_result_for tables bytes request (chain_from tables.readable bytes request.va level table)
unfolding chain_result chain_from
chain_result-front tables bytes request visit zero table = refl
chain_result-front tables bytes request visit (suc level) table = refl

chain_wrote-front : (tables : Tables) (bytes : Bytes) (request : Request) (visit : Visit) (level table : ℕ)
    → chain_wrote_for tables bytes request (visit ∷ chain_from tables.readable bytes request.va level table)
    ≡ chain_wrote_for tables bytes request (chain_from tables.readable bytes request.va level table)
unfolding chain_wrote chain_from
chain_wrote-front tables bytes request visit zero table = refl
chain_wrote-front tables bytes request visit (suc level) table = refl

reads-front : (readable : ℕ → Bool) (level pa : ℕ) (visits : List Visit) → readable pa ≡ true
    → entry_read pa ∷ entry_reads_of readable visits
    ≡ entry_reads_of readable (record { level = level; pa = pa } ∷ visits)
reads-front readable level pa visits e = rw e refl

front : (tables : Tables) (bytes : Bytes) (request : Request) (above pa level table : ℕ) → tables.readable pa ≡ true
    → after pa (chained tables bytes request (chain_from tables.readable bytes request.va level table))
    ≡ chained tables bytes request
    (record { level = above; pa = pa } ∷ chain_from tables.readable bytes request.va level table)
front tables bytes request above pa level table e =
    let visits : List Visit = chain_from tables.readable bytes request.va level table in
    let visit : Visit = record { level = above; pa = pa } in
    let wrote : List Write = chain_wrote_for tables bytes request visits in
    let value : Result ℕ Cause = chain_result_for tables bytes request (visit ∷ visits) in
    ap (λ v. record { value = v; reads = entry_read pa ∷ entry_reads_of tables.readable visits; wrote = wrote })
    (sym (chain_result-front tables bytes request visit level table))
    ∙ ap (λ r. record { value = value; reads = r; wrote = wrote }) (reads-front tables.readable above pa visits e)
    ∙ ap (λ w. record { value = value; reads = entry_reads_of tables.readable (visit ∷ visits); wrote = w })
    (sym (chain_wrote-front tables bytes request visit level table))

walk-by_chain : (tables : Tables) (bytes : Bytes) (request : Request) (level table : ℕ)
    → (walk_at tables request level table).run bytes
    ≡ chained tables bytes request (chain_from tables.readable bytes request.va level table)
walk-by_chain tables bytes request zero table =
    let pa : ℕ = entry_place request 0 table in
    elim (cases_Bool (tables.readable pa)) [
      | inl can ↦
          walk_of_last tables bytes request table can ∙ single-read tables bytes request 0 pa can
          ∙ ap (chained tables bytes request) (sym (chain_from-last tables.readable bytes request.va table))
      | inr cannot ↦
          walk_of_refused tables bytes request 0 table cannot
          ∙ single-refused tables bytes request 0 pa cannot
          ∙ ap (chained tables bytes request) (sym (chain_from-last tables.readable bytes request.va table))
    ]
walk-by_chain tables bytes request (suc level) table =
    let readable : ℕ → Bool = tables.readable in
    let pa : ℕ = entry_place request (suc level) table in
    let entry : ℕ = number_at bytes pa 8 in
    let below : (walk_at tables request level (page_number entry)).run bytes
    ≡ chained tables bytes request (chain_from readable bytes request.va level (page_number entry)) =
    walk-by_chain tables bytes request level (page_number entry) in
    elim (cases_Bool (readable pa)) [
      | inr cannot ↦
          walk_of_refused tables bytes request (suc level) table cannot
          ∙ single-refused tables bytes request (suc level) pa cannot
          ∙ ap (chained tables bytes request)
          (sym (chain_from-stops readable bytes request.va level table (and_left (readable pa) (is_link entry) cannot)))
      | inl can ↦ elim (cases_Bool (is_link entry)) [
        | inl link ↦
            walk_of_on tables bytes request level table can link ∙ ap (after pa) below
            ∙ front tables bytes request (suc level) pa level (page_number entry) can
            ∙ ap (chained tables bytes request)
            (sym
            (chain_from-goes_on readable bytes request.va level table
            (and_from (readable pa) (is_link entry) can link)))
        | inr none ↦
            walk_of_stops tables bytes request (suc level) table can none
            ∙ single-read tables bytes request (suc level) pa can
            ∙ ap (chained tables bytes request)
            (sym
            (chain_from-stops readable bytes request.va level table (and_right (readable pa) (is_link entry) none)))
      ]
    ]

-- what a translation asks
abbrev request_of : Tables → WalkFlags → ℕ → Access → Request
request_of tables flags va access = record { flags = flags; va = va; access = access; marks = tables.marks }

pub translation-by_chain : (tables : Tables) (bytes : Bytes) (satp : ℕ) (flags : WalkFlags) (va : ℕ) (access : Access)
    → (translation_of tables satp flags va access).run bytes
    ≡ by_chain tables bytes flags va access (chain tables.readable bytes satp va)
unfolding chain chain_result chain_wrote
translation-by_chain tables bytes satp flags va access =
    let from_root : List Visit = chain_from tables.readable bytes va 2 (root_of satp) in
    elim (cases_Bool (is_canonical va)) [
      | inl can ↦
          translation_walks tables bytes satp flags va access can
          ∙ walk-by_chain tables bytes (request_of tables flags va access) 2 (root_of satp)
          ∙ ap (by_chain tables bytes flags va access) (sym (cond-true (is_canonical va) from_root [] can))
      | inr cannot ↦ translation_refused tables bytes satp flags va access cannot
          ∙ ap (by_chain tables bytes flags va access) (sym (cond-false (is_canonical va) from_root [] cannot))
    ]
