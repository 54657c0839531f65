-- Where translation puts what a step accesses, from the Privileged Architecture's chapter "Supervisor-Level ISA".
use Rattle.std.specs.Prelude.{List, All, false, Option, Some, IfOk, IfSome}
use Rattle.hart_words.specs.Memory.{Bytes}
use Rattle.hart_words.specs.Signals.{Shown}
use Rattle.rv_integer.specs.declared.int_result.IntResult.{IntResult}
use Rattle.rv_integer.specs.declared.int_result.IntResult.TheVariants as results
use Rattle.mem_access.specs.declared.place.AccessRequest.{AccessRequest}
use Rattle.mem_access.specs.Laws.{IsMappedPart}
use Rattle.mem_access.specs.Reads.{AreMapped, CheckedRead}
use Rattle.hart_step.specs.declared.state.Core.{Core}
use Rattle.hart_step.specs.Steps.{before_instruction}
use Rattle.hart_step.specs.Laws.{bytes_after_fetch, request_at_pc}
use Rattle.hart_step.specs.ProtectionLaws.{asked_places, check_of, step_reads_of}

-- the access that a read is checked as
abbrev pub request_of_read : CheckedRead → AccessRequest
request_of_read check =
    record { mode = check.mode; access = check.access; len = check.read.len; devices = false }

-- the bytes of a read, where it is of an access's own: each is where a leaf of its virtual address puts it
abbrev pub IsMappedRead : Core → Bytes → CheckedRead → Type 0
IsMappedRead core bytes check =
    IfSome check.va (λ va. AreMapped core.csrs core.map core.choices (request_of_read check) bytes va check.read.pa)

-- so with the places of what an instruction asks for, those of its stores and of devices among them
abbrev pub AreMappedPlaces : Core → Option IntResult → Bytes → Type 0
AreMappedPlaces core (Some (results.Access request)) bytes =
    IfOk (asked_places core request (bytes_after_fetch core bytes))
    (All (IsMappedPart core.csrs core.map core.choices (check_of core request) bytes))
AreMappedPlaces core _ bytes = Unit {0}

-- all of a step is so, by the page tables as the step finds them
pub record IsMappedStep (begins : Core) (asks : Option IntResult) (bytes : Bytes) (checks : List CheckedRead)
    : Type 0 where
  pub reads : All (IsMappedRead begins bytes) checks
  pub places : AreMappedPlaces begins asks bytes

abbrev pub StepIsMapped : Core → Shown → Bytes → Type 0
StepIsMapped core shown bytes =
    let begins = before_instruction core shown in
    IsMappedStep begins (request_at_pc begins bytes) bytes (step_reads_of core shown bytes)
