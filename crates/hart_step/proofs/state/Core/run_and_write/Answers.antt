use Rattle.std.proofs.Common.{◌∙◌, sym, ap}
use Rattle.rvfi_rows.specs.Cells.{shown_in}
use Rattle.hart_step.proofs.WritePlaces.{writes_in_ram}
use Rattle.hart_step.proofs.Ways.{run_performed}
use Rattle.hart_step.proofs.state.Core.run_and_write.Goals as goal

pub write_all-requires : goal.write_all-requires
write_all-requires g c =
    let accesses = c.run.new.accesses in
    record {
      in_ram =
          writes_in_ram accesses.sets accesses.stores
          (c.requires.ram ∙ ap (λ map. map.ram) (sym c.count.ensures.map))
          (c.as_slice.ensures ∙ c.put_sets_first.ensures.writes) c.run.ensures.set_in_ram
          c.run.ensures.stored;
    }

pub returns-in-Ok-clause-ran : goal.returns-in-Ok-clause-ran
returns-in-Ok-clause-ran g c =
    run_performed c.count.new.self (shown_in c.args.row.now)
    (rw (
      c.requires.nothing.0,
      c.requires.nothing.1,
      ← c.put_sets_first.ensures.writes,
      ← c.put_sets_first.ensures.seen,
    ) at c.run.ensures.ran)
    (rw c.as_slice.ensures at c.in-Ok.ensures.ok)
