use Rattle.std.proofs.Common.{sym, ◌∙◌, arith}
use Rattle.std.proofs.lemmas.Result.{err_from_is_err_and}
use Rattle.elf_image.proofs.Loadings.{bytes_inside}
use Rattle.elf_image.proofs.Underway.{underway_none, underway_over, underway_on, underway_refused, underway_all}
use Rattle.elf_image.proofs.Underway.{has_header, table_inside, elf_is, elf_refused, elf_segment_refused}
use Rattle.elf_image.proofs.image.read_elf.Goals as goal
use Rattle.elf_image.proofs.image.read_elf.Goals.{then-is_loading+in_ok-load, else-is_loading}

pub returns-in_err-header-clause-exact : goal.returns-in_err-header-clause-exact
returns-in_err-header-clause-exact c =
    let p = err_from_is_err_and c.from_residual.result c.from_residual.ensures.1 in
    rw (p.1, p.2) (elf_refused c.args.ram c.args.file.now _ (sym c.in_err-header.ensures))

pub loop-index-init : goal.loop-index-init
loop-index-init c = underway_none _ _ _ _ (c.empty-loaded.ensures c.args.file.now)

pub overflow_add-at : goal.overflow_add-at
overflow_add-at c =
    let inside =
    table_inside c.args.file.now c.in_ok-header.header c.loop-index.index (sym c.in_ok-header.ensures)
    c.loop-index-test.true in
    record { fits = omega (arith, inside, c.from.ensures) }

pub program_header_at-requires : goal.program_header_at-requires
program_header_at-requires c =
    let inside =
    table_inside c.args.file.now c.in_ok-header.header c.loop-index.index (sym c.in_ok-header.ensures)
    c.loop-index-test.true in
    rw c.from.ensures inside

pub returns-in_err-load-clause-exact : goal.returns-in_err-load-clause-exact
returns-in_err-load-clause-exact c =
    let p =
    err_from_is_err_and c.from_residual-in_err-load.result c.from_residual-in_err-load.ensures.1 in
    let header = rw c.from.ensures at c.program_header_at.ensures in
    let loading = rw header at (sym c.is_loading.ensures ∙ c.if-is_loading.true) in
    let underway = c.loop-index.invariant in
    let fails = rw header at (c.in_err-load.ensures underway.earlier underway.holds) in
    rw (p.1, p.2)
    (elf_segment_refused c.args.ram c.args.file.now c.in_ok-header.header _ (sym c.in_ok-header.ensures)
    (underway_refused c.args.ram c.args.file.now c.in_ok-header.header c.loop-index.index c.loop-index.loaded
    c.loop-index-test.true loading underway _ fails))

pub loop-index-preserved : goal.loop-index-preserved
loop-index-preserved c =
    let header = rw c.from.ensures at c.program_header_at.ensures in
    let underway = c.loop-index.invariant in
    elim c.if-is_loading.branch [
      | then-is_loading+in_ok-load w ↦
          (let loading = rw header at (sym c.is_loading.ensures ∙ w.if-is_loading.true) in
          let loads = rw header at (w.in_ok-load.ensures underway.earlier underway.holds) in
          rw w.loaded-is
          (underway_on c.args.ram c.args.file.now c.in_ok-header.header c.loop-index.index c.loop-index.loaded _
          c.loop-index-test.true loading underway loads.0 loads.1))
      | else-is_loading w ↦
          (let over = rw header at (sym c.is_loading.ensures ∙ w.if-is_loading.false) in
          rw w.loaded-is
          (underway_over c.args.ram c.args.file.now c.in_ok-header.header c.loop-index.index c.loop-index.loaded
          c.loop-index-test.true over underway))
    ]

pub returns-clause-exact : goal.returns-clause-exact
returns-clause-exact c =
    let underway = c.loop-index.invariant in
    let all =
    underway_all c.args.ram c.args.file.now c.in_ok-header.header c.loop-index.index c.loop-index.loaded
    c.loop-index-test.false underway in
    rw underway.holds.bytes
    (elf_is c.args.ram c.args.file.now c.in_ok-header.header underway.earlier (sym c.in_ok-header.ensures) all)

pub returns-clause-inside : goal.returns-clause-inside
returns-clause-inside c =
    let underway = c.loop-index.invariant in
    let all =
    underway_all c.args.ram c.args.file.now c.in_ok-header.header c.loop-index.index c.loop-index.loaded
    c.loop-index-test.false underway in
    λ a some. bytes_inside c.args.ram c.args.file.now _ underway.earlier all a (rw underway.holds.bytes at some)

pub returns-clause-even : goal.returns-clause-even
returns-clause-even c = (has_header c.args.file.now c.in_ok-header.header (sym c.in_ok-header.ensures)).2
