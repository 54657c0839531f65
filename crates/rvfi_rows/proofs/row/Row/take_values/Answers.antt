use Rattle.std.proofs.Common.{◌≡◌, ◌∙◌, ◌<◌, List, ap, arith, length, take, ℕ}
use Rattle.std.proofs.lemmas.List.{length-map, take_all}
use Rattle.hart_words.specs.Signals.{index_of}
use Rattle.rvfi_rows.proofs.Values.{placed, put-end, put-next, put_at, put_placed, shows_taken}
use Rattle.rvfi_rows.proofs.row.Row.take_values.Goals as goal

pub loop-index-preserved : goal.loop-index-preserved
loop-index-preserved c =
    let values = take (length c.args.places.now) c.args.values.now in
    let same : values ≡ c.args.values.now = take_all _ _ (omega (arith, c.requires.as_many)) in
    let within : c.loop-index.index < length values = rw same (omega (arith, c.requires.as_many)) in (
      c.loop-index.invariant.0,
      put-next c.args.places.now values _ c.loop-index.index c.loop-index-test.true within c.from.ensures
          ∙ c.loop-index.invariant.1,
    )

pub returns : goal.returns
returns c = λ signals is are.
    let row = c.args.self.now in
    let values = c.args.values.now in
    let first = take (length c.args.places.now) values in
    let same : first ≡ values = take_all _ _ (omega (arith, c.requires.as_many)) in
    let put : c.loop-index.self.values ≡ put_at c.args.places.now first row.values =
    put-end c.args.places.now first c.loop-index.self.values _ c.loop-index.index c.loop-index-test.false
    c.loop-index.invariant.1 in
    let taken : c.loop-index.self.values ≡ placed signals values row.values =
    put ∙ ap (λ (list : List ℕ). put_at c.args.places.now list row.values) same
    ∙ ap (λ (places : List ℕ). put_at places values row.values) is ∙ put_placed signals values row.values in
    shows_taken row c.loop-index.self values are
    (c.requires.as_many ∙ ap length is ∙ length-map signals index_of) c.loop-index.invariant.0 taken
