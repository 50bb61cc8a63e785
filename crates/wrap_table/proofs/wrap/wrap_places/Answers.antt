use Rattle.std.proofs.Common.{◌++◌, ap, sym, ◌∙◌}
use Rattle.std.proofs.lemmas.List.{at_drop_all, append-nil}
use Rattle.wrap_table.specs.declared.wrap.WrapRule.{WrapRule}
use Rattle.wrap_table.specs.Pass.{wrap_size_at, wrap_places_after, wrap_end}
use Rattle.wrap_table.proofs.WrapLemmas.{wrap_places-all, wrap_size-all}
use Rattle.wrap_table.proofs.wrap.wrap_places.Goals as goal

pub returns-clause-size : goal.returns-clause-size
returns-clause-size c =
    let l = c.loop-size in
    let rule : WrapRule = record { limit = c.args.limit; gap = c.args.gap; run_gap = c.args.run_gap } in
    c.size.ensures
    ∙ ap wrap_size_at (sym (at_drop_all (λ left. wrap_end rule l.pass left) c.args.sizes.now l.size-index c.loop-size-test.false) ∙ l.invariant.1)
    ∙ wrap_size-all rule c.args.sizes.now

pub returns-clause-places : goal.returns-clause-places
returns-clause-places c =
    let l = c.loop-size in
    let rule : WrapRule = record { limit = c.args.limit; gap = c.args.gap; run_gap = c.args.run_gap } in
    sym (append-nil l.out.items)
    ∙ sym (at_drop_all (λ left. l.out.items ++ wrap_places_after rule l.pass left) c.args.sizes.now l.size-index c.loop-size-test.false)
    ∙ l.invariant.0
    ∙ wrap_places-all rule c.args.sizes.now
