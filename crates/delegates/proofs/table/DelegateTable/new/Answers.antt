use Rattle.delegates.proofs.TableLemmas.{with_new-absent, with_new-found, with_new-turn}
use Rattle.delegates.proofs.table.DelegateTable.new.Goals as goal

pub loop-named-preserved-then-not-contains_key : goal.loop-named-preserved-then-not-contains_key
loop-named-preserved-then-not-contains_key g c =
    with_new-turn _ _ _ _ _ _ c.in-Some.named c.in-Some.ensures.steps.0
    (with_new-absent _ c.loop-named.entries c.insert.new.self.entries c.in-Some.named.name c.in-Some.named.delegate c.as_str.result.now c.as_str.ensures.value c.if-not-contains_key.ensures c.in_ok-insert.ensures.entries)
    c.loop-named.invariant

pub loop-named-preserved : goal.loop-named-preserved
loop-named-preserved g c =
    with_new-turn _ _ _ _ _ _ c.in-Some.named c.in-Some.ensures.steps.0
    (with_new-found _ c.loop-named.entries.entries c.in-Some.named.name c.in-Some.named.delegate c.as_str.result.now c.as_str.ensures.value c.if-not-contains_key.ensures)
    c.loop-named.invariant
