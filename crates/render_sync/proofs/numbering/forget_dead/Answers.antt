use Rattle.std.proofs.Common.{rules, Bool, is_some, ap, ◌∙◌}
use Rattle.std.specs.BTreeMap.{get}
use Rattle.std.specs.Map.{lookup}
use Rattle.std.specs.Ordering.{nat_cmp, is_eq}
use Rattle.std.specs.Cmp.{nat_cmp_total, eq_by_cmp_equiv}
use Rattle.std.proofs.lemmas.Map.Made.{filter_same_pairs}
use Rattle.std.proofs.lemmas.Map.Entries.{lookup-filter-values}
use Rattle.std.proofs.lemmas.Map.Keys.{IsDistinct-from_sorted}
use Rattle.fx_handles.specs.declared.Handle.{Handle}
use Rattle.node_tree.specs.Tree.{node_at}
use Rattle.render_sync.proofs.Forgetting.{filtered}
use Rattle.render_sync.proofs.numbering.forget_dead.Goals as goal

pub returns : goal.returns
returns c = λ n h.
    let p : Handle → Bool = λ k. is_some (node_at c.args.tree.now.tree k) in
    let kept = filter_same_pairs _ (λ e. p e.1) _ (λ k v b w f' t. search rules) _ _ c.retain.ensures.filtered in
    filtered p (get nat_cmp c.args.numbers.now n) (get nat_cmp c.retain.new.self n) h
    (ap (lookup (λ k. is_eq (nat_cmp n k))) kept ∙ lookup-filter-values (eq_by_cmp_equiv nat_cmp_total) p n c.args.numbers.now.entries (IsDistinct-from_sorted nat_cmp _ c.retain.ensures.was_ordered))
