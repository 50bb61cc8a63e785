use Rattle.std.proofs.Common.{rules, Bool, is_some, refl}
use Rattle.std.proofs.lemmas.Map.Made.{filter_same_pairs}
use Rattle.fx_expr.specs.declared.values.Value.{Value}
use Rattle.node_tree.specs.Tree.{node_at}
use Rattle.global_keys.specs.declared.registry.Holder.{Holder}
use Rattle.global_keys.specs.Holders.{Registry}
use Rattle.global_keys.proofs.Recorded.{lookup-kept}
use Rattle.global_keys.proofs.Naming.{dropped}
use Rattle.global_keys.proofs.registry.Registry.drop_dead.Goals as goal

pub returns : goal.returns
returns c =
    let p : Holder → Bool = λ x. is_some (node_at c.tree-tree.result.now x.node) in
    let kept = filter_same_pairs _ (λ (e : Value × Holder). p e.1) _ (λ key v b w f' t. search rules) _ _ c.retain.ensures.filtered in
    let old : Registry = record { entries = c.self.inside.holders.entries; spent = c.self.inside.spent } in
    let new : Registry = record { entries = c.retain.new.self.entries; spent = c.self.inside.spent } in
    let d = dropped old new c.tree-tree.result.now (λ k. lookup-kept c.self.inside.holders c.retain.new.self.entries p c.retain.ensures.was_ordered kept k) in
    rw (← c.self.view_is, ← c.tree-tree.ensures) (record { live = d.live; dead = d.dead; absent = d.absent; names = d.names; spent = refl })
