-- An element that is changed.
use Rattle.std.proofs.Common.{◌≡◌, Bool, true, false, cond, Option, Some, None, IsSome, option_map, refl, ap, ◌∙◌}
use Rattle.fx_handles.specs.declared.Handle.{Handle}
use Rattle.fx_handles.specs.Handle.{same}
use Rattle.node_tree.specs.Forest.{TreeNode}
use Rattle.node_tree.specs.Tree.{Tree, node_at}
use Rattle.node_tree.specs.Edits.{WritesValue}
use Rattle.element_tree.specs.Element.{Element, element_at}

-- where there is a value there is a node
pub node_of_value : {T : Type 0} (o : Option (TreeNode T)) (v : T) → option_map (λ n. n.value) o ≡ Some v → IsSome o
node_of_value None v e = absurd (cc)
node_of_value (Some n) v e = refl

pub value_of_node : {T : Type 0} (o : Option (TreeNode T)) → IsSome o → (v : T) × (option_map (λ n. n.value) o ≡ Some v)
value_of_node None some = absurd (cc)
value_of_node (Some n) some = (n.value, refl)

-- what another handle's element is after a write
written_value : (b : Bool) (n : TreeNode Element) (w : Element) → (cond b (record n { value = w }) n).value ≡ cond b w n.value
written_value true n w = refl
written_value false n w = refl

pub value_after : (old new : Tree Element) (h : Handle) (w : Element) → WritesValue old.nodes new.nodes h w
    → (k : Handle) → element_at new k ≡ option_map (λ v. cond (same k h) w v) (element_at old k)
value_after old new h w writes k = ap (option_map (λ n. n.value)) (writes.nodes k) ∙ by_node (node_at old k)
  where
    by_node : (o : Option (TreeNode Element)) → option_map (λ n. n.value) (option_map (λ n. cond (same k h) (record n { value = w }) n) o) ≡ option_map (λ v. cond (same k h) w v) (option_map (λ n. n.value) o)
    by_node None = refl
    by_node (Some n) = ap Some (written_value (same k h) n w)
