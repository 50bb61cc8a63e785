-- What edits leave of the other nodes' values.
use Rattle.std.proofs.Common.{◌≡◌, ◌≢◌, ℕ, Bool, true, false, cond, insert, List, Option, Some, None, option_map, refl, sym, ap, ◌∙◌, inl, inr}
use Rattle.fx_handles.specs.declared.Handle.{Handle}
use Rattle.fx_handles.specs.Handle.{same}
use Rattle.fx_handles.specs.HandleLaws.{same-ne, cases_same}
use Rattle.fx_handles.specs.ArenaLaws.{some_of}
use Rattle.node_tree.specs.Forest.{TreeNode, without_child, with_child, with_value_at, In}
use Rattle.node_tree.specs.Tree.{Tree, IsNode, value_at, node_at, subtree_at}
use Rattle.node_tree.specs.Edits.{Adds, Takes, Hooks, Lifts, Reorders, WritesValue, RemovesBelow, DropsInactive, KeepsValues, KeepsOtherValues}

module _ {T : Type 0} where
  abbrev value_in : Option (TreeNode T) → Option T
  value_in o = option_map (λ n. n.value) o

  -- a node keeps its value where its list of children changes, and where another node's value is written
  less : (h : Handle) (o : Option (TreeNode T)) → value_in (option_map (without_child h) o) ≡ value_in o
  less h None = refl
  less h (Some n) = refl

  more : (q : Option Handle) (i : ℕ) (h k : Handle) (o : Option (TreeNode T)) → value_in (option_map (with_child q i h k) o) ≡ value_in o
  more q i h k None = refl
  more None i h k (Some n) = refl
  more (Some p) i h k (Some n) = by_head (same k p)
    where
      by_head : (b : Bool) → Some (cond b (record n { children = insert n.children i h }) n).value ≡ Some n.value
      by_head true = refl
      by_head false = refl

  elsewhere : (h : Handle) (w : T) (k : Handle) (o : Option (TreeNode T)) → k ≢ h → value_in (option_map (with_value_at h w k) o) ≡ value_in o
  elsewhere h w k None ne = refl
  elsewhere h w k (Some n) ne = ap (λ b. Some (cond b (record n { value = w }) n).value) (same-ne k h ne)

  pub adds_keep : (old new : Tree T) (q : Option Handle) (i : ℕ) (h : Handle) (v : T) → Adds old.nodes new.nodes q i h v → KeepsOtherValues old new h
  adds_keep old new q i h v adds = λ k ne. ap value_in (adds.others k ne) ∙ more q i h k (node_at old k)

  pub takes_keep : (old new : Tree T) (h : Handle) (v : T) → Takes old.nodes new.nodes h v → KeepsOtherValues old new h
  takes_keep old new h v takes = λ k ne. ap value_in (takes.others k ne) ∙ less h (node_at old k)

  pub writes_keep : (old new : Tree T) (h : Handle) (v : T) → WritesValue old.nodes new.nodes h v → KeepsOtherValues old new h
  writes_keep old new h v writes = λ k ne. ap value_in (writes.nodes k) ∙ elsewhere h v k (node_at old k) ne

  -- the node itself, with another parent
  here : (old new : Tree T) (h k : Handle) (q : Option Handle) → ((n : TreeNode T) → node_at old h ≡ Some n → node_at new h ≡ Some (record n { parent = q })) → IsNode old h → k ≡ h → value_at new k ≡ value_at old k
  here old new h k q node live e =
      let was = some_of (node_at old h) live in
      ap (value_at new) e ∙ ap value_in (node was.0 was.1) ∙ sym (ap value_in was.1) ∙ sym (ap (value_at old) e)

  pub hooks_keep : (old new : Tree T) (h : Handle) (q : Option Handle) (i : ℕ) → IsNode old h → Hooks old.nodes new.nodes h q i → KeepsValues old new
  hooks_keep old new h q i live hooks = λ k. elim (cases_same k h) [
    | inl e ↦ here old new h k q hooks.node live e
    | inr ne ↦ ap value_in (hooks.others k ne) ∙ more q i h k (option_map (without_child h) (node_at old k)) ∙ less h (node_at old k)
  ]

  pub lifts_keep : (old new : Tree T) (h : Handle) (q : Option Handle) → IsNode old h → Lifts old.nodes new.nodes h q → KeepsValues old new
  lifts_keep old new h q live lifts = λ k. elim (cases_same k h) [
    | inl e ↦ here old new h k q lifts.node live e
    | inr ne ↦ ap value_in (lifts.others k ne) ∙ less h (node_at old k)
  ]

  listed : (b : Bool) (hs : List Handle) (o : Option (TreeNode T)) → value_in (option_map (λ n. cond b (record n { children = hs }) n) o) ≡ value_in o
  listed b hs None = refl
  listed true hs (Some n) = refl
  listed false hs (Some n) = refl

  pub reorders_keep : (old new : Tree T) (h : Handle) (hs : List Handle) → Reorders old.nodes new.nodes h hs → KeepsValues old new
  reorders_keep old new h hs reorders = λ k. ap value_in (reorders.nodes k) ∙ listed (same k h) hs (node_at old k)

  pub removes_keep : (old new : Tree T) (h k : Handle) (n : ℕ) → RemovesBelow old new h n → (In k (subtree_at old h) → ⊥) → value_at new k ≡ value_at old k
  removes_keep old new h k n removes out = ap value_in (removes.others k out) ∙ less h (node_at old k)

  pub drops_keep : (old new : Tree T) (k : Handle) (n : ℕ) → DropsInactive old new n → IsNode new k → value_at new k ≡ value_at old k
  drops_keep old new k n drops live = ap value_in (drops.others k live)
