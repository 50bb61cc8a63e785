-- Where each node has both marks, setting marks changes nothing.
use Rattle.std.proofs.Common.{◌≡◌, ℕ, ◌+◌, ◌<◌, ◌≤◌, Bool, true, ◌||◌, ◌&&◌, List, Option, Some, None, option_map, inl, inr, refl, sym, ap, ◌∙◌, subst, arith}
use Rattle.std.proofs.lemmas.Bool.{cases_lt}
use Rattle.fx_handles.specs.declared.Handle.{Handle}
use Rattle.fx_handles.specs.ArenaLaws.{same_Some, live-same_slot}
use Rattle.node_tree.specs.Forest.{TreeNode, Forest, Stands}
use Rattle.node_tree.specs.Forest.Forest.{none, tree}
use Rattle.node_tree.specs.Tree.{Tree, node_at, value_at, IsNode, Is}
use Rattle.node_tree.proofs.TreeLemmas.{is_node}
use Rattle.tree_marks.specs.Marking.{Above, at_top, Marking, IsMarking, within}
use Rattle.tree_marks.specs.Marks.{listed, has_listed, some_climbs, sweep}
use Rattle.tree_marks.specs.Ways.{SlotIsMarked, AreMarked}
use Rattle.tree_marks.proofs.Sweeps.{three}

module _ {V : Type 0} (m : Marking V) where
  -- a slot has one live handle
  pub slot_of : (t : Tree V) (h : Handle) (v : V) → IsNode t h → value_at t h ≡ Some v → m.marked true true v ≡ v → (i : ℕ) → h.index ≡ i → SlotIsMarked m t i
  slot_of t h v live stored marked i here k n index at =
      let one : k ≡ h = live-same_slot t.nodes h k live (is_node (node_at t k) n at) (index ∙ sym here) in
      let value : n.value ≡ v = same_Some (sym (ap (option_map (λ (x : TreeNode V). x.value)) (sym (ap (node_at t) one) ∙ at)) ∙ stored) in
      subst (λ x. m.marked true true x ≡ x) (sym value) marked

  -- the slots before one
  abbrev pub MarkedBefore : Tree V → ℕ → Type 0
  MarkedBefore t i = (k : Handle) (n : TreeNode V) → k.index < i → node_at t k ≡ Some n → m.marked true true n.value ≡ n.value

  pub none_before : (t : Tree V) → MarkedBefore t 0
  none_before t k n before at = absurd (omega (arith, before))

  pub one_more : (t : Tree V) (i : ℕ) → MarkedBefore t i → SlotIsMarked m t i → MarkedBefore t (i + 1)
  one_more t i so_far here k n before at = elim (cases_lt k.index i) [
    | inl less ↦ so_far k n less at
    | inr most ↦ here k n (omega (arith, before, most)) at
  ]

  pub all_of : (t : Tree V) (end i : ℕ) → ((h : Handle) → IsNode t h → h.index < end) → end ≤ i → MarkedBefore t i → AreMarked m t
  all_of t end i ends past so_far k n at = so_far k n (omega (arith, ends k (is_node (node_at t k) n at), past)) at

module _ {V : Type 0} (m : Marking V) (ok : IsMarking m) where
  -- a value that has both marks stays
  stays : (f b : Bool) (v : V) → m.marked true true v ≡ v → m.marked f b v ≡ v
  stays f b v both = ap (m.marked f b) (sym both) ∙ (ok.twice f b true true v ∙ both)

  forest_stays : (also : Bool) (cs : List Handle) (at : Handle → Option (TreeNode V)) → ((k : Handle) (n : TreeNode V) → at k ≡ Some n → m.marked true true n.value ≡ n.value)
      → (p : Above) (q : Option Handle) (f : Forest V) → Stands at q f → sweep m also cs p f ≡ f
  forest_stays also cs at both p q none stands = refl
  forest_stays also cs at both p q (tree k v kids rest) stands =
      three
      (λ x a b. tree k x a b)
      (stays ((listed k cs || some_climbs m cs (within m p v) kids) && m.takes p.top v) (has_listed cs kids || (also && listed k cs)) v (both k _ stands.0))
      (forest_stays also cs at both (within m p v) (Some k) kids stands.1)
      (forest_stays also cs at both p q rest stands.2)

  pub tree_stays : (also : Bool) (cs : List Handle) (t : Tree V) → AreMarked m t → (f : Forest V) → Is t f → Is t (sweep m also cs at_top f)
  tree_stays also cs t both f is = subst (Is t) (sym (forest_stays also cs (node_at t) both at_top None f is.stands)) is
