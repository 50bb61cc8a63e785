-- A plan for a part of a tree: what it doesn't name stays beside that part, in inactive subtrees.
use Rattle.std.specs.Prelude.{◌≡◌, ◌&&◌, Bool, not, List, [], ◌∷◌, ◌++◌, filter, Option, Some, None, option_map, if◌then◌else◌}
use Rattle.std.specs.Option.{option_to_list}
use Rattle.std.specs.List.{list_any}
use Rattle.fx_handles.specs.declared.Handle.{Handle}
use Rattle.fx_handles.specs.Handle.{same, times, Among, AreDistinct}
use Rattle.fx_handles.specs.Arena.{Arena, get}
use Rattle.node_tree.specs.Forest.{TreeNode, Forest, tops, In, IsDistinct, tree_of, trees_of, pruned, Stands}
use Rattle.node_tree.specs.Tree.{Tree, node_at, children_of, children_at, tops_at}
use Rattle.node_tree.specs.Edits.{KeepsHandles}
use Rattle.node_tree.specs.Plan.{PlanEntry, planned, entry_at, relinked}

-- whether the handle stands in the list
abbrev pub has : Handle → List Handle → Bool
has h hs = list_any (λ k. same k h) hs

module _ {U : Type 0} where
  -- whether the plan names the handle
  abbrev pub is_named : List (PlanEntry U) → Handle → Bool
  is_named es h = has h (planned es)

  -- whether some node of the plan has the handle among its children
  abbrev pub is_listed : List (PlanEntry U) → Handle → Bool
  is_listed es h = list_any (λ e. has h e.children) es

  -- the handles of the list that the plan doesn't name
  abbrev pub unnamed : List (PlanEntry U) → List Handle → List Handle
  unnamed es hs = filter (λ h. not (is_named es h)) hs

  -- the handles of the list that the plan doesn't speak of
  abbrev pub unspoken : List (PlanEntry U) → List Handle → List Handle
  unspoken es hs = filter (λ h. not (is_named es h) && not (is_listed es h)) hs

  -- the parent that is left to a node that the plan doesn't name: none, where the plan names the parent and doesn't list the
  -- node
  abbrev pub left_parent : List (PlanEntry U) → Handle → Option Handle → Option Handle
  left_parent es h None = None
  left_parent es h (Some p) = if is_named es p && not (is_listed es h) then None else Some p

module _ {T U : Type 0} where
  -- a node that the plan doesn't name keeps its value, and its children but for those that the plan names
  abbrev pub left_node : List (PlanEntry U) → Handle → TreeNode T → TreeNode T
  left_node es h n = record { parent = left_parent es h n.parent; children = unnamed es n.children; value = n.value }

  -- the children of nodes that the plan names of which it doesn't speak, entry by entry
  abbrev pub left_below : Tree T → List (PlanEntry U) → List (PlanEntry U) → List Handle
  left_below t es [] = []
  left_below t es (e ∷ more) = unspoken es (children_at t e.at) ++ left_below t es more

  -- the tops of what is left: these children, and then the tops of which the plan doesn't speak
  abbrev pub left_tops : Tree T → List (PlanEntry U) → List Handle
  left_tops t es = left_below t es es ++ unspoken es (tops_at t)

  -- what is left of a forest below these tops, where each node that the plan names is taken out with all below it
  abbrev pub left_forest : List (PlanEntry U) → Forest T → List Handle → Forest T
  left_forest es f hs = trees_of (λ h. pruned (is_named es) (tree_of h f)) hs

module _ {T U : Type 0} (updated : U → T → T) where
  -- what an entry makes of the node at the handle, where there is one
  abbrev pub kept_by : Option (PlanEntry U) → List (PlanEntry U) → Handle → Option (TreeNode T) → Option (TreeNode T)
  kept_by None es h o = option_map (left_node es h) o
  kept_by (Some e) es h o = option_map (relinked updated e) o

  -- what is at the handle after a plan for a part, where this was there
  abbrev pub kept : List (PlanEntry U) → Handle → Option (TreeNode T) → Option (TreeNode T)
  kept es h o = kept_by (entry_at es h) es h o

  -- the planned part of the tree will be this forest, whose tops are the root, if there is one, and then these inactive tops.
  -- It has each node that the plan names, once, its tops among them. A node that the plan lists and doesn't name stays where
  -- it is, with what is left below it
  pub record IsPartPlan (t : Tree T) (es : List (PlanEntry U)) (root : Option Handle) (inactive : List Handle) (f : Forest T) : Type 0 where
    pub stands : Stands (λ k. kept es k (node_at t k)) None f
    pub tops : option_to_list root ++ inactive ≡ tops f
    pub distinct : IsDistinct f
    pub once : AreDistinct (planned es)
    pub named : (k : Handle) → Among k (planned es) → In k f
    pub named_tops : (k : Handle) → Among k (option_to_list root ++ inactive) → Among k (planned es)

  -- each planned node has its place and its value updated. Each other node keeps its value, and its children but for the planned
  -- ones. No handle comes or goes
  pub record CommitsPart (es : List (PlanEntry U)) (old new : Arena (TreeNode T)) : Type 0 where
    pub nodes : (k : Handle) → get new k ≡ kept es k (get old k)
    pub values : (k : Handle) → times k (planned es) ≡ 0 → option_map (λ n. n.value) (get new k) ≡ option_map (λ n. n.value) (get old k)
    pub children : (k : Handle) → times k (planned es) ≡ 0 → children_of (get new k) ≡ unnamed es (children_of (get old k))
    pub handles : KeepsHandles old new
