-- What a commit and its marks leave of the nodes that have no flag then. The old tree is a store of nodes, the new one a forest.
use Rattle.std.specs.Prelude.{◌≡◌, ◌||◌, Bool, true, false, List, [], ◌∷◌, Option, Some, None, option_map}
use Rattle.fx_handles.specs.declared.Handle.{Handle}
use Rattle.node_tree.specs.Forest.{TreeNode, Forest, tops, Stands, map_values}
use Rattle.node_tree.specs.Forest.Forest.{none, tree}
use Rattle.tree_marks.specs.Marking.{Above, at_top, Marking, within}
use Rattle.tree_marks.specs.Marks.{listed}
use Rattle.tree_marks.specs.Closed.{is_apart}

-- the parts of a value: what the node is made of, what its parent takes of it beside what it comes to, and what it came to when
-- it was done last. A parent to which it makes no difference what its children come to may take less; the Boolean says whether it is one
pub record Parts (V O D S : Type 0) : Type 0 where
  pub own : V → O
  pub told : Bool → V → D
  pub stored : V → S

-- what the parent sees of a child
pub record SeenChild (D S : Type 0) : Type 0 where
  pub told : D
  pub stored : S

-- a node in a list of children, or of what is below a node
pub record NodeBuild (O D : Type 0) : Type 0 where
  pub own : O
  pub told : D

module _ {V A : Type 0} (part : V → A) where
  -- the tops of a forest, each with a part of its value
  abbrev pub tops_by : Forest V → List (Handle × Option A)
  tops_by none = []
  tops_by (tree k v kids rest) = (k, Some (part v)) ∷ tops_by rest

  -- the nodes of a list, each with a part of its value in a store
  abbrev pub stored_by : (Handle → Option (TreeNode V)) → List Handle → List (Handle × Option A)
  stored_by at [] = []
  stored_by at (h ∷ hs) = (h, option_map (λ (n : TreeNode V). part n.value) (at h)) ∷ stored_by at hs

module _ {V O D S : Type 0} (m : Marking V) (x : Parts V O D S) where
  -- marks change no part, and how far they reach is told by the parts
  pub record AreParts (is_shown : V → Bool) : Type 0 where
    pub own : (f b : Bool) (v : V) → x.own (m.marked f b v) ≡ x.own v
    pub told : (hidden f b : Bool) (v : V) → x.told hidden (m.marked f b v) ≡ x.told hidden v
    pub stored : (f b : Bool) (v : V) → x.stored (m.marked f b v) ≡ x.stored v
    pub hides : (v w : V) → x.own v ≡ x.own w → m.hides v ≡ m.hides w
    pub asks : (v w : V) → x.own v ≡ x.own w → m.asks v ≡ m.asks w
    pub less : (hidden : Bool) (v w : V) → x.told hidden v ≡ x.told hidden w → x.told true v ≡ x.told true w
    pub ends : (hidden : Bool) (v w : V) → x.told hidden v ≡ x.told hidden w → x.stored v ≡ x.stored w → (top : Bool) → m.ends top hidden v ≡ m.ends top hidden w
    pub shown : (v w : V) → x.stored v ≡ x.stored w → is_shown v ≡ is_shown w

  abbrev pub seen : Bool → V → SeenChild D S
  seen hidden v = record { told = x.told hidden v; stored = x.stored v }

  -- of a node below it is enough to say what each parent takes: what it is made of says the rest
  abbrev pub piece : V → NodeBuild O D
  piece v = record { own = x.own v; told = x.told true v }

  -- the node is made of what it was made of, with the same children, of each of which its parent takes the same
  pub record SameBuild (at : Handle → Option (TreeNode V)) (n : TreeNode V) (v : V) (kids : Forest V) : Type 0 where
    pub own : x.own v ≡ x.own n.value
    pub children : tops_by (x.told (m.hides v)) kids ≡ stored_by (x.told (m.hides v)) at n.children

  -- every node of the forest was there and is built as it was
  abbrev pub IsUnchanged : (Handle → Option (TreeNode V)) → Forest V → Type 0
  IsUnchanged at none = Unit {0}
  IsUnchanged at (tree k v kids rest) =
      ((n : TreeNode V) × (at k ≡ Some n) × SameBuild at n v kids) × IsUnchanged at kids × IsUnchanged at rest

  -- ---- a commit, before its marks

  -- a node that was there has its marks and what it came to; where it isn't among the changed ones it is built as it was
  pub record Keeps (changed : List Handle) (at : Handle → Option (TreeNode V)) (n : TreeNode V) (k : Handle) (v : V) (kids : Forest V) : Type 0 where
    pub flag : m.flag v ≡ m.flag n.value
    pub below : m.below v ≡ m.below n.value
    pub stored : x.stored v ≡ x.stored n.value
    pub build : listed k changed ≡ false → SameBuild at n v kids

  -- a new node has both marks
  abbrev pub Carried : List Handle → (Handle → Option (TreeNode V)) → Option (TreeNode V) → Handle → V → Forest V → Type 0
  Carried changed at None k v kids = (m.flag v ≡ true) × (m.below v ≡ true)
  Carried changed at (Some n) k v kids = Keeps changed at n k v kids

  abbrev pub IsCommit : List Handle → (Handle → Option (TreeNode V)) → Forest V → Type 0
  IsCommit changed at none = Unit {0}
  IsCommit changed at (tree k v kids rest) =
      Carried changed at (at k) k v kids × IsCommit changed at kids × IsCommit changed at rest

  -- the same of a store of the new nodes, node by node
  pub record KeepsAt (changed : List Handle) (at new : Handle → Option (TreeNode V)) (n : TreeNode V) (k : Handle) (now : TreeNode V) : Type 0 where
    pub flag : m.flag now.value ≡ m.flag n.value
    pub below : m.below now.value ≡ m.below n.value
    pub stored : x.stored now.value ≡ x.stored n.value
    pub own : listed k changed ≡ false → x.own now.value ≡ x.own n.value
    pub children : listed k changed ≡ false → stored_by (x.told (m.hides now.value)) new now.children ≡ stored_by (x.told (m.hides now.value)) at n.children

  abbrev pub CarriedAt : List Handle → (Handle → Option (TreeNode V)) → (Handle → Option (TreeNode V)) → Option (TreeNode V) → Handle → TreeNode V → Type 0
  CarriedAt changed at new None k now = (m.flag now.value ≡ true) × (m.below now.value ≡ true)
  CarriedAt changed at new (Some n) k now = KeepsAt changed at new n k now

  abbrev pub IsCommitStore : List Handle → (Handle → Option (TreeNode V)) → (Handle → Option (TreeNode V)) → Type 0
  IsCommitStore changed at new = (k : Handle) (now : TreeNode V) → new k ≡ Some now → CarriedAt changed at new (at k) k now

  -- ---- what holds once the changed nodes are marked

  -- a node without a flag had none, is built as it was, and came to what it came to, and so did each child; where it asks all that
  -- is below it, nothing below it is built otherwise
  pub record Settled (at : Handle → Option (TreeNode V)) (k : Handle) (v : V) (kids : Forest V) : Type 0 where
    pub node : TreeNode V
    pub is : at k ≡ Some node
    pub no_flag : m.flag node.value ≡ false
    pub build : SameBuild at node v kids
    pub hides : m.hides v ≡ m.hides node.value
    pub stored : x.stored v ≡ x.stored node.value
    pub children : tops_by (seen (m.hides v)) kids ≡ stored_by (seen (m.hides v)) at node.children
    pub asked : m.asks v ≡ true → IsUnchanged at kids

  abbrev pub IsSettled : (Handle → Option (TreeNode V)) → Forest V → Type 0
  IsSettled at none = Unit {0}
  IsSettled at (tree k v kids rest) = (m.flag v ≡ false → Settled at k v kids) × IsSettled at kids × IsSettled at rest

  -- ---- laws of the nodes without a flag, in a store and in a forest

  -- a law reads what a node is made of, what it came to, and what is seen of its children
  abbrev pub LawStore : (O → S → List (Handle × Option (SeenChild D S)) → Type 0) → (Handle → Option (TreeNode V)) → Type 0
  LawStore law at = (k : Handle) (n : TreeNode V) → at k ≡ Some n → m.flag n.value ≡ false → law (x.own n.value) (x.stored n.value) (stored_by (seen (m.hides n.value)) at n.children)

  abbrev pub LawForest : (O → S → List (Handle × Option (SeenChild D S)) → Type 0) → Forest V → Type 0
  LawForest law none = Unit {0}
  LawForest law (tree k v kids rest) =
      (m.flag v ≡ false → law (x.own v) (x.stored v) (tops_by (seen (m.hides v)) kids)) × LawForest law kids × LawForest law rest

  -- a law of the nodes that ask also reads how all below them are built
  abbrev pub LawBelowStore : (O → S → List (Handle × Option (SeenChild D S)) → Forest (NodeBuild O D) → Type 0) → (Handle → Option (TreeNode V)) → Type 0
  LawBelowStore law at = (k : Handle) (n : TreeNode V) (g : Forest V) → at k ≡ Some n → m.flag n.value ≡ false → m.asks n.value ≡ true
      → Stands at (Some k) g → n.children ≡ tops g
      → law (x.own n.value) (x.stored n.value) (stored_by (seen (m.hides n.value)) at n.children) (map_values (λ h v. piece v) g)

  abbrev pub LawBelow : (O → S → List (Handle × Option (SeenChild D S)) → Forest (NodeBuild O D) → Type 0) → Forest V → Type 0
  LawBelow law none = Unit {0}
  LawBelow law (tree k v kids rest) =
      (m.flag v ≡ false → m.asks v ≡ true → law (x.own v) (x.stored v) (tops_by (seen (m.hides v)) kids) (map_values (λ h w. piece w) kids))
      × LawBelow law kids × LawBelow law rest

  -- below each node of a store there is a forest
  abbrev pub HasForests : (Handle → Option (TreeNode V)) → Type 0
  HasForests at = (k : Handle) (n : TreeNode V) → at k ≡ Some n → (g : Forest V) × Stands at (Some k) g × (n.children ≡ tops g)

  -- ---- what marks keep, in a store

  abbrev pub has_mark : Option (TreeNode V) → Bool
  has_mark None = false
  has_mark (Some n) = m.flag n.value || m.below n.value

  -- some node of a list has a mark
  abbrev pub any_mark_stored : (Handle → Option (TreeNode V)) → List Handle → Bool
  any_mark_stored at [] = false
  any_mark_stored at (h ∷ hs) = has_mark (at h) || any_mark_stored at hs

  -- the parent of each node with a mark has "something below"
  abbrev pub IsLinkedStore : (Handle → Option (TreeNode V)) → Type 0
  IsLinkedStore at = (k : Handle) (n : TreeNode V) → at k ≡ Some n → any_mark_stored at n.children ≡ true → m.below n.value ≡ true

  abbrev pub EndsNode : (Above → V → Bool) → Above → Option (TreeNode V) → Type 0
  EndsNode ends p None = Unit {0}
  EndsNode ends p (Some n) = m.flag n.value ≡ true → ends p n.value ≡ true

  abbrev pub EndsStored : (Above → V → Bool) → (Handle → Option (TreeNode V)) → Above → List Handle → Type 0
  EndsStored ends at p [] = Unit {0}
  EndsStored ends at p (h ∷ hs) = EndsNode ends p (at h) × EndsStored ends at p hs

  -- below a node without a flag each child with a flag stands apart
  abbrev pub IsClosedStore : (V → Bool) → (Handle → Option (TreeNode V)) → Type 0
  IsClosedStore shown at = (k : Handle) (n : TreeNode V) → at k ≡ Some n → m.flag n.value ≡ false → EndsStored (is_apart m shown) at (within m at_top n.value) n.children

-- ---- a commit by a plan

module _ {U V : Type 0} (updated : U → V → V) where
  -- the tops of a plan, each with a part of what its update makes of the value that is there
  abbrev pub planned_by : {A : Type 0} → (V → A) → (Handle → Option V) → Forest U → List (Handle × Option A)
  planned_by part now none = []
  planned_by part now (tree k u kids rest) = (k, option_map (λ v. part (updated u v)) (now k)) ∷ planned_by part now rest

module _ {U V O D S : Type 0} (updated : U → V → V) (m : Marking V) (x : Parts V O D S) where
  -- an update changes no mark, and nothing of what the node came to
  pub record KeepsMarks : Type 0 where
    pub flag : (u : U) (v : V) → m.flag (updated u v) ≡ m.flag v
    pub below : (u : U) (v : V) → m.below (updated u v) ≡ m.below v
    pub stored : (u : U) (v : V) → x.stored (updated u v) ≡ x.stored v

  -- the values when the plan is committed are those of the old store, and beside them those of new nodes, with both marks
  pub record IsReady (at : Handle → Option (TreeNode V)) (now : Handle → Option V) : Type 0 where
    pub was : (k : Handle) (n : TreeNode V) (v : V) → at k ≡ Some n → now k ≡ Some v → v ≡ n.value
    pub fresh : (k : Handle) (v : V) → at k ≡ None → now k ≡ Some v → (m.flag v ≡ true) × (m.below v ≡ true)

  -- each node of the plan that was there and is built otherwise than it was is on the list
  abbrev pub Covers : List Handle → (Handle → Option (TreeNode V)) → (Handle → Option V) → Forest U → Type 0
  Covers changed at now none = Unit {0}
  Covers changed at now (tree k u kids rest) =
      ((n : TreeNode V) → at k ≡ Some n → listed k changed ≡ false
      → (x.own (updated u n.value) ≡ x.own n.value) × (planned_by updated (x.told (m.hides (updated u n.value))) now kids ≡ stored_by (x.told (m.hides (updated u n.value))) at n.children))
      × Covers changed at now kids × Covers changed at now rest
