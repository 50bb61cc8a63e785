-- What the laws of the work sets say.
use Rattle.std.specs.Prelude.{◌≡◌, ℕ, Bool, true, false, Option, Some, None, List, [], ◌∷◌, ◌++◌, ◌⊎◌, if◌then◌else◌}
use Rattle.plain_tree.specs.Laws.{render_numbers_of, render_numbers_in, AllDiffer}
use Rattle.plain_tree.specs.PlainNode.{PlainNode}
use Rattle.build_form.specs.FullBuild.{Built, failed, built}
use Rattle.plain_tree.specs.Render.{Render, render, Renders, no_renders, more_renders}
use Rattle.work_sets.specs.Before.{Before, frame_in}
use Rattle.work_sets.specs.InTree.{look_of}
use Rattle.work_roles.specs.WorkRole.{is_repaint_boundary}
use Rattle.work_sets.specs.Paint.{Asks, Shows}
use Rattle.work_roles.specs.Place.{RegionPlace, below}
use Rattle.work_sets.specs.Region.{Judge}
use Rattle.work_sets.specs.Work.{MadeTree, nothing_made, first_made, all_made}

-- these numbers are those of some nodes of a tree, in preorder, each with all that stand below it
abbrev mutual
  pub IsOfSubtrees : List ℕ → Render → Type 0
  IsOfSubtrees xs (render number look told scroll count children) =
      (xs ≡ number ∷ render_numbers_in children) ⊎ AreOfSubtrees xs children

  pub AreOfSubtrees : List ℕ → Renders → Type 0
  AreOfSubtrees xs no_renders = xs ≡ []
  AreOfSubtrees xs (more_renders r rs) = (ys : List ℕ) × (zs : List ℕ) × (xs ≡ ys ++ zs) × IsOfSubtrees ys r × AreOfSubtrees zs rs

-- these numbers are those of some groups of a tree, in preorder: of the group of its top where that is among them, and of each
-- group that begins below it or doesn't
abbrev mutual
  pub IsOfGroups : Bool → List ℕ → Render → Type 0
  IsOfGroups painted xs (render number look told scroll count children) =
      (ys : List ℕ) × (xs ≡ (if painted then number ∷ [] else []) ++ ys) × AreOfGroups painted ys children

  pub AreOfGroups : Bool → List ℕ → Renders → Type 0
  AreOfGroups painted xs no_renders = xs ≡ []
  AreOfGroups painted xs (more_renders r rs) =
      (own : Bool) × (ys : List ℕ) × (zs : List ℕ) × (is_repaint_boundary (look_of r) ≡ false → own ≡ painted)
      × (xs ≡ ys ++ zs) × IsOfGroups own ys r × AreOfGroups painted zs rs

-- a node of a tree that stands at a place is changed nowhere
module _ (judge : Judge) where
  abbrev mutual
    pub IsUnchanged : RegionPlace → Render → Type 0
    IsUnchanged p (render number look told scroll count children) =
        (judge.is_changed p (render number look told scroll count children) ≡ false) × AreUnchanged (below p look) children

    pub AreUnchanged : RegionPlace → Renders → Type 0
    AreUnchanged p no_renders = Unit {0}
    AreUnchanged p (more_renders r rs) = IsUnchanged p r × AreUnchanged p rs

-- of two judges the second one has the same firm boundaries, and counts all as changed that the first one does
pub record ChangesMore (j k : Judge) : Type 0 where
  pub firm : (p : RegionPlace) (r : Render) → j.is_firm p r ≡ k.is_firm p r
  pub changed : (p : RegionPlace) (r : Render) → j.is_changed p r ≡ true → k.is_changed p r ≡ true

-- all that asks to be painted by the first asks by the second
abbrev pub AsksMore : Asks → Asks → Type 0
AsksMore j k = (p : RegionPlace) (r : Render) → j p r ≡ true → k p r ≡ true

-- nothing happened since a frame with this render tree, in which no number stands twice: no line touched anything, and the view
-- has its size
pub record IsQuiet (b : Before) (root : Render) : Type 0 where
  pub same_tree : b.tree ≡ Some root
  pub differ : AllDiffer (render_numbers_of root)
  pub untouched : b.touched ≡ []
  pub view : b.same_view ≡ true

-- a laid tree shows again, and each of its nodes has the frame that it had
pub record IsShownAgain (b : Before) (s : Shows) : Type 0 where
  pub same : s.before ≡ Some s.now
  pub frames : (number : ℕ) → frame_in s.now number ≡ None ⊎ (frame_in s.now number ≡ b.frames number)

-- the new tree of a build, and of how far it comes, where there is one
abbrev pub tree_built : Built → Option PlainNode
tree_built (failed fault) = None
tree_built (built tree next) = Some tree

abbrev pub new_tree : MadeTree → Option PlainNode
new_tree nothing_made = None
new_tree (first_made tree) = None
new_tree (all_made tree) = Some tree
