-- Marks on small trees, worked by hand. A node is of a kind, with one size that it may take or with several, in the window or not.
use Rattle.std.specs.Prelude.{◌≡◌, ℕ, ◌+◌, Bool, true, false, not, ◌&&◌, ◌||◌, List, [], ◌∷◌, ◌++◌}
use Rattle.fx_handles.specs.declared.Handle.{Handle}
use Rattle.node_tree.specs.Forest.{Forest}
use Rattle.node_tree.specs.Forest.Forest.{none, tree}
use Rattle.tree_marks.specs.Marking.{at_top, Marking, is_boundary}
use Rattle.tree_marks.specs.Marks.{mark, mark_all, sweep}
use Rattle.tree_marks.specs.Closed.{HasBelow, IsLinked, IsClosed, is_apart}

pub data WorkedSort : Type 0 where
  -- a box that takes its child's size, and one that has its size from its bounds alone
  box : WorkedSort
  window : WorkedSort
  -- a box that hides its child, and has its size from its bounds alone
  hider : WorkedSort
  -- a box that asks all that is below it
  asker : WorkedSort
  -- no box
  strip : WorkedSort

pub record WorkedNode : Type 0 where
  pub sort : WorkedSort
  pub tight : Bool
  pub shown : Bool
  pub flag : Bool
  pub below : Bool

abbrev pub sized_by_bounds : WorkedSort → Bool
sized_by_bounds box = false
sized_by_bounds window = true
sized_by_bounds hider = true
sized_by_bounds asker = false
sized_by_bounds strip = false

abbrev pub is_hider : WorkedSort → Bool
is_hider box = false
is_hider window = false
is_hider hider = true
is_hider asker = false
is_hider strip = false

abbrev pub is_asker : WorkedSort → Bool
is_asker box = false
is_asker window = false
is_asker hider = false
is_asker asker = true
is_asker strip = false

abbrev pub is_strip : WorkedSort → Bool
is_strip box = false
is_strip window = false
is_strip hider = false
is_strip asker = false
is_strip strip = true

-- marks as for a layout: a flag on each node of the way
abbrev pub to_lay_out : Marking WorkedNode
to_lay_out = record {
  flag = λ v. v.flag;
  below = λ v. v.below;
  marked = λ f b v. record v { flag = v.flag || f; below = v.below || b };
  ends = λ top hidden v. not (is_strip v.sort) && (top || (hidden || (v.tight || sized_by_bounds v.sort)));
  hides = λ v. is_hider v.sort;
  asks = λ v. is_asker v.sort;
  takes = λ top v. true;
}

-- marks as for painting: a flag at the boundary alone, which is the top and each window here
abbrev pub to_paint : Marking WorkedNode
to_paint = record {
  flag = λ v. v.flag;
  below = λ v. v.below;
  marked = λ f b v. record v { flag = v.flag || f; below = v.below || b };
  ends = λ top hidden v. top || sized_by_bounds v.sort;
  hides = λ v. false;
  asks = λ v. false;
  takes = λ top v. top || sized_by_bounds v.sort;
}

abbrev pub at : ℕ → Handle
at n = record { index = n; generation = 0 }

abbrev pub loose : WorkedSort → WorkedNode
loose sort = record { sort = sort; tight = false; shown = true; flag = false; below = false }

abbrev pub tight : WorkedSort → WorkedNode
tight sort = record { sort = sort; tight = true; shown = true; flag = false; below = false }

-- each node the only child of the one before it
abbrev pub chain : ℕ → List WorkedNode → Forest WorkedNode
chain n [] = none
chain n (v ∷ vs) = tree (at n) v (chain (n + 1) vs) none

-- which nodes of a forest have a flag, and which have "something below", by their places in it
abbrev pub flags : Forest WorkedNode → List Bool
flags none = []
flags (tree k v kids rest) = v.flag ∷ (flags kids ++ flags rest)

abbrev pub belows : Forest WorkedNode → List Bool
belows none = []
belows (tree k v kids rest) = v.below ∷ (belows kids ++ belows rest)

-- four boxes below one another, the second with one size that it may take
abbrev pub four : Forest WorkedNode
four = chain 1 (loose box ∷ tight box ∷ loose box ∷ loose box ∷ [])

-- an asker over a box, over a tight one that was left with a flag out of the window, over a box
abbrev pub left_flag : Forest WorkedNode
left_flag = chain 1 (loose asker ∷ loose box ∷ record (tight box) { shown = false; flag = true } ∷ loose box ∷ [])

-- a window over a strip, over a box with a flag out of the window
abbrev pub unseen : Forest WorkedNode
unseen = chain 1 (loose window ∷ loose strip ∷ record (loose box) { shown = false; flag = true } ∷ [])

-- "something below" with nothing below, on the second of three
abbrev pub stale : Forest WorkedNode
stale = chain 1 (loose box ∷ record (loose box) { below = true } ∷ loose box ∷ [])

pub record Works : Type 0 where
  -- a change of the last of four reaches up to the tight one, and is told to all above
  pub reached : flags (mark to_lay_out false at_top (at 4) four) ≡ false ∷ true ∷ true ∷ true ∷ []
  pub told : belows (mark to_lay_out false at_top (at 4) four) ≡ true ∷ true ∷ true ∷ false ∷ []
  pub also_told : belows (mark to_lay_out true at_top (at 4) four) ≡ true ∷ true ∷ true ∷ true ∷ []
  -- below an asker it reaches up to the asker and on, past the tight one and past the flag that is there
  pub asked : flags (mark to_lay_out false at_top (at 4) left_flag) ≡ true ∷ true ∷ true ∷ true ∷ []
  -- the child of a hider is a boundary, and a strip is none, however few sizes it may take
  pub hidden : flags (mark to_lay_out false at_top (at 4) (chain 1 (loose box ∷ loose hider ∷ loose box ∷ loose box ∷ []))) ≡ false ∷ false ∷ true ∷ true ∷ []
  pub stripped : flags (mark to_lay_out false at_top (at 3) (chain 1 (loose window ∷ tight strip ∷ loose box ∷ []))) ≡ true ∷ true ∷ true ∷ []
  -- a box that has just become a hider is a boundary, so that its parent has to be on the list too
  pub toggled : flags (mark to_lay_out true at_top (at 2) (chain 1 (loose box ∷ loose hider ∷ loose box ∷ []))) ≡ false ∷ true ∷ false ∷ []
  -- a list, one after another and in one pass
  pub each : flags (mark_all to_lay_out true at_top (at 3 ∷ at 1 ∷ []) four) ≡ true ∷ true ∷ true ∷ false ∷ []
  pub at_once : flags (sweep to_lay_out true (at 3 ∷ at 1 ∷ []) at_top four) ≡ true ∷ true ∷ true ∷ false ∷ []
  -- for painting the boundary alone has a flag
  pub painted : flags (mark to_paint false at_top (at 4) (chain 1 (loose box ∷ loose window ∷ loose box ∷ loose box ∷ []))) ≡ false ∷ true ∷ false ∷ false ∷ []
  pub top_painted : flags (mark to_paint false at_top (at 2) (chain 1 (loose box ∷ loose box ∷ []))) ≡ true ∷ false ∷ []
  -- that a node with a flag is a boundary, or its parent has a flag too, is false: of one that was left out of the window with
  -- its flag, and of one that came below an asker with it. Both stand apart
  pub left_open : IsClosed to_lay_out (is_boundary to_lay_out) [] at_top left_flag → ⊥
  pub left_apart : IsClosed to_lay_out (is_apart to_lay_out (λ v. v.shown)) [] at_top left_flag
  pub unseen_open : IsClosed to_lay_out (is_boundary to_lay_out) [] at_top unseen → ⊥
  pub unseen_apart : IsClosed to_lay_out (is_apart to_lay_out (λ v. v.shown)) [] at_top unseen
  -- where "something below" was left with nothing below, all is told to all above, and yet not from parent to parent
  pub stale_told : HasBelow to_lay_out stale
  pub stale_unlinked : IsLinked to_lay_out stale → ⊥
