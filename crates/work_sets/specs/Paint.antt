-- Which nodes a frame paints at most: the paint region of its render tree.
use Rattle.std.specs.Prelude.{ℕ, ◌==◌, Bool, true, false, not, ◌&&◌, ◌||◌, Option, Some, None, List, [], ◌∷◌, ◌++◌, if◌then◌else◌}
use Rattle.std.specs.Bool.{beq}
use Rattle.std.specs.Coded.{coded_option}
use Rattle.std.specs.List.{list_any}
use Rattle.std.specs.Option.{option_or}
use base.Stored.{Coded}
use lib.Pointwise.{pointwise}
use Rattle.fx_geom.specs.declared.shapes.Offset.{Offset}
use Rattle.screen_form.specs.Hidden.{without_hidden}
use Rattle.plain_tree.specs.contracts.laid.Frame as frame
use Rattle.plain_tree.specs.declared.laid.Frame.{Frame}
use Rattle.plain_tree.specs.Laid.{Laid, laid, Laids, no_laids, more_laids}
use Rattle.plain_tree.specs.LaidCode.{coded_offset}
use Rattle.plain_tree.specs.Laws.{laid_numbers_of}
use Rattle.plain_tree.specs.Render.{Render, render, Renders, no_renders, more_renders}
use Rattle.work_sets.specs.Same.{is_same}
use Rattle.work_sets.specs.Members.{is_same_look}
use Rattle.work_roles.specs.WorkRole.{is_repaint_boundary}
use Rattle.work_roles.specs.Place.{RegionPlace, at_root, below}
use Rattle.work_sets.specs.InTree.{number_of, look_of, children_of, Standing, standing}
use Rattle.work_sets.specs.Before.{Before, frame_in, has_touched_delegate}

-- ---- groups: a repaint boundary, the root or a RepaintBoundary, with all that is below it down to the next ones

-- which nodes ask that their group is painted, each at its place
abbrev pub Asks : Type 0
Asks = RegionPlace → Render → Bool

module _ (asks : Asks) where
  abbrev mutual
    -- a node asks, or one of its group below it does
    pub group_asks : RegionPlace → Render → Bool
    group_asks p (render number look told scroll count children) =
        asks p (render number look told scroll count children) || some_of_group_asks (below p look) children

    pub some_of_group_asks : RegionPlace → Renders → Bool
    some_of_group_asks p no_renders = false
    some_of_group_asks p (more_renders r rs) =
        (not (is_repaint_boundary (look_of r)) && group_asks p r) || some_of_group_asks p rs

  -- a node is painted where its group is: that of the node above, or, at a boundary, its own
  abbrev pub is_in_group : Bool → RegionPlace → Render → Bool
  is_in_group above p r = if is_repaint_boundary (look_of r) then group_asks p r else above

  -- the numbers of the nodes below a node whose groups are painted, where the node's group is or isn't
  abbrev mutual
    pub groups_in : Bool → RegionPlace → Render → List ℕ
    groups_in painted p (render number look told scroll count children) =
        (if painted then number ∷ [] else []) ++ groups_below painted (below p look) children

    pub groups_below : Bool → RegionPlace → Renders → List ℕ
    groups_below above p no_renders = []
    groups_below above p (more_renders r rs) = groups_in (is_in_group above p r) p r ++ groups_below above p rs

  abbrev pub groups_of : Render → List ℕ
  groups_of root = groups_in (group_asks at_root root) at_root root

-- ---- what was painted, and where it stood

-- whether a node is painted, of a laid tree: it was laid out, and nothing above it hides it
abbrev pub is_painted : Laid → ℕ → Bool
is_painted root number = list_any (λ n. n == number) (laid_numbers_of (without_hidden root))

abbrev pub was_painted : Option Laid → ℕ → Bool
was_painted None number = false
was_painted (Some root) number = is_painted root number

-- how far from its parent the node with a number stands in a laid tree; the root has no parent
abbrev mutual
  pub stands_at : ℕ → Laid → Option Offset
  stands_at wanted (laid number look facts children) = stands_in wanted children

  pub stands_in : ℕ → Laids → Option Offset
  stands_in wanted no_laids = None
  stands_in wanted (more_laids at (laid number look facts children) ls) =
      if number == wanted then Some at else option_or (stands_in wanted children) (stands_in wanted ls)

abbrev pub stood_at : ℕ → Option Laid → Option Offset
stood_at wanted None = None
stood_at wanted (Some root) = stands_at wanted root

-- ---- what asks to be painted

-- the laid trees of two frames, the last one and this one
pub record Shows : Type 0 where
  pub before : Option Laid
  pub now : Laid

abbrev pub changes_painting : Shows → ℕ → Bool
changes_painting s number = not (beq (was_painted s.before number) (is_painted s.now number))

abbrev pub coded_frames : Coded (Option Frame)
coded_frames = coded_option (frame.the_row).coded

-- a layout that gave other bounds, another size or another geometry than the last layout of the node; none gives none
abbrev pub is_other_frame : Option Frame → Option Frame → Bool
is_other_frame None last = false
is_other_frame (Some f) last = not (is_same coded_frames (Some f) last)

abbrev pub numbers_below : Renders → List ℕ
numbers_below no_renders = []
numbers_below (more_renders r rs) = number_of r ∷ numbers_below rs

-- two render nodes have the same members and the same children
abbrev pub is_same_for_paint : Render → Render → Bool
is_same_for_paint was now =
    is_same_look (look_of was) (look_of now) && pointwise ◌==◌ (numbers_below (children_of was)) (numbers_below (children_of now))

abbrev pub differs_since : Option Standing → RegionPlace → Render → Bool
differs_since None p r = true
differs_since (Some was) p r = not (is_same_for_paint was.node r) || (p.top && not was.place.top)

-- a child that stands elsewhere in its parent, or is painted in one of the two frames alone
abbrev pub is_moved : Shows → ℕ → Bool
is_moved s number =
    not (is_same (coded_option coded_offset) (stood_at number s.before) (stands_at number s.now)) || changes_painting s number

-- a node asks for painting: it is new, or has become the root, or has other members or children; or its delegate's name was
-- touched; or its layout gave another frame; or it is painted in one of the two frames alone; or a child of it is moved
abbrev pub asks_paint : Before → Shows → Asks
asks_paint before s p r =
    differs_since (standing before.tree (number_of r)) p r
    || (has_touched_delegate before.touched r
    || (is_other_frame (frame_in s.now (number_of r)) (before.frames (number_of r))
    || (changes_painting s (number_of r) || list_any (is_moved s) (numbers_below (children_of r)))))

-- ---- the region of a frame, and of the flags between two frames

abbrev pub paint_region : Before → Shows → Render → List ℕ
paint_region before s root = groups_of (asks_paint before s) root

-- between two frames only a touched delegate is a cause
abbrev pub asks_idly : Before → Asks
asks_idly before p r = has_touched_delegate before.touched r

abbrev pub idle_groups_of : Before → Option Render → List ℕ
idle_groups_of before None = []
idle_groups_of before (Some root) = groups_of (asks_idly before) root

-- of the last frame's render tree: the nodes that may have a paint flag since then, of those that it painted
abbrev pub idle_groups : Before → List ℕ
idle_groups before = idle_groups_of before before.tree
