-- Flags, marks and toggled nodes of small trees, worked by hand.
use Rattle.std.specs.Prelude.{◌≡◌, ℕ, ◌==◌, Bool, true, false, Some, [], ◌∷◌, if◌then◌else◌}
use Rattle.fx_geom.specs.Bounds.{tight, loose}
use Rattle.fx_geom.specs.declared.boxes.Bounds.{Bounds}
use Rattle.fx_geom.specs.declared.lengths.Len.TheVariants.{Finite}
use Rattle.fx_geom.specs.declared.shapes.Size.{Size}
use Rattle.fx_handles.specs.declared.Handle.{Handle}
use Rattle.node_tree.specs.Forest.{Forest}
use Rattle.node_tree.specs.Forest.Forest.{none, tree}
use Rattle.widget_keys.specs.declared.keys.Key.TheVariants as key
use Rattle.widget_model.specs.Look.{Look, padding, offstage, repaint_boundary}
use Rattle.widget_model.specs.Plain.{plain, no_widgets}
use Rattle.plain_tree.specs.declared.laid.Frame.TheVariants.{Boxed}
use Rattle.plain_tree.specs.Render.{Render, render, no_renders, more_renders}
use Rattle.work_sets.specs.Before.{Before}
use Rattle.work_sets.specs.InTree.{number_of}
use Rattle.work_sets.specs.Layout.{layout_region}
use Rattle.work_sets.specs.Paint.{Asks}
use Rattle.work_sets.specs.Region.{Judge}
use Rattle.render_tree.specs.Edits.{new_object, no_parent_data}
use Rattle.render_tree.specs.Marks.{layout_told}
use Rattle.render_tree.specs.Object.{RenderObject}
use Rattle.counted_work.specs.Inside.{RootFlagsInside}
use Rattle.counted_work.specs.Painted.{RootFlagsAsked}

abbrev pub handle : ℕ → Handle
handle n = record { index = n; generation = 0 }

-- a node with this flag for layout, and for painting, in the window or not
abbrev pub object : ℕ → Look → Bool → Bool → RenderObject
object number look flag shown = record (new_object number (plain look key.None no_widgets no_widgets)) { needs_layout = flag; needs_paint = flag; shown = shown }

abbrev pub inset : Look
inset = padding 0 0 0 0

-- 1 over 2 over 3 over 4, where 3 is in the window or not
abbrev pub chain : Bool → Bool → Bool → Bool → Bool → Forest RenderObject
chain first second third fourth shown =
    tree (handle 1) (object 1 inset first true)
    (tree (handle 2) (object 2 repaint_boundary second true) (tree (handle 3) (object 3 inset third shown) (tree (handle 4) (object 4 inset fourth true) none none) none) none)
    none

-- 3 is changed, and 2 is a firm boundary
abbrev pub third_changed : Judge
third_changed = record { is_firm = λ p r. number_of r == 2; is_changed = λ p r. number_of r == 3 }

abbrev pub first_changed : Judge
first_changed = record { is_firm = λ p r. number_of r == 2; is_changed = λ p r. number_of r == 1 }

-- 3 asks to be painted
abbrev pub third_asks : Asks
third_asks p r = number_of r == 3

abbrev pub first_asks : Asks
first_asks p r = number_of r == 1

-- 1 over an Offstage 2 that was offstage, in these bounds
abbrev pub pair : Bool → Render
pair hidden = render 1 inset no_parent_data 0 0 (more_renders (render 2 (offstage hidden) no_parent_data 0 0 no_renders) no_renders)

abbrev pub some_size : Size
some_size = record { w = 8; h = 8 }

abbrev pub some_bounds : Bounds
some_bounds = loose (Finite 8) (Finite 8)

abbrev pub hidden_in : Bounds → Before
hidden_in bounds = record {
  tree = Some (pair true);
  frames = λ n. Some (if n == 1 then Boxed (tight some_size) some_size else Boxed bounds some_size);
  same_view = true;
  touched = [];
}

-- an Offstage that is offstage or isn't, laid out in these bounds
abbrev pub laid_in : Bounds → Bool → RenderObject
laid_in bounds hidden = record (object 2 (offstage hidden) false true) { frame = Some (Boxed bounds some_size) }

pub record WorksOfCounts : Type 0 where
  -- flags of the boundary, and at and below the changed node, are in the region; that of the node above isn't, unless it is changed
  pub inside : RootFlagsInside third_changed (chain false true true true true)
  pub outside : RootFlagsInside third_changed (chain true true true true true) → ⊥
  pub changed_above : RootFlagsInside first_changed (chain true true true true true)
  -- a flag needs no cause that is out of the window, or below what is
  pub seen : RootFlagsInside (record first_changed { is_changed = λ p r. false }) (chain false false true true true) → ⊥
  pub unseen : RootFlagsInside (record first_changed { is_changed = λ p r. false }) (chain false false true true false)
  -- of paints the flags of the root and of boundaries count, each for its own group
  pub asked : RootFlagsAsked third_asks (chain false true true true true)
  pub not_asked : RootFlagsAsked third_asks (chain true true true true true) → ⊥
  pub asked_above : RootFlagsAsked first_asks (chain true false true true true)
  -- an Offstage that shows again is a firm boundary where it had one size that it might take, and the region has it alone; else the region
  -- begins above it
  pub tight_region : layout_region (hidden_in (tight some_size)) (pair false) ≡ 2 ∷ []
  pub loose_region : layout_region (hidden_in some_bounds) (pair false) ≡ 1 ∷ 2 ∷ []
  -- so its parent is changed only where it takes its size of it: in tight bounds it takes the same of the two, and so does a parent that
  -- is offstage
  pub tight_told : layout_told false (laid_in (tight some_size) false) ≡ layout_told false (laid_in (tight some_size) true)
  pub loose_told : layout_told false (laid_in some_bounds false) ≡ layout_told false (laid_in some_bounds true) → ⊥
  pub hidden_told : layout_told true (laid_in some_bounds false) ≡ layout_told true (laid_in some_bounds true)
