-- What is kept of small trees, worked by hand.
use Rattle.std.specs.Prelude.{◌≡◌, ℕ, ℤ, pos, true, false, Bool, Some, None, [], ◌∷◌}
use Rattle.fx_handles.specs.declared.Handle.{Handle}
use Rattle.fx_geom.specs.Bounds.{tight}
use Rattle.fx_geom.specs.Offset.{origin}
use Rattle.draw_records.specs.declared.record.Record.TheVariants.{Fill}
use Rattle.layer_tree.specs.declared.kind.LayerKind.TheVariants as kind
use Rattle.widget_keys.specs.declared.keys.Key.TheVariants as key
use Rattle.widget_model.specs.Look.{Look, colored_box, opacity, offstage, repaint_boundary}
use Rattle.widget_model.specs.Plain.{plain, no_widgets}
use Rattle.plain_tree.specs.declared.laid.Frame.TheVariants.{Boxed}
use Rattle.node_tree.specs.Forest.{Forest}
use Rattle.node_tree.specs.Forest.Forest.{none, tree}
use Rattle.screen_form.specs.WorkedPaints.{size, point, rect}
use Rattle.render_tree.specs.Object.{RenderObject}
use Rattle.kept_layers.specs.GroupPart.{GroupPart, record_part, layer_part, place_part, parts_of}
use Rattle.kept_layers.specs.Group.{group_parts}
use Rattle.kept_layers.specs.Steps.{stale, painted_count}

abbrev pub handle : ℕ → Handle
handle i = record { index = i; generation = 0 }

-- a box of 8 by 4 u at a point, in the window, flagged or not
abbrev pub object : Look → ℤ → ℤ → Bool → RenderObject
object look x y flag = record {
  number = 1;
  widget = plain look key.None no_widgets no_widgets;
  parent_data = record { flex = 0; tight = false; placed = None; index = 0 };
  scroll = 0;
  frame = Some (Boxed (tight (size 8 4)) (size 8 4));
  notes = record { overflow = 0; unbounded = false };
  plugged = false;
  scrolled = 0;
  offset = Some (point x y);
  shown = true;
  live = None;
  needs_layout = false;
  layout_below = false;
  needs_paint = flag;
  paint_below = true;
}

-- a leaf of a color
abbrev pub leaf : ℕ → ℤ → ℤ → ℕ → Forest RenderObject → Forest RenderObject
leaf i x y color rest = tree (handle i) (object (colored_box color) x y false) none rest

-- a boundary (1) round a leaf and a half seen Opacity, which is round a flagged boundary (4) with a leaf; and a leaf below an Offstage
abbrev pub scene : Forest RenderObject
scene =
    tree (handle 1) (object repaint_boundary (pos 3) (pos 0) false)
    (leaf 2 (pos 1) (pos 2) 7
    (tree (handle 3) (object (opacity 128) (pos 5) (pos 0) false)
    (tree (handle 4) (object repaint_boundary (pos 2) (pos 2) true) (leaf 5 (pos 0) (pos 1) 9 none) none)
    (tree (handle 6) (object (offstage true) (pos 0) (pos 0) false) (leaf 7 (pos 0) (pos 0) 8 none) none)))
    none

abbrev pub fill_at : ℤ → ℤ → ℕ → GroupPart
fill_at x y color = record_part (Fill (rect x y 8 4) color)

pub record Works : Type 0 where
  -- below the boundary: the leaf, and a layer with the place of the nested boundary, which stands in it at its own offset
  pub group : group_parts (size 8 16) [] (leaf 2 (pos 1) (pos 2) 7 (tree (handle 3) (object (opacity 128) (pos 5) (pos 0) false) (tree (handle 4) (object repaint_boundary (pos 2) (pos 2) true) (leaf 5 (pos 0) (pos 1) 9 none) none) none)) origin
      ≡ fill_at (pos 1) (pos 2) 7 ∷ layer_part (kind.Opacity (point (pos 5) (pos 0)) 128) (parts_of (place_part (handle 4) (point (pos 2) (pos 2)) ∷ [])) ∷ []
  -- the whole tree is one place, that of its boundary
  pub whole : group_parts (size 8 16) [] scene origin ≡ place_part (handle 1) (point (pos 3) (pos 0)) ∷ []
  -- the flagged boundary is stale, and so is the one round it; nested ones come first
  pub order : stale scene ≡ handle 4 ∷ handle 1 ∷ []
  -- the flagged boundary and its leaf are painted, and nothing else
  pub count : painted_count false scene ≡ 2
