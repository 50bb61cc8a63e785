-- Viewport and the slivers in it (RenderViewport, RenderSliver).
use Rattle.std.specs.Prelude.{ℕ, suc, pos, Bool, not, ◌&&◌, ◌||◌, nat_lt, nat_le, if◌then◌else◌, Option, Some, None, List, [], ◌∷◌, map, length}
use Rattle.fx_geom.specs.declared.boxes.Bounds.{Bounds}
use Rattle.fx_geom.specs.declared.lengths.Len.TheVariants.{Finite, Unbounded}
use Rattle.fx_geom.specs.declared.shapes.Axis.{Axis}
use Rattle.fx_geom.specs.declared.shapes.Insets.{Insets}
use Rattle.fx_geom.specs.declared.shapes.Offset.{Offset}
use Rattle.fx_geom.specs.declared.shapes.Size.{Size}
use Rattle.fx_geom.specs.Along.{size_along, offset_along, bounds_along}
use Rattle.fx_geom.specs.Bounds.{tight}
use Rattle.fx_geom.specs.Insets.{other_of, extent_of, before}
use Rattle.fx_geom.specs.Len.{finite_or, is_bounded, total_of}
use Rattle.sliver_layout.specs.declared.protocol.SliverBounds.{SliverBounds}
use Rattle.sliver_layout.specs.declared.protocol.Walk.{Walk}
use Rattle.sliver_layout.specs.declared.protocol.Window.{Window}
use Rattle.sliver_layout.specs.Lists.{window_of, list_geometry_of, item_place_of}
use Rattle.sliver_layout.specs.Slivers.{paint_offset_of, box_geometry_of, box_place_of, padded_of, padding_of, corrected_of, walk_from, view_of, walk_past}
use Rattle.plain_tree.specs.Laid.{Laid, Stood}
use Rattle.layout_form.specs.Object.{Object, Done, Passed, size_in, geometry_in, placed}

-- ---- Viewport

-- each axis is the maximum where it is bounded, else the minimum
abbrev pub view_size : Bounds → Size
view_size b = record { w = finite_or b.max_w b.min_w; h = finite_or b.max_h b.min_h }

-- the note where an axis isn't bounded
abbrev pub is_endless : Bounds → Bool
is_endless b = not (is_bounded b.max_w) || not (is_bounded b.max_h)

-- a view in which nothing is seen
abbrev pub unseen : Axis → ℕ → SliverBounds
unseen axis cross = record { axis = axis; offset = 0; remaining = 0; cross = cross }

-- how far all slivers can be scrolled through. How far one can be doesn't depend on what is seen of it, so each is asked
-- where nothing is.
abbrev pub scroll_total : Axis → ℕ → List Object → ℕ
scroll_total axis cross cs = total_of (map (λ c. (geometry_in (c.in_view (unseen axis cross))).scroll) cs)

-- the walk over the slivers: each gets what is left of the offset and of the view, and stands where the last one ends
abbrev pub walked : Axis → ℕ → ℕ → Walk → List Object → List Stood
walked axis main cross walk [] = []
walked axis main cross walk (c ∷ cs) =
    let l = c.in_view (view_of axis main cross walk) in
    placed (offset_along axis (pos walk.at) (pos 0)) l ∷ walked axis main cross (walk_past walk (geometry_in l)) cs

-- what comes of the slivers at their places, where the view stands scrolled so far
abbrev pub view_done : Bounds → ℕ → List Stood → Done
view_done b start children = record {
  size = view_size b;
  notes = record { overflow = 0; unbounded = is_endless b };
  scrolled = start;
  children = children;
}

-- the offset is corrected first, and the walk begins with the corrected one
abbrev pub viewport_rule : Axis → ℕ → Bounds → List Object → Done
viewport_rule axis offset b cs =
    let main = extent_of (view_size b) axis in
    let cross = extent_of (view_size b) (other_of axis) in
    let start = corrected_of offset (scroll_total axis cross cs) main in
    view_done b start (walked axis main cross (walk_from start) cs)

-- ---- SliverToBox

-- the child may have any main extent, and has exactly the cross extent
abbrev pub box_bounds : SliverBounds → Bounds
box_bounds b = bounds_along b.axis 0 Unbounded b.cross (Finite b.cross)

-- what comes of the laid child, or of none
abbrev pub to_box_done : SliverBounds → Option Laid → Passed
to_box_done b None = record { geometry = box_geometry_of b None; children = [] }
to_box_done b (Some l) = record {
  geometry = box_geometry_of b (Some (extent_of (size_in l) b.axis));
  children = placed (offset_along b.axis (box_place_of b) (pos 0)) l ∷ [];
}

abbrev pub to_box_rule : SliverBounds → Option Object → Passed
to_box_rule b None = to_box_done b None
to_box_rule b (Some child) = to_box_done b (Some (child.in_bounds (box_bounds b)))

-- ---- SliverPadding

-- the child stands after what is seen of the inset at the start, and after the leading inset across
abbrev pub padded_place : SliverBounds → Insets → Offset
padded_place b i = offset_along b.axis (pos (paint_offset_of b 0 (before i b.axis))) (pos (before i (other_of b.axis)))

-- what comes of the laid child, or of none
abbrev pub padding_done : Insets → SliverBounds → Option Laid → Passed
padding_done i b None = record { geometry = padding_of b i None; children = [] }
padding_done i b (Some l) = record { geometry = padding_of b i (Some (geometry_in l)); children = placed (padded_place b i) l ∷ [] }

abbrev pub padding_rule : Insets → SliverBounds → Option Object → Passed
padding_rule i b None = padding_done i b None
padding_rule i b (Some child) = padding_done i b (Some (child.in_view (padded_of b i)))

-- ---- SliverFixed, SliverLazy

-- a child is among those of a window
abbrev pub is_among : Window → ℕ → Bool
is_among w i = nat_le w.first i && nat_lt i w.end

-- child i of a list of children of one extent: it is tight on both axes
abbrev pub item_in : SliverBounds → ℕ → ℕ → Object → Stood
item_in b extent i c =
    placed (offset_along b.axis (item_place_of b extent i) (pos 0)) (c.in_bounds (tight (size_along b.axis extent b.cross)))

-- the children that are seen, where they have these indices; no other is laid out
abbrev pub items_in : SliverBounds → ℕ → Window → List ℕ → List Object → List Stood
items_in b extent w [] cs = []
items_in b extent w (i ∷ is) [] = []
items_in b extent w (i ∷ is) (c ∷ cs) =
    if is_among w i then item_in b extent i c ∷ items_in b extent w is cs else items_in b extent w is cs

-- a list of so many children of one extent, of which these are there, at these indices
abbrev pub list_rule : ℕ → ℕ → SliverBounds → List ℕ → List Object → Passed
list_rule extent count b indices cs =
    record { geometry = list_geometry_of b extent count; children = items_in b extent (window_of b extent count) indices cs }

-- the places of a list, from i on
abbrev pub counted : {A : Type 0} → ℕ → List A → List ℕ
counted i [] = []
counted i (x ∷ xs) = i ∷ counted (suc i) xs

-- the children of a SliverFixed are all there
abbrev pub fixed_rule : ℕ → SliverBounds → List Object → Passed
fixed_rule extent b cs = list_rule extent (length cs) b (counted 0 cs) cs

-- of a SliverLazy only the items are, each at its place among the child widgets
abbrev pub lazy_rule : ℕ → ℕ → SliverBounds → List Object → Passed
lazy_rule extent count b cs = list_rule extent count b (map (λ c. c.parent_data.index) cs) cs
