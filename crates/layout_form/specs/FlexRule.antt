-- Row and Column (RenderFlex). The main axis of a Row is horizontal, that of a Column vertical.
use Rattle.std.specs.Prelude.{ℕ, ◌-◌, pos, Bool, false, not, nat_lt, if◌then◌else◌, List, [], ◌∷◌, map, length}
use Rattle.std.specs.List.{filter, list_any}
use Rattle.fx_geom.specs.declared.boxes.Bounds.{Bounds}
use Rattle.fx_geom.specs.declared.lengths.Len.{Len}
use Rattle.fx_geom.specs.declared.lengths.Len.TheVariants.{Finite, Unbounded}
use Rattle.fx_geom.specs.declared.shapes.Axis.{Axis}
use Rattle.fx_geom.specs.declared.shapes.Offset.{Offset}
use Rattle.fx_geom.specs.declared.shapes.Size.{Size}
use Rattle.fx_geom.specs.declared.words.CrossAlign.{CrossAlign}
use Rattle.fx_geom.specs.declared.words.CrossAlign.TheVariants as cross_align
use Rattle.fx_geom.specs.declared.words.MainAlign.{MainAlign}
use Rattle.fx_geom.specs.Along.{size_along, offset_along, bounds_along, most_along}
use Rattle.fx_geom.specs.Bounds.{constrain}
use Rattle.fx_geom.specs.Insets.{other_of, extent_of}
use Rattle.fx_geom.specs.Len.{finite_or, total_of}
use Rattle.flex_layout.specs.Flex.{shares_of, cross_of}
use Rattle.flex_layout.specs.Gaps.{gaps_of}
use Rattle.wrap_table.specs.Stretches.{greatest_of, starts_from}
use Rattle.widget_model.specs.declared.words.MainSize.{MainSize}
use Rattle.widget_model.specs.declared.words.MainSize.TheVariants as main_size
use Rattle.plain_tree.specs.declared.render.ParentData.{ParentData}
use Rattle.plain_tree.specs.Laid.{Laid}
use Rattle.layout_form.specs.Object.{Object, Done, size_in, sizes_in, extents_of, placed_at, each_in, datas}

-- a child's factor is the flex of its Flexible, and 0 without one
abbrev pub factors_of : List ParentData → List ℕ
factors_of ds = map (λ d. d.flex) ds

abbrev pub is_flexible : ParentData → Bool
is_flexible d = nat_lt 0 d.flex

abbrev pub is_rigid : ParentData → Bool
is_rigid d = not (is_flexible d)

-- across the main axis each child gets 0 to the maximum, and under `stretch` exactly the maximum, where there is one
abbrev pub least_across : CrossAlign → Len → ℕ
least_across cross_align.Start most = 0
least_across cross_align.End most = 0
least_across cross_align.Center most = 0
least_across cross_align.Stretch most = finite_or most 0

-- the bounds of a child that may have these extents along the main axis
abbrev pub flex_child : Axis → CrossAlign → Bounds → ℕ → Len → Bounds
flex_child axis cross b least most =
    let across = most_along b (other_of axis) in
    bounds_along axis least most (least_across cross across) across

-- a child with factor 0 is unbounded on the main axis
abbrev pub unshared : Axis → CrossAlign → Bounds → Bounds
unshared axis cross b = flex_child axis cross b 0 Unbounded

-- a share is the maximum, and, where the child fills it, the minimum too
abbrev pub shared : Axis → CrossAlign → Bounds → Bool → ℕ → Bounds
shared axis cross b tight share = flex_child axis cross b (if tight then share else 0) (Finite share)

-- the bounds of the children by their shares
abbrev pub bounds_by : Axis → CrossAlign → Bounds → List ParentData → List ℕ → List Bounds
bounds_by axis cross b [] shares = []
bounds_by axis cross b (d ∷ ds) [] = []
bounds_by axis cross b (d ∷ ds) (share ∷ shares) =
    (if is_flexible d then shared axis cross b d.tight share else unshared axis cross b) ∷ bounds_by axis cross b ds shares

-- the bounds of all children, where those with factor 0 take so much of the main axis: what is left of a bounded axis is
-- shared; where it is unbounded, all children are laid out as with factor 0
abbrev pub flex_bounds : Axis → CrossAlign → Bounds → Len → ℕ → List ParentData → List Bounds
flex_bounds axis cross b (Finite most) fixed ds = bounds_by axis cross b ds (shares_of (most - fixed) (factors_of ds))
flex_bounds axis cross b Unbounded fixed ds = map (λ d. unshared axis cross b) ds

-- the sizes of the children with factor 0
abbrev pub rigid_sizes : Bounds → List Object → List Size
rigid_sizes inner cs = map (λ c. size_in (c.in_bounds inner)) (filter (λ c. is_rigid c.parent_data) cs)

-- the sum of their main extents
abbrev pub fixed_extent : Axis → CrossAlign → Bounds → List Object → ℕ
fixed_extent axis cross b cs = total_of (extents_of axis (rigid_sizes (unshared axis cross b) cs))

-- the laid children
abbrev pub flex_laid : Axis → CrossAlign → Bounds → List Object → List Laid
flex_laid axis cross b cs = each_in (flex_bounds axis cross b (most_along b axis) (fixed_extent axis cross b cs) (datas cs)) cs

-- a child asks for a share of an axis that has no end
abbrev pub asks_unbounded : Len → List ParentData → Bool
asks_unbounded (Finite most) ds = false
asks_unbounded Unbounded ds = list_any is_flexible ds

-- the main extent before it is constrained: all there is for `max` on a bounded axis, else what the children take
abbrev pub main_wanted : MainSize → Len → ℕ → ℕ
main_wanted main_size.Max most allocated = finite_or most allocated
main_wanted main_size.Min most allocated = allocated

abbrev pub flex_size : Axis → MainSize → Bounds → List Size → Size
flex_size axis size b sizes =
    constrain b (size_along axis
    (main_wanted size (most_along b axis) (total_of (extents_of axis sizes)))
    (greatest_of (extents_of (other_of axis) sizes)))

-- the offsets of children of these sizes that begin at these places of the main axis
abbrev pub flex_offsets : Axis → CrossAlign → ℕ → List ℕ → List Size → List Offset
flex_offsets axis cross outer [] sizes = []
flex_offsets axis cross outer (start ∷ starts) [] = []
flex_offsets axis cross outer (start ∷ starts) (child ∷ sizes) =
    offset_along axis (pos start) (cross_of cross outer (extent_of child (other_of axis))) ∷ flex_offsets axis cross outer starts sizes

-- where the children begin: after the lead, with the gap between two of them, by what they leave of the main axis
abbrev pub flex_starts : MainAlign → ℕ → List ℕ → List ℕ
flex_starts main outer extents =
    let gaps = gaps_of main (outer - total_of extents) (length extents) in
    starts_from gaps.between gaps.lead extents

-- where children of these sizes stand in a Row or a Column of this size
abbrev pub flex_places : Axis → MainAlign → CrossAlign → Size → List Size → List Offset
flex_places axis main cross whole sizes =
    flex_offsets axis cross (extent_of whole (other_of axis)) (flex_starts main (extent_of whole axis) (extents_of axis sizes)) sizes

-- what comes of the laid children: the size, by how much they exceed its main extent, and their places
abbrev pub flex_done : Axis → MainAlign → CrossAlign → MainSize → Bounds → Bool → List Laid → Done
flex_done axis main cross size b unbounded ls =
    let sizes = sizes_in ls in
    let whole = flex_size axis size b sizes in
    record {
      size = whole;
      notes = record { overflow = total_of (extents_of axis sizes) - extent_of whole axis; unbounded = unbounded };
      scrolled = 0;
      children = placed_at (flex_places axis main cross whole sizes) ls;
    }

abbrev pub flex_rule : Axis → MainAlign → CrossAlign → MainSize → Bounds → List Object → Done
flex_rule axis main cross size b cs =
    flex_done axis main cross size b (asks_unbounded (most_along b axis) (datas cs)) (flex_laid axis cross b cs)
