-- Stack (RenderStack).
use Rattle.std.specs.Prelude.{ℤ, max, Bool, is_none, if◌then◌else◌, Option, Some, None, List, [], ◌∷◌, map, fold}
use Rattle.std.specs.List.{filter}
use Rattle.fx_geom.specs.declared.boxes.Bounds.{Bounds}
use Rattle.fx_geom.specs.declared.lengths.Len.{Len}
use Rattle.fx_geom.specs.declared.lengths.Len.TheVariants.{Finite, Unbounded}
use Rattle.fx_geom.specs.declared.shapes.Offset.{Offset}
use Rattle.fx_geom.specs.declared.shapes.Size.{Size}
use Rattle.fx_geom.specs.declared.words.Placed.{Placed}
use Rattle.fx_geom.specs.declared.words.StackFit.{StackFit}
use Rattle.fx_geom.specs.declared.words.StackFit.TheVariants.{Loose, Expand, Passthrough}
use Rattle.fx_geom.specs.Bounds.{bounds_of, smallest, loosen}
use Rattle.fx_geom.specs.Len.{finite_or}
use Rattle.fx_geom.specs.Placed.{is_positioned}
use Rattle.flex_layout.specs.Flex.{align_of}
use Rattle.flex_layout.specs.Stack.{placed_of, placed_offset}
use Rattle.plain_tree.specs.declared.render.ParentData.{ParentData}
use Rattle.plain_tree.specs.Laid.{Laid}
use Rattle.layout_form.specs.Object.{Object, Done, sized, size_in, sizes_in, placed_at, each_in, datas}

-- how a child is positioned: it is where at least one of the six is given
abbrev pub position_of : Option Placed → Option Placed
position_of None = None
position_of (Some p) = if is_positioned p then Some p else None

abbrev pub is_free : ParentData → Bool
is_free d = is_none (position_of d.placed)

-- the bounds of a child that isn't positioned: the same without minima, exactly the maxima where there are any, or the
-- same
abbrev pub free_bounds : StackFit → Bounds → Bounds
free_bounds Loose b = loosen b
free_bounds Expand b = bounds_of (finite_or b.max_w 0) b.max_w (finite_or b.max_h 0) b.max_h
free_bounds Passthrough b = b

-- the sizes of the children that aren't positioned
abbrev pub free_sizes : Bounds → List Object → List Size
free_sizes inner cs = map (λ c. size_in (c.in_bounds inner)) (filter (λ c. is_free c.parent_data) cs)

-- the greater of two sizes on each axis
abbrev pub greater : Size → Size → Size
greater a b = record { w = max a.w b.w; h = max a.h b.h }

-- the maximum on both axes where both are bounded, else the least size
abbrev pub whole_of : Len → Len → Bounds → Size
whole_of (Finite w) (Finite h) b = record { w = w; h = h }
whole_of (Finite w) Unbounded b = smallest b
whole_of Unbounded max_h b = smallest b

-- the greatest of the minima and of the extents of these children; without such children all there is
abbrev pub stack_size : Bounds → List Size → Size
stack_size b [] = whole_of b.max_w b.max_h b
stack_size b (s ∷ ss) = fold greater (smallest b) (s ∷ ss)

-- the bounds of a child in a stack of this size
abbrev pub stack_child : Bounds → Size → Option Placed → Bounds
stack_child inner stack None = inner
stack_child inner stack (Some p) = placed_of p stack

-- where a child stands: one that isn't positioned by the alignment
abbrev pub stack_offset : ℤ → ℤ → Size → Option Placed → Size → Offset
stack_offset ax ay stack None child = record { x = align_of stack.w child.w ax; y = align_of stack.h child.h ay }
stack_offset ax ay stack (Some p) child = placed_offset p stack child ax ay

abbrev pub stack_offsets : ℤ → ℤ → Size → List ParentData → List Size → List Offset
stack_offsets ax ay stack [] sizes = []
stack_offsets ax ay stack (d ∷ ds) [] = []
stack_offsets ax ay stack (d ∷ ds) (child ∷ sizes) =
    stack_offset ax ay stack (position_of d.placed) child ∷ stack_offsets ax ay stack ds sizes

-- what comes of the laid children, where the stack has this size
abbrev pub stack_done : ℤ → ℤ → Size → List ParentData → List Laid → Done
stack_done ax ay size ds ls = sized size (placed_at (stack_offsets ax ay size ds (sizes_in ls)) ls)

abbrev pub stack_rule : ℤ → ℤ → StackFit → Bounds → List Object → Done
stack_rule ax ay fit b cs =
    let inner = free_bounds fit b in
    let size = stack_size b (free_sizes inner cs) in
    stack_done ax ay size (datas cs) (each_in (map (λ d. stack_child inner size (position_of d.placed)) (datas cs)) cs)
