-- The objects of render nodes, opened.
use Rattle.std.proofs.Common.{◌≡◌, ap, refl, ℕ, List, [], ◌∷◌, map}
use Rattle.fx_geom.specs.declared.boxes.Bounds.{Bounds}
use Rattle.fx_geom.specs.declared.lengths.Len.{Len}
use Rattle.fx_geom.specs.declared.shapes.Axis.{Axis}
use Rattle.sliver_layout.specs.declared.protocol.SliverBounds.{SliverBounds}
use Rattle.widget_model.specs.Look.{Look}
use Rattle.plain_tree.specs.declared.render.ParentData.{ParentData}
use Rattle.plain_tree.specs.Render.{Render, render, renders_of}
use Rattle.layout_form.specs.Object.{Setting, Object}
use Rattle.layout_form.specs.Layout.{object, objects, box_rule, sliver_rule, intrinsic_rule, laid_box, laid_sliver}

pub objects_map : (s : Setting) (rs : List Render) → objects s (renders_of rs) ≡ map (object s) rs
unfolding objects
objects_map s [] = refl
objects_map s (r ∷ rs) = ap (λ os. object s r ∷ os) (objects_map s rs)

pub object_data : (s : Setting) (n : ℕ) (l : Look) (d : ParentData) (o c : ℕ) (rs : List Render)
    → (object s (render n l d o c (renders_of rs))).parent_data ≡ d
unfolding object
object_data s n l d o c rs = refl

pub object_box : (s : Setting) (n : ℕ) (l : Look) (d : ParentData) (o c : ℕ) (rs : List Render) (b : Bounds)
    → (object s (render n l d o c (renders_of rs))).in_bounds b ≡ laid_box s n l b (box_rule s l o b (map (object s) rs))
unfolding object
object_box s n l d o c rs b = ap (λ (cs : List Object). laid_box s n l b (box_rule s l o b cs)) (objects_map s rs)

pub object_sliver : (s : Setting) (n : ℕ) (l : Look) (d : ParentData) (o c : ℕ) (rs : List Render) (b : SliverBounds)
    → (object s (render n l d o c (renders_of rs))).in_view b ≡ laid_sliver s n l b (sliver_rule l c b (map (object s) rs))
unfolding object
object_sliver s n l d o c rs b = ap (λ (cs : List Object). laid_sliver s n l b (sliver_rule l c b cs)) (objects_map s rs)

pub object_extent : (s : Setting) (n : ℕ) (l : Look) (d : ParentData) (o c : ℕ) (rs : List Render) (axis : Axis) (across : Len)
    → (object s (render n l d o c (renders_of rs))).greatest axis across ≡ intrinsic_rule s l axis across (map (object s) rs)
unfolding object
object_extent s n l d o c rs axis across = ap (λ (cs : List Object). intrinsic_rule s l axis across cs) (objects_map s rs)
