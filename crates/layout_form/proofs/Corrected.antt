-- Laying out again with the offsets of a layout, of render trees and of trees of widgets.
use Rattle.std.proofs.Common.{◌≡◌, refl, sym, ap, ◌∙◌, subst, ℕ, Bool, true, false, if◌then◌else◌, Option, Some, None, List, [], ◌∷◌, ◌++◌, map}
use Rattle.std.proofs.lemmas.List.{map-append}
use Rattle.fx_geom.specs.declared.boxes.Bounds.{Bounds}
use Rattle.fx_geom.specs.declared.shapes.Size.{Size}
use Rattle.sliver_layout.specs.declared.protocol.SliverBounds.{SliverBounds}
use Rattle.widget_model.specs.Plain.{look_of, children_of as child_widgets}
use Rattle.plain_tree.specs.declared.render.ParentData.{ParentData}
use Rattle.plain_tree.specs.declared.role.RenderRole.{RenderRole}
use Rattle.plain_tree.specs.declared.role.RenderRole.TheVariants.{Composes, Shares, Places, Line, Pile, Lazy, Window, Plain}
use Rattle.plain_tree.specs.At.{numbers_of}
use Rattle.plain_tree.specs.Laws.{render_numbers_of, render_numbers_in, AllDiffer}
use Rattle.plain_tree.specs.Offsets.{offset_at, rescrolled, scrolled_by, all_scrolled_by, corrected}
use Rattle.plain_tree.specs.PlainNode.{PlainNode, node, PlainNodes, no_nodes, more_nodes}
use Rattle.plain_tree.specs.Projection.{projected, projected_all, render_of, told_at, told_by, scroll_in}
use Rattle.plain_tree.specs.Render.{Render, render, more_renders, renders_of, lazy_count}
use Rattle.plain_tree.specs.RenderRole.{render_role_of, vanishes}
use Rattle.layout_form.specs.Object.{Setting}
use Rattle.layout_form.specs.Layout.{object, lay_view}
use Rattle.layout_form.specs.Corrected.{render_scrolled_by, renders_scrolled_by, corrected_render}
use Rattle.layout_form.proofs.Again.{object_like}
use Rattle.layout_form.proofs.Keeps.{object_stands}
use Rattle.layout_form.proofs.Numbered.{laid_differ, own_offsets}
use Rattle.plain_tree.proofs.Numbers.{differ_left}

-- ---- render trees

pub box_again : (s : Setting) (r : Render) (b : Bounds) → AllDiffer (render_numbers_of r)
    → (object s (corrected_render ((object s r).in_bounds b) r)).in_bounds b ≡ (object s r).in_bounds b
box_again s r b d =
    let l = (object s r).in_bounds b in
    (object_like (λ number. offset_at number l) s r).boxes b (own_offsets l (laid_differ r l ((object_stands s r).boxes b) d))

pub sliver_again : (s : Setting) (r : Render) (b : SliverBounds) → AllDiffer (render_numbers_of r)
    → (object s (corrected_render ((object s r).in_view b) r)).in_view b ≡ (object s r).in_view b
sliver_again s r b d =
    let l = (object s r).in_view b in
    (object_like (λ number. offset_at number l) s r).views b (own_offsets l (laid_differ r l ((object_stands s r).views b) d))

-- ---- the projection of a tree with other offsets

scroll_kept : (role : RenderRole) (o : Option ℕ) (scroll : ℕ) → scroll_in role (rescrolled role o scroll) ≡ rescrolled role o (scroll_in role scroll)
scroll_kept Window o scroll = refl
scroll_kept Composes o scroll = refl
scroll_kept (Shares flex tight) o scroll = refl
scroll_kept (Places placed) o scroll = refl
scroll_kept Line o scroll = refl
scroll_kept Pile o scroll = refl
scroll_kept Lazy o scroll = refl
scroll_kept Plain o scroll = refl

renders_map : (f : ℕ → Option ℕ) (rs : List Render) → renders_of (map (render_scrolled_by f) rs) ≡ renders_scrolled_by f (renders_of rs)
renders_map f [] = refl
renders_map f (r ∷ rs) = ap (λ qs. more_renders (render_scrolled_by f r) qs) (renders_map f rs)

one_node : (f : ℕ → Option ℕ) (gone : Bool) (r q : Render) (through other : List Render) → q ≡ render_scrolled_by f r → other ≡ map (render_scrolled_by f) through
    → (if gone then other else (q ∷ [])) ≡ map (render_scrolled_by f) (if gone then through else (r ∷ []))
one_node f true r q through other e g = g
one_node f false r q through other e g = ap (λ x. x ∷ []) e

mutual
  unfolding projected

  same_projection : (f : ℕ → Option ℕ) (above : RenderRole) (told : Option ParentData) (n : PlainNode)
      → projected above told (scrolled_by f n) ≡ map (render_scrolled_by f) (projected above told n)
  same_projection f above told (node number w fields scroll index ns) =
      let role = render_role_of (look_of w) in
      let d = told_at above told index in
      let count = lazy_count role (child_widgets w) in
      one_node f (vanishes role)
      (render number (look_of w) d (scroll_in role scroll) count (renders_of (projected_all role None ns)))
      (render number (look_of w) d (scroll_in role (rescrolled role (f number) scroll)) count (renders_of (projected_all role None (all_scrolled_by f ns))))
      (projected_all above (Some (told_by above role d)) ns)
      (projected_all above (Some (told_by above role d)) (all_scrolled_by f ns))
      (ap (λ o. render number (look_of w) d o count (renders_of (projected_all role None (all_scrolled_by f ns)))) (scroll_kept role (f number) scroll)
      ∙ ap (λ qs. render number (look_of w) d (rescrolled role (f number) (scroll_in role scroll)) count qs)
      (ap renders_of (same_projections f role None ns) ∙ renders_map f (projected_all role None ns)))
      (same_projections f above (Some (told_by above role d)) ns)

  same_projections : (f : ℕ → Option ℕ) (above : RenderRole) (told : Option ParentData) (ns : PlainNodes)
      → projected_all above told (all_scrolled_by f ns) ≡ map (render_scrolled_by f) (projected_all above told ns)
  same_projections f above told no_nodes = refl
  same_projections f above told (more_nodes n ns) =
      (λ at. same_projection f above told n at ++ same_projections f above told ns at)
      ∙ sym (map-append (render_scrolled_by f) (projected above told n) (projected_all above told ns))

pub projection_scrolled : (f : ℕ → Option ℕ) (n : PlainNode) → render_of (scrolled_by f n) ≡ map (render_scrolled_by f) (render_of n)
projection_scrolled f n = same_projection f Plain None n

-- ---- trees of widgets

pub tree_again : ((n : PlainNode) → AllDiffer (numbers_of n) → AllDiffer (render_numbers_in (renders_of (render_of n))))
    → (s : Setting) (n : PlainNode) (r : Render) (view : Size) → AllDiffer (numbers_of n) → render_of n ≡ r ∷ []
    → map (λ (q : Render). lay_view s q view) (render_of (corrected (lay_view s r view) n)) ≡ lay_view s r view ∷ []
tree_again apart s n r view d one =
    let l = lay_view s r view in
    let differ : AllDiffer (render_numbers_of r) =
    differ_left (render_numbers_of r) [] (subst (λ rs. AllDiffer (render_numbers_in (renders_of rs))) one (apart n d)) in
    ap (map (λ (q : Render). lay_view s q view)) (projection_scrolled (λ number. offset_at number l) n ∙ ap (map (corrected_render l)) one)
    ∙ ap (λ x. x ∷ []) (box_again s r _ differ)
