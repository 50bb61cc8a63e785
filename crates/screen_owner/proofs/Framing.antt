-- A frame, from what was brought into the tree to what is shown.
use Rattle.std.proofs.Common.{◌≡◌, ap, sym, subst, ◌∙◌, refl, ℕ, Option, Some, option_map, List, [], ◌∷◌, ◌++◌}
use Rattle.fx_geom.specs.declared.scales.Scale.{Scale}
use Rattle.fx_geom.specs.declared.shapes.Size.{Size}
use Rattle.delegates.specs.Table.{Plug}
use Rattle.node_tree.specs.Forest.{Forest}
use Rattle.node_tree.specs.Tree.{Tree, IsTree}
use Rattle.plain_tree.specs.Laid.{Laid}
use Rattle.plain_tree.specs.Laws.{render_numbers_of, render_numbers_in, AllDiffer}
use Rattle.plain_tree.specs.Offsets.{offset_at}
use Rattle.plain_tree.specs.Render.{Render, Renders, no_renders, more_renders}
use Rattle.layout_form.specs.Corrected.{corrected_render, renders_scrolled_by}
use Rattle.layout_form.specs.Fits.{CanBeLaidOut, CanAllBeLaidOut}
use Rattle.layout_form.specs.Layout.{lay_view}
use Rattle.layout_form.specs.Object.{setting_of}
use Rattle.layout_walk.specs.Here.{HereAll}
use Rattle.layout_walk.specs.Rules.{parts_of}
use Rattle.layout_rules.specs.Nodes.{layout_nodes}
use Rattle.layout_owner.specs.Roots.{Good, top_render}
use Rattle.render_tree.specs.Object.{RenderObject}
use Rattle.render_tree.specs.Plain.{renders_of, root_tree}
use Rattle.kept_layouts.specs.Here.{KeepsLayouts}
use Rattle.screen_owner.proofs.Showing.{root_forest}

-- what was brought can be laid out
pub good_brought : (delegates : List Plug) (scale then : Scale) → then ≡ scale → (t : Tree RenderObject) (top : Render) → t.inactive ≡ [] → IsTree t
    → renders_of (root_tree t) ≡ more_renders top no_renders → CanBeLaidOut top → KeepsLayouts (setting_of scale delegates) t → Good (setting_of then delegates) (root_tree t)
good_brought delegates scale then same t top alone is renders fits keeps = record {
  here = subst (λ (x : Scale). HereAll (parts_of (setting_of x delegates)) (layout_nodes (root_tree t))) (sym same)
      (subst (λ (f : Forest RenderObject). HereAll (parts_of (setting_of scale delegates)) (layout_nodes f)) (sym (root_forest t is.0 alone is.1)) (keeps is.0 is.1));
  fits = subst CanAllBeLaidOut (sym renders) (fits, tt);
}

-- what is shown then
pub shown_of : (delegates : List Plug) (scale then : Scale) → then ≡ scale → (view : Size) (top : Render) (rs : Renders) → rs ≡ more_renders top no_renders
    → (x : Option Laid) → x ≡ option_map (λ (r : Render). lay_view (setting_of then delegates) r view) (top_render rs)
    → x ≡ Some (lay_view (setting_of scale delegates) top view)
shown_of delegates scale then same view top rs renders x is =
    is ∙ (ap (λ (s : Scale). option_map (λ (r : Render). lay_view (setting_of s delegates) r view) (top_render rs)) same
    ∙ ap (λ (ys : Renders). option_map (λ (r : Render). lay_view (setting_of scale delegates) r view) (top_render ys)) renders)

-- where Viewports stand then
nothing_more : (ns : List ℕ) → ns ++ [] ≡ ns
nothing_more [] = refl
nothing_more (n ∷ ns) = ap (λ (ms : List ℕ). n ∷ ms) (nothing_more ns)

pub one_differs : (top : Render) (rs : Renders) → rs ≡ more_renders top no_renders → AllDiffer (render_numbers_of top) → AllDiffer (render_numbers_in rs)
one_differs top rs renders differ =
    subst (λ (ys : Renders). AllDiffer (render_numbers_in ys)) (sym renders) (subst AllDiffer (sym (nothing_more (render_numbers_of top))) differ)

pub corrected_top : (top : Render) (rs now : Renders) (l : Laid) → rs ≡ more_renders top no_renders → now ≡ renders_scrolled_by (λ n. offset_at n l) rs
    → now ≡ more_renders (corrected_render l top) no_renders
corrected_top top rs now l renders is = is ∙ ap (renders_scrolled_by (λ n. offset_at n l)) renders
