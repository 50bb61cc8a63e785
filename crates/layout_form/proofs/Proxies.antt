-- Which kinds are proxies, and what a proxy passes on.
use Rattle.std.proofs.Common.{refl, sym, subst, ℕ}
use Rattle.fx_geom.specs.declared.boxes.Bounds.{Bounds}
use Rattle.widget_model.specs.Look.{Look}
use Rattle.plain_tree.specs.declared.render.ParentData.{ParentData}
use Rattle.plain_tree.specs.Render.{Render, render, Renders, no_renders, more_renders}
use Rattle.layout_form.specs.Object.{Setting, Done, facts_of, stood_in, only_of}
use Rattle.layout_form.specs.Single.{single, proxy}
use Rattle.layout_form.specs.Layout.{object, objects, laid_box}
use Rattle.layout_form.specs.Laws.{IsBoxIn, AllBoxesIn, IsProxy, Proxies}

pub proxies : (s : Setting) → Proxies s
proxies s = record {
  colored_box = λ color o b cs. refl;
  opacity = λ alpha o b cs. refl;
  clip_rect = λ o b cs. refl;
  repaint_boundary = λ o b cs. refl;
  ignore_pointer = λ ignoring o b cs. refl;
  absorb_pointer = λ absorbing o b cs. refl;
  detector = λ behavior tap long vertical horizontal pan o b cs. refl;
  semantics = λ label button container o b cs. refl;
  merge_semantics = λ o b cs. refl;
  exclude_semantics = λ excluding o b cs. refl;
  onstage = λ o b cs. refl;
}

pub box_framed : (s : Setting) (r : Render) (b : Bounds) → IsBoxIn b (facts_of ((object s r).in_bounds b)).frame
unfolding object
box_framed s (render n l d o c rs) b = refl

single_below : (s : Setting) (n : ℕ) (l : Look) (b : Bounds) (rs : Renders)
    → AllBoxesIn b (stood_in (laid_box s n l b (single (proxy b) (only_of (objects s rs)))))
unfolding objects
single_below s n l b no_renders = tt
single_below s n l b (more_renders r rs) = (box_framed s r b, tt)

pub proxy_below : (s : Setting) (n : ℕ) (l : Look) (d : ParentData) (o c : ℕ) (rs : Renders) (b : Bounds) → IsProxy s l
    → AllBoxesIn b (stood_in ((object s (render n l d o c rs)).in_bounds b))
unfolding object
proxy_below s n l d o c rs b is =
    subst (λ (done : Done). AllBoxesIn b (stood_in (laid_box s n l b done))) (sym (is o b (objects s rs))) (single_below s n l b rs)
