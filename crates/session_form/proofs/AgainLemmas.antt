-- A tree with the offsets that its layout corrected is laid out as before.
use Rattle.std.proofs.Common.{◌≡◌, refl, sym, ap, ◌∙◌, ℕ, Option, Some, IfSome, List, [], ◌∷◌, ◌++◌, map}
use Rattle.fx_geom.specs.declared.boxes.Bounds.{Bounds}
use Rattle.fx_geom.specs.declared.shapes.Size.{Size}
use Rattle.fx_geom.specs.Bounds.{tight}
use Rattle.widget_model.specs.Plain.{PlainWidget}
use Rattle.plain_tree.specs.At.{numbers_of}
use Rattle.plain_tree.specs.Laid.{Laid}
use Rattle.plain_tree.specs.Laws.{render_numbers_of, render_numbers_in, DiffersFrom, AllDiffer}
use Rattle.plain_tree.specs.Offsets.{offset_at, scrolled_by, corrected}
use Rattle.plain_tree.specs.PlainNode.{PlainNode}
use Rattle.plain_tree.specs.Projection.{render_of}
use Rattle.plain_tree.specs.Render.{Render, renders_of}
use Rattle.layout_form.specs.Object.{Setting, setting_of}
use Rattle.layout_form.specs.Layout.{object, lay_view}
use Rattle.layout_form.specs.Corrected.{render_scrolled_by, corrected_render}
use Rattle.build_form.specs.Entering.{Blueprint}
use Rattle.build_form.specs.FullBuild.{Screen, built, full_build}
use Rattle.build_form.specs.Numbered.{IsNumbered}
use Rattle.build_form.specs.Program.{blueprint_of}
use Rattle.session_form.specs.Framing.{screen_of, built_of, top_of, laid_of, shown_of, framed}
use Rattle.session_form.specs.State.{SessionState}

differ_from_front : (x : ℕ) (xs ys : List ℕ) → DiffersFrom x (xs ++ ys) → DiffersFrom x xs
differ_from_front x [] ys d = tt
differ_from_front x (y ∷ xs) ys d = (d.0, differ_from_front x xs ys d.1)

differ_in_front : (xs ys : List ℕ) → AllDiffer (xs ++ ys) → AllDiffer xs
differ_in_front [] ys d = tt
differ_in_front (x ∷ xs) ys d = (differ_from_front x xs ys d.0, differ_in_front xs ys d.1)

-- what the laws of layout say
abbrev pub BoxesStay : Type 0
BoxesStay = (s : Setting) (r : Render) (b : Bounds) → AllDiffer (render_numbers_of r)
    → (object s (corrected_render ((object s r).in_bounds b) r)).in_bounds b ≡ (object s r).in_bounds b

abbrev pub ProjectionsTake : Type 0
ProjectionsTake = (offset : ℕ → Option ℕ) (n : PlainNode) → render_of (scrolled_by offset n) ≡ map (render_scrolled_by offset) (render_of n)

abbrev pub ProjectionsDiffer : Type 0
ProjectionsDiffer = (n : PlainNode) → AllDiffer (numbers_of n) → AllDiffer (render_numbers_in (renders_of (render_of n)))

-- the first of some render nodes
top_again : BoxesStay → (s : Setting) (view : Size) (rs : List Render) (l : Laid) → AllDiffer (render_numbers_in (renders_of rs)) → l ≡ lay_view s (top_of rs) view
    → lay_view s (top_of (map (corrected_render l) rs)) view ≡ l
top_again stay s view [] l d is = sym is
top_again stay s view (r ∷ rs) l d is =
    ap (λ (x : Laid). lay_view s (corrected_render x r) view) is
    ∙ stay s r (tight view) (differ_in_front (render_numbers_of r) (render_numbers_in (renders_of rs)) d)
    ∙ sym is

pub laid_again : BoxesStay → ProjectionsTake → ProjectionsDiffer → (screen : Screen) (tree : PlainNode) → AllDiffer (numbers_of tree)
    → laid_of screen (corrected (laid_of screen tree) tree) ≡ laid_of screen tree
unfolding laid_of
laid_again stay take differ screen tree d =
    let s = setting_of screen.scale screen.delegates in
    let l = lay_view s (top_of (render_of tree)) screen.view in
    ap (λ rs. lay_view s (top_of rs) screen.view) (take (λ number. offset_at number l) tree)
    ∙ top_again stay s screen.view (render_of tree) l (differ tree d) refl

pub framed_again : BoxesStay → ProjectionsTake → ProjectionsDiffer
    → ((b : Blueprint) (screen : Screen) (old : Option PlainNode) (next after : ℕ) (root : PlainWidget) (tree : PlainNode)
    → IfSome old (IsNumbered next) → full_build b screen old next root ≡ built tree after → IsNumbered after tree)
    → (s : SessionState) (tree : PlainNode) (next : ℕ) → IfSome s.tree (IsNumbered s.next) → built_of s ≡ built tree next
    → IfSome (framed s tree next).tree (λ t. (framed s tree next).shown ≡ Some (shown_of (screen_of (framed s tree next)) t))
framed_again stay take differ numbers s tree next numbered made =
    let tree_numbered : IsNumbered next tree = numbers (blueprint_of s.program) (screen_of s) s.tree s.next next s.root tree numbered made in
    ap (λ (l : Laid). Some (record { laid = l; delegates = s.delegates })) (sym (laid_again stay take differ (screen_of s) tree tree_numbered.differ))
