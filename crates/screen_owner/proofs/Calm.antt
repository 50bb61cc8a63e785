-- A frame after which nothing has to be laid out, and one after it in which nothing changed.
use Rattle.std.proofs.Common.{◌≡◌, ap, refl, sym, subst, ◌∙◌, Bool, cond, ◌+◌, Option, Some, None, option_map, []}
use Rattle.fx_geom.specs.Bounds.{tight}
use Rattle.fx_geom.specs.declared.boxes.Bounds.{Bounds}
use Rattle.fx_geom.specs.declared.shapes.Size.{Size}
use Rattle.node_tree.specs.Forest.{Forest, size}
use Rattle.node_tree.specs.Forest.Forest.{none, tree}
use Rattle.node_tree.specs.Tree.{Tree, IsTree}
use Rattle.plain_tree.specs.declared.laid.Frame.{Frame}
use Rattle.plain_tree.specs.declared.laid.Frame.TheVariants.{Boxed, Sliver}
use Rattle.plain_tree.specs.Laid.{Laid}
use Rattle.plain_tree.specs.Render.{Render, Renders, no_renders, more_renders}
use Rattle.layout_form.specs.Laws.{IsBoxIn}
use Rattle.layout_form.specs.Layout.{lay_view, object}
use Rattle.layout_form.specs.Object.{Setting, facts_of}
use Rattle.layout_form.specs.declared.asks.Ask.{Ask}
use Rattle.layout_form.specs.declared.asks.Ask.TheVariants.{AsBox}
use Rattle.layout_walk.specs.Node.{LayoutNode, ask_in}
use Rattle.layout_walk.specs.Here.{HereAll}
use Rattle.layout_walk.specs.Rules.{parts_of}
use Rattle.layout_walk.specs.Work.{due_count}
use Rattle.layout_rules.specs.Nodes.{layout_nodes}
use Rattle.layout_owner.specs.Calm.{IsLaidCalm}
use Rattle.layout_owner.specs.Roots.{in_window, rooted, AskedFirst, IsAskedAs, IsPlaced, top_render}
use Rattle.render_tree.specs.Object.{RenderObject}
use Rattle.render_tree.specs.Plain.{frame_or, laid_of, root_tree}
use Rattle.paint_owner.specs.Settled.{Settles, first_settled}
use Rattle.screen_owner.specs.Steps.{IsLaidIn}
use Rattle.screen_owner.proofs.Laying.{first_nodes}
use Rattle.screen_owner.proofs.Showing.{root_forest}

-- what is laid out is read off the nodes as a layout sees them
pub laid_in_same : (view : Size) (old new : Tree RenderObject) → layout_nodes (root_tree new) ≡ layout_nodes (root_tree old) → IsLaidIn view old → IsLaidIn view new
laid_in_same view old new same laid_in = record {
  asked = subst (AskedFirst view) (sym same) laid_in.asked;
  none_due = ap (λ (f : Forest LayoutNode). due_count (in_window f)) same ∙ laid_in.none_due;
}

pub settled_nodes : (old new : Tree RenderObject) → old.inactive ≡ [] → IsTree old → Settles old new → layout_nodes (root_tree new) ≡ layout_nodes (root_tree old)
settled_nodes old new alone is settles =
    ap layout_nodes (root_forest new (first_settled is.0) (settles.inactive ∙ alone) (settles.plain is.0 is.1))
    ∙ (first_nodes is.0 ∙ ap layout_nodes (sym (root_forest old is.0 alone is.1)))

-- a root in the window, at its start, is as a flush puts it there
placed_due : (f : Forest RenderObject) → IsPlaced f → due_count (rooted f) ≡ due_count (layout_nodes f)
placed_due none placed = absurd placed
placed_due (tree h o below rest) placed =
    ap (λ (b : Bool). cond b (cond o.needs_layout (1 + size (layout_nodes below)) (due_count (layout_nodes below))) 0 + due_count (layout_nodes rest)) (sym placed.0)

-- what its frame was asked
frame_asked : (bounds : Bounds) (x : Option Frame) (a : Ask) → option_map ask_in x ≡ Some a → IsBoxIn bounds (frame_or x) → option_map ask_in x ≡ Some (AsBox bounds)
frame_asked bounds None a given box = absurd (cc)
frame_asked bounds (Some (Boxed b s)) a given box = ap (λ (y : Bounds). Some (AsBox y)) box
frame_asked bounds (Some (Sliver b g)) a given box = absurd box

laid_frame : (f : Forest RenderObject) (l : Laid) → laid_of f ≡ Some l → (bounds : Bounds) → IsBoxIn bounds (facts_of l).frame → IsPlaced f → IsLaidCalm f → (s : Setting) → HereAll (parts_of s) (layout_nodes f)
    → (view : Size) → bounds ≡ tight view → IsAskedAs view f
laid_frame none l is bounds box placed calm s here view same = tt
laid_frame (tree h o below rest) l is bounds box placed calm s here view same = λ unflagged.
    let given = here.0.consistent (calm.0 placed.0).0 in
    let frame : frame_or o.frame ≡ (facts_of l).frame = ap (λ (x : Laid). (facts_of x).frame) (one_laid is) in
    frame_asked bounds o.frame given.ask given.asked (subst (IsBoxIn bounds) (sym frame) box) ∙ ap (λ (y : Bounds). Some (AsBox y)) same
  where
    one_laid : {x : Laid} → Some x ≡ Some l → x ≡ l
    one_laid e = cc

-- after a flush
pub flushed_in : (s : Setting) (view : Size) (t : Tree RenderObject) (rs : Renders) → IsPlaced (root_tree t) → IsLaidCalm (root_tree t) → HereAll (parts_of s) (layout_nodes (root_tree t))
    → due_count (layout_nodes (root_tree t)) ≡ 0 → laid_of (root_tree t) ≡ option_map (λ (x : Render). lay_view s x view) (top_render rs)
    → ((r : Render) (b : Bounds) → IsBoxIn b (facts_of ((object s r).in_bounds b)).frame) → IsLaidIn view t
flushed_in s view t no_renders placed calm here due is boxes = absurd (no_laid (root_tree t) placed is)
  where
    no_laid : (f : Forest RenderObject) → IsPlaced f → laid_of f ≡ None → ⊥
    no_laid none placed e = placed
    no_laid (tree h o below rest) placed e = cc
flushed_in s view t (more_renders top rest) placed calm here due is boxes = record {
  asked = laid_frame (root_tree t) (lay_view s top view) is (tight view) (boxes top (tight view)) placed calm s here view refl;
  none_due = placed_due (root_tree t) placed ∙ due;
}
