-- A tree that has one node alone is good, and the node can be laid out.
use Rattle.std.proofs.Common.{◌≡◌, ℕ, true, false, [], Option, None, IsSome, refl, sym, ap, ◌∙◌, subst, arith}
use Rattle.std.proofs.lemmas.Bool.{false≢true}
use Rattle.std.proofs.lemmas.List.Elements.{All-nil}
use Rattle.fx_geom.specs.declared.boxes.Bounds.{Bounds}
use Rattle.fx_handles.specs.declared.Handle.{Handle}
use Rattle.node_tree.specs.Forest.{Forest, Stands}
use Rattle.node_tree.specs.Forest.Forest.{none, tree}
use Rattle.node_tree.specs.Tree.{Tree, Is, IsNode, StandsAt, node_at, parent_of, subtree_at}
use Rattle.node_tree.proofs.TreeLemmas.{is_node, subtree_is}
use Rattle.widget_model.specs.Plain.{PlainWidget, look_of}
use Rattle.layout_form.specs.declared.asks.Ask.TheVariants.{AsBox}
use Rattle.layout_form.specs.Fits.{FitsLayout, IsTold, Fits, CanBeLaidOut}
use Rattle.layout_form.specs.Object.{Setting}
use Rattle.render_tree.specs.Edits.{Inserted, new_object}
use Rattle.render_tree.specs.Object.{RenderObject, object_look}
use Rattle.render_tree.specs.Plain.{root_below, root_tree}
use Rattle.layout_walk.specs.Rule.{LayoutParts}
use Rattle.layout_walk.specs.Rules.{parts_of}
use Rattle.layout_walk.specs.Here.{Here}
use Rattle.layout_rules.specs.declared.duties.Duty.TheVariants as duty
use Rattle.layout_rules.specs.Nodes.{SeenAt, layout_node, layout_nodes}
use Rattle.layout_rules.specs.Places.{first_render, render_at}
use Rattle.layout_rules.specs.Serving.{IsReadyFor}
use Rattle.layout_owner.specs.Roots.{Good}
use Rattle.worked_calls.specs.Lone.{IsLone}

pub lone_made : (old mid new : Tree RenderObject) (h : Handle) (n : ℕ) (w : PlainWidget) → Is old none → Inserted old mid None 0 h (new_object n w) → new ≡ mid
    → FitsLayout (look_of w) → IsLone new h
lone_made old mid new h n w is made same fits = subst (λ (t : Tree RenderObject). IsLone t h) (sym same) (record {
  object = new_object n w;
  is = made.plain none is;
  root = made.root;
  flag = refl;
  below = refl;
  fits = fits;
})

module _ (t : Tree RenderObject) (h : Handle) (lone : IsLone t h) where
  pub lone_live : IsNode t h
  lone_live = is_node (node_at t h) _ lone.is.stands.0

  pub lone_stands : StandsAt t h (tree h lone.object none none)
  lone_stands = record {
    top = refl;
    stands = subst (λ (p : Option Handle). Stands (node_at t) p (tree h lone.object none none)) (sym (ap parent_of lone.is.stands.0)) lone.is.stands;
    distinct = lone.is.distinct;
  }

  subtree : subtree_at t h ≡ tree h lone.object none none
  subtree = subtree_is t h (tree h lone.object none none) lone_stands

  fits_alone : Fits (object_look lone.object) []
  fits_alone = record { members = lone.fits; told = All-nil IsTold; few = omega arith }

  pub lone_fits : CanBeLaidOut (render_at t h)
  lone_fits = subst (λ (f : Forest RenderObject). CanBeLaidOut (first_render f)) (sym subtree) (fits_alone, tt)

  here : (P : LayoutParts) → Here P (layout_node lone.object) none
  here P = record {
    consistent = λ e. absurd (false≢true (sym e ∙ lone.flag));
    closed = λ e. absurd (false≢true (sym e ∙ lone.flag));
    marked = λ e. tt;
  }

  pub lone_ready : (P : LayoutParts) (b : Bounds) → SeenAt t h (layout_nodes (tree h lone.object none none)) → IsReadyFor P t h (duty.Lay (AsBox b))
  lone_ready P b seen = record {
    value = layout_node lone.object;
    kids = none;
    good = record { stands = seen; here = here P; all = tt; fits = (fits_alone, tt) };
    may = tt;
  }

  pub lone_root : IsSome t.root
  lone_root = subst IsSome (sym lone.root) refl

  pub lone_good : (s : Setting) → Good s (root_tree t)
  lone_good s = subst (Good s) (sym (ap (root_below t) lone.root ∙ subtree)) (record { here = (here (parts_of s), tt, tt); fits = ((fits_alone, tt), tt) })
