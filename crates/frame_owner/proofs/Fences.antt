-- Render nodes of a build are RepaintBoundaries exactly where those of the last frame with their numbers are.
use Rattle.std.proofs.Common.{◌≡◌, ℕ, Option, Some, None, List, length, refl, sym, subst, inl, inr}
use Rattle.fx_handles.specs.declared.Handle.{Handle}
use Rattle.node_tree.specs.Tree.{Tree}
use Rattle.widget_model.specs.Look.{Look}
use Rattle.work_roles.specs.WorkRole.{is_repaint_boundary}
use Rattle.plain_tree.specs.declared.role.RenderRole.TheVariants.{Plain}
use Rattle.plain_tree.specs.PlainNode.{PlainNode}
use Rattle.plain_tree.specs.Projection.{render_of}
use Rattle.plain_tree.specs.Render.{Render, render, Renders, no_renders, more_renders, renders_of as renders_listed}
use Rattle.program_check.specs.Checked.{PlainChecked}
use Rattle.build_form.specs.KeptStates.{HadOrIsNew, EachIs}
use Rattle.build_form.specs.Program.{blueprint_of}
use Rattle.element_tree.specs.Element.{Element}
use Rattle.global_keys.specs.Holders.{Registry}
use Rattle.render_tree.specs.Object.{RenderObject, object_look}
use Rattle.render_tree.specs.Tree.{object_at}
use Rattle.kept_layers.specs.Group.{is_boundary}
use Rattle.screen_owner.specs.Changes.{AreKindsSo, AllKindsSo}
use Rattle.build_owner.specs.Standing.{StandsFor, next_at}
use Rattle.work_sets.specs.Work.{render_root}
use Rattle.frame_owner.proofs.Alike.{OneHas, are_of, fences_on}
use Rattle.frame_owner.proofs.Looks.{NodeHas, RenderHas, RendersHave, from_one}
use Rattle.frame_owner.proofs.Shown.{one_of}

module _ (c : PlainChecked) (marks : List ℕ) (old : Option PlainNode) (scrolled : ℕ → ℕ) (t : Tree Element) (r : Tree RenderObject) (g : Registry) (h : StandsFor c marks old scrolled t r g)
    (tree : PlainNode) (states : EachIs (HadOrIsNew (blueprint_of c) old (next_at t)) tree) where
  fence : (number : ℕ) (look : Look) → NodeHas number look tree → (k : Handle) (o : RenderObject) → object_at r k ≡ Some o → o.number ≡ number → is_repaint_boundary look ≡ is_boundary o
  fence number look here k o at same_number =
      fences_on (blueprint_of c) (next_at t) old tree h.elements.numbered states number (object_look o) look
      (subst (λ w. OneHas old w (object_look o)) same_number (are_of old r h.renders.objects h.renders.is h.renders.projected k o at)) here

  mutual
    kinds_one : (x : Render) → ((w : ℕ) (l : Look) → RenderHas w l x → NodeHas w l tree) → AreKindsSo r x
    kinds_one (render number look told scroll count children) inside =
        ((λ k o at same_number. fence number look (inside number look (inl (refl, refl))) k o at same_number), kinds_all children (λ w l below. inside w l (inr below)))

    kinds_all : (xs : Renders) → ((w : ℕ) (l : Look) → RendersHave w l xs → NodeHas w l tree) → AllKindsSo r xs
    kinds_all no_renders inside = tt
    kinds_all (more_renders x xs) inside = (kinds_one x (λ w l here. inside w l (inl here)), kinds_all xs (λ w l later. inside w l (inr later)))

  pub kinds_so : length (render_of tree) ≡ 1 → AreKindsSo r (render_root tree)
  kinds_so one =
      kinds_one (render_root tree) (λ w l here. from_one w l Plain None tree (subst (λ xs. RendersHave w l (renders_listed xs)) (sym (one_of (render_of tree) one)) (inl here)))
