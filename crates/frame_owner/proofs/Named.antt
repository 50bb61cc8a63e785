-- Render nodes that change nothing of which a tree speaks.
use Rattle.std.proofs.Common.{◌≡◌, ℕ, ap, refl, sym, subst, ◌∙◌, Option, Some, None, List, [], ◌∷◌, ◌++◌}
use Rattle.std.specs.Option.{option_to_list}
use Rattle.std.proofs.lemmas.List.{append-nil}
use Rattle.fx_handles.specs.declared.Handle.{Handle}
use Rattle.node_tree.specs.Tree.{Tree, IsTree}
use Rattle.program_check.specs.Checked.{PlainChecked}
use Rattle.element_tree.specs.Element.{Element}
use Rattle.global_keys.specs.Holders.{Registry}
use Rattle.plain_tree.specs.PlainNode.{PlainNode}
use Rattle.render_tree.specs.Object.{RenderObject}
use Rattle.render_tree.specs.Plain.{renders_of, root_tree}
use Rattle.screen_owner.proofs.Showing.{root_forest}
use Rattle.kept_builds.specs.Projected.{HasProjection}
use Rattle.build_owner.specs.Standing.{StandsFor}

module _ (c : PlainChecked) (marks : List ℕ) (old : Option PlainNode) (scrolled : ℕ → ℕ) (t : Tree Element) (r : Tree RenderObject) (g : Registry) (h : StandsFor c marks old scrolled t r g) where
  pub none_beside : r.inactive ≡ []
  none_beside = by_root r.root refl
    where
      head_tail : (k : Handle) (hs : List Handle) → k ∷ hs ≡ k ∷ [] → hs ≡ []
      head_tail k hs e = cc

      both : option_to_list r.root ++ r.inactive ≡ option_to_list r.root
      both = h.renders.is.tops ∙ sym h.renders.root

      by_root : (o : Option Handle) → r.root ≡ o → r.inactive ≡ []
      by_root None e = subst (λ x. option_to_list x ++ r.inactive ≡ option_to_list x) e both
      by_root (Some k) e = head_tail k r.inactive (subst (λ x. option_to_list x ++ r.inactive ≡ option_to_list x) e both)

  pub unchanged : (new : Tree RenderObject) → new.inactive ≡ [] → IsTree new → renders_of (root_tree new) ≡ renders_of (root_tree r) → HasProjection old new
  unchanged new alone is same = record {
    objects = is.0;
    is = is.1;
    root = sym (append-nil (option_to_list new.root)) ∙ (ap (λ hs. option_to_list new.root ++ hs) (sym alone) ∙ is.1.tops);
    projected = ap renders_of (sym (root_forest new is.0 alone is.1))
        ∙ (same ∙ (ap renders_of (root_forest r h.renders.objects none_beside h.renders.is) ∙ h.renders.projected));
  }
