-- A widget may follow itself.
use Rattle.std.proofs.Common.{◌≡◌, List, [], ◌∷◌, Some, option_map, refl, sym, ap, ◌∙◌, subst}
use Rattle.std.proofs.lemmas.List.Elements.{All-nil, All-cons, All-same}
use Rattle.fx_handles.specs.declared.Handle.{Handle}
use Rattle.widget_model.specs.Plain.{PlainWidget}
use Rattle.node_tree.specs.Tree.{Tree}
use Rattle.node_tree.specs.Plan.{PlanEntry}
use Rattle.element_tree.specs.Element.{Element, element_at}
use Rattle.element_tree.specs.Fields.{CanFollow}
use Rattle.element_tree.specs.Renewal.{Renewal, FollowsAt, FollowsIn}

pub follows : (a b : PlainWidget) → b ≡ a → CanFollow a b
follows a b e = subst (λ (w : PlainWidget). CanFollow a w) (sym e) (record { updates = record { type = refl; key = refl }; fields = refl })

pub widget_is : (t : Tree Element) (h : Handle) (w : PlainWidget) (e : Element) → Some w ≡ option_map (λ (x : Element). x.widget) (element_at t h) → element_at t h ≡ Some e → w ≡ e.widget
widget_is t h w e has at = let both : Some w ≡ Some e.widget = has ∙ ap (option_map (λ (x : Element). x.widget)) at in cc

pub follows_alone : (t : Tree Element) (es : List (PlanEntry Renewal)) (x : PlanEntry Renewal) (h : Handle) (w : PlainWidget) → es ≡ x ∷ [] → x.at ≡ h → x.update.widget ≡ w
    → Some w ≡ option_map (λ (e : Element). e.widget) (element_at t h) → FollowsIn t es
follows_alone t es x h w is at same has =
    All-same (FollowsAt t) es (x ∷ []) is
    (All-cons (FollowsAt t) x [] (λ e there. follows e.widget x.update.widget (same ∙ widget_is t h w e has (sym (ap (element_at t) at) ∙ there))) (All-nil (FollowsAt t)))
