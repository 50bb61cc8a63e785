-- An element and a render node that were made are those of a widget.
use Rattle.std.proofs.Common.{◌≡◌, ℕ, ◌+◌, true, false, List, Bor, Option, Some, None, IfSome, option_copied, refl, sym, ◌∙◌, subst}
use Rattle.fx_expr.specs.declared.values.Value.{Value}
use Rattle.fx_handles.specs.declared.Handle.{Handle}
use Rattle.node_tree.specs.Tree.{Tree}
use Rattle.widget_model.specs.declared.widgets.Kind.{Kind}
use Rattle.widget_model.specs.Look.{Look, component}
use Rattle.widget_model.specs.Plain.{PlainWidget, look_of}
use Rattle.widget_model.specs.View.{look_in}
use Rattle.plain_tree.specs.declared.render.ParentData.{ParentData}
use Rattle.plain_tree.specs.Projection.{told_at}
use Rattle.plain_tree.specs.RenderRole.{render_role_of, vanishes}
use Rattle.build_form.specs.BuildRole.{composes, build_role_of}
use Rattle.element_tree.specs.Element.{Element, made_count}
use Rattle.global_keys.specs.Holders.{Registry}
use Rattle.render_tree.specs.Edits.{data_or_none, mounted_object}
use Rattle.render_tree.specs.Object.{RenderObject}
use Rattle.versioned_kinds.specs.Lists.{IsNoList}
use Rattle.build_walk.specs.Walked.{WalkPlace}
use Rattle.first_builds.specs.Mounted.{drawn_object}
use Rattle.first_builds.specs.Mounts.{MountsNode, IsNoted, new_element, MountsWidget}
use Rattle.first_builds.specs.SpotView.{role_above}
use Rattle.first_builds.proofs.Opened.{nothing_told}

-- a component has no render node
pub composed_hidden : (look : Look) (place : ℕ) (props : List Value) → build_role_of look ≡ composes place props → vanishes (render_role_of look) ≡ true
composed_hidden (component p v x) place props is = refl
composed_hidden _ place props is = cc

-- what is told is what the definition tells
pub told_so : (kind : Option (Bor Kind)) (told : Option ParentData) (place : ℕ) → IfSome kind (λ (k : Bor Kind). IsNoList (look_in k.now)) → data_or_none told ≡ told_at (role_above (option_copied kind)) told place
told_so kind (Some told) place none = refl
told_so None None place none = refl
told_so (Some k) None place none = sym (nothing_told (look_in k.now) place none)

module _ (fields : List Value) (at : WalkPlace) (w : PlainWidget) (place : ℕ) (t0 t : Tree Element) (g0 g : Registry) (h : Handle) (output : Option PlainWidget) where
  -- without a render node
  pub hidden_mounts : (had : List Value) (kept : Option PlainWidget) → had ≡ fields → kept ≡ output → MountsNode t0 t at.parent h (new_element t0 w place had kept None) → vanishes (render_role_of (look_of w)) ≡ true
      → IsNoted w g0 g t → (r : Tree RenderObject) → MountsWidget fields at w place t0 t r r g0 g h output None
  hidden_mounts had kept same_fields same_output m hidden noted r = record {
    element = subst (λ f. MountsNode t0 t at.parent h (new_element t0 w place f output None)) same_fields (subst (λ o. MountsNode t0 t at.parent h (new_element t0 w place had o None)) same_output m);
    render = refl;
    unseen = λ _. refl;
    seen = λ shown. absurd (let e : true ≡ false = sym hidden ∙ shown in cc);
    noted = noted;
  }

  -- with one
  pub shown_mounts : (had : List Value) (kept : Option PlainWidget) (told : ParentData) (number : ℕ) (r0 r : Tree RenderObject) (k : Handle) → had ≡ fields → kept ≡ output → told ≡ told_at at.role at.told place → number ≡ made_count t0 + 1
      → MountsNode t0 t at.parent h (new_element t0 w place had kept (Some k)) → MountsNode r0 r at.above k (mounted_object number w (Some told)) → vanishes (render_role_of (look_of w)) ≡ false
      → IsNoted w g0 g t → MountsWidget fields at w place t0 t r0 r g0 g h output (Some k)
  shown_mounts had kept told number r0 r k same_fields same_output same_told same_number m d shown noted = record {
    element = subst (λ f. MountsNode t0 t at.parent h (new_element t0 w place f output (Some k))) same_fields (subst (λ o. MountsNode t0 t at.parent h (new_element t0 w place had o (Some k))) same_output m);
    render = subst (λ (p : ParentData). MountsNode r0 r at.above k (drawn_object (new_element t0 w place fields output (Some k)) p)) same_told (subst (λ n. MountsNode r0 r at.above k (mounted_object n w (Some told))) same_number d);
    unseen = λ hidden. absurd (let e : true ≡ false = sym hidden ∙ shown in cc);
    seen = λ _. refl;
    noted = noted;
  }
