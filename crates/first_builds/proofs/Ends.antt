-- A widget whose key is new was mounted: it is opened as the definition opens it.
use Rattle.std.proofs.Common.{◌≡◌, ℕ, ◌+◌, nat_le, false, List, [], Option, None, IsSome, Result, Ok, Err, IfOk, refl, sym, subst}
use Rattle.std.specs.Result.{OnOk}
use Rattle.fx_expr.specs.declared.values.Value.{Value}
use Rattle.fx_handles.specs.declared.Handle.{Handle}
use Rattle.node_tree.specs.Tree.{Tree}
use Rattle.widget_model.specs.Plain.{PlainWidget, look_of}
use Rattle.widget_model.specs.Plain.{children_of as child_widgets}
use Rattle.build_form.specs.BuildRole.{build_role_of}
use Rattle.build_form.specs.Entering.{Blueprint, first_fields, given_by, apart}
use Rattle.build_form.specs.Step.{Progress, gives}
use Rattle.build_form.proofs.Typing.{other_first}
use Rattle.element_tree.specs.Element.{Element, made_count}
use Rattle.global_keys.specs.Holders.{Registry, recorded}
use Rattle.render_tree.specs.Object.{RenderObject}
use Rattle.build_walk.specs.Past.{Pasts}
use Rattle.build_walk.specs.Walked.{WalkPlace}
use Rattle.first_builds.specs.Inflated.{progress_at, IsUnscrolled, given_of, IsMounted}
use Rattle.first_builds.specs.Mounts.{MountsWidget}
use Rattle.first_builds.proofs.Mounts.{is_mounted, mounts_since}
use Rattle.first_builds.proofs.Noting.{noted_since}
use Rattle.first_builds.proofs.Opened.{IsOther, other_given, other_stores, output_stored, output_apart}

-- ---- what follows from what answers say

pub on_weaker : {A E : Type 0} {P Q : Type 0} (r : Result A E) → (P → Q) → OnOk r P → OnOk r Q
on_weaker (Ok a) f h = f h
on_weaker (Err e) f h = tt

pub if_on : {A E : Type 0} (P : A → Type 0) {Q : Type 0} (r : Result A E) → ((a : A) → P a → Q) → IfOk r P → OnOk r Q
if_on P (Ok a) f h = f a h
if_on P (Err e) f h = tt

-- ---- a widget is opened

module _ (b : Blueprint) (pasts : Pasts) (values : List Value) (scrolled : ℕ → ℕ) (at : WalkPlace) (w : PlainWidget) (place n : ℕ) (t0 t : Tree Element) (r0 r : Tree RenderObject) (was g0 g : Registry)
    (h : Handle) (output : Option PlainWidget) (k : Option Handle) (same : (j : Value) → recorded g0 j ≡ recorded was j) (room : nat_le b.nodes n ≡ false) (unscrolled : IsUnscrolled (made_count t0 + 1) scrolled) where
  since : (fields : List Value) → MountsWidget fields at w place t0 t r0 r g0 g h output k → MountsWidget fields at w place t0 t r0 r was g h output k
  since fields m = mounts_since fields at w place t0 t r0 r was g0 g h output k (noted_since w was g0 g t same m.noted) m

  -- one that isn't a component
  pub other_mounted : MountsWidget [] at w place t0 t r0 r g0 g h output k → IsOther w → output ≡ None → ((s : Progress) → apart (child_widgets w) s ≡ gives (child_widgets w) s)
      → IsMounted b pasts values scrolled at w place (progress_at n was t0) (progress_at (n + 1) g t) t0 t r0 r h output k
  other_mounted m not none apart_so =
      is_mounted [] at w place t0 t r0 r was g h output b pasts values scrolled n k (since [] m) room (other_first b (build_role_of (look_of w)) not) (other_given b values (made_count t0 + 1) [] w output not none)
      (λ s. subst (λ o. apart (given_of w o) s ≡ gives (given_of w o) s) (sym none) (apart_so s)) (other_stores w output not) unscrolled

  -- a component
  pub component_mounted : MountsWidget (first_fields b (build_role_of (look_of w))) at w place t0 t r0 r g0 g h output k → IsSome output
      → ((s : Progress) → given_by b (build_role_of (look_of w)) values (made_count t0 + 1) (first_fields b (build_role_of (look_of w))) w s ≡ gives (given_of w output) s)
      → IsMounted b pasts values scrolled at w place (progress_at n was t0) (progress_at (n + 1) g t) t0 t r0 r h output k
  component_mounted m some given =
      is_mounted (first_fields b (build_role_of (look_of w))) at w place t0 t r0 r was g h output b pasts values scrolled n k (since (first_fields b (build_role_of (look_of w))) m) room refl given
      (output_apart w output some) (λ p props is. output_stored w output some) unscrolled
