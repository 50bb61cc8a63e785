-- The live ranges by a tree that was laid out.
use Rattle.std.proofs.Common.{◌≡◌, ℕ, ◌≤◌, ◌^◌, Bool, true, false, if◌then◌else◌, [], ◌∷◌, sym, ap, ◌∙◌, subst, arith}
use Rattle.std.specs.List.{All}
use Rattle.fx_geom.specs.Scale.{standard_scale, fine_scale}
use Rattle.widget_model.specs.Typed.{Declarations}
use Rattle.plain_tree.specs.PlainNode.{PlainNode, count_of}
use Rattle.plain_tree.specs.Projection.{render_of}
use Rattle.plain_tree.specs.Render.{Render}
use Rattle.plain_tree.specs.Laid.{Laid}
use Rattle.layout_form.specs.Fits.{CanBeLaidOut}
use Rattle.layout_form.specs.Layout.{lay_view}
use Rattle.layout_form.specs.Object.{setting_of}
use Rattle.layout_form.specs.Live.{lazy_view_at, live_in}
use Rattle.plain_layout.specs.LiveView.{view_kept}
use Rattle.plain_build.specs.declared.ranges.Ranges.{Ranges}
use Rattle.build_form.specs.FullBuild.{Screen, views_in, live_ranges}
use Rattle.plain_build.specs.RangesView.{ranges_of}
use Rattle.build_form.specs.WellBuilt.{IsWellBuilt}
use Rattle.build_form.proofs.Layable.{can_be_laid_out}

pub top_can_be_laid_out : (d : Declarations) (tree : PlainNode) (top : Render) → IsWellBuilt d tree → count_of tree ≤ 2 ^ 44 → render_of tree ≡ top ∷ [] → CanBeLaidOut top
top_can_be_laid_out d tree top built few one =
    let all : All CanBeLaidOut (top ∷ []) = subst (All CanBeLaidOut) one (can_be_laid_out d tree built few) in
    all 0 top (omega arith)

module _ (screen : Screen) (tree : PlainNode) (top : Render) (one : render_of tree ≡ top ∷ []) where
  module _ (laid : Laid) (r : Ranges) (is : laid ≡ lay_view (setting_of screen.scale screen.delegates) top screen.view)
      (kept : (wanted : ℕ) → view_kept r.views wanted ≡ lazy_view_at wanted laid) (widen : r.widen ≡ screen.scale.widen) where
    view_same : (number : ℕ) → view_kept r.views number ≡ views_in screen (render_of tree) number
    view_same number = kept number ∙ ap (lazy_view_at number) is ∙ sym (ap (λ rs. views_in screen rs number) one)

    range_same : (number extent count : ℕ) → ranges_of r number extent count ≡ live_in (views_in screen (render_of tree) number) extent count screen.scale.widen
    range_same number extent count =
        ap (λ v. live_in v extent count r.widen) (view_same number) ∙ ap (live_in (views_in screen (render_of tree) number) extent count) widen

    pub ranges_same : ranges_of r ≡ live_ranges screen tree
    unfolding live_ranges
    ranges_same = λ at number extent count. range_same number extent count at

few_by : (b : Bool) → (if b then standard_scale else fine_scale).nodes ≤ 2 ^ 44
few_by true = omega arith
few_by false = omega arith

pub few_nodes : (n : ℕ) (b : Bool) → n ≤ (if b then standard_scale else fine_scale).nodes → n ≤ 2 ^ 44
few_nodes n b h = let most = few_by b in omega arith
