-- Children that come into another order, worked by hand.
use Rattle.std.specs.Prelude.{ℕ, if◌then◌else◌, Some, None, List, [], ◌∷◌}
use Rattle.std.proofs.Common.{◌≡◌, refl}
use Rattle.fx_handles.specs.declared.Handle.{Handle}
use Rattle.fx_handles.specs.Handle.{same}
use Rattle.node_tree.specs.Forest.{Forest, reordered}
use Rattle.node_tree.specs.Forest.Forest.{none, tree}
use Rattle.widget_model.specs.Plain.{PlainWidget}
use Rattle.renewed_builds.specs.Renewing.{Change}
use Rattle.renewed_builds.specs.Taking.{handles_at}
use Rattle.frame_owner.specs.Redrawing.{order_at, places_after}

abbrev at : ℕ → Handle
at i = record { index = i; generation = 0 }

abbrev three : List Handle
three = at 1 ∷ at 2 ∷ at 3 ∷ []

abbrev turned : List ℕ
turned = 2 ∷ 0 ∷ 1 ∷ []

pub listed : order_at three (Some turned) ≡ at 3 ∷ at 1 ∷ at 2 ∷ []
listed = refl

pub kept : order_at three None ≡ three
kept = refl

module _ (w : PlainWidget) where
  abbrev changes : List Change
  changes = record { element = at 10; at = at 0; widget = w; order = Some turned } ∷ record { element = at 20; at = at 5; widget = w; order = None } ∷ []

  pub told : places_after changes (at 0) ≡ Some turned
  unfolding same
  told = refl

  pub in_place : places_after changes (at 5) ≡ None
  unfolding same
  in_place = refl

  pub untold : places_after changes (at 3) ≡ None
  unfolding same
  untold = refl

-- each child comes with all that is below it, and other children stay
abbrev forest : Forest ℕ
forest = tree (at 0) 7 (tree (at 1) 4 none (tree (at 2) 5 (tree (at 4) 9 none none) (tree (at 3) 6 none none))) (tree (at 5) 8 (tree (at 6) 1 none (tree (at 7) 2 none none)) none)

pub moved : reordered (λ h. if same h (at 0) then Some (handles_at three turned) else None) forest
    ≡ tree (at 0) 7 (tree (at 3) 6 none (tree (at 1) 4 none (tree (at 2) 5 (tree (at 4) 9 none none) none))) (tree (at 5) 8 (tree (at 6) 1 none (tree (at 7) 2 none none)) none)
unfolding same
moved = refl
