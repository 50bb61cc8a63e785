-- What is hidden isn't painted, so that a tree without it is painted alike.
use Rattle.std.proofs.Common.{◌≡◌, ℕ, Bool, true, false, if◌then◌else◌, List, [], ◌++◌, map, refl, sym, ap, ◌∙◌}
use Rattle.fx_geom.specs.declared.shapes.Offset.{Offset}
use Rattle.fx_geom.specs.declared.shapes.Size.{Size}
use Rattle.fx_geom.specs.Offset.{offset_sum}
use Rattle.layer_tree.specs.LayerItem.{drawn}
use Rattle.delegates.specs.Table.{Plug}
use Rattle.widget_model.specs.Look.{Look}
use Rattle.plain_tree.specs.declared.laid.Facts.{Facts}
use Rattle.plain_tree.specs.declared.laid.Frame.{Frame}
use Rattle.plain_tree.specs.Laid.{Laid, laid, Laids, no_laids, more_laids}
use Rattle.screen_form.specs.declared.paint_role.PaintRole.TheVariants.{Hides}
use Rattle.screen_form.specs.OwnRecords.{own_records}
use Rattle.screen_form.specs.PaintRole.{shown_role, paint_role}
use Rattle.screen_form.specs.Painted.{painted, painted_all, passed_on, has_child}
use Rattle.screen_form.specs.Hidden.{hides_below, without_hidden, all_without_hidden}

same_child : (cs : Laids) → has_child (all_without_hidden cs) ≡ has_child cs
same_child no_laids = refl
same_child (more_laids at l ls) = refl

module _ (cell : Size) (ds : List Plug) where
  pub painted-is : (n : ℕ) (look : Look) (facts : Facts) (cs : Laids) (p : Offset)
      → painted cell ds (laid n look facts cs) p
      ≡ map drawn (own_records cell ds look facts.frame p) ++ passed_on (paint_role look facts.frame (has_child cs) p) p (λ q. painted_all cell ds cs q)
  unfolding painted
  painted-is n look facts cs p = refl

  -- a node that hides what is below it passes nothing on, whatever stands there
  nothing_hidden : (look : Look) (frame : Frame) (cs : Laids) (p : Offset) → hides_below look frame ≡ true
      → passed_on (paint_role look frame (has_child cs) p) p (λ q. painted_all cell ds cs q) ≡ []
  nothing_hidden look frame cs p h =
      ap (λ t. passed_on (if t then Hides else shown_role look frame (has_child cs) p) p (λ q. painted_all cell ds cs q)) h

  by_hiding : (hidden : Bool) (n : ℕ) (look : Look) (facts : Facts) (cs : Laids) (p : Offset) → hides_below look facts.frame ≡ hidden
      → ((q : Offset) → painted_all cell ds (all_without_hidden cs) q ≡ painted_all cell ds cs q)
      → painted cell ds (laid n look facts (if hidden then no_laids else all_without_hidden cs)) p ≡ painted cell ds (laid n look facts cs) p
  by_hiding true n look facts cs p is below =
      painted-is n look facts no_laids p
      ∙ ap (λ l. map drawn (own_records cell ds look facts.frame p) ++ l)
      (nothing_hidden look facts.frame no_laids p is ∙ sym (nothing_hidden look facts.frame cs p is))
      ∙ sym (painted-is n look facts cs p)
  by_hiding false n look facts cs p is below =
      painted-is n look facts (all_without_hidden cs) p
      ∙ (λ i. map drawn (own_records cell ds look facts.frame p) ++ passed_on (paint_role look facts.frame (same_child cs i) p) p (λ q. below q i))
      ∙ sym (painted-is n look facts cs p)

  mutual
    unfolding painted

    pub unread : (l : Laid) (p : Offset) → painted cell ds (without_hidden l) p ≡ painted cell ds l p
    unread (laid n look facts cs) p = by_hiding (hides_below look facts.frame) n look facts cs p refl (unread_all cs)

    unread_all : (ls : Laids) (q : Offset) → painted_all cell ds (all_without_hidden ls) q ≡ painted_all cell ds ls q
    unread_all no_laids q = refl
    unread_all (more_laids at l ls) q = λ i. unread l (offset_sum q at) i ++ unread_all ls q i
