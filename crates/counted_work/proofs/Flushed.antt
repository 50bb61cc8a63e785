-- Flags once a tree was laid out.
use Rattle.std.proofs.Common.{sym, ◌∙◌}
use Rattle.std.proofs.lemmas.Bool.{true≢false}
use Rattle.node_tree.specs.Forest.{Forest}
use Rattle.node_tree.specs.Forest.Forest.{none, tree}
use Rattle.work_roles.specs.Place.{RegionPlace, at_root, below}
use Rattle.work_sets.specs.Region.{Judge, is_inside, reaches_out}
use Rattle.layout_owner.specs.Calm.{IsLaidCalm}
use Rattle.layout_owner.specs.Roots.{IsPlaced}
use Rattle.render_tree.specs.Object.{RenderObject, object_look}
use Rattle.build_walk.specs.Changing.{render_over}
use Rattle.counted_work.specs.Inside.{FlagsInside, RootFlagsInside}
use Rattle.std.specs.Prelude.{Bool}

calm_inside : (judge : Judge) (above : Bool) (p : RegionPlace) (f : Forest RenderObject) → IsLaidCalm f → FlagsInside judge above p f
calm_inside judge above p none calm = tt
calm_inside judge above p (tree h o kids rest) calm = (
  (λ shown. let here = calm.0 shown in (
    (λ flag. absurd (true≢false (sym flag ∙ here.0))),
    calm_inside judge (is_inside judge above p (render_over o kids)) (below p (object_look o)) kids here.1,
  )),
  calm_inside judge above p rest calm.1,
)

pub laid_inside : (judge : Judge) (f : Forest RenderObject) → IsPlaced f → IsLaidCalm f → RootFlagsInside judge f
laid_inside judge none placed calm = tt
laid_inside judge (tree h o kids rest) placed calm =
    let here = calm.0 placed.0 in (
      (λ flag. absurd (true≢false (sym flag ∙ here.0))),
      calm_inside judge (is_inside judge (reaches_out judge at_root (render_over o kids)) at_root (render_over o kids)) (below at_root (object_look o)) kids here.1,
    )
