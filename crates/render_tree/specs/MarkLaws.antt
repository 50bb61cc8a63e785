-- The marks of render nodes are marks, for proofs.
use Rattle.std.specs.Prelude.{◌≡◌, Bool, true, false, ◌||◌, refl}
use Rattle.std.proofs.Common.{ap, ◌∙◌}
use Rattle.tree_marks.specs.Marking.{IsMarking}
use Rattle.render_tree.specs.Object.{RenderObject}
use Rattle.render_tree.specs.Marks.{layout_marks, paint_marks}

or-none : (b : Bool) → (b || false) ≡ b
or-none true = refl
or-none false = refl

or-or : (a b c : Bool) → ((a || b) || c) ≡ (a || (b || c))
or-or true b c = refl
or-or false b c = refl

pub layout_lawful : IsMarking layout_marks
layout_lawful = record {
  flag = λ f b v. refl;
  below = λ f b v. refl;
  twice = λ f b g c v.
      let set : Bool → Bool → RenderObject = λ x y. record v { needs_layout = x; layout_below = y } in
      ap (λ x. set x ((v.layout_below || c) || b)) (or-or v.needs_layout g f) ∙ ap (λ y. set (v.needs_layout || (g || f)) y) (or-or v.layout_below c b);
  nothing = λ v.
      let set : Bool → Bool → RenderObject = λ x y. record v { needs_layout = x; layout_below = y } in
      ap (λ x. set x (v.layout_below || false)) (or-none v.needs_layout) ∙ ap (λ y. set v.needs_layout y) (or-none v.layout_below);
  ends = λ top hidden f b v. refl;
  hides = λ f b v. refl;
  asks = λ f b v. refl;
  takes = λ top f b v. refl;
}

pub paint_lawful : IsMarking paint_marks
paint_lawful = record {
  flag = λ f b v. refl;
  below = λ f b v. refl;
  twice = λ f b g c v.
      let set : Bool → Bool → RenderObject = λ x y. record v { needs_paint = x; paint_below = y } in
      ap (λ x. set x ((v.paint_below || c) || b)) (or-or v.needs_paint g f) ∙ ap (λ y. set (v.needs_paint || (g || f)) y) (or-or v.paint_below c b);
  nothing = λ v.
      let set : Bool → Bool → RenderObject = λ x y. record v { needs_paint = x; paint_below = y } in
      ap (λ x. set x (v.paint_below || false)) (or-none v.needs_paint) ∙ ap (λ y. set v.needs_paint y) (or-none v.paint_below);
  ends = λ top hidden f b v. refl;
  hides = λ f b v. refl;
  asks = λ f b v. refl;
  takes = λ top f b v. refl;
}
