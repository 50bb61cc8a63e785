-- The lists of nested layers are lighter than the list that they stand in.
use Rattle.std.specs.Prelude.{◌≡◌, ℕ, ◌+◌, ◌≤◌, max, List, [], ◌∷◌, map}
use Rattle.std.proofs.Common.{arith, ap, refl}
use Rattle.kept_layers.specs.GroupPart.{GroupPart, parts_of}
use Rattle.paint_owner.specs.PartCode.{weight, part_weight, parts_weight}
use Rattle.paint_owner.specs.View.{part_of}
use Rattle.paint_owner.specs.declared.parts.PaintPart.{PaintPart}
use Rattle.paint_owner.specs.declared.parts.PaintPart.TheVariants as part
use Rattle.paint_owner.specs.declared.parts.PartList.TheDeep.{deep-PaintPart, deep-PartLayer}
use denote.Param.Weighed.{most}

pub weight-parts : (es : List GroupPart) → parts_weight (parts_of es) ≡ weight es
weight-parts [] = refl
weight-parts (e ∷ es) = ap (λ n. part_weight e + n) (weight-parts es)

one_more : (n : ℕ) → max (n + 1) 0 ≤ 1 + n
one_more n = omega arith

pub lighter : (xs : List PaintPart) → max (most deep-PaintPart xs) 0 ≤ weight (map part_of xs)
lighter [] = omega arith
lighter (part.Record r ∷ xs) = let rest = lighter xs in omega arith
lighter (part.Layer l ∷ xs) = let rest = lighter xs in let own : deep-PartLayer l ≤ 1 + weight l.parts = one_more (weight l.parts) in omega (arith, rest, own, weight-parts l.parts)
lighter (part.Place h at ∷ xs) = let rest = lighter xs in omega arith
