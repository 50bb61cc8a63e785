-- What is below a part is lighter than the part.
use Rattle.std.proofs.Common.{◌≡◌, ℕ, zero, suc, ◌+◌, ◌<◌, ◌≤◌, arith, List, [], ◌∷◌, map, length, get_or, take, ◌++◌, ap, sym, refl, ◌∙◌}
use Rattle.std.proofs.lemmas.Grind.{common_steps}
use Rattle.std.proofs.lemmas.List.{map-append, get_or-map, length-map, take_more}
use Rattle.layer_tree.specs.View.{item_of}
use Rattle.layer_tree.specs.declared.layers.Item.{Item}
use Rattle.fx_handles.specs.declared.Handle.{Handle}
use Rattle.layer_tree.specs.LayerItem.{LayerItem, nested, items_of}
use Rattle.kept_layers.specs.GroupPart.{fill}
use Rattle.kept_layers.proofs.Filling.{fill_parts}
use Rattle.paint_owner.specs.PartCode.{part_weight, weight}
use Rattle.paint_owner.specs.Lighter.{weight-parts}
use Rattle.paint_owner.specs.View.{part_of}
use Rattle.paint_owner.specs.declared.parts.PaintPart.{PaintPart}
use Rattle.paint_owner.specs.declared.parts.PaintPart.TheVariants as part
use Rattle.paint_owner.specs.declared.parts.PartLayer.{PartLayer}

pub layer_lighter : (it : PaintPart) (l : PartLayer) → it ≡ part.Layer l → part_weight (part_of it) ≡ 1 + weight l.parts
layer_lighter it l is = ap (λ x. part_weight (part_of x)) is ∙ ap (λ n. 1 + n) (weight-parts l.parts)

pub part_lighter : (xs : List PaintPart) (i : ℕ) (x : PaintPart) → i < length xs → x ≡ get_or xs i x → part_weight (part_of x) ≤ weight (map part_of xs)
part_lighter [] i x less e = absurd (let none : length {A = PaintPart} [] ≡ 0 = refl in omega arith)
part_lighter (y ∷ xs) zero x less e = let same : part_weight (part_of x) ≡ part_weight (part_of y) = ap (λ z. part_weight (part_of z)) e in omega arith
part_lighter (y ∷ xs) (suc i) x less e =
    let more : length (y ∷ xs) ≡ length xs + 1 = grind (arith, common_steps) in
    let rest = part_lighter xs i x (omega arith) e in omega arith

-- a layer whose parts are filled
pub layer_is : (it : PaintPart) (l : PartLayer) → it ≡ part.Layer l → (w : Handle → List LayerItem) (items : List LayerItem) → items ≡ map (fill w) l.parts
    → nested l.kind (items_of items) ≡ fill w (part_of it)
layer_is it l is w items filled =
    ap (λ es. nested l.kind (items_of es)) filled ∙ ap (λ es. nested l.kind es) (sym (fill_parts w l.parts)) ∙ sym (ap (λ x. fill w (part_of x)) is)

-- one part more
pub more_filled : (w : Handle → List LayerItem) (ps : List PaintPart) (i : ℕ) (p : PaintPart) (xs : List Item) (ys : List Item) (x : Item) → i < length ps → p ≡ get_or ps i p
    → item_of x ≡ fill w (part_of p) → ys ≡ xs ++ x ∷ [] → map item_of xs ≡ map (fill w) (take i (map part_of ps))
    → map item_of ys ≡ map (fill w) (take (i + 1) (map part_of ps))
more_filled w ps i p xs ys x within here is pushed so_far =
    let among : i < length (map part_of ps) = omega (arith, within, length-map ps part_of) in
    let read : get_or (map part_of ps) i (part_of p) ≡ part_of p = get_or-map part_of ps i p (part_of p) within ∙ ap part_of (sym here) in
    ap (map item_of) pushed ∙ map-append item_of xs (x ∷ [])
    ∙ (λ j. so_far j ++ is j ∷ [])
    ∙ sym (λ j. map (fill w) (take i (map part_of ps)) ++ fill w (read j) ∷ [])
    ∙ sym (ap (map (fill w)) (take_more (map part_of ps) i (part_of p) among) ∙ map-append (fill w) (take i (map part_of ps)) (get_or (map part_of ps) i (part_of p) ∷ []))
