-- What stands below a layer is lighter than the layer.
use Rattle.std.proofs.Common.{◌≡◌, ℕ, zero, suc, ◌+◌, ◌<◌, ◌≤◌, arith, List, [], ◌∷◌, map, length, get_or, ap, refl, ◌∙◌}
use Rattle.std.proofs.lemmas.Grind.{common_steps}
use Rattle.layer_tree.specs.LayerItemCode.{item_weight, weight}
use Rattle.layer_tree.specs.Lighter.{weight-items}
use Rattle.layer_tree.specs.View.{item_of}
use Rattle.layer_tree.specs.declared.layers.Item.{Item}
use Rattle.layer_tree.specs.declared.layers.Item.TheVariants as item
use Rattle.layer_tree.specs.declared.layers.Layer.{Layer}

pub layer_lighter : (it : Item) (l : Layer) → it ≡ item.Layer l → item_weight (item_of it) ≡ 1 + weight l.items
layer_lighter it l is = ap (λ x. item_weight (item_of x)) is ∙ ap (λ n. 1 + n) (weight-items l.items)

pub item_lighter : (xs : List Item) (i : ℕ) (x : Item) → i < length xs → x ≡ get_or xs i x → item_weight (item_of x) ≤ weight (map item_of xs)
item_lighter [] i x less e = absurd (let none : length {A = Item} [] ≡ 0 = refl in omega arith)
item_lighter (y ∷ xs) zero x less e = let same : item_weight (item_of x) ≡ item_weight (item_of y) = ap (λ z. item_weight (item_of z)) e in omega arith
item_lighter (y ∷ xs) (suc i) x less e =
    let more : length (y ∷ xs) ≡ length xs + 1 = grind (arith, common_steps) in
    let rest = item_lighter xs i x (omega arith) e in omega arith
