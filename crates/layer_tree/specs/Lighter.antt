-- The lists of nested layers are lighter than the list that they stand in.
use Rattle.std.specs.Prelude.{◌≡◌, ℕ, ◌+◌, ◌≤◌, max, List, [], ◌∷◌, map}
use Rattle.std.proofs.Common.{arith, ap, refl}
use Rattle.layer_tree.specs.LayerItem.{LayerItem, items_of}
use Rattle.layer_tree.specs.LayerItemCode.{weight, item_weight, items_weight}
use Rattle.layer_tree.specs.View.{item_of}
use Rattle.layer_tree.specs.declared.layers.Item.{Item}
use Rattle.layer_tree.specs.declared.layers.Item.TheVariants as item
use Rattle.layer_tree.specs.declared.layers.ItemList.TheDeep.{deep-Item, deep-Layer}
use denote.Param.Weighed.{most}

pub weight-items : (es : List LayerItem) → items_weight (items_of es) ≡ weight es
weight-items [] = refl
weight-items (e ∷ es) = ap (λ n. item_weight e + n) (weight-items es)

one_more : (n : ℕ) → max (n + 1) 0 ≤ 1 + n
one_more n = omega arith

pub lighter : (xs : List Item) → max (most deep-Item xs) 0 ≤ weight (map item_of xs)
lighter [] = omega arith
lighter (item.Record r ∷ xs) = let rest = lighter xs in omega arith
lighter (item.Layer l ∷ xs) = let rest = lighter xs in let own : deep-Layer l ≤ 1 + weight l.items = one_more (weight l.items) in omega (arith, rest, own, weight-items l.items)
