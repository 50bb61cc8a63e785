-- How children answer by full layout, and by what is stored.
use Rattle.std.proofs.Common.{◌≡◌, ap, refl, suc, List, [], ◌∷◌, length}
use Rattle.node_tree.specs.Forest.{Forest}
use Rattle.node_tree.specs.Forest.Forest.{none, tree}
use Rattle.plain_tree.specs.declared.laid.Frame.{Frame}
use Rattle.layout_form.specs.declared.asks.Ask.{Ask}
use Rattle.layout_walk.specs.Node.{LayoutNode, member, members, tellings, stored}
use Rattle.layout_walk.specs.Rule.{LayoutParts, AreSteady, AreObjects, Lawful}
use Rattle.layout_walk.specs.Full.{objects}

pub stored_steady : (f : Forest LayoutNode) → AreSteady (stored f)
stored_steady none = tt
stored_steady (tree h v kids rest) = ((λ b w axis cross. refl), stored_steady rest)

pub objects_steady : (gs : List (Ask → Frame)) → AreObjects gs → AreSteady gs
objects_steady [] are = tt
objects_steady (g ∷ gs) are = (are.0.steady, objects_steady gs are.1)

pub objects_are : (P : LayoutParts) → Lawful P → (f : Forest LayoutNode) → AreObjects (objects P f)
unfolding objects
objects_are P law none = tt
objects_are P law (tree h v kids rest) =
    (law.object (member v) v.scroll (λ ask. P.liked v.look ask (members kids)) (tellings kids) (objects P kids) (objects_are P law kids), objects_are P law rest)

pub length-objects : (P : LayoutParts) (f : Forest LayoutNode) → length (stored f) ≡ length (objects P f)
unfolding objects
length-objects P none = refl
length-objects P (tree h v kids rest) = ap suc (length-objects P rest)
