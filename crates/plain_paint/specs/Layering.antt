-- No definition of painting, but the shape of programs that paint into one list: where a node makes a layer of its own, what
-- stands before it is set aside, and the list goes on empty until the layer ends.
use Rattle.std.specs.Prelude.{List, [], ◌∷◌, ◌++◌}
use Rattle.layer_tree.specs.LayerItem.{LayerItem, nested, items_of}
use Rattle.screen_form.specs.declared.paint_role.PaintRole.{PaintRole}
use Rattle.screen_form.specs.declared.paint_role.PaintRole.TheVariants.{Hides, Passes, Layers}

-- what is set aside of a list, and what it goes on with
abbrev pub set_aside : PaintRole → List LayerItem → List LayerItem
set_aside Hides before = []
set_aside Passes before = []
set_aside (Layers kind) before = before

abbrev pub begun : PaintRole → List LayerItem → List LayerItem
begun Hides before = before
begun Passes before = before
begun (Layers kind) before = []

-- the list after the layer, if there is one
abbrev pub ended : PaintRole → List LayerItem → List LayerItem → List LayerItem
ended Hides aside inside = inside
ended Passes aside inside = inside
ended (Layers kind) aside inside = aside ++ nested kind (items_of inside) ∷ []
