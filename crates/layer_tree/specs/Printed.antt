-- The text of a layer: its line, and below it, indented by two spaces more, what stands in it. The records between two
-- layers are one picture.
use Rattle.std.specs.Prelude.{ℕ, ◌*◌, Bool, true, false, if◌then◌else◌, List, [], ◌++◌, codes, replicate}
use Rattle.std.specs.Fmt.{decimal}
use Rattle.draw_records.specs.Printed.{place_text, extent_text, record_text}
use Rattle.layer_tree.specs.declared.kind.LayerKind.{LayerKind}
use Rattle.layer_tree.specs.declared.kind.LayerKind.TheVariants as kind
use Rattle.layer_tree.specs.declared.layers.Layer.{Layer}
use Rattle.layer_tree.specs.LayerItem.{LayerItem, drawn, nested, LayerItems, no_items, more_items, items_of}

-- the line of a layer: `offset X Y`, `opacity X Y ALPHA` or `clip X Y W H`
abbrev pub kind_text : LayerKind → List ℕ
kind_text (kind.Offset at) = codes "offset " ++ (place_text at ++ codes "\n")
kind_text (kind.Opacity at alpha) = codes "opacity " ++ (place_text at ++ (codes " " ++ (decimal alpha ++ codes "\n")))
kind_text (kind.Clip rect) = codes "clip " ++ (place_text rect.at ++ (codes " " ++ (extent_text rect.size ++ codes "\n")))

-- one level more
abbrev pub deeper : List ℕ → List ℕ
deeper indent = indent ++ codes "  "

-- where a picture begins: at a record that no record stands before
abbrev pub picture_start : Bool → List ℕ → List ℕ
picture_start in_picture indent = if in_picture then [] else indent ++ codes "picture\n"

-- what stands in a layer, after a record of it or not
abbrev mutual
  pub item_text : Bool → List ℕ → LayerItem → List ℕ
  item_text in_picture indent (drawn r) = picture_start in_picture indent ++ (deeper indent ++ record_text r)
  item_text in_picture indent (nested k es) = indent ++ kind_text k ++ items_text false (deeper indent) es

  pub items_text : Bool → List ℕ → LayerItems → List ℕ
  items_text in_picture indent no_items = []
  items_text in_picture indent (more_items e es) = item_text in_picture indent e ++ items_text (is_drawn e) indent es

  pub is_drawn : LayerItem → Bool
  is_drawn (drawn r) = true
  is_drawn (nested k es) = false

-- the text of a layer whose own line stands at a level, 0 for the root
abbrev pub layer_text : ℕ → Layer → List ℕ
layer_text depth l = item_text false (replicate (2 * depth) 32) (nested l.kind (items_of l.items))
