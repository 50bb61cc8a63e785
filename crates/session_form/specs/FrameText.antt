-- The text of a frame, and of a hit path.
use Rattle.std.specs.Prelude.{ℕ, List, [], ◌∷◌, ◌++◌, codes}
use Rattle.std.specs.Fmt.{decimal}
use Rattle.fx_geom.specs.declared.shapes.Size.{Size}
use Rattle.layer_tree.specs.declared.layers.Layer.{Layer}
use Rattle.layer_tree.specs.Printed.{layer_text}
use Rattle.screen_form.specs.declared.remarks.Note.{Note}
use Rattle.screen_form.specs.declared.remarks.Remark.{Remark}
use Rattle.screen_form.specs.declared.remarks.Remark.TheVariants.{Unbounded, Overflow}
use Rattle.screen_form.specs.Painted.{layer_of}
use Rattle.screen_form.specs.Remarks.{notes_of}
use Rattle.session_form.specs.EventText.{node_text}
use Rattle.session_form.specs.State.{Shown}

abbrev pub remark_text : Remark → List ℕ
remark_text Unbounded = codes " unbounded\n"
remark_text (Overflow by) = codes " overflow " ++ (decimal by ++ codes "\n")

-- `note #n unbounded`, `note #n overflow A`
abbrev pub note_text : Note → List ℕ
note_text n = codes "note" ++ (node_text n.node ++ remark_text n.remark)

abbrev pub notes_text : List Note → List ℕ
notes_text [] = []
notes_text (n ∷ ns) = note_text n ++ notes_text ns

-- the layers of what is shown, where a text cell has this size
abbrev pub layers_of : Size → Shown → Layer
layers_of cell shown = layer_of cell shown.delegates shown.laid

-- `frame K`, the notes, the layers, `end`
abbrev pub frame_text : ℕ → Size → Shown → List ℕ
frame_text number cell shown =
    codes "frame " ++ (decimal number ++ (codes "\n" ++ (notes_text (notes_of shown.laid) ++ (layer_text 0 (layers_of cell shown) ++ codes "end\n"))))

-- `hits`, and the numbers of the nodes that are hit, the deepest first
abbrev pub nodes_text : List ℕ → List ℕ
nodes_text [] = []
nodes_text (n ∷ ns) = node_text n ++ nodes_text ns

abbrev pub hits_text : List ℕ → List ℕ
hits_text ns = codes "hits" ++ (nodes_text ns ++ codes "\n")
