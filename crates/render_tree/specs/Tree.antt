-- What a contract sees of a `RenderTree`.
use Rattle.std.specs.Prelude.{ℕ, Bool, Option, option_and_then, refl}
use Rattle.std.specs.Coded.{Coded, code_by, coded×, coded_bool}
use Rattle.fx_handles.specs.declared.Handle.{Handle}
use Rattle.fx_handles.specs.Arena.{inserted_count}
use Rattle.fx_geom.specs.declared.scales.Scale.{Scale}
use Rattle.fx_geom.specs.contracts.scales.Scale as scale_rows
use Rattle.node_tree.specs.Tree.{Tree, tree_code, value_at}
use Rattle.plain_tree.specs.declared.laid.Frame.{Frame}
use Rattle.render_tree.specs.Object.{RenderObject, object_code}

-- the nodes, the scale of their lengths, and whether the tree is spent: then it takes no memory any more
pub record RenderTree : Type 0 where
  pub tree : Tree RenderObject
  pub scale : Scale
  pub spent : Bool

abbrev pub render_tree_code : Coded RenderTree
render_tree_code =
    code_by
    (Tree RenderObject × (Scale × Bool))
    (coded× (tree_code object_code) (coded× (scale_rows.the_row).coded coded_bool))
    (λ t. (t.tree, (t.scale, t.spent)))
    (λ p. record { tree = p.0; scale = p.1.0; spent = p.1.1 })
    (λ _. refl)

-- what is stored at a handle, where it is live
abbrev pub object_at : Tree RenderObject → Handle → Option RenderObject
object_at t h = value_at t h

-- the frame of its last layout
abbrev pub frame_at : Tree RenderObject → Handle → Option Frame
frame_at t h = option_and_then (λ o. o.frame) (object_at t h)

-- how many nodes were inserted so far: those that are there, and those that were taken away
abbrev pub made_count : Tree RenderObject → ℕ
made_count t = inserted_count t.nodes
