-- A tree of render nodes that has one node alone, which was made just now.
use Rattle.std.specs.Prelude.{◌≡◌, true, Some}
use Rattle.fx_handles.specs.declared.Handle.{Handle}
use Rattle.node_tree.specs.Forest.Forest.{none, tree}
use Rattle.node_tree.specs.Tree.{Tree, Is}
use Rattle.layout_form.specs.Fits.{FitsLayout}
use Rattle.render_tree.specs.Object.{RenderObject, object_look}

pub record IsLone (t : Tree RenderObject) (h : Handle) : Type 0 where
  pub object : RenderObject
  pub is : Is t (tree h object none none)
  pub root : t.root ≡ Some h
  pub flag : object.needs_layout ≡ true
  pub below : object.layout_below ≡ true
  pub fits : FitsLayout (object_look object)
