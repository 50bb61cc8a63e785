-- What a climb from an old element stands on.
use Rattle.std.specs.Prelude.{◌≡◌, Some, List}
use Rattle.std.specs.List.{All}
use Rattle.fx_expr.specs.declared.values.Ty.{Ty}
use Rattle.fx_expr.specs.declared.values.Value.{Value}
use Rattle.fx_handles.specs.declared.Handle.{Handle}
use Rattle.node_tree.specs.Children.{Keeps}
use Rattle.node_tree.specs.Tree.{Tree, IsTree, tops_at}
use Rattle.widget_model.specs.Plain.{look_of}
use Rattle.build_form.specs.BuildRole.{build_role_of}
use Rattle.build_form.specs.Filling.{FitsNames}
use Rattle.element_tree.specs.Element.{Element, element_at}
use Rattle.build_owner.specs.LastFrame.{LastFrame, IsOld}

-- what each element gives to an inherited name is of the name's type
abbrev pub AreAllFitting : List Ty → Tree Element → Type 0
AreAllFitting types t = (h : Handle) (e : Element) → element_at t h ≡ Some e → FitsNames types (build_role_of (look_of e.widget))

-- the elements of the last frame are still in a tree, and may be gone on from, where the inherited names have these values at the top
pub record IsStillThere (defaults : List Value) (f : LastFrame) (t : Tree Element) : Type 0 where
  pub tree : IsTree f.elements
  pub old : All (IsOld f defaults) (tops_at f.elements)
  pub elements : Keeps f.elements t
