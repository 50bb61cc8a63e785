-- What is known of painting between two frames, and of the layout of a frame.
use Rattle.std.specs.Prelude.{◌≡◌, ℕ, true, false, List, Some, IsSome}
use Rattle.delegates.specs.Table.{Plug}
use Rattle.fx_handles.specs.declared.Handle.{Handle}
use Rattle.fx_handles.specs.Handle.{Among}
use Rattle.node_tree.specs.Forest.{Forest}
use Rattle.node_tree.specs.Forest.Forest.{none, tree}
use Rattle.node_tree.specs.Tree.{Tree}
use Rattle.layout_form.specs.Layout.{delegate_of, is_plugged}
use Rattle.layout_rules.specs.Painting.{LooksSame}
use Rattle.render_tree.specs.Object.{RenderObject, object_look}
use Rattle.work_sets.specs.Before.{names_touched}
use Rattle.session_form.specs.State.{Touched}

-- a node in the window was laid out and put somewhere, and remembers whether its delegate was plugged, by these delegates
pub record IsPutSo (delegates : List Plug) (o : RenderObject) : Type 0 where
  pub framed : IsSome o.frame
  pub placed : IsSome o.offset
  pub plugged : o.plugged ≡ is_plugged delegates (delegate_of (object_look o))

abbrev pub ArePutSo : List Plug → Forest RenderObject → Type 0
ArePutSo delegates none = Unit {0}
ArePutSo delegates (tree h o kids rest) = (o.shown ≡ true → IsPutSo delegates o × ArePutSo delegates kids) × ArePutSo delegates rest

-- a delegate that no line touched is plugged as it was
abbrev pub PluggedAsBefore : List Touched → List Plug → List Plug → Type 0
PluggedAsBefore touched then now = (name : List ℕ) → names_touched (Some name) touched ≡ false → is_plugged then (Some name) ≡ is_plugged now (Some name)

-- each of these nodes looks otherwise after a layout than before it
abbrev pub LookOtherwise : Tree RenderObject → Tree RenderObject → List Handle → Type 0
LookOtherwise old new hs = (k : Handle) → Among k hs → LooksSame old new k → ⊥
