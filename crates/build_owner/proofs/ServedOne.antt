-- The items of a lazy list as the definition says them.
use Rattle.std.proofs.Common.{◌≡◌, Option, Some, None, IfSome, List, [], map, filter, get_or, refl, ap, ◌∙◌}
use Rattle.std.specs.List.{All}
use Rattle.fx_expr.specs.declared.values.Value.{Value}
use Rattle.fx_handles.specs.declared.Handle.{Handle}
use Rattle.fx_handles.specs.Handle.{Among}
use Rattle.node_tree.specs.Children.{Keeps}
use Rattle.node_tree.specs.Tree.{Tree, IsNode, Holds, children_at}
use Rattle.sliver_layout.specs.declared.protocol.Window.{Window}
use Rattle.plain_tree.specs.PlainNode.{PlainNode}
use Rattle.widget_model.specs.Plain.{PlainWidget}
use Rattle.build_form.specs.Entering.{values_below, opening}
use Rattle.build_form.specs.FullBuild.{items}
use Rattle.build_form.specs.Partner.{arrivals}
use Rattle.element_tree.specs.Element.{Element, element_at}
use Rattle.build_walk.specs.Kept.{plain_at, plain_at_any}
use Rattle.build_owner.specs.declared.arriving.Arrival.{Arrival}
use Rattle.build_owner.specs.ArrivalView.{arrives_in, children_had, coming, is_there}
use Rattle.build_owner.specs.LastFrame.{LastFrame, IsOld}
use Rattle.build_owner.specs.NamesView.{values_had}
use Rattle.build_owner.proofs.Going.{come_below}
use Rattle.build_owner.proofs.Itemized.{items_old, items_are}

pub items_come : (f : LastFrame) (t : Tree Element) (keeps : Keeps f.elements t) (was vs : List Value) (kept : Option Handle) (ws : List PlainWidget) (rs ys : List Arrival) (range : Window)
    → ((h : Handle) → Holds f.elements h → IsNode f.elements h)
    → ((h : Handle) (e : Element) → IsOld f was h → element_at f.elements h ≡ Some e → All (IsOld f (values_below e.widget was)) (children_at f.elements h))
    → ((h : Handle) (e : Element) → element_at f.elements h ≡ Some e → element_at t h ≡ Some e)
    → ((us : List Value) (k : Handle) → IsOld f us k → plain_at f.scrolled t k ≡ plain_at f.scrolled f.elements k)
    → ((h : Handle) → IsNode f.elements h → (n : PlainNode) × (plain_at f.scrolled f.elements h ≡ Some n))
    → vs ≡ values_had t kept was → map (arrives_in f.scrolled t) rs ≡ arrivals (plain_at_any f.scrolled t kept) ws → IfSome kept (IsOld f was)
    → All (λ (a : Arrival). IfSome a.beside (λ k. Among k (children_had t kept) × IsNode t k)) rs → map coming ys ≡ filter (is_there range) (map coming rs)
    → All (λ (a : Arrival). IfSome a.beside (IsOld f vs)) ys × (map (arrives_in f.scrolled f.elements) ys ≡ items range (arrivals (plain_at_any f.scrolled f.elements kept) ws))
items_come f t keeps was vs kept ws rs ys range live below later stays known had is old among same =
    let come = come_below f t keeps was vs kept ws rs (opening (plain_at_any f.scrolled f.elements kept) 0 [] ws) live below later stays had is old among refl refl in (
      items_old range rs ys same f vs come.0,
      items_are range rs ys same f.scrolled f.elements known (λ i a low. there (get_or rs i a).beside (come.0 i a low)) ∙ ap (items range) come.1,
    )
  where
    there : (o : Option Handle) → IfSome o (IsOld f vs) → IfSome o (IsNode f.elements)
    there None h = tt
    there (Some k) h = live k h.holds
