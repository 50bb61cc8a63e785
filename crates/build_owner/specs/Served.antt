-- What the second phase comes to where lazy lists that wait get their items.
use Rattle.std.specs.Prelude.{◌≡◌, ℕ, Some, None, List, [], ◌∷◌, ◌++◌, map, length}
use Rattle.std.specs.List.{All}
use Rattle.fx_handles.specs.declared.Handle.{Handle}
use Rattle.node_tree.specs.Forest.{Forest, tops}
use Rattle.node_tree.specs.Plan.{entries, planned}
use Rattle.node_tree.specs.Tree.{Tree}
use Rattle.sliver_layout.specs.declared.protocol.Window.{Window}
use Rattle.plain_tree.specs.declared.role.RenderRole.TheVariants.{Lazy}
use Rattle.build_form.specs.Entering.{Basis, second}
use Rattle.build_form.specs.FullBuild.{Ranges}
use Rattle.build_form.specs.Partner.{Arrival}
use Rattle.build_form.specs.Step.{Progress, gives, each}
use Rattle.element_tree.specs.Element.{Element, element_at}
use Rattle.element_tree.specs.Nodes.{nodes_of}
use Rattle.element_tree.specs.Renewal.{Renewal}
use Rattle.render_tree.specs.Object.{RenderObject}
use Rattle.render_tree.specs.Redraw.{Redraw}
use Rattle.render_tree.specs.Tree.{object_at}
use Rattle.build_walk.specs.Keeping.{reenter}
use Rattle.build_walk.specs.Merging.{Serving, serving_each}
use Rattle.build_walk.specs.Past.{Pasts}
use Rattle.build_walk.specs.Renewing.{renewals, AllGoOn, drawn, AreDrawn}
use Rattle.build_walk.specs.Serving.{WaitingList, served}
use Rattle.build_walk.specs.Telling.{StoreOutputs}
use Rattle.build_owner.specs.declared.serving.ServedList.{ServedList}
use Rattle.build_owner.specs.declared.walk.BuildWalk.{BuildWalk}
use Rattle.build_owner.specs.declared.walk.WaitingSpot.{WaitingSpot}
use Rattle.build_owner.specs.WalkView.{waiting_of}

-- a walk has planned nothing yet
pub record IsUnplanned (w : BuildWalk) : Type 0 where
  pub elements : w.elements.items ≡ []
  pub renders : w.renders.items ≡ []
  pub tops : w.tops.items ≡ []

-- the items of a list were entered, with plans of their own
pub record IsServed (from : Basis) (pasts : Pasts) (scrolled : ℕ → ℕ) (s : WaitingSpot) (above : Handle) (items : List Arrival) (before after : Progress) (t : Tree Element) (r : Tree RenderObject)
    (o : ServedList) : Type 0 where
  pub kids : Forest Element
  pub is : each (reenter from pasts second s.left s.now.items) items before ≡ gives (nodes_of scrolled kids) after
  pub children : o.children.items ≡ tops kids
  pub elements : o.elements.items ≡ entries (Some s.at) (renewals kids)
  pub tops_are : o.tops.items ≡ tops (drawn Lazy None kids)
  pub renders : o.renders.items ≡ entries (Some above) (drawn Lazy None kids)
  pub go_on : AllGoOn (element_at t) kids
  pub drawn_there : AreDrawn (object_at r) scrolled kids
  pub stored : StoreOutputs scrolled kids

-- what was planned for the elements below a list, and for the render nodes below it
abbrev pub elements_served : ServedList → Serving Renewal
elements_served o = record { children = o.children.items; entries = o.elements.items }

abbrev pub renders_served : ServedList → Serving Redraw
renders_served o = record { children = o.tops.items; entries = o.renders.items }

-- the elements that are planned for all lists
abbrev pub all_served : List ServedList → List Handle
all_served [] = []
all_served (o ∷ os) = planned o.elements.items ++ all_served os

-- which children of a list are there
abbrev pub range_for : Ranges → WaitingList → Window
range_for ranges l = ranges l.number l.extent (length l.widgets)

abbrev pub AreRangesOf : Ranges → List WaitingSpot → List Window → Type 0
AreRangesOf ranges spots ws = ws ≡ map (λ s. range_for ranges (waiting_of s)) spots

-- all lists that waited were served, which have these render nodes: the items of each are the elements of a forest
pub record AreServed (from : Basis) (pasts : Pasts) (scrolled : ℕ → ℕ) (ranges : Ranges) (spots : List WaitingSpot) (hs : List Handle) (before after : Progress) (t : Tree Element) (r : Tree RenderObject)
    (os : List ServedList) : Type 0 where
  pub forests : List (Forest Element)
  pub long : length forests ≡ length spots
  pub is : each (served from pasts ranges) (map waiting_of spots) before ≡ gives (map (nodes_of scrolled) forests) after
  pub elements : map elements_served os ≡ serving_each (map (λ (s : WaitingSpot). s.at) spots) (map renewals forests)
  pub renders : map renders_served os ≡ serving_each hs (map (drawn Lazy None) forests)
  pub go_on : All (AllGoOn (element_at t)) forests
  pub drawn_there : All (AreDrawn (object_at r) scrolled) forests
  pub stored : All (StoreOutputs scrolled) forests
