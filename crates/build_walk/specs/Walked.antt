-- What a part of a walk has planned, of which these elements come.
use Rattle.std.specs.Prelude.{◌≡◌, ℕ, ◌-◌, if◌then◌else◌, List, [], ◌∷◌, ◌++◌, Option, Some, None}
use Rattle.fx_handles.specs.declared.Handle.{Handle}
use Rattle.node_tree.specs.Forest.{Forest, tops}
use Rattle.node_tree.specs.Plan.{PlanEntry, entries}
use Rattle.node_tree.specs.Tree.{Tree}
use Rattle.fx_expr.specs.declared.values.Value.{Value}
use Rattle.widget_model.specs.Plain.{look_of}
use Rattle.widget_model.specs.Plain.{children_of as child_widgets}
use Rattle.plain_tree.specs.declared.render.ParentData.{ParentData}
use Rattle.plain_tree.specs.declared.role.RenderRole.{RenderRole}
use Rattle.plain_tree.specs.Projection.{told_by, told_at}
use Rattle.build_form.specs.BuildRole.{BuildRole, composes, provides, keeps, lists, holds, build_role_of}
use Rattle.build_form.specs.Entering.{Phase, first, second, values_below, waits}
use Rattle.element_tree.specs.Element.{Element, element_at}
use Rattle.element_tree.specs.Renewal.{Renewal}
use Rattle.render_tree.specs.Object.{RenderObject}
use Rattle.render_tree.specs.Redraw.{Redraw}
use Rattle.render_tree.specs.Tree.{object_at}
use Rattle.build_walk.specs.Merging.{lists_element, list_handles}
use Rattle.build_walk.specs.Serving.{WaitingList}
use Rattle.build_walk.specs.Renewing.{renewal_of, renewals, AllGoOn, role_of, redraw_of, drawn, AreDrawn}

-- the entries for elements and for render nodes, the render nodes right below the nearest one above, and the lists that wait, by their
-- handles and by what they wait with
pub record WalkPlans : Type 0 where
  pub elements : List (PlanEntry Renewal)
  pub renders : List (PlanEntry Redraw)
  pub tops : List Handle
  pub lists : List Handle
  pub waiting : List WaitingList

-- where a part of the walk stands: the element above, the render node above, its role, and what the widgets between told
pub record WalkPlace : Type 0 where
  pub parent : Option Handle
  pub above : Option Handle
  pub role : RenderRole
  pub told : Option ParentData

-- the lazy lists among elements that wait for their items: none does in the second phase
abbrev pub waiting_handles : Phase → Forest Element → List Handle
waiting_handles first f = list_handles lists_element f
waiting_handles second f = []

pub record Walked (phase : Phase) (t : Tree Element) (r : Tree RenderObject) (scrolled : ℕ → ℕ) (at : WalkPlace) (old new : WalkPlans) (f : Forest Element) : Type 0 where
  pub elements : new.elements ≡ old.elements ++ entries at.parent (renewals f)
  pub renders : new.renders ≡ old.renders ++ entries at.above (drawn at.role at.told f)
  pub tops : new.tops ≡ old.tops ++ tops (drawn at.role at.told f)
  pub lists : new.lists ≡ old.lists ++ waiting_handles phase f
  pub go_on : AllGoOn (element_at t) f
  pub drawn : AreDrawn (object_at r) scrolled f

-- of the lists of a part, those that wait
abbrev pub waiting_in : Phase → List WaitingList → List WaitingList
waiting_in first ls = ls
waiting_in second ls = []

-- ---- a node

abbrev pub extent_in : BuildRole → ℕ
extent_in (composes place props) = 0
extent_in (provides name value) = 0
extent_in (keeps kept) = 0
extent_in (lists extent) = extent
extent_in holds = 0

-- with what the element of a lazy list waits, where so many depths are left and the inherited names have these values
abbrev pub list_at : ℕ → List Value → Element → WaitingList
list_at left values e = record {
  number = e.number;
  extent = extent_in (build_role_of (look_of e.widget));
  widgets = child_widgets e.widget;
  left = left - 1;
  values = values_below e.widget values;
}

-- what is below an element without a render node, and below one with a render node at a handle
abbrev pub through : WalkPlace → Handle → Element → WalkPlace
through at h e = record {
  parent = Some h;
  above = at.above;
  role = at.role;
  told = Some (told_by at.role (role_of e) (told_at at.role at.told e.index));
}

abbrev pub under : Handle → Handle → Element → WalkPlace
under h k e = record { parent = Some h; above = Some k; role = role_of e; told = None }

-- the entries of an element and of its render node, with these handles below
abbrev pub element_entry : WalkPlace → Handle → Element → List Handle → PlanEntry Renewal
element_entry at h e children = record { at = h; parent = at.parent; children = children; update = renewal_of e }

abbrev pub render_entry : WalkPlace → Handle → Element → List Handle → PlanEntry Redraw
render_entry at k e children = record { at = k; parent = at.above; children = children; update = redraw_of e (told_at at.role at.told e.index) }

-- the plans once the node is planned, after what is below it: of an element without a render node
abbrev pub planned_through : WalkPlace → Handle → Element → List Handle → WalkPlans → WalkPlans
planned_through at h e children p = record {
  elements = p.elements ++ element_entry at h e children ∷ [];
  renders = p.renders;
  tops = p.tops;
  lists = p.lists;
  waiting = p.waiting;
}

-- of one with a render node, below which these render nodes were walked; a lazy list of the first phase waits
abbrev pub planned_under : Phase → WalkPlace → Handle → Handle → Element → WaitingList → List Handle → WalkPlans → WalkPlans → WalkPlans
planned_under phase at h k e itself children before p = record {
  elements = p.elements ++ element_entry at h e children ∷ [];
  renders = p.renders ++ render_entry at k e p.tops ∷ [];
  tops = before.tops ++ k ∷ [];
  lists = if waits phase (build_role_of (look_of e.widget)) then before.lists ++ h ∷ [] else p.lists;
  waiting = if waits phase (build_role_of (look_of e.widget)) then before.waiting ++ itself ∷ [] else p.waiting;
}

-- no render node was walked yet below
abbrev pub without_tops : WalkPlans → WalkPlans
without_tops p = record { elements = p.elements; renders = p.renders; tops = []; lists = p.lists; waiting = p.waiting }
