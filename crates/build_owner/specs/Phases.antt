-- What the first phase of a build comes to, and what the whole build does.
use Rattle.std.specs.Prelude.{◌≡◌, ◌⊎◌, ℕ, ◌≤◌, false, nat_lt, if◌then◌else◌, Option, Some, None, [], map, option_map}
use Rattle.fx_handles.specs.Arena.{used_count}
use Rattle.fx_handles.specs.declared.Handle.{Handle}
use Rattle.node_tree.specs.Children.{Keeps}
use Rattle.node_tree.specs.Edits.{KeepsHandles}
use Rattle.node_tree.specs.Forest.{Forest}
use Rattle.node_tree.specs.Forest.Forest.{none, tree}
use Rattle.node_tree.specs.Plan.{planned}
use Rattle.node_tree.specs.Tree.{Tree, IsNode, IsTree}
use Rattle.widget_model.specs.Plain.{PlainWidget}
use Rattle.widget_model.specs.Size.{count_of}
use Rattle.widget_model.specs.Typed.{IsTypedWidget}
use Rattle.widget_model.specs.Update.{updates}
use Rattle.program_check.specs.Checked.{PlainChecked}
use Rattle.program_check.specs.TypedChecked.{IsTypedChecked}
use Rattle.template_build.specs.Program.{declarations_of}
use Rattle.plain_tree.specs.declared.role.RenderRole.TheVariants.{Plain}
use Rattle.plain_tree.specs.PlainNode.{PlainNode}
use Rattle.plain_tree.specs.PlainNode.{count_of as counted}
use Rattle.build_form.specs.Entering.{first, depth_limit, output_limit}
use Rattle.build_form.specs.FullBuild.{Screen, started, first_tree, full_build, built}
use Rattle.build_form.specs.Partner.{root_arrival}
use Rattle.build_form.specs.Program.{blueprint_of}
use Rattle.build_form.specs.Step.{gives}
use Rattle.element_tree.specs.Element.{Element, made_count}
use Rattle.global_keys.specs.Holders.{Registry}
use Rattle.render_tree.specs.Object.{RenderObject}
use Rattle.render_tree.specs.Redraw.{Redraw}
use Rattle.render_tree.specs.Tree.{object_at}
use Rattle.build_walk.specs.Entered.{IsEntered}
use Rattle.build_walk.specs.Kept.{node_over}
use Rattle.build_walk.specs.Renewing.{drawn}
use Rattle.build_walk.specs.Standing.{KeepsDrawn}
use Rattle.build_walk.specs.Walked.{WalkPlans, WalkPlace}
use Rattle.build_owner.specs.Standing.{StandsFor, Beginning, next_at, frame_of}
use Rattle.build_owner.specs.Waiting.{WaitingBuild}
use Rattle.build_owner.specs.declared.walk.BuildWalk.{BuildWalk}
use Rattle.build_owner.specs.ArrivalView.{widget_at}
use Rattle.build_owner.specs.Entry.{AreTypedSpots, AreOldSpots}
use Rattle.build_owner.specs.LastFrame.{IsSince, basis_in}
use Rattle.build_owner.specs.Making.{MakesNodes}
use Rattle.build_owner.specs.Naming.{AreHeld}
use Rattle.build_owner.specs.Ranging.{AreRangedFor}
use Rattle.build_owner.specs.Ready.{IsReadyToWalk}
use Rattle.build_owner.specs.Redrawn.{IsRedrawn, IsPartRedrawn}
use Rattle.build_owner.specs.Staying.{with_items, RendersStandWithItems}
use Rattle.build_owner.specs.WalkView.{plans_of, waiting_of, progress_of}

-- ---- where the walk begins

-- nothing is planned, and nothing is above
abbrev pub no_plans : WalkPlans
no_plans = record { elements = []; renders = []; tops = []; lists = []; waiting = [] }

abbrev pub above_all : WalkPlace
above_all = record { parent = None; above = None; role = Plain; told = None }

-- the old root, where a widget can take its place
abbrev pub if_updates : PlainWidget → Handle → Option PlainWidget → Option Handle
if_updates w h None = None
if_updates w h (Some old) = if updates old w then Some h else None

abbrev pub beside_at : Tree Element → PlainWidget → Option Handle → Option Handle
beside_at t w None = None
beside_at t w (Some h) = if_updates w h (widget_at t h)

abbrev pub beside_top : Tree Element → PlainWidget → Option Handle
beside_top t w = beside_at t w t.root

-- ---- after the walk of the first phase

-- the definition's first phase gives a tree, which is planned for elements and render nodes: these trees have all that it plans, and all
-- that they had when the build began
pub record IsWalkedFirst (c : PlainChecked) (t0 : Tree Element) (r0 : Tree RenderObject) (g0 : Registry) (b : Beginning c t0 r0 g0) (w : PlainWidget) (t : Tree Element) (r : Tree RenderObject) (g : Registry)
    (walk : BuildWalk) (h : Handle) : Type 0 where
  pub since : IsSince (blueprint_of c).defaults (frame_of c t0 r0 g0 b) t r g
  pub entered : IsEntered (basis_in (blueprint_of c) (frame_of c t0 r0 g0 b)) (frame_of c t0 r0 g0 b).pasts first depth_limit (blueprint_of c).defaults b.scrolled above_all
      (root_arrival b.old w) (started (next_at t0)) (progress_of (frame_of c t0 r0 g0 b) walk g t) t r no_plans (plans_of walk) h
  pub is : first_tree (blueprint_of c) b.old (next_at t0) w ≡ gives (node_over b.scrolled entered.value entered.kids) (progress_of (frame_of c t0 r0 g0 b) walk g t)
  pub makes : MakesNodes (made_count t0) (made_count t) r0 r
  pub held : AreHeld g t (planned walk.elements.items)
  pub ready : IsReadyToWalk (declarations_of c) (blueprint_of c).nodes walk.entered t r g
  pub spots : AreTypedSpots (declarations_of c) t walk.spots.items
  pub old_spots : AreOldSpots (frame_of c t0 r0 g0 b) walk.spots.items

-- and its render nodes are there, so that it can be laid out: a plan for them is committed, by which each lazy list keeps those of its
-- old items that aren't claimed, and beside them stands what was there and isn't planned
pub record IsFirstPhase (c : PlainChecked) (t0 : Tree Element) (r0 : Tree RenderObject) (g0 : Registry) (b : Beginning c t0 r0 g0) (w : PlainWidget) (t : Tree Element) (r : Tree RenderObject) (g : Registry)
    (l : WaitingBuild) : Type 0 where
  pub checked : IsTypedChecked c
  pub typed : IsTypedWidget (declarations_of c) w
  pub lists : l.lists ≡ map waiting_of l.plan.spots.items
  pub small : nat_lt output_limit (count_of w) ≡ false
  pub made : Tree RenderObject
  pub made_is : IsTree made
  pub walked : IsWalkedFirst c t0 r0 g0 b w t made g l.plan l.root
  pub redrawn : IsPartRedrawn made r (with_items made (drawn Plain None (tree l.root walked.entered.value walked.entered.kids none)))
  pub stand : RendersStandWithItems (Some (node_over b.scrolled walked.entered.value walked.entered.kids)) b.scrolled (tree l.root walked.entered.value walked.entered.kids none) r0 made r

-- the first phase's tree
abbrev pub first_node_of : {c : PlainChecked} {t0 : Tree Element} {r0 : Tree RenderObject} {g0 : Registry} {b : Beginning c t0 r0 g0} {w : PlainWidget} {t : Tree Element} {r : Tree RenderObject} {g : Registry} {l : WaitingBuild}
    → IsFirstPhase c t0 r0 g0 b w t r g l → PlainNode
first_node_of {b = b} p = node_over b.scrolled p.walked.entered.value p.walked.entered.kids

-- its plan for render nodes
abbrev pub first_plan_of : {c : PlainChecked} {t0 : Tree Element} {r0 : Tree RenderObject} {g0 : Registry} {b : Beginning c t0 r0 g0} {w : PlainWidget} {t : Tree Element} {r : Tree RenderObject} {g : Registry} {l : WaitingBuild}
    → IsFirstPhase c t0 r0 g0 b w t r g l → Forest Redraw
first_plan_of {l = l} p = drawn Plain None (tree l.root p.walked.entered.value p.walked.entered.kids none)

-- ---- between both phases

-- the render nodes are laid out: each is there, with its number, its widget and its offset, and no slot is filled or retired
pub record KeepsBuilt (mid r : Tree RenderObject) : Type 0 where
  pub drawn : KeepsDrawn mid r
  pub widgets : (k : Handle) → option_map (λ (o : RenderObject). o.widget) (object_at r k) ≡ option_map (λ (o : RenderObject). o.widget) (object_at mid k)
  pub handles : KeepsHandles mid.nodes r.nodes

-- the first phase of a build of a root was made, and then a layout of its render nodes
pub record IsLaidOut (c : PlainChecked) (t : Tree Element) (r : Tree RenderObject) (g : Registry) (l : WaitingBuild) : Type 0 where
  pub elements : Tree Element
  pub renders : Tree RenderObject
  pub registry : Registry
  pub begun : Beginning c elements renders registry
  pub root : PlainWidget
  pub mid : Tree RenderObject
  pub phase : IsFirstPhase c elements renders registry begun root t mid g l
  pub since : KeepsBuilt mid r
  -- on this screen, whose layout of the first phase's tree gives the live ranges that the render nodes of the waiting lists store
  pub screen : Screen
  pub ranged : AreRangedFor screen (first_node_of phase) l.lists r

-- the first phase's tree
abbrev pub first_phase_node : {c : PlainChecked} {t : Tree Element} {r : Tree RenderObject} {g : Registry} {l : WaitingBuild} → IsLaidOut c t r g l → PlainNode
first_phase_node p = first_node_of p.phase

-- ---- after the whole build

-- the full build gives a tree, for which elements, render nodes and the registry stand, and nothing is flagged. New render nodes were
-- made for it, with numbers that no node had, and then it was planned and committed, and the nodes that changed are marked
pub record IsWholeBuild (c : PlainChecked) (t0 : Tree Element) (r0 : Tree RenderObject) (g0 : Registry) (b : Beginning c t0 r0 g0) (screen : Screen) (w : PlainWidget) (was : Tree RenderObject)
    (t : Tree Element) (r : Tree RenderObject) (g : Registry) : Type 0 where
  pub tree : PlainNode
  pub is : full_build (blueprint_of c) screen b.old (next_at t0) w ≡ built tree (next_at t)
  pub stands : StandsFor c [] (Some tree) b.scrolled t r g
  pub made : Tree RenderObject
  pub keeps : Keeps was made
  pub before : ℕ
  pub later : made_count t0 ≤ before
  pub numbers : (k : Handle) (o : RenderObject) → object_at was k ≡ Some o → IsNode r0 k ⊎ (o.number ≤ before)
  pub makes : MakesNodes before (made_count t) was made
  pub redrawn : IsRedrawn made r (drawn Plain None stands.elements.forest)
  -- so many slots are in use: as many as the tree has nodes, and no more for render nodes
  pub used : used_count t.nodes ≡ counted tree
  pub used_drawn : used_count r.nodes ≤ counted tree
