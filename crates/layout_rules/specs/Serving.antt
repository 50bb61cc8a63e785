-- What a walk finds at a node, and what it leaves.
use Rattle.std.specs.Prelude.{◌≡◌, ◌⊎◌, ℕ, ◌+◌, ◌≤◌, Bool, if◌then◌else◌, Option, List}
use Rattle.fx_handles.specs.declared.Handle.{Handle}
use Rattle.fx_handles.specs.Handle.{same, times}
use Rattle.node_tree.specs.Forest.{Forest}
use Rattle.node_tree.specs.Forest.Forest.{none, tree}
use Rattle.node_tree.specs.Tree.{Tree}
use Rattle.plain_tree.specs.declared.render.ParentData.{ParentData}
use Rattle.plain_tree.specs.Render.{render}
use Rattle.layout_form.specs.declared.asks.Ask.{Ask}
use Rattle.layout_form.specs.Fits.{CanBeLaidOut}
use Rattle.layout_form.specs.Object.{Setting}
use Rattle.render_tree.specs.Object.{RenderObject}
use Rattle.layout_walk.specs.Node.{LayoutNode, renders_in}
use Rattle.layout_walk.specs.Rule.{LayoutParts}
use Rattle.layout_walk.specs.Here.{Here, HereAll, back_in}
use Rattle.layout_rules.specs.declared.duties.Duty.{Duty}
use Rattle.layout_rules.specs.declared.duties.Course.{Course}
use Rattle.layout_rules.specs.Nodes.{SeenAt}
use Rattle.layout_rules.specs.Turns.{Turns}
use Rattle.layout_rules.specs.Duties.{Does, MayDo, duty_runs, duty_ticks}
use Rattle.layout_rules.specs.Ending.{run_end, ended, course_ticks, CanRun, CanEnd}

-- a node agrees with its children, as all nodes below it do, and can be laid out
pub record IsGood (P : LayoutParts) (t : Tree RenderObject) (h : Handle) (v : LayoutNode) (kids : Forest LayoutNode) : Type 0 where
  pub stands : SeenAt t h (tree h v kids none)
  pub here : Here P v kids
  pub all : HereAll P kids
  pub fits : CanBeLaidOut (render v.number v.look v.told v.scroll v.count (renders_in kids))

pub record IsReadyFor (P : LayoutParts) (t : Tree RenderObject) (h : Handle) (duty : Duty) : Type 0 where
  pub value : LayoutNode
  pub kids : Forest LayoutNode
  pub good : IsGood P t h value kids
  pub may : MayDo duty

-- a duty was done at a node, and so many rules were run
pub record Serves (P : LayoutParts) (outer : Bool) (duty : Duty) (old new : Tree RenderObject) (h : Handle) (before after : ℕ) : Type 0 where
  pub value : LayoutNode
  pub kids : Forest LayoutNode
  pub good : IsGood P old h value kids
  pub value_now : LayoutNode
  pub kids_now : Forest LayoutNode
  pub turns : Turns old new h (tree h value kids none) (tree h value_now kids_now none)
  pub does : Does P (back_in P outer) duty value kids value_now kids_now
  pub ticks : after ≤ before + duty_ticks P outer duty value kids

-- the node at one handle counts once, and any other not at all
abbrev pub weight_of : Handle → Handle → ℕ
weight_of k j = if same j k then 1 else 0

-- each node is listed no more often than its rule is run
abbrev pub ListsOnce : LayoutParts → Bool → Duty → Tree RenderObject → Handle → List Handle → List Handle → Type 0
ListsOnce P outer duty old h before after = (k : Handle) (v : LayoutNode) (kids : Forest LayoutNode) → SeenAt old h (tree h v kids none)
    → times k after ≤ times k before + duty_runs (weight_of k) (weight_of k h) P outer duty v kids

-- nothing is listed, or a rule was run and its node may be
abbrev pub ListsOne : Handle → List Handle → List Handle → ℕ → ℕ → Type 0
ListsOne h before after start stop = (after ≡ before) ⊎ ((stop ≡ start + 1) × ((k : Handle) → times k after ≤ times k before + weight_of k h))

-- some forest is the subtree of a node, as a layout sees it
pub record IsSeen (t : Tree RenderObject) (h : Handle) : Type 0 where
  pub value : LayoutNode
  pub kids : Forest LayoutNode
  pub stands : SeenAt t h (tree h value kids none)

-- what a course leaves, once what it does at the children is done, and how often it ticks
abbrev pub RunsAs : Setting → Ask → List ParentData → List (Option Ask) → List (Option Ask) → Tree RenderObject → Tree RenderObject → Handle → ℕ → ℕ → Type 0
RunsAs s ask ds first asks old new h before after = (v : LayoutNode) (kids : Forest LayoutNode) → SeenAt old h (tree h v kids none)
    → let e = run_end s ask v kids ds first asks in
    Turns old new h (tree h v kids none) (tree h e.value e.kids none) × (after ≡ before + 1)

abbrev pub EndsAs : Setting → Course → List ParentData → List (Option Ask) → List (Option Ask) → Tree RenderObject → Tree RenderObject → Handle → ℕ → ℕ → Type 0
EndsAs s course ds first rest old new h before after = (v : LayoutNode) (kids : Forest LayoutNode) → SeenAt old h (tree h v kids none)
    → let e = ended s course v kids ds first rest in
    Turns old new h (tree h v kids none) (tree h e.value e.kids none) × (after ≡ before + course_ticks s course v)

-- where it can end so
abbrev pub CanRunAt : Ask → List ParentData → List (Option Ask) → List (Option Ask) → Tree RenderObject → Handle → Type 0
CanRunAt ask ds first asks t h = (v : LayoutNode) (kids : Forest LayoutNode) → SeenAt t h (tree h v kids none) → CanRun ask v kids ds first asks

abbrev pub CanEndAt : Course → List ParentData → List (Option Ask) → List (Option Ask) → Tree RenderObject → Handle → Type 0
CanEndAt course ds first rest t h = (v : LayoutNode) (kids : Forest LayoutNode) → SeenAt t h (tree h v kids none) → CanEnd course v kids ds first rest
