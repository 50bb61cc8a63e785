-- When elements and render nodes stand for the tree of the last frame.
use Rattle.std.specs.Prelude.{◌≡◌, ℕ, ◌+◌, ◌≤◌, Option, Some, None, IfSome, List, [], filter, length}
use Rattle.std.specs.Option.{option_to_list}
use Rattle.fx_expr.specs.declared.values.Value.{Value}
use Rattle.fx_handles.specs.declared.Handle.{Handle}
use Rattle.node_tree.specs.Forest.{Forest, tops, append}
use Rattle.node_tree.specs.Tree.{Tree, Is}
use Rattle.widget_model.specs.Plain.{PlainWidget}
use Rattle.program_check.specs.Checked.{PlainChecked}
use Rattle.template_build.specs.Program.{declarations_of}
use Rattle.plain_tree.specs.declared.role.RenderRole.TheVariants.{Plain}
use Rattle.plain_tree.specs.PlainNode.{PlainNode, nodes_of as listed}
use Rattle.plain_tree.specs.Projection.{projected_all}
use Rattle.plain_tree.specs.Render.{renders_of as renders_listed}
use Rattle.build_form.specs.Entering.{Blueprint, depth_limit, first}
use Rattle.build_form.specs.FullBuild.{Screen, started, basis}
use Rattle.build_form.specs.Numbered.{IsNumbered}
use Rattle.build_form.specs.Partner.{root_arrival}
use Rattle.build_form.specs.Program.{blueprint_of}
use Rattle.build_form.specs.WellBuilt.{IsWellBuilt}
use Rattle.element_tree.specs.Element.{Element, made_count}
use Rattle.element_tree.specs.Nodes.{nodes_of}
use Rattle.render_tree.specs.Object.{RenderObject}
use Rattle.render_tree.specs.Plain.{renders_of}
use Rattle.render_tree.specs.Tree.{object_at}
use Rattle.work_sets.specs.Entered.{Entered, seen_from, entered_widgets}
use Rattle.build_walk.specs.Counting.{is_built}
use Rattle.build_walk.specs.Past.{Pasts, past_at}
use Rattle.build_walk.specs.Renewing.{AreDrawn}
use Rattle.build_walk.specs.Telling.{HoldOutputs, element_pasts, FlagsAre}

-- elements stand for a plain tree, or for none, where it is known how far the node with each number is scrolled: they are its nodes;
-- each component that isn't flagged stores what its body gives; and the flagged ones are those whose numbers are marked
pub record ElementsStandFor (c : PlainChecked) (marks : List ℕ) (old : Option PlainNode) (scrolled : ℕ → ℕ) (t : Tree Element) : Type 0 where
  pub forest : Forest Element
  pub is : Is t forest
  pub root : option_to_list t.root ≡ tops forest
  pub nodes : option_to_list old ≡ nodes_of scrolled forest
  pub well : IfSome old (IsWellBuilt (declarations_of c))
  -- the numbers that were given so far are its own, or gone, and none that is free belongs to a node that is scrolled
  pub numbered : IfSome old (IsNumbered (made_count t + 1))
  pub fresh : (n : ℕ) → made_count t + 1 ≤ n → scrolled n ≡ 0
  pub outputs : HoldOutputs (blueprint_of c) (blueprint_of c).defaults forest
  pub flags : FlagsAre marks forest

-- what is known of numbers is what they tell
abbrev pub pasts_from : PlainChecked → Forest Element → Pasts
pasts_from c f = past_at (element_pasts (blueprint_of c).defaults f)

-- render nodes stand for it: they are its projection, and each of its elements that has one has it at its handle
pub record RendersStandFor (old : Option PlainNode) (scrolled : ℕ → ℕ) (elements : Forest Element) (r : Tree RenderObject) : Type 0 where
  pub drawn : AreDrawn (object_at r) scrolled elements
  pub objects : Forest RenderObject
  pub is : Is r objects
  pub root : option_to_list r.root ≡ tops objects
  pub projected : renders_of objects ≡ renders_listed (projected_all Plain None (listed (option_to_list old)))

-- they do, and beside them stand others, which have no place in it
pub record RendersStandBeside (old : Option PlainNode) (scrolled : ℕ → ℕ) (elements : Forest Element) (r : Tree RenderObject) : Type 0 where
  pub drawn : AreDrawn (object_at r) scrolled elements
  pub objects : Forest RenderObject
  pub others : Forest RenderObject
  pub is : Is r (append objects others)
  pub root : option_to_list r.root ≡ tops objects
  pub projected : renders_of objects ≡ renders_listed (projected_all Plain None (listed (option_to_list old)))

-- ---- which components a build builds

-- the widgets that the first phase enters, in the order of its walk
abbrev pub first_entered : Blueprint → Option PlainNode → ℕ → PlainWidget → List Entered
first_entered b old next root = seen_from (basis b old) first depth_limit [] b.defaults (root_arrival old root) (started next)

-- how many of some are built: those that are new, marked, have another widget, or read another value
abbrev pub built_among : List Value → Option PlainNode → List ℕ → List Entered → ℕ
built_among defaults old marks es = length (filter (is_built defaults old marks) es)

-- how many components the first phase builds, and how many both do
abbrev pub first_builds : Blueprint → Option PlainNode → List ℕ → ℕ → PlainWidget → ℕ
first_builds b old marks next root = built_among b.defaults old marks (first_entered b old next root)

abbrev pub all_builds : Blueprint → Screen → Option PlainNode → List ℕ → ℕ → PlainWidget → ℕ
all_builds b screen old marks next root = built_among b.defaults old marks (entered_widgets b screen old next root)

-- ---- between the phases

-- each render node that was there is there, with its number, and scrolled as it was
abbrev pub KeepsDrawn : Tree RenderObject → Tree RenderObject → Type 0
KeepsDrawn r s =
    (k : Handle) (o : RenderObject) → object_at r k ≡ Some o → (w : RenderObject) × (object_at s k ≡ Some w) × (w.number ≡ o.number) × (w.scroll ≡ o.scroll)
