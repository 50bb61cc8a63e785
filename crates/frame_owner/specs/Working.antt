-- What a frame does to the render nodes, and what it counts.
use Rattle.std.specs.Prelude.{◌≡◌, ℕ, ◌+◌, ◌≤◌, ◌⊎◌, nat_lt, true, false, Option}
use Rattle.fx_geom.specs.declared.shapes.Size.{Size}
use Rattle.node_tree.specs.Forest.{Forest}
use Rattle.node_tree.specs.Tree.{Tree}
use Rattle.widget_model.specs.Plain.{PlainWidget}
use Rattle.widget_model.specs.Size.{count_of}
use Rattle.plain_tree.specs.PlainNode.{PlainNode}
use Rattle.plain_tree.specs.Render.{Render, no_renders, more_renders}
use Rattle.program_check.specs.Checked.{PlainChecked}
use Rattle.layout_form.specs.Object.{Setting, setting_of}
use Rattle.layout_walk.specs.Flush.{ticks}
use Rattle.layout_walk.specs.Rules.{parts_of}
use Rattle.layout_walk.specs.Work.{due_count}
use Rattle.layout_owner.specs.Roots.{rooted, view_asks, IsAskedAs, Good}
use Rattle.build_form.specs.Entering.{output_limit}
use Rattle.build_form.specs.FullBuild.{Screen, Built, failed, built, first_tree}
use Rattle.build_form.specs.Program.{blueprint_of}
use Rattle.render_tree.specs.Object.{RenderObject}
use Rattle.render_tree.specs.Plain.{renders_of, root_tree}
use Rattle.render_tree.specs.Redraw.{Redraw}
use Rattle.render_sync.specs.Numbering.{NumbersDiffer}
use Rattle.kept_layouts.specs.Items.{all_without_items, ListsUnasked}
use Rattle.kept_phases.specs.Lists.{StaysBuilt, FlushesLists}
use Rattle.kept_phases.specs.Parts.{RedrawsPart}
use Rattle.kept_phases.specs.Redraws.{Redraws}
use Rattle.screen_owner.specs.Changes.{AreKindsSo}
use Rattle.screen_owner.specs.Standing.{StandsAlone}
use Rattle.screen_owner.specs.Steps.{Brings, FrameSteps}
use Rattle.versioned_kinds.specs.Lists.{RenderHasNoLists}
use Rattle.work_sets.specs.Work.{first_made, made_first, render_root}
use Rattle.build_walk.specs.Merging.{lists_redraw, AreBare}
use Rattle.build_owner.specs.Staying.{with_items}

-- a layout of the lazy lists of a first phase counts at most the rules that it runs where a node is due, or is asked in other bounds, and so
-- at most the nodes that are due
pub record CountsLists (s : Setting) (view : Size) (mid : Tree RenderObject) (layouts_before layouts_after : ℕ) : Type 0 where
  pub ticks : layouts_after ≤ layouts_before + ticks (parts_of s) true (view_asks view) (rooted (root_tree mid))
  pub due : IsAskedAs view (root_tree mid) → layouts_after ≤ layouts_before + due_count (rooted (root_tree mid))

-- Lazy lists waited for their items: the render nodes of the first phase are brought, by a plan that leaves below each lazy list those of
-- its items that it doesn't claim. Beside them stay those that aren't planned, no two of all with one number; and its lists are laid out.
pub record LaysLists (s : Setting) (view : Size) (nodes : Tree RenderObject) (layouts_before layouts_after : ℕ) : Type 0 where
  pub before : StandsAlone nodes
  pub mid : Tree RenderObject
  pub first : RedrawsPart nodes mid
  pub drawn : Forest Redraw
  pub items : first.updates ≡ with_items first.made drawn
  pub bare : AreBare lists_redraw drawn
  pub differ : NumbersDiffer mid
  pub good : Good s (root_tree mid)
  pub counts : CountsLists s view mid layouts_before layouts_after

-- then all nodes of the build are brought, which are RepaintBoundaries where those of the last frame with their numbers are. But for what is
-- below lazy lists, it is these that were laid out before. A lazy list is among them, and none is asked how much it would like
pub record BringsInPhases (s : Setting) (view : Size) (nodes brought : Tree RenderObject) (top : Render) (layouts_before layouts_after : ℕ) : Type 0 where
  pub kinds : AreKindsSo nodes top
  pub lists : LaysLists s view nodes layouts_before layouts_after
  pub outer : all_without_items (renders_of (root_tree lists.mid)) ≡ all_without_items (more_renders top no_renders)
  pub ranged : Tree RenderObject
  pub stays : StaysBuilt lists.mid ranged
  pub flushes : FlushesLists s view lists.mid ranged
  pub second : Redraws ranged brought
  pub apart : NumbersDiffer second.made
  pub after : StandsAlone brought
  pub renders : renders_of (root_tree brought) ≡ more_renders top no_renders
  pub unasked : ListsUnasked false top
  pub waited : RenderHasNoLists top → ⊥

-- a build brings the render nodes to those of its tree: at once, or in both phases, between which alone something is laid out
abbrev pub BuildBrings : Setting → Size → Tree RenderObject → Tree RenderObject → Render → ℕ → ℕ → Type 0
BuildBrings s view nodes brought top before after = (Brings nodes brought top × (after ≡ before)) ⊎ BringsInPhases s view nodes brought top before after

-- they are brought in both phases; then it is a frame that brings nothing more, whose nodes are those that were brought
pub record PhasedSteps (s : Setting) (view : Size) (nodes : Tree RenderObject) (top : Render) (now : Tree RenderObject) (layouts_before layouts_after paints_before paints_after : ℕ) : Type 0 where
  pub brought : Tree RenderObject
  pub layouts_between : ℕ
  pub brings : BringsInPhases s view nodes brought top layouts_before layouts_between
  pub shows : FrameSteps s view brought top now layouts_between layouts_after paints_before paints_after
  pub same : shows.brought ≡ brought

-- what a frame does by what its build gives: nothing of it is said of a fault
abbrev pub FrameWorks : Setting → Size → Built → Tree RenderObject → Tree RenderObject → ℕ → ℕ → ℕ → ℕ → Type 0
FrameWorks s view (failed fault) nodes now layouts_before layouts_after paints_before paints_after = ⊥
FrameWorks s view (built tree next) nodes now layouts_before layouts_after paints_before paints_after =
    FrameSteps s view nodes (render_root tree) now layouts_before layouts_after paints_before paints_after
    ⊎ PhasedSteps s view nodes (render_root tree) now layouts_before layouts_after paints_before paints_after

-- the second phase of a build came to a fault: there is the tree of the first one, whose lists were laid out. But for what is below them,
-- it is its render nodes that were
pub record LaysFirst (c : PlainChecked) (screen : Screen) (old : Option PlainNode) (next : ℕ) (root : PlainWidget) (nodes : Tree RenderObject) (layouts_before layouts_after : ℕ) : Type 0 where
  pub tree : PlainNode
  pub small : nat_lt output_limit (count_of root) ≡ false
  pub is : made_first (blueprint_of c) screen old (first_tree (blueprint_of c) old next root) ≡ first_made tree
  pub lists : LaysLists (setting_of screen.scale screen.delegates) screen.view nodes layouts_before layouts_after
  pub outer : all_without_items (renders_of (root_tree lists.mid)) ≡ all_without_items (more_renders (render_root tree) no_renders)

-- up to a fault nothing was laid out, or the lists of the first phase alone
abbrev pub LaidForFault : PlainChecked → Screen → Option PlainNode → ℕ → PlainWidget → Tree RenderObject → ℕ → ℕ → Type 0
LaidForFault c screen old next root nodes before after = (after ≡ before) ⊎ LaysFirst c screen old next root nodes before after
