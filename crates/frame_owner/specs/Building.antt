-- What the build of a frame comes to, on the trees that are kept.
use Rattle.std.specs.Prelude.{◌≡◌, ℕ, ◌+◌, ◌≤◌, false, Option, Some, IfSome, List, []}
use Rattle.std.specs.List.{All}
use Rattle.fx_handles.specs.Arena.{used_count}
use Rattle.delegates.specs.Table.{Plug}
use Rattle.node_tree.specs.Tree.{Tree}
use Rattle.widget_model.specs.Plain.{PlainWidget}
use Rattle.program_check.specs.Checked.{PlainChecked}
use Rattle.plain_tree.specs.PlainNode.{PlainNode, count_of}
use Rattle.plain_tree.specs.Projection.{render_of}
use Rattle.layout_form.specs.Fits.{CanBeLaidOut}
use Rattle.layout_form.specs.Object.{setting_of}
use Rattle.build_form.specs.FullBuild.{Screen, built, first_tree, full_build}
use Rattle.build_form.specs.Program.{blueprint_of}
use Rattle.element_tree.specs.Element.{Element}
use Rattle.global_keys.specs.Holders.{Registry}
use Rattle.render_tree.specs.Object.{RenderObject}
use Rattle.render_tree.specs.Plain.{renders_of, root_tree}
use Rattle.render_sync.specs.Numbering.{NumbersDiffer}
use Rattle.kept_layouts.specs.Here.{KeepsLayouts}
use Rattle.kept_layouts.specs.Items.{AllListsUnasked}
use Rattle.paint_owner.specs.PaintOwner.{PaintOwner}
use Rattle.kept_phases.specs.Layers.{KeepsLayers}
use Rattle.kept_phases.specs.Lists.{StaysBuilt, FlushesLists}
use Rattle.kept_phases.specs.Redraws.{Redraws}
use Rattle.work_sets.specs.Work.{made_first, render_root}
use Rattle.build_owner.specs.Phases.{IsFirstPhase}
use Rattle.build_owner.specs.Standing.{StandsFor, Beginning, next_at}
use Rattle.build_owner.specs.Waiting.{WaitingBuild}
use Rattle.frame_owner.specs.Frame.{KeptFrame, next_in}
use Rattle.frame_owner.specs.Standing.{FrameStandsFor}
use Rattle.frame_owner.specs.Framed.{built_after}
use Rattle.frame_owner.specs.Framed.{builds_after as builds_in}
use Rattle.frame_owner.specs.Working.{CountsLists, BuildBrings}

-- the layers that are kept stay right: on a screen, whichever they are
abbrev pub LayersStay : Screen → Tree RenderObject → Tree RenderObject → Type 0
LayersStay screen old new = (o : PaintOwner) → KeepsLayers screen.scale.cell screen.delegates o old → KeepsLayers screen.scale.cell screen.delegates o new

-- a build gave a tree, for which the elements, the render nodes and the registry stand, nothing of it marked
pub record GivesTree (c : PlainChecked) (screen : Screen) (old : Option PlainNode) (next : ℕ) (root : PlainWidget) (scrolled : ℕ → ℕ) (t : Tree Element) (r : Tree RenderObject) (g : Registry) : Type 0 where
  pub tree : PlainNode
  pub is : full_build (blueprint_of c) screen old next root ≡ built tree (next_at t)
  pub stands : StandsFor c [] (Some tree) scrolled t r g
  -- the layouts that are kept are right but for what is marked, and no lazy list is asked how much it would like
  pub layouts : KeepsLayouts (setting_of screen.scale screen.delegates) r
  pub unasked : AllListsUnasked false (renders_of (root_tree r))
  pub used : used_count t.nodes ≡ count_of tree
  pub used_drawn : used_count r.nodes ≤ count_of tree

-- the whole build, from the trees that were kept
pub record BuildsTree (c : PlainChecked) (screen : Screen) (old : Option PlainNode) (next : ℕ) (root : PlainWidget) (scrolled : ℕ → ℕ) (was : Tree RenderObject) (t : Tree Element) (r : Tree RenderObject) (g : Registry)
    (layouts_before layouts_after : ℕ) : Type 0 where
  pub gives : GivesTree c screen old next root scrolled t r g
  pub layers : LayersStay screen was r
  pub brings : BuildBrings (setting_of screen.scale screen.delegates) screen.view was r (render_root gives.tree) layouts_before layouts_after

-- ---- between the phases

-- lazy lists wait for their items: the first phase of a build was made, from these trees, where the tree for which they stand could be laid
-- out, and no lazy list was asked how much it would like
pub record WaitsForItems (c : PlainChecked) (t : Tree Element) (r : Tree RenderObject) (g : Registry) (l : WaitingBuild) : Type 0 where
  pub elements : Tree Element
  pub renders : Tree RenderObject
  pub registry : Registry
  pub begun : Beginning c elements renders registry
  pub root : PlainWidget
  pub phase : IsFirstPhase c elements renders registry begun root t r g l
  pub could : IfSome begun.old (λ n. All CanBeLaidOut (render_of n))
  pub unasked : AllListsUnasked false (renders_of (root_tree renders))

-- the lists were laid out, and got their items
pub record BuildsItems (c : PlainChecked) (screen : Screen) (old : Option PlainNode) (next : ℕ) (root : PlainWidget) (scrolled : ℕ → ℕ) (mid : Tree RenderObject) (t : Tree Element) (r : Tree RenderObject) (g : Registry)
    (layouts_before layouts_after : ℕ) : Type 0 where
  pub gives : GivesTree c screen old next root scrolled t r g
  pub layers : LayersStay screen mid r
  pub ranged : Tree RenderObject
  pub stays : StaysBuilt mid ranged
  pub flushes : FlushesLists (setting_of screen.scale screen.delegates) screen.view mid ranged
  pub counts : CountsLists (setting_of screen.scale screen.delegates) screen.view mid layouts_before layouts_after
  pub second : Redraws ranged r
  pub apart : NumbersDiffer second.made

-- ---- of all that is kept

-- the build of a root after a tree for which the owner stands: it gave a tree, for which the owner stands then, nothing of it marked, and
-- to whose render nodes those of the owner were brought
pub record BuildsFrame (c : PlainChecked) (screen : Screen) (old : Option PlainNode) (root : PlainWidget) (x y : KeptFrame) (layouts_before layouts_after : ℕ) : Type 0 where
  pub tree : PlainNode
  pub is : built_after c screen x old root ≡ built tree (next_in y)
  pub stands : FrameStandsFor c screen.delegates [] (Some tree) y
  pub brings : BuildBrings (setting_of screen.scale screen.delegates) screen.view x.screen.nodes y.screen.nodes (render_root tree) layouts_before layouts_after

-- what is left to build once a build went on alone: the owner stands for a tree from which a build comes to the same, in both phases, with what
-- is left of the marks, and what was built meanwhile is what the build of it builds the less
pub record LeavesBuild (c : PlainChecked) (delegates : List Plug) (marks : List ℕ) (tree : Option PlainNode) (root : PlainWidget) (x y : KeptFrame) (builds_before builds_after : ℕ) : Type 0 where
  pub now : Option PlainNode
  pub left : List ℕ
  pub stands : FrameStandsFor c delegates left now y
  pub full : (screen : Screen) → built_after c screen x tree root ≡ built_after c screen x now root
  pub first : (screen : Screen) → made_first (blueprint_of c) screen tree (first_tree (blueprint_of c) tree (next_in x) root) ≡ made_first (blueprint_of c) screen now (first_tree (blueprint_of c) now (next_in x) root)
  pub builds : (screen : Screen) → builds_after + builds_in c screen x now left root ≡ builds_before + builds_in c screen x tree marks root
