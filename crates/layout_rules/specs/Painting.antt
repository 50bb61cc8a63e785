-- What a layout leaves for painting: it writes nothing but what the last layout left of nodes, and the nodes that don't look as before
-- ask for painting.
use Rattle.std.specs.Prelude.{◌≡◌, ℕ, zero, suc, ◌+◌, ◌≤◌, Bool, true, false, Option, List, ◌++◌, length}
use Rattle.fx_geom.specs.declared.shapes.Offset.{Offset}
use Rattle.fx_handles.specs.declared.Handle.{Handle}
use Rattle.fx_handles.specs.Handle.{times, Among}
use Rattle.node_tree.specs.Children.{MapsValues}
use Rattle.node_tree.specs.Edits.{KeepsHandles}
use Rattle.node_tree.specs.Tree.{Tree, IsNode, children_at}
use Rattle.plain_tree.specs.declared.laid.Frame.{Frame}
use Rattle.render_tree.specs.declared.layout_state.LayoutState.{LayoutState}
use Rattle.render_tree.specs.LayoutState.{with_layout_state}
use Rattle.render_tree.specs.Marked.{SetsMarks}
use Rattle.render_tree.specs.Marks.{paint_marks}
use Rattle.render_tree.specs.Object.{RenderObject}
use Rattle.layout_rules.specs.Reads.{state_at}

-- every node is as before but for what the last layout left of it
pub record KeepsRest (old new : Tree RenderObject) : Type 0 where
  pub nodes : MapsValues (λ k o. with_layout_state (state_at new k) o) old new
  pub root : new.root ≡ old.root
  pub inactive : new.inactive ≡ old.inactive
  pub handles : KeepsHandles old.nodes new.nodes

-- what painting reads of what a layout left: of a node itself, and of where it stands
pub record PaintedOwn : Type 0 where
  pub frame : Option Frame
  pub plugged : Bool

pub record PaintedPlace : Type 0 where
  pub offset : Option Offset
  pub shown : Bool

abbrev pub own_in : LayoutState → PaintedOwn
own_in u = record { frame = u.frame; plugged = u.plugged }

abbrev pub place_in : LayoutState → PaintedPlace
place_in u = record { offset = u.offset; shown = u.shown }

-- a node looks as before: painting reads of it what it read, and its children stand where they stood
pub record LooksSame (old new : Tree RenderObject) (k : Handle) : Type 0 where
  pub own : own_in (state_at new k) ≡ own_in (state_at old k)
  pub places : (c : Handle) → Among c (children_at old k) → place_in (state_at new c) ≡ place_in (state_at old c)

-- the nodes that don't are listed: one that isn't listed looks as before, and one that is listed once doesn't
pub record Repaints (old new : Tree RenderObject) (hs : List Handle) : Type 0 where
  pub same : (k : Handle) → times k hs ≡ 0 → LooksSame old new k
  pub other : (k : Handle) → times k hs ≡ 1 → LooksSame old new k → ⊥
  pub live : (k : Handle) → Among k hs → IsNode old k

-- a node stands so many levels below another one
abbrev pub IsUnder : Tree RenderObject → ℕ → Handle → Handle → Type 0
IsUnder t zero k h = k ≡ h
IsUnder t (suc n) k h = (c : Handle) × Among c (children_at t h) × IsUnder t n k c

-- the children of a node were put somewhere, and it is known whether one of them stands elsewhere now, came into the window or went out
-- of it
pub record Moves (old new : Tree RenderObject) (h : Handle) (b : Bool) : Type 0 where
  pub rest : KeepsRest old new
  pub own : (k : Handle) → own_in (state_at new k) ≡ own_in (state_at old k)
  pub places : (k : Handle) → (Among k (children_at old h) → ⊥) → place_in (state_at new k) ≡ place_in (state_at old k)
  pub still : b ≡ false → (k : Handle) → place_in (state_at new k) ≡ place_in (state_at old k)
  pub moved : b ≡ true → (c : Handle) × Among c (children_at old h) × (place_in (state_at new c) ≡ place_in (state_at old c) → ⊥)

-- nothing else is written, and the nodes that don't look as before, all at or below a node, are added to a list
pub record Leaves (old new : Tree RenderObject) (h : Handle) (before after : List Handle) : Type 0 where
  pub rest : KeepsRest old new
  pub news : List Handle
  pub added : after ≡ before ++ news
  pub repaints : Repaints old new news
  pub under : (k : Handle) → Among k news → (n : ℕ) × IsUnder old n k h

-- then the nodes that don't look as before, each listed once, get their marks for painting, and nothing else changes
pub record PaintsAnew (old new : Tree RenderObject) : Type 0 where
  pub laid : Tree RenderObject
  pub changed : List Handle
  pub rest : KeepsRest old laid
  pub repaints : Repaints old laid changed
  pub marks : SetsMarks paint_marks true changed laid new
  pub once : (k : Handle) → times k changed ≤ 1

-- and no more nodes look otherwise than rules were run: where none was run, nothing is marked
pub record PaintsFew (old new : Tree RenderObject) (before after : ℕ) : Type 0 where
  pub paints : PaintsAnew old new
  pub few : length paints.changed + before ≤ after
