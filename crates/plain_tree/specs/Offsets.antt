-- Where a layout says that the Viewports of a tree stand scrolled, and the tree with these offsets.
use Rattle.std.specs.Prelude.{ℕ, ◌==◌, Option, Some, None, if◌then◌else◌}
use Rattle.std.specs.Option.{option_or}
use Rattle.std.specs.BTreeMap.{BTreeMap, get}
use Rattle.std.specs.Ordering.{nat_cmp}
use Rattle.widget_model.specs.Plain.{look_of}
use Rattle.plain_tree.specs.declared.role.RenderRole.{RenderRole}
use Rattle.plain_tree.specs.declared.role.RenderRole.TheVariants.{Composes, Shares, Places, Line, Pile, Lazy, Window, Plain}
use Rattle.plain_tree.specs.RenderRole.{render_role_of}
use Rattle.plain_tree.specs.PlainNode.{PlainNode, node, PlainNodes, no_nodes, more_nodes}
use Rattle.plain_tree.specs.Laid.{Laid, laid, Laids, no_laids, more_laids}

-- what is there of a Viewport, and of no other node
abbrev pub of_window : RenderRole → ℕ → Option ℕ
of_window Window scrolled = Some scrolled
of_window Composes scrolled = None
of_window (Shares flex tight) scrolled = None
of_window (Places placed) scrolled = None
of_window Line scrolled = None
of_window Pile scrolled = None
of_window Lazy scrolled = None
of_window Plain scrolled = None

-- the offset that a layout gives to the Viewport with a number, the last in preorder if there are several, and none where
-- it wasn't laid out
abbrev mutual
  pub offset_at : ℕ → Laid → Option ℕ
  offset_at wanted (laid number look facts children) =
      option_or (offset_in wanted children) (if number == wanted then of_window (render_role_of look) facts.scrolled else None)

  pub offset_in : ℕ → Laids → Option ℕ
  offset_in wanted no_laids = None
  offset_in wanted (more_laids at l ls) = option_or (offset_in wanted ls) (offset_at wanted l)

-- an offset, or, where there is none, what was there before
abbrev pub or_before : Option ℕ → ℕ → ℕ
or_before (Some offset) before = offset
or_before None before = before

-- where a node stands scrolled after a layout: a Viewport that was laid out where the layout says, any other node where it
-- stood
abbrev pub rescrolled : RenderRole → Option ℕ → ℕ → ℕ
rescrolled Window offset before = or_before offset before
rescrolled Composes offset before = before
rescrolled (Shares flex tight) offset before = before
rescrolled (Places placed) offset before = before
rescrolled Line offset before = before
rescrolled Pile offset before = before
rescrolled Lazy offset before = before
rescrolled Plain offset before = before

-- a tree with the offsets that there are
abbrev mutual
  pub scrolled_by : (ℕ → Option ℕ) → PlainNode → PlainNode
  scrolled_by offset (node number widget fields scroll index children) =
      node number widget fields (rescrolled (render_role_of (look_of widget)) (offset number) scroll) index (all_scrolled_by offset children)

  pub all_scrolled_by : (ℕ → Option ℕ) → PlainNodes → PlainNodes
  all_scrolled_by offset no_nodes = no_nodes
  all_scrolled_by offset (more_nodes n ns) = more_nodes (scrolled_by offset n) (all_scrolled_by offset ns)

-- a tree with the offsets that a layout gives
abbrev pub corrected : Laid → PlainNode → PlainNode
corrected l n = scrolled_by (λ number. offset_at number l) n

-- the offset that a map keeps for a number
abbrev pub kept_at : BTreeMap ℕ ℕ → ℕ → Option ℕ
kept_at offsets wanted = get nat_cmp offsets wanted
