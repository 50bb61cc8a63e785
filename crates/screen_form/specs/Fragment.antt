-- What a laid node and those below it give to the semantics node above them: a fragment of its semantics.
use Rattle.std.specs.Prelude.{ℕ, Bool, false, ◌||◌, Option, Some, None, List, [], ◌∷◌, ◌++◌, if◌then◌else◌}
use Rattle.std.specs.List.{join_with_byte}
use Rattle.fx_geom.specs.Offset.{offset_sum}
use Rattle.fx_geom.specs.declared.shapes.Offset.{Offset}
use Rattle.fx_geom.specs.declared.shapes.Rect.{Rect}
use Rattle.plain_tree.specs.declared.laid.Frame.{Frame}
use Rattle.std.specs.Option.{option_or}
use Rattle.plain_tree.specs.Laid.{Laid, laid, Laids, no_laids, more_laids}
use Rattle.plain_tree.specs.Shown.{shown_size}
use Rattle.screen_form.specs.SemanticsRole.{SemanticsRole, hides, says, forms, merges, semantics_role}
use Rattle.screen_form.specs.Sem.{Sem, sem, Sems, no_sems, more_sems, sems_of}

-- labels, joined by U+000A; an empty one adds nothing
abbrev pub without_empty : List (List ℕ) → List (List ℕ)
without_empty [] = []
without_empty ([] ∷ labels) = without_empty labels
without_empty ((b ∷ bytes) ∷ labels) = (b ∷ bytes) ∷ without_empty labels

abbrev pub joined : List (List ℕ) → List ℕ
joined labels = join_with_byte 10 (without_empty labels)

-- a node's label and those of all nodes below it, in preorder
abbrev mutual
  pub labels_of : Sem → List (List ℕ)
  labels_of (sem id rect label button tap long children) = label ∷ labels_in children

  pub labels_in : Sems → List (List ℕ)
  labels_in no_sems = []
  labels_in (more_sems s ss) = labels_of s ++ labels_in ss

-- whether a node or one below it is a button
abbrev mutual
  pub has_button : Sem → Bool
  has_button (sem id rect label button tap long children) = button || has_button_in children

  pub has_button_in : Sems → Bool
  has_button_in no_sems = false
  has_button_in (more_sems s ss) = has_button s || has_button_in ss

-- the first detector in preorder that does a tap, and the first that does a long press
abbrev mutual
  pub first_tap : Sem → Option ℕ
  first_tap (sem id rect label button tap long children) = option_or tap (first_tap_in children)

  pub first_tap_in : Sems → Option ℕ
  first_tap_in no_sems = None
  first_tap_in (more_sems s ss) = option_or (first_tap s) (first_tap_in ss)

abbrev mutual
  pub first_long : Sem → Option ℕ
  first_long (sem id rect label button tap long children) = option_or long (first_long_in children)

  pub first_long_in : Sems → Option ℕ
  first_long_in no_sems = None
  first_long_in (more_sems s ss) = option_or (first_long s) (first_long_in ss)

-- what is given, in paint order: labels; labels as a MergeSemantics takes them, which has those of semantics nodes too,
-- each at its node's place; whether there is a button that no semantics node has taken; and semantics nodes
pub record Fragment : Type 0 where
  pub labels : List (List ℕ)
  pub merged : List (List ℕ)
  pub button : Bool
  pub nodes : List Sem

abbrev pub nothing : Fragment
nothing = record { labels = []; merged = []; button = false; nodes = [] }

abbrev pub together : Fragment → Fragment → Fragment
together a b = record { labels = a.labels ++ b.labels; merged = a.merged ++ b.merged; button = a.button || b.button; nodes = a.nodes ++ b.nodes }

-- what a node says itself
abbrev pub own : List ℕ → Bool → Fragment
own label button = record { labels = label ∷ []; merged = label ∷ []; button = button; nodes = [] }

-- a semantics node passes on only itself
abbrev pub alone : Sem → Fragment
alone s = record { labels = []; merged = labels_of s; button = false; nodes = s ∷ [] }

-- a detector is known by its number
abbrev pub number_where : Bool → ℕ → Option ℕ
number_where acts number = if acts then Some number else None

-- the semantics node that takes what is given
abbrev pub node_of : ℕ → Rect → Option ℕ → Option ℕ → Fragment → Sem
node_of id rect tap long g = sem id rect (joined g.labels) g.button tap long (sems_of g.nodes)

-- the one that takes all of it, and has no nodes below it
abbrev pub merged_of : ℕ → Rect → Fragment → Sem
merged_of id rect g =
    let nodes = sems_of g.nodes in
    sem id rect (joined g.merged) (g.button || has_button_in nodes) (first_tap_in nodes) (first_long_in nodes) no_sems

-- what a node gives of what is below it, by what it is
abbrev pub fragment_by : SemanticsRole → ℕ → Rect → Fragment → Fragment
fragment_by hides number rect below = nothing
fragment_by (says label button) number rect below = together (own label button) below
fragment_by (forms label button tap long) number rect below =
    alone (node_of number rect (number_where tap number) (number_where long number) (together (own label button) below))
fragment_by merges number rect below = alone (merged_of number rect below)

-- the rectangle that a node takes of the view: of a sliver what is seen of it
abbrev pub rect_at : Offset → Frame → Rect
rect_at at frame = record { at = at; size = shown_size frame }

-- what a node gives that stands at a point of the view
unfoldable mutual
  pub fragment_of : Laid → Offset → Fragment
  fragment_of (laid number look facts children) at =
      fragment_by (semantics_role look facts.frame) number (rect_at at facts.frame) (fragment_in children at)

  -- what nodes give that stand in one at a point
  pub fragment_in : Laids → Offset → Fragment
  fragment_in no_laids at = nothing
  fragment_in (more_laids by l ls) at = together (fragment_of l (offset_sum at by)) (fragment_in ls at)
