-- The views of lazy lists by number.
use Rattle.std.specs.Prelude.{◌≡◌, ℕ, ◌==◌, true, if◌then◌else◌, Option, Some, None, List, [], ◌∷◌}
use Rattle.std.specs.Option.{option_or}
use Rattle.fx_handles.specs.declared.Handle.{Handle}
use Rattle.node_tree.specs.Tree.{Tree}
use Rattle.sliver_layout.specs.declared.protocol.SliverBounds.{SliverBounds}
use Rattle.sliver_layout.specs.declared.protocol.Window.{Window}
use Rattle.sliver_layout.specs.Lists.{nothing}
use Rattle.plain_tree.specs.declared.laid.Frame.{Frame}
use Rattle.plain_tree.specs.Laid.{Laid, laid, Laids, no_laids, more_laids}
use Rattle.layout_form.specs.Live.{view_of_frame}
use Rattle.render_tree.specs.Object.{RenderObject}
use Rattle.render_tree.specs.Tree.{object_at}
use Rattle.layout_walk.specs.Items.{lists_in}
use Rattle.layout_walk.specs.Rules.{is_list}

-- the view of the last with a number among lists that were laid out
abbrev pub view_among : ℕ → List (ℕ × Frame) → Option SliverBounds
view_among wanted [] = None
view_among wanted (l ∷ ls) = option_or (view_among wanted ls) (if l.0 == wanted then view_of_frame l.1 else None)

-- no list stands among the items of another
abbrev mutual
  pub IsUnnested : Laid → Type 0
  IsUnnested (laid number look facts children) = (is_list look ≡ true → lists_in is_list children ≡ []) × AreUnnested children

  pub AreUnnested : Laids → Type 0
  AreUnnested no_laids = Unit {0}
  AreUnnested (more_laids at l ls) = IsUnnested l × AreUnnested ls

-- the numbers of lists that were laid out
abbrev pub list_numbers : List (ℕ × Frame) → List ℕ
list_numbers [] = []
list_numbers (l ∷ ls) = l.0 ∷ list_numbers ls

-- nodes with the same number are one
abbrev pub NumbersTell : Tree RenderObject → Type 0
NumbersTell t = (j k : Handle) (a b : RenderObject) → object_at t j ≡ Some a → object_at t k ≡ Some b → a.number ≡ b.number → j ≡ k

-- a live range as it is read: nothing is live of a list without one
abbrev pub live_or_nothing : Option Window → Window
live_or_nothing None = nothing
live_or_nothing (Some range) = range
