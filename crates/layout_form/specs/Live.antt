-- The live ranges of lazy lists, by a laid tree (SliverMultiBoxAdaptor with a cache extent).
use Rattle.std.specs.Prelude.{ℕ, ◌==◌, Option, Some, None, if◌then◌else◌}
use Rattle.std.specs.Option.{option_or}
use Rattle.sliver_layout.specs.declared.protocol.SliverBounds.{SliverBounds}
use Rattle.sliver_layout.specs.declared.protocol.Window.{Window}
use Rattle.sliver_layout.specs.Lists.{nothing, live_of}
use Rattle.plain_tree.specs.declared.laid.Frame.{Frame}
use Rattle.plain_tree.specs.declared.laid.Frame.TheVariants.{Boxed, Sliver}
use Rattle.plain_tree.specs.declared.role.RenderRole.{RenderRole}
use Rattle.plain_tree.specs.declared.role.RenderRole.TheVariants as role
use Rattle.plain_tree.specs.RenderRole.{render_role_of}
use Rattle.plain_tree.specs.Laid.{Laid, laid, Laids, no_laids, more_laids}

-- the view of a sliver; a box has none
abbrev pub view_of_frame : Frame → Option SliverBounds
view_of_frame (Boxed bounds size) = None
view_of_frame (Sliver bounds geometry) = Some bounds

-- what is there of a SliverLazy, and of no other node
abbrev pub of_lazy : RenderRole → Option SliverBounds → Option SliverBounds
of_lazy role.Lazy view = view
of_lazy role.Composes view = None
of_lazy (role.Shares flex tight) view = None
of_lazy (role.Places placed) view = None
of_lazy role.Line view = None
of_lazy role.Pile view = None
of_lazy role.Window view = None
of_lazy role.Plain view = None

-- the view in which the SliverLazy with a number was laid out, the last in preorder if there are several, and none where
-- it wasn't laid out
abbrev mutual
  pub lazy_view_at : ℕ → Laid → Option SliverBounds
  lazy_view_at wanted (laid number look facts children) =
      option_or (lazy_view_in wanted children) (if number == wanted then of_lazy (render_role_of look) (view_of_frame facts.frame) else None)

  pub lazy_view_in : ℕ → Laids → Option SliverBounds
  lazy_view_in wanted no_laids = None
  lazy_view_in wanted (more_laids at l ls) = option_or (lazy_view_in wanted ls) (lazy_view_at wanted l)

-- the live range of a list of so many children of one extent that was laid out in a view; one that wasn't has none
abbrev pub live_in : Option SliverBounds → ℕ → ℕ → ℕ → Window
live_in None extent count widen = nothing
live_in (Some view) extent count widen = live_of view extent count widen
