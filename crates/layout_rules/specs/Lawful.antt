-- What is known of a layout's rules.
use Rattle.std.specs.Prelude.{◌≡◌, map}
use Rattle.node_tree.specs.Forest.{Forest}
use Rattle.sliver_layout.specs.declared.protocol.SliverBounds.{SliverBounds}
use Rattle.sliver_layout.specs.Slivers.{geometry_of}
use Rattle.widget_model.specs.Look.{Look}
use Rattle.plain_tree.specs.Render.{Render}
use Rattle.layout_form.specs.declared.asks.Ask.{Ask}
use Rattle.layout_form.specs.Framed.{framed, EndsInRange}
use Rattle.layout_form.specs.Layout.{object, objects as objects_of}
use Rattle.layout_form.specs.Object.{Setting, geometry_in}
use Rattle.layout_form.specs.SliverRule.{unseen}
use Rattle.layout_walk.specs.Full.{objects}
use Rattle.layout_walk.specs.Node.{LayoutNode, members, renders_in}
use Rattle.layout_walk.specs.Rule.{Lawful}
use Rattle.layout_walk.specs.Rules.{parts_of, liked_in}

-- children answer as their render nodes do
abbrev pub AnswerAsRenders : Type 0
AnswerAsRenders = (s : Setting) (f : Forest LayoutNode) → objects (parts_of s) f ≡ map framed (objects_of s (renders_in f))

-- how much of an IntrinsicWidth's or IntrinsicHeight's child would like, by render nodes or by members
abbrev pub LikesAlike : Type 0
LikesAlike = (s : Setting) (look : Look) (ask : Ask) (f : Forest LayoutNode) → liked_in s look ask (members f) ≡ liked_in s look ask (renders_in f)

-- what a sliver answers in a view follows from how far it can be scrolled through
abbrev pub FollowScrolls : Type 0
FollowScrolls = (s : Setting) (r : Render) (b : SliverBounds) → EndsInRange b
    → geometry_in ((object s r).in_view b) ≡ geometry_of b (geometry_in ((object s r).in_view (unseen b.axis b.cross))).scroll

-- the rules are lawful, and children answer as their render nodes do
pub record Laws (s : Setting) : Type 0 where
  pub lawful : Lawful (parts_of s)
  pub renders : AnswerAsRenders
  pub likes : LikesAlike
  pub follow : FollowScrolls
