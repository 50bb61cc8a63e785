-- Nodes in the window after a layout: they have frames and places, and delegates that are plugged as this layout found them.
use Rattle.std.proofs.Common.{◌≡◌, Option, Some, None, option_map, refl, ap, ◌∙◌, subst}
use Rattle.fx_handles.specs.ArenaLaws.{same_Some}
use Rattle.node_tree.specs.Forest.{Forest}
use Rattle.node_tree.specs.Forest.Forest.{none, tree}
use Rattle.plain_tree.specs.declared.laid.Facts.{Facts}
use Rattle.plain_tree.specs.declared.laid.Frame.{Frame}
use Rattle.layout_form.specs.declared.asks.Ask.{Ask}
use Rattle.layout_form.specs.declared.asks.Ask.TheVariants.{AsBox, AsSliver}
use Rattle.layout_form.specs.Layout.{delegate_of, is_plugged}
use Rattle.layout_form.specs.Object.{Setting}
use Rattle.layout_owner.specs.Calm.{IsLaidCalm}
use Rattle.layout_rules.specs.Nodes.{layout_node, layout_nodes}
use Rattle.layout_walk.specs.Full.{made_at}
use Rattle.layout_walk.specs.Here.{HereAll, IsGiven}
use Rattle.layout_walk.specs.Node.{LayoutNode, facts_with, stored}
use Rattle.layout_walk.specs.Rule.{made_by}
use Rattle.layout_walk.specs.Rules.{parts_of}
use Rattle.render_tree.specs.Object.{RenderObject}
use Rattle.layout_owner.specs.Left.{LeftIf, AreLeft}
use Rattle.counted_work.specs.Shows.{ArePutSo}

rule_plugged : (s : Setting) (v : LayoutNode) (ask : Ask) (kids : Forest LayoutNode) → (made_at (parts_of s) v ask kids (stored kids)).facts.plugged ≡ is_plugged s.delegates (delegate_of v.look)
unfolding made_by
rule_plugged s v (AsBox b) kids = refl
rule_plugged s v (AsSliver b) kids = refl

stored_plugged : (v : LayoutNode) (o : Option Frame) (facts : Facts) → option_map (facts_with v) o ≡ Some facts → v.plugged ≡ facts.plugged
stored_plugged v None facts e = absurd (cc)
stored_plugged v (Some frame) facts e = ap (λ (x : Facts). x.plugged) (same_Some e)

given_plugged : (s : Setting) (v : LayoutNode) (kids : Forest LayoutNode) → IsGiven (parts_of s) v kids (stored kids) → v.plugged ≡ is_plugged s.delegates (delegate_of v.look)
given_plugged s v kids given = stored_plugged v v.frame (made_at (parts_of s) v given.ask kids (stored kids)).facts given.gives.facts ∙ rule_plugged s v given.ask kids

pub put_so : (s : Setting) (f g : Forest RenderObject) → HereAll (parts_of s) (layout_nodes g) → IsLaidCalm g → AreLeft (layout_nodes f) (layout_nodes g) → ArePutSo s.delegates g
put_so s none none here calm left = tt
put_so s none (tree k w under rest) here calm left = absurd left
put_so s (tree h v kids more) none here calm left = tt
put_so s (tree h v kids more) (tree k w under rest) here calm left = (
  (λ shown.
      let inner = subst (λ x. LeftIf x (layout_node v) (layout_nodes kids) (layout_node w) (layout_nodes under) (AreLeft (layout_nodes kids) (layout_nodes under))) shown left.1 in
      let quiet = calm.0 shown in (
        record { framed = inner.0.framed; placed = inner.0.placed; plugged = given_plugged s (layout_node w) (layout_nodes under) (here.0.consistent quiet.0) },
        put_so s kids under here.1 quiet.1 inner.1,
      )),
  put_so s more rest here.2 calm.1 left.2,
)
