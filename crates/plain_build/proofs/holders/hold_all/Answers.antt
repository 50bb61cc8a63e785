use Rattle.std.proofs.Common.{◌≡◌, rules, sym, ap, ◌∙◌, arith}
use Rattle.widget_keys.specs.declared.keys.Key.TheVariants as key
use Rattle.widget_model.specs.Plain.{key_of}
use Rattle.plain_tree.specs.PlainNode.{widget_of}
use Rattle.plain_build.specs.PartnerView.{held}
use Rattle.plain_build.proofs.Holding.{held_more, held_past, not_global}
use Rattle.plain_build.proofs.holders.hold_all.Goals as goal

pub loop-i-preserved-in_ok-insert : goal.loop-i-preserved-in_ok-insert
loop-i-preserved-in_ok-insert c =
    let n = c.index-nodes-i.result in
    let is : c.in_ok-clone.field-0 ≡ c.in-Global.key = search rules in
    let has : key_of (widget_of n.now) ≡ key.Global c.in_ok-clone.field-0 =
    sym (ap (λ m. key_of (widget_of m)) c.node.view_is) ∙ sym (ap (λ w. w.key) c.deref.ensures) ∙ c.in-Global.is ∙ ap key.Global (sym is) in
    held_more c.args.nodes.now _ c.loop-i.i n (omega arith) (omega arith) c.index-nodes-i.is c.loop-i.holders (held c.args.holders.now) c.loop-i.invariant
    c.in_ok-clone.field-0 c.insert.new.self has c.in_ok-insert.ensures.updates

pub loop-i-preserved : goal.loop-i-preserved
loop-i-preserved c =
    let n = c.index-nodes-i.result in
    let same : c.deref.result.now.key ≡ key_of (widget_of n.now) = ap (λ w. w.key) c.deref.ensures ∙ ap (λ m. key_of (widget_of m)) c.node.view_is in
    held_past c.args.nodes.now _ c.loop-i.i n (omega arith) (omega arith) c.index-nodes-i.is c.loop-i.holders (held c.args.holders.now) c.loop-i.invariant
    (not_global (key_of (widget_of n.now)) (λ v e. c.in_default.not-Global v (same ∙ e)))
