use Rattle.std.proofs.Common.{◌≡◌, ap, Some, rules}
use Rattle.delegates.specs.Table.{meant_in}
use Rattle.plain_tree.specs.Laid.{Laid}
use Rattle.layout_form.specs.Object.{setting_of}
use Rattle.plain_layout.proofs.Lists.{stand_view}
use Rattle.plain_layout.proofs.bare.stand.Goals as goal

pub returns : goal.returns
returns g c =
    let s = setting_of c.args.scale (meant_in c.args.table.now (λ v. (g.dyn-1.0.entry v).1)) in
    let n = c.node.inside in
    let same : c.in_ok-clone.field-0.value ≡ n.widget.value = search rules in
    ap (λ (x : Laid). Some x)
    (stand_view s n.number n.widget.value c.in_ok-clone.field-0.value c.deref.result.now n.parent_data n.scroll n.children.items c.args.node.now
    c.args.frame c.args.notes c.args.scrolled c.is_plugged.result c.new.result.items c.node.view_is same c.deref.ensures c.is_plugged.ensures c.new.ensures.items)
