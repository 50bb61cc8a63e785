use Rattle.std.proofs.Common.{◌∙◌, ap, Some}
use Rattle.delegates.specs.Table.{meant_in}
use Rattle.plain_tree.specs.Laid.{Laid}
use Rattle.layout_form.specs.Object.{setting_of}
use Rattle.kind_rules.specs.Asked.{found_of}
use Rattle.kind_rules.specs.Ruling.{ruling_of}
use Rattle.plain_layout.proofs.Lists.{bare_view}
use Rattle.plain_layout.proofs.Trees.{fits_alone}
use Rattle.plain_layout.proofs.bare.bare_made.Goals as goal

pub make-requires-clause-fits : goal.make-requires-clause-fits
make-requires-clause-fits g c =
    let n = c.node.inside in
    fits_alone n.number n.widget.value c.deref.result.now n.parent_data n.scroll _ n.children.items c.args.node.now c.node.view_is c.deref.ensures
    c.requires.nobody c.requires.fits

pub returns : goal.returns
returns g c =
    let s = setting_of c.args.scale (meant_in c.args.table.now (λ v. (g.dyn-1.0.entry v).1)) in
    let n = c.node.inside in
    c.in_ok-stand.ensures
    ∙ ap (λ (x : Laid). Some x)
    (bare_view s n.number n.widget.value c.deref.result.now c.deref-2.result.now n.parent_data n.scroll c.lazy_count.result n.children.items c.args.node.now c.args.ask
    (found_of c.args.found) (ruling_of c.in_ok-made.made) c.node.view_is c.deref.ensures c.deref-2.ensures c.lazy_count.ensures c.in_ok-made.ensures)
