use Rattle.std.proofs.Common.{ap, List, map}
use Rattle.plain_tree.specs.Render.{Render}
use Rattle.layout_form.specs.Fits.{data_of}
use Rattle.plain_layout.proofs.Trees.{fits_here}
use Rattle.plain_layout.proofs.rules.finish.Goals as goal

pub made_of-requires-clause-fits : goal.made_of-requires-clause-fits
made_of-requires-clause-fits g c =
    let n = c.node.inside in
    fits_here n.number n.widget.value c.deref.result.now n.parent_data n.scroll _ n.children.items c.args.node.now (map data_of c.children_of.result.now)
    c.node.view_is c.deref.ensures (ap (λ (rs : List Render). map data_of rs) c.children_of.ensures) c.requires.fits
