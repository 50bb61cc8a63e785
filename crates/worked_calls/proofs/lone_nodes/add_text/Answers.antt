use Rattle.worked_calls.proofs.Lone.{lone_made}
use Rattle.worked_calls.proofs.lone_nodes.add_text.Goals as goal

pub returns : goal.returns
returns g c =
    let (mid, made, same) = c.in_ok-h.ensures.inserted in
    lone_made c.args.tree.now.tree mid c.insert.new.self.tree c.in_ok-h.h 1 _ c.requires made same c.in_ok-widget.ensures
