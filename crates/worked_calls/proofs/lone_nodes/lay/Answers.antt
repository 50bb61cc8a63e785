use Rattle.worked_calls.proofs.Lone.{lone_ready, lone_stands}
use Rattle.worked_calls.proofs.lone_nodes.lay.Goals as goal

pub lay_outer-requires : goal.lay_outer-requires
lay_outer-requires g c =
    let t = c.args.tree.now.tree in
    lone_ready t c.args.h c.requires _ _ (c.layouts_see_render_nodes.ensures.stands t c.args.h _ (lone_stands t c.args.h c.requires))

pub lay_one-requires : goal.lay_one-requires
lay_one-requires g c =
    let t = c.args.tree.now.tree in
    lone_ready t c.args.h c.requires _ _ (c.layouts_see_render_nodes.ensures.stands t c.args.h _ (lone_stands t c.args.h c.requires))
