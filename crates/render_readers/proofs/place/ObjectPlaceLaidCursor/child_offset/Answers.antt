use Rattle.std.proofs.Common.{◌∙◌, ◌<◌, List, length, ap, subst, option_map}
use Rattle.fx_handles.specs.declared.Handle.{Handle}
use Rattle.node_tree.specs.Tree.{children_at}
use Rattle.laid_cursor.specs.Opened.{offset_of}
use Rattle.render_readers.proofs.Reading.{child_past, child_holds, child_read}
use Rattle.render_readers.proofs.place.ObjectPlaceLaidCursor.child_offset.Goals as goal

pub returns-then-i-below : goal.returns-then-i-below
returns-then-i-below c =
    let t = c.args.self.now.tree.now.tree in
    let h = c.args.self.now.at in
    ap (option_map offset_of) (child_past t h c.args.self.now.below.now c.args.self.now.listed c.args.i (c.child_laws.ensures.listed t h c.stands.ensures) c.if-i-below.true)

pub child_offset-requires : goal.child_offset-requires
child_offset-requires c =
    let t = c.args.self.now.tree.now.tree in
    let h = c.args.self.now.at in
    let z : Handle = record { index = 0; generation = 0 } in
    let within : c.args.i < length (children_at t h) = subst (λ (l : List Handle). c.args.i < length l) c.args.self.now.listed c.if-i-below.false in
    child_holds t h c.args.self.now.below.now c.args.self.now.listed c.args.i z (c.child_laws.ensures.nth t h c.args.i z c.stands.ensures within)

pub returns : goal.returns
returns c =
    let t = c.args.self.now.tree.now.tree in
    let h = c.args.self.now.at in
    let z : Handle = record { index = 0; generation = 0 } in
    let within : c.args.i < length (children_at t h) = subst (λ (l : List Handle). c.args.i < length l) c.args.self.now.listed c.if-i-below.false in
    c.child_offset.ensures
    ∙ ap (option_map offset_of) (child_read t h c.args.self.now.below.now c.args.self.now.listed c.args.i z (c.child_laws.ensures.nth t h c.args.i z c.stands.ensures within))
