use Rattle.std.proofs.Common.{false, None, map, refl, ap, ◌∙◌, subst}
use Rattle.node_tree.specs.Forest.{set_value}
use Rattle.node_tree.specs.Tree.{node_at, Is}
use Rattle.widget_model.specs.View.{plain_of, shared}
use Rattle.element_tree.specs.Edits.{with_flag, with_output}
use Rattle.element_tree.specs.Nodes.{IsLike}
use Rattle.build_owner.proofs.Children.{live_element}
use Rattle.renewed_builds.proofs.Stored.{written_there, set_twice, first_given}
use Rattle.renewed_builds.proofs.Mapped.{nodes_then, written_keeps}
use Rattle.renewed_builds.proofs.renewing.store.Goals as goal

pub returns-clause-stored : goal.returns-clause-stored
returns-clause-stored c = λ f is.
    let t = c.args.t.now.tree in
    let h = c.args.h in
    let w = shared c.in_ok-clone.field-0 in
    let e = live_element t h c.requires.live in
    let one = first_given c.args.given.now c.in_ok-clone.field-0 c.index-given-0.result c.requires.one (ap plain_of c.in_ok-clone.ensures.cases) c.index-given-0.is in
    let stored = c.set_output.ensures.output.live e.0 e.1 in
    let cleared = c.clear_dirty.ensures.flag.live (with_output w e.0) (written_there t c.set_output.new.self.tree h e.0 (with_output w e.0) e.1 stored) in
    subst (Is c.clear_dirty.new.self.tree) (set_twice (node_at t) h e.0 w (map shared c.args.given.now) e.1 one None f is.stands)
    (cleared.plain (set_value h (with_output w e.0) f) (stored.plain f is))

pub returns-clause-numbers : goal.returns-clause-numbers
returns-clause-numbers c = λ k.
    let t = c.args.t.now.tree in
    let mid = c.set_output.new.self.tree in
    c.edits_keep_numbers.ensures.changed mid c.clear_dirty.new.self.tree c.args.h k (with_flag false) c.clear_dirty.ensures.flag (λ e. refl)
    ∙ c.edits_keep_numbers.ensures.changed t mid c.args.h k (with_output (shared c.in_ok-clone.field-0)) c.set_output.ensures.output (λ e. refl)

pub returns-clause-keeps : goal.returns-clause-keeps
returns-clause-keeps c =
    let t = c.args.t.now.tree in
    let h = c.args.h in
    let w = shared c.in_ok-clone.field-0 in
    let e = live_element t h c.requires.live in
    let mid = c.set_output.new.self.tree in
    let stored = c.set_output.ensures.output.live e.0 e.1 in
    let there = written_there t mid h e.0 (with_output w e.0) e.1 stored in
    let cleared = c.clear_dirty.ensures.flag.live (with_output w e.0) there in
    let like : IsLike e.0 (with_output w e.0) = record { number = refl; widget = refl; fields = refl; index = refl } in
    let like_more : IsLike (with_output w e.0) (with_flag false (with_output w e.0)) = record { number = refl; widget = refl; fields = refl; index = refl } in
    nodes_then t mid c.clear_dirty.new.self.tree
    (written_keeps t mid h e.0 (with_output w e.0) e.1 like refl stored)
    (written_keeps mid c.clear_dirty.new.self.tree h (with_output w e.0) (with_flag false (with_output w e.0)) there like_more refl cleared)
