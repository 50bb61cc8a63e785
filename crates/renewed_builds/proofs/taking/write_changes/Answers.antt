use Rattle.std.proofs.Common.{◌∷◌, ◌++◌, [], option_map, take, sym, ap, ◌∙◌, subst}
use Rattle.std.proofs.lemmas.List.{take_more, take_all}
use Rattle.std.proofs.lemmas.List.Elements.{All-take}
use Rattle.widget_model.specs.Plain.{PlainWidget}
use Rattle.widget_model.specs.View.{plain_of, shared}
use Rattle.element_tree.specs.Edits.{Changes, with_widget}
use Rattle.element_tree.specs.Fields.{CanFollow}
use Rattle.renewed_builds.specs.Renewing.{Change}
use Rattle.renewed_builds.specs.Taking.{FollowsChange, WritesAll, after_changes}
use Rattle.renewed_builds.proofs.Writing.{writes_none, writes_more, next_follows}
use Rattle.renewed_builds.proofs.taking.write_changes.Goals as goal

pub loop-change-init : goal.loop-change-init
loop-change-init c = writes_none c.args.t.now.tree

pub update-requires : goal.update-requires
update-requires c = λ e at.
    let cs = c.args.changes.now in
    let i = c.loop-change.change-index in
    let x : Change = record { element = c.change.inside.element; at = c.change.inside.at; widget = shared c.change.inside.widget; order = option_map (λ v. v.items) c.change.inside.order } in
    let may = subst (FollowsChange c.args.t.now.tree) (sym (c.change.view_is ∙ c.change-item.is)) (c.requires i c.change-item.result c.loop-change-test.true) in
    let next = next_follows (take i cs) c.args.t.now.tree c.loop-change.t.tree c.loop-change.invariant (All-take (FollowsChange c.args.t.now.tree) i cs c.requires) x may e at in
    subst (λ (w : PlainWidget). CanFollow e.widget w) (ap plain_of (sym c.in_ok-clone.ensures.cases)) next

pub loop-change-preserved : goal.loop-change-preserved
loop-change-preserved c =
    let cs = c.args.changes.now in
    let i = c.loop-change.change-index in
    let old = c.loop-change.t.tree in
    let new = c.update.new.self.tree in
    let x : Change = record { element = c.change.inside.element; at = c.change.inside.at; widget = shared c.change.inside.widget; order = option_map (λ v. v.items) c.change.inside.order } in
    let is_x = c.change.view_is ∙ c.change-item.is in
    let may = subst (FollowsChange c.args.t.now.tree) (sym is_x) (c.requires i c.change-item.result c.loop-change-test.true) in
    let next = next_follows (take i cs) c.args.t.now.tree old c.loop-change.invariant (All-take (FollowsChange c.args.t.now.tree) i cs c.requires) x may in
    let changes = subst (λ (w : PlainWidget). Changes old new x.element (with_widget w)) (ap plain_of c.in_ok-clone.ensures.cases) c.update.ensures.widget in
    let more = writes_more (take i cs) x c.args.t.now.tree old new c.loop-change.invariant changes
    (λ g named. c.edits_keep_names.ensures.changed g old new x.element (with_widget x.widget) changes (λ e at. sym (next e at).updates.key) named) in
    subst (λ l. WritesAll (after_changes l) c.args.t.now.tree new) (ap (λ (y : Change). take i cs ++ y ∷ []) is_x ∙ sym (take_more cs i c.change-item.result c.loop-change-test.true)) more

pub returns : goal.returns
returns c = subst (λ cs. WritesAll (after_changes cs) c.args.t.now.tree c.loop-change.t.tree) (take_all c.loop-change.change-index c.args.changes.now c.loop-change-test.false) c.loop-change.invariant
