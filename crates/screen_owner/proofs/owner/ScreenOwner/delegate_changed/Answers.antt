use Rattle.std.proofs.Common.{true, List, sym, ap, subst, ◌∙◌, ◌≡◌, ◌↔◌}
use Rattle.std.specs.List.{All}
use Rattle.fx_handles.specs.declared.Handle.{Handle}
use Rattle.fx_handles.specs.Handle.{Among}
use Rattle.node_tree.specs.Tree.{IsNode}
use Rattle.delegates.specs.Table.{with_meaning}
use Rattle.layout_form.specs.Object.{setting_of}
use Rattle.render_tree.specs.Marked.{SetsMarks}
use Rattle.render_tree.specs.Marks.{layout_marks, paint_marks}
use Rattle.render_tree.specs.Plain.{renders_of, root_tree}
use Rattle.render_tree.specs.Users.{uses}
use Rattle.screen_owner.specs.Changes.{MarksUsers}
use Rattle.screen_owner.specs.Screen.{KeptScreen, IsRight, shown_in}
use Rattle.screen_owner.specs.Standing.{StandsAlone}
use Rattle.screen_owner.proofs.Indexing.{layouts_built, paints_built, built_on, same_numbers}
use Rattle.screen_owner.proofs.Owning.{ready_from, alone_from, right_by, stands_same, layouts_shown, paints_shown, marked_tree}
use Rattle.screen_owner.proofs.Using.{users_live, unlisted, listed_is, user_listed, same_users, all_live}
use Rattle.screen_owner.proofs.Rescrolling.{renders_marked}
use Rattle.screen_owner.proofs.owner.ScreenOwner.delegate_changed.Goals as goal

pub mark_layouts-requires : goal.mark_layouts-requires
mark_layouts-requires c =
    let t = c.self.inside.tree.tree in
    let hs = c.in_ok-users.users.items in
    let users = subst (λ (xs : List Handle). (k : Handle) → Among k xs ↔ (uses t c.args.name.now k ≡ true)) (sym c.in_ok-users.ensures) c.users.ensures.users in
    subst (λ (xs : List Handle). All (IsNode t) xs) (sym c.as_slice.ensures.value) (users_live t c.args.name.now hs users)

pub mark_paints-requires : goal.mark_paints-requires
mark_paints-requires c =
    let t = c.self.inside.tree.tree in
    let mid = c.mark_layouts.new.self.tree in
    let hs = c.in_ok-users.users.items in
    let users = subst (λ (xs : List Handle). (k : Handle) → Among k xs ↔ (uses t c.args.name.now k ≡ true)) (sym c.in_ok-users.ensures) c.users.ensures.users in
    subst (λ (xs : List Handle). All (IsNode mid) xs) (sym c.as_slice-2.ensures.value)
    (all_live t mid (layouts_built true c.as_slice.result.now t mid c.mark_layouts.ensures.sets) hs (users_live t c.args.name.now hs users))

pub invariant_of-self : goal.invariant_of-self
invariant_of-self c =
    let t = c.self.inside.tree.tree in
    let mid = c.mark_layouts.new.self.tree in
    let now = c.mark_paints.new.self.tree in
    let laid = c.mark_layouts.ensures.sets in
    let painted = c.mark_paints.ensures.sets in
    stands_same c.self.inside.spent c.self.inside.numbers t now
    (same_numbers t now (built_on t mid now (layouts_built true c.as_slice.result.now t mid laid) (paints_built true c.as_slice-2.result.now mid now painted)))
    (painted.inactive ∙ laid.inactive) c.self.invariant

pub returns-clause-shown : goal.returns-clause-shown
returns-clause-shown c = λ spent.
    let t = c.self.inside.tree.tree in
    let mid = c.mark_layouts.new.self.tree in
    let now = c.mark_paints.new.self.tree in
    let laid = c.mark_layouts.ensures.sets in
    let painted = c.mark_paints.ensures.sets in
    let is = c.root.ensures.tree in
    let ready = ready_from c.self.inside.spent c.self.inside.numbers t c.self.invariant (ap (λ (x : KeptScreen). x.spent) c.self.view_is ∙ spent) in
    paints_shown mid now (laid.inactive ∙ ready.alone) (marked_tree true c.as_slice.result.now t mid is laid) true c.as_slice-2.result.now painted
    ∙ (layouts_shown t mid ready.alone is true c.as_slice.result.now laid ∙ ap shown_in c.self.view_is)

pub returns-clause-right : goal.returns-clause-right
returns-clause-right c = λ delegates m spent right.
    let t = c.self.inside.tree.tree in
    let mid = c.mark_layouts.new.self.tree in
    let now = c.mark_paints.new.self.tree in
    let cell = c.self.inside.tree.scale.cell in
    let name = c.args.name.now in
    let hs = c.in_ok-users.users.items in
    let users = subst (λ (xs : List Handle). (k : Handle) → Among k xs ↔ (uses t name k ≡ true)) (sym c.in_ok-users.ensures) c.users.ensures.users in
    let laid = subst (λ (xs : List Handle). SetsMarks layout_marks true xs t mid) c.as_slice.ensures.value c.mark_layouts.ensures.sets in
    let painted = subst (λ (xs : List Handle). SetsMarks paint_marks true xs mid now) c.as_slice-2.ensures.value c.mark_paints.ensures.sets in
    let is = c.root.ensures.tree in
    let mid_is = marked_tree true hs t mid is laid in
    let before = setting_of c.self.inside.tree.scale delegates in
    let after = setting_of c.self.inside.tree.scale (with_meaning delegates name m) in
    right_by delegates (with_meaning delegates name m) t now c.self.inside.tree.scale c.mark_paints.new.self.scale c.self.inside.layers c.self.inside.spent (c.mark_paints.ensures.scale ∙ c.mark_layouts.ensures.scale)
    (λ keeps.
    c.paint_marks_keep_layouts.ensures after true hs mid now mid_is painted
    (c.changed_delegates_keep_layouts.ensures.marked before after t mid hs is keeps
    (λ k o at off. c.changed_delegates_keep_layouts.ensures.named cell delegates name m t k o at (unlisted t name hs users k off)) laid))
    (λ kept.
    c.delegates_keep_layers.ensures cell delegates name m c.self.inside.layers true hs mid now mid_is
    (λ k used. user_listed t name hs users k (sym (same_users t mid (layouts_built true hs t mid laid) name k) ∙ used)) painted
    (c.writes_keep_layers.ensures.layouts cell delegates c.self.inside.layers true hs t mid is laid kept))
    (subst (IsRight delegates) (sym c.self.view_is) right)

pub returns-clause-renders : goal.returns-clause-renders
returns-clause-renders c = λ spent.
    let t = c.self.inside.tree.tree in
    let ready = ready_from c.self.inside.spent c.self.inside.numbers t c.self.invariant (ap (λ (x : KeptScreen). x.spent) c.self.view_is ∙ spent) in
    renders_marked t c.mark_layouts.new.self.tree c.mark_paints.new.self.tree ready.alone c.root.ensures.tree c.as_slice.result.now c.as_slice-2.result.now c.mark_layouts.ensures.sets c.mark_paints.ensures.sets
    ∙ ap (λ (x : KeptScreen). renders_of (root_tree x.nodes)) c.self.view_is

pub returns-clause-marks : goal.returns-clause-marks
returns-clause-marks c =
    let t = c.self.inside.tree.tree in
    let mid = c.mark_layouts.new.self.tree in
    let now = c.mark_paints.new.self.tree in
    let name = c.args.name.now in
    let hs = c.in_ok-users.users.items in
    let users = subst (λ (xs : List Handle). (k : Handle) → Among k xs ↔ (uses t name k ≡ true)) (sym c.in_ok-users.ensures) c.users.ensures.users in
    subst (λ (x : KeptScreen). MarksUsers name x.nodes now) c.self.view_is (record {
      users = hs;
      each = listed_is t name hs users;
      laid = mid;
      layouts = subst (λ (xs : List Handle). SetsMarks layout_marks true xs t mid) c.as_slice.ensures.value c.mark_layouts.ensures.sets;
      paints = subst (λ (xs : List Handle). SetsMarks paint_marks true xs mid now) c.as_slice-2.ensures.value c.mark_paints.ensures.sets;
    })

pub returns-clause-whole : goal.returns-clause-whole
returns-clause-whole c = λ spent.
    subst (λ (x : KeptScreen). StandsAlone x.nodes) c.self.view_is
    (alone_from c.self.inside.spent c.self.inside.numbers c.self.inside.tree.tree c.self.invariant c.root.ensures.tree (ap (λ (x : KeptScreen). x.spent) c.self.view_is ∙ spent))

pub returns-in_err-users-clause-whole : goal.returns-in_err-users-clause-whole
returns-in_err-users-clause-whole c = λ spent.
    subst (λ (x : KeptScreen). StandsAlone x.nodes) c.self.view_is
    (alone_from c.self.inside.spent c.self.inside.numbers c.self.inside.tree.tree c.self.invariant c.root.ensures.tree (ap (λ (x : KeptScreen). x.spent) c.self.view_is ∙ spent))
