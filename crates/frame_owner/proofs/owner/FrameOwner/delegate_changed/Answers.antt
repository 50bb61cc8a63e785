use Rattle.std.proofs.Common.{true, false, List, ℕ, ◌≤◌, ◌*◌, sym, ap, subst, ◌∙◌, ◌≡◌, ◌↔◌}
use Rattle.std.specs.List.{All}
use Rattle.fx_handles.specs.declared.Handle.{Handle}
use Rattle.fx_handles.specs.Handle.{Among}
use Rattle.node_tree.specs.Tree.{IsNode, IsTree}
use Rattle.delegates.specs.Table.{with_meaning}
use Rattle.kept_layouts.specs.Items.{AllListsUnasked}
use Rattle.layout_form.specs.Object.{setting_of}
use Rattle.render_tree.specs.Marked.{SetsMarks}
use Rattle.render_tree.specs.Marks.{layout_marks, paint_marks}
use Rattle.render_tree.specs.Users.{uses}
use Rattle.screen_owner.specs.Changes.{MarksUsers}
use Rattle.screen_owner.specs.Screen.{shown_in}
use Rattle.screen_owner.proofs.Indexing.{layouts_built, paints_built, built_on, same_numbers}
use Rattle.screen_owner.proofs.Owning.{right_by, layouts_shown, paints_shown, marked_tree}
use Rattle.screen_owner.proofs.Using.{users_live, unlisted, listed_is, user_listed, same_users, all_live}
use Rattle.screen_owner.proofs.Rescrolling.{renders_marked}
use Rattle.frame_owner.specs.Frame.{KeptFrame}
use Rattle.frame_owner.specs.Rooms.{HasRoomAfter}
use Rattle.frame_owner.specs.Standing.{FrameStandsFor}
use Rattle.frame_owner.proofs.Named.{none_beside, unchanged}
use Rattle.frame_owner.proofs.owner.FrameOwner.delegate_changed.Goals as goal

pub mark_layouts-requires : goal.mark_layouts-requires
mark_layouts-requires c =
    let t = c.self.inside.nodes.tree in
    let hs = c.in_ok-users.users.items in
    let users = subst (λ (xs : List Handle). (k : Handle) → Among k xs ↔ (uses t c.args.name.now k ≡ true)) (sym c.in_ok-users.ensures) c.users.ensures.users in
    subst (λ (xs : List Handle). All (IsNode t) xs) (sym c.as_slice.ensures.value) (users_live t c.args.name.now hs users)

pub mark_paints-requires : goal.mark_paints-requires
mark_paints-requires c =
    let t = c.self.inside.nodes.tree in
    let mid = c.mark_layouts.new.self.tree in
    let hs = c.in_ok-users.users.items in
    let users = subst (λ (xs : List Handle). (k : Handle) → Among k xs ↔ (uses t c.args.name.now k ≡ true)) (sym c.in_ok-users.ensures) c.users.ensures.users in
    subst (λ (xs : List Handle). All (IsNode mid) xs) (sym c.as_slice-2.ensures.value)
    (all_live t mid (layouts_built true c.as_slice.result.now t mid c.mark_layouts.ensures.sets) hs (users_live t c.args.name.now hs users))

pub returns-clause-shown : goal.returns-clause-shown
returns-clause-shown c = λ p ds marks tree was.
    let t = c.self.inside.nodes.tree in
    let mid = c.mark_layouts.new.self.tree in
    let now = c.mark_paints.new.self.tree in
    let laid = c.mark_layouts.ensures.sets in
    let painted = c.mark_paints.ensures.sets in
    let is = c.root.ensures.tree in
    let st = subst (FrameStandsFor p ds marks tree) (sym c.self.view_is) was in
    let alone = none_beside p marks tree st.scrolled c.self.inside.elements.tree t c.self.inside.keys st.trees in
    paints_shown mid now (laid.inactive ∙ alone) (marked_tree true c.as_slice.result.now t mid is laid) true c.as_slice-2.result.now painted
    ∙ (layouts_shown t mid alone is true c.as_slice.result.now laid ∙ ap (λ (x : KeptFrame). shown_in x.screen) c.self.view_is)

pub returns-clause-stands : goal.returns-clause-stands
returns-clause-stands c = λ p delegates marks tree m was.
    let t = c.self.inside.nodes.tree in
    let mid = c.mark_layouts.new.self.tree in
    let now = c.mark_paints.new.self.tree in
    let cell = c.self.inside.nodes.scale.cell in
    let name = c.args.name.now in
    let hs = c.in_ok-users.users.items in
    let users = subst (λ (xs : List Handle). (k : Handle) → Among k xs ↔ (uses t name k ≡ true)) (sym c.in_ok-users.ensures) c.users.ensures.users in
    let laid = subst (λ (xs : List Handle). SetsMarks layout_marks true xs t mid) c.as_slice.ensures.value c.mark_layouts.ensures.sets in
    let painted = subst (λ (xs : List Handle). SetsMarks paint_marks true xs mid now) c.as_slice-2.ensures.value c.mark_paints.ensures.sets in
    let is = c.root.ensures.tree in
    let mid_is = marked_tree true hs t mid is laid in
    let before = setting_of c.self.inside.nodes.scale delegates in
    let after = setting_of c.self.inside.nodes.scale (with_meaning delegates name m) in
    let st = subst (FrameStandsFor p delegates marks tree) (sym c.self.view_is) was in
    let e = c.self.inside.elements.tree in
    let g = c.self.inside.keys in
    let alone = none_beside p marks tree st.scrolled e t g st.trees in
    let now_is : IsTree now = (_, painted.plain mid_is.0 mid_is.1) in
    record {
      scrolled = st.scrolled;
      trees = c.lines_leave_standing_trees.ensures.redrawn p marks tree st.scrolled e t now g st.trees
          (same_numbers t now (built_on t mid now (layouts_built true hs t mid laid) (paints_built true hs mid now painted)))
          (unchanged p marks tree st.scrolled e t g st.trees now (painted.inactive ∙ (laid.inactive ∙ alone)) now_is (renders_marked t mid now alone is hs hs laid painted));
      right = right_by delegates (with_meaning delegates name m) t now c.self.inside.nodes.scale c.mark_paints.new.self.scale c.self.inside.layers c.self.inside.spent (c.mark_paints.ensures.scale ∙ c.mark_layouts.ensures.scale)
          (λ keeps.
          c.paint_marks_keep_layouts.ensures after true hs mid now mid_is painted
          (c.changed_delegates_keep_layouts.ensures.marked before after t mid hs is keeps
          (λ k o at off. c.changed_delegates_keep_layouts.ensures.named cell delegates name m t k o at (unlisted t name hs users k off)) laid))
          (λ kept.
          c.delegates_keep_layers.ensures cell delegates name m c.self.inside.layers true hs mid now mid_is
          (λ k used. user_listed t name hs users k (sym (same_users t mid (layouts_built true hs t mid laid) name k) ∙ used)) painted
          (c.writes_keep_layers.ensures.layouts cell delegates c.self.inside.layers true hs t mid is laid kept))
          st.right;
      unasked = subst (AllListsUnasked false) (sym (renders_marked t mid now alone is hs hs laid painted)) st.unasked;
      settled = st.settled;
      still = tt;
    }

pub returns-clause-marks : goal.returns-clause-marks
returns-clause-marks c =
    let t = c.self.inside.nodes.tree in
    let now = c.mark_paints.new.self.tree in
    let name = c.args.name.now in
    let hs = c.in_ok-users.users.items in
    let users = subst (λ (xs : List Handle). (k : Handle) → Among k xs ↔ (uses t name k ≡ true)) (sym c.in_ok-users.ensures) c.users.ensures.users in
    subst (λ (x : KeptFrame). MarksUsers name x.screen.nodes now) c.self.view_is (record {
      users = hs;
      each = listed_is t name hs users;
      laid = c.mark_layouts.new.self.tree;
      layouts = subst (λ (xs : List Handle). SetsMarks layout_marks true xs t c.mark_layouts.new.self.tree) c.as_slice.ensures.value c.mark_layouts.ensures.sets;
      paints = subst (λ (xs : List Handle). SetsMarks paint_marks true xs c.mark_layouts.new.self.tree now) c.as_slice-2.ensures.value c.mark_paints.ensures.sets;
    })

pub returns-clause-room : goal.returns-clause-room
returns-clause-room c = λ frames had.
    let laid = c.mark_layouts.ensures.sets.handles in
    let painted = c.mark_paints.ensures.sets.handles in
    let room = subst (HasRoomAfter frames) (sym c.self.view_is) had in
    record {
      elements = room.elements;
      renders = subst (λ (n : ℕ). n ≤ 1048576) (sym (painted.used ∙ laid.used)) room.renders;
      made = room.made;
      made_drawn = subst (λ (n : ℕ). n ≤ frames * 1048576) (sym (painted.inserted ∙ laid.inserted)) room.made_drawn;
    }
