use Rattle.std.proofs.Common.{◌≡◌, ◌∷◌, [], Some, true, false, refl, sym, ap, subst, ◌∙◌, option_map, ℕ, ◌≤◌, ◌*◌}
use Rattle.kept_layouts.specs.Items.{AllListsUnasked}
use Rattle.layout_form.specs.Object.{setting_of}
use Rattle.node_tree.specs.Tree.{IsTree}
use Rattle.plain_tree.specs.At.{changed_at, having_scroll}
use Rattle.render_tree.specs.Edits.{with_scroll}
use Rattle.render_tree.specs.Object.{RenderObject, is_viewport}
use Rattle.render_tree.specs.Plain.{renders_of, root_tree}
use Rattle.render_tree.specs.Tree.{object_at}
use Rattle.screen_owner.specs.Changes.{MarksScrolled}
use Rattle.screen_owner.specs.Last.{only_at}
use Rattle.screen_owner.specs.Screen.{shown_in}
use Rattle.screen_owner.proofs.Indexing.{layouts_built, same_numbers, number_written}
use Rattle.screen_owner.proofs.Owning.{right_by, layouts_shown, writes_shown, marked_tree}
use Rattle.widget_model.specs.View.{shared}
use Rattle.build_form.specs.Program.{blueprint_of}
use Rattle.kept_builds.specs.Offsets.{offsets_in}
use Rattle.frame_owner.specs.Frame.{KeptFrame}
use Rattle.frame_owner.specs.Rooms.{HasRoomAfter}
use Rattle.frame_owner.specs.Standing.{FrameStandsFor}
use Rattle.frame_owner.proofs.Keyless.{changed_keyless, scroll_keyless}
use Rattle.frame_owner.proofs.Named.{none_beside}
use Rattle.frame_owner.proofs.Scrolled.{scrolled_projection, root_scrolled, number_chosen}
use Rattle.frame_owner.proofs.Known.{settled_still}
use Rattle.frame_owner.proofs.Unasked.{scrolled_unasked}
use Rattle.frame_owner.proofs.Windows.{AtWindow, numbers_differ, none_some}
use Rattle.frame_owner.proofs.owner.FrameOwner.scroll.Goals as goal

pub returns-clause-stands : goal.returns-clause-stands
returns-clause-stands c = λ p ds marks tree before was view.
    let t = c.self.inside.elements.tree in
    let g = c.self.inside.keys in
    let r = c.self.inside.nodes.tree in
    let mid = c.set_scroll.new.self.tree in
    let now = c.mark_layouts.new.self.tree in
    let cell = c.self.inside.nodes.scale.cell in
    let k = c.in-Some.k in
    let st = subst (FrameStandsFor p ds marks tree) (sym c.self.view_is) was in
    let live = subst (λ (x : KeptFrame). (o : RenderObject) × (object_at x.screen.nodes k ≡ Some o) × (is_viewport o ≡ true)) (sym c.self.view_is) c.in-Some.ensures.live in
    let o = live.0 in
    let number_is = number_chosen r k c.viewport.result c.args.number before c.in-Some.is live (subst (λ (x : KeptFrame). AtWindow x.screen.nodes c.args.number c.viewport.result before) (sym c.self.view_is) (c.viewport.ensures.there p ds marks tree before was view)) in
    let writes = c.set_scroll.ensures.window o live.1 live.2 in
    let sets = c.mark_layouts.ensures.sets in
    let is = c.root.ensures.tree in
    let mid_is : IsTree mid = (_, writes.plain is.0 is.1) in
    let differ = numbers_differ c.projection_keeps_numbers_apart.ensures p marks tree st.scrolled t r g st.trees in
    record {
      scrolled = offsets_in (option_map (changed_at (having_scroll c.args.to) c.args.number) tree);
      trees = c.lines_leave_standing_trees.ensures.scroll p marks tree st.scrolled t r now g c.args.number c.args.to st.trees
          (λ q. same_numbers mid now (layouts_built true (k ∷ []) mid now sets) q ∙ number_written r mid k o c.args.to live.1 writes q)
          (scrolled_projection c.projections_take_offsets.ensures p marks tree st.scrolled t r mid now g st.trees differ c.args.number c.args.to before view k o live.1 number_is live.2 writes sets
          (marked_tree true (k ∷ []) mid now mid_is sets));
      right = right_by ds ds r now c.self.inside.nodes.scale c.mark_layouts.new.self.scale c.self.inside.layers c.self.inside.spent (c.mark_layouts.ensures.scale ∙ c.set_scroll.ensures.scale)
          (λ keeps. c.scrolls_keep_layouts.ensures (setting_of c.self.inside.nodes.scale ds) r mid now k o c.args.to is keeps live.1 writes sets)
          (λ kept.
          c.writes_keep_layers.ensures.layouts cell ds c.self.inside.layers true (k ∷ []) mid now mid_is sets
          (c.writes_keep_layers.ensures.unread cell ds c.self.inside.layers r mid k o (with_scroll c.args.to o) is live.1 writes (record { flag = refl; mark = refl }) refl refl kept))
          st.right;
      unasked = subst (AllListsUnasked false)
          (sym (root_scrolled r mid now (none_beside p marks tree st.scrolled t r g st.trees) is differ c.args.number c.args.to k o live.1 number_is live.2 writes sets))
          (scrolled_unasked (only_at c.args.number c.args.to) false (renders_of (root_tree r)) st.unasked);
      settled = settled_still p marks marks tree t c.self.inside.keyless c.self.inside.marked (changed_at (having_scroll c.args.to) c.args.number) (option_map shared c.self.inside.settled)
          (λ w n. c.lines_leave_settled_trees.ensures.scroll (blueprint_of p) marks w n c.args.to c.args.number)
          (λ k w n. c.lines_leave_marked_trees.ensures.scroll (blueprint_of p) marks w n k c.args.to c.args.number)
          (changed_keyless (having_scroll c.args.to) c.args.number (scroll_keyless c.args.to)) st.settled;
      still = tt;
    }

pub returns-clause-marks : goal.returns-clause-marks
returns-clause-marks c = λ p ds marks tree before was view.
    let r = c.self.inside.nodes.tree in
    let now = c.mark_layouts.new.self.tree in
    let k = c.in-Some.k in
    let st = subst (FrameStandsFor p ds marks tree) (sym c.self.view_is) was in
    let live = subst (λ (x : KeptFrame). (o : RenderObject) × (object_at x.screen.nodes k ≡ Some o) × (is_viewport o ≡ true)) (sym c.self.view_is) c.in-Some.ensures.live in
    let number_is = number_chosen r k c.viewport.result c.args.number before c.in-Some.is live (subst (λ (x : KeptFrame). AtWindow x.screen.nodes c.args.number c.viewport.result before) (sym c.self.view_is) (c.viewport.ensures.there p ds marks tree before was view)) in
    subst (λ (x : KeptFrame). MarksScrolled c.args.number c.args.to x.screen.nodes now) c.self.view_is (record {
      at = k;
      object = live.0;
      there = live.1;
      number_is = number_is;
      viewport = live.2;
      scrolled = c.set_scroll.new.self.tree;
      writes = c.set_scroll.ensures.window live.0 live.1 live.2;
      marks = c.mark_layouts.ensures.sets;
    })

pub returns-clause-shown : goal.returns-clause-shown
returns-clause-shown c = λ p ds marks tree was.
    let r = c.self.inside.nodes.tree in
    let mid = c.set_scroll.new.self.tree in
    let now = c.mark_layouts.new.self.tree in
    let k = c.in-Some.k in
    let st = subst (FrameStandsFor p ds marks tree) (sym c.self.view_is) was in
    let alone = none_beside p marks tree st.scrolled c.self.inside.elements.tree r c.self.inside.keys st.trees in
    let live = subst (λ (x : KeptFrame). (o : RenderObject) × (object_at x.screen.nodes k ≡ Some o) × (is_viewport o ≡ true)) (sym c.self.view_is) c.in-Some.ensures.live in
    let writes = c.set_scroll.ensures.window live.0 live.1 live.2 in
    let is = c.root.ensures.tree in
    layouts_shown mid now (writes.inactive ∙ alone) (_, writes.plain is.0 is.1) true (k ∷ []) c.mark_layouts.ensures.sets
    ∙ (writes_shown r mid alone is k live.0 c.args.to live.1 writes ∙ ap (λ (x : KeptFrame). shown_in x.screen) c.self.view_is)

pub returns-in_default-clause-marks : goal.returns-in_default-clause-marks
returns-in_default-clause-marks c = λ p ds marks tree before was view.
    let there = c.viewport.ensures.there p ds marks tree before was view in
    absurd (c.in_default.not-Some there.0 there.2)

pub returns-clause-missing : goal.returns-clause-missing
returns-clause-missing c = λ p ds marks tree was none. absurd (none_some (sym (c.viewport.ensures.none p ds marks tree was none) ∙ c.in-Some.is))

pub returns-clause-room : goal.returns-clause-room
returns-clause-room c = λ frames had.
    let k = c.in-Some.k in
    let live = subst (λ (x : KeptFrame). (o : RenderObject) × (object_at x.screen.nodes k ≡ Some o) × (is_viewport o ≡ true)) (sym c.self.view_is) c.in-Some.ensures.live in
    let written = (c.set_scroll.ensures.window live.0 live.1 live.2).writes.handles in
    let marked = c.mark_layouts.ensures.sets.handles in
    let room = subst (HasRoomAfter frames) (sym c.self.view_is) had in
    record {
      elements = room.elements;
      renders = subst (λ (n : ℕ). n ≤ 1048576) (sym (marked.used ∙ written.used)) room.renders;
      made = room.made;
      made_drawn = subst (λ (n : ℕ). n ≤ frames * 1048576) (sym (marked.inserted ∙ written.inserted)) room.made_drawn;
    }
