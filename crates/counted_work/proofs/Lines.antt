-- What a line between two frames leaves known of a screen, which scrolls a Viewport or marks the users of a delegate.
use Rattle.std.proofs.Common.{◌≡◌, ℕ, Bool, true, ◌&&◌, ◌||◌, option_map, Some, None, List, [], ◌∷◌, refl, sym, ap, ◌∙◌, subst}
use Rattle.std.proofs.lemmas.Bool.{or_parts}
use Rattle.delegates.specs.Table.{Plug}
use Rattle.fx_geom.specs.Bounds.{tight}
use Rattle.fx_geom.specs.declared.shapes.Size.{Size}
use Rattle.fx_handles.specs.declared.Handle.{Handle}
use Rattle.node_tree.specs.Forest.{Forest, Stands, set_value}
use Rattle.node_tree.specs.Forest.Forest.{none, tree}
use Rattle.node_tree.specs.Tree.{Tree, Is, IsTree, node_at}
use Rattle.plain_tree.specs.Laid.{Laid}
use Rattle.plain_tree.specs.Render.{Renders, no_renders}
use Rattle.plain_tree.specs.RenderRole.{render_role_of, is_window}
use Rattle.tree_marks.specs.Marking.{Above, at_top, within}
use Rattle.tree_marks.specs.Marks.{listed, some_climbs, sweep}
use Rattle.widget_model.specs.Look.{Look, sized_box, constrained_box, padding, align, colored_box, text, row, column, wrap, table, stack, flexible, positioned, opacity, clip_rect, repaint_boundary, merge_semantics, intrinsic_width, intrinsic_height, offstage, ignore_pointer, absorb_pointer, detector, semantics, exclude_semantics, custom_paint, custom_layout, viewport, sliver_to_box, sliver_padding, sliver_fixed, sliver_lazy, keep, inherit, component}
use Rattle.work_roles.specs.WorkRole.{is_viewport}
use Rattle.session_form.specs.State.{delegate, viewport as scrolled_viewport}
use Rattle.work_sets.specs.Before.{Before, Frames}
use Rattle.work_sets.specs.Layout.{idle_judge}
use Rattle.work_sets.specs.Region.{Judge}
use Rattle.layout_form.specs.declared.asks.Ask.TheVariants.{AsBox}
use Rattle.layout_walk.specs.Node.{ask_in}
use Rattle.layout_owner.specs.Roots.{IsAskedAs, top_render}
use Rattle.render_tree.specs.Edits.{with_scroll}
use Rattle.render_tree.specs.Marked.{SetsMarks}
use Rattle.render_tree.specs.Marks.{layout_marks, paint_marks}
use Rattle.render_tree.specs.Object.{RenderObject, object_look}
use Rattle.render_tree.specs.Plain.{renders_of, root_tree}
use Rattle.render_tree.specs.Tree.{object_at}
use Rattle.render_tree.specs.Users.{uses}
use Rattle.screen_owner.specs.Changes.{MarksScrolled, MarksUsers}
use Rattle.screen_owner.specs.Standing.{StandsAlone}
use Rattle.screen_owner.proofs.Bringing.{renders_paint}
use Rattle.screen_owner.proofs.Owning.{layouts_parts, paints_parts, writes_parts}
use Rattle.screen_owner.proofs.Showing.{parts, root_forest}
use Rattle.counted_work.specs.Caused.{FramesAgree, LayoutsAreCaused}
use Rattle.counted_work.specs.Drawn.{PaintsAreCaused}
use Rattle.counted_work.specs.Inside.{RootFlagsInside}
use Rattle.counted_work.specs.Touches.{Touches}
use Rattle.counted_work.proofs.Groups.{scroll_asked, delegate_asked}
use Rattle.counted_work.proofs.Painted.{root_paints_inside, swept_paints}
use Rattle.counted_work.proofs.Settled.{forest_frames, paints_framed}
use Rattle.counted_work.proofs.Shown.{same_placed, same_put, same_laid_tree}
use Rattle.counted_work.proofs.Touching.{same_frames, framed_there, set_scrolls, stands_framed, scroll_caused, delegate_caused}

-- ---- before any frame

empty_inside : (judge : Judge) (f : Forest RenderObject) → renders_of f ≡ no_renders → RootFlagsInside judge f
empty_inside judge none e = tt
empty_inside judge (tree h o kids rest) e = absurd (cc)

pub nothing_caused : (before : Before) (t : Tree RenderObject) → ((k : Handle) → object_at t k ≡ None) → renders_of (root_tree t) ≡ no_renders → before.tree ≡ None → LayoutsAreCaused before t
nothing_caused before t empty renders was = record {
  tree = was ∙ sym (ap (λ (rs : Renders). top_render rs) renders);
  frames = λ k o at. absurd (some_none o (sym at ∙ empty k));
  flags = empty_inside (idle_judge before) (root_tree t) renders;
}
  where
    some_none : (o : RenderObject) → Some o ≡ None → ⊥
    some_none o e = cc

-- ---- marks for painting

paint_frames : (frames : Frames) (mid new : Tree RenderObject) (hs : List Handle) → IsTree mid → SetsMarks paint_marks true hs mid new → FramesAgree frames mid → FramesAgree frames new
paint_frames frames mid new hs is sets agree =
    let f : Forest RenderObject = is.0 in
    let g : Forest RenderObject = sweep paint_marks true hs at_top f in
    forest_frames frames new g (sets.plain f is.1) (paints_framed frames f g (swept_paints true hs at_top f) (stands_framed frames mid None f is.1.stands agree))

paint_renders : (mid new : Tree RenderObject) (hs : List Handle) → IsTree mid → mid.inactive ≡ [] → SetsMarks paint_marks true hs mid new → renders_of (root_tree new) ≡ renders_of (root_tree mid)
paint_renders mid new hs is alone sets =
    ap renders_of (root_forest new (sweep paint_marks true hs at_top is.0) (sets.inactive ∙ alone) (sets.plain is.0 is.1))
    ∙ (renders_paint true hs at_top is.0 ∙ ap renders_of (sym (root_forest mid is.0 alone is.1)))

paint_caused : (after : Before) (mid new : Tree RenderObject) (hs : List Handle) → IsTree mid → mid.inactive ≡ [] → SetsMarks paint_marks true hs mid new → LayoutsAreCaused after mid → LayoutsAreCaused after new
paint_caused after mid new hs is alone sets caused =
    let f : Forest RenderObject = is.0 in
    let g : Forest RenderObject = sweep paint_marks true hs at_top f in
    record {
      tree = caused.tree ∙ sym (ap (λ (rs : Renders). top_render rs) (paint_renders mid new hs is alone sets));
      frames = paint_frames after.frames mid new hs is sets caused.frames;
      flags = subst (RootFlagsInside (idle_judge after)) (sym (root_forest new g (sets.inactive ∙ alone) (sets.plain f is.1)))
          (root_paints_inside (idle_judge after) f g (swept_paints true hs at_top f) (subst (RootFlagsInside (idle_judge after)) (root_forest mid f alone is.1) caused.flags));
    }

-- ---- whether the root was asked as the view is large

asked_layouts : (view : Size) (also : Bool) (hs : List Handle) (p : Above) (f : Forest RenderObject) → IsAskedAs view f → IsAskedAs view (sweep layout_marks also hs p f)
asked_layouts view also hs p none asks = tt
asked_layouts view also hs p (tree h o kids rest) asks =
    λ flag. asks (or_parts o.needs_layout ((listed h hs || some_climbs layout_marks hs (within layout_marks p o) kids) && true) flag).0

asked_paints : (view : Size) (also : Bool) (hs : List Handle) (p : Above) (f : Forest RenderObject) → IsAskedAs view f → IsAskedAs view (sweep paint_marks also hs p f)
asked_paints view also hs p none asks = tt
asked_paints view also hs p (tree h o kids rest) asks = asks

-- ---- a Viewport that is scrolled

window_is : (look : Look) → is_window (render_role_of look) ≡ is_viewport look
window_is (sized_box a b) = refl
window_is (constrained_box a b c d) = refl
window_is (padding a b c d) = refl
window_is (align a b) = refl
window_is (colored_box a) = refl
window_is (text a b) = refl
window_is (row a b c) = refl
window_is (column a b c) = refl
window_is (wrap a b) = refl
window_is (table a) = refl
window_is (stack a b c) = refl
window_is (flexible a b) = refl
window_is (positioned a b c d e f) = refl
window_is (opacity a) = refl
window_is clip_rect = refl
window_is repaint_boundary = refl
window_is merge_semantics = refl
window_is intrinsic_width = refl
window_is intrinsic_height = refl
window_is (offstage a) = refl
window_is (ignore_pointer a) = refl
window_is (absorb_pointer a) = refl
window_is (detector a b c d e f) = refl
window_is (semantics a b c) = refl
window_is (exclude_semantics a) = refl
window_is (custom_paint a) = refl
window_is (custom_layout a) = refl
window_is (viewport a) = refl
window_is sliver_to_box = refl
window_is (sliver_padding a b c d) = refl
window_is (sliver_fixed a) = refl
window_is (sliver_lazy a) = refl
window_is (keep a) = refl
window_is (inherit a b) = refl
window_is (component a b c) = refl

module _ (number scroll : ℕ) (old new : Tree RenderObject) (marks : MarksScrolled number scroll old new) (stands : StandsAlone old) where
  abbrev listed_one : List Handle
  listed_one = marks.at ∷ []

  alone_mid : marks.scrolled.inactive ≡ []
  alone_mid = marks.writes.inactive ∙ stands.alone

  abbrev forest : Forest RenderObject
  forest = set_value marks.at (with_scroll scroll marks.object) stands.tree.0

  is_mid : Is marks.scrolled (set_value marks.at (with_scroll scroll marks.object) stands.tree.0)
  is_mid = marks.writes.plain stands.tree.0 stands.tree.1

  scrolled_parts : parts (root_tree new) ≡ parts (root_tree old)
  scrolled_parts =
      layouts_parts marks.scrolled new alone_mid (forest, is_mid) true listed_one marks.marks
      ∙ writes_parts old marks.scrolled stands.alone stands.tree marks.at marks.object scroll marks.there marks.writes

  module _ (before after : Before) (touches : Touches (scrolled_viewport number) before after new) where
    abbrev named : Touches (scrolled_viewport marks.object.number) before after new
    named = subst (λ (n : ℕ). Touches (scrolled_viewport n) before after new) (sym marks.number_is) touches

    pub scrolled_caused : LayoutsAreCaused before old → LayoutsAreCaused after new
    scrolled_caused caused =
        scroll_caused old marks.scrolled marks.at marks.object scroll marks.there marks.writes before after new stands.tree stands.alone
        (sym (window_is (object_look marks.object)) ∙ marks.viewport) marks.marks named caused

    pub scrolled_paints : (last : Laid) (then : List Plug) → PaintsAreCaused before last then old → PaintsAreCaused after last then new
    scrolled_paints last then caused = record {
      tree = touches.tree;
      frames = same_frames after.frames marks.scrolled new listed_one marks.marks
          (framed_there old marks.scrolled marks.at marks.object scroll marks.there marks.writes after.frames (subst (λ (fs : Frames). FramesAgree fs old) (sym touches.frames) caused.frames));
      placed = same_placed (root_tree old) (root_tree new) scrolled_parts caused.placed;
      shown = same_laid_tree last (root_tree old) (root_tree new) scrolled_parts caused.shown;
      put = same_put then (root_tree old) (root_tree new) scrolled_parts caused.put;
      flags = scroll_asked before after old marks.scrolled new marks.at marks.object scroll marks.there marks.writes stands.tree stands.alone marks.marks named caused.flags;
    }

  asked_written : (view : Size) (f : Forest RenderObject) → Stands (node_at old) None f → IsAskedAs view f → IsAskedAs view (set_value marks.at (with_scroll scroll marks.object) f)
  asked_written view none there asks = tt
  asked_written view (tree k v kids rest) there asks =
      let step = (set_scrolls old marks.scrolled marks.at marks.object scroll marks.there marks.writes None (tree k v kids rest) there).0 in
      λ flag. subst (λ (o : RenderObject). option_map ask_in o.frame ≡ Some (AsBox (tight view))) (sym step.1) (asks (sym (ap (λ (o : RenderObject). o.needs_layout) step.1) ∙ flag))

  pub scrolled_asked : (view : Size) → IsAskedAs view (root_tree old) → IsAskedAs view (root_tree new)
  scrolled_asked view asks =
      subst (IsAskedAs view) (sym (root_forest new (sweep layout_marks true listed_one at_top forest) (marks.marks.inactive ∙ alone_mid) (marks.marks.plain forest is_mid)))
      (asked_layouts view true listed_one at_top forest
      (asked_written view stands.tree.0 stands.tree.1.stands (subst (IsAskedAs view) (root_forest old stands.tree.0 stands.alone stands.tree.1) asks)))

-- ---- users of a delegate that means something else

module _ (name : List ℕ) (old new : Tree RenderObject) (marks : MarksUsers name old new) (stands : StandsAlone old) where
  users_of : (k : Handle) → listed k marks.users ≡ true → uses old name k ≡ true
  users_of k e = sym (marks.each k) ∙ e

  alone_laid : marks.laid.inactive ≡ []
  alone_laid = marks.layouts.inactive ∙ stands.alone

  abbrev laid_forest : Forest RenderObject
  laid_forest = sweep layout_marks true marks.users at_top stands.tree.0

  laid_is : Is marks.laid (sweep layout_marks true marks.users at_top stands.tree.0)
  laid_is = marks.layouts.plain stands.tree.0 stands.tree.1

  users_parts : parts (root_tree new) ≡ parts (root_tree old)
  users_parts =
      paints_parts marks.laid new alone_laid (laid_forest, laid_is) true marks.users marks.paints
      ∙ layouts_parts old marks.laid stands.alone stands.tree true marks.users marks.layouts

  module _ (before after : Before) (touches : Touches (delegate name) before after new) where
    touches_laid : Touches (delegate name) before after marks.laid
    touches_laid = record {
      tree = touches.tree ∙ ap (λ (rs : Renders). top_render rs) (paint_renders marks.laid new marks.users (laid_forest, laid_is) alone_laid marks.paints);
      frames = touches.frames;
      more = touches.more;
    }

    pub users_caused : LayoutsAreCaused before old → LayoutsAreCaused after new
    users_caused caused =
        paint_caused after marks.laid new marks.users (laid_forest, laid_is) alone_laid marks.paints
        (delegate_caused before after name old marks.laid marks.users stands.tree stands.alone users_of marks.layouts touches_laid caused)

    pub users_paints : (last : Laid) (then : List Plug) → PaintsAreCaused before last then old → PaintsAreCaused after last then new
    users_paints last then caused = record {
      tree = touches.tree;
      frames = paint_frames after.frames marks.laid new marks.users (laid_forest, laid_is) marks.paints
          (same_frames after.frames old marks.laid marks.users marks.layouts (subst (λ (fs : Frames). FramesAgree fs old) (sym touches.frames) caused.frames));
      placed = same_placed (root_tree old) (root_tree new) users_parts caused.placed;
      shown = same_laid_tree last (root_tree old) (root_tree new) users_parts caused.shown;
      put = same_put then (root_tree old) (root_tree new) users_parts caused.put;
      flags = delegate_asked before after name touches.more old marks.laid new marks.users stands.tree stands.alone users_of marks.layouts marks.paints caused.flags;
    }

  pub users_asked : (view : Size) → IsAskedAs view (root_tree old) → IsAskedAs view (root_tree new)
  users_asked view asks =
      subst (IsAskedAs view) (sym (root_forest new (sweep paint_marks true marks.users at_top laid_forest) (marks.paints.inactive ∙ alone_laid) (marks.paints.plain laid_forest laid_is)))
      (asked_paints view true marks.users at_top laid_forest
      (asked_layouts view true marks.users at_top stands.tree.0 (subst (IsAskedAs view) (root_forest old stands.tree.0 stands.alone stands.tree.1) asks)))
