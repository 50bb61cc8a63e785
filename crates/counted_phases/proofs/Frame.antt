-- From the trees of a frame in two phases to its flags.
use Rattle.std.proofs.Common.{◌≡◌, ◌⊎◌, ℕ, ◌+◌, ◌*◌, ◌≤◌, Bool, true, false, Option, Some, None, List, [], ◌∷◌, ◌++◌, length, sym, ap, ◌∙◌, subst, inl, inr, Decides}
use Rattle.std.proofs.lemmas.List.{append-nil}
use Rattle.std.specs.Option.{option_to_list}
use Rattle.fx_geom.specs.declared.shapes.Size.{Size}
use Rattle.fx_handles.specs.declared.Handle.{Handle}
use Rattle.node_tree.specs.Forest.{Forest, tops, Stands}
use Rattle.node_tree.specs.Forest.Forest.{none, tree}
use Rattle.node_tree.specs.Tree.{Tree, Is, node_at}
use Rattle.widget_model.specs.Look.{Look}
use Rattle.plain_tree.specs.Laws.{AllDiffer, render_numbers_of, render_numbers_in}
use Rattle.plain_tree.specs.Render.{Render, no_renders, more_renders}
use Rattle.tree_marks.specs.Marking.{at_top, within}
use Rattle.work_roles.specs.Place.{at_root, below}
use Rattle.work_sets.specs.Before.{Before, Frames}
use Rattle.work_sets.specs.Layout.{frame_judge, idle_judge, layout_region}
use Rattle.work_sets.specs.Members.{is_same_look}
use Rattle.work_sets.specs.Region.{Judge, is_inside, reaches_out}
use Rattle.layout_form.specs.declared.asks.Ask.{Ask}
use Rattle.layout_form.specs.Object.{Setting}
use Rattle.layout_walk.specs.Flush.{ticks}
use Rattle.layout_walk.specs.Node.{LayoutNode}
use Rattle.layout_walk.specs.Rule.{LayoutParts}
use Rattle.layout_walk.specs.Rules.{is_list}
use Rattle.layout_walk.specs.Work.{due_count, AreKnown}
use Rattle.layout_owner.specs.Roots.{top_render}
use Rattle.layout_rules.specs.Nodes.{layout_nodes}
use Rattle.render_tree.specs.Marks.{layout_marks}
use Rattle.render_tree.specs.Object.{RenderObject, object_look}
use Rattle.render_tree.specs.Plain.{renders_of, root_tree}
use Rattle.build_walk.specs.Changing.{render_over}
use Rattle.screen_owner.proofs.Showing.{root_forest}
use Rattle.counted_work.specs.Inside.{RootFlagsInside, AreReached}
use Rattle.counted_work.proofs.Changed.{AreFramed}
use Rattle.counted_work.proofs.Differing.{differ_tree}
use Rattle.counted_work.proofs.Synced.{lone_root}
use Rattle.counted_work.proofs.Touching.{stands_framed}
use Rattle.counted_phases.specs.Framed.{HaveFrames, OuterAsBefore, AreKept, RootItemsInside}
use Rattle.counted_phases.specs.Lists.{ShownAsBefore, RootShownAsBefore}
use Rattle.counted_phases.specs.Outer.{UnlessList, AreOuter, OuterFlagsInside, RootOuterInside, AreOuterReached}
use Rattle.layout_owner.specs.Undue.{AreUndue}
use Rattle.kept_phases.specs.Lists.{scrolled_as}
use Rattle.counted_phases.specs.Phased.{Rooted, forest_of, render_of, PhasedFrame}
use Rattle.counted_phases.proofs.Layouts.{PhasedLayouts}
use Rattle.counted_phases.proofs.Lists.{root_items, first_items}
use Rattle.counted_phases.proofs.Phased.{first_inside, marked_value, marked_kids, twice}
use Rattle.counted_phases.proofs.Shown.{all_shown, shown_before}
use Rattle.counted_phases.proofs.Twins.{outer_flags, outer_first}
use Rattle.counted_phases.proofs.Undue.{root_case, swept_outer}
use Rattle.counted_phases.proofs.Unreached.{tree_stood, none_stood, Stood, all_differing, outer_differing}

framed_so : (frames : Frames) (f : Forest RenderObject) → AreFramed frames f → HaveFrames frames f
framed_so frames none framed = tt
framed_so frames (tree h o kids rest) framed = (framed.0, framed_so frames kids framed.1, framed_so frames rest framed.2)

-- the last frame's tree, with what is known of it
pub record LastRoot (before : Before) (old : Tree RenderObject) : Type 0 where
  pub handle : Handle
  pub value : RenderObject
  pub kids : Forest RenderObject
  pub was : before.tree ≡ Some (render_over value kids)
  pub differ : AllDiffer (render_numbers_of (render_over value kids))
  pub stands : Stands (node_at old) None (tree handle value kids none)
  pub frames : HaveFrames before.frames kids
  pub flags : RootFlagsInside (idle_judge before) (tree handle value kids none)

module _ (s : Setting) (view : Size) (before : Before) (old : Tree RenderObject) (whole : Rooted) (lo ln : ℕ) (l : PhasedFrame s view before old whole lo ln) where
  abbrev now : Judge
  now = frame_judge before

  abbrev top : Render
  top = render_of whole

  -- there was none, or there was one
  by_forest : (f : Forest RenderObject) → Is old f → root_tree old ≡ f → (before.tree ≡ None) ⊎ LastRoot before old
  by_forest none is e = inl (l.caused.tree ∙ ap (λ f. top_render (renders_of f)) e)
  by_forest (tree h o kids none) is e = inr (record {
    handle = h;
    value = o;
    kids = kids;
    was = l.caused.tree ∙ ap (λ f. top_render (renders_of f)) e;
    differ = subst AllDiffer (append-nil (render_numbers_of (render_over o kids)))
        (subst (λ f. AllDiffer (render_numbers_in (renders_of f))) e (differ_tree old l.alone.tree l.alone.alone l.alone.differ));
    stands = is.stands;
    frames = (framed_so before.frames (tree h o kids none) (stands_framed before.frames old None (tree h o kids none) is.stands l.caused.frames)).1;
    flags = subst (RootFlagsInside (idle_judge before)) e l.caused.flags;
  })
  by_forest (tree h o kids (tree j v others rest)) is e = absurd (some_none (lone_root old.root h (j ∷ tops rest) (ap (λ hs. option_to_list old.root ++ hs) (sym l.alone.alone) ∙ is.tops)).1)
    where
      some_none : j ∷ tops rest ≡ [] → ⊥
      some_none e = cc

  last : (before.tree ≡ None) ⊎ LastRoot before old
  last = by_forest l.alone.tree.0 l.alone.tree.1 (root_forest old l.alone.tree.0 l.alone.alone l.alone.tree.1)

  module _ (looks : (a b : Look) → Decides (is_same_look a b) (a ≡ b)) where
    stood : Stood before looks
    stood = by last
      where
        by : (before.tree ≡ None) ⊎ LastRoot before old → Stood before looks
        by (inl gone) = none_stood before looks gone
        by (inr r) = tree_stood before looks (render_over r.value r.kids) r.was r.differ

    flags : RootOuterInside now (forest_of l.first) top
    flags = by last
      where
        by : (before.tree ≡ None) ⊎ LastRoot before old → RootOuterInside now (forest_of l.first) top
        by (inl gone) = outer_first before l.first.handle l.first.value l.first.kids top gone l.outer
        by (inr r) = outer_flags before looks old r.handle l.first.handle r.value l.first.value r.kids l.first.kids top r.was r.differ r.stands l.as_before l.outer r.flags

    reached : AreOuterReached now l.changed at_root (forest_of l.first) (more_renders top no_renders)
    reached = outer_differing before looks old l.claimed l.changed stood at_root (forest_of l.first) (more_renders top no_renders) l.outer (l.windows, tt) l.differs

    reached_again : AreReached now l.again at_root (forest_of whole)
    reached_again = all_differing before looks stood l.again at_root (forest_of whole) (l.windows, tt) l.differs_again

    -- ---- what is in the window

    abbrev mv : RenderObject
    mv = marked_value l.changed l.first

    abbrev mk : Forest RenderObject
    mk = marked_kids l.changed l.first

    marked_outer : AreOuter (tree l.first.handle mv mk none) (more_renders top no_renders)
    marked_outer = swept_outer l.changed at_top (forest_of l.first) (more_renders top no_renders) l.outer

    marked_inside : RootOuterInside now (tree l.first.handle mv mk none) top
    marked_inside = first_inside before l.changed l.first.handle l.first.value l.first.kids top l.outer l.frames reached flags

    abbrev inside : Bool
    inside = is_inside now (reaches_out now at_root top) at_root top

    -- the render nodes of the whole build's root
    abbrev w : RenderObject
    w = whole.value

    kept_look : object_look w ≡ object_look l.first.value
    kept_look = l.kept.0.look ∙ (l.laid_outer.0.look ∙ sym l.outer.0.look)

    shown : RootShownAsBefore now old (forest_of whole)
    shown = by (root_case before view l.first.handle l.laid.handle mv l.laid.value mk l.laid.kids top l.undue marked_outer l.laid_outer l.asked marked_inside)
      where
        Goal : Type 0
        Goal = ShownAsBefore now old inside (below at_root (object_look w)) whole.kids

        keep : (list : Bool) → Goal → UnlessList list Goal
        keep true g = tt
        keep false g = g

        five : (list : Bool) (A B C D E : Type 0) → UnlessList list A → UnlessList list B → UnlessList list C → UnlessList list D → UnlessList list E → (A → B → C → D → E → Goal) → UnlessList list Goal
        five true A B C D E a b c d e go = tt
        five false A B C D E a b c d e go = go a b c d e

        put_kids : Forest RenderObject
        put_kids = scrolled_as l.scrolls (marked_kids l.corrected l.laid)

        by : (inside ≡ true) ⊎ ((l.laid.value.needs_layout ≡ false) × (l.laid.value.scroll ≡ mv.scroll) × AreUndue (layout_nodes mk) (layout_nodes l.laid.kids)) → UnlessList (is_list (object_look w)) Goal
        by (inl e) = keep (is_list (object_look w)) (all_shown now old l.changed l.corrected l.scrolls inside (below at_root (object_look w)) whole.kids e)
        by (inr calm) =
            five (is_list (object_look w)) (OuterAsBefore old l.first.kids) (AreKept (scrolled_as l.scrolls (marked_kids l.corrected l.laid)) whole.kids) (AreOuter l.first.kids (renders_of whole.kids))
            (AreOuter l.laid.kids (renders_of whole.kids)) (OuterFlagsInside now inside (below at_root (object_look w)) mk (renders_of whole.kids))
            (subst (λ k. UnlessList (is_list k) (OuterAsBefore old l.first.kids)) (sym kept_look) l.as_before.1)
            (subst (λ k. UnlessList (is_list k) (AreKept (scrolled_as l.scrolls (marked_kids l.corrected l.laid)) whole.kids)) (sym l.kept.0.look) l.kept.1)
            (subst (λ k. UnlessList (is_list k) (AreOuter l.first.kids (renders_of whole.kids))) (sym kept_look) l.outer.1)
            (subst (λ k. UnlessList (is_list k) (AreOuter l.laid.kids (renders_of whole.kids))) (sym l.kept.0.look) l.laid_outer.1)
            (subst (λ k. UnlessList (is_list k) (OuterFlagsInside now inside (below at_root k) mk (renders_of whole.kids))) (sym kept_look) marked_inside.1)
            (λ a b c d e. shown_before now old l.changed l.corrected l.scrolls inside (below at_root (object_look w)) (within layout_marks at_top l.first.value) (within layout_marks at_top l.laid.value)
            l.first.kids l.laid.kids whole.kids calm.2 a b c d e)

    items : RootItemsInside now (forest_of whole)
    items = by last
      where
        by : (before.tree ≡ None) ⊎ LastRoot before old → RootItemsInside now (forest_of whole)
        by (inl gone) = first_items before whole.handle w whole.kids gone
        by (inr r) = root_items before looks old l.ranged l.claimed l.changed r.handle whole.handle r.value w r.kids whole.kids r.was r.differ r.stands r.frames r.flags l.left shown

    known : PhasedLayouts s view before whole lo ln
    known = record {
      first = l.first;
      outer = l.outer;
      frames = l.frames;
      flags = flags;
      changed = l.changed;
      reached = reached;
      here = l.here;
      asked = l.asked;
      laid = l.laid;
      laid_outer = l.laid_outer;
      undue = l.undue;
      root_asked = l.root_asked;
      lists_after = l.lists_after;
      lists = l.lists;
      corrected = l.corrected;
      otherwise = l.otherwise;
      scrolls = l.scrolls;
      kept = l.kept;
      items = items;
      item_frames = l.item_frames;
      again = l.again;
      reached_again = reached_again;
      all = l.all;
    }

    pub frame_twice : ((P : LayoutParts) (outer : Bool) (asks : List (Option Ask)) (f : Forest LayoutNode) → AreKnown asks f → ticks P outer asks f ≤ due_count f) → ln ≤ lo + 2 * length (layout_region before top)
    frame_twice due = twice due s view before whole lo ln known
