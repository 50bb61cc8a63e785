-- A frame in two phases is what the laws of its layouts ask for.
use Rattle.std.proofs.Common.{◌≡◌, ℕ, ◌+◌, ◌≤◌, Bool, true, false, Option, Some, None, option_map, List, [], ◌∷◌, ◌++◌, refl, sym, ap, ◌∙◌, subst, Decides}
use Rattle.std.specs.Option.{option_to_list}
use Rattle.fx_geom.specs.declared.shapes.Size.{Size}
use Rattle.fx_handles.specs.declared.Handle.{Handle}
use Rattle.node_tree.specs.Forest.{TreeNode, Forest, tops, Stands}
use Rattle.node_tree.specs.Forest.Forest.{none, tree}
use Rattle.node_tree.specs.Tree.{Tree, Is, node_at}
use Rattle.node_tree.proofs.TreeLemmas.{is_node}
use Rattle.plain_tree.specs.declared.render.ParentData.{ParentData}
use Rattle.plain_tree.specs.Laws.{AllDiffer, render_numbers_in}
use Rattle.plain_tree.specs.Render.{Render, Renders, no_renders, more_renders}
use Rattle.tree_marks.specs.Marking.{at_top}
use Rattle.tree_marks.specs.Marks.{sweep}
use Rattle.work_roles.specs.Place.{RegionPlace, at_root, below}
use Rattle.work_sets.specs.Before.{Before}
use Rattle.work_sets.specs.InTree.{standing}
use Rattle.work_sets.specs.Layout.{is_told_same}
use Rattle.layout_form.specs.Object.{Setting}
use Rattle.layout_walk.specs.Flush.{ticks}
use Rattle.layout_walk.specs.Here.{HereAll, AreQuiet, outer_back}
use Rattle.layout_walk.specs.Node.{LayoutNode}
use Rattle.layout_walk.specs.Rule.{Lawful}
use Rattle.layout_walk.specs.Rules.{parts_of, is_list}
use Rattle.layout_walk.specs.Walk.{AreCorrected}
use Rattle.layout_owner.specs.Roots.{in_window, view_asks, top_render, IsAskedAs, IsPlaced}
use Rattle.layout_owner.specs.Undue.{RootUndue, RootAsked}
use Rattle.layout_rules.specs.Nodes.{layout_nodes}
use Rattle.kept_layouts.specs.Items.{all_without_items}
use Rattle.render_tree.specs.Changes.{BecomesRoot}
use Rattle.render_tree.specs.Marks.{layout_marks, paint_marks}
use Rattle.render_tree.specs.Object.{RenderObject, object_look}
use Rattle.render_tree.specs.Plain.{renders_of, root_tree}
use Rattle.render_tree.specs.Tree.{object_at}
use Rattle.render_sync.specs.Numbering.{NumbersDiffer}
use Rattle.screen_owner.proofs.Showing.{root_forest}
use Rattle.counted_work.specs.Caused.{NewAreUnlaid, LayoutsAreCaused}
use Rattle.counted_work.specs.Windows.{WindowsStay}
use Rattle.counted_work.proofs.Differing.{differ_tree}
use Rattle.counted_work.proofs.Painted.{swept_paints}
use Rattle.counted_work.proofs.Synced.{lone_root}
use Rattle.counted_work.proofs.Twins.{AreCarried}
use Rattle.counted_phases.specs.Framed.{OuterHaveFrames, OuterAsBefore, AllAsBefore, AreKept}
use Rattle.counted_phases.specs.Outer.{UnlessList, AreOuter}
use Rattle.counted_phases.specs.Phased.{Rooted, forest_of, render_of, marked_by, PhasedFrame}
use Rattle.counted_phases.specs.Unreached.{AreDiffering, AreOuterDiffering}
use Rattle.counted_phases.proofs.Redrawn.{all_before}
use Rattle.kept_phases.specs.Lists.{AreScrolledOtherwise, scrolled_as, FlushesLists}
use Rattle.kept_phases.specs.Redraws.{Redraws}
use Rattle.frame_owner.specs.Working.{LaysLists, PhasedSteps}
use Rattle.counted_frames.proofs.Planned.{no_some, some_is, AllStored}
use Rattle.counted_frames.proofs.Part.{part_root}
use Rattle.counted_frames.proofs.Outer.{are_outer, one_tree}
use Rattle.counted_frames.proofs.Was.{root_was}
use Rattle.counted_frames.proofs.First.{claimed, changed, both_marks, mid_is, outer_is, carried, carried_all, committed_stands, here, left, free, differ, as_before, frames_of, root_alone, asked_in, differs, same_nodes}
use Rattle.counted_frames.proofs.Laid.{laid_outer, ListsAlike, flushed_alike}
use Rattle.counted_frames.proofs.LeftItems.{lists_left}
use Rattle.counted_frames.proofs.Whole.{Ranged, outer_differ, lists_framed, ranged_outer, one_handle, kept_object}

-- ---- pieces

one_some : {A : Type 0} (x : A) (xs : List A) → x ∷ xs ≡ [] → ⊥
one_some x xs e = cc

tree_same : (h k : Handle) (v w : RenderObject) (kids under : Forest RenderObject) → tree h v kids none ≡ tree k w under none → (h ≡ k) × (v ≡ w) × (kids ≡ under)
tree_same h k v w kids under e = (cc, cc, cc)

no_tree : {B : Type 0} (k : Handle) (w : RenderObject) (under : Forest RenderObject) → none ≡ tree k w under none → B
no_tree k w under e = absurd (cc)

-- the root's tree comes first
root_front : (t : Tree RenderObject) (f : Forest RenderObject) → Is t f → (k : Handle) (w : RenderObject) (under : Forest RenderObject) → root_tree t ≡ tree k w under none → (rest : Forest RenderObject) × (f ≡ tree k w under rest)
root_front t f is k w under root_is = by_root t.root refl f is
  where
    by_root : (r : Option Handle) → t.root ≡ r → (f : Forest RenderObject) → Is t f → (rest : Forest RenderObject) × (f ≡ tree k w under rest)
    by_root None e f is = no_tree k w under (sym (root_none e) ∙ root_is)
      where
        root_none : t.root ≡ None → root_tree t ≡ none
        root_none e = ap (λ (r : Option Handle). root_of r) e
          where
            root_of : Option Handle → Forest RenderObject
            root_of r = root_tree (record t { root = r })
    by_root (Some r) e none is = absurd (one_some r t.inactive (sym (ap (λ (o : Option Handle). option_to_list o ++ t.inactive) e) ∙ is.tops))
    by_root (Some r) e (tree h v kids rest) is =
        let top : r ≡ h = head_is r h t.inactive (tops rest) (sym (ap (λ (o : Option Handle). option_to_list o ++ t.inactive) e) ∙ is.tops) in
        let parts = tree_same h k v w kids under (sym (part_root t (tree h v kids none) rest is (ap option_to_list (e ∙ ap (λ x. Some x) top))) ∙ root_is) in
        (rest, λ i. tree (parts.0 i) (parts.1 i) (parts.2 i) rest)
      where
        head_is : (a b : Handle) (xs ys : List Handle) → a ∷ xs ≡ b ∷ ys → a ≡ b
        head_is a b xs ys e = cc

-- what was stored is kept
kept_stored : (ranged made : Tree RenderObject) → ((h : Handle) (o : RenderObject) → object_at ranged h ≡ Some o → object_at made h ≡ Some o) → (f : Forest RenderObject) → AllStored (object_at ranged) f → AllStored (object_at made) f
kept_stored ranged made keeps none stored = tt
kept_stored ranged made keeps (tree h o kids rest) stored = (keeps h o stored.0, kept_stored ranged made keeps kids stored.1, kept_stored ranged made keeps rest stored.2)

-- outer nodes of both trees are the same ones
kept_pairs : (made : Tree RenderObject) → NumbersDiffer made → (f g : Forest RenderObject) (rs : Renders) → AllStored (object_at made) f → AreCarried (object_at made) g → AreOuter f rs → AreOuter g rs → AreKept f g
kept_pairs made apart none none rs stored carry a b = tt
kept_pairs made apart none (tree k w under rest) no_renders stored carry a b = absurd b
kept_pairs made apart none (tree k w under rest) (more_renders r rs) stored carry a b = absurd a
kept_pairs made apart (tree h o kids more) none no_renders stored carry a b = absurd a
kept_pairs made apart (tree h o kids more) none (more_renders r rs) stored carry a b = absurd b
kept_pairs made apart (tree h o kids more) (tree k w under rest) no_renders stored carry a b = absurd a
kept_pairs made apart (tree h o kids more) (tree k w under rest) (more_renders r rs) stored carry a b = (
  record {
    shown = carry.0.shown ∙ ap (λ (v : RenderObject). v.shown) value;
    flag = carry.0.flag ∙ ap (λ (v : RenderObject). v.needs_layout) value;
    frame = carry.0.frame ∙ ap (λ (v : RenderObject). v.frame) value;
    look = look;
  },
  by_list (is_list (object_look o)) (is_list (object_look w)) (ap is_list look) a.1 b.1 (λ x y. kept_pairs made apart kids under _ stored.1 carry.1 x y),
  kept_pairs made apart more rest rs stored.2 carry.2 a.2 b.2,
)
  where
    look : object_look w ≡ object_look o
    look = b.0.look ∙ sym a.0.look

    handle : k ≡ h
    handle =
        apart o.number k h (ap (option_map (λ (v : RenderObject). v.number)) carry.0.is ∙ ap (λ n. Some n) (sym carry.0.number ∙ (b.0.number ∙ sym a.0.number)))
        (ap (option_map (λ (v : RenderObject). v.number)) stored.0)

    value : carry.0.stored ≡ o
    value = some_is carry.0.stored o (sym carry.0.is ∙ (ap (object_at made) handle ∙ stored.0))

    by_list : (x y : Bool) → y ≡ x → {A B C : Type 0} → UnlessList x A → UnlessList y B → (A → B → C) → UnlessList x C
    by_list true y e p q go = tt
    by_list false true e p q go = cc
    by_list false false e p q go = go p q

-- marks, and how far nodes are scrolled, are no matter of what an outer node is
put_outer : (corrected : List Handle) (scrolls : Handle → ℕ) (a : _) (f : Forest RenderObject) (rs : Renders) → AreOuter f rs → AreOuter (scrolled_as scrolls (sweep layout_marks true corrected a f)) rs
put_outer corrected scrolls a none rs outer = outer
put_outer corrected scrolls a (tree h o kids rest) no_renders outer = outer
put_outer corrected scrolls a (tree h o kids rest) (more_renders r rs) outer =
    (record { number = outer.0.number; look = outer.0.look; told = outer.0.told; count = outer.0.count }, by_list (is_list (object_look o)) outer.1 (λ x. put_outer corrected scrolls _ kids _ x), put_outer corrected scrolls a rest rs outer.2)
  where
    by_list : (b : Bool) → {A B : Type 0} → UnlessList b A → (A → B) → UnlessList b B
    by_list true x go = tt
    by_list false x go = go x

-- each outer node of a forest is its own
pub self_outer : (f : Forest RenderObject) → AreOuter f (renders_of f)
self_outer none = tt
self_outer (tree h o kids rest) = (record { number = refl; look = refl; told = refl; count = refl }, by_list (is_list (object_look o)) (self_outer kids), self_outer rest)
  where
    by_list : (b : Bool) → {A : Type 0} → A → UnlessList b A
    by_list true x = tt
    by_list false x = x

-- before the first frame
none_again : (before : Before) (hs : List Handle) → before.tree ≡ None → (p : RegionPlace) (f : Forest RenderObject) → AreDiffering before hs p f
none_again before hs was p none = tt
none_again before hs was p (tree k w under rest) =
    ((λ is st e high stays. no_some st (sym (ap (λ t. standing t w.number) was) ∙ e)), none_again before hs was (below p (object_look w)) under, none_again before hs was p rest)

-- ---- the frame

module _ (s : Setting) (law : Lawful (parts_of s)) (view : Size) (old now : Tree RenderObject) (whole : Rooted) (lo ln po pn : ℕ) (p : PhasedSteps s view old (render_of whole) now lo ln po pn)
    (nodes_is : p.brings.second.nodes ≡ forest_of whole) (before : Before) (told_same : (a b : ParentData) → Decides (is_told_same a b) (a ≡ b)) (caused : LayoutsAreCaused before old)
    (unlaid : NewAreUnlaid before.frames old (render_of whole)) (asks : before.same_view ≡ true → IsAskedAs view (root_tree old)) (windows : WindowsStay before (render_of whole)) where
  abbrev top : Render
  top = render_of whole

  abbrev tops_only : Renders
  tops_only = more_renders top no_renders

  abbrev lists : LaysLists s view old lo p.layouts_between
  lists = p.brings.lists

  abbrev fl : FlushesLists s view lists.mid p.brings.ranged
  fl = p.brings.flushes

  abbrev second : Redraws p.brings.ranged p.brought
  second = p.brings.second

  abbrev whole_is : all_without_items (renders_of (root_tree lists.mid)) ≡ all_without_items tops_only
  whole_is = p.brings.outer

  apart : AllDiffer (render_numbers_in tops_only)
  apart = subst (λ (rs : Renders). AllDiffer (render_numbers_in rs)) p.brings.renders (differ_tree p.brought p.brings.after.tree p.brings.after.alone p.brings.after.differ)

  outer_first : AreOuter lists.first.nodes tops_only
  outer_first = outer_is s view old top lo p.layouts_between lists whole_is

  abbrev first_one : (h : Handle) × (o : RenderObject) × (kids : Forest RenderObject) × (lists.first.nodes ≡ tree h o kids none)
  first_one = one_tree lists.first.nodes top outer_first

  abbrev first : Rooted
  first = record { handle = first_one.0; value = first_one.1; kids = first_one.2 }

  first_is : lists.first.nodes ≡ forest_of first
  first_is = first_one.3

  outer_laid : AreOuter (root_tree fl.flushed) tops_only
  outer_laid = laid_outer s (view_asks view) (root_tree lists.mid) (root_tree fl.flushed) tops_only fl.stays (are_outer (root_tree lists.mid) tops_only whole_is)

  abbrev laid_one : (h : Handle) × (o : RenderObject) × (kids : Forest RenderObject) × (root_tree fl.flushed ≡ tree h o kids none)
  laid_one = one_tree (root_tree fl.flushed) top outer_laid

  abbrev laid : Rooted
  laid = record { handle = laid_one.0; value = laid_one.1; kids = laid_one.2 }

  laid_is : root_tree fl.flushed ≡ forest_of laid
  laid_is = laid_one.3

  abbrev hs : List Handle
  hs = changed s view old top lo p.layouts_between lists whole_is

  abbrev claims : Handle → Bool
  claims = claimed s view old top lo p.layouts_between lists whole_is

  abbrev marked_first : Forest RenderObject
  marked_first = both_marks s view old top lo p.layouts_between lists whole_is lists.first.nodes

  alike : ListsAlike (layout_nodes marked_first) (layout_nodes (root_tree fl.flushed))
  alike =
      subst (λ (g : Forest RenderObject). ListsAlike (layout_nodes marked_first) (layout_nodes g)) (sym laid_is)
      (flushed_alike s law view marked_first laid.handle laid.value laid.kids (subst (λ g. HereAll (parts_of s) (layout_nodes g)) laid_is fl.good.here) (subst (λ g. AreQuietOuter g) laid_is fl.held)
      (subst IsPlaced laid_is fl.placed) (subst (λ g. RootAsked view (layout_nodes g)) laid_is fl.asked)
      (subst (λ g. AreCorrected (parts_of s) (outer_back (parts_of s)) (view_asks view) (layout_nodes marked_first) (layout_nodes g)) laid_is
      (subst (λ f. AreCorrected (parts_of s) (outer_back (parts_of s)) (view_asks view) (layout_nodes f) (layout_nodes (root_tree fl.flushed))) (mid_is s view old top lo p.layouts_between lists whole_is) fl.stays)))
    where
      AreQuietOuter : Forest RenderObject → Type 0
      AreQuietOuter g = AreQuiet (parts_of s) (outer_back (parts_of s)) (layout_nodes g)

  -- the first phase's nodes, to a layout
  mid_nodes : layout_nodes (root_tree lists.mid) ≡ layout_nodes (marked_by hs (forest_of first))
  mid_nodes =
      ap layout_nodes (mid_is s view old top lo p.layouts_between lists whole_is)
      ∙ (sym (same_nodes (marked_by hs lists.first.nodes) marked_first (swept_paints true (lists.first.painted ++ lists.first.lost) at_top (marked_by hs lists.first.nodes))) ∙ ap (λ f. layout_nodes (marked_by hs f)) first_is)

  -- what the flush left, put back
  abbrev put : Forest RenderObject → Forest RenderObject
  put f = scrolled_as fl.scrolls (marked_by fl.corrected f)

  put_stored : AllStored (object_at p.brings.ranged) (put (forest_of laid))
  put_stored =
      let front = root_front fl.flushed fl.tree.0 fl.tree.1 laid.handle laid.value laid.kids laid_is in
      let stands : Stands (node_at p.brings.ranged) None (put (tree laid.handle laid.value laid.kids front.0)) = subst (λ f. Stands (node_at p.brings.ranged) None (put f)) front.1 (fl.plain fl.tree.0 fl.tree.1).stands in
      let stored = stored_all p.brings.ranged None (put (tree laid.handle laid.value laid.kids front.0)) stands in
      (stored.0, stored.1, tt)
    where
      stored_all : (t : Tree RenderObject) (q : Option Handle) (f : Forest RenderObject) → Stands (node_at t) q f → AllStored (object_at t) f
      stored_all t q none s = tt
      stored_all t q (tree h o kids rest) s = (ap (option_map (λ (n : TreeNode RenderObject). n.value)) s.0, stored_all t (Some h) kids s.1, stored_all t q rest s.2)

  carried_whole : AreCarried (object_at second.made) (forest_of whole)
  carried_whole = subst (AreCarried (object_at second.made)) nodes_is (carried_all second.made second.updates second.nodes second.updated)

  whole_stands : Stands (node_at second.committed) None (forest_of whole)
  whole_stands = subst (Stands (node_at second.committed) None) nodes_is second.is.stands

  abbrev Again : Type 0
  Again = AreDiffering before second.laid at_root (forest_of whole)

  outer_whole : AreOuter lists.first.nodes (renders_of (forest_of whole))
  outer_whole = outer_first

  -- the root is the one that there was
  no_root : (k : Handle) → BecomesRoot second.made second.committed.root k → ⊥
  no_root k becomes = becomes.1 (second.grows.root ∙ (p.brings.stays.root ∙ (lists.first.paints.root ∙ (lists.first.layouts.root ∙ (first_root ∙ ap (λ x. Some x) (same_root ∙ top_here))))))
    where
      one_top : (r : Option Handle) (h : Handle) → option_to_list r ≡ h ∷ [] → r ≡ Some h
      one_top None h e = absurd (no_list h e)
        where
          no_list : (h : Handle) → [] ≡ h ∷ [] → ⊥
          no_list h e = cc
      one_top (Some r) h e = ap (λ x. Some x) (same_head r h e)
        where
          same_head : (a b : Handle) → a ∷ [] ≡ b ∷ [] → a ≡ b
          same_head a b e = cc

      first_root : lists.first.committed.root ≡ Some first.handle
      first_root = one_top lists.first.committed.root first.handle (lists.first.root ∙ ap tops first_is)

      top_here : whole.handle ≡ k
      top_here = first_of (sym (ap (λ (r : Option Handle). option_to_list r ++ second.committed.inactive) becomes.0) ∙ (second.is.tops ∙ ap tops nodes_is))
        where
          first_of : k ∷ second.committed.inactive ≡ whole.handle ∷ [] → whole.handle ≡ k
          first_of e = cc

      stands_first : Stands (node_at lists.first.committed) None (forest_of first)
      stands_first = subst (Stands (node_at lists.first.committed) None) first_is (committed_stands s view old top lo p.layouts_between lists whole_is)

      outer_here : AreOuter (forest_of first) tops_only
      outer_here = subst (λ f. AreOuter f tops_only) first_is outer_first

      z : Ranged s view old top lo p.layouts_between lists whole_is apart p.brings.ranged fl p.brings.stays alike p.brought second p.brings.apart before told_same caused.frames
          first.handle (record { parent = None; children = tops first.kids; value = first.value })
      z = ranged_outer s view old top lo p.layouts_between lists whole_is apart p.brings.ranged fl p.brings.stays alike p.brought second p.brings.apart before told_same caused.frames
          first.handle (record { parent = None; children = tops first.kids; value = first.value }) stands_first.0

      same_root : first.handle ≡ whole.handle
      same_root =
          one_handle s view old top lo p.layouts_between lists whole_is apart p.brings.ranged fl p.brings.stays alike p.brought second p.brings.apart before told_same caused.frames
          first.handle whole.handle z.0.value carried_whole.0.stored
          (kept_object s view old top lo p.layouts_between lists whole_is apart p.brings.ranged fl p.brings.stays alike p.brought second p.brings.apart before told_same caused.frames first.handle z.0 z.1)
          carried_whole.0.is (z.3 ∙ (outer_here.0.number ∙ carried_whole.0.number))

  differs_again : Again
  differs_again = by_old lists.before.tree.0 lists.before.tree.1 (caused.tree ∙ ap (λ f. top_render (renders_of f)) (root_forest old lists.before.tree.0 lists.before.alone lists.before.tree.1))
    where
      by_old : (f : Forest RenderObject) → Is old f → before.tree ≡ top_render (renders_of f) → Again
      by_old none is was = none_again before second.laid was at_root (forest_of whole)
      by_old (tree h o kids (tree j v under rest)) is was =
          absurd (one_some j (tops rest) (lone_root old.root h (j ∷ tops rest) (ap (λ xs. option_to_list old.root ++ xs) (sym lists.before.alone) ∙ is.tops)).1)
      by_old (tree h o kids none) is was =
          outer_differ s view old top lo p.layouts_between lists whole_is apart p.brings.ranged fl p.brings.stays alike p.brought second p.brings.apart before told_same caused.frames
          h (λ wanted st e. root_was old h wanted o kids st is.stands (sym (ap (λ t. standing t wanted) was) ∙ e)) no_root
          at_root None None lists.first.nodes (forest_of whole) (committed_stands s view old top lo p.layouts_between lists whole_is) (carried s view old top lo p.layouts_between lists whole_is)
          (left s view old top lo p.layouts_between lists whole_is) outer_whole (free s view old top lo p.layouts_between lists whole_is apart) (λ n i. i) whole_stands carried_whole

  -- the second phase's nodes with their marks
  brought_nodes : layout_nodes (root_tree p.shows.brought) ≡ layout_nodes (marked_by second.laid (forest_of whole))
  brought_nodes =
      ap (λ t. layout_nodes (root_tree t)) p.same
      ∙ (ap layout_nodes (root_forest p.brought (sweep paint_marks true second.painted at_top (marked_by second.laid second.nodes)) p.brings.after.alone
      (second.paints.plain (marked_by second.laid second.nodes) (second.layouts.plain second.nodes second.is)))
      ∙ (sym (same_nodes (marked_by second.laid second.nodes) (sweep paint_marks true second.painted at_top (marked_by second.laid second.nodes)) (swept_paints true second.painted at_top (marked_by second.laid second.nodes)))
      ∙ ap (λ f. layout_nodes (marked_by second.laid f)) nodes_is))

  pub phased_frame : PhasedFrame s view before old whole lo ln
  phased_frame = record {
    alone = lists.before;
    caused = caused;
    windows = windows;
    first = first;
    outer = subst (λ f. AreOuter f tops_only) first_is outer_first;
    frames = subst (OuterHaveFrames before.frames) first_is (frames_of s view old top lo p.layouts_between lists whole_is before.frames caused.frames unlaid);
    as_before = subst (OuterAsBefore old) first_is (as_before s view old top lo p.layouts_between lists whole_is);
    claimed = claims;
    changed = hs;
    differs = subst (λ f. AreOuterDiffering before old claims hs at_root f tops_only) first_is (differs s view old top lo p.layouts_between lists whole_is before told_same caused apart);
    here = subst (λ f. HereAll (parts_of s) (layout_nodes (marked_by hs f))) first_is (here s view old top lo p.layouts_between lists whole_is);
    asked = λ e. subst (λ f. IsAskedAs view (marked_by hs f)) first_is (asked_in s view old top lo p.layouts_between lists whole_is (asks e));
    laid = laid;
    laid_outer = subst (λ f. AreOuter f tops_only) laid_is outer_laid;
    undue = subst (λ (g : Forest RenderObject). RootUndue view (layout_nodes (marked_by hs (forest_of first))) (layout_nodes g)) laid_is
        (subst (λ (m : Forest LayoutNode). RootUndue view m (layout_nodes (root_tree fl.flushed))) mid_nodes fl.undue);
    root_asked = subst (λ g. RootAsked view (layout_nodes g)) laid_is fl.asked;
    lists_after = p.layouts_between;
    lists = subst (λ (m : Forest LayoutNode). p.layouts_between ≤ lo + ticks (parts_of s) true (view_asks view) (in_window m)) mid_nodes lists.counts.ticks;
    corrected = fl.corrected;
    otherwise = subst (λ (g : Forest RenderObject). AreScrolledOtherwise fl.corrected (layout_nodes (marked_by hs (forest_of first))) (layout_nodes g)) laid_is
        (subst (λ (m : Forest LayoutNode). AreScrolledOtherwise fl.corrected m (layout_nodes (root_tree fl.flushed))) mid_nodes fl.outer);
    scrolls = fl.scrolls;
    ranged = p.brings.ranged;
    kept = kept_pairs second.made p.brings.apart (put (forest_of laid)) (forest_of whole) tops_only
        (kept_stored p.brings.ranged second.made kept_value (put (forest_of laid)) put_stored) carried_whole
        (put_outer fl.corrected fl.scrolls at_top (forest_of laid) tops_only (subst (λ f. AreOuter f tops_only) laid_is outer_laid)) (self_outer (forest_of whole));
    left = lists_left old lists.mid p.brings.ranged lists.first claims lists.before.tree (differ s view old top lo p.layouts_between lists whole_is) (root_alone s view old top lo p.layouts_between lists whole_is)
        fl.corrected fl.scrolls at_root None at_top at_top lists.first.nodes (root_tree fl.flushed) (forest_of whole) (committed_stands s view old top lo p.layouts_between lists whole_is)
        (carried s view old top lo p.layouts_between lists whole_is) (left s view old top lo p.layouts_between lists whole_is) outer_whole alike (layout_nodes (root_tree lists.mid)) fl.outer
        (subst (λ g. AllStored (object_at p.brings.ranged) (put g)) (sym laid_is) put_stored)
        (subst (AllAsBefore p.brings.ranged) nodes_is (all_before p.brings.ranged second.made second.grows p.brings.apart second.updates second.nodes second.updated))
        (free s view old top lo p.layouts_between lists whole_is apart);
    item_frames = lists_framed s view old top lo p.layouts_between lists whole_is apart p.brings.ranged fl p.brings.stays alike p.brought second p.brings.apart before told_same caused.frames unlaid
        (forest_of whole) carried_whole (λ n i. i) (λ n i. i);
    again = second.laid;
    differs_again = differs_again;
    all = subst (λ (m : Forest LayoutNode). ln ≤ p.layouts_between + ticks (parts_of s) false (view_asks view) (in_window m)) brought_nodes p.shows.ticks;
  }
    where
      kept_value : (h : Handle) (o : RenderObject) → object_at p.brings.ranged h ≡ Some o → object_at second.made h ≡ Some o
      kept_value h o at = by (node_at p.brings.ranged h) refl
        where
          by : (x : Option (TreeNode RenderObject)) → node_at p.brings.ranged h ≡ x → object_at second.made h ≡ Some o
          by None e = no_some o (sym (ap (option_map (λ (n : TreeNode RenderObject). n.value)) e) ∙ at)
          by (Some n) e = ap (option_map (λ (m : TreeNode RenderObject). m.value)) (second.grows.keeps h (is_node (node_at p.brings.ranged h) n e)) ∙ at
