-- Paint flags between two frames, once a line has touched something more, and once a frame was painted.
use Rattle.std.proofs.Common.{◌≡◌, ℕ, Bool, true, not, ◌&&◌, Option, Some, None, option_map, option_and_then, List, [], ◌∷◌, ◌++◌, refl, sym, ap, ◌∙◌, subst, inl, inr}
use Rattle.std.proofs.lemmas.Bool.{and_parts, and_from, or_left, or_right, false≢true, true≢false}
use Rattle.fx_handles.specs.declared.Handle.{Handle}
use Rattle.node_tree.specs.Forest.{TreeNode, Forest, Stands, set_value}
use Rattle.node_tree.specs.Forest.Forest.{none, tree}
use Rattle.node_tree.specs.Tree.{Tree, Is, IsTree, node_at}
use Rattle.layout_form.specs.Layout.{delegate_of}
use Rattle.plain_tree.specs.Render.{Render}
use Rattle.screen_form.specs.Hidden.{hides_below}
use Rattle.session_form.specs.State.{Touched, delegate, viewport}
use Rattle.tree_marks.specs.Marking.{Above, at_top, within}
use Rattle.tree_marks.specs.Marks.{listed, sweep}
use Rattle.tree_marks.proofs.Closing.{either}
use Rattle.work_roles.specs.Place.{RegionPlace, at_root, below}
use Rattle.work_roles.specs.WorkRole.{is_repaint_boundary}
use Rattle.work_sets.specs.Before.{Before, names_touched, has_touched_delegate}
use Rattle.work_sets.specs.InTree.{look_of}
use Rattle.work_sets.specs.Paint.{Asks, group_asks, some_of_group_asks, asks_idly}
use Rattle.kept_layers.specs.Group.{is_boundary, opens}
use Rattle.paint_owner.specs.Settled.{IsPaintedCalm, IsRootShown}
use Rattle.render_tree.specs.Edits.{Writes, with_scroll}
use Rattle.render_tree.specs.Marked.{SetsMarks}
use Rattle.render_tree.specs.Marks.{layout_marks, paint_marks}
use Rattle.render_tree.specs.Object.{RenderObject, object_look}
use Rattle.render_tree.specs.Plain.{renders_of, root_tree, frame_or}
use Rattle.render_tree.specs.Tree.{object_at}
use Rattle.render_tree.specs.Users.{uses, is_called}
use Rattle.screen_owner.proofs.Showing.{root_forest}
use Rattle.build_walk.specs.Changing.{render_over}
use Rattle.counted_work.specs.Painted.{FlagsAsked, RootFlagsAsked, AreAsking}
use Rattle.counted_work.specs.Touches.{Touches}
use Rattle.counted_work.proofs.Asking.{root_marks_asked}
use Rattle.counted_work.proofs.Touching.{ScrollsDiffer, set_scrolls, called_touched, names_more}

-- ---- more that asks, at the same nodes

-- painting reads the same of two nodes, and they have the same flag
pub record IsSeenAlike (v w : RenderObject) : Type 0 where
  pub look : object_look v ≡ object_look w
  pub frame : v.frame ≡ w.frame
  pub shown : w.shown ≡ v.shown
  pub flag : w.needs_paint ≡ v.needs_paint

open_alike : (v w : RenderObject) → IsSeenAlike v w → opens w ≡ opens v
open_alike v w s = λ i. not (hides_below (sym s.look i) (frame_or (sym s.frame i)))

boundary_alike : (v w : RenderObject) → IsSeenAlike v w → is_boundary w ≡ is_boundary v
boundary_alike v w s = ap is_repaint_boundary (sym s.look)

module _ (j k : Asks) where
  abbrev pub AskMore : RegionPlace → Forest RenderObject → Forest RenderObject → Type 0
  AskMore p none none = Unit {0}
  AskMore p none (tree i w under rest) = ⊥
  AskMore p (tree h v kids more) none = ⊥
  AskMore p (tree h v kids more) (tree i w under rest) =
      (IsSeenAlike v w × (j p (render_over v kids) ≡ true → k p (render_over w under) ≡ true)) × AskMore (below p (object_look v)) kids under × AskMore p more rest

  group_more : (p : RegionPlace) (v : RenderObject) (kids : Forest RenderObject) (w : RenderObject) (under : Forest RenderObject) → object_look v ≡ object_look w → (j p (render_over v kids) ≡ true → k p (render_over w under) ≡ true)
      → (some_of_group_asks j (below p (object_look v)) (renders_of kids) ≡ true → some_of_group_asks k (below p (object_look v)) (renders_of under) ≡ true)
      → group_asks j p (render_over v kids) ≡ true → group_asks k p (render_over w under) ≡ true
  group_more p v kids w under look asks go e = elim (either (j p (render_over v kids)) (some_of_group_asks j (below p (object_look v)) (renders_of kids)) e) [
    | inl a ↦ or_left (k p (render_over w under)) (some_of_group_asks k (below p (object_look w)) (renders_of under)) (asks a)
    | inr a ↦ or_right (k p (render_over w under)) (some_of_group_asks k (below p (object_look w)) (renders_of under)) (subst (λ l. some_of_group_asks k (below p l) (renders_of under) ≡ true) look (go a))
  ]

  some_more : (p : RegionPlace) (f g : Forest RenderObject) → AskMore p f g → some_of_group_asks j p (renders_of f) ≡ true → some_of_group_asks k p (renders_of g) ≡ true
  some_more p none g m e = absurd (false≢true e)
  some_more p (tree h v kids more) none m e = absurd m
  some_more p (tree h v kids more) (tree i w under rest) m e =
      elim (either (not (is_boundary v) && group_asks j p (render_over v kids)) (some_of_group_asks j p (renders_of more)) e) [
        | inl a ↦
            let parts = and_parts (not (is_boundary v)) (group_asks j p (render_over v kids)) a in
            or_left (not (is_boundary w) && group_asks k p (render_over w under)) (some_of_group_asks k p (renders_of rest))
            (and_from (not (is_boundary w)) (group_asks k p (render_over w under)) (ap not (boundary_alike v w m.0.0) ∙ parts.0)
            (group_more p v kids w under m.0.0.look m.0.1 (some_more (below p (object_look v)) kids under m.1) parts.1))
        | inr a ↦ or_right (not (is_boundary w) && group_asks k p (render_over w under)) (some_of_group_asks k p (renders_of rest)) (some_more p more rest m.2 a)
      ]

  pub flags_ask_more : (p : RegionPlace) (f g : Forest RenderObject) → AskMore p f g → FlagsAsked j p f → FlagsAsked k p g
  flags_ask_more p none none m flags = tt
  flags_ask_more p none (tree i w under rest) m flags = absurd m
  flags_ask_more p (tree h v kids more) none m flags = tt
  flags_ask_more p (tree h v kids more) (tree i w under rest) m flags = (
    (λ shown. let before = flags.0 (sym m.0.0.shown ∙ shown) in (
      (λ boundary flag. group_more p v kids w under m.0.0.look m.0.1 (some_more (below p (object_look v)) kids under m.1)
          (before.0 (sym (boundary_alike v w m.0.0) ∙ boundary) (sym m.0.0.flag ∙ flag))),
      (λ opened. subst (λ l. FlagsAsked k (below p l) under) m.0.0.look
          (flags_ask_more (below p (object_look v)) kids under m.1 (before.1 (sym (open_alike v w m.0.0) ∙ opened)))),
    )),
    flags_ask_more p more rest m.2 flags.1,
  )

  pub root_flags_ask_more : (f g : Forest RenderObject) → AskMore at_root f g → RootFlagsAsked j f → RootFlagsAsked k g
  root_flags_ask_more none none m flags = tt
  root_flags_ask_more none (tree i w under rest) m flags = absurd m
  root_flags_ask_more (tree h v kids more) none m flags = tt
  root_flags_ask_more (tree h v kids more) (tree i w under rest) m flags = (
    (λ flag. group_more at_root v kids w under m.0.0.look m.0.1 (some_more (below at_root (object_look v)) kids under m.1) (flags.0 (sym m.0.0.flag ∙ flag))),
    (λ opened. subst (λ l. FlagsAsked k (below at_root l) under) m.0.0.look
        (flags_ask_more (below at_root (object_look v)) kids under m.1 (flags.1 (sym (open_alike v w m.0.0) ∙ opened)))),
  )

-- ---- lines

idle_more : (before after : Before) (us : List Touched) (r s : Render) → after.touched ≡ before.touched ++ us → look_of r ≡ look_of s → has_touched_delegate before.touched r ≡ true → has_touched_delegate after.touched s ≡ true
idle_more before after us r s more look e =
    ap (λ ts. has_touched_delegate ts s) more ∙ subst (λ l. names_touched (delegate_of l) (before.touched ++ us) ≡ true) look (names_more (delegate_of (look_of r)) before.touched us e)

scrolls_ask : (before after : Before) (us : List Touched) → after.touched ≡ before.touched ++ us → (p : RegionPlace) (f g : Forest RenderObject) → ScrollsDiffer f g → AskMore (asks_idly before) (asks_idly after) p f g
scrolls_ask before after us more p none none d = tt
scrolls_ask before after us more p none (tree i w under rest) d = absurd d
scrolls_ask before after us more p (tree h v kids others) none d = absurd d
scrolls_ask before after us more p (tree h v kids others) (tree i w under rest) d = (
  (
    record {
      look = ap object_look (sym d.0.1);
      frame = ap (λ (o : RenderObject). o.frame) (sym d.0.1);
      shown = ap (λ (o : RenderObject). o.shown) d.0.1;
      flag = ap (λ (o : RenderObject). o.needs_paint) d.0.1;
    },
    (λ e. idle_more before after us (render_over v kids) (render_over w under) more (ap object_look (sym d.0.1)) e),
  ),
  scrolls_ask before after us more (below p (object_look v)) kids under d.1,
  scrolls_ask before after us more p others rest d.2,
)

-- marks for layout change nothing of what painting reads
layout_asks : (before : Before) (also : Bool) (hs : List Handle) (a : Above) (p : RegionPlace) (f : Forest RenderObject) → AskMore (asks_idly before) (asks_idly before) p f (sweep layout_marks also hs a f)
layout_asks before also hs a p none = tt
layout_asks before also hs a p (tree h v kids rest) = (
  (record { look = refl; frame = refl; shown = refl; flag = refl }, (λ e. e)),
  layout_asks before also hs (within layout_marks a v) (below p (object_look v)) kids,
  layout_asks before also hs a p rest,
)

pub scroll_asked : (before after : Before) (old mid new : Tree RenderObject) (h : Handle) (o : RenderObject) (scroll : ℕ) → object_at old h ≡ Some o → Writes old mid h (with_scroll scroll o) → IsTree old → old.inactive ≡ []
    → SetsMarks layout_marks true (h ∷ []) mid new → Touches (viewport o.number) before after new → RootFlagsAsked (asks_idly before) (root_tree old) → RootFlagsAsked (asks_idly after) (root_tree new)
scroll_asked before after old mid new h o scroll at writes is alone sets touches flags =
    let f : Forest RenderObject = is.0 in
    let g : Forest RenderObject = set_value h (with_scroll scroll o) f in
    let there : Is mid g = writes.plain f is.1 in
    subst (RootFlagsAsked (asks_idly after)) (sym (root_forest new (sweep layout_marks true (h ∷ []) at_top g) (sets.inactive ∙ (writes.inactive ∙ alone)) (sets.plain g there)))
    (root_flags_ask_more (asks_idly after) (asks_idly after) g (sweep layout_marks true (h ∷ []) at_top g) (layout_asks after true (h ∷ []) at_top at_root g)
    (root_flags_ask_more (asks_idly before) (asks_idly after) f g (scrolls_ask before after (viewport o.number ∷ []) touches.more at_root f g (set_scrolls old mid h o scroll at writes None f is.1.stands))
    (subst (RootFlagsAsked (asks_idly before)) (root_forest old f alone is.1) flags)))

module _ (before after : Before) (name : List ℕ) (more : after.touched ≡ before.touched ++ delegate name ∷ []) where
  same_ask : (p : RegionPlace) (f : Forest RenderObject) → AskMore (asks_idly before) (asks_idly after) p f f
  same_ask p none = tt
  same_ask p (tree h v kids rest) = (
    (record { look = refl; frame = refl; shown = refl; flag = refl }, (λ e. idle_more before after (delegate name ∷ []) (render_over v kids) (render_over v kids) more refl e)),
    same_ask (below p (object_look v)) kids,
    same_ask p rest,
  )

  users_ask : (old : Tree RenderObject) (hs : List Handle) → ((k : Handle) → listed k hs ≡ true → uses old name k ≡ true) → (also : Bool) (a : Above) (q : Option Handle) (p : RegionPlace) (f : Forest RenderObject) → Stands (node_at old) q f
      → AreAsking (asks_idly after) hs p (sweep layout_marks also hs a f)
  users_ask old hs users also a q p none s = tt
  users_ask old hs users also a q p (tree k v kids rest) s = (
    (λ e. ap (λ us. has_touched_delegate us (render_over v kids)) more
        ∙ called_touched name (delegate_of (object_look v)) before.touched
        (sym (ap (λ (n : Option (TreeNode RenderObject)). is_called name (option_and_then (λ (x : RenderObject). delegate_of (object_look x)) (option_map (λ (m : TreeNode RenderObject). m.value) n))) s.0) ∙ users k e)),
    users_ask old hs users also (within layout_marks a v) (Some k) (below p (object_look v)) kids s.1,
    users_ask old hs users also a q p rest s.2,
  )

  pub delegate_asked : (old mid new : Tree RenderObject) (hs : List Handle) → IsTree old → old.inactive ≡ [] → ((k : Handle) → listed k hs ≡ true → uses old name k ≡ true)
      → SetsMarks layout_marks true hs old mid → SetsMarks paint_marks true hs mid new → RootFlagsAsked (asks_idly before) (root_tree old) → RootFlagsAsked (asks_idly after) (root_tree new)
  delegate_asked old mid new hs is alone users layouts paints flags =
      let f : Forest RenderObject = is.0 in
      let g : Forest RenderObject = sweep layout_marks true hs at_top f in
      subst (RootFlagsAsked (asks_idly after)) (sym (root_forest new (sweep paint_marks true hs at_top g) (paints.inactive ∙ (layouts.inactive ∙ alone)) (paints.plain g (layouts.plain f is.1))))
      (root_marks_asked (asks_idly after) hs true g (users_ask old hs users true at_top None at_root f is.1.stands)
      (root_flags_ask_more (asks_idly after) (asks_idly after) f g (layout_asks after true hs at_top at_root f)
      (root_flags_ask_more (asks_idly before) (asks_idly after) f f (same_ask at_root f) (subst (RootFlagsAsked (asks_idly before)) (root_forest old f alone is.1) flags))))

-- ---- a frame that was painted

calm_asked : (asks : Asks) (p : RegionPlace) (f : Forest RenderObject) → IsPaintedCalm f → FlagsAsked asks p f
calm_asked asks p none calm = tt
calm_asked asks p (tree h o kids rest) calm = (
  (λ shown. let here = calm.0 shown in ((λ boundary flag. absurd (true≢false (sym flag ∙ here.0))), (λ opened. calm_asked asks (below p (object_look o)) kids (here.1 opened)))),
  calm_asked asks p rest calm.1,
)

pub painted_asked : (asks : Asks) (f : Forest RenderObject) → IsRootShown f → IsPaintedCalm f → RootFlagsAsked asks f
painted_asked asks none shown calm = tt
painted_asked asks (tree h o kids rest) shown calm =
    let here = calm.0 shown in ((λ flag. absurd (true≢false (sym flag ∙ here.0))), (λ opened. calm_asked asks (below at_root (object_look o)) kids (here.1 opened)))
