-- Flags between two frames, once a line has touched something more.
use Rattle.std.proofs.Common.{◌≡◌, ℕ, Bool, true, false, not, eqb, cond, ◌&&◌, ◌||◌, Option, Some, None, option_map, option_and_then, List, [], ◌∷◌, ◌++◌, refl, sym, ap, ◌∙◌, subst, inl, inr}
use Rattle.std.proofs.lemmas.Bool.{cases_Bool, and_parts, and_from, or_left, or_right, false≢true}
use Rattle.std.proofs.lemmas.List.Folds.{list_any-append}
use Rattle.std.specs.List.{list_any}
use Rattle.std.specs.Str.{bytes_eq}
use Rattle.std.specs.Cmp.{unsigned_Decides}
use Rattle.std.proofs.lemmas.Slice.Eq.{bytes_eq-Decides}
use Rattle.std.specs.Option.{option_or}
use Rattle.fx_geom.specs.declared.boxes.Bounds.{Bounds}
use Rattle.fx_handles.specs.declared.Handle.{Handle}
use Rattle.fx_handles.specs.Handle.{same}
use Rattle.fx_handles.specs.HandleLaws.{same-true}
use Rattle.fx_handles.specs.ArenaLaws.{same_Some}
use Rattle.node_tree.specs.Forest.{TreeNode, Forest, Stands, set_value, with_value_at}
use Rattle.node_tree.specs.Forest.Forest.{none, tree}
use Rattle.node_tree.specs.Tree.{Tree, Is, IsTree, node_at}
use Rattle.widget_model.specs.Look.{Look}
use Rattle.layout_form.specs.Layout.{delegate_of}
use Rattle.plain_tree.specs.Render.{Render}
use Rattle.session_form.specs.State.{Touched, delegate, viewport}
use Rattle.tree_marks.specs.Marking.{at_top}
use Rattle.tree_marks.specs.Marks.{listed, sweep}
use Rattle.tree_marks.proofs.Closing.{either}
use Rattle.work_roles.specs.Place.{RegionPlace, at_root, below, is_relayout_boundary}
use Rattle.work_roles.specs.WorkRole.{is_viewport}
use Rattle.work_sets.specs.Before.{Before, Frames, bounds_in, is_number, is_name, names_touched, is_touched}
use Rattle.work_sets.specs.InTree.{Standing, standing, standing_at, standing_in, look_of, number_of}
use Rattle.work_sets.specs.Layout.{is_firm_in, idle_judge}
use Rattle.work_sets.specs.Region.{Judge, is_reached, is_inside, reaches_out, some_reaches_out}
use Rattle.layout_owner.specs.Roots.{top_render}
use Rattle.render_tree.specs.Edits.{Writes, with_scroll}
use Rattle.render_tree.specs.Marked.{SetsMarks}
use Rattle.render_tree.specs.Marks.{layout_marks}
use Rattle.render_tree.specs.Object.{RenderObject, object_look}
use Rattle.render_tree.specs.Plain.{renders_of, root_tree}
use Rattle.render_tree.specs.Tree.{object_at}
use Rattle.render_tree.specs.Users.{uses, is_called}
use Rattle.screen_owner.proofs.Showing.{root_forest}
use Rattle.build_walk.specs.Changing.{render_over}
use Rattle.counted_work.specs.Inside.{FlagsInside, RootFlagsInside, AreReached}
use Rattle.counted_work.specs.Caused.{FramesAgree, LayoutsAreCaused}
use Rattle.counted_work.specs.Touches.{Touches}
use Rattle.counted_work.proofs.Inside.{root_marks_inside, no_other_renders}
use Rattle.counted_work.proofs.Changed.{AreFramed}
use Rattle.counted_work.proofs.Synced.{framed_ends}

-- ---- more causes, at the same nodes

module _ (j k : Judge) where
  pub record IsMore (p : RegionPlace) (v : RenderObject) (kids : Forest RenderObject) (w : RenderObject) (under : Forest RenderObject) : Type 0 where
    pub firm : k.is_firm p (render_over w under) ≡ j.is_firm p (render_over v kids)
    pub changed : j.is_changed p (render_over v kids) ≡ true → k.is_changed p (render_over w under) ≡ true
    pub look : object_look v ≡ object_look w
    pub shown : w.shown ≡ v.shown
    pub flag : w.needs_layout ≡ v.needs_layout

  abbrev pub AreMore : RegionPlace → Forest RenderObject → Forest RenderObject → Type 0
  AreMore p none none = Unit {0}
  AreMore p none (tree i w under rest) = ⊥
  AreMore p (tree h v kids more) none = ⊥
  AreMore p (tree h v kids more) (tree i w under rest) = IsMore p v kids w under × AreMore (below p (object_look v)) kids under × AreMore p more rest

  out_more : (reached firm again here : Bool) → (reached ≡ true → again ≡ true) → here ≡ firm → (reached && not firm) ≡ true → (again && not here) ≡ true
  out_more reached firm again here reach e f = and_from again (not here) (reach (and_parts reached (not firm) f).0) (ap not e ∙ (and_parts reached (not firm) f).1)

  reached_more : (p : RegionPlace) (v : RenderObject) (kids : Forest RenderObject) (w : RenderObject) (under : Forest RenderObject) → IsMore p v kids w under
      → (some_reaches_out j (below p (object_look v)) (renders_of kids) ≡ true → some_reaches_out k (below p (object_look v)) (renders_of under) ≡ true)
      → is_reached j p (render_over v kids) ≡ true → is_reached k p (render_over w under) ≡ true
  reached_more p v kids w under m go e = elim (either (j.is_changed p (render_over v kids)) (some_reaches_out j (below p (object_look v)) (renders_of kids)) e) [
    | inl a ↦ or_left (k.is_changed p (render_over w under)) (some_reaches_out k (below p (object_look w)) (renders_of under)) (m.changed a)
    | inr a ↦ or_right (k.is_changed p (render_over w under)) (some_reaches_out k (below p (object_look w)) (renders_of under))
        (subst (λ l. some_reaches_out k (below p l) (renders_of under) ≡ true) m.look (go a))
  ]

  reaches_more : (p : RegionPlace) (f g : Forest RenderObject) → AreMore p f g → some_reaches_out j p (renders_of f) ≡ true → some_reaches_out k p (renders_of g) ≡ true
  reaches_more p none g m e = absurd (false≢true e)
  reaches_more p (tree h v kids more) none m e = absurd m
  reaches_more p (tree h v kids more) (tree i w under rest) m e = elim (either (reaches_out j p (render_over v kids)) (some_reaches_out j p (renders_of more)) e) [
    | inl a ↦ or_left (reaches_out k p (render_over w under)) (some_reaches_out k p (renders_of rest))
        (out_more (is_reached j p (render_over v kids)) (j.is_firm p (render_over v kids)) (is_reached k p (render_over w under)) (k.is_firm p (render_over w under))
        (reached_more p v kids w under m.0 (reaches_more (below p (object_look v)) kids under m.1)) m.0.firm a)
    | inr a ↦ or_right (reaches_out k p (render_over w under)) (some_reaches_out k p (renders_of rest)) (reaches_more p more rest m.2 a)
  ]

  inside_more : (a b : Bool) (p : RegionPlace) (v : RenderObject) (kids : Forest RenderObject) (w : RenderObject) (under : Forest RenderObject) → IsMore p v kids w under → (a ≡ true → b ≡ true)
      → (is_reached j p (render_over v kids) ≡ true → is_reached k p (render_over w under) ≡ true) → is_inside j a p (render_over v kids) ≡ true → is_inside k b p (render_over w under) ≡ true
  inside_more a b p v kids w under m more reach e = elim (either a (j.is_firm p (render_over v kids) && is_reached j p (render_over v kids)) e) [
    | inl x ↦ or_left b (k.is_firm p (render_over w under) && is_reached k p (render_over w under)) (more x)
    | inr x ↦
        let parts = and_parts (j.is_firm p (render_over v kids)) (is_reached j p (render_over v kids)) x in
        or_right b (k.is_firm p (render_over w under) && is_reached k p (render_over w under))
        (and_from (k.is_firm p (render_over w under)) (is_reached k p (render_over w under)) (m.firm ∙ parts.0) (reach parts.1))
  ]

  pub flags_more : (a b : Bool) (p : RegionPlace) (f g : Forest RenderObject) → AreMore p f g → (a ≡ true → b ≡ true) → FlagsInside j a p f → FlagsInside k b p g
  flags_more a b p none none m more flags = tt
  flags_more a b p none (tree i w under rest) m more flags = absurd m
  flags_more a b p (tree h v kids others) none m more flags = tt
  flags_more a b p (tree h v kids others) (tree i w under rest) m more flags =
      let reach = reached_more p v kids w under m.0 (reaches_more (below p (object_look v)) kids under m.1) in
      let inside = inside_more a b p v kids w under m.0 more reach in (
        (λ shown. let before = flags.0 (sym m.0.shown ∙ shown) in (
          (λ flag. inside (before.0 (sym m.0.flag ∙ flag))),
          subst (λ l. FlagsInside k (is_inside k b p (render_over w under)) (below p l) under) m.0.look
              (flags_more (is_inside j a p (render_over v kids)) (is_inside k b p (render_over w under)) (below p (object_look v)) kids under m.1 inside before.1),
        )),
        flags_more a b p others rest m.2 more flags.1,
      )

  pub root_flags_more : (f g : Forest RenderObject) → AreMore at_root f g → RootFlagsInside j f → RootFlagsInside k g
  root_flags_more none none m flags = tt
  root_flags_more none (tree i w under rest) m flags = absurd m
  root_flags_more (tree h v kids others) none m flags = tt
  root_flags_more (tree h v kids others) (tree i w under rest) m flags =
      let reach = reached_more at_root v kids w under m.0 (reaches_more (below at_root (object_look v)) kids under m.1) in
      let inside = inside_more (reaches_out j at_root (render_over v kids)) (reaches_out k at_root (render_over w under)) at_root v kids w under m.0
      (out_more (is_reached j at_root (render_over v kids)) (j.is_firm at_root (render_over v kids)) (is_reached k at_root (render_over w under)) (k.is_firm at_root (render_over w under)) reach m.0.firm) reach in (
        (λ flag. inside (flags.0 (sym m.0.flag ∙ flag))),
        subst (λ l. FlagsInside k (is_inside k (reaches_out k at_root (render_over w under)) at_root (render_over w under)) (below at_root l) under) m.0.look
            (flags_more (is_inside j (reaches_out j at_root (render_over v kids)) at_root (render_over v kids)) (is_inside k (reaches_out k at_root (render_over w under)) at_root (render_over w under))
            (below at_root (object_look v)) kids under m.1 inside flags.1),
      )

-- ---- forests that differ in offsets of Viewports alone

abbrev pub ScrollsDiffer : Forest RenderObject → Forest RenderObject → Type 0
ScrollsDiffer none none = Unit {0}
ScrollsDiffer none (tree i w under rest) = ⊥
ScrollsDiffer (tree h v kids more) none = ⊥
ScrollsDiffer (tree h v kids more) (tree i w under rest) = ((scroll : ℕ) × (w ≡ with_scroll scroll v)) × ScrollsDiffer kids under × ScrollsDiffer more rest

pub scrolls_same : (f : Forest RenderObject) → ScrollsDiffer f f
scrolls_same none = tt
scrolls_same (tree h v kids rest) = ((v.scroll, refl), scrolls_same kids, scrolls_same rest)

-- what a firm boundary is told by of what stood with a number
record Known : Type 0 where
  place : RegionPlace
  look : Look

abbrev known : Standing → Known
known st = record { place = st.place; look = look_of st.node }

abbrev firm_by : Option Bounds → Option Known → RegionPlace → Look → Bool
firm_by None x p look = false
firm_by (Some bounds) None p look = false
firm_by (Some bounds) (Some was) p look = is_relayout_boundary was.place was.look bounds && is_relayout_boundary p look bounds

firm_known : (b : Option Bounds) (x : Option Standing) (p : RegionPlace) (look : Look) → is_firm_in b x p look ≡ firm_by b (option_map known x) p look
firm_known None x p look = refl
firm_known (Some bounds) None p look = refl
firm_known (Some bounds) (Some was) p look = refl

known_if : (b : Bool) (x y : Standing) (s t : Option Standing) → known x ≡ known y → option_map known s ≡ option_map known t → option_map known (cond b (Some x) s) ≡ option_map known (cond b (Some y) t)
known_if true x y s t e f = ap (λ z. Some z) e
known_if false x y s t e f = f

known_or : (a b c d : Option Standing) → option_map known a ≡ option_map known b → option_map known c ≡ option_map known d → option_map known (option_or a c) ≡ option_map known (option_or b d)
known_or None None c d e f = f
known_or None (Some y) c d e f = absurd (cc)
known_or (Some x) None c d e f = absurd (cc)
known_or (Some x) (Some y) c d e f = e

same_known : (n : ℕ) (p : RegionPlace) (f g : Forest RenderObject) → ScrollsDiffer f g → option_map known (standing_in n p (renders_of f)) ≡ option_map known (standing_in n p (renders_of g))
same_known n p none none d = refl
same_known n p none (tree i w under rest) d = absurd d
same_known n p (tree h v kids more) none d = absurd d
same_known n p (tree h v kids more) (tree i w under rest) d =
    let scrolled : RenderObject = with_scroll d.0.0 v in
    known_or (standing_at n p (render_over v kids)) (standing_at n p (render_over scrolled under)) (standing_in n p (renders_of more)) (standing_in n p (renders_of rest))
    (known_if (eqb v.number n) (record { place = p; node = render_over v kids }) (record { place = p; node = render_over scrolled under })
    (standing_in n (below p (object_look v)) (renders_of kids)) (standing_in n (below p (object_look v)) (renders_of under)) refl (same_known n (below p (object_look v)) kids under d.1))
    (same_known n p more rest d.2)
    ∙ ap (λ o. option_map known (option_or (standing_at n p (render_over o under)) (standing_in n p (renders_of rest)))) (sym d.0.1)

none_or : (a : Option Standing) → option_or a None ≡ a
none_or None = refl
none_or (Some x) = refl

root_known : (n : ℕ) (f g : Forest RenderObject) → ScrollsDiffer f g → option_map known (standing (top_render (renders_of f)) n) ≡ option_map known (standing (top_render (renders_of g)) n)
root_known n none none d = refl
root_known n none (tree i w under rest) d = absurd d
root_known n (tree h v kids more) none d = absurd d
root_known n (tree h v kids more) (tree i w under rest) d =
    ap (option_map known) (sym (none_or (standing_at n at_root (render_over v kids))))
    ∙ (same_known n at_root (tree h v kids none) (tree i w under none) (d.0, d.1, tt)
    ∙ ap (option_map known) (none_or (standing_at n at_root (render_over w under))))

-- ---- what is touched

pub names_more : (name : Option (List ℕ)) (ts us : List Touched) → names_touched name ts ≡ true → names_touched name (ts ++ us) ≡ true
names_more None ts us e = absurd (false≢true e)
names_more (Some name) ts us e = list_any-append (is_name name) ts us ∙ or_left (list_any (is_name name) ts) (list_any (is_name name) us) e

touched_more : (r s : Render) (ts us : List Touched) → number_of r ≡ number_of s → look_of r ≡ look_of s → is_touched ts r ≡ true → is_touched (ts ++ us) s ≡ true
touched_more r s ts us n l e =
    subst (λ x. ((is_viewport x && list_any (is_number (number_of s)) (ts ++ us)) || names_touched (delegate_of x) (ts ++ us)) ≡ true) l
    (subst (λ x. ((is_viewport (look_of r) && list_any (is_number x) (ts ++ us)) || names_touched (delegate_of (look_of r)) (ts ++ us)) ≡ true) n
    (elim (either (is_viewport (look_of r) && list_any (is_number (number_of r)) ts) (names_touched (delegate_of (look_of r)) ts) e) [
      | inl a ↦
          let parts = and_parts (is_viewport (look_of r)) (list_any (is_number (number_of r)) ts) a in
          or_left (is_viewport (look_of r) && list_any (is_number (number_of r)) (ts ++ us)) (names_touched (delegate_of (look_of r)) (ts ++ us))
          (and_from (is_viewport (look_of r)) (list_any (is_number (number_of r)) (ts ++ us)) parts.0
          (list_any-append (is_number (number_of r)) ts us ∙ or_left (list_any (is_number (number_of r)) ts) (list_any (is_number (number_of r)) us) parts.1))
      | inr a ↦ or_right (is_viewport (look_of r) && list_any (is_number (number_of r)) (ts ++ us)) (names_touched (delegate_of (look_of r)) (ts ++ us)) (names_more (delegate_of (look_of r)) ts us a)
    ]))

module _ (before after : Before) (root_f root_g : Forest RenderObject) (scrolled : ScrollsDiffer root_f root_g) (was : before.tree ≡ top_render (renders_of root_f)) (is : after.tree ≡ top_render (renders_of root_g))
    (frames : after.frames ≡ before.frames) (us : List Touched) (more : after.touched ≡ before.touched ++ us) where
  abbrev idle : Judge
  idle = idle_judge before

  abbrev later : Judge
  later = idle_judge after

  same_firm : (p : RegionPlace) (n : ℕ) (look : Look) → is_firm_in (bounds_in (after.frames n)) (standing after.tree n) p look ≡ is_firm_in (bounds_in (before.frames n)) (standing before.tree n) p look
  same_firm p n look =
      firm_known (bounds_in (after.frames n)) (standing after.tree n) p look
      ∙ (ap (λ fs. firm_by (bounds_in (fs n)) (option_map known (standing after.tree n)) p look) frames
      ∙ (ap (λ x. firm_by (bounds_in (before.frames n)) x p look)
      (ap (λ t. option_map known (standing t n)) is ∙ (sym (root_known n root_f root_g scrolled) ∙ sym (ap (λ t. option_map known (standing t n)) was)))
      ∙ sym (firm_known (bounds_in (before.frames n)) (standing before.tree n) p look)))

  more_at : (p : RegionPlace) (f g : Forest RenderObject) → ScrollsDiffer f g → AreMore idle later p f g
  more_at p none none d = tt
  more_at p none (tree i w under rest) d = absurd d
  more_at p (tree h v kids others) none d = absurd d
  more_at p (tree h v kids others) (tree i w under rest) d = (
    record {
      firm = ap (λ (o : RenderObject). later.is_firm p (render_over o under)) d.0.1 ∙ same_firm p v.number (object_look v);
      changed = λ e.
          ap (λ ts. is_touched ts (render_over w under)) more
          ∙ touched_more (render_over v kids) (render_over w under) before.touched us (ap (λ (o : RenderObject). o.number) (sym d.0.1)) (ap object_look (sym d.0.1)) e;
      look = ap object_look (sym d.0.1);
      shown = ap (λ (o : RenderObject). o.shown) d.0.1;
      flag = ap (λ (o : RenderObject). o.needs_layout) d.0.1;
    },
    more_at (below p (object_look v)) kids under d.1,
    more_at p others rest d.2,
  )

  pub touched_flags : RootFlagsInside idle root_f → RootFlagsInside later root_g
  touched_flags flags = root_flags_more idle later root_f root_g (more_at at_root root_f root_g scrolled) flags

-- ---- marks, once there are causes for them

pub same_frames : (frames : Frames) (mid new : Tree RenderObject) (hs : List Handle) → SetsMarks layout_marks true hs mid new → FramesAgree frames mid → FramesAgree frames new
same_frames frames mid new hs sets agree k o at = by_node (node_at mid k) refl
  where
    none_some : {B : Type 0} (x : RenderObject) → None ≡ Some x → B
    none_some x e = absurd (cc)

    by_node : (x : Option (TreeNode RenderObject)) → node_at mid k ≡ x → o.frame ≡ frames o.number
    by_node None e = none_some o (sym (ap (option_map (λ (n : TreeNode RenderObject). n.value)) (sets.absent k e)) ∙ at)
    by_node (Some n) e =
        let marked = sets.only k n e in
        let value : o ≡ layout_marks.marked marked.0 marked.1 n.value = same_Some (sym at ∙ ap (option_map (λ (x : TreeNode RenderObject). x.value)) marked.2) in
        ap (λ (x : RenderObject). x.frame) value ∙ (agree k n.value (ap (option_map (λ (x : TreeNode RenderObject). x.value)) e) ∙ ap frames (ap (λ (x : RenderObject). x.number) (sym value)))

pub stands_framed : (frames : Frames) (t : Tree RenderObject) (q : Option Handle) (f : Forest RenderObject) → Stands (node_at t) q f → FramesAgree frames t → AreFramed frames f
stands_framed frames t q none s agree = tt
stands_framed frames t q (tree k v kids rest) s agree =
    (agree k v (ap (option_map (λ (x : TreeNode RenderObject). x.value)) s.0), stands_framed frames t (Some k) kids s.1 agree, stands_framed frames t q rest s.2 agree)

pub marks_caused : (after : Before) (mid new : Tree RenderObject) (hs : List Handle) (g : Forest RenderObject) → Is mid g → mid.inactive ≡ [] → SetsMarks layout_marks true hs mid new
    → after.tree ≡ top_render (renders_of (root_tree new)) → FramesAgree after.frames mid → AreReached (idle_judge after) hs at_root g → RootFlagsInside (idle_judge after) g → LayoutsAreCaused after new
marks_caused after mid new hs g is alone sets whole agree reached flags = record {
  tree = whole;
  frames = same_frames after.frames mid new hs sets agree;
  flags = subst (RootFlagsInside (idle_judge after)) (sym (root_forest new (sweep layout_marks true hs at_top g) (sets.inactive ∙ alone) (sets.plain g is)))
      (root_marks_inside (idle_judge after) hs true g reached (framed_ends after at_root g (stands_framed after.frames mid None g is.stands agree)) flags);
}

swept_tree : (mid new : Tree RenderObject) (hs : List Handle) (g : Forest RenderObject) → Is mid g → mid.inactive ≡ [] → SetsMarks layout_marks true hs mid new → top_render (renders_of (root_tree new)) ≡ top_render (renders_of g)
swept_tree mid new hs g is alone sets =
    ap (λ f. top_render (renders_of f)) (root_forest new (sweep layout_marks true hs at_top g) (sets.inactive ∙ alone) (sets.plain g is))
    ∙ ap top_render (no_other_renders true hs at_top g)

-- ---- a scrolled Viewport

module _ (old mid : Tree RenderObject) (h : Handle) (o : RenderObject) (scroll : ℕ) (at : object_at old h ≡ Some o) (writes : Writes old mid h (with_scroll scroll o)) where
  abbrev there : Handle → RenderObject → RenderObject
  there k v = cond (same k h) (with_scroll scroll o) v

  value_there : (k : Handle) (q : Option Handle) (v : RenderObject) (l : List Handle) → node_at old k ≡ Some (record { parent = q; children = l; value = v }) → same k h ≡ true → v ≡ o
  value_there k q v l stands e = same_Some (sym (ap (option_map (λ (n : TreeNode RenderObject). n.value)) (ap (node_at old) (sym (same-true k h e)) ∙ stands)) ∙ at)

  scrolled_there : (k : Handle) (q : Option Handle) (v : RenderObject) (l : List Handle) → node_at old k ≡ Some (record { parent = q; children = l; value = v }) → (s : ℕ) × (there k v ≡ with_scroll s v)
  scrolled_there k q v l stands = elim (cases_Bool (same k h)) [
    | inl e ↦ (scroll, ap (λ b. cond b (with_scroll scroll o) v) e ∙ ap (with_scroll scroll) (sym (value_there k q v l stands e)))
    | inr e ↦ (v.scroll, ap (λ b. cond b (with_scroll scroll o) v) e)
  ]

  pub set_scrolls : (q : Option Handle) (f : Forest RenderObject) → Stands (node_at old) q f → ScrollsDiffer f (set_value h (with_scroll scroll o) f)
  set_scrolls q none s = tt
  set_scrolls q (tree k v kids rest) s = (scrolled_there k q v _ s.0, set_scrolls (Some k) kids s.1, set_scrolls q rest s.2)

  reach_there : (after : Before) (before_touched : List Touched) → after.touched ≡ before_touched ++ viewport o.number ∷ [] → is_viewport (object_look o) ≡ true → (q : Option Handle) (p : RegionPlace) (f : Forest RenderObject) → Stands (node_at old) q f
      → AreReached (idle_judge after) (h ∷ []) p (set_value h (with_scroll scroll o) f)
  reach_there after ts more window q p none s = tt
  reach_there after ts more window q p (tree k v kids rest) s = (
    (λ e.
        let under : Forest RenderObject = set_value h (with_scroll scroll o) kids in
        let here : same k h ≡ true = elim (either (same k h) false e) [ inl a ↦ a | inr a ↦ absurd (false≢true a) ] in
        let value : there k v ≡ with_scroll scroll o = ap (λ b. cond b (with_scroll scroll o) v) here in
        or_left (is_touched after.touched (render_over (there k v) under)) (some_reaches_out (idle_judge after) (below p (object_look (there k v))) (renders_of under))
        (ap (λ (x : RenderObject). is_touched after.touched (render_over x under)) value ∙ (ap (λ us. is_touched us (render_over (with_scroll scroll o) under)) more
        ∙ or_left (is_viewport (object_look o) && list_any (is_number o.number) (ts ++ viewport o.number ∷ [])) (names_touched (delegate_of (object_look o)) (ts ++ viewport o.number ∷ []))
        (and_from (is_viewport (object_look o)) (list_any (is_number o.number) (ts ++ viewport o.number ∷ [])) window
        (list_any-append (is_number o.number) ts (viewport o.number ∷ [])
        ∙ or_right (list_any (is_number o.number) ts) (list_any (is_number o.number) (viewport o.number ∷ [])) (or_left (eqb o.number o.number) false ((unsigned_Decides o.number o.number).1 refl))))))),
    subst (λ (l : Look). AreReached (idle_judge after) (h ∷ []) (below p l) (set_value h (with_scroll scroll o) kids)) (ap object_look (sym (scrolled_there k q v _ s.0).1))
        (reach_there after ts more window (Some k) (below p (object_look v)) kids s.1),
    reach_there after ts more window q p rest s.2,
  )

  pub framed_there : (frames : Frames) → FramesAgree frames old → FramesAgree frames mid
  framed_there frames agree k x is = by_node (node_at old k) refl
    where
      none_some : {B : Type 0} (y : RenderObject) → None ≡ Some y → B
      none_some y e = absurd (cc)

      written : (n : Option (TreeNode RenderObject)) → node_at old k ≡ n → option_map (λ (m : TreeNode RenderObject). m.value) (option_map (with_value_at h (with_scroll scroll o) k) n) ≡ Some x
      written n e = ap (λ y. option_map (λ (m : TreeNode RenderObject). m.value) (option_map (with_value_at h (with_scroll scroll o) k) y)) (sym e) ∙ (sym (ap (option_map (λ (m : TreeNode RenderObject). m.value)) (writes.writes.nodes k)) ∙ is)

      by_node : (n : Option (TreeNode RenderObject)) → node_at old k ≡ n → x.frame ≡ frames x.number
      by_node None e = none_some x (written None e)
      by_node (Some n) e = elim (cases_Bool (same k h)) [
        | inl c ↦
            let value : with_scroll scroll o ≡ x = same_Some (ap (λ b. Some (cond b (record n { value = with_scroll scroll o }) n).value) (sym c) ∙ written (Some n) e) in
            ap (λ (y : RenderObject). y.frame) (sym value) ∙ (agree h o at ∙ ap frames (ap (λ (y : RenderObject). y.number) value))
        | inr c ↦
            let value : n.value ≡ x = same_Some (ap (λ b. Some (cond b (record n { value = with_scroll scroll o }) n).value) (sym c) ∙ written (Some n) e) in
            ap (λ (y : RenderObject). y.frame) (sym value) ∙ (agree k n.value (ap (option_map (λ (m : TreeNode RenderObject). m.value)) e) ∙ ap frames (ap (λ (y : RenderObject). y.number) value))
      ]

  pub scroll_caused : (before after : Before) (new : Tree RenderObject) → IsTree old → old.inactive ≡ [] → is_viewport (object_look o) ≡ true → SetsMarks layout_marks true (h ∷ []) mid new
      → Touches (viewport o.number) before after new → LayoutsAreCaused before old → LayoutsAreCaused after new
  scroll_caused before after new is alone window sets touches caused =
      let f : Forest RenderObject = is.0 in
      let g : Forest RenderObject = set_value h (with_scroll scroll o) f in
      let there_is : Is mid g = writes.plain f is.1 in
      let alone_mid : mid.inactive ≡ [] = writes.inactive ∙ alone in
      let root_is : root_tree old ≡ f = root_forest old f alone is.1 in
      let was : before.tree ≡ top_render (renders_of f) = caused.tree ∙ ap (λ x. top_render (renders_of x)) root_is in
      let now_tree : after.tree ≡ top_render (renders_of g) = touches.tree ∙ swept_tree mid new (h ∷ []) g there_is alone_mid sets in
      marks_caused after mid new (h ∷ []) g there_is alone_mid sets touches.tree
      (framed_there after.frames (subst (λ fs. FramesAgree fs old) (sym touches.frames) caused.frames))
      (reach_there after before.touched touches.more window None at_root f is.1.stands)
      (touched_flags before after f g (set_scrolls None f is.1.stands) was now_tree touches.frames (viewport o.number ∷ []) touches.more (subst (RootFlagsInside (idle_judge before)) root_is caused.flags))

-- ---- a delegate that means something else

pub called_touched : (name : List ℕ) (d : Option (List ℕ)) (ts : List Touched) → is_called name d ≡ true → names_touched d (ts ++ delegate name ∷ []) ≡ true
called_touched name None ts e = absurd (false≢true e)
called_touched name (Some d) ts e =
    list_any-append (is_name d) ts (delegate name ∷ [])
    ∙ or_right (list_any (is_name d) ts) (list_any (is_name d) (delegate name ∷ []))
    (or_left (bytes_eq name d) false ((bytes_eq-Decides name d).1 (sym ((bytes_eq-Decides d name).0 e))))

users_reach : (after : Before) (ts : List Touched) (name : List ℕ) (old : Tree RenderObject) (hs : List Handle) → after.touched ≡ ts ++ delegate name ∷ [] → ((k : Handle) → listed k hs ≡ true → uses old name k ≡ true)
    → (q : Option Handle) (p : RegionPlace) (f : Forest RenderObject) → Stands (node_at old) q f → AreReached (idle_judge after) hs p f
users_reach after ts name old hs more users q p none s = tt
users_reach after ts name old hs more users q p (tree k v kids rest) s = (
  (λ e.
      let named : is_called name (delegate_of (object_look v)) ≡ true = sym (ap (λ (n : Option (TreeNode RenderObject)). is_called name (option_and_then (λ (x : RenderObject). delegate_of (object_look x)) (option_map (λ (m : TreeNode RenderObject). m.value) n))) s.0) ∙ users k e in
      or_left (is_touched after.touched (render_over v kids)) (some_reaches_out (idle_judge after) (below p (object_look v)) (renders_of kids))
      (ap (λ us. is_touched us (render_over v kids)) more
      ∙ or_right (is_viewport (object_look v) && list_any (is_number v.number) (ts ++ delegate name ∷ [])) (names_touched (delegate_of (object_look v)) (ts ++ delegate name ∷ [])) (called_touched name (delegate_of (object_look v)) ts named))),
  users_reach after ts name old hs more users (Some k) (below p (object_look v)) kids s.1,
  users_reach after ts name old hs more users q p rest s.2,
)

pub delegate_caused : (before after : Before) (name : List ℕ) (old new : Tree RenderObject) (hs : List Handle) → IsTree old → old.inactive ≡ [] → ((k : Handle) → listed k hs ≡ true → uses old name k ≡ true)
    → SetsMarks layout_marks true hs old new → Touches (delegate name) before after new → LayoutsAreCaused before old → LayoutsAreCaused after new
delegate_caused before after name old new hs is alone users sets touches caused =
    let f : Forest RenderObject = is.0 in
    let root_is : root_tree old ≡ f = root_forest old f alone is.1 in
    let was : before.tree ≡ top_render (renders_of f) = caused.tree ∙ ap (λ x. top_render (renders_of x)) root_is in
    let now_tree : after.tree ≡ top_render (renders_of f) = touches.tree ∙ swept_tree old new hs f is.1 alone sets in
    marks_caused after old new hs f is.1 alone sets touches.tree
    (subst (λ fs. FramesAgree fs old) (sym touches.frames) caused.frames)
    (users_reach after before.touched name old hs touches.more users None at_root f is.1.stands)
    (touched_flags before after f f (scrolls_same f) was now_tree touches.frames (delegate name ∷ []) touches.more (subst (RootFlagsInside (idle_judge before)) root_is caused.flags))
