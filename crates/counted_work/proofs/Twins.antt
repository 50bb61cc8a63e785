-- Flags in the region of the last frame's tree are in the region of the new one: both trees are gone down at once, up to what is
-- changed.
use Rattle.std.proofs.Common.{◌≡◌, ℕ, Bool, true, false, not, eqb, cond, ◌&&◌, ◌||◌, Option, Some, None, refl, sym, ap, ◌∙◌, inl, inr, Decides}
use Rattle.std.proofs.lemmas.Bool.{cases_Bool, and_parts, and_from, or_parts, or_left, or_right, false≢true, true≢false}
use Rattle.std.specs.Cmp.{unsigned_Decides}
use Rattle.std.specs.List.{list_any}
use Rattle.std.specs.Option.{option_or}
use lib.Pointwise.{pointwise}
use Rattle.fx_geom.specs.declared.boxes.Bounds.{Bounds}
use Rattle.fx_handles.specs.declared.Handle.{Handle}
use Rattle.node_tree.specs.Forest.{Forest}
use Rattle.node_tree.specs.Forest.Forest.{none, tree}
use Rattle.widget_model.specs.Look.{Look}
use Rattle.layout_form.specs.Layout.{delegate_of}
use Rattle.plain_tree.specs.Render.{Render}
use Rattle.tree_marks.proofs.Closing.{either, not-false}
use Rattle.work_roles.proofs.Blanks.{same_role}
use Rattle.work_roles.specs.ForLayout.{for_layout}
use Rattle.work_roles.specs.Place.{RegionPlace, at_root, below, is_relayout_boundary}
use Rattle.work_roles.specs.WorkRole.{work_role_of, is_viewport, is_viewport_role}
use Rattle.work_sets.specs.Before.{Before, bounds_in, is_number, is_touched, names_touched}
use Rattle.work_sets.specs.InTree.{Standing, standing, standing_at, standing_in, look_of, number_of}
use Rattle.work_sets.specs.Layout.{is_firm_in, is_child_same, is_told_same, is_same_for_layout, is_changed_root, is_changed_since, list_below, frame_judge, idle_judge}
use Rattle.work_sets.specs.Members.{is_same_look}
use Rattle.work_sets.specs.Region.{Judge, is_reached, is_inside, reaches_out, some_reaches_out}
use Rattle.work_sets.proofs.ForLayout.{roles_read}
use Rattle.work_sets.proofs.Found.{Finds, FindsAll}
use Rattle.render_tree.specs.Object.{RenderObject, object_look}
use Rattle.render_tree.specs.Plain.{lazy_children, renders_of}
use Rattle.build_walk.specs.Changing.{render_over}
use Rattle.counted_work.specs.Inside.{FlagsInside, RootFlagsInside}
use Rattle.counted_work.proofs.Inside.{reached_inside, all_inside}

-- ---- what a line touched

pub viewport_by : (a b : Look) → for_layout a ≡ for_layout b → is_viewport a ≡ is_viewport b
viewport_by a b e = ap is_viewport_role (sym (same_role a) ∙ ap work_role_of e ∙ same_role b)

delegate_by : (a b : Look) → for_layout a ≡ for_layout b → delegate_of a ≡ delegate_of b
delegate_by a b e = sym (roles_read a).1 ∙ ap delegate_of e ∙ (roles_read b).1

touched_by : (before : Before) (r s : Render) → number_of r ≡ number_of s → for_layout (look_of r) ≡ for_layout (look_of s) → is_touched before.touched r ≡ is_touched before.touched s
touched_by before r s n e = λ i.
    (viewport_by (look_of r) (look_of s) e i && list_any (is_number (n i)) before.touched) || names_touched (delegate_by (look_of r) (look_of s) e i) before.touched

some_same : {A : Type 0} (x y : A) → Some x ≡ Some y → x ≡ y
some_same x y e = cc

-- ---- nodes of two trees

module _ (at : Handle → Option RenderObject) where
  -- each node is stored at its handle
  abbrev pub AreAt : Forest RenderObject → Type 0
  AreAt none = Unit {0}
  AreAt (tree h o kids rest) = (at h ≡ Some o) × AreAt kids × AreAt rest

  -- a node has of the one that is stored at its handle what an update doesn't change
  pub record IsCarried (h : Handle) (w : RenderObject) : Type 0 where
    pub stored : RenderObject
    pub is : at h ≡ Some stored
    pub number : w.number ≡ stored.number
    pub shown : w.shown ≡ stored.shown
    pub flag : w.needs_layout ≡ stored.needs_layout
    pub scroll : w.scroll ≡ stored.scroll
    pub frame : w.frame ≡ stored.frame
    pub plugged : w.plugged ≡ stored.plugged
    pub offset : w.offset ≡ stored.offset
    pub paint : w.needs_paint ≡ stored.needs_paint

  abbrev pub AreCarried : Forest RenderObject → Type 0
  AreCarried none = Unit {0}
  AreCarried (tree h w kids rest) = IsCarried h w × AreCarried kids × AreCarried rest

  -- of one number there is one node
  abbrev pub TellNodes : Type 0
  TellNodes = (h k : Handle) (v w : RenderObject) → at h ≡ Some v → at k ≡ Some w → v.number ≡ w.number → v ≡ w

module _ (before : Before) (look_same : (a b : Look) → Decides (is_same_look a b) (a ≡ b)) where
  abbrev idle : Judge
  idle = idle_judge before

  abbrev now : Judge
  now = frame_judge before

  abbrev Lists : Forest RenderObject → Forest RenderObject → Type 0
  Lists f g = pointwise is_child_same (list_below (renders_of f)) (list_below (renders_of g)) ≡ true

  -- two nodes with one number, of the last frame's tree and of the new one
  record IsPair (p : RegionPlace) (o : RenderObject) (kids : Forest RenderObject) (w : RenderObject) : Type 0 where
    number : o.number ≡ w.number
    stood : standing before.tree w.number ≡ Some (record { place = p; node = render_over o kids })
    found : standing before.tree o.number ≡ Some (record { place = p; node = render_over o kids })
    shown : w.shown ≡ o.shown
    flag : w.needs_layout ≡ o.needs_layout

  -- what isn't changed
  record IsUnchanged (o : RenderObject) (kids : Forest RenderObject) (w : RenderObject) (under : Forest RenderObject) : Type 0 where
    lists : Lists kids under
    untouched : is_touched before.touched (render_over o kids) ≡ false

  unchanged : (p q : RegionPlace) (o : RenderObject) (kids : Forest RenderObject) (w : RenderObject) (under : Forest RenderObject) → IsPair p o kids w → now.is_changed q (render_over w under) ≡ false → IsUnchanged o kids w under
  unchanged p q o kids w under pair e =
      let was : Standing = record { place = p; node = render_over o kids } in
      let r : Render = render_over w under in
      let since : is_changed_since (Some was) before q r ≡ false = sym (ap (λ x. is_changed_since x before q r) pair.stood) ∙ e in
      let parts = or_parts (not (is_same_for_layout was.node r)) (is_touched before.touched r || is_changed_root before was.place q) since in
      let touch = or_parts (is_touched before.touched r) (is_changed_root before was.place q) parts.1 in
      let same : is_same_for_layout was.node r ≡ true = not-false (is_same_for_layout was.node r) parts.0 in
      let looks = and_parts (is_same_look (for_layout (object_look o)) (for_layout (object_look w))) (pointwise is_child_same (list_below (renders_of kids)) (list_below (renders_of under)) && eqb (lazy_children o) (lazy_children w)) same in
      let lists = and_parts (pointwise is_child_same (list_below (renders_of kids)) (list_below (renders_of under))) (eqb (lazy_children o) (lazy_children w)) looks.1 in
      record {
        lists = lists.0;
        untouched = touched_by before (render_over o kids) r pair.number ((look_same (for_layout (object_look o)) (for_layout (object_look w))).0 looks.0) ∙ touch.0;
      }

  firm_in_back : (b : Option Bounds) (was : Standing) (q : RegionPlace) (look : Look) → is_firm_in b (Some was) q look ≡ true → is_firm_in b (Some was) was.place (look_of was.node) ≡ true
  firm_in_back None was q look e = e
  firm_in_back (Some bounds) was q look e =
      let first = (and_parts (is_relayout_boundary was.place (look_of was.node) bounds) (is_relayout_boundary q look bounds) e).0 in
      and_from (is_relayout_boundary was.place (look_of was.node) bounds) (is_relayout_boundary was.place (look_of was.node) bounds) first first

  -- what is firm now was firm
  firm_back : (p q : RegionPlace) (o : RenderObject) (kids : Forest RenderObject) (w : RenderObject) (under : Forest RenderObject) → IsPair p o kids w → now.is_firm q (render_over w under) ≡ true → idle.is_firm p (render_over o kids) ≡ true
  firm_back p q o kids w under pair e =
      let was : Standing = record { place = p; node = render_over o kids } in
      ap (λ x. is_firm_in (bounds_in (before.frames o.number)) x p (object_look o)) pair.found
      ∙ (ap (λ n. is_firm_in (bounds_in (before.frames n)) (Some was) p (object_look o)) pair.number
      ∙ firm_in_back (bounds_in (before.frames w.number)) was q (object_look w)
      (sym (ap (λ x. is_firm_in (bounds_in (before.frames w.number)) x q (object_look w)) pair.stood) ∙ e))

  out_back : (reached firm again here : Bool) → (reached ≡ true → again ≡ true) → (here ≡ true → firm ≡ true) → (reached && not firm) ≡ true → (again && not here) ≡ true
  out_back reached firm again true reach back e = absurd (false≢true (ap not (sym (back refl)) ∙ (and_parts reached (not firm) e).1))
  out_back reached firm again false reach back e = and_from again true (reach (and_parts reached (not firm) e).0) refl

  -- a cause that reached a node still does
  reached_pair : (p q : RegionPlace) (o : RenderObject) (kids : Forest RenderObject) (w : RenderObject) (under : Forest RenderObject) → IsPair p o kids w
      → (Lists kids under → some_reaches_out idle (below p (object_look o)) (renders_of kids) ≡ true → some_reaches_out now (below q (object_look w)) (renders_of under) ≡ true)
      → is_reached idle p (render_over o kids) ≡ true → is_reached now q (render_over w under) ≡ true
  reached_pair p q o kids w under pair go e = elim (cases_Bool (now.is_changed q (render_over w under))) [
    | inl c ↦ or_left (now.is_changed q (render_over w under)) (some_reaches_out now (below q (object_look w)) (renders_of under)) c
    | inr c ↦ or_right (now.is_changed q (render_over w under)) (some_reaches_out now (below q (object_look w)) (renders_of under))
        (let same = unchanged p q o kids w under pair c in
        go same.lists (by_parts (is_touched before.touched (render_over o kids)) (some_reaches_out idle (below p (object_look o)) (renders_of kids)) same.untouched e))
  ]
    where
      by_parts : (a b : Bool) → a ≡ false → (a || b) ≡ true → b ≡ true
      by_parts true b f e = absurd (true≢false f)
      by_parts false b f e = e

  module _ (at : Handle → Option RenderObject) (tell : TellNodes at) where
    pair_of : (p : RegionPlace) (h k : Handle) (o : RenderObject) (kids : Forest RenderObject) (w : RenderObject) → o.number ≡ w.number → at h ≡ Some o → IsCarried at k w
        → standing before.tree o.number ≡ Some (record { place = p; node = render_over o kids }) → IsPair p o kids w
    pair_of p h k o kids w number is carried found =
        let same : carried.stored ≡ o = tell k h carried.stored o carried.is is (sym carried.number ∙ sym number) in
        record {
          number = number;
          stood = ap (standing before.tree) (sym number) ∙ found;
          found = found;
          shown = carried.shown ∙ ap (λ (v : RenderObject). v.shown) same;
          flag = carried.flag ∙ ap (λ (v : RenderObject). v.needs_layout) same;
        }

    numbers_of_pair : (o w : RenderObject) → is_child_same (o.number, o.parent_data) (w.number, w.parent_data) ≡ true → o.number ≡ w.number
    numbers_of_pair o w e = (unsigned_Decides o.number w.number).0 (and_parts (eqb o.number w.number) (is_told_same o.parent_data w.parent_data) e).0

    reach_twin : (p q : RegionPlace) (f g : Forest RenderObject) → AreAt at f → FindsAll (standing before.tree) p (renders_of f) → AreCarried at g → Lists f g
        → some_reaches_out idle p (renders_of f) ≡ true → some_reaches_out now q (renders_of g) ≡ true
    reach_twin p q none g stored finds carried lists e = absurd (false≢true e)
    reach_twin p q (tree h o kids more) none stored finds carried lists e = absurd (false≢true lists)
    reach_twin p q (tree h o kids more) (tree k w under rest) stored finds carried lists e =
        let split = and_parts (is_child_same (o.number, o.parent_data) (w.number, w.parent_data)) (pointwise is_child_same (list_below (renders_of more)) (list_below (renders_of rest))) lists in
        let pair = pair_of p h k o kids w (numbers_of_pair o w split.0) stored.0 carried.0 finds.0.0 in
        let reached = reached_pair p q o kids w under pair (λ same out. reach_twin (below p (object_look o)) (below q (object_look w)) kids under stored.1 finds.0.1 carried.1 same out) in
        elim (either (reaches_out idle p (render_over o kids)) (some_reaches_out idle p (renders_of more)) e) [
          | inl a ↦ or_left (reaches_out now q (render_over w under)) (some_reaches_out now q (renders_of rest))
              (out_back (is_reached idle p (render_over o kids)) (idle.is_firm p (render_over o kids)) (is_reached now q (render_over w under)) (now.is_firm q (render_over w under))
              reached (firm_back p q o kids w under pair) a)
          | inr a ↦ or_right (reaches_out now q (render_over w under)) (some_reaches_out now q (renders_of rest)) (reach_twin p q more rest stored.2 finds.1 carried.2 split.1 a)
        ]

    inside_pair : (a b : Bool) (p q : RegionPlace) (o : RenderObject) (kids : Forest RenderObject) (w : RenderObject) (under : Forest RenderObject) → (a ≡ true → b ≡ true)
        → (is_reached now q (render_over w under) ≡ true → is_inside now b q (render_over w under) ≡ true) → (is_reached idle p (render_over o kids) ≡ true → is_reached now q (render_over w under) ≡ true)
        → is_inside idle a p (render_over o kids) ≡ true → is_inside now b q (render_over w under) ≡ true
    inside_pair a b p q o kids w under more inside reached e = elim (either a (idle.is_firm p (render_over o kids) && is_reached idle p (render_over o kids)) e) [
      | inl x ↦ or_left b (now.is_firm q (render_over w under) && is_reached now q (render_over w under)) (more x)
      | inr x ↦ inside (reached (and_parts (idle.is_firm p (render_over o kids)) (is_reached idle p (render_over o kids)) x).1)
    ]

    -- what is right at a node, and below it
    abbrev Here : Judge → Bool → RegionPlace → RenderObject → Forest RenderObject → Type 0
    Here j inside q w under = (w.needs_layout ≡ true → inside ≡ true) × FlagsInside j inside (below q (object_look w)) under

    here_inside : (q : RegionPlace) (w : RenderObject) (under : Forest RenderObject) (b : Bool) → b ≡ true → Here now b q w under
    here_inside q w under true e = ((λ flag. refl), all_inside now (below q (object_look w)) under)
    here_inside q w under false e = absurd (false≢true e)

    -- a node of the new tree, whose pair was right in the old one
    here_pair : (a b : Bool) (p q : RegionPlace) (o : RenderObject) (kids : Forest RenderObject) (w : RenderObject) (under : Forest RenderObject) → IsPair p o kids w
        → AreAt at kids → FindsAll (standing before.tree) (below p (object_look o)) (renders_of kids) → AreCarried at under → (a ≡ true → b ≡ true)
        → (reaches_out now q (render_over w under) ≡ true → b ≡ true)
        → ((Lists kids under) → (c d : Bool) → (c ≡ true → d ≡ true) → (some_reaches_out now (below q (object_look w)) (renders_of under) ≡ true → d ≡ true)
        → FlagsInside idle c (below p (object_look o)) kids → FlagsInside now d (below q (object_look w)) under)
        → Here idle (is_inside idle a p (render_over o kids)) p o kids → Here now (is_inside now b q (render_over w under)) q w under
    here_pair a b p q o kids w under pair stored finds carried more out go flags = elim (cases_Bool (now.is_changed q (render_over w under))) [
      | inl c ↦ here_inside q w under (is_inside now b q (render_over w under))
          (reached_inside now b q (render_over w under) out (or_left (now.is_changed q (render_over w under)) (some_reaches_out now (below q (object_look w)) (renders_of under)) c))
      | inr c ↦
          let same = unchanged p q o kids w under pair c in
          let inside = reached_inside now b q (render_over w under) out in
          let reached = reached_pair p q o kids w under pair (λ lists e. reach_twin (below p (object_look o)) (below q (object_look w)) kids under stored finds carried lists e) in
          let both = inside_pair a b p q o kids w under more inside reached in (
            (λ flag. both (flags.0 (sym pair.flag ∙ flag))),
            go same.lists (is_inside idle a p (render_over o kids)) (is_inside now b q (render_over w under)) both
                (λ e. inside (or_right (now.is_changed q (render_over w under)) (some_reaches_out now (below q (object_look w)) (renders_of under)) e)) flags.1,
          )
    ]

    pub flags_twin : (p q : RegionPlace) (f g : Forest RenderObject) → AreAt at f → FindsAll (standing before.tree) p (renders_of f) → AreCarried at g → Lists f g
        → (a b : Bool) → (a ≡ true → b ≡ true) → (some_reaches_out now q (renders_of g) ≡ true → b ≡ true) → FlagsInside idle a p f → FlagsInside now b q g
    flags_twin p q none none stored finds carried lists a b more out flags = tt
    flags_twin p q none (tree k w under rest) stored finds carried lists a b more out flags = absurd (false≢true lists)
    flags_twin p q (tree h o kids others) none stored finds carried lists a b more out flags = tt
    flags_twin p q (tree h o kids others) (tree k w under rest) stored finds carried lists a b more out flags =
        let split = and_parts (is_child_same (o.number, o.parent_data) (w.number, w.parent_data)) (pointwise is_child_same (list_below (renders_of others)) (list_below (renders_of rest))) lists in
        let pair = pair_of p h k o kids w (numbers_of_pair o w split.0) stored.0 carried.0 finds.0.0 in (
          (λ shown. here_pair a b p q o kids w under pair stored.1 finds.0.1 carried.1 more
              (λ e. out (or_left (reaches_out now q (render_over w under)) (some_reaches_out now q (renders_of rest)) e))
              (λ same c d further outer. flags_twin (below p (object_look o)) (below q (object_look w)) kids under stored.1 finds.0.1 carried.1 same c d further outer)
              (flags.0 (sym pair.shown ∙ shown))),
          flags_twin p q others rest stored.2 finds.1 carried.2 split.1 a b more
              (λ e. out (or_right (reaches_out now q (render_over w under)) (some_reaches_out now q (renders_of rest)) e)) flags.1,
        )

    -- ---- the roots

    -- only a root has nothing above it
    top_if : (b : Bool) (x : Standing) (other : Option Standing) (st : Standing) → x.place.top ≡ false → (other ≡ Some st → st.place.top ≡ false) → cond b (Some x) other ≡ Some st → st.place.top ≡ false
    top_if true x other st low go e = ap (λ (s : Standing). s.place.top) (sym (some_same x st e)) ∙ low
    top_if false x other st low go e = go e

    top_or : (a b : Option Standing) (st : Standing) → (a ≡ Some st → st.place.top ≡ false) → (b ≡ Some st → st.place.top ≡ false) → option_or a b ≡ Some st → st.place.top ≡ false
    top_or (Some x) b st f g e = f e
    top_or None b st f g e = g e

    below_top : (n : ℕ) (p : RegionPlace) (f : Forest RenderObject) (st : Standing) → p.top ≡ false → standing_in n p (renders_of f) ≡ Some st → st.place.top ≡ false
    below_top n p none st low e = cc
    below_top n p (tree h o kids rest) st low e =
        top_or (standing_at n p (render_over o kids)) (standing_in n p (renders_of rest)) st
        (λ a. top_if (eqb o.number n) (record { place = p; node = render_over o kids }) (standing_in n (below p (object_look o)) (renders_of kids)) st low
        (λ x. below_top n (below p (object_look o)) kids st refl x) a)
        (λ b. below_top n p rest st low b) e

    pub root_number : (n : ℕ) (o : RenderObject) (kids : Forest RenderObject) (st : Standing) → standing_at n at_root (render_over o kids) ≡ Some st → st.place.top ≡ true → o.number ≡ n
    root_number n o kids st e high = elim (cases_Bool (eqb o.number n)) [
      | inl a ↦ (unsigned_Decides o.number n).0 a
      | inr a ↦ absurd (true≢false (sym high ∙ below_top n (below at_root (object_look o)) kids st refl
          (sym (ap (λ b. cond b (Some (record { place = at_root; node = render_over o kids })) (standing_in n (below at_root (object_look o)) (renders_of kids))) a) ∙ e)))
    ]

    -- a root that isn't changed was the root
    was_top : (st : Standing) (r : Render) → is_changed_since (Some st) before at_root r ≡ false → st.place.top ≡ true
    was_top st r e =
        let parts = or_parts (not (is_same_for_layout st.node r)) (is_touched before.touched r || is_changed_root before st.place at_root) e in
        let root = or_parts (is_touched before.touched r) (is_changed_root before st.place at_root) parts.1 in
        (and_parts st.place.top before.same_view (not-false (st.place.top && before.same_view) root.1)).0

    pub root_was : (o : RenderObject) (kids : Forest RenderObject) (w : RenderObject) (under : Forest RenderObject) (x : Option Standing) → standing_at w.number at_root (render_over o kids) ≡ x
        → is_changed_since x before at_root (render_over w under) ≡ false → o.number ≡ w.number
    root_was o kids w under None is e = absurd (true≢false e)
    root_was o kids w under (Some st) is e = root_number w.number o kids st is (was_top st (render_over w under) e)

    -- where there was a tree
    pub root_twin : (h k : Handle) (o : RenderObject) (kids : Forest RenderObject) (w : RenderObject) (under : Forest RenderObject) → before.tree ≡ Some (render_over o kids)
        → AreAt at (tree h o kids none) → Finds (standing before.tree) at_root (render_over o kids) → AreCarried at (tree k w under none)
        → RootFlagsInside idle (tree h o kids none) → RootFlagsInside now (tree k w under none)
    root_twin h k o kids w under was stored finds carried flags =
        let a : Bool = reaches_out idle at_root (render_over o kids) in
        let b : Bool = reaches_out now at_root (render_over w under) in
        elim (cases_Bool (now.is_changed at_root (render_over w under))) [
          | inl c ↦ here_inside at_root w under (is_inside now b at_root (render_over w under))
              (reached_inside now b at_root (render_over w under) (λ e. e) (or_left (now.is_changed at_root (render_over w under)) (some_reaches_out now (below at_root (object_look w)) (renders_of under)) c))
          | inr c ↦
              let number : o.number ≡ w.number = root_was o kids w under (standing_at w.number at_root (render_over o kids)) refl
              (sym (ap (λ t. is_changed_since (standing t w.number) before at_root (render_over w under)) was) ∙ c) in
              let pair = pair_of at_root h k o kids w number stored.0 carried.0 finds.0 in
              let reached = reached_pair at_root at_root o kids w under pair (λ lists e. reach_twin (below at_root (object_look o)) (below at_root (object_look w)) kids under stored.1 finds.1 carried.1 lists e) in
              here_pair a b at_root at_root o kids w under pair stored.1 finds.1 carried.1
              (out_back (is_reached idle at_root (render_over o kids)) (idle.is_firm at_root (render_over o kids)) (is_reached now at_root (render_over w under)) (now.is_firm at_root (render_over w under))
              reached (firm_back at_root at_root o kids w under pair))
              (λ e. e)
              (λ same c d further outer. flags_twin (below at_root (object_look o)) (below at_root (object_look w)) kids under stored.1 finds.1 carried.1 same c d further outer)
              flags
        ]

  -- where there was none, all is in the region
  pub first_inside : (f : Forest RenderObject) → before.tree ≡ None → RootFlagsInside now f
  first_inside none was = tt
  first_inside (tree k w under rest) was =
      let r : Render = render_over w under in
      let b : Bool = reaches_out now at_root r in
      let changed : now.is_changed at_root r ≡ true = ap (λ t. is_changed_since (standing t w.number) before at_root r) was in
      by_inside (is_inside now b at_root r) (reached_inside now b at_root r (λ e. e) (or_left (now.is_changed at_root r) (some_reaches_out now (below at_root (object_look w)) (renders_of under)) changed))
    where
      by_inside : (inside : Bool) → inside ≡ true → (w.needs_layout ≡ true → inside ≡ true) × FlagsInside now inside (below at_root (object_look w)) under
      by_inside true e = ((λ flag. refl), all_inside now (below at_root (object_look w)) under)
      by_inside false e = absurd (false≢true e)
