-- Flags of the last frame's tree are in the region of the whole build's: both trees are gone down at once, up to what is changed.
use Rattle.std.proofs.Common.{◌≡◌, ℕ, Bool, true, false, not, eqb, ◌&&◌, ◌||◌, Option, Some, None, option_map, refl, sym, ap, ◌∙◌, subst, inl, inr, Decides}
use Rattle.std.proofs.lemmas.Bool.{cases_Bool, and_parts, and_from, or_parts, or_left, or_right, false≢true, true≢false}
use Rattle.std.specs.Cmp.{unsigned_Decides}
use Rattle.std.specs.List.{list_any}
use lib.Pointwise.{pointwise}
use Rattle.fx_geom.specs.declared.boxes.Bounds.{Bounds}
use Rattle.fx_handles.specs.declared.Handle.{Handle}
use Rattle.node_tree.specs.Forest.{TreeNode, Forest, Stands}
use Rattle.node_tree.specs.Forest.Forest.{none, tree}
use Rattle.node_tree.specs.Tree.{Tree, node_at}
use Rattle.widget_model.specs.Look.{Look}
use Rattle.layout_form.specs.Layout.{delegate_of}
use Rattle.plain_tree.specs.declared.render.ParentData.{ParentData}
use Rattle.plain_tree.specs.Laws.{AllDiffer, render_numbers_of}
use Rattle.plain_tree.specs.Render.{Render, render, Renders, no_renders, more_renders}
use Rattle.tree_marks.proofs.Closing.{either, not-false}
use Rattle.work_roles.specs.ForLayout.{for_layout}
use Rattle.work_roles.specs.Place.{RegionPlace, at_root, below, is_relayout_boundary}
use Rattle.work_sets.specs.Before.{Before, bounds_in, is_number, is_touched, names_touched}
use Rattle.work_sets.specs.InTree.{Standing, standing, standing_at, look_of, number_of, children_of, widget_count_of}
use Rattle.work_sets.specs.Layout.{is_firm_in, is_child_same, is_told_same, is_same_for_layout, is_changed_root, is_changed_since, list_below, frame_judge, idle_judge}
use Rattle.work_sets.specs.Members.{is_same_look}
use Rattle.work_sets.specs.Region.{Judge, is_reached, is_inside, reaches_out, some_reaches_out}
use Rattle.work_sets.proofs.ForLayout.{roles_read}
use Rattle.work_sets.proofs.Found.{Finds, FindsAll, found}
use Rattle.layout_walk.specs.Rules.{is_list}
use Rattle.render_tree.specs.Object.{RenderObject, object_look}
use Rattle.render_tree.specs.Plain.{renders_of}
use Rattle.render_tree.specs.Tree.{object_at}
use Rattle.build_walk.specs.Changing.{render_over}
use Rattle.counted_work.specs.Inside.{FlagsInside, RootFlagsInside}
use Rattle.counted_work.proofs.Inside.{reached_inside}
use Rattle.counted_work.proofs.Synced.{no_some}
use Rattle.counted_work.proofs.Twins.{AreAt, viewport_by, root_number}
use Rattle.counted_phases.specs.Framed.{OuterAsBefore}
use Rattle.counted_phases.specs.Outer.{UnlessList, AreOuter, OuterFlagsInside, RootOuterInside}
use Rattle.counted_phases.proofs.Undue.{unless_go, all_flags}

-- ---- what a line touched

delegate_by : (a b : Look) → for_layout a ≡ for_layout b → delegate_of a ≡ delegate_of b
delegate_by a b e = sym (roles_read a).1 ∙ ap delegate_of e ∙ (roles_read b).1

touched_by : (before : Before) (r s : Render) → number_of r ≡ number_of s → for_layout (look_of r) ≡ for_layout (look_of s) → is_touched before.touched r ≡ is_touched before.touched s
touched_by before r s n e = λ i.
    (viewport_by (look_of r) (look_of s) e i && list_any (is_number (n i)) before.touched) || names_touched (delegate_by (look_of r) (look_of s) e i) before.touched

-- ---- nodes of two trees

module _ (before : Before) (look_same : (a b : Look) → Decides (is_same_look a b) (a ≡ b)) where
  abbrev idle : Judge
  idle = idle_judge before

  abbrev now : Judge
  now = frame_judge before

  abbrev pub Lists : Renders → Renders → Type 0
  Lists ws rs = pointwise is_child_same (list_below ws) (list_below rs) ≡ true

  -- two nodes with one number, of the last frame's tree and of the new one
  pub record IsPair (p : RegionPlace) (was r : Render) : Type 0 where
    pub number : number_of was ≡ number_of r
    pub found : standing before.tree (number_of was) ≡ Some (record { place = p; node = was })

  pub stood : (p : RegionPlace) (was r : Render) → IsPair p was r → standing before.tree (number_of r) ≡ Some (record { place = p; node = was })
  stood p was r pair = ap (standing before.tree) (sym pair.number) ∙ pair.found

  -- what isn't changed
  pub record IsUnchanged (was r : Render) : Type 0 where
    pub look : for_layout (look_of was) ≡ for_layout (look_of r)
    pub lists : Lists (children_of was) (children_of r)
    pub count : widget_count_of was ≡ widget_count_of r
    pub untouched : is_touched before.touched was ≡ false

  pub unchanged : (p q : RegionPlace) (was r : Render) → IsPair p was r → now.is_changed q r ≡ false → IsUnchanged was r
  unchanged p q was r pair e =
      let st : Standing = record { place = p; node = was } in
      let since : is_changed_since (Some st) before q r ≡ false = sym (ap (λ x. is_changed_since x before q r) (stood p was r pair)) ∙ e in
      let parts = or_parts (not (is_same_for_layout was r)) (is_touched before.touched r || is_changed_root before p q) since in
      let touch = or_parts (is_touched before.touched r) (is_changed_root before p q) parts.1 in
      let same : is_same_for_layout was r ≡ true = not-false (is_same_for_layout was r) parts.0 in
      let looks = and_parts (is_same_look (for_layout (look_of was)) (for_layout (look_of r)))
      (pointwise is_child_same (list_below (children_of was)) (list_below (children_of r)) && eqb (widget_count_of was) (widget_count_of r)) same in
      let lists = and_parts (pointwise is_child_same (list_below (children_of was)) (list_below (children_of r))) (eqb (widget_count_of was) (widget_count_of r)) looks.1 in
      let look : for_layout (look_of was) ≡ for_layout (look_of r) = (look_same (for_layout (look_of was)) (for_layout (look_of r))).0 looks.0 in
      record {
        look = look;
        lists = lists.0;
        count = (unsigned_Decides (widget_count_of was) (widget_count_of r)).0 lists.1;
        untouched = touched_by before was r pair.number look ∙ touch.0;
      }

  -- a root that isn't changed was one
  pub unchanged_top : (p q : RegionPlace) (was r : Render) → IsPair p was r → now.is_changed q r ≡ false → q.top ≡ true → p.top ≡ true
  unchanged_top p q was r pair e high =
      let st : Standing = record { place = p; node = was } in
      let since : is_changed_since (Some st) before q r ≡ false = sym (ap (λ x. is_changed_since x before q r) (stood p was r pair)) ∙ e in
      let parts = or_parts (not (is_same_for_layout was r)) (is_touched before.touched r || is_changed_root before p q) since in
      by_top q.top p.top before.same_view high (or_parts (is_touched before.touched r) (is_changed_root before p q) parts.1).1
    where
      by_top : (now_top was_top same : Bool) → now_top ≡ true → (now_top && not (was_top && same)) ≡ false → was_top ≡ true
      by_top true true same e f = refl
      by_top true false same e f = absurd (true≢false f)
      by_top false was_top same e f = absurd (false≢true e)

  firm_in_back : (b : Option Bounds) (was : Standing) (q : RegionPlace) (look : Look) → is_firm_in b (Some was) q look ≡ true → is_firm_in b (Some was) was.place (look_of was.node) ≡ true
  firm_in_back None was q look e = e
  firm_in_back (Some bounds) was q look e =
      let first = (and_parts (is_relayout_boundary was.place (look_of was.node) bounds) (is_relayout_boundary q look bounds) e).0 in
      and_from (is_relayout_boundary was.place (look_of was.node) bounds) (is_relayout_boundary was.place (look_of was.node) bounds) first first

  -- what is firm now was firm
  firm_back : (p q : RegionPlace) (was r : Render) → IsPair p was r → now.is_firm q r ≡ true → idle.is_firm p was ≡ true
  firm_back p q was r pair e =
      let st : Standing = record { place = p; node = was } in
      ap (λ x. is_firm_in (bounds_in (before.frames (number_of was))) x p (look_of was)) pair.found
      ∙ (ap (λ n. is_firm_in (bounds_in (before.frames n)) (Some st) p (look_of was)) pair.number
      ∙ firm_in_back (bounds_in (before.frames (number_of r))) st q (look_of r)
      (sym (ap (λ x. is_firm_in (bounds_in (before.frames (number_of r))) x q (look_of r)) (stood p was r pair)) ∙ e))

  out_back : (reached firm again here : Bool) → (reached ≡ true → again ≡ true) → (here ≡ true → firm ≡ true) → (reached && not firm) ≡ true → (again && not here) ≡ true
  out_back reached firm again true reach back e = absurd (false≢true (ap not (sym (back refl)) ∙ (and_parts reached (not firm) e).1))
  out_back reached firm again false reach back e = and_from again true (reach (and_parts reached (not firm) e).0) refl

  -- the children of a node, where it stands
  abbrev under_idle : RegionPlace → Render → Bool
  under_idle p was = some_reaches_out idle (below p (look_of was)) (children_of was)

  abbrev under_now : RegionPlace → Render → Bool
  under_now q r = some_reaches_out now (below q (look_of r)) (children_of r)

  pub reached_is : (j : Judge) (p : RegionPlace) (r : Render) → is_reached j p r ≡ (j.is_changed p r || some_reaches_out j (below p (look_of r)) (children_of r))
  reached_is j p (render number look told scroll count children) = refl

  pub out_is : (j : Judge) (p : RegionPlace) (r : Render) → reaches_out j p r ≡ (is_reached j p r && not (j.is_firm p r))
  out_is j p (render number look told scroll count children) = refl

  -- a cause that reached a node still does
  pub reached_pair : (p q : RegionPlace) (was r : Render) → IsPair p was r → (Lists (children_of was) (children_of r) → under_idle p was ≡ true → under_now q r ≡ true) → is_reached idle p was ≡ true → is_reached now q r ≡ true
  reached_pair p q was r pair go e = reached_is now q r ∙ elim (cases_Bool (now.is_changed q r)) [
    | inl c ↦ or_left (now.is_changed q r) (under_now q r) c
    | inr c ↦ or_right (now.is_changed q r) (under_now q r)
        (let same = unchanged p q was r pair c in
        go same.lists (by_parts (is_touched before.touched was) (under_idle p was) same.untouched (sym (reached_is idle p was) ∙ e)))
  ]
    where
      by_parts : (a b : Bool) → a ≡ false → (a || b) ≡ true → b ≡ true
      by_parts true b f e = absurd (true≢false f)
      by_parts false b f e = e

  pub numbers_of_pair : (n : ℕ) (d : ParentData) (m : ℕ) (e : ParentData) → is_child_same (n, d) (m, e) ≡ true → n ≡ m
  numbers_of_pair n d m e is = (unsigned_Decides n m).0 (and_parts (eqb n m) (is_told_same d e) is).0

  pub reach_twin : (p q : RegionPlace) (ws rs : Renders) → FindsAll (standing before.tree) p ws → Lists ws rs → some_reaches_out idle p ws ≡ true → some_reaches_out now q rs ≡ true
  reach_twin p q no_renders rs finds lists e = absurd (false≢true e)
  reach_twin p q (more_renders (render n l t s c cs) ws) no_renders finds lists e = absurd (false≢true lists)
  reach_twin p q (more_renders (render n l t s c cs) ws) (more_renders (render m look told scroll count children) rs) finds lists e =
      let was : Render = render n l t s c cs in
      let r : Render = render m look told scroll count children in
      let split = and_parts (is_child_same (n, t) (m, told)) (pointwise is_child_same (list_below ws) (list_below rs)) lists in
      let pair : IsPair p was r = record { number = numbers_of_pair n t m told split.0; found = finds.0.0 } in
      let reached = reached_pair p q was r pair (λ same out. reach_twin (below p l) (below q look) cs children finds.0.1 same out) in
      elim (either (reaches_out idle p was) (some_reaches_out idle p ws) e) [
        | inl a ↦ or_left (reaches_out now q r) (some_reaches_out now q rs)
            (out_back (is_reached idle p was) (idle.is_firm p was) (is_reached now q r) (now.is_firm q r) reached (firm_back p q was r pair) a)
        | inr a ↦ or_right (reaches_out now q r) (some_reaches_out now q rs) (reach_twin p q ws rs finds.1 split.1 a)
      ]

  pub inside_pair : (a b : Bool) (p q : RegionPlace) (was r : Render) → (a ≡ true → b ≡ true) → (is_reached now q r ≡ true → is_inside now b q r ≡ true) → (is_reached idle p was ≡ true → is_reached now q r ≡ true)
      → is_inside idle a p was ≡ true → is_inside now b q r ≡ true
  inside_pair a b p q was r more inside reached e = elim (either a (idle.is_firm p was && is_reached idle p was) e) [
    | inl x ↦ or_left b (now.is_firm q r && is_reached now q r) (more x)
    | inr x ↦ inside (reached (and_parts (idle.is_firm p was) (is_reached idle p was) x).1)
  ]

  -- a root's tree that a cause reached out of
  pub root_reach : (o : RenderObject) (kids : Forest RenderObject) (top : Render) → o.number ≡ number_of top → Finds (standing before.tree) at_root (render_over o kids)
      → reaches_out idle at_root (render_over o kids) ≡ true → reaches_out now at_root top ≡ true
  root_reach o kids top number finds e =
      let pair : IsPair at_root (render_over o kids) top = record { number = number; found = finds.0 } in
      let reached = reached_pair at_root at_root (render_over o kids) top pair
      (λ lists out. reach_twin (below at_root (object_look o)) (below at_root (look_of top)) (renders_of kids) (children_of top) finds.1 lists out) in
      out_is now at_root top
      ∙ out_back (is_reached idle at_root (render_over o kids)) (idle.is_firm at_root (render_over o kids)) (is_reached now at_root top) (now.is_firm at_root top) reached (firm_back at_root at_root (render_over o kids) top pair) e

  module _ (old : Tree RenderObject) where
    abbrev At : Forest RenderObject → Type 0
    At f = AreAt (object_at old) f

    -- what is right at a node, and below it where it is no list
    abbrev Here : Bool → RegionPlace → RenderObject → Forest RenderObject → Renders → Type 0
    Here inside q w under rs = (w.needs_layout ≡ true → inside ≡ true) × UnlessList (is_list (object_look w)) (OuterFlagsInside now inside (below q (object_look w)) under rs)

    here_inside : (q : RegionPlace) (w : RenderObject) (under : Forest RenderObject) (rs : Renders) (inside : Bool) → inside ≡ true → UnlessList (is_list (object_look w)) (AreOuter under rs) → Here inside q w under rs
    here_inside q w under rs inside e outer = (
      (λ flag. e),
      unless_go (is_list (object_look w)) (AreOuter under rs) (OuterFlagsInside now inside (below q (object_look w)) under rs) outer (λ x. all_flags now inside (below q (object_look w)) under rs e x),
    )

    here_pair : (a b : Bool) (p q : RegionPlace) (o : RenderObject) (kids : Forest RenderObject) (w : RenderObject) (under : Forest RenderObject) (r : Render) → IsPair p (render_over o kids) r → object_look w ≡ look_of r
        → w.needs_layout ≡ o.needs_layout → FindsAll (standing before.tree) (below p (object_look o)) (renders_of kids) → UnlessList (is_list (object_look w)) (OuterAsBefore old under)
        → UnlessList (is_list (object_look w)) (AreOuter under (children_of r)) → (a ≡ true → b ≡ true) → (reaches_out now q r ≡ true → b ≡ true)
        → (Lists (renders_of kids) (children_of r) → (c d : Bool) → (c ≡ true → d ≡ true) → (some_reaches_out now (below q (object_look w)) (children_of r) ≡ true → d ≡ true)
        → OuterAsBefore old under → AreOuter under (children_of r) → FlagsInside idle c (below p (object_look o)) kids → OuterFlagsInside now d (below q (object_look w)) under (children_of r))
        → (o.needs_layout ≡ true → is_inside idle a p (render_over o kids) ≡ true) → FlagsInside idle (is_inside idle a p (render_over o kids)) (below p (object_look o)) kids
        → Here (is_inside now b q r) q w under (children_of r)
    here_pair a b p q o kids w under r pair look flag finds alike outer more out go flags flags_below = elim (cases_Bool (now.is_changed q r)) [
      | inl c ↦ here_inside q w under (children_of r) (is_inside now b q r) (inside (reached_is now q r ∙ or_left (now.is_changed q r) (under_now q r) c)) outer
      | inr c ↦
          let same = unchanged p q (render_over o kids) r pair c in
          let both = inside_pair a b p q (render_over o kids) r more inside reached in (
            (λ is. both (flags (sym flag ∙ is))),
            two (is_list (object_look w)) alike outer
                (λ x y. go same.lists (is_inside idle a p (render_over o kids)) (is_inside now b q r) both
                (λ e. inside (reached_is now q r ∙ or_right (now.is_changed q r) (under_now q r) (ap (λ l. some_reaches_out now (below q l) (children_of r)) (sym look) ∙ e))) x y flags_below),
          )
    ]
      where
        inside : is_reached now q r ≡ true → is_inside now b q r ≡ true
        inside = reached_inside now b q r out

        reached : is_reached idle p (render_over o kids) ≡ true → is_reached now q r ≡ true
        reached = reached_pair p q (render_over o kids) r pair (λ lists e. reach_twin (below p (object_look o)) (below q (look_of r)) (renders_of kids) (children_of r) finds lists e)

        two : (list : Bool) → UnlessList list (OuterAsBefore old under) → UnlessList list (AreOuter under (children_of r))
            → (OuterAsBefore old under → AreOuter under (children_of r) → OuterFlagsInside now (is_inside now b q r) (below q (object_look w)) under (children_of r))
            → UnlessList list (OuterFlagsInside now (is_inside now b q r) (below q (object_look w)) under (children_of r))
        two true x y f = tt
        two false x y f = f x y

    outer_twin : (p q : RegionPlace) (f g : Forest RenderObject) (rs : Renders) → At f → FindsAll (standing before.tree) p (renders_of f) → OuterAsBefore old g → AreOuter g rs → Lists (renders_of f) rs
        → (a b : Bool) → (a ≡ true → b ≡ true) → (some_reaches_out now q rs ≡ true → b ≡ true) → FlagsInside idle a p f → OuterFlagsInside now b q g rs
    outer_twin p q f none rs stored finds alike outer lists a b more out flags = tt
    outer_twin p q f (tree k w under rest) no_renders stored finds alike outer lists a b more out flags = absurd outer
    outer_twin p q none (tree k w under rest) (more_renders (render number look told scroll count children) rs) stored finds alike outer lists a b more out flags = absurd (false≢true lists)
    outer_twin p q (tree h o kids others) (tree k w under rest) (more_renders (render number look told scroll count children) rs) stored finds alike outer lists a b more out flags =
        let r : Render = render number look told scroll count children in
        let split = and_parts (is_child_same (o.number, o.parent_data) (number, told)) (pointwise is_child_same (list_below (renders_of others)) (list_below rs)) lists in
        let same : o.number ≡ number = numbers_of_pair o.number o.parent_data number told split.0 in
        let pair : IsPair p (render_over o kids) r = record { number = same; found = finds.0.0 } in
        let kept = alike.0 h o stored.0 (same ∙ sym outer.0.number) in (
          (λ shown. here_pair a b p q o kids w under r pair outer.0.look kept.1 finds.0.1 alike.1 outer.1 more
              (λ e. out (or_left (reaches_out now q r) (some_reaches_out now q rs) e))
              (λ inner c d further beneath x y below_flags. outer_twin (below p (object_look o)) (below q (object_look w)) kids under children stored.1 finds.0.1 x y inner c d further beneath below_flags)
              (flags.0 (sym kept.0 ∙ shown)).0 (flags.0 (sym kept.0 ∙ shown)).1),
          outer_twin p q others rest rs stored.2 finds.1 alike.2 outer.2 split.1 a b more (λ e. out (or_right (reaches_out now q r) (some_reaches_out now q rs) e)) flags.1,
        )

    -- ---- the roots

    -- a root that isn't changed was the root
    was_top : (st : Standing) (r : Render) → is_changed_since (Some st) before at_root r ≡ false → st.place.top ≡ true
    was_top st r e =
        let parts = or_parts (not (is_same_for_layout st.node r)) (is_touched before.touched r || is_changed_root before st.place at_root) e in
        let root = or_parts (is_touched before.touched r) (is_changed_root before st.place at_root) parts.1 in
        (and_parts st.place.top before.same_view (not-false (st.place.top && before.same_view) root.1)).0

    pub root_was : (o : RenderObject) (kids : Forest RenderObject) (r : Render) (x : Option Standing) → standing_at (number_of r) at_root (render_over o kids) ≡ x → is_changed_since x before at_root r ≡ false → o.number ≡ number_of r
    root_was o kids r None is e = absurd (true≢false e)
    root_was o kids r (Some st) is e = root_number before look_same (λ h. None) (λ h k v w a. no_some v a) (number_of r) o kids st is (was_top st r e)

    -- where there was a tree
    pub outer_root : (h k : Handle) (o : RenderObject) (kids : Forest RenderObject) (w : RenderObject) (under : Forest RenderObject) (top : Render) → before.tree ≡ Some (render_over o kids)
        → At (tree h o kids none) → Finds (standing before.tree) at_root (render_over o kids) → OuterAsBefore old (tree k w under none) → AreOuter (tree k w under none) (more_renders top no_renders)
        → RootFlagsInside idle (tree h o kids none) → RootOuterInside now (tree k w under none) top
    outer_root h k o kids w under top was stored finds alike outer flags = elim (cases_Bool (now.is_changed at_root top)) [
      | inl c ↦ here_inside at_root w under (children_of top) (is_inside now b at_root top)
          (reached_inside now b at_root top (λ e. e) (reached_is now at_root top ∙ or_left (now.is_changed at_root top) (under_now at_root top) c)) outer.1
      | inr c ↦
          let same : o.number ≡ number_of top = root_was o kids top (standing_at (number_of top) at_root (render_over o kids)) refl
          (sym (ap (λ t. is_changed_since (standing t (number_of top)) before at_root top) was) ∙ c) in
          let pair : IsPair at_root (render_over o kids) top = record { number = same; found = finds.0 } in
          let kept = alike.0 h o stored.0 (same ∙ sym outer.0.number) in
          let reached = reached_pair at_root at_root (render_over o kids) top pair
          (λ lists e. reach_twin (below at_root (object_look o)) (below at_root (look_of top)) (renders_of kids) (children_of top) finds.1 lists e) in
          here_pair a b at_root at_root o kids w under top pair outer.0.look kept.1 finds.1 alike.1 outer.1
          (λ e. out_is now at_root top ∙ out_back (is_reached idle at_root (render_over o kids)) (idle.is_firm at_root (render_over o kids)) (is_reached now at_root top) (now.is_firm at_root top)
          reached (firm_back at_root at_root (render_over o kids) top pair) e)
          (λ e. e)
          (λ inner c d further beneath x y below_flags. outer_twin (below at_root (object_look o)) (below at_root (object_look w)) kids under (children_of top) stored.1 finds.1 x y inner c d further beneath below_flags)
          flags.0 flags.1
    ]
      where
        a : Bool
        a = reaches_out idle at_root (render_over o kids)

        b : Bool
        b = reaches_out now at_root top

    -- the whole
    stored_all : (q : Option Handle) (f : Forest RenderObject) → Stands (node_at old) q f → At f
    stored_all q none s = tt
    stored_all q (tree h o kids rest) s = (ap (option_map (λ (n : TreeNode RenderObject). n.value)) s.0, stored_all (Some h) kids s.1, stored_all q rest s.2)

    pub outer_flags : (h k : Handle) (o w : RenderObject) (kids under : Forest RenderObject) (top : Render) → before.tree ≡ Some (render_over o kids) → AllDiffer (render_numbers_of (render_over o kids))
        → Stands (node_at old) None (tree h o kids none) → OuterAsBefore old (tree k w under none) → AreOuter (tree k w under none) (more_renders top no_renders)
        → RootFlagsInside idle (tree h o kids none) → RootOuterInside now (tree k w under none) top
    outer_flags h k o w kids under top was differ stands alike outer flags =
        outer_root h k o kids w under top was (stored_all None (tree h o kids none) stands)
        (subst (λ t. Finds (standing t) at_root (render_over o kids)) (sym was) (found at_root (render_over o kids) differ)) alike outer flags

-- where there was none, all is in the region
pub outer_first : (before : Before) (k : Handle) (w : RenderObject) (under : Forest RenderObject) (top : Render) → before.tree ≡ None → AreOuter (tree k w under none) (more_renders top no_renders)
    → RootOuterInside (frame_judge before) (tree k w under none) top
outer_first before k w under (render number look told scroll count children) was outer =
    let now : Judge = frame_judge before in
    let top : Render = render number look told scroll count children in
    let b : Bool = reaches_out now at_root top in
    let changed : now.is_changed at_root top ≡ true = ap (λ t. is_changed_since (standing t number) before at_root top) was in
    let inside : is_inside now b at_root top ≡ true = reached_inside now b at_root top (λ e. e) (or_left (now.is_changed at_root top) (some_reaches_out now (below at_root look) children) changed) in (
      (λ flag. inside),
      unless_go (is_list (object_look w)) (AreOuter under children) (OuterFlagsInside now (is_inside now b at_root top) (below at_root (object_look w)) under children) outer.1
          (λ x. all_flags now (is_inside now b at_root top) (below at_root (object_look w)) under children inside x),
    )
