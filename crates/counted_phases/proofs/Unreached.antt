-- Of a node that isn't reached a layout reads what it read.
use Rattle.std.proofs.Common.{◌≡◌, ◌⊎◌, ℕ, Bool, true, false, not, eqb, cond, ◌&&◌, ◌||◌, Option, Some, None, List, refl, sym, ap, ◌∙◌, subst, inl, inr, Decides}
use Rattle.std.specs.Cmp.{unsigned_Decides}
use Rattle.std.specs.Option.{option_or}
use Rattle.std.proofs.lemmas.Bool.{cases_Bool, and_parts, or_parts, or_left, false≢true, true≢false}
use lib.Pointwise.{pointwise}
use Rattle.fx_geom.specs.Bounds.{is_tight}
use Rattle.fx_geom.specs.declared.boxes.Bounds.{Bounds}
use Rattle.fx_handles.specs.declared.Handle.{Handle}
use Rattle.node_tree.specs.Forest.{Forest}
use Rattle.node_tree.specs.Forest.Forest.{none, tree}
use Rattle.node_tree.specs.Tree.{Tree}
use Rattle.widget_model.specs.Look.{Look}
use Rattle.plain_tree.specs.declared.render.ParentData.{ParentData}
use Rattle.plain_tree.specs.Laws.{AllDiffer, render_numbers_of}
use Rattle.plain_tree.specs.Render.{Render, render, Renders, no_renders, more_renders}
use Rattle.tree_marks.specs.Marks.{some_climbs}
use Rattle.work_roles.specs.Place.{RegionPlace, at_root, below}
use Rattle.work_roles.specs.WorkRole.{WorkRole, measures, hides, scrolls, loads, fences, plain, work_role_of, is_viewport, is_viewport_role, is_offstage, is_offstage_role}
use Rattle.work_sets.specs.Before.{Before, bounds_in}
use Rattle.work_sets.specs.InTree.{Standing, standing, standing_at, standing_in, number_of, look_of, told_of, children_of}
use Rattle.work_sets.specs.Layout.{is_firm_in, is_child_same, is_changed_since, list_below, frame_judge}
use Rattle.work_sets.specs.Members.{is_same_look}
use Rattle.work_sets.specs.Region.{Judge, is_reached, reaches_out, some_reaches_out}
use Rattle.work_sets.proofs.Found.{Finds, FindsAll, found}
use Rattle.layout_walk.specs.Rules.{is_list}
use Rattle.render_tree.specs.Marks.{has_say, layout_marks}
use Rattle.render_tree.specs.Object.{RenderObject, object_look}
use Rattle.render_tree.specs.Plain.{renders_of}
use Rattle.build_walk.specs.Changing.{render_over}
use Rattle.counted_work.specs.Inside.{marks_above, AreReached}
use Rattle.counted_work.specs.Windows.{AllWindowsStay}
use Rattle.counted_phases.specs.Unreached.{StandBelow, AreSizedSo, StaysAsRead, DiffersFromLast, AreDiffering, IsBereft, AreOuterDiffering}
use Rattle.counted_phases.specs.Outer.{UnlessList, ListOr, IsOuter, AreOuter, AreOuterReached}
use Rattle.counted_phases.proofs.Left.{offstage_by, list_reach}
use Rattle.counted_phases.proofs.Twins.{Lists, IsPair, stood, unchanged, unchanged_top, reached_is, out_is, numbers_of_pair}

-- ---- firm boundaries

-- a Viewport isn't offstage
shows : (r : WorkRole) → is_viewport_role r ≡ true → is_offstage_role r ≡ false
shows measures e = refl
shows (hides hidden) e = absurd (false≢true e)
shows scrolls e = refl
shows loads e = refl
shows fences e = refl
shows plain e = refl

-- two boundaries with a say, of which both are Viewports or neither, are both offstage or neither
both_offstage : (hidden t pi pt a c qi qt b d : Bool) → pt ≡ false → qt ≡ false → (a ≡ true → c ≡ false) → (b ≡ true → d ≡ false) → a ≡ b
    → ((not pi && (pt || (t || ((a || c) || hidden)))) && (not qi && (qt || (t || ((b || d) || hidden))))) ≡ true → (not (hidden || t) && c) ≡ (not (hidden || t) && d)
both_offstage true t pi pt a c qi qt b d ept eqt f g same firm = refl
both_offstage false true pi pt a c qi qt b d ept eqt f g same firm = refl
both_offstage false false pi true a c qi qt b d ept eqt f g same firm = absurd (true≢false ept)
both_offstage false false pi false a c qi true b d ept eqt f g same firm = absurd (true≢false eqt)
both_offstage false false pi false true c qi false b d ept eqt f g same firm = f refl ∙ sym (g (sym same))
both_offstage false false pi false false true qi false true d ept eqt f g same firm = absurd (false≢true same)
both_offstage false false pi false false true qi false false true ept eqt f g same firm = refl
both_offstage false false pi false false true qi false false false ept eqt f g same firm =
    absurd (false≢true (and_parts (not qi) false (and_parts (not pi && true) (not qi && false) firm).1).1)
both_offstage false false pi false false false qi false b d ept eqt f g same firm =
    absurd (false≢true (and_parts (not pi) false (and_parts (not pi && false) (not qi && (false || (false || ((b || d) || false)))) firm).0).1)

firm_alike : (hidden : Bool) (bounds : Option Bounds) (p q : RegionPlace) (node : Render) (look : Look) → p.top ≡ false → q.top ≡ false → p.below_offstage ≡ hidden → q.below_offstage ≡ hidden
    → is_viewport (look_of node) ≡ is_viewport look → is_firm_in bounds (Some (record { place = p; node = node })) q look ≡ true
    → (has_say hidden bounds && is_offstage (look_of node)) ≡ (has_say hidden bounds && is_offstage look)
firm_alike hidden None p q node look ptop qtop phid qhid same firm = absurd (false≢true firm)
firm_alike hidden (Some b) p q node look ptop qtop phid qhid same firm =
    both_offstage hidden (is_tight b) p.below_intrinsic p.top (is_viewport (look_of node)) (is_offstage (look_of node)) q.below_intrinsic q.top (is_viewport look) (is_offstage look) ptop qtop
    (shows (work_role_of (look_of node))) (shows (work_role_of look)) same
    ((λ i. (not p.below_intrinsic && (p.top || (is_tight b || ((is_viewport (look_of node) || is_offstage (look_of node)) || sym phid i))))
    && (not q.below_intrinsic && (q.top || (is_tight b || ((is_viewport look || is_offstage look) || sym qhid i)))))
    ∙ firm)

module _ (before : Before) (look_same : (a b : Look) → Decides (is_same_look a b) (a ≡ b)) where
  abbrev now : Judge
  now = frame_judge before

  abbrev Same : Renders → Renders → Type 0
  Same ws rs = Lists before look_same ws rs

  -- a child that doesn't reach out
  child_sized : (hidden : Bool) (p q : RegionPlace) (was r : Render) → p.top ≡ false → q.top ≡ false → p.below_offstage ≡ hidden → q.below_offstage ≡ hidden → IsPair before look_same p was r
      → is_viewport (look_of was) ≡ is_viewport (look_of r) → reaches_out now q r ≡ false
      → let say = has_say hidden (bounds_in (before.frames (number_of r))) in
      ((say && is_viewport (look_of was)) ≡ (say && is_viewport (look_of r))) × ((say && is_offstage (look_of was)) ≡ (say && is_offstage (look_of r)))
  child_sized hidden p q was r ptop qtop phid qhid pair window still = (ap (λ b. say && b) window, by (cases_Bool (now.is_changed q r)))
    where
      say : Bool
      say = has_say hidden (bounds_in (before.frames (number_of r)))

      keeps : (reached firm : Bool) → (reached && not firm) ≡ false → reached ≡ true → firm ≡ true
      keeps true true e is = refl
      keeps true false e is = absurd (true≢false e)
      keeps false firm e is = absurd (false≢true is)

      by : (now.is_changed q r ≡ true) ⊎ (now.is_changed q r ≡ false) → (say && is_offstage (look_of was)) ≡ (say && is_offstage (look_of r))
      by (inl changed) =
          let firm = keeps (is_reached now q r) (now.is_firm q r) (sym (out_is before look_same now q r) ∙ still)
          (reached_is before look_same now q r ∙ or_left (now.is_changed q r) (some_reaches_out now (below q (look_of r)) (children_of r)) changed) in
          firm_alike hidden (bounds_in (before.frames (number_of r))) p q was (look_of r) ptop qtop phid qhid window
          (sym (ap (λ x. is_firm_in (bounds_in (before.frames (number_of r))) x q (look_of r)) (stood before look_same p was r pair)) ∙ firm)
      by (inr same) = ap (λ b. say && b) (offstage_by (look_of was) (look_of r) (unchanged before look_same p q was r pair same).look)

  all_sized : (hidden : Bool) (p q : RegionPlace) (ws rs : Renders) → p.top ≡ false → q.top ≡ false → p.below_offstage ≡ hidden → q.below_offstage ≡ hidden → StandBelow before p ws → Same ws rs → AllWindowsStay before rs
      → some_reaches_out now q rs ≡ false → AreSizedSo before hidden ws rs
  all_sized hidden p q no_renders rs ptop qtop phid qhid stand lists windows still = tt
  all_sized hidden p q (more_renders w ws) no_renders ptop qtop phid qhid stand lists windows still = tt
  all_sized hidden p q (more_renders w ws) (more_renders (render number look told scroll count children) rs) ptop qtop phid qhid stand lists windows still =
      let r : Render = render number look told scroll count children in
      let split = and_parts (is_child_same (number_of w, told_of w) (number, told)) (pointwise is_child_same (list_below ws) (list_below rs)) lists in
      let parts = or_parts (reaches_out now q r) (some_reaches_out now q rs) still in
      let pair : IsPair before look_same p w r = record { number = numbers_of_pair before look_same (number_of w) (told_of w) number told split.0; found = stand.0 } in
      let here = child_sized hidden p q w r ptop qtop phid qhid pair (windows.0.0 (record { place = p; node = w }) (stood before look_same p w r pair)) parts.0 in
      (here.0, here.1, all_sized hidden p q ws rs ptop qtop phid qhid stand.1 split.1 windows.1 parts.1)

  unreached_as : (p q : RegionPlace) (was r : Render) → number_of was ≡ number_of r → standing before.tree (number_of was) ≡ Some (record { place = p; node = was })
      → StandBelow before (below p (look_of was)) (children_of was) → AllWindowsStay before (children_of r) → is_reached now q r ≡ false → StaysAsRead before was r × (q.top ≡ true → p.top ≡ true)
  unreached_as p q was r number found stand windows still =
      let parts = or_parts (now.is_changed q r) (some_reaches_out now (below q (look_of r)) (children_of r)) (sym (reached_is before look_same now q r) ∙ still) in
      let pair : IsPair before look_same p was r = record { number = number; found = found } in
      let same = unchanged before look_same p q was r pair parts.0 in (
        record {
          look = same.look;
          count = same.count;
          lists = same.lists;
          sized = all_sized (is_offstage (look_of was)) (below p (look_of was)) (below q (look_of r)) (children_of was) (children_of r) refl refl refl (sym (offstage_by (look_of was) (look_of r) same.look)) stand same.lists windows parts.1;
        },
        unchanged_top before look_same p q was r pair parts.0,
      )

  pub unreached : (p q : RegionPlace) (was r : Render) → number_of was ≡ number_of r → standing before.tree (number_of was) ≡ Some (record { place = p; node = was })
      → StandBelow before (below p (look_of was)) (children_of was) → AllWindowsStay before (children_of r) → is_reached now q r ≡ false → StaysAsRead before was r
  unreached p q was r number found stand windows still = (unreached_as p q was r number found stand windows still).0

  -- ---- what differs

  -- what stood with a number has it, and its children stand below it
  pub record HasStoodSo (n : ℕ) (st : Standing) : Type 0 where
    pub number : number_of st.node ≡ n
    pub below_it : StandBelow before (below st.place (look_of st.node)) (children_of st.node)

  finds_below : (p : RegionPlace) (rs : Renders) → FindsAll (standing before.tree) p rs → StandBelow before p rs
  finds_below p no_renders finds = tt
  finds_below p (more_renders (render number look told scroll count children) rs) finds = (finds.0.0, finds_below p rs finds.1)

  same_standing : (x st : Standing) → Some x ≡ Some st → x ≡ st
  same_standing x st e = cc

  this_stood : (n number : ℕ) (p : RegionPlace) (look : Look) (told : ParentData) (scroll count : ℕ) (children : Renders) (st : Standing) (b : Bool) (other : Option Standing) → eqb number n ≡ b → FindsAll (standing before.tree) (below p look) children
      → (other ≡ Some st → HasStoodSo n st) → cond b (Some (record { place = p; node = render number look told scroll count children })) other ≡ Some st → HasStoodSo n st
  this_stood n number p look told scroll count children st true other is finds go e =
      subst (HasStoodSo n) (same_standing (record { place = p; node = render number look told scroll count children }) st e) (record { number = (unsigned_Decides number n).0 is; below_it = finds_below (below p look) children finds })
  this_stood n number p look told scroll count children st false other is finds go e = go e

  either_stood : (n : ℕ) (a b : Option Standing) (st : Standing) → (a ≡ Some st → HasStoodSo n st) → (b ≡ Some st → HasStoodSo n st) → option_or a b ≡ Some st → HasStoodSo n st
  either_stood n (Some x) b st f g e = f e
  either_stood n None b st f g e = g e

  mutual
    stood_at : (n : ℕ) (p : RegionPlace) (r : Render) (st : Standing) → Finds (standing before.tree) p r → standing_at n p r ≡ Some st → HasStoodSo n st
    stood_at n p (render number look told scroll count children) st finds e =
        this_stood n number p look told scroll count children st (eqb number n) (standing_in n (below p look) children) refl finds.1 (λ under. stood_in n (below p look) children st finds.1 under) e

    stood_in : (n : ℕ) (p : RegionPlace) (rs : Renders) (st : Standing) → FindsAll (standing before.tree) p rs → standing_in n p rs ≡ Some st → HasStoodSo n st
    stood_in n p no_renders st finds e = absurd (cc)
    stood_in n p (more_renders r rs) st finds e =
        either_stood n (standing_at n p r) (standing_in n p rs) st (λ this. stood_at n p r st finds.0 this) (λ later. stood_in n p rs st finds.1 later) e

  -- a tree in which no two nodes have one number
  abbrev pub Stood : Type 0
  Stood = (n : ℕ) (st : Standing) → standing before.tree n ≡ Some st → HasStoodSo n st

  pub tree_stood : (root : Render) → before.tree ≡ Some root → AllDiffer (render_numbers_of root) → Stood
  tree_stood root was differ n st e =
      stood_at n at_root root st (subst (λ t. Finds (standing t) at_root root) (sym was) (found at_root root differ)) (sym (ap (λ t. standing t n) was) ∙ e)

  pub none_stood : before.tree ≡ None → Stood
  none_stood was n st e = absurd (none_some (sym (ap (λ t. standing t n) was) ∙ e))
    where
      none_some : None ≡ Some st → ⊥
      none_some e = cc

  differing_reached : Stood → (q : RegionPlace) (r : Render) → AllWindowsStay before (children_of r) → DiffersFromLast before q r → is_reached now q r ≡ true
  differing_reached all q r windows differs = by (standing before.tree (number_of r)) refl (cases_Bool (is_reached now q r))
    where
      by : (x : Option Standing) → standing before.tree (number_of r) ≡ x → (is_reached now q r ≡ true) ⊎ (is_reached now q r ≡ false) → is_reached now q r ≡ true
      by x e (inl reached) = reached
      by None e (inr still) =
          reached_is before look_same now q r
          ∙ or_left (now.is_changed q r) (some_reaches_out now (below q (look_of r)) (children_of r)) (ap (λ y. is_changed_since y before q r) e)
      by (Some st) e (inr still) =
          let known = all (number_of r) st e in
          let stays = unreached_as st.place q st.node r known.number (ap (standing before.tree) known.number ∙ e) known.below_it windows still in
          absurd (differs st e stays.1 stays.0)

  pub all_differing : Stood → (hs : List Handle) (p : RegionPlace) (f : Forest RenderObject) → AllWindowsStay before (renders_of f) → AreDiffering before hs p f → AreReached now hs p f
  all_differing all hs p none windows differs = tt
  all_differing all hs p (tree h o kids rest) windows differs = (
    (λ is. differing_reached all p (render_over o kids) windows.0.1 (differs.0 is)),
    all_differing all hs (below p (object_look o)) kids windows.0.1 differs.1,
    all_differing all hs p rest windows.1 differs.2,
  )

  module _ (old : Tree RenderObject) (claimed : Handle → Bool) (hs : List Handle) where
    list_reached : (p : RegionPlace) (o : RenderObject) (kids : Forest RenderObject) (number : ℕ) (look : Look) (told : ParentData) (scroll count : ℕ) (children : Renders)
        → IsOuter o (render number look told scroll count children) → IsBereft before old claimed hs kids (render number look told scroll count children)
        → some_climbs layout_marks hs (marks_above (below p (object_look o))) kids ≡ true → is_reached now p (render number look told scroll count children) ≡ true
    list_reached p o kids number look told scroll count children outer bereft climbs = by (standing before.tree number) refl
      where
        r : Render
        r = render number look told scroll count children

        by : (x : Option Standing) → standing before.tree number ≡ x → is_reached now p r ≡ true
        by None e = or_left (now.is_changed p r) (some_reaches_out now (below p look) children) (ap (λ y. is_changed_since y before p r) e)
        by (Some st) e = let known = bereft st e in list_reach before look_same old claimed hs p o kids number look told scroll count children outer known.0 known.1 known.2 climbs

    list_or_outer : (list climbs reached : Bool) (A B C D E : Type 0) → UnlessList list A → ListOr list B C → (B → climbs ≡ true → reached ≡ true) → (A → C → D) → ListOr list (climbs ≡ true → reached ≡ true) D
    list_or_outer true climbs reached A B C D E a b go further = go b
    list_or_outer false climbs reached A B C D E a b go further = further a b

    pub outer_differing : Stood → (p : RegionPlace) (f : Forest RenderObject) (rs : Renders) → AreOuter f rs → AllWindowsStay before rs → AreOuterDiffering before old claimed hs p f rs → AreOuterReached now hs p f rs
    outer_differing all p none rs outer windows differs = tt
    outer_differing all p (tree h o kids rest) no_renders outer windows differs = absurd differs
    outer_differing all p (tree h o kids rest) (more_renders (render number look told scroll count children) rs) outer windows differs =
        let r : Render = render number look told scroll count children in (
          (λ is. differing_reached all p r windows.0.1 (differs.0 is)),
          list_or_outer (is_list (object_look o)) (some_climbs layout_marks hs (marks_above (below p (object_look o))) kids) (is_reached now p r) (AreOuter kids children) (IsBereft before old claimed hs kids r)
              (AreOuterDiffering before old claimed hs (below p (object_look o)) kids children) (AreOuterReached now hs (below p (object_look o)) kids children) (Unit {0}) outer.1 differs.1
              (λ bereft climbs. list_reached p o kids number look told scroll count children outer.0 bereft climbs)
              (λ a b. outer_differing all (below p (object_look o)) kids children a windows.0.1 b),
          outer_differing all p rest rs outer.2 windows.1 differs.2,
        )
