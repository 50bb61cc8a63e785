-- Where nothing is changed, nothing is laid out, and where nothing happened, nothing is painted.
use Rattle.std.proofs.Common.{◌≡◌, ℕ, Bool, true, false, not, ◌==◌, ◌&&◌, ◌||◌, Option, Some, None, List, [], ◌∷◌, ◌++◌, refl, sym, ap, ◌∙◌, subst, ◌⊎◌, inl, inr, if◌then◌else◌}
use Rattle.std.specs.Bool.{beq}
use Rattle.std.specs.Cmp.{unsigned_Decides, booleans_Decides}
use Rattle.std.specs.Cmp.Lexicographic.{pointwise_decides}
use Rattle.std.specs.Coded.{coded_option}
use Rattle.std.specs.List.{list_any}
use lib.Pointwise.{pointwise}
use Rattle.layout_form.specs.Layout.{delegate_of}
use Rattle.plain_tree.specs.declared.laid.Frame.{Frame}
use Rattle.plain_tree.specs.declared.render.ParentData.{ParentData}
use Rattle.plain_tree.specs.LaidCode.{coded_offset}
use Rattle.plain_tree.specs.Render.{Render, render, Renders, no_renders, more_renders}
use Rattle.work_sets.specs.Before.{Before, is_touched, names_touched, has_touched_delegate, frame_in}
use Rattle.work_sets.specs.InTree.{Standing, standing, number_of, look_of, widget_count_of, children_of}
use Rattle.work_roles.specs.ForLayout.{for_layout}
use Rattle.work_roles.specs.WorkRole.{is_viewport, is_repaint_boundary}
use Rattle.work_sets.specs.Laws.{IsUnchanged, AreUnchanged, IsQuiet, IsShownAgain}
use Rattle.work_sets.specs.Layout.{coded_placed, is_told_same, list_below, is_child_same, is_same_for_layout, is_changed_root, is_changed_since, frame_judge, idle_judge, layout_region, idle_region, idle_region_of}
use Rattle.work_sets.specs.Members.{is_same_look}
use Rattle.work_sets.specs.Paint.{Asks, Shows, group_asks, some_of_group_asks, is_in_group, groups_in, groups_below, groups_of, was_painted, is_painted, stood_at, stands_at, changes_painting, coded_frames, is_other_frame, numbers_below, is_same_for_paint, differs_since, is_moved, asks_paint, paint_region, asks_idly, idle_groups, idle_groups_of}
use Rattle.work_roles.specs.Place.{RegionPlace, at_root, below}
use Rattle.work_sets.specs.Region.{Judge, is_inside, is_reached, reaches_out, some_reaches_out, region_in, region_below, region_of}
use Rattle.work_sets.specs.Same.{is_same}
use Rattle.work_sets.proofs.Found.{Finds, FindsAll, found}
use Rattle.work_sets.proofs.Sameness.{both_true, is_same-Decides, look_same}

pub neither : (a b : Bool) → a ≡ false → b ≡ false → (a || b) ≡ false
neither true b e f = cc
neither false b e f = f

no_first : (a b : Bool) → a ≡ false → (a && b) ≡ false
no_first true b e = cc
no_first false b e = refl

no_second : (a b : Bool) → b ≡ false → (a && b) ≡ false
no_second true b e = e
no_second false b e = refl

pub turned : (a : Bool) → a ≡ true → not a ≡ false
turned true e = refl
turned false e = cc

-- ---- where nothing is changed

module _ (judge : Judge) where
  mutual
    unreached : (p : RegionPlace) (r : Render) → IsUnchanged judge p r → (is_reached judge p r ≡ false) × (reaches_out judge p r ≡ false)
    unreached p (render number look told scroll count children) h =
        let here = neither (judge.is_changed p (render number look told scroll count children)) (some_reaches_out judge (below p look) children) h.0 (all_unreached (below p look) children h.1) in
        (here, no_first _ (not (judge.is_firm p (render number look told scroll count children))) here)

    all_unreached : (p : RegionPlace) (rs : Renders) → AreUnchanged judge p rs → some_reaches_out judge p rs ≡ false
    all_unreached p no_renders h = refl
    all_unreached p (more_renders r rs) h = neither (reaches_out judge p r) (some_reaches_out judge p rs) (unreached p r h.0).1 (all_unreached p rs h.1)

  mutual
    none_in : (p : RegionPlace) (r : Render) → IsUnchanged judge p r → region_in judge false p r ≡ []
    none_in p (render number look told scroll count children) h =
        let r : Render = render number look told scroll count children in
        let outside : is_inside judge false p r ≡ false = no_second (judge.is_firm p r) (is_reached judge p r) (unreached p r h).0 in
        ap (λ b. (if b then number ∷ [] else []) ++ region_below judge b (below p look) children) outside ∙ none_below (below p look) children h.1

    none_below : (p : RegionPlace) (rs : Renders) → AreUnchanged judge p rs → region_below judge false p rs ≡ []
    none_below p no_renders h = refl
    none_below p (more_renders r rs) h = λ i. none_in p r h.0 i ++ none_below p rs h.1 i

  pub unchanged_nothing : (root : Render) → IsUnchanged judge at_root root → region_of judge root ≡ []
  unchanged_nothing root h = ap (λ b. region_in judge b at_root root) (unreached at_root root h).1 ∙ none_in at_root root h

module _ (asks : Asks) where
  abbrev mutual
    pub NoneAsks : RegionPlace → Render → Type 0
    NoneAsks p (render number look told scroll count children) =
        (asks p (render number look told scroll count children) ≡ false) × NoneAskBelow (below p look) children

    pub NoneAskBelow : RegionPlace → Renders → Type 0
    NoneAskBelow p no_renders = Unit {0}
    NoneAskBelow p (more_renders r rs) = NoneAsks p r × NoneAskBelow p rs

  mutual
    no_group : (p : RegionPlace) (r : Render) → NoneAsks p r → group_asks asks p r ≡ false
    no_group p (render number look told scroll count children) h =
        neither (asks p (render number look told scroll count children)) (some_of_group_asks asks (below p look) children) h.0 (no_groups (below p look) children h.1)

    no_groups : (p : RegionPlace) (rs : Renders) → NoneAskBelow p rs → some_of_group_asks asks p rs ≡ false
    no_groups p no_renders h = refl
    no_groups p (more_renders r rs) h =
        neither (not (is_repaint_boundary (look_of r)) && group_asks asks p r) (some_of_group_asks asks p rs)
        (no_second (not (is_repaint_boundary (look_of r))) (group_asks asks p r) (no_group p r h.0)) (no_groups p rs h.1)

  own_or_none : (b own : Bool) → own ≡ false → (if b then own else false) ≡ false
  own_or_none true own e = e
  own_or_none false own e = refl

  mutual
    none_painted : (p : RegionPlace) (r : Render) → NoneAsks p r → groups_in asks false p r ≡ []
    none_painted p (render number look told scroll count children) h = none_painted_below (below p look) children h.1

    none_painted_below : (p : RegionPlace) (rs : Renders) → NoneAskBelow p rs → groups_below asks false p rs ≡ []
    none_painted_below p no_renders h = refl
    none_painted_below p (more_renders r rs) h =
        let out : is_in_group asks false p r ≡ false = own_or_none (is_repaint_boundary (look_of r)) (group_asks asks p r) (no_group p r h.0) in
        ap (λ b. groups_in asks b p r ++ groups_below asks false p rs) out ∙ (λ i. none_painted p r h.0 i ++ none_painted_below p rs h.1 i)

  pub nothing_asked : (root : Render) → NoneAsks at_root root → groups_of asks root ≡ []
  nothing_asked root h = ap (λ b. groups_in asks b at_root root) (no_group at_root root h) ∙ none_painted at_root root h

-- ---- a node is as it was

pub told_same : (d : ParentData) → is_told_same d d ≡ true
told_same d =
    both_true (d.flex == d.flex) _ ((unsigned_Decides d.flex d.flex).1 refl)
    (both_true (beq d.tight d.tight) _ ((booleans_Decides d.tight d.tight).1 refl)
    (both_true (is_same coded_placed d.placed d.placed) _ ((is_same-Decides coded_placed d.placed d.placed).1 refl) ((unsigned_Decides d.index d.index).1 refl)))

children_same : (xs : List (ℕ × ParentData)) → pointwise is_child_same xs xs ≡ true
children_same [] = refl
children_same (x ∷ xs) =
    both_true (is_child_same x x) _ (both_true (x.0 == x.0) _ ((unsigned_Decides x.0 x.0).1 refl) (told_same x.1)) (children_same xs)

layout_same : (r : Render) → is_same_for_layout r r ≡ true
layout_same r =
    both_true (is_same_look (for_layout (look_of r)) (for_layout (look_of r))) _ (look_same (for_layout (look_of r)))
    (both_true (pointwise is_child_same (list_below (children_of r)) (list_below (children_of r))) _ (children_same (list_below (children_of r)))
    ((unsigned_Decides (widget_count_of r) (widget_count_of r)).1 refl))

paint_same : (r : Render) → is_same_for_paint r r ≡ true
paint_same r =
    both_true (is_same_look (look_of r) (look_of r)) _ (look_same (look_of r))
    ((pointwise_decides unsigned_Decides (numbers_below (children_of r)) (numbers_below (children_of r))).1 refl)

no_names : (name : Option (List ℕ)) → names_touched name [] ≡ false
no_names None = refl
no_names (Some name) = refl

no_delegate : (b : Before) (r : Render) → b.touched ≡ [] → has_touched_delegate b.touched r ≡ false
no_delegate b r e = ap (λ ts. has_touched_delegate ts r) e ∙ no_names (delegate_of (look_of r))

no_touch : (b : Before) (r : Render) → b.touched ≡ [] → is_touched b.touched r ≡ false
no_touch b r e =
    ap (λ ts. is_touched ts r) e
    ∙ neither (is_viewport (look_of r) && false) (has_touched_delegate [] r) (no_second (is_viewport (look_of r)) false refl) (no_names (delegate_of (look_of r)))

by_top : (top : Bool) → (top && not (top && true)) ≡ false
by_top true = refl
by_top false = refl

top_again : (top : Bool) → (top && not top) ≡ false
top_again true = refl
top_again false = refl

same_root : (b : Before) (p : RegionPlace) → b.same_view ≡ true → is_changed_root b p p ≡ false
same_root b p e = ap (λ v. p.top && not (p.top && v)) e ∙ by_top p.top

abbrev as_was : RegionPlace → Render → Option Standing
as_was p r = Some (record { place = p; node = r })

-- ---- the layout region of a quiet frame

module _ (b : Before) (untouched : b.touched ≡ []) (view : b.same_view ≡ true) where
  same_since : (p : RegionPlace) (r : Render) → is_changed_since (as_was p r) b p r ≡ false
  same_since p r =
      neither (not (is_same_for_layout r r)) (is_touched b.touched r || is_changed_root b p p) (turned (is_same_for_layout r r) (layout_same r))
      (neither (is_touched b.touched r) (is_changed_root b p p) (no_touch b r untouched) (same_root b p view))

  mutual
    unchanged : (p : RegionPlace) (r : Render) → Finds (standing b.tree) p r → IsUnchanged (frame_judge b) p r
    unchanged p (render number look told scroll count children) f = (
      ap (λ o. is_changed_since o b p (render number look told scroll count children)) f.0 ∙ same_since p (render number look told scroll count children),
      all_unchanged (below p look) children f.1,
    )

    all_unchanged : (p : RegionPlace) (rs : Renders) → FindsAll (standing b.tree) p rs → AreUnchanged (frame_judge b) p rs
    all_unchanged p no_renders f = tt
    all_unchanged p (more_renders r rs) f = (unchanged p r f.0, all_unchanged p rs f.1)

finds_again : (b : Before) (root : Render) → IsQuiet b root → Finds (standing b.tree) at_root root
finds_again b root q = subst (λ t. Finds (standing t) at_root root) (sym q.same_tree) (found at_root root q.differ)

pub quiet_layout : (b : Before) (root : Render) → IsQuiet b root → layout_region b root ≡ []
quiet_layout b root q =
    unchanged_nothing (frame_judge b) root (unchanged b q.untouched q.view at_root root (finds_again b root q))

module _ (b : Before) (untouched : b.touched ≡ []) where
  mutual
    idle_unchanged : (p : RegionPlace) (r : Render) → IsUnchanged (idle_judge b) p r
    idle_unchanged p (render number look told scroll count children) =
        (no_touch b (render number look told scroll count children) untouched, all_idle_unchanged (below p look) children)

    all_idle_unchanged : (p : RegionPlace) (rs : Renders) → AreUnchanged (idle_judge b) p rs
    all_idle_unchanged p no_renders = tt
    all_idle_unchanged p (more_renders r rs) = (idle_unchanged p r, all_idle_unchanged p rs)

  mutual
    none_asks_idly : (p : RegionPlace) (r : Render) → NoneAsks (asks_idly b) p r
    none_asks_idly p (render number look told scroll count children) =
        (no_delegate b (render number look told scroll count children) untouched, none_ask_idly (below p look) children)

    none_ask_idly : (p : RegionPlace) (rs : Renders) → NoneAskBelow (asks_idly b) p rs
    none_ask_idly p no_renders = tt
    none_ask_idly p (more_renders r rs) = (none_asks_idly p r, none_ask_idly p rs)

  region_by_tree : (o : Option Render) → idle_region_of b o ≡ []
  region_by_tree None = refl
  region_by_tree (Some root) = unchanged_nothing (idle_judge b) root (idle_unchanged at_root root)

  groups_by_tree : (o : Option Render) → idle_groups_of b o ≡ []
  groups_by_tree None = refl
  groups_by_tree (Some root) = nothing_asked (asks_idly b) root (none_asks_idly at_root root)

  pub idle_nothing : (idle_region b ≡ []) × (idle_groups b ≡ [])
  idle_nothing = (region_by_tree b.tree, groups_by_tree b.tree)

-- ---- the paint region of a quiet frame

other_same : (x : Option Frame) → is_other_frame x x ≡ false
other_same None = refl
other_same (Some f) = turned (is_same coded_frames (Some f) (Some f)) ((is_same-Decides coded_frames (Some f) (Some f)).1 refl)

other_by : (x last : Option Frame) → (x ≡ None) ⊎ (x ≡ last) → is_other_frame x last ≡ false
other_by x last (inl e) = ap (λ y. is_other_frame y last) e
other_by x last (inr e) = ap (λ y. is_other_frame y last) e ∙ other_same last

none_any : (test : ℕ → Bool) (xs : List ℕ) → ((x : ℕ) → test x ≡ false) → list_any test xs ≡ false
none_any test [] h = refl
none_any test (x ∷ xs) h = neither (test x) (list_any test xs) (h x) (none_any test xs h)

module _ (b : Before) (s : Shows) (untouched : b.touched ≡ []) (again : IsShownAgain b s) where
  painted_again : (k : ℕ) → changes_painting s k ≡ false
  painted_again k =
      ap (λ o. not (beq (was_painted o k) (is_painted s.now k))) again.same
      ∙ turned (beq (is_painted s.now k) (is_painted s.now k)) ((booleans_Decides (is_painted s.now k) (is_painted s.now k)).1 refl)

  unmoved : (k : ℕ) → is_moved s k ≡ false
  unmoved k =
      neither (not (is_same (coded_option coded_offset) (stood_at k s.before) (stands_at k s.now))) (changes_painting s k)
      (ap (λ o. not (is_same (coded_option coded_offset) (stood_at k o) (stands_at k s.now))) again.same
      ∙ turned (is_same (coded_option coded_offset) (stands_at k s.now) (stands_at k s.now))
      ((is_same-Decides (coded_option coded_offset) (stands_at k s.now) (stands_at k s.now)).1 refl))
      (painted_again k)

  same_paint : (p : RegionPlace) (r : Render) → differs_since (as_was p r) p r ≡ false
  same_paint p r = neither (not (is_same_for_paint r r)) (p.top && not p.top) (turned (is_same_for_paint r r) (paint_same r)) (top_again p.top)

  asks_nothing : (p : RegionPlace) (r : Render) → standing b.tree (number_of r) ≡ as_was p r → asks_paint b s p r ≡ false
  asks_nothing p r e =
      let k = number_of r in
      neither (differs_since (standing b.tree k) p r) _ (ap (λ o. differs_since o p r) e ∙ same_paint p r)
      (neither (has_touched_delegate b.touched r) _ (no_delegate b r untouched)
      (neither (is_other_frame (frame_in s.now k) (b.frames k)) _ (other_by (frame_in s.now k) (b.frames k) (again.frames k))
      (neither (changes_painting s k) (list_any (is_moved s) (numbers_below (children_of r))) (painted_again k)
      (none_any (is_moved s) (numbers_below (children_of r)) unmoved))))

  mutual
    none_asks : (p : RegionPlace) (r : Render) → Finds (standing b.tree) p r → NoneAsks (asks_paint b s) p r
    none_asks p (render number look told scroll count children) f =
        (asks_nothing p (render number look told scroll count children) f.0, none_ask (below p look) children f.1)

    none_ask : (p : RegionPlace) (rs : Renders) → FindsAll (standing b.tree) p rs → NoneAskBelow (asks_paint b s) p rs
    none_ask p no_renders f = tt
    none_ask p (more_renders r rs) f = (none_asks p r f.0, none_ask p rs f.1)

pub quiet_paint : (b : Before) (s : Shows) (root : Render) → IsQuiet b root → IsShownAgain b s → paint_region b s root ≡ []
quiet_paint b s root q again =
    nothing_asked (asks_paint b s) root (none_asks b s q.untouched again at_root root (finds_again b root q))
