-- Where more is changed, the region is no smaller; where more asks, no less is painted.
use Rattle.std.proofs.Common.{◌≡◌, ℕ, Bool, true, false, not, ◌&&◌, ◌||◌, Option, Some, None, List, [], ◌∷◌, ◌++◌, refl, sym, ap, ◌∙◌, subst, inl, inr, if◌then◌else◌}
use Rattle.std.proofs.lemmas.Bool.{false≢true}
use Rattle.plain_tree.specs.Laws.{IsLeftOf}
use Rattle.plain_tree.specs.Render.{Render, render, Renders, no_renders, more_renders}
use Rattle.work_sets.specs.Before.{Before, is_touched, has_touched_delegate}
use Rattle.work_sets.specs.InTree.{number_of, look_of, Standing, standing}
use Rattle.work_roles.specs.WorkRole.{is_repaint_boundary}
use Rattle.work_sets.specs.Laws.{ChangesMore, AsksMore}
use Rattle.work_sets.specs.Layout.{is_same_for_layout, is_changed_root, is_changed_since, frame_judge, idle_judge, layout_region, idle_region, idle_region_of}
use Rattle.work_sets.specs.Paint.{Asks, Shows, differs_since, asks_paint, paint_region, asks_idly, idle_groups, idle_groups_of, group_asks, some_of_group_asks, is_in_group, groups_in, groups_below, groups_of}
use Rattle.work_roles.specs.Place.{RegionPlace, at_root, below}
use Rattle.work_sets.specs.Region.{Judge, is_inside, is_reached, reaches_out, some_reaches_out, region_in, region_below, region_of}
use Rattle.work_sets.proofs.Wholes.{left_both}

or_more : (a b c d : Bool) → (a ≡ true → c ≡ true) → (b ≡ true → d ≡ true) → (a || b) ≡ true → (c || d) ≡ true
or_more true b true d h k e = refl
or_more true b false d h k e = absurd (false≢true (h refl))
or_more false b true d h k e = refl
or_more false b false d h k e = k e

and_more : (a b c d : Bool) → (a ≡ true → c ≡ true) → (b ≡ true → d ≡ true) → (a && b) ≡ true → (c && d) ≡ true
and_more true b true d h k e = k e
and_more true b false d h k e = h refl
and_more false b c d h k e = cc

not_more : (a b : Bool) → a ≡ b → not a ≡ true → not b ≡ true
not_more a b same e = ap not (sym same) ∙ e

heads_more : (a b : Bool) (number : ℕ) (xs ys : List ℕ) → (a ≡ true → b ≡ true) → IsLeftOf xs ys
    → IsLeftOf ((if a then number ∷ [] else []) ++ xs) ((if b then number ∷ [] else []) ++ ys)
heads_more true true number xs ys h k = inr (xs, refl, k)
heads_more true false number xs ys h k = absurd (false≢true (h refl))
heads_more false true number xs ys h k = inl k
heads_more false false number xs ys h k = k

module _ (j k : Judge) (more : ChangesMore j k) where
  mutual
    reaches_more : (p : RegionPlace) (r : Render) → reaches_out j p r ≡ true → reaches_out k p r ≡ true
    reaches_more p (render number look told scroll count children) =
        let r : Render = render number look told scroll count children in
        and_more (is_reached j p r) (not (j.is_firm p r)) (is_reached k p r) (not (k.is_firm p r))
        (or_more (j.is_changed p r) (some_reaches_out j (below p look) children) (k.is_changed p r) (some_reaches_out k (below p look) children)
        (more.changed p r) (all_reach_more (below p look) children))
        (not_more (j.is_firm p r) (k.is_firm p r) (more.firm p r))

    all_reach_more : (p : RegionPlace) (rs : Renders) → some_reaches_out j p rs ≡ true → some_reaches_out k p rs ≡ true
    all_reach_more p no_renders e = e
    all_reach_more p (more_renders r rs) e =
        or_more (reaches_out j p r) (some_reaches_out j p rs) (reaches_out k p r) (some_reaches_out k p rs) (reaches_more p r) (all_reach_more p rs) e

  reached_more : (p : RegionPlace) (r : Render) → is_reached j p r ≡ true → is_reached k p r ≡ true
  reached_more p (render number look told scroll count children) =
      let r : Render = render number look told scroll count children in
      or_more (j.is_changed p r) (some_reaches_out j (below p look) children) (k.is_changed p r) (some_reaches_out k (below p look) children)
      (more.changed p r) (all_reach_more (below p look) children)

  inside_more : (a b : Bool) (p : RegionPlace) (r : Render) → (a ≡ true → b ≡ true) → is_inside j a p r ≡ true → is_inside k b p r ≡ true
  inside_more a b p r h =
      or_more a (j.is_firm p r && is_reached j p r) b (k.is_firm p r && is_reached k p r) h
      (and_more (j.is_firm p r) (is_reached j p r) (k.is_firm p r) (is_reached k p r) (λ e. sym (more.firm p r) ∙ e) (reached_more p r))

  mutual
    in_more : (a b : Bool) (p : RegionPlace) (r : Render) → (a ≡ true → b ≡ true) → IsLeftOf (region_in j a p r) (region_in k b p r)
    in_more a b p (render number look told scroll count children) h =
        let r : Render = render number look told scroll count children in
        heads_more (is_inside j a p r) (is_inside k b p r) number
        (region_below j (is_inside j a p r) (below p look) children) (region_below k (is_inside k b p r) (below p look) children)
        (inside_more a b p r h) (below_more (is_inside j a p r) (is_inside k b p r) (below p look) children (inside_more a b p r h))

    below_more : (a b : Bool) (p : RegionPlace) (rs : Renders) → (a ≡ true → b ≡ true) → IsLeftOf (region_below j a p rs) (region_below k b p rs)
    below_more a b p no_renders h = refl
    below_more a b p (more_renders r rs) h =
        left_both (region_in j a p r) (region_in k b p r) (region_below j a p rs) (region_below k b p rs) (in_more a b p r h) (below_more a b p rs h)

  pub region_more : (root : Render) → IsLeftOf (region_of j root) (region_of k root)
  region_more root = in_more (reaches_out j at_root root) (reaches_out k at_root root) at_root root (reaches_more at_root root)

module _ (j k : Asks) (more : AsksMore j k) where
  mutual
    group_more : (p : RegionPlace) (r : Render) → group_asks j p r ≡ true → group_asks k p r ≡ true
    group_more p (render number look told scroll count children) =
        let r : Render = render number look told scroll count children in
        or_more (j p r) (some_of_group_asks j (below p look) children) (k p r) (some_of_group_asks k (below p look) children)
        (more p r) (groups_more (below p look) children)

    groups_more : (p : RegionPlace) (rs : Renders) → some_of_group_asks j p rs ≡ true → some_of_group_asks k p rs ≡ true
    groups_more p no_renders e = e
    groups_more p (more_renders r rs) e =
        or_more (not (is_repaint_boundary (look_of r)) && group_asks j p r) (some_of_group_asks j p rs)
        (not (is_repaint_boundary (look_of r)) && group_asks k p r) (some_of_group_asks k p rs)
        (and_more (not (is_repaint_boundary (look_of r))) (group_asks j p r) (not (is_repaint_boundary (look_of r))) (group_asks k p r) (λ e. e) (group_more p r))
        (groups_more p rs) e

  own_more : (b : Bool) (own other a c : Bool) → (own ≡ true → other ≡ true) → (a ≡ true → c ≡ true) → (if b then own else a) ≡ true → (if b then other else c) ≡ true
  own_more true own other a c h i e = h e
  own_more false own other a c h i e = i e

  in_group_more : (a b : Bool) (p : RegionPlace) (r : Render) → (a ≡ true → b ≡ true) → is_in_group j a p r ≡ true → is_in_group k b p r ≡ true
  in_group_more a b p r h = own_more (is_repaint_boundary (look_of r)) (group_asks j p r) (group_asks k p r) a b (group_more p r) h

  mutual
    painted_more : (a b : Bool) (p : RegionPlace) (r : Render) → (a ≡ true → b ≡ true) → IsLeftOf (groups_in j a p r) (groups_in k b p r)
    painted_more a b p (render number look told scroll count children) h =
        heads_more a b number (groups_below j a (below p look) children) (groups_below k b (below p look) children) h (painted_below_more a b (below p look) children h)

    painted_below_more : (a b : Bool) (p : RegionPlace) (rs : Renders) → (a ≡ true → b ≡ true) → IsLeftOf (groups_below j a p rs) (groups_below k b p rs)
    painted_below_more a b p no_renders h = refl
    painted_below_more a b p (more_renders r rs) h =
        left_both (groups_in j (is_in_group j a p r) p r) (groups_in k (is_in_group k b p r) p r) (groups_below j a p rs) (groups_below k b p rs)
        (painted_more (is_in_group j a p r) (is_in_group k b p r) p r (in_group_more a b p r h)) (painted_below_more a b p rs h)

  pub paint_more : (root : Render) → IsLeftOf (groups_of j root) (groups_of k root)
  paint_more root = painted_more (group_asks j at_root root) (group_asks k at_root root) at_root root (group_more at_root root)

-- ---- what may have a flag between two frames is in the regions of a frame over the same tree

or_right : (a b : Bool) → b ≡ true → (a || b) ≡ true
or_right true b e = refl
or_right false b e = e

or_left : (a b : Bool) → a ≡ true → (a || b) ≡ true
or_left true b e = refl
or_left false b e = cc

touched_changes : (o : Option Standing) (b : Before) (p : RegionPlace) (r : Render) → is_touched b.touched r ≡ true → is_changed_since o b p r ≡ true
touched_changes None b p r e = refl
touched_changes (Some was) b p r e =
    or_right (not (is_same_for_layout was.node r)) (is_touched b.touched r || is_changed_root b was.place p)
    (or_left (is_touched b.touched r) (is_changed_root b was.place p) e)

pub idle_layout_within : (b : Before) (root : Render) → b.tree ≡ Some root → IsLeftOf (idle_region b) (layout_region b root)
idle_layout_within b root e =
    subst (λ o. IsLeftOf (idle_region_of b o) (layout_region b root)) (sym e)
    (region_more (idle_judge b) (frame_judge b)
    (record { firm = λ p r. refl; changed = λ p r. touched_changes (standing b.tree (number_of r)) b p r }) root)

pub idle_paint_within : (b : Before) (s : Shows) (root : Render) → b.tree ≡ Some root → IsLeftOf (idle_groups b) (paint_region b s root)
idle_paint_within b s root e =
    subst (λ o. IsLeftOf (idle_groups_of b o) (paint_region b s root)) (sym e)
    (paint_more (asks_idly b) (asks_paint b s)
    (λ p r t. or_right (differs_since (standing b.tree (number_of r)) p r) _ (or_left (has_touched_delegate b.touched r) _ t)) root)
