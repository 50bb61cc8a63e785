-- Regions are made of whole subtrees, groups of whole groups, and neither has more than the tree.
use Rattle.std.proofs.Common.{◌≡◌, ℕ, ◌≤◌, Bool, true, false, List, [], ◌∷◌, ◌++◌, length, refl, sym, ap, subst, arith, ◌⊎◌, inl, inr, if◌then◌else◌}
use Rattle.std.proofs.lemmas.List.{length-append}
use Rattle.widget_model.specs.Look.{Look}
use Rattle.plain_tree.specs.Laws.{render_numbers_of, render_numbers_in, IsLeftOf}
use Rattle.plain_tree.specs.Render.{Render, render, Renders, no_renders, more_renders, count_of, counts_of}
use Rattle.work_sets.specs.InTree.{look_of}
use Rattle.work_roles.specs.WorkRole.{is_repaint_boundary}
use Rattle.work_sets.specs.Laws.{IsOfSubtrees, AreOfSubtrees, IsOfGroups, AreOfGroups}
use Rattle.work_sets.specs.Paint.{Asks, group_asks, is_in_group, groups_in, groups_below, groups_of}
use Rattle.work_roles.specs.Place.{RegionPlace, at_root, below}
use Rattle.work_sets.specs.Region.{Judge, is_inside, reaches_out, region_in, region_below, region_of}

-- ---- whole subtrees

module _ (judge : Judge) where
  mutual
    -- below the region all is in it
    pub region_all : (p : RegionPlace) (r : Render) → region_in judge true p r ≡ render_numbers_of r
    region_all p (render number look told scroll count children) = ap (λ l. number ∷ l) (region_all_below (below p look) children)

    pub region_all_below : (p : RegionPlace) (rs : Renders) → region_below judge true p rs ≡ render_numbers_in rs
    region_all_below p no_renders = refl
    region_all_below p (more_renders r rs) = λ i. region_all p r i ++ region_all_below p rs i

  by_inside : (inside : Bool) (number : ℕ) (p : RegionPlace) (rs : Renders) (look : Look)
      → (inside ≡ false → AreOfSubtrees (region_below judge false (below p look) rs) rs)
      → ((if inside then number ∷ [] else []) ++ region_below judge inside (below p look) rs ≡ number ∷ render_numbers_in rs)
      ⊎ AreOfSubtrees ((if inside then number ∷ [] else []) ++ region_below judge inside (below p look) rs) rs
  by_inside true number p rs look later = inl (ap (λ l. number ∷ l) (region_all_below (below p look) rs))
  by_inside false number p rs look later = inr (later refl)

  mutual
    pub whole_in : (p : RegionPlace) (r : Render) → IsOfSubtrees (region_in judge false p r) r
    whole_in p (render number look told scroll count children) =
        by_inside (is_inside judge false p (render number look told scroll count children)) number p children look (λ e. whole_below (below p look) children)

    pub whole_below : (p : RegionPlace) (rs : Renders) → AreOfSubtrees (region_below judge false p rs) rs
    whole_below p no_renders = refl
    whole_below p (more_renders r rs) =
        (region_in judge false p r, region_below judge false p rs, refl, whole_in p r, whole_below p rs)

  as_whole : (r : Render) → IsOfSubtrees (render_numbers_of r) r
  as_whole (render number look told scroll count children) = inl refl

  by_all : (all : Bool) (r : Render) → IsOfSubtrees (region_in judge all at_root r) r
  by_all true r = subst (λ l. IsOfSubtrees l r) (sym (region_all at_root r)) (as_whole r)
  by_all false r = whole_in at_root r

  pub whole_region : (r : Render) → IsOfSubtrees (region_of judge r) r
  whole_region r = by_all (reaches_out judge at_root r) r

-- ---- whole groups

module _ (asks : Asks) where
  own_or_above : (b above own : Bool) → b ≡ false → (if b then own else above) ≡ above
  own_or_above true above own e = cc
  own_or_above false above own e = refl

  mutual
    pub groups_whole : (painted : Bool) (p : RegionPlace) (r : Render) → IsOfGroups painted (groups_in asks painted p r) r
    groups_whole painted p (render number look told scroll count children) =
        (groups_below asks painted (below p look) children, refl, groups_whole_below painted (below p look) children)

    pub groups_whole_below : (painted : Bool) (p : RegionPlace) (rs : Renders) → AreOfGroups painted (groups_below asks painted p rs) rs
    groups_whole_below painted p no_renders = refl
    groups_whole_below painted p (more_renders r rs) = (
      is_in_group asks painted p r,
      groups_in asks (is_in_group asks painted p r) p r,
      groups_below asks painted p rs,
      own_or_above (is_repaint_boundary (look_of r)) painted (group_asks asks p r),
      refl,
      groups_whole (is_in_group asks painted p r) p r,
      groups_whole_below painted p rs,
    )

-- ---- no more than the tree

left_nothing : (ys : List ℕ) → IsLeftOf [] ys
left_nothing [] = refl
left_nothing (y ∷ ys) = inl (left_nothing ys)

pub left_both : (us vs xs ys : List ℕ) → IsLeftOf us vs → IsLeftOf xs ys → IsLeftOf (us ++ xs) (vs ++ ys)
left_both us [] xs ys first second = subst (λ l. IsLeftOf (l ++ xs) ys) (sym first) second
left_both us (v ∷ vs) xs ys (inl out) second = inl (left_both us vs xs ys out second)
left_both us (v ∷ vs) xs ys (inr kept) second =
    inr (kept.0 ++ xs, ap (λ l. l ++ xs) kept.1, left_both kept.0 vs xs ys kept.2 second)

left_head : (b : Bool) (number : ℕ) (xs ys : List ℕ) → IsLeftOf xs ys → IsLeftOf ((if b then number ∷ [] else []) ++ xs) (number ∷ ys)
left_head true number xs ys h = inr (xs, refl, h)
left_head false number xs ys h = inl h

left_fewer : (xs ys : List ℕ) → IsLeftOf xs ys → length xs ≤ length ys
left_fewer xs [] h = subst (λ l. length l ≤ 0) (sym h) (omega arith)
left_fewer xs (y ∷ ys) (inl out) = let h : length xs ≤ length ys = left_fewer xs ys out in omega (arith, h)
left_fewer xs (y ∷ ys) (inr kept) =
    let h : length kept.0 ≤ length ys = left_fewer kept.0 ys kept.2 in
    subst (λ l. length l ≤ length (y ∷ ys)) (sym kept.1) (omega (arith, h))

module _ (judge : Judge) where
  mutual
    region_left : (all : Bool) (p : RegionPlace) (r : Render) → IsLeftOf (region_in judge all p r) (render_numbers_of r)
    region_left all p (render number look told scroll count children) =
        let inside : Bool = is_inside judge all p (render number look told scroll count children) in
        left_head inside number (region_below judge inside (below p look) children) (render_numbers_in children) (region_left_below inside (below p look) children)

    region_left_below : (all : Bool) (p : RegionPlace) (rs : Renders) → IsLeftOf (region_below judge all p rs) (render_numbers_in rs)
    region_left_below all p no_renders = refl
    region_left_below all p (more_renders r rs) =
        left_both (region_in judge all p r) (render_numbers_of r) (region_below judge all p rs) (render_numbers_in rs)
        (region_left all p r) (region_left_below all p rs)

  pub region_within : (r : Render) → IsLeftOf (region_of judge r) (render_numbers_of r)
  region_within r = region_left (reaches_out judge at_root r) at_root r

module _ (asks : Asks) where
  mutual
    groups_left : (painted : Bool) (p : RegionPlace) (r : Render) → IsLeftOf (groups_in asks painted p r) (render_numbers_of r)
    groups_left painted p (render number look told scroll count children) =
        left_head painted number (groups_below asks painted (below p look) children) (render_numbers_in children) (groups_left_below painted (below p look) children)

    groups_left_below : (painted : Bool) (p : RegionPlace) (rs : Renders) → IsLeftOf (groups_below asks painted p rs) (render_numbers_in rs)
    groups_left_below painted p no_renders = refl
    groups_left_below painted p (more_renders r rs) =
        left_both (groups_in asks (is_in_group asks painted p r) p r) (render_numbers_of r) (groups_below asks painted p rs) (render_numbers_in rs)
        (groups_left (is_in_group asks painted p r) p r) (groups_left_below painted p rs)

  pub groups_within : (r : Render) → IsLeftOf (groups_of asks r) (render_numbers_of r)
  groups_within r = groups_left (group_asks asks at_root r) at_root r

mutual
  numbers_counted : (r : Render) → length (render_numbers_of r) ≡ count_of r
  numbers_counted (render number look told scroll count children) = let h = numbers_counted_below children in omega (arith, h)

  numbers_counted_below : (rs : Renders) → length (render_numbers_in rs) ≡ counts_of rs
  numbers_counted_below no_renders = refl
  numbers_counted_below (more_renders r rs) =
      let h = numbers_counted r in
      let k = numbers_counted_below rs in
      let both = length-append (render_numbers_of r) (render_numbers_in rs) in
      omega (arith, h, k, both)

pub few : (xs : List ℕ) (r : Render) → IsLeftOf xs (render_numbers_of r) → length xs ≤ count_of r
few xs r h = subst (λ n. length xs ≤ n) (numbers_counted r) (left_fewer xs (render_numbers_of r) h)
