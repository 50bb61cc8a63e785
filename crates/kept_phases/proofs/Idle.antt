-- A plan for a part of a tree as a plan for all of it: the nodes that it doesn't name stay as they are.
use Rattle.std.proofs.Common.{◌≡◌, ℕ, Bool, true, false, ◌||◌, cond, not, Option, Some, None, IsSome, IfSome, option_map, List, [], ◌∷◌, ◌++◌, filter, ◌⊎◌, refl, ap, sym, ◌∙◌, subst, inl, inr, arith, true≢false}
use Rattle.std.proofs.lemmas.Bool.{cases_Bool}
use Rattle.fx_handles.specs.declared.Handle.{Handle}
use Rattle.fx_handles.specs.Handle.{same, times, Among}
use Rattle.fx_handles.specs.HandleLaws.{cases_same, same_self, times_there}
use Rattle.node_tree.specs.Forest.{TreeNode, Forest, tops, count, In, append, Stands, map_values}
use Rattle.node_tree.specs.Forest.Forest.{none, tree}
use Rattle.node_tree.specs.Part.{is_named, unnamed}
use Rattle.node_tree.specs.Plan.{PlanEntry, entries, planned, IsUpdated}
use Rattle.node_tree.specs.Tree.{Tree, IsTree, IsNode, node_at, parent_at, children_at, children_of}
use Rattle.node_tree.proofs.ForestLemmas.{same_Some, is_zero, weigh-append}
use Rattle.node_tree.proofs.Handles.{has-among, has-true, filter-agree, times-filter}
use Rattle.node_tree.proofs.PlanLemmas.{times-entries}
use Rattle.node_tree.proofs.TreeLemmas.{is_node, child_of, parent_lists}
use Rattle.tree_marks.specs.Marks.{listed}
use Rattle.render_tree.specs.Changes.{hides_at, EachEntry, SomeEntry, KeepsOwn, KeepsTold, KeepsLook, KeepsList, ChangesLayout, ChangesPaint, LaidAnew, PaintedAnew}
use Rattle.render_tree.specs.Marks.{layout_own, layout_told}
use Rattle.render_tree.specs.Object.{RenderObject, object_look}
use Rattle.render_tree.specs.Redraw.{Redraw, redrawn}
use Rattle.render_tree.specs.Tree.{object_at}
use Rattle.kept_phases.specs.Redraws.{Redraws}
use Rattle.kept_phases.specs.Parts.{RedrawsPart}
use Rattle.kept_phases.proofs.Planned.{updated_count, each_front, each_back}

-- ---- lists

listed_or : (h : Handle) (xs ys : List Handle) → listed h (xs ++ ys) ≡ (listed h xs || listed h ys)
listed_or h [] ys = refl
listed_or h (x ∷ xs) ys = ap (λ b. same h x || b) (listed_or h xs ys) ∙ assoc (same h x) (listed h xs) (listed h ys)
  where
    assoc : (a b c : Bool) → (a || (b || c)) ≡ ((a || b) || c)
    assoc true b c = refl
    assoc false b c = refl

or_front : (a b : Bool) → (a || b) ≡ false → a ≡ false
or_front true b e = e
or_front false b e = refl

or_back : (a b : Bool) → (a || b) ≡ false → b ≡ false
or_back true b e = absurd (true≢false e)
or_back false b e = e

or_some : (a b : Bool) → (a || b) ≡ true → (a ≡ true) ⊎ (b ≡ true)
or_some true b e = inl refl
or_some false b e = inr e

in_front : (h : Handle) (xs ys : List Handle) → listed h (xs ++ ys) ≡ false → listed h xs ≡ false
in_front h xs ys e = or_front (listed h xs) (listed h ys) (sym (listed_or h xs ys) ∙ e)

in_back : (h : Handle) (xs ys : List Handle) → listed h (xs ++ ys) ≡ false → listed h ys ≡ false
in_back h xs ys e = or_back (listed h xs) (listed h ys) (sym (listed_or h xs ys) ∙ e)

-- ---- entries

abbrev Entry : Type 0
Entry = PlanEntry Redraw

both : (P : Entry → Type 0) (xs ys : List Entry) → EachEntry P xs → EachEntry P ys → EachEntry P (xs ++ ys)
both P [] ys a b = b
both P (x ∷ xs) ys a b = (a.0, both P xs ys a.1 b)

weaken : (P Q : Entry → Type 0) → ((e : Entry) → P e → Q e) → (xs : List Entry) → EachEntry P xs → EachEntry Q xs
weaken P Q f [] a = tt
weaken P Q f (x ∷ xs) a = (f x a.0, weaken P Q f xs a.1)

some_left : (P : Entry → Type 0) (xs ys : List Entry) → SomeEntry P xs → SomeEntry P (xs ++ ys)
some_left P [] ys a = absurd a
some_left P (x ∷ xs) ys (inl a) = inl a
some_left P (x ∷ xs) ys (inr a) = inr (some_left P xs ys a)

some_right : (P : Entry → Type 0) (xs ys : List Entry) → SomeEntry P ys → SomeEntry P (xs ++ ys)
some_right P [] ys a = a
some_right P (x ∷ xs) ys a = inr (some_right P xs ys a)

some_by : (P R : Entry → Type 0) (h : Handle) (es : List Entry) → Among h (planned es) → EachEntry R es → ((e : Entry) → e.at ≡ h → R e → P e) → SomeEntry P es
some_by P R h [] among all f = absurd (omega (arith, among))
some_by P R h (e ∷ es) among all f = elim (cases_same e.at h) [
  | inl here ↦ inl (f e here all.0)
  | inr ne ↦ let more = times_there h e.at (planned es) ne in inr (some_by P R h es (omega (arith, among, more)) all.1 f)
]

entries_append : (p : Option Handle) (f g : Forest Redraw) → entries p (append f g) ≡ entries p f ++ entries p g
entries_append p none g = refl
entries_append p (tree h u kids rest) g =
    ap (λ (es : List Entry). entries (Some h) kids ++ (record { at = h; parent = p; children = tops kids; update = u } ∷ es)) (entries_append p rest g)
    ∙ assoc (entries (Some h) kids) (record { at = h; parent = p; children = tops kids; update = u } ∷ entries p rest) (entries p g)
  where
    assoc : (xs ys zs : List Entry) → xs ++ (ys ++ zs) ≡ (xs ++ ys) ++ zs
    assoc [] ys zs = refl
    assoc (x ∷ xs) ys zs = ap (λ (es : List Entry). x ∷ es) (assoc xs ys zs)

-- where no entry for a node has this parent, the node is no child in the entry for the parent
module _ (k h : Handle) where
  abbrev Elsewhere : Entry → Type 0
  Elsewhere e = e.at ≡ k → e.parent ≡ Some h → ⊥

  abbrev Childless : Entry → Type 0
  Childless e = e.at ≡ h → Among k e.children → ⊥

  no_top : (g : Forest Redraw) → EachEntry Elsewhere (entries (Some h) g) → Among k (tops g) → ⊥
  no_top none all among = omega (arith, among)
  no_top (tree j u kids rest) all among = elim (cases_same j k) [
    | inl here ↦ (each_back Elsewhere (entries (Some j) kids) (record { at = j; parent = Some h; children = tops kids; update = u } ∷ entries (Some h) rest) all).0 here refl
    | inr ne ↦
        let more = times_there k j (tops rest) ne in
        no_top rest (each_back Elsewhere (entries (Some j) kids) (record { at = j; parent = Some h; children = tops kids; update = u } ∷ entries (Some h) rest) all).1 (omega (arith, among, more))
  ]

  childless : (p : Option Handle) (g : Forest Redraw) → EachEntry Elsewhere (entries p g) → EachEntry Childless (entries p g)
  childless p none all = tt
  childless p (tree j u kids rest) all =
      let own = each_front Elsewhere (entries (Some j) kids) (record { at = j; parent = p; children = tops kids; update = u } ∷ entries p rest) all in
      let later = each_back Elsewhere (entries (Some j) kids) (record { at = j; parent = p; children = tops kids; update = u } ∷ entries p rest) all in
      both Childless (entries (Some j) kids) (record { at = j; parent = p; children = tops kids; update = u } ∷ entries p rest) (childless (Some j) kids own)
      ((λ here among. no_top kids (subst (λ x. EachEntry Elsewhere (entries (Some x) kids)) here own) among), childless p rest later.1)

-- ---- nodes that stay as they are

abbrev pub idle_redraw : RenderObject → Redraw
idle_redraw o = record { widget = o.widget; parent_data = o.parent_data }

abbrev pub idle : Forest RenderObject → Forest Redraw
idle f = map_values (λ h o. idle_redraw o) f

idle_tops : (f : Forest RenderObject) → tops (idle f) ≡ tops f
idle_tops none = refl
idle_tops (tree h o below rest) = ap (λ hs. h ∷ hs) (idle_tops rest)

idle_count : (k : Handle) (f : Forest RenderObject) → count k (idle f) ≡ count k f
idle_count k none = refl
idle_count k (tree h o below rest) = let a = idle_count k below in let b = idle_count k rest in omega (arith, a, b)

updated_append : (at : Handle → Option RenderObject) (g i : Forest Redraw) (f o : Forest RenderObject) → IsUpdated redrawn at g f → IsUpdated redrawn at i o → IsUpdated redrawn at (append g i) (append f o)
updated_append at none i none o a b = b
updated_append at none i (tree j v below rest) o a b = absurd a
updated_append at (tree h x kids more) i none o a b = absurd a
updated_append at (tree h x kids more) i (tree j v below rest) o a b = (a.0, a.1, a.2, updated_append at more i rest o a.3 b)

stands_append : (at : Handle → Option (TreeNode RenderObject)) (p : Option Handle) (f g : Forest RenderObject) → Stands at p (append f g) → Stands at p g
stands_append at p none g stands = stands
stands_append at p (tree h o below rest) g stands = stands_append at p rest g stands.2

-- ---- a step of the first phase

module _ (old new : Tree RenderObject) (is_old : IsTree old) (r : RedrawsPart old new) where
  abbrev es : List Entry
  es = entries None r.updates

  abbrev whole : Forest Redraw
  whole = append r.updates (idle r.others)

  unplanned : (k : Handle) → In k r.others → times k (planned es) ≡ 0
  unplanned k among =
      let once = r.is.distinct k in
      let sum = weigh-append (λ y. cond {A = ℕ} (same y k) 1 0) r.nodes r.others in
      let same_count = updated_count (object_at r.made) k r.updates r.nodes r.updated in
      let same_times = times-entries k None r.updates in
      omega (arith, among, once, sum, same_count, same_times)

  -- a node of the others has the value that it had
  value_was : (k : Handle) (o : RenderObject) → In k r.others → object_at r.committed k ≡ Some o → object_at r.made k ≡ Some o
  value_was k o among now = sym (r.commits.values k (unplanned k among)) ∙ now

  here : (h : Handle) (o : RenderObject) (below rest : Forest RenderObject) → In h (tree h o below rest)
  here h o below rest = let one : cond {A = ℕ} (same h h) 1 0 ≡ 1 = ap (λ b. cond {A = ℕ} b 1 0) (same_self h) in omega (arith, one)

  in_below : (k h : Handle) (o : RenderObject) (below rest : Forest RenderObject) → In k below → In k (tree h o below rest)
  in_below k h o below rest is = omega (arith, is)

  in_rest : (k h : Handle) (o : RenderObject) (below rest : Forest RenderObject) → In k rest → In k (tree h o below rest)
  in_rest k h o below rest is = omega (arith, is)

  idle_updated : (p : Option Handle) (f : Forest RenderObject) → Stands (node_at r.committed) p f → ((k : Handle) → In k f → In k r.others) → IsUpdated redrawn (object_at r.made) (idle f) f
  idle_updated p none stands inside = tt
  idle_updated p (tree h o below rest) stands inside = (
    refl,
    ap (option_map (redrawn (idle_redraw o))) (value_was h o (inside h (here h o below rest)) (ap (option_map (λ (n : TreeNode RenderObject). n.value)) stands.0)),
    idle_updated (Some h) below stands.1 (λ k is. inside k (in_below k h o below rest is)),
    idle_updated p rest stands.2 (λ k is. inside k (in_rest k h o below rest is)),
  )

  all_updated : IsUpdated redrawn (object_at r.made) whole (append r.nodes r.others)
  all_updated =
      updated_append (object_at r.made) r.updates (idle r.others) r.nodes r.others r.updated
      (idle_updated None r.others (stands_append (node_at r.committed) None r.nodes r.others r.is.stands) (λ k is. is))

  -- ---- its entries

  parts : entries None whole ≡ es ++ entries None (idle r.others)
  parts = entries_append None r.updates (idle r.others)

  -- ---- what is lost

  -- a child of a node has it as its parent
  parent_is : (k c : Handle) → Among c (children_at r.made k) → parent_at r.made c ≡ Some k
  parent_is k c among = by_old (node_at old k) refl
    where
      none_there : (n : TreeNode RenderObject) → node_at r.made k ≡ Some n → n.children ≡ [] → ⊥
      none_there n at bare =
          let nothing : children_at r.made k ≡ [] = ap children_of at ∙ bare in
          let count_there : times c (children_at r.made k) ≡ 0 = ap (times c) nothing in
          omega (arith, among, count_there)

      fresh : node_at old k ≡ None → (o : Option (TreeNode RenderObject)) → node_at r.made k ≡ o → ⊥
      fresh gone None e = let count_there : times c (children_at r.made k) ≡ 0 = ap (λ x. times c (children_of x)) e in omega (arith, among, count_there)
      fresh gone (Some n) e = none_there n e (ap (λ (y : TreeNode RenderObject). y.children) (r.grows.fresh k n gone e).2)

      by_old : (o : Option (TreeNode RenderObject)) → node_at old k ≡ o → parent_at r.made c ≡ Some k
      by_old None e = absurd (fresh e (node_at r.made k) refl)
      by_old (Some n) e =
          let same_node = r.grows.keeps k (is_node (node_at old k) n e) in
          let child = child_of old is_old.0 k c is_old.1 (subst (λ x. Among c (children_of x)) same_node among) in
          ap parent_of (r.grows.keeps c (parent_live (node_at old c) child.parent)) ∙ child.parent
        where
          parent_of : Option (TreeNode RenderObject) → Option Handle
          parent_of None = None
          parent_of (Some m) = m.parent

          parent_live : (o : Option (TreeNode RenderObject)) → parent_of o ≡ Some k → IsSome o
          parent_live None p = absurd cc
          parent_live (Some m) p = refl

  -- a node with a parent was there, among its children
  child_is : (k p : Handle) → parent_at r.made k ≡ Some p → IsNode r.made p × Among k (children_at r.made p)
  child_is k p e = by_old (node_at old k) refl
    where
      parent_of : Option (TreeNode RenderObject) → Option Handle
      parent_of None = None
      parent_of (Some m) = m.parent

      fresh : node_at old k ≡ None → (o : Option (TreeNode RenderObject)) → node_at r.made k ≡ o → ⊥
      fresh gone None at = let none_some : None ≡ Some p = sym (ap parent_of at) ∙ e in absurd (no_parent p none_some)
        where
          no_parent : (p : Handle) → None ≡ Some p → ⊥
          no_parent p e = cc
      fresh gone (Some n) at =
          let none_some : None ≡ Some p = sym (ap parent_of at ∙ ap (λ (y : TreeNode RenderObject). y.parent) (r.grows.fresh k n gone at).2) ∙ e in no_parent p none_some
        where
          no_parent : (p : Handle) → None ≡ Some p → ⊥
          no_parent p e = cc

      by_old : (o : Option (TreeNode RenderObject)) → node_at old k ≡ o → IsNode r.made p × Among k (children_at r.made p)
      by_old None at = absurd (fresh at (node_at r.made k) refl)
      by_old (Some n) at =
          let above = parent_lists old is_old.0 k p is_old.1 (ap parent_of (sym (r.grows.keeps k (is_node (node_at old k) n at))) ∙ e) in
          let same_node = r.grows.keeps p above.0 in (
            subst IsSome (sym same_node) above.0,
            subst (λ x. Among k (children_of x)) (sym same_node) above.1,
          )

  -- a node of the others keeps its list, unless it is listed
  list_was : (h : Handle) (kids : Forest RenderObject) (p : Option Handle) (o : RenderObject) → In h r.others → node_at r.committed h ≡ Some (record { parent = p; children = tops kids; value = o })
      → tops kids ≡ unnamed es (children_at r.made h)
  list_was h kids p o among at = sym (ap children_of at) ∙ r.commits.children h (unplanned h among)

  all_unnamed : (h : Handle) → In h r.others → listed h r.lost ≡ false → unnamed es (children_at r.made h) ≡ children_at r.made h
  all_unnamed h among unlisted =
      filter-agree (λ c. not (is_named es c)) (λ c. true) (children_at r.made h) (λ c is. elim (cases_Bool (is_named es c)) [
        | inl named ↦ absurd (elim (r.shortened c h (has-true c (planned es) named) (parent_is h c is)) [
          | inl planned_too ↦ let none_there = unplanned h among in omega (arith, planned_too, none_there)
          | inr lost ↦ true≢false (sym lost ∙ unlisted)
        ])
        | inr e ↦ ap not e
      ])
      ∙ filter_all (children_at r.made h)
    where
      filter_all : (hs : List Handle) → filter (λ c. true) hs ≡ hs
      filter_all [] = refl
      filter_all (x ∷ hs) = ap (λ xs. x ∷ xs) (filter_all hs)

  abbrev Shortens : Entry → Type 0
  Shortens e = e.children ≡ unnamed es (children_at r.made e.at)

  shortens : (p : Option Handle) (f : Forest RenderObject) → Stands (node_at r.committed) p f → ((k : Handle) → In k f → In k r.others) → EachEntry Shortens (entries p (idle f))
  shortens p none stands inside = tt
  shortens p (tree h o below rest) stands inside =
      both Shortens (entries (Some h) (idle below)) (record { at = h; parent = p; children = tops (idle below); update = idle_redraw o } ∷ entries p (idle rest))
      (shortens (Some h) below stands.1 (λ k is. inside k (in_below k h o below rest is)))
      (idle_tops below ∙ list_was h below p o (inside h (here h o below rest)) stands.0, shortens p rest stands.2 (λ k is. inside k (in_rest k h o below rest is)))

  -- what holds of each entry of the others: the node stays as it is, and keeps its list unless it is listed
  record Idles (e : Entry) : Type 0 where
    pub among : In e.at r.others
    pub value : (o : RenderObject) → object_at r.made e.at ≡ Some o → redrawn e.update o ≡ o

  idles : (p : Option Handle) (f : Forest RenderObject) → Stands (node_at r.committed) p f → ((k : Handle) → In k f → In k r.others) → EachEntry Idles (entries p (idle f))
  idles p none stands inside = tt
  idles p (tree h o below rest) stands inside =
      both Idles (entries (Some h) (idle below)) (record { at = h; parent = p; children = tops (idle below); update = idle_redraw o } ∷ entries p (idle rest))
      (idles (Some h) below stands.1 (λ k is. inside k (in_below k h o below rest is))) (
        record {
          among = inside h (here h o below rest);
          value = λ x at.
              let same_value : o ≡ x = same_Some (sym (value_was h o (inside h (here h o below rest)) (ap (option_map (λ (n : TreeNode RenderObject). n.value)) stands.0)) ∙ at) in
              λ i. record x { widget = (ap (λ (y : RenderObject). y.widget) same_value) i; parent_data = (ap (λ (y : RenderObject). y.parent_data) same_value) i };
        },
        idles p rest stands.2 (λ k is. inside k (in_rest k h o below rest is)),
      )

  others_stand : Stands (node_at r.committed) None r.others
  others_stand = stands_append (node_at r.committed) None r.nodes r.others r.is.stands

  idles_all : EachEntry Idles (entries None (idle r.others))
  idles_all = idles None r.others others_stand (λ k is. is)

  shortens_all : EachEntry Shortens (entries None (idle r.others))
  shortens_all = shortens None r.others others_stand (λ k is. is)

  with_both : (es : List Entry) → EachEntry Idles es → EachEntry Shortens es → EachEntry (λ e. Idles e × Shortens e) es
  with_both [] a b = tt
  with_both (x ∷ xs) a b = ((a.0, b.0), with_both xs a.1 b.1)

  keeps_list : (e : Entry) → Idles e → Shortens e → listed e.at r.lost ≡ false → KeepsList r.made e
  keeps_list e i s unlisted = s ∙ all_unnamed e.at i.among unlisted

  -- ---- a listed node that loses a child is changed

  loses : (h : Handle) → listed h r.lost ≡ true → (P : Entry → Type 0) → ((e : Entry) → e.at ≡ h → (KeepsList r.made e → ⊥) → P e) → SomeEntry P (entries None whole)
  loses h lost P changed =
      let k = r.left h lost in
      let above = child_is k.0 h k.2 in
      subst (SomeEntry P) (sym parts) (elim (is_zero (times h (planned es))) [
        | inl gone ↦
            let there : In h r.others = unplanned_other h above.0 gone in
            some_right P es (entries None (idle r.others))
            (some_by P Shortens h (entries None (idle r.others)) (idle_planned h there) shortens_all
            (λ e at_h s. changed e at_h (λ keeps.
            let named : is_named es k.0 ≡ true = has-among k.0 (planned es) k.1 in
            let mine : Among k.0 (children_at r.made e.at) = subst (λ x. Among k.0 (children_at r.made x)) (sym at_h) above.1 in
            let kept : Among k.0 (unnamed es (children_at r.made e.at)) = subst (Among k.0) (sym keeps ∙ s) mine in
            let none_kept : times k.0 (unnamed es (children_at r.made e.at)) ≡ 0 =
            times-filter (λ c. not (is_named es c)) k.0 (children_at r.made e.at) ∙ ap (λ (b : Bool). cond {A = ℕ} (not b) (times k.0 (children_at r.made e.at)) 0) named in
            omega (arith, kept, none_kept))))
        | inr there ↦
            some_left P es (entries None (idle r.others))
            (some_by P (Childless k.0 h) h es there (childless k.0 h None r.updates k.3)
            (λ e at_h less. changed e at_h (λ keeps. less at_h (subst (Among k.0) (sym keeps) (subst (λ x. Among k.0 (children_at r.made x)) (sym at_h) above.1)))))
      ])
    where
      idle_planned : (h : Handle) → In h r.others → Among h (planned (entries None (idle r.others)))
      idle_planned h is = let a = times-entries h None (idle r.others) in let b = idle_count h r.others in omega (arith, a, b, is)

      unplanned_other : (h : Handle) → IsNode r.made h → times h (planned es) ≡ 0 → In h r.others
      unplanned_other h live gone =
          let inside = r.is.whole h still in
          let sum = weigh-append (λ y. cond {A = ℕ} (same y h) 1 0) r.nodes r.others in
          let same_count = updated_count (object_at r.made) h r.updates r.nodes r.updated in
          let same_times = times-entries h None r.updates in
          omega (arith, inside, sum, same_count, same_times, gone)
        where
          valued : (o : Option (TreeNode RenderObject)) → IsSome o → IsSome (option_map (λ (n : TreeNode RenderObject). n.value) o)
          valued None e = absurd cc
          valued (Some n) e = refl

          back : (o : Option (TreeNode RenderObject)) → IsSome (option_map (λ (n : TreeNode RenderObject). n.value) o) → IsSome o
          back None e = absurd cc
          back (Some n) e = refl

          still : IsNode r.committed h
          still = back (node_at r.committed h) (subst IsSome (sym (r.commits.values h gone)) (valued (node_at r.made h) live))

  -- ---- all that the step changes

  top_of : (hs : List Handle) → IfSome r.committed.root (λ x. listed x hs ≡ false → r.made.root ≡ Some x) → IfSome r.committed.root (λ x. listed x (hs ++ r.lost) ≡ false → r.made.root ≡ Some x)
  top_of hs top = by_root r.committed.root top
    where
      by_root : (o : Option Handle) → IfSome o (λ x. listed x hs ≡ false → r.made.root ≡ Some x) → IfSome o (λ x. listed x (hs ++ r.lost) ≡ false → r.made.root ≡ Some x)
      by_root None t = tt
      by_root (Some x) t = λ off. t (in_front x hs r.lost off)

  abbrev LaidOwn : List Handle → Entry → Type 0
  LaidOwn hs e = listed e.at hs ≡ false → KeepsOwn r.made e × KeepsList r.made e

  abbrev LaidTold : List Handle → Entry → Type 0
  LaidTold hs e = (p : Handle) → e.parent ≡ Some p → listed p hs ≡ false → KeepsTold r.made e

  abbrev PaintedOwnly : List Handle → Entry → Type 0
  PaintedOwnly hs e = listed e.at hs ≡ false → KeepsLook r.made e × KeepsList r.made e

  laid_all : LaidAnew r.made r.committed.root (entries None whole) (r.laid ++ r.lost)
  laid_all = record {
    own = subst (EachEntry (LaidOwn (r.laid ++ r.lost))) (sym parts)
        (both (LaidOwn (r.laid ++ r.lost)) es (entries None (idle r.others))
        (weaken (LaidOwn r.laid) (LaidOwn (r.laid ++ r.lost)) (λ e a off. a (in_front e.at r.laid r.lost off)) es r.laid_anew.own)
        (weaken (λ e. Idles e × Shortens e) (LaidOwn (r.laid ++ r.lost))
        (λ e a off. ((λ o at. ap layout_own (a.0.value o at)), keeps_list e a.0 a.1 (in_back e.at r.laid r.lost off)))
        (entries None (idle r.others)) (with_both (entries None (idle r.others)) idles_all shortens_all)));
    told = subst (EachEntry (LaidTold (r.laid ++ r.lost))) (sym parts)
        (both (LaidTold (r.laid ++ r.lost)) es (entries None (idle r.others))
        (weaken (LaidTold r.laid) (LaidTold (r.laid ++ r.lost)) (λ e a p up off. a p up (in_front p r.laid r.lost off)) es r.laid_anew.told)
        (weaken Idles (LaidTold (r.laid ++ r.lost)) (λ e a p up off o at. ap (layout_told (hides_at r.made e.parent)) (a.value o at)) (entries None (idle r.others)) idles_all));
    top = top_of r.laid r.laid_anew.top;
    caused = λ h is. elim (or_some (listed h r.laid) (listed h r.lost) (sym (listed_or h r.laid r.lost) ∙ is)) [
      | inl laid ↦ elim (r.laid_anew.caused h laid) [
        | inl some ↦ inl (subst (SomeEntry (ChangesLayout r.made h)) (sym parts) (some_left (ChangesLayout r.made h) es (entries None (idle r.others)) some))
        | inr root ↦ inr root
      ]
      | inr lost ↦ inl (loses h lost (ChangesLayout r.made h) (λ e at_h off. inl (at_h, (λ k. off k.1))))
    ];
  }

  painted_all : PaintedAnew r.made r.committed.root (entries None whole) (r.painted ++ r.lost)
  painted_all = record {
    own = subst (EachEntry (PaintedOwnly (r.painted ++ r.lost))) (sym parts)
        (both (PaintedOwnly (r.painted ++ r.lost)) es (entries None (idle r.others))
        (weaken (PaintedOwnly r.painted) (PaintedOwnly (r.painted ++ r.lost)) (λ e a off. a (in_front e.at r.painted r.lost off)) es r.painted_anew.own)
        (weaken (λ e. Idles e × Shortens e) (PaintedOwnly (r.painted ++ r.lost))
        (λ e a off. ((λ o at. ap object_look (a.0.value o at)), keeps_list e a.0 a.1 (in_back e.at r.painted r.lost off)))
        (entries None (idle r.others)) (with_both (entries None (idle r.others)) idles_all shortens_all)));
    top = top_of r.painted r.painted_anew.top;
    caused = λ h is. elim (or_some (listed h r.painted) (listed h r.lost) (sym (listed_or h r.painted r.lost) ∙ is)) [
      | inl painted ↦ elim (r.painted_anew.caused h painted) [
        | inl some ↦ inl (subst (SomeEntry (ChangesPaint r.made h)) (sym parts) (some_left (ChangesPaint r.made h) es (entries None (idle r.others)) some))
        | inr root ↦ inr root
      ]
      | inr lost ↦ inl (loses h lost (ChangesPaint r.made h) (λ e at_h off. (at_h, (λ k. off k.1))))
    ];
  }

  -- the step as one over all nodes
  pub idle_redraws : Redraws old new
  idle_redraws = record {
    made = r.made;
    grows = r.grows;
    updates = whole;
    nodes = append r.nodes r.others;
    updated = all_updated;
    committed = r.committed;
    is = r.is;
    laid = r.laid ++ r.lost;
    laid_anew = laid_all;
    painted = r.painted ++ r.lost;
    painted_anew = painted_all;
    laid_marked = r.laid_marked;
    layouts = r.layouts;
    paints = r.paints;
  }

  pub idle_committed : idle_redraws.committed ≡ r.committed
  unfolding idle_redraws
  idle_committed = refl
