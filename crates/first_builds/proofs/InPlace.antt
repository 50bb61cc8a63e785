-- Nodes that were made in their places are what a plan makes of nodes that were made each by itself.
use Rattle.std.proofs.Common.{◌≡◌, ◌⊎◌, ℕ, ◌+◌, ◌||◌, ◌&&◌, Bool, true, false, cond, List, [], ◌∷◌, ◌++◌, Option, Some, None, IfSome, IsSome, option_map, refl, sym, ap, ◌∙◌, subst, inl, inr, arith, true≢false}
use Rattle.std.proofs.lemmas.Bool.{cases_Bool}
use Rattle.std.specs.Option.{option_to_list}
use Rattle.fx_handles.specs.declared.Handle.{Handle}
use Rattle.fx_handles.specs.Handle.{same, times}
use Rattle.fx_handles.specs.HandleLaws.{same-true, same_self}
use Rattle.node_tree.specs.Forest.{TreeNode, Forest, tops, size, count, Stands, plain}
use Rattle.node_tree.specs.Forest.Forest.{none, tree}
use Rattle.node_tree.specs.Plan.{PlanEntry, entries, entry_at, planned, relinked, committed, IsUpdated, Commits}
use Rattle.node_tree.specs.Tree.{Tree, Is, node_at, IsNode, children_at}
use Rattle.node_tree.proofs.ForestLemmas.{plain_is, is_zero}
use Rattle.node_tree.proofs.EditLemmas.{keeps_self}
use Rattle.node_tree.proofs.PlanLemmas.{times-entries, entry-named, entry-some, committed-by, committed-nothing, weigh-updated}
use Rattle.tree_marks.specs.Marking.{Above, at_top, within}
use Rattle.tree_marks.specs.Marks.{listed, has_listed, some_climbs, sweep}
use Rattle.render_tree.specs.Changes.{KeepsOwn, KeepsList, KeepsTold, KeepsLook, ChangesLayout, ChangesPaint, EachEntry, SomeEntry}
use Rattle.render_tree.specs.Edits.{new_object}
use Rattle.render_tree.specs.Marked.{SetsMarks}
use Rattle.render_tree.specs.Marks.{layout_marks, paint_marks, layout_own}
use Rattle.render_tree.specs.MarkLaws.{layout_lawful, paint_lawful}
use Rattle.render_tree.specs.Object.{RenderObject, object_look}
use Rattle.render_tree.specs.Redraw.{Redraw, redrawn}
use Rattle.render_tree.specs.Tree.{object_at}
use Rattle.first_builds.specs.Scattered.{scattered_node, scattered, drawn_as, MountedAs}
use Rattle.build_owner.specs.Redrawn.{IsRedrawn}
use Rattle.first_builds.proofs.Scattering.{scattered_at, used_map, retired_map, inserted_map, live_map}

some_is : {A : Type 0} {x y : A} → Some x ≡ Some y → x ≡ y
some_is e = cc

none_some : {A : Type 0} {x : A} → None ≡ Some x → ⊥
none_some e = cc

-- ---- entries

each_append : (P : PlanEntry Redraw → Type 0) (xs ys : List (PlanEntry Redraw)) → EachEntry P xs → EachEntry P ys → EachEntry P (xs ++ ys)
each_append P [] ys h k = k
each_append P (x ∷ xs) ys h k = (h.0, each_append P xs ys h.1 k)

some_left : (P : PlanEntry Redraw → Type 0) (xs ys : List (PlanEntry Redraw)) → SomeEntry P xs → SomeEntry P (xs ++ ys)
some_left P [] ys h = absurd h
some_left P (x ∷ xs) ys (inl h) = inl h
some_left P (x ∷ xs) ys (inr h) = inr (some_left P xs ys h)

some_right : (P : PlanEntry Redraw → Type 0) (xs ys : List (PlanEntry Redraw)) → SomeEntry P ys → SomeEntry P (xs ++ ys)
some_right P [] ys h = h
some_right P (x ∷ xs) ys h = inr (some_right P xs ys h)

some_map : (P Q : PlanEntry Redraw → Type 0) (xs : List (PlanEntry Redraw)) → ((e : PlanEntry Redraw) → P e → Q e) → SomeEntry P xs → SomeEntry Q xs
some_map P Q [] f h = absurd h
some_map P Q (x ∷ xs) f (inl h) = inl (f x h)
some_map P Q (x ∷ xs) f (inr h) = inr (some_map P Q xs f h)

found : (P : PlanEntry Redraw → Type 0) (es : List (PlanEntry Redraw)) (k : Handle) (e : PlanEntry Redraw) → EachEntry P es → entry_at es k ≡ Some e → P e
found P [] k e h is = absurd (none_some is)
found P (x ∷ es) k e h is =
    elim (cases_Bool (same k x.at)) [
      | inl t ↦ subst P (some_is (sym (ap (λ b. cond b (Some x) (entry_at es k)) t) ∙ is)) h.0
      | inr t ↦ found P es k e h.1 (sym (ap (λ b. cond b (Some x) (entry_at es k)) t) ∙ is)
    ]

-- ---- lists of handles

or_true : (b c : Bool) → c ≡ true → (b || c) ≡ true
or_true true c e = refl
or_true false c e = e

listed_left : (k : Handle) (xs ys : List Handle) → listed k xs ≡ true → listed k (xs ++ ys) ≡ true
listed_left k [] ys e = absurd (true≢false (sym e))
listed_left k (x ∷ xs) ys e =
    elim (cases_Bool (same k x)) [
      | inl t ↦ ap (λ b. b || listed k (xs ++ ys)) t
      | inr t ↦ or_true (same k x) (listed k (xs ++ ys)) (listed_left k xs ys (sym (ap (λ b. b || listed k xs) t) ∙ e))
    ]

listed_right : (k : Handle) (xs ys : List Handle) → listed k ys ≡ true → listed k (xs ++ ys) ≡ true
listed_right k [] ys e = e
listed_right k (x ∷ xs) ys e = or_true (same k x) (listed k (xs ++ ys)) (listed_right k xs ys e)

listed_both : (k : Handle) (xs ys : List Handle) → listed k (xs ++ ys) ≡ true → (listed k xs ≡ true) ⊎ (listed k ys ≡ true)
listed_both k [] ys e = inr e
listed_both k (x ∷ xs) ys e =
    elim (cases_Bool (same k x)) [
      | inl t ↦ inl (ap (λ b. b || listed k xs) t)
      | inr t ↦ elim (listed_both k xs ys (sym (ap (λ b. b || listed k (xs ++ ys)) t) ∙ e)) [
        | inl there ↦ inl (or_true (same k x) (listed k xs) there)
        | inr there ↦ inr there
      ]
    ]

-- ---- the nodes that have a child

abbrev with_kids : Handle → Forest RenderObject → List Handle → List Handle
with_kids h none hs = hs
with_kids h (tree k v below rest) hs = h ∷ hs

abbrev busy : Forest RenderObject → List Handle
busy none = []
busy (tree h v kids rest) = with_kids h kids (busy kids ++ busy rest)

-- each of them is listed
abbrev ListsBusy : List Handle → Forest RenderObject → Type 0
ListsBusy hs none = Unit {0}
ListsBusy hs (tree h v kids rest) = ((kids ≡ none → ⊥) → listed h hs ≡ true) × ListsBusy hs kids × ListsBusy hs rest

in_kids : (k h : Handle) (kids : Forest RenderObject) (hs : List Handle) → listed k hs ≡ true → listed k (with_kids h kids hs) ≡ true
in_kids k h none hs e = e
in_kids k h (tree c v below rest) hs e = or_true (same k h) (listed k hs) e

here_kids : (h : Handle) (kids : Forest RenderObject) (hs : List Handle) → (kids ≡ none → ⊥) → listed h (with_kids h kids hs) ≡ true
here_kids h none hs some = absurd (some refl)
here_kids h (tree c v below rest) hs some = ap (λ b. b || listed h hs) (same_self h)

lists_busy : (hs : List Handle) (g : Forest RenderObject) → ((k : Handle) → listed k (busy g) ≡ true → listed k hs ≡ true) → ListsBusy hs g
lists_busy hs none more = tt
lists_busy hs (tree h v kids rest) more = (
  λ some. more h (here_kids h kids (busy kids ++ busy rest) some),
  lists_busy hs kids (λ k e. more k (in_kids k h kids (busy kids ++ busy rest) (listed_left k (busy kids) (busy rest) e))),
  lists_busy hs rest (λ k e. more k (in_kids k h kids (busy kids ++ busy rest) (listed_right k (busy kids) (busy rest) e))),
)

not_none : (h : Handle) (v : RenderObject) (below rest : Forest RenderObject) → tree h v below rest ≡ none → ⊥
not_none h v below rest e = cc

-- ---- one shape

pub tops_as : (d : Forest Redraw) (g : Forest RenderObject) → MountedAs d g → tops d ≡ tops g
tops_as none none p = refl
tops_as none (tree k v below more) p = absurd p
tops_as (tree h u kids rest) none p = absurd p
tops_as (tree h u kids rest) (tree k v below more) p = λ i. p.0 i ∷ tops_as rest more p.3 i

no_kids : (d : Forest Redraw) → MountedAs d none → tops d ≡ []
no_kids none p = refl
no_kids (tree h u kids rest) p = absurd p

some_kids : (d : Forest Redraw) (c : Handle) (v : RenderObject) (below rest : Forest RenderObject) → MountedAs d (tree c v below rest) → tops d ≡ [] → ⊥
some_kids none c v below rest p e = p
some_kids (tree h u kids more) c v below rest p e = cc

module _ (r : Tree RenderObject) where
  abbrev s : Tree RenderObject
  s = scattered r

  -- what stands alone at a handle
  alone : (q : Option Handle) (k : Handle) (v : RenderObject) (below rest : Forest RenderObject) → Stands (node_at r) q (tree k v below rest) → node_at s k ≡ Some (record { parent = None; children = []; value = new_object v.number v.widget })
  alone q k v below rest st = scattered_at r k ∙ ap (option_map scattered_node) st.0

  alone_object : (q : Option Handle) (k : Handle) (v : RenderObject) (below rest : Forest RenderObject) → Stands (node_at r) q (tree k v below rest) → object_at s k ≡ Some (new_object v.number v.widget)
  alone_object q k v below rest st = ap (option_map (λ (n : TreeNode RenderObject). n.value)) (alone q k v below rest st)

  no_children : (q : Option Handle) (k : Handle) (v : RenderObject) (below rest : Forest RenderObject) → Stands (node_at r) q (tree k v below rest) → children_at s k ≡ []
  no_children q k v below rest st = ap kids_of (alone q k v below rest st)
    where
      kids_of : Option (TreeNode RenderObject) → List Handle
      kids_of None = []
      kids_of (Some n) = n.children

  -- ---- updated

  pub updated_as : (q : Option Handle) (d : Forest Redraw) (g : Forest RenderObject) → MountedAs d g → Stands (node_at r) q g → IsUpdated redrawn (object_at s) d g
  updated_as q none none p st = tt
  updated_as q none (tree k v below more) p st = absurd p
  updated_as q (tree h u kids rest) none p st = absurd p
  updated_as q (tree h u kids rest) (tree k v below more) p st = (
    p.0,
    ap (λ x. option_map (redrawn u) (object_at s x)) p.0 ∙ ap (option_map (redrawn u)) (alone_object q k v below more st) ∙ ap (λ (o : RenderObject). Some o) (sym p.1),
    updated_as (Some k) kids below p.2 st.1,
    updated_as q rest more p.3 st.2,
  )

  -- they are there already
  pub updated_already : (q : Option Handle) (d : Forest Redraw) (g : Forest RenderObject) → MountedAs d g → Stands (node_at r) q g → IsUpdated redrawn (object_at r) d g
  updated_already q none none p st = tt
  updated_already q none (tree k v below more) p st = absurd p
  updated_already q (tree h u kids rest) none p st = absurd p
  updated_already q (tree h u kids rest) (tree k v below more) p st = (
    p.0,
    ap (λ x. option_map (redrawn u) (object_at r x)) p.0
        ∙ ap (λ (o : Option (TreeNode RenderObject)). option_map (redrawn u) (option_map (λ (n : TreeNode RenderObject). n.value) o)) st.0
        ∙ ap (λ (o : RenderObject). Some (redrawn u o)) p.1
        ∙ ap (λ (o : RenderObject). Some o) (sym p.1),
    updated_already (Some k) kids below p.2 st.1,
    updated_already q rest more p.3 st.2,
  )

  -- ---- committed

  record Settled (e : PlanEntry Redraw) : Type 0 where
    number : ℕ
    stands : node_at r e.at ≡ Some (record { parent = e.parent; children = e.children; value = drawn_as number e.update })

  settled : (q : Option Handle) (d : Forest Redraw) (g : Forest RenderObject) → MountedAs d g → Stands (node_at r) q g → EachEntry Settled (entries q d)
  settled q none none p st = tt
  settled q none (tree k v below more) p st = absurd p
  settled q (tree h u kids rest) none p st = absurd p
  settled q (tree h u kids rest) (tree k v below more) p st =
      each_append Settled (entries (Some h) kids) (record { at = h; parent = q; children = tops kids; update = u } ∷ entries q rest)
      (subst (λ x. EachEntry Settled (entries (Some x) kids)) (sym p.0) (settled (Some k) kids below p.2 st.1)) (
        record {
          number = v.number;
          stands = ap (node_at r) p.0 ∙ st.0 ∙ (λ i. Some (record { parent = q; children = sym (tops_as kids below p.2) i; value = p.1 i }));
        },
        settled q rest more p.3 st.2,
      )

  module _ (d : Forest Redraw) (g : Forest RenderObject) (made : MountedAs d g) (is : Is r g) where
    abbrev es : List (PlanEntry Redraw)
    es = entries None d

    shown_so : IsUpdated redrawn (object_at s) d g
    shown_so = updated_as None d g made is.stands

    times_so : (k : Handle) → times k (planned es) ≡ count k g
    times_so k = times-entries k None d ∙ sym (weigh-updated redrawn (λ (j : Handle). cond {A = ℕ} (same j k) 1 0) (object_at s) d g shown_so)

    dead : (k : Handle) → count k g ≡ 0 → (o : Option (TreeNode RenderObject)) → node_at r k ≡ o → o ≡ None
    dead k absent None at = refl
    dead k absent (Some n) at = absurd (let there = is.whole k (subst IsSome (sym at) refl) in omega (arith, absent, there))

    committed_so : (k : Handle) → node_at r k ≡ committed redrawn es k (node_at s k)
    committed_so k = elim (is_zero (count k g)) [
      | inl absent ↦ dead k absent (node_at r k) refl ∙ sym (committed-nothing redrawn es k (node_at s k) (times_so k ∙ absent))
      | inr there ↦
          let named = entry-named es k (let e = times_so k in omega (arith, e, there)) in
          let e = named.0 in
          let at = found Settled es k e (settled None d g made is.stands) named.1 in
          let here : node_at r k ≡ Some (record { parent = e.parent; children = e.children; value = drawn_as at.number e.update }) = ap (node_at r) (entry-some es k e named.1).0 ∙ at.stands in
          here ∙ sym (committed-by redrawn es k (node_at s k) e named.1 ∙ ap (option_map (relinked redrawn e)) (scattered_at r k ∙ ap (option_map scattered_node) here))
    ]

    commits_itself : Commits redrawn es s.nodes r.nodes
    commits_itself = record {
      nodes = committed_so;
      spent = λ k gone. gone;
      now_spent = λ k live absent. absurd (
          let live_there : IsNode r k = live_map scattered_node (node_at r k) (subst IsSome (scattered_at r k) live) in
          let e = times_so k in
          let there = is.whole k live_there in
          omega (arith, e, absent, there));
      retired = let e = retired_map scattered_node r.nodes in omega (arith, e);
      filled = let e = retired_map scattered_node r.nodes in let f = used_map scattered_node r.nodes in omega (arith, e, f);
      inserted = sym (inserted_map scattered_node r.nodes);
    }

  -- ---- what is changed

  -- of a node without children nothing
  own_kept : (q : Option Handle) (h : Handle) (u : Redraw) (kids rest : Forest Redraw) (k : Handle) (v : RenderObject) (below more : Forest RenderObject) → MountedAs (tree h u kids rest) (tree k v below more) → Stands (node_at r) q (tree k v below more)
      → (o : RenderObject) → object_at s h ≡ Some o → (layout_own (redrawn u o) ≡ layout_own o) × (object_look (redrawn u o) ≡ object_look o)
  own_kept q h u kids rest k v below more p st o at =
      let is : new_object v.number v.widget ≡ o = some_is (sym (ap (object_at s) p.0 ∙ alone_object q k v below more st) ∙ at) in
      let w : u.widget ≡ v.widget = sym (ap (λ (x : RenderObject). x.widget) p.1) in (
        subst (λ (x : RenderObject). layout_own (redrawn u x) ≡ layout_own x) is (ap (λ x. layout_own (new_object v.number x)) w),
        subst (λ (x : RenderObject). object_look (redrawn u x) ≡ object_look x) is (ap (λ x. object_look (new_object v.number x)) w),
      )

  list_kept : (hs : List Handle) (q : Option Handle) (h : Handle) (u : Redraw) (kids rest : Forest Redraw) (k : Handle) (v : RenderObject) (below more : Forest RenderObject) → MountedAs (tree h u kids rest) (tree k v below more)
      → Stands (node_at r) q (tree k v below more) → ((below ≡ none → ⊥) → listed k hs ≡ true) → listed h hs ≡ false → tops kids ≡ children_at s h
  list_kept hs q h u kids rest k v none more p st lists off = no_kids kids p.2 ∙ sym (ap (children_at s) p.0 ∙ no_children q k v none more st)
  list_kept hs q h u kids rest k v (tree c x inner others) more p st lists off = absurd (true≢false (sym (lists (λ e. not_none c x inner others e)) ∙ ap (λ j. listed j hs) (sym p.0) ∙ off))

  kept : (hs : List Handle) (q : Option Handle) (d : Forest Redraw) (g : Forest RenderObject) → MountedAs d g → Stands (node_at r) q g → ListsBusy hs g
      → EachEntry (λ e. listed e.at hs ≡ false → (KeepsOwn s e × KeepsList s e) × (KeepsLook s e × KeepsList s e)) (entries q d)
  kept hs q none none p st lists = tt
  kept hs q none (tree k v below more) p st lists = absurd p
  kept hs q (tree h u kids rest) none p st lists = absurd p
  kept hs q (tree h u kids rest) (tree k v below more) p st lists =
      each_append (λ e. listed e.at hs ≡ false → (KeepsOwn s e × KeepsList s e) × (KeepsLook s e × KeepsList s e)) (entries (Some h) kids) (record { at = h; parent = q; children = tops kids; update = u } ∷ entries q rest)
      (kept hs (Some h) kids below p.2 (subst (λ x. Stands (node_at r) (Some x) below) (sym p.0) st.1) lists.1) (
        λ off.
            let list = list_kept hs q h u kids rest k v below more p st lists.0 off in
            ((λ o at. (own_kept q h u kids rest k v below more p st o at).0, list), (λ o at. (own_kept q h u kids rest k v below more p st o at).1, list)),
        kept hs q rest more p.3 st.2 lists.2,
      )

  -- each parent is listed
  told : (hs : List Handle) (q : Option Handle) (d : Forest Redraw) (g : Forest RenderObject) → MountedAs d g → ListsBusy hs g → ((p : Handle) → q ≡ Some p → listed p hs ≡ true)
      → EachEntry (λ e. (p : Handle) → e.parent ≡ Some p → listed p hs ≡ false → KeepsTold s e) (entries q d)
  told hs q none g p lists above = tt
  told hs q (tree h u kids rest) none p lists above = absurd p
  told hs q (tree h u kids rest) (tree k v below more) p lists above =
      each_append (λ e. (j : Handle) → e.parent ≡ Some j → listed j hs ≡ false → KeepsTold s e) (entries (Some h) kids) (record { at = h; parent = q; children = tops kids; update = u } ∷ entries q rest)
      (by_kids kids below p.2 lists.0 (λ (more_above : (y : Handle) → Some h ≡ Some y → listed y hs ≡ true). told hs (Some h) kids below p.2 lists.1 more_above))
      (λ j is off. absurd (true≢false (sym (above j is) ∙ off)), told hs q rest more p.3 lists.2 above)
    where
      by_kids : (ds : Forest Redraw) (gs : Forest RenderObject) → MountedAs ds gs → ((gs ≡ none → ⊥) → listed k hs ≡ true)
          → (((y : Handle) → Some h ≡ Some y → listed y hs ≡ true) → EachEntry (λ e. (j : Handle) → e.parent ≡ Some j → listed j hs ≡ false → KeepsTold s e) (entries (Some h) ds))
          → EachEntry (λ e. (j : Handle) → e.parent ≡ Some j → listed j hs ≡ false → KeepsTold s e) (entries (Some h) ds)
      by_kids none gs m here go = tt
      by_kids (tree c w inner others) none m here go = absurd m
      by_kids (tree c w inner others) (tree j x under after) m here go =
          go (λ y is. ap (λ z. listed z hs) (some_is (sym is) ∙ p.0) ∙ here (λ e. not_none j x under after e))

  -- each that has a child is changed
  caused : (k : Handle) (q : Option Handle) (d : Forest Redraw) (g : Forest RenderObject) → MountedAs d g → Stands (node_at r) q g → listed k (busy g) ≡ true
      → SomeEntry (λ e. (e.at ≡ k) × (KeepsList s e → ⊥)) (entries q d)
  caused k q none none p st on = absurd (true≢false (sym on))
  caused k q none (tree j v below more) p st on = absurd p
  caused k q (tree h u kids rest) none p st on = absurd p
  caused k q (tree h u kids rest) (tree j v none more) p st on =
      some_right (λ e. (e.at ≡ k) × (KeepsList s e → ⊥)) (entries (Some h) kids) (record { at = h; parent = q; children = tops kids; update = u } ∷ entries q rest) (inr (caused k q rest more p.3 st.2 on))
  caused k q (tree h u kids rest) (tree j v (tree c x inner others) more) p st on =
      elim (cases_Bool (same k j)) [
        | inl here ↦
            some_right C (entries (Some h) kids) E
            (inl (p.0 ∙ sym (same-true k j here), λ keeps. some_kids kids c x inner others p.2 (keeps ∙ ap (children_at s) p.0 ∙ no_children q j v (tree c x inner others) more st)))
        | inr other ↦ elim (listed_both k (busy (tree c x inner others)) (busy more) (sym (ap (λ b. b || listed k (busy (tree c x inner others) ++ busy more)) other) ∙ on)) [
          | inl below ↦ some_left C (entries (Some h) kids) E (caused k (Some h) kids (tree c x inner others) p.2 (subst (λ y. Stands (node_at r) (Some y) (tree c x inner others)) (sym p.0) st.1) below)
          | inr later ↦ some_right C (entries (Some h) kids) E (inr (caused k q rest more p.3 st.2 later))
        ]
      ]
    where
      C : PlanEntry Redraw → Type 0
      C e = (e.at ≡ k) × (KeepsList s e → ⊥)

      E : List (PlanEntry Redraw)
      E = record { at = h; parent = q; children = tops kids; update = u } ∷ entries q rest

  -- ---- marks

  abbrev pub AllDue : Forest RenderObject → Type 0
  AllDue none = Unit {0}
  AllDue (tree h v kids rest) = (v.needs_layout ≡ true) × (v.layout_below ≡ true) × (v.needs_paint ≡ true) × (v.paint_below ≡ true) × AllDue kids × AllDue rest

  pub due_as : (d : Forest Redraw) (g : Forest RenderObject) → MountedAs d g → AllDue g
  due_as none none p = tt
  due_as none (tree k v below more) p = absurd p
  due_as (tree h u kids rest) none p = absurd p
  due_as (tree h u kids rest) (tree k v below more) p =
      (ap (λ (o : RenderObject). o.needs_layout) p.1, ap (λ (o : RenderObject). o.layout_below) p.1, ap (λ (o : RenderObject). o.needs_paint) p.1, ap (λ (o : RenderObject). o.paint_below) p.1, due_as kids below p.2, due_as rest more p.3)

  set_already : (b x : Bool) → b ≡ true → (b || x) ≡ b
  set_already true x e = refl
  set_already false x e = absurd (true≢false (sym e))

  laid_already : (hs : List Handle) (p : Above) (g : Forest RenderObject) → AllDue g → sweep layout_marks true hs p g ≡ g
  laid_already hs p none due = refl
  laid_already hs p (tree h v kids rest) due =
      let x : Bool = (listed h hs || some_climbs layout_marks hs (within layout_marks p v) kids) && layout_marks.takes p.top v in
      let y : Bool = has_listed hs kids || (true && listed h hs) in
      let value : layout_marks.marked x y v ≡ v = λ i. record v { needs_layout = set_already v.needs_layout x due.0 i; layout_below = set_already v.layout_below y due.1 i } in
      λ i. tree h (value i) (laid_already hs (within layout_marks p v) kids due.4 i) (laid_already hs p rest due.5 i)

  painted_already : (hs : List Handle) (p : Above) (g : Forest RenderObject) → AllDue g → sweep paint_marks true hs p g ≡ g
  painted_already hs p none due = refl
  painted_already hs p (tree h v kids rest) due =
      let x : Bool = (listed h hs || some_climbs paint_marks hs (within paint_marks p v) kids) && paint_marks.takes p.top v in
      let y : Bool = has_listed hs kids || (true && listed h hs) in
      let value : paint_marks.marked x y v ≡ v = λ i. record v { needs_paint = set_already v.needs_paint x due.2 i; paint_below = set_already v.paint_below y due.3 i } in
      λ i. tree h (value i) (painted_already hs (within paint_marks p v) kids due.4 i) (painted_already hs p rest due.5 i)

  one_forest : (f g : Forest RenderObject) → Is r f → Is r g → f ≡ g
  one_forest f g one two =
      let n : ℕ = size f + size g in
      sym (plain_is (node_at r) None f n one.stands (omega arith)) ∙ (ap (plain n (node_at r)) (sym one.tops ∙ two.tops) ∙ plain_is (node_at r) None g n two.stands (omega arith))

  module _ (g : Forest RenderObject) (is : Is r g) (due : AllDue g) (hs : List Handle) where
    pub lays : SetsMarks layout_marks true hs r r
    lays = record {
      plain = λ f there. subst (Is r) (sym (ap (sweep layout_marks true hs at_top) (one_forest f g there is) ∙ laid_already hs at_top g due)) is;
      only = λ k n at. (false, false, at ∙ ap (λ (o : RenderObject). Some (record n { value = o })) (sym (layout_lawful.nothing n.value)));
      absent = λ k e. e;
      root = refl;
      inactive = refl;
      handles = keeps_self r.nodes;
    }

    pub paints : SetsMarks paint_marks true hs r r
    paints = record {
      plain = λ f there. subst (Is r) (sym (ap (sweep paint_marks true hs at_top) (one_forest f g there is) ∙ painted_already hs at_top g due)) is;
      only = λ k n at. (false, false, at ∙ ap (λ (o : RenderObject). Some (record n { value = o })) (sym (paint_lawful.nothing n.value)));
      absent = λ k e. e;
      root = refl;
      inactive = refl;
      handles = keeps_self r.nodes;
    }

  -- ---- all together

  -- those of a list are new roots or have a child
  rooted : (o : Option Handle) (g : Forest RenderObject) (k : Handle) → listed k (option_to_list o ++ busy g) ≡ true → (o ≡ Some k) ⊎ (listed k (busy g) ≡ true)
  rooted None g k on = inr on
  rooted (Some x) g k on =
      elim (cases_Bool (same k x)) [
        | inl here ↦ inl (ap (λ y. Some y) (sym (same-true k x here)))
        | inr other ↦ inr (sym (ap (λ b. b || listed k (busy g)) other) ∙ on)
      ]

  root_listed : (o : Option Handle) (g : Forest RenderObject) → IfSome o (λ x. listed x (option_to_list o ++ busy g) ≡ false → s.root ≡ Some x)
  root_listed None g = tt
  root_listed (Some x) g = λ off. absurd (true≢false (sym (ap (λ b. b || listed x (busy g)) (same_self x)) ∙ off))

  pub redrawn_in_place : (d : Forest Redraw) (g : Forest RenderObject) → Is r g → MountedAs d g → option_to_list r.root ≡ tops g → IsRedrawn s r d
  redrawn_in_place d g is made root =
      let hs : List Handle = option_to_list r.root ++ busy g in
      let lists : ListsBusy hs g = lists_busy hs g (λ k e. listed_right k (option_to_list r.root) (busy g) e) in
      let both = kept hs None d g made is.stands lists in
      let due = due_as d g made in
      record {
        nodes = g;
        updated = updated_as None d g made is.stands;
        committed = r;
        commits = commits_itself d g made is;
        is = is;
        root = root;
        laid = hs;
        laid_anew = record {
          own = each_map (λ e. listed e.at hs ≡ false → (KeepsOwn s e × KeepsList s e) × (KeepsLook s e × KeepsList s e)) (λ e. listed e.at hs ≡ false → KeepsOwn s e × KeepsList s e) (entries None d) (λ e h off. (h off).0) both;
          told = told hs None d g made lists (λ p e. absurd (none_some e));
          top = root_listed r.root g;
          caused = λ k on. elim (rooted r.root g k on) [
            | inl here ↦ inr (here, λ e. none_some e)
            | inr there ↦
                inl (some_map (λ e. (e.at ≡ k) × (KeepsList s e → ⊥)) (ChangesLayout s k) (entries None d) (λ e c. inl (c.0, λ keeps. c.1 keeps.1)) (caused k None d g made is.stands there))
          ];
        };
        painted = hs;
        painted_anew = record {
          own = each_map (λ e. listed e.at hs ≡ false → (KeepsOwn s e × KeepsList s e) × (KeepsLook s e × KeepsList s e)) (λ e. listed e.at hs ≡ false → KeepsLook s e × KeepsList s e) (entries None d) (λ e h off. (h off).1) both;
          top = root_listed r.root g;
          caused = λ k on. elim (rooted r.root g k on) [
            | inl here ↦ inr (here, λ e. none_some e)
            | inr there ↦
                inl (some_map (λ e. (e.at ≡ k) × (KeepsList s e → ⊥)) (ChangesPaint s k) (entries None d) (λ e c. (c.0, λ keeps. c.1 keeps.1)) (caused k None d g made is.stands there))
          ];
        };
        laid_marked = r;
        layouts = lays g is due hs;
        paints = paints g is due hs;
      }
    where
      each_map : (P Q : PlanEntry Redraw → Type 0) (xs : List (PlanEntry Redraw)) → ((e : PlanEntry Redraw) → P e → Q e) → EachEntry P xs → EachEntry Q xs
      each_map P Q [] f h = tt
      each_map P Q (x ∷ xs) f h = (f x h.0, each_map P Q xs f h.1)
