-- Outer nodes: those of two trees that are the same without the items of lazy lists, and which numbers aren't theirs.
use Rattle.std.proofs.Common.{◌≡◌, ◌≢◌, ◌⊎◌, ℕ, zero, suc, Bool, true, false, cond, if◌then◌else◌, Option, Some, None, List, ◌++◌, inl, inr, refl, sym, ap, ◌∙◌, subst, arith}
use Rattle.std.proofs.lemmas.Bool.{false≢true, true≢false}
use Rattle.fx_handles.specs.declared.Handle.{Handle}
use Rattle.fx_handles.specs.Handle.{same}
use Rattle.fx_handles.specs.HandleLaws.{cases_same, same-ne}
use Rattle.node_tree.specs.Forest.{Forest, count, In}
use Rattle.node_tree.specs.Forest.Forest.{none, tree}
use Rattle.node_tree.specs.Part.{is_named}
use Rattle.node_tree.specs.Plan.{entries, planned, IsUpdated}
use Rattle.node_tree.specs.Tree.{Tree}
use Rattle.node_tree.proofs.Handles.{has-true}
use Rattle.node_tree.proofs.PlanLemmas.{times-entries}
use Rattle.widget_model.specs.Look.{Look}
use Rattle.plain_tree.specs.declared.render.ParentData.{ParentData}
use Rattle.plain_tree.specs.Laws.{render_numbers_of, render_numbers_in, AllDiffer}
use Rattle.plain_tree.specs.Render.{Render, render, Renders, no_renders, more_renders}
use Rattle.work_sets.proofs.Found.{IsIn, in_left, in_right, differs_in, differ_left, differ_right, apart}
use Rattle.layout_walk.specs.Rules.{is_list}
use Rattle.kept_layouts.specs.Items.{without_items, all_without_items}
use Rattle.render_tree.specs.Object.{RenderObject, object_look}
use Rattle.render_tree.specs.Plain.{lazy_children, renders_of}
use Rattle.render_tree.specs.Redraw.{Redraw, redrawn}
use Rattle.render_tree.specs.Tree.{object_at}
use Rattle.render_sync.specs.Renders.{AllNumbers, EachNumber}
use Rattle.build_walk.specs.Merging.{lists_redraw, AreBare}
use Rattle.counted_phases.specs.Left.{IsUnclaimed, AreUnclaimed}
use Rattle.counted_phases.specs.Outer.{UnlessList, ListOr, AreOuter}
use Rattle.counted_work.proofs.Twins.{AreCarried}
use Rattle.counted_frames.proofs.Planned.{some_is, with_below, list_is}

-- ---- two trees that are the same without items

render_parts : (n m : ℕ) (l k : Look) (t u : ParentData) (s q c d : ℕ) (xs ys rs qs : Renders) → more_renders (render n l t s c xs) rs ≡ more_renders (render m k u q d ys) qs
    → (n ≡ m) × (l ≡ k) × (t ≡ u) × (c ≡ d) × (xs ≡ ys) × (rs ≡ qs)
render_parts n m l k t u s q c d xs ys rs qs e = (cc, cc, cc, cc, cc, cc)

none_more : {B : Type 0} (r : Render) (rs : Renders) → no_renders ≡ more_renders r rs → B
none_more r rs e = absurd (cc)

pub are_outer : (f : Forest RenderObject) (rs : Renders) → all_without_items (renders_of f) ≡ all_without_items rs → AreOuter f rs
are_outer none no_renders e = tt
are_outer none (more_renders r rs) e = none_more (without_items r) (all_without_items rs) e
are_outer (tree h o kids rest) no_renders e = none_more (without_items (render o.number (object_look o) o.parent_data o.scroll (lazy_children o) (renders_of kids))) (all_without_items (renders_of rest)) (sym e)
are_outer (tree h o kids rest) (more_renders (render number look told scroll count children) rs) e =
    let parts =
    render_parts o.number number (object_look o) look o.parent_data told o.scroll scroll (lazy_children o) count (if is_list (object_look o) then no_renders else all_without_items (renders_of kids))
    (if is_list look then no_renders else all_without_items children) (all_without_items (renders_of rest)) (all_without_items rs) e in (
      record { number = parts.0; look = parts.1; told = parts.2; count = parts.3 },
      by_list (is_list (object_look o)) (is_list look) (ap is_list parts.1) parts.4 (λ same. are_outer kids children same),
      are_outer rest rs parts.5,
    )
  where
    by_list : (a b : Bool) → a ≡ b → (if a then no_renders else all_without_items (renders_of kids)) ≡ (if b then no_renders else all_without_items children)
        → (all_without_items (renders_of kids) ≡ all_without_items children → AreOuter kids children) → UnlessList a (AreOuter kids children)
    by_list true b e same go = tt
    by_list false true e same go = absurd (false≢true e)
    by_list false false e same go = go same

-- one render node is one tree
pub one_tree : (f : Forest RenderObject) (top : Render) → AreOuter f (more_renders top no_renders) → (h : Handle) × (o : RenderObject) × (kids : Forest RenderObject) × (f ≡ tree h o kids none)
one_tree none top a = absurd a
one_tree (tree h o kids none) top a = (h, o, kids, refl)
one_tree (tree h o kids (tree k v under rest)) top a = absurd a.2

-- ---- numbers of outer nodes, and of items

abbrev pub IsOuterNumber : ℕ → Renders → Type 0
IsOuterNumber n no_renders = ⊥
IsOuterNumber n (more_renders (render number look told scroll count children) rs) = (n ≡ number) ⊎ (((is_list look ≡ false) × IsOuterNumber n children) ⊎ IsOuterNumber n rs)

abbrev pub IsItemNumber : ℕ → Renders → Type 0
IsItemNumber n no_renders = ⊥
IsItemNumber n (more_renders (render number look told scroll count children) rs) =
    ((is_list look ≡ true) × IsIn n (render_numbers_in children)) ⊎ (((is_list look ≡ false) × IsItemNumber n children) ⊎ IsItemNumber n rs)

outer_in : (n : ℕ) (rs : Renders) → IsOuterNumber n rs → IsIn n (render_numbers_in rs)
outer_in n no_renders is = absurd is
outer_in n (more_renders (render number look told scroll count children) rs) (inl e) = inl e
outer_in n (more_renders (render number look told scroll count children) rs) (inr (inl inner)) = inr (in_left n (render_numbers_in children) (render_numbers_in rs) (outer_in n children inner.1))
outer_in n (more_renders (render number look told scroll count children) rs) (inr (inr later)) = inr (in_right n (render_numbers_in children) (render_numbers_in rs) (outer_in n rs later))

item_in : (n : ℕ) (rs : Renders) → IsItemNumber n rs → IsIn n (render_numbers_in rs)
item_in n no_renders is = absurd is
item_in n (more_renders (render number look told scroll count children) rs) (inl here) = inr (in_left n (render_numbers_in children) (render_numbers_in rs) here.1)
item_in n (more_renders (render number look told scroll count children) rs) (inr (inl inner)) = inr (in_left n (render_numbers_in children) (render_numbers_in rs) (item_in n children inner.1))
item_in n (more_renders (render number look told scroll count children) rs) (inr (inr later)) = inr (in_right n (render_numbers_in children) (render_numbers_in rs) (item_in n rs later))

in_both : (n : ℕ) (xs ys : List ℕ) → AllDiffer (xs ++ ys) → IsIn n xs → IsIn n ys → ⊥
in_both n xs ys differ a b = differs_in n n xs (apart n xs ys differ b) a refl

-- where numbers differ, no item has the number of an outer node
pub no_both : (n : ℕ) (rs : Renders) → AllDiffer (render_numbers_in rs) → IsOuterNumber n rs → IsItemNumber n rs → ⊥
no_both n no_renders differ outer item = outer
no_both n (more_renders (render number look told scroll count children) rs) differ (inl e) item =
    differs_in n number (render_numbers_in children ++ render_numbers_in rs) differ.0 (below_in item) (sym e)
  where
    below_in : IsItemNumber n (more_renders (render number look told scroll count children) rs) → IsIn n (render_numbers_in children ++ render_numbers_in rs)
    below_in (inl here) = in_left n (render_numbers_in children) (render_numbers_in rs) here.1
    below_in (inr (inl inner)) = in_left n (render_numbers_in children) (render_numbers_in rs) (item_in n children inner.1)
    below_in (inr (inr later)) = in_right n (render_numbers_in children) (render_numbers_in rs) (item_in n rs later)
no_both n (more_renders (render number look told scroll count children) rs) differ (inr (inl outer)) (inl here) = true≢false (sym here.0 ∙ outer.0)
no_both n (more_renders (render number look told scroll count children) rs) differ (inr (inl outer)) (inr (inl inner)) =
    no_both n children (differ_left (render_numbers_in children) (render_numbers_in rs) differ.1) outer.1 inner.1
no_both n (more_renders (render number look told scroll count children) rs) differ (inr (inl outer)) (inr (inr later)) =
    in_both n (render_numbers_in children) (render_numbers_in rs) differ.1 (outer_in n children outer.1) (item_in n rs later)
no_both n (more_renders (render number look told scroll count children) rs) differ (inr (inr outer)) (inl here) =
    in_both n (render_numbers_in children) (render_numbers_in rs) differ.1 here.1 (outer_in n rs outer)
no_both n (more_renders (render number look told scroll count children) rs) differ (inr (inr outer)) (inr (inl inner)) =
    in_both n (render_numbers_in children) (render_numbers_in rs) differ.1 (item_in n children inner.1) (outer_in n rs outer)
no_both n (more_renders (render number look told scroll count children) rs) differ (inr (inr outer)) (inr (inr later)) =
    no_both n rs (differ_right (render_numbers_in children) (render_numbers_in rs) differ.1) outer later

-- what holds of each number of render nodes
mutual
  each_number : (P : ℕ → Type 0) (r : Render) → ((n : ℕ) → IsIn n (render_numbers_of r) → P n) → EachNumber P r
  each_number P (render number look told scroll count children) h = (h number (inl refl), all_numbers P children (λ n i. h n (inr i)))

  pub all_numbers : (P : ℕ → Type 0) (rs : Renders) → ((n : ℕ) → IsIn n (render_numbers_in rs) → P n) → AllNumbers P rs
  all_numbers P no_renders h = tt
  all_numbers P (more_renders r rs) h =
      (each_number P r (λ n i. h n (in_left n (render_numbers_of r) (render_numbers_in rs) i)), all_numbers P rs (λ n i. h n (in_right n (render_numbers_of r) (render_numbers_in rs) i)))

-- ---- what a plan names

abbrev pub HasOuter : Handle → Forest RenderObject → Type 0
HasOuter k none = ⊥
HasOuter k (tree h o kids rest) = (h ≡ k) ⊎ (((is_list (object_look o) ≡ false) × HasOuter k kids) ⊎ HasOuter k rest)

module _ (at : Handle → Option RenderObject) (items : Handle → Forest Redraw) where
  -- each node of a plan without items is an outer one of what it leaves
  in_outer : (k : Handle) (D : Forest Redraw) (g : Forest RenderObject) → AreBare lists_redraw D → IsUpdated redrawn at (with_below items D) g → In k D → HasOuter k g
  in_outer k none g bare u i = absurd (omega (arith, i))
  in_outer k (tree h x kids rest) none bare u i = absurd u
  in_outer k (tree h x kids rest) (tree j w under more) bare u i =
      by_here (cases_same h k) (λ v b. in_outer k kids under bare.1 v b) (λ b. in_outer k rest more bare.2 u.3 b)
    where
      Inner : Type 0
      Inner = IsUpdated redrawn at (with_below items kids) under → In k kids → HasOuter k under

      by_list : (t b : Bool) → lists_redraw x ≡ t → t ≡ b → IsUpdated redrawn at (cond t (items h) (with_below items kids)) under → Inner → In k kids → (b ≡ false) × HasOuter k under
      by_list true b list e v go b_kids = absurd (no_kids kids (bare.0 list) b_kids)
        where
          no_kids : (f : Forest Redraw) → f ≡ none → In k f → ⊥
          no_kids none e i = omega (arith, i)
          no_kids (tree a c f g) e i = cc
      by_list false true list e v go b_kids = absurd (false≢true e)
      by_list false false list e v go b_kids = (refl, go v b_kids)

      by_count : (n : ℕ) → count k kids ≡ n → cond {A = ℕ} (same h k) 1 0 ≡ 0 → Inner → (In k rest → HasOuter k more) → ((is_list (object_look w) ≡ false) × HasOuter k under) ⊎ HasOuter k more
      by_count zero e off go later = inr (later (omega (arith, i, e, off)))
      by_count (suc n) e off go later = inl (by_list (lists_redraw x) (is_list (object_look w)) refl (list_is at x w (at h) u.1) u.2 go (omega (arith, e)))

      by_here : (h ≡ k) ⊎ (h ≢ k) → Inner → (In k rest → HasOuter k more) → HasOuter k (tree j w under more)
      by_here (inl here) go later = inl (sym u.0 ∙ here)
      by_here (inr ne) go later = inr (by_count (count k kids) refl (ap (λ b. cond {A = ℕ} b 1 0) (same-ne h k ne)) go later)

  pub named_outer : (k : Handle) (D : Forest Redraw) (g : Forest RenderObject) → AreBare lists_redraw D → IsUpdated redrawn at (with_below items D) g → is_named (entries None D) k ≡ true → HasOuter k g
  named_outer k D g bare u is =
      let among = has-true k (planned (entries None D)) is in
      let counted = times-entries k None D in
      in_outer k D g bare u (omega (arith, among, counted))

-- an outer node has the number of an outer render node
pub outer_number : (at : Handle → Option RenderObject) (k : Handle) (o : RenderObject) (g : Forest RenderObject) (rs : Renders) → AreCarried at g → AreOuter g rs → at k ≡ Some o → HasOuter k g → IsOuterNumber o.number rs
outer_number at k o none rs carried outer stored is = absurd is
outer_number at k o (tree h w under rest) no_renders carried outer stored is = absurd outer
outer_number at k o (tree h w under rest) (more_renders (render number look told scroll count children) rs) carried outer stored (inl here) =
    let same_object : carried.0.stored ≡ o = some_is carried.0.stored o (sym carried.0.is ∙ (ap at here ∙ stored)) in
    inl (ap (λ (v : RenderObject). v.number) (sym same_object) ∙ (sym carried.0.number ∙ outer.0.number))
outer_number at k o (tree h w under rest) (more_renders (render number look told scroll count children) rs) carried outer stored (inr (inl inner)) =
    let no_list : is_list look ≡ false = ap is_list (sym outer.0.look) ∙ inner.0 in
    inr (inl (no_list, outer_number at k o under children carried.1 (subst (λ (b : Bool). UnlessList b (AreOuter under children)) inner.0 outer.1) stored inner.1))
outer_number at k o (tree h w under rest) (more_renders (render number look told scroll count children) rs) carried outer stored (inr (inr later)) =
    inr (inr (outer_number at k o rest rs carried.2 outer.2 stored later))

-- ---- no item of a list is claimed

module _ (old made : Tree RenderObject) (claimed : Handle → Bool) where
  -- so it is of all outer lists
  abbrev pub ListsFree : Renders → Type 0
  ListsFree no_renders = Unit {0}
  ListsFree (more_renders (render number look told scroll count children) rs) = ListOr (is_list look) (AreUnclaimed old claimed children) (ListsFree children) × ListsFree rs

  module _ (whole : Renders) (differ : AllDiffer (render_numbers_in whole)) (claims : (k : Handle) (o : RenderObject) → object_at old k ≡ Some o → claimed k ≡ true → IsOuterNumber o.number whole) where
    one_free : (n : ℕ) → IsItemNumber n whole → IsUnclaimed old claimed n
    one_free n item k o stored number = by (claimed k) refl
      where
        by : (b : Bool) → claimed k ≡ b → b ≡ false
        by true e = absurd (no_both n whole differ (subst (λ m. IsOuterNumber m whole) number (claims k o stored e)) item)
        by false e = refl

    pub lists_free : (rs : Renders) → ((n : ℕ) → IsItemNumber n rs → IsItemNumber n whole) → ListsFree rs
    lists_free no_renders inside = tt
    lists_free (more_renders (render number look told scroll count children) rs) inside =
        (by_list (is_list look) refl (λ further. lists_free children further), lists_free rs (λ n i. inside n (inr (inr i))))
      where
        by_list : (b : Bool) → is_list look ≡ b → (((n : ℕ) → IsItemNumber n children → IsItemNumber n whole) → ListsFree children) → ListOr b (AreUnclaimed old claimed children) (ListsFree children)
        by_list true e go = all_numbers (IsUnclaimed old claimed) children (λ n i. one_free n (inside n (inl (e, i))))
        by_list false e go = go (λ n i. inside n (inr (inl (e, i))))
