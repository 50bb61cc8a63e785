-- The trees before an outer flush, after it and at the end of the frame: what was left in between.
use Rattle.std.proofs.Common.{◌≡◌, ap, refl, sym, subst, ◌∙◌, inl, inr, ℕ, ◌+◌, ◌≤◌, Bool, true, false, not, ◌&&◌, ◌||◌, cond, Option, Some, None, option_map, List, [], ◌∷◌, ◌++◌, arith}
use Rattle.std.proofs.lemmas.Bool.{cases_Bool, false≢true, true≢false}
use Rattle.fx_geom.specs.Bounds.{tight}
use Rattle.fx_geom.specs.Offset.{origin}
use Rattle.fx_geom.specs.declared.boxes.Bounds.{Bounds}
use Rattle.fx_geom.specs.declared.shapes.Offset.{Offset}
use Rattle.fx_geom.specs.declared.shapes.Size.{Size}
use Rattle.fx_handles.specs.declared.Handle.{Handle}
use Rattle.fx_handles.specs.Handle.{same}
use Rattle.fx_handles.specs.HandleLaws.{same_self}
use Rattle.node_tree.specs.Forest.{TreeNode, Forest, count, Stands}
use Rattle.node_tree.specs.Forest.Forest.{none, tree}
use Rattle.node_tree.specs.Tree.{Tree, node_at}
use Rattle.widget_model.specs.Look.{Look, sliver_lazy}
use Rattle.plain_tree.specs.Laws.{DiffersFrom, AllDiffer, render_numbers_in}
use Rattle.plain_tree.specs.declared.laid.Frame.{Frame}
use Rattle.plain_tree.specs.declared.render.ParentData.{ParentData}
use Rattle.layout_form.specs.declared.asks.Ask.{Ask}
use Rattle.layout_form.specs.declared.asks.Ask.TheVariants.{AsBox}
use Rattle.layout_form.specs.Layout.{delegate_of, is_plugged}
use Rattle.layout_form.specs.Object.{Setting}
use Rattle.layout_owner.specs.Calm.{IsLaidCalm}
use Rattle.layout_owner.specs.Roots.{view_asks, IsPlaced}
use Rattle.layout_rules.specs.Nodes.{layout_node, layout_nodes}
use Rattle.layout_rules.specs.Reads.{state_at, state_or}
use Rattle.layout_walk.specs.Full.{asks_at, made_at, past}
use Rattle.layout_walk.specs.Here.{StandAs, IsGiven, HereAll, AreQuiet, outer_back}
use Rattle.layout_walk.specs.Node.{NodeMember, asked, member, members, tellings, stored}
use Rattle.layout_walk.specs.Rule.{Lawful, asks_by}
use Rattle.layout_walk.specs.Rules.{parts_of, is_list}
use Rattle.layout_walk.specs.Walk.{SameMembers, AreCorrected}
use Rattle.layout_walk.proofs.Fresh.{fresh}
use Rattle.render_tree.specs.Object.{RenderObject, object_look}
use Rattle.render_tree.specs.Plain.{renders_of}
use Rattle.render_tree.specs.Tree.{object_at}
use Rattle.counted_phases.specs.Outer.{UnlessList, ListOr}
use Rattle.counted_phases.specs.Paints.{IsEither}
use Rattle.counted_phases.proofs.SeenBetween.{has_outer}
use Rattle.counted_phases.proofs.SeenEnds.{SameOuter, NoneShown, NoTop, TopsApart, ArePlugged, BoxesEmpty}
use Rattle.counted_phases.proofs.SeenLeft.{AreSeenLeft, box_list_asks, seen_left}
use Rattle.counted_phases.proofs.SeenStill.{NoneOuter, ItemsFree}

-- ---- the same outer nodes

no_list_of : {A : Type 0} (b : Bool) → A → UnlessList b A
no_list_of true a = tt
no_list_of false a = a

pub members_outer : (f g : Forest RenderObject) → SameMembers (layout_nodes f) (layout_nodes g) → SameOuter f g
members_outer none none m = tt
members_outer none (tree k w below rest) m = absurd m
members_outer (tree h v kids more) none m = absurd m
members_outer (tree h v kids more) (tree k w below rest) m = (
  m.0,
  ap (λ (x : NodeMember). x.look) m.1,
  ap (λ (x : NodeMember). x.number) m.1,
  no_list_of (is_list (object_look v)) (members_outer kids below m.2),
  members_outer more rest m.3,
)

pub outer_back_again : (f g : Forest RenderObject) → SameOuter f g → SameOuter g f
outer_back_again none none s = tt
outer_back_again none (tree k w below rest) s = absurd s
outer_back_again (tree h v kids more) none s = absurd s
outer_back_again (tree h v kids more) (tree k w below rest) s =
    (sym s.0, sym s.1, sym s.2, by_list (is_list (object_look v)) (is_list (object_look w)) (ap is_list s.1) s.3 (λ x. outer_back_again kids below x), outer_back_again more rest s.4)
  where
    by_list : (a b : Bool) → a ≡ b → UnlessList a (SameOuter kids below) → (SameOuter kids below → SameOuter below kids) → UnlessList b (SameOuter below kids)
    by_list true true e x go = tt
    by_list true false e x go = absurd (true≢false e)
    by_list false true e x go = tt
    by_list false false e x go = go x

pub outer_trans : (f g l : Forest RenderObject) → SameOuter f g → SameOuter g l → SameOuter f l
outer_trans none none none s t = tt
outer_trans none none (tree j x under others) s t = absurd t
outer_trans none (tree k w below rest) l s t = absurd s
outer_trans (tree h v kids more) none l s t = absurd s
outer_trans (tree h v kids more) (tree k w below rest) none s t = absurd t
outer_trans (tree h v kids more) (tree k w below rest) (tree j x under others) s t =
    (s.0 ∙ t.0, s.1 ∙ t.1, s.2 ∙ t.2, by_list (is_list (object_look v)) (is_list (object_look w)) (ap is_list s.1) s.3 t.3 (λ a c. outer_trans kids below under a c), outer_trans more rest others s.4 t.4)
  where
    by_list : (a b : Bool) → a ≡ b → UnlessList a (SameOuter kids below) → UnlessList b (SameOuter below under) → (SameOuter kids below → SameOuter below under → SameOuter kids under) → UnlessList a (SameOuter kids under)
    by_list true b e x y go = tt
    by_list false true e x y go = absurd (false≢true e)
    by_list false false e x y go = go x y

-- ---- numbers that differ

differs_left : (n : ℕ) (xs ys : List ℕ) → DiffersFrom n (xs ++ ys) → DiffersFrom n xs
differs_left n [] ys d = tt
differs_left n (x ∷ xs) ys d = (d.0, differs_left n xs ys d.1)

differs_right : (n : ℕ) (xs ys : List ℕ) → DiffersFrom n (xs ++ ys) → DiffersFrom n ys
differs_right n [] ys d = d
differs_right n (x ∷ xs) ys d = differs_right n xs ys d.1

differ_left : (xs ys : List ℕ) → AllDiffer (xs ++ ys) → AllDiffer xs
differ_left [] ys d = tt
differ_left (x ∷ xs) ys d = (differs_left x xs ys d.0, differ_left xs ys d.1)

differ_right : (xs ys : List ℕ) → AllDiffer (xs ++ ys) → AllDiffer ys
differ_right [] ys d = d
differ_right (x ∷ xs) ys d = differ_right xs ys d.1

abbrev numbers : Forest RenderObject → List ℕ
numbers f = render_numbers_in (renders_of f)

no_top_of : (n : ℕ) (l : Forest RenderObject) → DiffersFrom n (numbers l) → NoTop n l
no_top_of n none d = tt
no_top_of n (tree j x under rest) d = (d.0, no_top_of n rest (differs_right n (numbers under) (numbers rest) d.1))

pub tops_apart : (l : Forest RenderObject) → AllDiffer (numbers l) → TopsApart l
tops_apart none d = tt
tops_apart (tree j x under rest) d =
    (no_top_of x.number rest (differs_right x.number (numbers under) (numbers rest) d.0), tops_apart under (differ_left (numbers under) (numbers rest) d.1), tops_apart rest (differ_right (numbers under) (numbers rest) d.1))

-- ---- items aren't outer nodes

abbrev pub outer_times : Handle → Forest RenderObject → ℕ
outer_times k none = 0
outer_times k (tree h o kids rest) = cond {A = ℕ} (same h k) 1 0 + cond {A = ℕ} (is_list (object_look o)) 0 (outer_times k kids) + outer_times k rest

abbrev pub item_times : Handle → Forest RenderObject → ℕ
item_times k none = 0
item_times k (tree h o kids rest) = cond {A = ℕ} (is_list (object_look o)) (count k kids) (item_times k kids) + item_times k rest

pub times_sum : (k : Handle) (f : Forest RenderObject) → count k f ≡ outer_times k f + item_times k f
times_sum k none = omega arith
times_sum k (tree h o kids rest) = by_list (is_list (object_look o)) (times_sum k kids) (times_sum k rest)
  where
    by_list : (b : Bool) → count k kids ≡ outer_times k kids + item_times k kids → count k rest ≡ outer_times k rest + item_times k rest
        → count k (tree h o kids rest) ≡ (cond {A = ℕ} (same h k) 1 0 + cond {A = ℕ} b 0 (outer_times k kids) + outer_times k rest) + (cond {A = ℕ} b (count k kids) (item_times k kids) + item_times k rest)
    by_list true a c = omega (arith, a, c)
    by_list false a c = omega (arith, a, c)

outer_once : (k : Handle) (f : Forest RenderObject) → has_outer k f ≡ true → 1 ≤ outer_times k f
outer_once k none o = absurd (false≢true o)
outer_once k (tree h v kids rest) o = by_parts (same h k) (is_list (object_look v)) (has_outer k kids) (has_outer k rest) o (λ e. outer_once k kids e) (λ e. outer_once k rest e)
  where
    by_parts : (here list inner later : Bool) → (here || ((not list && inner) || later)) ≡ true → (inner ≡ true → 1 ≤ outer_times k kids) → (later ≡ true → 1 ≤ outer_times k rest)
        → 1 ≤ cond {A = ℕ} here 1 0 + cond {A = ℕ} list 0 (outer_times k kids) + outer_times k rest
    by_parts true list inner later e a c = omega arith
    by_parts false true inner later e a c = let x = c e in omega (arith, x)
    by_parts false false true later e a c = let x = a refl in omega (arith, x)
    by_parts false false false later e a c = let x = c e in omega (arith, x)

module _ (f l : Forest RenderObject) (once : (k : Handle) → outer_times k l + item_times k l ≤ 1) (outer_fl : (k : Handle) → has_outer k f ≡ has_outer k l) where
  not_both : (k : Handle) → 1 ≤ item_times k l → has_outer k f ≡ false
  not_both k item = elim (cases_Bool (has_outer k f)) [
    | inl o ↦ absurd (let outer = outer_once k l (sym (outer_fl k) ∙ o) in let both = once k in omega (arith, outer, item, both))
    | inr o ↦ o
  ]

  here_counts : (k : Handle) (w : RenderObject) (under rest : Forest RenderObject) → 1 ≤ count k (tree k w under rest)
  here_counts k w under rest = let one : cond {A = ℕ} (same k k) 1 0 ≡ 1 = ap (λ b. cond {A = ℕ} b 1 0) (same_self k) in omega (arith, one)

  none_outer : (u : Forest RenderObject) → ((k : Handle) → count k u ≤ item_times k l) → NoneOuter f u
  none_outer none inside = tt
  none_outer (tree k w under rest) inside = (
    not_both k (let here = here_counts k w under rest in let all = inside k in omega (arith, here, all)),
    none_outer under (λ j. let all = inside j in omega (arith, all)),
    none_outer rest (λ j. let all = inside j in omega (arith, all)),
  )

  pub items_free : (u : Forest RenderObject) → ((k : Handle) → item_times k u ≤ item_times k l) → ItemsFree f u
  items_free none inside = tt
  items_free (tree k w under rest) inside = (by_list (is_list (object_look w)) inside (λ further. items_free under further), items_free rest (λ j. let all = inside j in omega (arith, all)))
    where
      by_list : (b : Bool) → ((j : Handle) → cond {A = ℕ} b (count j under) (item_times j under) + item_times j rest ≤ item_times j l) → (((j : Handle) → item_times j under ≤ item_times j l) → ItemsFree f under) → ListOr b (NoneOuter f under) (ItemsFree f under)
      by_list true all go = none_outer under (λ j. let x = all j in omega (arith, x))
      by_list false all go = go (λ j. let x = all j in omega (arith, x))

-- ---- lists that are laid out as boxes

module _ (s : Setting) where
  none_asked : (places : List Offset) (l : Forest RenderObject) → StandAs [] places (layout_nodes l) → NoneShown l
  none_asked places none stands = tt
  none_asked places (tree j x under rest) stands = (stands.0, none_asked (past None places) rest stands.1)

  one_ask : {A : Type 0} (a b : A) → Some a ≡ Some b → a ≡ b
  one_ask a b e = cc

  box_empty : (law : Lawful (parts_of s)) (look : Look) (m : NodeMember) (b : Bounds) (scroll liked : ℕ) (ds : List ParentData) (gs : List (Ask → Frame)) (places : List Offset) (under : Forest RenderObject) → is_list look ≡ true
      → StandAs (asks_by (parts_of s) (record m { look = look }) scroll (AsBox b) liked ds gs) places (layout_nodes under) → NoneShown under
  box_empty law (sliver_lazy extent) m b scroll liked ds gs places under list stands =
      none_asked places under (subst (λ (xs : List (Option Ask)). StandAs xs places (layout_nodes under)) (box_list_asks s law m extent scroll liked b ds gs) stands)
  box_empty law look m b scroll liked ds gs places under list stands = absurd (false≢true list)

  pub boxes_empty : (law : Lawful (parts_of s)) (l : Forest RenderObject) → HereAll (parts_of s) (layout_nodes l) → IsLaidCalm l → BoxesEmpty s.delegates l
  boxes_empty law none here calm = tt
  boxes_empty law (tree j x under rest) here calm = (
    (λ shown. (
      (λ list b is.
          let given : IsGiven (parts_of s) (layout_node x) (layout_nodes under) (stored (layout_nodes under)) = here.0.consistent (calm.0 shown).0 in
          let ask : given.ask ≡ AsBox b = one_ask given.ask (AsBox b) (sym given.asked ∙ is) in
          box_empty law (object_look x) (member (layout_node x)) b x.scroll (liked_of x under (AsBox b)) (tellings (layout_nodes under)) (stored (layout_nodes under))
          (made_at (parts_of s) (layout_node x) (AsBox b) (layout_nodes under) (stored (layout_nodes under))).places under list
          (subst (λ (a : Ask). StandAs (asks_at (parts_of s) (layout_node x) a (layout_nodes under) (stored (layout_nodes under))) (made_at (parts_of s) (layout_node x) a (layout_nodes under) (stored (layout_nodes under))).places (layout_nodes under)) ask
          given.gives.placed)),
      boxes_empty law under here.1 (calm.0 shown).1,
    )),
    boxes_empty law rest here.2 calm.1,
  )
    where
      liked_of : RenderObject → Forest RenderObject → Ask → ℕ
      liked_of o inner ask = (parts_of s).liked (object_look o) ask (members (layout_nodes inner))

  -- ---- delegates

  pub are_plugged : (mid flushed : Tree RenderObject) → ((k : Handle) (w : RenderObject) → object_at flushed k ≡ Some w → IsEither w.plugged (state_at mid k).plugged (is_plugged s.delegates (delegate_of (object_look w))))
      → (q r : Option Handle) (f g : Forest RenderObject) → Stands (node_at mid) q f → Stands (node_at flushed) r g → SameMembers (layout_nodes f) (layout_nodes g) → ArePlugged s.delegates f g
  are_plugged mid flushed keeps q r none none sf sg m = tt
  are_plugged mid flushed keeps q r none (tree k w below rest) sf sg m = absurd m
  are_plugged mid flushed keeps q r (tree h v kids more) none sf sg m = absurd m
  are_plugged mid flushed keeps q r (tree h v kids more) (tree k w below rest) sf sg m = (
    own (keeps k w (ap (option_map (λ (n : TreeNode RenderObject). n.value)) sg.0)),
    are_plugged mid flushed keeps (Some h) (Some k) kids below sf.1 sg.1 m.2,
    are_plugged mid flushed keeps q r more rest sf.2 sg.2 m.3,
  )
    where
      at_v : (state_at mid k).plugged ≡ v.plugged
      at_v = ap (λ y. (state_or y).plugged) (ap (object_at mid) (sym m.0) ∙ ap (option_map (λ (n : TreeNode RenderObject). n.value)) sf.0)

      own : IsEither w.plugged (state_at mid k).plugged (is_plugged s.delegates (delegate_of (object_look w))) → IsEither w.plugged v.plugged (is_plugged s.delegates (delegate_of (object_look w)))
      own (inl e) = inl (e ∙ at_v)
      own (inr e) = inr e

  -- ---- the root

  -- there is one tree
  abbrev pub IsSingle : Forest RenderObject → Type 0
  IsSingle none = ⊥
  IsSingle (tree h o kids none) = Unit {0}
  IsSingle (tree h o kids (tree k w below rest)) = ⊥

  -- the root was asked to be as large as a view
  abbrev pub IsAskedIn : Size → Forest RenderObject → Type 0
  IsAskedIn view none = Unit {0}
  IsAskedIn view (tree k w below rest) = asked (layout_node w) ≡ Some (AsBox (tight view))

  pub root_left : (law : Lawful (parts_of s)) (view : Size) (f g : Forest RenderObject) → IsSingle f → HereAll (parts_of s) (layout_nodes g) → AreQuiet (parts_of s) (outer_back (parts_of s)) (layout_nodes g) → IsPlaced g → IsAskedIn view g
      → AreCorrected (parts_of s) (outer_back (parts_of s)) (view_asks view) (layout_nodes f) (layout_nodes g) → AreSeenLeft (layout_nodes f) (layout_nodes g)
  root_left law view none g single here quiet placed asked_so stays = absurd single
  root_left law view (tree h v kids (tree i u inner others)) g single here quiet placed asked_so stays = absurd single
  root_left law view (tree h v kids none) none single here quiet placed asked_so stays = absurd placed
  root_left law view (tree h v kids none) (tree k w below (tree j x under others)) single here quiet placed asked_so stays = absurd stays.3
  root_left law view (tree h v kids none) (tree k w below none) single here quiet placed asked_so stays =
      seen_left s law (view_asks view) (origin ∷ []) (layout_nodes (tree h v kids none)) (layout_nodes (tree k w below none)) here (fresh (parts_of s) law (layout_nodes (tree k w below none)) here) quiet
      (record { shown = placed.0; asked = asked_so; offset = placed.1 }, tt) stays
