-- A widget is inflated once its element and its render node were mounted, and what is below it was inflated.
use Rattle.std.proofs.Common.{◌≡◌, ℕ, suc, ◌+◌, true, false, cond, List, [], ◌∷◌, ◌++◌, length, map, Option, Some, None, option_map, refl, sym, ap, ◌∙◌, subst, inl, inr, arith}
use Rattle.fx_expr.specs.declared.values.Value.{Value}
use Rattle.fx_handles.specs.declared.Handle.{Handle}
use Rattle.node_tree.specs.Forest.{Forest, append, count}
use Rattle.node_tree.specs.Forest.Forest.{none, tree}
use Rattle.node_tree.specs.Tree.{Tree, Is, node_at, value_at}
use Rattle.node_tree.proofs.ForestLemmas.{is_zero, node_in}
use Rattle.widget_model.specs.Plain.{PlainWidget, look_of}
use Rattle.plain_tree.specs.declared.render.ParentData.{ParentData}
use Rattle.plain_tree.specs.declared.role.RenderRole.{RenderRole}
use Rattle.plain_tree.specs.declared.role.RenderRole.TheVariants.{Composes, Shares, Places, Line, Pile, Lazy, Window, Plain}
use Rattle.plain_tree.specs.PlainNode.{PlainNode, node, widget_of, nodes_of as listed}
use Rattle.plain_tree.specs.Projection.{told_by, told_at, scroll_in}
use Rattle.plain_tree.specs.RenderRole.{vanishes}
use Rattle.build_form.specs.BuildRole.{BuildRole, composes, provides, keeps, lists, holds, build_role_of}
use Rattle.build_form.specs.Entering.{Blueprint, first, waits, put_off, values_below, scroll_for, entered_below}
use Rattle.build_form.specs.FullBuild.{basis}
use Rattle.build_form.specs.Partner.{Arrival, arrival, arrivals}
use Rattle.build_form.specs.Step.{Progress, Step, gives, and_then, each}
use Rattle.element_tree.specs.Element.{Element, element_at}
use Rattle.element_tree.specs.Nodes.{nodes_of}
use Rattle.render_tree.specs.Object.{RenderObject}
use Rattle.render_tree.specs.Tree.{object_at}
use Rattle.build_walk.specs.Entered.{StoresGiven}
use Rattle.build_walk.specs.Keeping.{reenter}
use Rattle.build_walk.specs.Kept.{node_over}
use Rattle.build_walk.specs.Past.{Pasts}
use Rattle.build_walk.specs.Renewing.{GoesOn, AllGoOn, role_of, IsDrawn, Unless, AreDrawn}
use Rattle.build_walk.specs.Telling.{StoresBelow, StoreOutputs}
use Rattle.build_walk.specs.Walked.{WalkPlace, through, under}
use Rattle.build_walk.proofs.Opening.{all_entered, widgets_entered}
use Rattle.build_walk.proofs.Serving.{chained, along}
use Rattle.build_walk.proofs.Siblings.{nodes_append}
use Rattle.first_builds.specs.Inflated.{IsMounted, IsInflated, AreInflated}
use Rattle.first_builds.specs.Mounted.{drawn_object, mounted_at, mounted, first_arrivals, StayStored, StayDrawn}
use Rattle.node_tree.specs.Mounting.{put_under, put_last}
use Rattle.first_builds.proofs.Placing.{arrivals_none, mounted_append, all_go_later, all_drawn_later}
use Rattle.node_tree.proofs.Children.{append-none}
use Rattle.node_tree.proofs.MountLemmas.{put_none, put_more, put_in_last}

-- ---- steps one after another

last : {A B : Type 0} (go : A → Progress → Step B) (xs : List A) (x : A) (s : Progress)
    → each go (xs ++ x ∷ []) s ≡ and_then (each go xs s) (λ ys t. and_then (go x t) (λ y u. gives (ys ++ y ∷ []) u))
last go [] x s = refl
last go (z ∷ xs) x s =
    along (go z s) _ _ (λ y s1.
    ap (λ r. and_then r (λ ys s2. gives (y ∷ ys) s2)) (last go xs x s1)
    ∙ chained (each go xs s1) (λ ys t. and_then (go x t) (λ w u. gives (ys ++ w ∷ []) u)) (λ ys s2. gives (y ∷ ys) s2)
    ∙ along (each go xs s1) _ _ (λ ys t. chained (go x t) (λ w u. gives (ys ++ w ∷ []) u) (λ zs s2. gives (y ∷ zs) s2))
    ∙ sym (chained (each go xs s1) (λ ys s2. gives (y ∷ ys) s2) (λ ys t. and_then (go x t) (λ w u. gives (ys ++ w ∷ []) u))))
    ∙ sym (chained (go z s) (λ y s1. and_then (each go xs s1) (λ ys s2. gives (y ∷ ys) s2)) (λ ys t. and_then (go x t) (λ w u. gives (ys ++ w ∷ []) u)))

one_more : {A B : Type 0} (go : A → Progress → Step B) (xs : List A) (x : A) (s t u : Progress) (ys : List B) (y : B) → each go xs s ≡ gives ys t → go x t ≡ gives y u → each go (xs ++ x ∷ []) s ≡ gives (ys ++ y ∷ []) u
one_more go xs x s t u ys y e f =
    last go xs x s ∙ ap (λ r. and_then r (λ zs v. and_then (go x v) (λ w q. gives (zs ++ w ∷ []) q))) e ∙ ap (λ r. and_then r (λ w q. gives (ys ++ w ∷ []) q)) f

first_more : (place : ℕ) (ws : List PlainWidget) (w : PlainWidget) → first_arrivals place (ws ++ w ∷ []) ≡ first_arrivals place ws ++ arrival w (place + length ws) None ∷ []
first_more place [] w = let e : place ≡ place + 0 = omega arith in ap (λ n. arrival w n None ∷ []) e
first_more place (v ∷ ws) w =
    let e : suc place + length ws ≡ place + suc (length ws) = omega arith in
    ap (λ l. arrival v place None ∷ l) (first_more (suc place) ws w ∙ ap (λ n. first_arrivals (suc place) ws ++ arrival w n None ∷ []) e)

first_widgets : (place : ℕ) (ws : List PlainWidget) → map (λ (a : Arrival). a.widget) (first_arrivals place ws) ≡ ws
first_widgets place [] = refl
first_widgets place (w ∷ ws) = ap (λ l. w ∷ l) (first_widgets (suc place) ws)

-- ---- forests one after another

go_append : (at : Handle → Option Element) (f g : Forest Element) → AllGoOn at f → AllGoOn at g → AllGoOn at (append f g)
go_append at none g a b = b
go_append at (tree h e kids rest) g a b = (a.0, a.1, go_append at rest g a.2 b)

draw_append : (at : Handle → Option RenderObject) (scrolled : ℕ → ℕ) (f g : Forest Element) → AreDrawn at scrolled f → AreDrawn at scrolled g → AreDrawn at scrolled (append f g)
draw_append at scrolled none g a b = b
draw_append at scrolled (tree h e kids rest) g a b = (a.0, a.1, draw_append at scrolled rest g a.2 b)

store_append : (scrolled : ℕ → ℕ) (f g : Forest Element) → StoreOutputs scrolled f → StoreOutputs scrolled g → StoreOutputs scrolled (append f g)
store_append scrolled none g a b = b
store_append scrolled (tree h e kids rest) g a b = (a.0, a.1, store_append scrolled rest g a.2 b)

-- ---- where a node is mounted

none_there : {A : Type 0} {x : A} → None ≡ Some x → ⊥
none_there e = cc

absent_count : {T : Type 0} (t : Tree T) (f : Forest T) (h : Handle) → Is t f → value_at t h ≡ None → count h f ≡ 0
absent_count t f h is absent = elim (is_zero (count h f)) [
  | inl missing ↦ missing
  | inr there ↦
      let found = node_in (node_at t) None f h is.stands there in
      absurd (none_there (sym absent ∙ ap (option_map (λ n. n.value)) found.1))
]

pub put_nothing : {T : Type 0} (q : Option Handle) (f : Forest T) → put_last q none f ≡ f
put_nothing None f = refl
put_nothing (Some p) f = put_none p f

zero_in : (r : RenderRole) → scroll_in r 0 ≡ 0
zero_in Composes = refl
zero_in (Shares flex tight) = refl
zero_in (Places placed) = refl
zero_in Line = refl
zero_in Pile = refl
zero_in Lazy = refl
zero_in Window = refl
zero_in Plain = refl

module _ (above : RenderRole) (told : Option ParentData) (h : Handle) (e : Element) (kids : Forest Element) where
  abbrev here : ParentData
  here = told_at above told e.index

  abbrev under_it : Forest RenderObject
  under_it = mounted (role_of e) None kids

  pub mounted_drawn : (k : Handle) → vanishes (role_of e) ≡ false → e.render ≡ Some k → mounted above told (tree h e kids none) ≡ tree k (drawn_object e here) under_it none
  mounted_drawn k seen named =
      ap (λ c. append (cond c (mounted above (Some (told_by above (role_of e) here)) kids) (mounted_at e.render (drawn_object e here) under_it)) none) seen
      ∙ ap (λ o. append (mounted_at o (drawn_object e here) under_it) none) named

  pub mounted_through : vanishes (role_of e) ≡ true → mounted above told (tree h e kids none) ≡ mounted above (Some (told_by above (role_of e) here)) kids
  mounted_through unseen =
      ap (λ c. append (cond c (mounted above (Some (told_by above (role_of e) here)) kids) (mounted_at e.render (drawn_object e here) under_it)) none) unseen
      ∙ append-none (mounted above (Some (told_by above (role_of e) here)) kids)

stores_so : (r : BuildRole) (e : Element) (given : List PlainWidget) (ns : List PlainNode) → map widget_of ns ≡ given → StoresGiven r e given → StoresBelow r e ns
stores_so (composes place props) e given ns widgets stores = λ clean. stores clean ∙ sym widgets
stores_so (provides name value) e given ns widgets stores = tt
stores_so (keeps kept) e given ns widgets stores = tt
stores_so (lists extent) e given ns widgets stores = tt
stores_so holds e given ns widgets stores = tt

-- ---- children one after another, below an element with a render node

module _ (b : Blueprint) (pasts : Pasts) (left : ℕ) (values : List Value) (scrolled : ℕ → ℕ) (h k : Handle) (e : Element) where
  pub none_inflated : (s : Progress) (t : Tree Element) (r : Tree RenderObject) → AreInflated b pasts left values scrolled (under h k e) [] 0 s s t t r r
  none_inflated s t r = record {
    kids = none;
    is = refl;
    go_on = tt;
    drawn = tt;
    stored = tt;
    elements = λ f is. subst (Is t) (sym (put_none h f)) is;
    renders = λ d is. subst (Is r) (sym (put_none k d)) is;
  }

  pub more_inflated : (ws : List PlainWidget) (w : PlainWidget) (s mid u : Progress) (t0 t1 t2 : Tree Element) (r0 r1 r2 : Tree RenderObject) (c : Handle) → StayStored t1 t2 → StayDrawn r1 r2
      → AreInflated b pasts left values scrolled (under h k e) ws 0 s mid t0 t1 r0 r1 → IsInflated b pasts left values scrolled (under h k e) w (length ws) mid u t1 t2 r1 r2 c
      → AreInflated b pasts left values scrolled (under h k e) (ws ++ w ∷ []) 0 s u t0 t2 r0 r2
  more_inflated ws w s mid u t0 t1 t2 r0 r1 r2 c stay stays a i =
      let one = tree c i.value i.kids none in
      let go = reenter (basis b None) pasts first left values in
      let at : 0 + length ws ≡ length ws = omega arith in
      record {
        kids = append a.kids one;
        is = ap (λ l. each go l s) (first_more 0 ws w)
            ∙ one_more go (first_arrivals 0 ws) (arrival w (0 + length ws) None) s mid u (nodes_of scrolled a.kids) (node_over scrolled i.value i.kids) a.is
            (ap (λ n. go (arrival w n None) mid) at ∙ i.is)
            ∙ ap (λ ns. gives ns u) (sym (nodes_append scrolled a.kids one));
        go_on = go_append (element_at t2) a.kids one (all_go_later t1 t2 a.kids stay a.go_on) i.go_on;
        drawn = draw_append (object_at r2) scrolled a.kids one (all_drawn_later r1 r2 scrolled a.kids stays a.drawn) i.drawn;
        stored = store_append scrolled a.kids one a.stored i.stored;
        elements = λ f is. subst (Is t2) (put_more h a.kids one f) (i.elements (put_under h a.kids f) (a.elements f is));
        renders = λ d is.
            subst (Is r2) (put_more k (mounted (role_of e) None a.kids) (mounted (role_of e) None one) d ∙ ap (λ g. put_under k g d) (sym (mounted_append (role_of e) None a.kids one)))
            (i.renders (put_under k (mounted (role_of e) None a.kids) d) (a.renders d is));
      }

-- ---- a widget

module _ (b : Blueprint) (pasts : Pasts) (left : ℕ) (values : List Value) (scrolled : ℕ → ℕ) (at : WalkPlace) (w : PlainWidget) (place : ℕ) (before mid after : Progress) (t0 t1 t2 : Tree Element) (r0 r1 r2 : Tree RenderObject)
    (h : Handle) (output : Option PlainWidget) (o : Option Handle) (m : IsMounted b pasts values scrolled at w place before mid t0 t1 r0 r1 h output o) (alone : waits first (build_role_of (look_of w)) ≡ false) where
  abbrev go : Arrival → Progress → Step PlainNode
  go = reenter (basis b None) pasts first left (values_below w values)

  abbrev given : List PlainWidget
  given = m.opening.given

  below_so : (ns : List PlainNode) → each go (first_arrivals 0 given) mid ≡ gives ns after → entered_below (reenter (basis b None) pasts first left) first values w m.opening mid ≡ gives ns after
  below_so ns is =
      ap (λ c. cond c (put_off m.opening.partner mid) (each go (arrivals m.opening.partner given) mid)) alone
      ∙ ap (λ p. each go (arrivals p given) mid) m.partner
      ∙ ap (λ l. each go l mid) (arrivals_none given)
      ∙ is

  entered_so : (kids : Forest Element) → each go (first_arrivals 0 given) mid ≡ gives (nodes_of scrolled kids) after
      → reenter (basis b None) pasts first (suc left) values (arrival w place None) before ≡ gives (node_over scrolled m.element kids) after
  entered_so kids is =
      let ns = nodes_of scrolled kids in
      all_entered (basis b None) pasts first (suc left) left values (arrival w place None) before m.opening mid refl m.is ns after (below_so ns is)
      ∙ (λ i. gives (node (sym m.for.number i) (sym m.for.widget i) (sym m.for.fields i) (sym m.for.scroll i) (sym m.for.place i) (listed ns)) after)

  goes_so : StayStored t1 t2 → GoesOn (element_at t2) h m.element
  goes_so stay = record {
    was = m.element;
    stored = stay h m.element m.stored;
    number = refl;
    fields = refl;
    follows = record { updates = record { type = refl; key = refl }; fields = refl };
    clean = m.clean;
  }

  stored_so : (kids : Forest Element) → each go (first_arrivals 0 given) mid ≡ gives (nodes_of scrolled kids) after → StoresBelow (build_role_of (look_of m.element.widget)) m.element (nodes_of scrolled kids)
  stored_so kids is =
      stores_so (build_role_of (look_of m.element.widget)) m.element given (nodes_of scrolled kids)
      (widgets_entered (basis b None) pasts first left (values_below w values) (first_arrivals 0 given) mid after (nodes_of scrolled kids) is ∙ first_widgets 0 given) m.for.output

  unscrolled : scrolled m.element.number ≡ 0
  unscrolled = m.for.scroll ∙ ap scroll_for m.partner

  -- it has a render node
  pub drawn_inflated : (k : Handle) → o ≡ Some k → vanishes (role_of m.element) ≡ false → StayStored t1 t2 → StayDrawn r1 r2
      → AreInflated b pasts left (values_below w values) scrolled (under h k m.element) given 0 mid after t1 t2 r1 r2 → IsInflated b pasts (suc left) values scrolled at w place before after t0 t2 r0 r2 h
  drawn_inflated k named shown stay stays a =
      let e = m.element in
      let object : RenderObject = drawn_object e (told_at at.role at.told e.index) in
      let there = m.seen shown in
      let same : there.0 ≡ k = some_handle (sym there.1 ∙ named) in
      let stored_there : object_at r1 k ≡ Some object = ap (object_at r1) (sym same) ∙ there.2 ∙ ap (λ n. Some (drawn_object e (told_at at.role at.told n))) (sym m.for.place) in
      let absent : object_at r0 k ≡ None = ap (object_at r0) (sym same) ∙ there.3 in
      let render : e.render ≡ Some k = m.render ∙ named in
      record {
        value = e;
        kids = a.kids;
        is = entered_so a.kids a.is;
        go_on = (goes_so stay, a.go_on, tt);
        drawn = (
          subst (λ c. Unless c (IsDrawn (object_at r2) (scrolled e.number) e)) (sym shown)
              (record { handle = k; named = render; object = object; stored = stays k object stored_there; number = refl; scrolled = sym (ap (scroll_in (role_of e)) unscrolled ∙ zero_in (role_of e)) }),
          a.drawn,
          tt,
        );
        stored = (stored_so a.kids a.is, a.stored, tt);
        elements = λ f is.
            subst (Is t2) (put_in_last at.parent h e none a.kids f (absent_count t0 f h is m.absent)) (a.elements (put_last at.parent (tree h e none none) f) (m.elements f is));
        renders = λ d is.
            let mounted_there = subst (λ g. Is r1 (put_last at.above g d)) (mounted_drawn at.role at.told h e none k shown render) (m.renders d is) in
            subst (Is r2)
            (put_in_last at.above k object none (mounted (role_of e) None a.kids) d (absent_count r0 d k is absent) ∙ ap (λ g. put_last at.above g d) (sym (mounted_drawn at.role at.told h e a.kids k shown render)))
            (a.renders (put_last at.above (tree k object none none) d) mounted_there);
      }
    where
      some_handle : {A : Type 0} {x y : A} → Some x ≡ Some y → x ≡ y
      some_handle e = cc

  -- it has none, and one child
  pub through_inflated : (child : PlainWidget) (c : Handle) → vanishes (role_of m.element) ≡ true → given ≡ child ∷ [] → StayStored t1 t2
      → IsInflated b pasts left (values_below w values) scrolled (through at h m.element) child 0 mid after t1 t2 r1 r2 c → IsInflated b pasts (suc left) values scrolled at w place before after t0 t2 r0 r2 h
  through_inflated child c hidden only stay i =
      let e = m.element in
      let kids = tree c i.value i.kids none in
      let is : each go (first_arrivals 0 given) mid ≡ gives (nodes_of scrolled kids) after =
      ap (λ l. each go (first_arrivals 0 l) mid) only ∙ one_more go [] (arrival child 0 None) mid mid after [] (node_over scrolled i.value i.kids) refl i.is in
      record {
        value = e;
        kids = kids;
        is = entered_so kids is;
        go_on = (goes_so stay, i.go_on, tt);
        drawn = (subst (λ x. Unless x (IsDrawn (object_at r2) (scrolled e.number) e)) (sym hidden) tt, i.drawn, tt);
        stored = (stored_so kids is, i.stored, tt);
        elements = λ f is.
            subst (Is t2) (put_in_last at.parent h e none kids f (absent_count t0 f h is m.absent)) (i.elements (put_last at.parent (tree h e none none) f) (m.elements f is));
        renders = λ d is.
            let nothing_there : Is r1 d = subst (Is r1) (ap (λ g. put_last at.above g d) (mounted_through at.role at.told h e none hidden) ∙ put_nothing at.above d) (m.renders d is) in
            subst (λ g. Is r2 (put_last at.above g d)) (sym (mounted_through at.role at.told h e kids hidden)) (i.renders d nothing_there);
      }
