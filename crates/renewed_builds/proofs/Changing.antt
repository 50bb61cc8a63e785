-- What elements change that take widgets, as it is gathered one element after another.
use Rattle.std.proofs.Common.{◌≡◌, ℕ, zero, suc, ◌+◌, ◌<◌, ◌≤◌, ◌==◌, Bool, true, false, ◌&&◌, ◌||◌, cond, Option, Some, None, is_some, IfSome, option_map, option_and_then, List, [], ◌∷◌, ◌++◌, length, map, drop, drop-cons, get_or, refl, sym, ap, ◌∙◌, subst, arith, inl, inr}
use Rattle.std.specs.Prelude.{slice_get}
use Rattle.std.specs.declared.rc.Rc.{Rc}
use Rattle.std.specs.declared.alloc.Global.{Global}
use Rattle.std.specs.List.{All}
use Rattle.std.proofs.lemmas.Bool.{and_parts, eq-eqb}
use Rattle.std.proofs.lemmas.List.{append_assoc, append-nil, get_or-map, length-map}
use Rattle.std.proofs.lemmas.Option.{slice_get-get_or, slice_get-map}
use Rattle.std.proofs.lemmas.List.Elements.{All-nil, All-cons, All-head, All-tail, All-append}
use Rattle.fx_handles.specs.declared.Handle.{Handle}
use Rattle.fx_handles.specs.Handle.{same}
use Rattle.node_tree.specs.Children.{Nth}
use Rattle.node_tree.specs.Forest.{TreeNode, Forest, tops, count, In, IsDistinct, below, skip, tree_of, Stands}
use Rattle.node_tree.specs.Forest.Forest.{none, tree}
use Rattle.node_tree.specs.Tree.{Tree, Holds, node_at, parent_at, children_at, subtree_at}
use Rattle.node_tree.proofs.Children.{nth_child, skip_all, below-stands, opened}
use Rattle.widget_model.specs.declared.widgets.Widget.{Widget}
use Rattle.widget_model.specs.Look.{Look, component}
use Rattle.widget_model.specs.Plain.{PlainWidget, look_of}
use Rattle.widget_model.specs.Plain.{children_of as child_widgets}
use Rattle.widget_model.specs.Update.{updates}
use Rattle.widget_model.specs.View.{shared}
use Rattle.reconcile.specs.Keys.{NoKeyRepeats}
use Rattle.reconcile.specs.Matching.{matching}
use Rattle.reconcile.proofs.LawLemmas.{length-matching, matching_within}
use Rattle.build_form.specs.BuildRole.{build_role_of}
use Rattle.element_tree.specs.Element.{Element, element_at}
use Rattle.work_sets.specs.Members.{is_same_widget}
use Rattle.settled_builds.specs.Retaken.{gathered_by, gathered, asked_by, asked_at, all_asked, are_apart, can_follow_all}
use Rattle.settled_builds.specs.Taken.{has_own_children}
use Rattle.renewed_builds.specs.declared.taking.Moved.{Moved}
use Rattle.renewed_builds.specs.Renewing.{Change, change_of, order_of, places_of, widgets_in, draws_its_own, takes_in_place, can_take_one, each_can_take, changes_one, each_changing, moved_to, moves_below, each_moving}
use Rattle.renewed_builds.specs.Taking.{can_take_first, changes_first, moves_first, FollowAt, HasItsOwn, HaveTheirOwn}
use Rattle.renewed_builds.proofs.Rows.{length-widgets}

abbrev pub zero_handle : Handle
zero_handle = record { index = 0; generation = 0 }

-- ---- one element

no_tree : (h : Handle) (hs : List Handle) → h ∷ hs ≡ [] → ⊥
no_tree h hs e = cc

-- a subtree that stands has an element at its top
pub held : (t : Tree Element) (h : Handle) → Holds t h → (e : Element) × (element_at t h ≡ Some e)
held t h holds = by_tree (subtree_at t h) holds.top holds.stands
  where
    same_top : (k : Handle) (hs : List Handle) → k ∷ hs ≡ h ∷ [] → k ≡ h
    same_top k hs e = cc

    by_tree : (s : Forest Element) → tops s ≡ h ∷ [] → Stands (node_at t) (parent_at t h) s → (e : Element) × (element_at t h ≡ Some e)
    by_tree none top stands = absurd (no_tree h [] (sym top))
    by_tree (tree k v kids rest) top stands =
        (v, ap (element_at t) (sym (same_top k (tops rest) top)) ∙ ap (option_map (λ (n : TreeNode Element). n.value)) stands.0)

same_Some : {X : Type 0} {x y : X} → Some x ≡ Some y → x ≡ y
same_Some e = cc

and_false : (a b : Bool) → b ≡ false → (a && b) ≡ false
and_false true b e = e
and_false false b e = refl

both_true : (a b : Bool) → a ≡ true → b ≡ true → (a && b) ≡ true
both_true true b e d = d
both_true false b e d = cc

-- an element of which one thing isn't so doesn't take a widget
abbrev pub Misses : PlainWidget → PlainWidget → Type 0
Misses v w = (updates v w && (draws_its_own (look_of v) && draws_its_own (look_of w))) ≡ false

missing : (a b c d : Bool) → (a && (b && c)) ≡ false → (a && (b && (c && d))) ≡ false
missing true true c d e = ap (λ (x : Bool). x && d) e
missing true false c d e = refl
missing false b c d e = refl

pub misses_first : (v w : PlainWidget) → updates v w ≡ false → Misses v w
misses_first v w e = ap (λ (x : Bool). x && (draws_its_own (look_of v) && draws_its_own (look_of w))) e

pub misses_second : (v w : PlainWidget) → draws_its_own (look_of v) ≡ false → Misses v w
misses_second v w e = and_false (updates v w) _ (ap (λ (x : Bool). x && draws_its_own (look_of w)) e)

pub misses_third : (v w : PlainWidget) → draws_its_own (look_of w) ≡ false → Misses v w
misses_third v w e = and_false (updates v w) _ (and_false (draws_its_own (look_of v)) _ e)

-- ---- places

pub matched_many : (olds ws : List PlainWidget) (places : List ℕ) → map (λ j. Some j) places ≡ matching olds ws → length places ≡ length ws
matched_many olds ws places is = let mapped : length (map (λ j. Some j) places) ≡ length places = simp length-map in sym mapped ∙ ap length is ∙ length-matching olds ws

map_within : (n : ℕ) (places : List ℕ) → All (λ m. IfSome m (λ j. j < n)) (map (λ j. Some j) places) → All (λ j. j < n) places
map_within n [] all = All-nil (λ j. j < n)
map_within n (j ∷ js) all =
    All-cons (λ i. i < n) j js (All-head (λ m. IfSome m (λ i. i < n)) (Some j) (map (λ i. Some i) js) all)
    (map_within n js (All-tail (λ m. IfSome m (λ i. i < n)) (Some j) (map (λ i. Some i) js) all))

places_some : (places : List ℕ) → places_of (map (λ j. Some j) places) ≡ places
places_some [] = refl
places_some (j ∷ js) = ap (λ is. j ∷ is) (places_some js)

pub matched_places : (olds ws : List PlainWidget) (places : List ℕ) → map (λ j. Some j) places ≡ matching olds ws → places_of (matching olds ws) ≡ places
matched_places olds ws places is = sym (ap places_of is) ∙ places_some places

module _ (t : Tree Element) (h : Handle) (holds : Holds t h) (v w : PlainWidget) (said : Some v ≡ option_map (λ (e : Element). e.widget) (element_at t h)) where
  abbrev kids : Forest Element
  kids = below (subtree_at t h)

  one : (e : Element) × (v ≡ e.widget) × (subtree_at t h ≡ tree h e kids none)
  one =
      let e = held t h holds in
      (e.0, same_Some (said ∙ ap (option_map (λ (x : Element). x.widget)) e.1), opened t h e.0 holds e.1)

  stored : element_at t h ≡ Some one.0
  unfolding one
  stored = (held t h holds).1

  abbrev CanBelow : Bool
  CanBelow = can_follow_all (widgets_in kids) (child_widgets w) (each_can_take kids)

  here : (e : Element) → subtree_at t h ≡ tree h e kids none → can_take_first (subtree_at t h) w ≡ (is_same_widget e.widget w || (takes_in_place e w && CanBelow))
  here e is = ap (λ (s : Forest Element). can_take_first s w) is

  pub one_same : is_same_widget v w ≡ true → true ≡ can_take_first (subtree_at t h) w
  one_same e =
      let x = one in
      sym (here x.0 x.2 ∙ ap (λ (b : Bool). b || (takes_in_place x.0 w && CanBelow)) (ap (λ (u : PlainWidget). is_same_widget u w) (sym x.1) ∙ e))

  refused : (e : Element) → subtree_at t h ≡ tree h e kids none → v ≡ e.widget → is_same_widget v w ≡ false → takes_in_place e w ≡ false → false ≡ can_take_first (subtree_at t h) w
  refused e is v_is other fails =
      sym (here e is
      ∙ ap (λ (b : Bool). b || (takes_in_place e w && CanBelow)) (ap (λ (u : PlainWidget). is_same_widget u w) (sym v_is) ∙ other)
      ∙ ap (λ (b : Bool). b && CanBelow) fails)

  pub one_refused : is_same_widget v w ≡ false → Misses v w → false ≡ can_take_first (subtree_at t h) w
  one_refused other miss =
      let x = one in
      refused x.0 x.2 x.1 other
      (missing (updates x.0.widget w) (draws_its_own (look_of x.0.widget)) (draws_its_own (look_of w)) (is_some x.0.render)
      (subst (λ (u : PlainWidget). (updates u w && (draws_its_own (look_of u) && draws_its_own (look_of w))) ≡ false) x.1 miss))

  -- it has the widget: nothing changes
  pub none_changed : is_same_widget v w ≡ true → (cs : List Change) → cs ≡ cs ++ changes_first (subtree_at t h) w
  none_changed e cs =
      let x = one in
      let ms = matching (widgets_in kids) (child_widgets w) in
      let inner : List Change = change_of h x.0.render w (order_of (places_of ms)) ++ gathered (each_changing kids) 0 (child_widgets w) ms in
      let is : changes_first (subtree_at t h) w ≡ [] =
      ap (λ (s : Forest Element). changes_first s w) x.2 ∙ ap (λ (b : Bool). cond {A = List Change} b [] inner) (ap (λ (u : PlainWidget). is_same_widget u w) (sym x.1) ∙ e) in
      sym (ap (λ (l : List Change). cs ++ l) is ∙ append-nil cs)

  pub none_moved : is_same_widget v w ≡ true → (cs : List Moved) → cs ≡ cs ++ moves_first (subtree_at t h) w
  none_moved e cs =
      let x = one in
      let ms = matching (widgets_in kids) (child_widgets w) in
      let is : moves_first (subtree_at t h) w ≡ [] =
      ap (λ (s : Forest Element). moves_first s w) x.2
      ∙ ap (λ (b : Bool). cond {A = List Moved} b [] (gathered (each_moving 0 kids) 0 (child_widgets w) ms)) (ap (λ (u : PlainWidget). is_same_widget u w) (sym x.1) ∙ e) in
      sym (ap (λ (l : List Moved). cs ++ l) is ∙ append-nil cs)

  -- its render node isn't known
  pub one_undrawn : is_same_widget v w ≡ false → None ≡ option_and_then (λ (e : Element). e.render) (element_at t h) → false ≡ can_take_first (subtree_at t h) w
  one_undrawn other undrawn =
      let x = one in
      let no_render : x.0.render ≡ None = sym (undrawn ∙ ap (option_and_then (λ (e : Element). e.render)) stored) in
      refused x.0 x.2 x.1 other
      (and_false (updates x.0.widget w) _ (and_false (draws_its_own (look_of x.0.widget)) _ (and_false (draws_its_own (look_of w)) (is_some x.0.render) (ap (λ (r : Option Handle). is_some r) no_render))))

  -- what is below it is its own
  module _ (own : HaveTheirOwn (subtree_at t h)) (was : draws_its_own (look_of v) ≡ true) where
    its_own : HasItsOwn v kids
    its_own =
        let x = one in
        let all : HaveTheirOwn (tree h x.0 kids none) = subst HaveTheirOwn x.2 own in
        subst (λ u. HasItsOwn u kids) (sym x.1) (all.0 ((and_parts (has_own_children (build_role_of (look_of x.0.widget))) _ (ap (λ (u : PlainWidget). draws_its_own (look_of u)) (sym x.1) ∙ was)).0))

    pub own_apart : NoKeyRepeats (child_widgets v)
    own_apart = its_own.apart

    pub own_widgets : widgets_in kids ≡ child_widgets v
    own_widgets = its_own.widgets

    pub own_many : length (child_widgets v) ≡ length (children_at t h)
    own_many = sym (ap length its_own.widgets) ∙ length-widgets kids ∙ ap length (below-stands t h holds).1

    pub own_below : HaveTheirOwn kids
    own_below = let x = one in (subst HaveTheirOwn x.2 own).1

    -- the widgets can't follow those of its children
    pub one_unmatched : is_same_widget v w ≡ false → ((cans : List (PlainWidget → Bool)) → can_follow_all (child_widgets v) (child_widgets w) cans ≡ false) → false ≡ can_take_first (subtree_at t h) w
    one_unmatched other cannot =
        let x = one in
        let cannot_below : CanBelow ≡ false = ap (λ olds. can_follow_all olds (child_widgets w) (each_can_take kids)) its_own.widgets ∙ cannot (each_can_take kids) in
        sym (here x.0 x.2
        ∙ ap (λ (b : Bool). b || (takes_in_place x.0 w && CanBelow)) (ap (λ (u : PlainWidget). is_same_widget u w) (sym x.1) ∙ other)
        ∙ and_false (takes_in_place x.0 w) CanBelow cannot_below)

    -- it takes the widget, where those below it can
    module _ (other : is_same_widget v w ≡ false) (update : updates v w ≡ true) (now : draws_its_own (look_of w) ≡ true) (at : Handle) (drawn : Some at ≡ option_and_then (λ (e : Element). e.render) (element_at t h))
        (places : List ℕ) (follows : FollowAt (child_widgets v) (child_widgets w) places) where
      drawn_at : one.0.render ≡ Some at
      drawn_at = sym (drawn ∙ ap (option_and_then (λ (e : Element). e.render)) stored)

      matched : map (λ j. Some j) places ≡ matching (widgets_in kids) (child_widgets w)
      matched = follows.matched ∙ sym (ap (λ olds. matching olds (child_widgets w)) its_own.widgets)

      pub low_places : All (λ j. j < length (children_at t h)) places
      low_places =
          let all = matching_within (child_widgets v) (child_widgets w) in
          let tall : length (child_widgets v) ≡ length (children_at t h) = sym (ap length its_own.widgets) ∙ length-widgets kids ∙ ap length (below-stands t h holds).1 in
          map_within (length (children_at t h)) places (subst (λ ms. All (λ m. IfSome m (λ j. j < length (children_at t h))) ms) (sym follows.matched) (subst (λ n. All (λ m. IfSome m (λ j. j < n)) (matching (child_widgets v) (child_widgets w))) tall all))

      can_below : CanBelow ≡ all_asked (each_can_take kids) (child_widgets w) (map (λ j. Some j) places)
      can_below =
          let tall : length (widgets_in kids) ≡ length (child_widgets w) = ap length its_own.widgets ∙ follows.many in
          ap (λ b. b && (are_apart (child_widgets w) && all_asked (each_can_take kids) (child_widgets w) (matching (widgets_in kids) (child_widgets w)))) (eq-eqb _ _ tall)
          ∙ ap (λ b. b && all_asked (each_can_take kids) (child_widgets w) (matching (widgets_in kids) (child_widgets w))) follows.apart
          ∙ ap (all_asked (each_can_take kids) (child_widgets w)) (sym matched)

      pub takes_below : can_take_first (subtree_at t h) w ≡ all_asked (each_can_take kids) (child_widgets w) (map (λ j. Some j) places)
      takes_below =
          let x = one in
          let takes : takes_in_place x.0 w ≡ true =
          both_true (updates x.0.widget w) _ (ap (λ (u : PlainWidget). updates u w) (sym x.1) ∙ update)
          (both_true (draws_its_own (look_of x.0.widget)) _ (ap (λ (u : PlainWidget). draws_its_own (look_of u)) (sym x.1) ∙ was)
          (both_true (draws_its_own (look_of w)) (is_some x.0.render) now (ap (λ (r : Option Handle). is_some r) drawn_at))) in
          here x.0 x.2
          ∙ ap (λ (b : Bool). b || (takes_in_place x.0 w && CanBelow)) (ap (λ (u : PlainWidget). is_same_widget u w) (sym x.1) ∙ other)
          ∙ ap (λ (b : Bool). b && CanBelow) takes
          ∙ can_below

      changes_are : changes_first (subtree_at t h) w ≡ record { element = h; at = at; widget = w; order = order_of places } ∷ gathered (each_changing kids) 0 (child_widgets w) (map (λ j. Some j) places)
      changes_are =
          let x = one in
          let ms = matching (widgets_in kids) (child_widgets w) in
          ap (λ (s : Forest Element). changes_first s w) x.2
          ∙ ap (λ (b : Bool). cond {A = List Change} b [] (change_of h x.0.render w (order_of (places_of ms)) ++ gathered (each_changing kids) 0 (child_widgets w) ms)) (ap (λ (u : PlainWidget). is_same_widget u w) (sym x.1) ∙ other)
          ∙ ap (λ (r : Option Handle). change_of h r w (order_of (places_of ms)) ++ gathered (each_changing kids) 0 (child_widgets w) ms) drawn_at
          ∙ ap (λ (is : List ℕ). record { element = h; at = at; widget = w; order = order_of is } ∷ gathered (each_changing kids) 0 (child_widgets w) ms) (sym (ap places_of matched) ∙ places_some places)
          ∙ ap (λ ns. record { element = h; at = at; widget = w; order = order_of places } ∷ gathered (each_changing kids) 0 (child_widgets w) ns) (sym matched)

      pub takes_changes : (before pushed after : List Change) → pushed ≡ before ++ record { element = h; at = at; widget = w; order = order_of places } ∷ []
          → after ≡ pushed ++ gathered (each_changing kids) 0 (child_widgets w) (map (λ j. Some j) places) → after ≡ before ++ changes_first (subtree_at t h) w
      takes_changes before pushed later push more =
          let inner = gathered (each_changing kids) 0 (child_widgets w) (map (λ j. Some j) places) in
          more ∙ ap (λ (l : List Change). l ++ inner) push ∙ append_assoc before (record { element = h; at = at; widget = w; order = order_of places } ∷ []) inner ∙ ap (λ (l : List Change). before ++ l) (sym changes_are)

      pub takes_moves : (before after : List Moved) → after ≡ before ++ gathered (each_moving 0 kids) 0 (child_widgets w) (map (λ j. Some j) places) → after ≡ before ++ moves_first (subtree_at t h) w
      takes_moves before later more =
          let x = one in
          let ms = matching (widgets_in kids) (child_widgets w) in
          let are : moves_first (subtree_at t h) w ≡ gathered (each_moving 0 kids) 0 (child_widgets w) (map (λ j. Some j) places) =
          ap (λ (s : Forest Element). moves_first s w) x.2
          ∙ ap (λ (b : Bool). cond {A = List Moved} b [] (gathered (each_moving 0 kids) 0 (child_widgets w) ms)) (ap (λ (u : PlainWidget). is_same_widget u w) (sym x.1) ∙ other)
          ∙ ap (gathered (each_moving 0 kids) 0 (child_widgets w)) (sym matched) in
          more ∙ ap (λ (l : List Moved). before ++ l) (sym are)

-- ---- those below one, in order

pub nth_of : (t : Tree Element) (h : Handle) (cs : List Handle) (i : ℕ) → Holds t h → cs ≡ children_at t h → i < length cs → Nth t (below (subtree_at t h)) i (get_or cs i zero_handle)
nth_of t h cs i holds value within = rw value (nth_child t h i zero_handle holds (omega (arith, within, ap (λ (xs : List Handle). length xs) value)))

-- the next widget of a list
pub next_widget : (rs : List (Rc Widget Global)) (i : ℕ) (r : Rc Widget Global) → i < length rs → r ≡ get_or rs i r → drop i (map shared rs) ≡ shared r ∷ drop (i + 1) (map shared rs)
next_widget rs i r low is =
    let in_ws : i < length (map shared rs) = rw length-map low in
    let next : suc i ≡ i + 1 = omega arith in
    drop-cons (map shared rs) i (shared r) in_ws
    ∙ ap (λ (w : PlainWidget). w ∷ drop (suc i) (map shared rs)) (get_or-map shared rs i r (shared r) low ∙ ap shared (sym is))
    ∙ ap (λ (n : ℕ). shared r ∷ drop n (map shared rs)) next

-- and the next place
pub next_place : (js : List ℕ) (i d : ℕ) → i < length js → drop i (map (λ n. Some n) js) ≡ Some (get_or js i d) ∷ drop (i + 1) (map (λ n. Some n) js)
next_place js i d low =
    let in_ms : i < length (map (λ (n : ℕ). Some n) js) = rw length-map low in
    let next : suc i ≡ i + 1 = omega arith in
    drop-cons (map (λ n. Some n) js) i (Some d) in_ms
    ∙ ap (λ m. m ∷ drop (suc i) (map (λ n. Some n) js)) (get_or-map (λ n. Some n) js i d (Some d) low)
    ∙ ap (λ (n : ℕ). Some (get_or js i d) ∷ drop n (map (λ n. Some n) js)) next

can_at : (j : ℕ) (f : Forest Element) (k : Handle) (v : Element) (kids rest : Forest Element) → skip j f ≡ tree k v kids rest → slice_get (each_can_take f) j ≡ Some (can_take_one v (widgets_in kids) (each_can_take kids))
can_at zero f k v kids rest e = ap (λ g. slice_get (each_can_take g) 0) e
can_at (suc j) none k v kids rest e = absurd (cc)
can_at (suc j) (tree h u low more) k v kids rest e = can_at j more k v kids rest e

changing_at : (j : ℕ) (f : Forest Element) (k : Handle) (v : Element) (kids rest : Forest Element) → skip j f ≡ tree k v kids rest
    → slice_get (each_changing f) j ≡ Some (λ w place. changes_one k v (widgets_in kids) (each_changing kids) w)
changing_at zero f k v kids rest e = ap (λ g. slice_get (each_changing g) 0) e
changing_at (suc j) none k v kids rest e = absurd (cc)
changing_at (suc j) (tree h u low more) k v kids rest e = changing_at j more k v kids rest e

moving_at : (old j : ℕ) (f : Forest Element) (k : Handle) (v : Element) (kids rest : Forest Element) → skip j f ≡ tree k v kids rest
    → slice_get (each_moving old f) j ≡ Some (λ w place. moved_to k (old + j) place ++ moves_below v (widgets_in kids) (each_moving 0 kids) w)
moving_at old zero f k v kids rest e =
    let here : old ≡ old + 0 = omega arith in
    ap (λ g. slice_get (each_moving old g) 0) e ∙ ap (λ n. Some (λ w place. moved_to k n place ++ moves_below v (widgets_in kids) (each_moving 0 kids) w)) here
moving_at old (suc j) none k v kids rest e = absurd (cc)
moving_at old (suc j) (tree h u low more) k v kids rest e =
    let next : suc old + j ≡ old + suc j = omega arith in
    moving_at (suc old) j more k v kids rest e ∙ ap (λ n. Some (λ w place. moved_to k n place ++ moves_below v (widgets_in kids) (each_moving 0 kids) w)) next

own_at : (j : ℕ) (f : Forest Element) (k : Handle) (v : Element) (kids rest : Forest Element) → skip j f ≡ tree k v kids rest → HaveTheirOwn f → HaveTheirOwn (tree k v kids none)
own_at zero f k v kids rest e own = let all = subst HaveTheirOwn e own in (all.0, all.1, tt)
own_at (suc j) none k v kids rest e own = absurd (cc)
own_at (suc j) (tree h u low more) k v kids rest e own = own_at j more k v kids rest e own.2

-- what is below one of them is its own
pub own_nth : (t : Tree Element) (f : Forest Element) (j : ℕ) (k : Handle) → Nth t f j k → HaveTheirOwn f → HaveTheirOwn (subtree_at t k)
own_nth t f j k n own = subst HaveTheirOwn (sym n.subtree) (own_at j f k n.value n.kids (skip (j + 1) f) n.skips own)

widget_in : (j : ℕ) (f : Forest Element) (k : Handle) (v : Element) (kids rest : Forest Element) → skip j f ≡ tree k v kids rest → slice_get (widgets_in f) j ≡ Some v.widget
widget_in zero f k v kids rest e = ap (λ g. slice_get (widgets_in g) 0) e
widget_in (suc j) none k v kids rest e = absurd (cc)
widget_in (suc j) (tree h u us f) k v kids rest e = widget_in j f k v kids rest e

-- the widget of the one at a place, where those of all are known
pub nth_widget : (t : Tree Element) (f : Forest Element) (j : ℕ) (k : Handle) → Nth t f j k → (rs : List (Rc Widget Global)) (r : Rc Widget Global) → widgets_in f ≡ map shared rs → j < length rs → r ≡ get_or rs j r
    → option_map (λ (e : Element). e.widget) (element_at t k) ≡ Some (shared r)
nth_widget t f j k n rs r are low is =
    let e = held t k n.holds in
    let top = opened t k e.0 n.holds e.1 in
    let same_one : e.0 ≡ n.value = top_is k k e.0 n.value (below (subtree_at t k)) n.kids none none (sym top ∙ n.subtree) in
    let stands = widget_in j f k n.value n.kids (skip (j + 1) f) n.skips in
    let there : slice_get (map shared rs) j ≡ Some (shared r) = slice_get-map shared rs j ∙ ap (option_map shared) (slice_get-get_or rs j r low ∙ ap (λ x. Some x) (sym is)) in
    ap (option_map (λ (x : Element). x.widget)) e.1 ∙ ap (λ (x : Element). Some x.widget) same_one ∙ sym stands ∙ ap (λ ws. slice_get ws j) are ∙ there
  where
    top_is : (h k : Handle) (u v : Element) (us vs a b : Forest Element) → tree h u us a ≡ tree k v vs b → u ≡ v
    top_is h k u v us vs a b e = cc

module _ (t : Tree Element) (f : Forest Element) (i j : ℕ) (k : Handle) (n : Nth t f j k) (w : PlainWidget) (ws us : List PlainWidget) (at : drop i ws ≡ w ∷ us) (ms ns : List (Option ℕ)) (place : drop i ms ≡ Some j ∷ ns) where
  next_can : all_asked (each_can_take f) (drop i ws) (drop i ms) ≡ (can_take_first (subtree_at t k) w && all_asked (each_can_take f) us ns)
  next_can =
      (λ x. all_asked (each_can_take f) (at x) (place x))
      ∙ ap (λ o. asked_by o w && all_asked (each_can_take f) us ns) (can_at j f k n.value n.kids (skip (j + 1) f) n.skips)
      ∙ ap (λ (s : Forest Element). can_take_first s w && all_asked (each_can_take f) us ns) (sym n.subtree)

  next_changes : gathered (each_changing f) i (drop i ws) (drop i ms) ≡ changes_first (subtree_at t k) w ++ gathered (each_changing f) (i + 1) us ns
  next_changes =
      let next : suc i ≡ i + 1 = omega arith in
      (λ x. gathered (each_changing f) i (at x) (place x))
      ∙ ap (λ o. gathered_by o w i ++ gathered (each_changing f) (suc i) us ns) (changing_at j f k n.value n.kids (skip (j + 1) f) n.skips)
      ∙ ap (λ (s : Forest Element). changes_first s w ++ gathered (each_changing f) (suc i) us ns) (sym n.subtree)
      ∙ ap (λ m. changes_first (subtree_at t k) w ++ gathered (each_changing f) m us ns) next

  next_moves : gathered (each_moving 0 f) i (drop i ws) (drop i ms) ≡ (moved_to k j i ++ moves_first (subtree_at t k) w) ++ gathered (each_moving 0 f) (i + 1) us ns
  next_moves =
      let next : suc i ≡ i + 1 = omega arith in
      let old : 0 + j ≡ j = omega arith in
      (λ x. gathered (each_moving 0 f) i (at x) (place x))
      ∙ ap (λ o. gathered_by o w i ++ gathered (each_moving 0 f) (suc i) us ns) (moving_at 0 j f k n.value n.kids (skip (j + 1) f) n.skips)
      ∙ ap (λ m. (moved_to k m i ++ moves_below n.value (widgets_in n.kids) (each_moving 0 n.kids) w) ++ gathered (each_moving 0 f) (suc i) us ns) old
      ∙ ap (λ (s : Forest Element). (moved_to k j i ++ moves_first s w) ++ gathered (each_moving 0 f) (suc i) us ns) (sym n.subtree)
      ∙ ap (λ m. (moved_to k j i ++ moves_first (subtree_at t k) w) ++ gathered (each_moving 0 f) m us ns) next

  pub stops_here : (whole : Bool) → all_asked (each_can_take f) (drop i ws) (drop i ms) ≡ whole → (can : Bool) → can ≡ can_take_first (subtree_at t k) w → can ≡ false → false ≡ whole
  stops_here whole so_far can is fails = sym (ap (λ (b : Bool). b && all_asked (each_can_take f) us ns) (sym is ∙ fails)) ∙ sym next_can ∙ so_far

  pub goes_on : (whole : Bool) → all_asked (each_can_take f) (drop i ws) (drop i ms) ≡ whole → (can : Bool) → can ≡ can_take_first (subtree_at t k) w → can ≡ true → all_asked (each_can_take f) us ns ≡ whole
  goes_on whole so_far can is holds = sym (ap (λ (b : Bool). b && all_asked (each_can_take f) us ns) (sym is ∙ holds)) ∙ sym next_can ∙ so_far

  pub one_more : (acc new whole : List Change) → acc ++ gathered (each_changing f) i (drop i ws) (drop i ms) ≡ whole → new ≡ acc ++ changes_first (subtree_at t k) w → new ++ gathered (each_changing f) (i + 1) us ns ≡ whole
  one_more acc new whole so_far is =
      ap (λ (cs : List Change). cs ++ gathered (each_changing f) (i + 1) us ns) is
      ∙ append_assoc acc (changes_first (subtree_at t k) w) (gathered (each_changing f) (i + 1) us ns)
      ∙ ap (λ (cs : List Change). acc ++ cs) (sym next_changes)
      ∙ so_far

  pub moved_more : (acc pushed new whole : List Moved) → acc ++ gathered (each_moving 0 f) i (drop i ws) (drop i ms) ≡ whole → pushed ≡ acc ++ moved_to k j i → new ≡ pushed ++ moves_first (subtree_at t k) w
      → new ++ gathered (each_moving 0 f) (i + 1) us ns ≡ whole
  moved_more acc pushed new whole so_far push is =
      let first = moved_to k j i in
      let second = moves_first (subtree_at t k) w in
      ap (λ (cs : List Moved). cs ++ gathered (each_moving 0 f) (i + 1) us ns) (is ∙ ap (λ (cs : List Moved). cs ++ second) push ∙ append_assoc acc first second)
      ∙ append_assoc acc (first ++ second) (gathered (each_moving 0 f) (i + 1) us ns)
      ∙ ap (λ (cs : List Moved). acc ++ cs) (sym next_moves)
      ∙ so_far

-- ---- none is left

pub none_left : (cans : List (PlainWidget → Bool)) (us : List PlainWidget) (ns : List (Option ℕ)) → us ≡ [] → true ≡ all_asked cans us ns
none_left cans us ns e = sym (ap (λ ws. all_asked cans ws ns) e)

pub all_gathered : {A : Type 0} (takes : List (PlainWidget → ℕ → List A)) (place : ℕ) (us : List PlainWidget) (ns : List (Option ℕ)) (acc whole : List A) → us ≡ [] → acc ++ gathered takes place us ns ≡ whole → acc ≡ whole
all_gathered takes place us ns acc whole e so_far = sym (append-nil acc) ∙ sym (ap (λ ws. acc ++ gathered takes place ws ns) e) ∙ so_far
