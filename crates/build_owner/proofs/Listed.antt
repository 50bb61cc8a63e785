-- The render nodes of the lazy lists that wait: each is that of its list.
use Rattle.std.proofs.Common.{◌≡◌, ℕ, ◌-◌, Bool, true, false, cond, Option, Some, None, option_map, List, [], ◌∷◌, ◌++◌, map, length, refl, sym, ap, ◌∙◌, subst, arith}
use Rattle.std.proofs.lemmas.List.{append-nil}
use Rattle.std.proofs.lemmas.List.Elements.{All-tail}
use Rattle.fx_expr.specs.declared.values.Value.{Value}
use Rattle.fx_handles.specs.declared.Handle.{Handle}
use Rattle.node_tree.specs.Forest.{TreeNode, Forest, append, Stands}
use Rattle.node_tree.specs.Forest.Forest.{none, tree}
use Rattle.node_tree.specs.Plan.{IsUpdated}
use Rattle.node_tree.specs.Tree.{Tree, node_at}
use Rattle.tree_marks.specs.Marking.{Marking}
use Rattle.tree_marks.specs.Ways.{OnlyMarks}
use Rattle.widget_model.specs.Look.{Look, sliver_lazy}
use Rattle.widget_model.specs.Plain.{PlainWidget, plain, look_of}
use Rattle.widget_model.specs.Plain.{children_of as child_widgets}
use Rattle.widget_model.specs.Typed.{Declarations, FitMembers, IsTypedWidget}
use Rattle.plain_tree.specs.declared.render.ParentData.{ParentData}
use Rattle.plain_tree.specs.declared.role.RenderRole.{RenderRole}
use Rattle.plain_tree.specs.PlainNode.{PlainNode, node, nodes_of as listed}
use Rattle.plain_tree.specs.Projection.{told_by, told_at}
use Rattle.plain_tree.specs.Render.{lazy_count}
use Rattle.plain_tree.specs.RenderRole.{render_role_of, vanishes}
use Rattle.build_form.specs.BuildRole.{BuildRole, composes, provides, keeps, lists, holds, build_role_of, is_lazy}
use Rattle.build_form.specs.Entering.{values_below}
use Rattle.build_form.specs.FullBuild.{Screen, live_ranges}
use Rattle.build_form.specs.WellBuilt.{AreWellBuilt}
use Rattle.element_tree.specs.Element.{Element}
use Rattle.element_tree.specs.Nodes.{nodes_of}
use Rattle.render_tree.specs.Object.{RenderObject, object_look}
use Rattle.render_tree.specs.Redraw.{Redraw, redrawn}
use Rattle.render_tree.specs.Tree.{object_at}
use Rattle.build_walk.specs.Merging.{lists_redraw, Grown, grown_below, grow, list_handles, AreBare}
use Rattle.build_walk.specs.Renewing.{role_of, redraw_of, drawn_at, drawn, IsDrawn, Unless, AreDrawn}
use Rattle.build_walk.specs.Serving.{WaitingList, list_or, waiting_lists, all_waiting_lists}
use Rattle.build_walk.proofs.Siblings.{handles_append}
use Rattle.build_owner.specs.declared.walk.WaitingSpot.{WaitingSpot}
use Rattle.build_owner.specs.Ranging.{range_at, IsListAt, AreRangedFor}
use Rattle.build_owner.specs.Served.{range_for, AreRangesOf}
use Rattle.build_owner.specs.WalkView.{waiting_of}

object_is : (x y : RenderObject) → Some x ≡ Some y → x ≡ y
object_is x y e = cc

-- ---- widgets of render nodes

-- a render node has the widget that a plan gave it
pub record HasWidget (r : Tree RenderObject) (k : Handle) (u : Redraw) : Type 0 where
  pub object : RenderObject
  pub stored : object_at r k ≡ Some object
  pub widget : object.widget ≡ u.widget

abbrev pub HaveWidgets : Tree RenderObject → Forest Redraw → Type 0
HaveWidgets r none = Unit {0}
HaveWidgets r (tree k u below rest) = HasWidget r k u × HaveWidgets r below × HaveWidgets r rest

have_front : (r : Tree RenderObject) (f g : Forest Redraw) → HaveWidgets r (append f g) → HaveWidgets r f
have_front r none g h = tt
have_front r (tree k u below rest) g h = (h.0, h.1, have_front r rest g h.2)

have_back : (r : Tree RenderObject) (f g : Forest Redraw) → HaveWidgets r (append f g) → HaveWidgets r g
have_back r none g h = h
have_back r (tree k u below rest) g h = have_back r rest g h.2

pub redrawn_widget : (u : Redraw) (o : Option RenderObject) (v : RenderObject) → option_map (redrawn u) o ≡ Some v → v.widget ≡ u.widget
redrawn_widget u None v e = absurd (cc)
redrawn_widget u (Some x) v e = ap (λ (y : RenderObject). y.widget) (sym (object_is (redrawn u x) v e))

pub committed_widgets : (old new : Tree RenderObject) (p : Option Handle) (d : Forest Redraw) (g : Forest RenderObject) → IsUpdated redrawn (object_at old) d g → Stands (node_at new) p g → HaveWidgets new d
committed_widgets old new p none g up stands = tt
committed_widgets old new p (tree h u kids more) none up stands = absurd up
committed_widgets old new p (tree h u kids more) (tree k v below rest) up stands = (
  record {
    object = v;
    stored = ap (object_at new) up.0 ∙ ap (option_map (λ (n : TreeNode RenderObject). n.value)) stands.0;
    widget = redrawn_widget u (object_at old h) v up.1;
  },
  committed_widgets old new (Some k) kids below up.2 stands.1,
  committed_widgets old new p more rest up.3 stands.2,
)

-- so have those of a forest before it grew
have_below : (r : Tree RenderObject) (t : Bool) (kids : Forest Redraw) (gs : List (Forest Redraw)) (others : Grown Redraw) → (t ≡ true → kids ≡ none) → (HaveWidgets r others.forest → HaveWidgets r kids)
    → HaveWidgets r (grown_below t gs others).forest → HaveWidgets r kids
have_below r true kids gs others bare go h = subst (HaveWidgets r) (sym (bare refl)) tt
have_below r false kids gs others bare go h = go h

pub have_less : (r : Tree RenderObject) (d : Forest Redraw) (gs : List (Forest Redraw)) → AreBare lists_redraw d → HaveWidgets r (grow lists_redraw d gs).forest → HaveWidgets r d
have_less r none gs bare h = tt
have_less r (tree k u kids rest) gs bare h = (
  h.0,
  have_below r (lists_redraw u) kids gs (grow lists_redraw kids gs) bare.0 (λ x. have_less r kids gs bare.1 x) h.1,
  have_less r rest (grown_below (lists_redraw u) gs (grow lists_redraw kids gs)).rest bare.2 h.2,
)

-- they stay where widgets do
abbrev pub KeepsWidgets : Tree RenderObject → Tree RenderObject → Type 0
KeepsWidgets r s = (k : Handle) (o : RenderObject) → object_at r k ≡ Some o → (w : RenderObject) × (object_at s k ≡ Some w) × (w.widget ≡ o.widget)

pub widgets_on : (r s : Tree RenderObject) (d : Forest Redraw) → KeepsWidgets r s → HaveWidgets r d → HaveWidgets s d
widgets_on r s none stay h = tt
widgets_on r s (tree k u below rest) stay h =
    let w = stay k h.0.object h.0.stored in
    (record { object = w.0; stored = w.1; widget = w.2 ∙ h.0.widget }, widgets_on r s below stay h.1, widgets_on r s rest stay h.2)

pub same_widgets : (r s : Tree RenderObject) → ((k : Handle) → option_map (λ (o : RenderObject). o.widget) (object_at s k) ≡ option_map (λ (o : RenderObject). o.widget) (object_at r k)) → KeepsWidgets r s
same_widgets r s same = λ k o stored. by_object (object_at s k) o (same k ∙ ap (option_map (λ (x : RenderObject). x.widget)) stored)
  where
    by_object : (q : Option RenderObject) (o : RenderObject) → option_map (λ (x : RenderObject). x.widget) q ≡ Some o.widget → (w : RenderObject) × (q ≡ Some w) × (w.widget ≡ o.widget)
    by_object None o e = absurd (cc)
    by_object (Some w) o e = (w, refl, widget_is w.widget o.widget e)
      where
        widget_is : (x y : PlainWidget) → Some x ≡ Some y → x ≡ y
        widget_is x y q = cc

module _ (m : Marking RenderObject) (same : (f b : Bool) (o : RenderObject) → (m.marked f b o).widget ≡ o.widget) (t u : Tree RenderObject) (only : OnlyMarks m t u) where
  marked_by : (k : Handle) (q : Option (TreeNode RenderObject)) → node_at t k ≡ q → (o : RenderObject) → object_at t k ≡ Some o → (w : RenderObject) × (object_at u k ≡ Some w) × (w.widget ≡ o.widget)
  marked_by k None at = λ o stored. absurd (let gone = ap (option_map (λ (x : TreeNode RenderObject). x.value)) at in cc)
  marked_by k (Some n) at = λ o stored.
      let marked = only k n at in
      let is : n.value ≡ o = object_is n.value o (sym (ap (option_map (λ (x : TreeNode RenderObject). x.value)) at) ∙ stored) in
      (m.marked marked.0 marked.1 n.value, ap (option_map (λ (x : TreeNode RenderObject). x.value)) marked.2, same marked.0 marked.1 n.value ∙ ap (λ (x : RenderObject). x.widget) is)

  pub marks_keep_widgets : KeepsWidgets t u
  marks_keep_widgets = λ k. marked_by k (node_at t k) refl

-- ---- lists

abbrev pub AreListsAt : Tree RenderObject → List Handle → List WaitingList → Type 0
AreListsAt r [] [] = Unit {0}
AreListsAt r [] (w ∷ ws) = ⊥
AreListsAt r (k ∷ ks) [] = ⊥
AreListsAt r (k ∷ ks) (w ∷ ws) = IsListAt r k w × AreListsAt r ks ws

lists_join : (r : Tree RenderObject) (ks js : List Handle) (ws vs : List WaitingList) → AreListsAt r ks ws → AreListsAt r js vs → AreListsAt r (ks ++ js) (ws ++ vs)
lists_join r [] js [] vs h g = g
lists_join r [] js (w ∷ ws) vs h g = absurd h
lists_join r (k ∷ ks) js [] vs h g = absurd h
lists_join r (k ∷ ks) js (w ∷ ws) vs h g = (h.0, lists_join r ks js ws vs h.1 g)

-- a node without a render node is no list
no_list : (look : Look) → vanishes (render_role_of look) ≡ true → is_lazy (build_role_of look) ≡ false
no_list (sliver_lazy extent) e = cc
no_list look e = refl

not_itself : (role : BuildRole) (itself : ℕ → WaitingList) (others : List WaitingList) → is_lazy role ≡ false → list_or role itself others ≡ others
not_itself (composes place props) itself others e = refl
not_itself (provides name value) itself others e = refl
not_itself (keeps kept) itself others e = refl
not_itself (lists extent) itself others e = absurd (cc)
not_itself holds itself others e = refl

list_look : (look : Look) (extent : ℕ) → build_role_of look ≡ lists extent → look ≡ sliver_lazy extent
list_look (sliver_lazy e) extent is = ap sliver_lazy (same_extent e extent is)
  where
    same_extent : (a b : ℕ) → lists a ≡ lists b → a ≡ b
    same_extent a b q = cc
list_look look extent is = absurd (cc)

members_of : (d : Declarations) (w : PlainWidget) → IsTypedWidget d w → FitMembers d (look_of w)
members_of d (plain look k slots children) typed = typed.members

module _ (d : Declarations) (r : Tree RenderObject) (scrolled : ℕ → ℕ) where
  this_list : (e : Element) (k : Handle) (u : Redraw) (extent left : ℕ) (values : List Value) → u.widget ≡ e.widget → (q : IsDrawn (object_at r) (scrolled e.number) e) → q.handle ≡ k → HasWidget r k u → IsTypedWidget d e.widget
      → build_role_of (look_of e.widget) ≡ lists extent
      → IsListAt r k (record { number = e.number; extent = extent; widgets = child_widgets e.widget; left = left; values = values })
  this_list e k u extent left values of_plan q named has typed is =
      let look : look_of e.widget ≡ sliver_lazy extent = list_look (look_of e.widget) extent is in
      let widget : has.object.widget ≡ e.widget = has.widget ∙ of_plan in
      let drawn_as : object_look has.object ≡ sliver_lazy extent = ap look_of widget ∙ look in
      let same : q.object ≡ has.object = object_is q.object has.object (sym q.stored ∙ ap (object_at r) named ∙ has.stored) in
      let fits : FitMembers d (sliver_lazy extent) = subst (FitMembers d) look (members_of d e.widget typed) in
      record {
        object = has.object;
        stored = has.stored;
        number = ap (λ (o : RenderObject). o.number) (sym same) ∙ q.number;
        look = drawn_as;
        many = ap (λ l. lazy_count (render_role_of l) (child_widgets has.object.widget)) drawn_as ∙ ap (λ w. length (child_widgets w)) widget;
        extent = fits.0;
      }

  itself_or : (role : BuildRole) (k : Handle) (hs : List Handle) (itself : ℕ → WaitingList) (others : List WaitingList) → ((extent : ℕ) → role ≡ lists extent → IsListAt r k (itself extent)) → AreListsAt r hs others
      → AreListsAt r (cond (is_lazy role) (k ∷ []) hs ++ []) (list_or role itself others)
  itself_or (composes place props) k hs itself others is below = subst (λ l. AreListsAt r l others) (sym (append-nil hs)) below
  itself_or (provides name value) k hs itself others is below = subst (λ l. AreListsAt r l others) (sym (append-nil hs)) below
  itself_or (keeps kept) k hs itself others is below = subst (λ l. AreListsAt r l others) (sym (append-nil hs)) below
  itself_or (lists extent) k hs itself others is below = (is extent refl, tt)
  itself_or holds k hs itself others is below = subst (λ l. AreListsAt r l others) (sym (append-nil hs)) below

  list_here : (b : Bool) (e : Element) (u : Redraw) (through below : Forest Redraw) (left : ℕ) (values : List Value) (others : List WaitingList) → vanishes (role_of e) ≡ b → u.widget ≡ e.widget → IsTypedWidget d e.widget
      → Unless b (IsDrawn (object_at r) (scrolled e.number) e) → HaveWidgets r (cond b through (drawn_at e.render u below))
      → (HaveWidgets r through → AreListsAt r (list_handles lists_redraw through) others) → (HaveWidgets r below → AreListsAt r (list_handles lists_redraw below) others)
      → AreListsAt r (list_handles lists_redraw (cond b through (drawn_at e.render u below)))
      (list_or (build_role_of (look_of e.widget)) (λ extent. record { number = e.number; extent = extent; widgets = child_widgets e.widget; left = left; values = values }) others)
  list_here true e u through below left values others v of_plan typed q has go_through go_own =
      subst (AreListsAt r (list_handles lists_redraw through))
      (sym (not_itself (build_role_of (look_of e.widget)) (λ extent. record { number = e.number; extent = extent; widgets = child_widgets e.widget; left = left; values = values }) others (no_list (look_of e.widget) v)))
      (go_through has)
  list_here false e u through below left values others v of_plan typed q has go_through go_own =
      let itself : ℕ → WaitingList = λ extent. record { number = e.number; extent = extent; widgets = child_widgets e.widget; left = left; values = values } in
      let own : drawn_at e.render u below ≡ tree q.handle u below none = ap (λ o. drawn_at o u below) q.named in
      let parts : HaveWidgets r (tree q.handle u below none) = subst (HaveWidgets r) own has in
      let role = build_role_of (look_of e.widget) in
      subst (λ f. AreListsAt r (list_handles lists_redraw f) (list_or role itself others)) (sym own)
      (subst (λ w. AreListsAt r (cond (is_lazy (build_role_of (look_of w))) (q.handle ∷ []) (list_handles lists_redraw below) ++ []) (list_or role itself others)) (sym of_plan)
      (itself_or role q.handle (list_handles lists_redraw below) itself others (λ extent is. this_list e q.handle u extent left values of_plan q refl parts.0 typed is) (go_own parts.1)))

  pub lists_at : (left : ℕ) (values : List Value) (above : RenderRole) (told : Option ParentData) (f : Forest Element) → AreDrawn (object_at r) scrolled f → HaveWidgets r (drawn above told f) → AreWellBuilt d (listed (nodes_of scrolled f))
      → AreListsAt r (list_handles lists_redraw (drawn above told f)) (all_waiting_lists left values (listed (nodes_of scrolled f)))
  lists_at left values above told none q has well = tt
  lists_at left values above told (tree h e kids rest) q has well =
      let parent_data = told_at above told e.index in
      let through = drawn above (Some (told_by above (role_of e) parent_data)) kids in
      let below = drawn (role_of e) None kids in
      let front = cond (vanishes (role_of e)) through (drawn_at e.render (redraw_of e parent_data) below) in
      let later = drawn above told rest in
      let others = all_waiting_lists (left - 1) (values_below e.widget values) (listed (nodes_of scrolled kids)) in
      let here = list_here (vanishes (role_of e)) e (redraw_of e parent_data) through below (left - 1) (values_below e.widget values) others refl refl well.0.0.typed q.0 (have_front r front later has)
      (λ x. lists_at (left - 1) (values_below e.widget values) above (Some (told_by above (role_of e) parent_data)) kids q.1 x well.0.1)
      (λ x. lists_at (left - 1) (values_below e.widget values) (role_of e) None kids q.1 x well.0.1) in
      let own = waiting_lists left values (node e.number e.widget e.fields (scrolled e.number) e.index (listed (nodes_of scrolled kids))) in
      let more = all_waiting_lists left values (listed (nodes_of scrolled rest)) in
      subst (λ l. AreListsAt r l (own ++ more)) (sym (handles_append lists_redraw front later))
      (lists_join r (list_handles lists_redraw front) (list_handles lists_redraw later) own more here (lists_at left values above told rest q.2 (have_back r front later has) well.1))

-- ---- their ranges

mapped_twice : {A B C : Type 0} (f : A → B) (g : B → C) (xs : List A) → map g (map f xs) ≡ map (λ x. g (f x)) xs
mapped_twice f g [] = refl
mapped_twice f g (x ∷ xs) = ap (λ l. g (f x) ∷ l) (mapped_twice f g xs)

ranges_are : (screen : Screen) (n : PlainNode) (r : Tree RenderObject) (ks : List Handle) (ws : List WaitingList) → AreListsAt r ks ws → AreRangedFor screen n ws r → map (range_at r) ks ≡ map (range_for (live_ranges screen n)) ws
ranges_are screen n r [] [] h ranged = refl
ranges_are screen n r [] (w ∷ ws) h ranged = absurd h
ranges_are screen n r (k ∷ ks) [] h ranged = absurd h
ranges_are screen n r (k ∷ ks) (w ∷ ws) h ranged =
    let one = ranged 0 w (omega arith) k h.0 in
    let more = ranges_are screen n r ks ws h.1 (All-tail (λ x. (j : Handle) → IsListAt r j x → range_at r j ≡ live_ranges screen n x.number x.extent (length x.widgets)) w ws ranged) in
    λ i. one i ∷ more i

pub ranged_spots : (screen : Screen) (n : PlainNode) (r : Tree RenderObject) (ks : List Handle) (spots : List WaitingSpot) → AreListsAt r ks (map waiting_of spots) → AreRangedFor screen n (map waiting_of spots) r
    → AreRangesOf (live_ranges screen n) spots (map (range_at r) ks)
ranged_spots screen n r ks spots h ranged = ranges_are screen n r ks (map waiting_of spots) h ranged ∙ mapped_twice waiting_of (range_for (live_ranges screen n)) spots
