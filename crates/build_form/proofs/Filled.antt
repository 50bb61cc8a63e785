-- The second phase, step by step.
use Rattle.std.proofs.Common.{◌≡◌, ℕ, suc, ◌+◌, ◌-◌, ◌<◌, ◌≤◌, Bool, true, false, cond, Option, List, [], ◌∷◌, length, map, drop, drop-cons, get_or, set, slice_get, refl, sym, ap, ◌∙◌, subst, arith}
use Rattle.std.specs.List.{All}
use Rattle.std.proofs.lemmas.List.{length-map, drop-set-lt, get_or-drop}
use Rattle.std.proofs.lemmas.Grind.{drop_more_same}
use Rattle.fx_expr.specs.declared.values.Value.{Value}
use Rattle.fx_expr.specs.declared.values.Ty.{Ty}
use Rattle.widget_keys.specs.declared.keys.Key.{Key}
use Rattle.widget_model.specs.Look.{Look, inherit}
use Rattle.widget_model.specs.Plain.{PlainWidget, plain, Widgets, look_of}
use Rattle.widget_model.specs.Plain.{children_of as child_widgets}
use Rattle.widget_model.specs.Typed.{Declarations, sort_of, FitMembers, IsTypedWidget}
use Rattle.reconcile.specs.Keys.{NoKeyRepeats}
use Rattle.sliver_layout.specs.declared.protocol.Window.{Window}
use Rattle.plain_tree.specs.PlainNode.{PlainNode, node, PlainNodes, more_nodes, nodes_of, widget_of}
use Rattle.plain_tree.specs.PlainNode.{list_of as nodes_in}
use Rattle.build_form.specs.Step.{Fault, Progress, Step, stops, gives, and_then, each}
use Rattle.build_form.specs.BuildRole.{BuildRole, composes, provides, keeps, lists, holds, build_role_of, is_lazy}
use Rattle.build_form.specs.Partner.{Arrival, arrivals, widgets_below}
use Rattle.build_form.specs.Entering.{Basis, second, values_below, enter}
use Rattle.build_form.specs.FullBuild.{next_waiting, one_served, items, items_entered, if_lazy, filled, all_filled}
use Rattle.build_form.specs.WellBuilt.{FitBelow, sorts_in, IsWellBuilt, AreWellBuilt, AreWaiting}
use Rattle.build_form.specs.Filling.{AreBoxes, FitsNames}
use Rattle.widget_model.specs.declared.widgets.Widget.{Widget}
use Rattle.widget_model.specs.View.{plain_of, look_in}
use Rattle.widget_model.specs.PlainLaws.{list_of-widgets_of}
use Rattle.build_form.specs.declared.roles.BuildRole.{BuildRole as RoleOfKind}
use Rattle.build_form.specs.declared.roles.BuildRole.TheVariants as role
use Rattle.build_form.specs.RoleView.{plain_role}
use Rattle.build_form.proofs.Below.{list_of-nodes_of}
use Rattle.build_form.proofs.Entered.{all_cons, all_built, sorts_same}

-- what was filled so far, with what is left, is the whole
pub record FilledSoFar (d : Declarations) (values start : List Value) (i : ℕ) (nodes old : List PlainNode) (waits : List (Option PlainNode)) (whole rest : Step (List PlainNode)) : Type 0 where
  pub steps : whole ≡ rest
  pub others : drop i nodes ≡ drop i old
  pub values_same : values ≡ start
  pub waiting : AreWaiting d waits
  pub built : All (IsWellBuilt d) nodes
  pub widgets_same : map widget_of nodes ≡ map widget_of old

pub as_nodes : Step (List PlainNode) → Step PlainNodes
as_nodes (stops f) = stops f
as_nodes (gives ns s) = gives (nodes_of ns) s

joined : (m : PlainNode) (r : Step (List PlainNode)) → and_then (as_nodes r) (λ ms s2. gives (more_nodes m ms) s2) ≡ as_nodes (and_then r (λ ms s2. gives (m ∷ ms) s2))
unfolding as_nodes
joined m (stops f) = refl
joined m (gives ms s) = refl

module _ (from : Basis) (ranges : ℕ → ℕ → ℕ → Window) (left : ℕ) (values : List Value) where
  by_step : (r : Step PlainNode) (ns : List PlainNode) (later : Progress → Step PlainNodes) → ((s : Progress) → later s ≡ as_nodes (each (filled from ranges left values) ns s))
      → and_then r (λ m s1. and_then (later s1) (λ ms s2. gives (more_nodes m ms) s2)) ≡ as_nodes (and_then r (λ m s1. and_then (each (filled from ranges left values) ns s1) (λ ms s2. gives (m ∷ ms) s2)))
  unfolding as_nodes
  by_step (stops f) ns later same = refl
  by_step (gives m s) ns later same = ap (λ r. and_then r (λ ms s2. gives (more_nodes m ms) s2)) (same s) ∙ joined m (each (filled from ranges left values) ns s)

  -- the nodes of a list are filled one after another
  pub all_one_by_one : (ns : List PlainNode) (s : Progress) → all_filled from ranges left values (nodes_of ns) s ≡ as_nodes (each (filled from ranges left values) ns s)
  unfolding all_filled as_nodes
  all_one_by_one [] s = refl
  all_one_by_one (n ∷ ns) s = by_step (filled from ranges left values n s) ns (all_filled from ranges left values (nodes_of ns)) (all_one_by_one ns)

  pub all_given : (ns ms : List PlainNode) (s t : Progress) → each (filled from ranges left values) ns s ≡ gives ms t → all_filled from ranges left values (nodes_of ns) s ≡ gives (nodes_of ms) t
  unfolding as_nodes
  all_given ns ms s t e = all_one_by_one ns s ∙ ap as_nodes e

  pub all_stopped : (ns : List PlainNode) (s : Progress) (f : Fault) → each (filled from ranges left values) ns s ≡ stops f → all_filled from ranges left values (nodes_of ns) s ≡ stops f
  unfolding as_nodes
  all_stopped ns s f e = all_one_by_one ns s ∙ ap as_nodes e

  module _ (number : ℕ) (w : PlainWidget) (fields : List Value) (scroll index : ℕ) (ch : PlainNodes) (s : Progress) where
    go_on : Step PlainNodes → Step PlainNode
    go_on r = and_then r (λ ns s1. gives (node number w fields scroll index ns) s1)

    module _ (extent : ℕ) (is : build_role_of (look_of w) ≡ lists extent) (ws : List PlainWidget) (own : ws ≡ child_widgets w) where
      lazy_is : filled from ranges left values (node number w fields scroll index ch) s ≡ go_on (items_entered from (left - 1) (values_below w values) (ranges number extent) ws s)
      unfolding filled go_on
      lazy_is =
          let below = values_below w values in
          ap (λ p. and_then (if_lazy p (λ e s1. items_entered from (left - 1) below (ranges number e) (child_widgets w) s1) (λ s1. all_filled from ranges (left - 1) below ch s1) s) (λ ns s1. gives (node number w fields scroll index ns) s1)) is
          ∙ ap (λ l. go_on (items_entered from (left - 1) below (ranges number extent) l s)) (sym own)

      pub lazy_filled : (ns : PlainNodes) (t : Progress) → items_entered from (left - 1) (values_below w values) (ranges number extent) ws s ≡ gives ns t → filled from ranges left values (node number w fields scroll index ch) s ≡ gives (node number w fields scroll index ns) t
      unfolding go_on
      lazy_filled ns t e = lazy_is ∙ ap go_on e

      pub lazy_stopped : (f : Fault) → items_entered from (left - 1) (values_below w values) (ranges number extent) ws s ≡ stops f → filled from ranges left values (node number w fields scroll index ch) s ≡ stops f
      unfolding go_on
      lazy_stopped f e = lazy_is ∙ ap go_on e

    if_other : (p : BuildRole) (itemized : ℕ → Progress → Step PlainNodes) (others : Progress → Step PlainNodes) → ((e : ℕ) → p ≡ lists e → ⊥) → if_lazy p itemized others s ≡ others s
    if_other (composes place props) itemized others not = refl
    if_other (provides name value) itemized others not = refl
    if_other (keeps kept) itemized others not = refl
    if_other (lists extent) itemized others not = absurd (not extent refl)
    if_other holds itemized others not = refl

    module _ (not : (e : ℕ) → build_role_of (look_of w) ≡ lists e → ⊥) where
      other_is : filled from ranges left values (node number w fields scroll index ch) s ≡ go_on (all_filled from ranges (left - 1) (values_below w values) ch s)
      unfolding filled go_on
      other_is =
          ap (λ r. and_then r (λ ns s1. gives (node number w fields scroll index ns) s1))
          (if_other (build_role_of (look_of w)) (λ e s1. items_entered from (left - 1) (values_below w values) (ranges number e) (child_widgets w) s1) (λ s1. all_filled from ranges (left - 1) (values_below w values) ch s1) not)

      pub other_filled : (ns : PlainNodes) (t : Progress) → all_filled from ranges (left - 1) (values_below w values) ch s ≡ gives ns t → filled from ranges left values (node number w fields scroll index ch) s ≡ gives (node number w fields scroll index ns) t
      unfolding go_on
      other_filled ns t e = other_is ∙ ap go_on e

      pub other_stopped : (f : Fault) → all_filled from ranges (left - 1) (values_below w values) ch s ≡ stops f → filled from ranges left values (node number w fields scroll index ch) s ≡ stops f
      unfolding go_on
      other_stopped f e = other_is ∙ ap go_on e

-- ---- the items of a lazy list

module _ (from : Basis) (left : ℕ) (values : List Value) (range : ℕ → Window) (ws : List PlainWidget) (s : Progress) (arriving : List Arrival) (u : Progress)
    (here : arriving ≡ items (range (length ws)) (arrivals (next_waiting s.waiting) ws)) (served : u ≡ one_served s) where
  items_are : items_entered from left values range ws s ≡ and_then (each (enter from second left values) arriving u) (λ ns s1. gives (nodes_of ns) s1)
  items_are =
      ap (λ l. and_then (each (enter from second left values) l (one_served s)) (λ ns s1. gives (nodes_of ns) s1)) (sym here)
      ∙ ap (λ v. and_then (each (enter from second left values) arriving v) (λ ns s1. gives (nodes_of ns) s1)) (sym served)

  pub items_given : (ns : List PlainNode) (t : Progress) → each (enter from second left values) arriving u ≡ gives ns t → items_entered from left values range ws s ≡ gives (nodes_of ns) t
  items_given ns t e = items_are ∙ ap (λ r. and_then r (λ ms s1. gives (nodes_of ms) s1)) e

  pub items_stopped : (f : Fault) → each (enter from second left values) arriving u ≡ stops f → items_entered from left values range ws s ≡ stops f
  items_stopped f e = items_are ∙ ap (λ r. and_then r (λ ms s1. gives (nodes_of ms) s1)) e

-- ---- a node whose children are filled is well built

module _ (d : Declarations) (number : ℕ) (w : PlainWidget) (fields : List Value) (scroll index : ℕ) (ch : PlainNodes) (was : IsWellBuilt d (node number w fields scroll index ch)) where
  pub lazy_built : (extent : ℕ) (ns : List PlainNode) → build_role_of (look_of w) ≡ lists extent → All (IsWellBuilt d) ns → AreBoxes d ns → IsWellBuilt d (node number w fields scroll index (nodes_of ns))
  lazy_built extent ns is all boxes =
      let lazy : is_lazy (build_role_of (look_of w)) ≡ true = ap is_lazy is in
      let before : widgets_below (node number w fields scroll index ch) ≡ child_widgets w = rw lazy refl in
      let after : widgets_below (node number w fields scroll index (nodes_of ns)) ≡ child_widgets w = rw lazy refl in (
        record {
          typed = was.0.typed;
          suited = was.0.suited;
          apart = subst NoKeyRepeats (before ∙ sym after) was.0.apart;
          fits = subst (λ ms. FitBelow d (look_of w) (build_role_of (look_of w)) (sorts_in d ms)) (sym (list_of-nodes_of ns)) (subst (λ p. FitBelow d (look_of w) p (sorts_in d ns)) (sym is) boxes);
        },
        all_built d ns all,
      )

  below_kept : (b : Bool) (us vs ws : List PlainWidget) → vs ≡ ws → cond b us vs ≡ cond b us ws
  below_kept true us vs ws e = refl
  below_kept false us vs ws e = e

  pub other_built : (old ns : List PlainNode) → ch ≡ nodes_of old → map widget_of ns ≡ map widget_of old → AreWellBuilt d (nodes_of ns) → IsWellBuilt d (node number w fields scroll index (nodes_of ns))
  other_built old ns is same all =
      let children : map widget_of (nodes_in (nodes_of ns)) ≡ map widget_of (nodes_in ch) = ap (map widget_of) (list_of-nodes_of ns) ∙ same ∙ sym (ap (map widget_of) (ap nodes_in is ∙ list_of-nodes_of old)) in
      let sorts : sorts_in d (nodes_in (nodes_of ns)) ≡ sorts_in d (nodes_in ch) = sorts_same d (nodes_in (nodes_of ns)) ∙ ap (map (sort_of d)) children ∙ sym (sorts_same d (nodes_in ch)) in (
        record {
          typed = was.0.typed;
          suited = was.0.suited;
          apart = subst NoKeyRepeats (sym (below_kept (is_lazy (build_role_of (look_of w))) (child_widgets w) _ _ children)) was.0.apart;
          fits = subst (FitBelow d (look_of w) (build_role_of (look_of w))) (sym sorts) was.0.fits;
        },
        all,
      )

-- ---- what was filled so far

pub all_of : (d : Declarations) (ns : List PlainNode) → AreWellBuilt d (nodes_of ns) → All (IsWellBuilt d) ns
all_of d [] h = λ k e low. absurd (omega arith)
all_of d (n ∷ ns) h = all_cons (IsWellBuilt d) n ns h.0 (all_of d ns h.1)

-- a node of those that are left is as it was
pub still : (nodes old : List PlainNode) (i : ℕ) (d : PlainNode) → drop i nodes ≡ drop i old → i < length nodes → i < length old → get_or nodes i d ≡ get_or old i d
still nodes old i d e low also =
    let head : get_or nodes i d ∷ drop (suc i) nodes ≡ get_or old i d ∷ drop (suc i) old = sym (drop-cons nodes i d low) ∙ e ∙ drop-cons old i d also in
    cc

pub same_length : (nodes old : List PlainNode) → map widget_of nodes ≡ map widget_of old → length nodes ≡ length old
same_length nodes old e = sym (length-map nodes widget_of) ∙ ap length e ∙ length-map old widget_of

pub filled_more : (nodes old new : List PlainNode) (i : ℕ) (x : PlainNode) → new ≡ set nodes i x → drop i nodes ≡ drop i old → drop (i + 1) new ≡ drop (i + 1) old
filled_more nodes old new i x is e = ap (drop (i + 1)) is ∙ drop-set-lt (i + 1) nodes i x (omega arith) ∙ drop_more_same nodes old i e

-- ---- values below a node

fits_look : (d : Declarations) (look : Look) (types : List Ty) → types ≡ d.inherited → FitMembers d look → FitsNames types (build_role_of look)
fits_look d (inherit name value) types e h = ap (λ ts. slice_get ts name) e ∙ h
fits_look d _ types e h = tt

pub fits_names : (d : Declarations) (look : Look) (k : Key Value) (slots ch : Widgets) (types : List Ty) → IsTypedWidget d (plain look k slots ch) → types ≡ d.inherited → FitsNames types (build_role_of look)
fits_names d look k slots ch types typed e = fits_look d look types e typed.members

-- ---- the same as the code says it

-- a kind that is no lazy list, as the program tells it
pub not_lists : (r : RoleOfKind) → ((extent : ℕ) → r ≡ role.Lists extent → ⊥) → (extent : ℕ) → plain_role r ≡ lists extent → ⊥
not_lists (role.Composes place props slots) not e is = cc
not_lists (role.Provides name value) not e is = cc
not_lists (role.Keeps kept) not e is = cc
not_lists (role.Lists extent) not e is = not extent refl
not_lists role.Holds not e is = cc

module _ (from : Basis) (ranges : ℕ → ℕ → ℕ → Window) (left k : ℕ) (values : List Value) (n : PlainNode) (number : ℕ) (w v : Widget) (fields : List Value) (scroll index : ℕ) (ch : PlainNodes) (s : Progress)
    (is_node : node number (plain_of w) fields scroll index ch ≡ n) (one_less : k ≡ left - 1) (same : v ≡ w) where
  module _ (extent : ℕ) (is : build_role_of (look_in w.kind) ≡ lists extent) where
    itemized_is : items_entered from (left - 1) (values_below (plain_of w) values) (ranges number extent) w.children s ≡ items_entered from k (values_below (plain_of v) values) (ranges number extent) v.children s
    itemized_is =
        sym (ap (λ j. items_entered from j (values_below (plain_of w) values) (ranges number extent) w.children s) one_less)
        ∙ ap (λ (x : Widget). items_entered from k (values_below (plain_of x) values) (ranges number extent) x.children s) (sym same)

    pub lazy_gives : (ns : PlainNodes) (t : Progress) → items_entered from k (values_below (plain_of v) values) (λ count. ranges number extent count) v.children s ≡ gives ns t
        → filled from ranges left values n s ≡ gives (node number (plain_of w) fields scroll index ns) t
    lazy_gives ns t e =
        sym (ap (λ m. filled from ranges left values m s) is_node)
        ∙ lazy_filled from ranges left values number (plain_of w) fields scroll index ch s extent is w.children (sym (list_of-widgets_of w.children)) ns t (itemized_is ∙ e)

    pub lazy_stops : (f : Fault) → items_entered from k (values_below (plain_of v) values) (λ count. ranges number extent count) v.children s ≡ stops f → filled from ranges left values n s ≡ stops f
    lazy_stops f e =
        sym (ap (λ m. filled from ranges left values m s) is_node)
        ∙ lazy_stopped from ranges left values number (plain_of w) fields scroll index ch s extent is w.children (sym (list_of-widgets_of w.children)) f (itemized_is ∙ e)

  module _ (not : (e : ℕ) → build_role_of (look_in w.kind) ≡ lists e → ⊥) (vs : List Value) (below : vs ≡ values_below (plain_of v) values) (xs : List PlainNode) (children : ch ≡ nodes_of xs) where
    others_are : all_filled from ranges (left - 1) (values_below (plain_of w) values) ch s ≡ all_filled from ranges k vs (nodes_of xs) s
    others_are =
        sym (ap (λ j. all_filled from ranges j (values_below (plain_of w) values) ch s) one_less)
        ∙ ap (λ (x : Widget). all_filled from ranges k (values_below (plain_of x) values) ch s) (sym same)
        ∙ sym (ap (λ l. all_filled from ranges k l ch s) below)
        ∙ ap (λ c. all_filled from ranges k vs c s) children

    pub others_give : (ns : PlainNodes) (t : Progress) → all_filled from ranges k vs (nodes_of xs) s ≡ gives ns t → filled from ranges left values n s ≡ gives (node number (plain_of w) fields scroll index ns) t
    others_give ns t e =
        sym (ap (λ m. filled from ranges left values m s) is_node)
        ∙ other_filled from ranges left values number (plain_of w) fields scroll index ch s not ns t (others_are ∙ e)

    pub others_stop : (f : Fault) → all_filled from ranges k vs (nodes_of xs) s ≡ stops f → filled from ranges left values n s ≡ stops f
    others_stop f e =
        sym (ap (λ m. filled from ranges left values m s) is_node)
        ∙ other_stopped from ranges left values number (plain_of w) fields scroll index ch s not f (others_are ∙ e)

-- ---- the nodes that are left are as they were

pub unvisited : (nodes old : List PlainNode) (i : ℕ) → drop i nodes ≡ drop i old → (k : ℕ) (d : PlainNode) → i ≤ k → get_or nodes k d ≡ get_or old k d
unvisited nodes old i e k d h =
    let at : i + (k - i) ≡ k = omega arith in
    sym (ap (λ m. get_or nodes m d) at) ∙ sym (get_or-drop i nodes (k - i) d) ∙ ap (λ l. get_or l (k - i) d) e ∙ get_or-drop i old (k - i) d ∙ ap (λ m. get_or old m d) at
