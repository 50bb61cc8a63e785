-- The second phase of a build, where its lazy lists have got their items: what the build comes to, and what the grown forest says.
use Rattle.std.proofs.Common.{◌≡◌, ℕ, ◌+◌, nat_lt, Bool, true, false, cond, Option, Some, IfSome, List, [], ◌∷◌, ◌++◌, map, filter, length, refl, sym, ap, ◌∙◌, arith, Decides}
use Rattle.std.specs.List.{All}
use Rattle.std.proofs.lemmas.List.Elements.{All-tail}
use Rattle.fx_handles.specs.declared.Handle.{Handle}
use Rattle.node_tree.specs.Forest.{Forest, tops}
use Rattle.node_tree.specs.Forest.Forest.{none, tree}
use Rattle.node_tree.specs.Plan.{PlanEntry, entries}
use Rattle.widget_model.specs.Plain.{PlainWidget, look_of}
use Rattle.widget_model.specs.Size.{count_of}
use Rattle.plain_tree.specs.declared.render.ParentData.{ParentData}
use Rattle.plain_tree.specs.declared.role.RenderRole.{RenderRole}
use Rattle.plain_tree.specs.PlainNode.{PlainNode, widget_of, no_nodes, more_nodes}
use Rattle.build_form.specs.BuildRole.{BuildRole, composes, provides, keeps, lists, holds, build_role_of, is_lazy}
use Rattle.build_form.specs.Entering.{Blueprint, Basis, first, depth_limit, output_limit}
use Rattle.build_form.specs.FullBuild.{Ranges, Screen, failed, built, built_by, live_ranges, started, basis, both_phases, full_build}
use Rattle.build_form.specs.Partner.{root_arrival}
use Rattle.build_form.specs.Step.{Fault, Progress, Step, stops, gives, and_then, each}
use Rattle.element_tree.specs.Element.{Element}
use Rattle.element_tree.specs.Nodes.{nodes_of}
use Rattle.render_tree.specs.Object.{RenderObject}
use Rattle.render_tree.specs.Redraw.{Redraw}
use Rattle.work_sets.specs.Entered.{entered_widgets, seen_in_both}
use Rattle.work_sets.specs.Members.{is_same_widget}
use Rattle.build_walk.specs.Counting.{is_built, count_after, builds_by_each, builds_from, builds_second, builds_in_both, TellsEntered}
use Rattle.build_walk.specs.Fresh.{IsKnown}
use Rattle.build_walk.specs.Keeping.{reenter, second_again, both_again}
use Rattle.build_walk.specs.Kept.{node_over}
use Rattle.build_walk.specs.Merging.{lists_element, lists_renewal, lists_redraw, Grown, grown_below, grow, list_handles, AreBare}
use Rattle.build_walk.specs.Past.{Pasts}
use Rattle.build_walk.specs.Renewing.{renewals, AllGoOn, drawn, AreDrawn}
use Rattle.build_walk.specs.Serving.{waiting_lists, served, builds_serving, put_in}
use Rattle.build_walk.specs.Standing.{all_builds}
use Rattle.build_walk.specs.Telling.{StoresBelow, StoreOutputs}
use Rattle.build_walk.proofs.Arriving.{holders_known, root_known}
use Rattle.build_walk.proofs.Counting.{both_counted}
use Rattle.build_walk.proofs.Merging.{tops_grown, nodes_grow, drawn_grow}
use Rattle.build_walk.proofs.Rebuilding.{both_same}
use Rattle.build_walk.proofs.Serving.{in_one_pass, counted_in_one_pass}

-- ---- what the build comes to

module _ (b : Blueprint) (pasts : Pasts) (exact : (v w : PlainWidget) → Decides (is_same_widget v w) (v ≡ w)) (old : Option PlainNode) (known : IfSome old (IsKnown b pasts)) (screen : Screen) (next : ℕ) (w : PlainWidget)
    (small : nat_lt output_limit (count_of w) ≡ false) (n : PlainNode) (s : Progress)
    (done : reenter (basis b old) pasts first depth_limit b.defaults (root_arrival old w) (started next) ≡ gives n s) (waits : s.waiting ≡ [] → ⊥) where
  abbrev from : Basis
  from = basis b old

  abbrev ranges : Ranges
  ranges = live_ranges screen n

  -- the items of all lists, put in place
  abbrev all_items : Step PlainNode
  all_items = and_then (each (served from pasts ranges) (waiting_lists depth_limit b.defaults n) s) (λ nss t. gives (put_in n nss).whole t)

  by_waiting : (ws : List (Option PlainNode)) → (ws ≡ [] → ⊥) → second_again from pasts (live_ranges screen) n ws s ≡ all_items
  by_waiting [] some = absurd (some refl)
  by_waiting (p ∷ ps) some = in_one_pass from pasts ranges depth_limit b.defaults n s

  again : both_again from pasts (live_ranges screen) (root_arrival old w) (started next) ≡ all_items
  unfolding both_again
  again = ap (λ r. and_then r (λ tree s1. second_again from pasts (live_ranges screen) tree s1.waiting s1)) done ∙ by_waiting s.waiting waits

  both_are : both_phases from (live_ranges screen) (root_arrival old w) (started next) ≡ all_items
  both_are = sym (both_same b pasts exact old known (live_ranges screen) w next) ∙ again

  full_is : full_build b screen old next w ≡ built_by all_items
  unfolding full_build
  full_is = rw small (ap built_by both_are)

  pub items_done : (nss : List (List PlainNode)) (t : Progress) → each (served from pasts ranges) (waiting_lists depth_limit b.defaults n) s ≡ gives nss t
      → full_build b screen old next w ≡ built (put_in n nss).whole t.next
  items_done nss t is = full_is ∙ ap (λ r. built_by (and_then r (λ ms u. gives (put_in n ms).whole u))) is

  pub items_stop : (f : Fault) → each (served from pasts ranges) (waiting_lists depth_limit b.defaults n) s ≡ stops f → full_build b screen old next w ≡ failed f
  items_stop f is = full_is ∙ ap (λ r. built_by (and_then r (λ ms u. gives (put_in n ms).whole u))) is

  -- ---- how many components it builds

  count_waiting : (ws : List (Option PlainNode)) → (ws ≡ [] → ⊥) → builds_second from pasts (live_ranges screen) n ws s ≡ builds_by_each (served from pasts ranges) (builds_serving from pasts ranges) (waiting_lists depth_limit b.defaults n) s
  count_waiting [] some = absurd (some refl)
  count_waiting (p ∷ ps) some = counted_in_one_pass from pasts ranges depth_limit b.defaults n s

  module _ (marks : List ℕ) (tells : TellsEntered pasts b.defaults old marks next) (firstly : ℕ) (first_is : builds_from from pasts first depth_limit b.defaults (root_arrival old w) (started next) ≡ firstly) where
    both_built : builds_in_both from pasts (live_ranges screen) (root_arrival old w) (started next) ≡ firstly + builds_by_each (served from pasts ranges) (builds_serving from pasts ranges) (waiting_lists depth_limit b.defaults n) s
    unfolding builds_in_both
    both_built =
        (λ i. first_is i + count_after (done i) (λ tree s1. builds_second from pasts (live_ranges screen) tree s1.waiting s1))
        ∙ ap (λ m. firstly + m) (count_waiting s.waiting waits)

    entered_as : entered_widgets b screen old next w ≡ seen_in_both from (live_ranges screen) (root_arrival old w) (started next)
    unfolding entered_widgets
    entered_as = rw small refl

    pub items_counted : all_builds b screen old marks next w ≡ firstly + builds_by_each (served from pasts ranges) (builds_serving from pasts ranges) (waiting_lists depth_limit b.defaults n) s
    items_counted =
        ap (λ es. length (filter (is_built b.defaults old marks) es)) entered_as
        ∙ sym (both_counted from pasts exact (holders_known b pasts old known) next old marks tells.tells tells.unknown (live_ranges screen) (root_arrival old w) (started next) (root_known b pasts old w known) (tt, omega arith))
        ∙ both_built

-- the node that grows
pub node_grown : (scrolled : ℕ → ℕ) (h : Handle) (e : Element) (kids : Forest Element) (gs : List (Forest Element))
    → (put_in (node_over scrolled e kids) (map (nodes_of scrolled) gs)).whole ≡ node_over scrolled e (grown_below (lists_element e) gs (grow lists_element kids gs)).forest
node_grown scrolled h e kids gs = only (ap (λ p. p.whole) (nodes_grow scrolled (tree h e kids none) gs))
  where
    only : {x y : PlainNode} → more_nodes x no_nodes ≡ more_nodes y no_nodes → x ≡ y
    only q = cc

-- ---- what the forest that grows says

-- so it is of each of some forests
abbrev Each : (Forest Element → Type 0) → List (Forest Element) → Type 0
Each P [] = Unit {0}
Each P (g ∷ gs) = P g × Each P gs

each_of : (P : Forest Element → Type 0) (gs : List (Forest Element)) → All P gs → Each P gs
each_of P [] all = tt
each_of P (g ∷ gs) all = (all 0 g (omega arith), each_of P gs (All-tail P g gs all))

Good : (Forest Element → Type 0) → Grown Element → Type 0
Good P x = P x.forest × Each P x.rest

below_good : (P : Forest Element → Type 0) → P none → (t : Bool) (gs : List (Forest Element)) (others : Grown Element) → Good P others → Each P gs → Good P (grown_below t gs others)
unfolding Good
below_good P empty true [] others h e = (empty, tt)
below_good P empty true (g ∷ gs) others h e = e
below_good P empty false gs others h e = h

go_grown : (at : Handle → Option Element) (f : Forest Element) (gs : List (Forest Element)) → AllGoOn at f → Each (AllGoOn at) gs → Good (AllGoOn at) (grow lists_element f gs)
unfolding Good
go_grown at none gs a e = (tt, e)
go_grown at (tree h v kids rest) gs a e =
    let below = below_good (AllGoOn at) tt (lists_element v) gs (grow lists_element kids gs) (go_grown at kids gs a.1 e) e in
    let later = go_grown at rest (grown_below (lists_element v) gs (grow lists_element kids gs)).rest a.2 below.1 in
    ((a.0, below.0, later.0), later.1)

pub all_go_on : (at : Handle → Option Element) (f : Forest Element) (gs : List (Forest Element)) → AllGoOn at f → All (AllGoOn at) gs → AllGoOn at (grow lists_element f gs).forest
unfolding Good
all_go_on at f gs a all = (go_grown at f gs a (each_of (AllGoOn at) gs all)).0

drawn_grown : (at : Handle → Option RenderObject) (scrolled : ℕ → ℕ) (f : Forest Element) (gs : List (Forest Element)) → AreDrawn at scrolled f → Each (AreDrawn at scrolled) gs → Good (AreDrawn at scrolled) (grow lists_element f gs)
unfolding Good
drawn_grown at scrolled none gs a e = (tt, e)
drawn_grown at scrolled (tree h v kids rest) gs a e =
    let below = below_good (AreDrawn at scrolled) tt (lists_element v) gs (grow lists_element kids gs) (drawn_grown at scrolled kids gs a.1 e) e in
    let later = drawn_grown at scrolled rest (grown_below (lists_element v) gs (grow lists_element kids gs)).rest a.2 below.1 in
    ((a.0, below.0, later.0), later.1)

pub all_drawn : (at : Handle → Option RenderObject) (scrolled : ℕ → ℕ) (f : Forest Element) (gs : List (Forest Element)) → AreDrawn at scrolled f → All (AreDrawn at scrolled) gs
    → AreDrawn at scrolled (grow lists_element f gs).forest
unfolding Good
all_drawn at scrolled f gs a all = (drawn_grown at scrolled f gs a (each_of (AreDrawn at scrolled) gs all)).0

module _ (scrolled : ℕ → ℕ) where
  widgets_grown : (f : Forest Element) (gs : List (Forest Element)) → map widget_of (nodes_of scrolled (grow lists_element f gs).forest) ≡ map widget_of (nodes_of scrolled f)
  widgets_grown none gs = refl
  widgets_grown (tree h e kids rest) gs = ap (λ l. e.widget ∷ l) (widgets_grown rest (grown_below (lists_element e) gs (grow lists_element kids gs)).rest)

  stores_grown : (r : BuildRole) (e : Element) (kids : Forest Element) (gs : List (Forest Element)) → StoresBelow r e (nodes_of scrolled kids)
      → StoresBelow r e (nodes_of scrolled (grown_below (is_lazy r) gs (grow lists_element kids gs)).forest)
  stores_grown (composes place props) e kids gs s = λ clean. s clean ∙ sym (widgets_grown kids gs)
  stores_grown (provides name value) e kids gs s = tt
  stores_grown (keeps kept) e kids gs s = tt
  stores_grown (lists extent) e kids gs s = tt
  stores_grown holds e kids gs s = tt

  outputs_grown : (f : Forest Element) (gs : List (Forest Element)) → StoreOutputs scrolled f → Each (StoreOutputs scrolled) gs → Good (StoreOutputs scrolled) (grow lists_element f gs)
  unfolding Good
  outputs_grown none gs a e = (tt, e)
  outputs_grown (tree h v kids rest) gs a e =
      let below = below_good (StoreOutputs scrolled) tt (lists_element v) gs (grow lists_element kids gs) (outputs_grown kids gs a.1 e) e in
      let later = outputs_grown rest (grown_below (lists_element v) gs (grow lists_element kids gs)).rest a.2 below.1 in
      ((stores_grown (build_role_of (look_of v.widget)) v kids gs a.0, below.0, later.0), later.1)

  pub all_stored : (f : Forest Element) (gs : List (Forest Element)) → StoreOutputs scrolled f → All (StoreOutputs scrolled) gs → StoreOutputs scrolled (grow lists_element f gs).forest
  unfolding Good
  all_stored f gs a all = (outputs_grown f gs a (each_of (StoreOutputs scrolled) gs all)).0

-- its render nodes have the tops that they had
pub drawn_tops : (at : Handle → Option RenderObject) (scrolled : ℕ → ℕ) (above : RenderRole) (told : Option ParentData) (f : Forest Element) (gs : List (Forest Element)) → AreDrawn at scrolled f
    → tops (drawn above told (grow lists_element f gs).forest) ≡ tops (drawn above told f)
drawn_tops at scrolled above told f gs are =
    sym (ap (λ (x : Grown Redraw). tops x.forest) (drawn_grow at scrolled above told f gs are)) ∙ tops_grown lists_redraw (drawn above told f) _

-- the lists have the handles of their elements
pub handles_renewed : (f : Forest Element) → list_handles lists_renewal (renewals f) ≡ list_handles lists_element f
handles_renewed none = refl
handles_renewed (tree h e kids rest) = λ i. cond (lists_element e) (h ∷ []) (handles_renewed kids i) ++ handles_renewed rest i

-- those of a plan, where nothing is below a list
module _ {U : Type 0} (test : U → Bool) where
  abbrev pub listed_in : List (PlanEntry U) → List Handle
  listed_in es = map (λ e. e.at) (filter (λ e. test e.update) es)

  listed_append : (xs ys : List (PlanEntry U)) → listed_in (xs ++ ys) ≡ listed_in xs ++ listed_in ys
  listed_append [] ys = refl
  listed_append (x ∷ xs) ys = by_test (test x.update) (listed_append xs ys)
    where
      by_test : (t : Bool) → listed_in (xs ++ ys) ≡ listed_in xs ++ listed_in ys → map (λ e. e.at) (cond t (x ∷ filter (λ e. test e.update) (xs ++ ys)) (filter (λ e. test e.update) (xs ++ ys)))
          ≡ map (λ e. e.at) (cond t (x ∷ filter (λ e. test e.update) xs) (filter (λ e. test e.update) xs)) ++ listed_in ys
      by_test true e = ap (λ l. x.at ∷ l) e
      by_test false e = e

  pub listed_handles : (p : Option Handle) (d : Forest U) → AreBare test d → listed_in (entries p d) ≡ list_handles test d
  listed_handles p none bare = refl
  listed_handles p (tree h u kids rest) bare =
      listed_append (entries (Some h) kids) (record { at = h; parent = p; children = tops kids; update = u } ∷ entries p rest)
      ∙ by_test (test u) refl (listed_handles (Some h) kids bare.1) (listed_handles p rest bare.2)
    where
      by_test : (t : Bool) → test u ≡ t → listed_in (entries (Some h) kids) ≡ list_handles test kids → listed_in (entries p rest) ≡ list_handles test rest → listed_in (entries (Some h) kids)
          ++ map (λ e. e.at) (cond t (record { at = h; parent = p; children = tops kids; update = u } ∷ filter (λ e. test e.update) (entries p rest)) (filter (λ e. test e.update) (entries p rest)))
          ≡ cond t (h ∷ []) (list_handles test kids) ++ list_handles test rest
      by_test true is below later = ap (λ k. listed_in (entries (Some h) k) ++ (h ∷ listed_in (entries p rest))) (bare.0 is) ∙ ap (λ l. h ∷ l) later
      by_test false is below later = λ i. below i ++ later i
