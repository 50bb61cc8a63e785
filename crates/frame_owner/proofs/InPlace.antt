-- A component is built in its place, and where that gives an Inherit another value, those that read it: what stands then, or what is left to build.
use Rattle.std.proofs.Common.{◌≡◌, ℕ, zero, suc, ◌+◌, true, Option, Some, None, option_map, List, [], ◌∷◌, length, map, refl, sym, ap, subst, ◌∙◌, inl, inr, arith}
use Rattle.std.specs.List.{All}
use Rattle.std.proofs.lemmas.Bool.{and_parts}
use Rattle.std.proofs.lemmas.List.Elements.{All-head, All-tail}
use Rattle.fx_handles.specs.declared.Handle.{Handle}
use Rattle.fx_handles.specs.Handle.{AreDistinct}
use Rattle.node_tree.specs.Forest.{TreeNode, Forest, Stands, plain_node, plain, below}
use Rattle.node_tree.specs.Forest.Forest.{none, tree}
use Rattle.node_tree.specs.Tree.{Tree, Is, node_at as stored_at, subtree_at}
use Rattle.node_tree.proofs.Children.{below-stands}
use Rattle.node_tree.proofs.TreeLemmas.{Holds-from_Is}
use Rattle.widget_model.specs.Plain.{PlainWidget}
use Rattle.widget_model.specs.Typed.{Declarations}
use Rattle.program_check.specs.Checked.{PlainChecked}
use Rattle.template_build.specs.Program.{declarations_of}
use Rattle.plain_tree.specs.At.{node_at, node_in}
use Rattle.plain_tree.specs.Laws.{VanishAlone}
use Rattle.plain_tree.specs.PlainNode.{PlainNode, PlainNodes, list_of, widget_of, nodes_of as listed}
use Rattle.plain_tree.specs.Projection.{render_of}
use Rattle.plain_tree.specs.Render.{renders_of}
use Rattle.reconcile.specs.Matching.{matching}
use Rattle.build_form.specs.Entering.{Blueprint}
use Rattle.build_form.specs.FullBuild.{Screen, failed, first_tree, full_build}
use Rattle.build_form.specs.Step.{Fault}
use Rattle.build_form.specs.Program.{blueprint_of}
use Rattle.build_form.specs.WellBuilt.{IsWellBuilt}
use Rattle.element_tree.specs.Element.{Element, number_at}
use Rattle.element_tree.specs.Nodes.{nodes_of}
use Rattle.global_keys.specs.Holders.{Registry}
use Rattle.global_keys.specs.Named.{NamesExactly}
use Rattle.work_sets.specs.Work.{made_first}
use Rattle.build_walk.specs.Standing.{all_builds}
use Rattle.settled_builds.specs.Looks.{look_after}
use Rattle.settled_builds.specs.Places.{NodePlace}
use Rattle.settled_builds.specs.Rearranged.{each_looks, each_order, all_rearranged, order_after, looks_in, orders_in, drawn_in}
use Rattle.settled_builds.specs.Regiven.{regiven, ReadTheirNames, CanRegive}
use Rattle.settled_builds.specs.Retaken.{gathered, retaken}
use Rattle.settled_builds.specs.Settled.{IsReadyTree}
use Rattle.settled_builds.specs.Steps.{Leads, IsFirstMarked, CanTakeAnew, without}
use Rattle.build_owner.specs.Standing.{next_at}
use Rattle.build_owner.proofs.Elements.{live_stored}
use Rattle.kept_builds.specs.Standing.{NumbersOnce}
use Rattle.kept_builds.proofs.Places.{in_list}
use Rattle.renewed_builds.specs.Regiving.{IsToRegive, IsRegiven, marks_then, name_given}
use Rattle.renewed_builds.specs.Renewing.{Change, can_take_drawn, changes_of}
use Rattle.renewed_builds.specs.Several.{Given, CanTake, all_changes, all_looks, all_orders, IsStaleTree, KeepsElements, AreRenewed, AreLeft}
use Rattle.renewed_builds.specs.Stale.{IsStaleElement, IsRenewed, IsLeftToBuild}
use Rattle.frame_owner.specs.InPlace.{AreToldChanges, BuildsInPlace, LeavesInPlace, CannotBuildInPlace}
use Rattle.frame_owner.proofs.Component.{agree, at_component, elements_apart}
use Rattle.frame_owner.proofs.Redrawn.{keeps_all, keeps_on, renewed_keeps, stored_keeps}
use Rattle.frame_owner.proofs.Told.{append_told, told_are}

-- ---- laws of settled_builds

abbrev pub FirstsAreNodes : Type 0
FirstsAreNodes = (b : Blueprint) (marks : List ℕ) (wanted : ℕ) (tree : PlainNode) (p : NodePlace) → IsFirstMarked b marks wanted tree p → node_at wanted tree ≡ Some p.node

abbrev pub StepsAreReady : Type 0
StepsAreReady =
    (b : Blueprint) (marks : List ℕ) (wanted next : ℕ) (root : PlainWidget) (tree : PlainNode) (p : NodePlace) (ws : List PlainWidget) → IsReadyTree b marks next root tree → IsFirstMarked b marks wanted tree p → CanTakeAnew b ws p
    → IsReadyTree b (without wanted marks) next root (retaken ws wanted tree)

abbrev pub StepsLead : Type 0
StepsLead =
    (b : Blueprint) (marks : List ℕ) (wanted next : ℕ) (root : PlainWidget) (tree : PlainNode) (p : NodePlace) (ws : List PlainWidget) → IsReadyTree b marks next root tree → IsFirstMarked b marks wanted tree p → CanTakeAnew b ws p
    → Leads b next root tree marks (retaken ws wanted tree) (without wanted marks) 1

abbrev pub LeftStepsLead : Type 0
LeftStepsLead =
    (b : Blueprint) (marks : List ℕ) (wanted next : ℕ) (root : PlainWidget) (tree : PlainNode) (p : NodePlace) → IsReadyTree b marks next root tree → IsFirstMarked b marks wanted tree p
    → Leads b next root tree marks tree (without wanted marks) 1

abbrev pub StepsFollow : Type 0
StepsFollow =
    (b : Blueprint) (next : ℕ) (root : PlainWidget) (tree new last : PlainNode) (marks left rest : List ℕ) (builds more : ℕ) → Leads b next root tree marks new left builds → Leads b next root new left last rest more
    → Leads b next root tree marks last rest (builds + more)

abbrev pub ProjectionsAreRearranged : Type 0
ProjectionsAreRearranged =
    (b : Blueprint) (marks : List ℕ) (wanted next : ℕ) (root : PlainWidget) (tree : PlainNode) (p : NodePlace) (ws : List PlainWidget) → IsReadyTree b marks next root tree → IsFirstMarked b marks wanted tree p → CanTakeAnew b ws p
    → VanishAlone tree → drawn_in ws p.node ≡ true
    → render_of (retaken ws wanted tree) ≡ all_rearranged (look_after (looks_in ws p.node)) (order_after (orders_in ws p.node)) (renders_of (render_of tree))

abbrev pub FirstPhasesAlike : Type 0
FirstPhasesAlike =
    (b : Blueprint) (screen : Screen) (marks : List ℕ) (wanted next : ℕ) (root : PlainWidget) (tree : PlainNode) (p : NodePlace) (w : PlainWidget) (name : ℕ) → IsReadyTree b marks next root tree → IsFirstMarked b marks wanted tree p
    → ReadTheirNames b tree → CanRegive b w name p
    → made_first b screen (Some tree) (first_tree b (Some tree) next root) ≡ made_first b screen (Some (regiven w wanted tree)) (first_tree b (Some (regiven w wanted tree)) next root)

abbrev pub AllVanish : Type 0
AllVanish = (ts : Declarations) (m : PlainNode) → IsWellBuilt ts m → VanishAlone m

-- ---- what is below several components

nothing_stands : {T : Type 0} (n : ℕ) (at : Handle → Option (TreeNode T)) (h : Handle) → at h ≡ None → plain n at (h ∷ []) ≡ none
unfolding plain
nothing_stands zero at h e = refl
nothing_stands (suc n) at h e = ap (λ o. plain_node h o (plain n at) []) e

stands_below : (t : Tree Element) (f : Forest Element) (h : Handle) → Is t f → Stands (stored_at t) (Some h) (below (subtree_at t h))
stands_below t f h is = by_node (stored_at t h) refl
  where
    by_node : (o : Option (TreeNode Element)) → stored_at t h ≡ o → Stands (stored_at t) (Some h) (below (subtree_at t h))
    by_node None e = subst (λ (s : Forest Element). Stands (stored_at t) (Some h) (below s)) (sym (nothing_stands _ (stored_at t) h e)) tt
    by_node (Some n) e = (below-stands t h (Holds-from_Is t f h is (live_stored t h n.value (ap (option_map (λ (m : TreeNode Element). m.value)) e)))).0

module _ (t : Tree Element) (f : Forest Element) (is : Is t f) (scrolled : ℕ → ℕ) where
  all_told : (gs : List Given) → All (CanTake t) gs → AreToldChanges t (all_changes t gs) (all_looks scrolled t gs) (all_orders scrolled t gs)
  all_told [] can = tt
  all_told (g ∷ gs) can =
      let can_take = (and_parts (can_take_drawn (below (subtree_at t g.at)) g.widgets) _ (All-head (CanTake t) g gs can)).0 in
      append_told t scrolled (changes_of (below (subtree_at t g.at)) g.widgets) _ _ _ _ _ (told_are t scrolled (Some g.at) (below (subtree_at t g.at)) g.widgets (stands_below t f g.at is) can_take) (all_told gs (All-tail (CanTake t) g gs can))

-- ---- the component

module _ (c : PlainChecked) (t : Tree Element) (h : Handle) (x : IsStaleElement c t h) where
  abbrev b : Blueprint
  b = blueprint_of c

  abbrev number : ℕ
  number = x.element.number

  abbrev F : Forest Element
  F = x.stands.forest

  -- what is below it took what its body gave
  module _ (once : NumbersOnce t) (node : FirstsAreNodes) (u : Tree Element) (cs : List Change) (r : IsRenewed c t u h x cs) where
    abbrev ToldOf : List PlainWidget → List Change → PlainNodes → Type 0
    ToldOf ws ds ns =
        AreToldChanges t ds (gathered (each_looks ns) 0 ws (matching (map widget_of (list_of ns)) ws)) (gathered (each_order ns) 0 ws (matching (map widget_of (list_of ns)) ws))

    place_found : node_in number (listed (nodes_of x.scrolled F)) ≡ Some x.place.node
    place_found = sym (ap (λ (ns : List PlainNode). node_in number (listed ns)) x.stands.nodes) ∙ (in_list (Some x.tree) number ∙ node b x.marks number x.tree x.place x.first)

    told : AreToldChanges t cs (looks_in r.given x.place.node) (orders_in r.given x.place.node)
    told =
        subst (λ (ds : List Change). AreToldChanges t ds (looks_in r.given x.place.node) (orders_in r.given x.place.node)) (sym r.renews.changes)
        (at_component t h x.element x.at once x.scrolled r.given (ToldOf r.given) (λ q kids kids_stand can. told_are t x.scrolled q kids r.given kids_stand can)
        None F x.stands.is.stands (agree t h x.element x.at once x.scrolled r.given None F x.stands.is.stands) (x.stands.is.distinct h) x.place.node place_found r.renews.can)

    each_once : AreDistinct (map (λ (d : Change). d.element) cs)
    each_once =
        subst (λ (ds : List Change). AreDistinct (map (λ (d : Change). d.element) ds)) (sym r.renews.changes)
        (elements_apart h r.given F x.stands.is.distinct (x.stands.is.whole h (live_stored t h x.element x.at)) r.renews.can)

    pub component_built : StepsLead → StepsAreReady → ProjectionsAreRearranged → AllVanish → (before after : ℕ) → after ≡ before + 1 → BuildsInPlace c t u h x cs before after
    component_built lead ready looks vanish before after counted = record {
      marks = x.marks;
      given = x.tree;
      at = t;
      given_stands = x.stands;
      goes_on = record { elements = keeps_all t; numbers = λ k. refl; names = λ g is. is };
      alike = refl;
      tree = retaken r.given number x.tree;
      left = without number x.marks;
      builds = 1;
      counted = counted;
      leads = lead b x.marks number (next_at t) x.root x.tree x.place r.given x.ready x.first r.can;
      settled = r.settled;
      keyless = (ready b x.marks number (next_at t) x.root x.tree x.place r.given x.ready x.first r.can).keyless;
      stands = r.renews.stands;
      elements = renewed_keeps t u h r.given F r.renews.stands.forest x.stands.is r.renews.stands.is r.renews.forest r.renews.can;
      looks = looks_in r.given x.place.node;
      orders = orders_in r.given x.place.node;
      told = told;
      once = each_once;
      drawn = looks b x.marks number (next_at t) x.root x.tree x.place r.given x.ready x.first r.can (vanish (declarations_of c) x.tree x.stands.well) r.drawn;
    }

  -- ---- it stores what its body gave

  module _ (m : Tree Element) (l : IsLeftToBuild c t m h x) where
    stored : KeepsElements t m
    stored = stored_keeps t m h l.given F l.stores.stands.forest x.stands.is l.stores.stands.is l.stores.forest

    pub left_there : LeftStepsLead → (before after : ℕ) → after ≡ before + 1 → LeavesInPlace c t m h x before after
    left_there lead before after counted = record {
      tree = x.tree;
      left = without number x.marks;
      stands = l.stores.stands;
      elements = stored;
      alike = refl;
      full = λ screen. refl;
      first = λ screen. refl;
      builds = λ screen. let less = (lead b x.marks number (next_at t) x.root x.tree x.place x.ready x.first).count screen in omega (arith, less, counted);
    }

    pub cannot_there : name_given (subtree_at m h) ≡ None → CannotBuildInPlace c t m h x
    cannot_there none_given = record { mid = m; first = l; why = inl (none_given, refl) }

    module _ (numbers : (k : Handle) → number_at m k ≡ number_at t k) (made : next_at m ≡ next_at t) where
      abbrev pub to_regive : IsToRegive c m h
      to_regive = record {
        marks = x.marks;
        tree = x.tree;
        scrolled = x.scrolled;
        number = number;
        at = numbers h ∙ ap (option_map (λ (e : Element). e.number)) x.at;
        stands = l.stores.stands;
        root = x.root;
        ready = subst (λ (n : ℕ). IsReadyTree b x.marks n x.root x.tree) (sym made) x.ready;
        place = x.place;
        first = x.first;
        alone = x.alone;
      }

      -- ---- the Inherit took another value

      module _ (v : Tree Element) (hs : List Handle) (g : IsRegiven c m v h to_regive hs) (made_then : next_at v ≡ next_at m) where
        abbrev pub stale_tree : IsStaleTree c v hs
        stale_tree = record {
          marks = marks_then number x.marks g.name g.can.child;
          tree = regiven g.given number x.tree;
          scrolled = x.scrolled;
          stands = g.stands;
          root = x.root;
          ready = g.ready;
          flagged = g.flagged;
        }

        abbrev y : IsStaleTree c v hs
        y = stale_tree

        made_all : next_at v ≡ next_at t
        made_all = made_then ∙ made

        leads : Leads b (next_at t) x.root x.tree x.marks y.tree y.marks 1
        leads = subst (λ (n : ℕ). Leads b n x.root x.tree x.marks y.tree y.marks 1) made g.leads

        -- each reader was built
        pub readers_built : StepsFollow → (keeps : KeepsElements m v) → ((k : Handle) → number_at v k ≡ number_at m k) → ((q : Registry) → NamesExactly q t → NamesExactly q m) → ((q : Registry) → NamesExactly q m → NamesExactly q v)
            → (u : Tree Element) (cs : List Change) → AreRenewed c v u hs y cs → (before mid after : ℕ) → mid ≡ before + 1 → after ≡ mid + length hs → BuildsInPlace c t u h x cs before after
        readers_built follow keeps numbers_then names names_then u cs a before mid after one more = record {
          marks = y.marks;
          given = y.tree;
          at = v;
          given_stands = g.stands;
          goes_on = record { elements = keeps_on t m v stored keeps; numbers = λ k. numbers_then k ∙ numbers k; names = λ q is. names_then q (names q is) };
          alike = g.drawn;
          tree = a.new;
          left = a.left;
          builds = 1 + length hs;
          counted = omega (arith, one, more);
          leads = follow b (next_at t) x.root x.tree y.tree a.new x.marks y.marks a.left 1 (length hs) leads (subst (λ (n : ℕ). Leads b n x.root y.tree y.marks a.new a.left (length hs)) made_all a.leads);
          settled = a.settled;
          keyless = a.ready.keyless;
          stands = a.stands;
          elements = a.keeps;
          looks = all_looks x.scrolled v a.given;
          orders = all_orders x.scrolled v a.given;
          told = subst (λ (ds : List Change). AreToldChanges v ds (all_looks x.scrolled v a.given) (all_orders x.scrolled v a.given)) (sym a.changes) (all_told v g.stands.forest g.stands.is x.scrolled a.given a.can);
          once = a.differ;
          drawn = a.drawn;
        }

        -- one of them gave what those below it can't take
        pub readers_left : FirstPhasesAlike → (keeps : KeepsElements m v) (u : Tree Element) (built : ℕ) → AreLeft c v u hs y built → (before mid after : ℕ) → mid ≡ before + 1 → after ≡ mid + built
            → LeavesInPlace c t u h x before after
        readers_left alike keeps u built a before mid after one more = record {
          tree = y.tree;
          left = a.left;
          stands = a.stands;
          elements = keeps_on t v u (keeps_on t m v stored keeps) a.keeps;
          alike = g.drawn;
          full = leads.full;
          first = λ screen. alike b screen x.marks number (next_at t) x.root x.tree x.place g.given g.name x.ready x.first g.reads g.can;
          builds = λ screen.
              let less = leads.count screen in
              let fewer = subst (λ (n : ℕ). all_builds b screen (Some y.tree) y.marks n x.root ≡ built + all_builds b screen (Some y.tree) a.left n x.root) made_all (a.count screen) in
              omega (arith, less, fewer, one, more);
        }

        pub cannot_readers : (u : Tree Element) (built : ℕ) → AreLeft c v u hs y built → CannotBuildInPlace c t u h x
        cannot_readers u built a = record { mid = m; first = l; why = inr (record { at = v; readers = hs; x = to_regive; regiven = g; stale = y; built = built; left = a }) }

        -- the body of one of them stops the build
        pub readers_stop : (screen : Screen) (fault : Fault) → full_build b screen (Some y.tree) (next_at v) x.root ≡ failed fault → full_build b screen (Some x.tree) (next_at t) x.root ≡ failed fault
        readers_stop screen fault is = leads.full screen ∙ subst (λ (n : ℕ). full_build b screen (Some y.tree) n x.root ≡ failed fault) made_all is

        pub readers_counted : (screen : Screen) (before mid after : ℕ) → mid ≡ before + 1 → after ≡ mid + all_builds b screen (Some y.tree) y.marks (next_at v) x.root
            → after ≡ before + all_builds b screen (Some x.tree) x.marks (next_at t) x.root
        readers_counted screen before mid after one more =
            let less = leads.count screen in
            let counted = subst (λ (n : ℕ). after ≡ mid + all_builds b screen (Some y.tree) y.marks n x.root) made_all more in
            omega (arith, less, counted, one)
