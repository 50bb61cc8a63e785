-- One component was built anew in its place: what stands then, or what is left to build.
use Rattle.std.proofs.Common.{◌≡◌, ℕ, Bool, true, false, Option, Some, None, IfSome, List, [], ◌∷◌, ◌++◌, length, refl, sym, ap, subst, ◌∙◌}
use Rattle.std.specs.Option.{option_to_list}
use Rattle.std.proofs.lemmas.List.{append-nil}
use Rattle.fx_geom.specs.declared.shapes.Size.{Size}
use Rattle.fx_handles.specs.declared.Handle.{Handle}
use Rattle.fx_handles.specs.Handle.{AreDistinct}
use Rattle.delegates.specs.Table.{Plug}
use Rattle.node_tree.specs.Forest.{Forest, In}
use Rattle.node_tree.specs.Tree.{Tree, IsTree, children_at}
use Rattle.node_tree.specs.Tree.{node_at as node_stored}
use Rattle.node_tree.proofs.Reordering.{times_alike, in_order-at}
use Rattle.widget_model.specs.Plain.{PlainWidget}
use Rattle.program_check.specs.Checked.{PlainChecked}
use Rattle.widget_model.specs.Typed.{Declarations}
use Rattle.template_build.specs.Program.{declarations_of}
use Rattle.plain_tree.specs.At.{numbers_of, node_at}
use Rattle.plain_tree.specs.Laws.{AllDiffer, VanishAlone}
use Rattle.plain_tree.specs.PlainNode.{PlainNode}
use Rattle.plain_tree.specs.Projection.{render_of}
use Rattle.plain_tree.specs.Render.{no_renders, more_renders, renders_of as renders_listed}
use Rattle.plain_tree.specs.RenderRole.{vanishes}
use Rattle.layout_form.specs.Object.{Setting}
use Rattle.build_form.specs.Entering.{Blueprint}
use Rattle.build_form.specs.FullBuild.{Screen, built, full_build}
use Rattle.build_form.specs.Program.{blueprint_of}
use Rattle.build_form.specs.Numbered.{IsNumbered}
use Rattle.build_form.specs.WellBuilt.{IsWellBuilt}
use Rattle.element_tree.specs.Element.{Element, element_at}
use Rattle.global_keys.specs.Holders.{Registry}
use Rattle.global_keys.specs.Named.{NamesExactly}
use Rattle.render_tree.specs.Object.{RenderObject}
use Rattle.render_tree.specs.Plain.{renders_of, root_tree}
use Rattle.render_tree.specs.Tree.{object_at}
use Rattle.kept_layouts.specs.Here.{KeepsLayouts}
use Rattle.kept_layouts.specs.Items.{AllListsUnasked}
use Rattle.paint_owner.specs.PaintOwner.{PaintOwner, IsKept}
use Rattle.kept_phases.specs.Layers.{KeepsLayers}
use Rattle.kept_phases.specs.Redraws.{Redraws, KeepsKinds}
use Rattle.screen_owner.specs.Steps.{Brings}
use Rattle.screen_owner.proofs.Showing.{root_forest}
use Rattle.work_sets.specs.Work.{render_root}
use Rattle.build_walk.specs.Standing.{ElementsStandFor, all_builds}
use Rattle.build_walk.specs.Renewing.{role_of, IsDrawn}
use Rattle.settled_builds.specs.Looks.{look_after}
use Rattle.settled_builds.specs.Places.{NodePlace, HasNoGlobals}
use Rattle.settled_builds.specs.Rearranged.{all_rearranged, order_after}
use Rattle.settled_builds.specs.Settled.{IsSettledFor}
use Rattle.settled_builds.specs.Steps.{Leads}
use Rattle.settled_builds.specs.Taken.{IsMarkedFor, IsStaleAt}
use Rattle.renewed_builds.specs.Several.{KeepsElements}
use Rattle.renewed_builds.specs.Renewing.{Change}
use Rattle.renewed_builds.specs.Stale.{IsStaleElement}
use Rattle.build_owner.specs.Standing.{StandsFor, next_at}
use Rattle.kept_builds.specs.Standing.{NumbersOnce}
use Rattle.frame_owner.specs.Redrawing.{forest_after, CanRedraw, TakesWidgets}
use Rattle.frame_owner.specs.Frame.{KeptFrame}
use Rattle.frame_owner.specs.InPlace.{BuildsInPlace, LeavesInPlace}
use Rattle.frame_owner.specs.Standing.{IsKnownIn, FrameStandsFor}
use Rattle.frame_owner.proofs.Alike.{stored_live}
use Rattle.frame_owner.proofs.Arranging.{AreOrdersOf, can_order_all, orders_are, listing, listed_again, rearranged_then}
use Rattle.frame_owner.proofs.Changing.{AreChangesOf, can_redraw, changes_are}
use Rattle.frame_owner.proofs.Counted.{children_many, children_differ}
use Rattle.frame_owner.proofs.Inherits.{build_own}
use Rattle.frame_owner.proofs.Named.{none_beside}
use Rattle.frame_owner.proofs.Ready.{ready_tree, first_marked}
use Rattle.frame_owner.proofs.Redrawn.{StillAt, still_at, kept_drawn}
use Rattle.frame_owner.proofs.Settled.{unmarked_settled}
use Rattle.frame_owner.proofs.Known.{known_tree}
use Rattle.frame_owner.proofs.Shown.{one_of, projects_one}
use Rattle.frame_owner.proofs.Unasked.{unasked}
use Rattle.frame_owner.proofs.Windows.{ElementNode, KeepsApart, numbers_differ, drawn_here, element_node}

-- ---- the component, as the elements tell it

-- laws of settled_builds
abbrev pub HaveSpots : Type 0
HaveSpots =
    (b : Blueprint) (marks : List ℕ) (wanted next : ℕ) (root : PlainWidget) (tree : PlainNode) → IsMarkedFor b marks wanted root tree → HasNoGlobals tree → IsNumbered next tree
    → (p : NodePlace) × IsStaleAt b marks wanted next root tree p

abbrev pub SpotsAreNodes : Type 0
SpotsAreNodes = (b : Blueprint) (marks : List ℕ) (wanted next : ℕ) (root : PlainWidget) (tree : PlainNode) (p : NodePlace) → IsStaleAt b marks wanted next root tree p → node_at wanted tree ≡ Some p.node

-- steps follow one another, and end where a tree is settled
abbrev pub StepsEnd : Type 0
StepsEnd =
    (b : Blueprint) (screen : Screen) (next : ℕ) (root : PlainWidget) (tree new : PlainNode) (marks left : List ℕ) (builds : ℕ) → Leads b next root tree marks new left builds → IsSettledFor b left root new
    → full_build b screen (Some tree) next root ≡ built new next

abbrev pub StepsAreBuilt : Type 0
StepsAreBuilt =
    (b : Blueprint) (screen : Screen) (next : ℕ) (root : PlainWidget) (tree new : PlainNode) (marks left : List ℕ) (builds : ℕ) → Leads b next root tree marks new left builds → IsSettledFor b left root new
    → AllDiffer (numbers_of new) → all_builds b screen (Some tree) marks next root ≡ builds

-- what is known of the tree that stands, where a component is marked
pub record IsStaleWith (c : PlainChecked) (marks : List ℕ) (n : PlainNode) (t : Tree Element) (h : Handle) (root : PlainWidget) : Type 0 where
  pub element : Element
  pub at : element_at t h ≡ Some element
  pub place : NodePlace
  pub stale : IsStaleAt (blueprint_of c) marks element.number (next_at t) root n place
  pub there : node_at element.number n ≡ Some place.node
  pub globals : HasNoGlobals n

pub stale_with : HaveSpots → SpotsAreNodes → (c : PlainChecked) (marks : List ℕ) (n : PlainNode) (t : Tree Element) (h : Handle) (root : PlainWidget) (keyless : Bool) (marked : Option Handle) → marked ≡ Some h → keyless ≡ true
    → IsKnownIn c marks (Some n) t keyless marked root → IsNumbered (next_at t) n → IsStaleWith c marks n t h root
stale_with law node_law c marks n t h root keyless None is on known numbered = absurd (none_some is)
  where
    none_some : None ≡ Some h → ⊥
    none_some e = cc
stale_with law node_law c marks n t h root keyless (Some k) is on known numbered =
    let at = known.settled.1 in
    let p = law (blueprint_of c) marks known.settled.0.number (next_at t) root n known.settled.2 (known.globals on) numbered in
    record {
      element = known.settled.0;
      at = ap (element_at t) (sym (same_some is)) ∙ at;
      place = p.0;
      stale = p.1;
      there = node_law (blueprint_of c) marks known.settled.0.number (next_at t) root n p.0 p.1;
      globals = known.globals on;
    }
  where
    same_some : Some k ≡ Some h → k ≡ h
    same_some e = cc

module _ (apart : KeepsApart) (c : PlainChecked) (marks : List ℕ) (n : PlainNode) (scrolled : ℕ → ℕ) (t : Tree Element) (r : Tree RenderObject) (g : Registry) (stands : StandsFor c marks (Some n) scrolled t r g)
    (h : Handle) (root : PlainWidget) (known : IsStaleWith c marks n t h root) where
  abbrev pub stale_element : IsStaleElement c t h
  stale_element = record {
    marks = marks;
    tree = n;
    scrolled = scrolled;
    stands = stands.elements;
    root = root;
    ready = ready_tree (blueprint_of c) marks known.element.number (next_at t) root n known.place known.stale known.there stands.elements.numbered;
    element = known.element;
    at = known.at;
    place = known.place;
    first = first_marked (blueprint_of c) marks known.element.number (next_at t) root n known.place known.stale known.there;
    alone = known.stale.marked;
  }

  module _ (once : NumbersOnce t) where
    abbrev b : Blueprint
    b = blueprint_of c

    drawn_before : (k : Handle) (e : Element) → element_at t k ≡ Some e → vanishes (role_of e) ≡ false → IsDrawn (object_at r) (scrolled e.number) e
    drawn_before k e at has_node = drawn_here apart c marks (Some n) scrolled t r g stands k e at once has_node

    as_before : (k : Handle) (o : RenderObject) → object_at r k ≡ Some o → StillAt r k o
    as_before k o at = record { object = o; stored = at; number = refl; scroll = refl }

    -- elements that go on from these stand for another tree with the same render nodes
    abbrev stands_on : (left : List ℕ) (m : PlainNode) (u : Tree Element) → ElementsStandFor c left (Some m) scrolled u → KeepsElements t u → render_of m ≡ render_of n → NamesExactly g u → StandsFor c left (Some m) scrolled u r g
    stands_on left m u e keeps alike names = record {
      elements = e;
      renders = record {
        drawn = kept_drawn r r as_before scrolled t u keeps drawn_before None e.forest e.is.stands;
        objects = stands.renders.objects;
        is = stands.renders.is;
        root = stands.renders.root;
        projected = stands.renders.projected ∙ (projects_one n ∙ (ap renders_listed (sym alike) ∙ sym (projects_one m)));
      };
      names = names;
    }

    -- ---- not all could be taken

    pub left_stands : (u : Tree Element) (before after : ℕ) (l : LeavesInPlace c t u h stale_element before after) → NamesExactly g u → StandsFor c l.left (Some l.tree) scrolled u r g
    left_stands u before after l names = stands_on l.left l.tree u l.stands l.elements l.alike names

    -- ---- all was taken

    module _ (vanish : (ts : Declarations) (m : PlainNode) → IsWellBuilt ts m → VanishAlone m) (u : Tree Element) (cs : List Change) (before after : ℕ) (x : BuildsInPlace c t u h stale_element cs before after) where
      abbrev pub tree_then : PlainNode
      tree_then = x.tree

      abbrev given_stands : StandsFor c x.marks (Some x.given) scrolled x.at r g
      given_stands = stands_on x.marks x.given x.at x.given_stands x.goes_on.elements x.alike (x.goes_on.names g stands.names)

      once_there : NumbersOnce x.at
      once_there number k l at_k at_l = once number k l (sym (x.goes_on.numbers k) ∙ at_k) (sym (x.goes_on.numbers l) ∙ at_l)

      drawn_nodes : (k : Handle) (e : Element) → element_at x.at k ≡ Some e → vanishes (role_of e) ≡ false → ElementNode r e
      drawn_nodes k e at drawn = element_node apart c x.marks (Some x.given) scrolled x.at r g given_stands k e at once_there drawn

      among : (k : Handle) (o : RenderObject) → object_at r k ≡ Some o → In k stands.renders.objects
      among k o at = stands.renders.is.whole k (stored_live (node_stored r k) o at)

      counted : (k : Handle) (e : Element) → element_at x.at k ≡ Some e → (d : ElementNode r e) → length (children_at x.at k) ≡ length (children_at r d.handle)
      counted k e at d =
          children_many x.at scrolled once_there r (Some x.given) x.given_stands.forest x.given_stands.is.stands x.given_stands.nodes (vanish (declarations_of c) x.given x.given_stands.well, tt) given_stands.renders k e at d
          (among d.handle d.object d.there)

      children_apart : (k : Handle) (o : RenderObject) → object_at r k ≡ Some o → AreDistinct (children_at r k)
      children_apart k o at = children_differ r None stands.renders.objects stands.renders.is.stands stands.renders.is.distinct k (among k o at)

      changes_taken : AreChangesOf x.at r cs x.looks
      changes_taken = changes_are x.at r drawn_nodes cs x.looks x.orders x.told

      orders_taken : AreOrdersOf r cs x.orders
      orders_taken = orders_are x.at r times_alike drawn_nodes counted children_apart cs x.looks x.orders x.told

      pub can_take_them : CanRedraw r cs
      can_take_them = can_redraw x.at r once_there cs x.looks changes_taken (can_order_all r cs x.orders orders_taken) x.once

      pub is_then : StepsEnd → (screen : Screen) → full_build b screen (Some n) (next_at t) root ≡ built tree_then (next_at t)
      is_then end screen = end b screen (next_at t) root n tree_then marks x.left x.builds x.leads x.settled

      pub all_built : StepsAreBuilt → (screen : Screen) → all_builds b screen (Some n) marks (next_at t) root ≡ x.builds
      all_built law screen = law b screen (next_at t) root n tree_then marks x.left x.builds x.leads x.settled x.stands.numbered.differ

      module _ (s : Tree RenderObject) (takes : TakesWidgets cs r s) (one : length (render_of tree_then) ≡ 1) where
        one_is : render_of tree_then ≡ render_root tree_then ∷ []
        one_is = one_of (render_of tree_then) one

        objects_are : renders_of stands.renders.objects ≡ renders_listed (render_of x.given)
        objects_are = stands.renders.projected ∙ (projects_one n ∙ ap renders_listed (sym x.alike))

        root_is : root_tree r ≡ stands.renders.objects
        root_is = root_forest r stands.renders.objects (none_beside c marks (Some n) scrolled t r g stands) stands.renders.is

        listed_then : listing (renders_of (forest_after r cs stands.renders.objects)) ≡ render_root tree_then ∷ []
        listed_then =
            rearranged_then r (numbers_differ apart c marks (Some n) scrolled t r g stands) in_order-at x.at cs x.looks x.orders changes_taken orders_taken None stands.renders.objects stands.renders.is.stands stands.renders.is.distinct
            ∙ (ap (all_rearranged (look_after x.looks) (order_after x.orders)) objects_are ∙ (sym x.drawn ∙ one_is))

        renders_then : renders_of (forest_after r cs (root_tree r)) ≡ more_renders (render_root tree_then) no_renders
        renders_then =
            ap (λ (f : Forest RenderObject). renders_of (forest_after r cs f)) root_is
            ∙ sym (listed_again (renders_of (forest_after r cs stands.renders.objects)))
            ∙ ap renders_listed listed_then

        pub brings_then : Brings r s (render_root tree_then)
        brings_then = takes.brings (render_root tree_then) renders_then

        drawn_there : (k : Handle) (e : Element) → element_at x.at k ≡ Some e → vanishes (role_of e) ≡ false → IsDrawn (object_at r) (scrolled e.number) e
        drawn_there k e at has_node = drawn_here apart c x.marks (Some x.given) scrolled x.at r g given_stands k e at once_there has_node

        pub trees_then : NamesExactly g u → StandsFor c [] (Some tree_then) scrolled u s g
        trees_then names = record {
          elements = x.stands;
          renders = record {
            drawn = kept_drawn r s (still_at cs r s takes.objects) scrolled x.at u x.elements drawn_there None x.stands.forest x.stands.is.stands;
            objects = brings_then.after.tree.0;
            is = brings_then.after.tree.1;
            root = sym (append-nil (option_to_list s.root)) ∙ (ap (λ hs. option_to_list s.root ++ hs) (sym brings_then.after.alone) ∙ brings_then.after.tree.1.tops);
            projected = ap renders_of (sym (root_forest s brings_then.after.tree.0 brings_then.after.alone brings_then.after.tree.1))
                ∙ (brings_then.renders ∙ sym (projects_one tree_then ∙ ap renders_listed one_is));
          };
          names = names;
        }

        pub layers_then : ((cell : Size) (delegates : List Plug) (o : PaintOwner) (t : Tree RenderObject) → t.inactive ≡ [] → IsKept cell delegates o (root_tree t) → KeepsLayers cell delegates o t)
            → ((cell : Size) (delegates : List Plug) (o : PaintOwner) (t : Tree RenderObject) → t.inactive ≡ [] → IsTree t → KeepsLayers cell delegates o t → IsKept cell delegates o (root_tree t))
            → ((cell : Size) (delegates : List Plug) (o : PaintOwner) (old new : Tree RenderObject) (p : Redraws old new) → KeepsKinds old p.committed → IsTree old → KeepsLayers cell delegates o old → KeepsLayers cell delegates o new)
            → (cell : Size) (delegates : List Plug) (o : PaintOwner) → IsKept cell delegates o (root_tree r) → IsKept cell delegates o (root_tree s)
        layers_then whole at_root law cell delegates o kept =
            at_root cell delegates o s brings_then.after.alone brings_then.after.tree (law cell delegates o r s takes.redraws takes.kinds brings_then.before.tree (whole cell delegates o r brings_then.before.alone kept))

        pub layouts_then : ((w : Setting) (old new : Tree RenderObject) → Redraws old new → IsTree old → KeepsLayouts w old → KeepsLayouts w new) → (w : Setting) → KeepsLayouts w r → KeepsLayouts w s
        layouts_then law w keeps = law w r s takes.redraws brings_then.before.tree keeps

        pub unasked_then : StepsEnd → Screen → AllListsUnasked false (renders_of (root_tree s))
        unasked_then end screen =
            subst (AllListsUnasked false) (sym (brings_then.renders ∙ ap renders_listed (sym one_is)))
            (unasked (declarations_of c) tree_then x.stands.well (build_own b screen (Some n) (next_at t) (next_at t) root tree_then (is_then end screen)))

        pub known_then : (keyless : Bool) (o : Option PlainWidget) → o ≡ Some root → IfSome o (IsKnownIn c [] (Some tree_then) u keyless None)
        known_then keyless o is =
            subst (λ (q : Option PlainWidget). IfSome q (IsKnownIn c [] (Some tree_then) u keyless None)) (sym is) (record { settled = unmarked_settled b x.left root tree_then x.settled; globals = λ on. x.keyless })

-- ---- as it is said of all that is kept

-- what is known of a tree that stands, where the component at a handle is marked
pub record IsStaleFrame (c : PlainChecked) (ds : List Plug) (marks : List ℕ) (old : Option PlainNode) (x : KeptFrame) (h : Handle) (root : PlainWidget) : Type 0 where
  pub node : PlainNode
  pub is : old ≡ Some node
  pub stands : FrameStandsFor c ds marks (Some node) x
  pub known : IsStaleWith c marks node x.elements h root

pub stale_frame : HaveSpots → SpotsAreNodes → (c : PlainChecked) (ds : List Plug) (marks : List ℕ) (old : Option PlainNode) (x : KeptFrame) (h : Handle) (root : PlainWidget) → x.settled ≡ Some root → x.marked ≡ Some h → x.keyless ≡ true
    → FrameStandsFor c ds marks old x → IsStaleFrame c ds marks old x h root
stale_frame law node_law c ds marks None x h root settled marked keyless st = absurd (known_tree c ds marks x root settled None st)
stale_frame law node_law c ds marks (Some n) x h root settled marked keyless st = record {
  node = n;
  is = refl;
  stands = st;
  known = stale_with law node_law c marks n x.elements h root x.keyless x.marked marked keyless (known_tree c ds marks x root settled (Some n) st) st.trees.elements.numbered;
}
