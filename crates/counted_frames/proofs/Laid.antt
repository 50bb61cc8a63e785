-- What an outer flush leaves of outer nodes, and of the items of lazy lists.
use Rattle.std.proofs.Common.{◌≡◌, ℕ, Bool, true, false, ◌||◌, ◌&&◌, not, Option, Some, None, List, [], ◌∷◌, refl, sym, ap, ◌∙◌, subst, inl, inr}
use Rattle.std.proofs.lemmas.Bool.{cases_Bool, or_parts, false≢true, true≢false}
use Rattle.fx_geom.specs.declared.boxes.Bounds.{Bounds}
use Rattle.fx_geom.specs.declared.shapes.Offset.{Offset}
use Rattle.fx_geom.specs.declared.shapes.Size.{Size}
use Rattle.fx_geom.specs.Offset.{origin}
use Rattle.sliver_layout.specs.declared.protocol.SliverBounds.{SliverBounds}
use Rattle.node_tree.proofs.ForestLemmas.{same_Some}
use Rattle.fx_handles.specs.declared.Handle.{Handle}
use Rattle.node_tree.specs.Forest.{Forest}
use Rattle.node_tree.specs.Forest.Forest.{none, tree}
use Rattle.plain_tree.specs.declared.render.ParentData.{ParentData}
use Rattle.plain_tree.specs.declared.laid.Frame.{Frame}
use Rattle.plain_tree.specs.Render.{Render, Renders, no_renders, more_renders}
use Rattle.tree_marks.specs.Marking.{Above, within}
use Rattle.tree_marks.specs.Marks.{listed, has_listed, some_climbs}
use Rattle.widget_model.specs.Look.{Look, sliver_lazy}
use Rattle.work_sets.specs.InTree.{children_of}
use Rattle.layout_form.specs.declared.asks.Ask.{Ask}
use Rattle.layout_form.specs.declared.asks.Ask.TheVariants.{AsBox, AsSliver}
use Rattle.layout_form.specs.Object.{Setting}
use Rattle.layout_walk.specs.Full.{asks_at, made_at, objects, place_of, past}
use Rattle.layout_walk.specs.Here.{ShownAs, StandAs, IsGiven, HereAll, AreFresh, IsQuiet, AreQuiet, Backs, outer_back}
use Rattle.layout_walk.specs.Node.{LayoutNode, NodeMember, member, members, tellings, asked}
use Rattle.layout_walk.specs.Rule.{LayoutParts, Lawful, asks_by, ask_of, later}
use Rattle.layout_walk.specs.Rules.{parts_of, is_list, holds_in}
use Rattle.layout_walk.proofs.Correcting.{corrected_same, corrected_asks}
use Rattle.layout_walk.proofs.Fresh.{fresh}
use Rattle.layout_owner.specs.Roots.{view_asks, IsPlaced}
use Rattle.layout_owner.specs.Undue.{RootAsked}
use Rattle.layout_walk.specs.Walk.{IsLeft, CorrectedAs, HeldOr, AreCorrected, IsCorrected}
use Rattle.layout_rules.specs.Nodes.{layout_node, layout_nodes}
use Rattle.render_tree.specs.Marks.{layout_marks}
use Rattle.render_tree.specs.Object.{RenderObject, object_look}
use Rattle.counted_phases.specs.Outer.{UnlessList, ListOr, IsOuter, AreOuter}

-- ---- outer nodes stay what they are

tree_parts : (h k : Handle) (v w : LayoutNode) (kids under more rest : Forest LayoutNode) → tree k w under rest ≡ tree h v kids more → (w ≡ v) × (under ≡ kids) × (rest ≡ more)
tree_parts h k v w kids under more rest e = (cc, cc, cc)

no_tree : {B : Type 0} (h : Handle) (v : LayoutNode) (kids more : Forest LayoutNode) → none ≡ tree h v kids more → B
no_tree h v kids more e = absurd (cc)

member_outer : (o w : RenderObject) (r : Render) → member (layout_node o) ≡ member (layout_node w) → IsOuter o r → IsOuter w r
member_outer o w r e outer = record {
  number = ap (λ (m : NodeMember). m.number) (sym e) ∙ outer.number;
  look = ap (λ (m : NodeMember). m.look) (sym e) ∙ outer.look;
  told = ap (λ (m : NodeMember). m.told) (sym e) ∙ outer.told;
  count = ap (λ (m : NodeMember). m.count) (sym e) ∙ outer.count;
}

-- what is the same to a layout
same_outer : (f g : Forest RenderObject) (rs : Renders) → layout_nodes g ≡ layout_nodes f → AreOuter f rs → AreOuter g rs
same_outer none none rs e outer = outer
same_outer none (tree k w under rest) rs e outer = no_tree k (layout_node w) (layout_nodes under) (layout_nodes rest) (sym e)
same_outer (tree h o kids more) none rs e outer = no_tree h (layout_node o) (layout_nodes kids) (layout_nodes more) e
same_outer (tree h o kids more) (tree k w under rest) no_renders e outer = outer
same_outer (tree h o kids more) (tree k w under rest) (more_renders r rs) e outer =
    let parts = tree_parts h k (layout_node o) (layout_node w) (layout_nodes kids) (layout_nodes under) (layout_nodes more) (layout_nodes rest) e in
    let looks : is_list (object_look o) ≡ is_list (object_look w) = ap (λ (v : LayoutNode). is_list v.look) (sym parts.0) in (
      member_outer o w r (ap member (sym parts.0)) outer.0,
      by_list (is_list (object_look o)) (is_list (object_look w)) looks outer.1 (λ x. same_outer kids under (children_of r) parts.1 x),
      same_outer more rest rs parts.2 outer.2,
    )
  where
    by_list : (a b : Bool) → a ≡ b → UnlessList a (AreOuter kids (children_of r)) → (AreOuter kids (children_of r) → AreOuter under (children_of r)) → UnlessList b (AreOuter under (children_of r))
    by_list true true e x go = tt
    by_list true false e x go = absurd (false≢true (sym e))
    by_list false true e x go = tt
    by_list false false e x go = go x

module _ (s : Setting) where
  abbrev P : LayoutParts
  P = parts_of s

  pub laid_outer : (asks : List (Option Ask)) (f g : Forest RenderObject) (rs : Renders) → AreCorrected P (outer_back P) asks (layout_nodes f) (layout_nodes g) → AreOuter f rs → AreOuter g rs
  laid_outer asks none none rs corrected outer = outer
  laid_outer asks none (tree k w under rest) rs corrected outer = absurd corrected
  laid_outer asks (tree h o kids more) none rs corrected outer = absurd corrected
  laid_outer asks (tree h o kids more) (tree k w under rest) no_renders corrected outer = outer
  laid_outer asks (tree h o kids more) (tree k w under rest) (more_renders r rs) corrected outer =
      let looks : is_list (object_look o) ≡ is_list (object_look w) = ap (λ (m : NodeMember). is_list m.look) corrected.1 in (
        member_outer o w r corrected.1 outer.0,
        by_list (is_list (object_look o)) (is_list (object_look w)) looks outer.1
            (λ x. by_ask (ask_of asks) corrected.2 (λ same. same_outer kids under (children_of r) same x) (λ xs inner. laid_outer xs kids under (children_of r) inner x)),
        laid_outer (later asks) more rest rs corrected.3 outer.2,
      )
    where
      Node : Option Ask → Type 0
      Node x = CorrectedAs x (λ ask. IsCorrected P (outer_back P) ask (layout_node o) (layout_nodes kids) (layout_node w) (layout_nodes under)) (IsLeft (layout_node o) (layout_nodes kids) (layout_node w) (layout_nodes under))

      by_held : (b : Bool) (xs : List (Option Ask)) → HeldOr b (layout_nodes under ≡ layout_nodes kids) (AreCorrected P (outer_back P) xs (layout_nodes kids) (layout_nodes under))
          → (layout_nodes under ≡ layout_nodes kids → AreOuter under (children_of r)) → ((ys : List (Option Ask)) → AreCorrected P (outer_back P) ys (layout_nodes kids) (layout_nodes under) → AreOuter under (children_of r))
          → AreOuter under (children_of r)
      by_held true xs held same go = same held
      by_held false xs laid same go = go xs laid

      by_ask : (x : Option Ask) → Node x → (layout_nodes under ≡ layout_nodes kids → AreOuter under (children_of r))
          → ((ys : List (Option Ask)) → AreCorrected P (outer_back P) ys (layout_nodes kids) (layout_nodes under) → AreOuter under (children_of r)) → AreOuter under (children_of r)
      by_ask None left same go = same left.inside
      by_ask (Some ask) laid same go =
          by_held (outer_back P (object_look o) (Some ask)) (asks_at P (layout_node o) ask (layout_nodes kids) (objects P (layout_nodes kids))) laid.1 same go

      by_list : (a b : Bool) → a ≡ b → UnlessList a (AreOuter kids (children_of r)) → (AreOuter kids (children_of r) → AreOuter under (children_of r)) → UnlessList b (AreOuter under (children_of r))
      by_list true true e x go = tt
      by_list true false e x go = absurd (false≢true (sym e))
      by_list false true e x go = tt
      by_list false false e x go = go x

-- ---- the items of a list

-- nodes of which nothing is changed but that some leave the window
abbrev pub AreAlike : Forest LayoutNode → Forest LayoutNode → Type 0
AreAlike none none = Unit {0}
AreAlike none (tree k w under rest) = ⊥
AreAlike (tree h v kids more) none = ⊥
AreAlike (tree h v kids more) (tree k w under rest) =
    (h ≡ k) × (w.number ≡ v.number) × (w.needs_layout ≡ v.needs_layout) × (w.frame ≡ v.frame) × (w.shown ≡ true → v.shown ≡ true) × AreAlike kids under × AreAlike more rest

-- so it is below each outer list
abbrev pub ListsAlike : Forest LayoutNode → Forest LayoutNode → Type 0
ListsAlike none none = Unit {0}
ListsAlike none (tree k w under rest) = ⊥
ListsAlike (tree h v kids more) none = ⊥
ListsAlike (tree h v kids more) (tree k w under rest) = (h ≡ k) × (v.look ≡ w.look) × ListOr (is_list v.look) (AreAlike kids under) (ListsAlike kids under) × ListsAlike more rest

alike_self : (f : Forest LayoutNode) → AreAlike f f
alike_self none = tt
alike_self (tree h v kids rest) = (refl, refl, refl, refl, (λ e. e), alike_self kids, alike_self rest)

alike_kept : (kids under : Forest LayoutNode) → under ≡ kids → AreAlike kids under
alike_kept kids under e = subst (λ (f : Forest LayoutNode). AreAlike kids f) (sym e) (alike_self kids)

lists_or : (b : Bool) (A B : Type 0) → A → B → ListOr b A B
lists_or true A B a b = a
lists_or false A B a b = b

lists_self : (f : Forest LayoutNode) → ListsAlike f f
lists_self none = tt
lists_self (tree h v kids rest) = (refl, refl, lists_or (is_list v.look) (AreAlike kids kids) (ListsAlike kids kids) (alike_self kids) (lists_self kids), lists_self rest)

lists_kept : (kids under : Forest LayoutNode) → under ≡ kids → ListsAlike kids under
lists_kept kids under e = subst (λ (f : Forest LayoutNode). ListsAlike kids f) (sym e) (lists_self kids)

held_false : (A B : Type 0) (b : Bool) → b ≡ false → HeldOr b A B → B
held_false A B true e is = absurd (true≢false e)
held_false A B false e is = is

held_true : (A B : Type 0) (b : Bool) → b ≡ true → HeldOr b A B → A
held_true A B true e is = is
held_true A B false e is = absurd (false≢true e)

module _ (s : Setting) (law : Lawful (parts_of s)) where
  abbrev PL : LayoutParts
  PL = parts_of s

  abbrev back : Backs
  back = outer_back PL

  -- trees that nobody asks are out of the window
  nobody_alike : (places : List Offset) (f g : Forest LayoutNode) → StandAs [] places g → AreCorrected PL back [] f g → AreAlike f g
  nobody_alike places none none stands corrected = tt
  nobody_alike places none (tree k w under rest) stands corrected = absurd corrected
  nobody_alike places (tree h v kids more) none stands corrected = absurd corrected
  nobody_alike places (tree h v kids more) (tree k w under rest) stands corrected = (
    corrected.0,
    ap (λ (x : LayoutNode). x.number) corrected.2.value,
    ap (λ (x : LayoutNode). x.needs_layout) corrected.2.value,
    ap (λ (x : LayoutNode). x.frame) corrected.2.value,
    (λ e. absurd (false≢true (sym stands.0 ∙ e))),
    alike_kept kids under corrected.2.inside,
    nobody_alike (past None places) more rest stands.1 corrected.3,
  )

  -- a list that is laid out as a box asks nobody
  box_list_asks : (m : NodeMember) (extent scroll liked : ℕ) (b : Bounds) (ds : List ParentData) (gs : List (Ask → Frame)) → asks_by PL (record m { look = sliver_lazy extent }) scroll (AsBox b) liked ds gs ≡ []
  unfolding asks_by
  box_list_asks m extent scroll liked b ds gs = refl

  box_asks : (look : Look) (m : NodeMember) (scroll liked : ℕ) (b : Bounds) (ds : List ParentData) (gs : List (Ask → Frame)) → is_list look ≡ true → asks_by PL (record m { look = look }) scroll (AsBox b) liked ds gs ≡ []
  box_asks (sliver_lazy extent) m scroll liked b ds gs list = box_list_asks m extent scroll liked b ds gs
  box_asks look m scroll liked b ds gs list = absurd (false≢true list)

  no_box_held : (look : Look) (b : Bounds) → holds_in look (AsBox b) ≡ true → ⊥
  no_box_held (sliver_lazy extent) b e = false≢true e
  no_box_held look b e = false≢true e

  sliver_list : (look : Look) (b : SliverBounds) → is_list look ≡ true → holds_in look (AsSliver b) ≡ true
  sliver_list (sliver_lazy extent) b e = refl
  sliver_list look b e = absurd (false≢true e)

  not_held : (look : Look) (ask : Ask) → is_list look ≡ false → holds_in look ask ≡ false
  not_held look ask other = elim (cases_Bool (holds_in look ask)) [
    | inl held ↦ absurd (false≢true (sym other ∙ law.holds_lists look ask held))
    | inr free ↦ free
  ]

  -- one that isn't held back is done
  clear_by : (v : LayoutNode) (T : Type 0) (ask : Ask) → asked v ≡ Some ask → holds_in v.look ask ≡ false → IsQuiet PL back v T → (v.needs_layout ≡ false) × T
  clear_by v T ask is free (inl held) = absurd (false≢true (sym free ∙ (sym (ap (λ (o : Option Ask). back v.look o) is) ∙ held.holds)))
  clear_by v T ask is free (inr clear) = clear

  placed_full : (w : LayoutNode) (under : Forest LayoutNode) (ask : Ask) → (given : IsGiven PL w under (objects PL under)) → given.ask ≡ ask
      → StandAs (asks_at PL w ask under (objects PL under)) (made_at PL w ask under (objects PL under)).places under
  placed_full w under ask given one = subst (λ (a : Ask). StandAs (asks_at PL w a under (objects PL under)) (made_at PL w a under (objects PL under)).places under) one given.gives.placed

  -- a list that is asked
  list_alike : (ask : Ask) (at : Offset) (v : LayoutNode) (kids : Forest LayoutNode) (w : LayoutNode) (under : Forest LayoutNode)
      → member v ≡ member w → (w.needs_layout ≡ false → IsGiven PL w under (objects PL under)) → IsQuiet PL back w (AreQuiet PL back under) → ShownAs (Some ask) at w
      → IsCorrected PL back ask v kids w under → is_list v.look ≡ true → AreAlike kids under
  list_alike (AsSliver b) at v kids w under is given quiet stands corrected list =
      alike_kept kids under
      (held_true (under ≡ kids) (AreCorrected PL back (asks_at PL v (AsSliver b) kids (objects PL kids)) kids under) (holds_in v.look (AsSliver b)) (sliver_list v.look b list) corrected.1)
  list_alike (AsBox b) at v kids w under is given quiet stands corrected list =
      let looks : v.look ≡ w.look = ap (λ (m : NodeMember). m.look) is in
      let free : holds_in v.look (AsBox b) ≡ false = free_box (holds_in v.look (AsBox b)) refl in
      let clear = clear_by w (AreQuiet PL back under) (AsBox b) stands.asked (ap (λ l. holds_in l (AsBox b)) (sym looks) ∙ free) quiet in
      let full = given clear.0 in
      let asks_w : asks_at PL w (AsBox b) under (objects PL under) ≡ [] =
      box_asks w.look (member w) w.scroll (PL.liked w.look (AsBox b) (members under)) b (tellings under) (objects PL under) (ap is_list (sym looks) ∙ list) in
      let asks_v : asks_at PL v (AsBox b) kids (objects PL kids) ≡ [] =
      box_asks v.look (member v) v.scroll (PL.liked v.look (AsBox b) (members kids)) b (tellings kids) (objects PL kids) list in
      let places = (made_at PL w (AsBox b) under (objects PL under)).places in
      nobody_alike places kids under (subst (λ (xs : List (Option Ask)). StandAs xs places under) asks_w (placed_full w under (AsBox b) full (same_Some (sym full.asked ∙ stands.asked))))
      (subst (λ (xs : List (Option Ask)). AreCorrected PL back xs kids under) asks_v (held_false (under ≡ kids) (AreCorrected PL back (asks_at PL v (AsBox b) kids (objects PL kids)) kids under) (holds_in v.look (AsBox b)) free corrected.1))
    where
      free_box : (x : Bool) → holds_in v.look (AsBox b) ≡ x → x ≡ false
      free_box true e = absurd (no_box_held v.look b e)
      free_box false e = refl

  abbrev Further : Forest LayoutNode → Forest LayoutNode → Type 0
  Further kids under = (asks : List (Option Ask)) (places : List Offset) → AreQuiet PL back under → StandAs asks places under → AreCorrected PL back asks kids under → ListsAlike kids under

  other_alike : (ask : Ask) (at : Offset) (v : LayoutNode) (kids : Forest LayoutNode) (w : LayoutNode) (under : Forest LayoutNode)
      → member v ≡ member w → (w.needs_layout ≡ false → IsGiven PL w under (objects PL under)) → IsQuiet PL back w (AreQuiet PL back under) → ShownAs (Some ask) at w
      → IsCorrected PL back ask v kids w under → Further kids under → is_list v.look ≡ false → ListsAlike kids under
  other_alike ask at v kids w under is given quiet stands corrected further other =
      let looks : v.look ≡ w.look = ap (λ (m : NodeMember). m.look) is in
      let clear = clear_by w (AreQuiet PL back under) ask stands.asked (not_held w.look ask (ap is_list (sym looks) ∙ other)) quiet in
      let full = given clear.0 in
      let inner : AreCorrected PL back (asks_at PL v ask kids (objects PL kids)) kids under =
      held_false (under ≡ kids) (AreCorrected PL back (asks_at PL v ask kids (objects PL kids)) kids under) (holds_in v.look ask) (not_held v.look ask other) corrected.1 in
      let same = corrected_same PL back (asks_at PL v ask kids (objects PL kids)) kids under inner in
      let asks = corrected_asks PL law back v w ask kids under is same corrected.0 in
      let places = (made_at PL w ask under (objects PL under)).places in
      further (asks_at PL v ask kids (objects PL kids)) places clear.1
      (subst (λ (xs : List (Option Ask)). StandAs xs places under) (sym asks) (placed_full w under ask full (same_Some (sym full.asked ∙ stands.asked)))) inner

  asked_alike : (ask : Ask) (at : Offset) (v : LayoutNode) (kids : Forest LayoutNode) (w : LayoutNode) (under : Forest LayoutNode)
      → member v ≡ member w → (w.needs_layout ≡ false → IsGiven PL w under (objects PL under)) → IsQuiet PL back w (AreQuiet PL back under) → ShownAs (Some ask) at w
      → IsCorrected PL back ask v kids w under → Further kids under → (b : Bool) → is_list v.look ≡ b → ListOr b (AreAlike kids under) (ListsAlike kids under)
  asked_alike ask at v kids w under is given quiet stands corrected further true list = list_alike ask at v kids w under is given quiet stands corrected list
  asked_alike ask at v kids w under is given quiet stands corrected further false other = other_alike ask at v kids w under is given quiet stands corrected further other

  one_alike : (o : Option Ask) (at : Offset) (v : LayoutNode) (kids : Forest LayoutNode) (w : LayoutNode) (under : Forest LayoutNode)
      → member v ≡ member w → (w.needs_layout ≡ false → IsGiven PL w under (objects PL under)) → (w.shown ≡ true → IsQuiet PL back w (AreQuiet PL back under)) → ShownAs o at w
      → CorrectedAs o (λ ask. IsCorrected PL back ask v kids w under) (IsLeft v kids w under) → Further kids under → ListOr (is_list v.look) (AreAlike kids under) (ListsAlike kids under)
  one_alike None at v kids w under is given quiet stands corrected further =
      lists_or (is_list v.look) (AreAlike kids under) (ListsAlike kids under) (alike_kept kids under corrected.inside) (lists_kept kids under corrected.inside)
  one_alike (Some ask) at v kids w under is given quiet stands corrected further = asked_alike ask at v kids w under is given (quiet stands.shown) stands corrected further (is_list v.look) refl

  lists_alike : (asks : List (Option Ask)) (places : List Offset) (f g : Forest LayoutNode) → HereAll PL g → AreFresh PL g → AreQuiet PL back g → StandAs asks places g
      → AreCorrected PL back asks f g → ListsAlike f g
  lists_alike asks places none none all full quiet stands corrected = tt
  lists_alike asks places none (tree k w under rest) all full quiet stands corrected = absurd corrected
  lists_alike asks places (tree h v kids more) none all full quiet stands corrected = absurd corrected
  lists_alike asks places (tree h v kids more) (tree k w under rest) all full quiet stands corrected = (
    corrected.0,
    ap (λ (m : NodeMember). m.look) corrected.1,
    one_alike (ask_of asks) (place_of places) v kids w under corrected.1 full.0 quiet.0 stands.0 corrected.2
        (λ xs ps calm stood right. lists_alike xs ps kids under all.1 full.1 calm stood right),
    lists_alike (later asks) (past (ask_of asks) places) more rest all.2 full.2 quiet.1 stands.1 corrected.3,
  )

  pub flushed_alike : (view : Size) (f : Forest RenderObject) (k : Handle) (w : RenderObject) (under : Forest RenderObject) → HereAll PL (layout_nodes (tree k w under none)) → AreQuiet PL back (layout_nodes (tree k w under none))
      → IsPlaced (tree k w under none) → RootAsked view (layout_nodes (tree k w under none)) → AreCorrected PL back (view_asks view) (layout_nodes f) (layout_nodes (tree k w under none))
      → ListsAlike (layout_nodes f) (layout_nodes (tree k w under none))
  flushed_alike view f k w under all quiet placed asks stays =
      lists_alike (view_asks view) (origin ∷ []) (layout_nodes f) (layout_nodes (tree k w under none)) all (fresh PL law (layout_nodes (tree k w under none)) all) quiet
      (record { shown = placed.0; asked = asks; offset = placed.1 }, tt) stays

-- ---- marks that don't reach

pub none_climbs : (hs : List Handle) (p : Above) (f : Forest RenderObject) → has_listed hs f ≡ false → some_climbs layout_marks hs p f ≡ false
none_climbs hs p none e = refl
none_climbs hs p (tree h o kids rest) e =
    let parts = or_parts (listed h hs) (has_listed hs kids || has_listed hs rest) e in
    let more = or_parts (has_listed hs kids) (has_listed hs rest) parts.1 in
    (λ i. ((parts.0 i || none_climbs hs (within layout_marks p o) kids more.0 i) && ends) || none_climbs hs p rest more.1 i)
  where
    ends : Bool
    ends = not (not p.asked && layout_marks.ends p.top p.hidden o)
