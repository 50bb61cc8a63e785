-- Elements that took widgets in their places are kept, and have their render nodes as before.
use Rattle.std.proofs.Common.{◌≡◌, ℕ, zero, suc, Bool, true, false, cond, Option, Some, None, option_map, List, [], ◌∷◌, refl, sym, ap, subst, ◌∙◌, arith}
use Rattle.std.specs.Prelude.{slice_get}
use Rattle.fx_handles.specs.declared.Handle.{Handle}
use Rattle.fx_handles.specs.Handle.{same}
use Rattle.fx_handles.specs.ArenaLaws.{same_Some}
use Rattle.node_tree.specs.Forest.{TreeNode, Forest, In, Stands, append}
use Rattle.node_tree.specs.Forest.Forest.{none, tree}
use Rattle.node_tree.specs.Tree.{Tree, Is, node_at}
use Rattle.widget_model.specs.Plain.{PlainWidget}
use Rattle.widget_model.specs.Plain.{children_of as child_widgets}
use Rattle.widget_model.specs.Update.{IsSameType}
use Rattle.plain_tree.specs.Projection.{scroll_in}
use Rattle.plain_tree.specs.RenderRole.{vanishes}
use Rattle.element_tree.specs.Edits.{with_widget, with_index}
use Rattle.element_tree.specs.Element.{Element, element_at}
use Rattle.render_tree.specs.Object.{RenderObject}
use Rattle.render_tree.specs.Tree.{object_at}
use Rattle.work_sets.specs.Members.{is_same_widget}
use Rattle.build_walk.specs.Renewing.{role_of, IsDrawn, Unless, AreDrawn}
use Rattle.build_walk.proofs.Alike.{vanish_alike, scroll_alike}
use Rattle.build_walk.proofs.Standing.{live_element}
use Rattle.settled_builds.specs.Retaken.{gathered_by, asked_by}
use Rattle.renewed_builds.specs.Renewing.{Change, widgets_in, takes_in_place, each_can_take, can_take_drawn, joined, each_taking, taking_elements, with_given, can_take_at, renewed_at, stored_at}
use Rattle.renewed_builds.specs.Several.{KeepsElements}
use Rattle.renewed_builds.proofs.Retaking.{so_row}
use Rattle.frame_owner.specs.Redrawing.{changed, unmarked}
use Rattle.frame_owner.proofs.Changing.{both, or_other, takes_of}
use Rattle.frame_owner.proofs.Windows.{in_parts}

-- a node with these number and offset is still at the handle
pub record StillAt (s : Tree RenderObject) (k : Handle) (o : RenderObject) : Type 0 where
  pub object : RenderObject
  pub stored : object_at s k ≡ Some object
  pub number : object.number ≡ o.number
  pub scroll : object.scroll ≡ o.scroll

-- so it is where nodes take widgets
pub still_at : (cs : List Change) (r s : Tree RenderObject) → ((h : Handle) → option_map unmarked (object_at s h) ≡ option_map (λ (o : RenderObject). unmarked (changed cs h o)) (object_at r h)) → (k : Handle) (o : RenderObject)
    → object_at r k ≡ Some o → StillAt s k o
still_at cs r s law k o at = by_object (object_at s k) refl (law k ∙ ap (option_map (λ (x : RenderObject). unmarked (changed cs k x))) at)
  where
    none_some : (x : RenderObject) → None ≡ Some x → ⊥
    none_some x e = cc

    same_some : (x y : RenderObject) → Some x ≡ Some y → x ≡ y
    same_some x y e = cc

    by_object : (x : Option RenderObject) → object_at s k ≡ x → option_map unmarked (object_at s k) ≡ Some (unmarked (changed cs k o)) → StillAt s k o
    by_object None is e = absurd (none_some (unmarked (changed cs k o)) (sym (ap (option_map unmarked) is) ∙ e))
    by_object (Some v) is e =
        let one : unmarked v ≡ unmarked (changed cs k o) = same_some (unmarked v) (unmarked (changed cs k o)) (sym (ap (option_map unmarked) is) ∙ e) in
        record { object = v; stored = is; number = ap (λ (x : RenderObject). x.number) one; scroll = ap (λ (x : RenderObject). x.scroll) one }

-- an element is as it was but for its widget, which is of the same type, and its place
record IsKept (e v : Element) : Type 0 where
  pub render : v.render ≡ e.render
  pub number : v.number ≡ e.number
  pub type : IsSameType e.widget v.widget

-- ---- elements that are kept have their render nodes

module _ (r s : Tree RenderObject) (still : (k : Handle) (o : RenderObject) → object_at r k ≡ Some o → StillAt s k o) (scrolled : ℕ → ℕ) where
  drawn_still : (e v : Element) → IsKept e v → IsDrawn (object_at r) (scrolled e.number) e → IsDrawn (object_at s) (scrolled v.number) v
  drawn_still e v kept d =
      let m = still d.handle d.object d.stored in
      record {
        handle = d.handle;
        named = kept.render ∙ d.named;
        object = m.object;
        stored = m.stored;
        number = m.number ∙ (d.number ∙ sym kept.number);
        scrolled = m.scroll ∙ (d.scrolled ∙ (scroll_alike e.widget v.widget (scrolled e.number) kept.type ∙ ap (λ n. scroll_in (role_of v) (scrolled n)) (sym kept.number)));
      }

  unless_by : (b : Bool) (P : Type 0) → (b ≡ false → P) → Unless b P
  unless_by true P law = tt
  unless_by false P law = law refl

  module _ (t u : Tree Element) (keeps : KeepsElements t u) (drawn : (k : Handle) (e : Element) → element_at t k ≡ Some e → vanishes (role_of e) ≡ false → IsDrawn (object_at r) (scrolled e.number) e) where
    pub kept_drawn : (p : Option Handle) (f : Forest Element) → Stands (node_at u) p f → AreDrawn (object_at s) scrolled f
    kept_drawn p none stands = tt
    kept_drawn p (tree k v kids rest) stands =
        let was = keeps k v (ap (option_map (λ (n : TreeNode Element). n.value)) stands.0) in (
          unless_by (vanishes (role_of v)) (IsDrawn (object_at s) (scrolled v.number) v) (λ has_node. drawn_still was.0 v (record { render = was.2; number = was.3; type = was.4 }) (drawn k was.0 was.1 (vanish_alike was.0.widget v.widget was.4 ∙ has_node))),
          kept_drawn (Some k) kids stands.1,
          kept_drawn p rest stands.2,
        )

-- ---- which elements are kept

module _ (t : Tree Element) where
  abbrev IsKeptAt : Handle → Element → Type 0
  IsKeptAt k v = (e : Element) × (element_at t k ≡ Some e) × IsKept e v

  abbrev AreKept : Forest Element → Type 0
  AreKept none = Unit {0}
  AreKept (tree k v kids rest) = IsKeptAt k v × AreKept kids × AreKept rest

  as_it_was : (e : Element) → IsKept e e
  as_it_was e = record { render = refl; number = refl; type = refl }

  -- those that stand in the forest are
  kept_in : (u : Tree Element) (p : Option Handle) (f : Forest Element) → Stands (node_at u) p f → AreKept f → (k : Handle) (v : Element) → element_at u k ≡ Some v → In k f → IsKeptAt k v
  kept_in u p none stands kept k v at inside = absurd (omega (arith, inside))
  kept_in u p (tree h w kids rest) stands kept k v at inside =
      in_parts k h w kids rest (IsKeptAt k v) inside
      (λ own.
      let one : w ≡ v = same_Some (sym (ap (option_map (λ (n : TreeNode Element). n.value)) stands.0) ∙ (ap (element_at u) own ∙ at)) in
      subst (λ (x : Element). IsKeptAt k x) one (subst (λ (x : Handle). IsKeptAt x w) own kept.0))
      (λ below. kept_in u (Some h) kids stands.1 kept.1 k v at below)
      (λ later. kept_in u p rest stands.2 kept.2 k v at later)

  keeps_those : (u : Tree Element) (f : Forest Element) → Is u f → AreKept f → KeepsElements t u
  keeps_those u f is kept k v at = let x = kept_in u None f is.stands kept k v at (is.whole k (live_element u k v at)) in (x.0, x.1, x.2.render, x.2.number, x.2.type)

  pub keeps_all : KeepsElements t t
  keeps_all k v at = (v, at, refl, refl, refl)

  both_kept : (f g : Forest Element) → AreKept f → AreKept g → AreKept (append f g)
  both_kept none g p q = q
  both_kept (tree h e kids rest) g p q = (p.0, p.1, both_kept rest g p.2 q)

  -- where they stand as they were
  here_kept : (p : Option Handle) (h : Handle) (e v : Element) (kids rest : Forest Element) → Stands (node_at t) p (tree h e kids rest) → IsKept e v → IsKeptAt h v
  here_kept p h e v kids rest stands kept = (e, ap (option_map (λ (n : TreeNode Element). n.value)) stands.0, kept)

  all_kept : (p : Option Handle) (f : Forest Element) → Stands (node_at t) p f → AreKept f
  all_kept p none stands = tt
  all_kept p (tree h e kids rest) stands = (here_kept p h e e kids rest stands (as_it_was e), all_kept (Some h) kids stands.1, all_kept p rest stands.2)

  -- one of a forest took a widget, or has it
  taken_here : (p : Option Handle) (h : Handle) (e : Element) (w : PlainWidget) (place : ℕ) (kids rest taken : Forest Element) → Stands (node_at t) p (tree h e kids rest) → (kept : Bool) → (kept ≡ false → IsSameType e.widget w × AreKept taken)
      → AreKept (joined (tree h (with_index place (cond {A = Element} kept e (with_widget w e))) (cond {A = Forest Element} kept kids taken) none ∷ []))
  taken_here p h e w place kids rest taken stands true took = (here_kept p h e (with_index place e) kids rest stands (record { render = refl; number = refl; type = refl }), all_kept (Some h) kids stands.1, tt)
  taken_here p h e w place kids rest taken stands false took =
      (here_kept p h e (with_index place (with_widget w e)) kids rest stands (record { render = refl; number = refl; type = (took refl).0 }), (took refl).1, tt)

  parts_kept : (p : Option Handle) (f : Forest Element) → Stands (node_at t) p f → (j : ℕ) (w : PlainWidget) (place : ℕ) → asked_by (slice_get (each_can_take f) j) w ≡ true → AreKept (joined (gathered_by (slice_get (each_taking f) j) w place))
  parts_kept p none stands j w place can = tt
  parts_kept p (tree h e kids rest) stands zero w place can =
      taken_here p h e w place kids rest (taking_elements kids (child_widgets w)) stands (is_same_widget e.widget w)
      (λ other.
      let q = both (takes_in_place e w) (can_take_drawn kids (child_widgets w)) (or_other (is_same_widget e.widget w) _ other can) in
      ((takes_of e w q.0).type, so_row AreKept tt both_kept (each_taking kids) (each_can_take kids) (parts_kept (Some h) kids stands.1) (widgets_in kids) (child_widgets w) q.1))
  parts_kept p (tree h e kids rest) stands (suc j) w place can = parts_kept p rest stands.2 j w place can

  taking_kept : (p : Option Handle) (f : Forest Element) (ws : List PlainWidget) → Stands (node_at t) p f → can_take_drawn f ws ≡ true → AreKept (taking_elements f ws)
  taking_kept p f ws stands can = so_row AreKept tt both_kept (each_taking f) (each_can_take f) (parts_kept p f stands) (widgets_in f) ws can

  -- the component stores what its body gave
  given_kept : (ws : List PlainWidget) (e : Element) (here : Bool) → IsKept e (cond {A = Element} here (with_given ws e) e)
  given_kept ws e true = record { render = refl; number = refl; type = refl }
  given_kept ws e false = as_it_was e

  stored_kept : (h : Handle) (ws : List PlainWidget) (p : Option Handle) (f : Forest Element) → Stands (node_at t) p f → AreKept (stored_at h ws f)
  stored_kept h ws p none stands = tt
  stored_kept h ws p (tree k e kids rest) stands =
      (here_kept p k e (cond {A = Element} (same k h) (with_given ws e) e) kids rest stands (given_kept ws e (same k h)), stored_kept h ws (Some k) kids stands.1, stored_kept h ws p rest stands.2)

  -- and those below it take that
  below_kept : (here : Bool) (taken other : Forest Element) (takes below : Bool) → cond {A = Bool} here takes below ≡ true → (takes ≡ true → AreKept taken) → (below ≡ true → AreKept other) → AreKept (cond {A = Forest Element} here taken other)
  below_kept true taken other takes below can took stays = took can
  below_kept false taken other takes below can took stays = stays can

  renewed_kept : (h : Handle) (ws : List PlainWidget) (p : Option Handle) (f : Forest Element) → Stands (node_at t) p f → can_take_at h ws f ≡ true → AreKept (renewed_at h ws f)
  renewed_kept h ws p none stands can = tt
  renewed_kept h ws p (tree k e kids rest) stands can =
      let parts = both (cond {A = Bool} (same k h) (can_take_drawn kids ws) (can_take_at h ws kids)) (can_take_at h ws rest) can in (
        here_kept p k e (cond {A = Element} (same k h) (with_given ws e) e) kids rest stands (given_kept ws e (same k h)),
        below_kept (same k h) (taking_elements kids ws) (renewed_at h ws kids) (can_take_drawn kids ws) (can_take_at h ws kids) parts.0 (λ on. taking_kept (Some k) kids ws stands.1 on) (λ on. renewed_kept h ws (Some k) kids stands.1 on),
        renewed_kept h ws p rest stands.2 parts.1,
      )

  -- ---- as it is told of a component that was built

  pub renewed_keeps : (u : Tree Element) (h : Handle) (ws : List PlainWidget) (f g : Forest Element) → Is t f → Is u g → g ≡ renewed_at h ws f → can_take_at h ws f ≡ true → KeepsElements t u
  renewed_keeps u h ws f g stood stands is can = keeps_those u g stands (subst AreKept (sym is) (renewed_kept h ws None f stood.stands can))

  pub stored_keeps : (u : Tree Element) (h : Handle) (ws : List PlainWidget) (f g : Forest Element) → Is t f → Is u g → g ≡ stored_at h ws f → KeepsElements t u
  stored_keeps u h ws f g stood stands is = keeps_those u g stands (subst AreKept (sym is) (stored_kept h ws None f stood.stands))

-- one after another
pub keeps_on : (t m u : Tree Element) → KeepsElements t m → KeepsElements m u → KeepsElements t u
keeps_on t m u first then k v at =
    let b = then k v at in
    let a = first k b.0 b.1 in
    (a.0, a.1, b.2 ∙ a.2, b.3 ∙ a.3, a.4 ∙ b.4)
