-- What is below a component took what its body gave: then the elements stand for the tree of the build.
use Rattle.std.specs.List.{find}
use Rattle.std.proofs.lemmas.Bool.{and_parts}
use Rattle.std.proofs.Common.{◌≡◌, ℕ, ◌+◌, Bool, true, false, cond, Option, Some, None, List, [], ◌∷◌, refl, sym, ap, ◌∙◌, subst, arith}
use Rattle.fx_handles.specs.declared.Handle.{Handle}
use Rattle.fx_handles.specs.Handle.{same}
use Rattle.fx_handles.specs.HandleLaws.{same-true, same-eq}
use Rattle.node_tree.specs.Edits.{KeepsHandles}
use Rattle.node_tree.specs.Forest.{Forest, below, In, IsDistinct, Stands}
use Rattle.node_tree.specs.Forest.Forest.{none, tree}
use Rattle.node_tree.specs.Tree.{Tree, node_at, IsNode, Is, subtree_at, StandsAt}
use Rattle.widget_model.specs.Plain.{PlainWidget}
use Rattle.program_check.specs.Checked.{PlainChecked}
use Rattle.program_check.specs.TypedChecked.{IsTypedChecked}
use Rattle.program_check.specs.WellChecked.{scale_of}
use Rattle.plain_tree.specs.At.{numbers_of}
use Rattle.plain_tree.specs.PlainNode.{PlainNode}
use Rattle.build_form.specs.Entering.{Blueprint}
use Rattle.build_form.specs.FullBuild.{Screen, built, full_build}
use Rattle.build_form.specs.Program.{blueprint_of}
use Rattle.element_tree.specs.Element.{Element, number_at, made_count}
use Rattle.element_tree.specs.Nodes.{nodes_of}
use Rattle.build_walk.proofs.Kept.{one_stands}
use Rattle.build_walk.proofs.Standing.{by_place}
use Rattle.build_walk.specs.Telling.{FlagsAre}
use Rattle.build_walk.specs.Past.{is_marked}
use Rattle.settled_builds.specs.Places.{NodePlace}
use Rattle.settled_builds.specs.Rearranged.{drawn_in}
use Rattle.settled_builds.specs.Retaken.{can_retake_below, retaken}
use Rattle.settled_builds.specs.Settled.{IsReadyTree, IsSettledFor}
use Rattle.settled_builds.specs.Steps.{Leads, IsFirstMarked, IsGivenAt, CanTakeAnew, without}
use Rattle.renewed_builds.specs.Renewing.{Change, can_take_drawn, can_take_at, taken_at, changes_at}
use Rattle.renewed_builds.specs.Stale.{IsStaleElement, StoresGiven, IsRenewed, IsLeftToBuild}
use Rattle.build_owner.specs.Standing.{next_at}
use Rattle.build_walk.specs.Standing.{pasts_from}
use Rattle.renewed_builds.proofs.Retaken.{taken_stands, tree_taken, none_marked_of}
use Rattle.renewed_builds.proofs.Retaking.{nodes_can, nodes_drawn, flags_taken}
use Rattle.renewed_builds.proofs.Spotted.{IsSpotOf}
use Rattle.renewed_builds.proofs.Stored.{can_same, changes_same, taken_same}

-- ---- what is below the component can take widgets

module _ (t : Tree Element) (found : (k : Handle) (s : Forest Element) → StandsAt t k s → subtree_at t k ≡ s) (h : Handle) (ws : List PlainWidget) where
  abbrev CanBelow : Type 0
  CanBelow = can_take_drawn (below (subtree_at t h)) ws ≡ true

  by_same : (b : Bool) (k : Handle) (v : Element) (kids rest : Forest Element) → same k h ≡ b → StandsAt t k (tree k v kids none) → In h (tree k v kids rest)
      → cond b (can_take_drawn kids ws) (can_take_at h ws kids) ≡ true → (In h kids → can_take_at h ws kids ≡ true → CanBelow) → (In h rest → CanBelow) → CanBelow
  by_same true k v kids rest is stands among can inside later =
      let kids_are : below (subtree_at t h) ≡ kids = sym (ap (λ x. below (subtree_at t x)) (same-true k h is)) ∙ ap (λ s. below s) (found k (tree k v kids none) stands) in
      subst (λ f. can_take_drawn f ws ≡ true) (sym kids_are) can
  by_same false k v kids rest is stands among can inside later =
      by_place h k v kids rest CanBelow among (λ here. absurd (let no = sym is ∙ same-eq k h here in cc)) (λ there. inside there can) later

  -- where that was tested in the whole tree
  pub can_below : (p : Option Handle) (f : Forest Element) → Stands (node_at t) p f → IsDistinct f → In h f → can_take_at h ws f ≡ true → CanBelow
  can_below p none stands distinct among can = absurd (omega (arith, among))
  can_below p (tree k v kids rest) stands distinct among can =
      let parts = and_parts (cond (same k h) (can_take_drawn kids ws) (can_take_at h ws kids)) (can_take_at h ws rest) can in
      by_same (same k h) k v kids rest refl (one_stands t p k v kids rest stands distinct) among parts.0
      (λ there more. can_below (Some k) kids stands.1 (λ x. omega (arith, distinct x)) there more)
      (λ there. can_below p rest stands.2 (λ x. omega (arith, distinct x)) there parts.1)

-- ---- the whole tree

-- a build of a tree without lazy lists lays nothing out: any screen will do
abbrev pub any_screen : PlainChecked → Screen
any_screen c = record { scale = scale_of c.version; delegates = []; view = record { w = 0; h = 0 } }

abbrev pub ReadyLaw : Type 0
ReadyLaw = (b : Blueprint) (marks : List ℕ) (wanted next : ℕ) (root : PlainWidget) (tree : PlainNode) (p : NodePlace) (ws : List PlainWidget)
    → IsReadyTree b marks next root tree → IsFirstMarked b marks wanted tree p → CanTakeAnew b ws p → IsReadyTree b (without wanted marks) next root (retaken ws wanted tree)

abbrev pub LeadLaw : Type 0
LeadLaw = (b : Blueprint) (marks : List ℕ) (wanted next : ℕ) (root : PlainWidget) (tree : PlainNode) (p : NodePlace) (ws : List PlainWidget)
    → IsReadyTree b marks next root tree → IsFirstMarked b marks wanted tree p → CanTakeAnew b ws p → Leads b next root tree marks (retaken ws wanted tree) (without wanted marks) 1

abbrev pub SettledLaw : Type 0
SettledLaw = (b : Blueprint) (marks : List ℕ) (next : ℕ) (root : PlainWidget) (tree : PlainNode) → IsReadyTree b marks next root tree → find (is_marked marks) (numbers_of tree) ≡ None → IsSettledFor b marks root tree

abbrev pub StayLaw : Type 0
StayLaw = (b : Blueprint) (screen : Screen) (marks : List ℕ) (next : ℕ) (root : PlainWidget) (tree : PlainNode) → IsSettledFor b marks root tree → full_build b screen (Some tree) next root ≡ built tree next

module _ (c : PlainChecked) (t u : Tree Element) (h : Handle) (x : IsStaleElement c t h) (ws : List PlainWidget) (given : IsGivenAt (blueprint_of c) ws x.place)
    (stores : StoresGiven c x.marks x.tree x.scrolled t u x.stands h x.element.number ws) where
  -- its test is that of the tree before
  can_before : (b : Bool) → can_take_at h ws stores.stands.forest ≡ b → can_take_at h ws x.stands.forest ≡ b
  can_before b can = sym (ap (can_take_at h ws) stores.forest ∙ can_same h ws x.stands.forest x.stands.is.distinct) ∙ can

  -- they can't take them
  pub left_to_build : (v : Tree Element) → v ≡ u → can_take_at h ws stores.stands.forest ≡ false → IsLeftToBuild c t v h x
  left_to_build v same cannot = record {
    given = ws;
    is = given;
    cannot = can_before false cannot;
    stores = subst (λ z. StoresGiven c x.marks x.tree x.scrolled t z x.stands h x.element.number ws) (sym same) stores;
  }

  -- they did
  module _ (clear : FlagsAre [] stores.stands.forest) (live : IsNode t h) (spot : IsSpotOf t x.scrolled (pasts_from c x.stands.forest) h x.element x.place)
      (found : (k : Handle) (s : Forest Element) → StandsAt t k s → subtree_at t k ≡ s) (ready_law : ReadyLaw) (lead_law : LeadLaw) (settled_law : SettledLaw) (stay_law : StayLaw)
      (made : made_count u ≡ made_count t) (can : can_take_at h ws stores.stands.forest ≡ true) where
    below_can : can_take_drawn (below (subtree_at t h)) ws ≡ true
    below_can = can_below t found h ws None x.stands.forest x.stands.is.stands x.stands.is.distinct (x.stands.is.whole h live) (can_before true can)

    can_anew : CanTakeAnew (blueprint_of c) ws x.place
    can_anew = record {
      given = given;
      can = subst (λ n. can_retake_below ws n ≡ true) (sym spot.node) (nodes_can x.scrolled (below (subtree_at t h)) ws below_can);
    }

    abbrev new : PlainNode
    new = retaken ws x.element.number x.tree

    abbrev left : List ℕ
    left = without x.element.number x.marks

    module _ (number : number_at u h ≡ Some x.element.number) (only : (k : Handle) → number_at u k ≡ Some x.element.number → k ≡ h) where
      new_nodes : new ∷ [] ≡ nodes_of x.scrolled (taken_at h ws stores.stands.forest)
      new_nodes = tree_taken x.scrolled u h x.element.number ws stores.stands.forest stores.stands.is x.tree stores.stands.nodes number only

      none_left : find (is_marked left) (numbers_of new) ≡ None
      none_left =
          none_marked_of left x.scrolled new (taken_at h ws stores.stands.forest) new_nodes
          (flags_taken left h ws stores.stands.forest can stores.stands.flags) (flags_taken [] h ws stores.stands.forest can clear)

      is_settled : IsSettledFor (blueprint_of c) left x.root new
      is_settled =
          settled_law (blueprint_of c) left (next_at t) x.root new
          (ready_law (blueprint_of c) x.marks x.element.number (next_at t) x.root x.tree x.place ws x.ready x.first can_anew) none_left

      is_built : full_build (blueprint_of c) (any_screen c) (Some x.tree) (made_count u + 1) x.root ≡ built new (made_count u + 1)
      is_built =
          subst (λ n. full_build (blueprint_of c) (any_screen c) (Some x.tree) (n + 1) x.root ≡ built new (n + 1)) (sym made)
          ((lead_law (blueprint_of c) x.marks x.element.number (next_at t) x.root x.tree x.place ws x.ready x.first can_anew).full (any_screen c)
          ∙ stay_law (blueprint_of c) (any_screen c) left (next_at t) x.root new is_settled)

      -- once exactly that was written
      pub renewed_so : (v : Tree Element) (changed : List Change) → IsTypedChecked c → Is v (taken_at h ws stores.stands.forest) → v.root ≡ u.root → KeepsHandles u.nodes v.nodes
          → changed ≡ changes_at h ws stores.stands.forest → IsRenewed c t v h x changed
      renewed_so v changed checked is root handles changes =
          let stands = taken_stands c left x.tree x.scrolled u v h ws x.element.number x.root (any_screen c) checked stores.stands clear number only can is root handles x.ready.widget is_built in
          record {
            given = ws;
            can = can_anew;
            drawn = subst (λ n. drawn_in ws n ≡ true) (sym spot.node) (nodes_drawn x.scrolled (below (subtree_at t h)) ws below_can);
            settled = is_settled;
            renews = record {
              stands = stands.0;
              can = can_before true can;
              forest = stands.1 ∙ ap (taken_at h ws) stores.forest ∙ taken_same h ws x.stands.forest x.stands.is.distinct;
              changes = changes ∙ ap (changes_at h ws) stores.forest ∙ changes_same h ws x.stands.forest x.stands.is.distinct;
            };
          }
