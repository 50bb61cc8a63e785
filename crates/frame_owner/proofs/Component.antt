-- Where the component stands below which elements take widgets.
use Rattle.std.proofs.Common.{◌≡◌, ◌⊎◌, ℕ, ◌+◌, ◌≤◌, ◌==◌, Bool, true, false, cond, Option, Some, None, option_map, List, [], ◌++◌, map, refl, sym, ap, subst, ◌∙◌, inl, inr, arith, eqb-true, eq-eqb}
use Rattle.std.proofs.lemmas.List.{append-nil}
use Rattle.std.specs.Option.{option_or}
use Rattle.fx_handles.specs.declared.Handle.{Handle}
use Rattle.fx_handles.specs.Handle.{same, times, AreDistinct}
use Rattle.fx_handles.specs.HandleLaws.{cases_same, same-eq, same-ne}
use Rattle.fx_handles.specs.ArenaLaws.{same_Some}
use Rattle.node_tree.specs.Forest.{TreeNode, Forest, count, In, IsDistinct, below, tree_of, Stands}
use Rattle.node_tree.specs.Forest.Forest.{none, tree}
use Rattle.node_tree.specs.Tree.{Tree, node_at as stored_at}
use Rattle.node_tree.proofs.ForestLemmas.{count-tree_of-le}
use Rattle.widget_model.specs.Plain.{PlainWidget}
use Rattle.plain_tree.specs.At.{node_in}
use Rattle.plain_tree.specs.PlainNode.{PlainNode, node, PlainNodes, nodes_of as listed}
use Rattle.element_tree.specs.Element.{Element, element_at}
use Rattle.element_tree.specs.Nodes.{nodes_of}
use Rattle.settled_builds.specs.Taken.{nodes_below}
use Rattle.renewed_builds.specs.Renewing.{Change, widgets_in, each_can_take, can_take_drawn, changes_of, can_take_at, changes_at}
use Rattle.renewed_builds.proofs.Ordering.{row_seldom}
use Rattle.renewed_builds.proofs.Rows.{follow}
use Rattle.renewed_builds.proofs.Whole.{at_tree}
use Rattle.kept_builds.specs.Standing.{NumbersOnce}
use Rattle.frame_owner.proofs.Changing.{both}

-- ---- no element changes twice

pub elements_apart : (h : Handle) (ws : List PlainWidget) (f : Forest Element) → IsDistinct f → In h f → can_take_at h ws f ≡ true → AreDistinct (map (λ (c : Change). c.element) (changes_at h ws f))
elements_apart h ws f distinct inside can k =
    let there = at_tree h ws f distinct inside in
    let row = below (tree_of h f) in
    let row_distinct : IsDistinct row = λ x. let a = count_below x (tree_of h f) in let b = count-tree_of-le x h f (distinct h) in let few = distinct x in omega (arith, a, b, few) in
    let seldom = row_seldom k row row_distinct ws (follow (widgets_in row) ws (each_can_take row) (sym there.0 ∙ can)) in
    subst (λ (cs : List Change). times k (map (λ (c : Change). c.element) cs) ≤ 1) (sym there.1) seldom
  where
    count_below : (x : Handle) (s : Forest Element) → count x (below s) ≤ count x s
    count_below x none = omega arith
    count_below x (tree k e kids rest) = omega arith

-- ---- the component, by its handle and by its number

module _ (t : Tree Element) (h : Handle) (e0 : Element) (at : element_at t h ≡ Some e0) (once : NumbersOnce t) (scrolled : ℕ → ℕ) (ws : List PlainWidget) where
  abbrev wanted : ℕ
  wanted = e0.number

  abbrev plain : Forest Element → PlainNodes
  plain f = listed (nodes_of scrolled f)

  abbrev Agree : Forest Element → Type 0
  Agree none = Unit {0}
  Agree (tree k e kids rest) = (same k h ≡ (e.number == wanted)) × Agree kids × Agree rest

  element_here : (k : Handle) (n : TreeNode Element) → stored_at t k ≡ Some n → element_at t k ≡ Some n.value
  element_here k n e = ap (option_map (λ (x : TreeNode Element). x.value)) e

  agree_here : (k : Handle) (e : Element) → element_at t k ≡ Some e → same k h ≡ (e.number == wanted)
  agree_here k e is = elim (cases_same k h) [
    | inl eq ↦
        let one : e ≡ e0 = same_Some (sym is ∙ (ap (element_at t) eq ∙ at)) in
        same-eq k h eq ∙ sym (number_same e.number wanted (ap (λ (x : Element). x.number) one))
    | inr ne ↦ same-ne k h ne ∙ sym (number_other e.number wanted (λ eq. ne (once wanted k h (ap (option_map (λ (x : Element). x.number)) is ∙ ap (λ n. Some n) eq) (ap (option_map (λ (x : Element). x.number)) at))))
  ]
    where
      number_same : (a b : ℕ) → a ≡ b → (a == b) ≡ true
      number_same a b eq = eq-eqb a b eq

      number_other : (a b : ℕ) → (a ≡ b → ⊥) → (a == b) ≡ false
      number_other a b other = by_test (a == b) refl
        where
          by_test : (x : Bool) → (a == b) ≡ x → (a == b) ≡ false
          by_test true z = absurd (other (eqb-true a b z))
          by_test false z = z

  pub agree : (p : Option Handle) (f : Forest Element) → Stands (stored_at t) p f → Agree f
  agree p none stands = tt
  agree p (tree k e kids rest) stands = (agree_here k e (element_here k _ stands.0), agree (Some k) kids stands.1, agree p rest stands.2)

  -- it is found by its number exactly where it stands
  abbrev Found : Forest Element → Type 0
  Found f = ((node_in wanted (plain f) ≡ None) × (count h f ≡ 0)) ⊎ ((n : PlainNode) × (node_in wanted (plain f) ≡ Some n) × (1 ≤ count h f))

  found_step : (k : Handle) (e : Element) (kids rest : Forest Element) (b : Bool) → same k h ≡ b → (e.number == wanted) ≡ b → Found kids → Found rest → Found (tree k e kids rest)
  found_step k e kids rest true s is below later =
      let here : cond {A = ℕ} (same k h) 1 0 ≡ 1 = ap (λ (x : Bool). cond {A = ℕ} x 1 0) s in
      let own : PlainNode = node e.number e.widget e.fields (scrolled e.number) e.index (plain kids) in
      inr (own, ap (λ (x : Bool). option_or (cond {A = Option PlainNode} x (Some own) (node_in wanted (plain kids))) (node_in wanted (plain rest))) is, omega (arith, here))
  found_step k e kids rest false s is (inr below) later =
      let own : PlainNode = node e.number e.widget e.fields (scrolled e.number) e.index (plain kids) in
      let some = below.2 in
      inr (
        below.0,
        ap (λ (x : Bool). option_or (cond {A = Option PlainNode} x (Some own) (node_in wanted (plain kids))) (node_in wanted (plain rest))) is ∙ ap (λ (x : Option PlainNode). option_or x (node_in wanted (plain rest))) below.1,
        omega (arith, some),
      )
  found_step k e kids rest false s is (inl below) (inr later) =
      let own : PlainNode = node e.number e.widget e.fields (scrolled e.number) e.index (plain kids) in
      let some = later.2 in
      inr (
        later.0,
        ap (λ (x : Bool). option_or (cond {A = Option PlainNode} x (Some own) (node_in wanted (plain kids))) (node_in wanted (plain rest))) is
            ∙ (ap (λ (x : Option PlainNode). option_or x (node_in wanted (plain rest))) below.0 ∙ later.1),
        omega (arith, some),
      )
  found_step k e kids rest false s is (inl below) (inl later) =
      let here : cond {A = ℕ} (same k h) 1 0 ≡ 0 = ap (λ (x : Bool). cond {A = ℕ} x 1 0) s in
      let own : PlainNode = node e.number e.widget e.fields (scrolled e.number) e.index (plain kids) in
      let a = below.1 in
      let b = later.1 in
      inl (
        ap (λ (x : Bool). option_or (cond {A = Option PlainNode} x (Some own) (node_in wanted (plain kids))) (node_in wanted (plain rest))) is
            ∙ (ap (λ (x : Option PlainNode). option_or x (node_in wanted (plain rest))) below.0 ∙ later.0),
        omega (arith, here, a, b),
      )

  found : (f : Forest Element) → Agree f → Found f
  found none a = inl (refl, omega arith)
  found (tree k e kids rest) a = found_step k e kids rest (same k h) refl (sym a.0) (found kids a.1) (found rest a.2)

  nothing_at : (f : Forest Element) → count h f ≡ 0 → changes_at h ws f ≡ []
  nothing_at none zero = refl
  nothing_at (tree k e kids rest) zero = by_same (same k h) refl (λ off. nothing_at kids (omega (arith, zero))) (λ off. nothing_at rest (omega (arith, zero)))
    where
      by_same : (b : Bool) → same k h ≡ b → (b ≡ false → changes_at h ws kids ≡ []) → (b ≡ false → changes_at h ws rest ≡ []) → changes_at h ws (tree k e kids rest) ≡ []
      by_same true s below later = let here : cond {A = ℕ} (same k h) 1 0 ≡ 1 = ap (λ (x : Bool). cond {A = ℕ} x 1 0) s in absurd (omega (arith, here, zero))
      by_same false s below later =
          ap (λ (b : Bool). cond {A = List Change} b (changes_of kids ws) (changes_at h ws kids) ++ changes_at h ws rest) s
          ∙ (ap (λ (cs : List Change). cs ++ changes_at h ws rest) (below refl) ∙ later refl)

  -- what holds of the changes of what stands below it holds of all
  module _ (P : List Change → PlainNodes → Type 0) (law : (p : Option Handle) (kids : Forest Element) → Stands (stored_at t) p kids → can_take_drawn kids ws ≡ true → P (changes_of kids ws) (plain kids)) where
    abbrev Holds : Forest Element → Type 0
    Holds f = count h f ≤ 1 → (n : PlainNode) → node_in wanted (plain f) ≡ Some n → can_take_at h ws f ≡ true → P (changes_at h ws f) (nodes_below n)

    at_step : (p : Option Handle) (k : Handle) (e : Element) (kids rest : Forest Element) → Stands (stored_at t) p (tree k e kids rest) → (b : Bool) → same k h ≡ b → (e.number == wanted) ≡ b → Found kids → Found rest
        → Holds kids → Holds rest → Holds (tree k e kids rest)
    at_step p k e kids rest stands true s is below later in_kids in_rest few n found_n can =
        let here : cond {A = ℕ} (same k h) 1 0 ≡ 1 = ap (λ (x : Bool). cond {A = ℕ} x 1 0) s in
        let own : PlainNode = node e.number e.widget e.fields (scrolled e.number) e.index (plain kids) in
        let one : own ≡ n = same_Some (sym (ap (λ (x : Bool). option_or (cond {A = Option PlainNode} x (Some own) (node_in wanted (plain kids))) (node_in wanted (plain rest))) is) ∙ found_n) in
        let parts = both (cond {A = Bool} (same k h) (can_take_drawn kids ws) (can_take_at h ws kids)) (can_take_at h ws rest) can in
        let takes : can_take_drawn kids ws ≡ true = sym (ap (λ (x : Bool). cond {A = Bool} x (can_take_drawn kids ws) (can_take_at h ws kids)) s) ∙ parts.0 in
        let all : changes_at h ws (tree k e kids rest) ≡ changes_of kids ws =
        ap (λ (x : Bool). cond {A = List Change} x (changes_of kids ws) (changes_at h ws kids) ++ changes_at h ws rest) s
        ∙ (ap (λ (cs : List Change). changes_of kids ws ++ cs) (nothing_at rest (omega (arith, here, few))) ∙ append-nil (changes_of kids ws)) in
        subst (λ (cs : List Change). P cs (nodes_below n)) (sym all) (subst (λ (m : PlainNode). P (changes_of kids ws) (nodes_below m)) one (law (Some k) kids stands.1 takes))
    at_step p k e kids rest stands false s is (inr below) later in_kids in_rest few n found_n can =
        let own : PlainNode = node e.number e.widget e.fields (scrolled e.number) e.index (plain kids) in
        let one : node_in wanted (plain kids) ≡ Some n =
        below.1
        ∙ (sym (ap (λ (x : Bool). option_or (cond {A = Option PlainNode} x (Some own) (node_in wanted (plain kids))) (node_in wanted (plain rest))) is
        ∙ ap (λ (x : Option PlainNode). option_or x (node_in wanted (plain rest))) below.1)
        ∙ found_n) in
        let parts = both (cond {A = Bool} (same k h) (can_take_drawn kids ws) (can_take_at h ws kids)) (can_take_at h ws rest) can in
        let takes : can_take_at h ws kids ≡ true = sym (ap (λ (x : Bool). cond {A = Bool} x (can_take_drawn kids ws) (can_take_at h ws kids)) s) ∙ parts.0 in
        let some = below.2 in
        let all : changes_at h ws (tree k e kids rest) ≡ changes_at h ws kids =
        ap (λ (x : Bool). cond {A = List Change} x (changes_of kids ws) (changes_at h ws kids) ++ changes_at h ws rest) s
        ∙ (ap (λ (cs : List Change). changes_at h ws kids ++ cs) (nothing_at rest (omega (arith, some, few))) ∙ append-nil (changes_at h ws kids)) in
        subst (λ (cs : List Change). P cs (nodes_below n)) (sym all) (in_kids (omega (arith, few)) n one takes)
    at_step p k e kids rest stands false s is (inl below) later in_kids in_rest few n found_n can =
        let own : PlainNode = node e.number e.widget e.fields (scrolled e.number) e.index (plain kids) in
        let one : node_in wanted (plain rest) ≡ Some n =
        sym (ap (λ (x : Bool). option_or (cond {A = Option PlainNode} x (Some own) (node_in wanted (plain kids))) (node_in wanted (plain rest))) is
        ∙ ap (λ (x : Option PlainNode). option_or x (node_in wanted (plain rest))) below.0)
        ∙ found_n in
        let parts = both (cond {A = Bool} (same k h) (can_take_drawn kids ws) (can_take_at h ws kids)) (can_take_at h ws rest) can in
        let all : changes_at h ws (tree k e kids rest) ≡ changes_at h ws rest =
        ap (λ (x : Bool). cond {A = List Change} x (changes_of kids ws) (changes_at h ws kids) ++ changes_at h ws rest) s
        ∙ ap (λ (cs : List Change). cs ++ changes_at h ws rest) (nothing_at kids below.1) in
        subst (λ (cs : List Change). P cs (nodes_below n)) (sym all) (in_rest (omega (arith, few)) n one parts.1)

    pub at_component : (p : Option Handle) (f : Forest Element) → Stands (stored_at t) p f → Agree f → Holds f
    at_component p none stands a few n found_n can = absurd (none_some found_n)
      where
        none_some : None ≡ Some n → ⊥
        none_some e = cc
    at_component p (tree k e kids rest) stands a few n found_n can =
        at_step p k e kids rest stands (same k h) refl (sym a.0) (found kids a.1) (found rest a.2) (at_component (Some k) kids stands.1 a.1) (at_component p rest stands.2 a.2) few n found_n can
