-- The node with an element's number, in the plain nodes of a forest of elements.
use Rattle.std.proofs.Common.{◌≡◌, ◌≢◌, ◌⊎◌, ℕ, zero, suc, ◌≤◌, false, cond, eqb, Option, Some, None, option_map, refl, sym, ap, ◌∙◌, inl, inr, arith}
use Rattle.std.specs.Option.{option_or, option_to_list}
use Rattle.std.proofs.lemmas.Bool.{eq-eqb, ne_eqb}
use Rattle.fx_handles.specs.declared.Handle.{Handle}
use Rattle.fx_handles.specs.Handle.{same}
use Rattle.fx_handles.specs.HandleLaws.{same-eq, same-ne, cases_same}
use Rattle.node_tree.specs.Forest.{TreeNode, Forest, count, Stands}
use Rattle.node_tree.specs.Forest.Forest.{none, tree}
use Rattle.plain_tree.specs.PlainNode.{PlainNode, nodes_of as listed}
use Rattle.plain_tree.specs.At.{node_at, node_in}
use Rattle.session_form.specs.Handlers.{node_in as node_of}
use Rattle.element_tree.specs.Element.{Element}
use Rattle.element_tree.specs.Nodes.{nodes_of}
use Rattle.build_walk.specs.Kept.{node_over}

abbrev pub value_in : Option (TreeNode Element) → Option Element
value_in o = option_map (λ (n : TreeNode Element). n.value) o

hit : (k h : Handle) → k ≡ h → cond {A = ℕ} (same k h) 1 0 ≡ 1
hit k h e = ap (λ b. cond {A = ℕ} b 1 0) (same-eq k h e)

miss : (k h : Handle) → k ≢ h → cond {A = ℕ} (same k h) 1 0 ≡ 0
miss k h apart = ap (λ b. cond {A = ℕ} b 1 0) (same-ne k h apart)

is_zero : (n : ℕ) → (n ≡ 0) ⊎ (1 ≤ n)
is_zero zero = inl refl
is_zero (suc n) = inr (omega arith)

pub element_is : (a b : Element) → Some a ≡ Some b → a ≡ b
element_is a b e = cc

or_left : (x y : Option PlainNode) (m : PlainNode) → x ≡ Some m → option_or x y ≡ Some m
or_left None y m e = absurd (cc)
or_left (Some n) y m e = e

or_right : (x y : Option PlainNode) → x ≡ None → option_or x y ≡ y
or_right None y e = refl
or_right (Some n) y e = absurd (cc)

-- ---- a number that no element has

module _ (at : Handle → Option (TreeNode Element)) (scrolled : ℕ → ℕ) (number : ℕ) (other : (k : Handle) (v : Element) → value_in (at k) ≡ Some v → v.number ≢ number) where
  pub not_among : (p : Option Handle) (f : Forest Element) → Stands at p f → node_in number (listed (nodes_of scrolled f)) ≡ None
  not_among p none stands = refl
  not_among p (tree k v below rest) stands =
      let inner : Option PlainNode = node_in number (listed (nodes_of scrolled below)) in
      let later : Option PlainNode = node_in number (listed (nodes_of scrolled rest)) in
      ap (λ b. option_or (cond b (Some (node_over scrolled v below)) inner) later) (ne_eqb v.number number (other k v (ap value_in stands.0)))
      ∙ or_right inner later (not_among (Some k) below stands.1)
      ∙ not_among p rest stands.2

-- ---- one element has the number of e, and stands at h

module _ (at : Handle → Option (TreeNode Element)) (scrolled : ℕ → ℕ) (h : Handle) (e : Element) (here : value_in (at h) ≡ Some e)
    (unique : (k : Handle) (v : Element) → value_in (at k) ≡ Some v → v.number ≡ e.number → k ≡ h) where
  value_here : (p : Option Handle) (k : Handle) (v : Element) (below rest : Forest Element) → Stands at p (tree k v below rest) → k ≡ h → v ≡ e
  value_here p k v below rest stands is_h = element_is v e (sym (ap value_in stands.0) ∙ ap (λ x. value_in (at x)) is_h ∙ here)

  elsewhere : (p : Option Handle) (k : Handle) (v : Element) (below rest : Forest Element) → Stands at p (tree k v below rest) → k ≢ h → eqb v.number e.number ≡ false
  elsewhere p k v below rest stands apart = ne_eqb v.number e.number (λ same_number. apart (unique k v (ap value_in stands.0) same_number))

  absent : (p : Option Handle) (f : Forest Element) → Stands at p f → count h f ≡ 0 → node_in e.number (listed (nodes_of scrolled f)) ≡ None
  absent p none stands zero_there = refl
  absent p (tree k v below rest) stands zero_there =
      let inner : Option PlainNode = node_in e.number (listed (nodes_of scrolled below)) in
      let later : Option PlainNode = node_in e.number (listed (nodes_of scrolled rest)) in
      let apart : k ≢ h = λ is_h. absurd (omega (arith, zero_there, hit k h is_h)) in
      ap (λ b. option_or (cond b (Some (node_over scrolled v below)) inner) later) (elsewhere p k v below rest stands apart)
      ∙ or_right inner later (absent (Some k) below stands.1 (omega (arith, zero_there)))
      ∙ absent p rest stands.2 (omega (arith, zero_there))

  pub among : (p : Option Handle) (f : Forest Element) → Stands at p f → 1 ≤ count h f
      → (kids : Forest Element) × (node_in e.number (listed (nodes_of scrolled f)) ≡ Some (node_over scrolled e kids))
  among p none stands is = absurd (omega (arith, is))
  among p (tree k v below rest) stands is =
      let inner : Option PlainNode = node_in e.number (listed (nodes_of scrolled below)) in
      let later : Option PlainNode = node_in e.number (listed (nodes_of scrolled rest)) in
      elim (cases_same k h) [
        | inl is_h ↦ (
          below,
          ap (λ b. option_or (cond b (Some (node_over scrolled v below)) inner) later) (eq-eqb v.number e.number (ap (λ (x : Element). x.number) (value_here p k v below rest stands is_h)))
              ∙ ap (λ x. Some (node_over scrolled x below)) (value_here p k v below rest stands is_h),
        )
        | inr apart ↦
            let step = ap (λ b. option_or (cond b (Some (node_over scrolled v below)) inner) later) (elsewhere p k v below rest stands apart) in
            elim (is_zero (count h below)) [
              | inl not_below ↦
                  let r = among p rest stands.2 (omega (arith, is, miss k h apart, not_below)) in
                  (r.0, step ∙ or_right inner later (absent (Some k) below stands.1 not_below) ∙ r.1)
              | inr is_below ↦
                  let r = among (Some k) below stands.1 is_below in
                  (r.0, step ∙ or_left inner later (node_over scrolled e r.0) r.1)
            ]
      ]

-- ---- of a tree, or of none

or_nothing : (o : Option PlainNode) → option_or o None ≡ o
or_nothing None = refl
or_nothing (Some n) = refl

pub in_list : (old : Option PlainNode) (number : ℕ) → node_in number (listed (option_to_list old)) ≡ node_of old number
in_list None number = refl
in_list (Some n) number = or_nothing (node_at number n)
