-- Fields that are changed, in the plain nodes.
use Rattle.std.proofs.Common.{◌≡◌, ◌≢◌, ◌⊎◌, ℕ, zero, suc, ◌≤◌, true, false, cond, eqb, List, Option, Some, None, is_some, option_map, refl, sym, ap, ◌∙◌, inl, inr, arith}
use Rattle.std.specs.Option.{option_or}
use Rattle.std.proofs.lemmas.Bool.{eq-eqb, ne_eqb}
use Rattle.fx_handles.specs.declared.Handle.{Handle}
use Rattle.fx_handles.specs.Handle.{same}
use Rattle.fx_handles.specs.HandleLaws.{same-eq, same-ne, cases_same}
use Rattle.fx_expr.specs.declared.values.Value.{Value}
use Rattle.node_tree.specs.Forest.{TreeNode, Forest, count, Stands, set_value}
use Rattle.node_tree.specs.Forest.Forest.{none, tree}
use Rattle.plain_tree.specs.PlainNode.{PlainNode, node, PlainNodes, more_nodes, nodes_of as listed}
use Rattle.plain_tree.specs.At.{node_in, is_there_in, changed_in, having_fields}
use Rattle.element_tree.specs.Element.{Element}
use Rattle.element_tree.specs.Fields.{with_fields}
use Rattle.element_tree.specs.Nodes.{nodes_of}

hit : (k h : Handle) → k ≡ h → cond {A = ℕ} (same k h) 1 0 ≡ 1
hit k h e = ap (λ b. cond {A = ℕ} b 1 0) (same-eq k h e)

miss : (k h : Handle) → k ≢ h → cond {A = ℕ} (same k h) 1 0 ≡ 0
miss k h apart = ap (λ b. cond {A = ℕ} b 1 0) (same-ne k h apart)

-- a value that is written at a handle which doesn't stand in the forest
set_absent : (h : Handle) (w : Element) (f : Forest Element) → count h f ≡ 0 → set_value h w f ≡ f
set_absent h w none absent = refl
set_absent h w (tree k v below rest) absent = elim (cases_same k h) [
  | inl e ↦ absurd (omega (arith, hit k h e))
  | inr apart ↦
      ap (λ b. tree k (cond b w v) (set_value h w below) (set_value h w rest)) (same-ne k h apart)
      ∙ ap (λ f. tree k v f (set_value h w rest)) (set_absent h w below (omega arith))
      ∙ ap (tree k v below) (set_absent h w rest (omega arith))
]

or_first : {X : Type 0} (x y : Option X) → is_some x ≡ true → is_some (option_or x y) ≡ true
or_first None y e = absurd (cc)
or_first (Some x) y e = refl

or_second : {X : Type 0} (x y : Option X) → is_some y ≡ true → is_some (option_or x y) ≡ true
or_second None y e = e
or_second (Some x) y e = refl

or_neither : {X : Type 0} (x y : Option X) → is_some x ≡ false → is_some y ≡ false → is_some (option_or x y) ≡ false
or_neither None y e d = d
or_neither (Some x) y e d = absurd (cc)

is_zero : (n : ℕ) → (n ≡ 0) ⊎ (1 ≤ n)
is_zero zero = inl refl
is_zero (suc n) = inr (omega arith)

abbrev plain_of : (ℕ → ℕ) → Element → PlainNodes → PlainNode
plain_of scrolled e kids = node e.number e.widget e.fields (scrolled e.number) e.index kids

-- one element has the number of e, and stands at h
module _ (at : Handle → Option (TreeNode Element)) (scrolled : ℕ → ℕ) (h : Handle) (e : Element) (here : option_map (λ (n : TreeNode Element). n.value) (at h) ≡ Some e)
    (unique : (k : Handle) (v : Element) → option_map (λ (n : TreeNode Element). n.value) (at k) ≡ Some v → v.number ≡ e.number → k ≡ h) where
  value_is : (p : Option Handle) (k : Handle) (v : Element) (below rest : Forest Element) → Stands at p (tree k v below rest) → option_map (λ (n : TreeNode Element). n.value) (at k) ≡ Some v
  value_is p k v below rest stands = ap (option_map (λ (n : TreeNode Element). n.value)) stands.0

  value_here : (p : Option Handle) (k : Handle) (v : Element) (below rest : Forest Element) → Stands at p (tree k v below rest) → k ≡ h → v ≡ e
  value_here p k v below rest stands is_h =
      let one : Some v ≡ Some e = sym (value_is p k v below rest stands) ∙ ap (λ x. option_map (λ (n : TreeNode Element). n.value) (at x)) is_h ∙ here in
      cc

  -- another node isn't the one with the number
  elsewhere : (p : Option Handle) (k : Handle) (v : Element) (below rest : Forest Element) → Stands at p (tree k v below rest) → k ≢ h → eqb v.number e.number ≡ false
  elsewhere p k v below rest stands apart = ne_eqb v.number e.number (λ same_number. apart (unique k v (value_is p k v below rest stands) same_number))

  there : (p : Option Handle) (f : Forest Element) → Stands at p f → 1 ≤ count h f → is_there_in e.number (listed (nodes_of scrolled f)) ≡ true
  there p none stands among = absurd (omega arith)
  there p (tree k v below rest) stands among =
      let n : PlainNode = plain_of scrolled v (listed (nodes_of scrolled below)) in
      let later : Option PlainNode = node_in e.number (listed (nodes_of scrolled rest)) in
      let inner : Option PlainNode = node_in e.number (listed (nodes_of scrolled below)) in
      elim (cases_same k h) [
        | inl is_h ↦
            ap (λ b. is_some (option_or (cond b (Some n) inner) later)) (eq-eqb v.number e.number (ap (λ x. x.number) (value_here p k v below rest stands is_h)))
        | inr apart ↦
            ap (λ b. is_some (option_or (cond b (Some n) inner) later)) (elsewhere p k v below rest stands apart)
            ∙ elim (is_zero (count h below)) [
              | inl not_below ↦ or_second inner later (there p rest stands.2 (omega (arith, miss k h apart)))
              | inr is_below ↦ or_first inner later (there (Some k) below stands.1 is_below)
            ]
      ]

  not_there : (p : Option Handle) (f : Forest Element) → Stands at p f → count h f ≡ 0 → is_there_in e.number (listed (nodes_of scrolled f)) ≡ false
  not_there p none stands absent = refl
  not_there p (tree k v below rest) stands absent =
      let n : PlainNode = plain_of scrolled v (listed (nodes_of scrolled below)) in
      let later : Option PlainNode = node_in e.number (listed (nodes_of scrolled rest)) in
      let inner : Option PlainNode = node_in e.number (listed (nodes_of scrolled below)) in
      let apart : k ≢ h = λ is_h. absurd (omega (arith, hit k h is_h)) in
      ap (λ b. is_some (option_or (cond b (Some n) inner) later)) (elsewhere p k v below rest stands apart)
      ∙ or_neither inner later (not_there (Some k) below stands.1 (omega arith)) (not_there p rest stands.2 (omega arith))

  pub fields_changed : (fields : List Value) (p : Option Handle) (f : Forest Element) → Stands at p f → ((k : Handle) → count k f ≤ 1)
      → listed (nodes_of scrolled (set_value h (with_fields fields e) f)) ≡ changed_in (having_fields fields) e.number (listed (nodes_of scrolled f))
  fields_changed fields p none stands distinct = refl
  fields_changed fields p (tree k v below rest) stands distinct =
      let w : Element = with_fields fields e in
      let kids : PlainNodes = listed (nodes_of scrolled below) in
      let n : PlainNode = plain_of scrolled v kids in
      let later : PlainNodes = listed (nodes_of scrolled rest) in
      let inner : Option PlainNode = node_in e.number kids in
      let changed : PlainNodes → PlainNodes = changed_in (having_fields fields) e.number in
      elim (cases_same k h) [
        | inl is_h ↦
            let is_e = value_here p k v below rest stands is_h in
            let number : eqb v.number e.number ≡ true = eq-eqb v.number e.number (ap (λ x. x.number) is_e) in
            let few = distinct h in
            let no_below : set_value h w below ≡ below = set_absent h w below (omega (arith, hit k h is_h)) in
            let no_rest : set_value h w rest ≡ rest = set_absent h w rest (omega (arith, hit k h is_h)) in
            ap (λ b. listed (nodes_of scrolled (tree k (cond b w v) (set_value h w below) (set_value h w rest)))) (same-eq k h is_h)
            ∙ ap (λ g. more_nodes (plain_of scrolled w (listed (nodes_of scrolled g))) (listed (nodes_of scrolled (set_value h w rest)))) no_below
            ∙ ap (λ g. more_nodes (plain_of scrolled w kids) (listed (nodes_of scrolled g))) no_rest
            ∙ ap (λ (x : Element). more_nodes (node x.number x.widget fields (scrolled x.number) x.index kids) later) (sym is_e)
            ∙ sym (ap (λ b. cond (is_some (cond b (Some n) inner)) (more_nodes (cond b (having_fields fields n) (plain_of scrolled v (changed kids))) later) (more_nodes n (changed later))) number)
        | inr apart ↦
            let number : eqb v.number e.number ≡ false = elsewhere p k v below rest stands apart in
            let step : changed (more_nodes n later) ≡ cond (is_some inner) (more_nodes (plain_of scrolled v (changed kids)) later) (more_nodes n (changed later)) =
            ap (λ b. cond (is_some (cond b (Some n) inner)) (more_nodes (cond b (having_fields fields n) (plain_of scrolled v (changed kids))) later) (more_nodes n (changed later))) number in
            let few = distinct h in
            ap (λ b. listed (nodes_of scrolled (tree k (cond b w v) (set_value h w below) (set_value h w rest)))) (same-ne k h apart)
            ∙ elim (is_zero (count h below)) [
              | inl not_below ↦
                  let outside : is_some inner ≡ false = not_there (Some k) below stands.1 not_below in
                  ap (λ g. more_nodes (plain_of scrolled v (listed (nodes_of scrolled g))) (listed (nodes_of scrolled (set_value h w rest)))) (set_absent h w below not_below)
                  ∙ ap (more_nodes n) (fields_changed fields p rest stands.2 (λ x. omega (arith, distinct x)))
                  ∙ sym (step ∙ ap (λ b. cond b (more_nodes (plain_of scrolled v (changed kids)) later) (more_nodes n (changed later))) outside)
              | inr is_below ↦
                  let inside : is_some inner ≡ true = there (Some k) below stands.1 is_below in
                  ap (λ g. more_nodes (plain_of scrolled v (listed (nodes_of scrolled (set_value h w below)))) (listed (nodes_of scrolled g))) (set_absent h w rest (omega (arith, miss k h apart)))
                  ∙ ap (λ ns. more_nodes (plain_of scrolled v ns) later) (fields_changed fields (Some k) below stands.1 (λ x. omega (arith, distinct x)))
                  ∙ sym (step ∙ ap (λ b. cond b (more_nodes (plain_of scrolled v (changed kids)) later) (more_nodes n (changed later))) inside)
            ]
      ]
