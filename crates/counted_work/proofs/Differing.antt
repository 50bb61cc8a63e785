-- The numbers of a tree's nodes, one after another, where no two nodes have one number.
use Rattle.std.proofs.Common.{◌≡◌, ℕ, ◌==◌, Bool, true, false, ◌||◌, ◌⊎◌, cond, Option, Some, None, option_map, List, [], ◌∷◌, ◌++◌, refl, sym, ap, ◌∙◌, subst, arith, inl, inr, eq-eqb, eqb-true}
use Rattle.std.proofs.lemmas.Bool.{or_parts, or_left, or_right, false≢true}
use Rattle.fx_handles.specs.declared.Handle.{Handle}
use Rattle.fx_handles.specs.Handle.{same}
use Rattle.fx_handles.specs.HandleLaws.{same_self}
use Rattle.node_tree.specs.Forest.{TreeNode, Forest, In, IsDistinct, Stands}
use Rattle.node_tree.specs.Forest.Forest.{none, tree}
use Rattle.node_tree.specs.Tree.{Tree, IsTree, node_at}
use Rattle.node_tree.proofs.ForestLemmas.{count_here}
use Rattle.plain_tree.specs.Laws.{DiffersFrom, AllDiffer, render_numbers_in}
use Rattle.tree_marks.proofs.Closing.{either}
use Rattle.render_tree.specs.Object.{RenderObject}
use Rattle.render_tree.specs.Plain.{renders_of, root_tree}
use Rattle.render_sync.specs.Numbering.{NumbersDiffer, number_at}
use Rattle.screen_owner.proofs.Showing.{root_forest}

-- ---- lists of numbers

abbrev occurs : ℕ → List ℕ → Bool
occurs n [] = false
occurs n (y ∷ ys) = (n == y) || occurs n ys

not_true : (b : Bool) → (b ≡ true → ⊥) → b ≡ false
not_true true no_more = absurd (no_more refl)
not_true false no_more = refl

occurs_both : (n : ℕ) (xs ys : List ℕ) → occurs n (xs ++ ys) ≡ true → (occurs n xs ≡ true) ⊎ (occurs n ys ≡ true)
occurs_both n [] ys e = inr e
occurs_both n (x ∷ xs) ys e = elim (either (n == x) (occurs n (xs ++ ys)) e) [
  | inl here ↦ inl (or_left (n == x) (occurs n xs) here)
  | inr later ↦ elim (occurs_both n xs ys later) [
    | inl a ↦ inl (or_right (n == x) (occurs n xs) a)
    | inr b ↦ inr b
  ]
]

differs : (n : ℕ) (ys : List ℕ) → occurs n ys ≡ false → DiffersFrom n ys
differs n [] e = tt
differs n (y ∷ ys) e =
    let parts = or_parts (n == y) (occurs n ys) e in ((λ same_number. false≢true (sym parts.0 ∙ eq-eqb n y same_number)), differs n ys parts.1)

differs_both : (n : ℕ) (xs ys : List ℕ) → DiffersFrom n xs → DiffersFrom n ys → DiffersFrom n (xs ++ ys)
differs_both n [] ys a b = b
differs_both n (x ∷ xs) ys a b = (a.0, differs_both n xs ys a.1 b)

differ_both : (xs ys : List ℕ) → AllDiffer xs → AllDiffer ys → ((n : ℕ) → occurs n xs ≡ true → occurs n ys ≡ false) → AllDiffer (xs ++ ys)
differ_both [] ys a b cross = b
differ_both (x ∷ xs) ys a b cross = (
  differs_both x xs ys a.0 (differs x ys (cross x (or_left (x == x) (occurs x xs) (eq-eqb x x refl)))),
  differ_both xs ys a.1 b (λ n e. cross n (or_right (n == x) (occurs n xs) e)),
)

-- ---- the numbers of nodes

abbrev numbers : Forest RenderObject → List ℕ
numbers f = render_numbers_in (renders_of f)

module _ (t : Tree RenderObject) (differ : NumbersDiffer t) where
  number_there : (h : Handle) (n : TreeNode RenderObject) → node_at t h ≡ Some n → number_at t h ≡ Some n.value.number
  number_there h n e = ap (λ (x : Option (TreeNode RenderObject)). option_map (λ (o : RenderObject). o.number) (option_map (λ (m : TreeNode RenderObject). m.value) x)) e

  -- a number that occurs is a node's
  abbrev Named : ℕ → Forest RenderObject → Type 0
  Named n f = (k : Handle) × In k f × (number_at t k ≡ Some n)

  named : (n : ℕ) (q : Option Handle) (f : Forest RenderObject) → Stands (node_at t) q f → occurs n (numbers f) ≡ true → Named n f
  named n q none s e = absurd (false≢true e)
  named n q (tree h o kids rest) s e = elim (either (n == o.number) (occurs n (numbers kids ++ numbers rest)) e) [
    | inl here ↦ (h, count_here h o kids rest, number_there h _ s.0 ∙ ap (λ (x : ℕ). Some x) (sym (eqb-true n o.number here)))
    | inr later ↦ elim (occurs_both n (numbers kids) (numbers rest) later) [
      | inl a ↦ let there = named n (Some h) kids s.1 a in let inside = there.1 in (there.0, omega (arith, inside), there.2)
      | inr b ↦ let there = named n q rest s.2 b in let inside = there.1 in (there.0, omega (arith, inside), there.2)
    ]
  ]

  differ_list : (q : Option Handle) (f : Forest RenderObject) → Stands (node_at t) q f → IsDistinct f → AllDiffer (numbers f)
  differ_list q none s d = tt
  differ_list q (tree h o kids rest) s d = (
    differs o.number (numbers kids ++ numbers rest) (not_true (occurs o.number (numbers kids ++ numbers rest)) own),
    differ_both (numbers kids) (numbers rest) (differ_list (Some h) kids s.1 (λ c. omega (arith, d c))) (differ_list q rest s.2 (λ c. omega (arith, d c)))
        (λ n a. not_true (occurs n (numbers rest)) (cross n a)),
  )
    where
      here : number_at t h ≡ Some o.number
      here = number_there h _ s.0

      one : cond {A = ℕ} (same h h) 1 0 ≡ 1
      one = ap (λ b. cond {A = ℕ} b 1 0) (same_self h)

      own : occurs o.number (numbers kids ++ numbers rest) ≡ true → ⊥
      own e = elim (occurs_both o.number (numbers kids) (numbers rest) e) [
        | inl a ↦
            let there = named o.number (Some h) kids s.1 a in
            let inside : In h kids = subst (λ (x : Handle). In x kids) (differ o.number there.0 h there.2 here) there.1 in omega (arith, inside, d h, one)
        | inr b ↦
            let there = named o.number q rest s.2 b in
            let inside : In h rest = subst (λ (x : Handle). In x rest) (differ o.number there.0 h there.2 here) there.1 in omega (arith, inside, d h, one)
      ]

      cross : (n : ℕ) → occurs n (numbers kids) ≡ true → occurs n (numbers rest) ≡ true → ⊥
      cross n a b =
          let one_of = named n (Some h) kids s.1 a in
          let other = named n q rest s.2 b in
          let inside : In one_of.0 kids = one_of.1 in
          let beside : In one_of.0 rest = subst (λ (x : Handle). In x rest) (differ n other.0 one_of.0 other.2 one_of.2) other.1 in omega (arith, inside, beside, d one_of.0)

pub differ_tree : (t : Tree RenderObject) → IsTree t → t.inactive ≡ [] → NumbersDiffer t → AllDiffer (render_numbers_in (renders_of (root_tree t)))
differ_tree t is alone differ =
    subst (λ (f : Forest RenderObject). AllDiffer (render_numbers_in (renders_of f))) (sym (root_forest t is.0 alone is.1)) (differ_list t differ None is.0 is.1.stands is.1.distinct)
