-- Plans of one node and of two, none of which has children.
use Rattle.std.proofs.Common.{◌≡◌, ◌≢◌, ℕ, cond, List, [], ◌∷◌, Option, Some, None, sym, ap, ◌∙◌, subst, inl, inr, arith}
use Rattle.fx_handles.specs.declared.Handle.{Handle}
use Rattle.fx_handles.specs.Handle.{same}
use Rattle.fx_handles.specs.HandleLaws.{same-eq, same-ne, cases_same}
use Rattle.node_tree.specs.Forest.{Forest}
use Rattle.node_tree.specs.Forest.Forest.{none, tree}
use Rattle.node_tree.specs.Tree.{Tree, IsNode, node_at, value_at}
use Rattle.node_tree.specs.Plan.{PlanEntry, IsPlan}
use Rattle.node_tree.specs.Part.{IsPartPlan}
use Rattle.node_tree.proofs.PlanLemmas.{plan_of, updated_forest, valued}
use Rattle.node_tree.proofs.PartTrees.{part_of_plan}

-- a handle counts where it is another one, or not
hit : (h x : Handle) → h ≡ x → cond {A = ℕ} (same h x) 1 0 ≡ 1
hit h x e = ap (λ b. cond {A = ℕ} b 1 0) (same-eq h x e)

miss : (h x : Handle) → h ≢ x → cond {A = ℕ} (same h x) 1 0 ≡ 0
miss h x ne = ap (λ b. cond {A = ℕ} b 1 0) (same-ne h x ne)

module _ {U : Type 0} where
  -- the entry puts a node without children at the top
  pub record IsLoose (e : PlanEntry U) (h : Handle) : Type 0 where
    pub at : e.at ≡ h
    pub parent : e.parent ≡ None
    pub children : e.children ≡ []

  made : U → Handle → Option Handle → List Handle → PlanEntry U
  made u x p xs = record { at = x; parent = p; children = xs; update = u }

  loose_is : (e : PlanEntry U) (h : Handle) → IsLoose e h → e ≡ record { at = h; parent = None; children = []; update = e.update }
  unfolding made
  loose_is e h loose = ap (λ x. made e.update x e.parent e.children) loose.at ∙ ap (λ p. made e.update h p e.children) loose.parent ∙ ap (made e.update h None) loose.children

pub of_one : {T U : Type 0} (t : Tree T) (es : List (PlanEntry U)) (waiting : List Handle) (e : PlanEntry U) (h : Handle) → IsNode t h → IsLoose e h → es ≡ e ∷ [] → waiting ≡ []
    → (g : Forest U) × IsPlan t es (Some h) waiting g
of_one t es waiting e h live loose is waits = (
  tree h e.update none none,
  plan_of t es (Some h) waiting (tree h e.update none none)
      (is ∙ ap (λ x. x ∷ []) (loose_is e h loose))
      (ap (λ hs. h ∷ hs) waits)
      (λ x. elim (cases_same h x) [
        | inl e ↦ omega (arith, hit h x e)
        | inr ne ↦ omega (arith, miss h x ne)
      ])
      (λ x among. elim (cases_same h x) [
        | inl e ↦ (let P : Handle → Type 0 = λ y. IsNode t y in subst P e live)
        | inr ne ↦ absurd (omega (arith, miss h x ne))
      ]),
)

pub of_two : {T U : Type 0} (t : Tree T) (es : List (PlanEntry U)) (waiting : List Handle) (c d : PlanEntry U) (h k : Handle) → IsNode t h → IsNode t k → h ≢ k → IsLoose c h → IsLoose d k → es ≡ c ∷ d ∷ [] → waiting ≡ k ∷ []
    → (g : Forest U) × IsPlan t es (Some h) waiting g
of_two t es waiting c d h k live there ne first second is waits = (
  tree h c.update none (tree k d.update none none),
  plan_of t es (Some h) waiting (tree h c.update none (tree k d.update none none))
      (is ∙ ap (λ x. x ∷ d ∷ []) (loose_is c h first) ∙ ap (λ x. record { at = h; parent = None; children = []; update = c.update } ∷ x ∷ []) (loose_is d k second))
      (ap (λ hs. h ∷ hs) waits)
      (λ x. elim (cases_same h x) [
        | inl e ↦ omega (arith, hit h x e, miss k x (λ f. ne (e ∙ sym f)))
        | inr apart ↦ elim (cases_same k x) [
          | inl e ↦ omega (arith, miss h x apart, hit k x e)
          | inr other ↦ omega (arith, miss h x apart, miss k x other)
        ]
      ])
      (λ x among. elim (cases_same h x) [
        | inl e ↦ (let P : Handle → Type 0 = λ y. IsNode t y in subst P e live)
        | inr apart ↦ elim (cases_same k x) [
          | inl e ↦ (let P : Handle → Type 0 = λ y. IsNode t y in subst P e there)
          | inr other ↦ absurd (omega (arith, miss h x apart, miss k x other))
        ]
      ]),
)

-- the plan of one node is one for a part
pub part_of_one : {T U : Type 0} (updated : U → T → T) (t : Tree T) (es : List (PlanEntry U)) (waiting : List Handle) (e : PlanEntry U) (h : Handle) → IsNode t h → IsLoose e h → es ≡ e ∷ [] → waiting ≡ []
    → (f : Forest T) × IsPartPlan updated t es (Some h) waiting f
part_of_one updated t es waiting e h live loose is waits =
    let plan = of_one t es waiting e h live loose is waits in
    let made = updated_forest updated (value_at t) plan.0 (λ k among. valued (node_at t k) (plan.1.live k among)) in
    (made.0, part_of_plan updated t es (Some h) waiting plan.0 made.0 plan.1 made.1)
