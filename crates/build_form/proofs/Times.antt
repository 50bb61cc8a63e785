-- How often a number stands in a tree.
use Rattle.std.proofs.Common.{◌≡◌, ℕ, ◌+◌, ◌<◌, ◌≤◌, eqb, Bool, true, false, List, [], ◌∷◌, ◌++◌, refl, sym, ap, subst, inl, inr, arith}
use Rattle.std.proofs.lemmas.Bool.{eq-eqb, ne_eqb, cases_eq, cases_lt}
use Rattle.plain_tree.specs.PlainNode.{PlainNode, node, PlainNodes, no_nodes, more_nodes}
use Rattle.plain_tree.specs.At.{numbers_of, numbers_in}
use Rattle.plain_tree.specs.Laws.{DiffersFrom, AllDiffer}
use Rattle.build_form.specs.Laws.{NumbersAre, AllNumbersAre}

abbrev pub one_if : Bool → ℕ
one_if true = 1
one_if false = 0

abbrev pub times : ℕ → List ℕ → ℕ
times x [] = 0
times x (y ∷ ys) = one_if (eqb y x) + times x ys

abbrev mutual
  pub times_of : ℕ → PlainNode → ℕ
  times_of x (node number widget fields scroll index children) = one_if (eqb number x) + times_in x children

  pub times_in : ℕ → PlainNodes → ℕ
  times_in x no_nodes = 0
  times_in x (more_nodes n ns) = times_of x n + times_in x ns

pub one_same : (y x : ℕ) → y ≡ x → one_if (eqb y x) ≡ 1
one_same y x e = ap one_if (eq-eqb y x e)

pub none_other : (y x : ℕ) → (y ≡ x → ⊥) → one_if (eqb y x) ≡ 0
none_other y x e = ap one_if (ne_eqb y x e)

-- ---- in the list of its numbers

times-append : (x : ℕ) (us vs : List ℕ) → times x (us ++ vs) ≡ times x us + times x vs
times-append x [] vs = omega arith
times-append x (u ∷ us) vs = let rest = times-append x us vs in omega arith

mutual
  pub times_listed : (x : ℕ) (n : PlainNode) → times x (numbers_of n) ≡ times_of x n
  times_listed x (node number w fs s i ns) = ap (λ t. one_if (eqb number x) + t) (times_listed_in x ns)

  times_listed_in : (x : ℕ) (ns : PlainNodes) → times x (numbers_in ns) ≡ times_in x ns
  times_listed_in x no_nodes = refl
  times_listed_in x (more_nodes n ns) =
      let joined = times-append x (numbers_of n) (numbers_in ns) in
      let one = times_listed x n in
      let rest = times_listed_in x ns in
      omega arith

-- ---- at most once

differs_times : (x : ℕ) (ys : List ℕ) → DiffersFrom x ys → times x ys ≡ 0
differs_times x [] h = refl
differs_times x (y ∷ ys) h =
    let here = none_other y x (λ e. h.0 (sym e)) in
    let rest = differs_times x ys h.1 in
    omega arith

pub differ_times : (x : ℕ) (ys : List ℕ) → AllDiffer ys → times x ys ≤ 1
differ_times x [] h = omega arith
differ_times x (y ∷ ys) h =
    elim (cases_eq y x) [
      | inl e ↦ (let here = one_same y x e in
          let rest : times x ys ≡ 0 = subst (λ z. times z ys ≡ 0) e (differs_times y ys h.0) in
          omega arith)
      | inr e ↦ (let here = none_other y x e in let rest = differ_times x ys h.1 in omega arith)
    ]

times_differs : (x : ℕ) (ys : List ℕ) → times x ys ≡ 0 → DiffersFrom x ys
times_differs x [] h = tt
times_differs x (y ∷ ys) h = (λ e. let here = one_same y x (sym e) in absurd (omega arith), times_differs x ys (omega arith))

pub times_differ : (ys : List ℕ) → ((x : ℕ) → times x ys ≤ 1) → AllDiffer ys
times_differ [] h = tt
times_differ (y ∷ ys) h = (
  times_differs y ys (let own = one_same y y refl in let most = h y in omega arith),
  times_differ ys (λ x. let most = h x in omega arith),
)

-- ---- not from a number on

mutual
  pub absent_from : (next x : ℕ) (n : PlainNode) → NumbersAre (λ y. y < next) n → next ≤ x → times_of x n ≡ 0
  absent_from next x (node number w fs s i ns) h high =
      let low = h.0 in
      let here = none_other number x (λ e. absurd (omega arith)) in
      let rest = absent_from_in next x ns h.1 high in
      omega arith

  absent_from_in : (next x : ℕ) (ns : PlainNodes) → AllNumbersAre (λ y. y < next) ns → next ≤ x → times_in x ns ≡ 0
  absent_from_in next x no_nodes h high = refl
  absent_from_in next x (more_nodes n ns) h high =
      let one = absent_from next x n h.0 high in
      let rest = absent_from_in next x ns h.1 high in
      omega arith

mutual
  pub from_absent : (next : ℕ) (n : PlainNode) → ((x : ℕ) → next ≤ x → times_of x n ≡ 0) → NumbersAre (λ y. y < next) n
  from_absent next (node number w fs s i ns) h = (
    elim (cases_lt number next) [
      | inl low ↦ low
      | inr high ↦ (let own = one_same number number refl in let none = h number high in absurd (omega arith))
    ],
    from_absent_in next ns (λ x high. let none = h x high in omega arith),
  )

  from_absent_in : (next : ℕ) (ns : PlainNodes) → ((x : ℕ) → next ≤ x → times_in x ns ≡ 0) → AllNumbersAre (λ y. y < next) ns
  from_absent_in next no_nodes h = tt
  from_absent_in next (more_nodes n ns) h = (
    from_absent next n (λ x high. let none = h x high in omega arith),
    from_absent_in next ns (λ x high. let none = h x high in omega arith),
  )
