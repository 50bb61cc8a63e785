-- The one element right below another one takes a widget.
use Rattle.std.proofs.Common.{◌≡◌, ℕ, ◌+◌, ◌≤◌, ◌==◌, Bool, true, false, ◌||◌, cond, Option, Some, None, is_some, option_map, List, [], ◌∷◌, refl, sym, ap, ◌∙◌, subst, arith, inl, inr}
use Rattle.std.proofs.lemmas.Bool.{cases_Bool}
use Rattle.fx_handles.specs.declared.Handle.{Handle}
use Rattle.fx_handles.specs.Handle.{same}
use Rattle.fx_handles.specs.HandleLaws.{same-true, same-eq}
use Rattle.node_tree.specs.Forest.{TreeNode, Forest, tops, count, In, IsDistinct, Stands, set_value}
use Rattle.node_tree.specs.Forest.Forest.{none, tree}
use Rattle.node_tree.specs.Tree.{Tree, node_at, Is, subtree_at, StandsAt}
use Rattle.node_tree.proofs.ForestLemmas.{hit-true, hit-false, not_head}
use Rattle.widget_model.specs.Plain.{PlainWidget}
use Rattle.plain_tree.specs.At.{node_in, is_there_in, is_there, changed_in}
use Rattle.plain_tree.specs.At.{node_at as plain_node_at}
use Rattle.plain_tree.specs.PlainNode.{PlainNode, node, PlainNodes, no_nodes, more_nodes, list_of, nodes_of as listed}
use Rattle.element_tree.specs.Edits.{with_widget}
use Rattle.element_tree.specs.Element.{Element, number_at}
use Rattle.element_tree.specs.Nodes.{nodes_of}
use Rattle.build_walk.proofs.Kept.{one_stands}
use Rattle.build_walk.proofs.Made.{list_of-nodes_of}
use Rattle.build_walk.proofs.Standing.{by_place}
use Rattle.settled_builds.specs.Regiven.{first_having, regiven}
use Rattle.settled_builds.specs.Retaken.{over}
use Rattle.renewed_builds.proofs.Retaken.{has_number, node_there}
use Rattle.renewed_builds.proofs.Retaking.{HasNumberAt, stands_in, there, some_of, stands_counted, counted_out, distinct_below, distinct_later}

-- the first element of a forest with another widget
abbrev pub first_taking : PlainWidget → Forest Element → Forest Element
first_taking w none = none
first_taking w (tree k e kids rest) = tree k (with_widget w e) kids rest

-- a forest where the first element below one has
abbrev pub regiven_at : Handle → PlainWidget → Forest Element → Forest Element
regiven_at h w none = none
regiven_at h w (tree k e kids rest) = tree k e (cond (same k h) (first_taking w kids) (regiven_at h w kids)) (regiven_at h w rest)

or_neither : (a b : Bool) → (a || b) ≡ false → (a ≡ false) × (b ≡ false)
or_neither true b e = cc
or_neither false b e = (refl, e)

pub regiven_nowhere : (h : Handle) (w : PlainWidget) (f : Forest Element) → stands_in h f ≡ false → regiven_at h w f ≡ f
regiven_nowhere h w none e = refl
regiven_nowhere h w (tree k v kids rest) e =
    let p = or_neither (same k h) (stands_in h kids || stands_in h rest) e in
    let q = or_neither (stands_in h kids) (stands_in h rest) p.1 in
    ap (λ (b : Bool). tree k v (cond b (first_taking w kids) (regiven_at h w kids)) (regiven_at h w rest)) p.0
    ∙ (λ i. tree k v (regiven_nowhere h w kids q.0 i) (regiven_nowhere h w rest q.1 i))

pub regiven_absent : (h : Handle) (w : PlainWidget) (f : Forest Element) → count h f ≡ 0 → regiven_at h w f ≡ f
regiven_absent h w f absent = regiven_nowhere h w f (counted_out h f absent)

pub set_absent : (h : Handle) (x : Element) (f : Forest Element) → count h f ≡ 0 → set_value h x f ≡ f
set_absent h x none absent = refl
set_absent h x (tree k v kids rest) absent =
    elim (cases_Bool (same k h)) [
      | inl e ↦ absurd (let one = hit-true h k e in omega (arith, one, absent))
      | inr e ↦ rw (e, set_absent h x kids (omega (arith, absent)), set_absent h x rest (omega (arith, absent))) refl
    ]

-- ---- it is the one child

module _ (h child : Handle) (e v : Element) (low : Forest Element) where
  -- of a forest in which the element at a handle is this one, and has this child alone
  abbrev pub HasChild : Forest Element → Type 0
  HasChild none = Unit {0}
  HasChild (tree k x kids rest) = (same k h ≡ true → (x ≡ e) × (kids ≡ tree child v low none)) × HasChild kids × HasChild rest

  value_is : {k j : Handle} {x y : Element} {f g : Forest Element} → tree k x f none ≡ tree j y g none → x ≡ y
  value_is e = cc

  kids_are : {k j : Handle} {x y : Element} {f g : Forest Element} → tree k x f none ≡ tree j y g none → f ≡ g
  kids_are e = cc

  pub has_child : (t : Tree Element) → ((k : Handle) (s : Forest Element) → StandsAt t k s → subtree_at t k ≡ s) → subtree_at t h ≡ tree h e (tree child v low none) none
      → (p : Option Handle) (f : Forest Element) → Stands (node_at t) p f → IsDistinct f → HasChild f
  has_child t found opened p none stands distinct = tt
  has_child t found opened p (tree k x kids rest) stands distinct = (
    (λ is.
        let one : tree k x kids none ≡ tree h e (tree child v low none) none =
        sym (found k (tree k x kids none) (one_stands t p k x kids rest stands distinct)) ∙ ap (subtree_at t) (same-true k h is) ∙ opened in
        (value_is one, kids_are one)),
    has_child t found opened (Some k) kids stands.1 (distinct_below k x kids rest distinct),
    has_child t found opened p rest stands.2 (distinct_later k x kids rest distinct),
  )

  one_child : (kids : Forest Element) → kids ≡ tree child v low none → 1 ≤ count child kids
  one_child kids is = subst (λ f. 1 ≤ count child f) (sym is) (let one = hit-true child child (same-eq child child refl) in omega (arith, one))

  pub child_there : (f : Forest Element) → HasChild f → In h f → In child f
  child_there none has among = absurd (omega (arith, among))
  child_there (tree k x kids rest) has among =
      by_place h k x kids rest (In child (tree k x kids rest)) among
      (λ is. let one = one_child kids (has.0 (same-eq k h is)).1 in omega (arith, one))
      (λ low_in. let one = child_there kids has.1 low_in in omega (arith, one))
      (λ more. let one = child_there rest has.2 more in omega (arith, one))

  module _ (w : PlainWidget) where
    abbrev now : Element
    now = with_widget w v

    set_all : (k : Handle) (x : Element) (kids rest : Forest Element) (b c : Bool) (f g : Forest Element) → same k child ≡ b → b ≡ false → same k h ≡ c → set_value child now kids ≡ cond c (first_taking w kids) f → set_value child now rest ≡ g
        → tree k (cond (same k child) now x) (set_value child now kids) (set_value child now rest) ≡ tree k x (cond (same k h) (first_taking w kids) f) g
    set_all k x kids rest b c f g is not_child at one more =
        λ i. tree k (cond ((is ∙ not_child) i) now x) ((one ∙ ap (λ (y : Bool). cond y (first_taking w kids) f) (sym at)) i) (more i)

    -- it is set by its handle
    pub set_is : (f : Forest Element) → IsDistinct f → HasChild f → In h f → set_value child now f ≡ regiven_at h w f
    set_is none distinct has among = absurd (omega (arith, among))
    set_is (tree k x kids rest) distinct has among =
        let few = distinct child in
        let few_h = distinct h in
        elim (cases_Bool (same k h)) [
          | inl at ↦
              let is = (has.0 at).1 in
              let one = one_child kids is in
              let here = hit-true h k at in
              let below_it : count child low ≡ 0 =
              (let sum : count child kids ≡ count child (tree child v low none) = ap (count child) is in let own = hit-true child child (same-eq child child refl) in omega (arith, sum, own, few)) in
              set_all k x kids rest (same k child) true (regiven_at h w kids) (regiven_at h w rest) refl (not_head child k (omega (arith, few, one))) at
              (ap (set_value child now) is
              ∙ (λ i. tree child (cond (same-eq child child refl i) now v) (set_absent child now low below_it i) none)
              ∙ sym (ap (first_taking w) is))
              (set_absent child now rest (omega (arith, few, one)) ∙ sym (regiven_absent h w rest (omega (arith, few_h, here))))
          | inr at ↦
              let here = hit-false h k at in
              by_place h k x kids rest (set_value child now (tree k x kids rest) ≡ regiven_at h w (tree k x kids rest)) among
              (λ is. absurd (let no = sym at ∙ same-eq k h is in cc))
              (λ low_in.
              let one = child_there kids has.1 low_in in
              set_all k x kids rest (same k child) false (regiven_at h w kids) (regiven_at h w rest) refl (not_head child k (omega (arith, few, one))) at
              (set_is kids (distinct_below k x kids rest distinct) has.1 low_in)
              (set_absent child now rest (omega (arith, few, one)) ∙ sym (regiven_absent h w rest (omega (arith, few_h, low_in)))))
              (λ more.
              let one = child_there rest has.2 more in
              set_all k x kids rest (same k child) false (regiven_at h w kids) (regiven_at h w rest) refl (not_head child k (omega (arith, few, one))) at
              (set_absent child now kids (omega (arith, few, one)) ∙ sym (regiven_absent h w kids (omega (arith, few_h, more))))
              (set_is rest (distinct_later k x kids rest distinct) has.2 more))
        ]

pub tops_regiven : (h : Handle) (w : PlainWidget) (f : Forest Element) → tops (regiven_at h w f) ≡ tops f
tops_regiven h w none = refl
tops_regiven h w (tree k x kids rest) = ap (λ l. k ∷ l) (tops_regiven h w rest)

-- ---- the nodes

module _ (scrolled : ℕ → ℕ) (h : Handle) (number : ℕ) (w : PlainWidget) where
  abbrev node_of : Element → Forest Element → PlainNode
  node_of v kids = node v.number v.widget v.fields (scrolled v.number) v.index (listed (nodes_of scrolled kids))

  first_nodes : (f : Forest Element) → listed (nodes_of scrolled (first_taking w f)) ≡ first_having w (listed (nodes_of scrolled f))
  first_nodes none = refl
  first_nodes (tree k v kids rest) = refl

  some_here : (v : Element) (kids : Forest Element) (b : Bool) → is_some (cond b (Some (node_of v kids)) (node_in number (listed (nodes_of scrolled kids)))) ≡ (b || is_there_in number (listed (nodes_of scrolled kids)))
  some_here v kids true = refl
  some_here v kids false = refl

  there_here : (k : Handle) (v : Element) (kids rest : Forest Element) → HasNumberAt h number (tree k v kids rest)
      → is_some (cond (v.number == number) (Some (node_of v kids)) (node_in number (listed (nodes_of scrolled kids)))) ≡ (same k h || stands_in h kids)
  there_here k v kids rest has = some_here v kids (v.number == number) ∙ (λ i. has.0 i || there scrolled h number kids has.1 i)

  abbrev changed : PlainNodes → PlainNodes
  changed ns = changed_in (over (first_having w)) number ns

  abbrev with_first : Element → Forest Element → PlainNode
  with_first v kids = node v.number v.widget v.fields (scrolled v.number) v.index (first_having w (listed (nodes_of scrolled kids)))

  abbrev with_changed : Element → Forest Element → PlainNode
  with_changed v kids = node v.number v.widget v.fields (scrolled v.number) v.index (changed (listed (nodes_of scrolled kids)))

  changed_one : (k : Handle) (v : Element) (kids rest : Forest Element) → HasNumberAt h number (tree k v kids rest)
      → changed (listed (nodes_of scrolled (tree k v kids rest)))
      ≡ cond (same k h || stands_in h kids)
      (more_nodes (cond (same k h) (with_first v kids) (with_changed v kids)) (listed (nodes_of scrolled rest)))
      (more_nodes (node_of v kids) (changed (listed (nodes_of scrolled rest))))
  changed_one k v kids rest has =
      ap (λ (b : Bool). cond b (more_nodes (cond (v.number == number) (with_first v kids) (with_changed v kids)) (listed (nodes_of scrolled rest))) (more_nodes (node_of v kids) (changed (listed (nodes_of scrolled rest))))) (there_here k v kids rest has)
      ∙ ap (λ (b : Bool). cond (same k h || stands_in h kids) (more_nodes (cond b (with_first v kids) (with_changed v kids)) (listed (nodes_of scrolled rest))) (more_nodes (node_of v kids) (changed (listed (nodes_of scrolled rest))))) has.0

  regiven_one : (k : Handle) (v : Element) (kids rest : Forest Element) (b c : Bool) → same k h ≡ b → stands_in h kids ≡ c → IsDistinct (tree k v kids rest)
      → (listed (nodes_of scrolled (regiven_at h w kids)) ≡ changed (listed (nodes_of scrolled kids))) → (listed (nodes_of scrolled (regiven_at h w rest)) ≡ changed (listed (nodes_of scrolled rest)))
      → more_nodes (node v.number v.widget v.fields (scrolled v.number) v.index (listed (nodes_of scrolled (cond b (first_taking w kids) (regiven_at h w kids))))) (listed (nodes_of scrolled (regiven_at h w rest)))
      ≡ cond (b || c)
      (more_nodes (cond b (with_first v kids) (with_changed v kids)) (listed (nodes_of scrolled rest)))
      (more_nodes (node_of v kids) (changed (listed (nodes_of scrolled rest))))
  regiven_one k v kids rest true c is in_kids distinct low more =
      let gone = regiven_absent h w rest (let few = distinct h in let one = hit-true h k is in omega (arith, few, one)) in
      λ i. more_nodes (node v.number v.widget v.fields (scrolled v.number) v.index (first_nodes kids i)) (listed (nodes_of scrolled (gone i)))
  regiven_one k v kids rest false true is in_kids distinct low more =
      let gone = regiven_absent h w rest (let few = distinct h in let one = stands_counted h kids in_kids in omega (arith, few, one)) in
      λ i. more_nodes (node v.number v.widget v.fields (scrolled v.number) v.index (low i)) (listed (nodes_of scrolled (gone i)))
  regiven_one k v kids rest false false is in_kids distinct low more =
      λ i. more_nodes (node v.number v.widget v.fields (scrolled v.number) v.index (listed (nodes_of scrolled (regiven_nowhere h w kids in_kids i)))) (more i)

  pub nodes_regiven : (f : Forest Element) → HasNumberAt h number f → IsDistinct f → listed (nodes_of scrolled (regiven_at h w f)) ≡ changed (listed (nodes_of scrolled f))
  nodes_regiven none has distinct = refl
  nodes_regiven (tree k v kids rest) has distinct =
      regiven_one k v kids rest (same k h) (stands_in h kids) refl refl distinct
      (nodes_regiven kids has.1 (distinct_below k v kids rest distinct)) (nodes_regiven rest has.2 (distinct_later k v kids rest distinct))
      ∙ sym (changed_one k v kids rest has)

or_nothing : (b : Bool) → (b || false) ≡ true → b ≡ true
or_nothing true e = refl
or_nothing false e = e

changed_alone : (w : PlainWidget) (wanted : ℕ) (old : PlainNode) → is_there_in wanted (more_nodes old no_nodes) ≡ true → changed_in (over (first_having w)) wanted (more_nodes old no_nodes) ≡ more_nodes (regiven w wanted old) no_nodes
changed_alone w wanted old in_list =
    let is : is_there wanted old ≡ true = or_nothing (is_there wanted old) (sym (some_of (plain_node_at wanted old) None) ∙ in_list) in
    ap (λ (b : Bool). cond b (more_nodes (regiven w wanted old) no_nodes) (more_nodes old no_nodes)) is

-- the one tree for which the elements stand
pub tree_regiven : (scrolled : ℕ → ℕ) (t : Tree Element) (h : Handle) (wanted : ℕ) (w : PlainWidget) (f : Forest Element) → Is t f → (old : PlainNode) → old ∷ [] ≡ nodes_of scrolled f → number_at t h ≡ Some wanted
    → ((k : Handle) → number_at t k ≡ Some wanted → k ≡ h) → regiven w wanted old ∷ [] ≡ nodes_of scrolled (regiven_at h w f)
tree_regiven scrolled t h wanted w f is old nodes number only =
    let has = has_number t h wanted number only None f is.stands in
    let all : listed (nodes_of scrolled (regiven_at h w f)) ≡ more_nodes (regiven w wanted old) no_nodes =
    nodes_regiven scrolled h wanted w f has is.distinct
    ∙ sym (ap (λ (ns : List PlainNode). changed_in (over (first_having w)) wanted (listed ns)) nodes)
    ∙ changed_alone w wanted old (node_there scrolled t h wanted [] f is old nodes number only) in
    sym (ap list_of all) ∙ list_of-nodes_of (nodes_of scrolled (regiven_at h w f))
