-- How often a number stands in the part of the old tree that is gone on from with a node by place: the node, and what is below
-- it through children without a global key.
use Rattle.std.proofs.Common.{◌≡◌, ℕ, ◌+◌, ◌≤◌, eqb, Bool, true, false, cond, ◌||◌, Option, Some, None, List, [], ◌∷◌, ◌++◌, refl, subst, arith}
use Rattle.std.specs.List.{find}
use Rattle.fx_expr.specs.declared.values.Value.{Value}
use Rattle.fx_expr.specs.Value.{value_eq}
use Rattle.fx_expr.specs.ValueLaws.{value_eq-Decides}
use Rattle.widget_keys.specs.declared.keys.Key.{Key}
use Rattle.widget_keys.specs.declared.keys.Key.TheVariants as key
use Rattle.widget_model.specs.Plain.{key_of}
use Rattle.widget_model.specs.Update.{key_eq}
use Rattle.plain_tree.specs.PlainNode.{PlainNode, node, PlainNodes, no_nodes, more_nodes, list_of, widget_of}
use Rattle.plain_tree.specs.States.{preorder_of, preorder_in}
use Rattle.build_form.specs.Partner.{has_global}
use Rattle.build_form.proofs.Times.{one_if, times_of, times_in}

-- so much where a key isn't global, and nothing where it is
abbrev pub unless_global : Key Value → ℕ → ℕ
unless_global key.None c = c
unless_global (key.Local k) c = c
unless_global (key.Global k) c = 0

-- so much where a key is a global one that wasn't met
abbrev pub unless_met : (Value → Bool) → Key Value → ℕ → ℕ
unless_met met key.None c = 0
unless_met met (key.Local k) c = 0
unless_met met (key.Global k) c = cond (met k) 0 c

pub nothing_unless : (q : Key Value) → unless_global q 0 ≡ 0
nothing_unless key.None = refl
nothing_unless (key.Local k) = refl
nothing_unless (key.Global k) = refl

-- one of the two has it
in_two : (q : Key Value) (c : ℕ) → unless_met (λ k. false) q c + unless_global q c ≡ c
in_two key.None c = omega arith
in_two (key.Local k) c = omega arith
in_two (key.Global k) c = omega arith

either_none : (a b : Bool) (c : ℕ) → cond (a || b) 0 c ≤ cond b 0 c
either_none true true c = omega arith
either_none true false c = omega arith
either_none false b c = omega arith

now_none : (a b : Bool) (c : ℕ) → a ≡ true → b ≡ false → c + cond (a || b) 0 c ≤ cond b 0 c
now_none true true c e f = cc
now_none true false c e f = omega arith
now_none false b c e f = cc

module _ (x : ℕ) where
  abbrev mutual
    pub near : PlainNode → ℕ
    near (node number widget fields scroll index children) = one_if (eqb number x) + nears children

    pub nears : PlainNodes → ℕ
    nears no_nodes = 0
    nears (more_nodes n ns) = unless_global (key_of (widget_of n)) (near n) + nears ns

  abbrev pub near_of : Option PlainNode → ℕ
  near_of None = 0
  near_of (Some n) = near n

  abbrev pub share : PlainNode → ℕ
  share n = unless_global (key_of (widget_of n)) (near n)

  -- of nodes that stand below one
  abbrev pub shares : List PlainNode → ℕ
  shares [] = 0
  shares (n ∷ ns) = share n + shares ns

  pub shares_listed : (ns : PlainNodes) → shares (list_of ns) ≡ nears ns
  shares_listed no_nodes = refl
  shares_listed (more_nodes n ns) = let rest = shares_listed ns in omega arith

  -- of the nodes whose global keys weren't met
  abbrev pub held : (Value → Bool) → List PlainNode → ℕ
  held met [] = 0
  held met (n ∷ ns) = unless_met met (key_of (widget_of n)) (near n) + held met ns

  -- ---- each node of a tree is in one of these parts

  held-append : (met : Value → Bool) (us vs : List PlainNode) → held met (us ++ vs) ≡ held met us + held met vs
  held-append met [] vs = omega arith
  held-append met (u ∷ us) vs = let rest = held-append met us vs in omega arith

  mutual
    pub whole_tree : (n : PlainNode) → held (λ k. false) (preorder_of n) + share n ≡ times_of x n
    whole_tree (node number w fs s i ns) =
        let below = whole_trees ns in
        let here = in_two (key_of w) (one_if (eqb number x) + nears ns) in
        omega arith

    whole_trees : (ns : PlainNodes) → held (λ k. false) (preorder_in ns) + nears ns ≡ times_in x ns
    whole_trees no_nodes = refl
    whole_trees (more_nodes n ns) =
        let joined = held-append (λ k. false) (preorder_of n) (preorder_in ns) in
        let one = whole_tree n in
        let rest = whole_trees ns in
        omega arith

  -- ---- a global key is met

  module _ (met : Value → Bool) (k : Value) (new : met k ≡ false) where
    abbrev also : Value → Bool
    also = λ v. value_eq k v || met v

    less_unless : (q : Key Value) (c : ℕ) → unless_met also q c ≤ unless_met met q c
    less_unless key.None c = omega arith
    less_unless (key.Local v) c = omega arith
    less_unless (key.Global v) c = either_none (value_eq k v) (met v) c

    none_unless : (q : Key Value) (c : ℕ) → key_eq (key.Global k) q ≡ true → c + unless_met also q c ≤ unless_met met q c
    none_unless key.None c e = cc
    none_unless (key.Local v) c e = cc
    none_unless (key.Global v) c e =
        let same : k ≡ v = (value_eq-Decides k v).0 e in
        now_none (value_eq k v) (met v) c e (subst (λ u. met u ≡ false) same new)

    held_less : (ns : List PlainNode) → held also ns ≤ held met ns
    held_less [] = omega arith
    held_less (n ∷ ns) =
        let here = less_unless (key_of (widget_of n)) (near n) in
        let rest = held_less ns in
        omega arith

    by_holder : (b : Bool) (n : PlainNode) (ns : List PlainNode) → has_global k n ≡ b → near_of (find (has_global k) ns) + held also ns ≤ held met ns
        → near_of (cond b (Some n) (find (has_global k) ns)) + held also (n ∷ ns) ≤ held met (n ∷ ns)
    by_holder true n ns e later =
        let here = none_unless (key_of (widget_of n)) (near n) e in
        let rest = held_less ns in
        omega arith
    by_holder false n ns e later =
        let here = less_unless (key_of (widget_of n)) (near n) in
        omega arith

    -- what goes on from the first node with this key is no more than what is not held any longer
    pub met_now : (ns : List PlainNode) → near_of (find (has_global k) ns) + held also ns ≤ held met ns
    met_now [] = omega arith
    met_now (n ∷ ns) = by_holder (has_global k n) n ns refl (met_now ns)
