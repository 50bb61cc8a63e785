-- Where no global key of a tree stands twice, each of its nodes that has one is the first that has it.
use Rattle.std.proofs.Common.{◌≡◌, Bool, true, false, ◌||◌, cond, Option, Some, None, List, [], ◌∷◌, ◌++◌, refl, sym, ap, ◌∙◌}
use Rattle.std.specs.List.{find}
use Rattle.std.specs.Option.{option_or}
use Rattle.std.proofs.lemmas.List.{append_assoc, append-nil}
use Rattle.std.proofs.lemmas.List.Folds.{find-append}
use Rattle.fx_expr.specs.declared.values.Value.{Value}
use Rattle.fx_expr.specs.Value.{value_eq}
use Rattle.fx_expr.specs.ValueLaws.{value_eq-Decides}
use Rattle.widget_keys.specs.declared.keys.Key.{Key}
use Rattle.widget_keys.specs.declared.keys.Key.TheVariants as key
use Rattle.widget_model.specs.Plain.{key_of}
use Rattle.widget_model.specs.Update.{key_eq}
use Rattle.plain_tree.specs.PlainNode.{PlainNode, node, PlainNodes, no_nodes, more_nodes, widget_of}
use Rattle.plain_tree.specs.States.{preorder_of, preorder_in}
use Rattle.build_form.specs.Partner.{has_global, holder_in}
use Rattle.settled_builds.specs.Settled.{met_by, met_after, all_met_after, IsNewKey, AreNewKeys, AllAreNewKeys, IsHeld, AreHeld, AllAreHeld}

-- ---- keys that aren't met

neither : (a b : Bool) → (a || b) ≡ false → (a ≡ false) × (b ≡ false)
neither true b e = cc
neither false b e = (refl, e)

turned : (k v : Value) → value_eq v k ≡ false → (b : Bool) → value_eq k v ≡ b → b ≡ false
turned k v e true is = let same : value_eq v k ≡ true = (value_eq-Decides v k).1 (sym ((value_eq-Decides k v).0 is)) in cc
turned k v e false is = refl

-- a key that isn't met after another one wasn't before, and isn't that one
unmet : (q : Key Value) (met : Value → Bool) (k : Value) → met_by q met k ≡ false → (met k ≡ false) × (key_eq (key.Global k) q ≡ false)
unmet key.None met k e = (e, refl)
unmet (key.Local v) met k e = (e, refl)
unmet (key.Global v) met k e = let h = neither (value_eq v k) (met k) e in (h.1, turned k v h.0 (value_eq k v) refl)

not_first : (k : Value) (n : PlainNode) (ns : List PlainNode) → has_global k n ≡ false → find (has_global k) (n ∷ ns) ≡ find (has_global k) ns
not_first k n ns e = ap (λ (b : Bool). cond {A = Option PlainNode} b (Some n) (find (has_global k) ns)) e

none_before : (k : Value) (ns more : List PlainNode) → find (has_global k) ns ≡ None → find (has_global k) (ns ++ more) ≡ find (has_global k) more
none_before k ns more e = find-append (has_global k) ns more ∙ ap (λ (o : Option PlainNode). option_or o (find (has_global k) more)) e

mutual
  pub unmet_after : (n : PlainNode) (met : Value → Bool) (k : Value) → met_after n met k ≡ false → (met k ≡ false) × (find (has_global k) (preorder_of n) ≡ None)
  unmet_after (node number w fields scroll index children) met k e =
      let below = all_unmet_after children (met_by (key_of w) met) k e in
      let here = unmet (key_of w) met k below.0 in
      (here.0, not_first k (node number w fields scroll index children) (preorder_in children) here.1 ∙ below.1)

  all_unmet_after : (ns : PlainNodes) (met : Value → Bool) (k : Value) → all_met_after ns met k ≡ false → (met k ≡ false) × (find (has_global k) (preorder_in ns) ≡ None)
  all_unmet_after no_nodes met k e = (e, refl)
  all_unmet_after (more_nodes n ns) met k e =
      let rest = all_unmet_after ns (met_after n met) k e in
      let first = unmet_after n met k rest.0 in
      (first.0, none_before k (preorder_of n) (preorder_in ns) first.1 ∙ rest.1)

-- ---- each holder

module _ (holder : Value → Option PlainNode) where
  -- the holders of keys that aren't met are found among these nodes
  abbrev FoundIn : (Value → Bool) → List PlainNode → Type 0
  FoundIn met ns = (k : Value) → met k ≡ false → holder k ≡ find (has_global k) ns

  held_here : (q : Key Value) (n : PlainNode) (ns : List PlainNode) (met : Value → Bool) → key_of (widget_of n) ≡ q → FoundIn met (n ∷ ns) → IsNewKey met q → IsHeld holder q n
  held_here key.None n ns met e found new = tt
  held_here (key.Local k) n ns met e found new = tt
  held_here (key.Global k) n ns met e found new =
      let has : has_global k n ≡ true = ap (key_eq (key.Global k)) e ∙ (value_eq-Decides k k).1 refl in
      found k new ∙ ap (λ (b : Bool). cond {A = Option PlainNode} b (Some n) (find (has_global k) ns)) has

  mutual
    held : (n : PlainNode) (met : Value → Bool) (more : List PlainNode) → FoundIn met (preorder_of n ++ more) → AreNewKeys met n → AreHeld holder n
    held (node number w fields scroll index children) met more found new = (
      held_here (key_of w) (node number w fields scroll index children) (preorder_in children ++ more) met refl found new.0,
      all_held children (met_by (key_of w) met) more
          (λ k e. let h = unmet (key_of w) met k e in found k h.0 ∙ not_first k (node number w fields scroll index children) (preorder_in children ++ more) h.1) new.1,
    )

    all_held : (ns : PlainNodes) (met : Value → Bool) (more : List PlainNode) → FoundIn met (preorder_in ns ++ more) → AllAreNewKeys met ns → AllAreHeld holder ns
    all_held no_nodes met more found new = tt
    all_held (more_nodes n ns) met more found new =
        let joined = append_assoc (preorder_of n) (preorder_in ns) more in (
          held n met (preorder_in ns ++ more) (λ k e. found k e ∙ ap (find (has_global k)) joined) new.0,
          all_held ns (met_after n met) more
              (λ k e. let h = unmet_after n met k e in found k h.0 ∙ ap (find (has_global k)) joined ∙ none_before k (preorder_of n) (preorder_in ns ++ more) h.1) new.1,
        )

pub held_in_tree : (tree : PlainNode) → AreNewKeys (λ k. false) tree → AreHeld (holder_in (Some tree)) tree
held_in_tree tree new = held (holder_in (Some tree)) tree (λ k. false) [] (λ k e. ap (find (has_global k)) (sym (append-nil (preorder_of tree)))) new
