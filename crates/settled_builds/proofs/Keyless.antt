-- What holds where no widget of a tree has a global key.
use Rattle.std.proofs.Common.{◌≡◌, Bool, Option, refl, ap, ◌∙◌}
use Rattle.fx_expr.specs.declared.values.Value.{Value}
use Rattle.widget_keys.specs.declared.keys.Key.{Key}
use Rattle.widget_keys.specs.declared.keys.Key.TheVariants as key
use Rattle.widget_model.specs.Plain.{key_of}
use Rattle.plain_tree.specs.PlainNode.{PlainNode, node, PlainNodes, no_nodes, more_nodes}
use Rattle.settled_builds.specs.Places.{IsNoGlobal, HasNoGlobals, HaveNoGlobals}
use Rattle.settled_builds.specs.Settled.{met_by, met_after, all_met_after, IsNewKey, AreNewKeys, AllAreNewKeys, IsHeld, AreHeld, AllAreHeld}

pub met_by_none : (q : Key Value) (met : Value → Bool) → IsNoGlobal q → met_by q met ≡ met
met_by_none key.None met h = refl
met_by_none (key.Local k) met h = refl
met_by_none (key.Global k) met h = absurd h

mutual
  pub met_none : (n : PlainNode) (met : Value → Bool) → HasNoGlobals n → met_after n met ≡ met
  met_none (node number w fields scroll index children) met h =
      ap (all_met_after children) (met_by_none (key_of w) met h.0) ∙ all_met_none children met h.1

  pub all_met_none : (ns : PlainNodes) (met : Value → Bool) → HaveNoGlobals ns → all_met_after ns met ≡ met
  all_met_none no_nodes met h = refl
  all_met_none (more_nodes n ns) met h = ap (all_met_after ns) (met_none n met h.0) ∙ all_met_none ns met h.1

pub new_none : (q : Key Value) (met : Value → Bool) → IsNoGlobal q → IsNewKey met q
new_none key.None met h = tt
new_none (key.Local k) met h = tt
new_none (key.Global k) met h = absurd h

mutual
  pub keys_none : (n : PlainNode) (met : Value → Bool) → HasNoGlobals n → AreNewKeys met n
  keys_none (node number w fields scroll index children) met h = (new_none (key_of w) met h.0, all_keys_none children (met_by (key_of w) met) h.1)

  pub all_keys_none : (ns : PlainNodes) (met : Value → Bool) → HaveNoGlobals ns → AllAreNewKeys met ns
  all_keys_none no_nodes met h = tt
  all_keys_none (more_nodes n ns) met h = (keys_none n met h.0, all_keys_none ns (met_after n met) h.1)

pub held_none : (holder : Value → Option PlainNode) (q : Key Value) (n : PlainNode) → IsNoGlobal q → IsHeld holder q n
held_none holder key.None n h = tt
held_none holder (key.Local k) n h = tt
held_none holder (key.Global k) n h = absurd h

mutual
  pub holders_none : (holder : Value → Option PlainNode) (n : PlainNode) → HasNoGlobals n → AreHeld holder n
  holders_none holder (node number w fields scroll index children) h =
      (held_none holder (key_of w) (node number w fields scroll index children) h.0, all_holders_none holder children h.1)

  pub all_holders_none : (holder : Value → Option PlainNode) (ns : PlainNodes) → HaveNoGlobals ns → AllAreHeld holder ns
  all_holders_none holder no_nodes h = tt
  all_holders_none holder (more_nodes n ns) h = (holders_none holder n h.0, all_holders_none holder ns h.1)
