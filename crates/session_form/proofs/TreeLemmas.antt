-- What setting the fields of a node leaves as it is, where their types stay.
use Rattle.std.proofs.Common.{◌≡◌, ℕ, ◌==◌, Bool, true, false, Option, Some, None, IfSome, IfNone, is_some, option_map, List, map, refl, sym, subst, ap, ◌∙◌, if◌then◌else◌}
use Rattle.std.specs.Option.{option_or}
use Rattle.fx_expr.specs.declared.values.Ty.{Ty}
use Rattle.fx_expr.specs.declared.handlers.Handler.{Handler}
use Rattle.fx_expr.specs.Sets.{FitFields}
use Rattle.fx_expr.specs.Value.{type_of}
use Rattle.gesture_arena.specs.declared.gesture.Gesture.{Gesture}
use Rattle.screen_form.specs.Members.{handler_in}
use Rattle.widget_model.specs.Look.{Look}
use Rattle.widget_model.specs.Plain.{look_of}
use Rattle.plain_tree.specs.At.{node_at, node_in, is_there, changed_at, changed_in}
use Rattle.plain_tree.specs.PlainNode.{PlainNode, node, PlainNodes, no_nodes, more_nodes, widget_of, fields_of}
use Rattle.session_form.specs.Handlers.{handler_of_node}

-- the kind of a node, and the types of its fields
pub record Head : Type 0 where
  pub look : Look
  pub types : List Ty

abbrev pub head_of : PlainNode → Head
head_of n = record { look = look_of (widget_of n); types = map type_of (fields_of n) }

abbrev pub heads : Option PlainNode → Option Head
heads o = option_map head_of o

pub true_false : true ≡ false → ⊥
true_false e = cc

pub none_some : {A : Type 0} {x : A} → None ≡ Some x → ⊥
none_some e = cc

pub no_none : {A : Type 0} {x : A} → Some x ≡ None → ⊥
no_none e = cc

pub some_inj : {A : Type 0} {x y : A} → Some x ≡ Some y → x ≡ y
some_inj e = cc

pub first_heads : (a b : Option PlainNode) → heads (option_or a b) ≡ option_or (heads a) (heads b)
first_heads None b = refl
first_heads (Some n) b = refl

-- ---- a node that isn't there

at_missing : (own : Bool) (n m : PlainNode) (below : Option PlainNode) (f : PlainNode → PlainNode)
    → (if own then Some n else below) ≡ None → (below ≡ None → m ≡ n) → (if own then f n else m) ≡ n
at_missing true n m below f e k = absurd (no_none e)
at_missing false n m below f e k = k e

in_missing : (o : Option PlainNode) (rest : Option PlainNode) (a b ns : PlainNodes) → option_or o rest ≡ None → (rest ≡ None → b ≡ ns)
    → (if is_some o then a else b) ≡ ns
in_missing None rest a b ns e k = k e
in_missing (Some n) rest a b ns e k = absurd (no_none e)

first_none : (a b : Option PlainNode) → option_or a b ≡ None → b ≡ None
first_none None b e = e
first_none (Some n) b e = absurd (no_none e)

mutual
  pub changed_missing : (f : PlainNode → PlainNode) (w : ℕ) (t : PlainNode) → node_at w t ≡ None → changed_at f w t ≡ t
  changed_missing f w (node number wd fs s i ns) e =
      at_missing (number == w) (node number wd fs s i ns) (node number wd fs s i (changed_in f w ns)) (node_in w ns) f e
      (λ k. ap (λ l. node number wd fs s i l) (changed_missing_in f w ns k))

  changed_missing_in : (f : PlainNode → PlainNode) (w : ℕ) (ns : PlainNodes) → node_in w ns ≡ None → changed_in f w ns ≡ ns
  changed_missing_in f w no_nodes e = refl
  changed_missing_in f w (more_nodes n ns) e =
      in_missing (node_at w n) (node_in w ns) (more_nodes (changed_at f w n) ns) (more_nodes n (changed_in f w ns)) (more_nodes n ns) e
      (λ k. ap (λ l. more_nodes n l) (changed_missing_in f w ns k))

-- ---- two changes that are the same at the node

at_same : (own : Bool) (n a b m : PlainNode) (below : Option PlainNode) (f g : PlainNode → PlainNode)
    → (if own then Some n else below) ≡ Some m → f m ≡ g m → (below ≡ Some m → a ≡ b) → (if own then f n else a) ≡ (if own then g n else b)
at_same true n a b m below f g e k h = let P : Option PlainNode → Type 0 = λ o. option_map f o ≡ option_map g o in some_inj (subst P (sym e) (ap Some k))
at_same false n a b m below f g e k h = h e

in_same : (o rest : Option PlainNode) (m : PlainNode) (a b c d : PlainNodes) → option_or o rest ≡ Some m → (o ≡ Some m → a ≡ b) → (rest ≡ Some m → c ≡ d)
    → (if is_some o then a else c) ≡ (if is_some o then b else d)
in_same None rest m a b c d e h k = k e
in_same (Some n) rest m a b c d e h k = h e

mutual
  pub changed_same : (f g : PlainNode → PlainNode) (w : ℕ) (t m : PlainNode) → node_at w t ≡ Some m → f m ≡ g m → changed_at f w t ≡ changed_at g w t
  changed_same f g w (node number wd fs s i ns) m e k =
      at_same (number == w) (node number wd fs s i ns) (node number wd fs s i (changed_in f w ns)) (node number wd fs s i (changed_in g w ns)) m (node_in w ns) f g e k
      (λ h. ap (λ l. node number wd fs s i l) (changed_same_in f g w ns m h k))

  changed_same_in : (f g : PlainNode → PlainNode) (w : ℕ) (ns : PlainNodes) (m : PlainNode) → node_in w ns ≡ Some m → f m ≡ g m → changed_in f w ns ≡ changed_in g w ns
  changed_same_in f g w no_nodes m e k = refl
  changed_same_in f g w (more_nodes n ns) m e k =
      in_same (node_at w n) (node_in w ns) m (more_nodes (changed_at f w n) ns) (more_nodes (changed_at g w n) ns)
      (more_nodes n (changed_in f w ns)) (more_nodes n (changed_in g w ns)) e
      (λ h. ap (λ l. more_nodes l ns) (changed_same f g w n m h k)) (λ h. ap (λ l. more_nodes n l) (changed_same_in f g w ns m h k))

-- ---- kinds and types after fields of the same types

pub found_below : (here : Bool) (n other : PlainNode) (below new_below : Option PlainNode) → head_of other ≡ head_of n → heads new_below ≡ heads below
    → heads (if here then Some other else new_below) ≡ heads (if here then Some n else below)
found_below true n other below new_below e k = ap Some e
found_below false n other below new_below e k = k

-- ---- so handlers go on to fit

abbrev pub handler_by_head : Option Head → Gesture → Option Handler
handler_by_head None g = None
handler_by_head (Some h) g = handler_in h.look g

pub handler_by : (o : Option PlainNode) (g : Gesture) → handler_of_node o g ≡ handler_by_head (heads o) g
handler_by None g = refl
handler_by (Some n) g = refl

abbrev FitIn : Option Head → Handler → Type 0
FitIn None h = Unit {0}
FitIn (Some head) h = FitFields head.types h.sets

pub fits_by : (sets : Handler) (o : Option PlainNode) (owner : PlainNode) → heads (Some owner) ≡ heads o
    → ((m : PlainNode) → o ≡ Some m → FitFields (map type_of (fields_of m)) sets.sets) → FitFields (map type_of (fields_of owner)) sets.sets
fits_by sets None owner e k = absurd (no_none e)
fits_by sets (Some m) owner e k =
    let P : Option Head → Type 0 = λ o. FitIn o sets in
    subst P (sym e) (k m refl)

is_none_of : (o : Option PlainNode) → is_some o ≡ false → o ≡ None
is_none_of None e = refl
is_none_of (Some n) e = absurd (true_false e)

pub set_is : {A : Type 0} (r : Option A) (fields : A) (new old : PlainNode) (f : PlainNode → PlainNode) (w : ℕ) → IfNone r (new ≡ changed_at f w old)
    → IfSome r (λ back. (is_there w old ≡ false) × (back ≡ fields) × (new ≡ old)) → new ≡ changed_at f w old
set_is None fields new old f w e k = e
set_is (Some x) fields new old f w e k = k.2 ∙ sym (changed_missing f w old (is_none_of (node_at w old) k.0))
