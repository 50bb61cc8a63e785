-- The states of the nodes of a tree, found one after another by their numbers.
use Rattle.std.proofs.Common.{◌≡◌, ℕ, ◌==◌, ◌+◌, Bool, true, false, Option, Some, None, IfSome, option_and_then, List, [], ◌∷◌, ◌++◌, ◌⊎◌, inl, inr, drop, refl, sym, ap, ◌∙◌, append_assoc, if◌then◌else◌, Result, Ok, Err, is_ok, OnOk, codes}
use Rattle.std.proofs.lemmas.List.{append-nil}
use Rattle.std.specs.Option.{option_or}
use Rattle.fx_expr.specs.declared.values.Value.{Value}
use Rattle.widget_model.specs.Look.{Look, viewport, component}
use Rattle.widget_model.specs.Plain.{look_of}
use Rattle.widget_model.specs.View.{look_in, plain_of}
use Rattle.widget_model.specs.declared.decl.Decl.{Decl}
use Rattle.widget_model.specs.declared.widgets.Widget.{Widget}
use Rattle.plain_tree.specs.At.{numbers_of, numbers_in, node_at, node_in}
use Rattle.plain_tree.specs.Laws.{AllDiffer}
use Rattle.plain_tree.specs.Offsets.{of_window}
use Rattle.plain_tree.specs.PlainNode.{PlainNode, node, PlainNodes, no_nodes, more_nodes, widget_of, fields_of, scroll_of}
use Rattle.plain_tree.specs.RenderRole.{render_role_of}
use Rattle.plain_tree.specs.States.{State, preorder_of, preorder_in, states_in, state_of, declared_state, own_state, scrolled}
use Rattle.plain_tree.proofs.Numbers.{IsIn, in_left, in_right, differs, apart, differ_left, differ_right}
use Rattle.build_form.specs.Numbered.{IsNumbered}
use Rattle.frame_owner.specs.Nodes.{window_at, numbers_there}
use Rattle.frame_owner.proofs.Finding.{at_own, at_other, no_node}
use Rattle.session_form.specs.Handlers.{node_in as found_in}
use Rattle.session_form.specs.StatesText.{state_text, all_states_text, states_text, states_in as states_there}
use Rattle.session_form.proofs.TreeLemmas.{none_some, some_inj}
use Rattle.frame_session.specs.NodeState.{state_found, states_found, states_as}
use Rattle.frame_session.specs.declared.node_state.NodeState.{NodeState}
use Rattle.frame_session.proofs.OwnerLemmas.{state_is}
use Rattle.frame_session.proofs.LineLemmas.{has_number}

-- ---- lists of states, one after the other

text_both : (xs ys : List State) → all_states_text (xs ++ ys) ≡ all_states_text xs ++ all_states_text ys
text_both [] ys = refl
text_both (x ∷ xs) ys = ap (λ t. state_text x ++ t) (text_both xs ys) ∙ sym (append_assoc (state_text x) (all_states_text xs) (all_states_text ys))

found_both : (find : ℕ → Option PlainNode) (xs ys : List ℕ) → states_found find (xs ++ ys) ≡ states_found find xs ++ states_found find ys
found_both find [] ys = refl
found_both find (x ∷ xs) ys = ap (λ l. state_found (find x) ++ l) (found_both find xs ys) ∙ sym (append_assoc (state_found (find x)) (states_found find xs) (states_found find ys))

states_both : (xs ys : List PlainNode) → states_in (xs ++ ys) ≡ states_in xs ++ states_in ys
states_both [] ys = refl
states_both (x ∷ xs) ys = ap (λ l. own_state x ++ l) (states_both xs ys) ∙ sym (append_assoc (own_state x) (states_in xs) (states_in ys))

-- ---- the node with a number of a tree is there

in_either : (k : ℕ) (xs ys : List ℕ) → IsIn k (xs ++ ys) → IsIn k xs ⊎ IsIn k ys
in_either k [] ys h = inr h
in_either k (x ∷ xs) ys (inl h) = inl (inl h)
in_either k (x ∷ xs) ys (inr h) = more (in_either k xs ys h)
  where
    more : IsIn k xs ⊎ IsIn k ys → IsIn k (x ∷ xs) ⊎ IsIn k ys
    more (inl h) = inl (inr h)
    more (inr h) = inr h

abbrev IsThere : Option PlainNode → Type 0
IsThere o = (m : PlainNode) × (o ≡ Some m)

there_by : (b : Bool) (n : PlainNode) (o : Option PlainNode) → IsThere o → IsThere (if b then Some n else o)
there_by true n o h = (n, refl)
there_by false n o h = h

first_there : (a b : Option PlainNode) → IsThere a → IsThere (option_or a b)
first_there None b h = absurd (none_some h.1)
first_there (Some m) b h = (m, refl)

later_there : (a b : Option PlainNode) → IsThere b → IsThere (option_or a b)
later_there None b h = h
later_there (Some m) b h = (m, refl)

either_there : (a b : Option PlainNode) (A B : Type 0) → (A → IsThere a) → (B → IsThere b) → A ⊎ B → IsThere (option_or a b)
either_there a b A B f g (inl x) = first_there a b (f x)
either_there a b A B f g (inr x) = later_there a b (g x)

mutual
  there_at : (w : ℕ) (n : PlainNode) → IsIn w (numbers_of n) → IsThere (node_at w n)
  there_at w (node own widget fields scroll index children) (inl is) =
      (node own widget fields scroll index children, at_own own w (Some (node own widget fields scroll index children)) (node_in w children) (sym is))
  there_at w (node own widget fields scroll index children) (inr h) = there_by (own == w) (node own widget fields scroll index children) (node_in w children) (there_in w children h)

  there_in : (w : ℕ) (ns : PlainNodes) → IsIn w (numbers_in ns) → IsThere (node_in w ns)
  there_in w no_nodes h = absurd h
  there_in w (more_nodes n ns) h =
      either_there (node_at w n) (node_in w ns) (IsIn w (numbers_of n)) (IsIn w (numbers_in ns)) (λ x. there_at w n x) (λ x. there_in w ns x) (in_either w (numbers_of n) (numbers_in ns) h)

-- ---- where numbers differ the states are those of the tree

first_or : (a b : Option PlainNode) → IsThere a → option_or a b ≡ a
first_or None b h = absurd (none_some h.1)
first_or (Some m) b h = refl

mutual
  found_here : (find : ℕ → Option PlainNode) (n : PlainNode) → AllDiffer (numbers_of n) → ((w : ℕ) → IsIn w (numbers_of n) → find w ≡ node_at w n) → states_found find (numbers_of n) ≡ states_in (preorder_of n)
  found_here find (node own widget fields scroll index children) differ finds =
      let n = node own widget fields scroll index children in
      let here : find own ≡ Some n = finds own (inl refl) ∙ at_own own own (Some n) (node_in own children) refl in
      ap (λ o. state_found o ++ states_found find (numbers_in children)) here
      ∙ ap (λ l. own_state n ++ l) (found_below find children differ.1
      (λ w h. finds w (inr h) ∙ at_other own w (Some n) (node_in w children) (differs own w (numbers_in children) differ.0 h)))

  found_below : (find : ℕ → Option PlainNode) (ns : PlainNodes) → AllDiffer (numbers_in ns) → ((w : ℕ) → IsIn w (numbers_in ns) → find w ≡ node_in w ns) → states_found find (numbers_in ns) ≡ states_in (preorder_in ns)
  found_below find no_nodes differ finds = refl
  found_below find (more_nodes n ns) differ finds =
      found_both find (numbers_of n) (numbers_in ns)
      ∙ ((λ i. found_here find n (differ_left (numbers_of n) (numbers_in ns) differ)
      (λ w h. finds w (in_left w (numbers_of n) (numbers_in ns) h) ∙ first_or (node_at w n) (node_in w ns) (there_at w n h)) i
      ++ found_below find ns (differ_right (numbers_of n) (numbers_in ns) differ)
      (λ w h. finds w (in_right w (numbers_of n) (numbers_in ns) h) ∙ ap (λ o. option_or o (node_in w ns)) (no_node w n (λ k. apart w (numbers_of n) (numbers_in ns) differ k h))) i)
      ∙ sym (states_both (preorder_of n) (preorder_in ns)))

pub all_found : (tree : Option PlainNode) (next : ℕ) → IfSome tree (IsNumbered next) → states_found (found_in tree) (numbers_there tree) ≡ states_there tree
all_found None next numbered = refl
all_found (Some root) next numbered = found_here (found_in (Some root)) root numbered.differ (λ w h. refl)

-- ---- the state of the node that is found

pub nothing_there : (o : Option PlainNode) (old : List ℕ) → o ≡ None → old ≡ old ++ all_states_text (state_found o)
nothing_there None old e = sym (append_nothing old)
  where
    append_nothing : (xs : List ℕ) → xs ++ [] ≡ xs
    append_nothing [] = refl
    append_nothing (x ∷ xs) = ap (λ l. x ∷ l) (append_nothing xs)
nothing_there (Some m) old e = absurd (none_some (sym e))

pub state_there : (t : Option PlainNode) (number : ℕ) (m : PlainNode) (w : Widget) (fields : List Value) (state : NodeState) → found_in t number ≡ Some m → widget_of m ≡ plain_of w → fields ≡ fields_of m
    → ((n scroll : ℕ) → states_as state n fields scroll ≡ state_of (look_in w.kind) n fields scroll) → state_found (found_in t number) ≡ states_as state number fields (scroll_of m)
state_there t number m w fields state found widget same is =
    ap state_found found
    ∙ (state_is m
    ∙ ((λ i. state_of (look_of (widget i)) (has_number t number m found i) (sym same i) (scroll_of m)) ∙ sym (is number (scroll_of m))))

-- a node that has an offset is a Viewport
no_offset : (number scroll : ℕ) → scrolled number scroll ∷ [] ≡ [] → ⊥
no_offset number scroll e = cc

no_field_offset : (number scroll : ℕ) (declaration : Decl) (fields : List Value) → scrolled number scroll ∷ [] ≡ declared_state number declaration fields → ⊥
no_field_offset number scroll declaration [] e = cc
no_field_offset number scroll declaration (v ∷ vs) e = cc

scrolls : (look : Look) (number : ℕ) (fields : List Value) (scroll : ℕ) → scrolled number scroll ∷ [] ≡ state_of look number fields scroll → of_window (render_role_of look) scroll ≡ Some scroll
scrolls (viewport axis) number fields scroll e = refl
scrolls (component place props declaration) number fields scroll e = absurd (no_field_offset number scroll declaration fields e)
scrolls look number fields scroll e = absurd (no_offset number scroll e)

pub window_there : (t : Option PlainNode) (number : ℕ) (m : PlainNode) (w : Widget) (fields : List Value) → found_in t number ≡ Some m → widget_of m ≡ plain_of w
    → ((n scroll : ℕ) → scrolled n scroll ∷ [] ≡ state_of (look_in w.kind) n fields scroll) → window_at t number ≡ Some (scroll_of m)
window_there t number m w fields found widget is =
    ap (option_and_then (λ (n : PlainNode). of_window (render_role_of (look_of (widget_of n))) (scroll_of n))) found
    ∙ (ap (λ x. of_window (render_role_of (look_of x)) (scroll_of m)) widget ∙ scrolls (look_in w.kind) number fields (scroll_of m) (is number (scroll_of m)))

-- ---- what is added

-- the states of one more node of a list that is gone through
pub more_found : (find : ℕ → Option PlainNode) (numbers : List ℕ) (i number : ℕ) (whole out new : List ℕ) → drop i numbers ≡ number ∷ drop (i + 1) numbers
    → out ++ all_states_text (states_found find (drop i numbers)) ≡ whole → new ≡ out ++ all_states_text (state_found (find number)) → new ++ all_states_text (states_found find (drop (i + 1) numbers)) ≡ whole
more_found find numbers i number whole out new is so_far added =
    let rest = states_found find (drop (i + 1) numbers) in
    ap (λ t. t ++ all_states_text rest) added
    ∙ (append_assoc out (all_states_text (state_found (find number))) (all_states_text rest)
    ∙ (ap (λ t. out ++ t) (sym (text_both (state_found (find number)) rest)) ∙ (ap (λ l. out ++ all_states_text (states_found find l)) (sym is) ∙ so_far)))

-- no state, and one
pub none_added : (old : List ℕ) (states : List State) → states ≡ [] → old ≡ old ++ all_states_text states
none_added old states e = sym (ap (λ l. old ++ all_states_text l) e ∙ append-nil old)

pub one_added : (states : List State) (state : State) → states ≡ state ∷ [] → state_text state ≡ all_states_text states
one_added states state e = sym (ap all_states_text e ∙ append-nil (state_text state))

-- the offset that is shown is the one that is found
pub offset_there : (found shown : Option ℕ) (offset scroll : ℕ) → shown ≡ Some offset → shown ≡ found → found ≡ Some scroll → offset ≡ scroll
offset_there found shown offset scroll is same there = some_inj (sym is ∙ (same ∙ there))

pub offset_missing : {A : Type 0} (found shown : Option ℕ) (scroll : ℕ) → shown ≡ None → shown ≡ found → found ≡ Some scroll → A
offset_missing found shown scroll is same there = absurd (none_some (sym is ∙ (same ∙ there)))

-- the text of the states, part by part
pub ok_items : {T E : Type 0} (result : Result T E) (new a b : List ℕ) → new ≡ (if is_ok result then a else b) → OnOk result (new ≡ a)
ok_items (Ok x) new a b e = e
ok_items (Err x) new a b e = tt

pub states_printed : (tree : Option PlainNode) (next : ℕ) (numbers old first printed whole : List ℕ) → IfSome tree (IsNumbered next) → numbers ≡ numbers_there tree → first ≡ old ++ codes "states\n"
    → printed ≡ first ++ all_states_text (states_found (found_in tree) numbers) → whole ≡ printed ++ codes "end\n" → whole ≡ old ++ states_text tree
states_printed tree next numbers old first printed whole numbered are begun added ended =
    let states = all_states_text (states_there tree) in
    let found : states_found (found_in tree) numbers ≡ states_there tree = ap (states_found (found_in tree)) are ∙ all_found tree next numbered in
    ended
    ∙ (ap (λ t. t ++ codes "end\n") (added ∙ (ap (λ l. first ++ all_states_text l) found ∙ ap (λ t. t ++ states) begun))
    ∙ (append_assoc (old ++ codes "states\n") states (codes "end\n") ∙ append_assoc old (codes "states\n") (states ++ codes "end\n")))
