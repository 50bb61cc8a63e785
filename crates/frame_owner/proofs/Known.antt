-- What is kept of a tree that is settled, but for the component that is marked.
use Rattle.std.proofs.Common.{◌≡◌, ℕ, ◌≤◌, Bool, true, false, nat_lt, if◌then◌else◌, Option, Some, None, is_some, IfSome, option_map, List, [], ◌∷◌, ◌++◌, refl, sym, ap, subst, ◌∙◌}
use Rattle.std.proofs.lemmas.Bool.{ltb-false}
use Rattle.std.specs.declared.rc.Rc.{Rc}
use Rattle.std.specs.declared.alloc.Global.{Global}
use Rattle.fx_expr.specs.declared.values.Value.{Value}
use Rattle.fx_handles.specs.declared.Handle.{Handle}
use Rattle.fx_handles.specs.ArenaLaws.{same_Some}
use Rattle.fx_handles.specs.HandleLaws.{same-true, same_self}
use Rattle.delegates.specs.Table.{Plug}
use Rattle.node_tree.specs.Forest.{TreeNode, with_value_at}
use Rattle.node_tree.specs.Tree.{Tree, node_at as node_at_handle}
use Rattle.widget_model.specs.Plain.{PlainWidget, look_of}
use Rattle.widget_model.specs.Size.{count_of as widget_count}
use Rattle.widget_model.specs.View.{shared}
use Rattle.widget_model.specs.declared.widgets.Widget.{Widget}
use Rattle.program_check.specs.Checked.{PlainChecked}
use Rattle.plain_tree.specs.At.{node_at, changed_at, having_fields}
use Rattle.plain_tree.specs.PlainNode.{PlainNode, widget_of, fields_of}
use Rattle.build_form.specs.Entering.{Blueprint, output_limit}
use Rattle.build_form.specs.FullBuild.{built}
use Rattle.build_form.specs.Program.{blueprint_of}
use Rattle.element_tree.specs.Edits.{Writes}
use Rattle.element_tree.specs.Element.{Element, element_at}
use Rattle.session_form.specs.Handlers.{node_in}
use Rattle.work_sets.specs.Due.{names_read}
use Rattle.settled_builds.specs.Places.{HasNoGlobals}
use Rattle.settled_builds.specs.Settled.{IsSettledFor}
use Rattle.settled_builds.specs.Taken.{IsMarkedFor}
use Rattle.frame_owner.specs.Frame.{KeptFrame}
use Rattle.frame_owner.specs.Nodes.{is_component, is_alone}
use Rattle.frame_owner.specs.Standing.{IsSettledIn, IsSettledAs, IsKnownIn, FrameStandsFor}
use Rattle.frame_owner.proofs.Keyless.{changed_keyless, fields_keyless}
use Rattle.frame_owner.proofs.Windows.{none_some}

-- ---- the root that is kept

-- what holds of a root that is kept
pub of_kept : (o : Option PlainWidget) (w : PlainWidget) (P : PlainWidget → Type 0) → o ≡ Some w → IfSome o P → P w
of_kept (Some v) w P is holds = subst P (same_Some is) holds
of_kept None w P is holds = absurd (none_some is)

-- one build gives one tree
pub same_built : (n m : PlainNode) (i j : ℕ) → built n i ≡ built m j → n ≡ m
same_built n m i j e = cc

-- the root of a build that just gave a tree, of which nothing is marked
pub root_kept : (o : Option (Rc Widget Global)) (c : PlainChecked) (n : PlainNode) (t : Tree Element) (keyless : Bool) → IfSome o (λ kept. IsSettledIn c [] (Some n) (shared kept)) → (keyless ≡ true → HasNoGlobals n)
    → IfSome (option_map shared o) (IsKnownIn c [] (Some n) t keyless None)
root_kept None c n t keyless holds globals = tt
root_kept (Some kept) c n t keyless holds globals = record { settled = holds; globals = globals }

-- laws of settled_builds, of a tree that is settled, and of one of which one component is marked
abbrev pub SettledStays : Blueprint → List ℕ → List ℕ → (PlainNode → PlainNode) → Type 0
SettledStays b marks more change = (w : PlainWidget) (n : PlainNode) → IsSettledFor b marks w n → IsSettledFor b more w (change n)

abbrev pub MarkedStays : Blueprint → List ℕ → List ℕ → (PlainNode → PlainNode) → Type 0
MarkedStays b marks more change = (k : ℕ) (w : PlainWidget) (n : PlainNode) → IsMarkedFor b marks k w n → IsMarkedFor b more k w (change n)

known_still : (c : PlainChecked) (marks more : List ℕ) (n : PlainNode) (t : Tree Element) (marked : Option Handle) (change : PlainNode → PlainNode) (w : PlainWidget) → SettledStays (blueprint_of c) marks more change
    → MarkedStays (blueprint_of c) marks more change → IsSettledAs c marks t marked w n → IsSettledAs c more t marked w (change n)
known_still c marks more n t None change w law stale settled = law w n settled
known_still c marks more n t (Some h) change w law stale settled = (settled.0, settled.1, stale settled.0.number w n settled.2)

-- a tree of which that is known is so still, where it is changed so
pub settled_still : (c : PlainChecked) (marks more : List ℕ) (tree : Option PlainNode) (t : Tree Element) (keyless : Bool) (marked : Option Handle) (change : PlainNode → PlainNode) (o : Option PlainWidget)
    → SettledStays (blueprint_of c) marks more change → MarkedStays (blueprint_of c) marks more change → ((n : PlainNode) → HasNoGlobals n → HasNoGlobals (change n)) → IfSome o (IsKnownIn c marks tree t keyless marked)
    → IfSome o (IsKnownIn c more (option_map change tree) t keyless marked)
settled_still c marks more old t keyless marked change None law stale globals settled = tt
settled_still c marks more None t keyless marked change (Some w) law stale globals settled = settled
settled_still c marks more (Some n) t keyless marked change (Some w) law stale globals settled =
    record { settled = known_still c marks more n t marked change w law stale settled.settled; globals = λ on. globals n (settled.globals on) }

-- where a number is marked that no node has
pub settled_marked : (c : PlainChecked) (marks more : List ℕ) (number : ℕ) (tree : Option PlainNode) (t : Tree Element) (keyless : Bool) (marked : Option Handle) (o : Option PlainWidget)
    → ((w : PlainWidget) (n : PlainNode) → node_at number n ≡ None → IsSettledFor (blueprint_of c) marks w n → IsSettledFor (blueprint_of c) more w n)
    → ((k : ℕ) (w : PlainWidget) (n : PlainNode) → node_at number n ≡ None → IsMarkedFor (blueprint_of c) marks k w n → IsMarkedFor (blueprint_of c) more k w n) → node_in tree number ≡ None
    → IfSome o (IsKnownIn c marks tree t keyless marked) → IfSome o (IsKnownIn c more tree t keyless marked)
settled_marked c marks more number old t keyless marked None law stale away settled = tt
settled_marked c marks more number None t keyless marked (Some w) law stale away settled = settled
settled_marked c marks more number (Some n) t keyless None (Some w) law stale away settled = record { settled = law w n away settled.settled; globals = settled.globals }
settled_marked c marks more number (Some n) t keyless (Some h) (Some w) law stale away settled =
    record { settled = (settled.settled.0, settled.settled.1, stale settled.settled.0.number w n away settled.settled.2); globals = settled.globals }

module _ (c : PlainChecked) (delegates : List Plug) (marks : List ℕ) (x : KeptFrame) (w : PlainWidget) (is : x.settled ≡ Some w) where
  -- what is known of the tree that stands
  pub known_tree : (tree : Option PlainNode) → FrameStandsFor c delegates marks tree x → IsKnownIn c marks tree x.elements x.keyless x.marked w
  known_tree old h = of_kept x.settled w (IsKnownIn c marks old x.elements x.keyless x.marked) is h.settled

small_by : (count limit : ℕ) → nat_lt limit count ≡ false → count ≤ limit
small_by count limit e = ltb-false limit count e

-- a root that is too large has no tree of which that is known
pub known_small : (c : PlainChecked) (delegates : List Plug) (marks : List ℕ) (tree : Option PlainNode) (x : KeptFrame) (w : PlainWidget) → x.settled ≡ Some w → FrameStandsFor c delegates marks tree x → widget_count w ≤ output_limit
known_small c delegates marks None x w is h = absurd (known_tree c delegates marks x w is None h)
known_small c delegates marks (Some n) x w is h = small_by (widget_count w) output_limit (by_mark x.marked (known_tree c delegates marks x w is (Some n) h).settled)
  where
    by_mark : (o : Option Handle) → IsSettledAs c marks x.elements o w n → nat_lt output_limit (widget_count w) ≡ false
    by_mark None s = s.small
    by_mark (Some k) s = s.2.stale.small

-- ---- fields are set of one component

-- as the test of it answers: then it alone is marked, and else nothing is known any more
pub settled_set : (c : PlainChecked) (marks : List ℕ) (n m : PlainNode) (t u : Tree Element) (keyless : Bool) (marked : Option Handle) (h : Handle) (e v : Element) (change : PlainNode → PlainNode)
    → ((w : PlainWidget) (names : List ℕ) → IsSettledFor (blueprint_of c) marks w n → names_read (look_of (widget_of m)) ≡ Some names → IsMarkedFor (blueprint_of c) (marks ++ e.number ∷ []) e.number w (change n))
    → ((w : PlainWidget) → IsMarkedFor (blueprint_of c) marks e.number w n → IsMarkedFor (blueprint_of c) (marks ++ e.number ∷ []) e.number w (change n)) → ((k : PlainNode) → HasNoGlobals k → HasNoGlobals (change k))
    → element_at t h ≡ Some e → element_at u h ≡ Some v → v.number ≡ e.number → widget_of m ≡ e.widget → is_alone t marked h ≡ true → (o : Option PlainWidget) → IfSome o (IsKnownIn c marks (Some n) t keyless marked)
    → IfSome o (IsKnownIn c (marks ++ e.number ∷ []) (Some (change n)) u keyless (Some h))
settled_set c marks n m t u keyless marked h e v change law stale globals at now_at number widget alone None settled = tt
settled_set c marks n m t u keyless None h e v change law stale globals at now_at number widget alone (Some w) settled =
    let names = names_there (names_read (look_of (widget_of m)))
    (ap (λ (x : PlainWidget). is_some (names_read (look_of x))) widget ∙ (sym (ap is_component at) ∙ alone)) in
    record {
      settled = (v, now_at, subst (λ (k : ℕ). IsMarkedFor (blueprint_of c) (marks ++ e.number ∷ []) k w (change n)) (sym number) (law w names.0 settled.settled names.1));
      globals = λ on. globals n (settled.globals on);
    }
  where
    names_there : (o : Option (List ℕ)) → is_some o ≡ true → (names : List ℕ) × (o ≡ Some names)
    names_there None e = cc
    names_there (Some names) e = (names, refl)
settled_set c marks n m t u keyless (Some k) h e v change law stale globals at now_at number widget alone (Some w) settled =
    let one : k ≡ h = same-true k h alone in
    let there : settled.settled.0 ≡ e = same_Some (sym settled.settled.1 ∙ (ap (element_at t) one ∙ at)) in
    let was : IsMarkedFor (blueprint_of c) marks e.number w n = subst (λ (x : Element). IsMarkedFor (blueprint_of c) marks x.number w n) there settled.settled.2 in
    record {
      settled = (v, now_at, subst (λ (i : ℕ). IsMarkedFor (blueprint_of c) (marks ++ e.number ∷ []) i w (change n)) (sym number) (stale w was));
      globals = λ on. globals n (settled.globals on);
    }

-- by the answer of the test
pub settled_if : (alone : Bool) (old new : Option (Rc Widget Global)) (P : PlainWidget → Type 0) → (alone ≡ true → new ≡ old) → (alone ≡ false → new ≡ None) → (alone ≡ true → IfSome (option_map shared old) P) → IfSome (option_map shared new) P
settled_if true old new P kept forgot holds = subst (λ (o : Option (Rc Widget Global)). IfSome (option_map shared o) P) (sym (kept refl)) (holds refl)
settled_if false old new P kept forgot holds = subst (λ (o : Option (Rc Widget Global)). IfSome (option_map shared o) P) (sym (forgot refl)) tt

-- what is kept is what was
pub only_itself : {A : Type 0} (o : Option A) → IfSome o (λ a. o ≡ Some a)
only_itself None = tt
only_itself (Some a) = refl

pub settled_only : (alone : Bool) (old new : Option (Rc Widget Global)) (was : Option PlainWidget) → option_map shared old ≡ was → (alone ≡ true → new ≡ old) → (alone ≡ false → new ≡ None)
    → IfSome (option_map shared new) (λ w. was ≡ Some w)
settled_only true old new was is kept forgot =
    subst (λ (o : Option PlainWidget). IfSome o (λ w. was ≡ Some w)) (sym is ∙ ap (option_map shared) (sym (kept refl))) (only_itself was)
settled_only false old new was is kept forgot = subst (λ (o : Option (Rc Widget Global)). IfSome (option_map shared o) (λ w. was ≡ Some w)) (sym (forgot refl)) tt

-- laws of settled_builds
abbrev pub FieldsMark : Type 0
FieldsMark =
    (b : Blueprint) (marks : List ℕ) (root : PlainWidget) (tree n : PlainNode) (f : PlainNode → List Value) (wanted : ℕ) (names : List ℕ) → IsSettledFor b marks root tree → node_at wanted tree ≡ Some n
    → names_read (look_of (widget_of n)) ≡ Some names → IsMarkedFor b (marks ++ wanted ∷ []) wanted root (changed_at (λ m. having_fields (f m) m) wanted tree)

abbrev pub FieldsMarkAgain : Type 0
FieldsMarkAgain =
    (b : Blueprint) (marks : List ℕ) (root : PlainWidget) (tree : PlainNode) (f : PlainNode → List Value) (wanted : ℕ) → IsMarkedFor b marks wanted root tree
    → IsMarkedFor b (marks ++ wanted ∷ []) wanted root (changed_at (λ m. having_fields (f m) m) wanted tree)

pub known_set : FieldsMark → FieldsMarkAgain → (c : PlainChecked) (marks : List ℕ) (tree : Option PlainNode) (m : PlainNode) (number : ℕ) (t u : Tree Element) (keyless : Bool) (marked : Option Handle) (h : Handle) (e v : Element)
    (change : List Value → List Value) → node_in tree number ≡ Some m → e.number ≡ number → element_at t h ≡ Some e → element_at u h ≡ Some v → v.number ≡ e.number → widget_of m ≡ e.widget → is_alone t marked h ≡ true
    → (o : Option PlainWidget) → IfSome o (IsKnownIn c marks tree t keyless marked)
    → IfSome o (IsKnownIn c (marks ++ number ∷ []) (option_map (changed_at (λ (x : PlainNode). having_fields (change (fields_of x)) x) number) tree) u keyless (Some h))
known_set law stale c marks None m number t u keyless marked h e v change there number_is at now_at same widget alone o settled = absurd (none_some there)
known_set law stale c marks (Some n) m number t u keyless marked h e v change there number_is at now_at same widget alone o settled =
    let f : PlainNode → List Value = λ x. change (fields_of x) in
    subst (λ (k : ℕ). IfSome o (IsKnownIn c (marks ++ k ∷ []) (Some (changed_at (λ (x : PlainNode). having_fields (f x) x) k n)) u keyless (Some h))) number_is
    (settled_set c marks n m t u keyless marked h e v (changed_at (λ (x : PlainNode). having_fields (f x) x) e.number)
    (λ w names s read. law (blueprint_of c) marks w n m f e.number names s (ap (λ (k : ℕ). node_at k n) number_is ∙ there) read)
    (λ w s. stale (blueprint_of c) marks w n f e.number s)
    (λ k free. changed_keyless (λ x. having_fields (f x) x) e.number (λ x is. fields_keyless (f x) x is) k free)
    at now_at same widget alone o settled)

-- what was written at a handle is there
pub written : (t u : Tree Element) (h : Handle) (e v : Element) → element_at t h ≡ Some e → Writes t u h v → element_at u h ≡ Some v
written t u h e v at w = by_node (node_at_handle t h) refl
  where
    by_node : (o : Option (TreeNode Element)) → node_at_handle t h ≡ o → element_at u h ≡ Some v
    by_node None is = absurd (none_some (sym (ap (option_map (λ (n : TreeNode Element). n.value)) is) ∙ at))
    by_node (Some n) is =
        ap (option_map (λ (x : TreeNode Element). x.value)) (w.writes.nodes h ∙ ap (option_map (with_value_at h v h)) is)
        ∙ ap (λ (b : Bool). Some (if b then record n { value = v } else n).value) (same_self h)

-- as tests answer
pub none_by : {A : Type 0} (o : Option A) → is_some o ≡ false → o ≡ None
none_by None e = refl
none_by (Some a) e = cc

pub some_marked : {A : Type 0} (o : Option A) → is_some o ≡ true → o ≡ None → ⊥
some_marked None e is = cc
some_marked (Some a) e is = cc

pub marked_by : (o : Option Handle) (x : KeptFrame) (w : PlainWidget) → x.marked ≡ o → x.settled ≡ Some w → x.keyless ≡ true → IfSome o (λ h. (x.settled ≡ Some w) × (x.marked ≡ Some h) × (x.keyless ≡ true))
marked_by None x w marked settled keyless = tt
marked_by (Some h) x w marked settled keyless = (settled, marked, keyless)

-- whether an element is a component's, by the widget that is lent
pub component_by : (o : Option Element) (w : PlainWidget) (answer : Bool) → Some w ≡ option_map (λ (e : Element). e.widget) o → answer ≡ is_some (names_read (look_of w)) → answer ≡ is_component o
component_by None w answer lent is = absurd (none_some (sym lent))
component_by (Some e) w answer lent is = is ∙ ap (λ (x : PlainWidget). is_some (names_read (look_of x))) (same_Some lent)

pub no_component : (o : Option Element) → None ≡ option_map (λ (e : Element). e.widget) o → false ≡ is_component o
no_component None lent = refl
no_component (Some e) lent = absurd (none_some lent)
