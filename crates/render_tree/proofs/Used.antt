-- The users of delegates after an edit.
use Rattle.std.proofs.Common.{◌≡◌, ◌≢◌, ℕ, Bool, true, false, cond, ◌&&◌, List, Option, Some, None, Result, Ok, Err, OnOk, OnErr, IsSome, option_map, option_and_then, refl, sym, ap, ◌∙◌, subst, inl, inr, ◌≤◌, arith}
use Rattle.std.proofs.lemmas.Bool.{cases_Bool, false_from_ne_true, false≢true}
use Rattle.std.specs.declared.alloc.AllocError.{AllocError}
use Rattle.std.specs.Str.{bytes_eq}
use Rattle.fx_handles.specs.declared.Handle.{Handle}
use Rattle.fx_handles.specs.Handle.{same}
use Rattle.fx_handles.specs.HandleLaws.{same-true, same-false, same_self, same-eq, same-ne}
use Rattle.handle_groups.specs.Groups.{Groups, stands_under, room_in}
use Rattle.node_tree.specs.Forest.{TreeNode, Forest}
use Rattle.node_tree.specs.Forest.Forest.{none, tree}
use Rattle.node_tree.specs.Tree.{Tree, IsNode, node_at, StandsAt}
use Rattle.node_tree.specs.Edits.{Adds, WritesValue, KeepsValues, KeepsOtherValues}
use Rattle.widget_model.specs.Plain.{PlainWidget, look_of}
use Rattle.layout_form.specs.Layout.{delegate_of}
use Rattle.render_tree.specs.Object.{RenderObject, object_look}
use Rattle.render_tree.specs.Tree.{object_at}
use Rattle.render_tree.specs.Edits.{Changes, with_widget}
use Rattle.render_tree.specs.Users.{delegate_at, is_called, AreUsers, HasRoom, standing}

pub same-sym : (h k : Handle) → same h k ≡ same k h
same-sym h k = elim (cases_Bool (same h k)) [
  | inl e ↦ e ∙ sym (same-eq k h (sym (same-true h k e)))
  | inr e ↦ e ∙ sym (same-ne k h (λ is. same-false h k e (sym is)))
]

-- ---- on what stands under names

-- the same stands under each name
abbrev pub SameGroups : Groups → Groups → Type 0
SameGroups a b = (n : List ℕ) (k : Handle) → stands_under b n k ≡ stands_under a n k

called_none : (n : List ℕ) (o : Option (List ℕ)) → o ≡ None → is_called n o ≡ false
called_none n o e = ap (is_called n) e

-- a room that doesn't shrink
pub room_kept : (g a : Groups) (d : Option (List ℕ)) → ((n : List ℕ) → room_in g.groups n ≤ room_in a.groups n) → HasRoom g d → HasRoom a d
room_kept g a None more room = room
room_kept g a (Some d) more room = let here = more d in (omega (arith, here, room))

-- a new user, where the handle used none
pub put_standing : (D : Handle → Option (List ℕ)) (d : Option (List ℕ)) (h : Handle) (n : List ℕ) (k : Handle) → D h ≡ None
    → standing true d h (λ m c. is_called m (D c)) n k ≡ is_called n (cond (same h k) d (D k))
put_standing D None h n k unused = by (same h k) refl
  where
    by : (b : Bool) → same h k ≡ b → is_called n (D k) ≡ is_called n (cond b None (D k))
    by true e = called_none n (D k) (ap D (sym (same-true h k e)) ∙ unused)
    by false e = refl
put_standing D (Some d) h n k unused = by (bytes_eq d n) refl (same h k) refl
  where
    by : (c : Bool) → bytes_eq d n ≡ c → (b : Bool) → same h k ≡ b → cond (c && b) true (is_called n (D k)) ≡ is_called n (cond b (Some d) (D k))
    by true t true e = sym t
    by true t false e = refl
    by false f true e = called_none n (D k) (ap D (sym (same-true h k e)) ∙ unused) ∙ sym f
    by false f false e = refl

-- a user less
pub drop_standing : (D : Handle → Option (List ℕ)) (d : Option (List ℕ)) (h : Handle) (n : List ℕ) (k : Handle) → D h ≡ d
    → standing false d h (λ m c. is_called m (D c)) n k ≡ is_called n (cond (same h k) None (D k))
drop_standing D None h n k was = by (same h k) refl
  where
    by : (b : Bool) → same h k ≡ b → is_called n (D k) ≡ is_called n (cond b None (D k))
    by true e = called_none n (D k) (ap D (sym (same-true h k e)) ∙ was)
    by false e = refl
drop_standing D (Some d) h n k was = by (bytes_eq d n) refl (same h k) refl
  where
    by : (c : Bool) → bytes_eq d n ≡ c → (b : Bool) → same h k ≡ b → cond (c && b) false (is_called n (D k)) ≡ is_called n (cond b None (D k))
    by true t true e = refl
    by true t false e = refl
    by false f true e = ap (λ x. is_called n x) (ap D (sym (same-true h k e)) ∙ was) ∙ f
    by false f false e = refl

-- the same, where the handle may be gone already
pub drop_called : (D : Handle → Option (List ℕ)) (d : Option (List ℕ)) (h : Handle) (n : List ℕ) (k : Handle) → (is_called n (D h) ≡ true → is_called n d ≡ true)
    → standing false d h (λ m c. is_called m (D c)) n k ≡ is_called n (cond (same h k) None (D k))
drop_called D None h n k was = by (same h k) refl
  where
    by : (b : Bool) → same h k ≡ b → is_called n (D k) ≡ is_called n (cond b None (D k))
    by true e = ap (λ c. is_called n (D c)) (sym (same-true h k e)) ∙ false_from_ne_true (is_called n (D h)) (λ called. false≢true (was called))
    by false e = refl
drop_called D (Some d) h n k was = by (bytes_eq d n) refl (same h k) refl
  where
    by : (c : Bool) → bytes_eq d n ≡ c → (b : Bool) → same h k ≡ b → cond (c && b) false (is_called n (D k)) ≡ is_called n (cond b None (D k))
    by true t true e = refl
    by true t false e = refl
    by false f true e = ap (λ c. is_called n (D c)) (sym (same-true h k e)) ∙ false_from_ne_true (is_called n (D h)) (λ called. false≢true (sym f ∙ was called))
    by false f false e = refl

-- what is said of one handle stays so where the rest is read again
pub standing-same : (b : Bool) (d : Option (List ℕ)) (h : Handle) (S T : List ℕ → Handle → Bool) (n : List ℕ) (k : Handle) → S n k ≡ T n k
    → standing b d h S n k ≡ standing b d h T n k
standing-same b None h S T n k e = e
standing-same b (Some d) h S T n k e = ap (λ x. cond (bytes_eq d n && same h k) b x) e

-- ---- on trees

pub used_read : (g a : Groups) (t : Tree RenderObject) → AreUsers g t → SameGroups g a → AreUsers a t
used_read g a t are same_groups = λ n k. same_groups n k ∙ are n k

pub used_kept : (g : Groups) (t u : Tree RenderObject) → AreUsers g t → ((k : Handle) → object_at u k ≡ object_at t k) → AreUsers g u
used_kept g t u are keeps = λ n k. are n k ∙ ap (λ o. is_called n (option_and_then (λ x. delegate_of (object_look x)) o)) (sym (keeps k))

-- each handle uses the delegate that it used
pub used_same : (g : Groups) (t u : Tree RenderObject) → AreUsers g t → ((k : Handle) → delegate_at u k ≡ delegate_at t k) → AreUsers g u
used_same g t u are keeps = λ n k. are n k ∙ ap (is_called n) (sym (keeps k))

-- a node that wasn't there
pub used_added : (g a b : Groups) (t u : Tree RenderObject) (h : Handle) (d : Option (List ℕ)) → AreUsers g t → SameGroups g a
    → ((n : List ℕ) (k : Handle) → stands_under b n k ≡ standing true d h (stands_under a) n k)
    → object_at t h ≡ None → delegate_at u h ≡ d → ((k : Handle) → k ≢ h → object_at u k ≡ object_at t k) → AreUsers b u
used_added g a b t u h d are same_groups put absent here others = λ n k.
    put n k
    ∙ standing-same true d h (stands_under a) (λ m c. is_called m (delegate_at t c)) n k (same_groups n k ∙ are n k)
    ∙ put_standing (delegate_at t) d h n k (ap (option_and_then (λ x. delegate_of (object_look x))) absent)
    ∙ ap (is_called n) (by k (same h k) refl)
  where
    by : (k : Handle) (c : Bool) → same h k ≡ c → cond c d (delegate_at t k) ≡ delegate_at u k
    by k true e = sym here ∙ ap (delegate_at u) (same-true h k e)
    by k false e = ap (option_and_then (λ x. delegate_of (object_look x))) (sym (others k (λ is. same-false h k e (sym is))))

-- a node that uses another delegate than before
pub used_changed : (g a b c : Groups) (t u : Tree RenderObject) (h : Handle) (d x : Option (List ℕ)) → AreUsers g t → SameGroups g a
    → ((n : List ℕ) (k : Handle) → stands_under b n k ≡ standing false d h (stands_under a) n k)
    → ((n : List ℕ) (k : Handle) → stands_under c n k ≡ standing true x h (stands_under b) n k)
    → delegate_at t h ≡ d → ((k : Handle) → delegate_at u k ≡ cond (same h k) x (delegate_at t k)) → AreUsers c u
used_changed g a b c t u h d x are same_groups drop put was now = λ n k.
    put n k
    ∙ standing-same true x h (stands_under b) (λ m e. is_called m (D e)) n k
    (drop n k ∙ standing-same false d h (stands_under a) (λ m e. is_called m (delegate_at t e)) n k (same_groups n k ∙ are n k) ∙ drop_standing (delegate_at t) d h n k was)
    ∙ put_standing D x h n k gone
    ∙ ap (is_called n) (by k (same h k) refl)
  where
    D : Handle → Option (List ℕ)
    D e = cond (same h e) None (delegate_at t e)

    gone : D h ≡ None
    gone = ap (λ q. cond {A = Option (List ℕ)} q None (delegate_at t h)) (same_self h)

    by : (k : Handle) (q : Bool) → same h k ≡ q → cond q x (D k) ≡ delegate_at u k
    by k true e = sym (now k ∙ ap (λ q. cond q x (delegate_at t k)) e)
    by k false e = ap (λ q. cond {A = Option (List ℕ)} q None (delegate_at t k)) e ∙ sym (now k ∙ ap (λ q. cond q x (delegate_at t k)) e)

-- ---- on values that are written

written_value : (b : Bool) (n : TreeNode RenderObject) (w : RenderObject) → (cond b (record n { value = w }) n).value ≡ cond b w n.value
written_value true n w = refl
written_value false n w = refl

pub value_after : (old new : Tree RenderObject) (h : Handle) (w : RenderObject) → WritesValue old.nodes new.nodes h w
    → (k : Handle) → object_at new k ≡ option_map (λ v. cond (same k h) w v) (object_at old k)
value_after old new h w writes k = ap (option_map (λ n. n.value)) (writes.nodes k) ∙ by_node (node_at old k)
  where
    by_node : (o : Option (TreeNode RenderObject)) → option_map (λ n. n.value) (option_map (λ n. cond (same k h) (record n { value = w }) n) o) ≡ option_map (λ v. cond (same k h) w v) (option_map (λ n. n.value) o)
    by_node None = refl
    by_node (Some n) = ap Some (written_value (same k h) n w)

-- a change that leaves the widget leaves the users
changed_delegate : (b : Bool) (o : Option RenderObject) (e w : RenderObject) → (b ≡ true → o ≡ Some e) → w.widget ≡ e.widget
    → option_and_then (λ x. delegate_of (object_look x)) (option_map (λ v. cond b w v) o) ≡ option_and_then (λ x. delegate_of (object_look x)) o
changed_delegate b None e w is widget = refl
changed_delegate true (Some v) e w is widget =
    let one : Some v ≡ Some e = is refl in
    let is_v : v ≡ e = (cc) in
    ap (λ p. delegate_of (look_of p)) (widget ∙ ap (λ (x : RenderObject). x.widget) (sym is_v))
changed_delegate false (Some v) e w is widget = refl

pub used_set : (g : Groups) (t u : Tree RenderObject) (h : Handle) (change : RenderObject → RenderObject) → AreUsers g t → Changes t u h change
    → ((o : RenderObject) → (change o).widget ≡ o.widget) → AreUsers g u
used_set g t u h change are changes widget = by (object_at t h) refl
  where
    by : (o : Option RenderObject) → object_at t h ≡ o → AreUsers g u
    by None at = subst (AreUsers g) (sym (changes.dead at)) are
    by (Some e) at = used_same g t u are (λ k.
        ap (option_and_then (λ x. delegate_of (object_look x))) (value_after t u h (change e) (changes.live e at).writes k)
        ∙ changed_delegate (same k h) (object_at t k) e (change e) (λ equal. ap (object_at t) (same-true k h equal) ∙ at) (widget e))

-- ---- edits

-- a new node
pub used_inserted : (g a b : Groups) (t u : Tree RenderObject) (q : Option Handle) (i : ℕ) (h : Handle) (o : RenderObject) (d : Option (List ℕ)) → AreUsers g t → SameGroups g a
    → ((n : List ℕ) (k : Handle) → stands_under b n k ≡ standing true d h (stands_under a) n k)
    → Adds t.nodes u.nodes q i h o → delegate_of (object_look o) ≡ d → KeepsOtherValues t u h → AreUsers b u
used_inserted g a b t u q i h o d are same_groups put adds delegate others =
    used_added g a b t u h d are same_groups put (ap (option_map (λ (n : TreeNode RenderObject). n.value)) adds.was_absent)
    (ap (λ (n : Option (TreeNode RenderObject)). option_and_then (λ x. delegate_of (object_look x)) (option_map (λ (m : TreeNode RenderObject). m.value) n)) adds.found ∙ delegate) others

-- another widget
other_delegate : (b : Bool) (v : Option RenderObject) (o : RenderObject) (p : PlainWidget) (x : Option (List ℕ)) → (b ≡ true → v ≡ Some o) → delegate_of (look_of p) ≡ x
    → option_and_then (λ e. delegate_of (object_look e)) (option_map (λ e. cond b (with_widget p o) e) v) ≡ cond b x (option_and_then (λ e. delegate_of (object_look e)) v)
other_delegate true v o p x there delegate = ap (λ e. option_and_then (λ y. delegate_of (object_look y)) (option_map (λ _. with_widget p o) e)) (there refl) ∙ delegate
other_delegate false None o p x there delegate = refl
other_delegate false (Some v) o p x there delegate = refl

pub used_updated : (g a b c : Groups) (t u : Tree RenderObject) (h : Handle) (o : RenderObject) (p : PlainWidget) (d x : Option (List ℕ)) → AreUsers g t → SameGroups g a
    → ((n : List ℕ) (k : Handle) → stands_under b n k ≡ standing false d h (stands_under a) n k)
    → ((n : List ℕ) (k : Handle) → stands_under c n k ≡ standing true x h (stands_under b) n k)
    → object_at t h ≡ Some o → delegate_of (object_look o) ≡ d → delegate_of (look_of p) ≡ x → Changes t u h (with_widget p) → AreUsers c u
used_updated g a b c t u h o p d x are same_groups drop put there was is changes =
    used_changed g a b c t u h d x are same_groups drop put (ap (option_and_then (λ e. delegate_of (object_look e))) there ∙ was) (λ k.
    ap (option_and_then (λ e. delegate_of (object_look e))) (value_after t u h (with_widget p o) (changes.live o there).writes k)
    ∙ other_delegate (same k h) (object_at t k) o p x (λ e. ap (object_at t) (same-true k h e) ∙ there) is
    ∙ ap (λ q. cond q x (delegate_at t k)) (same-sym k h))

-- edits that keep all values
pub used_by : {P : Type 0} (r : Result (Unit {0}) AllocError) (g : Groups) (t u : Tree RenderObject) → AreUsers g t → OnOk r P → OnErr r (u ≡ t) → (P → KeepsValues t u) → AreUsers g u
used_by (Ok x) g t u are ok err keeps = used_kept g t u are (keeps ok)
used_by (Err e) g t u are ok err keeps = subst (AreUsers g) (sym err) are

pub live_from_stands : (t : Tree RenderObject) (h : Handle) (s : Forest RenderObject) → StandsAt t h s → IsNode t h
live_from_stands t h none at = absurd (let e = at.top in cc)
live_from_stands t h (tree k e below rest) at =
    let is_h : k ≡ h = (let e = at.top in cc) in
    subst (λ (x : Handle). IsNode t x) is_h (subst IsSome (sym at.stands.0) refl)
