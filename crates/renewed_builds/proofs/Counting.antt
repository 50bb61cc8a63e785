-- Where elements take widgets in their places, the same components are built of the tree as of the one before.
use Rattle.std.proofs.Common.{◌≡◌, ℕ, ◌==◌, Bool, true, false, not, ◌||◌, cond, Option, Some, None, List, [], ◌∷◌, ◌++◌, filter, length, refl, sym, ap, ◌∙◌, subst, ◌⊎◌, inl, inr}
use Rattle.std.specs.List.{find, list_any}
use Rattle.std.proofs.lemmas.List.{append-nil}
use Rattle.fx_expr.specs.declared.values.Value.{Value}
use Rattle.fx_expr.specs.Scope.{value_at}
use Rattle.fx_expr.specs.Value.{value_eq}
use Rattle.fx_handles.specs.declared.Handle.{Handle}
use Rattle.node_tree.specs.Forest.{TreeNode, Forest, map_values, Stands}
use Rattle.node_tree.specs.Forest.Forest.{none, tree}
use Rattle.node_tree.specs.Tree.{Tree, node_at}
use Rattle.widget_model.specs.Look.{Look, component}
use Rattle.widget_model.specs.Plain.{PlainWidget, look_of}
use Rattle.plain_tree.specs.PlainNode.{PlainNode, nodes_of as listed}
use Rattle.build_form.specs.BuildRole.{build_role_of}
use Rattle.build_form.specs.Entering.{Blueprint, values_below}
use Rattle.build_form.specs.FullBuild.{Screen}
use Rattle.element_tree.specs.Element.{Element}
use Rattle.element_tree.specs.Nodes.{nodes_of}
use Rattle.work_sets.specs.Due.{names_read, was_entered, has_other_value}
use Rattle.work_sets.specs.Entered.{Entered, entered_of, entered_in, entered_widgets}
use Rattle.work_sets.specs.Members.{is_same_widget}
use Rattle.build_walk.specs.Counting.{is_built_reader, is_built}
use Rattle.build_walk.specs.Past.{is_marked}
use Rattle.build_walk.specs.Standing.{all_builds}
use Rattle.settled_builds.specs.Taken.{has_own_children}
use Rattle.renewed_builds.specs.Renewing.{Change}
use Rattle.renewed_builds.specs.Taking.{after_changes}
use Rattle.renewed_builds.proofs.Becoming.{Became, IsTaking, becomes, values_then, value_of}
use Rattle.renewed_builds.proofs.Mapped.{number_after}
use Rattle.std.specs.List.{All}

-- ---- what is entered under a number, of two trees

-- the same widget with the same values, or in both another one than a component's
abbrev pub IsLike : Entered → Entered → Type 0
IsLike x y = (x.number ≡ y.number) × (((y.widget ≡ x.widget) × (y.values ≡ x.values)) ⊎ ((names_read (look_of x.widget) ≡ None) × (names_read (look_of y.widget) ≡ None)))

abbrev AllLike : List Entered → List Entered → Type 0
AllLike [] [] = Unit {0}
AllLike [] (y ∷ ys) = ⊥
AllLike (x ∷ xs) [] = ⊥
AllLike (x ∷ xs) (y ∷ ys) = IsLike x y × AllLike xs ys

like_append : (xs us ys vs : List Entered) → AllLike xs us → AllLike ys vs → AllLike (xs ++ ys) (us ++ vs)
like_append [] [] ys vs a b = b
like_append [] (u ∷ us) ys vs a b = absurd a
like_append (x ∷ xs) [] ys vs a b = absurd a
like_append (x ∷ xs) (u ∷ us) ys vs a b = (a.0, like_append xs us ys vs a.1 b)

abbrev AreLike : Option Entered → Option Entered → Type 0
AreLike None None = Unit {0}
AreLike None (Some y) = ⊥
AreLike (Some x) None = ⊥
AreLike (Some x) (Some y) = IsLike x y

found_by : (b : Bool) (x y : Entered) (o u : Option Entered) → IsLike x y → AreLike o u → AreLike (cond b (Some x) o) (cond b (Some y) u)
found_by true x y o u here later = here
found_by false x y o u here later = later

found_like : (k : ℕ) (xs us : List Entered) → AllLike xs us → AreLike (find (λ e. e.number == k) xs) (find (λ e. e.number == k) us)
found_like k [] [] a = tt
found_like k [] (u ∷ us) a = absurd a
found_like k (x ∷ xs) [] a = absurd a
found_like k (x ∷ xs) (u ∷ us) a =
    subst (λ (b : Bool). AreLike (cond (x.number == k) (Some x) (find (λ (e : Entered). e.number == k) xs)) (cond b (Some u) (find (λ (e : Entered). e.number == k) us))) (ap (λ (n : ℕ). n == k) a.0.0)
    (found_by (x.number == k) x u (find (λ (e : Entered). e.number == k) xs) (find (λ (e : Entered). e.number == k) us) a.0 (found_like k xs us a.1))

-- a kind that has its own children has no body
no_names : (look : Look) → has_own_children (build_role_of look) ≡ true → names_read look ≡ None
no_names (component place props d) own = cc
no_names _ own = refl

module _ (scrolled : ℕ → ℕ) (t : Tree Element) (cs : List Change) (all : All (IsTaking t) cs) where
  like_one : (e v : Element) (above others : List ℕ) (values : List Value) → v.number ≡ e.number → Became e v
      → IsLike (record { number = e.number; widget = e.widget; above = above; values = values }) (record { number = v.number; widget = v.widget; above = others; values = values })
  like_one e v above others values number was = (sym number, by_own was.own)
    where
      by_own : (v ≡ e) ⊎ ((has_own_children (build_role_of (look_of e.widget)) ≡ true) × (has_own_children (build_role_of (look_of v.widget)) ≡ true))
          → ((v.widget ≡ e.widget) × (values ≡ values)) ⊎ ((names_read (look_of e.widget) ≡ None) × (names_read (look_of v.widget) ≡ None))
      by_own (inl is) = inl (ap (λ (x : Element). x.widget) is, refl)
      by_own (inr own) = inr (no_names (look_of e.widget) own.0, no_names (look_of v.widget) own.1)

  all_like : (above others : List ℕ) (values : List Value) (p : Option Handle) (f : Forest Element) → Stands (node_at t) p f
      → AllLike (entered_in above values (listed (nodes_of scrolled f))) (entered_in others values (listed (nodes_of scrolled (map_values (after_changes cs) f))))
  all_like above others values p none stands = tt
  all_like above others values p (tree h e kids rest) stands =
      let v = after_changes cs h e in
      let was = becomes t h e (ap value_of stands.0) cs all in
      let low : AllLike (entered_in (e.number ∷ above) (values_below e.widget values) (listed (nodes_of scrolled kids))) (entered_in (v.number ∷ others) (values_below v.widget values) (listed (nodes_of scrolled (map_values (after_changes cs) kids)))) =
      subst (λ (vs : List Value). AllLike (entered_in (e.number ∷ above) (values_below e.widget values) (listed (nodes_of scrolled kids))) (entered_in (v.number ∷ others) vs (listed (nodes_of scrolled (map_values (after_changes cs) kids)))))
      (sym (values_then e v values was)) (all_like (e.number ∷ above) (v.number ∷ others) (values_below e.widget values) (Some h) kids stands.1) in (
        like_one e v above others values (number_after cs h e) was,
        like_append (entered_in (e.number ∷ above) (values_below e.widget values) (listed (nodes_of scrolled kids))) (entered_in (v.number ∷ others) (values_below v.widget values) (listed (nodes_of scrolled (map_values (after_changes cs) kids))))
            (entered_in above values (listed (nodes_of scrolled rest))) (entered_in others values (listed (nodes_of scrolled (map_values (after_changes cs) rest)))) low (all_like above others values p rest stands.2),
      )

-- ---- which of them are built

module _ (equal : (v w : PlainWidget) → is_same_widget v w ≡ true → v ≡ w) where
  other_widget : (v w : PlainWidget) (names : List ℕ) → names_read (look_of v) ≡ None → names_read (look_of w) ≡ Some names → (s : Bool) → is_same_widget v w ≡ s → is_same_widget v w ≡ false
  other_widget v w names lacks some true is = let wrong : None ≡ Some names = sym lacks ∙ ap (λ (x : PlainWidget). names_read (look_of x)) (equal v w is) ∙ some in cc
  other_widget v w names lacks some false is = is

  always : (a b c : Bool) → b ≡ true → (a || (b || c)) ≡ true
  always true b c e = refl
  always false true c e = refl
  always false false c e = cc

  like_built : (r : Option (List ℕ)) (o u : Option Entered) (marks : List ℕ) (e : Entered) → names_read (look_of e.widget) ≡ r → AreLike o u → is_built_reader r o marks e ≡ is_built_reader r u marks e
  like_built None o u marks e is like = refl
  like_built (Some names) None None marks e is like = refl
  like_built (Some names) None (Some y) marks e is like = absurd like
  like_built (Some names) (Some x) None marks e is like = absurd like
  like_built (Some names) (Some x) (Some y) marks e is like = by_like like.1
    where
      by_like : ((y.widget ≡ x.widget) × (y.values ≡ x.values)) ⊎ ((names_read (look_of x.widget) ≡ None) × (names_read (look_of y.widget) ≡ None)) → is_built_reader (Some names) (Some x) marks e ≡ is_built_reader (Some names) (Some y) marks e
      by_like (inl h) = λ i. is_marked marks e.number || (not (is_same_widget (sym h.0 i) e.widget) || list_any (λ name. not (value_eq (value_at (sym h.1 i) name) (value_at e.values name))) names)
      by_like (inr h) =
          let was : not (is_same_widget x.widget e.widget) ≡ true = ap not (other_widget x.widget e.widget names h.0 is (is_same_widget x.widget e.widget) refl) in
          let now : not (is_same_widget y.widget e.widget) ≡ true = ap not (other_widget y.widget e.widget names h.1 is (is_same_widget y.widget e.widget) refl) in
          always (is_marked marks e.number) _ (list_any (has_other_value x e) names) was ∙ sym (always (is_marked marks e.number) _ (list_any (has_other_value y e) names) now)

  -- elements stand for a tree, and would for another one once they took widgets: then any marks count alike in both
  module _ (scrolled : ℕ → ℕ) (t : Tree Element) (cs : List Change) (all : All (IsTaking t) cs) (f : Forest Element) (stands : Stands (node_at t) None f) (b : Blueprint) (old now : PlainNode)
      (old_is : old ∷ [] ≡ nodes_of scrolled f) (now_is : now ∷ [] ≡ nodes_of scrolled (map_values (after_changes cs) f)) where
    entered_like : (k : ℕ) → AreLike (was_entered b.defaults (Some old) k) (was_entered b.defaults (Some now) k)
    entered_like k =
        subst (λ (es : List Entered). AreLike (find (λ (e : Entered). e.number == k) es) (find (λ (e : Entered). e.number == k) (entered_of [] b.defaults now))) (sym (ap (λ (ns : List PlainNode). entered_in [] b.defaults (listed ns)) old_is) ∙ append-nil (entered_of [] b.defaults old))
        (subst (λ (es : List Entered). AreLike (find (λ (e : Entered). e.number == k) (entered_in [] b.defaults (listed (nodes_of scrolled f)))) (find (λ (e : Entered). e.number == k) es))
        (sym (ap (λ (ns : List PlainNode). entered_in [] b.defaults (listed ns)) now_is) ∙ append-nil (entered_of [] b.defaults now))
        (found_like k (entered_in [] b.defaults (listed (nodes_of scrolled f))) (entered_in [] b.defaults (listed (nodes_of scrolled (map_values (after_changes cs) f)))) (all_like scrolled t cs all [] [] b.defaults None f stands)))

    is_alike : (marks : List ℕ) (e : Entered) → is_built b.defaults (Some old) marks e ≡ is_built b.defaults (Some now) marks e
    is_alike marks e = like_built (names_read (look_of e.widget)) (was_entered b.defaults (Some old) e.number) (was_entered b.defaults (Some now) e.number) marks e refl (entered_like e.number)

    pub builds_alike : (screen : Screen) (next : ℕ) (root : PlainWidget) → entered_widgets b screen (Some old) next root ≡ entered_widgets b screen (Some now) next root → (marks : List ℕ)
        → all_builds b screen (Some old) marks next root ≡ all_builds b screen (Some now) marks next root
    builds_alike screen next root same marks =
        ap (λ (p : Entered → Bool). length (filter p (entered_widgets b screen (Some old) next root))) (λ i e. is_alike marks e i)
        ∙ ap (λ (es : List Entered). length (filter (is_built b.defaults (Some now) marks) es)) same
