-- What lines do to a tree leaves each component that isn't marked with what its body gives.
use Rattle.std.proofs.Common.{◌≡◌, ℕ, eqb, Bool, true, false, ◌||◌, cond, Option, List, [], ◌∷◌, ◌++◌, map, refl, sym, ap, ◌∙◌, subst}
use Rattle.std.specs.List.{list_any}
use Rattle.std.specs.Cmp.{unsigned_Decides}
use borrow.Author.Tests.{eqb-true}
use Rattle.fx_expr.specs.declared.values.Value.{Value}
use Rattle.widget_model.specs.Plain.{look_of}
use Rattle.plain_tree.specs.At.{having_fields, having_scroll, is_there, changed_at, changed_in}
use Rattle.plain_tree.specs.Offsets.{scrolled_by, all_scrolled_by}
use Rattle.plain_tree.specs.PlainNode.{PlainNode, node, PlainNodes, no_nodes, more_nodes, list_of, number_of, widget_of}
use Rattle.build_form.specs.BuildRole.{build_role_of}
use Rattle.build_form.specs.Entering.{Blueprint, values_below}
use Rattle.build_walk.specs.Past.{is_marked}
use Rattle.build_walk.specs.Fresh.{HasOutput, HasFreshOutputs, HaveFreshOutputs}

or_later : (a b : Bool) → b ≡ true → (a || b) ≡ true
or_later true b e = refl
or_later false b e = e

both_false : (a b c : Bool) → (c ≡ false → b ≡ false) → (a || c) ≡ false → (a || b) ≡ false
both_false true b c h e = e
both_false false b c h e = h e

any_last : (p : ℕ → Bool) (xs : List ℕ) (x : ℕ) → p x ≡ true → list_any p (xs ++ x ∷ []) ≡ true
any_last p [] x e = ap (λ b. b || false) e
any_last p (y ∷ xs) x e = or_later (p y) (list_any p (xs ++ x ∷ [])) (any_last p xs x e)

any_left : (p : ℕ → Bool) (xs ys : List ℕ) → list_any p (xs ++ ys) ≡ false → list_any p xs ≡ false
any_left p [] ys e = refl
any_left p (x ∷ xs) ys e = both_false (p x) (list_any p xs) (list_any p (xs ++ ys)) (any_left p xs ys) e

-- some more marks
abbrev pub Widens : List ℕ → List ℕ → Type 0
Widens marks more = (k : ℕ) → is_marked more k ≡ false → is_marked marks k ≡ false

pub appended : (marks others : List ℕ) → Widens marks (marks ++ others)
appended marks others = λ k e. any_left (λ n. eqb n k) marks others e

pub marked_last : (marks : List ℕ) (k : ℕ) → is_marked (marks ++ k ∷ []) k ≡ true
marked_last marks k = any_last (λ n. eqb n k) marks k ((unsigned_Decides k k).1 refl)

module _ (b : Blueprint) (marks more : List ℕ) (widens : Widens marks more) where
  mutual
    pub more_marked : (values : List Value) (n : PlainNode) → HasFreshOutputs b marks values n → HasFreshOutputs b more values n
    more_marked values (node number widget fields scroll index children) h = ((λ e. h.0 (widens number e)), all_more_marked (values_below widget values) children h.1)

    pub all_more_marked : (values : List Value) (ns : PlainNodes) → HaveFreshOutputs b marks values ns → HaveFreshOutputs b more values ns
    all_more_marked values no_nodes h = tt
    all_more_marked values (more_nodes n ns) h = (more_marked values n h.0, all_more_marked values ns h.1)

  -- ---- the node with a number is changed, but for its widget

  module _ (change : PlainNode → PlainNode) (wanted : ℕ) (same : (n : PlainNode) → widget_of (change n) ≡ widget_of n)
      (here : (values : List Value) (n : PlainNode) → number_of n ≡ wanted → HasFreshOutputs b marks values n → HasFreshOutputs b more values (change n)) where
    widget_when : (t : Bool) (n m : PlainNode) → widget_of m ≡ widget_of n → widget_of (cond t (change n) m) ≡ widget_of n
    widget_when true n m e = same n
    widget_when false n m e = e

    same_widget : (n : PlainNode) → widget_of (changed_at change wanted n) ≡ widget_of n
    same_widget (node number widget fields scroll index children) =
        widget_when (eqb number wanted) (node number widget fields scroll index children) (node number widget fields scroll index (changed_in change wanted children)) refl

    widgets_when : (t : Bool) (n m : PlainNode) (ns ms : PlainNodes) → widget_of m ≡ widget_of n → map widget_of (list_of ms) ≡ map widget_of (list_of ns)
        → map widget_of (list_of (cond t (more_nodes m ns) (more_nodes n ms))) ≡ widget_of n ∷ map widget_of (list_of ns)
    widgets_when true n m ns ms e f = ap (λ w. w ∷ map widget_of (list_of ns)) e
    widgets_when false n m ns ms e f = ap (λ ws. widget_of n ∷ ws) f

    same_widgets : (ns : PlainNodes) → map widget_of (list_of (changed_in change wanted ns)) ≡ map widget_of (list_of ns)
    same_widgets no_nodes = refl
    same_widgets (more_nodes n ns) = widgets_when (is_there wanted n) n (changed_at change wanted n) ns (changed_in change wanted ns) (same_widget n) (same_widgets ns)

    fresh_when : (t : Bool) (values : List Value) (n m : PlainNode) → eqb (number_of n) wanted ≡ t → HasFreshOutputs b marks values n → HasFreshOutputs b more values m → HasFreshOutputs b more values (cond t (change n) m)
    fresh_when true values n m e h k = here values n (eqb-true (number_of n) wanted e) h
    fresh_when false values n m e h k = k

    all_fresh_when : (t : Bool) (values : List Value) (n m : PlainNode) (ns ms : PlainNodes) → HasFreshOutputs b more values n → HasFreshOutputs b more values m → HaveFreshOutputs b more values ns → HaveFreshOutputs b more values ms
        → HaveFreshOutputs b more values (cond t (more_nodes m ns) (more_nodes n ms))
    all_fresh_when true values n m ns ms h hm k km = (hm, k)
    all_fresh_when false values n m ns ms h hm k km = (h, km)

    mutual
      pub changed_fresh : (values : List Value) (n : PlainNode) → HasFreshOutputs b marks values n → HasFreshOutputs b more values (changed_at change wanted n)
      changed_fresh values (node number widget fields scroll index children) h =
          fresh_when (eqb number wanted) values (node number widget fields scroll index children) (node number widget fields scroll index (changed_in change wanted children)) refl h (
            (λ e. subst (HasOutput b (build_role_of (look_of widget)) widget fields values number) (sym (same_widgets children)) (h.0 (widens number e))),
            all_changed_fresh (values_below widget values) children h.1,
          )

      pub all_changed_fresh : (values : List Value) (ns : PlainNodes) → HaveFreshOutputs b marks values ns → HaveFreshOutputs b more values (changed_in change wanted ns)
      all_changed_fresh values no_nodes h = tt
      all_changed_fresh values (more_nodes n ns) h =
          all_fresh_when (is_there wanted n) values n (changed_at change wanted n) ns (changed_in change wanted ns)
          (more_marked values n h.0) (changed_fresh values n h.0) (all_more_marked values ns h.1) (all_changed_fresh values ns h.1)

-- ---- fields, and offsets

having_same : (fields : List Value) (n : PlainNode) → widget_of (having_fields fields n) ≡ widget_of n
having_same fields (node number widget old scroll index children) = refl

scroll_same : (scroll : ℕ) (n : PlainNode) → widget_of (having_scroll scroll n) ≡ widget_of n
scroll_same scroll (node number widget fields old index children) = refl

fields_here : (b : Blueprint) (marks : List ℕ) (wanted : ℕ) (fields values : List Value) (n : PlainNode) → number_of n ≡ wanted → HasFreshOutputs b marks values n
    → HasFreshOutputs b (marks ++ wanted ∷ []) values (having_fields fields n)
fields_here b marks wanted fields values (node number widget old scroll index children) is h = (
  (λ e. let marked : is_marked (marks ++ wanted ∷ []) number ≡ true = ap (is_marked (marks ++ wanted ∷ [])) is ∙ marked_last marks wanted in cc),
  all_more_marked b marks (marks ++ wanted ∷ []) (appended marks (wanted ∷ [])) (values_below widget values) children h.1,
)

scroll_here : (b : Blueprint) (marks : List ℕ) (scroll : ℕ) (values : List Value) (n : PlainNode) → HasFreshOutputs b marks values n → HasFreshOutputs b marks values (having_scroll scroll n)
scroll_here b marks scroll values (node number widget fields old index children) h = h

pub fields_fresh : (b : Blueprint) (marks : List ℕ) (values : List Value) (f : PlainNode → List Value) (wanted : ℕ) (n : PlainNode) → HasFreshOutputs b marks values n
    → HasFreshOutputs b (marks ++ wanted ∷ []) values (changed_at (λ m. having_fields (f m) m) wanted n)
fields_fresh b marks values f wanted n h =
    changed_fresh b marks (marks ++ wanted ∷ []) (appended marks (wanted ∷ [])) (λ m. having_fields (f m) m) wanted (λ m. having_same (f m) m)
    (λ vs m is k. fields_here b marks wanted (f m) vs m is k) values n h

pub scroll_fresh : (b : Blueprint) (marks : List ℕ) (values : List Value) (scroll wanted : ℕ) (n : PlainNode) → HasFreshOutputs b marks values n
    → HasFreshOutputs b marks values (changed_at (having_scroll scroll) wanted n)
scroll_fresh b marks values scroll wanted n h =
    changed_fresh b marks marks (λ k e. e) (having_scroll scroll) wanted (λ m. scroll_same scroll m) (λ vs m is k. scroll_here b marks scroll vs m k) values n h

mutual
  scrolled_widgets : (offset : ℕ → Option ℕ) (ns : PlainNodes) → map widget_of (list_of (all_scrolled_by offset ns)) ≡ map widget_of (list_of ns)
  scrolled_widgets offset no_nodes = refl
  scrolled_widgets offset (more_nodes (node number widget fields scroll index children) ns) = ap (λ ws. widget ∷ ws) (scrolled_widgets offset ns)

  pub offsets_fresh : (b : Blueprint) (marks : List ℕ) (values : List Value) (offset : ℕ → Option ℕ) (n : PlainNode) → HasFreshOutputs b marks values n → HasFreshOutputs b marks values (scrolled_by offset n)
  offsets_fresh b marks values offset (node number widget fields scroll index children) h = (
    (λ e. subst (HasOutput b (build_role_of (look_of widget)) widget fields values number) (sym (scrolled_widgets offset children)) (h.0 e)),
    all_offsets_fresh b marks (values_below widget values) offset children h.1,
  )

  all_offsets_fresh : (b : Blueprint) (marks : List ℕ) (values : List Value) (offset : ℕ → Option ℕ) (ns : PlainNodes) → HaveFreshOutputs b marks values ns → HaveFreshOutputs b marks values (all_scrolled_by offset ns)
  all_offsets_fresh b marks values offset no_nodes h = tt
  all_offsets_fresh b marks values offset (more_nodes n ns) h = (offsets_fresh b marks values offset n h.0, all_offsets_fresh b marks values offset ns h.1)
