-- The render nodes of a tree by the numbers of its nodes, and a tree of which one Viewport is scrolled.
use Rattle.std.proofs.Common.{◌≡◌, ℕ, ◌==◌, Bool, true, false, cond, Option, Some, None, is_some, option_and_then, List, [], ◌∷◌, ◌++◌, refl, sym, ap, ◌∙◌, inl, inr, eqb-true, eq-eqb}
use Rattle.std.proofs.lemmas.Bool.{false≢true}
use Rattle.std.specs.Option.{option_or}
use Rattle.fx_expr.specs.declared.values.Value.{Value}
use Rattle.widget_model.specs.Plain.{PlainWidget, look_of, children_of as child_widgets}
use Rattle.plain_tree.specs.declared.render.ParentData.{ParentData}
use Rattle.plain_tree.specs.declared.role.RenderRole.{RenderRole}
use Rattle.plain_tree.specs.declared.role.RenderRole.TheVariants.{Composes, Shares, Places, Line, Pile, Lazy, Window, Plain}
use Rattle.plain_tree.specs.At.{numbers_of, numbers_in, node_at, node_in, changed_at, changed_in, having_scroll}
use Rattle.plain_tree.specs.Laws.{AllDiffer}
use Rattle.plain_tree.specs.Offsets.{rescrolled, scrolled_by, all_scrolled_by}
use Rattle.plain_tree.specs.PlainNode.{PlainNode, node, PlainNodes, no_nodes, more_nodes, widget_of}
use Rattle.plain_tree.specs.Projection.{projected, projected_all, told_at, told_by, scroll_in}
use Rattle.plain_tree.specs.Render.{Render, render, Renders, renders_of, lazy_count}
use Rattle.plain_tree.specs.RenderRole.{render_role_of, vanishes, is_window}
use Rattle.plain_tree.proofs.Numbers.{IsIn, in_left, in_right, differs, apart, differ_left, differ_right}
use Rattle.screen_owner.specs.Last.{LastNode, drawn_in, only_at}

no_some : {A : Type 0} {a : A} → Some a ≡ None → ⊥
no_some e = cc

some_same : {n m : PlainNode} → Some n ≡ Some m → n ≡ m
some_same e = cc

alone : {A : Type 0} (o : Option A) → option_or o None ≡ o
alone None = refl
alone (Some x) = refl

or_none : {A : Type 0} (a b : Option A) → option_or a b ≡ None → (a ≡ None) × (b ≡ None)
or_none None b e = (refl, e)
or_none (Some x) b e = absurd (no_some e)

-- ---- cases

by_some : {A B : Type 0} (x : Option A) → (x ≡ None → B) → ((a : A) → x ≡ Some a → B) → B
by_some None none some = none refl
by_some (Some a) none some = some a refl

by_number : {B : Type 0} (own w : ℕ) → (own ≡ w → B) → ((own ≡ w → ⊥) → B) → B
by_number {B} own w same other = by_test (own == w) refl
  where
    by_test : (b : Bool) → (own == w) ≡ b → B
    by_test true t = same (eqb-true own w t)
    by_test false t = other (λ e. false≢true (sym t ∙ eq-eqb own w e))

pub at_own : {A : Type 0} (own w : ℕ) (x y : A) → own ≡ w → cond (own == w) x y ≡ x
at_own {A} own w x y e = ap (λ (b : Bool). cond {A = A} b x y) (eq-eqb own w e)

pub at_other : {A : Type 0} (own w : ℕ) (x y : A) → (own ≡ w → ⊥) → cond (own == w) x y ≡ y
at_other {A} own w x y other = by_test (own == w) refl
  where
    by_test : (b : Bool) → (own == w) ≡ b → cond {A = A} (own == w) x y ≡ y
    by_test true t = absurd (other (eqb-true own w t))
    by_test false t = ap (λ (b : Bool). cond {A = A} b x y) t

-- ---- the node with a number is there where the numbers of a tree have it

mutual
  pub has_number : (w : ℕ) (n m : PlainNode) → node_at w n ≡ Some m → IsIn w (numbers_of n)
  has_number w (node own widget fields scroll index children) m e =
      by_number own w (λ is. inl (sym is))
      (λ other. inr (have_number w children m (sym (at_other own w (Some (node own widget fields scroll index children)) (node_in w children) other) ∙ e)))

  have_number : (w : ℕ) (ns : PlainNodes) (m : PlainNode) → node_in w ns ≡ Some m → IsIn w (numbers_in ns)
  have_number w no_nodes m e = absurd (no_some (sym e))
  have_number w (more_nodes n ns) m e =
      by_some (node_at w n)
      (λ f. in_right w (numbers_of n) (numbers_in ns) (have_number w ns m (sym (ap (λ (o : Option PlainNode). option_or o (node_in w ns)) f) ∙ e)))
      (λ k f. in_left w (numbers_of n) (numbers_in ns) (has_number w n k f))

pub no_node : (w : ℕ) (n : PlainNode) → (IsIn w (numbers_of n) → ⊥) → node_at w n ≡ None
no_node w n away = by_some (node_at w n) (λ e. e) (λ m e. absurd (away (has_number w n m e)))

no_node_in : (w : ℕ) (ns : PlainNodes) → (IsIn w (numbers_in ns) → ⊥) → node_in w ns ≡ None
no_node_in w ns away = by_some (node_in w ns) (λ e. e) (λ m e. absurd (away (have_number w ns m e)))

in_two : (w : ℕ) (xs ys : List ℕ) → IsIn w (xs ++ ys) → (IsIn w xs → ⊥) → IsIn w ys
in_two w [] ys h other = h
in_two w (x ∷ xs) ys (inl h) other = absurd (other (inl h))
in_two w (x ∷ xs) ys (inr h) other = in_two w xs ys h (λ k. other (inr k))

in_later : (w x : ℕ) (xs : List ℕ) → IsIn w (x ∷ xs) → (x ≡ w → ⊥) → IsIn w xs
in_later w x xs (inl h) other = absurd (other (sym h))
in_later w x xs (inr h) other = h

mutual
  pub is_node : (w : ℕ) (n : PlainNode) → IsIn w (numbers_of n) → node_at w n ≡ None → ⊥
  is_node w (node own widget fields scroll index children) there e =
      by_number own w (λ is. no_some (sym (at_own own w (Some (node own widget fields scroll index children)) (node_in w children) is) ∙ e))
      (λ other. are_nodes w children (in_later w own (numbers_in children) there other)
      (sym (at_other own w (Some (node own widget fields scroll index children)) (node_in w children) other) ∙ e))

  are_nodes : (w : ℕ) (ns : PlainNodes) → IsIn w (numbers_in ns) → node_in w ns ≡ None → ⊥
  are_nodes w no_nodes there e = there
  are_nodes w (more_nodes n ns) there e =
      let both = or_none (node_at w n) (node_in w ns) e in
      are_nodes w ns (in_two w (numbers_of n) (numbers_in ns) there (λ h. is_node w n h both.0)) both.1

-- ---- what a build finds of a node

abbrev pub part_of : RenderRole → PlainWidget → ℕ → Option LastNode
part_of role widget scroll = cond (vanishes role) None (Some (record { look = look_of widget; scroll = scroll_in role scroll }))

-- its kind and its offset, where it has a render node
abbrev pub drawn_part : PlainNode → Option LastNode
drawn_part (node number widget fields scroll index children) = part_of (render_role_of (look_of widget)) widget scroll

drawn_append : (w : ℕ) (xs ys : List Render) → drawn_in w (renders_of (xs ++ ys)) ≡ option_or (drawn_in w (renders_of xs)) (drawn_in w (renders_of ys))
drawn_append w [] ys = refl
drawn_append w (render number look told scroll count children ∷ xs) ys =
    let own : Option LastNode = cond (number == w) (Some (record { look = look; scroll = scroll })) (drawn_in w children) in
    ap (option_or own) (drawn_append w xs ys) ∙ or_or own (drawn_in w (renders_of xs)) (drawn_in w (renders_of ys))
  where
    or_or : (a b c : Option LastNode) → option_or a (option_or b c) ≡ option_or (option_or a b) c
    or_or None b c = refl
    or_or (Some x) b c = refl

module _ (above : RenderRole) (told : Option ParentData) where
  abbrev pub own_render : ℕ → PlainWidget → ℕ → ℕ → PlainNodes → Render
  own_render number widget scroll index children =
      let role = render_role_of (look_of widget) in
      render number (look_of widget) (told_at above told index) (scroll_in role scroll) (lazy_count role (child_widgets widget)) (renders_of (projected_all role None children))

  pub head_is : (number : ℕ) (widget : PlainWidget) (fields : List Value) (scroll index : ℕ) (children : PlainNodes)
      → projected above told (node number widget fields scroll index children)
      ≡ cond (vanishes (render_role_of (look_of widget)))
      (projected_all above (Some (told_by above (render_role_of (look_of widget)) (told_at above told index))) children) (own_render number widget scroll index children ∷ [])
  unfolding projected
  head_is number widget fields scroll index children = refl

  pub none_is : projected_all above told no_nodes ≡ []
  unfolding projected
  none_is = refl

  pub more_is : (n : PlainNode) (ns : PlainNodes) → projected_all above told (more_nodes n ns) ≡ projected above told n ++ projected_all above told ns
  unfolding projected
  more_is n ns = refl

either_drawn : (w : ℕ) (v : Bool) (xs ys : List Render) (a : Option LastNode) → drawn_in w (renders_of xs) ≡ a → drawn_in w (renders_of ys) ≡ a → drawn_in w (renders_of (cond v xs ys)) ≡ a
either_drawn w true xs ys a h k = h
either_drawn w false xs ys a h k = k

own_drawn : (w : ℕ) (v : Bool) (xs ys : List Render) (d : LastNode) → drawn_in w (renders_of xs) ≡ None → drawn_in w (renders_of ys) ≡ Some d
    → drawn_in w (renders_of (cond v xs ys)) ≡ cond v None (Some d)
own_drawn w true xs ys d h k = h
own_drawn w false xs ys d h k = k

-- of a render node with another number what is below it is found
below_drawn : (w number : ℕ) (d : LastNode) (below : Renders) → (number ≡ w → ⊥) → option_or (cond (number == w) (Some d) (drawn_in w below)) None ≡ drawn_in w below
below_drawn w number d below other = ap (λ (o : Option LastNode). option_or o None) (at_other number w (Some d) (drawn_in w below) other) ∙ alone (drawn_in w below)

mutual
  pub none_drawn : (w : ℕ) (above : RenderRole) (told : Option ParentData) (n : PlainNode) → (IsIn w (numbers_of n) → ⊥) → drawn_in w (renders_of (projected above told n)) ≡ None
  none_drawn w above told (node number widget fields scroll index children) away =
      let role = render_role_of (look_of widget) in
      let inside : IsIn w (numbers_in children) → ⊥ = λ h. away (inr h) in
      ap (λ (rs : List Render). drawn_in w (renders_of rs)) (head_is above told number widget fields scroll index children)
      ∙ either_drawn w (vanishes role) (projected_all above (Some (told_by above role (told_at above told index))) children) (own_render above told number widget scroll index children ∷ []) None
      (all_none_drawn w above (Some (told_by above role (told_at above told index))) children inside)
      (below_drawn w number (record { look = look_of widget; scroll = scroll_in role scroll }) (renders_of (projected_all role None children)) (λ e. away (inl (sym e)))
      ∙ all_none_drawn w role None children inside)

  all_none_drawn : (w : ℕ) (above : RenderRole) (told : Option ParentData) (ns : PlainNodes) → (IsIn w (numbers_in ns) → ⊥) → drawn_in w (renders_of (projected_all above told ns)) ≡ None
  all_none_drawn w above told no_nodes away = ap (λ (rs : List Render). drawn_in w (renders_of rs)) (none_is above told)
  all_none_drawn w above told (more_nodes n ns) away =
      ap (λ (rs : List Render). drawn_in w (renders_of rs)) (more_is above told n ns)
      ∙ (drawn_append w (projected above told n) (projected_all above told ns)
      ∙ (λ i. option_or (none_drawn w above told n (λ h. away (in_left w (numbers_of n) (numbers_in ns) h)) i)
      (all_none_drawn w above told ns (λ h. away (in_right w (numbers_of n) (numbers_in ns) h)) i)))

-- the first of two that is found, where only one is there
find_first : (a b : Option PlainNode) → ((m : PlainNode) → a ≡ Some m → b ≡ None) → option_or (option_and_then drawn_part a) (option_and_then drawn_part b) ≡ option_and_then drawn_part (option_or a b)
find_first None b other = refl
find_first (Some m) b other = ap (λ (o : Option PlainNode). option_or (drawn_part m) (option_and_then drawn_part o)) (other m refl) ∙ alone (drawn_part m)

mutual
  pub drawn_in_tree : (w : ℕ) (above : RenderRole) (told : Option ParentData) (n : PlainNode) → AllDiffer (numbers_of n)
      → drawn_in w (renders_of (projected above told n)) ≡ option_and_then drawn_part (node_at w n)
  drawn_in_tree w above told (node number widget fields scroll index children) differ =
      let role = render_role_of (look_of widget) in
      let among : Option ParentData = Some (told_by above role (told_at above told index)) in
      let found : LastNode = record { look = look_of widget; scroll = scroll_in role scroll } in
      let here : PlainNode = node number widget fields scroll index children in
      ap (λ (rs : List Render). drawn_in w (renders_of rs)) (head_is above told number widget fields scroll index children)
      ∙ by_number number w
      (λ is.
      own_drawn w (vanishes role) (projected_all above among children) (own_render above told number widget scroll index children ∷ []) found
      (all_none_drawn w above among children (λ h. differs number w (numbers_in children) differ.0 h is))
      (ap (λ (o : Option LastNode). option_or o None) (at_own number w (Some found) (drawn_in w (renders_of (projected_all role None children))) is))
      ∙ sym (ap (option_and_then drawn_part) (at_own number w (Some here) (node_in w children) is)))
      (λ other.
      either_drawn w (vanishes role) (projected_all above among children) (own_render above told number widget scroll index children ∷ []) (option_and_then drawn_part (node_in w children))
      (drawn_in_nodes w above among children differ.1)
      (below_drawn w number found (renders_of (projected_all role None children)) other ∙ drawn_in_nodes w role None children differ.1)
      ∙ sym (ap (option_and_then drawn_part) (at_other number w (Some here) (node_in w children) other)))

  drawn_in_nodes : (w : ℕ) (above : RenderRole) (told : Option ParentData) (ns : PlainNodes) → AllDiffer (numbers_in ns)
      → drawn_in w (renders_of (projected_all above told ns)) ≡ option_and_then drawn_part (node_in w ns)
  drawn_in_nodes w above told no_nodes differ = ap (λ (rs : List Render). drawn_in w (renders_of rs)) (none_is above told)
  drawn_in_nodes w above told (more_nodes n ns) differ =
      ap (λ (rs : List Render). drawn_in w (renders_of rs)) (more_is above told n ns)
      ∙ (drawn_append w (projected above told n) (projected_all above told ns)
      ∙ ((λ i. option_or (drawn_in_tree w above told n (differ_left (numbers_of n) (numbers_in ns) differ) i)
      (drawn_in_nodes w above told ns (differ_right (numbers_of n) (numbers_in ns) differ) i))
      ∙ find_first (node_at w n) (node_in w ns) (λ m e. no_node_in w ns (λ h. apart w (numbers_of n) (numbers_in ns) differ (has_number w n m e) h))))

-- ---- one Viewport is scrolled

pub by_nothing : (role : RenderRole) (before : ℕ) → rescrolled role None before ≡ before
by_nothing Window before = refl
by_nothing Composes before = refl
by_nothing (Shares flex tight) before = refl
by_nothing (Places placed) before = refl
by_nothing Line before = refl
by_nothing Pile before = refl
by_nothing Lazy before = refl
by_nothing Plain before = refl

pub of_a_window : (role : RenderRole) (offset before : ℕ) → is_window role ≡ true → rescrolled role (Some offset) before ≡ offset
of_a_window Window offset before e = refl
of_a_window Composes offset before e = absurd (false≢true e)
of_a_window (Shares flex tight) offset before e = absurd (false≢true e)
of_a_window (Places placed) offset before e = absurd (false≢true e)
of_a_window Line offset before e = absurd (false≢true e)
of_a_window Pile offset before e = absurd (false≢true e)
of_a_window Lazy offset before e = absurd (false≢true e)
of_a_window Plain offset before e = absurd (false≢true e)

module _ (number offset : ℕ) where
  other_stays : (own : ℕ) (role : RenderRole) (before : ℕ) → (own ≡ number → ⊥) → rescrolled role (only_at number offset own) before ≡ before
  other_stays own role before other = ap (λ (o : Option ℕ). rescrolled role o before) (at_other own number (Some offset) None other) ∙ by_nothing role before

  mutual
    unscrolled : (n : PlainNode) → (IsIn number (numbers_of n) → ⊥) → scrolled_by (only_at number offset) n ≡ n
    unscrolled (node own widget fields scroll index children) away =
        λ i. node own widget fields (other_stays own (render_role_of (look_of widget)) scroll (λ e. away (inl (sym e))) i) index
        (all_unscrolled children (λ h. away (inr h)) i)

    all_unscrolled : (ns : PlainNodes) → (IsIn number (numbers_in ns) → ⊥) → all_scrolled_by (only_at number offset) ns ≡ ns
    all_unscrolled no_nodes away = refl
    all_unscrolled (more_nodes n ns) away =
        λ i. more_nodes (unscrolled n (λ h. away (in_left number (numbers_of n) (numbers_in ns) h)) i)
        (all_unscrolled ns (λ h. away (in_right number (numbers_of n) (numbers_in ns) h)) i)

  module _ (m : PlainNode) (view : is_window (render_role_of (look_of (widget_of m))) ≡ true) where
    mutual
      pub scrolled_one : (n : PlainNode) → AllDiffer (numbers_of n) → node_at number n ≡ Some m → changed_at (having_scroll offset) number n ≡ scrolled_by (only_at number offset) n
      scrolled_one (node own widget fields scroll index children) differ e =
          let role = render_role_of (look_of widget) in
          let here : PlainNode = node own widget fields scroll index children in
          let after : PlainNode = node own widget fields scroll index (changed_in (having_scroll offset) number children) in
          by_number own number
          (λ is.
          let same : here ≡ m = some_same (sym (at_own own number (Some here) (node_in number children) is) ∙ e) in
          let window : is_window role ≡ true = ap (λ (x : PlainNode). is_window (render_role_of (look_of (widget_of x)))) same ∙ view in
          at_own own number (having_scroll offset here) after is
          ∙ sym (λ i. node own widget fields
          ((ap (λ (o : Option ℕ). rescrolled role o scroll) (at_own own number (Some offset) None is) ∙ of_a_window role offset scroll window) i) index
          (all_unscrolled children (λ h. differs own number (numbers_in children) differ.0 h is) i)))
          (λ other.
          at_other own number (having_scroll offset here) after other
          ∙ (λ i. node own widget fields (sym (other_stays own role scroll other) i) index
          (scrolled_in children differ.1 (sym (at_other own number (Some here) (node_in number children) other) ∙ e) i)))

      scrolled_in : (ns : PlainNodes) → AllDiffer (numbers_in ns) → node_in number ns ≡ Some m → changed_in (having_scroll offset) number ns ≡ all_scrolled_by (only_at number offset) ns
      scrolled_in no_nodes differ e = refl
      scrolled_in (more_nodes n ns) differ e =
          let here : PlainNodes = more_nodes (changed_at (having_scroll offset) number n) ns in
          let after : PlainNodes = more_nodes n (changed_in (having_scroll offset) number ns) in
          by_some (node_at number n)
          (λ f.
          ap (λ (b : Bool). cond b here after) (ap is_some f)
          ∙ (λ i. more_nodes (sym (unscrolled n (λ h. is_node number n h f)) i)
          (scrolled_in ns (differ_right (numbers_of n) (numbers_in ns) differ) (sym (ap (λ (o : Option PlainNode). option_or o (node_in number ns)) f) ∙ e) i)))
          (λ k f.
          let own : node_at number n ≡ Some m = f ∙ (sym (ap (λ (o : Option PlainNode). option_or o (node_in number ns)) f) ∙ e) in
          ap (λ (b : Bool). cond b here after) (ap is_some f)
          ∙ (λ i. more_nodes (scrolled_one n (differ_left (numbers_of n) (numbers_in ns) differ) own i)
          (sym (all_unscrolled ns (λ h. apart number (numbers_of n) (numbers_in ns) differ (has_number number n k f) h)) i)))
