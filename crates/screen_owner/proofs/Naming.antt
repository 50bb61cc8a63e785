-- The render nodes of a screen by their numbers, and what a build that goes on from them knows of its nodes.
use Rattle.std.proofs.Common.{◌≡◌, ap, refl, sym, ◌∙◌, ℕ, ◌==◌, Bool, true, false, ◌||◌, cond, IsSome, ◌⊎◌, Option, Some, None, option_map, option_and_then, inl, inr, eqb-true, eq-eqb}
use Rattle.std.proofs.lemmas.Bool.{false≢true}
use Rattle.std.specs.BTreeMap.{BTreeMap, get}
use Rattle.std.specs.Option.{option_or}
use Rattle.std.specs.Ordering.{nat_cmp}
use Rattle.fx_handles.specs.declared.Handle.{Handle}
use Rattle.fx_handles.specs.Handle.{same}
use Rattle.fx_handles.specs.HandleLaws.{same-true}
use Rattle.fx_handles.specs.ArenaLaws.{same_Some}
use Rattle.node_tree.specs.Forest.{TreeNode, Forest, Stands}
use Rattle.node_tree.specs.Forest.Forest.{none, tree}
use Rattle.node_tree.specs.Tree.{Tree, IsTree, node_at}
use Rattle.widget_model.specs.Look.{Look}
use Rattle.plain_tree.specs.declared.role.RenderRole.{RenderRole}
use Rattle.plain_tree.specs.declared.role.RenderRole.TheVariants.{Composes, Shares, Places, Line, Pile, Lazy, Window, Plain}
use Rattle.plain_tree.specs.Offsets.{of_window}
use Rattle.plain_tree.specs.Render.{Render, render, Renders, no_renders, more_renders}
use Rattle.plain_tree.specs.RenderRole.{render_role_of, is_window}
use Rattle.tree_marks.specs.Marks.{has_node}
use Rattle.tree_marks.proofs.Closing.{either}
use Rattle.tree_marks.proofs.MarkSteps.{node_stands}
use Rattle.render_tree.specs.Object.{RenderObject, object_look}
use Rattle.render_tree.specs.Plain.{lazy_children, renders_of, root_tree}
use Rattle.render_tree.specs.Readings.{scroll_of}
use Rattle.render_tree.specs.Tree.{object_at}
use Rattle.render_sync.specs.Numbering.{number_at}
use Rattle.render_sync.specs.Renders.{IsScrolledSo, AreScrolledSo, AllScrolledSo}
use Rattle.screen_owner.specs.Changes.{AreKindsSo, AllKindsSo}
use Rattle.screen_owner.specs.Last.{LastNode, drawn_in, window_in, GoesOnFrom, GoOn, AllGoOn}
use Rattle.screen_owner.specs.Standing.{IsScreenTree}
use Rattle.screen_owner.proofs.Showing.{root_forest}

abbrev pub object_in : (Handle → Option (TreeNode RenderObject)) → Handle → Option RenderObject
object_in at k = option_map (λ (n : TreeNode RenderObject). n.value) (at k)

-- what a build finds of a node
abbrev pub drawn_node : RenderObject → LastNode
drawn_node o = record { look = object_look o; scroll = o.scroll }

-- ---- one number

head_drawn : (wanted : ℕ) (o : RenderObject) (below rest : Renders) → o.number ≡ wanted
    → drawn_in wanted (more_renders (render o.number (object_look o) o.parent_data o.scroll (lazy_children o) below) rest) ≡ Some (drawn_node o)
head_drawn wanted o below rest is =
    ap (λ (b : Bool). option_or (cond {A = Option LastNode} b (Some (drawn_node o)) (drawn_in wanted below)) (drawn_in wanted rest)) (eq-eqb o.number wanted is)

later_drawn : (wanted : ℕ) (o : RenderObject) (below rest : Renders) → (o.number ≡ wanted → ⊥)
    → drawn_in wanted (more_renders (render o.number (object_look o) o.parent_data o.scroll (lazy_children o) below) rest) ≡ option_or (drawn_in wanted below) (drawn_in wanted rest)
later_drawn wanted o below rest other = by_test (o.number == wanted) refl
  where
    by_test : (b : Bool) → (o.number == wanted) ≡ b
        → option_or (cond {A = Option LastNode} b (Some (drawn_node o)) (drawn_in wanted below)) (drawn_in wanted rest) ≡ option_or (drawn_in wanted below) (drawn_in wanted rest)
    by_test true e = absurd (other (eqb-true o.number wanted e))
    by_test false e = refl

no_some : {A : Type 0} (a : A) → Some a ≡ None → ⊥
no_some a e = cc

-- where something is found in two places one after the other, it is found in the first or in the second
first_or : (x y : Option LastNode) (d : LastNode) → option_or x y ≡ Some d → (x ≡ Some d) ⊎ (y ≡ Some d)
first_or None y d e = inr e
first_or (Some c) y d e = inl e

both_none : (x y : Option LastNode) → option_or x y ≡ None → (x ≡ None) × (y ≡ None)
both_none None y e = (refl, e)
both_none (Some c) y e = absurd (no_some c e)

-- a number is the wanted one, or another
by_number : {B : Type 0} (own wanted : ℕ) → (own ≡ wanted → B) → ((own ≡ wanted → ⊥) → B) → B
by_number {B} own wanted same other = by_test (own == wanted) refl
  where
    by_test : (b : Bool) → (own == wanted) ≡ b → B
    by_test true t = same (eqb-true own wanted t)
    by_test false t = other (λ e. false≢true (sym t ∙ eq-eqb own wanted e))

-- a node of a store that has a number
abbrev Named : (Handle → Option (TreeNode RenderObject)) → ℕ → LastNode → Type 0
Named at wanted d = (h : Handle) × (o : RenderObject) × (object_in at h ≡ Some o) × (o.number ≡ wanted) × (drawn_node o ≡ d)

module _ (at : Handle → Option (TreeNode RenderObject)) (wanted : ℕ) where
  -- what is found is found of a node with the number
  pub found_node : (q : Option Handle) (f : Forest RenderObject) → Stands at q f → (d : LastNode) → drawn_in wanted (renders_of f) ≡ Some d → Named at wanted d
  found_node q none stands d e = absurd (no_some d (sym e))
  found_node q (tree h v below rest) stands d e =
      by_number v.number wanted
      (λ is. (h, v, ap (option_map (λ (n : TreeNode RenderObject). n.value)) stands.0, is, same_Some (sym (head_drawn wanted v (renders_of below) (renders_of rest) is) ∙ e)))
      (λ other. elim (first_or (drawn_in wanted (renders_of below)) (drawn_in wanted (renders_of rest)) d (sym (later_drawn wanted v (renders_of below) (renders_of rest) other) ∙ e)) [
        | inl there ↦ found_node (Some h) below stands.1 d there
        | inr there ↦ found_node q rest stands.2 d there
      ])

  -- where nothing is found no node has the number
  pub none_named : (q : Option Handle) (f : Forest RenderObject) → Stands at q f → drawn_in wanted (renders_of f) ≡ None → (k : Handle) (o : RenderObject) → has_node k f ≡ true
      → object_in at k ≡ Some o → o.number ≡ wanted → ⊥
  none_named q none stands e k o has there is = false≢true has
  none_named q (tree h v below rest) stands e k o has there is =
      by_number v.number wanted (λ number. no_some (drawn_node v) (sym (head_drawn wanted v (renders_of below) (renders_of rest) number) ∙ e))
      (λ other.
      let nowhere = both_none (drawn_in wanted (renders_of below)) (drawn_in wanted (renders_of rest)) (sym (later_drawn wanted v (renders_of below) (renders_of rest) other) ∙ e) in
      elim (either (same h k) (has_node k below || has_node k rest) has) [
        | inl s ↦
            let value : v ≡ o = same_Some (sym (ap (option_map (λ (n : TreeNode RenderObject). n.value)) stands.0) ∙ (ap (object_in at) (same-true h k s) ∙ there)) in
            other (ap (λ (x : RenderObject). x.number) value ∙ is)
        | inr more ↦ elim (either (has_node k below) (has_node k rest) more) [
          | inl has_below ↦ none_named (Some h) below stands.1 nowhere.0 k o has_below there is
          | inr has_rest ↦ none_named q rest stands.2 nowhere.1 k o has_rest there is
        ]
      ])

-- ---- the nodes of a screen

node_of : (x : Option (TreeNode RenderObject)) (o : RenderObject) → option_map (λ (n : TreeNode RenderObject). n.value) x ≡ Some o → IsSome x
node_of None o e = absurd (no_some o (sym e))
node_of (Some n) o e = refl

module _ (numbers : BTreeMap ℕ Handle) (t : Tree RenderObject) (ready : IsScreenTree numbers t) (is : IsTree t) where
  root_is : root_tree t ≡ is.0
  root_is = root_forest t is.0 ready.alone is.1

  -- two nodes with one number are one
  one_node : (h k : Handle) (o v : RenderObject) → object_at t h ≡ Some o → object_at t k ≡ Some v → o.number ≡ v.number → o ≡ v
  one_node h k o v there here number =
      let a = ready.numbering.to_index v.number h (ap (option_map (λ (x : RenderObject). x.number)) there ∙ ap Some number) in
      let b = ready.numbering.to_index v.number k (ap (option_map (λ (x : RenderObject). x.number)) here) in
      same_Some (sym there ∙ (ap (object_at t) (same_Some (sym a ∙ b)) ∙ here))

  pub drawn_is : (h : Handle) (o : RenderObject) → object_at t h ≡ Some o → drawn_in o.number (renders_of (root_tree t)) ≡ Some (drawn_node o)
  drawn_is h o there = ap (λ (f : Forest RenderObject). drawn_in o.number (renders_of f)) root_is ∙ by_found (drawn_in o.number (renders_of is.0)) refl
    where
      by_found : (x : Option LastNode) → drawn_in o.number (renders_of is.0) ≡ x → drawn_in o.number (renders_of is.0) ≡ Some (drawn_node o)
      by_found None e =
          absurd (none_named (node_at t) o.number None is.0 is.1.stands e h o (node_stands t is.0 h is.1 (node_of (node_at t h) o there)) there refl)
      by_found (Some d) e =
          let found = found_node (node_at t) o.number None is.0 is.1.stands d e in
          e ∙ ap Some (sym found.4 ∙ ap drawn_node (one_node found.0 h found.1 o found.2 there found.3))

  pub drawn_none : (number : ℕ) → ((h : Handle) → number_at t h ≡ Some number → ⊥) → drawn_in number (renders_of (root_tree t)) ≡ None
  drawn_none number absent = ap (λ (f : Forest RenderObject). drawn_in number (renders_of f)) root_is ∙ by_found (drawn_in number (renders_of is.0)) refl
    where
      by_found : (x : Option LastNode) → drawn_in number (renders_of is.0) ≡ x → drawn_in number (renders_of is.0) ≡ None
      by_found None e = e
      by_found (Some d) e =
          let found = found_node (node_at t) number None is.0 is.1.stands d e in
          absurd (absent found.0 (ap (option_map (λ (x : RenderObject). x.number)) found.2 ∙ ap Some found.3))

  -- ---- a build that goes on from them

  scrolled_so : (number : ℕ) (look : Look) (scroll : ℕ) → GoesOnFrom (renders_of (root_tree t)) number look scroll → IsScrolledSo t number scroll
  scrolled_so number look scroll goes = record {
    was = λ h o there number_is. (goes.was (drawn_node o) (ap (λ (n : ℕ). drawn_in n (renders_of (root_tree t))) (sym number_is) ∙ drawn_is h o there)).0;
    new = λ absent. goes.new (drawn_none number absent);
  }

  mutual
    pub are_scrolled : (top : Render) → GoOn (renders_of (root_tree t)) top → AreScrolledSo t top
    are_scrolled (render number look told scroll count children) goes = (scrolled_so number look scroll goes.0, all_scrolled children goes.1)

    all_scrolled : (rs : Renders) → AllGoOn (renders_of (root_tree t)) rs → AllScrolledSo t rs
    all_scrolled no_renders goes = tt
    all_scrolled (more_renders r rs) goes = (are_scrolled r goes.0, all_scrolled rs goes.1)

  mutual
    pub are_kinds : (top : Render) → GoOn (renders_of (root_tree t)) top → AreKindsSo t top
    are_kinds (render number look told scroll count children) goes = (
      λ h o there number_is. sym (goes.0.was (drawn_node o) (ap (λ (n : ℕ). drawn_in n (renders_of (root_tree t))) (sym number_is) ∙ drawn_is h o there)).1,
      all_kinds children goes.1,
    )

    all_kinds : (rs : Renders) → AllGoOn (renders_of (root_tree t)) rs → AllKindsSo t rs
    all_kinds no_renders goes = tt
    all_kinds (more_renders r rs) goes = (are_kinds r goes.0, all_kinds rs goes.1)

  -- ---- how far the Viewport with a number is scrolled

  pub window_found : (number : ℕ) (h : Handle) → get nat_cmp numbers number ≡ Some h
      → option_and_then scroll_of (object_at t h) ≡ window_in number (renders_of (root_tree t))
  window_found number h found = by_node (object_at t h) refl
    where
      by_node : (x : Option RenderObject) → object_at t h ≡ x → option_and_then scroll_of (object_at t h) ≡ window_in number (renders_of (root_tree t))
      by_node None e = absurd (no_some number (sym (ready.numbering.to_node number h found) ∙ ap (option_map (λ (x : RenderObject). x.number)) e))
      by_node (Some o) e =
          let number_is : o.number ≡ number = same_Some (sym (ap (option_map (λ (x : RenderObject). x.number)) e) ∙ ready.numbering.to_node number h found) in
          ap (option_and_then scroll_of) e
          ∙ (scroll_is (render_role_of (object_look o)) o.scroll
          ∙ sym (ap (option_and_then (λ (d : LastNode). of_window (render_role_of d.look) d.scroll))
          (ap (λ (n : ℕ). drawn_in n (renders_of (root_tree t))) (sym number_is) ∙ drawn_is h o e)))
        where
          scroll_is : (role : RenderRole) (scroll : ℕ) → cond {A = Option ℕ} (is_window role) (Some scroll) None ≡ of_window role scroll
          scroll_is Window scroll = refl
          scroll_is Composes scroll = refl
          scroll_is (Shares flex tight) scroll = refl
          scroll_is (Places placed) scroll = refl
          scroll_is Line scroll = refl
          scroll_is Pile scroll = refl
          scroll_is Lazy scroll = refl
          scroll_is Plain scroll = refl

  pub window_missing : (number : ℕ) → get nat_cmp numbers number ≡ None → None ≡ window_in number (renders_of (root_tree t))
  window_missing number missing =
      sym (ap (option_and_then (λ (d : LastNode). of_window (render_role_of d.look) d.scroll))
      (drawn_none number (λ h there. no_some h (sym (ready.numbering.to_index number h there) ∙ missing))))
