-- Where the numbers of a build's render nodes come from: nodes of the last frame had them, or they were free.
use Rattle.std.proofs.Common.{◌≡◌, ℕ, ◌==◌, ◌<◌, Bool, true, false, cond, Option, Some, None, IfSome, option_map, List, [], ◌∷◌, ◌++◌, refl, sym, ap, subst, ◌∙◌, inl, inr, eqb-true}
use Rattle.std.specs.Option.{option_or}
use Rattle.fx_expr.specs.declared.values.Value.{Value}
use Rattle.fx_handles.specs.declared.Handle.{Handle}
use Rattle.node_tree.specs.Forest.{TreeNode, Forest, Stands}
use Rattle.node_tree.specs.Forest.Forest.{none, tree}
use Rattle.node_tree.specs.Tree.{Tree, node_at}
use Rattle.widget_model.specs.Plain.{PlainWidget, look_of}
use Rattle.plain_tree.specs.declared.render.ParentData.{ParentData}
use Rattle.plain_tree.specs.declared.role.RenderRole.{RenderRole}
use Rattle.plain_tree.specs.declared.role.RenderRole.TheVariants.{Plain}
use Rattle.plain_tree.specs.PlainNode.{PlainNode, node, PlainNodes, no_nodes, more_nodes}
use Rattle.plain_tree.specs.Projection.{projected, projected_all, render_of, told_at, told_by}
use Rattle.plain_tree.specs.Render.{Render, renders_of}
use Rattle.plain_tree.specs.RenderRole.{render_role_of, vanishes}
use Rattle.build_form.specs.Entering.{Blueprint}
use Rattle.build_form.specs.KeptStates.{HadOrIsNew, EachIs, AllAre}
use Rattle.build_form.specs.Laws.{NumbersAre, AllNumbersAre}
use Rattle.build_form.specs.Numbered.{IsNumbered}
use Rattle.render_tree.specs.Object.{RenderObject}
use Rattle.render_tree.specs.Plain.{renders_of as renders_in, root_tree}
use Rattle.render_sync.specs.Renders.{EachNumber, AllNumbers}
use Rattle.screen_owner.specs.Last.{LastNode, drawn_in}
use Rattle.screen_owner.specs.Standing.{StandsAlone}
use Rattle.screen_owner.proofs.Showing.{root_forest}
use Rattle.session_form.specs.Framing.{top_of}
use Rattle.work_sets.specs.Work.{render_root}
use Rattle.counted_work.specs.Known.{IsThereOrFree}
use Rattle.frame_owner.specs.Nodes.{drawn_of}
use Rattle.frame_owner.proofs.Finding.{head_is, none_is, more_is, own_render}
use Rattle.frame_session.proofs.GoingLemmas.{was_drawn}

no_some : {A : Type 0} {a : A} → Some a ≡ None → ⊥
no_some e = cc

-- ---- the numbers of render nodes, where something holds of the nodes of their tree

module _ (P : ℕ → Type 0) (R : ℕ → PlainWidget → List Value → ℕ → Type 0)
    (one : (number : ℕ) (widget : PlainWidget) (fields : List Value) (scroll : ℕ) → vanishes (render_role_of (look_of widget)) ≡ false → R number widget fields scroll → P number) where
  either_numbers : (v : Bool) (xs ys : List Render) → AllNumbers P (renders_of xs) → (v ≡ false → AllNumbers P (renders_of ys)) → AllNumbers P (renders_of (cond v xs ys))
  either_numbers true xs ys h k = h
  either_numbers false xs ys h k = k refl

  append_numbers : (xs ys : List Render) → AllNumbers P (renders_of xs) → AllNumbers P (renders_of ys) → AllNumbers P (renders_of (xs ++ ys))
  append_numbers [] ys h k = k
  append_numbers (x ∷ xs) ys h k = (h.0, append_numbers xs ys h.1 k)

  mutual
    each_number : (above : RenderRole) (told : Option ParentData) (n : PlainNode) → EachIs R n → AllNumbers P (renders_of (projected above told n))
    each_number above told (node number widget fields scroll index children) h =
        let role = render_role_of (look_of widget) in
        let among : Option ParentData = Some (told_by above role (told_at above told index)) in
        subst (λ (rs : List Render). AllNumbers P (renders_of rs)) (sym (head_is above told number widget fields scroll index children))
        (either_numbers (vanishes role) (projected_all above among children) (own_render above told number widget scroll index children ∷ []) (all_numbers above among children h.1)
        (λ shows. ((one number widget fields scroll shows h.0, all_numbers role None children h.1), tt)))

    all_numbers : (above : RenderRole) (told : Option ParentData) (ns : PlainNodes) → AllAre R ns → AllNumbers P (renders_of (projected_all above told ns))
    all_numbers above told no_nodes h = subst (λ (rs : List Render). AllNumbers P (renders_of rs)) (sym (none_is above told)) tt
    all_numbers above told (more_nodes n ns) h =
        subst (λ (rs : List Render). AllNumbers P (renders_of rs)) (sym (more_is above told n ns))
        (append_numbers (projected above told n) (projected_all above told ns) (each_number above told n h.0) (all_numbers above told ns h.1))

  top_numbers : (made : PlainNode) (top : Render) → render_of made ≡ top ∷ [] → EachIs R made → EachNumber P (render_root made)
  top_numbers made top is h =
      let all = subst (λ (rs : List Render). AllNumbers P (renders_of rs)) is (each_number Plain None made h) in
      subst (λ (rs : List Render). EachNumber P (top_of rs)) (sym is) all.0

-- ---- each is below the next free one

mutual
  below_each : (P : ℕ → Type 0) (n : PlainNode) → NumbersAre P n → EachIs (λ number widget fields scroll. P number) n
  below_each P (node number widget fields scroll index children) h = (h.0, below_all P children h.1)

  below_all : (P : ℕ → Type 0) (ns : PlainNodes) → AllNumbersAre P ns → AllAre (λ number widget fields scroll. P number) ns
  below_all P no_nodes h = tt
  below_all P (more_nodes n ns) h = (below_each P n h.0, below_all P ns h.1)

pub numbers_below : (made : PlainNode) (top : Render) (next : ℕ) → render_of made ≡ top ∷ [] → IsNumbered next made → EachNumber (λ number. number < next) (render_root made)
numbers_below made top next is numbered =
    top_numbers (λ number. number < next) (λ number widget fields scroll. number < next) (λ number widget fields scroll shows h. h) made top is
    (below_each (λ number. number < next) made numbered.below)

-- ---- each was there, or was free

abbrev There : (Handle → Option (TreeNode RenderObject)) → ℕ → Type 0
There at wanted = (h : Handle) × (option_map (λ (o : RenderObject). o.number) (option_map (λ (n : TreeNode RenderObject). n.value) (at h)) ≡ Some wanted)

one_there : (at : Handle → Option (TreeNode RenderObject)) (wanted : ℕ) (h : Handle) (own : ℕ) (last d : LastNode) (b : Bool)
    → option_map (λ (o : RenderObject). o.number) (option_map (λ (n : TreeNode RenderObject). n.value) (at h)) ≡ Some own → (own == wanted) ≡ b
    → (x y : Option LastNode) → (x ≡ Some d → There at wanted) → (y ≡ Some d → There at wanted) → option_or (cond b (Some last) x) y ≡ Some d → There at wanted
one_there at wanted h own last d true stands t x y first later e = (h, stands ∙ ap Some (eqb-true own wanted t))
one_there at wanted h own last d false stands t None y first later e = later e
one_there at wanted h own last d false stands t (Some z) y first later e = first e

there : (at : Handle → Option (TreeNode RenderObject)) (wanted : ℕ) (q : Option Handle) (f : Forest RenderObject) → Stands at q f → (d : LastNode) → drawn_in wanted (renders_in f) ≡ Some d → There at wanted
there at wanted q none stands d e = absurd (no_some (sym e))
there at wanted q (tree h v below rest) stands d e =
    one_there at wanted h v.number _ d (v.number == wanted)
    (ap (λ x. option_map (λ (o : RenderObject). o.number) (option_map (λ (n : TreeNode RenderObject). n.value) x)) stands.0) refl
    (drawn_in wanted (renders_in below)) (drawn_in wanted (renders_in rest)) (λ k. there at wanted (Some h) below stands.1 d k) (λ k. there at wanted q rest stands.2 d k) e

module _ (b : Blueprint) (old : Option PlainNode) (next : ℕ) (numbered : IfSome old (IsNumbered next)) (t : Tree RenderObject) (alone : StandsAlone t) (drawn : renders_in (root_tree t) ≡ drawn_of old) where
  from_drawn : (number : ℕ) (d : LastNode) → drawn_in number (drawn_of old) ≡ Some d → IsThereOrFree t next number
  from_drawn number d e =
      inl (there (node_at t) number None alone.tree.0 alone.tree.1.stands d
      (ap (λ (f : Forest RenderObject). drawn_in number (renders_in f)) (sym (root_forest t alone.tree.0 alone.alone alone.tree.1)) ∙ (ap (drawn_in number) drawn ∙ e)))

  one_source : (o : Option PlainNode) → old ≡ o → (number : ℕ) (widget : PlainWidget) (fields : List Value) (scroll : ℕ) → vanishes (render_role_of (look_of widget)) ≡ false
      → HadOrIsNew b o next number widget fields scroll → IsThereOrFree t next number
  one_source None is number widget fields scroll shows (inl had) = absurd had
  one_source (Some n) is number widget fields scroll shows (inl had) =
      from_drawn number _
      (ap (λ (o : Option PlainNode). drawn_in number (drawn_of o)) is
      ∙ was_drawn next n had.0 number widget (subst (λ (o : Option PlainNode). IfSome o (IsNumbered next)) is numbered) had.1 shows had.2.type)
  one_source o is number widget fields scroll shows (inr new) = inr new.number_free

  pub numbers_there : (made : PlainNode) (top : Render) → render_of made ≡ top ∷ [] → EachIs (HadOrIsNew b old next) made → EachNumber (IsThereOrFree t next) (render_root made)
  numbers_there made top is h =
      top_numbers (IsThereOrFree t next) (HadOrIsNew b old next) (λ number widget fields scroll shows k. one_source old refl number widget fields scroll shows k) made top is h
