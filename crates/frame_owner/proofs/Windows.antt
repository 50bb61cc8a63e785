-- The render nodes of a tree by their numbers, which differ; and the render node of a Viewport.
use Rattle.std.proofs.Common.{◌≡◌, ℕ, zero, suc, ◌+◌, Bool, true, false, cond, Option, Some, None, IfSome, IsSome, option_map, option_and_then, List, ◌∷◌, ◌++◌, refl, sym, ap, subst, ◌∙◌, inl, inr, arith}
use Rattle.std.proofs.lemmas.Bool.{false≢true}
use Rattle.std.proofs.lemmas.List.{append-nil}
use Rattle.std.specs.Option.{option_or, option_to_list}
use Rattle.fx_handles.specs.declared.Handle.{Handle}
use Rattle.fx_handles.specs.Handle.{same}
use Rattle.fx_handles.specs.HandleLaws.{same-true}
use Rattle.fx_handles.specs.ArenaLaws.{same_Some}
use Rattle.node_tree.specs.Forest.{TreeNode, Forest, count, In, Stands}
use Rattle.node_tree.specs.Forest.Forest.{none, tree}
use Rattle.node_tree.specs.Tree.{Tree, node_at as stored_at}
use Rattle.program_check.specs.Checked.{PlainChecked}
use Rattle.widget_model.specs.Plain.{PlainWidget, look_of}
use Rattle.widget_model.specs.View.{look_in, plain_of}
use Rattle.widget_model.specs.declared.widgets.Widget.{Widget}
use Rattle.plain_tree.specs.declared.role.RenderRole.{RenderRole}
use Rattle.plain_tree.specs.declared.role.RenderRole.TheVariants.{Composes, Shares, Places, Line, Pile, Lazy, Window, Plain}
use Rattle.plain_tree.specs.At.{numbers_of}
use Rattle.plain_tree.specs.Laws.{render_numbers_of, render_numbers_in, AllDiffer}
use Rattle.plain_tree.specs.Offsets.{of_window}
use Rattle.plain_tree.specs.PlainNode.{PlainNode, widget_of, scroll_of, nodes_of as listed}
use Rattle.plain_tree.specs.Projection.{projected_all, render_of, scroll_in}
use Rattle.plain_tree.specs.Render.{Render, render, Renders, no_renders, more_renders, renders_of as renders_listed}
use Rattle.plain_tree.specs.RenderRole.{render_role_of, vanishes, is_window}
use Rattle.plain_tree.proofs.Numbers.{IsIn, in_left, in_right, differs, apart, differ_left, differ_right}
use Rattle.build_form.specs.Numbered.{IsNumbered}
use Rattle.element_tree.specs.Element.{Element, element_at, made_count}
use Rattle.element_tree.specs.Element.{number_at as element_number}
use Rattle.global_keys.specs.Holders.{Registry}
use Rattle.render_tree.specs.Object.{RenderObject, object_look, is_viewport}
use Rattle.render_tree.specs.Plain.{lazy_children, renders_of}
use Rattle.render_tree.specs.Readings.{scroll_of as scroll_of_object}
use Rattle.render_tree.specs.Tree.{object_at}
use Rattle.render_sync.specs.Numbering.{NumbersDiffer}
use Rattle.screen_owner.specs.Last.{LastNode, drawn_at, drawn_in}
use Rattle.screen_owner.specs.Standing.{StandsAlone}
use Rattle.session_form.specs.Handlers.{node_in}
use Rattle.build_walk.specs.Kept.{node_over}
use Rattle.build_walk.specs.Renewing.{role_of, IsDrawn, Unless, AreDrawn}
use Rattle.build_walk.proofs.Standing.{live_element}
use Rattle.build_owner.specs.Standing.{StandsFor}
use Rattle.kept_builds.specs.Standing.{NumbersOnce}
use Rattle.kept_builds.proofs.Leaving.{found, no_number}
use Rattle.frame_owner.specs.Nodes.{window_at}
use Rattle.frame_owner.proofs.Finding.{at_own, at_other, part_of, drawn_part, drawn_in_tree}
use Rattle.frame_owner.proofs.Named.{none_beside}
use Rattle.frame_owner.proofs.Shown.{projects_one}

-- where a handle stands in a forest
pub in_parts : {T : Type 0} (k h : Handle) (y : T) (kids rest : Forest T) (P : Type 0) → In k (tree h y kids rest) → (h ≡ k → P) → (In k kids → P) → (In k rest → P) → P
in_parts {T} k h y kids rest P i own below later = by_same (same h k) refl
  where
    by_kids : (n : ℕ) → count k kids ≡ n → same h k ≡ false → P
    by_kids zero z s = later (omega (arith, i, z, ap (λ b. cond {A = ℕ} b 1 0) s))
    by_kids (suc n) z s = below (omega (arith, z))

    by_same : (b : Bool) → same h k ≡ b → P
    by_same true s = own (same-true h k s)
    by_same false s = by_kids (count k kids) refl s

-- ---- numbers that aren't there

mutual
  not_drawn : (w : ℕ) (r : Render) → (IsIn w (render_numbers_of r) → ⊥) → drawn_at w r ≡ None
  not_drawn w (render number look told scroll count children) away =
      at_other number w (Some (record { look = look; scroll = scroll })) (drawn_in w children) (λ e. away (inl (sym e))) ∙ none_drawn w children (λ h. away (inr h))

  none_drawn : (w : ℕ) (rs : Renders) → (IsIn w (render_numbers_in rs) → ⊥) → drawn_in w rs ≡ None
  none_drawn w no_renders away = refl
  none_drawn w (more_renders r rs) away =
      ap (λ (o : Option LastNode). option_or o (drawn_in w rs)) (not_drawn w r (λ h. away (in_left w (render_numbers_of r) (render_numbers_in rs) h)))
      ∙ none_drawn w rs (λ h. away (in_right w (render_numbers_of r) (render_numbers_in rs) h))

-- ---- what stands at a handle is found by its number

abbrev object_in : Option (TreeNode RenderObject) → Option RenderObject
object_in q = option_map (λ (n : TreeNode RenderObject). n.value) q

abbrev drawn_node : RenderObject → LastNode
drawn_node o = record { look = object_look o; scroll = o.scroll }

module _ (at : Handle → Option (TreeNode RenderObject)) where
  value_here : (p : Option Handle) (h : Handle) (v : RenderObject) (below rest : Forest RenderObject) (k : Handle) (o : RenderObject) → Stands at p (tree h v below rest) → object_in (at k) ≡ Some o → h ≡ k → v ≡ o
  value_here p h v below rest k o stands stored e = same_Some (sym (ap object_in stands.0) ∙ (ap (λ x. object_in (at x)) e ∙ stored))

  number_there : (p : Option Handle) (f : Forest RenderObject) (k : Handle) (o : RenderObject) → Stands at p f → object_in (at k) ≡ Some o → In k f → IsIn o.number (render_numbers_in (renders_of f))
  number_there p none k o stands stored i = absurd (omega (arith, i))
  number_there p (tree h v below rest) k o stands stored i =
      let own : List ℕ = v.number ∷ render_numbers_in (renders_of below) in
      let later : List ℕ = render_numbers_in (renders_of rest) in
      in_parts k h v below rest (IsIn o.number (own ++ later)) i
      (λ e. in_left o.number own later (inl (ap (λ (x : RenderObject). x.number) (sym (value_here p h v below rest k o stands stored e)))))
      (λ inside. in_left o.number own later (inr (number_there (Some h) below k o stands.1 stored inside)))
      (λ after. in_right o.number own later (number_there p rest k o stands.2 stored after))

  one_handle : (p : Option Handle) (f : Forest RenderObject) → Stands at p f → AllDiffer (render_numbers_in (renders_of f)) → (h k : Handle) (a b : RenderObject)
      → object_in (at h) ≡ Some a → object_in (at k) ≡ Some b → a.number ≡ b.number → In h f → In k f → h ≡ k
  one_handle p none stands d h k a b sa sb e i j = absurd (omega (arith, i))
  one_handle p (tree q v below rest) stands d h k a b sa sb e i j =
      let inside : List ℕ = render_numbers_in (renders_of below) in
      let own : List ℕ = v.number ∷ inside in
      let later : List ℕ = render_numbers_in (renders_of rest) in
      let first : AllDiffer own = differ_left own later d in
      let number : RenderObject → ℕ = λ x. x.number in
      in_parts h q v below rest (h ≡ k) i
      (λ eh.
      let is_a : v.number ≡ a.number = ap number (value_here p q v below rest h a stands sa eh) in
      in_parts k q v below rest (h ≡ k) j (λ ek. sym eh ∙ ek)
      (λ ik. absurd (differs v.number b.number inside first.0 (number_there (Some q) below k b stands.1 sb ik) (is_a ∙ e)))
      (λ lk. absurd (apart b.number own later d (inl (sym (is_a ∙ e))) (number_there p rest k b stands.2 sb lk))))
      (λ ih.
      let there : IsIn a.number inside = number_there (Some q) below h a stands.1 sa ih in
      in_parts k q v below rest (h ≡ k) j
      (λ ek. absurd (differs v.number a.number inside first.0 there (ap number (value_here p q v below rest k b stands sb ek) ∙ sym e)))
      (λ ik. one_handle (Some q) below stands.1 first.1 h k a b sa sb e ih ik)
      (λ lk. absurd (apart b.number own later d (inr (subst (λ n. IsIn n inside) e there)) (number_there p rest k b stands.2 sb lk))))
      (λ lh.
      let there : IsIn a.number later = number_there p rest h a stands.2 sa lh in
      in_parts k q v below rest (h ≡ k) j
      (λ ek. absurd (apart a.number own later d (inl (e ∙ ap number (sym (value_here p q v below rest k b stands sb ek)))) there))
      (λ ik. absurd (apart a.number own later d (inr (subst (λ n. IsIn n inside) (sym e) (number_there (Some q) below k b stands.1 sb ik))) there))
      (λ lk. one_handle p rest stands.2 (differ_right own later d) h k a b sa sb e lh lk))

  object_drawn : (p : Option Handle) (f : Forest RenderObject) → Stands at p f → AllDiffer (render_numbers_in (renders_of f)) → (k : Handle) (o : RenderObject) → object_in (at k) ≡ Some o → In k f
      → drawn_in o.number (renders_of f) ≡ Some (drawn_node o)
  object_drawn p none stands d k o stored i = absurd (omega (arith, i))
  object_drawn p (tree h v below rest) stands d k o stored i =
      let inside : List ℕ = render_numbers_in (renders_of below) in
      let own : List ℕ = v.number ∷ inside in
      let later : List ℕ = render_numbers_in (renders_of rest) in
      let first : AllDiffer own = differ_left own later d in
      let next : Option LastNode = drawn_in o.number (renders_of rest) in
      let inner : Option LastNode = drawn_in o.number (renders_of below) in
      let among : Option LastNode → Option LastNode = λ x. option_or x next in
      in_parts k h v below rest (drawn_in o.number (renders_of (tree h v below rest)) ≡ Some (drawn_node o)) i
      (λ e.
      let is : v ≡ o = value_here p h v below rest k o stands stored e in
      ap among (at_own v.number o.number (Some (drawn_node v)) inner (ap (λ (x : RenderObject). x.number) is)) ∙ ap (λ (x : RenderObject). Some (drawn_node x)) is)
      (λ ik.
      ap among (at_other v.number o.number (Some (drawn_node v)) inner (differs v.number o.number inside first.0 (number_there (Some h) below k o stands.1 stored ik))
      ∙ object_drawn (Some h) below stands.1 first.1 k o stored ik))
      (λ lk.
      ap among (not_drawn o.number (render v.number (object_look v) v.parent_data v.scroll (lazy_children v) (renders_of below)) (λ x. apart o.number own later d x (number_there p rest k o stands.2 stored lk)))
      ∙ object_drawn p rest stands.2 (differ_right own later d) k o stored lk)

-- ---- the render node of an element

abbrev value_in : Option (TreeNode Element) → Option Element
value_in q = option_map (λ (n : TreeNode Element). n.value) q

element_drawn : (stored : Handle → Option (TreeNode Element)) (at : Handle → Option RenderObject) (scrolled : ℕ → ℕ) (p : Option Handle) (f : Forest Element) → Stands stored p f → AreDrawn at scrolled f
    → (h : Handle) (e : Element) → value_in (stored h) ≡ Some e → In h f → Unless (vanishes (role_of e)) (IsDrawn at (scrolled e.number) e)
element_drawn stored at scrolled p none stands drawn h e is i = absurd (omega (arith, i))
element_drawn stored at scrolled p (tree k v kids rest) stands drawn h e is i =
    in_parts h k v kids rest (Unless (vanishes (role_of e)) (IsDrawn at (scrolled e.number) e)) i
    (λ own. subst (λ (x : Element). Unless (vanishes (role_of x)) (IsDrawn at (scrolled x.number) x)) (same_Some (sym (ap value_in stands.0) ∙ (ap (λ x. value_in (stored x)) own ∙ is))) drawn.0)
    (λ inside. element_drawn stored at scrolled (Some k) kids stands.1 drawn.1 h e is inside)
    (λ after. element_drawn stored at scrolled p rest stands.2 drawn.2 h e is after)

stays : (role : RenderRole) → is_window role ≡ true → vanishes role ≡ false
stays Window e = refl
stays Composes e = absurd (false≢true e)
stays (Shares flex tight) e = absurd (false≢true e)
stays (Places placed) e = absurd (false≢true e)
stays Line e = absurd (false≢true e)
stays Pile e = absurd (false≢true e)
stays Lazy e = absurd (false≢true e)
stays Plain e = absurd (false≢true e)

window_scroll : (role : RenderRole) (scroll : ℕ) → is_window role ≡ true → scroll_in role scroll ≡ scroll
window_scroll Window scroll e = refl
window_scroll Composes scroll e = absurd (false≢true e)
window_scroll (Shares flex tight) scroll e = absurd (false≢true e)
window_scroll (Places placed) scroll e = absurd (false≢true e)
window_scroll Line scroll e = absurd (false≢true e)
window_scroll Pile scroll e = absurd (false≢true e)
window_scroll Lazy scroll e = absurd (false≢true e)
window_scroll Plain scroll e = absurd (false≢true e)

window_some : (role : RenderRole) (scroll : ℕ) → is_window role ≡ true → of_window role scroll ≡ Some scroll
window_some Window scroll e = refl
window_some Composes scroll e = absurd (false≢true e)
window_some (Shares flex tight) scroll e = absurd (false≢true e)
window_some (Places placed) scroll e = absurd (false≢true e)
window_some Line scroll e = absurd (false≢true e)
window_some Pile scroll e = absurd (false≢true e)
window_some Lazy scroll e = absurd (false≢true e)
window_some Plain scroll e = absurd (false≢true e)

other_none : (role : RenderRole) (scroll : ℕ) → is_window role ≡ false → of_window role scroll ≡ None
other_none Window scroll e = absurd (false≢true (sym e))
other_none Composes scroll e = refl
other_none (Shares flex tight) scroll e = refl
other_none (Places placed) scroll e = refl
other_none Line scroll e = refl
other_none Pile scroll e = refl
other_none Lazy scroll e = refl
other_none Plain scroll e = refl

certain : (b : Bool) (P : Type 0) → b ≡ false → Unless b P → P
certain true P e u = absurd (false≢true (sym e))
certain false P e u = u

same_look : (b : Bool) (d x : LastNode) → b ≡ false → Some d ≡ cond b None (Some x) → d.look ≡ x.look
same_look true d x e is = absurd (false≢true (sym e))
same_look false d x e is = ap (λ (n : LastNode). n.look) (same_Some is)

-- ---- what stands

abbrev pub KeepsApart : Type 0
KeepsApart = (n : PlainNode) → AllDiffer (numbers_of n) → AllDiffer (render_numbers_in (renders_listed (render_of n)))

projection_apart : KeepsApart → (next : ℕ) (tree : Option PlainNode) → IfSome tree (IsNumbered next) → AllDiffer (render_numbers_in (renders_listed (projected_all Plain None (listed (option_to_list tree)))))
unfolding projected_all
projection_apart law next None n = tt
projection_apart law next (Some x) n = subst (λ rs. AllDiffer (render_numbers_in (renders_listed rs))) (sym (append-nil (render_of x))) (law x n.differ)

drawn_projected : (w next : ℕ) (tree : Option PlainNode) → IfSome tree (IsNumbered next)
    → drawn_in w (renders_listed (projected_all Plain None (listed (option_to_list tree)))) ≡ option_and_then drawn_part (node_in tree w)
unfolding projected_all
drawn_projected w next None n = refl
drawn_projected w next (Some x) n = ap (drawn_in w) (projects_one x) ∙ drawn_in_tree w Plain None x n.differ

-- a node with a number, and a live one
numbered_object : (x : Option RenderObject) (n : ℕ) → option_map (λ (o : RenderObject). o.number) x ≡ Some n → (o : RenderObject) × (x ≡ Some o) × (o.number ≡ n)
numbered_object None n e = absurd (cc)
numbered_object (Some o) n e = (o, refl, same_Some e)

live_object : (q : Option (TreeNode RenderObject)) (o : RenderObject) → object_in q ≡ Some o → IsSome q
live_object None o e = absurd (cc)
live_object (Some n) o e = refl

-- the render node of an element that is a Viewport
pub record WindowNode (r : Tree RenderObject) (scroll : ℕ) (e : Element) : Type 0 where
  pub handle : Handle
  pub named : e.render ≡ Some handle
  pub object : RenderObject
  pub there : object_at r handle ≡ Some object
  pub number_is : object.number ≡ e.number
  pub scroll_is : object.scroll ≡ scroll
  pub view : is_viewport object ≡ true

-- the render node of an element that has one
pub record ElementNode (r : Tree RenderObject) (e : Element) : Type 0 where
  pub handle : Handle
  pub named : e.render ≡ Some handle
  pub object : RenderObject
  pub there : object_at r handle ≡ Some object
  pub number_is : object.number ≡ e.number
  pub look_is : object_look object ≡ look_of e.widget

module _ (law : KeepsApart) (c : PlainChecked) (marks : List ℕ) (old : Option PlainNode) (scrolled : ℕ → ℕ) (t : Tree Element) (r : Tree RenderObject) (g : Registry) (h : StandsFor c marks old scrolled t r g) where
  numbers_apart : AllDiffer (render_numbers_in (renders_of h.renders.objects))
  numbers_apart = subst (λ rs. AllDiffer (render_numbers_in rs)) (sym h.renders.projected) (projection_apart law (made_count t + 1) old h.elements.numbered)

  pub numbers_differ : NumbersDiffer r
  numbers_differ n a b at_a at_b =
      let x = numbered_object (object_at r a) n at_a in
      let y = numbered_object (object_at r b) n at_b in
      one_handle (stored_at r) None h.renders.objects h.renders.is.stands numbers_apart a b x.0 y.0 x.1 y.1 (x.2 ∙ sym y.2)
      (h.renders.is.whole a (live_object (stored_at r a) x.0 x.1)) (h.renders.is.whole b (live_object (stored_at r b) y.0 y.1))

  pub stands_alone : StandsAlone r
  stands_alone = record { tree = (h.renders.objects, h.renders.is); alone = none_beside c marks old scrolled t r g h; differ = numbers_differ }

  -- no Viewport has a number that no element has
  pub unfound : (number : ℕ) → ((k : Handle) → element_number t k ≡ Some number → ⊥) → window_at old number ≡ None
  unfound number none_has =
      ap (option_and_then (λ (n : PlainNode). of_window (render_role_of (look_of (widget_of n))) (scroll_of n))) (no_number c marks scrolled t old number h.elements none_has)

  module _ (k : Handle) (e : Element) (stored : element_at t k ≡ Some e) (once : NumbersOnce t) where
    in_forest : In k h.elements.forest
    in_forest = h.elements.is.whole k (live_element t k e stored)

    -- the node with its number is found
    node_found : (kids : Forest Element) × (node_in old e.number ≡ Some (node_over scrolled e kids))
    node_found = found c marks scrolled t k e stored once old h.elements

    pub window_is : window_at old e.number ≡ of_window (role_of e) (scrolled e.number)
    window_is = ap (option_and_then (λ (n : PlainNode). of_window (render_role_of (look_of (widget_of n))) (scroll_of n))) node_found.1

    pub is_none : is_window (role_of e) ≡ false → window_at old e.number ≡ None
    is_none other = window_is ∙ other_none (role_of e) (scrolled e.number) other

    pub is_some : is_window (role_of e) ≡ true → window_at old e.number ≡ Some (scrolled e.number)
    is_some view = window_is ∙ window_some (role_of e) (scrolled e.number) view

    pub drawn_here : (drawn : vanishes (role_of e) ≡ false) → IsDrawn (object_at r) (scrolled e.number) e
    drawn_here drawn =
        certain (vanishes (role_of e)) (IsDrawn (object_at r) (scrolled e.number) e) drawn
        (element_drawn (stored_at t) (object_at r) scrolled None h.elements.forest h.elements.is.stands h.renders.drawn k e stored in_forest)

    pub element_node : vanishes (role_of e) ≡ false → ElementNode r e
    element_node has_node =
        let d = drawn_here has_node in
        let o = d.object in
        let drawn : drawn_in e.number (renders_of h.renders.objects) ≡ Some (drawn_node o) =
        ap (λ n. drawn_in n (renders_of h.renders.objects)) (sym d.number)
        ∙ object_drawn (stored_at r) None h.renders.objects h.renders.is.stands numbers_apart d.handle o d.stored (h.renders.is.whole d.handle (live_object (stored_at r d.handle) o d.stored)) in
        let known : drawn_in e.number (renders_of h.renders.objects) ≡ part_of (role_of e) e.widget (scrolled e.number) =
        ap (drawn_in e.number) h.renders.projected ∙ (drawn_projected e.number (made_count t + 1) old h.elements.numbered ∙ ap (option_and_then drawn_part) node_found.1) in
        record {
          handle = d.handle;
          named = d.named;
          object = o;
          there = d.stored;
          number_is = d.number;
          look_is = same_look (vanishes (role_of e)) (drawn_node o) (record { look = look_of e.widget; scroll = scroll_in (role_of e) (scrolled e.number) }) has_node (sym drawn ∙ known);
        }

    pub window_node : is_window (role_of e) ≡ true → WindowNode r (scrolled e.number) e
    unfolding element_node drawn_here
    window_node view =
        let has_node = stays (role_of e) view in
        let n = element_node has_node in
        record {
          handle = n.handle;
          named = n.named;
          object = n.object;
          there = n.there;
          number_is = n.number_is;
          scroll_is = (drawn_here has_node).scrolled ∙ window_scroll (role_of e) (scrolled e.number) view;
          view = ap (λ l. is_window (render_role_of l)) n.look_is ∙ view;
        }

-- ---- as the calls answer

pub none_some : {A : Type 0} {a : A} → None ≡ Some a → ⊥
none_some e = cc

-- whether an element is a Viewport, by the widget that is lent
pub window_kind : (e : Element) (w lent : Widget) (o : Option PlainWidget) (answer : Bool) → o ≡ Some (plain_of w) → o ≡ Some e.widget → lent ≡ w → answer ≡ is_window (render_role_of (look_in lent.kind)) → is_window (role_of e) ≡ answer
window_kind e w lent o answer said is same answered =
    ap (λ (x : PlainWidget). is_window (render_role_of (look_of x))) (same_Some (sym is ∙ said)) ∙ (ap (λ (x : Widget). is_window (render_role_of (look_in x.kind))) (sym same) ∙ sym answered)

-- a node that is a Viewport is scrolled
pub viewport_scrolls : (o : RenderObject) → is_viewport o ≡ true → scroll_of_object o ≡ Some o.scroll
viewport_scrolls o view = ap (λ b. cond {A = Option ℕ} b (Some o.scroll) None) view

-- what is found of a Viewport in some render nodes
abbrev pub AtWindow : Tree RenderObject → ℕ → Option Handle → ℕ → Type 0
AtWindow nodes number found offset = (j : Handle) × (o : RenderObject) × (found ≡ Some j) × (object_at nodes j ≡ Some o) × (o.number ≡ number) × (o.scroll ≡ offset)

pub scroll_read : (nodes : Tree RenderObject) (number : ℕ) (found : Option Handle) (k : Handle) (window answer : Option ℕ) → found ≡ Some k
    → ((o : RenderObject) × (object_at nodes k ≡ Some o) × (is_viewport o ≡ true)) → ((offset : ℕ) → window ≡ Some offset → AtWindow nodes number found offset) → (window ≡ None → found ≡ None)
    → answer ≡ option_and_then scroll_of_object (object_at nodes k) → answer ≡ window
scroll_read nodes number found k window answer is live there missing read = by_window window refl
  where
    same_scroll : (offset : ℕ) → AtWindow nodes number found offset → live.0.scroll ≡ offset
    same_scroll offset at =
        ap (λ (o : RenderObject). o.scroll) (same_Some (sym live.1 ∙ (ap (object_at nodes) (same_Some (sym is ∙ at.2)) ∙ at.3))) ∙ at.5

    by_window : (w : Option ℕ) → window ≡ w → answer ≡ window
    by_window None e = absurd (none_some (sym (missing e) ∙ is))
    by_window (Some offset) e =
        read ∙ (ap (option_and_then scroll_of_object) live.1 ∙ (viewport_scrolls live.0 live.2 ∙ (ap (λ n. Some n) (same_scroll offset (there offset e)) ∙ sym e)))

pub no_window : (nodes : Tree RenderObject) (number : ℕ) (found : Option Handle) (window : Option ℕ) → found ≡ None → ((offset : ℕ) → window ≡ Some offset → AtWindow nodes number found offset) → None ≡ window
no_window nodes number found None is there = refl
no_window nodes number found (Some offset) is there = absurd (none_some (sym is ∙ (there offset refl).2))
