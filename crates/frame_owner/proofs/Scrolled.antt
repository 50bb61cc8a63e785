-- The render nodes of a tree of which one Viewport is scrolled.
use Rattle.std.proofs.Common.{◌≡◌, ℕ, ◌+◌, ◌==◌, Bool, true, false, cond, Option, Some, None, IfSome, option_map, option_and_then, List, [], ◌∷◌, ◌++◌, map, refl, sym, ap, ◌∙◌, inl, inr, eqb-true, eq-eqb}
use Rattle.std.proofs.lemmas.Bool.{cases_Bool, false≢true}
use Rattle.std.proofs.lemmas.List.{append-nil}
use Rattle.std.specs.Option.{option_to_list}
use Rattle.fx_handles.specs.declared.Handle.{Handle}
use Rattle.fx_handles.specs.Handle.{same}
use Rattle.fx_handles.specs.HandleLaws.{same-true, same-false}
use Rattle.fx_handles.specs.ArenaLaws.{same_Some}
use Rattle.node_tree.specs.Forest.{TreeNode, Forest, Stands, set_value}
use Rattle.node_tree.specs.Forest.Forest.{none, tree}
use Rattle.node_tree.specs.Tree.{Tree, IsTree, node_at}
use Rattle.program_check.specs.Checked.{PlainChecked}
use Rattle.element_tree.specs.Element.{Element, made_count}
use Rattle.global_keys.specs.Holders.{Registry}
use Rattle.widget_model.specs.Plain.{look_of}
use Rattle.plain_tree.specs.declared.role.RenderRole.{RenderRole}
use Rattle.plain_tree.specs.declared.role.RenderRole.TheVariants.{Composes, Shares, Places, Line, Pile, Lazy, Window, Plain}
use Rattle.plain_tree.specs.At.{changed_at, having_scroll}
use Rattle.plain_tree.specs.Offsets.{of_window, rescrolled, scrolled_by}
use Rattle.plain_tree.specs.PlainNode.{PlainNode, widget_of, scroll_of, nodes_of as listed}
use Rattle.plain_tree.specs.Projection.{projected_all, render_of}
use Rattle.plain_tree.specs.Render.{Render, render, Renders, more_renders, renders_of as renders_listed}
use Rattle.plain_tree.specs.RenderRole.{render_role_of, is_window}
use Rattle.build_form.specs.Numbered.{IsNumbered}
use Rattle.layout_form.specs.Corrected.{render_scrolled_by, renders_scrolled_by}
use Rattle.tree_marks.specs.Marking.{at_top}
use Rattle.tree_marks.specs.Marks.{sweep}
use Rattle.render_tree.specs.Edits.{Writes, with_scroll}
use Rattle.render_tree.specs.Marked.{SetsMarks}
use Rattle.render_tree.specs.Marks.{layout_marks}
use Rattle.render_tree.specs.Object.{RenderObject, object_look, is_viewport}
use Rattle.render_tree.specs.Plain.{lazy_children, renders_of, root_tree}
use Rattle.render_tree.specs.Tree.{object_at}
use Rattle.render_sync.specs.Numbering.{NumbersDiffer}
use Rattle.screen_owner.specs.Last.{only_at}
use Rattle.screen_owner.proofs.Bringing.{renders_layout}
use Rattle.screen_owner.proofs.Showing.{root_forest}
use Rattle.session_form.specs.Handlers.{node_in}
use Rattle.kept_builds.specs.Projected.{HasProjection}
use Rattle.build_owner.specs.Standing.{StandsFor}
use Rattle.frame_owner.specs.Nodes.{window_at}
use Rattle.frame_owner.proofs.Finding.{by_nothing, of_a_window, scrolled_one}
use Rattle.frame_owner.proofs.Named.{none_beside}
use Rattle.frame_owner.proofs.Shown.{projects_one}

-- ---- one node

not_window : (role : RenderRole) (offset : Option ℕ) (before : ℕ) → is_window role ≡ false → rescrolled role offset before ≡ before
not_window Window offset before e = absurd (false≢true (sym e))
not_window Composes offset before e = refl
not_window (Shares flex tight) offset before e = refl
not_window (Places placed) offset before e = refl
not_window Line offset before e = refl
not_window Pile offset before e = refl
not_window Lazy offset before e = refl
not_window Plain offset before e = refl

-- how far a node stands scrolled after it
abbrev offset_after : ℕ → ℕ → RenderObject → ℕ
offset_after number to o = rescrolled (render_role_of (object_look o)) (only_at number to o.number) o.scroll

stays : (number to : ℕ) (o : RenderObject) → (o.number ≡ number → ⊥) → offset_after number to o ≡ o.scroll
stays number to o other = by_test (o.number == number) refl
  where
    by_test : (b : Bool) → (o.number == number) ≡ b → offset_after number to o ≡ o.scroll
    by_test true e = absurd (other (eqb-true o.number number e))
    by_test false e =
        ap (λ (b : Bool). rescrolled (render_role_of (object_look o)) (cond {A = Option ℕ} b (Some to) None) o.scroll) e
        ∙ by_nothing (render_role_of (object_look o)) o.scroll

moves : (number to : ℕ) (o : RenderObject) → o.number ≡ number → is_viewport o ≡ true → offset_after number to o ≡ to
moves number to o is view =
    ap (λ (b : Bool). rescrolled (render_role_of (object_look o)) (cond {A = Option ℕ} b (Some to) None) o.scroll) (eq-eqb o.number number is)
    ∙ of_a_window (render_role_of (object_look o)) to o.scroll view

-- ---- a forest

abbrev object_in : (Handle → Option (TreeNode RenderObject)) → Handle → Option RenderObject
object_in at k = option_map (λ (n : TreeNode RenderObject). n.value) (at k)

abbrev drawn_with : RenderObject → Renders → Renders → Renders
drawn_with w below rest = more_renders (render w.number (object_look w) w.parent_data w.scroll (lazy_children w) below) rest

module _ (at : Handle → Option (TreeNode RenderObject)) (number to : ℕ) (k : Handle) (o : RenderObject) (there : object_in at k ≡ Some o) (is : o.number ≡ number) (view : is_viewport o ≡ true)
    (others : (h : Handle) (v : RenderObject) → object_in at h ≡ Some v → v.number ≡ number → h ≡ k) where
  set_here : (h : Handle) (v : RenderObject) → object_in at h ≡ Some v → (below rest : Renders)
      → drawn_with (cond (same h k) (with_scroll to o) v) below rest ≡ more_renders (render v.number (object_look v) v.parent_data (offset_after number to v) (lazy_children v) below) rest
  set_here h v here below rest = elim (cases_Bool (same h k)) [
    | inl s ↦
        let value : v ≡ o = same_Some (sym here ∙ (ap (object_in at) (same-true h k s) ∙ there)) in
        ap (λ (b : Bool). drawn_with (cond b (with_scroll to o) v) below rest) s
        ∙ (ap (λ (n : ℕ). more_renders (render o.number (object_look o) o.parent_data n (lazy_children o) below) rest) (sym (moves number to o is view))
        ∙ ap (λ (x : RenderObject). more_renders (render x.number (object_look x) x.parent_data (offset_after number to x) (lazy_children x) below) rest) (sym value))
    | inr s ↦
        ap (λ (b : Bool). drawn_with (cond b (with_scroll to o) v) below rest) s
        ∙ ap (λ (n : ℕ). more_renders (render v.number (object_look v) v.parent_data n (lazy_children v) below) rest)
        (sym (stays number to v (λ number_is. same-false h k s (others h v here number_is))))
  ]

  pub one_set : (q : Option Handle) (f : Forest RenderObject) → Stands at q f → renders_of (set_value k (with_scroll to o) f) ≡ renders_scrolled_by (only_at number to) (renders_of f)
  one_set q none stands = refl
  one_set q (tree h v below rest) stands =
      (λ i. drawn_with (cond (same h k) (with_scroll to o) v) (one_set (Some h) below stands.1 i) (one_set q rest stands.2 i))
      ∙ set_here h v (ap (option_map (λ (n : TreeNode RenderObject). n.value)) stands.0) (renders_scrolled_by (only_at number to) (renders_of below)) (renders_scrolled_by (only_at number to) (renders_of rest))

-- ---- a tree of widgets

abbrev pub TakesOffsets : Type 0
TakesOffsets = (offset : ℕ → Option ℕ) (n : PlainNode) → render_of (scrolled_by offset n) ≡ map (render_scrolled_by offset) (render_of n)

renders_map : (f : ℕ → Option ℕ) (rs : List Render) → renders_listed (map (render_scrolled_by f) rs) ≡ renders_scrolled_by f (renders_listed rs)
renders_map f [] = refl
renders_map f (r ∷ rs) = ap (more_renders (render_scrolled_by f r)) (renders_map f rs)

-- where there is a Viewport, its node is one
windows : (role : RenderRole) (scroll before : ℕ) → of_window role scroll ≡ Some before → is_window role ≡ true
windows Window scroll before e = refl
windows Composes scroll before e = absurd (cc)
windows (Shares flex tight) scroll before e = absurd (cc)
windows (Places placed) scroll before e = absurd (cc)
windows Line scroll before e = absurd (cc)
windows Pile scroll before e = absurd (cc)
windows Lazy scroll before e = absurd (cc)
windows Plain scroll before e = absurd (cc)

window_there : (x : Option PlainNode) (before : ℕ) → option_and_then (λ (n : PlainNode). of_window (render_role_of (look_of (widget_of n))) (scroll_of n)) x ≡ Some before
    → (m : PlainNode) × (x ≡ Some m) × (is_window (render_role_of (look_of (widget_of m))) ≡ true)
window_there None before e = absurd (cc)
window_there (Some m) before e = (m, refl, windows (render_role_of (look_of (widget_of m))) (scroll_of m) before e)

projection_scrolled : TakesOffsets → (number to before next : ℕ) (old : Option PlainNode) → IfSome old (IsNumbered next) → window_at old number ≡ Some before
    → renders_scrolled_by (only_at number to) (renders_listed (projected_all Plain None (listed (option_to_list old))))
    ≡ renders_listed (projected_all Plain None (listed (option_to_list (option_map (changed_at (having_scroll to) number) old))))
projection_scrolled law number to before next None numbered view = absurd (cc)
projection_scrolled law number to before next (Some n) numbered view =
    let f : ℕ → Option ℕ = only_at number to in
    let m = window_there (node_in (Some n) number) before view in
    ap (renders_scrolled_by f) (projects_one n)
    ∙ (sym (renders_map f (render_of n))
    ∙ (ap renders_listed (sym (law f n))
    ∙ (sym (projects_one (scrolled_by f n)) ∙ ap (λ (x : PlainNode). renders_listed (projected_all Plain None (listed (option_to_list (Some x))))) (sym (scrolled_one number to m.0 m.2 n numbered.differ m.1)))))

-- ---- what stands

pub scrolled_projection : TakesOffsets → (c : PlainChecked) (marks : List ℕ) (old : Option PlainNode) (scrolled : ℕ → ℕ) (t : Tree Element) (r mid new : Tree RenderObject) (g : Registry)
    (h : StandsFor c marks old scrolled t r g) → NumbersDiffer r → (number to before : ℕ) → window_at old number ≡ Some before → (k : Handle) (o : RenderObject) → object_at r k ≡ Some o → o.number ≡ number
    → is_viewport o ≡ true → Writes r mid k (with_scroll to o) → SetsMarks layout_marks true (k ∷ []) mid new → IsTree new → HasProjection (option_map (changed_at (having_scroll to) number) old) new
scrolled_projection law c marks old scrolled t r mid new g h differ number to before view k o there is is_view writes sets new_is =
    let objects = set_value k (with_scroll to o) h.renders.objects in
    let alone : new.inactive ≡ [] = sets.inactive ∙ (writes.inactive ∙ none_beside c marks old scrolled t r g h) in
    let now = sets.plain objects (writes.plain h.renders.objects h.renders.is) in
    record {
      objects = sweep layout_marks true (k ∷ []) at_top objects;
      is = now;
      root = sym (append-nil (option_to_list new.root)) ∙ (ap (λ hs. option_to_list new.root ++ hs) (sym alone) ∙ now.tops);
      projected = renders_layout true (k ∷ []) at_top objects
          ∙ (one_set (node_at r) number to k o there is is_view
          (λ q v here number_is. differ number q k (ap (option_map (λ (x : RenderObject). x.number)) here ∙ ap (λ n. Some n) number_is) (ap (option_map (λ (x : RenderObject). x.number)) there ∙ ap (λ n. Some n) is))
          None h.renders.objects h.renders.is.stands
          ∙ (ap (renders_scrolled_by (only_at number to)) h.renders.projected ∙ projection_scrolled law number to before (made_count t + 1) old h.elements.numbered view));
    }

-- the node that was found has the number
pub number_chosen : (r : Tree RenderObject) (k : Handle) (result : Option Handle) (number offset : ℕ) → result ≡ Some k → (live : (o : RenderObject) × (object_at r k ≡ Some o) × (is_viewport o ≡ true))
    → ((j : Handle) × (o : RenderObject) × (result ≡ Some j) × (object_at r j ≡ Some o) × (o.number ≡ number) × (o.scroll ≡ offset)) → live.0.number ≡ number
number_chosen r k result number offset is live there =
    ap (λ (o : RenderObject). o.number) (same_Some (sym live.1 ∙ (ap (object_at r) (same_Some (sym is ∙ there.2)) ∙ there.3))) ∙ there.4

-- the render nodes that stand are those of before, of which the Viewport is scrolled
pub root_scrolled : (r mid new : Tree RenderObject) → r.inactive ≡ [] → (is : IsTree r) → NumbersDiffer r → (number to : ℕ) (k : Handle) (o : RenderObject) → object_at r k ≡ Some o → o.number ≡ number
    → is_viewport o ≡ true → Writes r mid k (with_scroll to o) → SetsMarks layout_marks true (k ∷ []) mid new
    → renders_of (root_tree new) ≡ renders_scrolled_by (only_at number to) (renders_of (root_tree r))
root_scrolled r mid new alone is differ number to k o there number_is is_view writes sets =
    let objects = set_value k (with_scroll to o) is.0 in
    ap renders_of (root_forest new (sweep layout_marks true (k ∷ []) at_top objects) (sets.inactive ∙ (writes.inactive ∙ alone)) (sets.plain objects (writes.plain is.0 is.1)))
    ∙ (renders_layout true (k ∷ []) at_top objects
    ∙ (one_set (node_at r) number to k o there number_is is_view
    (λ q v here same_number. differ number q k (ap (option_map (λ (x : RenderObject). x.number)) here ∙ ap (λ n. Some n) same_number) (ap (option_map (λ (x : RenderObject). x.number)) there ∙ ap (λ n. Some n) number_is))
    None is.0 is.1.stands
    ∙ ap (λ f. renders_scrolled_by (only_at number to) (renders_of f)) (sym (root_forest r is.0 alone is.1))))
