-- What a node gives to the tree that is laid out, from what the code's steps gave.
use Rattle.std.proofs.Common.{◌≡◌, ℕ, ◌+◌, ◌<◌, ◌≤◌, Bool, true, false, Option, Some, None, List, [], ◌∷◌, ◌++◌, length, drop, get_or, refl, sym, ap, ◌∙◌, if◌then◌else◌}
use Rattle.std.proofs.lemmas.List.{append_assoc, append-nil, at_drop_more, at_drop_all}
use Rattle.fx_expr.specs.declared.values.Value.{Value}
use Rattle.widget_model.specs.Look.{Look}
use Rattle.widget_model.specs.declared.widgets.Widget.{Widget}
use Rattle.widget_model.specs.Plain.{PlainWidget, widgets_of, list_of, look_of, children_of as child_widgets}
use Rattle.widget_model.specs.PlainLaws.{list_of-widgets_of}
use Rattle.widget_model.specs.View.{plain_of, look_in}
use Rattle.plain_tree.specs.declared.render.ParentData.{ParentData}
use Rattle.plain_tree.specs.declared.role.RenderRole.{RenderRole}
use Rattle.plain_tree.specs.PlainNode.{PlainNode, node, nodes_of}
use Rattle.plain_tree.specs.RenderRole.{render_role_of, vanishes}
use Rattle.plain_tree.specs.Render.{Render, render, renders_of, lazy_count}
use Rattle.plain_tree.specs.Projection.{projected, projected_all, told_at, told_by, scroll_in}

-- the number of child widgets of a widget of the program
pub counted : (v w : Widget) → v ≡ w → lazy_count (render_role_of (look_in v.kind)) v.children ≡ lazy_count (render_role_of (look_in w.kind)) (child_widgets (plain_of w))
counted v w same =
    ap (λ (u : Widget). lazy_count (render_role_of (look_in u.kind)) u.children) same
    ∙ ap (lazy_count (render_role_of (look_in w.kind))) (sym (list_of-widgets_of w.children))

module _ (above : RenderRole) (told : Option ParentData) (number : ℕ) (w : PlainWidget) (fields : List Value) (scroll index : ℕ) (ns : List PlainNode)
    (n : PlainNode) (role : RenderRole) (given : ParentData) (gone : Bool)
    (is_node : node number w fields scroll index (nodes_of ns) ≡ n) (is_role : role ≡ render_role_of (look_of w)) (is_given : given ≡ told_at above told index)
    (is_gone : gone ≡ vanishes role) where
  -- the words of a node that is seen
  abbrev seen : RenderRole → ParentData → Bool → List Render
  seen role given gone =
      if gone
      then projected_all above (Some (told_by above role given)) (nodes_of ns)
      else (render number (look_of w) given (scroll_in role scroll) (lazy_count role (child_widgets w)) (renders_of (projected_all role None (nodes_of ns))) ∷ [])

  projected-is : projected above told (node number w fields scroll index (nodes_of ns)) ≡ seen (render_role_of (look_of w)) (told_at above told index) (vanishes (render_role_of (look_of w)))
  unfolding projected
  projected-is = refl

  projected-seen : seen role given gone ≡ projected above told n
  projected-seen =
      (λ i. seen (is_role i) (is_given i) ((is_gone ∙ ap vanishes is_role) i))
      ∙ sym projected-is
      ∙ ap (projected above told) is_node

  -- a node that vanishes gives what its children give
  pub gives_children : gone ≡ true → (next : ParentData) → next ≡ told_by above role given → (old new : List Render)
      → new ≡ old ++ projected_all above (Some next) (nodes_of ns) → new ≡ old ++ projected above told n
  gives_children is_true next is_next old new is_new =
      is_new
      ∙ ap (λ d. old ++ projected_all above (Some d) (nodes_of ns)) is_next
      ∙ ap (λ l. old ++ l) (ap (seen role given) (sym is_true) ∙ projected-seen)

  -- another gives itself, with what its children give below it
  pub gives_itself : gone ≡ false → (below : List Render) → below ≡ [] ++ projected_all role None (nodes_of ns) → (look : Look) → look ≡ look_of w
      → (count : ℕ) → count ≡ lazy_count (render_role_of (look_of w)) (child_widgets w) → (s : ℕ) → s ≡ scroll_in role scroll
      → (old new : List Render) → new ≡ old ++ render number look given s count (renders_of below) ∷ []
      → new ≡ old ++ projected above told n
  gives_itself is_false below is_below look is_look count is_count s is_s old new is_new =
      is_new
      ∙ ap (λ r. old ++ r ∷ [])
      (λ i. render number (is_look i) given (is_s i) ((is_count ∙ ap (λ r. lazy_count r (child_widgets w)) (sym is_role)) i) (renders_of (is_below i)))
      ∙ ap (λ l. old ++ l) (ap (seen role given) (sym is_false) ∙ projected-seen)

-- one node more
pub gave_more : (above : RenderRole) (told : Option ParentData) (ns : List PlainNode) (i : ℕ) (n : PlainNode) (old new whole : List Render)
    → i < length ns → n ≡ get_or ns i n → new ≡ old ++ projected above told n
    → old ++ projected_all above told (nodes_of (drop i ns)) ≡ whole → new ++ projected_all above told (nodes_of (drop (i + 1) ns)) ≡ whole
unfolding projected
gave_more above told ns i n old new whole within is_n is_new so_far =
    let rest = projected_all above told (nodes_of (drop (i + 1) ns)) in
    ap (λ l. l ++ rest) is_new
    ∙ append_assoc old (projected above told n) rest
    ∙ ap (λ m. old ++ (projected above told m ++ rest)) is_n
    ∙ sym (at_drop_more (λ l. old ++ projected_all above told (nodes_of l)) ns i n within)
    ∙ so_far

-- all of them
pub gave_all : (above : RenderRole) (told : Option ParentData) (ns : List PlainNode) (i : ℕ) (old whole : List Render)
    → length ns ≤ i → old ++ projected_all above told (nodes_of (drop i ns)) ≡ whole → old ≡ whole
unfolding projected
gave_all above told ns i old whole past so_far =
    sym (append-nil old) ∙ sym (at_drop_all (λ l. old ++ projected_all above told (nodes_of l)) ns i past) ∙ so_far
