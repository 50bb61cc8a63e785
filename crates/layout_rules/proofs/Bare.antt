-- What the rule of a box leaves of a node that nobody is below, where it makes no more than a size.
use Rattle.std.proofs.Common.{◌≡◌, ap, refl, sym, ◌∙◌, subst, ℕ, ◌+◌, Bool, true, false, ◌||◌, Some, List, [], ◌∷◌, ◌++◌, if◌then◌else◌}
use Rattle.fx_geom.specs.declared.boxes.Bounds.{Bounds}
use Rattle.fx_geom.specs.declared.shapes.Size.{Size}
use Rattle.fx_handles.specs.declared.Handle.{Handle}
use Rattle.node_tree.specs.Forest.{Forest}
use Rattle.node_tree.specs.Forest.Forest.{none, tree}
use Rattle.node_tree.specs.Tree.{Tree, IsTree, children_at}
use Rattle.widget_model.specs.Look.{Look}
use Rattle.plain_tree.specs.declared.laid.Frame.TheVariants.{Boxed}
use Rattle.plain_tree.specs.Offsets.{rescrolled}
use Rattle.plain_tree.specs.Render.{Render}
use Rattle.plain_tree.specs.RenderRole.{render_role_of}
use Rattle.layout_form.specs.declared.asks.Ask.TheVariants.{AsBox}
use Rattle.layout_form.specs.Frames.{sized_with}
use Rattle.layout_form.specs.Layout.{is_plugged, delegate_of}
use Rattle.layout_form.specs.Object.{Setting}
use Rattle.kind_rules.specs.Asked.{found_for}
use Rattle.kind_rules.specs.Cursor.{look_of}
use Rattle.kind_rules.specs.Lone.{lone_size}
use Rattle.kind_rules.specs.Ruling.{Ruling, box_ruling}
use Rattle.kind_rules.proofs.LoneBoxes.{lone_rules}
use Rattle.render_tree.specs.Edits.{Changes, no_notes}
use Rattle.render_tree.specs.declared.layout_state.LayoutState.{LayoutState}
use Rattle.render_tree.specs.LayoutState.{with_layout_state}
use Rattle.render_tree.specs.Object.{RenderObject}
use Rattle.layout_walk.specs.Node.{LayoutNode, member}
use Rattle.layout_walk.specs.Rules.{makes_in}
use Rattle.layout_rules.specs.Ending.{run_end}
use Rattle.layout_rules.specs.Nodes.{SeenAt}
use Rattle.layout_rules.specs.Places.{render_at}
use Rattle.layout_rules.specs.Reads.{state_at, marks_at, made_state}
use Rattle.layout_rules.specs.Turns.{Turns}
use Rattle.layout_rules.proofs.Alone.{no_kids}
use Rattle.layout_rules.proofs.Running.{gift_with, gift_read, ran_state, run_ends}
use Rattle.layout_rules.proofs.Scrolling.{look_read}
use Rattle.layout_rules.proofs.Turning.{seen_render, turn_same}

-- the ruling of such a box
abbrev pub bare_ruling : Bounds → Size → Ruling
bare_ruling b size = box_ruling b (sized_with size [])

bare_gift : (s s0 : Setting) (v : LayoutNode) (b : Bounds) (size : Size) (look : Look) (plugged : Bool) → Some size ≡ lone_size s v.look b → s0 ≡ s → look ≡ v.look
    → plugged ≡ is_plugged s0.delegates (delegate_of look) → gift_with plugged (bare_ruling b size) ≡ makes_in s (member v) v.scroll (AsBox b) [] [] []
bare_gift s s0 v b size look plugged lone settings looks plugs =
    ap (λ (x : Bool). gift_with x (bare_ruling b size))
    (plugs ∙ ap (λ (l : Look). is_plugged s0.delegates (delegate_of l)) looks ∙ ap (λ (x : Setting). is_plugged x.delegates (delegate_of v.look)) settings)
    ∙ ap (λ (x : Ruling). gift_with (is_plugged s.delegates (delegate_of v.look)) x) (lone_rules s v.look b size v.count (found_for v.look v.scroll (AsBox b) []) [] lone)
    ∙ gift_read s v (AsBox b) [] [] []

pub bare_ends : (s s0 : Setting) (t t1 : Tree RenderObject) (h : Handle) (v : LayoutNode) (kids : Forest LayoutNode) (b : Bounds) (size : Size) (u w : LayoutState) (place : Render) (look : Look)
    (steps after : ℕ) → IsTree t → children_at t h ≡ [] → SeenAt t h (tree h v kids none) → Some size ≡ lone_size s (look_of (render_at t h)) b
    → place ≡ render_at t h → look ≡ look_of place → u ≡ state_at t h → s0 ≡ s
    → w ≡ made_state s0 look (Boxed b size) no_notes 0 u → Changes t t1 h (with_layout_state (record w { layout_below = false })) → after ≡ steps + 1
    → let e = run_end s (AsBox b) v kids [] [] [] in Turns t t1 h (tree h v kids none) (tree h e.value e.kids none) × (after ≡ steps + 1)
bare_ends s s0 t t1 h v kids b size u w place look steps after is empty seen lone at looks state settings made changes ticks =
    let plugged = is_plugged s0.delegates (delegate_of look) in
    let scroll = rescrolled (render_role_of look) (Some 0) u.scroll in
    let writes : Changes t t1 h (with_layout_state (ran_state u (gift_with plugged (bare_ruling b size)) scroll false)) =
    subst (λ (x : LayoutState). Changes t t1 h (with_layout_state (record x { layout_below = false }))) made changes in
    let nobody : kids ≡ none = no_kids t h v kids seen empty in
    let here : SeenAt t h (tree h v none none) = subst (λ (f : Forest LayoutNode). SeenAt t h (tree h v f none)) nobody seen in
    let look_is : look ≡ v.look = look_read t h v kids place look is seen at looks in
    let lone_is : Some size ≡ lone_size s v.look b = lone ∙ ap (λ (r : Render). lone_size s (look_of r) b) (seen_render t h v kids is seen) in
    let gifts = bare_gift s s0 v b size look plugged lone_is settings look_is refl in
    let unmarked : false ≡ marks_at t (children_at t h) = sym (ap (λ (hs : List Handle). marks_at t hs) empty) in
    subst (λ (f : Forest LayoutNode). let e = run_end s (AsBox b) v f [] [] [] in Turns t t1 h (tree h v f none) (tree h e.value e.kids none) × (after ≡ steps + 1)) (sym nobody)
    (run_ends s (AsBox b) [] [] [] t t t1 h v none u (gift_with plugged (bare_ruling b size)) scroll look false steps after here state gifts look_is refl
    (turn_same t h (tree h v none none) here) unmarked writes ticks)

pub or_false : (b : Bool) → (b || false) ≡ b
or_false true = refl
or_false false = refl

pub noted_alone : (hs after : List Handle) (h : Handle) (b : Bool) → after ≡ hs ++ (if b then h ∷ [] else []) → after ≡ hs ++ (if b || false then h ∷ [] else [])
noted_alone hs after h b is = is ∙ ap (λ (x : Bool). hs ++ (if x then h ∷ [] else [])) (sym (or_false b))
