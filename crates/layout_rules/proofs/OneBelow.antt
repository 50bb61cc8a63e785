-- What the rule of a box with one child leaves of it, and of the child.
use Rattle.std.proofs.Common.{◌≡◌, ap, refl, sym, ◌∙◌, subst, ℕ, ◌+◌, Bool, true, false, ◌||◌, Option, Some, List, [], ◌∷◌, map, length, get_or, arith}
use Rattle.std.specs.List.{All}
use Rattle.std.proofs.lemmas.List.Elements.{All-head}
use Rattle.fx_geom.specs.declared.boxes.Bounds.{Bounds}
use Rattle.fx_geom.specs.declared.scales.Scale.{Scale}
use Rattle.fx_geom.specs.declared.shapes.Offset.{Offset}
use Rattle.fx_geom.specs.declared.shapes.Size.{Size}
use Rattle.fx_geom.specs.Size.{HasLengths}
use Rattle.delegates.specs.Table.{Plug}
use Rattle.fx_handles.specs.declared.Handle.{Handle}
use Rattle.node_tree.specs.Forest.{Forest, tops}
use Rattle.node_tree.specs.Forest.Forest.{none, tree}
use Rattle.node_tree.specs.Tree.{Tree, IsTree, children_at}
use Rattle.widget_model.specs.Look.{Look}
use Rattle.plain_tree.specs.declared.laid.Frame.TheVariants.{Boxed}
use Rattle.plain_tree.specs.declared.laid.Frame.{Frame}
use Rattle.plain_tree.specs.declared.render.ParentData.{ParentData}
use Rattle.plain_tree.specs.Offsets.{rescrolled}
use Rattle.plain_tree.specs.Render.{Render}
use Rattle.plain_tree.specs.RenderRole.{render_role_of}
use Rattle.plain_tree.specs.Shown.{box_size}
use Rattle.layout_form.specs.declared.asks.Ask.{Ask}
use Rattle.layout_form.specs.declared.asks.Ask.TheVariants.{AsBox}
use Rattle.layout_form.specs.Fits.{FitsLayout}
use Rattle.layout_form.specs.Framed.{answers_of}
use Rattle.layout_form.specs.Frames.{sizes_by, frames_given, sized_with}
use Rattle.layout_form.specs.Layout.{object, is_plugged, delegate_of}
use Rattle.layout_form.specs.Object.{Setting, setting_of, only_of}
use Rattle.layout_form.specs.Single.{around}
use Rattle.kind_rules.specs.Asked.{liked_for, found_for, ruling_for}
use Rattle.kind_rules.specs.Cursor.{look_of, count_in, children_of}
use Rattle.kind_rules.specs.Ruling.{Ruling, box_ruling}
use Rattle.kind_rules.specs.Single.{is_single}
use Rattle.kind_rules.proofs.SingleBoxes.{single_rules, single_first}
use Rattle.render_tree.specs.Edits.{Changes, no_notes}
use Rattle.render_tree.specs.declared.layout_state.LayoutState.{LayoutState}
use Rattle.render_tree.specs.LayoutState.{with_layout_state}
use Rattle.render_tree.specs.Object.{RenderObject}
use Rattle.layout_walk.specs.Node.{LayoutNode, member, stored, frame_or}
use Rattle.layout_walk.specs.Rule.{ask_of, later}
use Rattle.layout_walk.specs.Rules.{makes_in}
use Rattle.layout_walk.specs.Full.{past}
use Rattle.layout_walk.specs.Walk.{stand_all}
use Rattle.layout_rules.specs.Ending.{run_end, CanRun}
use Rattle.layout_rules.specs.Nodes.{SeenAt}
use Rattle.layout_rules.specs.Only.{AsksOne}
use Rattle.layout_rules.specs.Painting.{place_in, Moves}
use Rattle.layout_rules.specs.Places.{render_at}
use Rattle.layout_rules.specs.Reads.{state_at, put_at, frames_at, marks_at, made_state}
use Rattle.layout_rules.specs.Turns.{Turns}
use Rattle.layout_rules.proofs.Bare.{or_false}
use Rattle.layout_rules.proofs.Readings.{frames_are, first_read}
use Rattle.layout_rules.proofs.Repainting.{own_same, moving_start, moving_step, moving_end}
use Rattle.layout_rules.proofs.Running.{gift_with, gift_read, ran_state, run_ends}
use Rattle.layout_rules.proofs.Scrolling.{look_read}
use Rattle.layout_rules.proofs.Standings.{stood_start, stood_step, stood_end, over_some}
use Rattle.layout_rules.proofs.Turning.{seen_children, seen_render}

-- ---- one child is put at its place

-- what is written of it
module _ (t t1 : Tree RenderObject) (h c : Handle) (at : Offset) (b : Bool) (one : children_at t h ≡ c ∷ [])
    (changes : b ≡ true → Changes t t1 c (with_layout_state (put_at (Some at) (state_at t c)))) (stays : b ≡ false → t1 ≡ t) where
  named : c ≡ get_or (children_at t h) 0 h
  named = sym (ap (λ (hs : List Handle). get_or hs 0 h) one)

  single_list : length (children_at t h) ≡ 1
  single_list = ap (λ (hs : List Handle). length hs) one

  pub one_stands : (still : b ≡ false → place_in (put_at (Some at) (state_at t c)) ≡ place_in (state_at t c)) (ask : Ask) (v : LayoutNode) (kids : Forest LayoutNode) → SeenAt t h (tree h v kids none)
      → Turns t t1 h (tree h v kids none) (tree h v (stand_all (Some ask ∷ []) (at ∷ []) kids) none)
  one_stands still ask =
      let asks : List (Option Ask) = Some ask ∷ [] in
      let places : List Offset = at ∷ [] in
      stood_end t t1 h 1 1 1 asks places (λ less. omega (arith, less))
      (stood_step t t t1 h c 0 0 1 1 asks places (Some ask) at b named (omega arith) refl refl changes stays still (over_some ask places 0)
      (stood_start t h 1 asks places (sym single_list)))

  pub one_moves : IsTree t → (b ≡ true → place_in (put_at (Some at) (state_at t c)) ≡ place_in (state_at t c) → ⊥) → Moves t t1 h b
  one_moves is moved =
      moving_end t t1 h 1 b
      (moving_step t t t1 h c 0 false b (put_at (Some at) (state_at t c)) is named (let n = single_list in omega (arith, n)) changes stays (own_same (Some at) (state_at t c)) moved (moving_start t h))

stood_tops : (asks : List (Option Ask)) (places : List Offset) (f : Forest LayoutNode) → tops (stand_all asks places f) ≡ tops f
stood_tops asks places none = refl
stood_tops asks places (tree h v kids rest) = ap (λ (hs : List Handle). h ∷ hs) (stood_tops (later asks) (past (ask_of asks) places) rest)

one_marked : (t t1 : Tree RenderObject) (h c : Handle) (v : LayoutNode) (kids : Forest LayoutNode) (asks : List (Option Ask)) (places : List Offset) (mark : Bool) → children_at t h ≡ c ∷ []
    → SeenAt t h (tree h v kids none) → SeenAt t1 h (tree h v (stand_all asks places kids) none) → mark ≡ ((state_at t1 c).needs_layout || (state_at t1 c).layout_below)
    → mark ≡ marks_at t1 (children_at t1 h)
one_marked t t1 h c v kids asks places mark one seen after is =
    let hs : children_at t1 h ≡ c ∷ [] = seen_children t1 h v (stand_all asks places kids) after ∙ stood_tops asks places kids ∙ sym (seen_children t h v kids seen) ∙ one in
    is ∙ ap (λ (b : Bool). (state_at t1 c).needs_layout || b) (sym (or_false (state_at t1 c).layout_below)) ∙ ap (λ (ks : List Handle). marks_at t1 ks) (sym hs)

-- ---- what the rule makes

-- the ruling of such a box
abbrev pub one_ruling : Bounds → Size → Offset → Ruling
one_ruling b size at = box_ruling b (sized_with size (at ∷ []))

one_gift : (s s0 : Setting) (v : LayoutNode) (b : Bounds) (ds : List ParentData) (known answers : List (Option Frame)) (f : Frame) (child size : Size) (at : Offset) (look : Look) (plugged : Bool)
    → is_single v.look ≡ true → s0 ≡ s → look ≡ v.look → child ≡ box_size f → size ≡ (around s0 look b 0).size (Some child) → at ≡ (around s0 look b 0).place size child
    → Some f ∷ [] ≡ answers → plugged ≡ is_plugged s0.delegates (delegate_of look)
    → gift_with plugged (one_ruling b size at) ≡ makes_in s (member v) v.scroll (AsBox b) ds known answers
one_gift s s0 v b ds known answers f child size at look plugged single settings looks childs sizes places reads plugs =
    let size_is : size ≡ (around s v.look b 0).size (Some child) =
    sizes ∙ ap (λ (x : Setting). (around x look b 0).size (Some child)) settings ∙ ap (λ (l : Look). (around s l b 0).size (Some child)) looks in
    let place_is : at ≡ (around s v.look b 0).place size child =
    places ∙ ap (λ (x : Setting). (around x look b 0).place size child) settings ∙ ap (λ (l : Look). (around s l b 0).place size child) looks in
    ap (λ (x : Bool). gift_with x (one_ruling b size at))
    (plugs ∙ ap (λ (l : Look). is_plugged s0.delegates (delegate_of l)) looks ∙ ap (λ (x : Setting). is_plugged x.delegates (delegate_of v.look)) settings)
    ∙ ap (λ (x : Ruling). gift_with (is_plugged s.delegates (delegate_of v.look)) x)
    (single_rules s v.look b f child size at v.count (found_for v.look v.scroll (AsBox b) known) ds single childs size_is place_is
    ∙ ap (λ (fs : List (Option Frame)). ruling_for s v.look v.count (AsBox b) (found_for v.look v.scroll (AsBox b) known) ds fs) reads)
    ∙ gift_read s v (AsBox b) ds known answers

-- the frame of the child, as it is read
one_read : (t : Tree RenderObject) (h c : Handle) (v : LayoutNode) (kids : Forest LayoutNode) (ask : Ask) → children_at t h ≡ c ∷ [] → SeenAt t h (tree h v kids none)
    → Some (frame_or (state_at t c).frame) ∷ [] ≡ answers_of (Some ask ∷ []) (stored kids)
one_read t h c v kids ask one seen = ap (λ (hs : List Handle). frames_at t (Some ask ∷ []) hs) (sym one) ∙ frames_are t (Some ask ∷ []) h v kids seen

pub one_ends : (s s0 : Setting) (t t1 t2 : Tree RenderObject) (h c : Handle) (v : LayoutNode) (kids : Forest LayoutNode) (b inner : Bounds) (ds : List ParentData) (child size : Size) (at : Offset) (u w : LayoutState)
    (place : Render) (look : Look) (moved mark : Bool) (steps after : ℕ) → IsTree t → children_at t h ≡ c ∷ [] → SeenAt t h (tree h v kids none) → is_single (look_of (render_at t h)) ≡ true
    → place ≡ render_at t h → look ≡ look_of place → u ≡ state_at t h → s0 ≡ s
    → w ≡ made_state s0 look (Boxed b size) no_notes 0 u → child ≡ box_size (frame_or (state_at t c).frame) → size ≡ (around s0 look b 0).size (Some child)
    → at ≡ (around s0 look b 0).place size child
    → (moved ≡ true → Changes t t1 c (with_layout_state (put_at (Some at) (state_at t c)))) → (moved ≡ false → t1 ≡ t)
    → (moved ≡ false → place_in (put_at (Some at) (state_at t c)) ≡ place_in (state_at t c))
    → mark ≡ ((state_at t1 c).needs_layout || (state_at t1 c).layout_below)
    → Changes t1 t2 h (with_layout_state (record w { layout_below = mark })) → after ≡ steps + 1
    → let asks : List (Option Ask) = Some (AsBox inner) ∷ [] in let e = run_end s (AsBox b) v kids ds asks asks in Turns t t2 h (tree h v kids none) (tree h e.value e.kids none) × (after ≡ steps + 1)
one_ends s s0 t t1 t2 h c v kids b inner ds child size at u w place look moved mark steps after is one seen single placed looks state settings made childs sizes places
    changes stays still marks sets ticks =
    let plugged = is_plugged s0.delegates (delegate_of look) in
    let scroll = rescrolled (render_role_of look) (Some 0) u.scroll in
    let writes : Changes t1 t2 h (with_layout_state (ran_state u (gift_with plugged (one_ruling b size at)) scroll mark)) =
    subst (λ (x : LayoutState). Changes t1 t2 h (with_layout_state (record x { layout_below = mark }))) made sets in
    let ask = AsBox inner in
    let asks : List (Option Ask) = Some ask ∷ [] in
    let look_is : look ≡ v.look = look_read t h v kids place look is seen placed looks in
    let single_is : is_single v.look ≡ true = ap (λ (r : Render). is_single (look_of r)) (sym (seen_render t h v kids is seen)) ∙ single in
    let answers = answers_of asks (stored kids) in
    let gifts : gift_with plugged (one_ruling b size at) ≡ makes_in s (member v) v.scroll (AsBox b) ds answers answers =
    one_gift s s0 v b ds answers answers (frame_or (state_at t c).frame) child size at look plugged single_is settings look_is childs sizes places (one_read t h c v kids ask one seen) refl in
    let stands = one_stands t t1 h c at moved one changes stays still ask v kids seen in
    run_ends s (AsBox b) ds asks asks t t1 t2 h v kids u (gift_with plugged (one_ruling b size at)) scroll look mark steps after seen state gifts look_is refl stands
    (one_marked t t1 h c v kids asks (at ∷ []) mark one seen stands.stands marks) writes ticks

-- ---- a rule can be run so

pub one_members : (t : Tree RenderObject) (h : Handle) (v : LayoutNode) (kids : Forest LayoutNode) (b : Bounds) (ds : List ParentData) (first asks : List (Option Ask)) → IsTree t → SeenAt t h (tree h v kids none)
    → CanRun (AsBox b) v kids ds first asks → FitsLayout (look_of (render_at t h))
one_members t h v kids b ds first asks is seen can =
    subst (λ (r : Render). FitsLayout (look_of r)) (sym (seen_render t h v kids is seen)) can.fits.members

pub one_long : (t : Tree RenderObject) (h c : Handle) (v : LayoutNode) (kids : Forest LayoutNode) (b : Bounds) (ds : List ParentData) (first : List (Option Ask)) (ask : Ask) → children_at t h ≡ c ∷ []
    → SeenAt t h (tree h v kids none) → CanRun (AsBox b) v kids ds first (Some ask ∷ []) → HasLengths (box_size (frame_or (state_at t c).frame))
one_long t h c v kids b ds first ask one seen can =
    let f = frame_or (state_at t c).frame in
    let all = subst (λ (fs : List (Option Frame)). All HasLengths (sizes_by (frames_given fs))) (sym (one_read t h c v kids ask one seen)) can.sizes in
    All-head HasLengths (box_size f) [] all

-- ---- whom it asks, as the code reads it

pub one_asked : (m : List Plug) (scale one two : Scale) (r place : Render) (k : Look) (b inner : Bounds) (liked : ℕ) (single : Bool) → place ≡ r → one ≡ scale → two ≡ scale → k ≡ look_of place
    → single ≡ is_single k → single ≡ true → liked ≡ liked_for k (AsBox b) (only_of (map (object (setting_of one m)) (children_of place)))
    → inner ≡ (around (setting_of two m) k b liked).inner → AsksOne (setting_of scale m) r b inner
one_asked m scale one two r place k b inner liked single at s1 s2 look knows known el is = record {
  single = single_is;
  asks = λ ds.
      ap (λ (x : Bounds). Some (AsBox x) ∷ []) is
      ∙ single_first (setting_of two m) k b (count_in r) liked ds (sym knows ∙ known)
      ∙ first_read m scale one two r place k k (count_in r) liked (AsBox b) ds at s1 s2 look look (ap (λ (x : Render). count_in x) (sym at)) el;
}
  where
    single_is : is_single (look_of r) ≡ true
    single_is = sym (ap (λ (x : Look). is_single x) (look ∙ ap (λ (x : Render). look_of x) at)) ∙ (sym knows ∙ known)
