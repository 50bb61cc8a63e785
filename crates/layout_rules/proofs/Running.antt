-- A rule run over what is read of a node and its children, and what is written then.
use Rattle.std.proofs.Common.{◌≡◌, ap, refl, sym, ◌∙◌, subst, ℕ, ◌+◌, Bool, true, false, cond, Option, Some, None, List, [], ◌∷◌, arith, Result, Ok, Err, OnOk}
use Rattle.fx_geom.specs.declared.shapes.Offset.{Offset}
use Rattle.fx_handles.specs.declared.Handle.{Handle}
use Rattle.fx_handles.specs.Handle.{same}
use Rattle.node_tree.specs.Forest.{Forest, weigh}
use Rattle.node_tree.specs.Forest.Forest.{none, tree}
use Rattle.node_tree.specs.Tree.{Tree, IsTree, children_at}
use Rattle.widget_model.specs.Look.{Look}
use Rattle.plain_tree.specs.declared.laid.Frame.{Frame}
use Rattle.plain_tree.specs.declared.render.ParentData.{ParentData}
use Rattle.plain_tree.specs.Offsets.{rescrolled}
use Rattle.plain_tree.specs.Render.{Render}
use Rattle.plain_tree.specs.RenderRole.{render_role_of}
use Rattle.layout_form.specs.declared.asks.Ask.{Ask}
use Rattle.layout_form.specs.declared.asks.Ask.TheVariants.{AsBox, AsSliver}
use Rattle.layout_form.specs.Framed.{answers_of, last_asks}
use Rattle.layout_form.specs.Layout.{is_plugged, delegate_of}
use Rattle.layout_form.specs.Object.{Setting}
use Rattle.layout_form.specs.Protocol.{Found}
use Rattle.kind_rules.specs.Asked.{found_for, ruling_for}
use Rattle.kind_rules.specs.Cursor.{look_of, count_in}
use Rattle.kind_rules.specs.Ruling.{Ruling}
use Rattle.render_tree.specs.Edits.{Changes}
use Rattle.render_tree.specs.declared.layout_state.LayoutState.{LayoutState}
use Rattle.render_tree.specs.LayoutState.{with_layout_state}
use Rattle.render_tree.specs.Object.{RenderObject}
use Rattle.layout_walk.specs.Asking.{has_frame}
use Rattle.layout_walk.specs.Full.{past}
use Rattle.layout_walk.specs.Node.{LayoutNode, member, stored}
use Rattle.layout_walk.specs.Rule.{RuleGift, ask_of, later, scroll_after}
use Rattle.layout_walk.specs.Rules.{makes_in}
use Rattle.layout_walk.specs.Walk.{any_mark, stand_all, ruled, held_back}
use Rattle.layout_rules.specs.declared.duties.Course.TheVariants.{Hold}
use Rattle.layout_rules.specs.Ending.{CanMake, run_end, held_gift, has_gift}
use Rattle.layout_rules.specs.Nodes.{SeenAt}
use Rattle.layout_rules.specs.Places.{render_at}
use Rattle.layout_rules.specs.Reads.{state_at, frames_at, marks_at}
use Rattle.layout_rules.specs.Serving.{IsSeen, CanRunAt, CanEndAt}
use Rattle.layout_rules.specs.Turns.{Turns, node_with}
use Rattle.layout_rules.proofs.Making.{can_hold}
use Rattle.layout_rules.proofs.Readings.{state_in, frames_are, marks_are}
use Rattle.layout_rules.proofs.Scrolling.{look_read, count_read, state_read}
use Rattle.layout_rules.proofs.Turning.{node_turns, turn_same, turn_again}

-- what a rule gives, by its ruling
abbrev pub gift_with : Bool → Ruling → RuleGift
gift_with plugged r = record { facts = record { frame = r.frame; notes = r.notes; plugged = plugged; scrolled = r.scrolled }; places = r.places }

pub gift_read : (s : Setting) (v : LayoutNode) (ask : Ask) (ds : List ParentData) (known answers : List (Option Frame))
    → gift_with (is_plugged s.delegates (delegate_of v.look)) (ruling_for s v.look v.count ask (found_for v.look v.scroll ask known) ds answers) ≡ makes_in s (member v) v.scroll ask ds known answers
gift_read s v (AsBox b) ds known answers = refl
gift_read s v (AsSliver b) ds known answers = refl

module _ (v : LayoutNode) (ask : Ask) (ds : List ParentData) (look1 look2 : Look) (scroll : ℕ) (found : Found) (known answers is_known is_answers : List (Option Frame))
    (l1 : look1 ≡ v.look) (l2 : look2 ≡ v.look) (scrolls : scroll ≡ v.scroll) (finds : found ≡ found_for look1 scroll ask known) (knows : known ≡ is_known) (reads : answers ≡ is_answers) where
  found_is : found ≡ found_for v.look v.scroll ask is_known
  found_is =
      finds
      ∙ ap (λ (l : Look). found_for l scroll ask known) l1
      ∙ ap (λ (x : ℕ). found_for v.look x ask known) scrolls
      ∙ ap (λ (fs : List (Option Frame)). found_for v.look v.scroll ask fs) knows

  -- a rule can be run over what is read
  can_read : CanMake v.look ask ds (found_for v.look v.scroll ask is_known) is_answers → CanMake look2 ask ds found answers
  can_read can =
      subst (λ (l : Look). CanMake l ask ds found answers) (sym l2)
      (subst (λ (f : Found). CanMake v.look ask ds f answers) (sym found_is)
      (subst (λ (fs : List (Option Frame)). CanMake v.look ask ds (found_for v.look v.scroll ask is_known) fs) (sym reads) can))

  -- and what is made then
  gift_made : (s s0 : Setting) (look3 : Look) (n : ℕ) (r : Ruling) (plugged : Bool) → s0 ≡ s → look3 ≡ v.look → n ≡ v.count → r ≡ ruling_for s0 look2 n ask found ds answers
      → plugged ≡ is_plugged s0.delegates (delegate_of look3) → gift_with plugged r ≡ makes_in s (member v) v.scroll ask ds is_known is_answers
  gift_made s s0 look3 n r plugged settings l3 counts makes plugs =
      ap (λ (b : Bool). gift_with b r) (plugs ∙ ap (λ (l : Look). is_plugged s0.delegates (delegate_of l)) l3 ∙ ap (λ (x : Setting). is_plugged x.delegates (delegate_of v.look)) settings)
      ∙ ap (λ (x : Ruling). gift_with (is_plugged s.delegates (delegate_of v.look)) x)
      (makes
      ∙ ap (λ (x : Setting). ruling_for x look2 n ask found ds answers) settings
      ∙ ap (λ (l : Look). ruling_for s l n ask found ds answers) l2
      ∙ ap (λ (x : ℕ). ruling_for s v.look x ask found ds answers) counts
      ∙ ap (λ (f : Found). ruling_for s v.look v.count ask f ds answers) found_is
      ∙ ap (λ (fs : List (Option Frame)). ruling_for s v.look v.count ask (found_for v.look v.scroll ask is_known) ds fs) reads)
      ∙ gift_read s v ask ds is_known is_answers

-- ---- what is read of a live node

module _ (t : Tree RenderObject) (h : Handle) (ask : Ask) (place : Render) (look1 look2 : Look) (u : LayoutState) (found : Found) (is : IsTree t) (at : place ≡ render_at t h)
    (k1 : look1 ≡ look_of place) (k2 : look2 ≡ look_of place) (state : u ≡ state_at t h) where
  scroll_is : (v : LayoutNode) (kids : Forest LayoutNode) → SeenAt t h (tree h v kids none) → u.scroll ≡ v.scroll
  scroll_is v kids seen = ap (λ (x : LayoutState). x.scroll) (state ∙ state_read t h v kids seen)

  pub hold_can : found ≡ found_for look1 u.scroll ask [] → IsSeen t h → CanEndAt (Hold ask) [] [] [] t h → CanMake look2 ask [] found []
  hold_can finds there can =
      let v = there.value in
      let seen = there.stands in
      let fits = can v there.kids seen in
      can_read v ask [] look1 look2 u.scroll found [] [] [] [] (look_read t h v there.kids place look1 is seen at k1) (look_read t h v there.kids place look2 is seen at k2)
      (scroll_is v there.kids seen) finds refl refl (can_hold v.look v.scroll ask fits.0 fits.1)

  pub hold_gift : found ≡ found_for look1 u.scroll ask [] → (v : LayoutNode) (kids : Forest LayoutNode) → SeenAt t h (tree h v kids none)
      → (s s0 : Setting) (look3 : Look) (n : ℕ) (r : Ruling) (plugged : Bool) → s0 ≡ s → look3 ≡ look_of place → n ≡ count_in place → r ≡ ruling_for s0 look2 n ask found [] []
      → plugged ≡ is_plugged s0.delegates (delegate_of look3) → gift_with plugged r ≡ held_gift s ask v
  hold_gift finds v kids seen s s0 look3 n r plugged settings k3 counts makes plugs =
      gift_made v ask [] look1 look2 u.scroll found [] [] [] [] (look_read t h v kids place look1 is seen at k1) (look_read t h v kids place look2 is seen at k2)
      (scroll_is v kids seen) finds refl refl s s0 look3 n r plugged settings (look_read t h v kids place look3 is seen at k3) (count_read t h v kids place n is seen at counts) makes plugs

  pub run_can : (ds : List ParentData) (first asks asks1 : List (Option Ask)) (known answers : List (Option Frame)) → found ≡ found_for look1 u.scroll ask known → asks1 ≡ first
      → known ≡ frames_at t asks1 (children_at t h) → answers ≡ frames_at t asks (children_at t h) → IsSeen t h → CanRunAt ask ds first asks t h → CanMake look2 ask ds found answers
  run_can ds first asks asks1 known answers finds same knows reads there can =
      let v = there.value in
      let kids = there.kids in
      let seen = there.stands in
      can_read v ask ds look1 look2 u.scroll found known answers (answers_of first (stored kids)) (answers_of asks (stored kids))
      (look_read t h v kids place look1 is seen at k1) (look_read t h v kids place look2 is seen at k2) (scroll_is v kids seen) finds
      (knows ∙ ap (λ (xs : List (Option Ask)). frames_at t xs (children_at t h)) same ∙ frames_are t first h v kids seen) (reads ∙ frames_are t asks h v kids seen) (can v kids seen)

  pub run_gift : (ds : List ParentData) (first asks asks1 : List (Option Ask)) (known answers : List (Option Frame)) → found ≡ found_for look1 u.scroll ask known → asks1 ≡ first
      → known ≡ frames_at t asks1 (children_at t h) → answers ≡ frames_at t asks (children_at t h) → (v : LayoutNode) (kids : Forest LayoutNode) → SeenAt t h (tree h v kids none)
      → (s s0 : Setting) (look3 : Look) (n : ℕ) (r : Ruling) (plugged : Bool) → s0 ≡ s → look3 ≡ look_of place → n ≡ count_in place → r ≡ ruling_for s0 look2 n ask found ds answers
      → plugged ≡ is_plugged s0.delegates (delegate_of look3)
      → gift_with plugged r ≡ makes_in s (member v) v.scroll ask ds (answers_of first (stored kids)) (answers_of asks (stored kids))
  run_gift ds first asks asks1 known answers finds same knows reads v kids seen s s0 look3 n r plugged settings k3 counts makes plugs =
      gift_made v ask ds look1 look2 u.scroll found known answers (answers_of first (stored kids)) (answers_of asks (stored kids))
      (look_read t h v kids place look1 is seen at k1) (look_read t h v kids place look2 is seen at k2) (scroll_is v kids seen) finds
      (knows ∙ ap (λ (xs : List (Option Ask)). frames_at t xs (children_at t h)) same ∙ frames_are t first h v kids seen) (reads ∙ frames_are t asks h v kids seen)
      s s0 look3 n r plugged settings (look_read t h v kids place look3 is seen at k3) (count_read t h v kids place n is seen at counts) makes plugs

pub none_first : (rest : List (Option Ask)) → last_asks [] rest ≡ rest
none_first [] = refl
none_first (ask ∷ asks) = by ask
  where
    by : (x : Option Ask) → last_asks [] (x ∷ asks) ≡ x ∷ asks
    by None = refl
    by (Some ask) = refl

-- ---- what is written

-- a state after a rule was run, and after one was run without what is below
abbrev pub ran_state : LayoutState → RuleGift → ℕ → Bool → LayoutState
ran_state u made scroll below = record u {
  scroll = scroll;
  frame = Some made.facts.frame;
  notes = made.facts.notes;
  plugged = made.facts.plugged;
  scrolled = made.facts.scrolled;
  needs_layout = false;
  layout_below = below;
}

abbrev pub held_state : LayoutState → RuleGift → LayoutState
held_state u made = record u {
  frame = Some made.facts.frame;
  notes = made.facts.notes;
  plugged = made.facts.plugged;
  scrolled = made.facts.scrolled;
  needs_layout = true;
}

pub ran_node : (v : LayoutNode) (u : LayoutState) (gift made : RuleGift) (scroll : ℕ) (mark below : Bool) → u ≡ state_in v → gift ≡ made → scroll ≡ scroll_after v.look made v.scroll → mark ≡ below
    → node_with (ran_state u gift scroll mark) v ≡ ruled v made below
ran_node v u gift made scroll mark below is gifts scrolls marks =
    ap (λ (x : LayoutState). node_with (ran_state x gift scroll mark) v) is
    ∙ ap (λ (g : RuleGift). node_with (ran_state (state_in v) g scroll mark) v) gifts
    ∙ ap (λ (n : ℕ). node_with (ran_state (state_in v) made n mark) v) scrolls
    ∙ ap (λ (b : Bool). node_with (ran_state (state_in v) made (scroll_after v.look made v.scroll) b) v) marks

pub held_node : (v : LayoutNode) (u : LayoutState) (gift made : RuleGift) → u ≡ state_in v → gift ≡ made → node_with (held_state u gift) v ≡ held_back v made
held_node v u gift made is gifts =
    ap (λ (x : LayoutState). node_with (held_state x gift) v) is ∙ ap (λ (g : RuleGift). node_with (held_state (state_in v) g) v) gifts

-- a rule that was run without what is below gave what is stored, or something else
pub hold_same : (s : Setting) (ask : Ask) (t : Tree RenderObject) (h : Handle) (v : LayoutNode) (kids : Forest LayoutNode) (u : LayoutState) (gift : RuleGift) (b : Bool) (steps : ℕ) → SeenAt t h (tree h v kids none)
    → u ≡ state_at t h → gift ≡ held_gift s ask v → b ≡ has_frame u.frame (Some gift.facts.frame) → b ≡ true
    → Turns t t h (tree h v kids none) (tree h (cond {A = LayoutNode} (has_gift s ask v) v (held_back v (held_gift s ask v))) kids none)
    × (steps ≡ steps + cond {A = ℕ} (has_gift s ask v) 0 1)
hold_same s ask t h v kids u gift b steps seen state gifts has same =
    let is : has_gift s ask v ≡ true =
    sym (has ∙ ap (λ (x : LayoutState). has_frame x.frame (Some gift.facts.frame)) (state ∙ state_read t h v kids seen)
    ∙ ap (λ (g : RuleGift). has_frame v.frame (Some g.facts.frame)) gifts) ∙ same in
    subst (λ (x : Bool). Turns t t h (tree h v kids none) (tree h (cond {A = LayoutNode} x v (held_back v (held_gift s ask v))) kids none) × (steps ≡ steps + cond {A = ℕ} x 0 1)) (sym is)
    (turn_same t h (tree h v kids none) seen, omega arith)

pub hold_new : (s : Setting) (ask : Ask) (t t1 : Tree RenderObject) (h : Handle) (v : LayoutNode) (kids : Forest LayoutNode) (u : LayoutState) (gift : RuleGift) (b : Bool) (steps after : ℕ) → SeenAt t h (tree h v kids none)
    → u ≡ state_at t h → gift ≡ held_gift s ask v → b ≡ has_frame u.frame (Some gift.facts.frame) → b ≡ false → Changes t t1 h (with_layout_state (held_state u gift)) → after ≡ steps + 1
    → Turns t t1 h (tree h v kids none) (tree h (cond {A = LayoutNode} (has_gift s ask v) v (held_back v (held_gift s ask v))) kids none)
    × (after ≡ steps + cond {A = ℕ} (has_gift s ask v) 0 1)
hold_new s ask t t1 h v kids u gift b steps after seen state gifts has other changes ticks =
    let is : has_gift s ask v ≡ false =
    sym (has ∙ ap (λ (x : LayoutState). has_frame x.frame (Some gift.facts.frame)) (state ∙ state_read t h v kids seen)
    ∙ ap (λ (g : RuleGift). has_frame v.frame (Some g.facts.frame)) gifts) ∙ other in
    let node = held_node v u gift (held_gift s ask v) (state ∙ state_read t h v kids seen) gifts in
    subst (λ (x : Bool). Turns t t1 h (tree h v kids none) (tree h (cond {A = LayoutNode} x v (held_back v (held_gift s ask v))) kids none) × (after ≡ steps + cond {A = ℕ} x 0 1)) (sym is)
    (subst (λ (w : LayoutNode). Turns t t1 h (tree h v kids none) (tree h w kids none)) node (node_turns t t1 h v kids (held_state u gift) seen changes), ticks)

stood_weigh : (w : Handle → ℕ) (asks : List (Option Ask)) (places : List Offset) (f : Forest LayoutNode) → weigh w (stand_all asks places f) ≡ weigh w f
stood_weigh w asks places none = refl
stood_weigh w asks places (tree h v kids rest) = ap (λ (n : ℕ). w h + weigh w kids + n) (stood_weigh w (later asks) (past (ask_of asks) places) rest)

-- the children are put at their places, and then the node is written
pub run_turns : (t0 t1 t2 : Tree RenderObject) (h : Handle) (asks : List (Option Ask)) (places : List Offset) (v w : LayoutNode) (kids : Forest LayoutNode) (u : LayoutState)
    → Turns t0 t1 h (tree h v kids none) (tree h v (stand_all asks places kids) none) → Changes t1 t2 h (with_layout_state u) → node_with u v ≡ w
    → Turns t0 t2 h (tree h v kids none) (tree h w (stand_all asks places kids) none)
run_turns t0 t1 t2 h asks places v w kids u stands changes is =
    let below = stand_all asks places kids in
    turn_again t0 t1 t2 h (tree h v kids none) (tree h v below none) (tree h w below none)
    (λ k. let n = stood_weigh (λ j. cond {A = ℕ} (same j k) 1 0) asks places kids in omega (arith, n)) stands
    (subst (λ (x : LayoutNode). Turns t1 t2 h (tree h v below none) (tree h x below none)) is (node_turns t1 t2 h v below u stands.stands changes))

-- a rule was run, the children were put at their places, and the node was written
pub run_ends : (s : Setting) (ask : Ask) (ds : List ParentData) (first asks : List (Option Ask)) (t0 t1 t2 : Tree RenderObject) (h : Handle) (v : LayoutNode) (kids : Forest LayoutNode) (u : LayoutState) (gift : RuleGift)
    (scroll : ℕ) (look : Look) (mark : Bool) (steps after : ℕ) → SeenAt t0 h (tree h v kids none) → u ≡ state_at t0 h
    → gift ≡ makes_in s (member v) v.scroll ask ds (answers_of first (stored kids)) (answers_of asks (stored kids))
    → look ≡ v.look → scroll ≡ rescrolled (render_role_of look) (Some gift.facts.scrolled) u.scroll
    → Turns t0 t1 h (tree h v kids none) (tree h v (stand_all asks gift.places kids) none) → mark ≡ marks_at t1 (children_at t1 h)
    → Changes t1 t2 h (with_layout_state (ran_state u gift scroll mark)) → after ≡ steps + 1
    → let e = run_end s ask v kids ds first asks in Turns t0 t2 h (tree h v kids none) (tree h e.value e.kids none) × (after ≡ steps + 1)
run_ends s ask ds first asks t0 t1 t2 h v kids u gift scroll look mark steps after seen state gifts looks scrolls stands marks changes ticks =
    let made = makes_in s (member v) v.scroll ask ds (answers_of first (stored kids)) (answers_of asks (stored kids)) in
    let u_is : u ≡ state_in v = state ∙ state_read t0 h v kids seen in
    let scroll_to : scroll ≡ scroll_after v.look made v.scroll =
    scrolls
    ∙ ap (λ (l : Look). rescrolled (render_role_of l) (Some gift.facts.scrolled) u.scroll) looks
    ∙ ap (λ (x : LayoutState). rescrolled (render_role_of v.look) (Some gift.facts.scrolled) x.scroll) u_is
    ∙ ap (λ (g : RuleGift). rescrolled (render_role_of v.look) (Some g.facts.scrolled) v.scroll) gifts in
    let mark_is : mark ≡ any_mark (stand_all asks gift.places kids) = marks ∙ marks_are t1 h v (stand_all asks gift.places kids) stands.stands in
    let node : node_with (ran_state u gift scroll mark) v ≡ ruled v made (any_mark (stand_all asks gift.places kids)) =
    ran_node v u gift made scroll mark (any_mark (stand_all asks gift.places kids)) u_is gifts scroll_to mark_is in (
      subst (λ (g : RuleGift). Turns t0 t2 h (tree h v kids none) (tree h (ruled v made (any_mark (stand_all asks g.places kids))) (stand_all asks g.places kids) none)) gifts
          (run_turns t0 t1 t2 h asks gift.places v (ruled v made (any_mark (stand_all asks gift.places kids))) kids (ran_state u gift scroll mark) stands changes node),
      ticks,
    )

pub on_ok : {A E : Type 0} (r : Result A E) (P Q : Type 0) → (P → Q) → OnOk r P → OnOk r Q
on_ok {A} {E} (Ok x) P Q then ok = then ok
on_ok {A} {E} (Err e) P Q then ok = tt
