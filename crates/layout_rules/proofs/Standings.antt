-- Children put at their places, one after another.
use Rattle.std.proofs.Common.{◌≡◌, ap, refl, sym, ◌∙◌, subst, ℕ, zero, suc, ◌+◌, ◌≤◌, ◌<◌, Bool, true, false, cond, Option, Some, None, option_map, List, [], ◌∷◌, length, drop, get_or, arith}
use Rattle.fx_geom.specs.declared.shapes.Offset.{Offset}
use Rattle.fx_geom.specs.Offset.{origin}
use Rattle.fx_handles.specs.declared.Handle.{Handle}
use Rattle.fx_handles.specs.Handle.{same}
use Rattle.node_tree.specs.Forest.{Forest, tops, skip, weigh}
use Rattle.node_tree.specs.Forest.Forest.{none, tree}
use Rattle.node_tree.specs.Tree.{Tree, children_at}
use Rattle.layout_form.specs.declared.asks.Ask.{Ask}
use Rattle.render_tree.specs.declared.layout_state.LayoutState.{LayoutState}
use Rattle.render_tree.specs.Edits.{Changes, Writes}
use Rattle.render_tree.specs.Object.{RenderObject}
use Rattle.render_tree.specs.LayoutState.{with_layout_state, with_standing}
use Rattle.render_tree.specs.Tree.{object_at}
use Rattle.layout_walk.specs.Full.{place_of, past}
use Rattle.layout_walk.specs.Node.{LayoutNode}
use Rattle.layout_walk.specs.Rule.{ask_of, later}
use Rattle.layout_walk.specs.Walk.{stood_as, stand_all}
use Rattle.layout_rules.specs.Nodes.{SeenAt}
use Rattle.layout_rules.specs.Painting.{PaintedPlace, place_in}
use Rattle.layout_rules.specs.Reads.{state_or, state_at, put_at, standing_as, past_in}
use Rattle.layout_rules.specs.Turns.{Turns, node_with, put}
use Rattle.layout_rules.proofs.Filling.{ask_drop, later_drop}
use Rattle.layout_rules.proofs.Putting.{put_tops, put_weigh, nth_tree}
use Rattle.layout_rules.proofs.Readings.{stored_state, state_in}
use Rattle.layout_rules.proofs.Turning.{seen_stored, seen_children, node_turns, turn_same, turn_again, child_seen, child_turns}

-- those after the first n are still to be put
abbrev pub stand_left : ℕ → List (Option Ask) → List Offset → Forest LayoutNode → Forest LayoutNode
stand_left zero asks places f = stand_all asks places f
stand_left (suc n) asks places none = none
stand_left (suc n) asks places (tree h v kids rest) = tree h v kids (stand_left n asks places rest)

no_tree : (c : Handle) (v : LayoutNode) (kids after : Forest LayoutNode) → none ≡ tree c v kids after → ⊥
no_tree c v kids after e = cc

skip_none : (i : ℕ) → skip {T = LayoutNode} i none ≡ none
skip_none zero = refl
skip_none (suc i) = refl

left_put : (i : ℕ) (asks : List (Option Ask)) (places : List Offset) (c : Handle) (v : LayoutNode) (kids after f : Forest LayoutNode) → skip i f ≡ tree c v kids after
    → stand_left (suc i) (later asks) (past (ask_of asks) places) (put i (stood_as (ask_of asks) (place_of places) v) kids f) ≡ stand_left i asks places f
left_put i asks places c v kids after none is = absurd (no_tree c v kids after (sym (skip_none i) ∙ is))
left_put zero asks places c v kids after (tree h u us rest) is =
    let value : u ≡ v = cc in
    let parts : us ≡ kids = cc in
    ap (λ (x : LayoutNode). tree h (stood_as (ask_of asks) (place_of places) x) kids (stand_all (later asks) (past (ask_of asks) places) rest)) (sym value)
    ∙ ap (λ (g : Forest LayoutNode). tree h (stood_as (ask_of asks) (place_of places) u) g (stand_all (later asks) (past (ask_of asks) places) rest)) (sym parts)
left_put (suc i) asks places c v kids after (tree h u us rest) is = ap (λ (g : Forest LayoutNode). tree h u us g) (left_put i asks places c v kids after rest is)

left_over : (i : ℕ) (asks : List (Option Ask)) (places : List Offset) (f : Forest LayoutNode) → length (tops f) ≤ i → stand_left i asks places f ≡ f
left_over zero asks places none few = refl
left_over (suc i) asks places none few = refl
left_over zero asks places (tree h v kids rest) few = absurd (omega arith)
left_over (suc i) asks places (tree h v kids rest) few = ap (λ (g : Forest LayoutNode). tree h v kids g) (left_over i asks places rest (omega arith))

place_drop : (places : List Offset) (j : ℕ) → place_of (drop j places) ≡ get_or places j origin
place_drop [] zero = refl
place_drop [] (suc j) = refl
place_drop (at ∷ places) zero = refl
place_drop (at ∷ places) (suc j) = place_drop places j

rest_drop : (places : List Offset) (j : ℕ) → later (drop j places) ≡ drop (suc j) places
rest_drop [] zero = refl
rest_drop [] (suc j) = refl
rest_drop (at ∷ places) zero = refl
rest_drop (at ∷ places) (suc j) = rest_drop places j

-- the first i children stand where they should, and j places are taken
pub record Stood (t0 t : Tree RenderObject) (h : Handle) (i j end : ℕ) (asks : List (Option Ask)) (places : List Offset) (v : LayoutNode) (kids : Forest LayoutNode) : Type 0 where
  pub now : Forest LayoutNode
  pub turns : Turns t0 t h (tree h v kids none) (tree h v now none)
  pub alike : tops now ≡ tops kids
  pub weighs : (w : Handle → ℕ) → weigh w now ≡ weigh w kids
  pub left : stand_left i (drop i asks) (drop j places) now ≡ stand_all asks places kids
  pub ends : end ≡ length (tops kids)

abbrev pub Standing : Tree RenderObject → Tree RenderObject → Handle → ℕ → ℕ → ℕ → List (Option Ask) → List Offset → Type 0
Standing t0 t h i j end asks places = (v : LayoutNode) (kids : Forest LayoutNode) → SeenAt t0 h (tree h v kids none) → Stood t0 t h i j end asks places v kids

pub stood_start : (t : Tree RenderObject) (h : Handle) (end : ℕ) (asks : List (Option Ask)) (places : List Offset) → end ≡ length (children_at t h) → Standing t t h 0 0 end asks places
stood_start t h end asks places is = λ v kids seen. record {
  now = kids;
  turns = turn_same t h (tree h v kids none) seen;
  alike = refl;
  weighs = λ w. refl;
  left = refl;
  ends = is ∙ ap (λ (hs : List Handle). length hs) (seen_children t h v kids seen);
}

-- one more child is written
stood_on : (t0 t t1 : Tree RenderObject) (h c : Handle) (i j k end : ℕ) (asks : List (Option Ask)) (places : List Offset) (ask : Option Ask) (u : LayoutState)
    → c ≡ get_or (children_at t h) i h → i < end → get_or asks i None ≡ ask
    → ((w : LayoutNode) (ws : Forest LayoutNode) → SeenAt t c (tree c w ws none) → Turns t t1 c (tree c w ws none) (tree c (node_with u w) ws none))
    → ((w : LayoutNode) → state_at t c ≡ state_in w → node_with u w ≡ stood_as ask (get_or places j origin) w)
    → past ask (drop j places) ≡ drop k places
    → Standing t0 t h i j end asks places → Standing t0 t1 h (i + 1) k end asks places
stood_on t0 t t1 h c i j k end asks places ask u named less asked writes stands over so_far = λ v kids seen.
    let p = so_far v kids seen in
    let e = p.ends in
    let f = ap (λ (hs : List Handle). length hs) p.alike in
    let there = nth_tree i p.now h (omega (arith, e, f, less)) in
    let hs : children_at t h ≡ tops p.now = seen_children t h v p.now p.turns.stands in
    let name : get_or (tops p.now) i h ≡ c = sym (named ∙ ap (λ (xs : List Handle). get_or xs i h) hs) in
    let is : skip i p.now ≡ tree c there.0 there.1 there.2 = there.3 ∙ ap (λ (x : Handle). tree x there.0 there.1 there.2) name in
    let kid = child_seen t h c v there.0 p.now there.1 there.2 i p.turns.stands is in
    let was : state_at t c ≡ state_in there.0 = stored_state t c there.0 (tops there.1) (seen_stored t c there.0 there.1 kid) in
    let turned = child_turns t t1 h c v there.0 (node_with u there.0) p.now there.1 there.1 there.2 i p.turns.stands is (λ w. refl) (writes there.0 there.1 kid) in
    let next : Forest LayoutNode = put i (node_with u there.0) there.1 p.now in
    let ask_is : ask_of (drop i asks) ≡ ask = ask_drop asks i ∙ asked in
    let written : node_with u there.0 ≡ stood_as (ask_of (drop i asks)) (place_of (drop j places)) there.0 =
    stands there.0 was ∙ ap (λ (o : Option Ask). stood_as o (get_or places j origin) there.0) (sym ask_is)
    ∙ ap (λ (at : Offset). stood_as (ask_of (drop i asks)) at there.0) (sym (place_drop places j)) in
    let more : i + 1 ≡ suc i = omega arith in
    record {
      now = next;
      turns = turn_again t0 t t1 h (tree h v kids none) (tree h v p.now none) (tree h v next none)
          (λ x. let n = p.weighs (λ y. cond {A = ℕ} (same y x) 1 0) in omega (arith, n)) p.turns turned;
      alike = put_tops i (node_with u there.0) there.1 p.now ∙ p.alike;
      weighs = λ w. put_weigh w i c there.0 (node_with u there.0) there.1 there.1 there.2 p.now is refl ∙ p.weighs w;
      left = subst (λ (n : ℕ). stand_left n (drop n asks) (drop k places) next ≡ stand_all asks places kids) (sym more)
          (ap (λ (xs : List (Option Ask)). stand_left (suc i) xs (drop k places) next) (sym (later_drop asks i))
          ∙ ap (λ (ps : List Offset). stand_left (suc i) (later (drop i asks)) ps next) (sym over)
          ∙ ap (λ (o : Option Ask). stand_left (suc i) (later (drop i asks)) (past o (drop j places)) next) (sym ask_is)
          ∙ ap (λ (x : LayoutNode). stand_left (suc i) (later (drop i asks)) (past (ask_of (drop i asks)) (drop j places)) (put i x there.1 p.now)) written
          ∙ left_put i (drop i asks) (drop j places) c there.0 there.1 there.2 p.now is
          ∙ p.left);
      ends = p.ends;
    }

pub over_none : (places : List Offset) (j : ℕ) → past None (drop j places) ≡ drop j places
over_none places j = refl

pub over_some : (ask : Ask) (places : List Offset) (j : ℕ) → past (Some ask) (drop j places) ≡ drop (j + 1) places
over_some ask places j = rest_drop places j ∙ ap (λ (n : ℕ). drop n places) (let e : suc j ≡ j + 1 = omega arith in e)

pub stood_end : (t0 t : Tree RenderObject) (h : Handle) (i j end : ℕ) (asks : List (Option Ask)) (places : List Offset) → (i < end → ⊥) → Standing t0 t h i j end asks places
    → (v : LayoutNode) (kids : Forest LayoutNode) → SeenAt t0 h (tree h v kids none) → Turns t0 t h (tree h v kids none) (tree h v (stand_all asks places kids) none)
stood_end t0 t h i j end asks places over stands = λ v kids seen.
    let p = stands v kids seen in
    let e = p.ends in
    let f = ap (λ (hs : List Handle). length hs) p.alike in
    let all : p.now ≡ stand_all asks places kids = sym (left_over i (drop i asks) (drop j places) p.now (omega (arith, e, f, over))) ∙ p.left in
    subst (λ (g : Forest LayoutNode). Turns t0 t h (tree h v kids none) (tree h v g none)) all p.turns

pub over_ask : (ask : Option Ask) (places : List Offset) (j : ℕ) → past ask (drop j places) ≡ drop (past_in ask j) places
over_ask None places j = refl
over_ask (Some ask) places j = over_some ask places j

stands_so : (ask : Option Ask) (at : Offset) (w : LayoutNode) → node_with (standing_as ask at (state_in w)) w ≡ stood_as ask at w
stands_so None at w = refl
stands_so (Some ask) at w = refl

standing_still : (ask : Option Ask) (at : Offset) (u : LayoutState) → place_in (standing_as ask at u) ≡ place_in u → standing_as ask at u ≡ u
standing_still None at u e = ap (λ (p : PaintedPlace). record u { offset = p.offset; shown = p.shown }) e
standing_still (Some ask) at u e = ap (λ (p : PaintedPlace). record u { offset = p.offset; shown = p.shown }) e

-- one more child stands where it should, and is written where it didn't before
pub stood_step : (t0 t t1 : Tree RenderObject) (h c : Handle) (i j k end : ℕ) (asks : List (Option Ask)) (places : List Offset) (ask : Option Ask) (at : Offset) (b : Bool)
    → c ≡ get_or (children_at t h) i h → i < end → get_or asks i None ≡ ask → at ≡ get_or places j origin
    → (b ≡ true → Changes t t1 c (with_layout_state (standing_as ask at (state_at t c)))) → (b ≡ false → t1 ≡ t)
    → (b ≡ false → place_in (standing_as ask at (state_at t c)) ≡ place_in (state_at t c))
    → past ask (drop j places) ≡ drop k places
    → Standing t0 t h i j end asks places → Standing t0 t1 h (i + 1) k end asks places
stood_step t0 t t1 h c i j k end asks places ask at b named less asked placed changes stays still over so_far = by b refl
  where
    u : LayoutState
    u = standing_as ask at (state_at t c)

    stands : (w : LayoutNode) → state_at t c ≡ state_in w → node_with u w ≡ stood_as ask (get_or places j origin) w
    stands w was = ap (λ (x : LayoutState). node_with (standing_as ask at x) w) was ∙ stands_so ask at w ∙ ap (λ (p : Offset). stood_as ask p w) placed

    same_node : (w : LayoutNode) (ws : Forest LayoutNode) → b ≡ false → SeenAt t c (tree c w ws none) → w ≡ node_with u w
    same_node w ws e kid =
        sym (ap (λ (x : LayoutState). node_with x w) (standing_still ask at (state_at t c) (still e) ∙ stored_state t c w (tops ws) (seen_stored t c w ws kid)))

    by : (x : Bool) → b ≡ x → Standing t0 t1 h (i + 1) k end asks places
    by true e = stood_on t0 t t1 h c i j k end asks places ask u named less asked (λ w ws kid. node_turns t t1 c w ws u kid (changes e)) stands over so_far
    by false e = stood_on t0 t t1 h c i j k end asks places ask u named less asked
        (λ w ws kid. subst (λ (x : Tree RenderObject). Turns t x c (tree c w ws none) (tree c (node_with u w) ws none)) (sym (stays e))
        (subst (λ (x : LayoutNode). Turns t t c (tree c w ws none) (tree c x ws none)) (same_node w ws e kid) (turn_same t c (tree c w ws none) kid)))
        stands over so_far

pub past_few : (ask : Option Ask) (j i : ℕ) → j ≤ i → past_in ask j ≤ i + 1
past_few None j i few = omega (arith, few)
past_few (Some ask) j i few = omega (arith, few)

-- ---- a child that is put at its place

standing_written : (t : Tree RenderObject) (h : Handle) (at : Option Offset) (o : RenderObject) → object_at t h ≡ Some o → with_standing at o ≡ with_layout_state (put_at at (state_at t h)) o
standing_written t h None o is = ap (λ (x : Option RenderObject). with_layout_state (put_at None (state_or x)) o) (sym is)
standing_written t h (Some at) o is = ap (λ (x : Option RenderObject). with_layout_state (put_at (Some at) (state_or x)) o) (sym is)

pub standing_changes : (t t1 : Tree RenderObject) (h : Handle) (at : Option Offset) → Changes t t1 h (with_standing at) → Changes t t1 h (with_layout_state (put_at at (state_at t h)))
standing_changes t t1 h at c = record {
  live = λ o is. subst (λ (x : RenderObject). Writes t t1 h x) (standing_written t h at o is) (c.live o is);
  dead = c.dead;
}

pub stands_as : (ask : Option Ask) (at : Offset) (u : LayoutState) → put_at (option_map (λ (a : Ask). at) ask) u ≡ standing_as ask at u
stands_as None at u = refl
stands_as (Some ask) at u = refl
