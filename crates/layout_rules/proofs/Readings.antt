-- What is read of the children of a node, by their handles, is what is seen of them.
use Rattle.std.proofs.Common.{◌≡◌, ap, refl, sym, ◌∙◌, ℕ, Bool, false, ◌||◌, Option, Some, None, option_map, List, [], ◌∷◌, map}
use Rattle.fx_handles.specs.declared.Handle.{Handle}
use Rattle.node_tree.specs.Forest.{Forest, Stands, tops}
use Rattle.node_tree.specs.Forest.Forest.{none, tree}
use Rattle.node_tree.specs.Tree.{Tree, IsTree, children_at}
use Rattle.plain_tree.specs.declared.laid.Frame.{Frame}
use Rattle.plain_tree.specs.Render.{Render, render, Renders, no_renders, more_renders, list_of, renders_of}
use Rattle.layout_form.specs.declared.asks.Ask.{Ask}
use Rattle.layout_form.specs.declared.asks.Ask.TheVariants.{AsBox, AsSliver}
use Rattle.layout_form.specs.Intrinsic.{liked_by}
use Rattle.layout_form.specs.Layout.{object, objects as objects_of}
use Rattle.layout_form.specs.Object.{Setting, Object, only_of, setting_of}
use Rattle.kind_rules.specs.Asked.{liked_for, first_for, found_for, rest_for}
use Rattle.kind_rules.specs.Cursor.{look_of, count_in, children_of}
use Rattle.delegates.specs.Table.{Plug}
use Rattle.fx_geom.specs.declared.scales.Scale.{Scale}
use Rattle.widget_model.specs.Look.{Look, row, column, stack, viewport}
use Rattle.layout_form.specs.Protocol.{Found, box_first}
use Rattle.layout_form.proofs.Objects.{objects_map}
use Rattle.layout_form.specs.Framed.{answers_of, last_asks}
use Rattle.render_tree.specs.declared.layout_state.LayoutState.{LayoutState}
use Rattle.plain_tree.specs.declared.render.ParentData.{ParentData}
use Rattle.render_tree.specs.Object.{RenderObject}
use Rattle.layout_walk.specs.Node.{LayoutNode, member, renders_in, stored, frame_or}
use Rattle.layout_walk.specs.Rules.{first_in, liked_in, rest_in}
use Rattle.layout_walk.specs.Walk.{any_mark, kept_ask, kept_asks}
use Rattle.layout_rules.specs.Nodes.{seen_at, SeenAt}
use Rattle.layout_rules.specs.Places.{render_at}
use Rattle.layout_rules.specs.Reads.{first_by, rest_by, state_or, state_at, told_or, told_at, frames_at, kept_in, kept_at, marks_at, finds_in, asks_again}
use Rattle.layout_rules.proofs.Turning.{Stored, stored_at, seen_stored, seen_children, seen_render}

-- the parts of a state are those of the node
abbrev pub state_in : LayoutNode → LayoutState
state_in v = record {
  scroll = v.scroll;
  frame = v.frame;
  notes = v.notes;
  plugged = v.plugged;
  scrolled = v.scrolled;
  offset = v.offset;
  shown = v.shown;
  needs_layout = v.needs_layout;
  layout_below = v.layout_below;
}

pub stored_state : (t : Tree RenderObject) (h : Handle) (v : LayoutNode) (hs : List Handle) → Stored t h v hs → state_at t h ≡ state_in v
stored_state t h v hs s = ap (λ (o : Option RenderObject). state_or o) s.is ∙ ap (λ (x : LayoutNode). state_in x) s.seen

pub stored_told : (t : Tree RenderObject) (h : Handle) (v : LayoutNode) (hs : List Handle) → Stored t h v hs → told_at t h ≡ v.told
stored_told t h v hs s = ap (λ (o : Option RenderObject). told_or o) s.is ∙ ap (λ (x : LayoutNode). x.told) s.seen

top_state : (t : Tree RenderObject) (p : Option Handle) (h : Handle) (v : LayoutNode) (kids rest : Forest LayoutNode) → Stands (seen_at t) p (tree h v kids rest) → state_at t h ≡ state_in v
top_state t p h v kids rest stands = stored_state t h v (tops kids) (stored_at t h p v (tops kids) stands.0)

marks_in : (t : Tree RenderObject) (p : Option Handle) (f : Forest LayoutNode) → Stands (seen_at t) p f → marks_at t (tops f) ≡ any_mark f
marks_in t p none stands = refl
marks_in t p (tree h v kids rest) stands =
    ap (λ (u : LayoutState). u.needs_layout || (u.layout_below || marks_at t (tops rest))) (top_state t p h v kids rest stands)
    ∙ ap (λ (b : Bool). v.needs_layout || (v.layout_below || b)) (marks_in t p rest stands.2)

pub marks_are : (t : Tree RenderObject) (h : Handle) (v : LayoutNode) (kids : Forest LayoutNode) → SeenAt t h (tree h v kids none) → marks_at t (children_at t h) ≡ any_mark kids
marks_are t h v kids seen = ap (λ (hs : List Handle). marks_at t hs) (seen_children t h v kids seen) ∙ marks_in t (Some h) kids seen.stands.1

kept_inside : (t : Tree RenderObject) (p : Option Handle) (f : Forest LayoutNode) → Stands (seen_at t) p f → kept_at t (tops f) ≡ kept_asks f
kept_inside t p none stands = refl
kept_inside t p (tree h v kids rest) stands =
    ap (λ (u : LayoutState). kept_in u ∷ kept_at t (tops rest)) (top_state t p h v kids rest stands)
    ∙ ap (λ (xs : List (Option Ask)). kept_ask v ∷ xs) (kept_inside t p rest stands.2)

pub kept_are : (t : Tree RenderObject) (h : Handle) (v : LayoutNode) (kids : Forest LayoutNode) → SeenAt t h (tree h v kids none) → kept_at t (children_at t h) ≡ kept_asks kids
kept_are t h v kids seen = ap (λ (hs : List Handle). kept_at t hs) (seen_children t h v kids seen) ∙ kept_inside t (Some h) kids seen.stands.1

frames_in : (t : Tree RenderObject) (p : Option Handle) (asks : List (Option Ask)) (f : Forest LayoutNode) → Stands (seen_at t) p f → frames_at t asks (tops f) ≡ answers_of asks (stored f)
frames_in t p asks none stands = refl
frames_in t p [] (tree h v kids rest) stands = ap (λ (fs : List (Option Frame)). None ∷ fs) (frames_in t p [] rest stands.2)
frames_in t p (ask ∷ asks) (tree h v kids rest) stands =
    ap (λ (u : LayoutState). option_map (λ (a : Ask). frame_or u.frame) ask ∷ frames_at t asks (tops rest)) (top_state t p h v kids rest stands)
    ∙ ap (λ (fs : List (Option Frame)). option_map (λ (a : Ask). frame_or v.frame) ask ∷ fs) (frames_in t p asks rest stands.2)

pub frames_are : (t : Tree RenderObject) (asks : List (Option Ask)) (h : Handle) (v : LayoutNode) (kids : Forest LayoutNode) → SeenAt t h (tree h v kids none)
    → frames_at t asks (children_at t h) ≡ answers_of asks (stored kids)
frames_are t asks h v kids seen = ap (λ (hs : List Handle). frames_at t asks hs) (seen_children t h v kids seen) ∙ frames_in t (Some h) asks kids seen.stands.1

-- ---- rules, by the render node of a handle

rest_of_render : (v : LayoutNode) (kids : Forest LayoutNode) (u : LayoutState) (ask : Ask) (ds : List ParentData) (known : List (Option Frame)) → u.scroll ≡ v.scroll
    → rest_by (render v.number v.look v.told v.scroll v.count (renders_in kids)) u ask ds known ≡ rest_in (member v) v.scroll ask ds known
rest_of_render v kids u (AsBox b) ds known is = ap (λ (n : ℕ). rest_in (member v) n (AsBox b) ds known) is
rest_of_render v kids u (AsSliver b) ds known is = refl

pub rest_seen : (t : Tree RenderObject) (h : Handle) (v : LayoutNode) (kids : Forest LayoutNode) → IsTree t → SeenAt t h (tree h v kids none) → (ask : Ask) (ds : List ParentData) (known : List (Option Frame))
    → rest_by (render_at t h) (state_at t h) ask ds known ≡ rest_in (member v) v.scroll ask ds known
rest_seen t h v kids is seen ask ds known =
    ap (λ (r : Render). rest_by r (state_at t h) ask ds known) (seen_render t h v kids is seen)
    ∙ rest_of_render v kids (state_at t h) ask ds known (ap (λ (u : LayoutState). u.scroll) (stored_state t h v (tops kids) (seen_stored t h v kids seen)))

first_of_render : (s : Setting) (v : LayoutNode) (kids : Forest LayoutNode) (ask : Ask) (ds : List ParentData)
    → first_by s (render v.number v.look v.told v.scroll v.count (renders_in kids)) ask ds ≡ first_in s (member v) ask (liked_in s v.look ask (renders_in kids)) ds
first_of_render s v kids (AsBox b) ds = ap (λ (cs : List Object). box_first s v.look b (liked_by v.look b (only_of cs)) ds) (sym (objects_map s (list_of (renders_in kids))) ∙ ap (λ (rs : Renders). objects_of s rs) (listed (renders_in kids)))
  where
    listed : (rs : Renders) → renders_of (list_of rs) ≡ rs
    listed no_renders = refl
    listed (more_renders r rs) = ap (λ (x : Renders). more_renders r x) (listed rs)
first_of_render s v kids (AsSliver b) ds = refl

pub first_seen : (s : Setting) (t : Tree RenderObject) (h : Handle) (v : LayoutNode) (kids : Forest LayoutNode) → IsTree t → SeenAt t h (tree h v kids none) → (ask : Ask) (ds : List ParentData)
    → first_by s (render_at t h) ask ds ≡ first_in s (member v) ask (liked_in s v.look ask (renders_in kids)) ds
first_seen s t h v kids is seen ask ds = ap (λ (r : Render). first_by s r ask ds) (seen_render t h v kids is seen) ∙ first_of_render s v kids ask ds

-- whom a rule asks first, as the code reads it
pub first_read : (m : List Plug) (scale one two : Scale) (r place : Render) (k1 k2 : Look) (n liked : ℕ) (ask : Ask) (ds : List ParentData)
    → place ≡ r → one ≡ scale → two ≡ scale → k1 ≡ look_of place → k2 ≡ look_of place → n ≡ count_in place
    → liked ≡ liked_for k1 ask (only_of (map (object (setting_of one m)) (children_of place)))
    → first_for (setting_of two m) k2 n ask liked ds ≡ first_by (setting_of scale m) r ask ds
first_read m scale one two r place k1 k2 n liked ask ds at s1 s2 e1 e2 en el =
    let look1 : k1 ≡ look_of r = e1 ∙ ap look_of at in
    let look2 : k2 ≡ look_of r = e2 ∙ ap look_of at in
    let count : n ≡ count_in r = en ∙ ap count_in at in
    let likes : liked ≡ liked_for (look_of r) ask (only_of (map (object (setting_of scale m)) (children_of r))) =
    el
    ∙ ap (λ (q : Render). liked_for k1 ask (only_of (map (object (setting_of one m)) (children_of q)))) at
    ∙ ap (λ (l : Look). liked_for l ask (only_of (map (object (setting_of one m)) (children_of r)))) look1
    ∙ ap (λ (c : Scale). liked_for (look_of r) ask (only_of (map (object (setting_of c m)) (children_of r)))) s1 in
    ap (λ (c : Scale). first_for (setting_of c m) k2 n ask liked ds) s2
    ∙ ap (λ (l : Look). first_for (setting_of scale m) l n ask liked ds) look2
    ∙ ap (λ (x : ℕ). first_for (setting_of scale m) (look_of r) x ask liked ds) count
    ∙ ap (λ (x : ℕ). first_for (setting_of scale m) (look_of r) (count_in r) ask x ds) likes

-- ---- by which frames it is told whom a course asks then

pub first_alone : (first : List (Option Ask)) → last_asks first [] ≡ first
first_alone [] = refl
first_alone (ask ∷ asks) = refl

again_none : (l : Look) (ask : Ask) (found : Found) (ds : List ParentData) (fs : List (Option Frame)) → asks_again l ≡ false → [] ≡ rest_for l ask found ds fs
again_none (row main cross size) ask found ds fs e = cc
again_none (column main cross size) ask found ds fs e = cc
again_none (stack ax ay fit) ask found ds fs e = cc
again_none (viewport axis) ask found ds fs e = cc
again_none l (AsBox b) found ds fs e = refl
again_none l (AsSliver b) found ds fs e = refl

-- where a kind asks nobody by the first answers, any will do
pub rest_none : (r place : Render) (l : Look) (b : Bool) (u : LayoutState) (ask : Ask) (ds : List ParentData) (fs : List (Option Frame))
    → place ≡ r → l ≡ look_of place → b ≡ asks_again l → b ≡ false → [] ≡ rest_by r u ask ds fs
rest_none r place l b u ask ds fs at looks again unread =
    let is : b ≡ asks_again (look_of r) = again ∙ ap asks_again (looks ∙ ap look_of at) in
    again_none (look_of r) ask (found_for (look_of r) u.scroll ask fs) ds fs (sym is ∙ unread)

finds_none : (l : Look) (n : ℕ) (ask : Ask) (fs : List (Option Frame)) → finds_in l ≡ false → found_for l n ask [] ≡ found_for l n ask fs
finds_none (stack ax ay fit) n ask fs e = cc
finds_none (viewport axis) n ask fs e = cc
finds_none l n (AsBox b) fs e = refl
finds_none l n (AsSliver b) fs e = refl

pub found_none : (l : Look) (b : Bool) (n : ℕ) (ask : Ask) (fs : List (Option Frame)) → b ≡ finds_in l → b ≡ false → found_for l n ask [] ≡ found_for l n ask fs
found_none l b n ask fs finds unread = finds_none l n ask fs (sym finds ∙ unread)
