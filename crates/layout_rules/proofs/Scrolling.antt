-- How far slivers can be scrolled through, as it is read in an arena.
use Rattle.std.proofs.Common.{◌≡◌, ap, refl, sym, ◌∙◌, subst, ℕ, zero, suc, ◌+◌, ◌<◌, ◌≤◌, Bool, true, false, cond, Option, Some, None, IsSome, List, [], ◌∷◌, ◌++◌, length, get_or, arith}
use Rattle.std.proofs.lemmas.List.{append_assoc, append-nil}
use Rattle.fx_geom.specs.declared.shapes.Axis.{Axis}
use Rattle.fx_geom.specs.declared.shapes.Insets.{Insets}
use Rattle.fx_geom.specs.declared.shapes.Size.{Size}
use Rattle.fx_geom.specs.Insets.{extent_of, before, after}
use Rattle.fx_geom.specs.Len.{stopped}
use Rattle.fx_handles.specs.declared.Handle.{Handle}
use Rattle.node_tree.specs.Forest.{TreeNode, Forest, tops, skip}
use Rattle.node_tree.specs.Forest.Forest.{none, tree}
use Rattle.node_tree.specs.Tree.{Tree, IsNode, IsTree, Holds, StandsAt, children_at, subtree_at}
use Rattle.sliver_layout.specs.declared.protocol.SliverBounds.{SliverBounds}
use Rattle.widget_model.specs.Look.{Look, sliver_padding}
use Rattle.plain_tree.specs.declared.laid.Frame.{Frame}
use Rattle.plain_tree.specs.declared.laid.Frame.TheVariants.{Sliver}
use Rattle.plain_tree.specs.Render.{Render}
use Rattle.plain_tree.specs.Shown.{box_size}
use Rattle.layout_form.specs.Object.{frame_geometry}
use Rattle.layout_form.specs.Single.{insets_of}
use Rattle.layout_form.specs.SliverRule.{unseen}
use Rattle.kind_rules.specs.Cursor.{look_of, count_in}
use Rattle.render_tree.specs.declared.layout_state.LayoutState.{LayoutState}
use Rattle.render_tree.specs.Object.{RenderObject}
use Rattle.render_tree.specs.Tree.{RenderTree}
use Rattle.layout_walk.specs.Node.{LayoutNode, frame_or, tellings}
use Rattle.layout_walk.specs.Measure.{is_open, cross_in, extent_by, extent_in, first_extent, extents_in, stored_extent}
use Rattle.layout_rules.specs.Ending.{measured_frame, measured_frames}
use Rattle.layout_rules.specs.Scrolls.{padding_in, alone_extent}
use Rattle.layout_rules.specs.Marks.{open_in}
use Rattle.layout_rules.specs.Nodes.{SeenAt}
use Rattle.layout_rules.specs.Places.{render_at}
use Rattle.layout_rules.specs.Reads.{state_at}
use Rattle.layout_rules.proofs.Putting.{nth_tree}
use Rattle.layout_rules.proofs.Readings.{state_in, stored_state}
use Rattle.layout_rules.proofs.Turning.{seen_stored, seen_children, seen_render, child_seen}

-- what is read of a node is what is seen of it
pub look_read : (t : Tree RenderObject) (h : Handle) (v : LayoutNode) (kids : Forest LayoutNode) (place : Render) (look : Look) → IsTree t → SeenAt t h (tree h v kids none)
    → place ≡ render_at t h → look ≡ look_of place → look ≡ v.look
look_read t h v kids place look is seen at looks = looks ∙ ap (λ (r : Render). look_of r) (at ∙ seen_render t h v kids is seen)

pub count_read : (t : Tree RenderObject) (h : Handle) (v : LayoutNode) (kids : Forest LayoutNode) (place : Render) (n : ℕ) → IsTree t → SeenAt t h (tree h v kids none)
    → place ≡ render_at t h → n ≡ count_in place → n ≡ v.count
count_read t h v kids place n is seen at counts = counts ∙ ap (λ (r : Render). count_in r) (at ∙ seen_render t h v kids is seen)

pub place_read : (t : Tree RenderObject) (h at : Handle) (r now : RenderTree) → r ≡ now → now.tree ≡ t → at ≡ h → render_at r.tree at ≡ render_at t h
place_read t h at r now trees is ats = ap (λ (x : RenderTree). render_at x.tree at) trees ∙ ap (λ (x : Tree RenderObject). render_at x at) is ∙ ap (λ (k : Handle). render_at t k) ats

pub state_read : (t : Tree RenderObject) (h : Handle) (v : LayoutNode) (kids : Forest LayoutNode) → SeenAt t h (tree h v kids none) → state_at t h ≡ state_in v
state_read t h v kids seen = stored_state t h v (tops kids) (seen_stored t h v kids seen)

length_told : (f : Forest LayoutNode) → length (tops f) ≡ length (tellings f)
length_told none = refl
length_told (tree h v kids rest) = ap suc (length_told rest)

pub children_told : (t : Tree RenderObject) (h : Handle) (v : LayoutNode) (kids : Forest LayoutNode) → SeenAt t h (tree h v kids none) → length (children_at t h) ≡ length (tellings kids)
children_told t h v kids seen = ap (λ (hs : List Handle). length hs) (seen_children t h v kids seen) ∙ length_told kids

-- ---- by whether it is open

is_open_read : (t : Tree RenderObject) (h : Handle) (axis : Axis) (cross : ℕ) (v : LayoutNode) (kids : Forest LayoutNode) (u : LayoutState) (b : Bool) → SeenAt t h (tree h v kids none) → u ≡ state_at t h
    → b ≡ open_in axis cross u → is_open axis cross v ≡ b
is_open_read t h axis cross v kids u b seen is opens = sym (opens ∙ ap (λ (x : LayoutState). open_in axis cross x) (is ∙ state_read t h v kids seen))

pub closed_extent : (t : Tree RenderObject) (h : Handle) (axis : Axis) (cross : ℕ) (v : LayoutNode) (kids : Forest LayoutNode) (u : LayoutState) (b : Bool) (n : ℕ) → SeenAt t h (tree h v kids none)
    → u ≡ state_at t h → b ≡ open_in axis cross u → b ≡ false → n ≡ (frame_geometry (frame_or u.frame)).scroll
    → n ≡ extent_in axis cross v kids (λ c. first_extent axis c kids)
closed_extent t h axis cross v kids u b n seen is opens closed reads =
    reads ∙ ap (λ (x : LayoutState). (frame_geometry (frame_or x.frame)).scroll) (is ∙ state_read t h v kids seen)
    ∙ sym (ap (λ (x : Bool). cond {A = ℕ} x (extent_by v.look v.count axis cross kids (λ c. first_extent axis c kids)) (frame_geometry (frame_or v.frame)).scroll)
    (is_open_read t h axis cross v kids u b seen is opens ∙ closed))

pub open_extent : (t : Tree RenderObject) (h : Handle) (axis : Axis) (cross : ℕ) (v : LayoutNode) (kids : Forest LayoutNode) (u : LayoutState) (b : Bool) (n : ℕ) → SeenAt t h (tree h v kids none)
    → u ≡ state_at t h → b ≡ open_in axis cross u → b ≡ true → n ≡ extent_by v.look v.count axis cross kids (λ c. first_extent axis c kids)
    → n ≡ extent_in axis cross v kids (λ c. first_extent axis c kids)
open_extent t h axis cross v kids u b n seen is opens opened reads =
    reads
    ∙ sym (ap (λ (x : Bool). cond {A = ℕ} x (extent_by v.look v.count axis cross kids (λ c. first_extent axis c kids)) (frame_geometry (frame_or v.frame)).scroll)
    (is_open_read t h axis cross v kids u b seen is opens ∙ opened))

-- ---- the first child

no_first : (h : Handle) (hs : List Handle) → h ∷ hs ≡ [] → ⊥
no_first h hs e = cc

pub first_none : (t : Tree RenderObject) (h : Handle) (v : LayoutNode) (kids : Forest LayoutNode) → SeenAt t h (tree h v kids none) → children_at t h ≡ [] → kids ≡ none
first_none t h v none seen is = refl
first_none t h v (tree k w below rest) seen is = absurd (no_first k (tops rest) (sym (seen_children t h v (tree k w below rest) seen) ∙ is))

-- the first child, as it is seen
pub record FirstChild (t : Tree RenderObject) (c : Handle) (kids : Forest LayoutNode) : Type 0 where
  pub value : LayoutNode
  pub below : Forest LayoutNode
  pub after : Forest LayoutNode
  pub is : kids ≡ tree c value below after
  pub seen : SeenAt t c (tree c value below none)

pub nth_child : (t : Tree RenderObject) (h c z : Handle) (i : ℕ) (v : LayoutNode) (kids : Forest LayoutNode) → SeenAt t h (tree h v kids none) → i < length (children_at t h)
    → c ≡ get_or (children_at t h) i z → FirstChild t c (skip i kids)
nth_child t h c z i v kids seen less named =
    let hs = seen_children t h v kids seen in
    let e = ap (λ (ks : List Handle). length ks) hs in
    let there = nth_tree i kids z (omega (arith, e, less)) in
    let name : get_or (tops kids) i z ≡ c = sym (named ∙ ap (λ (xs : List Handle). get_or xs i z) hs) in
    let is : skip i kids ≡ tree c there.0 there.1 there.2 = there.3 ∙ ap (λ (k : Handle). tree k there.0 there.1 there.2) name in
    record {
      value = there.0;
      below = there.1;
      after = there.2;
      is = is;
      seen = child_seen t h c v there.0 kids there.1 there.2 i seen is;
    }

-- ---- all slivers of a Viewport

after_skip : (i : ℕ) (f : Forest LayoutNode) (c : Handle) (v : LayoutNode) (below after : Forest LayoutNode) → skip i f ≡ tree c v below after → skip (suc i) f ≡ after
after_skip zero none c v below after is = absurd (no_tree c v below after is)
  where
    no_tree : (c : Handle) (v : LayoutNode) (below after : Forest LayoutNode) → none ≡ tree c v below after → ⊥
    no_tree c v below after e = cc
after_skip (suc i) none c v below after is = absurd (no_tree c v below after is)
  where
    no_tree : (c : Handle) (v : LayoutNode) (below after : Forest LayoutNode) → none ≡ tree c v below after → ⊥
    no_tree c v below after e = cc
after_skip zero (tree h w kids rest) c v below after is = let e : rest ≡ after = cc in e
after_skip (suc i) (tree h w kids rest) c v below after is = after_skip i rest c v below after is

skip_all : (i : ℕ) (f : Forest LayoutNode) → length (tops f) ≤ i → skip i f ≡ none
skip_all zero none few = refl
skip_all (suc i) none few = refl
skip_all zero (tree h v kids rest) few = absurd (omega (arith, few))
skip_all (suc i) (tree h v kids rest) few = skip_all i rest (omega (arith, few))

-- the frames of the first i, as they are filled
abbrev pub Filled : Tree RenderObject → Handle → Axis → ℕ → ℕ → List (Option Frame) → Type 0
Filled t h axis cross i frames = (v : LayoutNode) (kids : Forest LayoutNode) → SeenAt t h (tree h v kids none)
    → frames ++ measured_frames axis cross (extents_in axis cross (skip i kids)) ≡ measured_frames axis cross (extents_in axis cross kids)

pub filled_start : (t : Tree RenderObject) (h : Handle) (axis : Axis) (cross : ℕ) (frames : List (Option Frame)) → frames ≡ [] → Filled t h axis cross 0 frames
filled_start t h axis cross frames is v kids seen = ap (λ (fs : List (Option Frame)). fs ++ measured_frames axis cross (extents_in axis cross kids)) is

pub filled_on : (t : Tree RenderObject) (h c z : Handle) (axis : Axis) (cross i n : ℕ) (view : SliverBounds) (frames after : List (Option Frame)) → i < length (children_at t h) → c ≡ get_or (children_at t h) i z
    → ((v : LayoutNode) (kids : Forest LayoutNode) → SeenAt t c (tree c v kids none) → n ≡ extent_in axis cross v kids (λ c. first_extent axis c kids)) → view ≡ unseen axis cross
    → after ≡ frames ++ Some (Sliver view (record { scroll = n; paint = 0 })) ∷ [] → Filled t h axis cross i frames → Filled t h axis cross (i + 1) after
filled_on t h c z axis cross i n view frames after less named reads is_view pushed filled v kids seen =
    let one = nth_child t h c z i v kids seen less named in
    let more : i + 1 ≡ suc i = omega arith in
    let left : skip (i + 1) kids ≡ one.after = ap (λ (k : ℕ). skip k kids) more ∙ after_skip i kids c one.value one.below one.after one.is in
    ap (λ (fs : List (Option Frame)). fs ++ measured_frames axis cross (extents_in axis cross (skip (i + 1) kids))) (pushed ∙ ap (λ (b : SliverBounds). frames ++ Some (Sliver b (record { scroll = n; paint = 0 })) ∷ []) is_view)
    ∙ append_assoc frames (Some (measured_frame axis cross n) ∷ []) (measured_frames axis cross (extents_in axis cross (skip (i + 1) kids)))
    ∙ ap (λ (f : Forest LayoutNode). frames ++ Some (measured_frame axis cross n) ∷ measured_frames axis cross (extents_in axis cross f)) left
    ∙ ap (λ (k : ℕ). frames ++ Some (measured_frame axis cross k) ∷ measured_frames axis cross (extents_in axis cross one.after)) (reads one.value one.below one.seen)
    ∙ ap (λ (f : Forest LayoutNode). frames ++ measured_frames axis cross (extents_in axis cross f)) (sym one.is)
    ∙ filled v kids seen

pub filled_end : (t : Tree RenderObject) (h : Handle) (axis : Axis) (cross i : ℕ) (frames : List (Option Frame)) → length (children_at t h) ≤ i → Filled t h axis cross i frames
    → (v : LayoutNode) (kids : Forest LayoutNode) → SeenAt t h (tree h v kids none) → frames ≡ measured_frames axis cross (extents_in axis cross kids)
filled_end t h axis cross i frames over filled v kids seen =
    let e = ap (λ (ks : List Handle). length ks) (seen_children t h v kids seen) in
    sym (append-nil frames) ∙ ap (λ (f : Forest LayoutNode). frames ++ measured_frames axis cross (extents_in axis cross f)) (sym (skip_all i kids (omega (arith, e, over)))) ∙ filled v kids seen

-- ---- a live node

nil_cons : (h : Handle) (hs : List Handle) → [] ≡ h ∷ hs → ⊥
nil_cons h hs e = cc

pub held_live : (t : Tree RenderObject) (h : Handle) → Holds t h → IsNode t h
held_live t h holds = by (subtree_at t h) holds
  where
    by : (s : Forest RenderObject) → StandsAt t h s → IsNode t h
    by none stands = absurd (nil_cons h [] stands.top)
    by (tree k o below rest) stands =
        let top = stands.top in
        let same : k ≡ h = cc in
        subst (λ (x : Handle). IsNode t x) same (subst (λ (n : Option (TreeNode RenderObject)). IsSome n) (sym stands.stands.0) refl)

-- ---- the first child, as it is read

no_child : (c : Handle) (v : LayoutNode) (below after : Forest LayoutNode) → none ≡ tree c v below after → ⊥
no_child c v below after e = cc

pub box_none : (t : Tree RenderObject) (h : Handle) (axis : Axis) (v : LayoutNode) (kids : Forest LayoutNode) → SeenAt t h (tree h v kids none) → length (children_at t h) ≤ 0 → 0 ≡ stored_extent axis kids
box_none t h axis v none seen few = refl
box_none t h axis v (tree k w below rest) seen few = absurd (let e = ap (λ (hs : List Handle). length hs) (seen_children t h v (tree k w below rest) seen) in omega (arith, e, few))

pub box_some : (t : Tree RenderObject) (h c : Handle) (axis : Axis) (v : LayoutNode) (kids : Forest LayoutNode) (u : LayoutState) (frame : Frame) (size : Size) (n : ℕ) → SeenAt t h (tree h v kids none)
    → 0 < length (children_at t h) → c ≡ get_or (children_at t h) 0 c → u ≡ state_at t c → frame ≡ frame_or u.frame → size ≡ box_size frame → n ≡ extent_of size axis → n ≡ stored_extent axis kids
box_some t h c axis v kids u frame size n seen less named state frames sizes extents =
    let one = nth_child t h c c 0 v kids seen less named in
    let u_is : u ≡ state_in one.value = state ∙ state_read t c one.value one.below one.seen in
    extents
    ∙ ap (λ (s : Size). extent_of s axis) (sizes ∙ ap (λ (f : Frame). box_size f) (frames ∙ ap (λ (x : LayoutState). frame_or x.frame) u_is))
    ∙ ap (λ (f : Forest LayoutNode). stored_extent axis f) (sym one.is)

-- ---- by its kind

some_none : {X : Type 0} (x : X) → Some x ≡ None → ⊥
some_none x e = cc

none_some : {X : Type 0} (x : X) → None ≡ Some x → ⊥
none_some x e = cc

alone_by : (l : Look) (count : ℕ) (axis : Axis) (cross : ℕ) (kids : Forest LayoutNode) (inner : ℕ → ℕ) → padding_in l ≡ None
    → alone_extent l (stored_extent axis kids) (length (tellings kids)) count ≡ extent_by l count axis cross kids inner
alone_by (sliver_padding left top right bottom) count axis cross kids inner is = absurd (some_none _ is)
alone_by l count axis cross kids inner is = refl

padded_by : (l : Look) (count : ℕ) (axis : Axis) (cross : ℕ) (kids : Forest LayoutNode) (inner : ℕ → ℕ) (i : Insets) → padding_in l ≡ Some i
    → stopped (before i axis + after i axis + inner (cross_in axis cross i)) ≡ extent_by l count axis cross kids inner
padded_by (sliver_padding left top right bottom) count axis cross kids inner i is =
    let e : insets_of left top right bottom ≡ i = cc in
    ap (λ (j : Insets). stopped (before j axis + after j axis + inner (cross_in axis cross j))) (sym e)
padded_by l count axis cross kids inner i is = absurd (none_some _ is)

pub alone_read : (look : Look) (v : LayoutNode) (kids : Forest LayoutNode) (axis : Axis) (cross first items n : ℕ) (found : Option Insets) (extent : ℕ) (look1 : Look) → look ≡ v.look → look1 ≡ v.look
    → found ≡ padding_in look → found ≡ None → first ≡ stored_extent axis kids → items ≡ length (tellings kids) → n ≡ v.count → extent ≡ alone_extent look1 first items n
    → extent ≡ extent_by v.look v.count axis cross kids (λ c. first_extent axis c kids)
alone_read look v kids axis cross first items n found extent look1 l l1 finds is firsts many counts gives =
    gives
    ∙ ap (λ (x : Look). alone_extent x first items n) l1
    ∙ ap (λ (x : ℕ). alone_extent v.look x items n) firsts
    ∙ ap (λ (x : ℕ). alone_extent v.look (stored_extent axis kids) x n) many
    ∙ ap (λ (x : ℕ). alone_extent v.look (stored_extent axis kids) (length (tellings kids)) x) counts
    ∙ alone_by v.look v.count axis cross kids (λ c. first_extent axis c kids) (ap (λ (x : Look). padding_in x) (sym l) ∙ sym finds ∙ is)

pub padded_read : (look : Look) (v : LayoutNode) (kids : Forest LayoutNode) (axis : Axis) (cross : ℕ) (found : Option Insets) (i : Insets) (inner extent : ℕ) → look ≡ v.look
    → found ≡ padding_in look → found ≡ Some i → inner ≡ first_extent axis (cross_in axis cross i) kids → extent ≡ stopped (before i axis + after i axis + inner)
    → extent ≡ extent_by v.look v.count axis cross kids (λ c. first_extent axis c kids)
padded_read look v kids axis cross found i inner extent l finds is inners gives =
    gives
    ∙ ap (λ (x : ℕ). stopped (before i axis + after i axis + x)) inners
    ∙ padded_by v.look v.count axis cross kids (λ c. first_extent axis c kids) i (ap (λ (x : Look). padding_in x) (sym l) ∙ sym finds ∙ is)

pub inner_none : (t : Tree RenderObject) (h : Handle) (axis : Axis) (cross : ℕ) (v : LayoutNode) (kids : Forest LayoutNode) → SeenAt t h (tree h v kids none) → length (children_at t h) ≤ 0
    → 0 ≡ first_extent axis cross kids
inner_none t h axis cross v none seen few = refl
inner_none t h axis cross v (tree k w below rest) seen few = absurd (let e = ap (λ (hs : List Handle). length hs) (seen_children t h v (tree k w below rest) seen) in omega (arith, e, few))

pub inner_some : (t : Tree RenderObject) (h c : Handle) (axis : Axis) (cross inner n : ℕ) (v : LayoutNode) (kids : Forest LayoutNode) → SeenAt t h (tree h v kids none) → 0 < length (children_at t h)
    → c ≡ get_or (children_at t h) 0 c → inner ≡ cross
    → ((v : LayoutNode) (kids : Forest LayoutNode) → SeenAt t c (tree c v kids none) → n ≡ extent_in axis inner v kids (λ x. first_extent axis x kids)) → n ≡ first_extent axis cross kids
inner_some t h c axis cross inner n v kids seen less named same reads =
    let one = nth_child t h c c 0 v kids seen less named in
    reads one.value one.below one.seen
    ∙ ap (λ (x : ℕ). extent_in axis x one.value one.below (λ y. first_extent axis y one.below)) same
    ∙ ap (λ (f : Forest LayoutNode). first_extent axis cross f) (sym one.is)
