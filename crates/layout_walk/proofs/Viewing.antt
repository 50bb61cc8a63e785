-- Children that stand laid out as they are asked answer as by full layout; and the views of a Viewport's slivers by how far each can
-- be scrolled through.
use Rattle.std.proofs.Common.{◌≡◌, ap, refl, sym, subst, ◌∙◌, ℕ, Option, Some, None, List, [], ◌∷◌, map}
use Rattle.fx_geom.specs.declared.boxes.Bounds.{Bounds}
use Rattle.fx_geom.specs.declared.shapes.Axis.{Axis}
use Rattle.fx_geom.specs.Insets.{other_of, extent_of}
use Rattle.node_tree.specs.Forest.{Forest}
use Rattle.node_tree.specs.Forest.Forest.{none, tree}
use Rattle.sliver_layout.specs.declared.protocol.Walk.{Walk}
use Rattle.sliver_layout.specs.Slivers.{geometry_of, view_of, walk_from, walk_past}
use Rattle.widget_model.specs.Look.{Look, viewport}
use Rattle.plain_tree.specs.declared.laid.Frame.{Frame}
use Rattle.layout_form.specs.declared.asks.Ask.{Ask}
use Rattle.layout_form.specs.declared.asks.Ask.TheVariants.{AsBox, AsSliver}
use Rattle.layout_form.specs.Object.{Setting, frame_geometry}
use Rattle.layout_form.specs.SliverRule.{view_size, unseen}
use Rattle.layout_form.specs.Protocol.{everybody}
use Rattle.layout_form.specs.Frames.{scrolls_by, extents_by, start_by, views_by, view_rest_by}
use Rattle.layout_form.specs.Framed.{answers_of, last_asks}
use Rattle.layout_walk.specs.Node.{LayoutNode, member, members, tellings, stored, frame_or}
use Rattle.layout_walk.specs.Rule.{LayoutParts, asks_by, SameAnswer, AnswerAlike, ask_of, later, Lawful}
use Rattle.layout_walk.specs.Full.{asks_at, made_at, objects}
use Rattle.layout_walk.specs.Here.{Here, HereAll, Backs}
use Rattle.layout_walk.specs.Walk.{SameMembers, LaidSo, AreLaid}
use Rattle.layout_walk.specs.Rules.{parts_of}
use Rattle.layout_walk.specs.Measure.{AskViews, full_extent, full_extents}
use Rattle.layout_walk.proofs.Answering.{stored_steady, objects_steady, objects_are}
use Rattle.layout_walk.proofs.Fresh.{answers_full, frame_full}
use Rattle.layout_walk.proofs.Same.{same_asks, same_objects}
use Rattle.layout_walk.proofs.Alike.{scrolls_are, somes}

-- ---- children that stand laid out

one_answers : (P : LayoutParts) → Lawful P → (back : Backs) (o : Option Ask) (v : LayoutNode) (kids : Forest LayoutNode) (w : LayoutNode) (below : Forest LayoutNode)
    → Here P w below → HereAll P below → LaidSo P back o v kids w below
    → SameAnswer o (λ ask. (made_at P w ask below (objects P below)).facts.frame) (λ ask. frame_or w.frame)
one_answers P law back None v kids w below here all laid = tt
one_answers P law back (Some ask) v kids w below here all laid = sym (ap frame_or (frame_full P law w below ask here (answers_full P law below all) laid.asked laid.settled))

pub laid_answers : (P : LayoutParts) → Lawful P → (back : Backs) (asks : List (Option Ask)) (f g : Forest LayoutNode) → HereAll P g → AreLaid P back asks f g
    → AnswerAlike asks (objects P g) (stored g)
unfolding objects
laid_answers P law back asks none none all laid = tt
laid_answers P law back asks none (tree k w below rest) all laid = absurd laid
laid_answers P law back asks (tree h v kids more) none all laid = absurd laid
laid_answers P law back asks (tree h v kids more) (tree k w below rest) all laid =
    (one_answers P law back (ask_of asks) v kids w below all.0 all.1 laid.0, laid_answers P law back (later asks) more rest all.2 laid.1)

-- where all that full layout asks is laid out so, the stored frames say the same
pub asks_laid : (P : LayoutParts) → Lawful P → (back : Backs) (v : LayoutNode) (ask : Ask) (kids mid : Forest LayoutNode) → SameMembers kids mid → HereAll P mid
    → AreLaid P back (asks_at P v ask kids (objects P kids)) kids mid → asks_at P v ask kids (objects P kids) ≡ asks_at P v ask mid (stored mid)
asks_laid P law back v ask kids mid same all laid =
    let full : asks_at P v ask kids (objects P kids) ≡ asks_at P v ask mid (objects P mid) =
    ap (λ (gs : List (Ask → Frame)). asks_at P v ask kids gs) (same_objects P law kids mid same) ∙ same_asks P v v v.scroll ask kids mid (objects P mid) refl same in
    full
    ∙ law.alike_asks (member v) v.scroll ask (P.liked v.look ask (members mid)) (tellings mid) (objects P mid) (stored mid)
    (objects_steady (objects P mid) (objects_are P law mid)) (stored_steady mid)
    (laid_answers P law back (asks_at P v ask mid (objects P mid)) kids mid all (subst (λ (xs : List (Option Ask)). AreLaid P back xs kids mid) full laid))

-- ---- a Viewport

known_extents : (P : LayoutParts) (axis : Axis) (cross : ℕ) (f : Forest LayoutNode)
    → extents_by (answers_of (everybody (AsSliver (unseen axis cross)) (tellings f)) (objects P f)) ≡ map (λ (n : ℕ). Some n) (full_extents P axis cross f)
unfolding objects
known_extents P axis cross none = refl
known_extents P axis cross (tree h v kids rest) = ap (λ (ns : List (Option ℕ)). Some (full_extent P axis cross v kids) ∷ ns) (known_extents P axis cross rest)

somes_map : (ns : List ℕ) → somes (map (λ (n : ℕ). Some n) ns) ≡ ns
somes_map [] = refl
somes_map (n ∷ ns) = ap (λ (ms : List ℕ). n ∷ ms) (somes_map ns)

views_last : (P : LayoutParts) (axis : Axis) (main cross : ℕ) (walk : Walk) (f : Forest LayoutNode)
    → last_asks (everybody (AsSliver (unseen axis cross)) (tellings f)) (views_by axis main cross walk (map (λ (n : ℕ). Some n) (full_extents P axis cross f)))
    ≡ views_by axis main cross walk (map (λ (n : ℕ). Some n) (full_extents P axis cross f))
views_last P axis main cross walk none = refl
views_last P axis main cross walk (tree h v kids rest) =
    let n = full_extent P axis cross v kids in
    let view = view_of axis main cross walk in
    ap (λ (xs : List (Option Ask)). Some (AsSliver view) ∷ xs) (views_last P axis main cross (walk_past walk (geometry_of view n)) rest)

pub ask_views : (axis : Axis) (main cross : ℕ) (walk : Walk) (ns : List ℕ) → AskViews axis cross (views_by axis main cross walk (map (λ (n : ℕ). Some n) ns))
ask_views axis main cross walk [] = tt
ask_views axis main cross walk (n ∷ ns) = ((refl, refl), ask_views axis main cross (walk_past walk (geometry_of (view_of axis main cross walk) n)) ns)

abbrev view_asks : Axis → ℕ → Bounds → List ℕ → List (Option Ask)
view_asks axis scroll b ns = view_rest_by axis (start_by axis scroll b ns) b (map (λ (n : ℕ). Some n) ns)

abbrev cross_of : Axis → Bounds → ℕ
cross_of axis b = extent_of (view_size b) (other_of axis)

asks_of_view : (s : Setting) (axis : Axis) (v : LayoutNode) (b : Bounds) (kids : Forest LayoutNode)
    → asks_by (parts_of s) (record (member v) { look = viewport axis }) v.scroll (AsBox b) 0 (tellings kids) (objects (parts_of s) kids)
    ≡ view_asks axis v.scroll b (full_extents (parts_of s) axis (cross_of axis b) kids)
unfolding asks_by
asks_of_view s axis v b kids =
    let P = parts_of s in
    let cross = cross_of axis b in
    let first = everybody (AsSliver (unseen axis cross)) (tellings kids) in
    let known = answers_of first (objects P kids) in
    let ns = full_extents P axis cross kids in
    let scrolls : scrolls_by known ≡ ns = scrolls_are known ∙ ap somes (known_extents P axis cross kids) ∙ somes_map ns in
    ap (λ (ms : List ℕ). last_asks first (view_rest_by axis (start_by axis v.scroll b ms) b (extents_by known))) scrolls
    ∙ ap (λ (ms : List (Option ℕ)). last_asks first (view_rest_by axis (start_by axis v.scroll b ns) b ms)) (known_extents P axis cross kids)
    ∙ views_last P axis (extent_of (view_size b) axis) cross (walk_from (start_by axis v.scroll b ns)) kids

liked_view : (s : Setting) (axis : Axis) (look : Look) (b : Bounds) (kids : Forest LayoutNode) → look ≡ viewport axis → (parts_of s).liked look (AsBox b) (members kids) ≡ 0
liked_view s axis look b kids is = ap (λ (l : Look). (parts_of s).liked l (AsBox b) (members kids)) is

pub asks_by_extents : (s : Setting) (axis : Axis) (v : LayoutNode) (b : Bounds) (kids : Forest LayoutNode) → v.look ≡ viewport axis
    → asks_at (parts_of s) v (AsBox b) kids (objects (parts_of s) kids) ≡ view_asks axis v.scroll b (full_extents (parts_of s) axis (cross_of axis b) kids)
asks_by_extents s axis v b kids is =
    ap (λ (n : ℕ). asks_by (parts_of s) (member v) v.scroll (AsBox b) n (tellings kids) (objects (parts_of s) kids)) (liked_view s axis v.look b kids is)
    ∙ ap (λ (l : Look). asks_by (parts_of s) (record (member v) { look = l }) v.scroll (AsBox b) 0 (tellings kids) (objects (parts_of s) kids)) is
    ∙ asks_of_view s axis v b kids

of_objects : (P : LayoutParts) (axis : Axis) (cross : ℕ) (f : Forest LayoutNode)
    → full_extents P axis cross f ≡ map (λ (h : Ask → Frame). (frame_geometry (h (AsSliver (unseen axis cross)))).scroll) (objects P f)
unfolding objects
of_objects P axis cross none = refl
of_objects P axis cross (tree h v kids rest) = ap (λ (ns : List ℕ). full_extent P axis cross v kids ∷ ns) (of_objects P axis cross rest)

pub extents_same : (P : LayoutParts) → Lawful P → (axis : Axis) (cross : ℕ) (f g : Forest LayoutNode) → SameMembers f g → full_extents P axis cross f ≡ full_extents P axis cross g
extents_same P law axis cross f g same =
    of_objects P axis cross f
    ∙ ap (λ (gs : List (Ask → Frame)). map (λ (h : Ask → Frame). (frame_geometry (h (AsSliver (unseen axis cross)))).scroll) gs) (same_objects P law f g same)
    ∙ sym (of_objects P axis cross g)
