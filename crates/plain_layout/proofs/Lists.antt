-- Lists that run side by side.
use Rattle.std.proofs.Common.{Bool, subst, ◌≡◌, ap, refl, sym, ◌∙◌, ℕ, ◌+◌, ◌<◌, ◌≤◌, Option, Some, None, List, [], ◌∷◌, ◌++◌, map, length, drop, get_or, arith, append_assoc}
use Rattle.std.proofs.lemmas.List.{at_drop_more, at_drop_all}
use Rattle.fx_geom.specs.declared.shapes.Axis.{Axis}
use Rattle.fx_geom.specs.declared.boxes.Bounds.{Bounds}
use Rattle.fx_geom.specs.declared.shapes.Offset.{Offset}
use Rattle.fx_geom.specs.declared.shapes.Size.{Size}
use Rattle.plain_tree.specs.declared.laid.Frame.{Frame}
use Rattle.plain_tree.specs.declared.laid.Notes.{Notes}
use Rattle.widget_model.specs.declared.widgets.Widget.{Widget}
use Rattle.widget_model.specs.Look.{Look}
use Rattle.widget_model.specs.View.{look_in}
use Rattle.plain_tree.specs.declared.render.ParentData.{ParentData}
use Rattle.plain_tree.specs.Laid.{Laid, Stood, laid, laids_of}
use Rattle.plain_tree.specs.Render.{Render, render, renders_of, lazy_count}
use Rattle.plain_tree.specs.RenderRole.{render_role_of}
use Rattle.layout_form.specs.declared.asks.Ask.{Ask}
use Rattle.layout_form.specs.declared.asks.Ask.TheVariants.{AsBox}
use Rattle.layout_form.specs.Layout.{is_plugged, delegate_of}
use Rattle.plain_tree.specs.declared.laid.LaidChild.{LaidChild}
use Rattle.plain_tree.specs.LaidView.{stood, laids_in}
use Rattle.layout_form.specs.Object.{Setting, placed_at}
use Rattle.layout_form.specs.Protocol.{present, Found}
use Rattle.layout_form.specs.Frames.{sized_with}
use Rattle.kind_rules.specs.declared.few.Few.{Few}
use Rattle.kind_rules.specs.declared.few.Few.TheVariants.{Empty}
use Rattle.kind_rules.specs.Few.{items_of}
use Rattle.kind_rules.specs.Asked.{ruling_for}
use Rattle.kind_rules.specs.Cursor.{look_of, count_in}
use Rattle.kind_rules.specs.Ruling.{Ruling, box_ruling}
use Rattle.kind_rules.specs.Lone.{lone_size}
use Rattle.kind_rules.proofs.LoneBoxes.{lone_rules}
use Rattle.kind_rules.specs.Below.{extent_below, scroll_by}
use Rattle.plain_layout.specs.Computed.{blank, number_of, laid_by}
use Rattle.plain_layout.specs.Slivers.{measured_by, measured_with}

pub placed_end : (ats : List Offset) → placed_at ats [] ≡ []
placed_end [] = refl
placed_end (at ∷ ats) = refl

pub measured_end : (axis : Axis) (cross : ℕ) (rs : List Render) → measured_with axis cross rs [] ≡ []
measured_end axis cross [] = refl
measured_end axis cross (r ∷ rs) = refl

pub measured_past : (axis : Axis) (cross : ℕ) (rs : List Render) (boxes : List (Option Laid)) (i : ℕ) (before whole : List (Option Frame)) → length boxes ≤ i
    → before ++ measured_with axis cross (drop i rs) (drop i boxes) ≡ whole → before ++ measured_with axis cross (drop (i + 1) rs) (drop (i + 1) boxes) ≡ whole
measured_past axis cross rs boxes i before whole h same =
    ap (λ (xs : List (Option Frame)). before ++ xs)
    (at_drop_all (λ (qs : List (Option Laid)). measured_with axis cross (drop (i + 1) rs) qs) boxes (i + 1) (omega arith)
    ∙ measured_end axis cross (drop (i + 1) rs) ∙ sym (measured_end axis cross (drop i rs))
    ∙ sym (at_drop_all (λ (qs : List (Option Laid)). measured_with axis cross (drop i rs) qs) boxes i h))
    ∙ same

pub measured_more : (axis : Axis) (cross : ℕ) (rs : List Render) (boxes : List (Option Laid)) (i : ℕ) (r : Render) (l : Option Laid) (f : Frame) (before after whole : List (Option Frame))
    → i < length rs → i < length boxes → r ≡ get_or rs i r → l ≡ get_or boxes i l
    → f ≡ measured_by axis cross (scroll_by axis (extent_below axis l) r) → after ≡ before ++ Some f ∷ []
    → before ++ measured_with axis cross (drop i rs) (drop i boxes) ≡ whole → after ++ measured_with axis cross (drop (i + 1) rs) (drop (i + 1) boxes) ≡ whole
measured_more axis cross rs boxes i r l f before after whole low lower at kept is pushed same =
    let rest = measured_with axis cross (drop (i + 1) rs) (drop (i + 1) boxes) in
    ap (λ (xs : List (Option Frame)). xs ++ rest) pushed
    ∙ append_assoc before (Some f ∷ []) rest
    ∙ ap (λ (x : Frame). before ++ (Some x ∷ rest)) is
    ∙ ap (λ (x : Render). before ++ measured_with axis cross (x ∷ drop (i + 1) rs) (l ∷ drop (i + 1) boxes)) at
    ∙ ap (λ (x : Option Laid). before ++ measured_with axis cross (get_or rs i r ∷ drop (i + 1) rs) (x ∷ drop (i + 1) boxes)) kept
    ∙ ap (λ (xs : List (Option Frame)). before ++ xs) (sym (at_drop_more (λ (qs : List Render). measured_with axis cross qs (get_or boxes i l ∷ drop (i + 1) boxes)) rs i r low))
    ∙ ap (λ (xs : List (Option Frame)). before ++ xs) (sym (at_drop_more (λ (qs : List (Option Laid)). measured_with axis cross (drop i rs) qs) boxes i l lower))
    ∙ same

pub blank_alone : (rs : List Render) → length rs ≡ 1 → None ∷ [] ≡ blank rs
blank_alone [] e = absurd (omega (arith, e))
blank_alone (r ∷ []) e = refl
blank_alone (r ∷ (q ∷ rs)) e = absurd (omega (arith, e))

pub none_placed : (ats : List Offset) (slots : Few (Option Laid)) (children : List LaidChild) → children ≡ [] → slots ≡ Empty
    → map stood children ≡ placed_at ats (present (items_of slots))
none_placed ats slots children none is =
    ap (λ (xs : List LaidChild). map stood xs) none ∙ sym (placed_end ats) ∙ ap (λ (x : Few (Option Laid)). placed_at ats (present (items_of x))) (sym is)

pub slot_placed : (ats : List Offset) (slot : Option Laid) (children : List LaidChild) → children ≡ [] → slot ≡ None → map stood children ≡ placed_at ats (present (slot ∷ []))
slot_placed ats slot children none is =
    ap (λ (xs : List LaidChild). map stood xs) none ∙ sym (placed_end ats) ∙ ap (λ (x : Option Laid). placed_at ats (present (x ∷ []))) (sym is)

-- a node with nobody below it, as the program makes it
pub stand_view : (s : Setting) (n : ℕ) (w v u : Widget) (d : ParentData) (o : ℕ) (rs : List Render) (node : Render) (f : Frame) (notes : Notes) (at : ℕ) (p : Bool) (items : List LaidChild)
    → render n (look_in w.kind) d o (lazy_count (render_role_of (look_in w.kind)) w.children) (renders_of rs) ≡ node → v ≡ w → u ≡ w
    → p ≡ is_plugged s.delegates (delegate_of (look_in u.kind)) → items ≡ []
    → laid n (look_in v.kind) (record { frame = f; notes = notes; plugged = p; scrolled = at }) (laids_in items)
    ≡ laid_by s (number_of node) (look_of node) (record { frame = f; notes = notes; scrolled = at; places = [] }) []
stand_view s n w v u d o rs node f notes at p items is vs us ps none =
    let l = look_in w.kind in
    let plugs : p ≡ is_plugged s.delegates (delegate_of l) = ps ∙ ap (λ (x : Widget). is_plugged s.delegates (delegate_of (look_in x.kind))) us in
    subst (λ (r : Render). laid n (look_in v.kind) (record { frame = f; notes = notes; plugged = p; scrolled = at }) (laids_in items)
    ≡ laid_by s (number_of r) (look_of r) (record { frame = f; notes = notes; scrolled = at; places = [] }) []) is
    (ap (λ (x : Widget). laid n (look_in x.kind) (record { frame = f; notes = notes; plugged = p; scrolled = at }) (laids_in items)) vs
    ∙ ap (λ (x : List LaidChild). laid n l (record { frame = f; notes = notes; plugged = p; scrolled = at }) (laids_in x)) none
    ∙ ap (λ (x : Bool). laid n l (record { frame = f; notes = notes; plugged = x; scrolled = at }) (laids_in [])) plugs)

-- nobody stands at the places of a rule
no_places : (s : Setting) (n : ℕ) (l : Look) (g : Ruling)
    → laid_by s n l (record { frame = g.frame; notes = g.notes; scrolled = g.scrolled; places = [] }) [] ≡ laid_by s n l g []
no_places s n l g =
    ap (λ (xs : List Stood). laid n l (record { frame = g.frame; notes = g.notes; plugged = is_plugged s.delegates (delegate_of l); scrolled = g.scrolled }) (laids_of xs)) (sym (placed_end g.places))

pub bare_view : (s : Setting) (n : ℕ) (w u t : Widget) (d : ParentData) (o k : ℕ) (rs : List Render) (node : Render) (ask : Ask) (found : Found) (g : Ruling)
    → render n (look_in w.kind) d o (lazy_count (render_role_of (look_in w.kind)) w.children) (renders_of rs) ≡ node → u ≡ w → t ≡ w
    → k ≡ lazy_count (render_role_of (look_in t.kind)) t.children → g ≡ ruling_for s (look_in u.kind) k ask found [] []
    → laid_by s (number_of node) (look_of node) (record { frame = g.frame; notes = g.notes; scrolled = g.scrolled; places = [] }) []
    ≡ laid_by s (number_of node) (look_of node) (ruling_for s (look_of node) (count_in node) ask found [] []) []
bare_view s n w u t d o k rs node ask found g is us ts ks gs =
    let l = look_in w.kind in
    let count = lazy_count (render_role_of l) w.children in
    let counted : k ≡ count = ks ∙ ap (λ (x : Widget). lazy_count (render_role_of (look_in x.kind)) x.children) ts in
    let rules : g ≡ ruling_for s l count ask found [] [] =
    gs ∙ ap (λ (x : Widget). ruling_for s (look_in x.kind) k ask found [] []) us ∙ ap (λ (x : ℕ). ruling_for s l x ask found [] []) counted in
    subst (λ (r : Render). laid_by s (number_of r) (look_of r) (record { frame = g.frame; notes = g.notes; scrolled = g.scrolled; places = [] }) []
    ≡ laid_by s (number_of r) (look_of r) (ruling_for s (look_of r) (count_in r) ask found [] []) []) is
    (no_places s n l g ∙ ap (λ (x : Ruling). laid_by s n l x []) rules)

pub lone_view : (s : Setting) (node : Render) (b : Bounds) (size : Size) (found : Found) → Some size ≡ lone_size s (look_of node) b
    → laid_by s (number_of node) (look_of node) (box_ruling b (sized_with size [])) []
    ≡ laid_by s (number_of node) (look_of node) (ruling_for s (look_of node) (count_in node) (AsBox b) found [] []) []
lone_view s node b size found is =
    ap (λ (x : Ruling). laid_by s (number_of node) (look_of node) x []) (lone_rules s (look_of node) b size (count_in node) found [] is)
