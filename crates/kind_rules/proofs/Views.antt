-- Views and places of slivers, one after another, and insets that are lengths.
use Rattle.std.proofs.Common.{◌≡◌, ap, refl, sym, ◌∙◌, subst, ℕ, suc, ◌+◌, ◌^◌, ◌<◌, ◌≤◌, Option, Some, None, List, [], ◌∷◌, ◌++◌, length, drop, get_or, arith, add-one, drop-cons}
use Rattle.std.specs.Prelude.{option_to_list}
use Rattle.fx_geom.specs.declared.shapes.Axis.{Axis}
use Rattle.fx_geom.specs.declared.shapes.Axis.TheVariants.{Horizontal, Vertical}
use Rattle.fx_geom.specs.declared.shapes.Insets.{Insets}
use Rattle.fx_geom.specs.declared.shapes.Offset.{Offset}
use Rattle.fx_geom.specs.Insets.{before}
use Rattle.sliver_layout.specs.declared.protocol.Geometry.{Geometry}
use Rattle.sliver_layout.specs.declared.protocol.SliverBounds.{SliverBounds}
use Rattle.sliver_layout.specs.declared.protocol.Walk.{Walk}
use Rattle.sliver_layout.specs.Slivers.{paint_offset_of}
use Rattle.plain_tree.specs.declared.laid.Frame.{Frame}
use Rattle.layout_form.specs.declared.asks.Ask.{Ask}
use Rattle.layout_form.specs.Frames.{frames_given, geometries_by, extents_by, views_by, walk_places}
use Rattle.kind_rules.specs.Walks.{AreLengths, IsSeen, walk_by, walk_on}
use Rattle.kind_rules.proofs.Loops.{fills_on}

pub before_small : (i : Insets) (axis : Axis) → AreLengths i → before i axis ≤ 2 ^ 40
before_small i Horizontal small = small.left
before_small i Vertical small = small.top

pub paint_small : (b : SliverBounds) (n : ℕ) → paint_offset_of b 0 n ≤ n
paint_small b n = omega arith

abbrev views_there : Axis → ℕ → ℕ → Walk → List (Option Frame) → List (Option Ask)
views_there axis main cross walk fs = views_by axis main cross walk (extents_by fs)

views_first : (axis : Axis) (main cross : ℕ) (walk : Walk) (f : Option Frame) (fs : List (Option Frame))
    → views_there axis main cross walk (f ∷ fs) ≡ views_there axis main cross walk (f ∷ []) ++ views_there axis main cross (walk_by axis main cross walk f) fs
views_first axis main cross walk None fs = refl
views_first axis main cross walk (Some f) fs = refl

-- one more view, and the walk past it
pub views_more : (axis : Axis) (main cross : ℕ) (walk next : Walk) (fs : List (Option Frame)) (i : ℕ) (z : Option Frame) (ask : Option Ask)
    (before after whole : List (Option Ask)) → i < length fs → after ≡ before ++ ask ∷ [] → ask ∷ [] ≡ views_by axis main cross walk (extents_by (get_or fs i z ∷ []))
    → next ≡ walk_by axis main cross walk (get_or fs i z) → before ++ views_by axis main cross walk (extents_by (drop i fs)) ≡ whole
    → after ++ views_by axis main cross next (extents_by (drop (i + 1) fs)) ≡ whole
views_more axis main cross walk next fs i z ask before after whole h pushed is on same =
    let rest = drop (i + 1) fs in
    fills_on (views_there axis main cross walk) (views_there axis main cross next) fs i z (ask ∷ []) before after whole h
    (views_first axis main cross walk (get_or fs i z) rest
    ∙ ap (λ (asks : List (Option Ask)). asks ++ views_there axis main cross (walk_by axis main cross walk (get_or fs i z)) rest) (sym is)
    ∙ ap (λ (w : Walk). ask ∷ views_there axis main cross w rest) (sym on)) pushed same

-- ---- places

abbrev pub there : List (Option Frame) → List Geometry
there fs = geometries_by (frames_given fs)

places_first : (axis : Axis) (walk : Walk) (f : Option Frame) (fs : List (Option Frame))
    → walk_places axis walk (there (f ∷ fs)) ≡ walk_places axis walk (there (f ∷ [])) ++ walk_places axis (walk_on walk f) (there fs)
places_first axis walk None fs = refl
places_first axis walk (Some f) fs = refl

-- one more place, if the sliver is there, and the walk past it
pub places_on : (axis : Axis) (walk next : Walk) (fs : List (Option Frame)) (i : ℕ) (z : Option Frame) (place : Option Offset) (before after whole : List Offset)
    → i < length fs → after ≡ before ++ option_to_list place → option_to_list place ≡ walk_places axis walk (there (get_or fs i z ∷ []))
    → next ≡ walk_on walk (get_or fs i z) → before ++ walk_places axis walk (there (drop i fs)) ≡ whole
    → after ++ walk_places axis next (there (drop (i + 1) fs)) ≡ whole
places_on axis walk next fs i z place before after whole h pushed is on same =
    let rest = drop (i + 1) fs in
    fills_on (λ (xs : List (Option Frame)). walk_places axis walk (there xs)) (λ (xs : List (Option Frame)). walk_places axis next (there xs)) fs i z (option_to_list place) before after whole h
    (places_first axis walk (get_or fs i z) rest
    ∙ ap (λ (ps : List Offset). ps ++ walk_places axis (walk_on walk (get_or fs i z)) (there rest)) (sym is)
    ∙ ap (λ (w : Walk). option_to_list place ++ walk_places axis w (there rest)) (sym on)) pushed same

seen_past : (main : ℕ) (walk : Walk) (f : Option Frame) (fs : List (Option Frame)) → IsSeen main walk (there (f ∷ fs)) → IsSeen main (walk_on walk f) (there fs)
seen_past main walk None fs seen = seen
seen_past main walk (Some f) fs seen = seen.1

seen_alone : (main : ℕ) (walk : Walk) (f : Option Frame) (fs : List (Option Frame)) → IsSeen main walk (there (f ∷ fs)) → IsSeen main walk (there (f ∷ []))
seen_alone main walk None fs seen = tt
seen_alone main walk (Some f) fs seen = (seen.0, tt)

seen_at : (main : ℕ) (walk : Walk) (fs : List (Option Frame)) (i : ℕ) (z : Option Frame) → i < length fs → IsSeen main walk (there (drop i fs))
    → IsSeen main walk (there (get_or fs i z ∷ drop (suc i) fs))
seen_at main walk fs i z h seen = subst (λ (xs : List (Option Frame)). IsSeen main walk (there xs)) (drop-cons fs i z h) seen

pub seen_on : (main : ℕ) (walk next : Walk) (fs : List (Option Frame)) (i : ℕ) (z : Option Frame) → i < length fs → next ≡ walk_on walk (get_or fs i z)
    → IsSeen main walk (there (drop i fs)) → IsSeen main next (there (drop (i + 1) fs))
seen_on main walk next fs i z h on seen =
    let past : IsSeen main (walk_on walk (get_or fs i z)) (there (drop (suc i) fs)) =
    seen_past main walk (get_or fs i z) (drop (suc i) fs) (seen_at main walk fs i z h seen) in
    let here : IsSeen main next (there (drop (suc i) fs)) = subst (λ (w : Walk). IsSeen main w (there (drop (suc i) fs))) (sym on) past in
    rw add-one here

pub seen_here : (main : ℕ) (walk : Walk) (fs : List (Option Frame)) (i : ℕ) (f : Option Frame) → i < length fs → f ≡ get_or fs i f
    → IsSeen main walk (there (drop i fs)) → IsSeen main walk (there (f ∷ []))
seen_here main walk fs i f h is seen =
    subst (λ (x : Option Frame). IsSeen main walk (there (x ∷ []))) (sym is)
    (seen_alone main walk (get_or fs i f) (drop (suc i) fs) (seen_at main walk fs i f h seen))
