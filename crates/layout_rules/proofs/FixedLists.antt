-- A list whose children are all there, as its rule is run over what is read of them.
use Rattle.std.proofs.Common.{◌≡◌, ap, refl, sym, ◌∙◌, ℕ, zero, suc, ◌+◌, ◌<◌, ◌≤◌, Option, Some, None, option_map, List, [], ◌∷◌, ◌++◌, map, length, drop, get_or, arith, add-one, zero-add, append_assoc}
use Rattle.std.specs.Prelude.{pos}
use Rattle.std.proofs.lemmas.List.{append-nil, at_drop_more, at_drop_all, length-map}
use Rattle.fx_geom.specs.declared.boxes.Bounds.{Bounds}
use Rattle.fx_geom.specs.declared.shapes.Offset.{Offset}
use Rattle.fx_geom.specs.Along.{offset_along}
use Rattle.fx_handles.specs.declared.Handle.{Handle}
use Rattle.node_tree.specs.Tree.{Tree, children_at}
use Rattle.sliver_layout.specs.declared.protocol.SliverBounds.{SliverBounds}
use Rattle.sliver_layout.specs.Lists.{item_place_of}
use Rattle.widget_model.specs.Look.{Look, sliver_fixed}
use Rattle.plain_tree.specs.declared.laid.Frame.{Frame}
use Rattle.plain_tree.specs.declared.render.ParentData.{ParentData}
use Rattle.plain_tree.specs.Render.{Render, render}
use Rattle.layout_form.specs.declared.asks.Ask.{Ask}
use Rattle.layout_form.specs.declared.asks.Ask.TheVariants.{AsBox, AsSliver}
use Rattle.layout_form.specs.Fits.{CanBeLaidOut, FitsLayout}
use Rattle.layout_form.specs.Frames.{item_places, list_makes}
use Rattle.layout_form.specs.Layout.{object}
use Rattle.layout_form.specs.Object.{Setting, only_of}
use Rattle.layout_form.specs.Protocol.{Found}
use Rattle.layout_form.specs.SliverRule.{counted}
use Rattle.kind_rules.specs.Asked.{first_for, liked_for, ruling_for}
use Rattle.kind_rules.specs.Cursor.{look_of, count_in, children_of}
use Rattle.kind_rules.specs.Ruling.{sliver_ruling}
use Rattle.render_tree.specs.Object.{RenderObject}
use Rattle.layout_walk.specs.Node.{frame_or}
use Rattle.layout_walk.specs.Rule.{later}
use Rattle.layout_rules.specs.Heard.{told_below}
use Rattle.layout_rules.specs.Reads.{told_at, state_at, frames_at, first_by}
use Rattle.layout_rules.proofs.Filling.{ask_drop, later_drop}

-- ---- the places of a list, one after another

count_from : {X : Type 0} (j k : ℕ) (xs : List X) → k < length xs → (j + k) ∷ counted (suc (j + k)) (drop (suc k) xs) ≡ counted (j + k) (drop k xs)
count_from {X} j k [] h = absurd (omega arith)
count_from {X} j zero (x ∷ xs) h = refl
count_from {X} j (suc k) (x ∷ xs) h = let e : j + suc k ≡ suc j + k = omega arith in rw e (count_from (suc j) k xs (omega arith))

count_next : {X : Type 0} (i : ℕ) (xs : List X) → i < length xs → counted i (drop i xs) ≡ i ∷ counted (i + 1) (drop (i + 1) xs)
count_next {X} i xs h =
    let next : i ∷ counted (suc i) (drop (suc i) xs) ≡ counted i (drop i xs) = simp zero-add at (count_from 0 i xs h) in rw add-one (sym next)

counted_map : {X Y : Type 0} (f : X → Y) (i : ℕ) (xs : List X) → counted i (map f xs) ≡ counted i xs
counted_map {X} {Y} f i [] = refl
counted_map {X} {Y} f i (x ∷ xs) = ap (λ (ns : List ℕ). i ∷ ns) (counted_map f (suc i) xs)

-- one more that gives something
pub counted_maps : {X Y : Type 0} (f : ℕ → Y) (k : ℕ) (xs : List X) (y : Y) (before after whole : List Y) → k < length xs → after ≡ before ++ y ∷ [] → y ≡ f k
    → before ++ map f (counted k (drop k xs)) ≡ whole → after ++ map f (counted (k + 1) (drop (k + 1) xs)) ≡ whole
counted_maps {X} {Y} f k xs y before after whole h p is q =
    ap (λ (ys : List Y). ys ++ map f (counted (k + 1) (drop (k + 1) xs))) p
    ∙ append_assoc before (y ∷ []) (map f (counted (k + 1) (drop (k + 1) xs)))
    ∙ ap (λ (z : Y). before ++ z ∷ map f (counted (k + 1) (drop (k + 1) xs))) is
    ∙ ap (λ (ns : List ℕ). before ++ map f ns) (sym (count_next k xs h))
    ∙ q

-- ---- the places of those that are asked

frames_next : (t : Tree RenderObject) (asks : List (Option Ask)) (hs : List Handle) (i : ℕ) (z : Handle) → i < length hs
    → frames_at t (drop i asks) (drop i hs) ≡ option_map (λ (a : Ask). frame_or (state_at t (get_or hs i z)).frame) (get_or asks i None) ∷ frames_at t (drop (i + 1) asks) (drop (i + 1) hs)
frames_next t asks hs i z less =
    at_drop_more (λ (ks : List Handle). frames_at t (drop i asks) ks) hs i z less
    ∙ ap (λ (o : Option Ask). option_map (λ (a : Ask). frame_or (state_at t (get_or hs i z)).frame) o ∷ frames_at t (later (drop i asks)) (drop (i + 1) hs)) (ask_drop asks i)
    ∙ ap (λ (xs : List (Option Ask)). option_map (λ (a : Ask). frame_or (state_at t (get_or hs i z)).frame) (get_or asks i None) ∷ frames_at t xs (drop (i + 1) hs))
    (later_drop asks i ∙ ap (λ (n : ℕ). drop n asks) (let e : suc i ≡ i + 1 = omega arith in e))

module _ (t : Tree RenderObject) (asks : List (Option Ask)) (hs : List Handle) (b : SliverBounds) (extent i : ℕ) (less : i < length hs) where
  abbrev left : List Offset
  left = item_places b extent (counted (i + 1) (drop (i + 1) hs)) (frames_at t (drop (i + 1) asks) (drop (i + 1) hs))

  abbrev z : Handle
  z = record { index = 0; generation = 0 }

  abbrev frame_of : Option Ask → Option Frame
  frame_of o = option_map (λ (a : Ask). frame_or (state_at t (get_or hs i z)).frame) o

  now : item_places b extent (counted i (drop i hs)) (frames_at t (drop i asks) (drop i hs))
      ≡ item_places b extent (i ∷ counted (i + 1) (drop (i + 1) hs)) (frame_of (get_or asks i None) ∷ frames_at t (drop (i + 1) asks) (drop (i + 1) hs))
  now =
      ap (λ (ns : List ℕ). item_places b extent ns (frames_at t (drop i asks) (drop i hs))) (count_next i hs less)
      ∙ ap (λ (fs : List (Option Frame)). item_places b extent (i ∷ counted (i + 1) (drop (i + 1) hs)) fs) (frames_next t asks hs i z less)

  pub place_passed : (o : Option Ask) (before whole : List Offset) → o ≡ get_or asks i None → o ≡ None
      → before ++ item_places b extent (counted i (drop i hs)) (frames_at t (drop i asks) (drop i hs)) ≡ whole → before ++ left ≡ whole
  place_passed o before whole is unasked inv =
      let step : item_places b extent (counted i (drop i hs)) (frames_at t (drop i asks) (drop i hs)) ≡ left =
      now ∙ ap (λ (x : Option Ask). item_places b extent (i ∷ counted (i + 1) (drop (i + 1) hs)) (frame_of x ∷ frames_at t (drop (i + 1) asks) (drop (i + 1) hs))) (sym is ∙ unasked) in
      ap (λ (ps : List Offset). before ++ ps) (sym step) ∙ inv

  pub place_taken : (o : Option Ask) (ask : Ask) (at : Offset) (before after whole : List Offset) → o ≡ get_or asks i None → o ≡ Some ask
      → after ≡ before ++ at ∷ [] → at ≡ offset_along b.axis (item_place_of b extent i) (pos 0)
      → before ++ item_places b extent (counted i (drop i hs)) (frames_at t (drop i asks) (drop i hs)) ≡ whole → after ++ left ≡ whole
  place_taken o ask at before after whole is asked pushed place inv =
      let step : item_places b extent (counted i (drop i hs)) (frames_at t (drop i asks) (drop i hs)) ≡ offset_along b.axis (item_place_of b extent i) (pos 0) ∷ left =
      now ∙ ap (λ (x : Option Ask). item_places b extent (i ∷ counted (i + 1) (drop (i + 1) hs)) (frame_of x ∷ frames_at t (drop (i + 1) asks) (drop (i + 1) hs))) (sym is ∙ asked) in
      ap (λ (ps : List Offset). ps ++ left) pushed
      ∙ append_assoc before (at ∷ []) left
      ∙ ap (λ (p : Offset). before ++ p ∷ left) place
      ∙ ap (λ (ps : List Offset). before ++ ps) (sym step)
      ∙ inv

items_end : (b : SliverBounds) (extent : ℕ) (is : List ℕ) → item_places b extent is [] ≡ []
items_end b extent [] = refl
items_end b extent (i ∷ is) = refl

pub places_over : (t : Tree RenderObject) (asks : List (Option Ask)) (hs : List Handle) (b : SliverBounds) (extent i : ℕ) (is : List ℕ) (before whole : List Offset) → length hs ≤ i
    → before ++ item_places b extent is (frames_at t (drop i asks) (drop i hs)) ≡ whole → before ≡ whole
places_over t asks hs b extent i is before whole over same =
    sym (append-nil before)
    ∙ ap (λ (ps : List Offset). before ++ ps)
    (sym (at_drop_all (λ (ks : List Handle). item_places b extent is (frames_at t (drop i asks) ks)) hs i over ∙ items_end b extent is))
    ∙ same

-- ---- the rule, by its kind

pub fits_look : (r : Render) → CanBeLaidOut r → FitsLayout (look_of r)
fits_look (render number look told scroll count children) fits = fits.0.members

pub list_asks : (s : Setting) (r : Render) (ask : Ask) (extent : ℕ) (ds : List ParentData) → look_of r ≡ sliver_fixed extent
    → first_for s (sliver_fixed extent) (count_in r) ask (liked_for (look_of r) ask (only_of (map (object s) (children_of r)))) ds ≡ first_by s r ask ds
list_asks s r ask extent ds looks = ap (λ (l : Look). first_for s l (count_in r) ask (liked_for (look_of r) ask (only_of (map (object s) (children_of r)))) ds) (sym looks)

pub told_length : (t : Tree RenderObject) (h : Handle) → length (told_below t h) ≡ length (children_at t h)
told_length t h = length-map (children_at t h) (told_at t)

-- as a box it makes the same of whatever its children were told
pub box_ruled : (s : Setting) (look : Look) (extent n : ℕ) (ask : Ask) (b : Bounds) (found : Found) (ds : List ParentData) (fs : List (Option Frame)) → look ≡ sliver_fixed extent → ask ≡ AsBox b
    → ruling_for s look n ask found [] fs ≡ ruling_for s look n ask found ds fs
box_ruled s look extent n ask b found ds fs looks asks =
    ap (λ (l : Look). ruling_for s l n ask found [] fs) looks
    ∙ ap (λ (a : Ask). ruling_for s (sliver_fixed extent) n a found [] fs) asks
    ∙ sym (ap (λ (l : Look). ruling_for s l n ask found ds fs) looks ∙ ap (λ (a : Ask). ruling_for s (sliver_fixed extent) n a found ds fs) asks)

-- as a sliver it counts them
pub sliver_ruled : (s : Setting) (t : Tree RenderObject) (h : Handle) (look : Look) (extent n : ℕ) (ask : Ask) (b : SliverBounds) (found : Found) (fs : List (Option Frame)) → look ≡ sliver_fixed extent → ask ≡ AsSliver b
    → sliver_ruling b (list_makes extent (length (children_at t h)) b (counted 0 (children_at t h)) fs) ≡ ruling_for s look n ask found (told_below t h) fs
sliver_ruled s t h look extent n ask b found fs looks asks =
    ap (λ (m : ℕ). sliver_ruling b (list_makes extent m b (counted 0 (children_at t h)) fs)) (sym (told_length t h))
    ∙ ap (λ (is : List ℕ). sliver_ruling b (list_makes extent (length (told_below t h)) b is fs)) (sym (counted_map (told_at t) 0 (children_at t h)))
    ∙ sym (ap (λ (l : Look). ruling_for s l n ask found (told_below t h) fs) looks ∙ ap (λ (a : Ask). ruling_for s (sliver_fixed extent) n a found (told_below t h) fs) asks)
