-- The rules of layout are lawful.
use Rattle.std.proofs.Common.{◌≡◌, ap, refl, sym, subst, ◌∙◌, ◌⊎◌, inl, inr, ℕ, ◌+◌, ◌-◌, min, true, false, Option, Some, None, option_map, List, [], ◌∷◌, length, arith}
use Rattle.fx_geom.specs.declared.boxes.Bounds.{Bounds}
use Rattle.fx_geom.specs.declared.shapes.Axis.{Axis}
use Rattle.fx_geom.specs.declared.shapes.Size.{Size}
use Rattle.fx_geom.specs.Bounds.{IsWithin}
use Rattle.fx_geom.specs.Insets.{other_of, extent_of, before, after, along}
use Rattle.fx_geom.specs.Len.{stopped, total_of}
use Rattle.fx_geom.specs.Size.{no_size}
use Rattle.sliver_layout.specs.declared.protocol.SliverBounds.{SliverBounds}
use Rattle.sliver_layout.specs.Lists.{list_geometry_of}
use Rattle.sliver_layout.specs.Slivers.{padded_of, walk_from}
use Rattle.widget_model.specs.Look.{Look, viewport, offstage, sliver_lazy, sliver_to_box, sliver_padding}
use Rattle.node_tree.proofs.ForestLemmas.{same_Some}
use Rattle.plain_tree.specs.declared.laid.Frame.{Frame}
use Rattle.plain_tree.specs.declared.laid.Frame.TheVariants.{Boxed, Sliver}
use Rattle.plain_tree.specs.declared.render.ParentData.{ParentData}
use Rattle.plain_tree.specs.Shown.{box_size}
use Rattle.layout_form.specs.declared.asks.Ask.{Ask}
use Rattle.layout_form.specs.declared.asks.Ask.TheVariants.{AsBox, AsSliver}
use Rattle.layout_form.specs.Object.{Setting, frame_geometry}
use Rattle.layout_form.specs.Single.{insets_of}
use Rattle.layout_form.specs.SliverRule.{view_size, box_bounds}
use Rattle.layout_form.specs.Protocol.{box_first, Found}
use Rattle.layout_form.specs.Frames.{Makes, frames_given, scrolls_by, extents_by, start_by, found_makes, rest_makes, box_makes, sliver_makes, sliver_asks, view_rest_by}
use Rattle.layout_form.specs.Framed.{answers_of, last_asks, box_asks, box_given, IsWithinAsk, AllWithinAsks, fixed_size, is_blind}
use Rattle.layout_walk.specs.Node.{NodeMember, ask_in}
use Rattle.layout_walk.specs.Rule.{RuleGift, asks_by, made_by, AnswerAlike, IsObject, AreSteady, AreObjects, scroll_after, Lawful}
use Rattle.layout_walk.specs.Rules.{parts_of, box_gift, sliver_gift, lazy_extent, fixed_in, holds_in, is_list}
use Rattle.layout_walk.proofs.Fresh.{none_some}
use Rattle.layout_walk.proofs.Standing.{false_true}
use Rattle.layout_walk.proofs.Answering.{objects_steady}
use Rattle.layout_walk.proofs.Alike.{IsView, IsNoView, is_view, answers_alike, first_alike, extents_alike, scrolls_are, somes}

module _ (s : Setting) where
  -- ---- what the first answers tell, who is asked then, and what is made of it, for a box

  abbrev asks_with : Look → Bounds → ℕ → List ParentData → Found → List (Option Frame) → List (Option Ask)
  asks_with look b liked ds found known = last_asks (box_first s look b liked ds) (rest_makes look b found ds known)

  abbrev gift_with : Look → Bounds → List ParentData → Found → List (Option Frame) → RuleGift
  gift_with look b ds found answers = box_gift s look b (box_makes s look b found ds (frames_given answers))

  abbrev known_by : Look → Bounds → ℕ → List ParentData → List (Ask → Frame) → List (Option Frame)
  known_by look b liked ds gs = answers_of (box_first s look b liked ds) gs

  -- where the first answers tell the same and those that are asked then are the same
  same_gift : (look : Look) (b : Bounds) (liked : ℕ) (ds : List ParentData) (gs hs : List (Ask → Frame)) (scroll other : ℕ)
      → found_makes look scroll b (known_by look b liked ds gs) ≡ found_makes look other b (known_by look b liked ds hs)
      → box_asks s look scroll b liked ds gs ≡ box_asks s look other b liked ds hs
      → answers_of (box_asks s look scroll b liked ds gs) gs ≡ answers_of (box_asks s look scroll b liked ds gs) hs
      → box_gift s look b (box_given s look scroll b liked ds gs) ≡ box_gift s look b (box_given s look other b liked ds hs)
  same_gift look b liked ds gs hs scroll other found asks answers =
      ap (λ (f : Found). gift_with look b ds f (answers_of (box_asks s look scroll b liked ds gs) gs)) found
      ∙ ap (λ (fs : List (Option Frame)). gift_with look b ds (found_makes look other b (known_by look b liked ds hs)) fs) answers
      ∙ ap (λ (xs : List (Option Ask)). gift_with look b ds (found_makes look other b (known_by look b liked ds hs)) (answers_of xs hs)) asks

  -- ---- children that answer the same

  -- a Viewport
  abbrev main_of : Axis → Bounds → ℕ
  main_of axis b = extent_of (view_size b) axis

  abbrev cross_of : Axis → Bounds → ℕ
  cross_of axis b = extent_of (view_size b) (other_of axis)

  view_found : (axis : Axis) (scroll : ℕ) (b : Bounds) (liked : ℕ) (ds : List ParentData) (gs hs : List (Ask → Frame))
      → extents_by (known_by (viewport axis) b liked ds gs) ≡ extents_by (known_by (viewport axis) b liked ds hs)
      → found_makes (viewport axis) scroll b (known_by (viewport axis) b liked ds gs) ≡ found_makes (viewport axis) scroll b (known_by (viewport axis) b liked ds hs)
  view_found axis scroll b liked ds gs hs same =
      ap (λ (ns : List ℕ). record { size = no_size; start = start_by axis scroll b ns })
      (scrolls_are (known_by (viewport axis) b liked ds gs) ∙ ap somes same ∙ sym (scrolls_are (known_by (viewport axis) b liked ds hs)))

  view_asks : (axis : Axis) (scroll : ℕ) (b : Bounds) (liked : ℕ) (ds : List ParentData) (gs hs : List (Ask → Frame))
      → extents_by (known_by (viewport axis) b liked ds gs) ≡ extents_by (known_by (viewport axis) b liked ds hs)
      → box_asks s (viewport axis) scroll b liked ds gs ≡ box_asks s (viewport axis) scroll b liked ds hs
  view_asks axis scroll b liked ds gs hs same =
      ap (λ (f : Found). last_asks (box_first s (viewport axis) b liked ds) (view_rest_by axis f.start b (extents_by (known_by (viewport axis) b liked ds gs))))
      (view_found axis scroll b liked ds gs hs same)
      ∙ ap (λ (ns : List (Option ℕ)). last_asks (box_first s (viewport axis) b liked ds)
      (view_rest_by axis (found_makes (viewport axis) scroll b (known_by (viewport axis) b liked ds hs)).start b ns)) same

  box_alike_asks : (look : Look) → IsView look ⊎ IsNoView look → (scroll : ℕ) (b : Bounds) (liked : ℕ) (ds : List ParentData) (gs hs : List (Ask → Frame))
      → AreSteady gs → AreSteady hs → AnswerAlike (box_asks s look scroll b liked ds gs) gs hs
      → box_asks s look scroll b liked ds gs ≡ box_asks s look scroll b liked ds hs
  box_alike_asks look (inl view) scroll b liked ds gs hs gsteady hsteady alike = on_view look view.0 view.1 alike
    where
      at_view : (axis : Axis) → AnswerAlike (box_asks s (viewport axis) scroll b liked ds gs) gs hs
          → box_asks s (viewport axis) scroll b liked ds gs ≡ box_asks s (viewport axis) scroll b liked ds hs
      at_view axis alike = view_asks axis scroll b liked ds gs hs
          (extents_alike axis (main_of axis b) (cross_of axis b) (walk_from (found_makes (viewport axis) scroll b (known_by (viewport axis) b liked ds gs)).start) ds gs hs gsteady hsteady alike)

      on_view : (look : Look) (axis : Axis) → look ≡ viewport axis → AnswerAlike (box_asks s look scroll b liked ds gs) gs hs
          → box_asks s look scroll b liked ds gs ≡ box_asks s look scroll b liked ds hs
      on_view look axis is = subst (λ (l : Look). AnswerAlike (box_asks s l scroll b liked ds gs) gs hs → box_asks s l scroll b liked ds gs ≡ box_asks s l scroll b liked ds hs) (sym is) (at_view axis)
  box_alike_asks look (inr no_view) scroll b liked ds gs hs gsteady hsteady alike =
      let known = known_by look b liked ds gs in
      let found = found_makes look scroll b known in
      let form = no_view.rest b found ds known in
      let first : AnswerAlike (box_first s look b liked ds) gs hs =
      first_alike form.0 (box_first s look b liked ds) gs hs
      (subst (λ (xs : List (Option Ask)). AnswerAlike (last_asks (box_first s look b liked ds) xs) gs hs) form.1 alike) in
      ap (λ (fs : List (Option Frame)). asks_with look b liked ds (found_makes look scroll b fs) fs) (answers_alike (box_first s look b liked ds) gs hs first)

  box_alike_found : (look : Look) → IsView look ⊎ IsNoView look → (scroll : ℕ) (b : Bounds) (liked : ℕ) (ds : List ParentData) (gs hs : List (Ask → Frame))
      → AreSteady gs → AreSteady hs → AnswerAlike (box_asks s look scroll b liked ds gs) gs hs
      → found_makes look scroll b (known_by look b liked ds gs) ≡ found_makes look scroll b (known_by look b liked ds hs)
  box_alike_found look (inl view) scroll b liked ds gs hs gsteady hsteady alike = on_view look view.0 view.1 alike
    where
      at_view : (axis : Axis) → AnswerAlike (box_asks s (viewport axis) scroll b liked ds gs) gs hs
          → found_makes (viewport axis) scroll b (known_by (viewport axis) b liked ds gs) ≡ found_makes (viewport axis) scroll b (known_by (viewport axis) b liked ds hs)
      at_view axis alike = view_found axis scroll b liked ds gs hs
          (extents_alike axis (main_of axis b) (cross_of axis b) (walk_from (found_makes (viewport axis) scroll b (known_by (viewport axis) b liked ds gs)).start) ds gs hs gsteady hsteady alike)

      on_view : (look : Look) (axis : Axis) → look ≡ viewport axis → AnswerAlike (box_asks s look scroll b liked ds gs) gs hs
          → found_makes look scroll b (known_by look b liked ds gs) ≡ found_makes look scroll b (known_by look b liked ds hs)
      on_view look axis is = subst (λ (l : Look). AnswerAlike (box_asks s l scroll b liked ds gs) gs hs → found_makes l scroll b (known_by l b liked ds gs) ≡ found_makes l scroll b (known_by l b liked ds hs)) (sym is) (at_view axis)
  box_alike_found look (inr no_view) scroll b liked ds gs hs gsteady hsteady alike =
      let known = known_by look b liked ds gs in
      let form = no_view.rest b (found_makes look scroll b known) ds known in
      let first : AnswerAlike (box_first s look b liked ds) gs hs =
      first_alike form.0 (box_first s look b liked ds) gs hs
      (subst (λ (xs : List (Option Ask)). AnswerAlike (last_asks (box_first s look b liked ds) xs) gs hs) form.1 alike) in
      ap (λ (fs : List (Option Frame)). found_makes look scroll b fs) (answers_alike (box_first s look b liked ds) gs hs first)

  -- ---- where a Viewport stands scrolled

  -- a kind that doesn't see it makes the same of all
  plain_asks : (look : Look) → IsNoView look → (scroll other : ℕ) (b : Bounds) (liked : ℕ) (ds : List ParentData) (gs : List (Ask → Frame))
      → box_asks s look scroll b liked ds gs ≡ box_asks s look other b liked ds gs
  plain_asks look no_view scroll other b liked ds gs =
      ap (λ (f : Found). asks_with look b liked ds f (known_by look b liked ds gs)) (no_view.found scroll other b (known_by look b liked ds gs))

  plain_gift : (look : Look) → IsNoView look → (scroll other : ℕ) (b : Bounds) (liked : ℕ) (ds : List ParentData) (gs : List (Ask → Frame))
      → box_gift s look b (box_given s look scroll b liked ds gs) ≡ box_gift s look b (box_given s look other b liked ds gs)
  plain_gift look no_view scroll other b liked ds gs =
      same_gift look b liked ds gs gs scroll other (no_view.found scroll other b (known_by look b liked ds gs)) (plain_asks look no_view scroll other b liked ds gs) refl

  -- a corrected offset stays
  view_stays : (axis : Axis) (scroll : ℕ) (b : Bounds) (fs : List (Option Frame))
      → found_makes (viewport axis) (start_by axis scroll b (scrolls_by fs)) b fs ≡ found_makes (viewport axis) scroll b fs
  view_stays axis scroll b fs =
      ap (λ (n : ℕ). record { size = no_size; start = n }) (min_min scroll (total_of (scrolls_by fs) - extent_of (view_size b) axis))
    where
      min_min : (a b : ℕ) → min (min a b) b ≡ min a b
      min_min a b = omega arith

  abbrev start_in : Axis → ℕ → Bounds → ℕ → List ParentData → List (Ask → Frame) → ℕ
  start_in axis scroll b liked ds gs = start_by axis scroll b (scrolls_by (known_by (viewport axis) b liked ds gs))

  view_stays_asks : (axis : Axis) (scroll : ℕ) (b : Bounds) (liked : ℕ) (ds : List ParentData) (gs : List (Ask → Frame))
      → box_asks s (viewport axis) (start_in axis scroll b liked ds gs) b liked ds gs ≡ box_asks s (viewport axis) scroll b liked ds gs
  view_stays_asks axis scroll b liked ds gs =
      ap (λ (f : Found). asks_with (viewport axis) b liked ds f (known_by (viewport axis) b liked ds gs)) (view_stays axis scroll b (known_by (viewport axis) b liked ds gs))

  view_stays_gift : (axis : Axis) (scroll : ℕ) (b : Bounds) (liked : ℕ) (ds : List ParentData) (gs : List (Ask → Frame))
      → box_gift s (viewport axis) b (box_given s (viewport axis) (start_in axis scroll b liked ds gs) b liked ds gs) ≡ box_gift s (viewport axis) b (box_given s (viewport axis) scroll b liked ds gs)
  view_stays_gift axis scroll b liked ds gs =
      same_gift (viewport axis) b liked ds gs gs (start_in axis scroll b liked ds gs) scroll
      (view_stays axis scroll b (known_by (viewport axis) b liked ds gs)) (view_stays_asks axis scroll b liked ds gs) refl

  abbrev StaysAsks : Look → ℕ → Bounds → ℕ → List ParentData → List (Ask → Frame) → Type 0
  StaysAsks look scroll b liked ds gs =
      box_asks s look (scroll_after look (box_gift s look b (box_given s look scroll b liked ds gs)) scroll) b liked ds gs ≡ box_asks s look scroll b liked ds gs

  abbrev StaysGift : Look → ℕ → Bounds → ℕ → List ParentData → List (Ask → Frame) → Type 0
  StaysGift look scroll b liked ds gs =
      box_gift s look b (box_given s look (scroll_after look (box_gift s look b (box_given s look scroll b liked ds gs)) scroll) b liked ds gs)
      ≡ box_gift s look b (box_given s look scroll b liked ds gs)

  box_stays_asks : (look : Look) → IsView look ⊎ IsNoView look → (scroll : ℕ) (b : Bounds) (liked : ℕ) (ds : List ParentData) (gs : List (Ask → Frame)) → StaysAsks look scroll b liked ds gs
  box_stays_asks look (inl view) scroll b liked ds gs = subst (λ (l : Look). StaysAsks l scroll b liked ds gs) (sym view.1) (view_stays_asks view.0 scroll b liked ds gs)
  box_stays_asks look (inr no_view) scroll b liked ds gs =
      plain_asks look no_view (scroll_after look (box_gift s look b (box_given s look scroll b liked ds gs)) scroll) scroll b liked ds gs

  box_stays_gift : (look : Look) → IsView look ⊎ IsNoView look → (scroll : ℕ) (b : Bounds) (liked : ℕ) (ds : List ParentData) (gs : List (Ask → Frame)) → StaysGift look scroll b liked ds gs
  box_stays_gift look (inl view) scroll b liked ds gs = subst (λ (l : Look). StaysGift l scroll b liked ds gs) (sym view.1) (view_stays_gift view.0 scroll b liked ds gs)
  box_stays_gift look (inr no_view) scroll b liked ds gs =
      plain_gift look no_view (scroll_after look (box_gift s look b (box_given s look scroll b liked ds gs)) scroll) scroll b liked ds gs

  -- a Viewport's size is that of its bounds
  abbrev SeesNone : Look → ℕ → ℕ → Bounds → ℕ → List ParentData → List (Ask → Frame) → Type 0
  SeesNone look scroll other b liked ds gs = Boxed b (box_given s look scroll b liked ds gs).size ≡ Boxed b (box_given s look other b liked ds gs).size

  box_unscrolled : (look : Look) → IsView look ⊎ IsNoView look → (scroll other : ℕ) (b : Bounds) (liked : ℕ) (ds : List ParentData) (gs : List (Ask → Frame)) → SeesNone look scroll other b liked ds gs
  box_unscrolled look (inl view) scroll other b liked ds gs = subst (λ (l : Look). SeesNone l scroll other b liked ds gs) (sym view.1) refl
  box_unscrolled look (inr no_view) scroll other b liked ds gs = ap (λ (g : RuleGift). g.facts.frame) (plain_gift look no_view scroll other b liked ds gs)

  -- ---- slivers

  abbrev sliver_scroll : Look → ℕ → SliverBounds → List ParentData → List (Ask → Frame) → ℕ
  sliver_scroll look count b ds gs = (sliver_makes look count b ds (answers_of (last_asks (sliver_asks look count b ds) []) gs)).geometry.scroll

  box_extent : (b v : SliverBounds) (g : Ask → Frame) → b.axis ≡ v.axis → b.cross ≡ v.cross
      → extent_of (box_size (g (AsBox (box_bounds b)))) b.axis ≡ extent_of (box_size (g (AsBox (box_bounds v)))) v.axis
  box_extent b v g axis cross = along_both b.axis b.cross v.axis v.cross axis cross
    where
      extent_at : Axis → ℕ → ℕ
      extent_at x c = extent_of (box_size (g (AsBox (box_bounds (record { axis = x; offset = 0; remaining = 0; cross = c }))))) x

      along_both : (x : Axis) (c : ℕ) (y : Axis) (d : ℕ) → x ≡ y → c ≡ d
          → extent_of (box_size (g (AsBox (box_bounds (record { axis = x; offset = 0; remaining = 0; cross = c }))))) x
          ≡ extent_of (box_size (g (AsBox (box_bounds (record { axis = y; offset = 0; remaining = 0; cross = d }))))) y
      along_both x c y d e f =
          ap (λ (z : Axis). extent_of (box_size (g (AsBox (box_bounds (record { axis = z; offset = 0; remaining = 0; cross = c }))))) z) e
          ∙ ap (λ (k : ℕ). extent_of (box_size (g (AsBox (box_bounds (record { axis = y; offset = 0; remaining = 0; cross = k }))))) y) f

  steady_scroll : (look : Look) (count : ℕ) (b v : SliverBounds) (ds : List ParentData) (gs : List (Ask → Frame)) → AreSteady gs
      → b.axis ≡ v.axis → b.cross ≡ v.cross → sliver_scroll look count b ds gs ≡ sliver_scroll look count v ds gs
  steady_scroll sliver_to_box count b v ds [] steady axis cross = refl
  steady_scroll sliver_to_box count b v ds (g ∷ gs) steady axis cross = box_extent b v g axis cross
  steady_scroll (sliver_padding left top right bottom) count b v ds [] steady axis cross =
      ap (λ (x : Axis). stopped (before (insets_of left top right bottom) x + after (insets_of left top right bottom) x)) axis
  steady_scroll (sliver_padding left top right bottom) count b v ds (g ∷ gs) steady axis cross =
      let i = insets_of left top right bottom in
      let child : (frame_geometry (g (AsSliver (padded_of b i)))).scroll ≡ (frame_geometry (g (AsSliver (padded_of v i)))).scroll =
      steady.0 (padded_of b i) (padded_of v i) axis (ap (λ (n : ℕ). n - along i (other_of b.axis)) cross ∙ ap (λ (x : Axis). v.cross - along i (other_of x)) axis) in
      ap (λ (x : Axis). stopped (before i x + after i x + (frame_geometry (g (AsSliver (padded_of b i)))).scroll)) axis
      ∙ ap (λ (n : ℕ). stopped (before i v.axis + after i v.axis + n)) child
  steady_scroll look count b v ds gs steady axis cross = refl

  -- ---- children keep to their bounds

  one_within : (o : Option Ask) (g : Ask → Frame) → IsObject g → IsWithinAsk o g
  one_within None g is = tt
  one_within (Some (AsBox b)) g is = is.within b
  one_within (Some (AsSliver b)) g is = tt

  all_within : (asks : List (Option Ask)) (gs : List (Ask → Frame)) → AreObjects gs → AllWithinAsks asks gs
  all_within [] gs are = tt
  all_within (ask ∷ asks) [] are = tt
  all_within (ask ∷ asks) (g ∷ gs) are = (one_within ask g are.0, all_within asks gs are.1)

-- what is known of the rules for boxes from the laws of layout
pub record BoxLaws : Type 0 where
  pub within : (s : Setting) (look : Look) (scroll : ℕ) (b : Bounds) (liked : ℕ) (ds : List ParentData) (gs : List (Ask → Frame))
      → AllWithinAsks (box_asks s look scroll b liked ds gs) gs → IsWithin b (box_given s look scroll b liked ds gs).size
  pub fixed : (s : Setting) (look : Look) (scroll : ℕ) (b : Bounds) (liked : ℕ) (ds : List ParentData) (gs : List (Ask → Frame)) (size : Size)
      → fixed_size look b ≡ Some size → AllWithinAsks (box_asks s look scroll b liked ds gs) gs → (box_given s look scroll b liked ds gs).size ≡ size
  pub blind_asks : (s : Setting) (look : Look) (scroll : ℕ) (b : Bounds) (liked likes : ℕ) (ds : List ParentData) (gs hs : List (Ask → Frame))
      → is_blind look ≡ true → box_asks s look scroll b liked ds gs ≡ box_asks s look scroll b likes ds hs
  pub blind_makes : (s : Setting) (look : Look) (scroll : ℕ) (b : Bounds) (liked likes : ℕ) (ds : List ParentData) (gs hs : List (Ask → Frame))
      → is_blind look ≡ true → length gs ≡ length hs → box_given s look scroll b liked ds gs ≡ box_given s look scroll b likes ds hs

abbrev asks_in : Setting → NodeMember → ℕ → Ask → ℕ → List ParentData → List (Ask → Frame) → List (Option Ask)
asks_in s m scroll ask liked ds gs = asks_by (parts_of s) m scroll ask liked ds gs

abbrev made_in : Setting → NodeMember → ℕ → Ask → ℕ → List ParentData → List (Ask → Frame) → RuleGift
made_in s m scroll ask liked ds gs = made_by (parts_of s) m scroll ask liked ds gs

asked_law : (s : Setting) (m : NodeMember) (scroll : ℕ) (ask : Ask) (liked : ℕ) (ds : List ParentData) (gs : List (Ask → Frame)) → ask_in (made_in s m scroll ask liked ds gs).facts.frame ≡ ask
unfolding made_by
asked_law s m scroll (AsBox b) liked ds gs = refl
asked_law s m scroll (AsSliver b) liked ds gs = refl

object_law : BoxLaws → (s : Setting) (m : NodeMember) (scroll : ℕ) (liked : Ask → ℕ) (ds : List ParentData) (gs : List (Ask → Frame))
    → AreObjects gs → IsObject (λ ask. (made_in s m scroll ask (liked ask) ds gs).facts.frame)
unfolding made_by asks_by
object_law laws s m scroll liked ds gs are = record {
  asked = λ ask. asked_law s m scroll ask (liked ask) ds gs;
  within = λ b. laws.within s m.look scroll b (liked (AsBox b)) ds gs (all_within s (box_asks s m.look scroll b (liked (AsBox b)) ds gs) gs are);
  steady = λ b v axis cross. steady_scroll s m.look m.count b v ds gs (objects_steady gs are) axis cross;
}

alike_asks_law : (s : Setting) (m : NodeMember) (scroll : ℕ) (ask : Ask) (liked : ℕ) (ds : List ParentData) (gs hs : List (Ask → Frame))
    → AreSteady gs → AreSteady hs → AnswerAlike (asks_in s m scroll ask liked ds gs) gs hs → asks_in s m scroll ask liked ds gs ≡ asks_in s m scroll ask liked ds hs
unfolding asks_by
alike_asks_law s m scroll (AsBox b) liked ds gs hs gsteady hsteady alike = box_alike_asks s m.look (is_view m.look) scroll b liked ds gs hs gsteady hsteady alike
alike_asks_law s m scroll (AsSliver b) liked ds gs hs gsteady hsteady alike = refl

alike_made_law : (s : Setting) (m : NodeMember) (scroll : ℕ) (ask : Ask) (liked : ℕ) (ds : List ParentData) (gs hs : List (Ask → Frame))
    → AreSteady gs → AreSteady hs → AnswerAlike (asks_in s m scroll ask liked ds gs) gs hs → made_in s m scroll ask liked ds gs ≡ made_in s m scroll ask liked ds hs
unfolding asks_by made_by
alike_made_law s m scroll (AsBox b) liked ds gs hs gsteady hsteady alike =
    same_gift s m.look b liked ds gs hs scroll scroll
    (box_alike_found s m.look (is_view m.look) scroll b liked ds gs hs gsteady hsteady alike)
    (box_alike_asks s m.look (is_view m.look) scroll b liked ds gs hs gsteady hsteady alike)
    (answers_alike (box_asks s m.look scroll b liked ds gs) gs hs alike)
alike_made_law s m scroll (AsSliver b) liked ds gs hs gsteady hsteady alike =
    ap (λ (fs : List (Option Frame)). sliver_gift s m.look b (sliver_makes m.look m.count b ds fs))
    (answers_alike (last_asks (sliver_asks m.look m.count b ds) []) gs hs alike)

size_of_fixed : (b : Bounds) (o : Option Size) (frame : Frame) → option_map (λ (size : Size). Boxed b size) o ≡ Some frame → (size : Size) × (o ≡ Some size) × (Boxed b size ≡ frame)
size_of_fixed b None frame e = absurd (none_some frame e)
size_of_fixed b (Some size) frame e = (size, refl, same_Some e)

fixed_sliver : (s : Setting) (look : Look) (count : ℕ) (b : SliverBounds) (ds : List ParentData) (fs : List (Option Frame)) (frame : Frame)
    → option_map (λ (extent : ℕ). Sliver b (list_geometry_of b extent count)) (lazy_extent look) ≡ Some frame
    → (sliver_gift s look b (sliver_makes look count b ds fs)).facts.frame ≡ frame
fixed_sliver s (sliver_lazy extent) count b ds fs frame e = same_Some e
fixed_sliver s look count b ds fs frame e = absurd (none_some frame e)

fixed_law : BoxLaws → (s : Setting) (m : NodeMember) (scroll : ℕ) (ask : Ask) (liked : ℕ) (ds : List ParentData) (gs : List (Ask → Frame)) (frame : Frame)
    → AreObjects gs → fixed_in m ask ≡ Some frame → (made_in s m scroll ask liked ds gs).facts.frame ≡ frame
unfolding asks_by made_by
fixed_law laws s m scroll (AsBox b) liked ds gs frame are e =
    let size = size_of_fixed b (fixed_size m.look b) frame e in
    ap (λ (n : Size). Boxed b n) (laws.fixed s m.look scroll b liked ds gs size.0 size.1 (all_within s (box_asks s m.look scroll b liked ds gs) gs are)) ∙ size.2
fixed_law laws s m scroll (AsSliver b) liked ds gs frame are e =
    fixed_sliver s m.look m.count b ds (answers_of (last_asks (sliver_asks m.look m.count b ds) []) gs) frame e

blind_asks_law : BoxLaws → (s : Setting) (m : NodeMember) (scroll : ℕ) (ask : Ask) (liked : ℕ) (ds : List ParentData) (gs hs : List (Ask → Frame))
    → is_blind m.look ≡ true → length gs ≡ length hs → asks_in s m scroll ask liked ds gs ≡ asks_in s m scroll ask liked ds hs
unfolding asks_by
blind_asks_law laws s m scroll (AsBox b) liked ds gs hs blind count = laws.blind_asks s m.look scroll b liked liked ds gs hs blind
blind_asks_law laws s m scroll (AsSliver b) liked ds gs hs blind count = refl

blind_sliver : (s : Setting) (look : Look) (count : ℕ) (b : SliverBounds) (ds : List ParentData) (fs gs : List (Option Frame)) → is_blind look ≡ true
    → sliver_gift s look b (sliver_makes look count b ds fs) ≡ sliver_gift s look b (sliver_makes look count b ds gs)
blind_sliver s (offstage hidden) count b ds fs gs blind = refl
blind_sliver s look count b ds fs gs blind = absurd (false_true blind)

blind_made_law : BoxLaws → (s : Setting) (m : NodeMember) (scroll : ℕ) (ask : Ask) (liked : ℕ) (ds : List ParentData) (gs hs : List (Ask → Frame))
    → is_blind m.look ≡ true → length gs ≡ length hs → made_in s m scroll ask liked ds gs ≡ made_in s m scroll ask liked ds hs
unfolding asks_by made_by
blind_made_law laws s m scroll (AsBox b) liked ds gs hs blind count =
    ap (λ (x : Makes). box_gift s m.look b x) (laws.blind_makes s m.look scroll b liked liked ds gs hs blind count)
blind_made_law laws s m scroll (AsSliver b) liked ds gs hs blind count =
    blind_sliver s m.look m.count b ds (answers_of (last_asks (sliver_asks m.look m.count b ds) []) gs) (answers_of (last_asks (sliver_asks m.look m.count b ds) []) hs) blind

unscrolled_law : (s : Setting) (m : NodeMember) (scroll other : ℕ) (ask : Ask) (liked : ℕ) (ds : List ParentData) (gs : List (Ask → Frame))
    → (made_in s m scroll ask liked ds gs).facts.frame ≡ (made_in s m other ask liked ds gs).facts.frame
unfolding asks_by made_by
unscrolled_law s m scroll other (AsBox b) liked ds gs = box_unscrolled s m.look (is_view m.look) scroll other b liked ds gs
unscrolled_law s m scroll other (AsSliver b) liked ds gs = refl

stays_asked_law : (s : Setting) (m : NodeMember) (scroll : ℕ) (ask : Ask) (liked : ℕ) (ds : List ParentData) (gs : List (Ask → Frame))
    → asks_in s m (scroll_after m.look (made_in s m scroll ask liked ds gs) scroll) ask liked ds gs ≡ asks_in s m scroll ask liked ds gs
unfolding asks_by made_by
stays_asked_law s m scroll (AsBox b) liked ds gs = box_stays_asks s m.look (is_view m.look) scroll b liked ds gs
stays_asked_law s m scroll (AsSliver b) liked ds gs = refl

stays_made_law : (s : Setting) (m : NodeMember) (scroll : ℕ) (ask : Ask) (liked : ℕ) (ds : List ParentData) (gs : List (Ask → Frame))
    → made_in s m (scroll_after m.look (made_in s m scroll ask liked ds gs) scroll) ask liked ds gs ≡ made_in s m scroll ask liked ds gs
unfolding asks_by made_by
stays_made_law s m scroll (AsBox b) liked ds gs = box_stays_gift s m.look (is_view m.look) scroll b liked ds gs
stays_made_law s m scroll (AsSliver b) liked ds gs = refl

held_sliver : (s : Setting) (look : Look) (count : ℕ) (b : SliverBounds) (ds : List ParentData) (fs : List (Option Frame)) → holds_in look (AsSliver b) ≡ true
    → option_map (λ (extent : ℕ). Sliver b (list_geometry_of b extent count)) (lazy_extent look) ≡ Some (sliver_gift s look b (sliver_makes look count b ds fs)).facts.frame
held_sliver s (sliver_lazy extent) count b ds fs holds = refl
held_sliver s look count b ds fs holds = absurd (false_true holds)

box_unheld : (look : Look) (b : Bounds) → holds_in look (AsBox b) ≡ false
box_unheld (sliver_lazy extent) b = refl
box_unheld look b = refl

held_law : (s : Setting) (m : NodeMember) (scroll : ℕ) (ask : Ask) (liked : ℕ) (ds : List ParentData) (gs : List (Ask → Frame))
    → holds_in m.look ask ≡ true → fixed_in m ask ≡ Some (made_in s m scroll ask liked ds gs).facts.frame
unfolding asks_by made_by
held_law s m scroll (AsBox b) liked ds gs holds = absurd (false_true (sym (box_unheld m.look b) ∙ holds))
held_law s m scroll (AsSliver b) liked ds gs holds = held_sliver s m.look m.count b ds (answers_of (last_asks (sliver_asks m.look m.count b ds) []) gs) holds

list_law : (s : Setting) (m : NodeMember) (look : Look) (scroll : ℕ) (ask : Ask) (liked likes : ℕ) (ds es : List ParentData) (gs hs : List (Ask → Frame)) → is_list look ≡ true
    → (made_in s (record m { look = look }) scroll ask liked ds gs).facts ≡ (made_in s (record m { look = look }) scroll ask likes es hs).facts
unfolding asks_by made_by
list_law s m (sliver_lazy extent) scroll (AsBox b) liked likes ds es gs hs is = refl
list_law s m (sliver_lazy extent) scroll (AsSliver b) liked likes ds es gs hs is = refl
list_law s m look scroll ask liked likes ds es gs hs is = absurd (false_true is)

holds_list : (look : Look) (ask : Ask) → holds_in look ask ≡ true → is_list look ≡ true
holds_list (sliver_lazy extent) ask holds = refl
holds_list look ask holds = absurd (false_true holds)

pub lawful : BoxLaws → (s : Setting) → Lawful (parts_of s)
lawful laws s = record {
  asked = asked_law s;
  object = object_law laws s;
  alike_asks = alike_asks_law s;
  alike_made = alike_made_law s;
  fixed = fixed_law laws s;
  blind_asks = blind_asks_law laws s;
  blind_made = blind_made_law laws s;
  frames_unscrolled = unscrolled_law s;
  stays_asked = stays_asked_law s;
  stays_made = stays_made_law s;
  held = held_law s;
  holds_lists = holds_list;
  lists = λ m scroll ask liked likes ds es gs hs is. list_law s m m.look scroll ask liked likes ds es gs hs is;
}
