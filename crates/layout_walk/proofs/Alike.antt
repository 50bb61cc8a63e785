-- Children that answer the same, as they are asked, are asked the same, and the same is made of it: the rules of layout.
use Rattle.std.proofs.Common.{◌≡◌, ap, refl, sym, subst, ◌∙◌, ◌⊎◌, inl, inr, ℕ, Option, Some, None, option_map, List, [], ◌∷◌, map}
use Rattle.fx_geom.specs.declared.boxes.Bounds.{Bounds}
use Rattle.fx_geom.specs.declared.shapes.Axis.{Axis}
use Rattle.fx_geom.specs.declared.shapes.Axis.TheVariants.{Horizontal, Vertical}
use Rattle.fx_geom.specs.Along.{most_along}
use Rattle.fx_geom.specs.Len.{total_of}
use Rattle.sliver_layout.specs.declared.protocol.Walk.{Walk}
use Rattle.sliver_layout.specs.Slivers.{geometry_of, walk_past, view_of}
use Rattle.widget_model.specs.Look.{Look, row, column, stack, viewport}
use Rattle.plain_tree.specs.declared.laid.Frame.{Frame}
use Rattle.plain_tree.specs.declared.render.ParentData.{ParentData}
use Rattle.layout_form.specs.declared.asks.Ask.{Ask}
use Rattle.layout_form.specs.declared.asks.Ask.TheVariants.{AsSliver}
use Rattle.layout_form.specs.Object.{frame_geometry, extents_of}
use Rattle.layout_form.specs.FlexRule.{flex_bounds}
use Rattle.layout_form.specs.StackRule.{position_of, free_bounds, stack_child}
use Rattle.layout_form.specs.SliverRule.{unseen}
use Rattle.layout_form.specs.Protocol.{everybody, Found}
use Rattle.layout_form.specs.Frames.{frames_given, sizes_by, scrolls_by, extents_by, views_by, found_makes, others_by, rest_makes}
use Rattle.layout_form.specs.Framed.{answers_of, last_ask, last_asks}
use Rattle.layout_walk.specs.Rule.{SameAnswer, AnswerAlike, ask_of, AreSteady}

-- ---- kinds but Viewport

abbrev pub IsView : Look → Type 0
IsView look = (axis : Axis) × (look ≡ viewport axis)

-- a kind that doesn't see where a Viewport is scrolled, and asks then those that haven't answered
pub record IsNoView (look : Look) : Type 0 where
  pub found : (scroll other : ℕ) (b : Bounds) (fs : List (Option Frame)) → found_makes look scroll b fs ≡ found_makes look other b fs
  pub rest : (b : Bounds) (found : Found) (ds : List ParentData) (fs : List (Option Frame)) → (bs : List Bounds) × (rest_makes look b found ds fs ≡ others_by bs fs)

pub is_view : (look : Look) → IsView look ⊎ IsNoView look
is_view (viewport axis) = inl (axis, refl)
is_view (row main cross size) = inr (record {
  found = λ scroll other b fs. refl;
  rest = λ b found ds fs. (flex_bounds Horizontal cross b (most_along b Horizontal) (total_of (extents_of Horizontal (sizes_by (frames_given fs)))) ds, refl);
})
is_view (column main cross size) = inr (record {
  found = λ scroll other b fs. refl;
  rest = λ b found ds fs. (flex_bounds Vertical cross b (most_along b Vertical) (total_of (extents_of Vertical (sizes_by (frames_given fs)))) ds, refl);
})
is_view (stack ax ay fit) = inr (record {
  found = λ scroll other b fs. refl;
  rest = λ b found ds fs. (map (λ (d : ParentData). stack_child (free_bounds fit b) found.size (position_of d.placed)) ds, refl);
})
is_view look = inr (record { found = λ scroll other b fs. refl; rest = λ b found ds fs. ([], refl) })

-- ---- lists of answers

one_alike : (o : Option Ask) (g h : Ask → Frame) → SameAnswer o g h → option_map g o ≡ option_map h o
one_alike None g h same = refl
one_alike (Some ask) g h same = ap (λ (f : Frame). Some f) same

pub answers_alike : (asks : List (Option Ask)) (gs hs : List (Ask → Frame)) → AnswerAlike asks gs hs → answers_of asks gs ≡ answers_of asks hs
answers_alike [] [] [] alike = refl
answers_alike (ask ∷ asks) [] [] alike = refl
answers_alike asks [] (h ∷ hs) alike = absurd alike
answers_alike asks (g ∷ gs) [] alike = absurd alike
answers_alike [] (g ∷ gs) (h ∷ hs) alike = ap (λ (fs : List (Option Frame)). None ∷ fs) (answers_alike [] gs hs alike.1)
answers_alike (ask ∷ asks) (g ∷ gs) (h ∷ hs) alike =
    ap (λ (f : Option Frame). f ∷ answers_of asks gs) (one_alike ask g h alike.0) ∙ ap (λ (fs : List (Option Frame)). option_map h ask ∷ fs) (answers_alike asks gs hs alike.1)

-- who hasn't answered is asked then, so that who has keeps the ask
head_first : (o : Option Ask) (b : Bounds) (g h : Ask → Frame) → SameAnswer (last_ask o (ask_of (others_by (b ∷ []) (option_map g o ∷ [])))) g h → SameAnswer o g h
head_first None b g h same = tt
head_first (Some ask) b g h same = same

last_nobody : (asks : List (Option Ask)) → last_asks asks [] ≡ asks
last_nobody [] = refl
last_nobody (ask ∷ asks) = refl

pub first_alike : (bs : List Bounds) (first : List (Option Ask)) (gs hs : List (Ask → Frame))
    → AnswerAlike (last_asks first (others_by bs (answers_of first gs))) gs hs → AnswerAlike first gs hs
first_alike bs first [] [] alike = tt
first_alike bs first [] (h ∷ hs) alike = absurd alike
first_alike bs first (g ∷ gs) [] alike = absurd alike
first_alike [] first (g ∷ gs) (h ∷ hs) alike = subst (λ (asks : List (Option Ask)). AnswerAlike asks (g ∷ gs) (h ∷ hs)) (last_nobody first) alike
first_alike (b ∷ bs) [] (g ∷ gs) (h ∷ hs) alike = (tt, first_alike bs [] gs hs alike.1)
first_alike (b ∷ bs) (ask ∷ first) (g ∷ gs) (h ∷ hs) alike = (head_first ask b g h alike.0, first_alike bs first gs hs alike.1)

-- ---- Viewport

abbrev pub somes : List (Option ℕ) → List ℕ
somes [] = []
somes (None ∷ ns) = somes ns
somes (Some n ∷ ns) = n ∷ somes ns

pub scrolls_are : (fs : List (Option Frame)) → scrolls_by fs ≡ somes (extents_by fs)
scrolls_are [] = refl
scrolls_are (None ∷ fs) = scrolls_are fs
scrolls_are (Some f ∷ fs) = ap (λ (ns : List ℕ). (frame_geometry f).scroll ∷ ns) (scrolls_are fs)

abbrev pub unseen_known : Axis → ℕ → List ParentData → List (Ask → Frame) → List (Option Frame)
unseen_known axis cross ds gs = answers_of (everybody (AsSliver (unseen axis cross)) ds) gs

-- how far slivers can be scrolled through is the same, where they answer the same in their views
pub extents_alike : (axis : Axis) (main cross : ℕ) (walk : Walk) (ds : List ParentData) (gs hs : List (Ask → Frame)) → AreSteady gs → AreSteady hs
    → AnswerAlike (last_asks (everybody (AsSliver (unseen axis cross)) ds) (views_by axis main cross walk (extents_by (unseen_known axis cross ds gs)))) gs hs
    → extents_by (unseen_known axis cross ds gs) ≡ extents_by (unseen_known axis cross ds hs)
extents_alike axis main cross walk [] [] [] gsteady hsteady alike = refl
extents_alike axis main cross walk (d ∷ ds) [] [] gsteady hsteady alike = refl
extents_alike axis main cross walk ds [] (h ∷ hs) gsteady hsteady alike = absurd alike
extents_alike axis main cross walk ds (g ∷ gs) [] gsteady hsteady alike = absurd alike
extents_alike axis main cross walk [] (g ∷ gs) (h ∷ hs) gsteady hsteady alike =
    ap (λ (ns : List (Option ℕ)). None ∷ ns) (extents_alike axis main cross walk [] gs hs gsteady.1 hsteady.1 alike.1)
extents_alike axis main cross walk (d ∷ ds) (g ∷ gs) (h ∷ hs) gsteady hsteady alike =
    let u = unseen axis cross in
    let v = view_of axis main cross walk in
    let n : ℕ = (frame_geometry (g (AsSliver u))).scroll in
    let same : (frame_geometry (g (AsSliver u))).scroll ≡ (frame_geometry (h (AsSliver u))).scroll =
    gsteady.0 u v refl refl ∙ ap (λ (f : Frame). (frame_geometry f).scroll) alike.0 ∙ sym (hsteady.0 u v refl refl) in
    ap (λ (k : ℕ). Some k ∷ extents_by (unseen_known axis cross ds gs)) same
    ∙ ap (λ (ns : List (Option ℕ)). Some (frame_geometry (h (AsSliver u))).scroll ∷ ns)
    (extents_alike axis main cross (walk_past walk (geometry_of v n)) ds gs hs gsteady.1 hsteady.1 alike.1)
