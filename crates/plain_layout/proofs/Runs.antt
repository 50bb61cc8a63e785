-- What a node's children were asked and answered, and that the node is then what its object answers.
use Rattle.std.proofs.Common.{◌≡◌, ◌⊎◌, inl, inr, ap, refl, sym, ◌∙◌, subst, ℕ, suc, Option, Some, None, List, [], ◌∷◌, map, length}
use Rattle.fx_geom.specs.declared.boxes.Bounds.{Bounds}
use Rattle.fx_geom.specs.declared.shapes.Axis.{Axis}
use Rattle.fx_geom.specs.Insets.{extent_of, other_of}
use Rattle.fx_geom.specs.Size.{HasLengths}
use Rattle.widget_model.specs.Look.{Look, viewport, sliver_to_box, sliver_padding}
use Rattle.plain_tree.specs.declared.laid.Frame.{Frame}
use Rattle.plain_tree.specs.declared.render.ParentData.{ParentData}
use Rattle.plain_tree.specs.Laid.{Laid}
use Rattle.plain_tree.specs.Render.{Render, render, renders_of}
use Rattle.layout_form.specs.declared.asks.Ask.{Ask}
use Rattle.layout_form.specs.declared.asks.Ask.TheVariants.{AsBox, AsSliver}
use Rattle.layout_form.specs.Fits.{data_of}
use Rattle.layout_form.specs.Object.{Setting, Object, only_of}
use Rattle.layout_form.specs.SliverRule.{view_size}
use Rattle.layout_form.specs.Layout.{object}
use Rattle.layout_form.specs.Protocol.{answer, round, present, Found}
use Rattle.layout_form.specs.Frames.{frames_in, frames_given}
use Rattle.kind_rules.specs.Asked.{liked_for, first_for, found_for, rest_for, ruling_for, AreLong, IsWalk}
use Rattle.kind_rules.specs.Cursor.{look_of, count_in, children_of}
use Rattle.plain_layout.specs.Computed.{blank, laid_by, number_of, scroll_of}
use Rattle.plain_layout.specs.Slivers.{viewed, across, kept_slots, next_slots, first_frames, AllTasks}
use Rattle.plain_layout.proofs.Trees.{node_with}
use Rattle.plain_layout.proofs.Asking.{rest_tasks}
use Rattle.plain_layout.proofs.Lengths.{sizes_long, found_long, no_walk}
use Rattle.plain_layout.proofs.RoundSteps.{length_blank, rounds_next, boxes_next, next_length}
use Rattle.plain_layout.proofs.LayIs.{SeesFrames, SliversSeeFrames, InRounds, known_are, afters_are, lay_is}
use Rattle.plain_layout.proofs.Views.{MeasuredByBoxes, FollowScrolls, NeedScrolls, InViews, views_ready, views_answer, size_long, frames_after, walk_is, view_is}

-- a Viewport that is asked as a box, or a node whose children are asked in rounds
abbrev IsViewed : Look → Ask → Type 0
IsViewed l ask = (axis : Axis) × ((b : Bounds) × ((l ≡ viewport axis) × (ask ≡ AsBox b)))

either : (l : Look) (ask : Ask) → (viewed l ask ≡ None) ⊎ IsViewed l ask
either (viewport axis) (AsBox b) = inr (axis, (b, (refl, refl)))
either l ask = inl refl

pub record Run (s : Setting) (l : Look) (o k : ℕ) (rs : List Render) (ask : Ask) (kept : Option Laid) (ds : List ParentData) (view : Option (Axis × ℕ))
    (asks rest : List (Option Ask)) (before slots : List (Option Laid)) (frames : List (Option Frame)) (found : Found) : Type 0 where
  pub told_is : ds ≡ map data_of rs
  pub view_is : view ≡ across (viewed l ask)
  pub asks_is : asks ≡ first_for s l k ask (liked_for l ask (only_of (map (object s) rs))) ds
  pub before_is : before ≡ kept_slots l ask kept rs
  pub slots_is : slots ≡ next_slots s view asks before rs
  pub frames_is : frames ≡ first_frames view rs slots
  pub found_is : found ≡ found_for l o ask frames
  pub rest_is : rest ≡ rest_for l ask found ds frames

-- what is kept of a child is no answer of its own
kept_round : (s : Setting) (l : Look) (k : ℕ) (ask : Ask) (kept : Option Laid) (liked : ℕ) (ds : List ParentData) (rs : List Render)
    → round (first_for s l k ask liked ds) (kept_slots l ask kept rs) (map (object s) rs) ≡ round (first_for s l k ask liked ds) (blank rs) (map (object s) rs)
kept_round s l k ask kept liked ds [] = refl
kept_round s sliver_to_box k (AsSliver b) kept liked ds (r ∷ rs) = refl
kept_round s (sliver_padding m0 m1 m2 m3) k (AsSliver b) kept liked ds (r ∷ rs) = refl
kept_round s l k ask kept liked ds (r ∷ rs) = refl

kept_long : (l : Look) (ask : Ask) (kept : Option Laid) (rs : List Render) → length (kept_slots l ask kept rs) ≡ length rs
kept_long l ask kept [] = refl
kept_long l ask kept (r ∷ rs) = ap suc (length_blank rs)

nothing_kept : (axis : Axis) (b : Bounds) (kept : Option Laid) (rs : List Render) → kept_slots (viewport axis) (AsBox b) kept rs ≡ blank rs
nothing_kept axis b kept [] = refl
nothing_kept axis b kept (r ∷ rs) = refl

module _ (s : Setting) (l : Look) (o k : ℕ) (rs : List Render) (ask : Ask) (kept : Option Laid) (ds : List ParentData) (view : Option (Axis × ℕ))
    (asks rest : List (Option Ask)) (before slots : List (Option Laid)) (frames : List (Option Frame)) (found : Found)
    (p : Run s l o k rs ask kept ds view asks rest before slots frames found) where
  abbrev cs : List Object
  cs = map (object s) rs

  abbrev liked : ℕ
  liked = liked_for l ask (only_of cs)

  -- in rounds
  view_none : viewed l ask ≡ None → view ≡ None
  view_none none = p.view_is ∙ ap across none

  before_long : length before ≡ length rs
  before_long = ap length p.before_is ∙ kept_long l ask kept rs

  slots_long : length slots ≡ length rs
  slots_long = ap length p.slots_is ∙ next_length s view asks before rs before_long

  slots_rounds : viewed l ask ≡ None → slots ≡ round asks (blank rs) cs
  slots_rounds none =
      p.slots_is ∙ ap (λ (v : Option (Axis × ℕ)). next_slots s v asks before rs) (view_none none)
      ∙ rounds_next s asks before rs before_long
      ∙ ap (λ (x : List (Option Ask)). round x before cs) p.asks_is
      ∙ ap (λ (x : List (Option Laid)). round (first_for s l k ask liked ds) x cs) p.before_is
      ∙ kept_round s l k ask kept liked ds rs
      ∙ ap (λ (x : List (Option Ask)). round x (blank rs) cs) (sym p.asks_is)

  frames_rounds : viewed l ask ≡ None → frames ≡ frames_in slots
  frames_rounds none = p.frames_is ∙ ap (λ (v : Option (Axis × ℕ)). first_frames v rs slots) (view_none none)

  in_rounds : viewed l ask ≡ None → (end : List (Option Laid)) → end ≡ next_slots s None rest slots rs → InRounds s l o k rs ask liked ds asks rest slots end frames found
  in_rounds none end ends = record {
    liked_is = refl;
    told_is = p.told_is;
    first_is = p.asks_is;
    slots_is = slots_rounds none;
    frames_is = frames_rounds none;
    found_is = p.found_is;
    rest_is = p.rest_is;
    after_is = ends ∙ rounds_next s rest slots rs slots_long;
  }

  in_views : (axis : Axis) (b : Bounds) → l ≡ viewport axis → ask ≡ AsBox b → InViews s l o rs axis b ds slots frames found rest
  in_views axis b look box =
      let cross = extent_of (view_size b) (other_of axis) in
      let seen : view ≡ Some (axis, cross) = p.view_is ∙ ap (λ (x : Look). across (viewed x ask)) look ∙ ap (λ (x : Ask). across (viewed (viewport axis) x)) box in
      let start : before ≡ blank rs =
      p.before_is ∙ ap (λ (x : Look). kept_slots x ask kept rs) look ∙ ap (λ (x : Ask). kept_slots (viewport axis) x kept rs) box ∙ nothing_kept axis b kept rs in
      record {
        look_is = look;
        boxes_is = p.slots_is ∙ ap (λ (v : Option (Axis × ℕ)). next_slots s v asks before rs) seen
            ∙ ap (λ (x : List (Option Laid)). next_slots s (Some (axis, cross)) asks x rs) start ∙ boxes_next s (axis, cross) asks rs;
        frames_is = p.frames_is ∙ ap (λ (v : Option (Axis × ℕ)). first_frames v rs slots) seen;
        found_is = p.found_is ∙ ap (λ (x : Ask). found_for l o x frames) box;
        asks_is = p.rest_is ∙ ap (λ (x : Ask). rest_for l x found ds frames) box;
      }

  module _ (by : MeasuredByBoxes) where
    pub rest_ready : AllTasks s None rest slots rs
    rest_ready = by_either (either l ask)
      where
        by_either : (viewed l ask ≡ None) ⊎ IsViewed l ask → AllTasks s None rest slots rs
        by_either (inl none) = rest_tasks s l ask found ds slots frames rs rest none (frames_rounds none) p.rest_is
        by_either (inr (axis, (b, (look, box)))) = views_ready by s l o rs axis b ds slots frames found rest (in_views axis b look box)

    module _ (follow : FollowScrolls) (end : List (Option Laid)) (ends : end ≡ next_slots s None rest slots rs) where
      pub sizes_are : AreLong ask (frames_given (frames_in end))
      sizes_are = by_either (either l ask)
        where
          by_either : (viewed l ask ≡ None) ⊎ IsViewed l ask → AreLong ask (frames_given (frames_in end))
          by_either (inl none) = sizes_long s ask _ rs (frames_in end) (afters_are s l o k rs ask liked ds asks rest slots end frames found (in_rounds none end ends))
          by_either (inr (axis, (b, (look, box)))) =
              let v = in_views axis b look box in
              sizes_long s ask rest rs (frames_in end)
              (frames_after by s l o rs axis b ds slots frames found rest v follow end (views_answer by s l o rs axis b ds slots frames found rest v end slots_long ends))

      pub found_is : HasLengths found.size
      found_is = by_either (either l ask)
        where
          by_either : (viewed l ask ≡ None) ⊎ IsViewed l ask → HasLengths found.size
          by_either (inl none) =
              found_long s l o ask asks rs frames found (known_are s l o k rs ask liked ds asks rest slots end frames found (in_rounds none end ends)) p.found_is
          by_either (inr (axis, (b, (look, box)))) = size_long by s l o rs axis b ds slots frames found rest (in_views axis b look box)

      pub walks : IsWalk l ask found.start (frames_given (frames_in end))
      walks = by_either (either l ask)
        where
          by_either : (viewed l ask ≡ None) ⊎ IsViewed l ask → IsWalk l ask found.start (frames_given (frames_in end))
          by_either (inl none) = no_walk l ask found.start (frames_given (frames_in end)) none
          by_either (inr (axis, (b, (look, box)))) =
              let v = in_views axis b look box in
              subst (λ (x : Ask). IsWalk l x found.start (frames_given (frames_in end))) (sym box)
              (walk_is by s l o rs axis b ds slots frames found rest v follow end (views_answer by s l o rs axis b ds slots frames found rest v end slots_long ends))

      pub done_is : (sees : SeesFrames) (slivers : SliversSeeFrames) (need : NeedScrolls) (n : ℕ) (d : ParentData) (node : Render) (result : Laid) → node ≡ render n l d o k (renders_of rs)
          → result ≡ laid_by s n l (ruling_for s l k ask found ds (frames_in end)) (present end) → result ≡ answer (object s node) ask
      done_is sees slivers need n d node result is e = by_either (either l ask)
        where
          by_either : (viewed l ask ≡ None) ⊎ IsViewed l ask → result ≡ answer (object s node) ask
          by_either (inl none) = lay_is s l o k rs ask liked ds asks rest slots end frames found (in_rounds none end ends) sees slivers n d node result is e
          by_either (inr (axis, (b, (look, box)))) =
              let v = in_views axis b look box in
              view_is by s l o rs axis b ds slots frames found rest v follow end (views_answer by s l o rs axis b ds slots frames found rest v end slots_long ends)
              need n d k node result is (e ∙ ap (λ (x : Ask). laid_by s n l (ruling_for s l k x found ds (frames_in end)) (present end)) box)
              ∙ ap (λ (x : Ask). answer (object s node) x) (sym box)

-- the same, as the program has it
pub run_is : (s : Setting) (node : Render) (rs : List Render) (ask : Ask) (kept : Option Laid) (view : Option (Axis × ℕ)) (seen : Option (Axis × Bounds))
    (asks rest : List (Option Ask)) (before slots : List (Option Laid)) (found : Found) (l1 l2 : Look)
    → rs ≡ children_of node → view ≡ across seen → seen ≡ viewed l1 ask → l1 ≡ look_of node → l2 ≡ look_of node
    → asks ≡ first_for s (look_of node) (count_in node) ask (liked_for (look_of node) ask (only_of (map (object s) (children_of node)))) (map data_of (children_of node))
    → before ≡ kept_slots l2 ask kept rs → slots ≡ next_slots s view asks before rs
    → found ≡ found_for (look_of node) (scroll_of node) ask (first_frames view (children_of node) slots)
    → rest ≡ rest_for (look_of node) ask found (map data_of (children_of node)) (first_frames view (children_of node) slots)
    → Run s (look_of node) (scroll_of node) (count_in node) rs ask kept (map data_of rs) view asks rest before slots (first_frames view rs slots) found
run_is s node rs ask kept view seen asks rest before slots found l1 l2 below views seens ls ks askss befores slotss founds rests =
    let l = look_of node in
    record {
      told_is = refl;
      view_is = views ∙ ap across (seens ∙ ap (λ (x : Look). viewed x ask) ls);
      asks_is = askss
          ∙ ap (λ (x : List Render). first_for s l (count_in node) ask (liked_for l ask (only_of (map (object s) x))) (map data_of x)) (sym below);
      before_is = befores ∙ ap (λ (x : Look). kept_slots x ask kept rs) ks;
      slots_is = slotss;
      frames_is = refl;
      found_is = founds ∙ ap (λ (x : List Render). found_for l (scroll_of node) ask (first_frames view x slots)) (sym below);
      rest_is = rests ∙ ap (λ (x : List Render). rest_for l ask found (map data_of x) (first_frames view x slots)) (sym below);
    }

-- ---- a node with nobody below it

no_frames : (view : Option (Axis × ℕ)) → [] ≡ first_frames view [] []
no_frames None = refl
no_frames (Some view) = refl

abbrev asks_alone : Setting → Render → Ask → List (Option Ask)
asks_alone s node ask = first_for s (look_of node) (count_in node) ask (liked_for (look_of node) ask (only_of [])) []

module _ (s : Setting) (node : Render) (ask : Ask) (found : Found) (is : found ≡ found_for (look_of node) (scroll_of node) ask []) where
  abbrev view_alone : Option (Axis × ℕ)
  view_alone = across (viewed (look_of node) ask)

  abbrev rest_alone : List (Option Ask)
  rest_alone = rest_for (look_of node) ask found [] []

  alone : Run s (look_of node) (scroll_of node) (count_in node) [] ask None [] view_alone (asks_alone s node ask) rest_alone [] [] [] found
  alone = record {
    told_is = refl;
    view_is = refl;
    asks_is = refl;
    before_is = refl;
    slots_is = refl;
    frames_is = no_frames view_alone;
    found_is = is;
    rest_is = refl;
  }

  module _ (by : MeasuredByBoxes) (follow : FollowScrolls) where
    pub sizes_alone : AreLong ask (frames_given [])
    sizes_alone = sizes_are s (look_of node) (scroll_of node) (count_in node) [] ask None [] view_alone (asks_alone s node ask) rest_alone [] [] [] found alone by follow [] refl

    pub found_alone : HasLengths found.size
    found_alone = found_is s (look_of node) (scroll_of node) (count_in node) [] ask None [] view_alone (asks_alone s node ask) rest_alone [] [] [] found alone by follow [] refl

    pub walks_alone : IsWalk (look_of node) ask found.start (frames_given [])
    walks_alone = walks s (look_of node) (scroll_of node) (count_in node) [] ask None [] view_alone (asks_alone s node ask) rest_alone [] [] [] found alone by follow [] refl

    pub bare_is : (sees : SeesFrames) (slivers : SliversSeeFrames) (need : NeedScrolls) (result : Laid) → children_of node ≡ []
        → result ≡ laid_by s (number_of node) (look_of node) (ruling_for s (look_of node) (count_in node) ask found [] []) [] → result ≡ answer (object s node) ask
    bare_is sees slivers need result nobody e =
        done_is s (look_of node) (scroll_of node) (count_in node) [] ask None [] view_alone (asks_alone s node ask) rest_alone [] [] [] found alone by follow [] refl
        sees slivers need (number_of node) (data_of node) node result (node_with node [] (sym nobody)) e
