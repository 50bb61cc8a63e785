-- What the program computes for a node is what its object answers.
use Rattle.std.proofs.Common.{◌≡◌, ap, refl, sym, ◌∙◌, subst, ℕ, Option, None, List, [], ◌∷◌, map}
use Rattle.fx_geom.specs.declared.boxes.Bounds.{Bounds}
use Rattle.sliver_layout.specs.declared.protocol.SliverBounds.{SliverBounds}
use Rattle.widget_model.specs.declared.widgets.Widget.{Widget}
use Rattle.widget_model.specs.Look.{Look}
use Rattle.widget_model.specs.View.{look_in}
use Rattle.plain_tree.specs.declared.laid.Frame.{Frame}
use Rattle.plain_tree.specs.declared.render.ParentData.{ParentData}
use Rattle.plain_tree.specs.Laid.{Laid}
use Rattle.plain_tree.specs.Render.{Render, render, Renders, renders_of, lazy_count}
use Rattle.plain_tree.specs.RenderRole.{render_role_of}
use Rattle.layout_form.specs.declared.asks.Ask.{Ask}
use Rattle.layout_form.specs.declared.asks.Ask.TheVariants.{AsBox, AsSliver}
use Rattle.layout_form.specs.Fits.{data_of}
use Rattle.layout_form.specs.Object.{Setting, Object, Done, Passed, datas, only_of}
use Rattle.layout_form.specs.Layout.{object, objects, box_rule, sliver_rule, laid_box, laid_sliver}
use Rattle.layout_form.specs.Intrinsic.{liked_by}
use Rattle.layout_form.specs.Protocol.{answer, round, nothing, present, Found}
use Rattle.layout_form.specs.Frames.{frames_in, done_with, passed_with, sliver_asks}
use Rattle.layout_form.specs.Framed.{framed, answers_of, last_asks, laid_for, box_asks, box_given, sliver_given}
use Rattle.layout_form.proofs.Objects.{objects_map, object_box, object_sliver}
use Rattle.layout_form.proofs.Framed.{answers_are, rounds_are}
use Rattle.kind_rules.specs.Asked.{liked_for, first_for, found_for, rest_for, ruling_for}
use Rattle.plain_layout.specs.Computed.{blank, laid_by}

-- a rule is what it makes of its children's frames
abbrev pub SeesFrames : Type 0
SeesFrames = (s : Setting) (look : Look) (scroll : ℕ) (b : Bounds) (rs : Renders) → let cs = objects s rs in
    let liked = liked_by look b (only_of cs) in
    box_rule s look scroll b cs
    ≡ done_with (box_given s look scroll b liked (datas cs) (map framed cs)) (laid_for (box_asks s look scroll b liked (datas cs) (map framed cs)) cs)

abbrev pub SliversSeeFrames : Type 0
SliversSeeFrames = (look : Look) (count : ℕ) (b : SliverBounds) (cs : List Object)
    → sliver_rule look count b cs ≡ passed_with (sliver_given look count b (datas cs) (map framed cs)) (laid_for (sliver_asks look count b (datas cs)) cs)

-- the node that the program goes over
pub node_is : (n o k : ℕ) (d : ParentData) (w v u : Widget) (rs qs : List Render) (node : Render)
    → render n (look_in w.kind) d o (lazy_count (render_role_of (look_in w.kind)) w.children) (renders_of rs) ≡ node
    → v ≡ w → u ≡ w → k ≡ lazy_count (render_role_of (look_in u.kind)) u.children → qs ≡ rs
    → node ≡ render n (look_in v.kind) d o k (renders_of qs)
node_is n o k d w v u rs qs node is vs us ks rss =
    let count : lazy_count (render_role_of (look_in w.kind)) w.children ≡ k =
    sym (ks ∙ ap (λ (x : Widget). lazy_count (render_role_of (look_in x.kind)) x.children) us) in
    sym is
    ∙ ap (λ (x : Widget). render n (look_in x.kind) d o (lazy_count (render_role_of (look_in w.kind)) w.children) (renders_of rs)) (sym vs)
    ∙ ap (λ (m : ℕ). render n (look_in v.kind) d o m (renders_of rs)) count
    ∙ ap (λ (ys : List Render). render n (look_in v.kind) d o k (renders_of ys)) (sym rss)

object_told : (s : Setting) (r : Render) → (object s r).parent_data ≡ data_of r
unfolding object
object_told s (render n l d o k rs) = refl

pub datas_are : (s : Setting) (rs : List Render) → datas (map (object s) rs) ≡ map data_of rs
datas_are s [] = refl
datas_are s (r ∷ rs) =
    ap (λ (d : ParentData). d ∷ datas (map (object s) rs)) (object_told s r) ∙ ap (λ (ds : List ParentData). data_of r ∷ ds) (datas_are s rs)

pub blank_is : (s : Setting) (rs : List Render) → blank rs ≡ nothing (map (object s) rs)
blank_is s [] = refl
blank_is s (r ∷ rs) = ap (λ (slots : List (Option Laid)). None ∷ slots) (blank_is s rs)

asks_end : (first : List (Option Ask)) → last_asks first [] ≡ first
asks_end [] = refl
asks_end (a ∷ asks) = refl

-- ---- what is asked in the end, and what is made of the answers

known_for : Setting → Look → ℕ → Ask → ℕ → List ParentData → List Object → List (Option Frame)
known_for s l k ask liked ds cs = answers_of (first_for s l k ask liked ds) (map framed cs)

final_for : Setting → Look → ℕ → ℕ → Ask → ℕ → List ParentData → List Object → List (Option Ask)
final_for s l o k ask liked ds cs =
    let known = known_for s l k ask liked ds cs in
    last_asks (first_for s l k ask liked ds) (rest_for l ask (found_for l o ask known) ds known)

whole : Setting → ℕ → Look → ℕ → ℕ → Ask → ℕ → List ParentData → List Object → Laid
whole s n l o k ask liked ds cs =
    let known = known_for s l k ask liked ds cs in
    let asks = final_for s l o k ask liked ds cs in
    laid_by s n l (ruling_for s l k ask (found_for l o ask known) ds (answers_of asks (map framed cs))) (laid_for asks cs)

box_whole : (s : Setting) (n : ℕ) (l : Look) (o k : ℕ) (b : Bounds) (liked : ℕ) (ds : List ParentData) (cs : List Object)
    → whole s n l o k (AsBox b) liked ds cs ≡ laid_box s n l b (done_with (box_given s l o b liked ds (map framed cs)) (laid_for (box_asks s l o b liked ds (map framed cs)) cs))
unfolding whole final_for known_for
box_whole s n l o k b liked ds cs = refl

sliver_whole : (s : Setting) (n : ℕ) (l : Look) (o k : ℕ) (b : SliverBounds) (liked : ℕ) (ds : List ParentData) (cs : List Object)
    → whole s n l o k (AsSliver b) liked ds cs ≡ laid_sliver s n l b (passed_with (sliver_given l k b ds (map framed cs)) (laid_for (sliver_asks l k b ds) cs))
unfolding whole final_for known_for
sliver_whole s n l o k b liked ds cs =
    ap (λ (asks : List (Option Ask)). laid_by s n l (ruling_for s l k (AsSliver b) (found_for l o (AsSliver b) (answers_of (sliver_asks l k b ds) (map framed cs))) ds (answers_of asks (map framed cs))) (laid_for asks cs))
    (asks_end (sliver_asks l k b ds))

whole_is : (sees : SeesFrames) (slivers : SliversSeeFrames) (s : Setting) (n : ℕ) (l : Look) (d : ParentData) (o k : ℕ) (rs : List Render) (ask : Ask)
    → whole s n l o k ask (liked_for l ask (only_of (map (object s) rs))) (map data_of rs) (map (object s) rs) ≡ answer (object s (render n l d o k (renders_of rs))) ask
whole_is sees slivers s n l d o k rs (AsBox b) =
    let cs = map (object s) rs in
    let liked = liked_by l b (only_of cs) in
    ap (λ (ds : List ParentData). whole s n l o k (AsBox b) liked ds cs) (sym (datas_are s rs))
    ∙ box_whole s n l o k b liked (datas cs) cs
    ∙ sym (subst (λ (os : List Object). laid_box s n l b (box_rule s l o b os)
    ≡ laid_box s n l b (done_with (box_given s l o b (liked_by l b (only_of os)) (datas os) (map framed os)) (laid_for (box_asks s l o b (liked_by l b (only_of os)) (datas os) (map framed os)) os)))
    (objects_map s rs) (ap (λ (x : Done). laid_box s n l b x) (sees s l o b (renders_of rs))))
    ∙ sym (object_box s n l d o k rs b)
whole_is sees slivers s n l d o k rs (AsSliver b) =
    let cs = map (object s) rs in
    ap (λ (ds : List ParentData). whole s n l o k (AsSliver b) 0 ds cs) (sym (datas_are s rs))
    ∙ sliver_whole s n l o k b 0 (datas cs) cs
    ∙ ap (λ (x : Passed). laid_sliver s n l b x) (sym (slivers l k b cs))
    ∙ sym (object_sliver s n l d o k rs b)

-- ---- two rounds

pub record InRounds (s : Setting) (l : Look) (o k : ℕ) (rs : List Render) (ask : Ask) (liked : ℕ) (ds : List ParentData) (first rest : List (Option Ask))
    (slots after : List (Option Laid)) (frames : List (Option Frame)) (found : Found) : Type 0 where
  pub liked_is : liked ≡ liked_for l ask (only_of (map (object s) rs))
  pub told_is : ds ≡ map data_of rs
  pub first_is : first ≡ first_for s l k ask liked ds
  pub slots_is : slots ≡ round first (blank rs) (map (object s) rs)
  pub frames_is : frames ≡ frames_in slots
  pub found_is : found ≡ found_for l o ask frames
  pub rest_is : rest ≡ rest_for l ask found ds frames
  pub after_is : after ≡ round rest slots (map (object s) rs)

module _ (s : Setting) (l : Look) (o k : ℕ) (rs : List Render) (ask : Ask) (liked : ℕ) (ds : List ParentData) (first rest : List (Option Ask))
    (slots after : List (Option Laid)) (frames : List (Option Frame)) (found : Found) (p : InRounds s l o k rs ask liked ds first rest slots after frames found) where
  abbrev cs : List Object
  cs = map (object s) rs

  slots_are : slots ≡ round first (nothing cs) cs
  slots_are = p.slots_is ∙ ap (λ (z : List (Option Laid)). round first z cs) (blank_is s rs)

  -- what the first answers are
  pub known_are : frames ≡ answers_of first (map framed cs)
  known_are = p.frames_is ∙ ap frames_in slots_are ∙ answers_are first cs

  finals : after ≡ round (last_asks first rest) (nothing cs) cs
  finals = p.after_is ∙ ap (λ (z : List (Option Laid)). round rest z cs) slots_are ∙ rounds_are first rest cs

  -- what all answers are
  pub afters_are : frames_in after ≡ answers_of (last_asks first rest) (map framed cs)
  afters_are = ap frames_in finals ∙ answers_are (last_asks first rest) cs

  rests : last_asks first rest ≡ final_for s l o k ask liked ds cs
  unfolding final_for known_for
  rests =
      let first1 = first_for s l k ask liked ds in
      let known = answers_of first1 (map framed cs) in
      let e : frames ≡ known = known_are ∙ ap (λ (x : List (Option Ask)). answers_of x (map framed cs)) p.first_is in
      let f : found ≡ found_for l o ask known = p.found_is ∙ ap (λ (x : List (Option Frame)). found_for l o ask x) e in
      ap (λ (x : List (Option Ask)). last_asks x rest) p.first_is
      ∙ ap (λ (x : List (Option Ask)). last_asks first1 x)
      (p.rest_is ∙ ap (λ (x : Found). rest_for l ask x ds frames) f ∙ ap (λ (x : List (Option Frame)). rest_for l ask (found_for l o ask known) ds x) e)

  computed : (n : ℕ) → laid_by s n l (ruling_for s l k ask found ds (frames_in after)) (present after) ≡ whole s n l o k ask liked ds cs
  unfolding whole known_for
  computed n =
      let known = answers_of (first_for s l k ask liked ds) (map framed cs) in
      let e : frames ≡ known = known_are ∙ ap (λ (x : List (Option Ask)). answers_of x (map framed cs)) p.first_is in
      let f : found ≡ found_for l o ask known = p.found_is ∙ ap (λ (x : List (Option Frame)). found_for l o ask x) e in
      ap (λ (x : Found). laid_by s n l (ruling_for s l k ask x ds (frames_in after)) (present after)) f
      ∙ ap (λ (x : List (Option Frame)). laid_by s n l (ruling_for s l k ask (found_for l o ask known) ds x) (present after)) afters_are
      ∙ ap (λ (x : List (Option Laid)). laid_by s n l (ruling_for s l k ask (found_for l o ask known) ds (answers_of (last_asks first rest) (map framed cs))) (present x)) finals
      ∙ ap (λ (x : List (Option Ask)). laid_by s n l (ruling_for s l k ask (found_for l o ask known) ds (answers_of x (map framed cs))) (laid_for x cs)) rests

  pub lay_is : (sees : SeesFrames) (slivers : SliversSeeFrames) (n : ℕ) (d : ParentData) (node : Render) (result : Laid) → node ≡ render n l d o k (renders_of rs)
      → result ≡ laid_by s n l (ruling_for s l k ask found ds (frames_in after)) (present after) → result ≡ answer (object s node) ask
  lay_is sees slivers n d node result is e =
      e ∙ computed n
      ∙ ap (λ (x : ℕ). whole s n l o k ask x ds cs) p.liked_is
      ∙ ap (λ (x : List ParentData). whole s n l o k ask (liked_for l ask (only_of cs)) x cs) p.told_is
      ∙ whole_is sees slivers s n l d o k rs ask
      ∙ ap (λ (r : Render). answer (object s r) ask) (sym is)
