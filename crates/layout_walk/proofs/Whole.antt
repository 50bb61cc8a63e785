-- Full layout by the rules, of a forest, is that of layout_form, of its render nodes.
use Rattle.std.proofs.Common.{◌≡◌, ap, refl, sym, subst, ◌∙◌, ℕ, suc, Option, Some, None, List, [], ◌∷◌, map, length, arith}
use Rattle.fx_geom.specs.declared.boxes.Bounds.{Bounds}
use Rattle.fx_geom.specs.declared.lengths.Len.{Len}
use Rattle.fx_geom.specs.declared.shapes.Axis.{Axis}
use Rattle.fx_geom.specs.declared.shapes.Axis.TheVariants.{Horizontal, Vertical}
use Rattle.fx_geom.specs.declared.shapes.Offset.{Offset}
use Rattle.node_tree.specs.Forest.{Forest}
use Rattle.node_tree.specs.Forest.Forest.{none, tree}
use Rattle.sliver_layout.specs.declared.protocol.SliverBounds.{SliverBounds}
use Rattle.widget_model.specs.Look.{Look, intrinsic_width, intrinsic_height}
use Rattle.plain_tree.specs.declared.laid.Frame.{Frame}
use Rattle.plain_tree.specs.declared.render.ParentData.{ParentData}
use Rattle.plain_tree.specs.Laid.{Laid, laid as laid_tree, Laids, more_laids, laids_of}
use Rattle.plain_tree.specs.Render.{Render, render, Renders, more_renders}
use Rattle.layout_form.specs.declared.asks.Ask.{Ask}
use Rattle.layout_form.specs.declared.asks.Ask.TheVariants.{AsBox, AsSliver}
use Rattle.layout_form.specs.Corrected.{render_scrolled_by, renders_scrolled_by}
use Rattle.layout_form.specs.Frames.{frame_in, frames_given, done_with, passed_with, sliver_makes, sliver_asks}
use Rattle.layout_form.specs.Framed.{framed, answers_of, laid_for, last_asks, box_asks, box_given, sliver_given}
use Rattle.layout_form.specs.Intrinsic.{liked_by}
use Rattle.layout_form.specs.Layout.{box_rule, sliver_rule, laid_box, laid_sliver, object as object_of, objects as objects_of}
use Rattle.layout_form.specs.Object.{Setting, Object, Done, Passed, datas, only_of, placed_at}
use Rattle.layout_form.specs.Protocol.{answer, round, nothing, present}
use Rattle.layout_form.proofs.Framed.{given_are, answers_are}
use Rattle.layout_walk.specs.Node.{LayoutNode, member, members, unscrolled, renders_in, tellings}
use Rattle.layout_walk.specs.Rule.{LayoutParts, RuleGift, asks_by, made_by}
use Rattle.layout_walk.specs.Full.{asks_at, made_at, objects, laid_node, laid_trees}
use Rattle.layout_walk.specs.Rules.{liked_in, parts_of, box_gift, sliver_gift}
use Rattle.layout_walk.proofs.Places.{box_enough, sliver_enough}

-- what is known of the rules from the laws of layout
pub record RuleLaws : Type 0 where
  pub boxes : (s : Setting) (look : Look) (scroll : ℕ) (b : Bounds) (rs : Renders)
      → let cs = objects_of s rs in
      let liked = liked_by look b (only_of cs) in
      box_rule s look scroll b cs ≡ done_with (box_given s look scroll b liked (datas cs) (map framed cs)) (laid_for (box_asks s look scroll b liked (datas cs) (map framed cs)) cs)
  pub slivers : (look : Look) (count : ℕ) (b : SliverBounds) (cs : List Object)
      → sliver_rule look count b cs ≡ passed_with (sliver_given look count b (datas cs) (map framed cs)) (laid_for (sliver_asks look count b (datas cs)) cs)
  pub greatest : (s : Setting) (r : Render) (offset : ℕ → Option ℕ) (axis : Axis) (across : Len)
      → (object_of s (render_scrolled_by offset r)).greatest axis across ≡ (object_of s r).greatest axis across

abbrev render_in : LayoutNode → Forest LayoutNode → Render
render_in v kids = render v.number v.look v.told v.scroll v.count (renders_in kids)

abbrev objects_in : Setting → Forest LayoutNode → List Object
objects_in s f = objects_of s (renders_in f)

-- ---- what nodes were told, and what they would like

told_objects : (s : Setting) (f : Forest LayoutNode) → tellings f ≡ datas (objects_in s f)
unfolding object_of objects_of
told_objects s none = refl
told_objects s (tree h v kids rest) = ap (λ (ds : List ParentData). v.told ∷ ds) (told_objects s rest)

members_unscrolled : (f : Forest LayoutNode) → members f ≡ renders_scrolled_by (λ number. Some 0) (renders_in f)
members_unscrolled none = refl
members_unscrolled (tree h v kids rest) =
    ap (λ (rs : Renders). more_renders (render v.number v.look v.told (unscrolled v.look v.scroll) v.count rs) (members rest)) (members_unscrolled kids)
    ∙ ap (λ (rs : Renders). more_renders (render v.number v.look v.told (unscrolled v.look v.scroll) v.count (renders_scrolled_by (λ number. Some 0) (renders_in kids))) rs) (members_unscrolled rest)

liked_alike : (look : Look) (b : Bounds) (c d : Object) → ((axis : Axis) (across : Len) → c.greatest axis across ≡ d.greatest axis across) → liked_by look b (Some c) ≡ liked_by look b (Some d)
liked_alike intrinsic_width b c d same = same Horizontal b.max_h
liked_alike intrinsic_height b c d same = same Vertical b.max_w
liked_alike look b c d same = refl

liked_none : (look : Look) (b : Bounds) (o : Option Object) → o ≡ None → liked_by look b o ≡ liked_by look b None
liked_none look b o e = ap (λ (x : Option Object). liked_by look b x) e

liked_first : RuleLaws → (s : Setting) (look : Look) (b : Bounds) (f : Forest LayoutNode)
    → liked_by look b (only_of (objects_of s (renders_scrolled_by (λ number. Some 0) (renders_in f)))) ≡ liked_by look b (only_of (objects_in s f))
unfolding objects_of
liked_first laws s look b none = refl
liked_first laws s look b (tree h v kids rest) =
    liked_alike look b (object_of s (render_scrolled_by (λ number. Some 0) (render_in v kids))) (object_of s (render_in v kids))
    (λ axis across. laws.greatest s (render_in v kids) (λ number. Some 0) axis across)

liked_same : RuleLaws → (s : Setting) (look : Look) (b : Bounds) (f : Forest LayoutNode) → liked_by look b (only_of (objects_of s (members f))) ≡ liked_by look b (only_of (objects_in s f))
liked_same laws s look b f = ap (λ (rs : Renders). liked_by look b (only_of (objects_of s rs))) (members_unscrolled f) ∙ liked_first laws s look b f

-- ---- the trees of a forest, one by one

abbrev AreWhole : Setting → Forest LayoutNode → Type 0
AreWhole s none = Unit {0}
AreWhole s (tree h v kids rest) = ((ask : Ask) → laid_node (parts_of s) v ask kids ≡ answer (object_of s (render_in v kids)) ask) × AreWhole s rest

framed_whole : (s : Setting) (f : Forest LayoutNode) → AreWhole s f → objects (parts_of s) f ≡ map framed (objects_in s f)
unfolding objects objects_of
framed_whole s none whole = refl
framed_whole s (tree h v kids rest) whole = λ at. (λ ask. frame_in (whole.0 ask at)) ∷ framed_whole s rest whole.1 at

abbrev laid_count : List (Option Ask) → List Object → ℕ
laid_count asks cs = length (laid_for asks cs)

trees_whole : (s : Setting) (f : Forest LayoutNode) → AreWhole s f → (asks : List (Option Ask)) (places : List Offset) → length places ≡ laid_count asks (objects_in s f)
    → laid_trees (parts_of s) asks places f ≡ laids_of (placed_at places (laid_for asks (objects_in s f)))
unfolding laid_trees objects_of
trees_whole s none whole [] [] enough = refl
trees_whole s none whole [] (at ∷ places) enough = refl
trees_whole s none whole (ask ∷ asks) [] enough = refl
trees_whole s none whole (ask ∷ asks) (at ∷ places) enough = refl
trees_whole s (tree h v kids rest) whole [] places enough = trees_whole s rest whole.1 [] places enough
trees_whole s (tree h v kids rest) whole (None ∷ asks) places enough = trees_whole s rest whole.1 asks places enough
trees_whole s (tree h v kids rest) whole (Some ask ∷ asks) [] enough = absurd (omega arith)
trees_whole s (tree h v kids rest) whole (Some ask ∷ asks) (at ∷ places) enough =
    ap (λ (l : Laid). more_laids at l (laid_trees (parts_of s) asks places rest)) (whole.0 ask)
    ∙ ap (λ (ls : Laids). more_laids at (answer (object_of s (render_in v kids)) ask) ls) (trees_whole s rest whole.1 asks places (omega arith))

-- ---- a node

-- as many are given as are laid out
laid_given : (asks : List (Option Ask)) (cs : List Object) → length (frames_given (answers_of asks (map framed cs))) ≡ laid_count asks cs
laid_given asks cs =
    ap (λ (fs : List (Option Frame)). length (frames_given fs)) (sym (answers_are asks cs))
    ∙ ap length (sym (given_are (round asks (nothing cs) cs)))
    ∙ length-frames (present (round asks (nothing cs) cs))
  where
    length-frames : (ls : List Laid) → length (map frame_in ls) ≡ length ls
    length-frames [] = refl
    length-frames (l ∷ ls) = ap suc (length-frames ls)

length-objects_in : (cs : List Object) → length (map framed cs) ≡ length (datas cs)
length-objects_in [] = refl
length-objects_in (c ∷ cs) = ap suc (length-objects_in cs)

module _ (laws : RuleLaws) (s : Setting) (v : LayoutNode) (kids : Forest LayoutNode) (whole : AreWhole s kids) where
  abbrev cs_in : List Object
  cs_in = objects_in s kids

  abbrev P_of : LayoutParts
  P_of = parts_of s

  gs_are : objects P_of kids ≡ map framed cs_in
  gs_are = framed_whole s kids whole

  box_made_are : (b : Bounds) → let liked = liked_by v.look b (only_of cs_in) in
      made_at P_of v (AsBox b) kids (objects P_of kids) ≡ box_gift s v.look b (box_given s v.look v.scroll b liked (datas cs_in) (map framed cs_in))
  unfolding made_by asks_by
  box_made_are b =
      ap (λ (gs : List (Ask → Frame)). made_at P_of v (AsBox b) kids gs) gs_are
      ∙ ap (λ (ds : List ParentData). made_by P_of (member v) v.scroll (AsBox b) (P_of.liked v.look (AsBox b) (members kids)) ds (map framed cs_in)) (told_objects s kids)
      ∙ ap (λ (n : ℕ). made_by P_of (member v) v.scroll (AsBox b) n (datas cs_in) (map framed cs_in)) (liked_same laws s v.look b kids)

  box_asks_are : (b : Bounds) → let liked = liked_by v.look b (only_of cs_in) in
      asks_at P_of v (AsBox b) kids (objects P_of kids) ≡ box_asks s v.look v.scroll b liked (datas cs_in) (map framed cs_in)
  unfolding asks_by
  box_asks_are b =
      ap (λ (gs : List (Ask → Frame)). asks_at P_of v (AsBox b) kids gs) gs_are
      ∙ ap (λ (ds : List ParentData). asks_by P_of (member v) v.scroll (AsBox b) (P_of.liked v.look (AsBox b) (members kids)) ds (map framed cs_in)) (told_objects s kids)
      ∙ ap (λ (n : ℕ). asks_by P_of (member v) v.scroll (AsBox b) n (datas cs_in) (map framed cs_in)) (liked_same laws s v.look b kids)

  box_whole : (b : Bounds) → laid_node P_of v (AsBox b) kids ≡ answer (object_of s (render_in v kids)) (AsBox b)
  unfolding object_of
  box_whole b =
      let liked = liked_by v.look b (only_of cs_in) in
      let ds = datas cs_in in
      let gs = map framed cs_in in
      let asks = box_asks s v.look v.scroll b liked ds gs in
      let gift = box_gift s v.look b (box_given s v.look v.scroll b liked ds gs) in
      let enough : length gift.places ≡ laid_count asks cs_in =
      box_enough s v.look v.scroll b liked ds gs (let same = length-objects_in cs_in in omega arith) ∙ laid_given asks cs_in in
      ap (λ (m : RuleGift). laid_tree v.number v.look m.facts (laid_trees P_of (asks_at P_of v (AsBox b) kids (objects P_of kids)) m.places kids)) (box_made_are b)
      ∙ ap (λ (xs : List (Option Ask)). laid_tree v.number v.look gift.facts (laid_trees P_of xs gift.places kids)) (box_asks_are b)
      ∙ ap (λ (ls : Laids). laid_tree v.number v.look gift.facts ls) (trees_whole s kids whole asks gift.places enough)
      ∙ ap (λ (d : Done). laid_box s v.number v.look b d) (sym (laws.boxes s v.look v.scroll b (renders_in kids)))

  last_none : (asks : List (Option Ask)) → last_asks asks [] ≡ asks
  last_none [] = refl
  last_none (ask ∷ asks) = refl

  abbrev asks_of : SliverBounds → List (Option Ask)
  asks_of b = sliver_asks v.look v.count b (datas cs_in)

  sliver_made_are : (b : SliverBounds)
      → made_at P_of v (AsSliver b) kids (objects P_of kids) ≡ sliver_gift s v.look b (sliver_given v.look v.count b (datas cs_in) (map framed cs_in))
  unfolding made_by asks_by
  sliver_made_are b =
      ap (λ (gs : List (Ask → Frame)). made_at P_of v (AsSliver b) kids gs) gs_are
      ∙ ap (λ (ds : List ParentData). made_by P_of (member v) v.scroll (AsSliver b) 0 ds (map framed cs_in)) (told_objects s kids)
      ∙ ap (λ (xs : List (Option Ask)). sliver_gift s v.look b (sliver_makes v.look v.count b (datas cs_in) (answers_of xs (map framed cs_in)))) (last_none (asks_of b))

  sliver_asks_are : (b : SliverBounds) → asks_at P_of v (AsSliver b) kids (objects P_of kids) ≡ asks_of b
  unfolding asks_by
  sliver_asks_are b =
      ap (λ (ds : List ParentData). asks_by P_of (member v) v.scroll (AsSliver b) 0 ds (objects P_of kids)) (told_objects s kids) ∙ last_none (asks_of b)

  sliver_whole : (b : SliverBounds) → laid_node P_of v (AsSliver b) kids ≡ answer (object_of s (render_in v kids)) (AsSliver b)
  unfolding object_of
  sliver_whole b =
      let ds = datas cs_in in
      let gs = map framed cs_in in
      let asks = asks_of b in
      let gift = sliver_gift s v.look b (sliver_given v.look v.count b ds gs) in
      let places : length gift.places ≡ length (frames_given (answers_of asks gs)) =
      subst (λ (xs : List (Option Ask)). length (sliver_makes v.look v.count b ds (answers_of xs gs)).places ≡ length (frames_given (answers_of xs gs))) (last_none asks)
      (sliver_enough v.look v.count b ds gs (let same = length-objects_in cs_in in omega arith)) in
      let enough : length gift.places ≡ laid_count asks cs_in = places ∙ laid_given asks cs_in in
      ap (λ (m : RuleGift). laid_tree v.number v.look m.facts (laid_trees P_of (asks_at P_of v (AsSliver b) kids (objects P_of kids)) m.places kids)) (sliver_made_are b)
      ∙ ap (λ (xs : List (Option Ask)). laid_tree v.number v.look gift.facts (laid_trees P_of xs gift.places kids)) (sliver_asks_are b)
      ∙ ap (λ (ls : Laids). laid_tree v.number v.look gift.facts ls) (trees_whole s kids whole asks gift.places enough)
      ∙ ap (λ (d : Passed). laid_sliver s v.number v.look b d) (sym (laws.slivers v.look v.count b cs_in))

  node_whole : (ask : Ask) → laid_node P_of v ask kids ≡ answer (object_of s (render_in v kids)) ask
  node_whole (AsBox b) = box_whole b
  node_whole (AsSliver b) = sliver_whole b

all_whole : RuleLaws → (s : Setting) (f : Forest LayoutNode) → AreWhole s f
all_whole laws s none = tt
all_whole laws s (tree h v kids rest) = (node_whole laws s v kids (all_whole laws s kids), all_whole laws s rest)

pub whole : RuleLaws → (s : Setting) (v : LayoutNode) (kids : Forest LayoutNode) (ask : Ask)
    → laid_node (parts_of s) v ask kids ≡ answer (object_of s (render v.number v.look v.told v.scroll v.count (renders_in kids))) ask
whole laws s v kids ask = node_whole laws s v kids (all_whole laws s kids) ask

pub trees_answer : RuleLaws → (s : Setting) (f : Forest LayoutNode) → objects (parts_of s) f ≡ map framed (objects_of s (renders_in f))
trees_answer laws s f = framed_whole s f (all_whole laws s f)

pub trees_like : RuleLaws → (s : Setting) (look : Look) (ask : Ask) (f : Forest LayoutNode) → liked_in s look ask (members f) ≡ liked_in s look ask (renders_in f)
trees_like laws s look (AsBox b) f = liked_same laws s look b f
trees_like laws s look (AsSliver b) f = refl
