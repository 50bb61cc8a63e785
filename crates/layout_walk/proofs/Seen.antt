-- The laid trees that are stored are those of full layout, where nothing in the window has to be laid out.
use Rattle.std.proofs.Common.{◌≡◌, ap, refl, sym, subst, ◌∙◌, inl, inr, Bool, true, false, Option, Some, None, List, option_map, cond}
use Rattle.fx_geom.specs.declared.shapes.Offset.{Offset}
use Rattle.node_tree.specs.Forest.{Forest}
use Rattle.node_tree.specs.Forest.Forest.{none, tree}
use Rattle.node_tree.proofs.ForestLemmas.{same_Some}
use Rattle.plain_tree.specs.declared.laid.Facts.{Facts}
use Rattle.plain_tree.specs.declared.laid.Frame.{Frame}
use Rattle.plain_tree.specs.Laid.{laid, Laids, more_laids}
use Rattle.layout_form.specs.declared.asks.Ask.{Ask}
use Rattle.layout_walk.specs.Node.{LayoutNode, frame_or, offset_or, facts_with}
use Rattle.layout_walk.specs.Rule.{LayoutParts, ask_of, later}
use Rattle.layout_walk.specs.Full.{asks_at, made_at, objects, place_of, past, laid_first, laid_trees, shown_trees}
use Rattle.layout_walk.specs.Here.{ShownAs, StandAs, IsGiven, AreFresh, IsQuiet, AreQuiet, nobody_back}
use Rattle.layout_walk.proofs.Fresh.{none_some}

pub is_clear : (P : LayoutParts) (v : LayoutNode) (T : Type 0) → IsQuiet P nobody_back v T → (v.needs_layout ≡ false) × T
is_clear P v T (inl held) = absurd (false_true held.holds)
  where
    false_true : false ≡ true → ⊥
    false_true e = cc
is_clear P v T (inr quiet) = quiet

stored_facts : (v : LayoutNode) (o : Option Frame) (facts : Facts) → option_map (facts_with v) o ≡ Some facts → facts_with v (frame_or o) ≡ facts
stored_facts v None facts e = absurd (none_some facts e)
stored_facts v (Some frame) facts e = same_Some e

-- a shown tree, and the laid one
abbrev head_shown : LayoutNode → Laids → Laids → Laids
head_shown v below rest = cond v.shown (more_laids (offset_or v.offset) (laid v.number v.look (facts_with v (frame_or v.frame)) below) rest) rest

-- how the trees below a node are shown
abbrev ShownFull : LayoutParts → Forest LayoutNode → Type 0
ShownFull P f = (asks : List (Option Ask)) (places : List Offset) → StandAs asks places f → shown_trees f ≡ laid_trees P asks places f

head_full : (P : LayoutParts) (v : LayoutNode) (kids : Forest LayoutNode) (more ls : Laids)
    → (v.shown ≡ true → IsGiven P v kids (objects P kids)) → (v.shown ≡ true → ShownFull P kids) → more ≡ ls
    → (o : Option Ask) (at : Offset) → ShownAs o at v
    → head_shown v (shown_trees kids) more
    ≡ laid_first o (λ ask. laid v.number v.look (made_at P v ask kids (objects P kids)).facts
    (laid_trees P (asks_at P v ask kids (objects P kids)) (made_at P v ask kids (objects P kids)).places kids)) at ls
head_full P v kids more ls given below same None at out =
    ap (λ (b : Bool). cond b (more_laids (offset_or v.offset) (laid v.number v.look (facts_with v (frame_or v.frame)) (shown_trees kids)) more) more) out ∙ same
head_full P v kids more ls given below same (Some ask) at stands =
    let g = given stands.shown in
    let one : g.ask ≡ ask = same_Some (sym g.asked ∙ stands.asked) in
    let facts : facts_with v (frame_or v.frame) ≡ (made_at P v ask kids (objects P kids)).facts =
    stored_facts v v.frame (made_at P v g.ask kids (objects P kids)).facts g.gives.facts ∙ ap (λ (a : Ask). (made_at P v a kids (objects P kids)).facts) one in
    let placed : StandAs (asks_at P v ask kids (objects P kids)) (made_at P v ask kids (objects P kids)).places kids =
    subst (λ (a : Ask). StandAs (asks_at P v a kids (objects P kids)) (made_at P v a kids (objects P kids)).places kids) one g.gives.placed in
    ap (λ (b : Bool). cond b (more_laids (offset_or v.offset) (laid v.number v.look (facts_with v (frame_or v.frame)) (shown_trees kids)) more) more) stands.shown
    ∙ ap (λ (o : Option Offset). more_laids (offset_or o) (laid v.number v.look (facts_with v (frame_or v.frame)) (shown_trees kids)) more) stands.offset
    ∙ ap (λ (x : Facts). more_laids at (laid v.number v.look x (shown_trees kids)) more) facts
    ∙ ap (λ (x : Laids). more_laids at (laid v.number v.look (made_at P v ask kids (objects P kids)).facts x) more) (below stands.shown _ _ placed)
    ∙ ap (λ (x : Laids). more_laids at (laid v.number v.look (made_at P v ask kids (objects P kids)).facts
    (laid_trees P (asks_at P v ask kids (objects P kids)) (made_at P v ask kids (objects P kids)).places kids)) x) same

pub seen : (P : LayoutParts) (f : Forest LayoutNode) → AreFresh P f → AreQuiet P nobody_back f → ShownFull P f
unfolding laid_trees shown_trees
seen P none right quiet asks places stand = refl
seen P (tree h v kids rest) right quiet asks places stand =
    head_full P v kids (shown_trees rest) (laid_trees P (later asks) (past (ask_of asks) places) rest)
    (λ shown. right.0 (is_clear P v (AreQuiet P nobody_back kids) (quiet.0 shown)).0)
    (λ shown. seen P kids right.1 (is_clear P v (AreQuiet P nobody_back kids) (quiet.0 shown)).1)
    (seen P rest right.2 quiet.1 (later asks) (past (ask_of asks) places) stand.1)
    (ask_of asks) (place_of places) stand.0
