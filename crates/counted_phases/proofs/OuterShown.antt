-- What is shown after an outer flush is full layout, but for the items of lazy lists.
use Rattle.std.proofs.Common.{◌≡◌, ap, refl, sym, subst, ◌∙◌, inl, inr, ℕ, Bool, true, false, Option, Some, None, option_map, List, cond}
use Rattle.std.proofs.lemmas.Bool.{cases_Bool, false≢true}
use Rattle.fx_geom.specs.declared.shapes.Offset.{Offset}
use Rattle.node_tree.specs.Forest.{Forest}
use Rattle.node_tree.specs.Forest.Forest.{none, tree}
use Rattle.node_tree.proofs.ForestLemmas.{same_Some}
use Rattle.widget_model.specs.Look.{Look}
use Rattle.plain_tree.specs.declared.laid.Facts.{Facts}
use Rattle.plain_tree.specs.declared.laid.Frame.{Frame}
use Rattle.plain_tree.specs.Laid.{laid as laid_tree, Laid, Laids, no_laids, more_laids}
use Rattle.layout_form.specs.declared.asks.Ask.{Ask}
use Rattle.layout_form.specs.Object.{Setting, no_notes}
use Rattle.layout_walk.specs.Node.{LayoutNode, frame_or, offset_or, facts_with, asked}
use Rattle.layout_walk.specs.Rule.{LayoutParts, ask_of, later, Lawful}
use Rattle.layout_walk.specs.Rules.{parts_of, is_list}
use Rattle.layout_walk.specs.Full.{asks_at, made_at, objects, place_of, past, laid_first, laid_node, laid_trees, shown_trees}
use Rattle.layout_walk.specs.Here.{ShownAs, StandAs, IsFirm, IsGiven, Here, HereAll, IsQuiet, AreQuiet, outer_back}
use Rattle.layout_walk.proofs.Fresh.{none_some, answers_full, given_full, frame_full}
use Rattle.counted_phases.specs.OuterLaid.{outer_facts, outer_laid, outer_laids}

-- a node of a laid tree, where it is known whether it is a list
abbrev pub outer_by : Bool → ℕ → Look → Facts → Laids → Laid
outer_by list number look facts children = laid_tree number look (outer_facts list facts) (cond list no_laids (outer_laids children))

stored_facts : (v : LayoutNode) (o : Option Frame) (facts : Facts) → option_map (facts_with v) o ≡ Some facts → facts_with v (frame_or o) ≡ facts
stored_facts v None facts e = absurd (none_some facts e)
stored_facts v (Some frame) facts e = same_Some e

-- of a list the frame counts
pub list_by : (list : Bool) (number : ℕ) (look : Look) (facts others : Facts) (ls ms : Laids) → list ≡ true → facts.frame ≡ others.frame → outer_by list number look facts ls ≡ outer_by list number look others ms
list_by true number look facts others ls ms is same = ap (λ (f : Frame). laid_tree number look (record { frame = f; notes = no_notes; plugged = false; scrolled = 0 }) no_laids) same
list_by false number look facts others ls ms is same = absurd (false≢true is)

-- of any other node all facts, and what is below it
pub other_by : (list : Bool) (number : ℕ) (look : Look) (facts others : Facts) (ls ms : Laids) → facts ≡ others → outer_laids ls ≡ outer_laids ms → outer_by list number look facts ls ≡ outer_by list number look others ms
other_by list number look facts others ls ms same below = λ i. laid_tree number look (outer_facts list (same i)) (cond list no_laids (below i))

module _ (s : Setting) (law : Lawful (parts_of s)) where
  abbrev P : LayoutParts
  P = parts_of s

  -- a node in the window is settled
  pub settled_by : (v : LayoutNode) (T : Type 0) → IsQuiet P (outer_back P) v T → v.needs_layout ≡ true → IsFirm P v
  settled_by v T (inl held) flag = held.firm
  settled_by v T (inr clear) flag = absurd (false≢true (sym clear.0 ∙ flag))

  -- one that is no list isn't held back
  pub clear_by : (v : LayoutNode) (T : Type 0) (ask : Ask) → asked v ≡ Some ask → is_list v.look ≡ false → IsQuiet P (outer_back P) v T → (v.needs_layout ≡ false) × T
  clear_by v T ask is other (inl held) =
      absurd (false≢true (sym other ∙ law.holds_lists v.look ask (sym (ap (λ (o : Option Ask). outer_back P v.look o) is) ∙ held.holds)))
  clear_by v T ask is other (inr clear) = clear

  abbrev shown_node : LayoutNode → Forest LayoutNode → Laid
  shown_node v kids = laid_tree v.number v.look (facts_with v (frame_or v.frame)) (shown_trees kids)

  abbrev ShownOuter : Forest LayoutNode → Type 0
  ShownOuter f = (asks : List (Option Ask)) (places : List Offset) → AreQuiet P (outer_back P) f → StandAs asks places f
      → outer_laids (shown_trees f) ≡ outer_laids (laid_trees P asks places f)

  abbrev Quiet : LayoutNode → Forest LayoutNode → Type 0
  Quiet v kids = IsQuiet P (outer_back P) v (AreQuiet P (outer_back P) kids)

  as_list : (v : LayoutNode) (kids : Forest LayoutNode) (ask : Ask) → Here P v kids → HereAll P kids → asked v ≡ Some ask → Quiet v kids → is_list v.look ≡ true
      → outer_laid (shown_node v kids) ≡ outer_laid (laid_node P v ask kids)
  as_list v kids ask here all is quiet list =
      list_by (is_list v.look) v.number v.look (facts_with v (frame_or v.frame)) (made_at P v ask kids (objects P kids)).facts (shown_trees kids)
      (laid_trees P (asks_at P v ask kids (objects P kids)) (made_at P v ask kids (objects P kids)).places kids) list
      (ap frame_or (frame_full P law v kids ask here (answers_full P law kids all) is (settled_by v (AreQuiet P (outer_back P) kids) quiet)))

  as_other : (v : LayoutNode) (kids : Forest LayoutNode) (ask : Ask) → Here P v kids → HereAll P kids → asked v ≡ Some ask → Quiet v kids → ShownOuter kids → is_list v.look ≡ false
      → outer_laid (shown_node v kids) ≡ outer_laid (laid_node P v ask kids)
  as_other v kids ask here all is quiet below other =
      let clear = clear_by v (AreQuiet P (outer_back P) kids) ask is other quiet in
      let given : IsGiven P v kids (objects P kids) = given_full P law v kids (here.closed clear.0) (answers_full P law kids all) (here.consistent clear.0) in
      let one : given.ask ≡ ask = same_Some (sym given.asked ∙ is) in
      let stands : StandAs (asks_at P v ask kids (objects P kids)) (made_at P v ask kids (objects P kids)).places kids =
      subst (λ (a : Ask). StandAs (asks_at P v a kids (objects P kids)) (made_at P v a kids (objects P kids)).places kids) one given.gives.placed in
      let facts : facts_with v (frame_or v.frame) ≡ (made_at P v ask kids (objects P kids)).facts =
      stored_facts v v.frame (made_at P v given.ask kids (objects P kids)).facts given.gives.facts ∙ ap (λ (a : Ask). (made_at P v a kids (objects P kids)).facts) one in
      other_by (is_list v.look) v.number v.look (facts_with v (frame_or v.frame)) (made_at P v ask kids (objects P kids)).facts (shown_trees kids)
      (laid_trees P (asks_at P v ask kids (objects P kids)) (made_at P v ask kids (objects P kids)).places kids) facts
      (below (asks_at P v ask kids (objects P kids)) (made_at P v ask kids (objects P kids)).places clear.1 stands)

  one_shown : (v : LayoutNode) (kids : Forest LayoutNode) (ask : Ask) → Here P v kids → HereAll P kids → asked v ≡ Some ask → Quiet v kids → ShownOuter kids
      → outer_laid (shown_node v kids) ≡ outer_laid (laid_node P v ask kids)
  one_shown v kids ask here all is quiet below = elim (cases_Bool (is_list v.look)) [
    | inl list ↦ as_list v kids ask here all is quiet list
    | inr other ↦ as_other v kids ask here all is quiet below other
  ]

  abbrev shown_first : Bool → LayoutNode → Option Offset → Forest LayoutNode → Laids → Laids
  shown_first shown v at kids ls = cond {A = Laids} shown (more_laids (offset_or at) (shown_node v kids) ls) ls

  head_shown : (v : LayoutNode) (kids : Forest LayoutNode) (more ls : Laids) → Here P v kids → HereAll P kids → (v.shown ≡ true → Quiet v kids) → ShownOuter kids
      → outer_laids more ≡ outer_laids ls → (o : Option Ask) (at : Offset) → ShownAs o at v
      → outer_laids (shown_first v.shown v v.offset kids more) ≡ outer_laids (laid_first o (λ ask. laid_node P v ask kids) at ls)
  head_shown v kids more ls here all quiet below same None at out = ap (λ (b : Bool). outer_laids (shown_first b v v.offset kids more)) out ∙ same
  head_shown v kids more ls here all quiet below same (Some ask) at stands =
      ap (λ (b : Bool). outer_laids (shown_first b v v.offset kids more)) stands.shown
      ∙ ap (λ (o : Option Offset). outer_laids (shown_first true v o kids more)) stands.offset
      ∙ (λ i. more_laids at (one_shown v kids ask here all stands.asked (quiet stands.shown) below i) (same i))

  pub shown_outer : (f : Forest LayoutNode) → HereAll P f → ShownOuter f
  unfolding laid_trees shown_trees
  shown_outer none all asks places quiet stands = refl
  shown_outer (tree h v kids rest) all asks places quiet stands =
      head_shown v kids (shown_trees rest) (laid_trees P (later asks) (past (ask_of asks) places) rest) all.0 all.1 quiet.0 (shown_outer kids all.1)
      (shown_outer rest all.2 (later asks) (past (ask_of asks) places) quiet.1 stands.1) (ask_of asks) (place_of places) stands.0
