-- After an outer flush the lists that are laid out have the frames that full layout gives to them.
use Rattle.std.proofs.Common.{◌≡◌, ap, refl, sym, subst, ◌∙◌, inl, inr, ℕ, Bool, true, false, Option, Some, None, List, [], ◌∷◌, ◌++◌, cond}
use Rattle.std.proofs.lemmas.Bool.{cases_Bool}
use Rattle.fx_geom.specs.declared.shapes.Offset.{Offset}
use Rattle.node_tree.specs.Forest.{Forest}
use Rattle.node_tree.specs.Forest.Forest.{none, tree}
use Rattle.node_tree.proofs.ForestLemmas.{same_Some}
use Rattle.plain_tree.specs.declared.laid.Frame.{Frame}
use Rattle.plain_tree.specs.Laid.{laid as laid_tree, Laid, Laids, more_laids}
use Rattle.layout_form.specs.declared.asks.Ask.{Ask}
use Rattle.layout_walk.specs.Node.{LayoutNode, frame_or, offset_or, facts_with, asked}
use Rattle.layout_walk.specs.Rule.{LayoutParts, ask_of, later, Lawful}
use Rattle.layout_walk.specs.Full.{asks_at, made_at, objects, place_of, past, laid_first, laid_node, laid_trees, shown_trees}
use Rattle.layout_walk.specs.Here.{ShownAs, StandAs, IsFirm, Here, HereAll, IsQuiet, AreQuiet, outer_back}
use Rattle.layout_walk.specs.Items.{list_frame, lists_of, lists_in}
use Rattle.layout_walk.proofs.Fresh.{answers_full, given_full, frame_full}
use Rattle.layout_walk.proofs.Standing.{false_true}

module _ (P : LayoutParts) (law : Lawful P) where
  -- a node in the window is settled
  settled_by : (v : LayoutNode) (T : Type 0) → IsQuiet P (outer_back P) v T → v.needs_layout ≡ true → IsFirm P v
  settled_by v T (inl held) flag = held.firm
  settled_by v T (inr clear) flag = absurd (false_true (sym clear.0 ∙ flag))

  -- one that is no list isn't held back
  clear_by : (v : LayoutNode) (T : Type 0) (ask : Ask) → asked v ≡ Some ask → P.lists v.look ≡ false → IsQuiet P (outer_back P) v T → (v.needs_layout ≡ false) × T
  clear_by v T ask is other (inl held) =
      absurd (false_true (sym other ∙ law.holds_lists v.look ask (sym (ap (λ (o : Option Ask). outer_back P v.look o) is) ∙ held.holds)))
  clear_by v T ask is other (inr clear) = clear

  -- the lists of a shown node, and of the laid one
  abbrev shown_node : LayoutNode → Forest LayoutNode → Laid
  shown_node v kids = laid_tree v.number v.look (facts_with v (frame_or v.frame)) (shown_trees kids)

  abbrev Listed : Forest LayoutNode → Type 0
  Listed f = (asks : List (Option Ask)) (places : List Offset) → AreQuiet P (outer_back P) f → StandAs asks places f
      → lists_in P.lists (shown_trees f) ≡ lists_in P.lists (laid_trees P asks places f)

  as_list : (v : LayoutNode) (kids : Forest LayoutNode) (ask : Ask) → Here P v kids → HereAll P kids → asked v ≡ Some ask → IsQuiet P (outer_back P) v (AreQuiet P (outer_back P) kids)
      → P.lists v.look ≡ true → lists_of P.lists (shown_node v kids) ≡ lists_of P.lists (laid_node P v ask kids)
  as_list v kids ask here all is quiet list =
      let frame : frame_or v.frame ≡ (made_at P v ask kids (objects P kids)).facts.frame =
      ap frame_or (frame_full P law v kids ask here (answers_full P law kids all) is (settled_by v (AreQuiet P (outer_back P) kids) quiet)) in
      ap (λ (b : Bool). list_frame b v.number (facts_with v (frame_or v.frame)) (lists_in P.lists (shown_trees kids))) list
      ∙ ap (λ (f : Frame). (v.number, f) ∷ []) frame
      ∙ ap (λ (b : Bool). list_frame b v.number (made_at P v ask kids (objects P kids)).facts
      (lists_in P.lists (laid_trees P (asks_at P v ask kids (objects P kids)) (made_at P v ask kids (objects P kids)).places kids))) (sym list)

  as_other : (v : LayoutNode) (kids : Forest LayoutNode) (ask : Ask) → Here P v kids → HereAll P kids → asked v ≡ Some ask → IsQuiet P (outer_back P) v (AreQuiet P (outer_back P) kids) → Listed kids
      → P.lists v.look ≡ false → lists_of P.lists (shown_node v kids) ≡ lists_of P.lists (laid_node P v ask kids)
  as_other v kids ask here all is quiet listed other =
      let clear = clear_by v (AreQuiet P (outer_back P) kids) ask is other quiet in
      let given = given_full P law v kids (here.closed clear.0) (answers_full P law kids all) (here.consistent clear.0) in
      let one : given.ask ≡ ask = same_Some (sym given.asked ∙ is) in
      let stands : StandAs (asks_at P v ask kids (objects P kids)) (made_at P v ask kids (objects P kids)).places kids =
      subst (λ (a : Ask). StandAs (asks_at P v a kids (objects P kids)) (made_at P v a kids (objects P kids)).places kids) one given.gives.placed in
      ap (λ (b : Bool). list_frame b v.number (facts_with v (frame_or v.frame)) (lists_in P.lists (shown_trees kids))) other
      ∙ listed (asks_at P v ask kids (objects P kids)) (made_at P v ask kids (objects P kids)).places clear.1 stands
      ∙ ap (λ (b : Bool). list_frame b v.number (made_at P v ask kids (objects P kids)).facts
      (lists_in P.lists (laid_trees P (asks_at P v ask kids (objects P kids)) (made_at P v ask kids (objects P kids)).places kids))) (sym other)

  one_listed : (v : LayoutNode) (kids : Forest LayoutNode) (ask : Ask) → Here P v kids → HereAll P kids → asked v ≡ Some ask → IsQuiet P (outer_back P) v (AreQuiet P (outer_back P) kids) → Listed kids
      → lists_of P.lists (shown_node v kids) ≡ lists_of P.lists (laid_node P v ask kids)
  one_listed v kids ask here all is quiet listed = elim (cases_Bool (P.lists v.look)) [
    | inl list ↦ as_list v kids ask here all is quiet list
    | inr other ↦ as_other v kids ask here all is quiet listed other
  ]

  abbrev shown_first : Bool → LayoutNode → Forest LayoutNode → Laids → Laids
  shown_first shown v kids ls = cond {A = Laids} shown (more_laids (offset_or v.offset) (shown_node v kids) ls) ls

  head_listed : (v : LayoutNode) (kids : Forest LayoutNode) (more ls : Laids) → Here P v kids → HereAll P kids
      → (v.shown ≡ true → IsQuiet P (outer_back P) v (AreQuiet P (outer_back P) kids)) → Listed kids → lists_in P.lists more ≡ lists_in P.lists ls
      → (o : Option Ask) (at : Offset) → ShownAs o at v
      → lists_in P.lists (shown_first v.shown v kids more) ≡ lists_in P.lists (laid_first o (λ ask. laid_node P v ask kids) at ls)
  head_listed v kids more ls here all quiet listed same None at out = ap (λ (b : Bool). lists_in P.lists (shown_first b v kids more)) out ∙ same
  head_listed v kids more ls here all quiet listed same (Some ask) at stands =
      ap (λ (b : Bool). lists_in P.lists (shown_first b v kids more)) stands.shown
      ∙ ap (λ (xs : List (ℕ × Frame)). xs ++ lists_in P.lists more) (one_listed v kids ask here all stands.asked (quiet stands.shown) listed)
      ∙ ap (λ (xs : List (ℕ × Frame)). lists_of P.lists (laid_node P v ask kids) ++ xs) same

  pub listed : (f : Forest LayoutNode) → HereAll P f → Listed f
  unfolding laid_trees shown_trees
  listed none all asks places quiet stands = refl
  listed (tree h v kids rest) all asks places quiet stands =
      head_listed v kids (shown_trees rest) (laid_trees P (later asks) (past (ask_of asks) places) rest) all.0 all.1 quiet.0 (listed kids all.1)
      (listed rest all.2 (later asks) (past (ask_of asks) places) quiet.1 stands.1) (ask_of asks) (place_of places) stands.0
