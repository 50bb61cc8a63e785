-- After a flush each Viewport in the window stands scrolled where its layout left it, and any other node as before.
use Rattle.std.proofs.Common.{◌≡◌, ap, refl, sym, subst, ◌∙◌, inl, inr, ℕ, true, false, Bool, Option, Some, None, option_map, List, [], ◌∷◌}
use Rattle.fx_geom.specs.declared.shapes.Offset.{Offset}
use Rattle.fx_handles.specs.declared.Handle.{Handle}
use Rattle.node_tree.specs.Forest.{Forest}
use Rattle.node_tree.specs.Forest.Forest.{none, tree}
use Rattle.node_tree.proofs.ForestLemmas.{same_Some}
use Rattle.plain_tree.specs.declared.laid.Facts.{Facts}
use Rattle.plain_tree.specs.declared.laid.Frame.{Frame}
use Rattle.plain_tree.specs.Offsets.{rescrolled}
use Rattle.plain_tree.specs.RenderRole.{render_role_of}
use Rattle.layout_form.specs.declared.asks.Ask.{Ask}
use Rattle.layout_walk.specs.Node.{LayoutNode, NodeMember, member, renders_in, facts_with}
use Rattle.layout_walk.specs.Rule.{LayoutParts, ask_of, later, scroll_after, Lawful}
use Rattle.layout_walk.specs.Full.{asks_at, made_at, objects, place_of, past}
use Rattle.layout_walk.specs.Here.{ShownAs, StandAs, IsGiven, HereAll, AreFresh, IsQuiet, AreQuiet, nobody_back}
use Rattle.layout_walk.specs.Walk.{IsLeft, MayCorrect, CorrectedAs, AreCorrected, IsCorrected, LaysOut}
use Rattle.layout_walk.specs.Offsets.{ScrolledIf, AreScrolled}
use Rattle.layout_walk.proofs.Correcting.{twice_scrolled, corrected_same, corrected_asks}
use Rattle.layout_walk.proofs.Fresh.{none_some, fresh}
use Rattle.layout_walk.proofs.Standing.{false_true}

-- what is stored of a layout is where it left the node
stored_scrolled : (v : LayoutNode) (o : Option Frame) (facts : Facts) → option_map (facts_with v) o ≡ Some facts → v.scrolled ≡ facts.scrolled
stored_scrolled v None facts e = absurd (none_some facts e)
stored_scrolled v (Some frame) facts e = ap (λ (x : Facts). x.scrolled) (same_Some e)

-- nobody is held back
pub quiet_node : (P : LayoutParts) (w : LayoutNode) (T : Type 0) → IsQuiet P nobody_back w T → (w.needs_layout ≡ false) × T
quiet_node P w T (inl held) = absurd (false_true held.holds)
quiet_node P w T (inr clear) = clear

module _ (P : LayoutParts) (law : Lawful P) where
  abbrev GivesFull : LayoutNode → Forest LayoutNode → Ask → Type 0
  GivesFull w below ask =
      (w.scrolled ≡ (made_at P w ask below (objects P below)).facts.scrolled)
      × (scroll_after w.look (made_at P w ask below (objects P below)) w.scroll ≡ w.scroll)
      × StandAs (asks_at P w ask below (objects P below)) (made_at P w ask below (objects P below)).places below

  gives_full : (w : LayoutNode) (below : Forest LayoutNode) (ask : Ask) → (given : IsGiven P w below (objects P below)) → given.ask ≡ ask → GivesFull w below ask
  gives_full w below ask given one =
      subst (λ (a : Ask). GivesFull w below a) one
      (stored_scrolled w w.frame (made_at P w given.ask below (objects P below)).facts given.gives.facts, given.gives.scroll, given.gives.placed)

  where_left : (v w : LayoutNode) (ask : Ask) (kids below : Forest LayoutNode) → member v ≡ member w → MayCorrect P v ask kids w → GivesFull w below ask
      → w.scroll ≡ rescrolled (render_role_of v.look) (Some w.scrolled) v.scroll
  where_left v w ask kids below is may gives = stays ∙ before may
    where
      stays : w.scroll ≡ rescrolled (render_role_of v.look) (Some w.scrolled) w.scroll
      stays =
          sym gives.1
          ∙ ap (λ (n : ℕ). rescrolled (render_role_of w.look) (Some n) w.scroll) (sym gives.0)
          ∙ ap (λ (m : NodeMember). rescrolled (render_role_of m.look) (Some w.scrolled) w.scroll) (sym is)

      before : MayCorrect P v ask kids w → rescrolled (render_role_of v.look) (Some w.scrolled) w.scroll ≡ rescrolled (render_role_of v.look) (Some w.scrolled) v.scroll
      before (inl still) = ap (λ (n : ℕ). rescrolled (render_role_of v.look) (Some w.scrolled) n) still
      before (inr corrected) =
          ap (λ (n : ℕ). rescrolled (render_role_of v.look) (Some w.scrolled) n) corrected
          ∙ twice_scrolled (render_role_of v.look) (Some (made_at P v ask kids (objects P kids)).facts.scrolled) (Some w.scrolled) v.scroll w.scrolled refl

  one_scrolled : (o : Option Ask) (at : Offset) (v : LayoutNode) (kids : Forest LayoutNode) (w : LayoutNode) (below : Forest LayoutNode)
      → member v ≡ member w → (w.needs_layout ≡ false → IsGiven P w below (objects P below))
      → (w.shown ≡ true → IsQuiet P nobody_back w (AreQuiet P nobody_back below)) → ShownAs o at w
      → CorrectedAs o (λ ask. IsCorrected P nobody_back ask v kids w below) (IsLeft v kids w below)
      → ((asks : List (Option Ask)) (places : List Offset) → AreQuiet P nobody_back below → StandAs asks places below → AreCorrected P nobody_back asks kids below → AreScrolled kids below)
      → ScrolledIf w.shown v kids w below (AreScrolled kids below)
  one_scrolled None at v kids w below is given quiet stands corrected further =
      subst (λ (b : Bool). ScrolledIf b v kids w below (AreScrolled kids below)) (sym stands) (ap (λ (x : LayoutNode). x.scroll) corrected.value, ap (λ (f : Forest LayoutNode). renders_in f) corrected.inside)
  one_scrolled (Some ask) at v kids w below is given quiet stands corrected further =
      let clear = quiet_node P w (AreQuiet P nobody_back below) (quiet stands.shown) in
      let full = given clear.0 in
      let gives = gives_full w below ask full (same_Some (sym full.asked ∙ stands.asked)) in
      let same = corrected_same P nobody_back (asks_at P v ask kids (objects P kids)) kids below corrected.1 in
      let asks = corrected_asks P law nobody_back v w ask kids below is same corrected.0 in
      let places = (made_at P w ask below (objects P below)).places in
      let placed : StandAs (asks_at P v ask kids (objects P kids)) places below = subst (λ (xs : List (Option Ask)). StandAs xs places below) (sym asks) gives.2 in
      subst (λ (b : Bool). ScrolledIf b v kids w below (AreScrolled kids below)) (sym stands.shown)
      (where_left v w ask kids below is corrected.0 gives, further (asks_at P v ask kids (objects P kids)) places clear.1 placed corrected.1)

  all_scrolled : (asks : List (Option Ask)) (places : List Offset) (f g : Forest LayoutNode) → HereAll P g → AreFresh P g → AreQuiet P nobody_back g → StandAs asks places g
      → AreCorrected P nobody_back asks f g → AreScrolled f g
  all_scrolled asks places none none all full quiet stands corrected = tt
  all_scrolled asks places none (tree k w below rest) all full quiet stands corrected = absurd corrected
  all_scrolled asks places (tree h v kids more) none all full quiet stands corrected = absurd corrected
  all_scrolled asks places (tree h v kids more) (tree k w below rest) all full quiet stands corrected = (
    corrected.0,
    corrected.1,
    one_scrolled (ask_of asks) (place_of places) v kids w below corrected.1 full.0 quiet.0 stands.0 corrected.2
        (λ xs ps calm stood right. all_scrolled xs ps kids below all.1 full.1 calm stood right),
    all_scrolled (later asks) (past (ask_of asks) places) more rest all.2 full.2 quiet.1 stands.1 corrected.3,
  )

  pub flush_scrolled : (ask : Ask) (at : Offset) (h : Handle) (v : LayoutNode) (kids : Forest LayoutNode) (w : LayoutNode) (below : Forest LayoutNode)
      → LaysOut P nobody_back ask v kids w below → v.shown ≡ true → v.offset ≡ Some at → AreScrolled (tree h v kids none) (tree h w below none)
  flush_scrolled ask at h v kids w below lays shown offset =
      let all : HereAll P (tree h w below none) = (lays.here, lays.all, tt) in
      all_scrolled (Some ask ∷ []) (at ∷ []) (tree h v kids none) (tree h w below none) all (fresh P law (tree h w below none) all)
      ((λ s. lays.quiet), tt) (record { shown = lays.shown ∙ shown; asked = lays.asked; offset = lays.offset ∙ offset }, tt)
      (refl, lays.member, lays.corrected, tt)
