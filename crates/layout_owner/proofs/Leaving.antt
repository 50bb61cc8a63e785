-- After a flush the nodes out of the window are as they were.
use Rattle.std.proofs.Common.{◌≡◌, refl, sym, subst, ◌∙◌, true, false, Bool, Option, Some, None, IsSome, option_map, List, [], ◌∷◌}
use Rattle.fx_geom.specs.declared.shapes.Offset.{Offset}
use Rattle.fx_handles.specs.declared.Handle.{Handle}
use Rattle.node_tree.specs.Forest.{Forest}
use Rattle.node_tree.specs.Forest.Forest.{none, tree}
use Rattle.node_tree.proofs.ForestLemmas.{same_Some}
use Rattle.layout_form.specs.declared.asks.Ask.{Ask}
use Rattle.layout_walk.specs.Node.{LayoutNode, member, ask_in}
use Rattle.layout_walk.specs.Rule.{LayoutParts, ask_of, later, Lawful}
use Rattle.layout_walk.specs.Full.{asks_at, made_at, objects, place_of, past}
use Rattle.layout_walk.specs.Here.{ShownAs, StandAs, IsGiven, HereAll, AreFresh, IsQuiet, AreQuiet, nobody_back}
use Rattle.layout_walk.specs.Walk.{IsLeft, CorrectedAs, AreCorrected, IsCorrected, LaysOut}
use Rattle.layout_walk.proofs.Correcting.{corrected_same, corrected_asks}
use Rattle.layout_walk.proofs.Fresh.{fresh}
use Rattle.layout_walk.proofs.Offsets.{quiet_node}
use Rattle.layout_owner.specs.Left.{LeftIf, AreLeft}

some_mapped : {A B : Type 0} (g : A → B) (o : Option A) (b : B) → option_map g o ≡ Some b → IsSome o
some_mapped g None b e = absurd (cc)
some_mapped g (Some a) b e = refl

some_is : {A : Type 0} (o : Option A) (a : A) → o ≡ Some a → IsSome o
some_is None a e = absurd (cc)
some_is (Some x) a e = refl

module _ (P : LayoutParts) (law : Lawful P) where
  placed_full : (w : LayoutNode) (below : Forest LayoutNode) (ask : Ask) → (given : IsGiven P w below (objects P below)) → given.ask ≡ ask
      → StandAs (asks_at P w ask below (objects P below)) (made_at P w ask below (objects P below)).places below
  placed_full w below ask given one = subst (λ (a : Ask). StandAs (asks_at P w a below (objects P below)) (made_at P w a below (objects P below)).places below) one given.gives.placed

  one_left : (o : Option Ask) (at : Offset) (v : LayoutNode) (kids : Forest LayoutNode) (w : LayoutNode) (below : Forest LayoutNode)
      → member v ≡ member w → (w.needs_layout ≡ false → IsGiven P w below (objects P below))
      → (w.shown ≡ true → IsQuiet P nobody_back w (AreQuiet P nobody_back below)) → ShownAs o at w
      → CorrectedAs o (λ ask. IsCorrected P nobody_back ask v kids w below) (IsLeft v kids w below)
      → ((asks : List (Option Ask)) (places : List Offset) → AreQuiet P nobody_back below → StandAs asks places below → AreCorrected P nobody_back asks kids below → AreLeft kids below)
      → LeftIf w.shown v kids w below (AreLeft kids below)
  one_left None at v kids w below is given quiet stands corrected further = subst (λ (b : Bool). LeftIf b v kids w below (AreLeft kids below)) (sym stands) corrected
  one_left (Some ask) at v kids w below is given quiet stands corrected further =
      let clear = quiet_node P w (AreQuiet P nobody_back below) (quiet stands.shown) in
      let full = given clear.0 in
      let same = corrected_same P nobody_back (asks_at P v ask kids (objects P kids)) kids below corrected.1 in
      let asks = corrected_asks P law nobody_back v w ask kids below is same corrected.0 in
      let places = (made_at P w ask below (objects P below)).places in
      let placed : StandAs (asks_at P v ask kids (objects P kids)) places below =
      subst (λ (xs : List (Option Ask)). StandAs xs places below) (sym asks) (placed_full w below ask full (same_Some (sym full.asked ∙ stands.asked))) in
      subst (λ (b : Bool). LeftIf b v kids w below (AreLeft kids below)) (sym stands.shown) (
        record { framed = some_mapped ask_in w.frame ask stands.asked; placed = some_is w.offset at stands.offset },
        further (asks_at P v ask kids (objects P kids)) places clear.1 placed corrected.1,
      )

  all_left : (asks : List (Option Ask)) (places : List Offset) (f g : Forest LayoutNode) → HereAll P g → AreFresh P g → AreQuiet P nobody_back g → StandAs asks places g
      → AreCorrected P nobody_back asks f g → AreLeft f g
  all_left asks places none none all full quiet stands corrected = tt
  all_left asks places none (tree k w below rest) all full quiet stands corrected = absurd corrected
  all_left asks places (tree h v kids more) none all full quiet stands corrected = absurd corrected
  all_left asks places (tree h v kids more) (tree k w below rest) all full quiet stands corrected = (
    corrected.0,
    one_left (ask_of asks) (place_of places) v kids w below corrected.1 full.0 quiet.0 stands.0 corrected.2
        (λ xs ps calm stood right. all_left xs ps kids below all.1 full.1 calm stood right),
    all_left (later asks) (past (ask_of asks) places) more rest all.2 full.2 quiet.1 stands.1 corrected.3,
  )

  pub flush_left : (ask : Ask) (at : Offset) (h : Handle) (v : LayoutNode) (kids : Forest LayoutNode) (w : LayoutNode) (below : Forest LayoutNode)
      → LaysOut P nobody_back ask v kids w below → v.shown ≡ true → v.offset ≡ Some at → AreLeft (tree h v kids none) (tree h w below none)
  flush_left ask at h v kids w below lays shown offset =
      let all : HereAll P (tree h w below none) = (lays.here, lays.all, tt) in
      all_left (Some ask ∷ []) (at ∷ []) (tree h v kids none) (tree h w below none) all (fresh P law (tree h w below none) all)
      ((λ s. lays.quiet), tt) (record { shown = lays.shown ∙ shown; asked = lays.asked; offset = lays.offset ∙ offset }, tt)
      (refl, lays.member, lays.corrected, tt)
