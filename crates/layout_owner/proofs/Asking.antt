-- In which bounds a flush leaves the nodes of a tree.
use Rattle.std.proofs.Common.{◌≡◌, ap, refl, sym, subst, ◌∙◌, inl, inr, ℕ, Bool, true, false, Option, Some, None, option_map, List, [], ◌∷◌}
use Rattle.std.proofs.lemmas.Bool.{true≢false}
use Rattle.fx_geom.specs.Bounds.{tight}
use Rattle.fx_geom.specs.Offset.{origin}
use Rattle.fx_geom.specs.declared.shapes.Offset.{Offset}
use Rattle.fx_geom.specs.declared.shapes.Size.{Size}
use Rattle.fx_handles.specs.declared.Handle.{Handle}
use Rattle.node_tree.specs.Forest.{Forest}
use Rattle.node_tree.specs.Forest.Forest.{none, tree}
use Rattle.node_tree.specs.Tree.{Tree}
use Rattle.node_tree.proofs.ForestLemmas.{same_Some}
use Rattle.layout_form.specs.declared.asks.Ask.{Ask}
use Rattle.layout_form.specs.declared.asks.Ask.TheVariants.{AsBox}
use Rattle.layout_form.specs.Object.{Setting}
use Rattle.render_tree.specs.Object.{RenderObject}
use Rattle.render_tree.specs.Plain.{root_tree}
use Rattle.layout_walk.specs.Node.{LayoutNode, NodeMember, member, asked, ask_in}
use Rattle.layout_walk.specs.Rule.{LayoutParts, Lawful, ask_of, later}
use Rattle.layout_walk.specs.Full.{place_of, past, asks_at, made_at, objects}
use Rattle.layout_walk.specs.Here.{ShownAs, StandAs, IsGiven, Here, HereAll, Backs, IsQuiet, AreQuiet, back_in}
use Rattle.layout_walk.specs.Rules.{parts_of}
use Rattle.layout_walk.specs.Walk.{IsLeft, CorrectedAs, HeldOr, MayCorrect, AreCorrected, IsCorrected, AreAskedAlike}
use Rattle.layout_walk.proofs.Correcting.{corrected_same, corrected_asks}
use Rattle.layout_walk.proofs.Fresh.{answers_full, given_full}
use Rattle.layout_rules.specs.Nodes.{layout_nodes}
use Rattle.layout_owner.specs.Asked.{KeepBounds}
use Rattle.layout_owner.specs.Roots.{AskedFirst, IsAskedAs, view_asks}
use Rattle.layout_owner.proofs.Flushing.{old_is, new_is}
use Rattle.layout_owner.proofs.Rooting.{SeenLaws, Found, placed, Laid}

alike_self : (f : Forest LayoutNode) → AreAskedAlike f f
alike_self none = tt
alike_self (tree h v kids rest) = (refl, alike_self rest)

bounds_self : (f : Forest LayoutNode) → KeepBounds f f
bounds_self none = tt
bounds_self (tree h v kids rest) = ((λ clear same. alike_self kids), bounds_self kids, bounds_self rest)

-- ---- what a node leaves of its children

abbrev NodeKeeps : LayoutNode → Forest LayoutNode → LayoutNode → Forest LayoutNode → Type 0
NodeKeeps v kids w below = (v.needs_layout ≡ false → asked w ≡ asked v → AreAskedAlike kids below) × KeepBounds kids below

same_keeps : (v w : LayoutNode) (kids below : Forest LayoutNode) → below ≡ kids → NodeKeeps v kids w below
same_keeps v w kids below same = subst (λ (f : Forest LayoutNode). NodeKeeps v kids w f) (sym same) ((λ clear is. alike_self kids), bounds_self kids)

module _ (P : LayoutParts) (law : Lawful P) (back : Backs) where
  abbrev CorrectedNode : Option Ask → LayoutNode → Forest LayoutNode → LayoutNode → Forest LayoutNode → Type 0
  CorrectedNode o v kids w below = CorrectedAs o (λ ask. IsCorrected P back ask v kids w below) (IsLeft v kids w below)

  one_alike : (o : Option Ask) (at place : Offset) (v w : LayoutNode) (kids below : Forest LayoutNode) → ShownAs o at v → ShownAs o place w → CorrectedNode o v kids w below → asked w ≡ asked v
  one_alike None at place v w kids below was is corrected = ap (λ (x : LayoutNode). option_map ask_in x.frame) corrected.value
  one_alike (Some ask) at place v w kids below was is corrected = is.asked ∙ sym was.asked

  -- children that stand as they were asked before and after are asked alike
  alike_by : (asks : List (Option Ask)) (ats places : List Offset) (f g : Forest LayoutNode) → StandAs asks ats f → StandAs asks places g → AreCorrected P back asks f g → AreAskedAlike f g
  alike_by asks ats places none none was is corrected = tt
  alike_by asks ats places none (tree k w below rest) was is corrected = absurd corrected
  alike_by asks ats places (tree h v kids more) none was is corrected = absurd corrected
  alike_by asks ats places (tree h v kids more) (tree k w below rest) was is corrected = (
    one_alike (ask_of asks) (place_of ats) (place_of places) v w kids below was.0 is.0 corrected.2,
    alike_by (later asks) (past (ask_of asks) ats) (past (ask_of asks) places) more rest was.1 is.1 corrected.3,
  )

  -- below a node that agrees with its children, and needn't be laid out, they stand as full layout asks them
  pub record StandFull (v : LayoutNode) (ask : Ask) (kids : Forest LayoutNode) : Type 0 where
    pub places : List Offset
    pub stand : StandAs (asks_at P v ask kids (objects P kids)) places kids

  pub stand_full : (v : LayoutNode) (ask : Ask) (kids : Forest LayoutNode) → Here P v kids → HereAll P kids → v.needs_layout ≡ false → asked v ≡ Some ask → StandFull v ask kids
  stand_full v ask kids here all clear is =
      let given : IsGiven P v kids (objects P kids) = given_full P law v kids (here.closed clear) (answers_full P law kids all) (here.consistent clear) in
      let one : given.ask ≡ ask = same_Some (sym given.asked ∙ is) in
      record {
        places = (made_at P v given.ask kids (objects P kids)).places;
        stand = subst (λ (a : Ask). StandAs (asks_at P v a kids (objects P kids)) (made_at P v given.ask kids (objects P kids)).places kids) one given.gives.placed;
      }

  -- the children of a node that was asked
  laid_keeps : (ask : Ask) (v w : LayoutNode) (kids below : Forest LayoutNode) → Here P v kids → HereAll P kids → Here P w below → HereAll P below → member v ≡ member w → MayCorrect P v ask kids w
      → AreCorrected P back (asks_at P v ask kids (objects P kids)) kids below → w.needs_layout ≡ false → asked w ≡ Some ask → AreQuiet P back below
      → ((asks : List (Option Ask)) (places : List Offset) → AreCorrected P back asks kids below → AreQuiet P back below → StandAs asks places below → KeepBounds kids below)
      → NodeKeeps v kids w below
  laid_keeps ask v w kids below here all here_now all_now is may corrected clear asks quiet further =
      let asked_so = asks_at P v ask kids (objects P kids) in
      let now = stand_full w ask below here_now all_now clear asks in
      let stand : StandAs asked_so now.places below =
      subst (λ (xs : List (Option Ask)). StandAs xs now.places below)
      (sym (corrected_asks P law back v w ask kids below is (corrected_same P back asked_so kids below corrected) may)) now.stand in (
        λ was same.
            let before = stand_full v ask kids here all was (sym same ∙ asks) in
            alike_by asked_so before.places now.places kids below before.stand stand corrected,
        further asked_so now.places corrected quiet stand,
      )

  one_keeps : (o : Option Ask) (at : Offset) (v w : LayoutNode) (kids below : Forest LayoutNode) → Here P v kids → HereAll P kids → Here P w below → HereAll P below → member v ≡ member w
      → CorrectedNode o v kids w below → (w.shown ≡ true → IsQuiet P back w (AreQuiet P back below)) → ShownAs o at w
      → ((asks : List (Option Ask)) (places : List Offset) → AreCorrected P back asks kids below → AreQuiet P back below → StandAs asks places below → KeepBounds kids below)
      → NodeKeeps v kids w below
  one_keeps None at v w kids below here all here_now all_now is corrected quiet stands further = same_keeps v w kids below corrected.inside
  one_keeps (Some ask) at v w kids below here all here_now all_now is corrected quiet stands further = by_back (back v.look (Some ask)) refl corrected.1
    where
      by_quiet : back v.look (Some ask) ≡ false → AreCorrected P back (asks_at P v ask kids (objects P kids)) kids below → IsQuiet P back w (AreQuiet P back below) → NodeKeeps v kids w below
      by_quiet e laid (inl held) =
          absurd (true≢false
          (sym (ap (λ (m : NodeMember). back m.look (Some ask)) is ∙ (ap (λ (o : Option Ask). back w.look o) (sym stands.asked) ∙ held.holds)) ∙ e))
      by_quiet e laid (inr clear) = laid_keeps ask v w kids below here all here_now all_now is corrected.0 laid clear.0 stands.asked clear.1 further

      by_back : (b : Bool) → back v.look (Some ask) ≡ b → HeldOr b (below ≡ kids) (AreCorrected P back (asks_at P v ask kids (objects P kids)) kids below) → NodeKeeps v kids w below
      by_back true e held = same_keeps v w kids below held
      by_back false e laid = by_quiet e laid (quiet stands.shown)

  pub bounds_kept : (asks : List (Option Ask)) (places : List Offset) (f g : Forest LayoutNode) → HereAll P f → HereAll P g → AreCorrected P back asks f g → AreQuiet P back g → StandAs asks places g → KeepBounds f g
  bounds_kept asks places none none here now corrected quiet stand = tt
  bounds_kept asks places none (tree k w below rest) here now corrected quiet stand = absurd corrected
  bounds_kept asks places (tree h v kids more) none here now corrected quiet stand = absurd corrected
  bounds_kept asks places (tree h v kids more) (tree k w below rest) here now corrected quiet stand =
      let one = one_keeps (ask_of asks) (place_of places) v w kids below here.0 here.1 now.0 now.1 corrected.1 corrected.2 quiet.0 stand.0
      (λ xs ps c q st. bounds_kept xs ps kids below here.1 now.1 c q st) in
      (one.0, one.1, bounds_kept (later asks) (past (ask_of asks) places) more rest here.2 now.2 corrected.3 quiet.1 stand.1)

-- ---- a flush

first_asked : (view : Size) (h : Handle) (w : LayoutNode) (below : Forest LayoutNode) → asked w ≡ Some (AsBox (tight view)) → AskedFirst view (tree h w below none)
first_asked view h w below is clear = is

module _ (laws : SeenLaws) (s : Setting) (law : Lawful (parts_of s)) (view : Size) (t0 t3 : Tree RenderObject) (h : Handle) (root : t0.root ≡ Some h)
    (found : Found s t0 h) (outer : Bool) (before after : ℕ) (done : Laid s t0 h found outer (tight view) t3 before after) where
  pub now_asked : IsAskedAs view (root_tree t3)
  now_asked =
      subst (λ (f : Forest LayoutNode). AskedFirst view f) (sym (new_is laws s law view t0 t3 h root found outer before after done))
      (first_asked view h done.value done.kids done.lays.asked)

  pub now_bounds : KeepBounds (layout_nodes (root_tree t0)) (layout_nodes (root_tree t3))
  now_bounds =
      subst (λ (f : Forest LayoutNode). KeepBounds f (layout_nodes (root_tree t3))) (sym (old_is laws s law view t0 t3 h root found outer before after done))
      (subst (λ (f : Forest LayoutNode). KeepBounds (tree h found.value found.kids none) f) (sym (new_is laws s law view t0 t3 h root found outer before after done))
      (bounds_kept (parts_of s) law (back_in (parts_of s) outer) (view_asks view) (origin ∷ []) (tree h (placed found.value) found.kids none) (tree h done.value done.kids none)
      (placed_here found.value found.kids found.all.0, found.all.1, tt) (done.lays.here, done.lays.all, tt) (refl, done.lays.member, done.lays.corrected, tt)
      ((λ shown. done.lays.quiet), tt) (record { shown = done.lays.shown; asked = done.lays.asked; offset = done.lays.offset }, tt)))
    where
      placed_here : (v : LayoutNode) (kids : Forest LayoutNode) → Here (parts_of s) v kids → Here (parts_of s) (placed v) kids
      placed_here v kids here = record {
        consistent = λ clear. let given = here.consistent clear in record {
          ask = given.ask;
          asked = given.asked;
          gives = record { facts = given.gives.facts; scroll = given.gives.scroll; placed = given.gives.placed };
        };
        closed = here.closed;
        marked = here.marked;
      }
