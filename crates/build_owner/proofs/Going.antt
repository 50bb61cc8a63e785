-- What is asked of old elements, and known of them, is so of those right below one; and what arrives is typed.
use Rattle.std.proofs.Common.{◌≡◌, ℕ, zero, suc, ◌<◌, Option, Some, None, IfSome, List, [], ◌∷◌, length, map, get_or, refl, sym, ap, ◌∙◌, subst, arith}
use Rattle.std.specs.List.{All}
use Rattle.fx_expr.specs.declared.values.Value.{Value}
use Rattle.fx_handles.specs.declared.Handle.{Handle}
use Rattle.fx_handles.specs.Handle.{Among}
use Rattle.node_tree.specs.Children.{Keeps}
use Rattle.node_tree.specs.Tree.{Tree, IsNode, children_at, Holds}
use Rattle.element_tree.specs.Element.{Element, element_at}
use Rattle.widget_model.specs.Plain.{PlainWidget, widgets_of}
use Rattle.widget_model.specs.Typed.{Declarations, IsTypedWidget, AreTypedWidgets}
use Rattle.widget_model.specs.Update.{CanUpdate}
use Rattle.widget_model.specs.View.{shared}
use Rattle.reconcile.specs.Matching.{matching}
use Rattle.plain_tree.specs.PlainNode.{PlainNode}
use Rattle.build_form.specs.Entering.{values_below, Opening}
use Rattle.build_form.specs.Numbered.{IsInPlace}
use Rattle.build_form.specs.Partner.{Arrival, arrivals, nodes_had, widgets_had}
use Rattle.build_form.specs.WellBuilt.{IsWellBuilt}
use Rattle.build_form.proofs.Entered.{widgets_from}
use Rattle.build_walk.specs.Kept.{plain_at, plain_at_any}
use Rattle.build_owner.specs.declared.arriving.Arrival.{Arrival as ArrivalOfWidget}
use Rattle.build_owner.specs.ArrivalView.{widget_at, children_had, arrives_in}
use Rattle.build_owner.specs.Entry.{IsTypedElement}
use Rattle.build_owner.specs.LastFrame.{LastFrame, IsOld}
use Rattle.build_owner.specs.NamesView.{values_after, values_had}
use Rattle.build_owner.specs.Ready.{IsMatched, IsTypedArrival}
use Rattle.build_owner.proofs.Children.{live_element}
use Rattle.build_owner.proofs.Climbed.{all_among, same_children}
use Rattle.build_owner.proofs.Had.{built_below, placed_below, each_at}

-- the plain nodes of the elements right below a live one are those that it had
abbrev pub KnowsBelow : Tree Element → Type 0
KnowsBelow t = (h : Handle) → IsNode t h → map (plain_at (λ _. 0) t) (children_at t h) ≡ map Some (nodes_had (plain_at (λ _. 0) t h))

module _ (d : Declarations) (t : Tree Element) (knows : KnowsBelow t) where
  pub typed_below : (partner : Option Handle) → IfSome partner (IsTypedElement d t) → (k : Handle) → Among k (children_had t partner) → IsNode t k → IsTypedElement d t k
  typed_below None typed k among live = absurd (omega (arith, among))
  typed_below (Some h) typed k among live =
      let F = plain_at (λ _. 0) t in
      let built = each_at F (IsWellBuilt d) (children_at t h) (nodes_had (F h)) (knows h typed.0) (built_below d (F h) typed.1) in
      let placed = each_at F IsInPlace (children_at t h) (nodes_had (F h)) (knows h typed.0) (placed_below (F h) typed.2) in (
        live,
        all_among (λ x. IfSome (F x) (IsWellBuilt d)) (children_at t h) k built among,
        all_among (λ x. IfSome (F x) IsInPlace) (children_at t h) k placed among,
      )

  module _ (partner : Option Handle) (typed : IfSome partner (IsTypedElement d t)) where
    matched_at : (w : PlainWidget) (o : Option Handle) → IfSome o (λ k. Among k (children_had t partner) × IsNode t k) → IfSome o (λ k. IfSome (widget_at t k) (λ old. CanUpdate old w)) → IfSome o (IsMatched d t w)
    matched_at w None among updates = tt
    matched_at w (Some k) among updates = record { typed = typed_below partner typed k among.0 among.1; updates = updates }

    -- all that arrives below an element is typed
    pub typed_arriving : (ws : List PlainWidget) (rs : List ArrivalOfWidget) → AreTypedWidgets d (widgets_of ws) → map (arrives_in (λ _. 0) t) rs ≡ arrivals (plain_at_any (λ _. 0) t partner) ws
        → All (λ (a : ArrivalOfWidget). IfSome a.beside (λ k. Among k (children_had t partner) × IsNode t k)) rs
        → All (λ (a : ArrivalOfWidget). IfSome a.beside (λ k. IfSome (widget_at t k) (λ old. CanUpdate old (shared a.widget)))) rs
        → All (IsTypedArrival d t) rs
    typed_arriving ws rs widgets is among updates = λ i a low. record {
      widget = typed_at rs ws (same rs ∙ ap (map (λ (x : Arrival). x.widget)) is ∙ widgets_from (nodes_had (plain_at_any (λ _. 0) t partner)) 0 ws (matching (widgets_had (plain_at_any (λ _. 0) t partner)) ws)) widgets i a low;
      beside = matched_at (shared (get_or rs i a).widget) (get_or rs i a).beside (among i a low) (updates i a low);
    }
      where
        same : (xs : List ArrivalOfWidget) → map (λ (a : ArrivalOfWidget). shared a.widget) xs ≡ map (λ (x : Arrival). x.widget) (map (arrives_in (λ _. 0) t) xs)
        same [] = refl
        same (x ∷ xs) = ap (λ l. shared x.widget ∷ l) (same xs)

        heads : {x y : PlainWidget} {xs ys : List PlainWidget} → x ∷ xs ≡ y ∷ ys → x ≡ y
        heads e = cc

        tails : {x y : PlainWidget} {xs ys : List PlainWidget} → x ∷ xs ≡ y ∷ ys → xs ≡ ys
        tails e = cc

        typed_at : (xs : List ArrivalOfWidget) (vs : List PlainWidget) → map (λ (a : ArrivalOfWidget). shared a.widget) xs ≡ vs → AreTypedWidgets d (widgets_of vs) → (i : ℕ) (a : ArrivalOfWidget) → i < length xs
            → IsTypedWidget d (shared (get_or xs i a).widget)
        typed_at [] vs e typed i a low = absurd (omega arith)
        typed_at (x ∷ xs) [] e typed i a low = cc
        typed_at (x ∷ xs) (v ∷ vs) e typed zero a low = subst (IsTypedWidget d) (sym (heads e)) typed.0
        typed_at (x ∷ xs) (v ∷ vs) e typed (suc i) a low = typed_at xs vs (tails e) typed.1 i a (omega arith)

-- ---- of the last frame

module _ (f : LastFrame) (t : Tree Element) (keeps : Keeps f.elements t) (olds : List Value) (live : (h : Handle) → Holds f.elements h → IsNode f.elements h)
    (below : (h : Handle) (e : Element) → IsOld f olds h → element_at f.elements h ≡ Some e → All (IsOld f (values_below e.widget olds)) (children_at f.elements h))
    (later : (h : Handle) (e : Element) → element_at f.elements h ≡ Some e → element_at t h ≡ Some e) where
  old_below : (partner : Option Handle) → IfSome partner (IsOld f olds) → (k : Handle) → Among k (children_had t partner) → IsOld f (values_had t partner olds) k
  old_below None old k among = absurd (omega (arith, among))
  old_below (Some h) old k among =
      let here = live h old.holds in
      let e = live_element f.elements h here in
      let had : values_had t (Some h) olds ≡ values_below e.0.widget olds = ap (λ (o : Option Element). values_after (element_widget o) olds) (later h e.0 e.1) in
      subst (λ vs. IsOld f vs k) (sym had)
      (all_among (IsOld f (values_below e.0.widget olds)) (children_at f.elements h) k (below h e.0 old e.1) (subst (Among k) (same_children f.elements t keeps h here) among))
    where
      element_widget : Option Element → Option PlainWidget
      element_widget None = None
      element_widget (Some e) = Some e.widget

  pub old_arriving : (partner : Option Handle) → IfSome partner (IsOld f olds) → (rs : List ArrivalOfWidget)
      → All (λ (a : ArrivalOfWidget). IfSome a.beside (λ k. Among k (children_had t partner) × IsNode t k)) rs → All (λ (a : ArrivalOfWidget). IfSome a.beside (IsOld f (values_had t partner olds))) rs
  old_arriving partner old rs among = λ i a low. at (get_or rs i a).beside (among i a low)
    where
      at : (o : Option Handle) → IfSome o (λ k. Among k (children_had t partner) × IsNode t k) → IfSome o (IsOld f (values_had t partner olds))
      at None h = tt
      at (Some k) h = old_below partner old k h.0

-- what arrives is the same by the elements of the last frame
module _ (f : LastFrame) (t : Tree Element) (stays : (vs : List Value) (k : Handle) → IsOld f vs k → plain_at f.scrolled t k ≡ plain_at f.scrolled f.elements k) where
  any_same : (vs : List Value) (o : Option Handle) → IfSome o (IsOld f vs) → plain_at_any f.scrolled t o ≡ plain_at_any f.scrolled f.elements o
  any_same vs None old = refl
  any_same vs (Some k) old = stays vs k old

  each_same : (vs : List Value) (rs : List ArrivalOfWidget) → All (λ (a : ArrivalOfWidget). IfSome a.beside (IsOld f vs)) rs → map (arrives_in f.scrolled t) rs ≡ map (arrives_in f.scrolled f.elements) rs
  each_same vs [] old = refl
  each_same vs (x ∷ xs) old = λ i.
      record { widget = shared x.widget; place = x.place; beside = any_same vs x.beside (old 0 x (omega arith)) i } ∷ each_same vs xs (λ k d low. old (suc k) d (omega arith)) i

  pub arriving_same : (us vs : List Value) (partner : Option Handle) (ws : List PlainWidget) (rs : List ArrivalOfWidget) (o : Opening) → map (arrives_in f.scrolled t) rs ≡ arrivals (plain_at_any f.scrolled t partner) ws
      → IfSome partner (IsOld f us) → All (λ (a : ArrivalOfWidget). IfSome a.beside (IsOld f vs)) rs → o.partner ≡ plain_at_any f.scrolled f.elements partner → o.given ≡ ws
      → map (arrives_in f.scrolled f.elements) rs ≡ arrivals o.partner o.given
  arriving_same us vs partner ws rs o is old olds same given =
      sym (each_same vs rs olds) ∙ is ∙ (λ i. arrivals ((any_same us partner old ∙ sym same) i) (sym given i))

-- what is known of the plain node of an element, if there is one
pub any_typed : (d : Declarations) (t : Tree Element) (P : PlainNode → Type 0) (o : Option Handle) → ((h : Handle) → IsTypedElement d t h → IfSome (plain_at (λ _. 0) t h) P)
    → IfSome o (IsTypedElement d t) → IfSome (plain_at_any (λ _. 0) t o) P
any_typed d t P None each typed = tt
any_typed d t P (Some h) each typed = each h typed

-- what arrives below an element goes on from old ones, and is what arrives by the definition
pub come_below : (f : LastFrame) (t : Tree Element) (keeps : Keeps f.elements t) (was vs : List Value) (partner : Option Handle) (ws : List PlainWidget) (rs : List ArrivalOfWidget) (o : Opening)
    → ((h : Handle) → Holds f.elements h → IsNode f.elements h)
    → ((h : Handle) (e : Element) → IsOld f was h → element_at f.elements h ≡ Some e → All (IsOld f (values_below e.widget was)) (children_at f.elements h))
    → ((h : Handle) (e : Element) → element_at f.elements h ≡ Some e → element_at t h ≡ Some e)
    → ((us : List Value) (k : Handle) → IsOld f us k → plain_at f.scrolled t k ≡ plain_at f.scrolled f.elements k)
    → vs ≡ values_had t partner was → map (arrives_in f.scrolled t) rs ≡ arrivals (plain_at_any f.scrolled t partner) ws → IfSome partner (IsOld f was)
    → All (λ (a : ArrivalOfWidget). IfSome a.beside (λ k. Among k (children_had t partner) × IsNode t k)) rs → o.partner ≡ plain_at_any f.scrolled f.elements partner → o.given ≡ ws
    → All (λ (a : ArrivalOfWidget). IfSome a.beside (IsOld f vs)) rs × (map (arrives_in f.scrolled f.elements) rs ≡ arrivals o.partner o.given)
come_below f t keeps was vs partner ws rs o live below later stays had is old among same given =
    let olds = old_arriving f t keeps was live below later partner old rs among in (
      subst (λ us. All (λ (a : ArrivalOfWidget). IfSome a.beside (IsOld f us)) rs) (sym had) olds,
      arriving_same f t stays was (values_had t partner was) partner ws rs o is old olds same given,
    )
