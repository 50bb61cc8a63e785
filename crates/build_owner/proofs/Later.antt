-- What is asked of old elements stays so where elements are added; and arrivals so far.
use Rattle.std.proofs.Common.{◌≡◌, ℕ, zero, suc, ◌+◌, ◌<◌, Option, IfSome, IsSome, option_map, List, [], ◌∷◌, ◌++◌, length, map, take, drop, get_or, sym, ap, ◌∙◌, subst, arith}
use Rattle.std.proofs.lemmas.List.{take_more, get_or-map, length-map}
use Rattle.fx_handles.specs.declared.Handle.{Handle}
use Rattle.node_tree.specs.Children.{Keeps}
use Rattle.node_tree.specs.Forest.{TreeNode}
use Rattle.node_tree.specs.Tree.{Tree, IsNode}
use Rattle.element_tree.specs.Element.{Element}
use Rattle.widget_model.specs.Plain.{PlainWidget}
use Rattle.widget_model.specs.Typed.{Declarations}
use Rattle.widget_model.specs.Update.{CanUpdate}
use Rattle.build_form.specs.Numbered.{IsInPlace}
use Rattle.build_form.specs.WellBuilt.{IsWellBuilt}
use Rattle.build_form.proofs.Outcomes.{some_map}
use Rattle.build_walk.specs.Kept.{plain_at}
use Rattle.build_owner.specs.declared.arriving.Arrival.{Arrival}
use Rattle.build_owner.specs.declared.walk.WaitingSpot.{WaitingSpot}
use Rattle.build_owner.specs.ArrivalView.{widget_at}
use Rattle.build_owner.specs.Entry.{IsTypedElement, AreTypedSpots}
use Rattle.build_owner.specs.Ready.{IsMatched, IsTypedArrival}

module _ (d : Declarations) (t u : Tree Element) (keeps : Keeps t u) (same : (h : Handle) → IsNode t h → plain_at (λ _. 0) u h ≡ plain_at (λ _. 0) t h) where
  pub typed_later : (h : Handle) → IsTypedElement d t h → IsTypedElement d u h
  typed_later h typed = (
    subst IsSome (sym (keeps h typed.0)) typed.0,
    subst (λ o. IfSome o (IsWellBuilt d)) (sym (same h typed.0)) typed.1,
    subst (λ o. IfSome o IsInPlace) (sym (same h typed.0)) typed.2,
  )

  pub any_later : (o : Option Handle) → IfSome o (IsTypedElement d t) → IfSome o (IsTypedElement d u)
  any_later o typed = some_map (IsTypedElement d t) (IsTypedElement d u) o typed_later typed

  pub spots_later : (spots : List WaitingSpot) → AreTypedSpots d t spots → AreTypedSpots d u spots
  spots_later spots typed = λ i s low. let old = typed i s low in record { kept = any_later (get_or spots i s).kept old.kept; now = old.now; was = old.was; list = old.list }

  widget_later : (h : Handle) → IsNode t h → widget_at u h ≡ widget_at t h
  widget_later h live = ap (λ (o : Option (TreeNode Element)). option_map (λ (e : Element). e.widget) (option_map (λ (n : TreeNode Element). n.value) o)) (keeps h live)

  matched_later : (w : PlainWidget) (h : Handle) → IsMatched d t w h → IsMatched d u w h
  matched_later w h matched = record {
    typed = typed_later h matched.typed;
    updates = subst (λ o. IfSome o (λ old. CanUpdate old w)) (sym (widget_later h matched.typed.0)) matched.updates;
  }

  pub arrival_later : (a : Arrival) → IsTypedArrival d t a → IsTypedArrival d u a
  arrival_later a typed = record { widget = typed.widget; beside = some_map _ _ a.beside (λ h m. matched_later _ h m) typed.beside }

-- ---- of a list of which so many were taken

module _ {A B : Type 0} (f : A → B) where
  pub taken_more : (xs : List A) (i : ℕ) (x : A) → i < length xs → x ≡ get_or xs i x → take (i + 1) (map f xs) ≡ take i (map f xs) ++ f x ∷ []
  taken_more xs i x low at =
      take_more (map f xs) i (f x) (rw length-map low)
      ∙ ap (λ y. take i (map f xs) ++ y ∷ []) (get_or-map f xs i x (f x) low ∙ ap f (sym at))

  pub split_at : (xs : List A) (i : ℕ) (x : A) → i < length xs → x ≡ get_or xs i x → map f xs ≡ take i (map f xs) ++ f x ∷ drop (suc i) (map f xs)
  split_at [] i x low at = absurd (omega arith)
  split_at (y ∷ xs) zero x low at = ap (λ z. f z ∷ map f xs) (sym at)
  split_at (y ∷ xs) (suc i) x low at = ap (λ l. f y ∷ l) (split_at xs i x (omega arith) at)
