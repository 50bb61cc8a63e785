-- How far the second phase has come: the lists that were served so far.
use Rattle.std.proofs.Common.{◌≡◌, ℕ, zero, suc, IfSome, ◌+◌, ◌<◌, List, [], ◌∷◌, ◌++◌, length, map, take, drop, get_or, refl, sym, ap, ◌∙◌, subst, arith}
use Rattle.std.specs.List.{All}
use Rattle.std.proofs.lemmas.List.{append_assoc, append-nil}
use Rattle.std.proofs.lemmas.List.Elements.{All-tail, All-head}
use Rattle.fx_handles.specs.declared.Handle.{Handle}
use Rattle.node_tree.specs.Children.{Keeps}
use Rattle.node_tree.specs.Plan.{planned}
use Rattle.node_tree.specs.Tree.{Tree}
use Rattle.sliver_layout.specs.declared.protocol.Window.{Window}
use Rattle.build_form.specs.FullBuild.{Ranges, next_waiting, one_served}
use Rattle.element_tree.specs.Element.{Element, made_count}
use Rattle.global_keys.specs.Holders.{Registry, is_met}
use Rattle.render_tree.specs.Object.{RenderObject}
use Rattle.build_walk.specs.Counting.{builds_by_each}
use Rattle.build_walk.specs.Kept.{plain_at_any}
use Rattle.build_walk.specs.Serving.{served, builds_serving}
use Rattle.build_owner.specs.declared.serving.ServedList.{ServedList}
use Rattle.build_owner.specs.declared.source.WalkSource.{WalkSource}
use Rattle.build_owner.specs.declared.walk.BuildWalk.{BuildWalk}
use Rattle.build_owner.specs.declared.walk.WaitingSpot.{WaitingSpot}
use Rattle.build_owner.specs.Entry.{AreTypedSpots, AreOldSpots}
use Rattle.build_owner.specs.LastFrame.{LastFrame, IsOld, IsSince}
use Rattle.build_owner.specs.Making.{MakesNodes}
use Rattle.build_owner.specs.Naming.{AreHeld}
use Rattle.build_owner.specs.Ready.{IsReadyToWalk}
use Rattle.build_owner.specs.Served.{IsUnplanned, AreServed, AreRangesOf, all_served, range_for}
use Rattle.build_owner.specs.WalkView.{basis_of, declared_by, program_of, progress_of, waiting_of}

pub record ServedSoFar (from : WalkSource) (hs : List Handle) (ranges : List Window) (i : ℕ) (t u : Tree Element) (r s : Tree RenderObject) (g k : Registry) (before after : BuildWalk) (count builds : ℕ) (os : List ServedList) : Type 0 where
  pub left : after.spots.items ≡ drop i before.spots.items
  pub all : (f : LastFrame) → IsSince (program_of from).defaults f t r g → AreOldSpots f before.spots.items → (which : Ranges) → AreRangesOf which before.spots.items ranges
      → AreServed (basis_of from f) f.pasts f.scrolled which (take i before.spots.items) (take i hs) (progress_of f before g t) (progress_of f after k u) u s os
  pub builds_are : (f : LastFrame) → IsSince (program_of from).defaults f t r g → AreOldSpots f before.spots.items → (which : Ranges) → AreRangesOf which before.spots.items ranges
      → builds ≡ count + builds_by_each (served (basis_of from f) f.pasts which) (builds_serving (basis_of from f) f.pasts which) (map waiting_of (take i before.spots.items)) (progress_of f before g t)
  pub since : (f : LastFrame) → IsSince (program_of from).defaults f t r g → IsSince (program_of from).defaults f u s k
  pub keeps : Keeps t u
  pub keeps_drawn : Keeps r s
  pub makes_drawn : MakesNodes (made_count t) (made_count u) r s
  pub ready : IsReadyToWalk (declared_by from) (program_of from).nodes after.entered u s k
  pub spots : AreTypedSpots (declared_by from) u after.spots.items
  pub unplanned : IsUnplanned after
  pub held : (xs : List Handle) → AreHeld g t xs → AreHeld k u (xs ++ all_served os)

-- ---- the next list

-- where one is taken from the front, the walk waits with it first
pub next_is : (f : LastFrame) (g : Registry) (t : Tree Element) (w : BuildWalk) (x : WaitingSpot) (others : List WaitingSpot) → w.spots.items ≡ x ∷ others
    → next_waiting (progress_of f w g t).waiting ≡ plain_at_any f.scrolled f.elements x.kept
next_is f g t w x others is = ap (λ (l : List WaitingSpot). next_waiting (map (λ (s : WaitingSpot). plain_at_any f.scrolled f.elements s.kept) l)) is

pub others_are : (f : LastFrame) (g : Registry) (t : Tree Element) (w v : BuildWalk) (x : WaitingSpot) → w.spots.items ≡ x ∷ v.spots.items → v ≡ record w { spots = v.spots }
    → one_served (progress_of f w g t) ≡ progress_of f v g t
others_are f g t w v x is same =
    ap (λ (l : List WaitingSpot). one_served (record { entered = w.entered; met = λ k. is_met g k; next = made_count t + 1; waiting = map (λ (s : WaitingSpot). plain_at_any f.scrolled f.elements s.kept) l })) is
    ∙ (λ i. record { entered = (sym same i).entered; met = λ k. is_met g k; next = made_count t + 1; waiting = map (λ (s : WaitingSpot). plain_at_any f.scrolled f.elements s.kept) v.spots.items })

-- its range
read_range : (which : Ranges) (xs : List WaitingSpot) (j : ℕ) (y : WaitingSpot) (d : Window) → j < length xs
    → get_or (map (λ (s : WaitingSpot). range_for which (waiting_of s)) xs) j d ≡ range_for which (waiting_of (get_or xs j y))
read_range which [] j y d less = absurd (omega (arith, less))
read_range which (z ∷ xs) zero y d less = refl
read_range which (z ∷ xs) (suc j) y d less = read_range which xs j y d (omega (arith, less))

pub range_is : (which : Ranges) (spots : List WaitingSpot) (ranges : List Window) (i : ℕ) (x : WaitingSpot) (d : Window) → AreRangesOf which spots ranges → i < length spots → x ≡ get_or spots i x
    → get_or ranges i d ≡ range_for which (waiting_of x)
range_is which spots ranges i x d all low at = ap (λ l. get_or l i d) all ∙ read_range which spots i x d low ∙ ap (λ y. range_for which (waiting_of y)) (sym at)

-- it is typed, and old
pub front_typed : (P : WaitingSpot → Type 0) (all : List WaitingSpot) (x : WaitingSpot) (others : List WaitingSpot) → all ≡ x ∷ others → All P all → P x
front_typed P all x others is h = All-head P x others (subst (All P) is h)

pub others_typed : (P : WaitingSpot → Type 0) (all : List WaitingSpot) (x : WaitingSpot) (others : List WaitingSpot) → all ≡ x ∷ others → All P all → All P others
others_typed P all x others is h = All-tail P x others (subst (All P) is h)

pub old_at : (f : LastFrame) (spots : List WaitingSpot) (i : ℕ) (x : WaitingSpot) → i < length spots → x ≡ get_or spots i x → AreOldSpots f spots → IfSome x.kept (IsOld f x.was.items)
old_at f spots i x low at old = subst (λ (y : WaitingSpot). IfSome y.kept (IsOld f y.was.items)) (sym at) (old i x low)

-- what is planned for one list more
all_more : (o : ServedList) (xs : List ServedList) → all_served xs ++ planned o.elements.items ≡ all_served (xs ++ o ∷ [])
all_more o [] = sym (append-nil (planned o.elements.items))
all_more o (x ∷ xs) = append_assoc (planned x.elements.items) (all_served xs) (planned o.elements.items) ∙ ap (λ l. planned x.elements.items ++ l) (all_more o xs)

pub served_more_held : (os : List ServedList) (o : ServedList) (hs : List Handle) → (hs ++ all_served os) ++ planned o.elements.items ≡ hs ++ all_served (os ++ o ∷ [])
served_more_held os o hs = append_assoc hs (all_served os) (planned o.elements.items) ∙ ap (λ l. hs ++ l) (all_more o os)
