-- What is kept of nodes that are gone is let go, by a list of those for which something is kept.
use Rattle.std.proofs.Common.{◌≡◌, ◌≢◌, ◌⊎◌, ◌↔◌, IsTrue, ℕ, ◌+◌, ◌<◌, ◌≤◌, ◌==◌, Bool, true, false, ◌||◌, cond, if◌then◌else◌, Option, Some, None, IsSome, Result, Ok, Err, OnOk, OnErr, List, [], ◌∷◌, ◌++◌, length, get_or, take, refl, ap, sym, ◌∙◌, subst, inl, inr, true≢false}
use Rattle.std.specs.List.{filter}
use Rattle.std.proofs.lemmas.List.{take_more, take_all}
use Rattle.fx_handles.specs.declared.Handle.{Handle}
use Rattle.fx_handles.specs.Handle.{same}
use Rattle.fx_handles.specs.HandleLaws.{cases_same, same-eq, same-ne, same_self}
use Rattle.fx_geom.specs.declared.shapes.Size.{Size}
use Rattle.delegates.specs.Table.{Plug}
use Rattle.handle_shelf.specs.Shelf.{Shelf, kept_at, with_kept, without_kept}
use Rattle.node_tree.specs.Forest.{Forest}
use Rattle.node_tree.specs.Forest.Forest.{none, tree}
use Rattle.node_tree.specs.Tree.{Tree, node_at, IsNode, IsTree}
use Rattle.node_tree.proofs.ForestLemmas.{node_in}
use Rattle.node_tree.proofs.TreeLemmas.{is_node}
use Rattle.render_tree.specs.Object.{RenderObject}
use Rattle.render_tree.specs.Plain.{root_tree}
use Rattle.kept_layers.specs.Done.{AgreesAt, Agrees}
use Rattle.kept_layers.specs.Steps.{is_listed}
use Rattle.kept_layers.proofs.Listing.{is_listed-append}
use Rattle.kept_layers.proofs.Agreeing.{IsFresh-same, root_filled_same}
use Rattle.kept_layers.proofs.RootTrees.{root_stands}
use Rattle.paint_owner.specs.Listed.{AreListed}
use Rattle.paint_owner.specs.PaintOwner.{PaintOwner, kept_of, frame_layer, IsRootFresh, IsKept}
use Rattle.paint_owner.proofs.Gathered.{or_true, same_is}

-- what a test says that is false
pub not_so : (b : Bool) (P : Type 0) → (IsTrue b ↔ P) → b ≡ false → P → ⊥
not_so b P says off is = true≢false (sym (says.1 is) ∙ off)

-- a handle more
listed_more : (hs : List Handle) (i : ℕ) (z k : Handle) → i < length hs → is_listed k (take (i + 1) hs) ≡ true → (is_listed k (take i hs) ≡ true) ⊎ (k ≡ get_or hs i z)
listed_more hs i z k within e = elim (or_true (is_listed k (take i hs)) (same k (get_or hs i z) || false) (sym (is_listed-append k (take i hs) (get_or hs i z ∷ [])) ∙ sym (ap (is_listed k) (take_more hs i z within)) ∙ e)) [
  | inl before ↦ inl before
  | inr last ↦ inr (same_is k (get_or hs i z) last)
]

module _ {V : Type 0} (P : Handle → Type 0) where
  -- what is kept for these handles was let go where they aren't live
  pub record LetGo (hs : List Handle) (was now : Handle → Option V) : Type 0 where
    pub live : (k : Handle) → P k → now k ≡ was k
    pub gone : (k : Handle) → is_listed k hs ≡ true → (P k → ⊥) → now k ≡ None
    pub empty : (k : Handle) → was k ≡ None → now k ≡ None

  pub let_go_start : (was : Handle → Option V) → LetGo [] was was
  let_go_start was = record { live = λ k is. refl; gone = λ k e isnt. absurd (true≢false (sym e)); empty = λ k e. e }

  pub let_go_live : (hs : List Handle) (i : ℕ) (z : Handle) (was now : Handle → Option V) → i < length hs → LetGo (take i hs) was now → P (get_or hs i z) → LetGo (take (i + 1) hs) was now
  let_go_live hs i z was now within so_far is = record {
    live = so_far.live;
    gone = λ k e isnt. elim (listed_more hs i z k within e) [
      | inl before ↦ so_far.gone k before isnt
      | inr here ↦ absurd (isnt (subst P (sym here) is))
    ];
    empty = so_far.empty;
  }

  pub let_go_more : (hs : List Handle) (i : ℕ) (z : Handle) (was now after : Handle → Option V) → i < length hs → LetGo (take i hs) was now → (P (get_or hs i z) → ⊥)
      → ((k : Handle) → after k ≡ without_kept (get_or hs i z) now k) → LetGo (take (i + 1) hs) was after
  let_go_more hs i z was now after within so_far isnt removed = record {
    live = λ k is. removed k ∙ ap (λ (b : Bool). if b then None else now k) (same-ne k (get_or hs i z) (λ e. isnt (subst P e is))) ∙ so_far.live k is;
    gone = λ k e out. removed k ∙ by_same k (cases_same k (get_or hs i z)) (λ ne. elim (listed_more hs i z k within e) [
      | inl before ↦ so_far.gone k before out
      | inr here ↦ absurd (ne here)
    ]);
    empty = λ k e. removed k ∙ by_same k (cases_same k (get_or hs i z)) (λ ne. so_far.empty k e);
  }
    where
      by_same : (k : Handle) → (k ≡ get_or hs i z) ⊎ (k ≢ get_or hs i z) → (k ≢ get_or hs i z → now k ≡ None) → without_kept (get_or hs i z) now k ≡ None
      by_same k (inl e) other = ap (λ (b : Bool). if b then None else now k) (same-eq k (get_or hs i z) e)
      by_same k (inr ne) other = ap (λ (b : Bool). if b then None else now k) (same-ne k (get_or hs i z) ne) ∙ other ne

  pub let_go_all : (hs : List Handle) (i : ℕ) (was now : Handle → Option V) → length hs ≤ i → LetGo (take i hs) was now → LetGo hs was now
  let_go_all hs i was now past so_far = subst (λ ks. LetGo ks was now) (take_all i hs past) so_far

-- where all are listed for which something was kept, it was let go of all that aren't live
some_kept : {V : Type 0} (o : Option V) → (o ≡ None) ⊎ (IsSome o)
some_kept None = inl refl
some_kept (Some v) = inr refl

pub none_dead : {V : Type 0} (s : Shelf V) (hs : List Handle) (now : Handle → Option V) → AreListed s hs → ((k : Handle) → kept_at s k ≡ None → now k ≡ None)
    → (k : Handle) → (is_listed k hs ≡ true → now k ≡ None) → now k ≡ None
none_dead s hs now listed stays k gone = elim (some_kept (kept_at s k)) [
  | inl e ↦ stays k e
  | inr is ↦ gone (listed k is)
]

or_right : (a b : Bool) → b ≡ true → (a || b) ≡ true
or_right true b e = refl
or_right false b e = e

or_left : (a b : Bool) → a ≡ true → (a || b) ≡ true
or_left a b e = ap (λ x. x || b) e

-- a list keeps the live ones
pub still_listed : (test : Handle → Bool) (k : Handle) → test k ≡ true → (hs : List Handle) → is_listed k hs ≡ true → is_listed k (filter test hs) ≡ true
still_listed test k on [] e = e
still_listed test k on (h ∷ hs) e = by_first (cases_same k h) (λ rest. still_listed test k on hs rest)
  where
    by_test : (b : Bool) → is_listed k (filter test hs) ≡ true → is_listed k (cond b (h ∷ filter test hs) (filter test hs)) ≡ true
    by_test true e = or_right (same k h) (is_listed k (filter test hs)) e
    by_test false e = e

    by_first : (k ≡ h) ⊎ (k ≢ h) → (is_listed k hs ≡ true → is_listed k (filter test hs) ≡ true) → is_listed k (filter test (h ∷ hs)) ≡ true
    by_first (inl is) again =
        ap (λ b. is_listed k (cond b (h ∷ filter test hs) (filter test hs))) (ap test (sym is) ∙ on) ∙ or_left (same k h) (is_listed k (filter test hs)) (same-eq k h is)
    by_first (inr ne) again = by_test (test h) (again (sym (ap (λ b. b || is_listed k hs) (same-ne k h ne)) ∙ e))

-- a list to which a handle is added
pub listed_old : (k h : Handle) (hs : List Handle) → is_listed k hs ≡ true → is_listed k (hs ++ h ∷ []) ≡ true
listed_old k h hs e = is_listed-append k hs (h ∷ []) ∙ or_left (is_listed k hs) (same k h || false) e

pub listed_own : (h : Handle) (hs : List Handle) → is_listed h (hs ++ h ∷ []) ≡ true
listed_own h hs = is_listed-append h hs (h ∷ []) ∙ or_right (is_listed h hs) (same h h || false) (or_left (same h h) false (same_self h))

-- what is kept after a value was put
pub put_listed : {V : Type 0} (s t : Shelf V) (h : Handle) (value : V) (hs ks : List Handle) → AreListed s hs → ((k : Handle) → is_listed k hs ≡ true → is_listed k ks ≡ true)
    → is_listed h ks ≡ true → ((k : Handle) → kept_at t k ≡ with_kept h value (kept_at s) k) → AreListed t ks
put_listed {V} s t h value hs ks listed old own puts k is = by_same (cases_same k h)
  where
    by_slot : (b : Bool) → IsSome (if b then None else kept_at s k) → is_listed k hs ≡ true
    by_slot true some = absurd (true≢false (sym some))
    by_slot false some = listed k some

    by_same : (k ≡ h) ⊎ (k ≢ h) → is_listed k ks ≡ true
    by_same (inl e) = ap (λ j. is_listed j ks) e ∙ own
    by_same (inr ne) =
        old k (by_slot (k.index == h.index) (subst (λ (o : Option V). IsSome o) (puts k ∙ ap (λ (b : Bool). if b then Some value else (if k.index == h.index then None else kept_at s k)) (same-ne k h ne)) is))

-- where each handle has what it had
pub same_listed : {V : Type 0} (s t : Shelf V) (hs ks : List Handle) → AreListed s hs → ((k : Handle) → is_listed k hs ≡ true → is_listed k ks ≡ true) → ((k : Handle) → kept_at t k ≡ kept_at s k)
    → AreListed t ks
same_listed {V} s t hs ks listed old same k is = old k (listed k (subst (λ (o : Option V). IsSome o) (same k) is))

-- one or the other
pub put_or_same : {V A E : Type 0} (r : Result A E) (s t : Shelf V) (h : Handle) (value : V) (hs ks : List Handle) → AreListed s hs → ((k : Handle) → is_listed k hs ≡ true → is_listed k ks ≡ true)
    → is_listed h ks ≡ true → OnOk r ((k : Handle) → kept_at t k ≡ with_kept h value (kept_at s) k) → OnErr r ((k : Handle) → kept_at t k ≡ kept_at s k) → AreListed t ks
put_or_same (Ok x) s t h value hs ks listed old own ok err = put_listed s t h value hs ks listed old own ok
put_or_same (Err e) s t h value hs ks listed old own ok err = same_listed s t hs ks listed old err

-- and where only the live ones are kept, and listed
pub live_listed : {V : Type 0} (P : Handle → Type 0) (s t : Shelf V) (hs ks : List Handle) → AreListed s hs → ((k : Handle) → (P k) ⊎ (P k → ⊥)) → ((k : Handle) → P k → kept_at t k ≡ kept_at s k)
    → ((k : Handle) → (P k → ⊥) → kept_at t k ≡ None) → ((k : Handle) → P k → is_listed k hs ≡ true → is_listed k ks ≡ true) → AreListed t ks
live_listed {V} P s t hs ks listed either live dead still k is = elim (either k) [
  | inl p ↦ still k p (listed k (subst (λ (o : Option V). IsSome o) (live k p) is))
  | inr isnt ↦ absurd (true≢false (sym (subst (λ (o : Option V). IsSome o) (dead k isnt) is)))
]

pub some_or_not : {A : Type 0} (o : Option A) → (IsSome o) ⊎ (IsSome o → ⊥)
some_or_not None = inr (λ e. true≢false (sym e))
some_or_not (Some x) = inl refl

-- what is kept of live nodes is all that counts
pub dropped_kept : (cell : Size) (delegates : List Plug) (old new : PaintOwner) (t : Tree RenderObject) → IsTree t → ((k : Handle) → IsNode t k → AgreesAt (kept_of old) (kept_of new) k)
    → new.top ≡ old.top → new.root ≡ old.root → IsKept cell delegates old (root_tree t) → IsKept cell delegates new (root_tree t)
dropped_kept cell delegates old new t is agree top root kept =
    record {
      boundaries = IsFresh-same cell delegates (kept_of old) (kept_of new) (root_tree t) same_kept kept.boundaries;
      root = at_top (root_tree t) same_kept kept.root;
      marks = kept.marks;
    }
  where
    same_kept : Agrees (kept_of old) (kept_of new) (root_tree t)
    same_kept k inside = let n = node_in (node_at t) None (root_tree t) k (root_stands t is) inside in agree k (is_node (node_at t k) n.0 n.1)

    at_top : (f : Forest RenderObject) → Agrees (kept_of old) (kept_of new) f → IsRootFresh cell delegates old f → IsRootFresh cell delegates new f
    at_top none same fresh = tt
    at_top (tree h v below rest) same fresh = λ calm.
        let keeps = fresh calm in
        record {
          top = top ∙ keeps.top;
          root = root ∙ keeps.root ∙ ap (λ es. Some (frame_layer es)) (root_filled_same cell delegates (kept_of old) (kept_of new) (tree h v below rest) same);
        }
