-- The users that go with a node, and with all that is below it.
use Rattle.std.proofs.Common.{◌≡◌, ℕ, suc, zero, ◌+◌, ◌≤◌, ◌<◌, Bool, true, false, cond, ◌||◌, nat_lt, List, [], ◌∷◌, ◌++◌, length, take, get_or, Option, Some, None, IsSome, option_map, refl, sym, ap, ◌∙◌, subst, arith}
use Rattle.std.proofs.lemmas.Bool.{false≢true}
use Rattle.std.proofs.lemmas.Bool.Decides.{nat_tests}
use Rattle.std.proofs.lemmas.List.{take_all, take_more}
use Rattle.std.proofs.lemmas.List.Folds.{list_any-append}
use Rattle.fx_handles.specs.declared.Handle.{Handle}
use Rattle.fx_handles.specs.Handle.{same, Among}
use Rattle.fx_handles.specs.HandleLaws.{times-cons, times_here}
use Rattle.handle_groups.specs.Groups.{Groups, stands_under}
use Rattle.node_tree.specs.Forest.{TreeNode, Forest, tops, count, below, IsDistinct, Stands}
use Rattle.node_tree.specs.Forest.Forest.{none, tree}
use Rattle.node_tree.specs.Tree.{Tree, IsNode, IsTree, node_at, parent_of, children_at, subtree_at, StandsAt, Holds}
use Rattle.render_tree.specs.Object.{RenderObject}
use Rattle.render_tree.specs.Tree.{object_at}
use Rattle.render_tree.specs.Users.{delegate_at, is_called, is_in, is_at_or_below, Drops, standing}
use Rattle.render_tree.proofs.Used.{standing-same, drop_called}

-- what the laws of trees say
pub record Walks : Type 0 where
  pub holds : (t : Tree RenderObject) (h : Handle) → IsTree t → IsNode t h → Holds t h
  pub subtree : (t : Tree RenderObject) (h : Handle) (s : Forest RenderObject) → StandsAt t h s → subtree_at t h ≡ s
  pub opened : (t : Tree RenderObject) (h : Handle) (v : RenderObject) → Holds t h → object_at t h ≡ Some v → subtree_at t h ≡ tree h v (below (subtree_at t h)) none
  pub stands : (t : Tree RenderObject) (h : Handle) → Holds t h → Stands (node_at t) (Some h) (below (subtree_at t h))
  pub listed : (t : Tree RenderObject) (h : Handle) → Holds t h → tops (below (subtree_at t h)) ≡ children_at t h

-- ---- on tests

pub some-sum : (x y : ℕ) → nat_lt 0 (x + y) ≡ (nat_lt 0 x || nat_lt 0 y)
some-sum x y = grind (arith, nat_tests)

some-one : (b : Bool) → nat_lt 0 (cond {A = ℕ} b 1 0) ≡ b
some-one true = refl
some-one false = refl

pub or-or : (a b c : Bool) → ((a || b) || c) ≡ (a || (b || c))
or-or true b c = refl
or-or false b c = refl

pub or-none : (b : Bool) → (b || false) ≡ b
or-none true = refl
or-none false = refl

-- ---- who stands at or below a node

-- a handle stands in a tree: at its top, or below
pub in-tree : (k h : Handle) (v : RenderObject) (b rest : Forest RenderObject) → is_in k (tree h v b rest) ≡ ((same h k || is_in k b) || is_in k rest)
in-tree k h v b rest =
    some-sum (cond {A = ℕ} (same h k) 1 0 + count k b) (count k rest)
    ∙ ap (λ x. x || is_in k rest) (some-sum (cond {A = ℕ} (same h k) 1 0) (count k b) ∙ ap (λ x. x || is_in k b) (some-one (same h k)))

module _ (walks : Walks) where
  -- in a forest that stands in a tree: at or below one of its tops
  pub in-tops : (t : Tree RenderObject) (p : Option Handle) (f : Forest RenderObject) → Stands (node_at t) p f → IsDistinct f
      → (k : Handle) → is_in k f ≡ is_at_or_below t (tops f) k
  in-tops t p none stands distinct k = refl
  in-tops t p (tree c v b rest) stands distinct k =
      let here : StandsAt t c (tree c v b none) = record {
        top = refl;
        stands = subst (λ (q : Option Handle). Stands (node_at t) q (tree c v b none)) (sym (ap parent_of stands.0)) (stands.0, stands.1, tt);
        distinct = λ x. omega (arith, distinct x);
      } in
      in-tree k c v b rest
      ∙ ap (λ x. x || is_in k rest) (sym (in-tree k c v b none ∙ or-none (same c k || is_in k b)) ∙ ap (is_in k) (sym (walks.subtree t c (tree c v b none) here)))
      ∙ ap (λ x. is_in k (subtree_at t c) || x) (in-tops t p rest stands.2 (λ x. omega (arith, distinct x)) k)

  -- at a node itself, or at or below a child
  pub in-node : (t : Tree RenderObject) (h : Handle) (v : RenderObject) → IsTree t → IsNode t h → object_at t h ≡ Some v
      → (k : Handle) → is_in k (subtree_at t h) ≡ (same h k || is_at_or_below t (children_at t h) k)
  in-node t h v is live there k =
      let holds : Holds t h = walks.holds t h is live in
      let opened : subtree_at t h ≡ tree h v (below (subtree_at t h)) none = walks.opened t h v holds there in
      let whole : IsDistinct (tree h v (below (subtree_at t h)) none) = subst IsDistinct opened holds.distinct in
      ap (is_in k) opened
      ∙ in-tree k h v (below (subtree_at t h)) none
      ∙ or-none (same h k || is_in k (below (subtree_at t h)))
      ∙ ap (λ x. same h k || x) (in-tops t (Some h) (below (subtree_at t h)) (walks.stands t h holds) (λ x. omega (arith, whole x)) k)
      ∙ ap (λ hs. same h k || is_at_or_below t hs k) (walks.listed t h holds)

-- ---- drops

-- what is gone, said otherwise
pub drops-same : (t : Tree RenderObject) (p q : Handle → Bool) (old new : Groups) → Drops t p old new → ((k : Handle) → q k ≡ p k) → Drops t q old new
drops-same t p q old new drops e = λ gone are n k.
    drops gone are n k ∙ ap (λ b. is_called n (cond {A = Option (List ℕ)} (gone k || b) None (delegate_at t k))) (sym (e k))

pub drops-none : (t : Tree RenderObject) (g : Groups) (p : Handle → Bool) → ((k : Handle) → p k ≡ false) → Drops t p g g
drops-none t g p none_of = λ gone are n k.
    are n k ∙ ap (λ b. is_called n (cond {A = Option (List ℕ)} b None (delegate_at t k))) (sym (ap (λ b. gone k || b) (none_of k) ∙ or-none (gone k)))

-- one after another
pub drops-both : (t : Tree RenderObject) (p q r : Handle → Bool) (old mid new : Groups) → Drops t p old mid → Drops t q mid new → ((k : Handle) → r k ≡ (p k || q k)) → Drops t r old new
drops-both t p q r old mid new first second both = λ gone are n k.
    second (λ x. gone x || p x) (first gone are) n k
    ∙ ap (λ b. is_called n (cond {A = Option (List ℕ)} b None (delegate_at t k))) (or-or (gone k) (p k) (q k) ∙ ap (λ b. gone k || b) (sym (both k)))

-- one node
pub drops-one : (t : Tree RenderObject) (h : Handle) (d : Option (List ℕ)) (old new : Groups) → delegate_at t h ≡ d
    → ((n : List ℕ) (k : Handle) → stands_under new n k ≡ standing false d h (stands_under old) n k) → Drops t (same h) old new
drops-one t h d old new was drop = λ gone are n k.
    drop n k
    ∙ standing-same false d h (stands_under old) (λ m c. is_called m (D gone c)) n k (are n k)
    ∙ drop_called (D gone) d h n k (λ called. at_h gone n called)
    ∙ ap (is_called n) (by (gone k) (same h k) (delegate_at t k))
  where
    D : (Handle → Bool) → Handle → Option (List ℕ)
    D gone c = cond (gone c) None (delegate_at t c)

    at_gone : (b : Bool) (n : List ℕ) → is_called n (cond b None (delegate_at t h)) ≡ true → is_called n d ≡ true
    at_gone true n called = absurd (false≢true called)
    at_gone false n called = sym (ap (is_called n) was) ∙ called

    at_h : (gone : Handle → Bool) (n : List ℕ) → is_called n (D gone h) ≡ true → is_called n d ≡ true
    at_h gone n called = at_gone (gone h) n called

    by : (b c : Bool) (o : Option (List ℕ)) → cond {A = Option (List ℕ)} c None (cond b None o) ≡ cond (b || c) None o
    by true true o = refl
    by true false o = refl
    by false true o = refl
    by false false o = refl

-- one node more of a list
pub drops-more : (t : Tree RenderObject) (hs more : List Handle) (c : Handle) (old mid new : Groups) → Drops t (is_at_or_below t hs) old mid
    → Drops t (λ k. is_in k (subtree_at t c)) mid new → more ≡ hs ++ c ∷ [] → Drops t (is_at_or_below t more) old new
drops-more t hs more c old mid new first second is =
    drops-both t (is_at_or_below t hs) (λ k. is_in k (subtree_at t c)) (is_at_or_below t more) old mid new first second (λ k.
    ap (λ l. is_at_or_below t l k) is ∙ list_any-append (λ h. is_in k (subtree_at t h)) hs (c ∷ []) ∙ ap (λ b. is_at_or_below t hs k || b) (or-none (is_in k (subtree_at t c))))

pub value_of_node : (o : Option (TreeNode RenderObject)) → IsSome o → (v : RenderObject) × (option_map (λ (n : TreeNode RenderObject). n.value) o ≡ Some v)
value_of_node None some = absurd (cc)
value_of_node (Some n) some = (n.value, refl)

pub drops-node : Walks → (t : Tree RenderObject) (h : Handle) (old mid new : Groups) → IsTree t → IsNode t h
    → Drops t (same h) old mid → Drops t (is_at_or_below t (children_at t h)) mid new → Drops t (λ k. is_in k (subtree_at t h)) old new
drops-node walks t h old mid new is live first second =
    let there = value_of_node (node_at t h) live in
    drops-both t (same h) (is_at_or_below t (children_at t h)) (λ k. is_in k (subtree_at t h)) old mid new first second (in-node walks t h there.0 is live there.1)

-- all of a list
pub drops-all : (t : Tree RenderObject) (i : ℕ) (cs : List Handle) (old new : Groups) → length cs ≤ i → Drops t (is_at_or_below t (take i cs)) old new → Drops t (is_at_or_below t cs) old new
drops-all t i cs old new all drops = drops-same t (is_at_or_below t (take i cs)) (is_at_or_below t cs) old new drops (λ k. ap (λ hs. is_at_or_below t hs k) (sym (take_all i cs all)))

-- the next of a list
pub drops-next : (t : Tree RenderObject) (i : ℕ) (cs items : List Handle) (old mid new : Groups) → items ≡ cs → i < length items → Drops t (is_at_or_below t (take i cs)) old mid
    → Drops t (λ k. is_in k (subtree_at t (get_or items i (record { index = 0; generation = 0 })))) mid new → Drops t (is_at_or_below t (take (i + 1) cs)) old new
drops-next t i cs items old mid new same_list within first second =
    let nowhere : Handle = record { index = 0; generation = 0 } in
    let inside : i < length cs = subst (λ (xs : List Handle). i < length xs) same_list within in
    drops-more t (take i cs) (take (i + 1) cs) (get_or items i nowhere) old mid new first second
    (take_more cs i nowhere inside ∙ ap (λ xs. take i cs ++ get_or xs i nowhere ∷ []) (sym same_list))

pub among_at : (hs : List Handle) (i : ℕ) (d : Handle) → i < length hs → Among (get_or hs i d) hs
among_at [] i d within = absurd (omega arith)
among_at (h ∷ hs) zero d within = omega (arith, times_here h hs)
among_at (h ∷ hs) (suc i) d within = omega (arith, times-cons (get_or hs i d) h hs, among_at hs i d (omega arith))
