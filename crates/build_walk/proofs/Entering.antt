-- Widgets that are entered one after another.
use Rattle.std.proofs.Common.{◌≡◌, ℕ, Some, List, [], ◌∷◌, ◌++◌, refl, sym, ap, ◌∙◌}
use Rattle.fx_expr.specs.declared.values.Value.{Value}
use Rattle.fx_handles.specs.declared.Handle.{Handle}
use Rattle.node_tree.specs.Forest.{Forest, append}
use Rattle.node_tree.specs.Forest.Forest.{none, tree}
use Rattle.node_tree.specs.Tree.{Tree}
use Rattle.build_form.specs.Step.{Progress, Step, gives, and_then, each}
use Rattle.build_form.specs.Partner.{Arrival}
use Rattle.plain_tree.specs.PlainNode.{node, nodes_of as listed}
use Rattle.build_form.specs.Entering.{Basis, Phase, first, second}
use Rattle.element_tree.specs.Element.{Element, element_at}
use Rattle.element_tree.specs.Nodes.{nodes_of}
use Rattle.render_tree.specs.Object.{RenderObject}
use Rattle.render_tree.specs.Tree.{object_at}
use Rattle.build_walk.specs.Keeping.{reenter}
use Rattle.build_walk.specs.Past.{Pasts}
use Rattle.build_walk.specs.Telling.{StoreOutputs}
use Rattle.build_walk.specs.Serving.{WaitingList, waiting_lists, all_waiting_lists}
use Rattle.build_walk.specs.Walked.{WalkPlans, WalkPlace, waiting_in}
use Rattle.build_walk.specs.Entered.{IsEntered, AreEntered}
use Rattle.build_walk.proofs.Serving.{chained, along}
use Rattle.build_walk.proofs.Siblings.{nodes_append, lists_append}
use Rattle.build_walk.proofs.Walking.{nothing_walked, walked_both, tops_append, no_more, added}

last : {A B : Type 0} (go : A → Progress → Step B) (xs : List A) (x : A) (s : Progress)
    → each go (xs ++ x ∷ []) s ≡ and_then (each go xs s) (λ ys t. and_then (go x t) (λ y u. gives (ys ++ y ∷ []) u))
last go [] x s = refl
last go (z ∷ xs) x s =
    along (go z s) _ _ (λ y s1.
    ap (λ r. and_then r (λ ys s2. gives (y ∷ ys) s2)) (last go xs x s1)
    ∙ chained (each go xs s1) (λ ys t. and_then (go x t) (λ w u. gives (ys ++ w ∷ []) u)) (λ ys s2. gives (y ∷ ys) s2)
    ∙ along (each go xs s1) _ _ (λ ys t. chained (go x t) (λ w u. gives (ys ++ w ∷ []) u) (λ zs s2. gives (y ∷ zs) s2))
    ∙ sym (chained (each go xs s1) (λ ys s2. gives (y ∷ ys) s2) (λ ys t. and_then (go x t) (λ w u. gives (ys ++ w ∷ []) u))))
    ∙ sym (chained (go z s) (λ y s1. and_then (each go xs s1) (λ ys s2. gives (y ∷ ys) s2)) (λ ys t. and_then (go x t) (λ w u. gives (ys ++ w ∷ []) u)))

one_more : {A B : Type 0} (go : A → Progress → Step B) (xs : List A) (x : A) (s t u : Progress) (ys : List B) (y : B) → each go xs s ≡ gives ys t → go x t ≡ gives y u → each go (xs ++ x ∷ []) s ≡ gives (ys ++ y ∷ []) u
one_more go xs x s t u ys y e f =
    last go xs x s ∙ ap (λ r. and_then r (λ zs v. and_then (go x v) (λ w q. gives (zs ++ w ∷ []) q))) e ∙ ap (λ r. and_then r (λ w q. gives (ys ++ w ∷ []) q)) f

store_append : (scrolled : ℕ → ℕ) (f g : Forest Element) → StoreOutputs scrolled f → StoreOutputs scrolled g → StoreOutputs scrolled (append f g)
store_append scrolled none g a b = b
store_append scrolled (tree h e kids rest) g a b = (a.0, a.1, store_append scrolled rest g a.2 b)

pub none_waiting : (phase : Phase) (ls : List WaitingList) → ls ≡ ls ++ waiting_in phase []
none_waiting first ls = no_more ls
none_waiting second ls = no_more ls

waiting_both : (phase : Phase) (xs ys : List WaitingList) → waiting_in phase (xs ++ ys) ≡ waiting_in phase xs ++ waiting_in phase ys
waiting_both first xs ys = refl
waiting_both second xs ys = refl

module _ (from : Basis) (pasts : Pasts) (phase : Phase) (left : ℕ) (values : List Value) (scrolled : ℕ → ℕ) (at : WalkPlace) where
  pub none_entered : (s : Progress) (t : Tree Element) (r : Tree RenderObject) (p : WalkPlans) → AreEntered from pasts phase left values scrolled at [] s s t r p p []
  none_entered s t r p = record { kids = none; is = refl; handles = refl; walked = nothing_walked phase t r scrolled at p; waiting = none_waiting phase p.waiting; stored = tt }

  pub more_entered : (arriving : List Arrival) (a : Arrival) (before mid after : Progress) (t u : Tree Element) (r s : Tree RenderObject) (old halfway new : WalkPlans) (hs : List Handle) (h : Handle)
      → ((k : Handle) (e : Element) → element_at t k ≡ Some e → element_at u k ≡ Some e) → ((k : Handle) (o : RenderObject) → object_at r k ≡ Some o → object_at s k ≡ Some o)
      → AreEntered from pasts phase left values scrolled at arriving before mid t r old halfway hs → IsEntered from pasts phase left values scrolled at a mid after u s halfway new h
      → AreEntered from pasts phase left values scrolled at (arriving ++ a ∷ []) before after u s old new (hs ++ h ∷ [])
  more_entered arriving a before mid after t u r s old halfway new hs h keeps also all one = record {
    kids = append all.kids (tree h one.value one.kids none);
    is = one_more (reenter from pasts phase left values) arriving a before mid after (nodes_of scrolled all.kids) _ all.is one.is
        ∙ ap (λ ns. gives ns after) (sym (nodes_append scrolled all.kids (tree h one.value one.kids none)));
    handles = ap (λ l. l ++ h ∷ []) all.handles ∙ sym (tops_append all.kids (tree h one.value one.kids none));
    walked = walked_both phase t u r s scrolled at old halfway new all.kids (tree h one.value one.kids none) keeps also all.walked one.walked;
    waiting =
        let v = one.value in
        let n = node v.number v.widget v.fields (scrolled v.number) v.index (listed (nodes_of scrolled one.kids)) in
        let whole : all_waiting_lists left values (listed (nodes_of scrolled (append all.kids (tree h v one.kids none))))
        ≡ all_waiting_lists left values (listed (nodes_of scrolled all.kids)) ++ waiting_lists left values n =
        ap (λ ns. all_waiting_lists left values (listed ns)) (nodes_append scrolled all.kids (tree h v one.kids none))
        ∙ lists_append left values (nodes_of scrolled all.kids) (n ∷ [])
        ∙ ap (λ l. all_waiting_lists left values (listed (nodes_of scrolled all.kids)) ++ l) (sym (no_more (waiting_lists left values n))) in
        added old.waiting halfway.waiting new.waiting _ _ _ all.waiting one.waiting
        (ap (waiting_in phase) whole ∙ waiting_both phase (all_waiting_lists left values (listed (nodes_of scrolled all.kids))) (waiting_lists left values n));
    stored = store_append scrolled all.kids (tree h one.value one.kids none) all.stored one.stored;
  }
