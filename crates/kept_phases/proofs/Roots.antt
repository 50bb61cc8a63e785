-- A tree is one forest, and where nothing stands beside the root's tree it is that.
use Rattle.std.proofs.Common.{◌≡◌, ap, refl, sym, subst, ◌∙◌, ℕ, ◌+◌, Option, Some, None, List, [], ◌∷◌, ◌++◌, arith}
use Rattle.std.proofs.lemmas.List.{append-nil}
use Rattle.std.specs.Option.{option_to_list}
use Rattle.fx_handles.specs.declared.Handle.{Handle}
use Rattle.node_tree.specs.Forest.{Forest, tops, Stands, plain, size}
use Rattle.node_tree.specs.Forest.Forest.{none, tree}
use Rattle.node_tree.specs.Tree.{Tree, Is, node_at, parent_of, subtree_at}
use Rattle.node_tree.proofs.ForestLemmas.{plain_is}
use Rattle.node_tree.proofs.TreeLemmas.{subtree_is}
use Rattle.render_tree.specs.Object.{RenderObject}
use Rattle.render_tree.specs.Plain.{root_below, root_tree}

pub same_forest : (t : Tree RenderObject) (f g : Forest RenderObject) → Is t f → Is t g → f ≡ g
same_forest t f g one two =
    let n : ℕ = size f + size g in
    sym (plain_is (node_at t) None f n one.stands (omega arith)) ∙ (ap (plain n (node_at t)) (sym one.tops ∙ two.tops) ∙ plain_is (node_at t) None g n two.stands (omega arith))

head_of : (r h : Handle) (hs : List Handle) → r ∷ [] ≡ h ∷ hs → r ≡ h
head_of r h hs e = cc

rest_of : (r h : Handle) (hs : List Handle) → r ∷ [] ≡ h ∷ hs → hs ≡ []
rest_of r h hs e = cc

none_one : (h : Handle) (hs : List Handle) → [] ≡ h ∷ hs → ⊥
none_one h hs e = cc

pub root_forest : (t : Tree RenderObject) (f : Forest RenderObject) → t.inactive ≡ [] → Is t f → root_tree t ≡ f
root_forest t f alone is = by_root t.root refl f is
  where
    tops_are : (root : Option Handle) → t.root ≡ root → (f : Forest RenderObject) → Is t f → option_to_list root ≡ tops f
    tops_are root e f is = sym (append-nil (option_to_list root)) ∙ (ap (λ (hs : List Handle). option_to_list root ++ hs) (sym alone) ∙ (ap (λ (o : Option Handle). option_to_list o ++ t.inactive) (sym e) ∙ is.tops))

    by_root : (root : Option Handle) → t.root ≡ root → (f : Forest RenderObject) → Is t f → root_tree t ≡ f
    by_root None e none is = ap (root_below t) e
    by_root None e (tree h o below rest) is = absurd (none_one h (tops rest) (tops_are None e (tree h o below rest) is))
    by_root (Some r) e none is = absurd (none_one r [] (sym (tops_are (Some r) e none is)))
    by_root (Some r) e (tree h o below (tree k v kids rest)) is =
        absurd (none_one k (tops rest) (sym (rest_of r h (k ∷ tops rest) (tops_are (Some r) e (tree h o below (tree k v kids rest)) is))))
    by_root (Some r) e (tree h o below none) is =
        let same_top = head_of r h [] (tops_are (Some r) e (tree h o below none) is) in
        ap (root_below t) e ∙ (ap (subtree_at t) same_top ∙ subtree_is t h (tree h o below none) (record {
          top = refl;
          stands = subst (λ (p : Option Handle). Stands (node_at t) p (tree h o below none)) (sym (ap parent_of is.stands.0)) is.stands;
          distinct = is.distinct;
        }))
