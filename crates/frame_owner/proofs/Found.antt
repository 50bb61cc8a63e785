-- The element with a number, and the node with it.
use Rattle.std.proofs.Common.{◌≡◌, ℕ, refl, sym, ◌∙◌, Option, Some, None, option_map}
use Rattle.fx_handles.specs.declared.Handle.{Handle}
use Rattle.node_tree.specs.Tree.{Tree}
use Rattle.element_tree.specs.Element.{Element, element_at, number_at}
use Rattle.plain_tree.specs.PlainNode.{PlainNode}

-- the element at a handle that has a number
pub record ElementWith (t : Tree Element) (h : Handle) (number : ℕ) : Type 0 where
  pub element : Element
  pub is : element_at t h ≡ Some element
  pub number_is : element.number ≡ number

pub element_with : (t : Tree Element) (h : Handle) (number : ℕ) → number_at t h ≡ Some number → ElementWith t h number
element_with t h number e = by_element (element_at t h) refl e
  where
    same_number : (a b : ℕ) → Some a ≡ Some b → a ≡ b
    same_number a b e = cc

    none_some : None ≡ Some number → ⊥
    none_some e = cc

    by_element : (o : Option Element) → element_at t h ≡ o → option_map (λ (x : Element). x.number) o ≡ Some number → ElementWith t h number
    by_element None is e = absurd (none_some e)
    by_element (Some x) is e = record { element = x; is = is; number_is = same_number x.number number e }

pub same_node : (a b : PlainNode) → Some a ≡ Some b → a ≡ b
same_node a b e = cc

-- no handle, where some handle is found only if it has the number
pub none_found : (t : Tree Element) (number : ℕ) (o : Option Handle) → o ≡ None → ((h : Handle) → number_at t h ≡ Some number → o ≡ Some h) → (h : Handle) → number_at t h ≡ Some number → ⊥
none_found t number o none found h e = none_some h (sym none ∙ found h e)
  where
    none_some : (h : Handle) → None ≡ Some h → ⊥
    none_some h e = cc

pub some_none : (n : PlainNode) → Some n ≡ None → ⊥
some_none n e = cc
