-- What a build knows of the nodes, and the index of their numbers, where nodes are marked or one is scrolled.
use Rattle.std.proofs.Common.{◌≡◌, ◌==◌, ℕ, Bool, true, false, ◌&&◌, cond, Option, Some, None, option_map, option_and_then, List, refl, ap, sym, ◌∙◌, inl, inr, eqb-true, eq-eqb}
use Rattle.std.proofs.lemmas.Bool.{cases_Bool, and_parts}
use Rattle.std.specs.BTreeMap.{BTreeMap, get}
use Rattle.std.specs.Ordering.{nat_cmp}
use Rattle.fx_handles.specs.declared.Handle.{Handle}
use Rattle.fx_handles.specs.Handle.{same}
use Rattle.fx_handles.specs.HandleLaws.{same-true, same-false}
use Rattle.fx_handles.specs.ArenaLaws.{same_Some}
use Rattle.node_tree.specs.Forest.{TreeNode, with_value_at}
use Rattle.node_tree.specs.Tree.{Tree, node_at}
use Rattle.render_tree.specs.Edits.{Writes, with_scroll}
use Rattle.render_tree.specs.Marked.{SetsMarks}
use Rattle.render_tree.specs.Marks.{layout_marks, paint_marks}
use Rattle.render_tree.specs.Object.{RenderObject, is_viewport}
use Rattle.render_tree.specs.Readings.{scroll_of}
use Rattle.render_tree.specs.Tree.{object_at}
use Rattle.render_sync.specs.Numbering.{IsNumbering, NumbersDiffer, number_at}
use Rattle.screen_owner.specs.Changes.{BuiltNode, built_node, SameBuilt, scrolled_to, Scrolls}

-- ---- marks

pub layouts_built : (also : Bool) (hs : List Handle) (old new : Tree RenderObject) → SetsMarks layout_marks also hs old new → SameBuilt old new
layouts_built also hs old new sets k = by_node (node_at old k) refl
  where
    by_node : (x : Option (TreeNode RenderObject)) → node_at old k ≡ x → option_map built_node (object_at new k) ≡ option_map built_node (object_at old k)
    by_node None e =
        ap (λ (y : Option (TreeNode RenderObject)). option_map built_node (option_map (λ (n : TreeNode RenderObject). n.value) y)) (sets.absent k e ∙ sym e)
    by_node (Some n) e =
        ap (λ (y : Option (TreeNode RenderObject)). option_map built_node (option_map (λ (n : TreeNode RenderObject). n.value) y)) (sets.only k n e).2
        ∙ sym (ap (λ (y : Option (TreeNode RenderObject)). option_map built_node (option_map (λ (n : TreeNode RenderObject). n.value) y)) e)

pub paints_built : (also : Bool) (hs : List Handle) (old new : Tree RenderObject) → SetsMarks paint_marks also hs old new → SameBuilt old new
paints_built also hs old new sets k = by_node (node_at old k) refl
  where
    by_node : (x : Option (TreeNode RenderObject)) → node_at old k ≡ x → option_map built_node (object_at new k) ≡ option_map built_node (object_at old k)
    by_node None e =
        ap (λ (y : Option (TreeNode RenderObject)). option_map built_node (option_map (λ (n : TreeNode RenderObject). n.value) y)) (sets.absent k e ∙ sym e)
    by_node (Some n) e =
        ap (λ (y : Option (TreeNode RenderObject)). option_map built_node (option_map (λ (n : TreeNode RenderObject). n.value) y)) (sets.only k n e).2
        ∙ sym (ap (λ (y : Option (TreeNode RenderObject)). option_map built_node (option_map (λ (n : TreeNode RenderObject). n.value) y)) e)

pub built_on : (old mid new : Tree RenderObject) → SameBuilt old mid → SameBuilt mid new → SameBuilt old new
built_on old mid new one two k = two k ∙ one k

-- ---- the index

number_read : (x : Option RenderObject) → option_map (λ (b : BuiltNode). b.number) (option_map built_node x) ≡ option_map (λ (o : RenderObject). o.number) x
number_read None = refl
number_read (Some o) = refl

pub same_numbers : (old new : Tree RenderObject) → SameBuilt old new → (k : Handle) → number_at new k ≡ number_at old k
same_numbers old new built k =
    sym (number_read (object_at new k)) ∙ (ap (option_map (λ (b : BuiltNode). b.number)) (built k) ∙ number_read (object_at old k))

pub numbering_same : (numbers : BTreeMap ℕ Handle) (old new : Tree RenderObject) → ((k : Handle) → number_at new k ≡ number_at old k) → IsNumbering numbers old → IsNumbering numbers new
numbering_same numbers old new same_number index = record {
  to_node = λ n h e. same_number h ∙ index.to_node n h e;
  to_index = λ n h e. index.to_index n h (sym (same_number h) ∙ e);
}

-- no two nodes have one number
pub index_differs : (numbers : BTreeMap ℕ Handle) (t : Tree RenderObject) → IsNumbering numbers t → NumbersDiffer t
index_differs numbers t index n h k there here = same_Some (sym (index.to_index n h there) ∙ index.to_index n k here)

pub differ_same : (old new : Tree RenderObject) → ((k : Handle) → number_at new k ≡ number_at old k) → NumbersDiffer old → NumbersDiffer new
differ_same old new same_number differ n h k there here = differ n h k (sym (same_number h) ∙ there) (sym (same_number k) ∙ here)

-- ---- a node is scrolled

node_scrolled : (number scroll : ℕ) (o : RenderObject) → (scrolled_to number scroll o).number ≡ o.number
node_scrolled number scroll o = elim (cases_Bool (o.number == number && is_viewport o)) [
  | inl e ↦ ap (λ (b : Bool). (cond b (with_scroll scroll o) o).number) e
  | inr e ↦ ap (λ (b : Bool). (cond b (with_scroll scroll o) o).number) e
]

pub scrolled_numbers : (number scroll : ℕ) (old new : Tree RenderObject) → Scrolls number scroll old new → (k : Handle) → number_at new k ≡ number_at old k
scrolled_numbers number scroll old new scrolls k =
    sym (number_read (object_at new k)) ∙ (ap (option_map (λ (b : BuiltNode). b.number)) (scrolls k) ∙ by_node (object_at old k))
  where
    by_node : (x : Option RenderObject) → option_map (λ (b : BuiltNode). b.number) (option_map (λ (o : RenderObject). built_node (scrolled_to number scroll o)) x) ≡ option_map (λ (o : RenderObject). o.number) x
    by_node None = refl
    by_node (Some o) = ap Some (node_scrolled number scroll o)

-- one that doesn't have the number, or is no Viewport, stays
stays : (number scroll : ℕ) (o : RenderObject) → (o.number ≡ number → is_viewport o ≡ true → ⊥) → scrolled_to number scroll o ≡ o
stays number scroll o other = elim (cases_Bool (o.number == number && is_viewport o)) [
  | inl e ↦ absurd (let two = and_parts (o.number == number) (is_viewport o) e in other (eqb-true o.number number two.0) two.1)
  | inr e ↦ ap (λ (b : Bool). cond b (with_scroll scroll o) o) e
]

module _ (numbers : BTreeMap ℕ Handle) (t : Tree RenderObject) (index : IsNumbering numbers t) (number scroll : ℕ) where
  -- a node with the number is the one in the index
  found : (k : Handle) (o : RenderObject) → object_at t k ≡ Some o → o.number ≡ number → get nat_cmp numbers number ≡ Some k
  found k o at is = index.to_index number k (ap (option_map (λ (x : RenderObject). x.number)) at ∙ ap Some is)

  all_stay : ((k : Handle) (o : RenderObject) → object_at t k ≡ Some o → o.number ≡ number → is_viewport o ≡ true → ⊥) → Scrolls number scroll t t
  all_stay others k = by_node (object_at t k) refl
    where
      by_node : (x : Option RenderObject) → object_at t k ≡ x → option_map built_node x ≡ option_map (λ (o : RenderObject). built_node (scrolled_to number scroll o)) x
      by_node None e = refl
      by_node (Some o) e = ap (λ (y : RenderObject). Some (built_node y)) (sym (stays number scroll o (others k o e)))

  pub scrolls_none : get nat_cmp numbers number ≡ None → Scrolls number scroll t t
  scrolls_none none = all_stay (λ k o at is view. some_none k (sym (found k o at is) ∙ none))
    where
      some_none : (k : Handle) → Some k ≡ None → ⊥
      some_none k e = cc

  pub scrolls_other : (h : Handle) → get nat_cmp numbers number ≡ Some h → option_and_then scroll_of (object_at t h) ≡ None → Scrolls number scroll t t
  scrolls_other h there still = all_stay (λ k o at is view.
      no_view o view (sym (ap (option_and_then scroll_of) (sym (ap (object_at t) (same_Some (sym (found k o at is) ∙ there))) ∙ at)) ∙ still))
    where
      no_view : (o : RenderObject) → is_viewport o ≡ true → scroll_of o ≡ None → ⊥
      no_view o view none = some_none o.scroll (sym (ap (λ (b : Bool). cond b (Some o.scroll) None) view) ∙ none)
        where
          some_none : (n : ℕ) → Some n ≡ None → ⊥
          some_none n e = cc

  module _ (mid new : Tree RenderObject) (h : Handle) (o : RenderObject) (there : get nat_cmp numbers number ≡ Some h) (at : object_at t h ≡ Some o) (view : is_viewport o ≡ true)
      (writes : Writes t mid h (with_scroll scroll o)) (built : SameBuilt mid new) where
    is_number : o.number ≡ number
    is_number = same_Some (sym (ap (option_map (λ (x : RenderObject). x.number)) at) ∙ index.to_node number h there)

    node_here : (k : Handle) (n : TreeNode RenderObject) → node_at t k ≡ Some n
        → built_node (with_value_at h (with_scroll scroll o) k n).value ≡ built_node (scrolled_to number scroll n.value)
    node_here k n e = elim (cases_Bool (same k h)) [
      | inl s ↦
          let value : n.value ≡ o = same_Some (sym (ap (option_map (λ (x : TreeNode RenderObject). x.value)) (sym (ap (node_at t) (same-true k h s)) ∙ e)) ∙ at) in
          ap (λ (b : Bool). built_node (cond b (record n { value = with_scroll scroll o }) n).value) s
          ∙ (sym (ap (λ (b : Bool). built_node (cond b (with_scroll scroll o) o)) (ap (λ (b : Bool). b && is_viewport o) (eq-eqb o.number number is_number) ∙ view))
          ∙ ap (λ (x : RenderObject). built_node (scrolled_to number scroll x)) (sym value))
      | inr s ↦
          ap (λ (b : Bool). built_node (cond b (record n { value = with_scroll scroll o }) n).value) s
          ∙ ap built_node (sym (stays number scroll n.value (λ is is_view.
          same-false k h s (same_Some (sym (found k n.value (ap (option_map (λ (x : TreeNode RenderObject). x.value)) e) is) ∙ there)))))
    ]

    pub scrolls_write : Scrolls number scroll t new
    scrolls_write k =
        built k ∙ (ap (λ (x : Option (TreeNode RenderObject)). option_map built_node (option_map (λ (n : TreeNode RenderObject). n.value) x)) (writes.writes.nodes k) ∙ by_node (node_at t k) refl)
      where
        by_node : (x : Option (TreeNode RenderObject)) → node_at t k ≡ x
            → option_map built_node (option_map (λ (n : TreeNode RenderObject). n.value) (option_map (with_value_at h (with_scroll scroll o) k) x))
            ≡ option_map (λ (y : RenderObject). built_node (scrolled_to number scroll y)) (option_map (λ (n : TreeNode RenderObject). n.value) x)
        by_node None e = refl
        by_node (Some n) e = ap Some (node_here k n e)

-- a node keeps its number where it is scrolled
pub number_written : (old mid : Tree RenderObject) (h : Handle) (o : RenderObject) (scroll : ℕ) → object_at old h ≡ Some o → Writes old mid h (with_scroll scroll o) → (k : Handle) → number_at mid k ≡ number_at old k
number_written old mid h o scroll at writes k =
    ap (λ (x : Option (TreeNode RenderObject)). option_map (λ (y : RenderObject). y.number) (option_map (λ (n : TreeNode RenderObject). n.value) x)) (writes.writes.nodes k) ∙ by_node (node_at old k) refl
  where
    by_same : (n : TreeNode RenderObject) → node_at old k ≡ Some n → (b : Bool) → same k h ≡ b → (cond b (record n { value = with_scroll scroll o }) n).value.number ≡ n.value.number
    by_same n e false s = refl
    by_same n e true s =
        ap (λ (x : RenderObject). x.number) (same_Some (sym at ∙ (ap (λ (x : Handle). option_map (λ (n : TreeNode RenderObject). n.value) (node_at old x)) (sym (same-true k h s)) ∙ ap (option_map (λ (n : TreeNode RenderObject). n.value)) e)))

    by_node : (x : Option (TreeNode RenderObject)) → node_at old k ≡ x
        → option_map (λ (y : RenderObject). y.number) (option_map (λ (n : TreeNode RenderObject). n.value) (option_map (with_value_at h (with_scroll scroll o) k) x))
        ≡ option_map (λ (y : RenderObject). y.number) (option_map (λ (n : TreeNode RenderObject). n.value) x)
    by_node None e = refl
    by_node (Some n) e = ap Some (by_same n e (same k h) refl)
