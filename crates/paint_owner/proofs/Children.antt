-- A node's children in the window, one after another.
use Rattle.std.proofs.Common.{◌≡◌, ℕ, ◌+◌, ◌<◌, ◌≤◌, Bool, true, false, if◌then◌else◌, Some, None, List, length, get_or, refl, sym, ap, ◌∙◌, arith}
use Rattle.fx_handles.specs.declared.Handle.{Handle}
use Rattle.node_tree.specs.Forest.{Forest, below, skip, tops}
use Rattle.node_tree.specs.Forest.Forest.{none, tree}
use Rattle.node_tree.specs.Tree.{Tree, subtree_at, children_at, value_at}
use Rattle.node_tree.specs.Children.{Nth}
use Rattle.node_tree.proofs.ForestLemmas.{same_Some}
use Rattle.plain_tree.specs.Laid.{laid, more_laids}
use Rattle.screen_form.specs.Painted.{has_child}
use Rattle.render_tree.specs.Object.{RenderObject, object_look}
use Rattle.render_tree.specs.Plain.{laids_of, offset_or, facts_of}
use Rattle.render_tree.specs.Readings.{shown_of}

-- whether some tree of a forest is in the window, from its first tree on
pub first_shown : (h : Handle) (o : RenderObject) (kids rest : Forest RenderObject) → has_child (laids_of (tree h o kids rest)) ≡ (if o.shown then true else has_child (laids_of rest))
first_shown h o kids rest = by_shown o.shown
  where
    by_shown : (b : Bool) → has_child (if b then more_laids (offset_or o.offset) (laid o.number (object_look o) (facts_of o) (laids_of kids)) (laids_of rest) else laids_of rest)
        ≡ (if b then true else has_child (laids_of rest))
    by_shown true = refl
    by_shown false = refl

abbrev pub zero_handle : Handle
zero_handle = record { index = 0; generation = 0 }

-- a node of which something is stored isn't one without
pub never_none : (o : RenderObject) → None ≡ Some o → ⊥
never_none o e = cc

-- the trees of a forest, one after another
abbrev pub Trees : Tree RenderObject → Handle → Type 0
Trees t h = (i : ℕ) (z : Handle) → i < length (children_at t h) → Nth t (below (subtree_at t h)) i (get_or (children_at t h) i z)

-- child number i of a list that is the node's children
pub nth_of : (t : Tree RenderObject) (h : Handle) (cs : List Handle) (i : ℕ) → Trees t h → cs ≡ children_at t h → i < length cs
    → Nth t (below (subtree_at t h)) i (get_or cs i zero_handle)
nth_of t h cs i trees value within =
    rw value (trees i zero_handle (omega (arith, within, ap length value)))

-- the same child, with what was read of it
abbrev pub nth_with : (t : Tree RenderObject) (f : Forest RenderObject) (i : ℕ) (c : Handle) → Nth t f i c → (o : RenderObject) → value_at t c ≡ Some o → Nth t f i c
nth_with t f i c n o stored = record {
  value = o;
  kids = n.kids;
  skips = n.skips ∙ ap (λ (v : RenderObject). tree c v n.kids (skip (i + 1) f)) (same_Some (sym n.value_is ∙ stored));
  value_is = stored;
  subtree = n.subtree ∙ ap (λ (v : RenderObject). tree c v n.kids none) (same_Some (sym n.value_is ∙ stored));
  holds = n.holds;
}

pub none_left : (t : Tree RenderObject) (h : Handle) (cs : List Handle) (i : ℕ)
    → ((j : ℕ) (f : Forest RenderObject) → length (tops f) ≤ j → skip j f ≡ none) → tops (below (subtree_at t h)) ≡ children_at t h
    → cs ≡ children_at t h → length cs ≤ i → skip i (below (subtree_at t h)) ≡ none
none_left t h cs i all listed value past = all i (below (subtree_at t h)) (omega (arith, past, ap length listed, ap length value))

module _ (t : Tree RenderObject) (f : Forest RenderObject) (i : ℕ) (c : Handle) (n : Nth t f i c) (shown : Bool) (is_shown : shown ≡ shown_of (value_at t c)) where
  here : shown ≡ n.value.shown
  here = is_shown ∙ ap shown_of n.value_is

  at_child : has_child (laids_of (skip i f)) ≡ (if shown then true else has_child (laids_of (skip (i + 1) f)))
  at_child =
      ap (λ g. has_child (laids_of g)) n.skips ∙ first_shown c n.value n.kids (skip (i + 1) f)
      ∙ ap (λ b. if b then true else has_child (laids_of (skip (i + 1) f))) (sym here)

  -- a child in the window is found, and another one is passed by
  pub found : (whole : Bool) → shown ≡ true → has_child (laids_of (skip i f)) ≡ whole → true ≡ whole
  found whole is so_far = sym (at_child ∙ ap (λ b. if b then true else has_child (laids_of (skip (i + 1) f))) is) ∙ so_far

  pub passed : (whole : Bool) → shown ≡ false → has_child (laids_of (skip i f)) ≡ whole → has_child (laids_of (skip (i + 1) f)) ≡ whole
  passed whole isnt so_far = sym (at_child ∙ ap (λ b. if b then true else has_child (laids_of (skip (i + 1) f))) isnt) ∙ so_far
