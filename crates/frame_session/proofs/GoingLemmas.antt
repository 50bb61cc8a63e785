-- What is found of a number in the render nodes of the last frame.
use Rattle.std.proofs.Common.{◌≡◌, ℕ, ◌<◌, ◌≤◌, Bool, false, cond, Option, Some, None, IfSome, option_and_then, List, [], ◌∷◌, ◌++◌, ◌⊎◌, refl, sym, ap, subst, ◌∙◌, inl, inr, arith}
use Rattle.widget_model.specs.Look.{Look, flexible, positioned, keep, inherit, component}
use Rattle.widget_model.specs.Plain.{PlainWidget, look_of}
use Rattle.widget_model.specs.WidgetType.{type_of}
use Rattle.plain_tree.specs.declared.role.RenderRole.TheVariants.{Plain}
use Rattle.plain_tree.specs.At.{numbers_of, numbers_in, node_at}
use Rattle.plain_tree.specs.PlainNode.{PlainNode, node, PlainNodes, no_nodes, more_nodes, widget_of, scroll_of}
use Rattle.plain_tree.specs.Projection.{render_of, scroll_in}
use Rattle.plain_tree.specs.Render.{renders_of}
use Rattle.plain_tree.specs.RenderRole.{render_role_of, vanishes}
use Rattle.plain_tree.proofs.Numbers.{IsIn}
use Rattle.build_form.specs.Laws.{NumbersAre, AllNumbersAre}
use Rattle.build_form.specs.Numbered.{IsNumbered}
use Rattle.screen_owner.specs.Last.{drawn_in}
use Rattle.frame_owner.specs.Nodes.{drawn_of}
use Rattle.frame_owner.proofs.Finding.{drawn_part, drawn_in_tree, none_drawn}

-- ---- kinds of one type

looks_vanish : (a b : Look) → type_of a ≡ type_of b → vanishes (render_role_of a) ≡ vanishes (render_role_of b)
looks_vanish (flexible a0 a1) (flexible b0 b1) same = refl
looks_vanish (positioned a0 a1 a2 a3 a4 a5) (positioned b0 b1 b2 b3 b4 b5) same = refl
looks_vanish (keep a0) (keep b0) same = refl
looks_vanish (inherit a0 a1) (inherit b0 b1) same = refl
looks_vanish (component a0 a1 a2) (component b0 b1 b2) same = refl
looks_vanish (flexible a0 a1) b same = cc
looks_vanish a (flexible b0 b1) same = cc
looks_vanish (positioned a0 a1 a2 a3 a4 a5) b same = cc
looks_vanish a (positioned b0 b1 b2 b3 b4 b5) same = cc
looks_vanish (keep a0) b same = cc
looks_vanish a (keep b0) same = cc
looks_vanish (inherit a0 a1) b same = cc
looks_vanish a (inherit b0 b1) same = cc
looks_vanish (component a0 a1 a2) b same = cc
looks_vanish a (component b0 b1 b2) same = cc
looks_vanish a b same = refl

-- ---- the numbers of an old tree are below the next

in_two : (w : ℕ) (xs ys : List ℕ) → IsIn w (xs ++ ys) → IsIn w xs ⊎ IsIn w ys
in_two w [] ys h = inr h
in_two w (x ∷ xs) ys (inl h) = inl (inl h)
in_two w (x ∷ xs) ys (inr h) = elim (in_two w xs ys h) [
  | inl first ↦ inl (inr first)
  | inr later ↦ inr later
]

mutual
  number_is : (P : ℕ → Type 0) (w : ℕ) (n : PlainNode) → NumbersAre P n → IsIn w (numbers_of n) → P w
  number_is P w (node number widget fields scroll index children) h (inl is) = subst P (sym is) h.0
  number_is P w (node number widget fields scroll index children) h (inr there) = numbers_are P w children h.1 there

  numbers_are : (P : ℕ → Type 0) (w : ℕ) (ns : PlainNodes) → AllNumbersAre P ns → IsIn w (numbers_in ns) → P w
  numbers_are P w no_nodes h there = absurd there
  numbers_are P w (more_nodes n ns) h there = elim (in_two w (numbers_of n) (numbers_in ns) there) [
    | inl first ↦ number_is P w n h.0 first
    | inr later ↦ numbers_are P w ns h.1 later
  ]

-- ---- one number

module _ (next : ℕ) where
  -- what is found of a node that was there
  pub was_drawn : (old was : PlainNode) (number : ℕ) (widget : PlainWidget) → IsNumbered next old → node_at number old ≡ Some was → vanishes (render_role_of (look_of widget)) ≡ false
      → type_of (look_of (widget_of was)) ≡ type_of (look_of widget)
      → drawn_in number (renders_of (render_of old))
      ≡ Some (record { look = look_of (widget_of was); scroll = scroll_in (render_role_of (look_of (widget_of was))) (scroll_of was) })
  was_drawn old (node own w fields scroll index children) number widget numbered there shows type =
      drawn_in_tree number Plain None old numbered.differ
      ∙ (ap (option_and_then drawn_part) there
      ∙ ap (λ (v : Bool). cond v None (Some (record { look = look_of w; scroll = scroll_in (render_role_of (look_of w)) scroll })))
      (looks_vanish (look_of w) (look_of widget) type ∙ shows))

  -- and of a number that was free
  pub free_drawn : (old : Option PlainNode) (number : ℕ) → IfSome old (IsNumbered next) → next ≤ number → drawn_in number (drawn_of old) ≡ None
  free_drawn None number numbered free = refl
  free_drawn (Some old) number numbered free =
      none_drawn number Plain None old (λ there. let less = number_is (λ (n : ℕ). n < next) number old numbered.below there in omega (arith, less, free))
