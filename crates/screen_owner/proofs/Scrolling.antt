-- Where all numbers differ, a flush leaves each Viewport where the laid tree says by its number.
use Rattle.std.proofs.Common.{◌≡◌, refl, sym, ap, ◌∙◌, subst, ℕ, ◌==◌, Bool, true, false, cond, if◌then◌else◌, inl, inr, Option, Some, None, List, ◌∷◌, ◌++◌, eqb-true, eq-eqb}
use Rattle.std.specs.Option.{option_or}
use Rattle.fx_handles.specs.declared.Handle.{Handle}
use Rattle.node_tree.specs.Forest.{Forest}
use Rattle.node_tree.specs.Forest.Forest.{none, tree}
use Rattle.widget_model.specs.Look.{Look}
use Rattle.plain_tree.specs.declared.role.RenderRole.{RenderRole}
use Rattle.plain_tree.specs.declared.role.RenderRole.TheVariants.{Composes, Shares, Places, Line, Pile, Lazy, Window, Plain}
use Rattle.plain_tree.specs.Laid.{laid, Laids, more_laids}
use Rattle.plain_tree.specs.Laws.{render_numbers_in, AllDiffer}
use Rattle.plain_tree.specs.Offsets.{of_window, offset_in, rescrolled}
use Rattle.plain_tree.specs.Render.{Render, render, Renders, no_renders, more_renders}
use Rattle.plain_tree.specs.RenderRole.{render_role_of}
use Rattle.plain_tree.proofs.Numbers.{IsIn, in_left, in_right, differs, apart, differ_left, differ_right}
use Rattle.layout_form.specs.Corrected.{render_scrolled_by, renders_scrolled_by}
use Rattle.layout_walk.specs.Node.{LayoutNode, NodeMember, member, renders_in, facts_with, frame_or, offset_or}
use Rattle.layout_walk.specs.Full.{shown_trees}
use Rattle.layout_walk.specs.Offsets.{ScrolledIf, AreScrolled}

-- ---- roles

by_window : (role : RenderRole) (scrolled before : ℕ) → rescrolled role (of_window role scrolled) before ≡ rescrolled role (Some scrolled) before
by_window Window scrolled before = refl
by_window Composes scrolled before = refl
by_window (Shares flex tight) scrolled before = refl
by_window (Places placed) scrolled before = refl
by_window Line scrolled before = refl
by_window Pile scrolled before = refl
by_window Lazy scrolled before = refl
by_window Plain scrolled before = refl

pub by_nothing : (role : RenderRole) (before : ℕ) → rescrolled role None before ≡ before
by_nothing Window before = refl
by_nothing Composes before = refl
by_nothing (Shares flex tight) before = refl
by_nothing (Places placed) before = refl
by_nothing Line before = refl
by_nothing Pile before = refl
by_nothing Lazy before = refl
by_nothing Plain before = refl

-- ---- where an offset is found

first_alone : (a : Option ℕ) → option_or a None ≡ a
first_alone (Some x) = refl
first_alone None = refl

at_other : (m k : ℕ) (o : Option ℕ) → (m ≡ k → ⊥) → (if m == k then o else None) ≡ None
at_other m k o other = by_test (m == k) refl
  where
    by_test : (t : Bool) → (m == k) ≡ t → cond {A = Option ℕ} t o None ≡ None
    by_test true e = absurd (other (eqb-true m k e))
    by_test false e = refl

at_own : (m : ℕ) (o : Option ℕ) → (if m == m then o else None) ≡ o
at_own m o = ap (λ (t : Bool). cond {A = Option ℕ} t o None) (eq-eqb m m refl)

-- the offset at the root of a laid tree, and below it
abbrev own : LayoutNode → ℕ → Option ℕ
own w n = if w.number == n then of_window (render_role_of w.look) w.scrolled else None

abbrev tree_offset : LayoutNode → Laids → ℕ → Option ℕ
tree_offset w ls n = option_or (offset_in n ls) (own w n)

abbrev head_offset : Bool → LayoutNode → Laids → Laids → ℕ → Option ℕ
head_offset true w inside after n = option_or (offset_in n after) (tree_offset w inside n)
head_offset false w inside after n = offset_in n after

head_is : (w : LayoutNode) (below rest : Forest LayoutNode) (k : Handle) (n : ℕ) (b : Bool) → w.shown ≡ b → offset_in n (shown_trees (tree k w below rest)) ≡ head_offset b w (shown_trees below) (shown_trees rest) n
unfolding shown_trees
head_is w below rest k n true e =
    ap (λ (b : Bool). offset_in n (cond {A = Laids} b (more_laids (offset_or w.offset) (laid w.number w.look (facts_with w (frame_or w.frame)) (shown_trees below)) (shown_trees rest)) (shown_trees rest))) e
head_is w below rest k n false e =
    ap (λ (b : Bool). offset_in n (cond {A = Laids} b (more_laids (offset_or w.offset) (laid w.number w.look (facts_with w (frame_or w.frame)) (shown_trees below)) (shown_trees rest)) (shown_trees rest))) e

-- a number that no node has has no offset
abbrev head_numbers : LayoutNode → Forest LayoutNode → List ℕ
head_numbers w below = w.number ∷ render_numbers_in (renders_in below)

no_tree_offset : (w : LayoutNode) (inside : Laids) (n : ℕ) → offset_in n inside ≡ None → (n ≡ w.number → ⊥) → tree_offset w inside n ≡ None
no_tree_offset w inside n none_inside other = ap (λ (o : Option ℕ). option_or o (own w n)) none_inside ∙ at_other w.number n (of_window (render_role_of w.look) w.scrolled) (λ e. other (sym e))

no_offset : (n : ℕ) (g : Forest LayoutNode) → (IsIn n (render_numbers_in (renders_in g)) → ⊥) → offset_in n (shown_trees g) ≡ None
unfolding shown_trees
no_offset n none away = refl
no_offset n (tree k w below rest) away =
    let inside = no_offset n below (λ h. away (inr (in_left n (render_numbers_in (renders_in below)) (render_numbers_in (renders_in rest)) h))) in
    let after = no_offset n rest (λ h. away (in_right n (head_numbers w below) (render_numbers_in (renders_in rest)) h)) in
    by_shown w.shown refl inside after
  where
    by_shown : (b : Bool) → w.shown ≡ b → offset_in n (shown_trees below) ≡ None → offset_in n (shown_trees rest) ≡ None → offset_in n (shown_trees (tree k w below rest)) ≡ None
    by_shown true e inside after =
        head_is w below rest k n true e
        ∙ (ap (λ (o : Option ℕ). option_or o (tree_offset w (shown_trees below) n)) after ∙ no_tree_offset w (shown_trees below) n inside (λ is. away (inl is)))
    by_shown false e inside after = head_is w below rest k n false e ∙ after

-- ---- what isn't laid stays

unscrolled : (off : ℕ → Option ℕ) (rs : Renders) → ((n : ℕ) → IsIn n (render_numbers_in rs) → off n ≡ None) → renders_scrolled_by off rs ≡ rs
unscrolled off no_renders nowhere = refl
unscrolled off (more_renders (render number look told scroll count children) rs) nowhere =
    λ i. more_renders
    (render number look told ((ap (λ (o : Option ℕ). rescrolled (render_role_of look) o scroll) (nowhere number (inl refl)) ∙ by_nothing (render_role_of look) scroll) i) count
    (unscrolled off children (λ n h. nowhere n (inr (in_left n (render_numbers_in children) (render_numbers_in rs) h))) i))
    (unscrolled off rs (λ n h. nowhere n (in_right n (number ∷ render_numbers_in children) (render_numbers_in rs) h)) i)

-- ---- a flush corrects as the laid tree says

abbrev drawn : NodeMember → ℕ → Renders → Render
drawn m scroll rs = render m.number m.look m.told scroll m.count rs

module _ (off : ℕ → Option ℕ) where
  -- the offset of a number is that of a forest that was laid out
  abbrev Agrees : Forest LayoutNode → Type 0
  Agrees g = (n : ℕ) → IsIn n (render_numbers_in (renders_in g)) → off n ≡ offset_in n (shown_trees g)

  module _ (k : Handle) (w : LayoutNode) (below rest : Forest LayoutNode) (differ : AllDiffer (render_numbers_in (renders_in (tree k w below rest)))) (agree : Agrees (tree k w below rest)) where
    abbrev inner : List ℕ
    inner = render_numbers_in (renders_in below)

    abbrev outer : List ℕ
    outer = render_numbers_in (renders_in rest)

    agree_at : (n : ℕ) → IsIn n (head_numbers w below) → (b : Bool) → w.shown ≡ b → off n ≡ head_offset b w (shown_trees below) (shown_trees rest) n
    agree_at n there b e = agree n (in_left n (head_numbers w below) outer there) ∙ head_is w below rest k n b e

    after_none : (n : ℕ) → IsIn n (head_numbers w below) → offset_in n (shown_trees rest) ≡ None
    after_none n there = no_offset n rest (apart n (head_numbers w below) outer differ there)

    here_agrees : w.shown ≡ true → off w.number ≡ of_window (render_role_of w.look) w.scrolled
    here_agrees e =
        agree_at w.number (inl refl) true e
        ∙ (ap (λ (o : Option ℕ). option_or o (tree_offset w (shown_trees below) w.number)) (after_none w.number (inl refl))
        ∙ (ap (λ (o : Option ℕ). option_or o (own w w.number)) (no_offset w.number below (λ h. differs w.number w.number inner (differ_left (head_numbers w below) outer differ).0 h refl))
        ∙ at_own w.number (of_window (render_role_of w.look) w.scrolled)))

    below_agrees : w.shown ≡ true → Agrees below
    below_agrees e n there =
        agree_at n (inr there) true e
        ∙ (ap (λ (o : Option ℕ). option_or o (tree_offset w (shown_trees below) n)) (after_none n (inr there))
        ∙ (ap (λ (o : Option ℕ). option_or (offset_in n (shown_trees below)) o)
        (at_other w.number n (of_window (render_role_of w.look) w.scrolled) (differs w.number n inner (differ_left (head_numbers w below) outer differ).0 there))
        ∙ first_alone (offset_in n (shown_trees below))))

    hidden_none : w.shown ≡ false → (n : ℕ) → IsIn n (head_numbers w below) → off n ≡ None
    hidden_none e n there = agree_at n there false e ∙ after_none n there

    rest_agrees : Agrees rest
    rest_agrees n there = agree n (in_right n (head_numbers w below) outer there) ∙ by_shown w.shown refl
      where
        away : IsIn n (head_numbers w below) → ⊥
        away here = apart n (head_numbers w below) outer differ here there

        by_shown : (b : Bool) → w.shown ≡ b → offset_in n (shown_trees (tree k w below rest)) ≡ offset_in n (shown_trees rest)
        by_shown true e =
            head_is w below rest k n true e
            ∙ (ap (option_or (offset_in n (shown_trees rest)))
            (no_tree_offset w (shown_trees below) n (no_offset n below (λ h. away (inr h))) (λ is. away (inl is)))
            ∙ first_alone (offset_in n (shown_trees rest)))
        by_shown false e = head_is w below rest k n false e

  pub corrected_renders : (f g : Forest LayoutNode) → AreScrolled f g → AllDiffer (render_numbers_in (renders_in g)) → Agrees g → renders_in g ≡ renders_scrolled_by off (renders_in f)
  corrected_renders none none scrolled differ agree = refl
  corrected_renders none (tree k w below rest) scrolled differ agree = absurd scrolled
  corrected_renders (tree h v kids more) none scrolled differ agree = absurd scrolled
  corrected_renders (tree h v kids more) (tree k w below rest) scrolled differ agree =
      let head = by_shown w.shown refl scrolled.2
      (λ further e. corrected_renders kids below further (differ_left (head_numbers w below) (render_numbers_in (renders_in rest)) differ).1 (below_agrees k w below rest differ agree e)) in
      let after = corrected_renders more rest scrolled.3 (differ_right (head_numbers w below) (render_numbers_in (renders_in rest)) differ) (rest_agrees k w below rest differ agree) in
      λ i. more_renders (head i) (after i)
    where
      same : member v ≡ member w
      same = scrolled.1

      put : (scroll : ℕ) (rs : Renders) → w.scroll ≡ scroll → renders_in below ≡ rs
          → render w.number w.look w.told w.scroll w.count (renders_in below) ≡ render v.number v.look v.told scroll v.count rs
      put scroll rs e inner_is = λ i. drawn (sym same i) (e i) (inner_is i)

      by_shown : (b : Bool) → w.shown ≡ b → ScrolledIf b v kids w below (AreScrolled kids below) → (AreScrolled kids below → w.shown ≡ true → renders_in below ≡ renders_scrolled_by off (renders_in kids))
          → render w.number w.look w.told w.scroll w.count (renders_in below) ≡ render_scrolled_by off (render v.number v.look v.told v.scroll v.count (renders_in kids))
      by_shown true e s further =
          put (rescrolled (render_role_of v.look) (off v.number) v.scroll) (renders_scrolled_by off (renders_in kids))
          (s.0
          ∙ (ap (λ (l : Look). rescrolled (render_role_of l) (Some w.scrolled) v.scroll) (ap (λ (m : NodeMember). m.look) same)
          ∙ (sym (by_window (render_role_of w.look) w.scrolled v.scroll)
          ∙ (ap (λ (o : Option ℕ). rescrolled (render_role_of w.look) o v.scroll) (sym (here_agrees k w below rest differ agree e))
          ∙ (λ i. rescrolled (render_role_of (sym same i).look) (off (sym same i).number) v.scroll)))))
          (further s.1 e)
      by_shown false e s further =
          put (rescrolled (render_role_of v.look) (off v.number) v.scroll) (renders_scrolled_by off (renders_in kids))
          (s.0 ∙ sym (ap (λ (o : Option ℕ). rescrolled (render_role_of v.look) o v.scroll)
          (ap (λ (m : NodeMember). off m.number) same ∙ hidden_none k w below rest differ agree e w.number (inl refl)) ∙ by_nothing (render_role_of v.look) v.scroll))
          (s.1 ∙ sym (unscrolled off (renders_in kids) (λ n there.
          hidden_none k w below rest differ agree e n (inr (subst (λ (rs : Renders). IsIn n (render_numbers_in rs)) (sym s.1) there)))))

-- the numbers stay
pub numbers_scrolled : (f g : Forest LayoutNode) → AreScrolled f g → render_numbers_in (renders_in g) ≡ render_numbers_in (renders_in f)
numbers_scrolled none none scrolled = refl
numbers_scrolled none (tree k w below rest) scrolled = absurd scrolled
numbers_scrolled (tree h v kids more) none scrolled = absurd scrolled
numbers_scrolled (tree h v kids more) (tree k w below rest) scrolled =
    let inside = by_shown w.shown scrolled.2 (λ further. numbers_scrolled kids below further) in
    let after = numbers_scrolled more rest scrolled.3 in
    λ i. (sym (ap (λ (m : NodeMember). m.number) scrolled.1) i ∷ inside i) ++ after i
  where
    by_shown : (b : Bool) → ScrolledIf b v kids w below (AreScrolled kids below) → (AreScrolled kids below → render_numbers_in (renders_in below) ≡ render_numbers_in (renders_in kids))
        → render_numbers_in (renders_in below) ≡ render_numbers_in (renders_in kids)
    by_shown true s further = further s.1
    by_shown false s further = ap render_numbers_in s.1
