-- Where all numbers differ, each laid Viewport is found by its number, so that the offsets of a layout are those at which its
-- Viewports were laid out.
use Rattle.std.proofs.Common.{◌≡◌, refl, sym, ap, ◌∙◌, subst, ℕ, eqb, ◌==◌, Bool, true, false, cond, if◌then◌else◌, ◌⊎◌, inl, inr, Option, Some, None, List, [], ◌∷◌, ◌++◌}
use Rattle.std.specs.Option.{option_or}
use borrow.Author.Tests.{eqb-true, eqb-false}
use Rattle.plain_tree.specs.declared.role.RenderRole.{RenderRole}
use Rattle.plain_tree.specs.declared.role.RenderRole.TheVariants.{Composes, Shares, Places, Line, Pile, Lazy, Window, Plain}
use Rattle.plain_tree.specs.Laid.{Laid, laid, Laids, no_laids, more_laids}
use Rattle.plain_tree.specs.Laws.{render_numbers_of, render_numbers_in, laid_numbers_of, laid_numbers_in, IsLeftOf, DiffersFrom, AllDiffer}
use Rattle.plain_tree.specs.Offsets.{of_window, offset_at, offset_in, rescrolled}
use Rattle.plain_tree.specs.Render.{Render, render, Renders, no_renders, more_renders}
use Rattle.plain_tree.specs.RenderRole.{render_role_of}
use Rattle.plain_tree.proofs.Numbers.{IsIn, in_left, in_right, differs, apart, differ_left, differ_right, left_nothing, left_both, left_past, all_left}
use Rattle.layout_form.specs.Laws.{Lays, LaysSome}
use Rattle.layout_form.proofs.Again.{Tells, AllTell}

-- ---- numbers of lists that differ

-- what is left of numbers that differ
-- ---- the numbers of a laid tree are among those of its render tree

mutual
  lays_left : (r : Render) (l : Laid) → Lays r l → IsLeftOf (laid_numbers_of l) (render_numbers_of r)
  lays_left (render n look d o c rs) (laid m k facts ls) h =
      inr (laid_numbers_in ls, ap (λ x. x ∷ laid_numbers_in ls) h.0, some_left rs ls h.3)

  some_left : (rs : Renders) (ls : Laids) → LaysSome rs ls → IsLeftOf (laid_numbers_in ls) (render_numbers_in rs)
  some_left no_renders no_laids h = refl
  some_left no_renders (more_laids at l ls) h = absurd h
  some_left (more_renders r rs) no_laids h = left_nothing (render_numbers_of r ++ render_numbers_in rs)
  some_left (more_renders r rs) (more_laids at l ls) (inl h) =
      left_both (laid_numbers_of l) (render_numbers_of r) (laid_numbers_in ls) (render_numbers_in rs) (lays_left r l h.0) (some_left rs ls h.1)
  some_left (more_renders r rs) (more_laids at l ls) (inr h) =
      left_past (laid_numbers_of l ++ laid_numbers_in ls) (render_numbers_of r) (render_numbers_in rs) (some_left rs (more_laids at l ls) h)

pub laid_differ : (r : Render) (l : Laid) → Lays r l → AllDiffer (render_numbers_of r) → AllDiffer (laid_numbers_of l)
laid_differ r l lays d = all_left (laid_numbers_of l) (render_numbers_of r) (lays_left r l lays) d

-- ---- where an offset is found

first_alone : (a : Option ℕ) → option_or a None ≡ a
first_alone (Some x) = refl
first_alone None = refl

at_other : (m k : ℕ) (t : Bool) (o : Option ℕ) → eqb m k ≡ t → (m ≡ k → ⊥) → cond t o None ≡ None
at_other m k true o e not = absurd (not (eqb-true m k e))
at_other m k false o e not = refl

at_own : (m : ℕ) (t : Bool) (o : Option ℕ) → eqb m m ≡ t → cond t o None ≡ o
at_own m true o e = refl
at_own m false o e = absurd (eqb-false m m e refl)

mutual
  no_offset : (k : ℕ) (l : Laid) → (IsIn k (laid_numbers_of l) → ⊥) → offset_at k l ≡ None
  no_offset k (laid m look facts ls) not =
      ap (λ (o : Option ℕ). option_or o (if m == k then of_window (render_role_of look) facts.scrolled else None)) (no_offsets k ls (λ h. not (inr h)))
      ∙ at_other m k (eqb m k) (of_window (render_role_of look) facts.scrolled) refl (λ e. not (inl (sym e)))

  no_offsets : (k : ℕ) (ls : Laids) → (IsIn k (laid_numbers_in ls) → ⊥) → offset_in k ls ≡ None
  no_offsets k no_laids not = refl
  no_offsets k (more_laids at l ls) not =
      ap (λ (o : Option ℕ). option_or o (offset_at k l)) (no_offsets k ls (λ h. not (in_right k (laid_numbers_of l) (laid_numbers_in ls) h)))
      ∙ no_offset k l (λ h. not (in_left k (laid_numbers_of l) (laid_numbers_in ls) h))

-- the offset at the node itself, and at one below
offset_here : (m : ℕ) (ls : Laids) (o : Option ℕ) → AllDiffer (m ∷ laid_numbers_in ls) → option_or (offset_in m ls) (if m == m then o else None) ≡ o
offset_here m ls o d =
    ap (λ (x : Option ℕ). option_or x (if m == m then o else None)) (no_offsets m ls (λ h. differs m m (laid_numbers_in ls) d.0 h refl))
    ∙ at_own m (eqb m m) o refl

offset_below : (m k : ℕ) (ls : Laids) (o : Option ℕ) → AllDiffer (m ∷ laid_numbers_in ls) → IsIn k (laid_numbers_in ls)
    → option_or (offset_in k ls) (if m == k then o else None) ≡ offset_in k ls
offset_below m k ls o d h =
    ap (option_or (offset_in k ls)) (at_other m k (eqb m k) o refl (differs m k (laid_numbers_in ls) d.0 h))
    ∙ first_alone (offset_in k ls)

own_stays : (role : RenderRole) (scrolled : ℕ) → rescrolled role (of_window role scrolled) scrolled ≡ scrolled
own_stays Window scrolled = refl
own_stays Composes scrolled = refl
own_stays (Shares flex tight) scrolled = refl
own_stays (Places placed) scrolled = refl
own_stays Line scrolled = refl
own_stays Pile scrolled = refl
own_stays Lazy scrolled = refl
own_stays Plain scrolled = refl

module _ (f : ℕ → Option ℕ) where
  mutual
    tells : (l : Laid) → AllDiffer (laid_numbers_of l) → ((k : ℕ) → IsIn k (laid_numbers_of l) → f k ≡ offset_at k l) → Tells f l
    tells (laid m look facts ls) d agree = (
      ap (λ (o : Option ℕ). rescrolled (render_role_of look) o facts.scrolled)
          (agree m (inl refl) ∙ offset_here m ls (of_window (render_role_of look) facts.scrolled) d)
          ∙ own_stays (render_role_of look) facts.scrolled,
      all_tell ls d.1 (λ k h. agree k (inr h) ∙ offset_below m k ls (of_window (render_role_of look) facts.scrolled) d h),
    )

    all_tell : (ls : Laids) → AllDiffer (laid_numbers_in ls) → ((k : ℕ) → IsIn k (laid_numbers_in ls) → f k ≡ offset_in k ls) → AllTell f ls
    all_tell no_laids d agree = tt
    all_tell (more_laids at l ls) d agree = (
      tells l (differ_left (laid_numbers_of l) (laid_numbers_in ls) d)
          (λ k h. agree k (in_left k (laid_numbers_of l) (laid_numbers_in ls) h)
          ∙ ap (λ (o : Option ℕ). option_or o (offset_at k l)) (no_offsets k ls (apart k (laid_numbers_of l) (laid_numbers_in ls) d h))),
      all_tell ls (differ_right (laid_numbers_of l) (laid_numbers_in ls) d)
          (λ k h. agree k (in_right k (laid_numbers_of l) (laid_numbers_in ls) h)
          ∙ ap (option_or (offset_in k ls)) (no_offset k l (λ g. apart k (laid_numbers_of l) (laid_numbers_in ls) d g h))
          ∙ first_alone (offset_in k ls)),
    )

pub own_offsets : (l : Laid) → AllDiffer (laid_numbers_of l) → Tells (λ k. offset_at k l) l
own_offsets l d = tells (λ k. offset_at k l) l d (λ k h. refl)
