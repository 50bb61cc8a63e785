-- Which ids a semantics tree has.
use Rattle.std.proofs.Common.{◌≡◌, ℕ, Bool, ◌||◌, true, false, List, [], ◌∷◌, ◌++◌, refl, sym, ap, ◌∙◌, subst, inl, inr, if◌then◌else◌}
use Rattle.std.proofs.lemmas.List.{append_assoc, append-nil}
use Rattle.fx_geom.specs.declared.shapes.Offset.{Offset}
use Rattle.fx_geom.specs.declared.shapes.Rect.{Rect}
use Rattle.fx_geom.specs.Offset.{offset_sum, origin}
use Rattle.plain_tree.specs.Laid.{Laid, laid, Laids, no_laids, more_laids}
use Rattle.plain_tree.specs.Laws.{laid_numbers_of, laid_numbers_in, IsLeftOf, AllDiffer}
use Rattle.plain_tree.specs.Shown.{is_unseen}
use Rattle.screen_form.specs.Hidden.{hides_below}
use Rattle.screen_form.specs.Sem.{Sem, sems_of}
use Rattle.screen_form.specs.SemanticsRole.{SemanticsRole, hides, says, forms, merges, shown_role}
use Rattle.screen_form.specs.Fragment.{Fragment, fragment_by, fragment_of, fragment_in, rect_at}
use Rattle.screen_form.specs.Semantics.{semantics_of}
use Rattle.screen_form.specs.SemanticsLaws.{ids_of, ids_in}
use Rattle.plain_tree.proofs.Numbers.{left_nothing, left_both, all_left}

ids_together : (ss ts : List Sem) → ids_in (sems_of (ss ++ ts)) ≡ ids_in (sems_of ss) ++ ids_in (sems_of ts)
ids_together [] ts = refl
ids_together (s ∷ ss) ts = ap (λ l. ids_of s ++ l) (ids_together ss ts) ∙ sym (append_assoc (ids_of s) (ids_in (sems_of ss)) (ids_in (sems_of ts)))

-- the ids of what is given
abbrev fragment_ids : Fragment → List ℕ
fragment_ids g = ids_in (sems_of g.nodes)

-- of what a node gives, where those below give some numbers
ids_by : (hidden : Bool) (p : SemanticsRole) (number : ℕ) (rect : Rect) (g : Fragment) (ns : List ℕ) → IsLeftOf (fragment_ids g) ns
    → IsLeftOf (fragment_ids (fragment_by (if hidden then hides else p) number rect g)) (number ∷ ns)
ids_by true p number rect g ns below = inl (left_nothing ns)
ids_by false hides number rect g ns below = inl (left_nothing ns)
ids_by false (says label button) number rect g ns below = inl below
ids_by false (forms label button tap long) number rect g ns below =
    inr (fragment_ids g ++ [], refl, subst (λ l. IsLeftOf l ns) (sym (append-nil (fragment_ids g))) below)
ids_by false merges number rect g ns below = inr ([], refl, left_nothing ns)

mutual
  unfolding fragment_of

  ids_fragment : (l : Laid) (at : Offset) → IsLeftOf (fragment_ids (fragment_of l at)) (laid_numbers_of l)
  ids_fragment (laid number look f cs) at =
      ids_by (is_unseen f.frame || hides_below look f.frame) (shown_role look) number (rect_at at f.frame) (fragment_in cs at) (laid_numbers_in cs) (ids_fragment_in cs at)

  ids_fragment_in : (ls : Laids) (at : Offset) → IsLeftOf (fragment_ids (fragment_in ls at)) (laid_numbers_in ls)
  ids_fragment_in no_laids at = refl
  ids_fragment_in (more_laids by l ls) at =
      let here = fragment_of l (offset_sum at by) in
      let rest = fragment_in ls at in
      subst (λ ids. IsLeftOf ids (laid_numbers_of l ++ laid_numbers_in ls)) (sym (ids_together here.nodes rest.nodes))
      (left_both (fragment_ids here) (laid_numbers_of l) (fragment_ids rest) (laid_numbers_in ls) (ids_fragment l (offset_sum at by)) (ids_fragment_in ls at))

pub numbers_law : (root : Laid) → IsLeftOf (ids_of (semantics_of root)) (0 ∷ laid_numbers_of root)
numbers_law root = inr (fragment_ids (fragment_of root origin), refl, ids_fragment root origin)

pub differ_law : (root : Laid) → AllDiffer (0 ∷ laid_numbers_of root) → AllDiffer (ids_of (semantics_of root))
differ_law root h = all_left (ids_of (semantics_of root)) (0 ∷ laid_numbers_of root) (numbers_law root) h
