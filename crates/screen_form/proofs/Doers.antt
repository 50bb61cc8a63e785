-- Who does the actions of a semantics tree.
use Rattle.std.proofs.Common.{◌≡◌, ℕ, Bool, ◌||◌, ◌==◌, true, false, Option, Some, None, List, [], ◌∷◌, ◌++◌, refl, sym, ap, ◌∙◌, subst, arith, if◌then◌else◌, Ok}
use Rattle.std.specs.Prelude.{Contains}
use Rattle.std.specs.Option.{option_or, IfSome}
use Rattle.std.proofs.lemmas.List.Elements.{Contains-append_left, Contains-append_right}
use Rattle.fx_geom.specs.declared.shapes.Offset.{Offset}
use Rattle.fx_geom.specs.declared.shapes.Rect.{Rect}
use Rattle.fx_geom.specs.Offset.{offset_sum, origin}
use Rattle.plain_tree.specs.Laid.{Laid, laid, Laids, no_laids, more_laids}
use Rattle.script_lines.specs.declared.command.Action.{Action}
use Rattle.script_lines.specs.declared.command.Action.TheVariants.{Tap, Long}
use Rattle.plain_tree.specs.Shown.{is_unseen}
use Rattle.screen_form.specs.Hidden.{hides_below}
use Rattle.screen_form.specs.Sem.{Sem, sem, Sems, no_sems, more_sems, sems_of}
use Rattle.screen_form.specs.SemanticsRole.{SemanticsRole, hides, says, forms, merges, shown_role}
use Rattle.screen_form.specs.Fragment.{Fragment, fragment_by, fragment_of, fragment_in, rect_at, number_where, first_tap, first_tap_in, first_long, first_long_in}
use Rattle.screen_form.specs.Semantics.{semantics_of}
use Rattle.screen_form.specs.Acts.{acted, doer_of, done_by, or_no_action, sem_at, sem_in}
use Rattle.screen_form.specs.SemanticsLaws.{does, doers_of, doers_in}

-- of two detectors the one that does an action
abbrev chosen : Action → Option ℕ → Option ℕ → Option ℕ
chosen Tap tap long = tap
chosen Long tap long = long

chosen_or : (action : Action) (a b c d : Option ℕ) → chosen action (option_or a b) (option_or c d) ≡ option_or (chosen action a c) (chosen action b d)
chosen_or Tap a b c d = refl
chosen_or Long a b c d = refl

chosen_none : (action : Action) → chosen action None None ≡ None
chosen_none Tap = refl
chosen_none Long = refl

doer-chosen : (action : Action) (id : ℕ) (rect : Rect) (label : List ℕ) (button : Bool) (tap long : Option ℕ) (ss : Sems)
    → doer_of action (sem id rect label button tap long ss) ≡ chosen action tap long
doer-chosen Tap id rect label button tap long ss = refl
doer-chosen Long id rect label button tap long ss = refl

some_or : {A : Type 0} (P : A → Type 0) (a b : Option A) → IfSome a P → IfSome b P → IfSome (option_or a b) P
some_or P (Some x) b h k = h
some_or P None b h k = k

-- what a kind does itself, where P holds of its number if it does the action
own_done : (action : Action) (P : ℕ → Type 0) (tap long : Bool) (number : ℕ) (label : List ℕ) (button : Bool)
    → (does action (forms label button tap long) ≡ true → P number) → IfSome (chosen action (number_where tap number) (number_where long number)) P
own_done Tap P true long number label button h = h refl
own_done Tap P false long number label button h = tt
own_done Long P tap true number label button h = h refl
own_done Long P tap false number label button h = tt

the_number : (P : ℕ → Type 0) (number : ℕ) (o : Option ℕ) → IfSome o P → or_no_action o ≡ Ok number → P number
the_number P number (Some d) h e = let same : d ≡ number = cc in subst P same h
the_number P number None h e = cc

module _ (action : Action) (P : ℕ → Type 0) where
  -- each node of a tree has its action done by a number of which P holds
  abbrev mutual
    AllDone : Sem → Type 0
    AllDone (sem id rect label button tap long ss) = IfSome (chosen action tap long) P × AllDoneIn ss

    AllDoneIn : Sems → Type 0
    AllDoneIn no_sems = Unit {0}
    AllDoneIn (more_sems s ss) = AllDone s × AllDoneIn ss

  done_both : (ss ts : List Sem) → AllDoneIn (sems_of ss) → AllDoneIn (sems_of ts) → AllDoneIn (sems_of (ss ++ ts))
  done_both [] ts h k = k
  done_both (s ∷ ss) ts h k = (h.0, done_both ss ts h.1 k)

  -- the first that does it
  mutual
    first_done : (s : Sem) → AllDone s → IfSome (chosen action (first_tap s) (first_long s)) P
    first_done (sem id rect label button tap long ss) h =
        subst (λ o. IfSome o P) (sym (chosen_or action tap (first_tap_in ss) long (first_long_in ss)))
        (some_or P (chosen action tap long) (chosen action (first_tap_in ss) (first_long_in ss)) h.0 (first_done_in ss h.1))

    first_done_in : (ss : Sems) → AllDoneIn ss → IfSome (chosen action (first_tap_in ss) (first_long_in ss)) P
    first_done_in no_sems h = subst (λ o. IfSome o P) (sym (chosen_none action)) tt
    first_done_in (more_sems s ss) h =
        subst (λ o. IfSome o P) (sym (chosen_or action (first_tap s) (first_tap_in ss) (first_long s) (first_long_in ss)))
        (some_or P (chosen action (first_tap s) (first_long s)) (chosen action (first_tap_in ss) (first_long_in ss)) (first_done s h.0) (first_done_in ss h.1))

  -- what a kind gives
  done_by_role : (hidden : Bool) (p : SemanticsRole) (number : ℕ) (rect : Rect) (g : Fragment) → (does action p ≡ true → P number) → AllDoneIn (sems_of g.nodes)
      → AllDoneIn (sems_of (fragment_by (if hidden then hides else p) number rect g).nodes)
  done_by_role true p number rect g h below = tt
  done_by_role false hides number rect g h below = tt
  done_by_role false (says label button) number rect g h below = below
  done_by_role false (forms label button tap long) number rect g h below = ((own_done action P tap long number label button h, below), tt)
  done_by_role false merges number rect g h below = ((first_done_in (sems_of g.nodes) below, tt), tt)

  mutual
    unfolding fragment_of

    done_fragment : (l : Laid) (at : Offset) → ((d : ℕ) → Contains (doers_of action l) d → P d) → AllDoneIn (sems_of (fragment_of l at).nodes)
    done_fragment (laid number look f cs) at h =
        done_by_role (is_unseen f.frame || hides_below look f.frame) (shown_role look) number (rect_at at f.frame) (fragment_in cs at)
        (λ is_true.
        h number
        (Contains-append_left (if does action (shown_role look) then number ∷ [] else []) (doers_in action cs) number
        (subst (λ b. Contains (if b then number ∷ [] else []) number) (sym is_true) (0, omega arith, refl))))
        (done_fragment_in cs at (λ d k. h d (Contains-append_right (if does action (shown_role look) then number ∷ [] else []) (doers_in action cs) d k)))

    done_fragment_in : (ls : Laids) (at : Offset) → ((d : ℕ) → Contains (doers_in action ls) d → P d) → AllDoneIn (sems_of (fragment_in ls at).nodes)
    done_fragment_in no_laids at h = tt
    done_fragment_in (more_laids by l ls) at h =
        done_both (fragment_of l (offset_sum at by)).nodes (fragment_in ls at).nodes
        (done_fragment l (offset_sum at by) (λ d k. h d (Contains-append_left (doers_of action l) (doers_in action ls) d k)))
        (done_fragment_in ls at (λ d k. h d (Contains-append_right (doers_of action l) (doers_in action ls) d k)))

  -- the node with an id
  one_of : (own : Bool) (s : Sem) (o : Option Sem) → AllDone s → IfSome o AllDone → IfSome (if own then Some s else o) AllDone
  one_of true s o h k = h
  one_of false s o h k = k

  mutual
    done_at : (wanted : ℕ) (s : Sem) → AllDone s → IfSome (sem_at wanted s) AllDone
    done_at wanted (sem id rect label button tap long ss) h =
        one_of (id == wanted) (sem id rect label button tap long ss) (sem_in wanted ss) h (done_in wanted ss h.1)

    done_in : (wanted : ℕ) (ss : Sems) → AllDoneIn ss → IfSome (sem_in wanted ss) AllDone
    done_in wanted no_sems h = tt
    done_in wanted (more_sems s ss) h = some_or AllDone (sem_at wanted s) (sem_in wanted ss) (done_at wanted s h.0) (done_in wanted ss h.1)

  answered : (number : ℕ) (o : Option Sem) → IfSome o AllDone → done_by action o ≡ Ok number → P number
  answered number (Some (sem id rect label button tap long ss)) h e =
      the_number P number (chosen action tap long) h.0 (ap or_no_action (sym (doer-chosen action id rect label button tap long ss)) ∙ e)
  answered number None h e = cc

pub doer_law : (root : Laid) (id number : ℕ) (action : Action) → acted (semantics_of root) id action ≡ Ok number → Contains (doers_of action root) number
doer_law root id number action e =
    let P = Contains (doers_of action root) in
    let whole : AllDone action P (semantics_of root) =
    (subst (λ o. IfSome o P) (sym (chosen_none action)) tt, done_fragment action P root origin (λ d k. k)) in
    answered action P number (sem_at id (semantics_of root)) (done_at action P id (semantics_of root) whole) e
