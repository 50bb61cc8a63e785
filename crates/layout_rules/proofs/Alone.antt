-- The walk at a node that nobody is below: its rule asks nobody who is there.
use Rattle.std.proofs.Common.{◌≡◌, refl, sym, ◌∙◌, subst, ℕ, ◌+◌, ◌≤◌, ◌==◌, Bool, true, false, Option, List, [], ◌∷◌, length, arith}
use Rattle.fx_handles.specs.declared.Handle.{Handle}
use Rattle.fx_handles.specs.Handle.{times}
use Rattle.node_tree.specs.Forest.{Forest, tops}
use Rattle.node_tree.specs.Forest.Forest.{none, tree}
use Rattle.node_tree.specs.Tree.{Tree, children_at}
use Rattle.plain_tree.specs.declared.laid.Frame.{Frame}
use Rattle.layout_form.specs.declared.asks.Ask.{Ask}
use Rattle.layout_form.specs.declared.asks.Ask.TheVariants.{AsBox}
use Rattle.kind_rules.specs.Asked.{found_for}
use Rattle.layout_form.specs.Framed.{answers_of, last_asks}
use Rattle.layout_form.specs.Object.{Setting}
use Rattle.render_tree.specs.Object.{RenderObject}
use Rattle.layout_walk.specs.Node.{LayoutNode, member}
use Rattle.layout_walk.proofs.Asks.{number_is}
use Rattle.layout_walk.specs.Rules.{parts_of, makes_in}
use Rattle.layout_walk.specs.Walk.{ruled}
use Rattle.layout_walk.specs.Flush.{one_each}
use Rattle.layout_walk.specs.Here.{back_in}
use Rattle.layout_rules.specs.declared.duties.Duty.{Duty}
use Rattle.layout_rules.specs.declared.duties.Course.{Course}
use Rattle.layout_rules.specs.declared.duties.Course.TheVariants.{Stay, Visit, Hold, Run, View, Open}
use Rattle.layout_rules.specs.Duties.{Does, duty_runs}
use Rattle.layout_rules.specs.Ending.{EndsWell, Ending, NodeOver, asked_first, asked_rest, known_in, run_end, ended, CanMake, CanRun, CanEnd}
use Rattle.layout_rules.specs.Nodes.{SeenAt}
use Rattle.layout_rules.specs.Serving.{IsGood, IsReadyFor, Serves, weight_of, ListsOnce, ListsOne, EndsAs, CanEndAt}
use Rattle.layout_rules.specs.Lawful.{Laws}
use Rattle.layout_rules.proofs.Listed.{course_listed}
use Rattle.layout_rules.proofs.Stepped.{course_ends}
use Rattle.layout_rules.proofs.Turning.{seen_children}
use Rattle.layout_rules.proofs.Walked.{IsCourse, course_is, seen_one}

tops_none : (f : Forest LayoutNode) → tops f ≡ [] → f ≡ none
tops_none none e = refl
tops_none (tree h v kids rest) e = absurd (cc)

pub empty_list : (hs : List Handle) → (length hs == 0) ≡ true → hs ≡ []
empty_list [] e = refl
empty_list (h ∷ hs) e = let none_there = number_is (length (h ∷ hs)) 0 e in absurd (omega (arith, none_there))

pub no_kids : (t : Tree RenderObject) (h : Handle) (v : LayoutNode) (kids : Forest LayoutNode) → SeenAt t h (tree h v kids none) → children_at t h ≡ [] → kids ≡ none
no_kids t h v kids seen e = tops_none kids (sym (seen_children t h v kids seen) ∙ e)

none_answers : (asks : List (Option Ask)) → answers_of asks [] ≡ []
none_answers [] = refl
none_answers (ask ∷ asks) = refl

-- whoever would be asked, a rule is run over nobody's frames
run_alone : (s : Setting) (ask : Ask) (v : LayoutNode) (first asks : List (Option Ask)) → run_end s ask v none [] first asks ≡ run_end s ask v none [] [] []
run_alone s ask v first asks = λ at.
    record { value = ruled v (makes_in s (member v) v.scroll ask [] (none_answers first at) (none_answers asks at)) false; kids = none }

alone_ended : (s : Setting) (course : Course) (v : LayoutNode) (first rest : List (Option Ask)) → ended s course v none [] first rest ≡ ended s course v none [] [] []
alone_ended s Stay v first rest = refl
alone_ended s Visit v first rest = refl
alone_ended s (Hold ask) v first rest = refl
alone_ended s (Run ask) v first rest = run_alone s ask v first (last_asks first rest)
alone_ended s (View axis b) v first rest = run_alone s (AsBox b) v first rest
alone_ended s (Open duty) v first rest = refl

run_can : (ask : Ask) (v : LayoutNode) (first asks : List (Option Ask)) → CanRun ask v none [] first asks → CanRun ask v none [] [] []
run_can ask v first asks can =
    subst (λ (fs : List (Option Frame)). CanMake v.look ask [] (found_for v.look v.scroll ask []) fs) (none_answers asks)
    (subst (λ (fs : List (Option Frame)). CanMake v.look ask [] (found_for v.look v.scroll ask fs) (answers_of asks [])) (none_answers first) can)

alone_can : (course : Course) (v : LayoutNode) (first rest : List (Option Ask)) → CanEnd course v none [] first rest → CanEnd course v none [] [] []
alone_can Stay v first rest can = tt
alone_can Visit v first rest can = tt
alone_can (Hold ask) v first rest can = can
alone_can (Run ask) v first rest can = run_can ask v first (last_asks first rest) can
alone_can (View axis b) v first rest can = run_can (AsBox b) v first rest can
alone_can (Open duty) v first rest can = tt

module _ (s : Setting) (laws : Laws s) (outer : Bool) (duty : Duty) (t : Tree RenderObject) (h : Handle) (course : Course) (ready : IsReadyFor (parts_of s) t h duty) (is : IsCourse outer duty t h course)
    (empty : children_at t h ≡ []) where
  abbrev v : LayoutNode
  v = ready.value

  good : IsGood (parts_of s) t h v none
  good = subst (λ (f : Forest LayoutNode). IsGood (parts_of s) t h v f) (no_kids t h v ready.kids ready.good.stands empty) ready.good

  abbrev first : List (Option Ask)
  first = asked_first s course v none

  abbrev rest : List (Option Ask)
  rest = asked_rest course v [] (known_in course first none)

  well : EndsWell s outer duty v none none none course first rest
  well =
      let ends : Ending s outer duty v none course =
      subst (λ (x : Course). Ending s outer duty v none x) (course_is outer duty t h course v none is good.stands) (course_ends s laws outer v none good.here good.all good.fits duty ready.may) in
      ends none none first rest refl tt refl tt

  pub alone_seen : SeenAt t h (tree h v none none)
  alone_seen = good.stands

  pub can_alone : CanEndAt course [] [] [] t h
  can_alone w below seen =
      let same = seen_one t h v w none below good.stands seen in
      subst (λ (f : Forest LayoutNode). CanEnd course w f [] [] []) same.1 (subst (λ (x : LayoutNode). CanEnd course x none [] [] []) same.0 (alone_can course v first rest well.can))

  pub alone_serves : (t1 : Tree RenderObject) (before after : ℕ) → EndsAs s course [] [] [] t t1 h before after → Serves (parts_of s) outer duty t t1 h before after
  alone_serves t1 before after ends =
      let e : NodeOver = ended s course v none [] [] [] in
      let last = ends v none good.stands in
      record {
        value = v;
        kids = none;
        good = good;
        value_now = e.value;
        kids_now = e.kids;
        turns = last.0;
        does = subst (λ (x : NodeOver). Does (parts_of s) (back_in (parts_of s) outer) duty v none x.value x.kids) (alone_ended s course v first rest) well.does;
        ticks = let few = well.runs one_each 1 in let one = last.1 in omega (arith, few, one);
      }

  pub alone_lists : (t1 : Tree RenderObject) (before after : ℕ) (hs xs : List Handle) → ListsOne h hs xs before after → EndsAs s course [] [] [] t t1 h before after
      → ListsOnce (parts_of s) outer duty t h hs xs
  alone_lists t1 before after hs xs one ends k x below seen =
      let same_now = seen_one t h x v below none seen good.stands in
      let c = well.runs (weight_of k) (weight_of k h) in
      let d = course_listed s course v h hs xs before after one (ends v none good.stands).1 k in
      let all : times k xs ≤ times k hs + duty_runs (weight_of k) (weight_of k h) (parts_of s) outer duty v none = omega (arith, c, d) in
      subst (λ (y : Forest LayoutNode). times k xs ≤ times k hs + duty_runs (weight_of k) (weight_of k h) (parts_of s) outer duty x y) (sym same_now.1)
      (subst (λ (y : LayoutNode). times k xs ≤ times k hs + duty_runs (weight_of k) (weight_of k h) (parts_of s) outer duty y none) (sym same_now.0) all)
