-- Each node is listed once at most, since its rule is run once.
use Rattle.std.proofs.Common.{◌≡◌, ap, refl, sym, subst, inl, inr, ℕ, suc, ◌+◌, ◌≤◌, ◌<◌, Bool, true, false, cond, if◌then◌else◌, Option, Some, None, List, [], ◌∷◌, ◌++◌, get_or, arith, Result, Ok, Err, OnOk}
use Rattle.fx_handles.specs.declared.Handle.{Handle}
use Rattle.fx_handles.specs.Handle.{times}
use Rattle.fx_handles.specs.HandleLaws.{times-cons}
use Rattle.node_tree.specs.Forest.{Forest, tops, weigh}
use Rattle.node_tree.specs.Forest.Forest.{none, tree}
use Rattle.node_tree.specs.Tree.{Tree, children_at}
use Rattle.layout_form.specs.declared.asks.Ask.{Ask}
use Rattle.layout_form.specs.Object.{Setting}
use Rattle.render_tree.specs.Object.{RenderObject}
use Rattle.layout_walk.specs.Flush.{runs}
use Rattle.layout_walk.specs.Node.{LayoutNode}
use Rattle.layout_walk.specs.Rule.{LayoutParts, Lawful}
use Rattle.layout_walk.specs.Rules.{parts_of}
use Rattle.layout_walk.proofs.Counting.{few_runs}
use Rattle.layout_rules.specs.declared.duties.Duty.{Duty}
use Rattle.layout_rules.specs.declared.duties.Duty.TheVariants.{Lay}
use Rattle.layout_rules.specs.declared.duties.Course.{Course}
use Rattle.layout_rules.specs.declared.duties.Course.TheVariants.{Stay, Visit, Hold, Run, View, Open}
use Rattle.layout_rules.specs.Duties.{duty_runs, runs_if, runs_left}
use Rattle.layout_rules.specs.Ending.{has_gift, course_runs}
use Rattle.layout_rules.specs.Nodes.{SeenAt}
use Rattle.layout_rules.specs.Serving.{weight_of, ListsOnce, ListsOne}
use Rattle.layout_rules.proofs.Putting.{nth_tree, one_forest}
use Rattle.layout_rules.proofs.Repainting.{times_both}
use Rattle.layout_rules.proofs.Served.{left_here}
use Rattle.layout_rules.proofs.Walking.{Progress, child}

-- what holds of an answer twice holds at once
pub on_both : {A E : Type 0} (r : Result A E) (P Q R : Type 0) → (P → Q → R) → OnOk r P → OnOk r Q → OnOk r R
on_both {A} {E} (Ok x) P Q R both one two = both one two
on_both {A} {E} (Err e) P Q R both one two = tt

-- ---- one node

pub one_listed : (k h : Handle) (hs after : List Handle) (b : Bool) → after ≡ hs ++ (if b then h ∷ [] else []) → times k after ≤ times k hs + weight_of k h
one_listed k h hs after true is =
    let all = ap (λ (xs : List Handle). times k xs) is in
    let both = times_both k hs (h ∷ []) in
    let one = times-cons k h [] in
    let none_there : times k [] ≡ 0 = refl in
    omega (arith, all, both, one, none_there)
one_listed k h hs after false is =
    let all = ap (λ (xs : List Handle). times k xs) is in
    let both = times_both k hs [] in
    let none_there : times k [] ≡ 0 = refl in
    omega (arith, all, both, none_there)

held_one : (n : ℕ) (b : Bool) → cond {A = ℕ} b 0 1 ≡ 1 → cond {A = ℕ} b 0 n ≡ n
held_one n true e = absurd (omega (arith, e))
held_one n false e = refl

course_one : (n : ℕ) (s : Setting) (course : Course) (v : LayoutNode) → course_runs 1 s course v ≡ 1 → course_runs n s course v ≡ n
course_one n s Stay v e = absurd (omega (arith, e))
course_one n s Visit v e = absurd (omega (arith, e))
course_one n s (Hold ask) v e = held_one n (has_gift s ask v) e
course_one n s (Run ask) v e = refl
course_one n s (View axis b) v e = refl
course_one n s (Open duty) v e = absurd (omega (arith, e))

pub course_listed : (s : Setting) (course : Course) (v : LayoutNode) (h : Handle) (hs after : List Handle) (start stop : ℕ) → ListsOne h hs after start stop → stop ≡ start + course_runs 1 s course v
    → (k : Handle) → times k after ≤ times k hs + course_runs (weight_of k h) s course v
course_listed s course v h hs after start stop (inl is) ticks k = let same_now = ap (λ (xs : List Handle). times k xs) is in omega (arith, same_now)
course_listed s course v h hs after start stop (inr one) ticks k =
    let few = one.1 k in
    let once : course_runs 1 s course v ≡ 1 = let stops = one.0 in omega (arith, stops, ticks) in
    let own = course_one (weight_of k h) s course v once in
    omega (arith, few, own)

-- ---- the loops

-- the first i children have their duties done
abbrev pub Listed : Setting → Bool → Tree RenderObject → Handle → ℕ → List (Option Duty) → List Handle → List Handle → Type 0
Listed s outer t h i duties before now = (k : Handle) (v : LayoutNode) (kids : Forest LayoutNode) → SeenAt t h (tree h v kids none)
    → times k now + runs_left (weight_of k) (parts_of s) outer i duties kids ≤ times k before + runs_left (weight_of k) (parts_of s) outer 0 duties kids

pub listed_start : (s : Setting) (outer : Bool) (t : Tree RenderObject) (h : Handle) (duties : List (Option Duty)) (hs : List Handle) → Listed s outer t h 0 duties hs hs
listed_start s outer t h duties hs k v kids seen = omega arith

module _ (s : Setting) (law : Lawful (parts_of s)) (outer : Bool) (t0 t : Tree RenderObject) (h : Handle) (i end : ℕ) (duties : List (Option Duty)) (before now : ℕ)
    (p : Progress s outer t0 t h i end duties before now) (hs xs : List Handle) (listed : Listed s outer t0 h i duties hs xs) where
  abbrev P : LayoutParts
  P = parts_of s

  -- it is told of the children that were there
  at_base : (j : ℕ) (ys : List Handle)
      → ((k : Handle) → times k ys + runs_left (weight_of k) P outer j duties p.kids0 ≤ times k hs + runs_left (weight_of k) P outer 0 duties p.kids0) → Listed s outer t0 h j duties hs ys
  at_base j ys here k v kids seen =
      let e : tree h v kids none ≡ tree h p.value p.kids0 none = one_forest _ _ _ (tree h v kids none) (tree h p.value p.kids0 none) seen.stands p.base.stands refl in
      let below : kids ≡ p.kids0 = cc in
      subst (λ (f : Forest LayoutNode). times k ys + runs_left (weight_of k) P outer j duties f ≤ times k hs + runs_left (weight_of k) P outer 0 duties f) (sym below) (here k)

  pub listed_passed : get_or duties i None ≡ None → i < end → Listed s outer t0 h (suc i) duties hs xs
  listed_passed is less = at_base (suc i) xs (λ k.
      let there = nth_tree i p.kids0 h (let e = p.ends in omega (arith, e, less)) in
      let course = left_here (weight_of k) P outer i duties (get_or (tops p.kids0) i h) there.0 there.1 there.2 p.kids0 there.3 in
      let so_far = listed k p.value p.kids0 p.base in
      omega (arith, course, so_far))

  pub listed_one : (c : Handle) (duty : Duty) (ys : List Handle) → c ≡ get_or (children_at t h) i h → i < end → get_or duties i None ≡ Some duty → ListsOnce P outer duty t c xs ys
      → Listed s outer t0 h (suc i) duties hs ys
  listed_one c duty ys named less get lists = at_base (suc i) ys (λ k.
      let one = child s law outer t0 t h i end duties before now p c named less in
      let course = left_here (weight_of k) P outer i duties c one.value one.below one.after p.kids0 one.is in
      let here : runs_if (weight_of k) (weight_of k c) P outer (get_or duties i None) one.value one.below ≡ duty_runs (weight_of k) (weight_of k c) P outer duty one.value one.below =
      ap (λ (o : Option Duty). runs_if (weight_of k) (weight_of k c) P outer o one.value one.below) get in
      let so_far = listed k p.value p.kids0 p.base in
      let more = lists k one.value one.below one.good.stands in
      omega (arith, course, here, so_far, more))

-- ---- a whole tree

lay_counts : (w : Handle → ℕ) (P : LayoutParts) (outer : Bool) (ask : Ask) (h : Handle) (v : LayoutNode) (kids : Forest LayoutNode)
    → duty_runs w (w h) P outer (Lay ask) v kids ≤ weigh w (tree h v kids none)
unfolding runs
lay_counts w P outer ask h v kids = let few = few_runs w P outer (Some ask ∷ []) (tree h v kids none) in omega (arith, few)

pub listed_once : (P : LayoutParts) (outer : Bool) (ask : Ask) (t : Tree RenderObject) (h : Handle) (v : LayoutNode) (kids : Forest LayoutNode) (hs after xs : List Handle)
    → SeenAt t h (tree h v kids none) → hs ≡ [] → xs ≡ after → ListsOnce P outer (Lay ask) t h hs after → (k : Handle) → times k xs ≤ 1
listed_once P outer ask t h v kids hs after xs seen empty is lists k =
    let few = lists k v kids seen in
    let bound = lay_counts (weight_of k) P outer ask h v kids in
    let once = seen.distinct k in
    let none_before = ap (λ (ys : List Handle). times k ys) empty in
    let none_there : times k [] ≡ 0 = refl in
    let all = ap (λ (ys : List Handle). times k ys) is in
    omega (arith, few, bound, once, none_before, none_there, all)
