-- What a build that keeps outputs builds is due.
use Rattle.std.proofs.Common.{◌≡◌, ℕ, ◌<◌, ◌≤◌, nat_lt, eqb, Bool, true, false, not, ◌||◌, cond, length, filter, Option, Some, None, IfSome, List, [], ◌∷◌, ◌++◌, refl, ap, ◌∙◌, subst, Decides, arith}
use Rattle.std.specs.List.{list_any, find}
use Rattle.std.proofs.lemmas.Bool.{ne_eqb}
use borrow.Author.Tests.{eqb-true}
use Rattle.fx_expr.specs.declared.values.Value.{Value}
use Rattle.widget_model.specs.Plain.{PlainWidget, look_of}
use Rattle.widget_model.specs.Size.{count_of}
use Rattle.program_check.specs.Checked.{PlainChecked}
use Rattle.program_check.specs.TypedChecked.{IsTypedChecked}
use Rattle.template_build.specs.Program.{declarations_of}
use Rattle.plain_tree.specs.PlainNode.{PlainNode, node, PlainNodes, no_nodes, more_nodes}
use Rattle.build_form.specs.Partner.{root_arrival}
use Rattle.build_form.specs.Entering.{Blueprint, output_limit, values_below}
use Rattle.build_form.specs.FullBuild.{Screen, live_ranges, started, basis}
use Rattle.build_form.specs.Laws.{NumbersAre, AllNumbersAre}
use Rattle.build_form.specs.Numbered.{IsNumbered}
use Rattle.build_form.specs.Program.{blueprint_of}
use Rattle.build_form.specs.WellBuilt.{IsWellBuilt}
use Rattle.work_sets.specs.Due.{names_read, was_entered, has_other_value, stands_elsewhere, reads_anew, is_due_since, is_due_reader, is_due}
use Rattle.work_sets.specs.Entered.{Entered, entered_of, entered_in, entered_widgets, seen_in_both}
use Rattle.work_sets.specs.Members.{is_same_widget}
use Rattle.build_walk.specs.Past.{Past, Pasts, is_marked, pasts_of, pasts_in, past_in}
use Rattle.build_walk.specs.Fresh.{HasFreshOutputs, IsKnown}
use Rattle.build_walk.specs.Counting.{is_built_since, is_built_reader, is_built, builds_in_both, build_count, Tells}
use Rattle.build_walk.proofs.Arriving.{AreKnownHolders, holders_known, root_known}
use Rattle.build_walk.proofs.Counting.{many, both_counted}
use Rattle.build_walk.proofs.Rebuilding.{known_before}

-- ---- what is known of nodes and what was entered, side by side

abbrev pub Alongside : List ℕ → List Past → List Entered → Type 0
Alongside marks [] [] = Unit {0}
Alongside marks [] (e ∷ es) = ⊥
Alongside marks (p ∷ ps) [] = ⊥
Alongside marks (p ∷ ps) (e ∷ es) =
    (p.number ≡ e.number) × (p.widget ≡ e.widget) × (p.values ≡ e.values) × (p.marked ≡ is_marked marks p.number) × Alongside marks ps es

pub alongside_append : (marks : List ℕ) (ps qs : List Past) (es fs : List Entered) → Alongside marks ps es → Alongside marks qs fs → Alongside marks (ps ++ qs) (es ++ fs)
alongside_append marks [] qs [] fs h k = k
alongside_append marks [] qs (e ∷ es) fs h k = absurd h
alongside_append marks (p ∷ ps) qs [] fs h k = absurd h
alongside_append marks (p ∷ ps) qs (e ∷ es) fs h k = (h.0, h.1, h.2, h.3, alongside_append marks ps qs es fs h.4 k)

mutual
  alongside : (marks above : List ℕ) (values : List Value) (n : PlainNode) → Alongside marks (pasts_of marks values n) (entered_of above values n)
  alongside marks above values (node number widget fields scroll index children) =
      (refl, refl, refl, refl, all_alongside marks (number ∷ above) (values_below widget values) children)

  all_alongside : (marks above : List ℕ) (values : List Value) (ns : PlainNodes) → Alongside marks (pasts_in marks values ns) (entered_in above values ns)
  all_alongside marks above values no_nodes = tt
  all_alongside marks above values (more_nodes n ns) =
      alongside_append marks (pasts_of marks values n) (pasts_in marks values ns) (entered_of above values n) (entered_in above values ns)
      (alongside marks above values n) (all_alongside marks above values ns)

tells_when : (marks : List ℕ) (k : ℕ) (p : Past) (e : Entered) (ps : Option Past) (es : Option Entered) (b : Bool)
    → eqb p.number k ≡ b → p.widget ≡ e.widget → p.values ≡ e.values → p.marked ≡ is_marked marks p.number → Tells marks k ps es → Tells marks k (cond b (Some p) ps) (cond b (Some e) es)
tells_when marks k p e ps es true is w v m h = (w, v, m ∙ ap (is_marked marks) (eqb-true p.number k is))
tells_when marks k p e ps es false is w v m h = h

pub found_alongside : (marks : List ℕ) (ps : List Past) (es : List Entered) (k : ℕ) → Alongside marks ps es → Tells marks k (find (λ p. eqb p.number k) ps) (find (λ e. eqb e.number k) es)
found_alongside marks [] [] k h = tt
found_alongside marks [] (e ∷ es) k h = absurd h
found_alongside marks (p ∷ ps) [] k h = absurd h
found_alongside marks (p ∷ ps) (e ∷ es) k h =
    subst (λ n. Tells marks k (find (λ x. eqb x.number k) (p ∷ ps)) (cond (eqb n k) (Some e) (find (λ x. eqb x.number k) es))) h.0
    (tells_when marks k p e (find (λ x. eqb x.number k) ps) (find (λ x. eqb x.number k) es) (eqb p.number k) refl h.1 h.2 h.3 (found_alongside marks ps es k h.4))

pub past_tells : (marks : List ℕ) (defaults : List Value) (old : Option PlainNode) (k : ℕ) → Tells marks k (past_in marks defaults old k) (was_entered defaults old k)
past_tells marks defaults None k = tt
past_tells marks defaults (Some old) k = found_alongside marks (pasts_of marks defaults old) (entered_of [] defaults old) k (alongside marks [] defaults old)

-- ---- free numbers weren't entered

abbrev Under : ℕ → List Entered → Type 0
Under next [] = Unit {0}
Under next (e ∷ es) = (e.number < next) × Under next es

under_append : (next : ℕ) (es fs : List Entered) → Under next es → Under next fs → Under next (es ++ fs)
under_append next [] fs h k = k
under_append next (e ∷ es) fs h k = (h.0, under_append next es fs h.1 k)

mutual
  under : (next : ℕ) (above : List ℕ) (values : List Value) (n : PlainNode) → NumbersAre (λ number. number < next) n → Under next (entered_of above values n)
  under next above values (node number widget fields scroll index children) h = (h.0, all_under next (number ∷ above) (values_below widget values) children h.1)

  all_under : (next : ℕ) (above : List ℕ) (values : List Value) (ns : PlainNodes) → AllNumbersAre (λ number. number < next) ns → Under next (entered_in above values ns)
  all_under next above values no_nodes h = tt
  all_under next above values (more_nodes n ns) h = under_append next (entered_of above values n) (entered_in above values ns) (under next above values n h.0) (all_under next above values ns h.1)

differs_below : (n next k : ℕ) → n < next → next ≤ k → n ≡ k → ⊥
differs_below n next k low high e = omega arith

not_found : (next k : ℕ) (es : List Entered) → next ≤ k → Under next es → find (λ e. eqb e.number k) es ≡ None
not_found next k [] high h = refl
not_found next k (e ∷ es) high h =
    ap (λ b. cond b (Some e) (find (λ x. eqb x.number k) es)) (ne_eqb e.number k (differs_below e.number next k h.0 high)) ∙ not_found next k es high h.1

pub none_entered : (defaults : List Value) (old : Option PlainNode) (next k : ℕ) → IfSome old (IsNumbered next) → next ≤ k → was_entered defaults old k ≡ None
none_entered defaults None next k numbered high = refl
none_entered defaults (Some old) next k numbered high = not_found next k (entered_of [] defaults old) high (under next [] defaults old numbered.below)

-- ---- what is built is due

or_more : (a b c : Bool) → (b ≡ true → c ≡ true) → (a || b) ≡ true → (a || c) ≡ true
or_more true b c h e = refl
or_more false b c h e = h e

or_first : (a b : Bool) → a ≡ true → (a || b) ≡ true
or_first true b e = refl
or_first false b e = cc

both_more : (a b c d : Bool) → (a ≡ true → c ≡ true) → (b ≡ true → d ≡ true) → (a || b) ≡ true → (c || d) ≡ true
both_more true b c d h k e = or_first c d (h refl)
both_more false b true d h k e = refl
both_more false b false d h k e = k e

any_more : (p q : ℕ → Bool) (names : List ℕ) → ((n : ℕ) → p n ≡ true → q n ≡ true) → list_any p names ≡ true → list_any q names ≡ true
any_more p q [] h e = e
any_more p q (n ∷ names) h e = both_more (p n) (list_any p names) (q n) (list_any q names) (h n) (any_more p q names h) e

due_since : (was : Option Entered) (names marks : List ℕ) (e : Entered) → is_built_since was names marks e ≡ true → is_due_since was names marks e ≡ true
due_since None names marks e h = refl
due_since (Some was) names marks e h =
    or_more (list_any (λ number. eqb number e.number) marks) (not (is_same_widget was.widget e.widget) || list_any (has_other_value was e) names)
    (not (is_same_widget was.widget e.widget) || reads_anew names was e)
    (or_more (not (is_same_widget was.widget e.widget)) (list_any (has_other_value was e) names) (reads_anew names was e)
    (any_more (has_other_value was e) (λ name. has_other_value was e name || stands_elsewhere was e) names (λ n k. or_first (has_other_value was e n) (stands_elsewhere was e) k)))
    h

due_reader : (r : Option (List ℕ)) (was : Option Entered) (marks : List ℕ) (e : Entered) → is_built_reader r was marks e ≡ true → is_due_reader r was marks e ≡ true
due_reader None was marks e h = h
due_reader (Some names) was marks e h = due_since was names marks e h

pub built_due : (defaults : List Value) (old : Option PlainNode) (marks : List ℕ) (e : Entered) → is_built defaults old marks e ≡ true → is_due defaults old marks e ≡ true
built_due defaults old marks e h = due_reader (names_read (look_of e.widget)) (was_entered defaults old e.number) marks e h

fewer_when : (a b : Bool) (e : Entered) (xs ys : List Entered) → (a ≡ true → b ≡ true) → length xs ≤ length ys → length (cond a (e ∷ xs) xs) ≤ length (cond b (e ∷ ys) ys)
fewer_when true true e xs ys h le = omega arith
fewer_when true false e xs ys h le = let bad : false ≡ true = h refl in cc
fewer_when false true e xs ys h le = omega arith
fewer_when false false e xs ys h le = le

fewer : (p q : Entered → Bool) (es : List Entered) → ((e : Entered) → p e ≡ true → q e ≡ true) → many p es ≤ many q es
fewer p q [] h = omega arith
fewer p q (e ∷ es) h = fewer_when (p e) (q e) e (filter p es) (filter q es) (h e) (fewer p q es h)

-- ---- a whole build

module _ (exact : (v w : PlainWidget) → Decides (is_same_widget v w) (v ≡ w)) (c : PlainChecked) (screen : Screen) (old : Option PlainNode) (marks : List ℕ) (next : ℕ) (root : PlainWidget)
    (checked : IsTypedChecked c) (numbered : IfSome old (IsNumbered next)) (well : IfSome old (IsWellBuilt (declarations_of c)))
    (fresh : IfSome old (HasFreshOutputs (blueprint_of c) marks (blueprint_of c).defaults)) where
  abbrev b : Blueprint
  b = blueprint_of c

  abbrev pasts : Pasts
  pasts = past_in marks b.defaults old

  all_known : IfSome old (IsKnown b pasts)
  all_known = known_before c old marks next checked numbered well fresh

  from_known : AreKnownHolders b pasts (basis b old).holder
  from_known = holders_known b pasts old all_known

  counted_in_both : builds_in_both (basis b old) pasts (live_ranges screen) (root_arrival old root) (started next)
      ≡ many (is_built b.defaults old marks) (seen_in_both (basis b old) (live_ranges screen) (root_arrival old root) (started next))
  counted_in_both =
      both_counted (basis b old) pasts exact from_known next old marks (past_tells marks b.defaults old) (λ k high. none_entered b.defaults old next k numbered high)
      (live_ranges screen) (root_arrival old root) (started next) (root_known b pasts old root all_known) (tt, omega arith)

  counted_when : (t : Bool) → cond t 0 (builds_in_both (basis b old) pasts (live_ranges screen) (root_arrival old root) (started next))
      ≡ many (is_built b.defaults old marks) (cond t [] (seen_in_both (basis b old) (live_ranges screen) (root_arrival old root) (started next)))
  counted_when true = refl
  counted_when false = counted_in_both

  pub count_is : build_count b screen old marks next root ≡ many (is_built b.defaults old marks) (entered_widgets b screen old next root)
  unfolding build_count entered_widgets
  count_is = counted_when (nat_lt output_limit (count_of root))

  pub count_due : build_count b screen old marks next root ≤ many (is_due b.defaults old marks) (entered_widgets b screen old next root)
  count_due =
      let is = count_is in
      let less = fewer (is_built b.defaults old marks) (is_due b.defaults old marks) (entered_widgets b screen old next root) (λ e h. built_due b.defaults old marks e h) in
      omega arith
