-- What holds where a step, a check or a walk gives something.
use Rattle.std.proofs.Common.{◌≡◌, ℕ, Bool, true, false, cond, Option, Some, None, IfSome, Result, Ok, Err, IfOk, List, [], ◌∷◌, refl, subst}
use Rattle.std.specs.List.{find}
use Rattle.std.specs.Option.{ok_or}
use Rattle.fx_expr.specs.declared.values.Value.{Value}
use Rattle.widget_model.specs.Plain.{PlainWidget}
use Rattle.plain_tree.specs.PlainNode.{PlainNodes}
use Rattle.build_form.specs.BuildRole.{BuildRole, composes, provides, keeps, lists, holds, is_lazy}
use Rattle.build_form.specs.Entering.{Blueprint, given_by}
use Rattle.build_form.specs.FullBuild.{if_lazy}
use Rattle.build_form.specs.Step.{Progress, Step, stops, gives}
use Rattle.build_form.proofs.OldOrNew.{OnGives, either}
use Rattle.expr_check.specs.Check as check
use Rattle.expr_check.specs.Check.{Check}
use Rattle.program_check.specs.ProgramCheck.{CheckedAt, made_at, then_placed, given_placed}
use Rattle.program_read.specs.ShapeFault as shape
use Rattle.program_read.specs.ShapeFault.{ShapeWalk}

-- ---- steps of a build

pub whatever : {A : Type 0} (r : Step A) → OnGives r (λ a s. Unit {0})
whatever (stops f) = tt
whatever (gives a s) = tt

pub follows : {A : Type 0} (r : Step A) (Q R : A → Progress → Type 0) → ((a : A) (s : Progress) → Q a s → R a s) → OnGives r Q → OnGives r R
follows (stops f) Q R k h = tt
follows (gives a s) Q R k h = k a s h

pub by_test : {A : Type 0} (b : Bool) (x y : Step A) (Q : A → Progress → Type 0) → (b ≡ true → OnGives x Q) → (b ≡ false → OnGives y Q) → OnGives (cond b x y) Q
by_test true x y Q h k = h refl
by_test false x y Q h k = k refl

-- a lazy list, and any other
pub by_role : (p : BuildRole) (itemized : ℕ → Progress → Step PlainNodes) (others : Progress → Step PlainNodes) (s : Progress) (Q : Bool → PlainNodes → Progress → Type 0)
    → ((e : ℕ) → OnGives (itemized e s) (Q true)) → OnGives (others s) (Q false) → OnGives (if_lazy p itemized others s) (Q (is_lazy p))
by_role (composes place props) itemized others s Q h k = k
by_role (provides name value) itemized others s Q h k = k
by_role (keeps kept) itemized others s Q h k = k
by_role (lists extent) itemized others s Q h k = h extent
by_role holds itemized others s Q h k = k

-- the child widgets of a node are found without a step
pub widgets_found : (Q : Progress → Type 0) (b : Blueprint) (p : BuildRole) (values : List Value) (number : ℕ) (fields : List Value) (w : PlainWidget) (s : Progress)
    → Q s → OnGives (given_by b p values number fields w s) (λ x t. Q t)
widgets_found Q b (composes place props) values number fields w s h = either _ (stops _) (gives _ s) (λ x t. Q t) tt h
widgets_found Q b (provides name value) values number fields w s h = h
widgets_found Q b (keeps kept) values number fields w s h = h
widgets_found Q b (lists extent) values number fields w s h = h
widgets_found Q b holds values number fields w s h = h

-- ---- results

pub anything : {A E : Type 0} (r : Result A E) → IfOk r (λ x. Unit {0})
anything (Ok x) = tt
anything (Err e) = tt

pub of_ok : {A E : Type 0} (r : Result A E) (Q : A → Type 0) (x : A) → IfOk r Q → r ≡ Ok x → Q x
of_ok r Q x h e = subst (λ r. IfOk r Q) e h

pub one_or_other : {A E : Type 0} (b : Bool) (r q : Result A E) (Q : A → Type 0) → IfOk r Q → IfOk q Q → IfOk (cond b r q) Q
one_or_other true r q Q h k = h
one_or_other false r q Q h k = k

first_found : {A : Type 0} (b : Bool) (x : A) (rest : Option A) (test : A → Bool) → (b ≡ true → test x ≡ true) → IfSome rest (λ y. test y ≡ true)
    → IfSome (cond b (Some x) rest) (λ y. test y ≡ true)
first_found true x rest test h k = h refl
first_found false x rest test h k = k

pub is_found : {A : Type 0} (test : A → Bool) (xs : List A) → IfSome (find test xs) (λ x. test x ≡ true)
is_found test [] = tt
is_found test (x ∷ xs) = first_found (test x) x (find test xs) test (λ e. e) (is_found test xs)

pub there : {A E : Type 0} (o : Option A) (e : E) (Q : A → Type 0) → IfSome o Q → IfOk (ok_or o e) Q
there None e Q h = tt
there (Some x) e Q h = h

-- checks

pub after_check : {A B : Type 0} (c : Check A) (next : A → Check B) (Q : A → Type 0) (R : B → Type 0) → IfOk c Q → ((x : A) → Q x → IfOk (next x) R) → IfOk (check.and_then c next) R
after_check (Ok x) next Q R h k = k x h
after_check (Err code) next Q R h k = tt

pub check_gives : {A B : Type 0} (f : A → B) (c : Check A) (Q : A → Type 0) (R : B → Type 0) → IfOk c Q → ((x : A) → Q x → R (f x)) → IfOk (check.given f c) R
check_gives f (Ok x) Q R h k = k x h
check_gives f (Err code) Q R h k = tt

pub at_component : {A : Type 0} (component : Option ℕ) (c : Check A) (Q : A → Type 0) → IfOk c Q → IfOk (made_at component c) Q
at_component component (Ok x) Q h = h
at_component component (Err code) Q h = tt

pub after_placed : {A B : Type 0} (c : CheckedAt A) (next : A → CheckedAt B) (Q : A → Type 0) (R : B → Type 0) → IfOk c Q → ((x : A) → Q x → IfOk (next x) R) → IfOk (then_placed c next) R
after_placed (Ok x) next Q R h k = k x h
after_placed (Err bad) next Q R h k = tt

pub placed_gives : {A B : Type 0} (f : A → B) (c : CheckedAt A) (Q : A → Type 0) (R : B → Type 0) → IfOk c Q → ((x : A) → Q x → R (f x)) → IfOk (given_placed f c) R
placed_gives f (Ok x) Q R h k = k x h
placed_gives f (Err bad) Q R h k = tt

-- walks

pub after_walk : {A B : Type 0} (w : ShapeWalk A) (next : A → ShapeWalk B) (Q : A → Type 0) (R : B → Type 0) → IfOk w Q → ((x : A) → Q x → IfOk (next x) R) → IfOk (shape.and_then w next) R
after_walk (Ok x) next Q R h k = k x h
after_walk (Err fault) next Q R h k = tt

pub walk_gives : {A B : Type 0} (f : A → B) (w : ShapeWalk A) (Q : A → Type 0) (R : B → Type 0) → IfOk w Q → ((x : A) → Q x → R (f x)) → IfOk (shape.given f w) R
walk_gives f (Ok x) Q R h k = k x h
walk_gives f (Err fault) Q R h k = tt

pub inside_walk : {A : Type 0} (step : List ℕ) (w : ShapeWalk A) (Q : A → Type 0) → IfOk w Q → IfOk (shape.within step w) Q
inside_walk step (Ok x) Q h = h
inside_walk step (Err fault) Q h = tt
