-- What holds where a step of a build gives something.
use Rattle.std.proofs.Common.{◌≡◌, ℕ, Bool, true, false, cond, List, refl}
use Rattle.fx_expr.specs.declared.values.Value.{Value}
use Rattle.widget_model.specs.Plain.{PlainWidget}
use Rattle.plain_tree.specs.PlainNode.{PlainNodes}
use Rattle.build_form.specs.Step.{Progress, Step, stops, gives}
use Rattle.build_form.specs.BuildRole.{BuildRole, composes, provides, keeps, lists, holds, is_lazy}
use Rattle.build_form.specs.Entering.{Blueprint, given_by}
use Rattle.build_form.specs.FullBuild.{if_lazy}
use Rattle.build_form.proofs.OldOrNew.{OnGives, either}

pub anything : {A : Type 0} (r : Step A) → OnGives r (λ a s. Unit {0})
anything (stops f) = tt
anything (gives a s) = tt

pub on_gives : {A : Type 0} (r : Step A) (Q : A → Progress → Type 0) → ((a : A) (s : Progress) → r ≡ gives a s → Q a s) → OnGives r Q
on_gives (stops f) Q h = tt
on_gives (gives a s) Q h = h a s refl

pub both : {A : Type 0} (r : Step A) (Q R : A → Progress → Type 0) → OnGives r Q → OnGives r R → OnGives r (λ a s. Q a s × R a s)
both (stops f) Q R h k = tt
both (gives a s) Q R h k = (h, k)

-- by a test
pub by_wait : {A : Type 0} (b : Bool) (x y : Step A) (Q : Bool → A → Progress → Type 0) → OnGives x (Q true) → OnGives y (Q false) → OnGives (cond b x y) (Q b)
by_wait true x y Q h k = h
by_wait false x y Q h k = k

-- the second of two where a test fails
pub when_false : {A : Type 0} (b : Bool) (x y : Step A) (Q : A → Progress → Type 0) → OnGives x Q → (b ≡ false → OnGives y Q) → OnGives (cond b x y) Q
when_false true x y Q h k = h
when_false false x y Q h k = k refl

-- a fact of what a step gives that follows from another one
pub weaker : {A : Type 0} (r : Step A) (Q R : A → Progress → Type 0) → ((a : A) (s : Progress) → Q a s → R a s) → OnGives r Q → OnGives r R
weaker (stops f) Q R k h = tt
weaker (gives a s) Q R k h = k a s h

-- a lazy list, and any other
pub by_list : (p : BuildRole) (itemized : ℕ → Progress → Step PlainNodes) (others : Progress → Step PlainNodes) (s : Progress) (Q : Bool → PlainNodes → Progress → Type 0)
    → ((e : ℕ) → is_lazy p ≡ true → OnGives (itemized e s) (Q true)) → (is_lazy p ≡ false → OnGives (others s) (Q false)) → OnGives (if_lazy p itemized others s) (Q (is_lazy p))
by_list (composes place props) itemized others s Q h k = k refl
by_list (provides name value) itemized others s Q h k = k refl
by_list (keeps kept) itemized others s Q h k = k refl
by_list (lists extent) itemized others s Q h k = h extent refl
by_list holds itemized others s Q h k = k refl

-- the child widgets of a node are found without a step
module _ (Q : Progress → Type 0) where
  pub given_keeps : (b : Blueprint) (p : BuildRole) (values : List Value) (number : ℕ) (fields : List Value) (w : PlainWidget) (s : Progress) → Q s → OnGives (given_by b p values number fields w s) (λ x t. Q t)
  given_keeps b (composes place props) values number fields w s h = either _ (stops _) (gives _ s) (λ x t. Q t) tt h
  given_keeps b (provides name value) values number fields w s h = h
  given_keeps b (keeps kept) values number fields w s h = h
  given_keeps b (lists extent) values number fields w s h = h
  given_keeps b holds values number fields w s h = h
