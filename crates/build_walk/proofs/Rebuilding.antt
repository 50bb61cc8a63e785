-- A build that keeps what it may comes to what the full build comes to.
use Rattle.std.proofs.Common.{◌≡◌, ℕ, nat_lt, cond, length, Option, Some, None, IfSome, List, [], ◌∷◌, map, refl, sym, ap, ◌∙◌, subst, Decides, slice_get, ◌≤◌, arith, zero, suc}
use Rattle.std.proofs.lemmas.List.{length-map}
use Rattle.fx_expr.specs.declared.values.Value.{Value}
use Rattle.fx_expr.specs.declared.values.Ty.{Ty}
use Rattle.fx_expr.specs.Exp.{Exp}
use Rattle.expr_check.specs.Names.{types_in}
use Rattle.expr_check.specs.Sight.{Sight, sight_of}
use Rattle.widget_model.specs.declared.decl.Decl.{Decl}
use Rattle.widget_model.specs.Look.{component}
use Rattle.widget_model.specs.Plain.{PlainWidget, plain}
use Rattle.widget_model.specs.Size.{count_of}
use Rattle.widget_model.specs.Typed.{ComponentType, IsTypedWidget}
use Rattle.program_check.specs.Checked.{PlainChecked, PlainCheckedComponent}
use Rattle.program_check.specs.Decl.{decl_of}
use Rattle.program_check.specs.ProgramCheck.{nothing_seen}
use Rattle.program_check.specs.TypedBody.{AreTypedInOrder}
use Rattle.program_check.specs.TypedChecked.{IsTypedChecked}
use Rattle.template_build.specs.Program.{declarations_of, declared_component, component_output}
use Rattle.plain_tree.specs.PlainNode.{PlainNode}
use Rattle.build_form.specs.Step.{output_too_large, and_then}
use Rattle.build_form.specs.Partner.{root_arrival}
use Rattle.build_form.specs.Entering.{Blueprint, first, depth_limit, output_limit, enter}
use Rattle.build_form.specs.FullBuild.{Screen, Ranges, failed, built_by, live_ranges, started, basis, both_phases, full_build}
use Rattle.build_form.specs.Numbered.{IsNumbered}
use Rattle.build_form.specs.Program.{names_in, blueprint_of}
use Rattle.build_form.specs.WellBuilt.{IsWellBuilt}
use Rattle.work_sets.specs.Members.{is_same_widget}
use Rattle.build_walk.specs.Reading.{AgreeAt}
use Rattle.build_walk.specs.Past.{Pasts, past_in}
use Rattle.build_walk.specs.Fresh.{ReadsItsNames, HasFreshOutputs, IsKnown}
use Rattle.build_walk.specs.Keeping.{second_again, both_again, rebuild}
use Rattle.build_walk.proofs.Outputs.{component_same}
use Rattle.build_walk.proofs.Stepping.{same_then}
use Rattle.build_walk.proofs.Arriving.{AreKnownHolders, holders_known, root_known}
use Rattle.build_walk.proofs.Reentering.{enter_same, enter_calm, second_same}
use Rattle.build_walk.proofs.Knowing.{old_known}

-- ---- the widgets of a program read what they declare

some_same : {A : Type 0} (x y : A) → Some x ≡ Some y → x ≡ y
some_same x y e = cc

map_found : {A B : Type 0} (f : A → B) (xs : List A) (i : ℕ) (y : B) → slice_get (map f xs) i ≡ Some y → (x : A) × (slice_get xs i ≡ Some x) × (f x ≡ y)
map_found f [] i y e = cc
map_found f (x ∷ xs) zero y e = (x, refl, some_same (f x) y e)
map_found f (x ∷ xs) (suc i) y e = map_found f xs i y e

typed_long : (S : Sight) (ts : List Ty) (es : List Exp) → AreTypedInOrder S ts es → length es ≡ length ts
typed_long S [] [] h = refl
typed_long S (t ∷ ts) (e ∷ es) h = ap suc (typed_long S ts es h.1)
typed_long S [] (e ∷ es) h = absurd h
typed_long S (t ∷ ts) [] h = absurd h

defaults_long : (c : PlainChecked) → IsTypedChecked c → length (blueprint_of c).defaults ≡ length c.inherited.names
defaults_long c h =
    let values : length (blueprint_of c).defaults ≡ length c.inherited.values = simp length-map in
    let names : length (types_in c.inherited.names) ≡ length c.inherited.names = simp length-map in
    values ∙ typed_long (sight_of nothing_seen) (types_in c.inherited.names) c.inherited.values h.inherited ∙ names

module _ (c : PlainChecked) (checked : IsTypedChecked c) where
  use_reads : (place : ℕ) (props : List Value) (declaration : Decl) (k : PlainCheckedComponent) (names : List ℕ) (slots : List PlainWidget) (fields was now : List Value) (number : ℕ)
      → slice_get c.components place ≡ Some k → declaration ≡ decl_of (length c.inherited.names) k → names ≡ declaration.inherited
      → length was ≡ length (blueprint_of c).defaults → length now ≡ length (blueprint_of c).defaults → AgreeAt names was now
      → component_output c place (names_in props fields was) slots number ≡ component_output c place (names_in props fields now) slots number
  use_reads place props declaration k names slots fields was now number found is listed long also agrees =
      component_same c place k (names_in props fields was) was now slots number found (long ∙ defaults_long c checked) (also ∙ defaults_long c checked)
      (subst (λ ns. AgreeAt ns was now) (listed ∙ ap (λ (x : Decl). x.inherited) is) agrees)

  pub reads_names : (w : PlainWidget) → IsTypedWidget (declarations_of c) w → ReadsItsNames (blueprint_of c) w
  reads_names (plain (component place props declaration) key slots children) typed =
      λ names fields was now number e long also agrees.
      let used = typed.filled in
      let at = map_found (declared_component (length c.inherited.names)) c.components place used.component used.named in
      let is : declaration ≡ decl_of (length c.inherited.names) at.0 = used.declared ∙ ap (λ (x : ComponentType). x.declaration) (sym at.2) in
      use_reads place props declaration at.0 names _ fields was now number at.1 is (sym (some_same declaration.inherited names e)) long also agrees
  reads_names (plain look key slots children) typed = λ names fields was now number e long also agrees. cc

-- ---- both phases

module _ (b : Blueprint) (pasts : Pasts) (exact : (v w : PlainWidget) → Decides (is_same_widget v w) (v ≡ w)) (old : Option PlainNode) (known : IfSome old (IsKnown b pasts)) where
  from_known : AreKnownHolders b pasts (basis b old).holder
  from_known = holders_known b pasts old known

  pub both_same : (ranges : PlainNode → Ranges) (root : PlainWidget) (next : ℕ) → both_again (basis b old) pasts ranges (root_arrival old root) (started next) ≡ both_phases (basis b old) ranges (root_arrival old root) (started next)
  unfolding both_again both_phases
  both_same ranges root next =
      let a = root_arrival old root in
      let start_calm : Unit {0} × (0 ≤ next) = (tt, omega arith) in
      ap (λ r. and_then r (λ tree s1. second_again (basis b old) pasts ranges tree s1.waiting s1))
      (enter_same (basis b old) pasts exact from_known 0 first depth_limit b.defaults a (started next) refl (root_known b pasts old root known) start_calm)
      ∙ same_then _ (enter (basis b old) first depth_limit b.defaults a (started next)) _ _
      (enter_calm (basis b old) pasts exact from_known 0 first depth_limit b.defaults a (started next) (root_known b pasts old root known) start_calm)
      (λ tree s1 calm. second_same (basis b old) pasts exact from_known 0 ranges tree s1.waiting s1 calm)

pub known_before : (c : PlainChecked) (old : Option PlainNode) (marks : List ℕ) (next : ℕ) → IsTypedChecked c → IfSome old (IsNumbered next) → IfSome old (IsWellBuilt (declarations_of c))
    → IfSome old (HasFreshOutputs (blueprint_of c) marks (blueprint_of c).defaults) → IfSome old (IsKnown (blueprint_of c) (past_in marks (blueprint_of c).defaults old))
known_before c None marks next checked numbered well fresh = tt
known_before c (Some old) marks next checked numbered well fresh =
    old_known (blueprint_of c) marks (declarations_of c) old (reads_names c checked) numbered.differ fresh well

pub rebuild_same : (exact : (v w : PlainWidget) → Decides (is_same_widget v w) (v ≡ w)) (c : PlainChecked) (screen : Screen) (old : Option PlainNode) (marks : List ℕ) (next : ℕ) (root : PlainWidget)
    → IsTypedChecked c → IfSome old (IsNumbered next) → IfSome old (IsWellBuilt (declarations_of c)) → IfSome old (HasFreshOutputs (blueprint_of c) marks (blueprint_of c).defaults)
    → rebuild (blueprint_of c) screen old marks next root ≡ full_build (blueprint_of c) screen old next root
unfolding rebuild full_build
rebuild_same exact c screen old marks next root checked numbered well fresh =
    ap (λ r. cond (nat_lt output_limit (count_of root)) (failed output_too_large) (built_by r))
    (both_same (blueprint_of c) (past_in marks (blueprint_of c).defaults old) exact old
    (known_before c old marks next checked numbered well fresh) (live_ranges screen) root next)
