-- Both builds are of one tree: from the first build on, where fields are set, and after each build.
use Rattle.std.proofs.lemmas.Option.{none-some}
use Rattle.std.proofs.Common.{◌≡◌, ℕ, ◌+◌, Option, Some, None, IfSome, IfNone, option_copied, List, [], option_map, refl, sym, ap, ◌∙◌, subst}
use Rattle.std.specs.Borrow.{Bor}
use Rattle.widget_model.specs.Typed.{Declarations}
use Rattle.build_form.specs.Entering.{Blueprint}
use Rattle.fx_expr.specs.declared.values.Value.{Value}
use Rattle.fx_handles.specs.declared.Handle.{Handle}
use Rattle.std.specs.declared.alloc.Global.{Global}
use Rattle.std.specs.declared.rc.Rc.{Rc}
use Rattle.node_tree.specs.Tree.{Tree}
use Rattle.widget_model.specs.View.{shared}
use Rattle.widget_model.specs.declared.widgets.Widget.{Widget}
use Rattle.widget_model.specs.Plain.{PlainWidget}
use Rattle.program_check.specs.Checked.{PlainChecked}
use Rattle.plain_tree.specs.At.{changed_at, having_fields}
use Rattle.plain_tree.specs.PlainNode.{PlainNode}
use Rattle.build_form.specs.FullBuild.{Screen, Built, built, failed, full_build}
use Rattle.build_form.specs.Lent.{lent}
use Rattle.build_form.specs.Program.{blueprint_of}
use Rattle.build_form.specs.WellBuilt.{IsWellBuilt}
use Rattle.element_tree.specs.Edits.{Writes}
use Rattle.element_tree.specs.Element.{Element, Elements, element_at, number_at}
use Rattle.global_keys.specs.Holders.{Registry}
use Rattle.render_tree.specs.Object.{RenderObject}
use Rattle.build_owner.specs.Standing.{StandsFor, next_at}
use Rattle.build_owner.specs.Phases.{IsWholeBuild}
use Rattle.build_owner.specs.Standing.{Beginning}
use Rattle.render_tree.specs.Tree.{RenderTree}
use Rattle.worked_calls.specs.BothBuilds.{AreOfOneTree}

-- the element that a number finds
pub record Found (t : Tree Element) (h : Handle) (number : ℕ) : Type 0 where
  pub value : Element
  pub is : element_at t h ≡ Some value
  pub number_is : value.number ≡ number

abbrev given : ℕ → Option ℕ → ℕ
given n None = n
given n (Some m) = m

found_in : (t : Tree Element) (h : Handle) (number : ℕ) (o : Option Element) → element_at t h ≡ o → option_map (λ (e : Element). e.number) o ≡ Some number → Found t h number
found_in t h number (Some e) is numbered = record { value = e; is = is; number_is = ap (given 0) numbered }
found_in t h number None is numbered = absurd (none-some number numbered)

pub found : (t : Tree Element) (h : Handle) (number : ℕ) → number_at t h ≡ Some number → Found t h number
found t h number is = found_in t h number (element_at t h) refl is

-- what a tree is built from
abbrev pub begins : (c : PlainChecked) (root : Rc Widget Global) (plain : Option PlainNode) (next : ℕ) (t : Tree Element) (r : Tree RenderObject) (g : Registry) → AreOfOneTree c root plain next t r g → Beginning c t r g
begins c root plain next t r g both = record { marks = both.marks; old = plain; scrolled = both.scrolled; stands = both.stands }

lent_copied : (o : Option (Bor PlainNode)) → lent o ≡ option_copied o
lent_copied None = refl
lent_copied (Some n) = refl

-- what a build asks of the tree that is lent
pub lent_built : (d : Declarations) (o : Option (Bor PlainNode)) (tree : Option PlainNode) → option_copied o ≡ tree → IfSome tree (IsWellBuilt d)
    → IfSome (lent o) (IsWellBuilt d)
lent_built d o tree e h = let P : Option PlainNode → Type 0 = λ t. IfSome t (IsWellBuilt d) in subst P (sym (lent_copied o ∙ e)) h

-- what a build of the tree that is lent comes to
pub lent_full : (b : Blueprint) (screen : Screen) (next : ℕ) (w : PlainWidget) (o : Option (Bor PlainNode)) (tree : Option PlainNode) (end : Built) → option_copied o ≡ tree
    → full_build b screen (lent o) next w ≡ end → full_build b screen tree next w ≡ end
lent_full b screen next w o tree end e is = ap (λ t. full_build b screen t next w) (sym (lent_copied o ∙ e)) ∙ is

-- a number goes on where nothing was made
pub goes_on : (t u : Tree Element) (h : Handle) (e : Element) (next : ℕ) → Writes t u h e → next ≡ next_at t → next ≡ next_at u
goes_on t u h e next w is = is ∙ ap (λ n. n + 1) (sym w.writes.handles.inserted)

-- where both set the fields of one node
pub set_stands : (c : PlainChecked) (marks : List ℕ) (plain : Option PlainNode) (scrolled : ℕ → ℕ) (u : Tree Element) (r : Tree RenderObject) (g : Registry) (from number : ℕ) (fields : List Value)
    (old new : PlainNode) → StandsFor c marks (option_map (changed_at (λ n. having_fields fields n) from) plain) scrolled u r g
    → from ≡ number → plain ≡ Some old → new ≡ changed_at (having_fields fields) number old → StandsFor c marks (Some new) scrolled u r g
set_stands c marks plain scrolled u r g from number fields old new stands numbered is same =
    let tree : option_map (changed_at (λ n. having_fields fields n) from) plain ≡ Some new =
    ap (option_map (changed_at (having_fields fields) from)) is ∙ ap (λ k. Some (changed_at (having_fields fields) k old)) numbered ∙ ap (λ n. Some n) (sym same) in
    subst (λ (o : Option PlainNode). StandsFor c marks o scrolled u r g) tree stands

pub none_gives : {A : Type 0} (o : Option A) (P : Type 0) → o ≡ None → IfNone o P → P
none_gives None P is p = p
none_gives (Some a) P is p = absurd (none-some a (sym is))

abbrev built_node : PlainNode → Built → PlainNode
built_node n (failed f) = n
built_node n (built m next) = m

abbrev built_next : Built → ℕ
built_next (failed f) = 0
built_next (built m next) = next

-- after a build that both make of one tree
pub both_built : (c : PlainChecked) (root : Rc Widget Global) (plain : Option PlainNode) (next : ℕ) (t0 : Tree Element) (r0 : Tree RenderObject) (g0 : Registry) (both : AreOfOneTree c root plain next t0 r0 g0)
    (screen : Screen) (made : PlainNode) (after : ℕ) (was : Tree RenderObject) (t : Tree Element) (r : Tree RenderObject) (g : Registry)
    → full_build (blueprint_of c) screen plain next (shared root) ≡ built made after
    → IsWholeBuild c t0 r0 g0 (begins c root plain next t0 r0 g0 both) screen (shared root) was t r g
    → AreOfOneTree c root (Some made) after t r g
both_built c root plain next t0 r0 g0 both screen made after was t r g is whole =
    let same : built made after ≡ built whole.tree (next_at t) = sym is ∙ ap (λ n. full_build (blueprint_of c) screen plain n (shared root)) both.next_is ∙ whole.is in
    let tree : made ≡ whole.tree = ap (built_node made) same in
    record {
      marks = [];
      scrolled = both.scrolled;
      stands = subst (λ (n : PlainNode). StandsFor c [] (Some n) both.scrolled t r g) (sym tree) whole.stands;
      next_is = ap built_next same;
      typed = both.typed;
      sized = both.sized;
    }

-- where a call leaves them as they are
pub unmoved : (c : PlainChecked) (root : Rc Widget Global) (plain : Option PlainNode) (next : ℕ) (t u : Elements) (r s : RenderTree) (g h : Registry) → u ≡ t → s ≡ r → h ≡ g
    → AreOfOneTree c root plain next t.tree r.tree g → AreOfOneTree c root plain next u.tree s.tree h
unmoved c root plain next t u r s g h same_elements same_renders same_names both =
    let by_elements = subst (λ (x : Elements). AreOfOneTree c root plain next x.tree r.tree g) (sym same_elements) both in
    let by_renders = subst (λ (x : RenderTree). AreOfOneTree c root plain next u.tree x.tree g) (sym same_renders) by_elements in
    subst (λ (x : Registry). AreOfOneTree c root plain next u.tree s.tree x) (sym same_names) by_renders
