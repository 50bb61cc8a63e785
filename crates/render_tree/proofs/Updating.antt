-- What another widget changes, by what the code compares.
use Rattle.std.proofs.Common.{◌≡◌, ◌↔◌, ◌&&◌, ℕ, Bool, IsTrue, Option, Some, eqb, eqb-true, eq-eqb, sym, ap, ◌∙◌, subst}
use Rattle.std.proofs.lemmas.Bool.{and_parts, and_from}
use Rattle.fx_handles.specs.declared.Handle.{Handle}
use Rattle.fx_handles.specs.ArenaLaws.{same_Some}
use Rattle.node_tree.specs.Tree.{Tree, parent_at}
use Rattle.widget_model.specs.declared.widgets.Widget.{Widget}
use Rattle.widget_model.specs.Plain.{PlainWidget, look_of}
use Rattle.widget_model.specs.View.{look_in, plain_of}
use Rattle.plain_tree.specs.RenderRole.{render_role_of}
use Rattle.plain_tree.specs.Render.{lazy_count}
use Rattle.work_roles.specs.ForLayout.{for_layout}
use Rattle.tree_marks.specs.Marking.{Marking}
use Rattle.render_tree.specs.Object.{RenderObject}
use Rattle.render_tree.specs.Tree.{object_at}
use Rattle.render_tree.specs.Marks.{layout_marks, paint_marks}
use Rattle.render_tree.specs.Edits.{Changes, with_widget}
use Rattle.render_tree.specs.Calls.{MarksAt}
use Rattle.render_tree.specs.Updates.{IsReadSame, EndsSame, MarksUnless, Updated}
use Rattle.render_tree.proofs.Keeping.{counted}

pub read_same : (old new : Widget) (r s : Bool) (c d : ℕ) → r ≡ (s && eqb c d) → IsTrue s ↔ (for_layout (look_in old.kind) ≡ for_layout (look_in new.kind))
    → c ≡ lazy_count (render_role_of (look_in old.kind)) old.children → d ≡ lazy_count (render_role_of (look_in new.kind)) new.children → IsTrue r ↔ IsReadSame (plain_of old) (plain_of new)
read_same old new r s c d is_r is_s is_c is_d = (
  λ i.
      let parts = and_parts s (eqb c d) (sym is_r ∙ i) in
      record { look = is_s.0 parts.0; count = sym (is_c ∙ counted old) ∙ (eqb-true c d parts.1 ∙ (is_d ∙ counted new)) },
  λ k. is_r ∙ and_from s (eqb c d) (is_s.1 k.look) (eq-eqb c d ((is_c ∙ counted old) ∙ (k.count ∙ sym (is_d ∙ counted new)))),
)

unless : (m : Marking RenderObject) (P : Type 0) (h : Option Handle) (old new : Tree RenderObject) (b : Bool) → IsTrue b ↔ P → (IsTrue b → new ≡ old) → ((IsTrue b → ⊥) → MarksAt m h old new) → MarksUnless m P h old new
unless m P h old new b is same other = record {
  same = λ p. same (is.1 p);
  other = λ none. other (λ i. none (is.0 i));
}

pub told_of : (P : PlainWidget → PlainWidget → Type 0) (b : Bool) (x y p q : PlainWidget) → x ≡ p → y ≡ q → IsTrue b ↔ P x y → IsTrue b ↔ P p q
told_of P b x y p q is_x is_y told = subst (λ z. IsTrue b ↔ P p z) is_y (subst (λ z. IsTrue b ↔ P z y) is_x told)

-- the widget first, and then each mark
pub updated : (old a b c new : Tree RenderObject) (h : Handle) (seen : RenderObject) (x y p : PlainWidget) (read ends look : Bool) (q : Option Handle) → object_at old h ≡ Some seen → x ≡ seen.widget → y ≡ p → q ≡ parent_at old h
    → IsTrue read ↔ IsReadSame x y → IsTrue ends ↔ EndsSame x y → IsTrue look ↔ (look_of x ≡ look_of y) → Changes old a h (with_widget p)
    → (IsTrue read → b ≡ a) → ((IsTrue read → ⊥) → MarksAt layout_marks (Some h) a b)
    → (IsTrue ends → c ≡ b) → ((IsTrue ends → ⊥) → MarksAt layout_marks q b c)
    → (IsTrue look → new ≡ c) → ((IsTrue look → ⊥) → MarksAt paint_marks (Some h) c new)
    → (o : RenderObject) → object_at old h ≡ Some o → Updated old new h o p
updated old a b c new h seen x y p read ends look q at is_x is_y is_q is_read is_ends is_look changes same_read other_read same_ends other_ends same_look other_look o is =
    let same : seen ≡ o = same_Some (sym at ∙ is) in
    let is_o : x ≡ o.widget = is_x ∙ ap (λ (r : RenderObject). r.widget) same in (
      a,
      changes.live o is,
      (
        b,
        unless layout_marks (IsReadSame o.widget p) (Some h) a b read (told_of IsReadSame read x y o.widget p is_o is_y is_read) same_read other_read,
        (
          c,
          unless layout_marks (EndsSame o.widget p) (parent_at old h) b c ends (told_of EndsSame ends x y o.widget p is_o is_y is_ends) same_ends
              (λ none. subst (λ z. MarksAt layout_marks z b c) is_q (other_ends none)),
          unless paint_marks (look_of o.widget ≡ look_of p) (Some h) c new look (told_of (λ u v. look_of u ≡ look_of v) look x y o.widget p is_o is_y is_look) same_look other_look,
        ),
      ),
    )
