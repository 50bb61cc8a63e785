-- A node that gets the widget that it has stays as it is.
use Rattle.std.specs.Prelude.{Result, Ok, Err, OnOk}
use Rattle.std.proofs.Common.{◌≡◌, ap, refl, sym, subst, ◌∙◌, Bool, true, false, cond, Option, Some, None, option_map}
use Rattle.std.specs.Result.{is_err}
use Rattle.fx_handles.specs.declared.Handle.{Handle}
use Rattle.fx_handles.specs.Handle.{same}
use Rattle.fx_handles.specs.HandleLaws.{same-true}
use Rattle.node_tree.specs.Forest.{TreeNode, with_value_at}
use Rattle.node_tree.specs.Tree.{Tree, node_at, value_at}
use Rattle.node_tree.proofs.ForestLemmas.{same_Some}
use Rattle.widget_model.specs.Plain.{PlainWidget}
use Rattle.render_tree.specs.Edits.{Writes}
use Rattle.render_tree.specs.Object.{RenderObject}
use Rattle.render_tree.specs.Tree.{object_at}
use Rattle.render_tree.specs.Updates.{Updated}
use Rattle.layout_owner.specs.Stays.{Stays}

false_true : false ≡ true → ⊥
false_true e = cc

none_some : {X : Type 0} (x : X) → None ≡ Some x → ⊥
none_some x e = cc

kept : (h k : Handle) (o : RenderObject) (n : Option (TreeNode RenderObject)) → (same k h ≡ true → option_map (λ (x : TreeNode RenderObject). x.value) n ≡ Some o)
    → option_map (with_value_at h o k) n ≡ n
kept h k o None is = refl
kept h k o (Some n) is = by (same k h) refl
  where
    by : (b : Bool) → same k h ≡ b → option_map (with_value_at h o k) (Some n) ≡ Some n
    by true at =
        ap (λ (b : Bool). Some (cond {A = TreeNode RenderObject} b (record n { value = o }) n)) at
        ∙ ap (λ (v : RenderObject). Some (record n { value = v })) (sym (same_Some (is at)))
    by false at = ap (λ (b : Bool). Some (cond {A = TreeNode RenderObject} b (record n { value = o }) n)) at

write_stays : (old new : Tree RenderObject) (h : Handle) (o : RenderObject) → object_at old h ≡ Some o → Writes old new h o → Stays old new
write_stays old new h o is writes = record {
  nodes = λ k. writes.writes.nodes k ∙ kept h k o (node_at old k) (λ e. subst (λ (j : Handle). value_at old j ≡ Some o) (sym (same-true k h e)) is);
  root = writes.root;
  inactive = writes.inactive;
  handles = writes.writes.handles;
}

updated_stays : (old new : Tree RenderObject) (h : Handle) (o : RenderObject) (p : PlainWidget) → object_at old h ≡ Some o → o.widget ≡ p
    → Updated old new h o p → Stays old new
updated_stays old new h o p is same done =
    let same_done : Updated old new h o o.widget = subst (λ (q : PlainWidget). Updated old new h o q) (sym same) done in
    let last : new ≡ same_done.0 =
    same_done.2.2.2.same refl ∙ same_done.2.2.1.same (record { scrolled = refl; hidden = refl }) ∙ same_done.2.1.same (record { look = refl; count = refl }) in
    subst (λ (t : Tree RenderObject). Stays old t) (sym last) (write_stays old same_done.0 h o is same_done.1)

-- a live node has a value, and where its widget is this one
pub renewed : (old new : Tree RenderObject) (h : Handle) (p : PlainWidget) → option_map (λ (o : RenderObject). o.widget) (object_at old h) ≡ Some p
    → ((o : RenderObject) → object_at old h ≡ Some o → Updated old new h o p) → Stays old new
renewed old new h p is done = by (object_at old h) refl is
  where
    by : (n : Option RenderObject) → object_at old h ≡ n → option_map (λ (o : RenderObject). o.widget) n ≡ Some p → Stays old new
    by None at e = absurd (none_some p e)
    by (Some o) at e = updated_stays old new h o p at (same_Some e) (done o at)

-- a call that was refused always
pub not_spent : {A E : Type 0} (r : Result A E) (spent : Bool) → (spent ≡ true → is_err r ≡ true) → OnOk r (spent ≡ false)
not_spent {A} {E} (Ok x) true refused = absurd (false_true (refused refl))
not_spent {A} {E} (Ok x) false refused = refl
not_spent {A} {E} (Err e) spent refused = tt
