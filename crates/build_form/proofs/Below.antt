-- What widgets go on from.
use Rattle.std.proofs.Common.{◌≡◌, ◌≢◌, ℕ, suc, ◌<◌, Bool, true, false, Option, Some, None, List, [], ◌∷◌, length, map, drop, drop-cons, set, get_or, refl, sym, ap, ◌∙◌, arith}
use Rattle.fx_expr.specs.declared.values.Value.{Value}
use Rattle.widget_keys.specs.declared.keys.Key.{Key}
use Rattle.std.proofs.Common.{Result, Ok, Err, IfOk, cond, eqb}
use Rattle.std.proofs.lemmas.Grind.{get_or-set_at}
use Rattle.std.proofs.lemmas.List.{get_or-set_other}
use Rattle.std.proofs.lemmas.Option.{slice_get_read}
use borrow.Author.Tests.{eqb-true, eqb-false}
use Rattle.widget_model.specs.declared.widgets.Widget.{Widget}
use Rattle.widget_model.specs.View.{plain_of, look_in, slots_in}
use Rattle.widget_model.specs.Look.{Look}
use Rattle.widget_model.specs.Plain.{PlainWidget, plain, Widgets, widgets_of}
use Rattle.widget_model.specs.PlainLaws.{list_of-widgets_of}
use Rattle.plain_tree.specs.PlainNode.{PlainNode, node, nodes_of, widget_of, index_of}
use Rattle.plain_tree.specs.PlainNode.{list_of as nodes_in}
use Rattle.build_form.specs.BuildRole.{BuildRole, build_role_of, is_lazy}
use Rattle.build_form.specs.Partner.{widgets_below}

pub list_of-nodes_of : (ns : List PlainNode) → nodes_in (nodes_of ns) ≡ ns
list_of-nodes_of [] = refl
list_of-nodes_of (n ∷ ns) = ap (λ ms. n ∷ ms) (list_of-nodes_of ns)

module _ (number : ℕ) (look : Look) (k : Key Value) (slots : Widgets) (ws : List PlainWidget) (fields : List Value) (scroll index : ℕ) (ns : List PlainNode) where
  pub below_lazy : is_lazy (build_role_of look) ≡ true → widgets_below (node number (plain look k slots (widgets_of ws)) fields scroll index (nodes_of ns)) ≡ ws
  below_lazy lazy = rw lazy (list_of-widgets_of ws)

  pub below_other : is_lazy (build_role_of look) ≡ false → widgets_below (node number (plain look k slots (widgets_of ws)) fields scroll index (nodes_of ns)) ≡ map widget_of ns
  below_other other = rw other (ap (map widget_of) (list_of-nodes_of ns))

-- what an answer is equal to
pub ok_more : {A E B : Type 0} (f : A → B) (r : Result A E) (x y : B) → x ≡ y → IfOk r (λ v. f v ≡ x) → IfOk r (λ v. f v ≡ y)
ok_more f (Ok v) x y e h = h ∙ e
ok_more f (Err g) x y e h = tt

-- the same of the program's own node
module _ (now : PlainNode) (number : ℕ) (w v : Widget) (fields : List Value) (scroll index : ℕ) (ns : List PlainNode) (p : BuildRole)
    (view : node number (plain_of w) fields scroll index (nodes_of ns) ≡ now) (seen : v ≡ w) (part : p ≡ build_role_of (look_in v.kind)) where
  is_part : p ≡ build_role_of (look_in w.kind)
  is_part = part ∙ ap (λ (u : Widget). build_role_of (look_in u.kind)) seen

  pub lazy_listed : (u : Widget) → u ≡ w → is_lazy p ≡ true → u.children ≡ widgets_below now
  lazy_listed u e lazy =
      ap (λ (x : Widget). x.children) e
      ∙ sym (below_lazy number (look_in w.kind) w.key (widgets_of (slots_in w.kind)) w.children fields scroll index ns (sym (ap is_lazy is_part) ∙ lazy))
      ∙ ap widgets_below view

  pub others_listed : (ms : List PlainNode) → ms ≡ ns → is_lazy p ≡ false → map widget_of ms ≡ widgets_below now
  others_listed ms e other =
      ap (map widget_of) e
      ∙ sym (below_other number (look_in w.kind) w.key (widgets_of (slots_in w.kind)) w.children fields scroll index ns (sym (ap is_lazy is_part) ∙ other))
      ∙ ap widgets_below view
