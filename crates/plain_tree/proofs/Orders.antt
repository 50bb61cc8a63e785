-- What of a tree's numbers the projection has.
use Rattle.std.proofs.Common.{◌≡◌, ℕ, Bool, true, false, Option, Some, None, List, [], ◌∷◌, ◌++◌, length, refl, sym, ap, ◌∙◌, subst, arith, inl, inr, if◌then◌else◌}
use Rattle.std.proofs.lemmas.List.{append_assoc, append-nil, length-append}
use Rattle.widget_model.specs.Look.{Look}
use Rattle.widget_model.specs.Plain.{look_of, children_of as child_widgets}
use Rattle.plain_tree.specs.declared.render.ParentData.{ParentData}
use Rattle.plain_tree.specs.declared.role.RenderRole.{RenderRole}
use Rattle.plain_tree.specs.declared.role.RenderRole.TheVariants.{Plain}
use Rattle.plain_tree.specs.PlainNode.{PlainNode, node, PlainNodes, no_nodes, more_nodes}
use Rattle.plain_tree.specs.RenderRole.{render_role_of, vanishes}
use Rattle.plain_tree.specs.Render.{Render, render, renders_of, lazy_count}
use Rattle.plain_tree.specs.Projection.{projected, projected_all, render_of, told_at, told_by, scroll_in}
use Rattle.plain_tree.specs.At.{numbers_of, numbers_in}
use Rattle.plain_tree.specs.Laws.{render_numbers_of, render_numbers_in, IsLeftOf, DiffersFrom, AllDiffer, IsOne, OneWhere, VanishAlone, AllVanishAlone}
use Rattle.plain_tree.proofs.Numbers.{left_both, all_left}

-- lists that are left of others, one after another
numbers_together : (rs qs : List Render) → render_numbers_in (renders_of (rs ++ qs)) ≡ render_numbers_in (renders_of rs) ++ render_numbers_in (renders_of qs)
numbers_together [] qs = refl
numbers_together (r ∷ rs) qs =
    ap (λ l. render_numbers_of r ++ l) (numbers_together rs qs) ∙ sym (append_assoc (render_numbers_of r) (render_numbers_in (renders_of rs)) (render_numbers_in (renders_of qs)))

-- a node of its own and one that vanishes
order_by : (gone : Bool) (number : ℕ) (look : Look) (d : ParentData) (s c : ℕ) (through below : List Render) (ns : List ℕ)
    → IsLeftOf (render_numbers_in (renders_of through)) ns → IsLeftOf (render_numbers_in (renders_of below)) ns
    → IsLeftOf (render_numbers_in (renders_of (if gone then through else (render number look d s c (renders_of below) ∷ [])))) (number ∷ ns)
order_by true number look d s c through below ns h k = inl h
order_by false number look d s c through below ns h k =
    inr (render_numbers_in (renders_of below) ++ [], refl, subst (λ l. IsLeftOf l ns) (sym (append-nil (render_numbers_in (renders_of below)))) k)

mutual
  unfolding projected

  order_kept : (above : RenderRole) (told : Option ParentData) (n : PlainNode) → IsLeftOf (render_numbers_in (renders_of (projected above told n))) (numbers_of n)
  order_kept above told (node number w fs s i ns) =
      let role = render_role_of (look_of w) in
      let d = told_at above told i in
      order_by (vanishes role) number (look_of w) d (scroll_in role s) (lazy_count role (child_widgets w))
      (projected_all above (Some (told_by above role d)) ns) (projected_all role None ns) (numbers_in ns)
      (order_kept_all above (Some (told_by above role d)) ns) (order_kept_all role None ns)

  order_kept_all : (above : RenderRole) (told : Option ParentData) (ns : PlainNodes) → IsLeftOf (render_numbers_in (renders_of (projected_all above told ns))) (numbers_in ns)
  order_kept_all above told no_nodes = refl
  order_kept_all above told (more_nodes n ns) =
      subst (λ l. IsLeftOf l (numbers_of n ++ numbers_in ns)) (sym (numbers_together (projected above told n) (projected_all above told ns)))
      (left_both (render_numbers_in (renders_of (projected above told n))) (numbers_of n) (render_numbers_in (renders_of (projected_all above told ns))) (numbers_in ns)
      (order_kept above told n) (order_kept_all above told ns))

pub order_law : (n : PlainNode) → IsLeftOf (render_numbers_in (renders_of (render_of n))) (numbers_of n)
order_law n = order_kept Plain None n

-- what is left of a list of numbers that differ are numbers that differ
pub apart_law : (n : PlainNode) → AllDiffer (numbers_of n) → AllDiffer (render_numbers_in (renders_of (render_of n)))
apart_law n h = all_left (render_numbers_in (renders_of (render_of n))) (numbers_of n) (order_law n) h

-- one render node where what vanishes has one child
one_by : (gone : Bool) (r : Render) (through : List Render) (ns : PlainNodes) → (IsOne ns → length through ≡ 1) → OneWhere gone ns
    → length (if gone then through else (r ∷ [])) ≡ 1
one_by true r through ns h k = h k
one_by false r through ns h k = refl

mutual
  unfolding projected

  one_root : (above : RenderRole) (told : Option ParentData) (n : PlainNode) → VanishAlone n → length (projected above told n) ≡ 1
  one_root above told (node number w fs s i ns) h =
      let role = render_role_of (look_of w) in
      let d = told_at above told i in
      one_by (vanishes role) (render number (look_of w) d (scroll_in role s) (lazy_count role (child_widgets w)) (renders_of (projected_all role None ns)))
      (projected_all above (Some (told_by above role d)) ns) ns (λ one. one_through above (Some (told_by above role d)) ns one h.1) h.0

  one_through : (above : RenderRole) (told : Option ParentData) (ns : PlainNodes) → IsOne ns → AllVanishAlone ns → length (projected_all above told ns) ≡ 1
  one_through above told no_nodes one h = absurd one
  one_through above told (more_nodes n no_nodes) one h = ap length (append-nil (projected above told n)) ∙ one_root above told n h.0
  one_through above told (more_nodes n (more_nodes m ns)) one h = absurd one

pub one_law : (n : PlainNode) → VanishAlone n → length (render_of n) ≡ 1
one_law n h = one_root Plain None n h

-- the last of a list of one is all of it
pub the_one : (all rest : List Render) (r : Render) → length all ≡ 1 → all ≡ rest ++ r ∷ [] → all ≡ r ∷ []
the_one all [] r long is = is
the_one all (q ∷ qs) r long is = absurd (omega (arith, long, ap length is, length-append (q ∷ qs) (r ∷ [])))
