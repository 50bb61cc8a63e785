-- How many nodes both trees have after a build.
use Rattle.std.proofs.Common.{◌≡◌, ℕ, suc, ◌+◌, ◌≤◌, Bool, true, false, cond, Option, Some, None, refl, arith}
use Rattle.fx_handles.specs.declared.Handle.{Handle}
use Rattle.node_tree.specs.Forest.{Forest, size, append}
use Rattle.node_tree.specs.Forest.Forest.{none, tree}
use Rattle.plain_tree.specs.declared.render.ParentData.{ParentData}
use Rattle.plain_tree.specs.declared.role.RenderRole.{RenderRole}
use Rattle.plain_tree.specs.PlainNode.{count_of, counts_of, nodes_of as listed}
use Rattle.plain_tree.specs.Projection.{told_by, told_at}
use Rattle.plain_tree.specs.RenderRole.{vanishes}
use Rattle.element_tree.specs.Element.{Element}
use Rattle.element_tree.specs.Nodes.{nodes_of}
use Rattle.render_tree.specs.Redraw.{Redraw}
use Rattle.build_walk.specs.Kept.{node_over}
use Rattle.build_walk.specs.Renewing.{renewals, role_of, redraw_of, drawn_at, drawn}

pub size_renewed : (f : Forest Element) → size (renewals f) ≡ size f
size_renewed none = refl
size_renewed (tree h e kids rest) = let a = size_renewed kids in let b = size_renewed rest in omega (arith, a, b)

size_listed : (scrolled : ℕ → ℕ) (f : Forest Element) → size f ≡ counts_of (listed (nodes_of scrolled f))
size_listed scrolled none = refl
size_listed scrolled (tree h e kids rest) = let a = size_listed scrolled kids in let b = size_listed scrolled rest in omega (arith, a, b)

pub size_counted : (scrolled : ℕ → ℕ) (h : Handle) (e : Element) (kids : Forest Element) → size (tree h e kids none) ≡ count_of (node_over scrolled e kids)
size_counted scrolled h e kids = let a = size_listed scrolled kids in omega (arith, a)

size_append : (f g : Forest Redraw) → size (append f g) ≡ size f + size g
size_append none g = omega arith
size_append (tree h u below rest) g = let a = size_append rest g in omega (arith, a)

one_more : (o : Option Handle) (u : Redraw) (below : Forest Redraw) → size (drawn_at o u below) ≤ suc (size below)
one_more None u below = omega arith
one_more (Some k) u below = omega arith

through_or : (b : Bool) (n : ℕ) (through own : Forest Redraw) → size through ≤ n → size own ≤ suc n → size (cond b through own) ≤ suc n
through_or true n through own a c = omega (arith, a)
through_or false n through own a c = c

pub size_drawn : (above : RenderRole) (told : Option ParentData) (f : Forest Element) → size (drawn above told f) ≤ size f
size_drawn above told none = omega arith
size_drawn above told (tree h e kids rest) =
    let parent_data = told_at above told e.index in
    let through = drawn above (Some (told_by above (role_of e) parent_data)) kids in
    let below = drawn (role_of e) None kids in
    let own = drawn_at e.render (redraw_of e parent_data) below in
    let later = drawn above told rest in
    let one = one_more e.render (redraw_of e parent_data) below in
    let few = size_drawn (role_of e) None kids in
    let here = through_or (vanishes (role_of e)) (size kids) through own (size_drawn above (Some (told_by above (role_of e) parent_data)) kids) (omega (arith, one, few)) in
    let joined = size_append (cond (vanishes (role_of e)) through own) later in
    let rest_few = size_drawn above told rest in
    omega (arith, here, joined, rest_few)
