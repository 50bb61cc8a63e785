-- How many rules a flush runs, against the layout region.
use Rattle.std.proofs.Common.{◌≡◌, ℕ, ◌+◌, ◌≤◌, Bool, true, false, not, ◌&&◌, ◌||◌, Option, Some, None, List, [], ◌∷◌, ◌++◌, length, refl, sym, ap, ◌∙◌, arith, if◌then◌else◌}
use Rattle.std.proofs.lemmas.Bool.{or_left, or_right, false≢true}
use Rattle.fx_geom.specs.Bounds.{tight}
use Rattle.fx_geom.specs.declared.shapes.Size.{Size}
use Rattle.fx_handles.specs.declared.Handle.{Handle}
use Rattle.node_tree.specs.Forest.{Forest, size}
use Rattle.node_tree.specs.Forest.Forest.{none, tree}
use Rattle.plain_tree.specs.Render.{Render}
use Rattle.layout_form.specs.declared.asks.Ask.{Ask}
use Rattle.layout_form.specs.declared.asks.Ask.TheVariants.{AsBox}
use Rattle.layout_walk.specs.Asking.{has_frame, is_due}
use Rattle.layout_walk.specs.Flush.{ticks, runs, tree_runs, one_runs, held_runs, one_each}
use Rattle.layout_walk.specs.Full.{asks_at, objects}
use Rattle.layout_walk.specs.Node.{LayoutNode, asked, member}
use Rattle.layout_walk.specs.Walk.{kept_asks}
use Rattle.layout_walk.specs.Rule.{LayoutParts, ask_of, later}
use Rattle.layout_walk.specs.Work.{due_count, AreKnown}
use Rattle.layout_owner.specs.Roots.{rooted, view_asks, IsAskedAs}
use Rattle.layout_rules.specs.Nodes.{layout_node}
use Rattle.render_tree.specs.Object.{RenderObject, object_look}
use Rattle.render_tree.specs.Plain.{renders_of}
use Rattle.work_roles.specs.Place.{RegionPlace, at_root, below}
use Rattle.work_sets.specs.Before.{Before}
use Rattle.work_sets.specs.InTree.{Standing, standing}
use Rattle.work_sets.specs.Layout.{frame_judge, layout_region, is_changed_since, is_same_for_layout, is_changed_root}
use Rattle.work_sets.specs.Before.{is_touched}
use Rattle.work_sets.specs.Region.{Judge, is_inside, is_reached, reaches_out, some_reaches_out, region_in, region_below}
use Rattle.work_sets.proofs.Wholes.{region_all_below}
use Rattle.build_walk.specs.Changing.{render_over}
use Rattle.counted_work.specs.Inside.{RootFlagsInside}
use Rattle.counted_work.proofs.Inside.{root_due_inside, reached_inside, numbers_sized, nodes_sized}

-- ---- no more than the tree

held_few : (b : Bool) → held_runs 1 b ≤ 1
held_few true = omega arith
held_few false = omega arith

one_few : (P : LayoutParts) (due held : Bool) (v : LayoutNode) (ask : Ask) (kids : Forest LayoutNode) (under : List (Option Ask) → ℕ) (n : ℕ) → ((xs : List (Option Ask)) → under xs ≤ n) → one_runs 1 P due held v ask kids under ≤ 1 + n
one_few P true true v ask kids under n few = let a = held_few (has_frame v.frame (P.fixed (member v) ask)) in omega (arith, a)
one_few P true false v ask kids under n few = let a = few (asks_at P v ask kids (objects P kids)) in omega (arith, a)
one_few P false true v ask kids under n few = omega arith
one_few P false false v ask kids under n few = let a = few (kept_asks kids) in omega (arith, a)

tree_few : (P : LayoutParts) (outer : Bool) (ask : Option Ask) (v : LayoutNode) (kids : Forest LayoutNode) (under : List (Option Ask) → ℕ) (n : ℕ) → ((xs : List (Option Ask)) → under xs ≤ n) → tree_runs 1 P outer ask v kids under ≤ 1 + n
tree_few P outer None v kids under n few = omega arith
tree_few P outer (Some ask) v kids under n few = one_few P (is_due v ask) (outer && P.holds v.look ask) v ask kids under n few

pub ticks_few : (P : LayoutParts) (outer : Bool) (asks : List (Option Ask)) (f : Forest LayoutNode) → ticks P outer asks f ≤ size f
unfolding runs
ticks_few P outer asks none = omega arith
ticks_few P outer asks (tree h v kids rest) =
    let here = tree_few P outer (ask_of asks) v kids (λ xs. runs one_each P outer xs kids) (size kids) (λ xs. ticks_few P outer xs kids) in
    let others = ticks_few P outer (later asks) rest in
    omega (arith, here, others)

-- ---- another view

by_view : (before : Before) (p : RegionPlace) (r : Render) → p.top ≡ true → before.same_view ≡ false → (x : Option Standing) → is_changed_since x before p r ≡ true
by_view before p r top view None = refl
by_view before p r top view (Some was) =
    or_right (not (is_same_for_layout was.node r)) (is_touched before.touched r || is_changed_root before was.place p)
    (or_right (is_touched before.touched r) (is_changed_root before was.place p) (other was.place.top p.top before.same_view top view))
  where
    other : (was_top now_top same : Bool) → now_top ≡ true → same ≡ false → (now_top && not (was_top && same)) ≡ true
    other true true true e f = absurd (false≢true (sym f))
    other false true true e f = refl
    other true true false e f = refl
    other false true false e f = refl
    other w false same e f = absurd (false≢true e)

whole_region : (before : Before) (o : RenderObject) (kids : Forest RenderObject) → before.same_view ≡ false → length (layout_region before (render_over o kids)) ≡ 1 + size kids
whole_region before o kids view = by_all (reaches_out judge at_root r) (reached_inside judge (reaches_out judge at_root r) at_root r (λ e. e) reached)
  where
    judge : Judge
    judge = frame_judge before

    r : Render
    r = render_over o kids

    reached : is_reached judge at_root r ≡ true
    reached = or_left (judge.is_changed at_root r) (some_reaches_out judge (below at_root (object_look o)) (renders_of kids)) (by_view before at_root r refl view (standing before.tree o.number))

    by_inside : (inside : Bool) → inside ≡ true → length ((if inside then o.number ∷ [] else []) ++ region_below judge inside (below at_root (object_look o)) (renders_of kids)) ≡ 1 + size kids
    by_inside true e = let a = ap length (region_all_below judge (below at_root (object_look o)) (renders_of kids)) ∙ numbers_sized kids in omega (arith, a)
    by_inside false e = absurd (false≢true e)

    by_all : (all : Bool) → is_inside judge all at_root r ≡ true → length (region_in judge all at_root r) ≡ 1 + size kids
    by_all all e = by_inside (is_inside judge all at_root r) e

-- ---- the rules that a flush runs

known_root : (view : Size) (o : RenderObject) → (o.needs_layout ≡ false → asked (layout_node o) ≡ Some (AsBox (tight view))) → (h : Handle) (kids : Forest RenderObject) → AreKnown (view_asks view) (rooted (tree h o kids none))
known_root view o asks h kids = (record { shown = refl; asked = asks }, tt)

root_sized : (h : Handle) (o : RenderObject) (kids : Forest RenderObject) → size (rooted (tree h o kids none)) ≡ 1 + size kids
root_sized h o kids = let a = nodes_sized kids in omega (arith, a)

by_same_view : (due : (P : LayoutParts) (outer : Bool) (asks : List (Option Ask)) (f : Forest LayoutNode) → AreKnown asks f → ticks P outer asks f ≤ due_count f) (P : LayoutParts) (before : Before) (view : Size) (h : Handle) (o : RenderObject) (kids : Forest RenderObject)
    → RootFlagsInside (frame_judge before) (tree h o kids none) → (b : Bool) → before.same_view ≡ b → (before.same_view ≡ true → IsAskedAs view (tree h o kids none))
    → ticks P false (view_asks view) (rooted (tree h o kids none)) ≤ length (layout_region before (render_over o kids))
by_same_view due P before view h o kids flags true e asks =
    let few = due P false (view_asks view) (rooted (tree h o kids none)) (known_root view o (asks e) h kids) in
    let inside = root_due_inside (frame_judge before) h o kids flags in
    omega (arith, few, inside)
by_same_view due P before view h o kids flags false e asks =
    let few = ticks_few P false (view_asks view) (rooted (tree h o kids none)) in
    let sized = root_sized h o kids in
    let whole = whole_region before o kids e in
    omega (arith, few, sized, whole)

pub layouts_inside : (due : (P : LayoutParts) (outer : Bool) (asks : List (Option Ask)) (f : Forest LayoutNode) → AreKnown asks f → ticks P outer asks f ≤ due_count f) (P : LayoutParts) (before : Before) (view : Size) (h : Handle) (o : RenderObject) (kids : Forest RenderObject)
    → RootFlagsInside (frame_judge before) (tree h o kids none) → (before.same_view ≡ true → IsAskedAs view (tree h o kids none))
    → ticks P false (view_asks view) (rooted (tree h o kids none)) ≤ length (layout_region before (render_over o kids))
layouts_inside due P before view h o kids flags asks = by_same_view due P before view h o kids flags before.same_view refl asks
