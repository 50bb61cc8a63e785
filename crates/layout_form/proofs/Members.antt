-- Trees of widgets whose members lie in their ranges can be laid out.
use Rattle.std.proofs.Common.{◌≡◌, ap, refl, subst, ℕ, zero, suc, ◌+◌, ◌^◌, ◌<◌, ◌≤◌, Bool, true, false, Option, Some, None, List, [], ◌∷◌, ◌++◌, length, if◌then◌else◌, arith}
use Rattle.std.specs.Prelude.{ℤ, IfSome, slice_index_or}
use Rattle.std.specs.List.{All}
use Rattle.std.specs.Option.{ForSome}
use Rattle.fx_geom.specs.declared.words.Placed.{Placed}
use Rattle.fx_geom.specs.Offset.{IsPlacement}
use Rattle.widget_model.specs.Plain.{look_of, children_of as child_widgets}
use Rattle.widget_model.specs.Typed.{Declarations, FitMembers}
use Rattle.widget_model.specs.Look.{Look, sized_box, constrained_box, padding, align, colored_box, text, row, column, wrap, table, stack, flexible, positioned, opacity, clip_rect, repaint_boundary, merge_semantics, intrinsic_width, intrinsic_height, offstage, ignore_pointer, absorb_pointer, detector, semantics, exclude_semantics, custom_paint, custom_layout, viewport, sliver_to_box, sliver_padding, sliver_fixed, sliver_lazy, keep, inherit, component}
use Rattle.plain_tree.specs.declared.render.ParentData.{ParentData}
use Rattle.plain_tree.specs.declared.role.RenderRole.{RenderRole}
use Rattle.plain_tree.specs.declared.role.RenderRole.TheVariants.{Composes, Shares, Places, Line, Pile, Lazy, Window, Plain}
use Rattle.plain_tree.specs.PlainNode.{PlainNode, node, PlainNodes, no_nodes, more_nodes, count_of, counts_of}
use Rattle.plain_tree.specs.RenderRole.{render_role_of, vanishes}
use Rattle.plain_tree.specs.Render.{Render, render, renders_of, lazy_count}
use Rattle.plain_tree.specs.Projection.{projected, projected_all, render_of, first_told, told_at, told_by, scroll_in}
use Rattle.layout_form.specs.Fits.{FitsLayout, IsTold, Fits, data_of, told_in, CanBeLaidOut, CanAllBeLaidOut}
use Rattle.layout_form.specs.Members.{HasMembers, AllHaveMembers}

none_some : {X : Type 0} (x : X) → None ≡ Some x → ⊥
none_some x e = cc

some_same : {X : Type 0} (x y : X) → Some x ≡ Some y → x ≡ y
some_same x y e = cc

-- ---- what a kind's role tells

placed_from : (o : Option ℤ) → IfSome o IsPlacement → ForSome o IsPlacement
placed_from None h = λ x e. absurd (none_some x e)
placed_from (Some y) h = λ x e. subst IsPlacement (some_same y x e) h

abbrev RoleFits : RenderRole → Type 0
RoleFits Composes = Unit {0}
RoleFits (Shares flex tight) = flex ≤ 1000000
RoleFits (Places p) = ForSome p.right IsPlacement × ForSome p.bottom IsPlacement
RoleFits Line = Unit {0}
RoleFits Pile = Unit {0}
RoleFits Lazy = Unit {0}
RoleFits Window = Unit {0}
RoleFits Plain = Unit {0}

role_fits : (p : Declarations) (l : Look) → FitMembers p l → RoleFits (render_role_of l)
role_fits p (sized_box m0 m1) h = tt
role_fits p (constrained_box m0 m1 m2 m3) h = tt
role_fits p (padding m0 m1 m2 m3) h = tt
role_fits p (align m0 m1) h = tt
role_fits p (colored_box m0) h = tt
role_fits p (text m0 m1) h = tt
role_fits p (row m0 m1 m2) h = tt
role_fits p (column m0 m1 m2) h = tt
role_fits p (wrap m0 m1) h = tt
role_fits p (table m0) h = tt
role_fits p (stack m0 m1 m2) h = tt
role_fits p (flexible m0 m1) h = h
role_fits p (positioned m0 m1 m2 m3 m4 m5) h = (placed_from m2 h.2, placed_from m3 h.3)
role_fits p (opacity m0) h = tt
role_fits p clip_rect h = tt
role_fits p repaint_boundary h = tt
role_fits p merge_semantics h = tt
role_fits p intrinsic_width h = tt
role_fits p intrinsic_height h = tt
role_fits p (offstage m0) h = tt
role_fits p (ignore_pointer m0) h = tt
role_fits p (absorb_pointer m0) h = tt
role_fits p (detector m0 m1 m2 m3 m4 m5) h = tt
role_fits p (semantics m0 m1 m2) h = tt
role_fits p (exclude_semantics m0) h = tt
role_fits p (custom_paint m0) h = tt
role_fits p (custom_layout m0) h = tt
role_fits p (viewport m0) h = tt
role_fits p sliver_to_box h = tt
role_fits p (sliver_padding m0 m1 m2 m3) h = tt
role_fits p (sliver_fixed m0) h = tt
role_fits p (sliver_lazy m0) h = tt
role_fits p (keep m0) h = tt
role_fits p (inherit m0 m1) h = tt
role_fits p (component m0 m1 m2) h = tt

look_fits : (p : Declarations) (l : Look) → FitMembers p l → FitsLayout l
look_fits p (sized_box m0 m1) h = tt
look_fits p (constrained_box m0 m1 m2 m3) h = tt
look_fits p (padding m0 m1 m2 m3) h = tt
look_fits p (align m0 m1) h = h
look_fits p (colored_box m0) h = tt
look_fits p (text m0 m1) h = tt
look_fits p (row m0 m1 m2) h = tt
look_fits p (column m0 m1 m2) h = tt
look_fits p (wrap m0 m1) h = tt
look_fits p (table m0) h = tt
look_fits p (stack m0 m1 m2) h = h
look_fits p (flexible m0 m1) h = tt
look_fits p (positioned m0 m1 m2 m3 m4 m5) h = tt
look_fits p (opacity m0) h = tt
look_fits p clip_rect h = tt
look_fits p repaint_boundary h = tt
look_fits p merge_semantics h = tt
look_fits p intrinsic_width h = tt
look_fits p intrinsic_height h = tt
look_fits p (offstage m0) h = tt
look_fits p (ignore_pointer m0) h = tt
look_fits p (absorb_pointer m0) h = tt
look_fits p (detector m0 m1 m2 m3 m4 m5) h = tt
look_fits p (semantics m0 m1 m2) h = tt
look_fits p (exclude_semantics m0) h = tt
look_fits p (custom_paint m0) h = tt
look_fits p (custom_layout m0) h = tt
look_fits p (viewport m0) h = tt
look_fits p sliver_to_box h = tt
look_fits p (sliver_padding m0 m1 m2 m3) h = h
look_fits p (sliver_fixed m0) h = h.0
look_fits p (sliver_lazy m0) h = h.0
look_fits p (keep m0) h = tt
look_fits p (inherit m0 m1) h = tt
look_fits p (component m0 m1 m2) h = tt

nothing_told : (index : ℕ) → IsTold (record { flex = 0; tight = false; placed = None; index = index })
nothing_told index = record { flex = omega arith; right = λ q e. absurd (none_some q e); bottom = λ q e. absurd (none_some q e) }

first_fits : (above : RenderRole) (index : ℕ) → IsTold (first_told above index)
first_fits Composes index = nothing_told 0
first_fits (Shares flex tight) index = nothing_told 0
first_fits (Places q) index = nothing_told 0
first_fits Line index = nothing_told 0
first_fits Pile index = nothing_told 0
first_fits Lazy index = nothing_told index
first_fits Window index = nothing_told 0
first_fits Plain index = nothing_told 0

at_fits : (above : RenderRole) (told : Option ParentData) (index : ℕ) → IfSome told IsTold → IsTold (told_at above told index)
at_fits above None index h = first_fits above index
at_fits above (Some d) index h = h

shares_fit : (flex : ℕ) (tight : Bool) (d : ParentData) → flex ≤ 1000000 → IsTold d → IsTold (record d { flex = flex; tight = tight })
shares_fit flex tight d h k = record { flex = h; right = k.right; bottom = k.bottom }

places_fit : (q : Placed) (d : ParentData) → ForSome q.right IsPlacement → ForSome q.bottom IsPlacement → IsTold d → IsTold (record d { placed = Some q })
places_fit q d r b k = record {
  flex = k.flex;
  right = λ x e. subst (λ (y : Placed). ForSome y.right IsPlacement) (some_same q x e) r;
  bottom = λ x e. subst (λ (y : Placed). ForSome y.bottom IsPlacement) (some_same q x e) b;
}

by_fits : (above role : RenderRole) (d : ParentData) → RoleFits role → IsTold d → IsTold (told_by above role d)
by_fits Line (Shares flex tight) d h k = shares_fit flex tight d h k
by_fits Pile (Places q) d h k = places_fit q d h.0 h.1 k
by_fits _ _ d h k = k

-- ---- render nodes that can be laid out, and were told so

abbrev Good : List Render → Type 0
Good [] = Unit {0}
Good (r ∷ rs) = CanBeLaidOut r × IsTold (data_of r) × Good rs

good_append : (rs qs : List Render) → Good rs → Good qs → Good (rs ++ qs)
good_append [] qs h k = k
good_append (r ∷ rs) qs h k = (h.0, h.1, good_append rs qs h.2 k)

good_if : (t : Bool) (rs qs : List Render) → Good rs → Good qs → Good (if t then rs else qs)
good_if true rs qs h k = h
good_if false rs qs h k = k

all_can : (rs : List Render) → Good rs → CanAllBeLaidOut (renders_of rs)
all_can [] h = tt
all_can (r ∷ rs) h = (h.0, all_can rs h.2)

told_at_all : (d : ParentData) (ds : List ParentData) → IsTold d → All IsTold ds → (k : ℕ) (e : ParentData) → k < length (d ∷ ds) → IsTold (slice_index_or (d ∷ ds) k e)
told_at_all d ds here all zero e h = here
told_at_all d ds here all (suc k) e h = all k e (omega arith)

all_told : (rs : List Render) → Good rs → All IsTold (told_in (renders_of rs))
all_told [] h = λ k e p. absurd (omega arith)
all_told (r ∷ rs) h = λ k e p. told_at_all (data_of r) (told_in (renders_of rs)) h.1 (all_told rs h.2) k e p

told_count : (rs : List Render) → length (told_in (renders_of rs)) ≡ length rs
told_count [] = refl
told_count (r ∷ rs) = ap suc (told_count rs)

length_join : (rs qs : List Render) → length (rs ++ qs) ≡ length rs + length qs
length_join [] qs = omega arith
length_join (r ∷ rs) qs = let e : length (rs ++ qs) ≡ length rs + length qs = length_join rs qs in omega arith

few_if : (t : Bool) (rs qs : List Render) (n : ℕ) → length rs ≤ n → length qs ≤ n → length (if t then rs else qs) ≤ n
few_if true rs qs n h k = h
few_if false rs qs n h k = k

-- a node gives at most as many render nodes as it is nodes
mutual
  unfolding projected

  few_given : (above : RenderRole) (told : Option ParentData) (n : PlainNode) → length (projected above told n) ≤ count_of n
  few_given above told (node number w fields scroll index ns) =
      let role = render_role_of (look_of w) in
      let d = told_at above told index in
      let rest : length (projected_all above (Some (told_by above role d)) ns) ≤ counts_of ns = few_given_all above (Some (told_by above role d)) ns in
      few_if (vanishes role) (projected_all above (Some (told_by above role d)) ns)
      (render number (look_of w) d (scroll_in role scroll) (lazy_count role (child_widgets w)) (renders_of (projected_all role None ns)) ∷ [])
      (suc (counts_of ns)) (omega arith) (omega arith)

  few_given_all : (above : RenderRole) (told : Option ParentData) (ns : PlainNodes) → length (projected_all above told ns) ≤ counts_of ns
  few_given_all above told no_nodes = omega arith
  few_given_all above told (more_nodes n ns) =
      let here : length (projected above told n) ≤ count_of n = few_given above told n in
      let rest : length (projected_all above told ns) ≤ counts_of ns = few_given_all above told ns in
      let both : length (projected above told n ++ projected_all above told ns) ≡ length (projected above told n) + length (projected_all above told ns) =
      length_join (projected above told n) (projected_all above told ns) in
      omega arith

mutual
  unfolding projected

  good_given : (p : Declarations) (above : RenderRole) (told : Option ParentData) (n : PlainNode) → IfSome told IsTold → HasMembers p n → count_of n ≤ 2 ^ 44
      → Good (projected above told n)
  good_given p above told (node number w fields scroll index ns) h members few =
      let l = look_of w in
      let role = render_role_of l in
      let d = told_at above told index in
      let here : IsTold d = at_fits above told index h in
      let rs = projected_all role None ns in
      let below : Good rs = good_given_all p role None ns tt members.1 (omega arith) in
      let most : length rs ≤ counts_of ns = few_given_all role None ns in
      let count : length (told_in (renders_of rs)) ≡ length rs = told_count rs in
      let fits : Fits l (told_in (renders_of rs)) = record { members = look_fits p l members.0; told = all_told rs below; few = omega arith } in
      good_if (vanishes role) (projected_all above (Some (told_by above role d)) ns)
      (render number l d (scroll_in role scroll) (lazy_count role (child_widgets w)) (renders_of rs) ∷ [])
      (good_given_all p above (Some (told_by above role d)) ns (by_fits above role d (role_fits p l members.0) here) members.1 (omega arith))
      ((fits, all_can rs below), here, tt)

  good_given_all : (p : Declarations) (above : RenderRole) (told : Option ParentData) (ns : PlainNodes) → IfSome told IsTold → AllHaveMembers p ns → counts_of ns ≤ 2 ^ 44
      → Good (projected_all above told ns)
  good_given_all p above told no_nodes h members few = tt
  good_given_all p above told (more_nodes n ns) h members few =
      good_append (projected above told n) (projected_all above told ns)
      (good_given p above told n h members.0 (omega arith)) (good_given_all p above told ns h members.1 (omega arith))

pub trees_fit : (p : Declarations) (root : PlainNode) → HasMembers p root → count_of root ≤ 2 ^ 44 → CanAllBeLaidOut (renders_of (render_of root))
trees_fit p root members few = all_can (render_of root) (good_given p Plain None root tt members few)
