-- What a build gives can be laid out.
use Rattle.std.proofs.Common.{◌≡◌, ℕ, suc, ◌+◌, ◌^◌, ◌≤◌, ℤ, Bool, true, false, cond, Option, Some, None, IfSome, List, [], ◌∷◌, ◌++◌, length, length-append, refl, ap, subst, arith}
use Rattle.std.specs.List.{All}
use Rattle.std.specs.Option.{ForSome}
use Rattle.fx_geom.specs.Offset.{IsPlacement}
use Rattle.fx_geom.specs.declared.words.Placed.{Placed}
use Rattle.widget_model.specs.Look.{Look, align, stack, flexible, positioned, sliver_padding, sliver_fixed, sliver_lazy, keep, inherit, component}
use Rattle.widget_model.specs.Plain.{PlainWidget, look_of, plain}
use Rattle.widget_model.specs.Plain.{children_of as child_widgets}
use Rattle.widget_model.specs.Typed.{Sort, Declarations, FitMembers, IsTypedWidget}
use Rattle.plain_tree.specs.declared.render.ParentData.{ParentData}
use Rattle.plain_tree.specs.declared.role.RenderRole.{RenderRole}
use Rattle.plain_tree.specs.declared.role.RenderRole.TheVariants as role
use Rattle.plain_tree.specs.RenderRole.{render_role_of, vanishes}
use Rattle.plain_tree.specs.PlainNode.{PlainNode, node, PlainNodes, no_nodes, more_nodes, count_of, counts_of}
use Rattle.plain_tree.specs.PlainNode.{list_of as nodes_in}
use Rattle.plain_tree.specs.Laws.{IsOne, OneWhere, VanishAlone, AllVanishAlone}
use Rattle.plain_tree.specs.Projection.{first_told, told_by, told_at, scroll_in, projected, projected_all, render_of}
use Rattle.plain_tree.specs.Render.{Render, render, renders_of, lazy_count}
use Rattle.layout_form.specs.Fits.{FitsLayout, IsTold, data_of, told_in, CanBeLaidOut, CanAllBeLaidOut}
use Rattle.build_form.specs.BuildRole.{build_role_of}
use Rattle.build_form.proofs.Entered.{all_cons}
use Rattle.build_form.specs.WellBuilt.{FitBelow, sorts_in, IsWellBuilt, AreWellBuilt}

-- ---- what vanishes has one child

one_of : (d : Declarations) (s : Sort) (ns : PlainNodes) → sorts_in d (nodes_in ns) ≡ s ∷ [] → IsOne ns
one_of d s no_nodes e = cc
one_of d s (more_nodes n no_nodes) e = tt
one_of d s (more_nodes n (more_nodes m ns)) e = cc

one_by_length : (d : Declarations) (ns : PlainNodes) → length (sorts_in d (nodes_in ns)) ≡ 1 → IsOne ns
one_by_length d no_nodes e = absurd (omega (arith, e))
one_by_length d (more_nodes n no_nodes) e = tt
one_by_length d (more_nodes n (more_nodes m ns)) e = absurd (omega (arith, e))

one_where : (d : Declarations) (look : Look) (ns : PlainNodes) → FitBelow d look (build_role_of look) (sorts_in d (nodes_in ns)) → OneWhere (vanishes (render_role_of look)) ns
one_where d (flexible flex fit) ns h = one_of d _ ns h
one_where d (positioned left top right bottom width height) ns h = one_of d _ ns h
one_where d (keep kept) ns h = one_of d _ ns h
one_where d (inherit name value) ns h = one_by_length d ns h
one_where d (component place props decl) ns h = one_of d _ ns h
one_where d _ ns h = tt

mutual
  pub vanish_alone : (d : Declarations) (n : PlainNode) → IsWellBuilt d n → VanishAlone n
  vanish_alone d (node number widget fields scroll index children) h = (one_where d (look_of widget) children h.0.fits, all_vanish_alone d children h.1)

  all_vanish_alone : (d : Declarations) (ns : PlainNodes) → AreWellBuilt d ns → AllVanishAlone ns
  all_vanish_alone d no_nodes h = tt
  all_vanish_alone d (more_nodes n ns) h = (vanish_alone d n h.0, all_vanish_alone d ns h.1)

-- ---- members and what is told

fits_members : (d : Declarations) (look : Look) → FitMembers d look → FitsLayout look
fits_members d (align ax ay) h = h
fits_members d (stack ax ay fit) h = h
fits_members d (sliver_padding left top right bottom) h = h
fits_members d (sliver_fixed extent) h = h.0
fits_members d (sliver_lazy extent) h = h.0
fits_members d _ h = tt

abbrev FitRole : RenderRole → Type 0
FitRole (role.Shares flex tight) = flex ≤ 1000000
FitRole (role.Places placed) = ForSome placed.right IsPlacement × ForSome placed.bottom IsPlacement
FitRole _ = Unit {0}

for_some : (o : Option ℤ) → IfSome o IsPlacement → ForSome o IsPlacement
for_some None h = λ x e. cc
for_some (Some z) h = λ x e. let same : z ≡ x = cc in subst IsPlacement same h

fits_role : (d : Declarations) (look : Look) → FitMembers d look → FitRole (render_role_of look)
fits_role d (flexible flex fit) h = h
fits_role d (positioned left top right bottom width height) h = (for_some right h.2, for_some bottom h.3)
fits_role d _ h = tt

untold : (d : ParentData) → d.flex ≡ 0 → d.placed ≡ None → IsTold d
untold d e f = record {
  flex = omega arith;
  right = λ p g. cc;
  bottom = λ p g. cc;
}

first_is_told : (above : RenderRole) (index : ℕ) → IsTold (first_told above index)
first_is_told role.Lazy index = untold _ refl refl
first_is_told _ index = untold _ refl refl

placed_told : (d : ParentData) (p : Placed) → d.flex ≤ 1000000 → ForSome p.right IsPlacement × ForSome p.bottom IsPlacement → d.placed ≡ Some p → IsTold d
placed_told d p low h e = record {
  flex = low;
  right = λ q f. let same : p ≡ q = cc in subst (λ (x : Placed). ForSome x.right IsPlacement) same h.0;
  bottom = λ q f. let same : p ≡ q = cc in subst (λ (x : Placed). ForSome x.bottom IsPlacement) same h.1;
}

told_fits : (above r : RenderRole) (d : ParentData) → FitRole r → IsTold d → IsTold (told_by above r d)
told_fits role.Line (role.Shares flex tight) d h t = record { flex = h; right = t.right; bottom = t.bottom }
told_fits role.Pile (role.Places placed) d h t = placed_told _ placed t.flex h refl
told_fits _ _ d h t = t

at_fits : (above : RenderRole) (told : Option ParentData) (index : ℕ) → IfSome told IsTold → IsTold (told_at above told index)
at_fits above None index h = first_is_told above index
at_fits above (Some t) index h = h

members_of : (d : Declarations) (w : PlainWidget) → IsTypedWidget d w → FitMembers d (look_of w)
members_of d (plain look k slots children) h = h.members

-- ---- render nodes

abbrev AllCan : List Render → Type 0
AllCan [] = Unit {0}
AllCan (r ∷ rs) = (IsTold (data_of r) × CanBeLaidOut r) × AllCan rs

can_append : (xs ys : List Render) → AllCan xs → AllCan ys → AllCan (xs ++ ys)
can_append [] ys h k = k
can_append (x ∷ xs) ys h k = (h.0, can_append xs ys h.1 k)

can_cond : (b : Bool) (xs ys : List Render) → AllCan xs → AllCan ys → AllCan (cond b xs ys)
can_cond true xs ys h k = h
can_cond false xs ys h k = k

can_all : (rs : List Render) → AllCan rs → CanAllBeLaidOut (renders_of rs)
can_all [] h = tt
can_all (r ∷ rs) h = (h.0.1, can_all rs h.1)

all_told : (rs : List Render) → AllCan rs → All IsTold (told_in (renders_of rs))
all_told [] h = λ k d low. absurd (omega arith)
all_told (r ∷ rs) h = all_cons IsTold (data_of r) (told_in (renders_of rs)) h.0.0 (all_told rs h.1)

told_len : (rs : List Render) → length (told_in (renders_of rs)) ≡ length rs
told_len [] = refl
told_len (r ∷ rs) = ap suc (told_len rs)

len_cond : (b : Bool) (xs ys : List Render) (n : ℕ) → length xs ≤ n → length ys ≤ n → length (cond b xs ys) ≤ n
len_cond true xs ys n h k = h
len_cond false xs ys n h k = k

mutual
  unfolding projected

  few_of : (above : RenderRole) (told : Option ParentData) (n : PlainNode) → length (projected above told n) ≤ count_of n
  few_of above told (node number widget fields scroll index children) =
      let r = render_role_of (look_of widget) in
      let link = told_at above told index in
      let below = few_in above (Some (told_by above r link)) children in
      len_cond (vanishes r) (projected_all above (Some (told_by above r link)) children)
      (render number (look_of widget) link (scroll_in r scroll) (lazy_count r (child_widgets widget)) (renders_of (projected_all r None children)) ∷ []) (suc (counts_of children)) (omega arith) (omega arith)

  few_in : (above : RenderRole) (told : Option ParentData) (ns : PlainNodes) → length (projected_all above told ns) ≤ counts_of ns
  few_in above told no_nodes = omega arith
  few_in above told (more_nodes n ns) =
      let a = few_of above told n in
      let b = few_in above told ns in
      let len : length (projected above told n ++ projected_all above told ns) ≡ length (projected above told n) + length (projected_all above told ns) = length-append (projected above told n) (projected_all above told ns) in
      omega arith

mutual
  unfolding projected

  can_of : (d : Declarations) (above : RenderRole) (told : Option ParentData) (n : PlainNode) → IfSome told IsTold → IsWellBuilt d n → count_of n ≤ 2 ^ 44 → AllCan (projected above told n)
  can_of d above told (node number widget fields scroll index children) t h few =
      let r = render_role_of (look_of widget) in
      let link = told_at above told index in
      let here = at_fits above told index t in
      let members = members_of d widget h.0.typed in
      let through = can_in d above (Some (told_by above r link)) children (told_fits above r link (fits_role d (look_of widget) members) here) h.1 (omega arith) in
      let below = can_in d r None children tt h.1 (omega arith) in
      let rs = projected_all r None children in
      let len = few_in r None children in
      let same = told_len rs in
      can_cond (vanishes r) (projected_all above (Some (told_by above r link)) children)
      (render number (look_of widget) link (scroll_in r scroll) (lazy_count r (child_widgets widget)) (renders_of rs) ∷ []) through
      ((here, (record { members = fits_members d (look_of widget) members; told = all_told rs below; few = omega arith }, can_all rs below)), tt)

  can_in : (d : Declarations) (above : RenderRole) (told : Option ParentData) (ns : PlainNodes) → IfSome told IsTold → AreWellBuilt d ns → counts_of ns ≤ 2 ^ 44 → AllCan (projected_all above told ns)
  can_in d above told no_nodes t h few = tt
  can_in d above told (more_nodes n ns) t h few =
      can_append (projected above told n) (projected_all above told ns) (can_of d above told n t h.0 (omega arith)) (can_in d above told ns t h.1 (omega arith))

at_first : (rs : List Render) → AllCan rs → All CanBeLaidOut rs
at_first [] h = λ k d low. absurd (omega arith)
at_first (r ∷ rs) h = all_cons CanBeLaidOut r rs h.0.1 (at_first rs h.1)

pub can_be_laid_out : (d : Declarations) (n : PlainNode) → IsWellBuilt d n → count_of n ≤ 2 ^ 44 → All CanBeLaidOut (render_of n)
can_be_laid_out d n h few = at_first (render_of n) (can_of d role.Plain None n tt h few)
