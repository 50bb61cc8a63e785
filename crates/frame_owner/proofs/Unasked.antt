-- No lazy list of a tree that is well built is asked how much it would like: lists stand in Viewports alone.
use Rattle.std.proofs.Common.{◌≡◌, ℕ, Bool, true, false, not, ◌||◌, ◌&&◌, cond, Option, Some, None, List, [], ◌∷◌, ◌++◌, map, length, refl, sym, ap, subst, ◌∙◌, arith}
use Rattle.std.proofs.lemmas.Bool.{false≢true}
use Rattle.widget_model.specs.Look.{Look, sized_box, constrained_box, padding, align, colored_box, text, row, column, wrap, table, stack, flexible, positioned, opacity, clip_rect, repaint_boundary, merge_semantics, intrinsic_width, intrinsic_height, offstage, ignore_pointer, absorb_pointer, detector, semantics, exclude_semantics, custom_paint, custom_layout, viewport, sliver_to_box, sliver_padding, sliver_fixed, sliver_lazy, keep, inherit, component}
use Rattle.widget_model.specs.Plain.{PlainWidget, plain, Widgets, no_widgets, more, list_of as widget_list}
use Rattle.widget_model.specs.Typed.{Sort, box, sliver, Declarations, AllAre, AtMostOne, FitChildren, sort_with, sort_of, first_sort, sorts_of}
use Rattle.work_roles.specs.WorkRole.{is_intrinsic, is_viewport}
use Rattle.plain_tree.specs.declared.render.ParentData.{ParentData}
use Rattle.plain_tree.specs.declared.role.RenderRole.{RenderRole}
use Rattle.plain_tree.specs.declared.role.RenderRole.TheVariants.{Plain}
use Rattle.plain_tree.specs.PlainNode.{PlainNode, node, PlainNodes, no_nodes, more_nodes, list_of, widget_of}
use Rattle.plain_tree.specs.Projection.{projected, projected_all, told_at, told_by, scroll_in, render_of}
use Rattle.plain_tree.specs.Render.{Render, render, Renders, no_renders, more_renders, renders_of as renders_listed, lazy_count}
use Rattle.plain_tree.specs.RenderRole.{render_role_of, vanishes}
use Rattle.layout_walk.specs.Rules.{is_list}
use Rattle.build_form.specs.BuildRole.{build_role_of}
use Rattle.build_form.specs.WellBuilt.{FitBelow, sorts_in, IsWellBuilt, AreWellBuilt}
use Rattle.build_form.proofs.Entered.{sorts_same}
use Rattle.kept_layouts.specs.Items.{ListsUnasked, AllListsUnasked}
use Rattle.build_form.specs.FullBuild.{Screen}
use Rattle.build_form.specs.Program.{blueprint_of}
use Rattle.build_owner.specs.Phases.{IsWholeBuild}
use Rattle.build_owner.specs.Standing.{Beginning, next_at}
use Rattle.element_tree.specs.Element.{Element}
use Rattle.global_keys.specs.Holders.{Registry}
use Rattle.layout_form.specs.Corrected.{render_scrolled_by, renders_scrolled_by}
use Rattle.node_tree.specs.Tree.{Tree}
use Rattle.program_check.specs.Checked.{PlainChecked}
use Rattle.render_tree.specs.Object.{RenderObject}
use Rattle.render_tree.specs.Plain.{renders_of, root_tree}
use Rattle.screen_owner.proofs.Showing.{root_forest}
use Rattle.template_build.specs.Program.{declarations_of}
use Rattle.frame_owner.proofs.Inherits.{is_provider, OwnBelow, AllOwnBelow, build_own}
use Rattle.frame_owner.proofs.Shown.{projects_one}

-- ---- what is below a node is asked only where no sliver is

abbrev Quiet : Bool → Sort → Type 0
Quiet asked s = s ≡ sliver → asked ≡ false

abbrev AllQuiet : Bool → List Sort → Type 0
AllQuiet asked [] = Unit {0}
AllQuiet asked (s ∷ ss) = Quiet asked s × AllQuiet asked ss

no_sliver : box ≡ sliver → ⊥
no_sliver e = cc

boxes : (asked : Bool) (ss : List Sort) → AllAre box ss → AllQuiet asked ss
boxes asked [] h = tt
boxes asked (s ∷ ss) h = ((λ e. absurd (no_sliver (sym h.0 ∙ e))), boxes asked ss h.1)

one_box : (asked : Bool) (ss : List Sort) → AtMostOne box ss → AllQuiet asked ss
one_box asked [] h = tt
one_box asked (s ∷ []) h = ((λ e. absurd (no_sliver (sym h ∙ e))), tt)
one_box asked (s ∷ t ∷ ss) h = absurd h

just_one : (asked : Bool) (s : Sort) (ss : List Sort) → Quiet asked s → ss ≡ s ∷ [] → AllQuiet asked ss
just_one asked s ss h e = subst (AllQuiet asked) (sym e) (h, tt)

quiet : (ss : List Sort) → AllQuiet false ss
quiet [] = tt
quiet (s ∷ ss) = ((λ e. refl), quiet ss)

nothing_asked : (asked : Bool) (ss : List Sort) → asked ≡ false → AllQuiet asked ss
nothing_asked asked ss e = subst (λ a. AllQuiet a ss) (sym e) (quiet ss)

no_more : (asked : Bool) → (asked && false) ≡ false
no_more true = refl
no_more false = refl

still : (asked : Bool) → asked ≡ false → (asked && true) ≡ false
still true e = e
still false e = refl

-- whether what is below a node is asked
abbrev asks_below : Look → Bool → Bool
asks_below look asked = cond (vanishes (render_role_of look)) asked (is_intrinsic look || (asked && not (is_viewport look)))

abbrev provides_one : Look → Sort → List Sort → Type 0
provides_one (inherit name value) child ss = ss ≡ child ∷ []
provides_one _ child ss = Unit {0}

below_quiet : (d : Declarations) (look : Look) (child : Sort) (asked : Bool) (ss : List Sort) → FitBelow d look (build_role_of look) ss → provides_one look child ss → Quiet asked (sort_with d look child)
    → AllQuiet (asks_below look asked) ss
below_quiet d (sized_box width height) child asked ss fit one q = one_box _ ss fit
below_quiet d (constrained_box min_width max_width min_height max_height) child asked ss fit one q = one_box _ ss fit
below_quiet d (padding left top right bottom) child asked ss fit one q = one_box _ ss fit
below_quiet d (align ax ay) child asked ss fit one q = one_box _ ss fit
below_quiet d (colored_box color) child asked ss fit one q = one_box _ ss fit
below_quiet d (text words color) child asked ss fit one q = subst (AllQuiet (asked && true)) (sym fit) tt
below_quiet d (row main cross size) child asked ss fit one q = boxes _ ss fit
below_quiet d (column main cross size) child asked ss fit one q = boxes _ ss fit
below_quiet d (wrap spacing run_spacing) child asked ss fit one q = boxes _ ss fit
below_quiet d (table widths) child asked ss fit one q = boxes _ ss fit
below_quiet d (stack ax ay how) child asked ss fit one q = boxes _ ss fit
below_quiet d (flexible flex how) child asked ss fit one q = just_one asked box ss (λ e. absurd (no_sliver e)) fit
below_quiet d (positioned left top right bottom width height) child asked ss fit one q = just_one asked box ss (λ e. absurd (no_sliver e)) fit
below_quiet d (opacity alpha) child asked ss fit one q = one_box _ ss fit
below_quiet d clip_rect child asked ss fit one q = one_box _ ss fit
below_quiet d repaint_boundary child asked ss fit one q = one_box _ ss fit
below_quiet d merge_semantics child asked ss fit one q = one_box _ ss fit
below_quiet d intrinsic_width child asked ss fit one q = one_box _ ss fit
below_quiet d intrinsic_height child asked ss fit one q = one_box _ ss fit
below_quiet d (offstage hidden) child asked ss fit one q = one_box _ ss fit
below_quiet d (ignore_pointer ignoring) child asked ss fit one q = one_box _ ss fit
below_quiet d (absorb_pointer absorbing) child asked ss fit one q = one_box _ ss fit
below_quiet d (detector behavior tap long vertical horizontal pan) child asked ss fit one q = one_box _ ss fit
below_quiet d (semantics label button container) child asked ss fit one q = one_box _ ss fit
below_quiet d (exclude_semantics excluding) child asked ss fit one q = one_box _ ss fit
below_quiet d (custom_paint delegate) child asked ss fit one q = one_box _ ss fit
below_quiet d (custom_layout delegate) child asked ss fit one q = one_box _ ss fit
below_quiet d (viewport axis) child asked ss fit one q = nothing_asked (asked && false) ss (no_more asked)
below_quiet d sliver_to_box child asked ss fit one q = one_box _ ss fit
below_quiet d (sliver_padding left top right bottom) child asked ss fit one q = nothing_asked (asked && true) ss (still asked (q refl))
below_quiet d (sliver_fixed extent) child asked ss fit one q = boxes _ ss fit
below_quiet d (sliver_lazy extent) child asked ss fit one q = boxes _ ss fit
below_quiet d (keep kept) child asked ss fit one q = just_one asked box ss (λ e. absurd (no_sliver e)) fit
below_quiet d (inherit name value) child asked ss fit one q = just_one asked child ss q one
below_quiet d (component place props declaration) child asked ss fit one q = just_one asked (sort_with d (component place props declaration) child) ss q fit

-- a lazy list is a sliver
list_quiet : (d : Declarations) (look : Look) (child : Sort) (asked : Bool) → Quiet asked (sort_with d look child) → is_list look ≡ true → asked ≡ false
list_quiet d (sliver_lazy extent) child asked q e = q refl
list_quiet d look child asked q e = absurd (false≢true e)

-- ---- what an Inherit has below it is of its sort

same_list : (d : Declarations) (ws : Widgets) → sorts_of d ws ≡ map (sort_of d) (widget_list ws)
same_list d no_widgets = refl
same_list d (more w ws) = ap (λ ss. sort_of d w ∷ ss) (same_list d ws)

one_sort : (d : Declarations) (ws : Widgets) → length (sorts_of d ws) ≡ 1 → sorts_of d ws ≡ first_sort d ws ∷ []
one_sort d no_widgets e = absurd (omega (arith, e))
one_sort d (more w no_widgets) e = refl
one_sort d (more w (more v ws)) e = absurd (omega (arith, e))

provides_own : (d : Declarations) (look : Look) (ws : Widgets) (ns : PlainNodes) → FitChildren look (sorts_of d ws)
    → (is_provider (build_role_of look) ≡ true → map widget_of (list_of ns) ≡ widget_list ws) → provides_one look (first_sort d ws) (sorts_in d (list_of ns))
provides_own d (inherit name value) ws ns fit own = sorts_same d (list_of ns) ∙ (ap (map (sort_of d)) (own refl) ∙ (sym (same_list d ws) ∙ one_sort d ws fit))
provides_own d look ws ns fit own = tt

-- ---- the render nodes of a tree

unasked_append : (asked : Bool) (xs ys : List Render) → AllListsUnasked asked (renders_listed xs) → AllListsUnasked asked (renders_listed ys) → AllListsUnasked asked (renders_listed (xs ++ ys))
unasked_append asked [] ys h k = k
unasked_append asked (x ∷ xs) ys h k = (h.0, unasked_append asked xs ys h.1 k)

by_vanish : (b asked inner : Bool) (through own : List Render) (ss : List Sort) → AllQuiet (cond b asked inner) ss → (AllQuiet asked ss → AllListsUnasked asked (renders_listed through))
    → (AllQuiet inner ss → AllListsUnasked asked (renders_listed own)) → AllListsUnasked asked (renders_listed (cond b through own))
by_vanish true asked inner through own ss q f g = f q
by_vanish false asked inner through own ss q f g = g q

mutual
  unfolding projected

  one_unasked : (d : Declarations) (above : RenderRole) (told : Option ParentData) (asked : Bool) (n : PlainNode) → IsWellBuilt d n → OwnBelow n → Quiet asked (sort_of d (widget_of n))
      → AllListsUnasked asked (renders_listed (projected above told n))
  one_unasked d above told asked (node number (plain look k slots kids) fields scroll index children) h own q =
      let role = render_role_of look in
      let link = told_at above told index in
      let inner = is_intrinsic look || (asked && not (is_viewport look)) in
      let sorts = sorts_in d (list_of children) in
      by_vanish (vanishes role) asked inner (projected_all above (Some (told_by above role link)) children)
      (render number look link (scroll_in role scroll) (lazy_count role (widget_list kids)) (renders_listed (projected_all role None children)) ∷ []) sorts
      (below_quiet d look (first_sort d kids) asked sorts h.0.fits (provides_own d look kids children h.0.typed.held own.0) q)
      (λ s. all_unasked d above (Some (told_by above role link)) asked children h.1 own.1 s)
      (λ s. (((λ e. list_quiet d look (first_sort d kids) asked q e), all_unasked d role None inner children h.1 own.1 s), tt))

  all_unasked : (d : Declarations) (above : RenderRole) (told : Option ParentData) (asked : Bool) (ns : PlainNodes) → AreWellBuilt d ns → AllOwnBelow ns → AllQuiet asked (sorts_in d (list_of ns))
      → AllListsUnasked asked (renders_listed (projected_all above told ns))
  all_unasked d above told asked no_nodes h own q = tt
  all_unasked d above told asked (more_nodes n ns) h own q =
      unasked_append asked (projected above told n) (projected_all above told ns) (one_unasked d above told asked n h.0 own.0 q.0) (all_unasked d above told asked ns h.1 own.1 q.1)

pub unasked : (d : Declarations) (n : PlainNode) → IsWellBuilt d n → OwnBelow n → AllListsUnasked false (renders_listed (render_of n))
unasked d n h own = one_unasked d Plain None false n h own (λ e. refl)

-- ---- the render nodes of a build, and where they are scrolled

pub whole_unasked : (c : PlainChecked) (t0 : Tree Element) (r0 : Tree RenderObject) (g0 : Registry) (b : Beginning c t0 r0 g0) (screen : Screen) (w : PlainWidget) (was : Tree RenderObject) (t : Tree Element)
    (r : Tree RenderObject) (g : Registry) → IsWholeBuild c t0 r0 g0 b screen w was t r g → r.inactive ≡ [] → AllListsUnasked false (renders_of (root_tree r))
whole_unasked c t0 r0 g0 b screen w was t r g p alone =
    subst (λ rs. AllListsUnasked false rs)
    (sym (ap renders_of (root_forest r p.stands.renders.objects alone p.stands.renders.is) ∙ (p.stands.renders.projected ∙ projects_one p.tree)))
    (unasked (declarations_of c) p.tree p.stands.elements.well (build_own (blueprint_of c) screen b.old (next_at t0) (next_at t) w p.tree p.is))

mutual
  one_scrolled : (offset : ℕ → Option ℕ) (asked : Bool) (r : Render) → ListsUnasked asked r → ListsUnasked asked (render_scrolled_by offset r)
  one_scrolled offset asked (render number look told scroll count children) h = (h.0, scrolled_unasked offset (is_intrinsic look || (asked && not (is_viewport look))) children h.1)

  pub scrolled_unasked : (offset : ℕ → Option ℕ) (asked : Bool) (rs : Renders) → AllListsUnasked asked rs → AllListsUnasked asked (renders_scrolled_by offset rs)
  scrolled_unasked offset asked no_renders h = tt
  scrolled_unasked offset asked (more_renders r rs) h = (one_scrolled offset asked r h.0, scrolled_unasked offset asked rs h.1)
