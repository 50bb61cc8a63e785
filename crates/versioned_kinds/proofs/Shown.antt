-- A tree without lazy lists, and what of it is laid out.
use Rattle.std.proofs.Common.{◌≡◌, ℕ, Bool, true, false, cond, Option, Some, None, List, [], ◌∷◌, ◌++◌, refl, sym, subst, arith}
use Rattle.widget_model.specs.Look.{Look, sliver_lazy}
use Rattle.widget_model.specs.Plain.{PlainWidget, plain, look_of}
use Rattle.plain_tree.specs.declared.render.ParentData.{ParentData}
use Rattle.plain_tree.specs.declared.role.RenderRole.{RenderRole}
use Rattle.plain_tree.specs.declared.role.RenderRole.TheVariants.{Plain}
use Rattle.plain_tree.specs.PlainNode.{PlainNode, node, PlainNodes, no_nodes, more_nodes}
use Rattle.plain_tree.specs.Projection.{told_by, told_at, projected, projected_all, render_of}
use Rattle.plain_tree.specs.Render.{Render, renders_of}
use Rattle.plain_tree.specs.RenderRole.{render_role_of, vanishes}
use Rattle.build_form.specs.KeptStates.{AllAre}
use Rattle.session_form.specs.Framing.{top_of}
use Rattle.versioned_kinds.specs.Lists.{IsNoList, HasNoLists, RenderHasNoLists}
use Rattle.versioned_kinds.specs.Versions.{LookIsOf, WidgetKeepsTo, TreeKeepsTo}
use Rattle.versioned_kinds.specs.Widgets.{AllRenderLooksMeet}

-- ---- in version 1 no kind is a lazy list

no_list : (look : Look) → LookIsOf 1 look → IsNoList look
no_list (sliver_lazy extent) h = absurd (omega (arith, h))
no_list look h = refl

widget_no_list : (w : PlainWidget) → WidgetKeepsTo 1 w → IsNoList (look_of w)
widget_no_list (plain look key slots children) h = no_list look h.0

mutual
  first_version_lists_nothing : (n : PlainNode) → TreeKeepsTo 1 n → HasNoLists n
  first_version_lists_nothing (node number widget fields scroll index children) h = (widget_no_list widget h.0, none_below children h.1)

  none_below : (ns : PlainNodes) → AllAre (λ number widget fields scroll. WidgetKeepsTo 1 widget) ns → AllAre (λ number widget fields scroll. IsNoList (look_of widget)) ns
  none_below no_nodes h = tt
  none_below (more_nodes n ns) h = (first_version_lists_nothing n h.0, none_below ns h.1)

pub keeps_to_first : (version : ℕ) (n : PlainNode) → version ≡ 1 → TreeKeepsTo version n → HasNoLists n
keeps_to_first version n first h = first_version_lists_nothing n (subst (λ v. TreeKeepsTo v n) first h)

-- ---- what of a tree is laid out

abbrev Shown : List Render → Type 0
Shown rs = AllRenderLooksMeet IsNoList (renders_of rs)

abbrev NoneBelow : PlainNodes → Type 0
NoneBelow ns = AllAre (λ number widget fields scroll. IsNoList (look_of widget)) ns

shown_append : (rs qs : List Render) → Shown rs → Shown qs → Shown (rs ++ qs)
shown_append [] qs h k = k
shown_append (r ∷ rs) qs h k = (h.0, shown_append rs qs h.1 k)

append_shown : (rs qs : List Render) → Shown (rs ++ qs) → Shown rs × Shown qs
append_shown [] qs h = (tt, h)
append_shown (r ∷ rs) qs h = let rest = append_shown rs qs h.1 in ((h.0, rest.0), rest.1)

shown_cond : (b : Bool) (rs qs : List Render) → Shown rs → Shown qs → Shown (cond b rs qs)
shown_cond true rs qs h k = h
shown_cond false rs qs h k = k

mutual
  unfolding projected

  projected_none : (above : RenderRole) (told : Option ParentData) (n : PlainNode) → HasNoLists n → Shown (projected above told n)
  projected_none above told (node number widget fields scroll index children) h =
      let role = render_role_of (look_of widget) in
      shown_cond (vanishes role) _ _ (all_projected_none above (Some (told_by above role (told_at above told index))) children h.1) ((h.0, all_projected_none role None children h.1), tt)

  all_projected_none : (above : RenderRole) (told : Option ParentData) (ns : PlainNodes) → NoneBelow ns → Shown (projected_all above told ns)
  all_projected_none above told no_nodes h = tt
  all_projected_none above told (more_nodes n ns) h =
      shown_append (projected above told n) (projected_all above told ns) (projected_none above told n h.0) (all_projected_none above told ns h.1)

top_none : (rs : List Render) → Shown rs → RenderHasNoLists (top_of rs)
top_none [] h = (refl, tt)
top_none (r ∷ rs) h = h.0

pub shows_none : (n : PlainNode) → HasNoLists n → RenderHasNoLists (top_of (render_of n))
shows_none n h = top_none (render_of n) (projected_none Plain None n h)

-- ---- a lazy list has a render node

vanishing_no_list : (look : Look) → vanishes (render_role_of look) ≡ true → IsNoList look
vanishing_no_list (sliver_lazy extent) e = cc
vanishing_no_list look e = refl

shown_either : (b : Bool) (look : Look) (below : PlainNodes) (rs qs : List Render) → (b ≡ true → IsNoList look) → (Shown rs → NoneBelow below) → (Shown qs → IsNoList look × NoneBelow below)
    → Shown (cond b rs qs) → IsNoList look × NoneBelow below
shown_either true look below rs qs vanish h k shown = (vanish refl, h shown)
shown_either false look below rs qs vanish h k shown = k shown

mutual
  unfolding projected

  none_projected : (above : RenderRole) (told : Option ParentData) (n : PlainNode) → Shown (projected above told n) → HasNoLists n
  none_projected above told (node number widget fields scroll index children) h =
      let role = render_role_of (look_of widget) in
      shown_either (vanishes role) (look_of widget) children _ _ (vanishing_no_list (look_of widget))
      (none_all_projected above (Some (told_by above role (told_at above told index))) children)
      (λ k. (k.0.0, none_all_projected role None children k.0.1)) h

  none_all_projected : (above : RenderRole) (told : Option ParentData) (ns : PlainNodes) → Shown (projected_all above told ns) → NoneBelow ns
  none_all_projected above told no_nodes h = tt
  none_all_projected above told (more_nodes n ns) h =
      let both = append_shown (projected above told n) (projected_all above told ns) h in
      (none_projected above told n both.0, none_all_projected above told ns both.1)

pub none_shown : (n : PlainNode) (top : Render) → render_of n ≡ top ∷ [] → RenderHasNoLists top → HasNoLists n
none_shown n top is h = none_projected Plain None n (subst Shown (sym is) (h, tt))
