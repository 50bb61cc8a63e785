-- A tree that was laid out and painted.
use Rattle.std.proofs.Common.{◌≡◌, ap, refl, sym, subst, ◌∙◌, ℕ, Bool, true, cond, is_some, Option, Some, None, option_map, [], ◌∷◌, ◌++◌}
use Rattle.std.specs.Option.{option_to_list}
use Rattle.fx_handles.specs.declared.Handle.{Handle}
use Rattle.node_tree.specs.Forest.{Forest, tops}
use Rattle.node_tree.specs.Forest.Forest.{none, tree}
use Rattle.node_tree.specs.Tree.{Tree, Is, IsTree}
use Rattle.plain_tree.specs.declared.laid.Frame.{Frame}
use Rattle.plain_tree.specs.Laid.{Laid, laid, Laids, more_laids}
use Rattle.plain_tree.specs.Laws.{render_numbers_in, AllDiffer}
use Rattle.plain_tree.specs.Offsets.{offset_at, offset_in}
use Rattle.layout_form.specs.Corrected.{renders_scrolled_by}
use Rattle.layout_form.specs.declared.asks.Ask.{Ask}
use Rattle.layout_form.specs.Object.{Setting}
use Rattle.layout_walk.specs.Full.{shown_trees}
use Rattle.layout_walk.specs.Here.{HereAll}
use Rattle.layout_walk.specs.Node.{ask_in, renders_in}
use Rattle.layout_walk.specs.Offsets.{AreScrolled}
use Rattle.layout_walk.specs.Rules.{parts_of}
use Rattle.layout_rules.specs.Nodes.{layout_nodes}
use Rattle.layout_owner.specs.Calm.{IsLaidCalm}
use Rattle.layout_owner.specs.Roots.{IsPlaced}
use Rattle.render_tree.specs.Object.{RenderObject, object_look}
use Rattle.render_tree.specs.Plain.{facts_of, offset_or, laids_of, laid_of, renders_of, root_tree}
use Rattle.render_readers.specs.Shown.{laid_once}
use Rattle.paint_owner.specs.Settled.{IsRootShown}
use Rattle.kept_layouts.specs.Here.{KeepsLayouts}
use Rattle.screen_owner.proofs.Laying.{keeps_one}
use Rattle.screen_owner.proofs.Scrolling.{corrected_renders, numbers_scrolled}
use Rattle.screen_owner.proofs.Showing.{one_handle, root_forest}

pub placed_shown : (f : Forest RenderObject) → IsPlaced f → IsRootShown f
placed_shown none placed = placed
placed_shown (tree h o below rest) placed = placed.0

-- a root that was laid out has a frame
pub once_laid : (s : Setting) (f : Forest RenderObject) → IsPlaced f → IsLaidCalm f → HereAll (parts_of s) (layout_nodes f) → laid_once f ≡ laid_of f
once_laid s none placed calm here = absurd placed
once_laid s (tree h o below rest) placed calm here =
    let given = here.0.consistent (calm.0 placed.0).0 in
    ap (λ (b : Bool). cond {A = Option Laid} b (laid_of (tree h o below rest)) None) (has_frame o.frame given.ask given.asked)
  where
    has_frame : (x : Option Frame) (a : Ask) → option_map ask_in x ≡ Some a → is_some x ≡ true
    has_frame None a e = absurd (cc)
    has_frame (Some frame) a e = refl

-- the root's tree has one top
abbrev OneTop : Forest RenderObject → Type 0
OneTop none = Unit {0}
OneTop (tree h o below rest) = rest ≡ none

no_tops : (f : Forest RenderObject) → tops f ≡ [] → f ≡ none
no_tops none e = refl
no_tops (tree h o below rest) e = absurd (cc)

pub one_top : (t : Tree RenderObject) → t.inactive ≡ [] → IsTree t → OneTop (root_tree t)
one_top t alone is = subst OneTop (sym (root_forest t is.0 alone is.1)) (by_forest is.0 is.1)
  where
    by_forest : (f : Forest RenderObject) → Is t f → OneTop f
    by_forest none there = tt
    by_forest (tree h o below rest) there = by_root t.root refl
      where
        heads : (root : Option Handle) → t.root ≡ root → option_to_list root ++ [] ≡ h ∷ tops rest
        heads root e = (λ i. option_to_list (sym e i) ++ sym alone i) ∙ there.tops

        by_root : (root : Option Handle) → t.root ≡ root → rest ≡ none
        by_root None e = absurd (none_more (heads None e))
          where
            none_more : [] ≡ h ∷ tops rest → ⊥
            none_more e = cc
        by_root (Some r) e = no_tops rest (one_handle r h (tops rest) (heads (Some r) e)).1

-- what is laid of it is the root alone
root_laids : (f : Forest RenderObject) → OneTop f → IsPlaced f → (l : Laid) → laid_of f ≡ Some l → (n : ℕ) → offset_in n (laids_of f) ≡ offset_at n l
root_laids none one placed l is n = absurd placed
root_laids (tree h o below rest) one placed l is n =
    ap (λ (b : Bool). offset_in n (cond {A = Laids} b (more_laids (offset_or o.offset) (laid o.number (object_look o) (facts_of o) (laids_of below)) (laids_of rest)) (laids_of rest))) placed.0
    ∙ (ap (λ (x : Forest RenderObject). offset_in n (more_laids (offset_or o.offset) (laid o.number (object_look o) (facts_of o) (laids_of below)) (laids_of x))) one
    ∙ ap (offset_at n) (same_laid (laid o.number (object_look o) (facts_of o) (laids_of below)) is))
  where
    same_laid : (x : Laid) → Some x ≡ Some l → x ≡ l
    same_laid x e = cc

-- the layouts that are kept
pub laid_layouts : (s : Setting) (t : Tree RenderObject) → t.inactive ≡ [] → IsTree t → HereAll (parts_of s) (layout_nodes (root_tree t)) → KeepsLayouts s t
laid_layouts s t alone is here =
    keeps_one s t is.0 is.1 (subst (λ (x : Forest RenderObject). HereAll (parts_of s) (layout_nodes x)) (root_forest t is.0 alone is.1) here)

-- where Viewports stand
pub laid_renders : ((f : Forest RenderObject) → renders_in (layout_nodes f) ≡ renders_of f) → ((f : Forest RenderObject) → shown_trees (layout_nodes f) ≡ laids_of f)
    → (old new : Tree RenderObject) → new.inactive ≡ [] → IsTree new → IsPlaced (root_tree new) → AreScrolled (layout_nodes (root_tree old)) (layout_nodes (root_tree new))
    → AllDiffer (render_numbers_in (renders_of (root_tree old))) → (l : Laid) → laid_of (root_tree new) ≡ Some l
    → renders_of (root_tree new) ≡ renders_scrolled_by (λ n. offset_at n l) (renders_of (root_tree old))
laid_renders renders laids old new alone is placed scrolled differ l shown =
    let f = layout_nodes (root_tree old) in
    let g = layout_nodes (root_tree new) in
    let off : ℕ → Option ℕ = λ n. offset_at n l in
    sym (renders (root_tree new))
    ∙ (corrected_renders off f g scrolled
    (subst AllDiffer (sym (numbers_scrolled f g scrolled ∙ ap render_numbers_in (renders (root_tree old)))) differ)
    (λ n there. sym (ap (offset_in n) (laids (root_tree new)) ∙ root_laids (root_tree new) (one_top new alone is) placed l shown n))
    ∙ ap (renders_scrolled_by off) (renders (root_tree old)))
