-- What a frame shows is full layout of the nodes as it leaves them.
use Rattle.std.proofs.Common.{◌≡◌, ℕ, ◌+◌, Bool, true, false, cond, Option, Some, None, is_some, option_map, [], refl, sym, ap, subst, ◌∙◌, arith}
use Rattle.fx_geom.specs.Offset.{origin}
use Rattle.fx_geom.specs.declared.shapes.Size.{Size}
use Rattle.fx_handles.specs.declared.Handle.{Handle}
use Rattle.node_tree.specs.Forest.{Forest, size}
use Rattle.node_tree.specs.Forest.Forest.{none, tree}
use Rattle.node_tree.specs.Tree.{Tree, IsTree}
use Rattle.plain_tree.specs.Laid.{Laid}
use Rattle.plain_tree.specs.Render.{Render, no_renders, more_renders}
use Rattle.layout_form.specs.Layout.{lay_view}
use Rattle.layout_form.specs.Object.{Setting}
use Rattle.layout_walk.specs.Work.{due_count}
use Rattle.layout_rules.specs.Nodes.{layout_nodes}
use Rattle.layout_owner.specs.Calm.{IsLaidCalm}
use Rattle.layout_owner.specs.Roots.{Good, top_render, rooted, IsAskedAs, IsPlaced}
use Rattle.render_tree.specs.Object.{RenderObject}
use Rattle.render_tree.specs.Plain.{laid_of, renders_of, root_tree}
use Rattle.render_readers.specs.Shown.{laid_once, shown_laid}
use Rattle.paint_owner.specs.Settled.{Settles}
use Rattle.screen_owner.specs.Steps.{IsLaidIn}
use Rattle.screen_owner.proofs.Settling.{settled_parts}
use Rattle.screen_owner.proofs.Showing.{Part, parts}

-- ---- where no node is due, none in the window has to be laid out

zero_first : (n m : ℕ) → n + m ≡ 0 → n ≡ 0
zero_first n m e = omega (arith, e)

zero_later : (n m : ℕ) → n + m ≡ 0 → m ≡ 0
zero_later n m e = omega (arith, e)

node_calm : (shown flag : Bool) (n m : ℕ) → cond shown (cond flag (1 + n) m) 0 ≡ 0 → shown ≡ true → (flag ≡ false) × (m ≡ 0)
node_calm true true n m e is = absurd (omega (arith, e))
node_calm true false n m e is = (refl, e)
node_calm false flag n m e is = absurd (cc)

due_calm : (f : Forest RenderObject) → due_count (layout_nodes f) ≡ 0 → IsLaidCalm f
due_calm none e = tt
due_calm (tree h o below rest) e =
    let here = zero_first (cond o.shown (cond o.needs_layout (1 + size (layout_nodes below)) (due_count (layout_nodes below))) 0) (due_count (layout_nodes rest)) e in
    let later = zero_later (cond o.shown (cond o.needs_layout (1 + size (layout_nodes below)) (due_count (layout_nodes below))) 0) (due_count (layout_nodes rest)) e in (
      (λ shown.
          let calm = node_calm o.shown o.needs_layout (size (layout_nodes below)) (due_count (layout_nodes below)) here shown in
          (calm.0, due_calm below calm.1)),
      due_calm rest later,
    )

root_calm : (f : Forest RenderObject) → due_count (rooted f) ≡ 0 → IsLaidCalm f
root_calm none e = tt
root_calm (tree h o below rest) e =
    let here = zero_first (cond o.needs_layout (1 + size (layout_nodes below)) (due_count (layout_nodes below))) (due_count (layout_nodes rest)) e in
    let later = zero_later (cond o.needs_layout (1 + size (layout_nodes below)) (due_count (layout_nodes below))) (due_count (layout_nodes rest)) e in
    let calm = node_calm true o.needs_layout (size (layout_nodes below)) (due_count (layout_nodes below)) here refl in
    ((λ shown. (calm.0, due_calm below calm.1)), due_calm rest later)

-- ---- the root stays where it was put

abbrev IsPlacedPart : Forest Part → Type 0
IsPlacedPart none = ⊥
IsPlacedPart (tree h p below rest) = (p.shown ≡ true) × (p.offset ≡ Some origin)

placed_part : (f : Forest RenderObject) → IsPlaced f → IsPlacedPart (parts f)
placed_part none placed = placed
placed_part (tree h o below rest) placed = placed

part_placed : (f : Forest RenderObject) → IsPlacedPart (parts f) → IsPlaced f
part_placed none placed = placed
part_placed (tree h o below rest) placed = placed

-- ---- what is shown

-- the law of full layout
abbrev pub CalmShows : Type 0
CalmShows =
    (s : Setting) (view : Size) (h : Handle) (o : RenderObject) (below : Forest RenderObject) → Good s (tree h o below none) → IsLaidCalm (tree h o below none) → IsPlaced (tree h o below none)
    → IsAskedAs view (tree h o below none) → laid_of (tree h o below none) ≡ option_map (λ x. lay_view s x view) (top_render (renders_of (tree h o below none)))

none_drawn : (f : Forest RenderObject) → renders_of f ≡ no_renders → f ≡ none
none_drawn none e = refl
none_drawn (tree h o below rest) e = absurd (cc)

none_after : (h : Handle) (o : RenderObject) (below rest : Forest RenderObject) (top : Render) → renders_of (tree h o below rest) ≡ more_renders top no_renders → renders_of rest ≡ no_renders
none_after h o below rest top e = cc

once_if : (b : Bool) (x : Option Laid) (l : Laid) → cond {A = Option Laid} b x None ≡ Some l → cond {A = Option Laid} b x None ≡ x
once_if true x l e = refl
once_if false x l e = absurd (cc)

-- what was laid out is what is shown
once_is : (f : Forest RenderObject) (l : Laid) → laid_once f ≡ Some l → laid_once f ≡ laid_of f
once_is none l e = absurd (cc)
once_is (tree h o below rest) l e = once_if (is_some o.frame) (laid_of (tree h o below rest)) l e

shown_calm : CalmShows → (s : Setting) (view : Size) (f : Forest RenderObject) (top : Render) → renders_of f ≡ more_renders top no_renders → Good s f → due_count (rooted f) ≡ 0 → IsPlaced f → IsAskedAs view f
    → (l : Laid) → laid_once f ≡ Some l → laid_once f ≡ option_map (λ x. lay_view s x view) (top_render (renders_of f))
shown_calm law s view none top drawn good due placed asked l shown = absurd placed
shown_calm law s view (tree h o below rest) top drawn good due placed asked l shown =
    let alone : rest ≡ none = none_drawn rest (none_after h o below rest top drawn) in
    let here : Good s (tree h o below rest) → IsLaidCalm (tree h o below rest) → IsPlaced (tree h o below rest) → IsAskedAs view (tree h o below rest)
    → laid_of (tree h o below rest) ≡ option_map (λ (x : Render). lay_view s x view) (top_render (renders_of (tree h o below rest))) =
    subst
    (λ (q : Forest RenderObject). Good s (tree h o below q) → IsLaidCalm (tree h o below q) → IsPlaced (tree h o below q) → IsAskedAs view (tree h o below q)
    → laid_of (tree h o below q) ≡ option_map (λ (x : Render). lay_view s x view) (top_render (renders_of (tree h o below q)))) (sym alone) (law s view h o below) in
    once_is (tree h o below rest) l shown ∙ here good (root_calm (tree h o below rest) due) placed asked

-- a tree was laid out, and then painted
pub shown_still : CalmShows → (s : Setting) (view : Size) (laid now : Tree RenderObject) → laid.inactive ≡ [] → IsTree laid → Settles laid now → IsPlaced (root_tree laid) → (top : Render)
    → renders_of (root_tree now) ≡ more_renders top no_renders → Good s (root_tree now) → IsLaidIn view now → (l : Laid) → shown_laid now ≡ Some l
    → shown_laid now ≡ option_map (λ x. lay_view s x view) (top_render (renders_of (root_tree now)))
shown_still law s view laid now alone is settles placed top drawn good laid_in l shown =
    shown_calm law s view (root_tree now) top drawn good laid_in.none_due
    (part_placed (root_tree now) (subst IsPlacedPart (sym (settled_parts laid now alone is settles)) (placed_part (root_tree laid) placed))) laid_in.asked l shown
