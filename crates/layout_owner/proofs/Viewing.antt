-- The views of lazy lists by number.
use Rattle.std.proofs.Common.{◌≡◌, ◌≢◌, ◌⊎◌, inl, inr, ℕ, ◌==◌, ap, refl, sym, subst, ◌∙◌, Bool, true, false, ◌||◌, if◌then◌else◌, Option, Some, None, option_map, is_some, List, [], ◌∷◌, ◌++◌}
use Rattle.std.specs.Option.{option_or}
use Rattle.fx_geom.specs.declared.shapes.Offset.{Offset}
use Rattle.fx_handles.specs.declared.Handle.{Handle}
use Rattle.fx_handles.specs.Handle.{same}
use Rattle.fx_handles.specs.HandleLaws.{same-true}
use Rattle.node_tree.specs.Forest.{TreeNode, Forest, Stands}
use Rattle.node_tree.specs.Forest.Forest.{none, tree}
use Rattle.node_tree.specs.Tree.{Tree, node_at}
use Rattle.node_tree.proofs.ForestLemmas.{same_Some}
use Rattle.sliver_layout.specs.declared.protocol.SliverBounds.{SliverBounds}
use Rattle.widget_model.specs.Look.{Look, sized_box, constrained_box, padding, align, colored_box, text, row, column, wrap, table, stack, flexible, positioned, opacity, clip_rect, repaint_boundary, merge_semantics, intrinsic_width, intrinsic_height, offstage, ignore_pointer, absorb_pointer, detector, semantics, exclude_semantics, custom_paint, custom_layout, viewport, sliver_to_box, sliver_padding, sliver_fixed, sliver_lazy, keep, inherit, component}
use Rattle.plain_tree.specs.declared.laid.Facts.{Facts}
use Rattle.plain_tree.specs.declared.laid.Frame.{Frame}
use Rattle.plain_tree.specs.declared.laid.Frame.TheVariants.{Boxed, Sliver}
use Rattle.plain_tree.specs.Laid.{Laid, laid, Laids, no_laids, more_laids}
use Rattle.plain_tree.specs.Laws.{DiffersFrom, AllDiffer}
use Rattle.plain_tree.specs.RenderRole.{render_role_of}
use Rattle.layout_form.specs.Live.{view_of_frame, of_lazy, lazy_view_at, lazy_view_in}
use Rattle.render_tree.specs.Object.{RenderObject, object_look, sliver_in}
use Rattle.render_tree.specs.Plain.{laids_of, facts_of, frame_or, offset_or}
use Rattle.render_tree.specs.Tree.{object_at}
use Rattle.layout_walk.specs.Items.{list_frame, lists_of, lists_in}
use Rattle.layout_walk.specs.Rules.{is_list, lazy_extent}
use Rattle.layout_walk.proofs.Asks.{number_is, number_self}
use Rattle.layout_walk.proofs.Standing.{false_true}
use Rattle.layout_owner.specs.Ranges.{lists_in_window, is_among}
use Rattle.layout_owner.specs.Views.{view_among, IsUnnested, AreUnnested, list_numbers}
use Rattle.layout_owner.proofs.Ranging.{among-append}

pub or_none : {X : Type 0} (o : Option X) → option_or o None ≡ o
or_none None = refl
or_none (Some x) = refl

or_or : {X : Type 0} (a b c : Option X) → option_or (option_or a b) c ≡ option_or a (option_or b c)
or_or None b c = refl
or_or (Some x) b c = refl

-- only a lazy list counts
by_list : (look : Look) (view : Option SliverBounds) → of_lazy (render_role_of look) view ≡ (if is_list look then view else None)
by_list (sized_box width height) view = refl
by_list (constrained_box min_width max_width min_height max_height) view = refl
by_list (padding left top right bottom) view = refl
by_list (align ax ay) view = refl
by_list (colored_box color) view = refl
by_list (text words color) view = refl
by_list (row main cross size) view = refl
by_list (column main cross size) view = refl
by_list (wrap spacing run_spacing) view = refl
by_list (table widths) view = refl
by_list (stack ax ay fit) view = refl
by_list (flexible flex fit) view = refl
by_list (positioned left top right bottom width height) view = refl
by_list (opacity alpha) view = refl
by_list clip_rect view = refl
by_list repaint_boundary view = refl
by_list merge_semantics view = refl
by_list intrinsic_width view = refl
by_list intrinsic_height view = refl
by_list (offstage hidden) view = refl
by_list (ignore_pointer ignoring) view = refl
by_list (absorb_pointer absorbing) view = refl
by_list (detector behavior tap long vertical horizontal pan) view = refl
by_list (semantics label button container) view = refl
by_list (exclude_semantics excluding) view = refl
by_list (custom_paint delegate) view = refl
by_list (custom_layout delegate) view = refl
by_list (viewport axis) view = refl
by_list sliver_to_box view = refl
by_list (sliver_padding left top right bottom) view = refl
by_list (sliver_fixed extent) view = refl
by_list (sliver_lazy extent) view = refl
by_list (keep kept) view = refl
by_list (inherit name value) view = refl
by_list (component place props declaration) view = refl

among_both : (wanted : ℕ) (xs ys : List (ℕ × Frame)) → view_among wanted (xs ++ ys) ≡ option_or (view_among wanted ys) (view_among wanted xs)
among_both wanted [] ys = sym (or_none (view_among wanted ys))
among_both wanted (x ∷ xs) ys =
    let here : Option SliverBounds = if x.0 == wanted then view_of_frame x.1 else None in
    ap (λ (o : Option SliverBounds). option_or o here) (among_both wanted xs ys) ∙ or_or (view_among wanted ys) (view_among wanted xs) here

same_either : {X : Type 0} (b : Bool) (x : X) → (if b then x else x) ≡ x
same_either true x = refl
same_either false x = refl

at_one : (wanted number : ℕ) (b : Bool) (facts : Facts) (below : Option SliverBounds) (ls : List (ℕ × Frame)) → below ≡ view_among wanted ls → (b ≡ true → ls ≡ [])
    → option_or below (if number == wanted then if b then view_of_frame facts.frame else None else None) ≡ view_among wanted (list_frame b number facts ls)
at_one wanted number true facts below ls is outer =
    ap (λ (o : Option SliverBounds). option_or o (if number == wanted then view_of_frame facts.frame else None)) (is ∙ ap (view_among wanted) (outer refl))
at_one wanted number false facts below ls is outer =
    ap (option_or below) (same_either (number == wanted) None) ∙ or_none below ∙ is

mutual
  pub lists_tell : (wanted : ℕ) (l : Laid) → IsUnnested l → lazy_view_at wanted l ≡ view_among wanted (lists_of is_list l)
  lists_tell wanted (laid number look facts children) outer =
      ap (λ (o : Option SliverBounds). option_or (lazy_view_in wanted children) (if number == wanted then o else None)) (by_list look (view_of_frame facts.frame))
      ∙ at_one wanted number (is_list look) facts (lazy_view_in wanted children) (lists_in is_list children) (lists_tell_in wanted children outer.1) outer.0

  lists_tell_in : (wanted : ℕ) (ls : Laids) → AreUnnested ls → lazy_view_in wanted ls ≡ view_among wanted (lists_in is_list ls)
  lists_tell_in wanted no_laids outer = refl
  lists_tell_in wanted (more_laids at l ls) outer =
      ap (λ (o : Option SliverBounds). option_or o (lazy_view_at wanted l)) (lists_tell_in wanted ls outer.1)
      ∙ ap (option_or (view_among wanted (lists_in is_list ls))) (lists_tell wanted l outer.0)
      ∙ sym (among_both wanted (lists_of is_list l) (lists_in is_list ls))

-- ---- the views that are stored

pub extent_tells : (look : Look) → is_some (lazy_extent look) ≡ is_list look
extent_tells (sized_box width height) = refl
extent_tells (constrained_box min_width max_width min_height max_height) = refl
extent_tells (padding left top right bottom) = refl
extent_tells (align ax ay) = refl
extent_tells (colored_box color) = refl
extent_tells (text words color) = refl
extent_tells (row main cross size) = refl
extent_tells (column main cross size) = refl
extent_tells (wrap spacing run_spacing) = refl
extent_tells (table widths) = refl
extent_tells (stack ax ay fit) = refl
extent_tells (flexible flex fit) = refl
extent_tells (positioned left top right bottom width height) = refl
extent_tells (opacity alpha) = refl
extent_tells clip_rect = refl
extent_tells repaint_boundary = refl
extent_tells merge_semantics = refl
extent_tells intrinsic_width = refl
extent_tells intrinsic_height = refl
extent_tells (offstage hidden) = refl
extent_tells (ignore_pointer ignoring) = refl
extent_tells (absorb_pointer absorbing) = refl
extent_tells (detector behavior tap long vertical horizontal pan) = refl
extent_tells (semantics label button container) = refl
extent_tells (exclude_semantics excluding) = refl
extent_tells (custom_paint delegate) = refl
extent_tells (custom_layout delegate) = refl
extent_tells (viewport axis) = refl
extent_tells sliver_to_box = refl
extent_tells (sliver_padding left top right bottom) = refl
extent_tells (sliver_fixed extent) = refl
extent_tells (sliver_lazy extent) = refl
extent_tells (keep kept) = refl
extent_tells (inherit name value) = refl
extent_tells (component place props declaration) = refl

abbrev pub Has : ℕ → Frame → List (ℕ × Frame) → Type 0
Has n frame [] = ⊥
Has n frame (l ∷ ls) = ((l.0 ≡ n) × (l.1 ≡ frame)) ⊎ Has n frame ls

has_left : (n : ℕ) (frame : Frame) (xs ys : List (ℕ × Frame)) → Has n frame xs → Has n frame (xs ++ ys)
has_left n frame [] ys has = absurd has
has_left n frame (x ∷ xs) ys (inl is) = inl is
has_left n frame (x ∷ xs) ys (inr has) = inr (has_left n frame xs ys has)

has_right : (n : ℕ) (frame : Frame) (xs ys : List (ℕ × Frame)) → Has n frame ys → Has n frame (xs ++ ys)
has_right n frame [] ys has = has
has_right n frame (x ∷ xs) ys has = inr (has_right n frame xs ys has)

or_cases : (a b : Bool) → (a || b) ≡ true → (a ≡ true) ⊎ (b ≡ true)
or_cases true b e = inl refl
or_cases false b e = inr e

either : {A B C : Type 0} → A ⊎ B → (A → C) → (B → C) → C
either (inl a) f g = f a
either (inr b) f g = g b

pub laids_split : (shown : Bool) (at : Offset) (number : ℕ) (look : Look) (facts : Facts) (kids rest : Laids)
    → lists_in is_list (if shown then more_laids at (laid number look facts kids) rest else rest)
    ≡ (if shown then list_frame (is_list look) number facts (lists_in is_list kids) else []) ++ lists_in is_list rest
laids_split true at number look facts kids rest = refl
laids_split false at number look facts kids rest = refl

own_has : (n : ℕ) (frame : Frame) (k h : Handle) (below : List Handle) (number : ℕ) (facts : Facts) (ls : List (ℕ × Frame)) (shown list : Bool)
    → is_among k (if shown then (if list then h ∷ [] else below) else []) ≡ true → (same k h ≡ true → (number ≡ n) × (facts.frame ≡ frame)) → (is_among k below ≡ true → Has n frame ls)
    → Has n frame (if shown then list_frame list number facts ls else [])
own_has n frame k h below number facts ls false list among here inner = absurd (false_true among)
own_has n frame k h below number facts ls true true among here inner = inl (here (either (or_cases (same k h) false among) (λ e. e) (λ e. absurd (false_true e))))
own_has n frame k h below number facts ls true false among here inner = inner among

pub window_has : (t : Tree RenderObject) (p : Option Handle) (f : Forest RenderObject) (k : Handle) (o : RenderObject) → Stands (node_at t) p f → object_at t k ≡ Some o
    → is_among k (lists_in_window f) ≡ true → Has o.number (frame_or o.frame) (lists_in is_list (laids_of f))
window_has t p none k o stands found among = absurd (false_true among)
window_has t p (tree h v below rest) k o stands found among =
    let look = object_look v in
    let inside = lists_in_window below in
    let after = lists_in_window rest in
    let ls = lists_in is_list (laids_of below) in
    let own : List Handle = if v.shown then (if is_list look then h ∷ [] else inside) else [] in
    let mine : List (ℕ × Frame) = if v.shown then list_frame (is_list look) v.number (facts_of v) ls else [] in
    let told : is_among k (own ++ after) ≡ true =
    subst (λ (b : Bool). is_among k ((if v.shown then (if b then h ∷ [] else inside) else []) ++ after) ≡ true) (extent_tells look) among in
    subst (Has o.number (frame_or o.frame)) (sym (laids_split v.shown (offset_or v.offset) v.number look (facts_of v) (laids_of below) (laids_of rest)))
    (either (or_cases (is_among k own) (is_among k after) (sym (among-append k own after) ∙ told))
    (λ e. has_left o.number (frame_or o.frame) mine (lists_in is_list (laids_of rest))
    (own_has o.number (frame_or o.frame) k h inside v.number (facts_of v) ls v.shown (is_list look) e here (window_has t (Some h) below k o stands.1 found)))
    (λ e. has_right o.number (frame_or o.frame) mine (lists_in is_list (laids_of rest)) (window_has t p rest k o stands.2 found e)))
  where
    here : same k h ≡ true → (v.number ≡ o.number) × (frame_or v.frame ≡ frame_or o.frame)
    here e =
        let is : v ≡ o = same_Some (sym (ap (λ (n : Option (TreeNode RenderObject)). option_map (λ (m : TreeNode RenderObject). m.value) n) stands.0)
        ∙ sym (ap (object_at t) (same-true k h e)) ∙ found) in
        (ap (λ (x : RenderObject). x.number) is, ap (λ (x : RenderObject). frame_or x.frame) is)

pub number_other : (a b : ℕ) → a ≢ b → (a == b) ≡ false
number_other a b differ = by_test (a == b) refl
  where
    by_test : (test : Bool) → (a == b) ≡ test → (a == b) ≡ false
    by_test true e = absurd (differ (number_is a b e))
    by_test false e = e

none_differs : (n : ℕ) (ls : List (ℕ × Frame)) → DiffersFrom n (list_numbers ls) → view_among n ls ≡ None
none_differs n [] differ = refl
none_differs n (l ∷ ls) differ =
    ap (λ (o : Option SliverBounds). option_or o (if l.0 == n then view_of_frame l.1 else None)) (none_differs n ls differ.1)
    ∙ ap (λ (b : Bool). if b then view_of_frame l.1 else None) (number_other l.0 n (λ e. differ.0 (sym e)))

has_differs : (m n : ℕ) (frame : Frame) (ls : List (ℕ × Frame)) → Has n frame ls → DiffersFrom m (list_numbers ls) → m ≢ n
has_differs m n frame [] has differ = absurd has
has_differs m n frame (l ∷ ls) (inl is) differ = λ e. differ.0 (e ∙ sym is.0)
has_differs m n frame (l ∷ ls) (inr has) differ = has_differs m n frame ls has differ.1

view_is : (n : ℕ) (frame : Frame) (ls : List (ℕ × Frame)) → Has n frame ls → AllDiffer (list_numbers ls) → view_among n ls ≡ view_of_frame frame
view_is n frame [] has differ = absurd has
view_is n frame (l ∷ ls) (inl is) differ =
    ap (λ (o : Option SliverBounds). option_or o (if l.0 == n then view_of_frame l.1 else None)) (none_differs n ls (subst (λ (x : ℕ). DiffersFrom x (list_numbers ls)) is.0 differ.0))
    ∙ ap (λ (b : Bool). if b then view_of_frame l.1 else None) (ap (λ (x : ℕ). x == n) is.0 ∙ number_self n)
    ∙ ap view_of_frame is.1
view_is n frame (l ∷ ls) (inr has) differ =
    ap (λ (b : Bool). option_or (view_among n ls) (if b then view_of_frame l.1 else None)) (number_other l.0 n (has_differs l.0 n frame ls has differ.0))
    ∙ or_none (view_among n ls)
    ∙ view_is n frame ls has differ.1

pub frame_view : (frame : Option Frame) → view_of_frame (frame_or frame) ≡ sliver_in frame
frame_view None = refl
frame_view (Some (Boxed bounds size)) = refl
frame_view (Some (Sliver bounds geometry)) = refl

pub listed_views : (t : Tree RenderObject) (p : Option Handle) (f : Forest RenderObject) (k : Handle) (o : RenderObject) → Stands (node_at t) p f
    → AllDiffer (list_numbers (lists_in is_list (laids_of f))) → object_at t k ≡ Some o → is_among k (lists_in_window f) ≡ true
    → view_among o.number (lists_in is_list (laids_of f)) ≡ sliver_in o.frame
listed_views t p f k o stands differ found among =
    view_is o.number (frame_or o.frame) (lists_in is_list (laids_of f)) (window_has t p f k o stands found among) differ ∙ frame_view o.frame
