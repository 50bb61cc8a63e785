-- Live ranges by trees without the items of lazy lists.
use Rattle.std.proofs.Common.{◌≡◌, ◌⊎◌, inl, inr, ℕ, ◌==◌, ◌≤◌, ap, refl, sym, subst, ◌∙◌, Bool, true, false, ◌||◌, if◌then◌else◌, Option, Some, None, option_map, List, [], ◌∷◌, ◌++◌, arith}
use Rattle.std.proofs.lemmas.Bool.{or_right, true≢false}
use Rattle.std.specs.Option.{option_or}
use Rattle.fx_geom.specs.declared.shapes.Size.{Size}
use Rattle.fx_handles.specs.declared.Handle.{Handle}
use Rattle.fx_handles.specs.HandleLaws.{same_self}
use Rattle.node_tree.specs.Forest.{TreeNode, Forest, Stands}
use Rattle.node_tree.specs.Forest.Forest.{none, tree}
use Rattle.node_tree.specs.Tree.{Tree, node_at}
use Rattle.node_tree.proofs.ForestLemmas.{same_Some}
use Rattle.sliver_layout.specs.declared.protocol.SliverBounds.{SliverBounds}
use Rattle.sliver_layout.specs.Lists.{nothing}
use Rattle.plain_tree.specs.declared.laid.Frame.{Frame}
use Rattle.plain_tree.specs.Laid.{Laid, laid, Laids, no_laids, more_laids}
use Rattle.plain_tree.specs.Render.{Render}
use Rattle.layout_form.specs.Layout.{lay_view}
use Rattle.layout_form.specs.Live.{view_of_frame, lazy_view_at, live_in}
use Rattle.layout_form.specs.Object.{Setting}
use Rattle.render_tree.specs.Object.{RenderObject, object_look, sliver_in}
use Rattle.render_tree.specs.Plain.{laids_of, facts_of, frame_or, lazy_children, offset_or, root_tree}
use Rattle.render_tree.specs.Tree.{object_at}
use Rattle.layout_walk.specs.Items.{list_frame, lists_of, lists_in}
use Rattle.layout_walk.specs.Rules.{is_list, lazy_extent}
use Rattle.layout_walk.proofs.Asks.{number_is, number_self}
use Rattle.kept_layouts.specs.Items.{without_items, ListsUnasked, HasNoItems, HaveNoItems}
use Rattle.layout_owner.specs.Outer.{AreRanged}
use Rattle.layout_owner.specs.Ranges.{lists_in_window, is_among, range_in, range_of}
use Rattle.layout_owner.specs.Views.{view_among, IsUnnested, AreUnnested, NumbersTell, live_or_nothing}
use Rattle.layout_owner.proofs.Ranging.{among-append}
use Rattle.layout_owner.proofs.Viewing.{or_none, lists_tell, extent_tells, Has, window_has, frame_view, laids_split, number_other}

-- ---- no list stands among the items of another

mutual
  unnested : (l : Laid) → HasNoItems l → IsUnnested l
  unnested (laid number look facts children) bare = ((λ is. ap (λ (ls : Laids). lists_in is_list ls) (bare.0 is)), all_unnested children bare.1)

  all_unnested : (ls : Laids) → HaveNoItems ls → AreUnnested ls
  all_unnested no_laids bare = tt
  all_unnested (more_laids at l ls) bare = (unnested l bare.0, all_unnested ls bare.1)

-- the law of kept_layouts on a tree without items
pub record BareLaws (s : Setting) : Type 0 where
  pub lists : (view : Size) (r : Render) → ListsUnasked false r → lists_of is_list (lay_view s (without_items r) view) ≡ lists_of is_list (lay_view s r view)
  pub items : (view : Size) (r : Render) → HasNoItems (lay_view s (without_items r) view)

pub bare_view : (s : Setting) → BareLaws s → (view : Size) (r : Render) (wanted : ℕ) → ListsUnasked false r
    → lazy_view_at wanted (lay_view s (without_items r) view) ≡ view_among wanted (lists_of is_list (lay_view s r view))
bare_view s laws view r wanted unasked =
    lists_tell wanted (lay_view s (without_items r) view) (unnested (lay_view s (without_items r) view) (laws.items view r)) ∙ ap (view_among wanted) (laws.lists view r unasked)

-- ---- the lists in the window, one by one

abbrev Each : (ℕ → Frame → Type 0) → List (ℕ × Frame) → Type 0
Each Q [] = Unit {0}
Each Q (l ∷ ls) = Q l.0 l.1 × Each Q ls

each_both : (Q : ℕ → Frame → Type 0) (xs ys : List (ℕ × Frame)) → Each Q xs → Each Q ys → Each Q (xs ++ ys)
each_both Q [] ys first second = second
each_both Q (x ∷ xs) ys first second = (first.0, each_both Q xs ys first.1 second)

module _ (Q : ℕ → Frame → Type 0) (t : Tree RenderObject) where
  abbrev Holds : List Handle → Type 0
  Holds hs = (j : Handle) (a : RenderObject) → is_among j hs ≡ true → object_at t j ≡ Some a → Q a.number (frame_or a.frame)

  own_each : (h : Handle) (v : RenderObject) (inside : List Handle) (ls : List (ℕ × Frame)) (shown list : Bool) → object_at t h ≡ Some v
      → Holds (if shown then (if list then h ∷ [] else inside) else []) → (Holds inside → Each Q ls)
      → Each Q (if shown then list_frame list v.number (facts_of v) ls else [])
  own_each h v inside ls false list is all further = tt
  own_each h v inside ls true true is all further = (all h v (ap (λ b. b || false) (same_self h)) is, tt)
  own_each h v inside ls true false is all further = further all

  window_each : (p : Option Handle) (f : Forest RenderObject) → Stands (node_at t) p f → Holds (lists_in_window f) → Each Q (lists_in is_list (laids_of f))
  window_each p none stands all = tt
  window_each p (tree h v below rest) stands all =
      let look = object_look v in
      let inside = lists_in_window below in
      let after = lists_in_window rest in
      let ls = lists_in is_list (laids_of below) in
      let own : List Handle = if v.shown then (if is_list look then h ∷ [] else inside) else [] in
      let mine : List (ℕ × Frame) = if v.shown then list_frame (is_list look) v.number (facts_of v) ls else [] in
      let told : Holds (own ++ after) = subst (λ (b : Bool). Holds ((if v.shown then (if b then h ∷ [] else inside) else []) ++ after)) (extent_tells look) all in
      let is : object_at t h ≡ Some v = ap (λ (n : Option (TreeNode RenderObject)). option_map (λ (m : TreeNode RenderObject). m.value) n) stands.0 in
      subst (Each Q) (sym (laids_split v.shown (offset_or v.offset) v.number look (facts_of v) (laids_of below) (laids_of rest)))
      (each_both Q mine (lists_in is_list (laids_of rest))
      (own_each h v inside ls v.shown (is_list look) is (λ j a among. told j a (among-append j own after ∙ ap (λ b. b || is_among j after) among)) (window_each (Some h) below stands.1))
      (window_each p rest stands.2 (λ j a among. told j a (among-append j own after ∙ or_right (is_among j own) (is_among j after) among))))

-- ---- the view of a number

or_same : {X : Type 0} (o : Option X) → option_or o o ≡ o
or_same None = refl
or_same (Some x) = refl

either_or : {X : Type 0} (a b v : Option X) → (a ≡ None) ⊎ (a ≡ v) → (b ≡ None) ⊎ (b ≡ v) → (option_or a b ≡ None) ⊎ (option_or a b ≡ v)
either_or a b v (inl e) (inl g) = inl (ap (λ x. option_or x b) e ∙ g)
either_or a b v (inl e) (inr g) = inr (ap (λ x. option_or x b) e ∙ g)
either_or a b v (inr e) (inl g) = inr (ap (option_or a) g ∙ (or_none a ∙ e))
either_or a b v (inr e) (inr g) = inr (ap (option_or a) (g ∙ sym e) ∙ (or_same a ∙ e))

abbrev one_view : ℕ → ℕ × Frame → Option SliverBounds
one_view n l = if l.0 == n then view_of_frame l.1 else None

abbrev Alone : ℕ → Frame → ℕ → Frame → Type 0
Alone n frame m x = m ≡ n → x ≡ frame

one_either : (n : ℕ) (frame : Frame) (l : ℕ × Frame) → Alone n frame l.0 l.1 → (one_view n l ≡ None) ⊎ (one_view n l ≡ view_of_frame frame)
one_either n frame l alone = by_test (l.0 == n) refl
  where
    by_test : (b : Bool) → (l.0 == n) ≡ b → (one_view n l ≡ None) ⊎ (one_view n l ≡ view_of_frame frame)
    by_test false e = inl (ap (λ (b : Bool). if b then view_of_frame l.1 else None) e)
    by_test true e = inr (ap (λ (b : Bool). if b then view_of_frame l.1 else None) e ∙ ap view_of_frame (alone (number_is l.0 n e)))

all_either : (n : ℕ) (frame : Frame) (ls : List (ℕ × Frame)) → Each (Alone n frame) ls → (view_among n ls ≡ None) ⊎ (view_among n ls ≡ view_of_frame frame)
all_either n frame [] each = inl refl
all_either n frame (l ∷ ls) each = either_or (view_among n ls) (one_view n l) (view_of_frame frame) (all_either n frame ls each.1) (one_either n frame l each.0)

or_last : {X : Type 0} (a b v : Option X) → (a ≡ None) ⊎ (a ≡ v) → b ≡ v → option_or a b ≡ v
or_last a b v (inl e) g = ap (λ x. option_or x b) e ∙ g
or_last a b v (inr e) g = ap (option_or a) (g ∙ sym e) ∙ (or_same a ∙ e)

or_first : {X : Type 0} (a b v : Option X) → a ≡ v → (b ≡ None) ⊎ (b ≡ v) → option_or a b ≡ v
or_first a b v e (inl g) = ap (option_or a) g ∙ (or_none a ∙ e)
or_first a b v e (inr g) = ap (option_or a) (g ∙ sym e) ∙ (or_same a ∙ e)

view_each : (n : ℕ) (frame : Frame) (ls : List (ℕ × Frame)) → Has n frame ls → Each (Alone n frame) ls → view_among n ls ≡ view_of_frame frame
view_each n frame [] has each = absurd has
view_each n frame (l ∷ ls) (inl is) each =
    or_last (view_among n ls) (one_view n l) (view_of_frame frame) (all_either n frame ls each.1)
    (ap (λ (b : Bool). if b then view_of_frame l.1 else None) (ap (λ (x : ℕ). x == n) is.0 ∙ number_self n) ∙ ap view_of_frame is.1)
view_each n frame (l ∷ ls) (inr has) each =
    or_first (view_among n ls) (one_view n l) (view_of_frame frame) (view_each n frame ls has each.1) (one_either n frame l each.0)

none_each : (n : ℕ) (ls : List (ℕ × Frame)) → Each (λ m x. m ≡ n → ⊥) ls → view_among n ls ≡ None
none_each n [] each = refl
none_each n (l ∷ ls) each =
    ap (λ (o : Option SliverBounds). option_or o (one_view n l)) (none_each n ls each.1)
    ∙ ap (λ (b : Bool). if b then view_of_frame l.1 else None) (number_other l.0 n each.0)

-- ---- the range of a list

positive : (n : ℕ) → 1 ≤ n → (n == 0) ≡ false
positive n less = number_other n 0 (λ e. omega (arith, less, e))

module _ (t : Tree RenderObject) (p : Option Handle) (stands : Stands (node_at t) p (root_tree t)) (numbers : NumbersTell t) (k : Handle) (o : RenderObject) (is : object_at t k ≡ Some o) where
  abbrev listed_views : List (ℕ × Frame)
  listed_views = lists_in is_list (laids_of (root_tree t))

  same_node : (j : Handle) (a : RenderObject) → object_at t j ≡ Some a → a.number ≡ o.number → a ≡ o
  same_node j a there e = same_Some (sym there ∙ (ap (object_at t) (numbers j k a o there is e) ∙ is))

  window_view : is_among k (lists_in_window (root_tree t)) ≡ true → view_among o.number listed_views ≡ sliver_in o.frame
  window_view among =
      view_each o.number (frame_or o.frame) listed_views (window_has t p (root_tree t) k o stands is among)
      (window_each (Alone o.number (frame_or o.frame)) t p (root_tree t) stands (λ j a listed there e. ap (λ (x : RenderObject). frame_or x.frame) (same_node j a there e)))
      ∙ frame_view o.frame

  outside_view : is_among k (lists_in_window (root_tree t)) ≡ false → view_among o.number listed_views ≡ None
  outside_view off =
      none_each o.number listed_views
      (window_each (λ m x. m ≡ o.number → ⊥) t p (root_tree t) stands (λ j a listed there e.
      true≢false (sym listed ∙ (ap (λ (x : Handle). is_among x (lists_in_window (root_tree t))) (numbers j k a o there is e) ∙ off))))

  range_by : (widen extent : ℕ) (among : Bool) → is_among k (lists_in_window (root_tree t)) ≡ among → AreRanged widen t → lazy_extent (object_look o) ≡ Some extent → 1 ≤ extent
      → live_or_nothing o.live ≡ live_in (view_among o.number listed_views) extent (lazy_children o) widen
  range_by widen extent true among ranged has some =
      ap live_or_nothing (ranged k o is ∙ (ap (λ (b : Bool). if b then range_of widen o else None) among
      ∙ ap (option_map (λ (x : ℕ). range_in (sliver_in o.frame) x (lazy_children o) widen)) has))
      ∙ (ap (λ (b : Bool). if b then nothing else live_in (sliver_in o.frame) extent (lazy_children o) widen) (positive extent some)
      ∙ ap (λ (v : Option SliverBounds). live_in v extent (lazy_children o) widen) (sym (window_view among)))
  range_by widen extent false off ranged has some =
      ap live_or_nothing (ranged k o is ∙ ap (λ (b : Bool). if b then range_of widen o else None) off)
      ∙ ap (λ (v : Option SliverBounds). live_in v extent (lazy_children o) widen) (sym (outside_view off))

pub bare_range : (s : Setting) → BareLaws s → (view : Size) (widen : ℕ) (t : Tree RenderObject) (p : Option Handle) (r : Render) (k : Handle) (o : RenderObject) (extent : ℕ)
    → Stands (node_at t) p (root_tree t) → NumbersTell t → lists_in is_list (laids_of (root_tree t)) ≡ lists_of is_list (lay_view s r view) → AreRanged widen t
    → ListsUnasked false r → object_at t k ≡ Some o → lazy_extent (object_look o) ≡ Some extent → 1 ≤ extent
    → live_or_nothing o.live ≡ live_in (lazy_view_at o.number (lay_view s (without_items r) view)) extent (lazy_children o) widen
bare_range s laws view widen t p r k o extent stands numbers lists ranged unasked is has some =
    range_by t p stands numbers k o is widen extent (is_among k (lists_in_window (root_tree t))) refl ranged has some
    ∙ ap (λ (v : Option SliverBounds). live_in v extent (lazy_children o) widen) (ap (view_among o.number) lists ∙ sym (bare_view s laws view r o.number unasked))
