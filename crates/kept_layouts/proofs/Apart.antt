-- Closedness by the members of nodes as they are now, against that by what is stored of them.
use Rattle.std.proofs.Common.{◌≡◌, ap, refl, sym, ◌∙◌, ◌⊎◌, inl, inr, Bool, true, false, not, ◌||◌, ◌&&◌, is_some, if◌then◌else◌, Option, Some, None, option_map, []}
use Rattle.std.proofs.lemmas.Bool.{or_right, false≢true, true≢false}
use Rattle.std.specs.Prelude.{IsSome}
use Rattle.fx_geom.specs.Bounds.{is_tight}
use Rattle.fx_geom.specs.declared.boxes.Bounds.{Bounds}
use Rattle.fx_geom.specs.declared.shapes.Size.{Size}
use Rattle.node_tree.specs.Forest.{Forest}
use Rattle.node_tree.specs.Forest.Forest.{none, tree}
use Rattle.widget_model.specs.Look.{Look, sliver_lazy}
use Rattle.work_roles.specs.WorkRole.{is_offstage, is_viewport}
use Rattle.plain_tree.specs.declared.laid.Frame.{Frame}
use Rattle.plain_tree.specs.declared.laid.Frame.TheVariants.{Boxed, Sliver}
use Rattle.tree_marks.specs.Closed.{any_mark, IsLinked, EndsTops, IsClosed, is_apart}
use Rattle.tree_marks.specs.Marking.{Above, within}
use Rattle.tree_marks.proofs.Closing.{either}
use Rattle.layout_form.specs.declared.asks.Ask.TheVariants.{AsBox, AsSliver}
use Rattle.layout_form.specs.Framed.{fixed_size}
use Rattle.layout_form.specs.Object.{Setting}
use Rattle.render_tree.specs.Marks.{layout_marks, is_shown, ends_in}
use Rattle.render_tree.specs.Object.{RenderObject, object_look, bounds_in, sliver_in}
use Rattle.layout_walk.specs.Here.{IsFirm, AreFirm, HaveFixed, AreApart, EndsItself, HereAll}
use Rattle.layout_walk.specs.Node.{member, ask_in}
use Rattle.layout_walk.specs.Rule.{Lawful}
use Rattle.layout_walk.specs.Rules.{parts_of, fixed_in, is_list, lazy_extent}
use Rattle.layout_walk.proofs.Closing.{firm_from, fixed_from}
use Rattle.layout_rules.specs.Nodes.{layout_node, layout_nodes}
use Rattle.kept_layouts.specs.Apart.{AreSettled, is_laid_list, stands_apart}
use Rattle.kept_layouts.proofs.Kept.{any_marks, not_marked}
use Rattle.kept_layouts.proofs.Reading.{blind_offstage, fixed_by, fixed_tests, fixed_there}

-- ---- one node

mapped_there : {A B : Type 0} (g : A → B) (o : Option A) (y : B) → option_map g o ≡ Some y → (x : A) × (o ≡ Some x)
mapped_there g None y e = absurd (cc)
mapped_there g (Some x) y e = (x, refl)

tight_ends : (t : Bool) (x size : Size) → (if t then Some x else None) ≡ Some size → (t || false) ≡ true
tight_ends true x size e = refl
tight_ends false x size e = absurd (cc)

tests_end : (view hidden : Bool) (b : Bounds) (size : Size) → fixed_by view hidden b ≡ Some size → (is_tight b || ((view || hidden) || false)) ≡ true
tests_end true hidden b size e = or_right (is_tight b) true refl
tests_end false true b size e = or_right (is_tight b) true refl
tests_end false false b size e = tight_ends (is_tight b) _ size e

more_ends : (top tight sized hidden : Bool) → (tight || (sized || false)) ≡ true → (top || (tight || (sized || hidden))) ≡ true
more_ends true tight sized hidden e = refl
more_ends false true sized hidden e = refl
more_ends false false true hidden e = refl
more_ends false false false hidden e = absurd (false≢true e)

-- bounds that give the size of a box end marks
box_ends : (top hidden : Bool) (look : Look) (b : Bounds) (size : Size) → fixed_size look b ≡ Some size → ends_in (Some b) top hidden look ≡ true
box_ends top hidden look b size e =
    more_ends top (is_tight b) (is_viewport look || is_offstage look) hidden (tests_end (is_viewport look) (is_offstage look) b size (sym (fixed_tests look b) ∙ e))

list_is : (look : Look) → is_some (lazy_extent look) ≡ is_list look
list_is (sliver_lazy extent) = refl
list_is look = refl

some_there : {A : Type 0} (o : Option A) (x : A) → o ≡ Some x → is_some o ≡ true
some_there o x e = ap is_some e

either_apart : (hidden unseen ends list : Bool) → ends ≡ true → (hidden || ((unseen || ends) || list)) ≡ true
either_apart true unseen ends list e = refl
either_apart false true ends list e = refl
either_apart false false ends list e = ap (λ b. b || list) e

list_apart : (hidden apart list : Bool) → list ≡ true → (hidden || (apart || list)) ≡ true
list_apart hidden apart list e = or_right hidden (apart || list) (or_right apart list e)

pub firm_apart : (s : Setting) (p : Above) (o : RenderObject) → IsFirm (parts_of s) (layout_node o) → stands_apart p o ≡ true
firm_apart s p o firm = by_frame firm.frame firm.stored firm.fixed
  where
    by_frame : (frame : Frame) → o.frame ≡ Some frame → fixed_in (member (layout_node o)) (ask_in frame) ≡ Some frame → stands_apart p o ≡ true
    by_frame (Boxed b size) stored fixed =
        let there = mapped_there (λ (x : Size). Boxed b x) (fixed_size (object_look o) b) (Boxed b size) fixed in
        either_apart p.hidden (not o.shown) (ends_in (bounds_in o.frame) p.top p.hidden (object_look o)) (is_laid_list o)
        (ap (λ (x : Option Frame). ends_in (bounds_in x) p.top p.hidden (object_look o)) stored ∙ box_ends p.top p.hidden (object_look o) b there.0 there.1)
    by_frame (Sliver b geometry) stored fixed =
        let there = mapped_there _ (lazy_extent (object_look o)) (Sliver b geometry) fixed in
        list_apart p.hidden (is_apart layout_marks is_shown p o) (is_laid_list o)
        (ap (λ (x : Option Frame). is_some (sliver_in x) && is_list (object_look o)) stored ∙ (sym (list_is (object_look o)) ∙ some_there (lazy_extent (object_look o)) there.0 there.1))

-- where the parent isn't offstage, nothing else stands apart in the window
ends_left : (hidden unseen ends list : Bool) → hidden ≡ false → unseen ≡ false → (hidden || ((unseen || ends) || list)) ≡ true → (ends ≡ true) ⊎ (list ≡ true)
ends_left true unseen ends list h u e = absurd (true≢false h)
ends_left false true ends list h u e = absurd (true≢false u)
ends_left false false ends list h u e = either ends list e

mapped_some : {A B : Type 0} (g : A → B) (o : Option A) (x : A) → o ≡ Some x → IsSome (option_map g o)
mapped_some {A = A} g o x e = ap (λ (y : Option A). is_some (option_map g y)) e

box_itself : (s : Setting) (o : RenderObject) (top hidden : Bool) → top ≡ false → hidden ≡ false → ends_in (bounds_in o.frame) top hidden (object_look o) ≡ true → EndsItself (parts_of s) (layout_node o)
box_itself s o top hidden t h ends =
    by_frame o.frame refl (λ i. ends_in (bounds_in o.frame) (sym t i) (sym h i) (object_look o)) ends
  where
    by_frame : (x : Option Frame) → o.frame ≡ x → ends_in (bounds_in o.frame) false false (object_look o) ≡ ends_in (bounds_in o.frame) top hidden (object_look o)
        → ends_in (bounds_in o.frame) top hidden (object_look o) ≡ true → EndsItself (parts_of s) (layout_node o)
    by_frame None e plain ends = absurd (false≢true (ap (λ (y : Option Frame). ends_in (bounds_in y) false false (object_look o)) (sym e) ∙ (plain ∙ ends)))
    by_frame (Some (Sliver b geometry)) e plain ends = absurd (false≢true (ap (λ (y : Option Frame). ends_in (bounds_in y) false false (object_look o)) (sym e) ∙ (plain ∙ ends)))
    by_frame (Some (Boxed b size)) e plain ends =
        let there = fixed_there (is_viewport (object_look o)) (is_offstage (object_look o)) b
        (ap (λ (y : Option Frame). ends_in (bounds_in y) false false (object_look o)) (sym e) ∙ (plain ∙ ends)) in
        (AsBox b, ap (option_map ask_in) e, mapped_some (λ (x : Size). Boxed b x) (fixed_size (object_look o) b) there.0 (fixed_tests (object_look o) b ∙ there.1))

extent_there : {A : Type 0} (o : Option A) → is_some o ≡ true → (x : A) × (o ≡ Some x)
extent_there None e = absurd (false≢true e)
extent_there (Some x) e = (x, refl)

list_itself : (s : Setting) (o : RenderObject) → is_laid_list o ≡ true → EndsItself (parts_of s) (layout_node o)
list_itself s o is = by_frame o.frame refl is
  where
    by_frame : (x : Option Frame) → o.frame ≡ x → (is_some (sliver_in x) && is_list (object_look o)) ≡ true → EndsItself (parts_of s) (layout_node o)
    by_frame None e is = absurd (false≢true is)
    by_frame (Some (Boxed b size)) e is = absurd (false≢true is)
    by_frame (Some (Sliver b geometry)) e is =
        let there = extent_there (lazy_extent (object_look o)) (list_is (object_look o) ∙ is) in
        (AsSliver b, ap (option_map ask_in) e, mapped_some _ (lazy_extent (object_look o)) there.0 there.1)

apart_itself : (s : Setting) (p : Above) (o : RenderObject) → p.top ≡ false → p.hidden ≡ false → stands_apart p o ≡ true → o.shown ≡ true → EndsItself (parts_of s) (layout_node o)
apart_itself s p o top hidden is shown =
    by_case (ends_left p.hidden (not o.shown) (ends_in (bounds_in o.frame) p.top p.hidden (object_look o)) (is_laid_list o) hidden (ap not shown) is)
  where
    by_case : (ends_in (bounds_in o.frame) p.top p.hidden (object_look o) ≡ true) ⊎ (is_laid_list o ≡ true) → EndsItself (parts_of s) (layout_node o)
    by_case (inl e) = box_itself s o p.top p.hidden top hidden e
    by_case (inr e) = list_itself s o e

-- ---- the children of a node

tops_apart : (s : Setting) (p : Above) (f : Forest RenderObject) → p.top ≡ false → p.hidden ≡ false → EndsTops layout_marks stands_apart [] p f → AreApart (parts_of s) (layout_nodes f)
tops_apart s p none top hidden ends = tt
tops_apart s p (tree k v kids rest) top hidden ends = ((λ shown flag. apart_itself s p v top hidden (ends.0 flag refl) shown), tops_apart s p rest top hidden ends.1)

hidden_ends : (p : Above) (f : Forest RenderObject) → p.hidden ≡ true → EndsTops layout_marks stands_apart [] p f
hidden_ends p none hidden = tt
hidden_ends p (tree k v kids rest) hidden =
    ((λ flag off. ap (λ b. b || (is_apart layout_marks is_shown p v || is_laid_list v)) hidden), hidden_ends p rest hidden)

firm_ends : (s : Setting) (p : Above) (f : Forest RenderObject) → AreFirm (parts_of s) (layout_nodes f) → EndsTops layout_marks stands_apart [] p f
firm_ends s p none firm = tt
firm_ends s p (tree k v kids rest) firm = (λ flag off. by_shown v.shown refl flag, firm_ends s p rest firm.1)
  where
    by_shown : (b : Bool) → v.shown ≡ b → v.needs_layout ≡ true → stands_apart p v ≡ true
    by_shown true e flag = firm_apart s p v (firm.0 e flag)
    by_shown false e flag = or_right p.hidden (is_apart layout_marks is_shown p v || is_laid_list v) (ap (λ b. (not b || ends_in (bounds_in v.frame) p.top p.hidden (object_look v)) || is_laid_list v) e)

-- ---- all nodes

module _ (s : Setting) (law : Lawful (parts_of s)) where
  pub here_settled : (f : Forest RenderObject) → HereAll (parts_of s) (layout_nodes f) → AreSettled (parts_of s) (layout_nodes f)
  here_settled none all = tt
  here_settled (tree k v kids rest) all = (
    (λ flag. (all.0.consistent flag, fixed_or (all.0.closed flag))),
    here_settled kids all.1,
    here_settled rest all.2,
  )
    where
      fixed_or : ((parts_of s).blind (object_look v) ≡ true) ⊎ AreFirm (parts_of s) (layout_nodes kids) → ((parts_of s).blind (object_look v) ≡ true) ⊎ HaveFixed (parts_of s) (layout_nodes kids)
      fixed_or (inl blind) = inl blind
      fixed_or (inr firm) = inr (fixed_from (parts_of s) law (layout_nodes kids) all.1 firm)

  closed_or : (p : Above) (v : RenderObject) (kids : Forest RenderObject) (b : Bool) → is_offstage (object_look v) ≡ b → ((parts_of s).blind (object_look v) ≡ true) ⊎ HaveFixed (parts_of s) (layout_nodes kids)
      → EndsTops layout_marks stands_apart [] (within layout_marks p v) kids → ((parts_of s).blind (object_look v) ≡ true) ⊎ AreFirm (parts_of s) (layout_nodes kids)
  closed_or p v kids b hidden (inl blind) ends = inl blind
  closed_or p v kids true hidden (inr fixed) ends = inl (blind_offstage (object_look v) ∙ hidden)
  closed_or p v kids false hidden (inr fixed) ends =
      inr (firm_from (parts_of s) (layout_nodes kids) (tops_apart s (within layout_marks p v) kids refl hidden ends) fixed)

  pub settled_all : (p : Above) (f : Forest RenderObject) → AreSettled (parts_of s) (layout_nodes f) → IsClosed layout_marks stands_apart [] p f → IsLinked layout_marks f → HereAll (parts_of s) (layout_nodes f)
  settled_all p none settled closed linked = tt
  settled_all p (tree k v kids rest) settled closed linked = (
    record {
      consistent = λ flag. (settled.0 flag).0;
      closed = λ flag. closed_or p v kids (is_offstage (object_look v)) refl (settled.0 flag).1 (closed.0 flag refl);
      marked = λ below. not_marked kids (by_marks (any_mark layout_marks kids) refl below);
    },
    settled_all (within layout_marks p v) kids settled.1 closed.1 linked.1,
    settled_all p rest settled.2 closed.2 linked.2,
  )
    where
      by_marks : (b : Bool) → any_mark layout_marks kids ≡ b → v.layout_below ≡ false → any_mark layout_marks kids ≡ false
      by_marks false e below = e
      by_marks true e below = absurd (true≢false (sym (linked.0 refl e) ∙ below))

pub here_closed : (s : Setting) (p : Above) (f : Forest RenderObject) → HereAll (parts_of s) (layout_nodes f) → IsClosed layout_marks stands_apart [] p f
here_closed s p none all = tt
here_closed s p (tree k v kids rest) all = ((λ flag off. ends (all.0.closed flag)), here_closed s (within layout_marks p v) kids all.1, here_closed s p rest all.2)
  where
    ends : ((parts_of s).blind (object_look v) ≡ true) ⊎ AreFirm (parts_of s) (layout_nodes kids) → EndsTops layout_marks stands_apart [] (within layout_marks p v) kids
    ends (inl blind) = hidden_ends (within layout_marks p v) kids (sym (blind_offstage (object_look v)) ∙ blind)
    ends (inr firm) = firm_ends s (within layout_marks p v) kids firm

pub here_linked : (s : Setting) (f : Forest RenderObject) → HereAll (parts_of s) (layout_nodes f) → IsLinked layout_marks f
here_linked s none all = tt
here_linked s (tree k v kids rest) all = ((λ off marks. by_case v.layout_below refl marks), here_linked s kids all.1, here_linked s rest all.2)
  where
    by_case : (b : Bool) → v.layout_below ≡ b → any_mark layout_marks kids ≡ true → v.layout_below ≡ true
    by_case true e marks = e
    by_case false e marks = absurd (false≢true (sym (any_marks kids (all.0.marked e)) ∙ marks))

-- ---- boxes alone

apart_more : (p : Above) (f : Forest RenderObject) → EndsTops layout_marks (is_apart layout_marks is_shown) [] p f → EndsTops layout_marks stands_apart [] p f
apart_more p none ends = tt
apart_more p (tree k v kids rest) ends = (
  λ flag off. or_right p.hidden (is_apart layout_marks is_shown p v || is_laid_list v) (ap (λ b. b || is_laid_list v) (ends.0 flag off)),
  apart_more p rest ends.1,
)

pub closed_more : (p : Above) (f : Forest RenderObject) → IsClosed layout_marks (is_apart layout_marks is_shown) [] p f → IsClosed layout_marks stands_apart [] p f
closed_more p none closed = tt
closed_more p (tree k v kids rest) closed =
    ((λ flag off. apart_more (within layout_marks p v) kids (closed.0 flag off)), closed_more (within layout_marks p v) kids closed.1, closed_more p rest closed.2)
