-- Children with a flag that keep the frame which their bounds give: what ends marks, before a change and after it.
use Rattle.std.proofs.Common.{◌≡◌, ap, refl, sym, subst, ◌∙◌, ◌⊎◌, inl, inr, Bool, true, false, not, ◌&&◌, ◌||◌, Option, Some, None, option_map, List, []}
use Rattle.std.proofs.lemmas.Bool.{and_parts, or_right, false≢true}
use Rattle.std.specs.Prelude.{option_and_then}
use Rattle.fx_geom.specs.Bounds.{is_tight}
use Rattle.fx_geom.specs.declared.boxes.Bounds.{Bounds}
use Rattle.fx_geom.specs.declared.shapes.Size.{Size}
use Rattle.fx_handles.specs.declared.Handle.{Handle}
use Rattle.fx_handles.specs.ArenaLaws.{same_Some}
use Rattle.node_tree.specs.Forest.{TreeNode, Forest, tops, Stands}
use Rattle.node_tree.specs.Forest.Forest.{none, tree}
use Rattle.widget_model.specs.Look.{Look}
use Rattle.work_roles.specs.WorkRole.{is_offstage, is_viewport}
use Rattle.plain_tree.specs.declared.laid.Frame.{Frame}
use Rattle.plain_tree.specs.declared.laid.Frame.TheVariants.{Boxed, Sliver}
use Rattle.tree_marks.specs.Marking.{Above}
use Rattle.tree_marks.specs.Closed.{EndsTops, AreEnds}
use Rattle.tree_marks.specs.Commit.{tops_by, Keeps, Carried, IsCommit}
use Rattle.tree_marks.proofs.Closing.{either}
use Rattle.tree_marks.proofs.Settling.{heads}
use Rattle.layout_form.specs.declared.asks.Ask.{Ask}
use Rattle.layout_form.specs.declared.asks.Ask.TheVariants.{AsBox}
use Rattle.layout_form.specs.Framed.{fixed_size}
use Rattle.layout_form.specs.Object.{Setting}
use Rattle.render_tree.specs.Object.{RenderObject, object_look, bounds_in}
use Rattle.render_tree.specs.Marks.{LayoutOwn, LayoutTold, LayoutStored, layout_marks, layout_parts, layout_own, layout_told, layout_stored, ends_in, has_say}
use Rattle.layout_walk.specs.Node.{member, asked, ask_in}
use Rattle.layout_walk.specs.Asking.{same_frame, has_frame}
use Rattle.layout_walk.specs.Here.{IsFirm, AreFirm, HaveFixed}
use Rattle.layout_walk.specs.Rules.{parts_of, fixed_in}
use Rattle.layout_rules.specs.Nodes.{layout_node, layout_nodes}
use Rattle.kept_layouts.proofs.Reading.{fixed_same, fixed_told, fixed_tests, fixed_there}
use Rattle.kept_layouts.proofs.Seen.{SeenAlike}

-- the frame that the ask of the stored one gives alone
abbrev fixed_frame : RenderObject → Option Frame
fixed_frame o = option_and_then (λ (frame : Frame). fixed_in (member (layout_node o)) (ask_in frame)) o.frame

-- it is the stored one
abbrev pub is_firm : RenderObject → Bool
is_firm o = has_frame o.frame (fixed_frame o)

-- the bounds of the last layout give the size, whatever stands above
abbrev ends_alone : RenderObject → Bool
ends_alone o = ends_in (bounds_in o.frame) false false (object_look o)

-- a child with a flag leaves a parent without one as it is: it isn't in the window, nothing is above it, the parent is offstage, or it
-- has the frame that its bounds give
abbrev pub stays : Above → RenderObject → Bool
stays p o = not o.shown || (p.top || (p.hidden || (ends_alone o || is_firm o)))

ends_split : (b : Option Bounds) (top hidden : Bool) (look : Look) → ends_in b top hidden look ≡ true → (top || (hidden || ends_in b false false look)) ≡ true
ends_split None top hidden look e = absurd (false≢true e)
ends_split (Some b) true hidden look e = refl
ends_split (Some b) false true look e = refl
ends_split (Some b) false false look e = e

or_more : (a b c d e : Bool) → (b || (c || d)) ≡ true → (a || (b || (c || (d || e)))) ≡ true
or_more true b c d e is = refl
or_more false true c d e is = refl
or_more false false true d e is = refl
or_more false false false true e is = refl
or_more false false false false e is = absurd (false≢true is)

pub stays_ends : AreEnds layout_marks stays
stays_ends = record {
  boundary = λ p v e.
      or_more (not v.shown) p.top p.hidden (ends_alone v) (is_firm v)
      (ends_split (bounds_in v.frame) p.top p.hidden (object_look v) (and_parts (not p.asked) (ends_in (bounds_in v.frame) p.top p.hidden (object_look v)) e).1);
  steady = λ p f b v. refl;
}

-- ---- the test of frames

-- the test of two frames says when they are the same
pub record FrameTest : Type 0 where
  pub same : (a b : Frame) → same_frame a b ≡ true → a ≡ b
  pub itself : (a : Frame) → same_frame a a ≡ true

has_same : FrameTest → (o p : Option Frame) → has_frame o p ≡ true → (frame : Frame) × (o ≡ Some frame) × (p ≡ Some frame)
has_same test None p e = absurd (false≢true e)
has_same test (Some a) None e = absurd (false≢true e)
has_same test (Some a) (Some b) e = (b, ap (λ (x : Frame). Some x) (test.same a b e), refl)

firm_true : FrameTest → (s : Setting) (o : RenderObject) → IsFirm (parts_of s) (layout_node o) → is_firm o ≡ true
firm_true test s o firm =
    ap (λ (x : Option Frame). has_frame x (option_and_then (λ (frame : Frame). fixed_in (member (layout_node o)) (ask_in frame)) x)) firm.stored
    ∙ (ap (λ (x : Option Frame). has_frame (Some firm.frame) x) firm.fixed ∙ test.itself firm.frame)

true_firm : FrameTest → (s : Setting) (o : RenderObject) → is_firm o ≡ true → IsFirm (parts_of s) (layout_node o)
true_firm test s o e =
    let same = has_same test o.frame (fixed_frame o) e in
    record {
      frame = same.0;
      stored = same.1;
      fixed = sym (ap (λ (x : Option Frame). option_and_then (λ (frame : Frame). fixed_in (member (layout_node o)) (ask_in frame)) x) same.1) ∙ same.2;
    }

-- a node that is built as it was, and has what it had, is firm if it was
firm_same : (v w : RenderObject) → layout_own v ≡ layout_own w → layout_stored v ≡ layout_stored w → is_firm v ≡ is_firm w
firm_same v w own kept =
    let frames : v.frame ≡ w.frame = ap (λ (s : LayoutStored). s.frame) kept in
    ap (λ (x : Option Frame). has_frame x (option_and_then (λ (frame : Frame). fixed_in (member (layout_node v)) (ask_in frame)) x)) frames
    ∙ ap (λ (g : Frame → Option Frame). has_frame w.frame (option_and_then g w.frame))
    (λ at. λ (frame : Frame). fixed_same (member (layout_node v)) (member (layout_node w)) (ap (λ (x : LayoutOwn). x.look) own) (ap (λ (x : LayoutOwn). x.count) own) (ask_in frame) at)

-- ---- children of a node that isn't among the changed ones

not_true : (b : Bool) → b ≡ false → not b ≡ true
not_true b e = ap not e

or_all : (a b c d e : Bool) → e ≡ true → (a || (b || (c || (d || e)))) ≡ true
or_all a b c d e is = or_right a (b || (c || (d || e))) (or_right b (c || (d || e)) (or_right c (d || e) (or_right d e is)))

-- one with a flag that is built as it was
child_stays : FrameTest → (s : Setting) (p : Above) (v w : RenderObject) → layout_own v ≡ layout_own w → layout_stored v ≡ layout_stored w → (p.hidden ≡ true) ⊎ (w.shown ≡ true → IsFirm (parts_of s) (layout_node w))
    → stays p v ≡ true
child_stays test s p v w own kept (inl hidden) =
    or_right (not v.shown) (p.top || (p.hidden || (ends_alone v || is_firm v)))
    (or_right p.top (p.hidden || (ends_alone v || is_firm v)) (ap (λ (b : Bool). b || (ends_alone v || is_firm v)) hidden))
child_stays test s p v w own kept (inr firm) = by_shown w.shown refl
  where
    by_shown : (b : Bool) → w.shown ≡ b → stays p v ≡ true
    by_shown false e = ap (λ (b : Bool). b || (p.top || (p.hidden || (ends_alone v || is_firm v)))) (ap not (ap (λ (x : LayoutStored). x.shown) kept ∙ e))
    by_shown true e = or_all (not v.shown) p.top p.hidden (ends_alone v) (is_firm v) (firm_same v w own kept ∙ firm_true test s w (firm e))

-- each of them
abbrev ParentAs : Setting → Bool → Forest RenderObject → Type 0
ParentAs s hidden g = (hidden ≡ true) ⊎ AreFirm (parts_of s) (layout_nodes g)

first_as : (s : Setting) (hidden : Bool) (k : Handle) (w : RenderObject) (below rest : Forest RenderObject) → w.needs_layout ≡ true → ParentAs s hidden (tree k w below rest)
    → (hidden ≡ true) ⊎ (w.shown ≡ true → IsFirm (parts_of s) (layout_node w))
first_as s hidden k w below rest flag (inl e) = inl e
first_as s hidden k w below rest flag (inr firm) = inr (λ shown. firm.0 shown flag)

rest_as : (s : Setting) (hidden : Bool) (k : Handle) (w : RenderObject) (below rest : Forest RenderObject) → ParentAs s hidden (tree k w below rest) → ParentAs s hidden rest
rest_as s hidden k w below rest (inl e) = inl e
rest_as s hidden k w below rest (inr firm) = inr firm.1

pub children_stay : FrameTest → (s : Setting) (at : Handle → Option (TreeNode RenderObject)) (changed : List Handle) (p : Above) (b : Bool) (q : Option Handle) (f g : Forest RenderObject)
    → Stands at q g → tops_by (layout_told b) f ≡ tops_by (layout_told b) g → IsCommit layout_marks layout_parts changed at f → ParentAs s p.hidden g
    → EndsTops layout_marks stays changed p f
children_stay test s at changed p b q none g stands e commit parent = tt
children_stay test s at changed p b q (tree h v kids more) none stands e commit parent = absurd (cc)
children_stay test s at changed p b q (tree h v kids more) (tree k w below rest) stands e commit parent =
    let two = heads h k (Some (layout_told b v)) (Some (layout_told b w)) (tops_by (layout_told b) more) (tops_by (layout_told b) rest) e in
    let is : at h ≡ Some (record { parent = q; children = tops below; value = w }) = ap at two.handle ∙ stands.0 in (
      λ flag off.
          let keeps = kept_as (at h) is commit.0 in
          child_stays test s p v w (keeps.build off).own keeps.stored (first_as s p.hidden k w below rest (sym keeps.flag ∙ flag) parent),
      children_stay test s at changed p b q more rest stands.2 two.rest commit.2 (rest_as s p.hidden k w below rest parent),
    )
  where
    kept_as : (o : Option (TreeNode RenderObject)) → o ≡ Some (record { parent = q; children = tops below; value = w }) → Carried layout_marks layout_parts changed at o h v kids
        → Keeps layout_marks layout_parts changed at (record { parent = q; children = tops below; value = w }) h v kids
    kept_as None e c = absurd (cc)
    kept_as (Some n) e c = subst (λ (x : TreeNode RenderObject). Keeps layout_marks layout_parts changed at x h v kids) (same_Some e) c

-- ---- children of a node without a flag, once all marks are set

-- a box whose bounds give its size, where it had that size
box_firm : (s : Setting) (v w : RenderObject) → layout_told false v ≡ layout_told false w → layout_stored v ≡ layout_stored w → ends_alone v ≡ true
    → ((ask : Ask) (frame : Frame) → asked (layout_node w) ≡ Some ask → fixed_in (member (layout_node w)) ask ≡ Some frame → w.frame ≡ Some frame) → IsFirm (parts_of s) (layout_node v)
box_firm s v w told kept ends fixed = by_frame v.frame refl ends
  where
    by_frame : (o : Option Frame) → v.frame ≡ o → ends_in (bounds_in o) false false (object_look v) ≡ true → IsFirm (parts_of s) (layout_node v)
    by_frame None e ends = absurd (false≢true ends)
    by_frame (Some (Sliver b geometry)) e ends = absurd (false≢true ends)
    by_frame (Some (Boxed b size)) e ends =
        let frames : v.frame ≡ w.frame = ap (λ (x : LayoutStored). x.frame) kept in
        let say : (o : Option Frame) → o ≡ Some (Boxed b size) → has_say false (bounds_in o) ≡ not (is_tight b) = λ o is. ap (λ (x : Option Frame). has_say false (bounds_in x)) is in
        let views : (not (is_tight b) && is_viewport (object_look v)) ≡ (not (is_tight b) && is_viewport (object_look w)) =
        ap (λ (x : Bool). x && is_viewport (object_look v)) (sym (say v.frame e)) ∙ (ap (λ (x : LayoutTold). x.is_viewport) told ∙ ap (λ (x : Bool). x && is_viewport (object_look w)) (say w.frame (sym frames ∙ e))) in
        let hidings : (not (is_tight b) && is_offstage (object_look v)) ≡ (not (is_tight b) && is_offstage (object_look w)) =
        ap (λ (x : Bool). x && is_offstage (object_look v)) (sym (say v.frame e)) ∙ (ap (λ (x : LayoutTold). x.is_offstage) told ∙ ap (λ (x : Bool). x && is_offstage (object_look w)) (say w.frame (sym frames ∙ e))) in
        let there = fixed_there (is_viewport (object_look v)) (is_offstage (object_look v)) b ends in
        let new : fixed_size (object_look v) b ≡ Some there.0 = fixed_tests (object_look v) b ∙ there.1 in
        let old : fixed_size (object_look w) b ≡ Some there.0 =
        fixed_tests (object_look w) b
        ∙ (sym (fixed_told (is_tight b) (is_viewport (object_look v)) (is_offstage (object_look v)) (is_viewport (object_look w)) (is_offstage (object_look w)) b refl views hidings) ∙ there.1) in
        let stood : w.frame ≡ Some (Boxed b there.0) =
        fixed (AsBox b) (Boxed b there.0) (ap (λ (x : Option Frame). option_map ask_in x) (sym frames ∙ e)) (ap (λ (x : Option Size). option_map (λ (y : Size). Boxed b y) x) old) in
        record {
          frame = Boxed b there.0;
          stored = frames ∙ stood;
          fixed = ap (λ (x : Option Size). option_map (λ (y : Size). Boxed b y) x) new;
        }

child_firm : FrameTest → (s after : Setting) (p : Above) (v w : RenderObject) → p.top ≡ false → p.hidden ≡ false → layout_told false v ≡ layout_told false w → layout_stored v ≡ layout_stored w
    → (w.shown ≡ true → (ask : Ask) (frame : Frame) → asked (layout_node w) ≡ Some ask → fixed_in (member (layout_node w)) ask ≡ Some frame → w.frame ≡ Some frame)
    → stays p v ≡ true → v.shown ≡ true → IsFirm (parts_of after) (layout_node v)
child_firm test s after p v w top hidden told kept fixed is shown =
    let left : (ends_alone v || is_firm v) ≡ true =
    ap (λ (b : Bool). b || (ends_alone v || is_firm v)) (sym hidden)
    ∙ (ap (λ (b : Bool). b || (p.hidden || (ends_alone v || is_firm v))) (sym top)
    ∙ (ap (λ (b : Bool). not b || (p.top || (p.hidden || (ends_alone v || is_firm v)))) (sym shown) ∙ is)) in
    by_case (either (ends_alone v) (is_firm v) left)
  where
    by_case : (ends_alone v ≡ true) ⊎ (is_firm v ≡ true) → IsFirm (parts_of after) (layout_node v)
    by_case (inl e) = box_firm after v w told kept e (fixed (sym (ap (λ (x : LayoutStored). x.shown) kept) ∙ shown))
    by_case (inr e) = true_firm test after v e

pub children_firm : FrameTest → (s after : Setting) (p : Above) (f g : Forest RenderObject) → p.top ≡ false → p.hidden ≡ false → SeenAlike false f g → HaveFixed (parts_of s) (layout_nodes g)
    → EndsTops layout_marks stays [] p f → AreFirm (parts_of after) (layout_nodes f)
children_firm test s after p none g top hidden same fixed ends = tt
children_firm test s after p (tree h v kids more) none top hidden same fixed ends = absurd same
children_firm test s after p (tree h v kids more) (tree k w below rest) top hidden same fixed ends = (
  λ shown flag. child_firm test s after p v w top hidden same.0 same.1 fixed.0 (ends.0 flag refl) shown,
  children_firm test s after p more rest top hidden same.2 fixed.1 ends.1,
)
