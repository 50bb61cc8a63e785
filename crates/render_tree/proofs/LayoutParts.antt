-- The parts of a render node tell how far marks for layout reach, and a plan's update keeps marks.
use Rattle.std.proofs.Common.{◌≡◌, Bool, true, false, not, ◌&&◌, ◌||◌, List, [], Option, Some, None, option_map, refl, sym, ap, ◌∙◌}
use Rattle.fx_geom.specs.declared.boxes.Bounds.{Bounds}
use Rattle.fx_geom.specs.Bounds.{is_tight}
use Rattle.fx_handles.specs.declared.Handle.{Handle}
use Rattle.fx_handles.specs.ArenaLaws.{same_Some}
use Rattle.node_tree.specs.Forest.{TreeNode, Forest}
use Rattle.node_tree.specs.Tree.{Tree, node_at, value_at}
use Rattle.node_tree.specs.Plan.{PlanEntry, IsPlan, IsUpdated}
use Rattle.widget_model.specs.Look.{Look}
use Rattle.plain_tree.specs.declared.render.ParentData.{ParentData}
use Rattle.work_roles.specs.WorkRole.{is_intrinsic, is_intrinsic_role, is_offstage, is_viewport}
use Rattle.work_roles.proofs.Blanks.{same_role}
use Rattle.tree_marks.specs.Marking.{Above, IsWhole}
use Rattle.tree_marks.specs.Marks.{sweep}
use Rattle.tree_marks.specs.Closed.{IsLinked, IsClosed, is_apart}
use Rattle.tree_marks.specs.Commit.{AreParts, KeepsMarks, IsReady, IsCommit, IsSettled, IsLinkedStore, IsClosedStore}
use Rattle.tree_marks.proofs.Surviving.{IsSettled-sweep, IsClosed-settled, IsLinked-settled, IsCommit-planned}
use Rattle.render_tree.specs.Object.{RenderObject, bounds_in, object_look}
use Rattle.render_tree.specs.Redraw.{Redraw, redrawn}
use Rattle.render_tree.specs.Marks.{LayoutTold, LayoutStored, layout_marks, layout_parts, layout_told, has_say, is_shown, ends_in}
use Rattle.render_tree.specs.MarkLaws.{layout_lawful}
use Rattle.render_tree.specs.Changes.{LaidAnew}
use Rattle.render_tree.proofs.Covering.{anew-covers, hides_same}

-- whether a layout tells nothing above, by what a parent takes of the node
ends_by : Option Bounds → Bool → Bool → Bool → Bool → Bool
ends_by None top hidden viewport offstage = false
ends_by (Some b) top hidden viewport offstage = top || (is_tight b || ((viewport || offstage) || hidden))

ends-by : (b : Option Bounds) (top hidden : Bool) (l : Look) → ends_in b top hidden l ≡ ends_by b top hidden (is_viewport l) (is_offstage l)
unfolding ends_by
ends-by None top hidden l = refl
ends-by (Some b) top hidden l = refl

-- by what it takes, which is all that has a say
said : (top tight hidden viewport offstage : Bool)
    → (top || (tight || ((viewport || offstage) || hidden))) ≡ (top || (tight || (((not (hidden || tight) && viewport) || (not (hidden || tight) && offstage)) || hidden)))
said top true true viewport offstage = refl
said top true false viewport offstage = refl
said top false false viewport offstage = refl
said top false true true offstage = refl
said top false true false true = refl
said top false true false false = refl

ends-told : (b : Option Bounds) (top hidden viewport offstage : Bool) → ends_by b top hidden viewport offstage ≡ ends_by b top hidden (has_say hidden b && viewport) (has_say hidden b && offstage)
unfolding ends_by
ends-told None top hidden viewport offstage = refl
ends-told (Some b) top hidden viewport offstage = said top (is_tight b) hidden viewport offstage

ends-of : (hidden top : Bool) (o : RenderObject) → ends_in (bounds_in o.frame) top hidden (object_look o) ≡ ends_by (bounds_in o.frame) top hidden (layout_told hidden o).is_viewport (layout_told hidden o).is_offstage
ends-of hidden top o =
    ends-by (bounds_in o.frame) top hidden (object_look o) ∙ ends-told (bounds_in o.frame) top hidden (is_viewport (object_look o)) (is_offstage (object_look o))

pub layout_whole : IsWhole layout_marks
layout_whole = λ top o. refl

abbrev bare : ParentData → LayoutTold
bare data_above = record { parent_data = data_above; is_viewport = false; is_offstage = false }

pub layout_are_parts : AreParts layout_marks layout_parts is_shown
layout_are_parts = record {
  own = λ f b v. refl;
  told = λ hidden f b v. refl;
  stored = λ f b v. refl;
  hides = hides_same;
  asks = λ v w e.
      sym (ap is_intrinsic_role (same_role (object_look v))) ∙ (ap (λ x. is_intrinsic x.look) e ∙ ap is_intrinsic_role (same_role (object_look w)));
  less = λ hidden v w e. ap (λ (d : LayoutTold). bare d.parent_data) e;
  ends = λ hidden v w told stored top.
      ends-of hidden top v
      ∙ (ap (λ (s : LayoutStored). ends_by (bounds_in s.frame) top hidden (layout_told hidden v).is_viewport (layout_told hidden v).is_offstage) stored
      ∙ (ap (λ (x : LayoutTold). ends_by (bounds_in w.frame) top hidden x.is_viewport x.is_offstage) told ∙ sym (ends-of hidden top w)));
  shown = λ v w stored. ap (λ s. s.shown) stored;
}

redraw_keeps : KeepsMarks redrawn layout_marks layout_parts
redraw_keeps = record { flag = λ u v. refl; below = λ u v. refl; stored = λ u v. refl }

-- the tree just before the commit
ready : (t : Tree RenderObject) → IsReady redrawn layout_marks layout_parts (node_at t) (value_at t)
ready t = record {
  was = λ k n v is now. same_Some (sym now ∙ ap (option_map (λ (y : TreeNode RenderObject). y.value)) is);
  fresh = λ k v is now. absurd (let gone = sym now ∙ ap (option_map (λ (y : TreeNode RenderObject). y.value)) is in some_none v gone);
}
  where
    some_none : (v : RenderObject) → Some v ≡ None → ⊥
    some_none v e = cc

module _ (t : Tree RenderObject) (es : List (PlanEntry Redraw)) (root : Option Handle) (inactive : List Handle) (g : Forest Redraw) (f : Forest RenderObject) (hs : List Handle)
    (plan : IsPlan t es root inactive g) (anew : LaidAnew t root es hs) (made : IsUpdated redrawn (value_at t) g f) where
  commit : IsCommit layout_marks layout_parts hs (node_at t) f
  commit = IsCommit-planned redrawn layout_marks layout_parts redraw_keeps (node_at t) (value_at t) hs g f (ready t) (anew-covers t es root inactive g hs plan anew) made

  pub layouts_settled : (p : Above) → IsSettled layout_marks layout_parts (node_at t) (sweep layout_marks true hs p f)
  layouts_settled p = IsSettled-sweep layout_marks layout_lawful layout_parts is_shown layout_are_parts (node_at t) layout_whole true hs p f commit

  pub layouts_closed : (p : Above) → IsClosedStore layout_marks layout_parts is_shown (node_at t) → IsClosed layout_marks (is_apart layout_marks is_shown) [] p (sweep layout_marks true hs p f)
  layouts_closed p closed = IsClosed-settled layout_marks layout_lawful layout_parts is_shown layout_are_parts (node_at t) layout_whole closed true hs p f commit

  pub layouts_linked : (p : Above) → IsLinkedStore layout_marks layout_parts (node_at t) → IsLinked layout_marks (sweep layout_marks true hs p f)
  layouts_linked p linked = IsLinked-settled layout_marks layout_lawful layout_parts (node_at t) linked hs p f commit
