-- What a frame does, by what its build brings.
use Rattle.std.proofs.Common.{◌≡◌, ℕ, Result, Ok, Err, IfErr, IfSome, Option, Some, None, sym, subst, inl, inr, ◌⊎◌}
use Rattle.fx_geom.specs.declared.shapes.Size.{Size}
use Rattle.node_tree.specs.Tree.{Tree}
use Rattle.plain_tree.specs.PlainNode.{PlainNode}
use Rattle.plain_tree.specs.Render.{Render}
use Rattle.layout_form.specs.Object.{Setting}
use Rattle.tree_marks.specs.Marking.{IsMarking}
use Rattle.build_form.specs.declared.faults.FrameFault.{FrameFault}
use Rattle.build_form.specs.FaultView.{fault_of}
use Rattle.build_form.specs.FullBuild.{Built, built}
use Rattle.build_form.specs.Step.{Fault}
use Rattle.render_tree.specs.Marks.{layout_marks, paint_marks}
use Rattle.render_tree.specs.Object.{RenderObject}
use Rattle.screen_owner.specs.Steps.{Brings, FrameSteps, StepsOver}
use Rattle.work_sets.specs.Work.{render_root}
use Rattle.frame_owner.specs.Working.{BuildBrings, FrameWorks, PhasedSteps}
use Rattle.frame_owner.proofs.Itself.{brings_itself}

-- what holds anyhow does at each fault
pub fault_anyhow : {A : Type 0} (P : Type 0) (r : Result A FrameFault) → P → IfErr r (λ e. IfSome (fault_of e) (λ f. P))
fault_anyhow {A} P (Ok x) h = tt
fault_anyhow {A} P (Err e) h = by_fault (fault_of e)
  where
    by_fault : (o : Option Fault) → IfSome o (λ f. P)
    by_fault None = tt
    by_fault (Some f) = h

-- what holds at each fault, and what else does
pub fault_both : {A : Type 0} (P Q : Fault → Type 0) (r : Result A FrameFault) → IfErr r (λ e. IfSome (fault_of e) P) → IfErr r (λ e. IfSome (fault_of e) Q) → IfErr r (λ e. IfSome (fault_of e) (λ f. P f × Q f))
fault_both {A} P Q (Ok x) h k = tt
fault_both {A} P Q (Err e) h k = by_fault (fault_of e) h k
  where
    by_fault : (o : Option Fault) → IfSome o P → IfSome o Q → IfSome o (λ f. P f × Q f)
    by_fault None h k = tt
    by_fault (Some f) h k = (h, k)

module _ (layout : IsMarking layout_marks) (paint : IsMarking paint_marks) (s : Setting) (view : Size) (nodes brought now : Tree RenderObject) (tree : PlainNode) (l0 l1 l2 p0 p1 : ℕ)
    (steps : (old : Tree RenderObject) (top : Render) → Brings old brought top → StepsOver s view old brought top now l1 l2 p0 p1) where
  frame_steps : BuildBrings s view nodes brought (render_root tree) l0 l1
      → FrameSteps s view nodes (render_root tree) now l0 l2 p0 p1 ⊎ PhasedSteps s view nodes (render_root tree) now l0 l2 p0 p1
  frame_steps (inl at_once) = inl (subst (λ (l : ℕ). FrameSteps s view nodes (render_root tree) now l l2 p0 p1) at_once.1 (steps nodes (render_root tree) at_once.0).steps)
  frame_steps (inr phases) =
      let over = steps brought (render_root tree) (brings_itself layout paint brought phases.after (render_root tree) phases.renders) in
      inr (record {
        brought = brought;
        layouts_between = l1;
        brings = phases;
        shows = over.steps;
        same = over.same;
      })

  pub works : (o : Built) (next : ℕ) → o ≡ built tree next → BuildBrings s view nodes brought (render_root tree) l0 l1 → FrameWorks s view o nodes now l0 l2 p0 p1
  works o next is brings = subst (λ (x : Built). FrameWorks s view x nodes now l0 l2 p0 p1) (sym is) (frame_steps brings)
