use Rattle.std.proofs.Common.{◌++◌, ◌∷◌, []}
use Rattle.build_form.specs.Program.{blueprint_of}
use Rattle.frame_owner.proofs.Marking.{marked_more}
use Rattle.frame_owner.proofs.Known.{settled_marked}
use Rattle.frame_owner.proofs.laws.marks_need_nodes.Goals as goal

pub returns : goal.returns
returns c = λ p ds marks tree x number st away. record {
  scrolled = st.scrolled;
  trees = marked_more p marks tree st.scrolled x.elements x.screen.nodes x.keys number st.trees away;
  right = st.right;
  unasked = st.unasked;
  settled = settled_marked p marks (marks ++ number ∷ []) number tree x.elements x.keyless x.marked x.settled (λ w n gone. c.lines_leave_settled_trees.ensures.marked (blueprint_of p) marks w n number gone)
      (λ k w n gone. c.lines_leave_marked_trees.ensures.marked (blueprint_of p) marks w n k number gone) away st.settled;
  still = st.still;
}
