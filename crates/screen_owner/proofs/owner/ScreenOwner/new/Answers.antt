use Rattle.std.proofs.Common.{Option, option_map, ap, sym, subst}
use Rattle.fx_handles.specs.declared.Handle.{Handle}
use Rattle.node_tree.specs.Forest.{TreeNode}
use Rattle.render_tree.specs.Object.{RenderObject}
use Rattle.render_tree.specs.Plain.{renders_of, root_below}
use Rattle.render_readers.specs.Shown.{laid_once}
use Rattle.paint_owner.specs.PaintOwner.{IsKept}
use Rattle.layout_form.specs.Object.{setting_of}
use Rattle.screen_owner.proofs.Owning.{empty_keeps}
use Rattle.screen_owner.proofs.owner.ScreenOwner.new.Goals as goal

pub returns-clause-right : goal.returns-clause-right
returns-clause-right c = λ delegates.
    let t = c.new.result.tree in record {
      layouts = empty_keeps (setting_of c.new.result.scale delegates) t c.new.ensures.plain;
      layers = subst (λ (r : Option Handle). IsKept c.new.result.scale.cell delegates c.new-3.result (root_below t r)) (sym c.new.ensures.root) (record { boundaries = tt; root = tt; marks = tt });
    }

pub returns-clause-shown : goal.returns-clause-shown
returns-clause-shown c = ap (λ (r : Option Handle). laid_once (root_below c.new.result.tree r)) c.new.ensures.root

pub returns-clause-nodes : goal.returns-clause-nodes
returns-clause-nodes c = λ k. ap (option_map (λ (n : TreeNode RenderObject). n.value)) (c.new.ensures.nodes.absent k)

pub returns-clause-renders : goal.returns-clause-renders
returns-clause-renders c = ap (λ (r : Option Handle). renders_of (root_below c.new.result.tree r)) c.new.ensures.root
