use Rattle.std.proofs.Common.{Option, option_map, ap, sym, subst, arith, false}
use Rattle.fx_handles.specs.declared.Handle.{Handle}
use Rattle.node_tree.specs.Forest.{TreeNode}
use Rattle.layout_form.specs.Object.{setting_of}
use Rattle.kept_layouts.specs.Items.{AllListsUnasked}
use Rattle.render_tree.specs.Object.{RenderObject}
use Rattle.render_tree.specs.Plain.{renders_of, root_below}
use Rattle.render_readers.specs.Shown.{laid_once}
use Rattle.paint_owner.specs.PaintOwner.{IsKept}
use Rattle.screen_owner.proofs.Owning.{empty_keeps}
use Rattle.frame_owner.proofs.owner.FrameOwner.new.Goals as goal

pub returns-clause-stands : goal.returns-clause-stands
returns-clause-stands c = λ p delegates.
    let t = c.new-3.result.tree in record {
      scrolled = λ _. 0;
      trees = c.new_trees_stand.ensures p c.new.result.tree t c.new-2.result c.new.ensures.root c.new.ensures.plain c.new-3.ensures.root c.new-3.ensures.plain c.new-2.ensures.recorded;
      right = record {
        layouts = empty_keeps (setting_of c.new-3.result.scale delegates) t c.new-3.ensures.plain;
        layers = subst (λ (r : Option Handle). IsKept c.new-3.result.scale.cell delegates c.new-4.result (root_below t r)) (sym c.new-3.ensures.root) (record { boundaries = tt; root = tt; marks = tt });
      };
      unasked = subst (λ (o : Option Handle). AllListsUnasked false (renders_of (root_below t o))) (sym c.new-3.ensures.root) tt;
      settled = tt;
      still = tt;
    }

pub returns-clause-room : goal.returns-clause-room
returns-clause-room c =
    let elements = c.new.ensures.nodes.used in
    let renders = c.new-3.ensures.nodes.used in
    let made = c.new.ensures.nodes.inserted in
    let made_drawn = c.new-3.ensures.nodes.inserted in
    record {
      elements = omega (arith, elements);
      renders = omega (arith, renders);
      made = omega (arith, made);
      made_drawn = omega (arith, made_drawn);
    }

pub returns-clause-shown : goal.returns-clause-shown
returns-clause-shown c = ap (λ (r : Option Handle). laid_once (root_below c.new-3.result.tree r)) c.new-3.ensures.root

pub returns-clause-nodes : goal.returns-clause-nodes
returns-clause-nodes c = λ k. ap (option_map (λ (n : TreeNode RenderObject). n.value)) (c.new-3.ensures.nodes.absent k)
