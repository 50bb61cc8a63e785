use Rattle.std.proofs.Common.{◌≡◌, Some, None, option_map, refl, sym, ap, ◌∙◌, arith}
use Rattle.std.specs.Option.{option_to_list}
use Rattle.node_tree.specs.Forest.Forest.{none}
use Rattle.plain_tree.specs.declared.role.RenderRole.TheVariants.{Plain}
use Rattle.plain_tree.specs.PlainNode.{PlainNode, nodes_of as listed}
use Rattle.plain_tree.specs.Projection.{projected_all}
use Rattle.plain_tree.specs.Render.{renders_of as renders_listed}
use Rattle.element_tree.specs.Element.{element_at}
use Rattle.render_tree.specs.Plain.{renders_of}
use Rattle.global_keys.specs.declared.registry.Holder.{Holder}
use Rattle.build_owner.proofs.Elements.{with_key, live_stored}
use Rattle.build_owner.proofs.laws.new_trees_stand.Goals as goal

no_some : {A : Type 0} {x : A} → None ≡ Some x → ⊥
no_some e = cc

nothing_drawn : renders_of none ≡ renders_listed (projected_all Plain None (listed (option_to_list {X = PlainNode} None)))
unfolding projected_all
nothing_drawn = refl

pub returns : goal.returns
returns c = λ program t r g root is rooted drawn unrecorded. record {
  elements = record { forest = none; is = is; root = ap option_to_list root; nodes = refl; well = tt; numbered = tt; fresh = λ n low. refl; outputs = tt; flags = tt };
  renders = record { drawn = tt; objects = none; is = drawn; root = ap option_to_list rooted; projected = nothing_drawn };
  names = record {
    to_element = λ k h named. absurd (no_some (sym (ap (option_map (λ (x : Holder). x.node)) (unrecorded k)) ∙ named));
    to_holder = λ k h has. let e = with_key k (element_at t h) has in let within = is.whole h (live_stored t h e.0 e.1) in absurd (omega (arith, within));
  };
}
