-- What a claim of a global key comes to.
use Rattle.std.specs.Prelude.{Bool, false, Option, Some, None, if◌then◌else◌}
use Rattle.widget_model.specs.Plain.{PlainWidget}
use Rattle.widget_model.specs.Update.{same_type}
use Rattle.node_tree.specs.Tree.{Tree}
use Rattle.element_tree.specs.Element.{Element, element_at}
use Rattle.global_keys.specs.declared.registry.Holder.{Holder}
use Rattle.global_keys.specs.declared.registry.Claim.{Claim}
use Rattle.global_keys.specs.declared.registry.Claim.TheVariants.{Fresh, Taken, Repeated}
use Rattle.global_keys.specs.Holders.{met}

-- an element has a widget's type
abbrev pub is_of_type : Option Element → PlainWidget → Bool
is_of_type None w = false
is_of_type (Some e) w = same_type e.widget w

-- a key that was met is repeated; else it is taken from the element that has it, where that is of the widget's type; else it is fresh
abbrev pub claim_of : Tree Element → Option Holder → PlainWidget → Claim
claim_of t None w = Fresh
claim_of t (Some x) w = if x.met then Repeated else if is_of_type (element_at t x.node) w then Taken x.node else Fresh

-- what is recorded of the key afterwards: that it was met, where it was taken
abbrev pub claimed_by : Claim → Holder → Holder
claimed_by Fresh x = x
claimed_by (Taken h) x = met x
claimed_by Repeated x = x
