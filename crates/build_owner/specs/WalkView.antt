-- How far a walk has come, as the program says it.
use Rattle.std.specs.Prelude.{ℕ, ◌+◌, List, map, option_copied}
use Rattle.program_check.specs.CheckedView.{plain_checked}
use Rattle.fx_expr.specs.declared.values.Value.{Value}
use Rattle.widget_model.specs.Plain.{PlainWidget, look_of}
use Rattle.widget_model.specs.Plain.{children_of as child_widgets}
use Rattle.widget_model.specs.Typed.{Declarations}
use Rattle.widget_model.specs.View.{shared}
use Rattle.template_build.specs.Program.{declarations_of}
use Rattle.build_form.specs.BuildRole.{build_role_of}
use Rattle.build_form.specs.Entering.{Phase, first, second, Blueprint, Basis}
use Rattle.build_form.specs.Partner.{Arrival}
use Rattle.build_form.specs.Program.{blueprint_of}
use Rattle.build_form.specs.Step.{Progress}
use Rattle.element_tree.specs.Element.{Element, made_count}
use Rattle.global_keys.specs.Holders.{Registry, is_met}
use Rattle.node_tree.specs.Tree.{Tree}
use Rattle.build_walk.specs.Kept.{plain_at_any}
use Rattle.build_walk.specs.Serving.{WaitingList}
use Rattle.build_walk.specs.Walked.{WalkPlans, WalkPlace, extent_in}
use Rattle.build_owner.specs.ArrivalView.{arrives_in}
use Rattle.build_owner.specs.LastFrame.{LastFrame, basis_in}
use Rattle.build_owner.specs.declared.arriving.Arrival.{Arrival as ArrivalOfWidget}
use Rattle.build_owner.specs.declared.source.WalkSource.{WalkSource}
use Rattle.build_owner.specs.declared.source.Phase.{Phase as PhaseOfWalk}
use Rattle.build_owner.specs.declared.source.Phase.TheVariants as phase
use Rattle.build_owner.specs.declared.walk.BuildWalk.{BuildWalk}
use Rattle.build_owner.specs.declared.walk.WaitingSpot.{WaitingSpot}
use Rattle.build_owner.specs.declared.walk.EnteredPlace.{EnteredPlace}

abbrev pub phase_of : PhaseOfWalk → Phase
phase_of phase.First = first
phase_of phase.Second = second

abbrev pub program_of : WalkSource → Blueprint
program_of s = blueprint_of (plain_checked s.checked.now)

abbrev pub basis_of : WalkSource → LastFrame → Basis
basis_of s f = basis_in (program_of s) f

abbrev pub declared_by : WalkSource → Declarations
declared_by s = declarations_of (plain_checked s.checked.now)

-- with what a lazy list waits: one with a number, below which so many depths are left, where the inherited names have these values
abbrev pub list_for : ℕ → ℕ → List Value → PlainWidget → WaitingList
list_for number left values w = record {
  number = number;
  extent = extent_in (build_role_of (look_of w));
  widgets = child_widgets w;
  left = left;
  values = values;
}

abbrev pub waiting_of : WaitingSpot → WaitingList
waiting_of s = list_for s.number s.left s.now.items (shared s.list)

-- what is planned
abbrev pub plans_of : BuildWalk → WalkPlans
plans_of w = record {
  elements = w.elements.items;
  renders = w.renders.items;
  tops = w.tops.items;
  lists = map (λ (s : WaitingSpot). s.at) w.spots.items;
  waiting = map waiting_of w.spots.items;
}

abbrev pub place_of : EnteredPlace → WalkPlace
place_of p = record { parent = p.parent; above = p.above; role = p.role.now; told = option_copied p.told }

-- how far the definition's walk has come where this one has
abbrev pub progress_of : LastFrame → BuildWalk → Registry → Tree Element → Progress
progress_of f w g t = record {
  entered = w.entered;
  met = λ k. is_met g k;
  next = made_count t + 1;
  waiting = map (λ (s : WaitingSpot). plain_at_any f.scrolled f.elements s.kept) w.spots.items;
}

-- a widget that arrives
abbrev pub plain_arrival : LastFrame → ArrivalOfWidget → Arrival
plain_arrival f a = arrives_in f.scrolled f.elements a
