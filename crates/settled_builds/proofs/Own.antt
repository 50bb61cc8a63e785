-- Kinds that have their own children.
use Rattle.std.proofs.Common.{◌≡◌, ℕ, true, Option, Some, None, List, refl}
use Rattle.fx_expr.specs.declared.values.Value.{Value}
use Rattle.widget_model.specs.Look.{Look}
use Rattle.widget_model.specs.Plain.{PlainWidget}
use Rattle.widget_model.specs.Plain.{children_of as child_widgets}
use Rattle.build_form.specs.BuildRole.{BuildRole, composes, provides, keeps, lists, holds, build_role_of}
use Rattle.build_form.specs.Entering.{Blueprint, values_by}
use Rattle.build_walk.specs.Fresh.{HasOutput}
use Rattle.build_walk.proofs.Keeping.{of_component}
use Rattle.work_sets.specs.Due.{names_read}
use Rattle.settled_builds.specs.Settled.{AreItsOwn}
use Rattle.settled_builds.specs.Taken.{has_own_children}

pub own_reads_nothing : (look : Look) → has_own_children (build_role_of look) ≡ true → names_read look ≡ None
own_reads_nothing look own = by_names (names_read look) refl
  where
    no_component : (p : BuildRole) (place : ℕ) (props : List Value) → has_own_children p ≡ true → p ≡ composes place props → ⊥
    no_component (composes i ps) place props h e = cc
    no_component (provides name value) place props h e = cc
    no_component (keeps kept) place props h e = cc
    no_component (lists extent) place props h e = cc
    no_component holds place props h e = cc

    by_names : (r : Option (List ℕ)) → names_read look ≡ r → names_read look ≡ None
    by_names None e = e
    by_names (Some names) e = let c = of_component look names e in absurd (no_component (build_role_of look) c.0 c.1 own c.2)

pub own_children : (p : BuildRole) (w : PlainWidget) (ws : List PlainWidget) → has_own_children p ≡ true → ws ≡ child_widgets w → AreItsOwn p w ws
own_children (composes place props) w ws own e = cc
own_children (provides name value) w ws own e = e
own_children (keeps kept) w ws own e = e
own_children (lists extent) w ws own e = cc
own_children holds w ws own e = e

pub own_output : (b : Blueprint) (p : BuildRole) (w : PlainWidget) (fields values : List Value) (number : ℕ) (ws : List PlainWidget) → has_own_children p ≡ true → HasOutput b p w fields values number ws
own_output b (composes place props) w fields values number ws own = cc
own_output b (provides name value) w fields values number ws own = tt
own_output b (keeps kept) w fields values number ws own = tt
own_output b (lists extent) w fields values number ws own = tt
own_output b holds w fields values number ws own = tt

pub own_values : (p : BuildRole) (values : List Value) → has_own_children p ≡ true → values_by p values ≡ values
own_values (composes place props) values own = refl
own_values (provides name value) values own = cc
own_values (keeps kept) values own = refl
own_values (lists extent) values own = refl
own_values holds values own = refl
