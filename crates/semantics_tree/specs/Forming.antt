-- A semantics node in the making: what it has heard so far.
use Rattle.std.specs.Prelude.{ℕ, Bool, true, false, ◌||◌, Option, None, List, [], ◌∷◌, ◌++◌, map, string_bytes}
use Rattle.fx_geom.specs.declared.shapes.Rect.{Rect}
use Rattle.std.specs.Option.{option_or}
use Rattle.semantics_tree.specs.declared.semantics_role.SemanticsRole as rust
use Rattle.semantics_tree.specs.declared.semantics_role.SemanticsRole.TheVariants as role
use Rattle.semantics_tree.specs.declared.forming.Forming.{Forming}
use Rattle.screen_form.specs.SemanticsRole.{SemanticsRole, hides, says, forms, merges}
use Rattle.screen_form.specs.Sem.{Sem, sem, sems_of}
use Rattle.semantics_tree.specs.View.{sem_of}
use Rattle.screen_form.specs.Fragment.{Fragment, joined, has_button_in, first_tap_in, first_long_in, labels_in}

-- what a node is, as the program says it
abbrev pub seen : rust.SemanticsRole → SemanticsRole
seen role.Hides = hides
seen (role.Says label button) = says label.now button
seen (role.Forms label button tap long) = forms label.now button tap long
seen role.Merges = merges

-- two labels, with U+000A between them; an empty one adds nothing
abbrev pub with_line : List ℕ → List ℕ → List ℕ
with_line [] label = label
with_line (b ∷ bytes) [] = b ∷ bytes
with_line (b ∷ bytes) (c ∷ label) = (b ∷ bytes) ++ (10 ∷ (c ∷ label))

-- whether the node merges what is below it; its label so far; whether it is a button; its detectors; and the nodes below it
pub record Heard : Type 0 where
  pub merging : Bool
  pub label : List ℕ
  pub button : Bool
  pub tap : Option ℕ
  pub long : Option ℕ
  pub nodes : List Sem

abbrev pub heard : Forming → Heard
heard f = record { merging = f.merging; label = string_bytes f.label; button = f.button; tap = f.tap; long = f.long; nodes = map sem_of f.nodes.items }

abbrev pub begun : Bool → Option ℕ → Option ℕ → Heard
begun merging tap long = record { merging = merging; label = []; button = false; tap = tap; long = long; nodes = [] }

-- what a node takes of what is given
abbrev pub labels_for : Bool → Fragment → List (List ℕ)
labels_for true g = g.merged
labels_for false g = g.labels

abbrev pub button_for : Bool → Fragment → Bool
button_for true g = g.button || has_button_in (sems_of g.nodes)
button_for false g = g.button

abbrev pub tap_for : Bool → Fragment → Option ℕ
tap_for true g = first_tap_in (sems_of g.nodes)
tap_for false g = None

abbrev pub long_for : Bool → Fragment → Option ℕ
long_for true g = first_long_in (sems_of g.nodes)
long_for false g = None

abbrev pub nodes_for : Bool → Fragment → List Sem
nodes_for true g = []
nodes_for false g = g.nodes

-- what it has heard after that
abbrev pub after : Heard → Fragment → Heard
after h g =
    record {
      merging = h.merging;
      label = with_line h.label (joined (labels_for h.merging g));
      button = h.button || button_for h.merging g;
      tap = option_or h.tap (tap_for h.merging g);
      long = option_or h.long (long_for h.merging g);
      nodes = h.nodes ++ nodes_for h.merging g;
    }

-- what nodes give one after another
abbrev pub side_by_side : List Sem → Fragment
side_by_side ss = record { labels = []; merged = labels_in (sems_of ss); button = false; nodes = ss }

-- the node that is made
abbrev pub made : Heard → ℕ → Rect → Sem
made h id rect = sem id rect h.label h.button h.tap h.long (sems_of h.nodes)
