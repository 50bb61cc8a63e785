-- What is laid out where children come into another order, worked by hand.
use Rattle.std.specs.Prelude.{◌≡◌, ℕ, ℤ, pos, Bool, true, false, Option, Some, None, option_map, List, [], ◌∷◌, ◌++◌, map}
use Rattle.widget_keys.specs.declared.keys.Key.TheVariants as key
use Rattle.widget_model.specs.declared.words.FlexFit.TheVariants.{Tight}
use Rattle.widget_model.specs.Look.{colored_box, flexible}
use Rattle.widget_model.specs.Plain.{PlainWidget}
use Rattle.plain_tree.specs.Laws.{render_numbers_in}
use Rattle.plain_tree.specs.PlainNode.{PlainNode, index_of}
use Rattle.plain_tree.specs.Render.{Render, renders_of}
use Rattle.build_form.specs.Entering.{Blueprint}
use Rattle.build_form.specs.FullBuild.{Built, failed, built}
use Rattle.build_form.specs.Worked.{starting, list_root, by_key, line, widget, bare}
use Rattle.settled_builds.specs.Looks.{NewLook, look_after}
use Rattle.settled_builds.specs.Moved.{having_index}
use Rattle.settled_builds.specs.Rearranged.{NewOrder, all_rearranged, order_after, looks_in, orders_in, drawn_in}
use Rattle.settled_builds.specs.WorkedSteps.{retaken_built, can_in, drawn_of, looks_of, orders_of, found_at, colored_by, listing, reordered_list, shown_below, nest_below, nested_set}

-- ---- of what a build came to

abbrev pub all_drawn_in : List PlainWidget → Built → Bool
all_drawn_in ws (failed fault) = false
all_drawn_in ws (built tree next) = drawn_in ws tree

abbrev pub shown_numbers : List PlainWidget → Built → List ℕ
shown_numbers ws was = render_numbers_in (renders_of (drawn_of (retaken_built ws 1 was)))

-- the render nodes of the old tree with the looks and in the orders of widgets that are taken below its root
abbrev pub rearranged_of : List PlainWidget → Built → List Render
rearranged_of ws was = all_rearranged (look_after (looks_of ws was)) (order_after (orders_of ws was)) (renders_of (drawn_of was))

-- of two steps, the second one at a number
abbrev pub looks_then : List PlainWidget → Option PlainNode → List NewLook
looks_then ws None = []
looks_then ws (Some n) = looks_in ws n

abbrev pub orders_then : List PlainWidget → Option PlainNode → List NewOrder
orders_then ws None = []
orders_then ws (Some n) = orders_in ws n

-- ---- trees

-- a component that gives these widgets
abbrev pub always : List PlainWidget → Blueprint
always ws = record {
  output = λ place props slots fields values number. ws;
  initial = λ place props. [];
  defaults = [];
  nodes = 65536;
}

-- rows with keys, in each of which there are boxes with keys, of which each has the color of its place
abbrev pub rows_by : List ℤ → List ℤ → List PlainWidget
rows_by [] ks = []
rows_by (n ∷ ns) ks = widget line (by_key n) (colored_by ks 1) ∷ rows_by ns ks

abbrev pub rows : List ℕ → List ℕ → List PlainWidget
rows ns ks = widget line key.None (rows_by (map (λ n. pos n) ns) (map (λ n. pos n) ks)) ∷ []

abbrev pub rows_built : Built
rows_built = starting (always (rows (1 ∷ 2 ∷ []) (1 ∷ 2 ∷ 3 ∷ []))) list_root

-- boxes around which a Flexible with a key says their share
abbrev pub share : ℕ → ℕ → PlainWidget
share n flex = widget (flexible flex Tight) (by_key (pos n)) (bare (colored_box n) ∷ [])

abbrev pub shares : List PlainWidget → List PlainWidget
shares ws = widget line key.None ws ∷ []

abbrev pub shares_built : Built
shares_built = starting (always (shares (share 1 2 ∷ share 2 3 ∷ []))) list_root

pub record WorksOfRearranging : Type 0 where
  -- rows come into another order, and so do the boxes in each
  pub rows_can : can_in (rows (2 ∷ 1 ∷ []) (3 ∷ 1 ∷ 2 ∷ [])) rows_built ≡ true
  pub rows_all_drawn : all_drawn_in (rows (2 ∷ 1 ∷ []) (3 ∷ 1 ∷ 2 ∷ [])) rows_built ≡ true
  pub rows_numbers : shown_numbers (rows (2 ∷ 1 ∷ []) (3 ∷ 1 ∷ 2 ∷ [])) rows_built ≡ 2 ∷ 7 ∷ 10 ∷ 8 ∷ 9 ∷ 3 ∷ 6 ∷ 4 ∷ 5 ∷ []
  pub rows_drawn : drawn_of (retaken_built (rows (2 ∷ 1 ∷ []) (3 ∷ 1 ∷ 2 ∷ [])) 1 rows_built) ≡ rearranged_of (rows (2 ∷ 1 ∷ []) (3 ∷ 1 ∷ 2 ∷ [])) rows_built
  -- what is told to a box goes with it, where no Flexible says anything else
  pub shares_can : can_in (shares (share 2 3 ∷ share 1 2 ∷ [])) shares_built ≡ true
  pub shares_all_drawn : all_drawn_in (shares (share 2 3 ∷ share 1 2 ∷ [])) shares_built ≡ true
  pub shares_numbers : shown_numbers (shares (share 2 3 ∷ share 1 2 ∷ [])) shares_built ≡ 2 ∷ 6 ∷ 4 ∷ []
  pub shares_drawn : drawn_of (retaken_built (shares (share 2 3 ∷ share 1 2 ∷ [])) 1 shares_built) ≡ rearranged_of (shares (share 2 3 ∷ share 1 2 ∷ [])) shares_built
  -- a Flexible that takes another widget isn't drawn
  pub share_can : can_in (shares (share 2 3 ∷ share 1 4 ∷ [])) shares_built ≡ true
  pub share_not_drawn : all_drawn_in (shares (share 2 3 ∷ share 1 4 ∷ [])) shares_built ≡ false
  -- an item of a list stands at another place of it, with its field and what is below it
  pub item_was : option_map index_of (found_at 3 reordered_list) ≡ Some 0
  pub item_moved : found_at 3 (retaken_built (listing (3 ∷ 1 ∷ 2 ∷ [])) 1 reordered_list) ≡ option_map (having_index 1) (found_at 3 reordered_list)
  -- what is laid out after two steps, of which the second one is of a component below the first one
  pub nest_drawn : drawn_of (retaken_built (shown_below 8) 4 (retaken_built (nest_below 9) 1 nested_set))
      ≡ all_rearranged (look_after (looks_of (nest_below 9) nested_set ++ looks_then (shown_below 8) (found_at 4 nested_set)))
      (order_after (orders_of (nest_below 9) nested_set ++ orders_then (shown_below 8) (found_at 4 nested_set))) (renders_of (drawn_of nested_set))
