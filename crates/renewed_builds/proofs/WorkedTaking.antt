-- Elements that take widgets, worked by hand.
use Rattle.std.specs.Prelude.{ℕ, ℤ, pos, false, true, Option, Some, None, List, [], ◌∷◌}
use Rattle.std.proofs.Common.{◌≡◌, refl}
use Rattle.fx_expr.specs.declared.values.Value.TheVariants as value
use Rattle.fx_geom.specs.declared.words.CrossAlign.TheVariants as cross_align
use Rattle.fx_geom.specs.declared.words.MainAlign.TheVariants as main_align
use Rattle.fx_handles.specs.declared.Handle.{Handle}
use Rattle.fx_handles.specs.Handle.{same}
use Rattle.node_tree.specs.Forest.{Forest}
use Rattle.node_tree.specs.Forest.Forest.{none, tree}
use Rattle.widget_keys.specs.declared.keys.Key.TheVariants as key
use Rattle.widget_model.specs.declared.words.MainSize.TheVariants as main_size
use Rattle.widget_model.specs.Look.{colored_box, keep, row}
use Rattle.widget_model.specs.Plain.{PlainWidget, plain, widgets_of, no_widgets}
use Rattle.reconcile.specs.Matching.{prefix_len, suffix_len, middle_of, keyed_match, match_at, matching}
use Rattle.element_tree.specs.Element.{Element}
use Rattle.renewed_builds.specs.Renewing.{can_take_at, renewed_at, taken_at, stored_at, changes_at}

abbrev at : ℕ → Handle
at n = record { index = n; generation = 0 }

abbrev box : ℕ → PlainWidget
box color = plain (colored_box color) key.None no_widgets no_widgets

abbrev keyed : ℕ → ℕ → PlainWidget
keyed k color = plain (colored_box color) (key.Local (value.Int (pos k))) no_widgets no_widgets

abbrev line : List PlainWidget → PlainWidget
line ws = plain (row main_align.Start cross_align.Start main_size.Max) key.None no_widgets (widgets_of ws)

abbrev kept : PlainWidget → PlainWidget
kept w = plain (keep true) key.None no_widgets (widgets_of (w ∷ []))

abbrev element : ℕ → ℕ → PlainWidget → Option Handle → Element
element number index w render = record { number = number; widget = w; fields = []; index = index; dirty = false; output = None; render = render }

-- a component, which any widget may stand for, with a row of two boxes below it, and a box after it
abbrev flagged : PlainWidget → Element
flagged w = record (element 1 0 (box 0) None) { dirty = true; output = Some w }

abbrev given : PlainWidget → Element
given w = record (element 1 0 (box 0) None) { dirty = false; output = Some w }

abbrev over : Element → Element → Forest Element → Forest Element
over e low boxes = tree (at 1) e (tree (at 2) low boxes none) (tree (at 5) (element 5 1 (box 4) (Some (at 15))) none none)

abbrev two_boxes : PlainWidget → PlainWidget → Forest Element
two_boxes first second = tree (at 3) (element 3 0 first (Some (at 13))) none (tree (at 4) (element 4 1 second (Some (at 14))) none none)

abbrev of_boxes : PlainWidget → PlainWidget → Forest Element
of_boxes first second = over (flagged (line (first ∷ second ∷ []))) (element 2 0 (line (first ∷ second ∷ [])) (Some (at 12))) (two_boxes first second)

abbrev forest : Forest Element
forest = of_boxes (box 4) (box 5)

-- the first box gets another color: the row and that box change, each in its place, and the other one is left alone
abbrev recolored : List PlainWidget
recolored = line (box 9 ∷ box 5 ∷ []) ∷ []

recolored_can : can_take_at (at 1) recolored forest ≡ true
unfolding same prefix_len suffix_len middle_of keyed_match match_at matching
recolored_can = refl

recolored_changes : changes_at (at 1) recolored forest
    ≡ record { element = at 2; at = at 12; widget = line (box 9 ∷ box 5 ∷ []); order = None } ∷ record { element = at 3; at = at 13; widget = box 9; order = None } ∷ []
unfolding same prefix_len suffix_len middle_of keyed_match match_at matching
recolored_changes = refl

recolored_forest : renewed_at (at 1) recolored forest ≡ over (given (line (box 9 ∷ box 5 ∷ []))) (element 2 0 (line (box 9 ∷ box 5 ∷ [])) (Some (at 12))) (two_boxes (box 9) (box 5))
unfolding same prefix_len suffix_len middle_of keyed_match match_at matching
recolored_forest = refl

-- so it is where the component is stored first, and what is below it takes its widgets then
in_two_steps : taken_at (at 1) recolored (stored_at (at 1) recolored forest) ≡ renewed_at (at 1) recolored forest
unfolding same prefix_len suffix_len middle_of keyed_match match_at matching
in_two_steps = refl

-- two boxes with keys in the other order, one of which gets another color too: each goes where its key is, and the row is told their old places
abbrev swapped : PlainWidget
swapped = line (keyed 2 5 ∷ keyed 1 9 ∷ [])

swapped_can : can_take_at (at 1) (swapped ∷ []) (of_boxes (keyed 1 4) (keyed 2 5)) ≡ true
unfolding same prefix_len suffix_len middle_of keyed_match match_at matching
swapped_can = refl

swapped_changes : changes_at (at 1) (swapped ∷ []) (of_boxes (keyed 1 4) (keyed 2 5))
    ≡ record { element = at 2; at = at 12; widget = swapped; order = Some (1 ∷ 0 ∷ []) } ∷ record { element = at 3; at = at 13; widget = keyed 1 9; order = None } ∷ []
unfolding same prefix_len suffix_len middle_of keyed_match match_at matching
swapped_changes = refl

swapped_forest : taken_at (at 1) (swapped ∷ []) (of_boxes (keyed 1 4) (keyed 2 5))
    ≡ over (flagged (line (keyed 1 4 ∷ keyed 2 5 ∷ []))) (element 2 0 swapped (Some (at 12)))
    (tree (at 4) (element 4 0 (keyed 2 5) (Some (at 14))) none (tree (at 3) (element 3 1 (keyed 1 9) (Some (at 13))) none none))
unfolding same prefix_len suffix_len middle_of keyed_match match_at matching
swapped_forest = refl

-- the widgets that are there: nothing changes but the component
the_same : changes_at (at 1) (line (box 4 ∷ box 5 ∷ []) ∷ []) forest ≡ []
unfolding same prefix_len suffix_len middle_of keyed_match match_at matching
the_same = refl

-- a box less, one more, another type, another key, one key twice, and a kind that isn't drawn can't be taken in place
one_less : can_take_at (at 1) (line (box 9 ∷ []) ∷ []) forest ≡ false
unfolding same prefix_len suffix_len middle_of keyed_match match_at matching
one_less = refl

one_more : can_take_at (at 1) (line (box 9 ∷ box 5 ∷ box 6 ∷ []) ∷ []) forest ≡ false
unfolding same prefix_len suffix_len middle_of keyed_match match_at matching
one_more = refl

other_type : can_take_at (at 1) (line (line [] ∷ box 5 ∷ []) ∷ []) forest ≡ false
unfolding same prefix_len suffix_len middle_of keyed_match match_at matching
other_type = refl

other_key : can_take_at (at 1) (line (keyed 3 4 ∷ keyed 1 4 ∷ []) ∷ []) (of_boxes (keyed 1 4) (keyed 2 5)) ≡ false
unfolding same prefix_len suffix_len middle_of keyed_match match_at matching
other_key = refl

one_key_twice : can_take_at (at 1) (line (keyed 1 4 ∷ keyed 1 5 ∷ []) ∷ []) (of_boxes (keyed 1 4) (keyed 2 5)) ≡ false
unfolding same prefix_len suffix_len middle_of keyed_match match_at matching
one_key_twice = refl

not_drawn : can_take_at (at 1) (kept (box 9) ∷ []) (tree (at 1) (flagged (box 0)) (tree (at 2) (element 2 0 (kept (box 4)) None) (tree (at 3) (element 3 0 (box 4) (Some (at 13))) none none) none) none) ≡ false
unfolding same prefix_len suffix_len middle_of keyed_match match_at matching
not_drawn = refl
