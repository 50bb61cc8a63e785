use Rattle.std.proofs.Common.{refl}
use Rattle.std.specs.Fmt.{digits}
use Rattle.screen_form.specs.Fragment.{fragment_of}
use Rattle.screen_form.proofs.semantics_laws.worked_semantics.Goals as goal

pub returns : goal.returns
unfolding digits fragment_of
returns c = record { apart = refl; no_action = refl; empty_labels = refl; no_group = refl; group = refl; empty_group = refl; button_in_group = refl; group_in_group = refl; merged = refl; merged_twice = refl; merged_group = refl; merged_button = refl; excluded = refl; included = refl; excluded_amid = refl; offstaged = refl; onstage = refl; clear = refl; faint = refl; scrolled_out = refl; in_view = refl; tapped_itself = refl; not_pressed = refl; view_acts_not = refl; no_node = refl; first_in_card = refl; other_in_card = refl; merged_away = refl; no_tree = refl; printed = refl }
