use Rattle.std.proofs.Common.{◌≡◌, ◌++◌, drop, option_map}
use Rattle.json_tree.specs.View.{items_view}
use Rattle.session_form.specs.FieldValue.{each_from, text_from}
use Rattle.frame_session.proofs.field_value.texts_from.Given as goal

abbrev pub invariant-loop-item : goal.invariant-loop-item
invariant-loop-item l =
    option_map (λ xs. l.texts.items ++ xs) (each_from text_from (items_view (drop l.item-index l.items))) ≡ each_from text_from (items_view l.items)
