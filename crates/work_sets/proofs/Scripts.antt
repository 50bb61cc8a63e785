-- The worked scripts.
use Rattle.std.proofs.Common.{refl}
use Rattle.std.specs.Str.{chars, is_utf8}
use Rattle.std.specs.Str.Lossy.{utf8_valid_len}
use Rattle.std.specs.Fmt.{digits}
use Rattle.serde_json.proofs.OnLiterals.{serde_json_on_literals}
use Rattle.program_read.specs.FormWalk.{form_of}
use Rattle.program_form.specs.Operators.{operator_named}
use Rattle.program_read.specs.HandlerWalk.{set_of, handler_of}
use Rattle.program_read.specs.KeyWalk.{key_of}
use Rattle.program_form.specs.Kinds.{kinds, kind_text, member_text, members_of}
use Rattle.program_form.specs.Words.{words_of}
use Rattle.program_read.specs.TemplateWalk.{template_of}
use Rattle.program_read.specs.ProgramWalk.{program_of, component_of}
use Rattle.program_read.specs.Reading.{json_of}
use Rattle.expr_check.specs.Exprs.{typed_form}
use Rattle.expr_check.specs.Handlers.{checked_set}
use Rattle.program_check.specs.Judged.{judged}
use Rattle.program_check.specs.ProgramCheck.{checked_program}
use Rattle.script_lines.specs.Reading.{line_command, command_of}
use Rattle.script_lines.specs.Table.{one_word, two_words, three_words, four_words}
use Rattle.template_build.specs.Output.{output_of, outputs_in, output_in, outputs_of}
use Rattle.reconcile.specs.Matching.{prefix_len, suffix_len, middle_of, keyed_match, match_at, matching}
use Rattle.plain_tree.specs.Projection.{projected, projected_all}
use Rattle.layout_form.specs.Layout.{object, objects}
use Rattle.build_form.specs.Entering.{enter}
use Rattle.build_form.specs.FullBuild.{live_ranges, filled, all_filled, both_phases, full_build}
use Rattle.delegates.specs.Answers.{lines_of}
use Rattle.fx_expr.specs.Limit.{last_boundary, cut_text}
use Rattle.session_form.specs.FieldValue.{value_read}
use Rattle.session_form.specs.Changing.{root_line}
use Rattle.session_form.specs.Framing.{laid_of}
use Rattle.work_sets.specs.Entered.{seen_from, seen_filling, all_seen_filling, seen_in_both, entered_widgets}
use Rattle.work_sets.specs.Scripts.{Works}

pub works : Works
unfolding utf8_valid_len is_utf8 chars digits serde_json_on_literals json_of program_of component_of template_of form_of set_of handler_of key_of operator_named kinds kind_text member_text members_of words_of typed_form checked_set judged checked_program line_command command_of one_word two_words three_words four_words output_of outputs_in output_in outputs_of prefix_len suffix_len middle_of keyed_match match_at matching projected projected_all object objects enter live_ranges filled all_filled both_phases full_build lines_of last_boundary cut_text value_read root_line laid_of seen_from seen_filling all_seen_filling seen_in_both entered_widgets
works = record {
  first_frame = refl;
  quiet_frame = refl;
  refused_line = refl;
  field_set = refl;
  same_field_set = refl;
  delegate_touched = refl;
  unplugged = refl;
  resized = refl;
  leaf_changed = refl;
  longer_list = refl;
  shorter_list = refl;
  same_list = refl;
  below_intrinsic = refl;
  not_below_intrinsic = refl;
  shown_again = refl;
  hidden_again = refl;
  below_offstage = refl;
  other_root = refl;
  risen_root = refl;
  moved_subtree = refl;
  moved_reader = refl;
  moved_with_parent = refl;
  other_value = refl;
  other_widget = refl;
  same_widget = refl;
  first_items = refl;
  same_items = refl;
  item_changed = refl;
  other_items = refl;
  fault_in_second = refl;
  fault_in_first = refl;
  fault_of_marked = refl;
  fault_of_siblings = refl;
  scrolled = refl;
  touched_alone = refl;
  fades_in = refl;
  fades_out = refl;
  fades = refl;
  other_share = refl;
  unseen_changed = refl;
  never_seen_changed = refl;
  no_cause = refl;
  no_cause_in_view = refl;
  delegate_is_cause = refl;
  before_any_frame = refl;
  scroll_is_cause = refl;
  cause_below_intrinsic = refl;
}
