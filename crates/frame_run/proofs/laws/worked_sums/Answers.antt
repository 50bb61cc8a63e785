use Rattle.std.proofs.Common.{refl}
use Rattle.std.specs.Str.{chars, is_utf8}
use Rattle.std.specs.Str.Lossy.{utf8_valid_len}
use Rattle.std.specs.Fmt.{digits}
use Rattle.serde_json.proofs.OnLiterals.{serde_json_on_literals}
use Rattle.program_read.specs.FormWalk.{form_of}
use Rattle.program_form.specs.Operators.{operator_named}
use Rattle.program_read.specs.HandlerWalk.{set_of, handler_of}
use Rattle.program_read.specs.KeyWalk.{key_of}
use Rattle.program_form.specs.Kinds.{kinds, kind_text, member_text, members_of}
use Rattle.program_form.specs.Words.{words_of}
use Rattle.program_read.specs.TemplateWalk.{template_of}
use Rattle.program_read.specs.ProgramWalk.{program_of, component_of}
use Rattle.program_read.specs.Reading.{json_of}
use Rattle.expr_check.specs.Exprs.{typed_form}
use Rattle.expr_check.specs.Handlers.{checked_set}
use Rattle.program_check.specs.Judged.{judged}
use Rattle.program_check.specs.ProgramCheck.{checked_program}
use Rattle.draw_records.specs.Printed.{color_text}
use Rattle.script_lines.specs.Reading.{line_command, command_of}
use Rattle.script_lines.specs.Table.{one_word, two_words, three_words, four_words}
use Rattle.template_build.specs.Output.{output_of, outputs_in, output_in, outputs_of}
use Rattle.reconcile.specs.Matching.{prefix_len, suffix_len, middle_of, keyed_match, match_at, matching}
use Rattle.plain_tree.specs.Projection.{projected, projected_all}
use Rattle.layout_form.specs.Layout.{object, objects}
use Rattle.build_form.specs.Entering.{enter}
use Rattle.build_form.specs.FullBuild.{live_ranges, filled, all_filled, both_phases, full_build}
use Rattle.screen_form.specs.Painted.{painted, painted_all}
use Rattle.screen_form.specs.Hits.{asked, asked_last}
use Rattle.screen_form.specs.Fragment.{fragment_of, fragment_in}
use Rattle.delegates.specs.Answers.{lines_of}
use Rattle.fx_expr.specs.Limit.{last_boundary, cut_text}
use Rattle.session_form.specs.FieldValue.{value_read}
use Rattle.session_form.specs.Changing.{root_line}
use Rattle.session_form.specs.Framing.{laid_of}
use Rattle.script_lines.specs.EntryForms.{by_first}
use Rattle.script_lines.specs.EntryReading.{entry_of}
use Rattle.frame_run.specs.Program.{checked_of}
use Rattle.frame_run.specs.Script.{refused_text}
use Rattle.frame_run.specs.Text.{after_script_line, begun}
use Rattle.screen_form.specs.FocusOrder.{spots_of, spots_in}
use Rattle.frame_run.specs.Lines.{trimmed}
use Rattle.frame_run.specs.Work.{script_work, job_work}
use Rattle.work_sets.specs.Entered.{seen_from, seen_filling, all_seen_filling, seen_in_both, entered_widgets}
use Rattle.frame_run.proofs.laws.worked_sums.Goals as goal

pub returns : goal.returns
unfolding utf8_valid_len is_utf8 chars digits serde_json_on_literals json_of program_of component_of template_of form_of set_of handler_of key_of operator_named kinds kind_text member_text members_of words_of typed_form checked_set judged checked_program color_text line_command command_of one_word two_words three_words four_words output_of outputs_in output_in outputs_of prefix_len suffix_len middle_of keyed_match match_at matching projected projected_all object objects enter live_ranges filled all_filled both_phases full_build painted painted_all asked asked_last fragment_of fragment_in lines_of last_boundary cut_text value_read root_line laid_of by_first entry_of checked_of refused_text after_script_line begun script_work job_work spots_of spots_in trimmed seen_from seen_filling all_seen_filling seen_in_both entered_widgets
returns c = record {
  twice = refl;
  changed = refl;
  by_tween = refl;
  without_frame = refl;
  faulted = refl;
  lazy = refl;
  whole = refl;
  last_line = refl;
  too_long = refl;
  cut_off = refl;
  checked = refl;
  refused = refl;
}
