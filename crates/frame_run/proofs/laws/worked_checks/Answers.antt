use Rattle.std.proofs.Common.{refl}
use Rattle.std.specs.Str.{chars, is_utf8}
use Rattle.std.specs.Str.Lossy.{utf8_valid_len}
use Rattle.std.specs.Fmt.{digits}
use Rattle.serde_json.proofs.OnLiterals.{serde_json_on_literals}
use Rattle.program_read.specs.FormWalk.{form_of}
use Rattle.program_form.specs.Operators.{operator_named}
use Rattle.program_read.specs.HandlerWalk.{set_of, handler_of}
use Rattle.program_read.specs.KeyWalk.{key_of}
use Rattle.program_form.specs.Kinds.{kinds, kind_text, member_text, members_of}
use Rattle.program_form.specs.Words.{words_of}
use Rattle.program_read.specs.TemplateWalk.{template_of}
use Rattle.program_read.specs.ProgramWalk.{program_of, component_of}
use Rattle.program_read.specs.Reading.{json_of}
use Rattle.expr_check.specs.Exprs.{typed_form}
use Rattle.expr_check.specs.Handlers.{checked_set}
use Rattle.program_check.specs.Judged.{judged}
use Rattle.program_check.specs.ProgramCheck.{checked_program}
use Rattle.frame_run.proofs.laws.worked_checks.Goals as goal

pub returns : goal.returns
unfolding utf8_valid_len is_utf8 chars digits serde_json_on_literals json_of program_of component_of template_of form_of set_of handler_of key_of operator_named kinds kind_text member_text members_of words_of typed_form checked_set judged checked_program
returns c = record { right_root = refl; no_text = refl; no_length = refl; operands = refl; operands_swapped = refl; members_in_order = refl; members_swapped = refl; root_field = refl; root_slot = refl; root_inherited = refl; root_provides = refl; inherit_type = refl; inherit_name = refl; inherit_key = refl; body_right = refl; body_slot = refl; key_first = refl; local_key = refl; no_local_key = refl; member_before_child = refl; event_outside = refl; event_inside = refl; set_field = refl; set_type = refl; root_set = refl; root_each = refl; root_if = refl; root_if_else = refl; root_sliver = refl; uncertain_first = refl; sort_before_child = refl; each_spliced = refl; each_as_child = refl; each_as_then = refl; each_in_each = refl; optional_if = refl; required_if = refl; else_sort = refl; then_sort = refl; viewport = refl; each_list = refl; hidden = refl; after_loop = refl; own_body = refl; unknown = refl; too_early = refl; declared_twice = refl; earlier_fault = refl; use_right = refl; use_key = refl; missing_prop = refl; other_prop = refl; prop_type = refl; prop_order = refl; slots_after = refl; missing_slot = refl; slot_sliver = refl; use_sliver = refl; use_in_viewport = refl; no_sort = refl; names_first = refl; entries_in_order = refl; default_sees_nothing = refl; field_sees_props = refl; field_sees_no_name = refl; props_before_fields = refl; fields_before_slots = refl; slots_before_body = refl; components_before_root = refl; body_certain = refl }
