use Rattle.std.proofs.Common.{refl}
use Rattle.std.specs.Str.{chars, is_utf8}
use Rattle.std.specs.Str.Lossy.{utf8_valid_len}
use Rattle.std.specs.Fmt.{digits}
use Rattle.serde_json.proofs.OnLiterals.{serde_json_on_literals}
use Rattle.program_read.specs.FormWalk.{form_of}
use Rattle.program_form.specs.Operators.{operator_named}
use Rattle.program_read.specs.HandlerWalk.{set_of, handler_of}
use Rattle.program_read.specs.KeyWalk.{key_of}
use Rattle.program_form.specs.Kinds.{kinds, kind_text, member_text, members_of}
use Rattle.program_form.specs.Words.{words_of}
use Rattle.program_read.specs.TemplateWalk.{template_of}
use Rattle.program_read.specs.ProgramWalk.{program_of, component_of}
use Rattle.program_read.specs.Reading.{json_of}
use Rattle.program_read.proofs.laws.worked_programs.Goals as goal

pub returns : goal.returns
unfolding utf8_valid_len is_utf8 chars digits serde_json_on_literals json_of program_of component_of template_of form_of set_of handler_of key_of operator_named kinds kind_text member_text members_of words_of
returns c = record { box = refl; no_json = refl; missing = refl; unknown = refl; empty_list = refl; no_w = refl; w_number = refl; w_other = refl; key_if = refl; key_first = refl; nested = refl; slots = refl; props = refl; handler = refl; lazy = refl; keep = refl; wrap = refl; runs = refl; table = refl; program = refl; later = refl; view = refl; components = refl; body = refl; root = refl }
