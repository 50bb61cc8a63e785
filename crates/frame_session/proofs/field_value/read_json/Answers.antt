use Rattle.std.proofs.Common.{◌≡◌, IfOk, option_map, subst}
use Rattle.json_tree.specs.View.{view}
use Rattle.program_read.proofs.ProgramLemmas.{json_of-text}
use Rattle.frame_session.proofs.field_value.read_json.Goals as goal

pub returns : goal.returns
returns c = subst (λ d. IfOk c.read.result (λ v. option_map view v ≡ d)) (json_of-text c.args.text.now c.requires) c.read.ensures
