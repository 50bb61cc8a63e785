use Rattle.std.proofs.Common.{◌≡◌, IfOk, option_map, subst, ap, ◌∙◌}
use Rattle.json_tree.specs.View.{view}
use Rattle.serde_json.specs.Read.{read}
use Rattle.program_read.proofs.ProgramLemmas.{json_of-text}
use Rattle.program_read.proofs.calls.read_json.Goals as goal

pub returns : goal.returns
returns c =
    subst (λ d. IfOk c.read.result (λ v. option_map view v ≡ d))
    (ap read c.in-Ok.ensures.cases.0 ∙ json_of-text c.args.bytes.now c.in-Ok.ensures.cases.1) c.read.ensures
