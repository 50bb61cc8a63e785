use Rattle.std.proofs.Common.{sym, ap, ◌∙◌}
use Rattle.std.specs.List.{position}
use Rattle.expr_check.proofs.NamesLemmas.{is_key}
use Rattle.program_check.specs.Place.{index_of}
use Rattle.program_check.proofs.SlotLemmas.{index_of-keys}
use Rattle.program_check.proofs.slots.SlotNames.find.Goals as goal

pub returns-in_err-place : goal.returns-in_err-place
returns-in_err-place c =
    c.from_residual.ensures ∙ c.in_err-place.ensures.index
    ∙ ap (λ name. position (is_key name) c.self.inside.names.keys) c.get.ensures.bytes
    ∙ sym (index_of-keys c.self.inside.names.keys c.args.name.now) ∙ ap (λ ns. index_of ns c.args.name.now) c.self.view_is

pub returns : goal.returns
returns c =
    c.in_ok-place.ensures.index
    ∙ ap (λ name. position (is_key name) c.self.inside.names.keys) c.get.ensures.bytes
    ∙ sym (index_of-keys c.self.inside.names.keys c.args.name.now) ∙ ap (λ ns. index_of ns c.args.name.now) c.self.view_is
