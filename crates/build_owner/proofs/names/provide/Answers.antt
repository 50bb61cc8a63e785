use Rattle.std.proofs.Common.{◌≡◌, rules}
use Rattle.build_form.proofs.Provided.{set_back, types_kept}
use Rattle.build_owner.proofs.names.provide.Goals as goal

pub returns-clause-before : goal.returns-clause-before
returns-clause-before c =
    let same : c.replace.result ≡ c.index-values-name.result = search rules in
    set_back c.args.values.now c.args.name c.replace.new.dest c.index-values-name.result c.replace.result same c.index-values-name.is

pub returns-clause-typed : goal.returns-clause-typed
returns-clause-typed c =
    let same : c.replace.new.dest ≡ c.args.value.now = search rules in
    types_kept c.args.values.now c.args.name c.replace.new.dest c.args.value.now same c.requires
