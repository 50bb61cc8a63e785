use Rattle.std.proofs.Common.{Some, arith, sym, ap, ◌∙◌, option_map}
use Rattle.serde_json.specs.Data.{depth}
use Rattle.json_tree.specs.View.{view}
use Rattle.program_read.proofs.TakeLemmas.{taken-at, taken-none, stays-at, depth-set, view-Null}
use Rattle.program_read.proofs.objects.take.Goals as goal

pub returns-in_err-place-clause-taken : goal.returns-in_err-place-clause-taken
returns-in_err-place-clause-taken c =
    ap (option_map view) c.from_residual.ensures ∙ sym (taken-none c.args.name.now c.args.members.now.items (sym c.place_of.ensures ∙ c.in_err-place.was))

pub returns-clause-taken : goal.returns-clause-taken
returns-clause-taken c =
    ap (λ v. Some (view v)) c.replace.ensures.value
    ∙ sym (taken-at c.args.name.now c.args.members.now.items c.in_ok-place.place c.index_mut.result.now (sym c.place_of.ensures ∙ c.in_ok-place.was) c.index_mut.ensures.value)

pub returns-clause-others : goal.returns-clause-others
returns-clause-others c other apart =
    stays-at c.args.name.now c.args.members.now.items c.in_ok-place.place c.index_mut.result.now c.replace.new.dest other (sym c.place_of.ensures ∙ c.in_ok-place.was) c.index_mut.ensures.value apart

pub returns-clause-depth : goal.returns-clause-depth
returns-clause-depth c =
    let less = depth-set c.args.members.now.items c.in_ok-place.place c.index_mut.result.now.0 c.replace.new.dest (ap (λ v. depth (view v)) c.replace.ensures.after ∙ ap depth view-Null) in
    omega (arith, less)
