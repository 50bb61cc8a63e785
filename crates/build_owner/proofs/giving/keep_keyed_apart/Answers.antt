use Rattle.std.proofs.Common.{◌≡◌, ◌<◌, rules, Some, length, map, slice_get, refl, sym, ap, ◌∙◌, arith}
use Rattle.std.proofs.lemmas.Option.{slice_get_read}
use Rattle.widget_model.specs.View.{shared}
use Rattle.plain_build.proofs.Meeting.{are_apart, is_repeated, repeat_within}
use Rattle.build_owner.proofs.giving.keep_keyed_apart.Goals as goal

pub returns-in-None-clause-ok : goal.returns-in-None-clause-ok
returns-in-None-clause-ok c = λ s.
    let none = rw c.in-None.is at c.in_ok-first_repeat.ensures.none in
    are_apart (map shared c.args.widgets.now) c.as_slice.result.now (c.as_slice.ensures.value ∙ c.in_ok-keys.ensures) s none

pub index-requires : goal.index-requires
index-requires c =
    let at = rw c.in-Some.is at c.in_ok-first_repeat.ensures.repeat in
    let low : c.in-Some.i < length c.as_slice.result.now = repeat_within c.as_slice.result.now c.in-Some.i at in
    omega (arith, c.in_ok-keys.keys.ok.0, c.as_slice.ensures.len)

pub returns-clause-fault : goal.returns-clause-fault
returns-clause-fault c = λ s.
    let at = rw c.in-Some.is at c.in_ok-first_repeat.ensures.repeat in
    let least = rw c.in-Some.is at c.in_ok-first_repeat.ensures.least in
    let low : c.in-Some.i < length c.as_slice.result.now = repeat_within c.as_slice.result.now c.in-Some.i at in
    let same : c.in_ok-clone-in-Some.field-0 ≡ c.index.result.now = search rules in
    let there : slice_get c.as_slice.result.now c.in-Some.i ≡ Some c.in_ok-clone-in-Some.field-0 =
    ap (λ l. slice_get l c.in-Some.i) c.as_slice.ensures.value ∙ slice_get_read c.in_ok-keys.keys.items _ c.in-Some.i c.index.result.now refl (omega (arith, c.in_ok-keys.keys.ok.0, c.as_slice.ensures.len)) c.index.ensures ∙ ap Some (sym same) in
    is_repeated (map shared c.args.widgets.now) c.as_slice.result.now (c.as_slice.ensures.value ∙ c.in_ok-keys.ensures) s c.in-Some.i c.in_ok-clone-in-Some.field-0 at least there
