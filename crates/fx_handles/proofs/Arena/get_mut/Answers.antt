use Rattle.std.proofs.Common.{Some, refl, sym, ap, ◌∙◌, inl}
use Rattle.fx_handles.specs.Arena.{with_value, held}
use Rattle.fx_handles.specs.ArenaLaws.{live-agree, live-slot, some_of, get-agree, same_Some}
use Rattle.fx_handles.specs.ArenaLaws.{written}
use Rattle.fx_handles.proofs.Arena.get_mut.Goals as goal

-- the slot of a live handle has the value
pub index_mut-requires : goal.index_mut-requires
index_mut-requires g c =
    let live = c.contains.ensures.0 c.if-contains.true in
    let found = some_of _ live in
    rw (live-slot _ c.args.h found.0 found.1) refl

pub value_of-requires : goal.value_of-requires
value_of-requires g c =
    let live = c.contains.ensures.0 c.if-contains.true in
    let found = some_of _ live in
    let slot = live-slot _ c.args.h found.0 found.1 in
    rw (same_Some (sym c.index_mut.ensures.value ∙ slot)) refl

pub returns-then-contains : goal.returns-then-contains
returns-then-contains g c =
    let live = c.contains.ensures.0 c.if-contains.true in
    let found = some_of _ live in
    let slot = live-slot _ c.args.h found.0 found.1 in
    let value = c.index_mut.ensures.value ∙ ap Some c.value_of.ensures.value in (
      ap (λ a. inl (c.value_of.result.ghost_name, with_value a c.args.h)) c.self.view_is,
      record {
        writes_back = tt;
        value = rw (← c.self.view_is) (sym (get-agree _ c.args.h (live-agree _ c.args.h found.0 found.1) ∙ ap held value));
        writes = λ w live. written _ c.args.h w live;
      },
    )
