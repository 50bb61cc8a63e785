use Rattle.std.proofs.Common.{◌≡◌, sym, ap, ◌∙◌}
use Rattle.std.proofs.lemmas.Bool.{false≢true}
use Rattle.fx_handles.specs.declared.Handle.{Handle}
use Rattle.fx_handles.specs.Arena.{generation_at}
use Rattle.fx_handles.specs.HandleLaws.{handles_equal}
use Rattle.fx_handles.specs.ArenaLaws.{live-agree, some_of}
use Rattle.fx_handles.proofs.Arena.handle_at.Goals as goal

-- a live handle of this slot has its generation, so it is the one that was tried
pub returns-else-contains-clause-only : goal.returns-else-contains-clause-only
returns-else-contains-clause-only g c = λ h at live.
    let found = some_of _ live in
    let agree = live-agree _ h found.0 found.1 in
    let tried : Handle = record { index = c.args.index; generation = c.generation_of-generation.result } in
    let here : generation_at c.args.self.now h.index ≡ c.generation_of-generation.result = ap (generation_at c.args.self.now) at ∙ sym (rw (← c.self.view_is) (rw (← c.as_slice.ensures.value) c.generation_of-generation.ensures)) in
    let same : h ≡ tried = handles_equal tried h at (agree ∙ here) in
    absurd (false≢true (sym c.if-contains.false ∙ c.contains.ensures.1 (rw same at live)))
