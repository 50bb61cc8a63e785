use Rattle.std.proofs.Common.{refl, sym, ◌∙◌, arith}
use Rattle.std.proofs.lemmas.Bool.{false≢true}
use Rattle.fx_handles.specs.ArenaLaws.{get-agree, get-differ}
use Rattle.fx_handles.proofs.Arena.get.Goals as goal

pub returns-then-not-agrees : goal.returns-then-not-agrees
returns-then-not-agrees g c = record {
  value = rw (← c.self.view_is) (sym (get-differ _ c.args.h (λ e. absurd (false≢true (sym c.if-not-agrees.true ∙ c.agrees.ensures.1 (rw c.as_slice.ensures.value e))))));
  spent = λ _. refl;
}

-- a handle with its slot's generation isn't spent
pub returns : goal.returns
returns g c =
    let agree = rw c.as_slice.ensures.value at (c.agrees.ensures.0 c.if-not-agrees.false) in
    record {
      value = rw (← c.self.view_is) (c.value_at.ensures ∙ sym (get-agree _ c.args.h agree));
      spent = rw (← c.self.view_is) (λ spent. absurd (omega (arith, agree)));
    }
