use Rattle.std.proofs.Common.{◌≡◌, None, IsSome, refl, sym, ap, ◌∙◌, subst}
use Rattle.std.specs.Map.{lookup}
use Rattle.std.specs.Option.{option_copied_mut}
use Rattle.fx_expr.specs.Value.{value_eq}
use Rattle.global_keys.specs.declared.registry.Holder.{Holder}
use Rattle.global_keys.specs.Holders.{met}
use Rattle.global_keys.proofs.Recorded.{looked_up, changed, unchanged}
use Rattle.global_keys.proofs.registry.meet.Goals as goal

pub returns-in-Some : goal.returns-in-Some
returns-in-Some c =
    let x : Holder = c.in-Some.holder.now in
    let w : Holder = met x in
    let was = sym (looked_up c.args.key.now c.args.holders.now.entries) ∙ sym c.in-Some.ensures.value in
    changed c.args.holders.now (c.get_mut.follows.lender w) c.args.key.now x met ((c.get_mut.follows.holds w).3 (subst IsSome c.in-Some.ensures.value refl)) was

pub returns-in_default : goal.returns-in_default
returns-in_default c = λ k.
    let g = c.args.key.now in
    let was : lookup (λ j. value_eq g j) c.args.holders.now.entries ≡ None = sym (looked_up g c.args.holders.now.entries) ∙ sym c.get_mut.ensures.value ∙ ap option_copied_mut c.in_default.is in
    ap (λ m. lookup (λ j. value_eq k j) m.entries) c.get_mut.follows.holds-at-none ∙ unchanged c.args.holders.now.entries g met was k
