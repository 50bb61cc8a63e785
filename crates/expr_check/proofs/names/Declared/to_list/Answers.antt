use Rattle.std.proofs.Common.{arith, ◌<◌, length, option_map, ap, sym, ◌∙◌, ◌++◌, ◌∷◌, []}
use Rattle.expr_check.proofs.NamesLemmas.{listed-more, listed-past}
use Rattle.expr_check.proofs.names.Declared.to_list.Goals as goal
use Rattle.expr_check.proofs.names.Declared.to_list.Goals.{in-Some+in_ok-from_str+in_ok-push, in_default}

pub loop-i-preserved : goal.loop-i-preserved
loop-i-preserved c =
    let below : c.loop-i.i < length c.args.self.now = omega arith in
    elim c.match-get.branch [
      | in-Some+in_ok-from_str+in_ok-push w ↦
          listed-more c.args.self.now c.loop-i.i (w.in-Some.name.now, w.in-Some.ty) c.loop-i.names.items c.match-get.names.items c.loop-i.invariant w.in-Some.ensures
          (ap (λ v. v.items) w.names-is ∙ w.in_ok-push.ensures.items
          ∙ ap (λ n. c.loop-i.names.items ++ (n, w.in-Some.ty) ∷ []) (w.of-name.ensures ∙ w.in_ok-from_str.ensures.ok))
      | in_default w ↦ absurd (listed-past c.args.self.now c.loop-i.i below (ap (option_map (λ d. (d.0.now, d.1))) (sym w.in_default.is) ∙ c.get.ensures))
    ]
