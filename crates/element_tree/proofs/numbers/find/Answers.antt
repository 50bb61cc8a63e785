use Rattle.std.proofs.Common.{rules, sym}
use Rattle.std.proofs.lemmas.List.Sorted.{answers_always}
use Rattle.element_tree.proofs.Rising.{searched_ok, searched_err}
use Rattle.element_tree.specs.declared.numbers.Numbered.{Numbered}
use Rattle.element_tree.proofs.numbers.find.Goals as goal

-- the closure gives the number of an entry
pub returns-in-Ok : goal.returns-in-Ok
returns-in-Ok c =
    let by_key = c.in-Ok.ensures.position (λ (x : Numbered). x.number) (answers_always _ _ _ (λ f a r g called. search rules)) in
    sym (searched_ok 1 c.requires.0 c.args.numbers.now c.args.number c.requires.1 c.in-Ok.place _ c.in-Ok.ensures.bound by_key)

pub returns-in-Err : goal.returns-in-Err
returns-in-Err c =
    let by_key = c.in-Err.ensures.position (λ (x : Numbered). x.number) (answers_always _ _ _ (λ f a r g called. search rules)) in
    sym (searched_err 1 c.requires.0 c.args.numbers.now c.args.number c.requires.1 c.in-Err.field-0 by_key)
