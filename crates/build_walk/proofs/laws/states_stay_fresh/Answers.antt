use Rattle.std.specs.Prelude.{slice_set}
use Rattle.plain_tree.specs.PlainNode.{fields_of}
use Rattle.build_form.specs.Program.{blueprint_of}
use Rattle.build_walk.proofs.States.{fields_in, scroll_in, framed_fresh, handled_fresh, kept_fresh}
use Rattle.build_walk.proofs.laws.states_stay_fresh.Goals as goal

pub returns-clause-first : goal.returns-clause-first
returns-clause-first c = λ p delegates. tt

pub returns-clause-framed : goal.returns-clause-framed
returns-clause-framed c = framed_fresh

pub returns-clause-set : goal.returns-clause-set
returns-clause-set c = λ s number place v fresh.
    fields_in (blueprint_of s.program) s.marks (blueprint_of s.program).defaults (λ n. slice_set (fields_of n) place v) number s.tree fresh

pub returns-clause-handled : goal.returns-clause-handled
returns-clause-handled c = λ s h dx dy fresh. handled_fresh h dx dy s fresh

pub returns-clause-scrolled : goal.returns-clause-scrolled
returns-clause-scrolled c = λ s number offset fresh.
    scroll_in (blueprint_of s.program) s.marks (blueprint_of s.program).defaults offset number s.tree fresh

pub returns-clause-kept : goal.returns-clause-kept
returns-clause-kept c = kept_fresh
