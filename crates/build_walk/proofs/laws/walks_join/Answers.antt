use Rattle.build_walk.proofs.Walking.{nothing_walked, walked_both}
use Rattle.build_walk.proofs.laws.walks_join.Goals as goal

pub returns-clause-nothing : goal.returns-clause-nothing
returns-clause-nothing c = nothing_walked

pub returns-clause-both : goal.returns-clause-both
returns-clause-both c = λ phase t u r s scrolled at old mid new f g keeps also a b.
    walked_both phase t u r s scrolled at old mid new f g (λ h e is. c.keep_laws.ensures.value t u h e keeps is) (λ h o is. c.keep_laws-2.ensures.value r s h o also is) a b
