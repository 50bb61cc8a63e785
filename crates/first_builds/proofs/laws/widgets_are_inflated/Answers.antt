use Rattle.std.proofs.Common.{Some, None, refl}
use Rattle.first_builds.proofs.Nesting.{none_inflated, more_inflated, drawn_inflated, through_inflated}
use Rattle.first_builds.proofs.laws.widgets_are_inflated.Goals as goal

pub returns-clause-none : goal.returns-clause-none
returns-clause-none c = λ b pasts left values scrolled h k e s t r. none_inflated b pasts left values scrolled h k e s t r

pub returns-clause-more : goal.returns-clause-more
returns-clause-more c = λ b pasts left values scrolled h k e ws w s mid u t0 t1 t2 r0 r1 r2 d stay stays a i.
    more_inflated b pasts left values scrolled h k e ws w s mid u t0 t1 t2 r0 r1 r2 d stay stays a i

pub returns-clause-drawn : goal.returns-clause-drawn
returns-clause-drawn c = λ b pasts left values scrolled at w place before mid after t0 t1 t2 r0 r1 r2 h k output m alone shown stay stays a.
    drawn_inflated b pasts left values scrolled at w place before mid after t0 t1 t2 r0 r1 r2 h output (Some k) m alone k refl shown stay stays a

pub returns-clause-through : goal.returns-clause-through
returns-clause-through c = λ b pasts left values scrolled at w place before mid after t0 t1 t2 r0 r1 r2 h d output child m alone hidden only stay i.
    through_inflated b pasts left values scrolled at w place before mid after t0 t1 t2 r0 r1 r2 h output None m alone child d hidden only stay i
