use Rattle.session_laws.proofs.TweenLines.{runs_on}
use Rattle.session_laws.proofs.TweenRuns.{back}
use Rattle.session_laws.proofs.tweens.tweens_run_on.Goals as goal

pub returns-clause-begins : goal.returns-clause-begins
returns-clause-begins c = back

pub returns-clause-goes_on : goal.returns-clause-goes_on
returns-clause-goes_on c = runs_on
