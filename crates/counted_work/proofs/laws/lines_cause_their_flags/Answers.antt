use Rattle.counted_work.proofs.Groups.{scroll_asked, delegate_asked}
use Rattle.counted_work.proofs.Touching.{scroll_caused, delegate_caused}
use Rattle.counted_work.proofs.laws.lines_cause_their_flags.Goals as goal

pub returns-clause-scrolled : goal.returns-clause-scrolled
returns-clause-scrolled c = λ before after old mid new h o scroll at writes. scroll_caused old mid h o scroll at writes before after new

pub returns-clause-scrolled_paints : goal.returns-clause-scrolled_paints
returns-clause-scrolled_paints c = scroll_asked

pub returns-clause-changed : goal.returns-clause-changed
returns-clause-changed c = delegate_caused

pub returns-clause-changed_paints : goal.returns-clause-changed_paints
returns-clause-changed_paints c = λ before after name old mid new hs more. delegate_asked before after name more old mid new hs
