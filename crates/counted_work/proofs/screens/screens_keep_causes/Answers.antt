use Rattle.counted_work.proofs.Lines.{nothing_caused, scrolled_caused, scrolled_paints, scrolled_asked, users_caused, users_paints, users_asked}
use Rattle.counted_work.proofs.screens.screens_keep_causes.Goals as goal

pub returns-clause-starts : goal.returns-clause-starts
returns-clause-starts c = nothing_caused

pub returns-clause-scrolls : goal.returns-clause-scrolls
returns-clause-scrolls c = λ before after number scroll old new marks stands. scrolled_caused number scroll old new marks stands before after

pub returns-clause-scrolls_paints : goal.returns-clause-scrolls_paints
returns-clause-scrolls_paints c = λ before after last then number scroll old new marks stands touches. scrolled_paints number scroll old new marks stands before after touches last then

pub returns-clause-scrolls_asked : goal.returns-clause-scrolls_asked
returns-clause-scrolls_asked c = λ view number scroll old new marks stands. scrolled_asked number scroll old new marks stands view

pub returns-clause-users : goal.returns-clause-users
returns-clause-users c = λ before after name old new marks stands. users_caused name old new marks stands before after

pub returns-clause-users_paints : goal.returns-clause-users_paints
returns-clause-users_paints c = λ before after last then name old new marks stands touches. users_paints name old new marks stands before after touches last then

pub returns-clause-users_asked : goal.returns-clause-users_asked
returns-clause-users_asked c = λ view name old new marks stands. users_asked name old new marks stands view
