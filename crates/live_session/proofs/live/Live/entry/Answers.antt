use Rattle.std.proofs.Common.{refl}
use Rattle.live_session.specs.EntryStep.{entry_step}
use Rattle.live_session.proofs.MemoryLemmas.{refused_exactly}
use Rattle.live_session.proofs.WorkLemmas.{goes_same}
use Rattle.live_session.proofs.live.Live.entry.Goals as goal

pub returns-clause-refused : goal.returns-clause-refused
returns-clause-refused g c r why fresh other small stands =
    refused_exactly c.answer_whole-end.result (entry_step r c.args.entry.now) why small (c.answer_whole-end.ensures.end r stands)
    (c.answer_whole-end.ensures.memory r other stands)

pub answer_whole-end-requires-clause-holds : goal.answer_whole-end-requires-clause-holds
answer_whole-end-requires-clause-holds g c = c.requires.holds c.if-self.false

pub returns-clause-work : goal.returns-clause-work
returns-clause-work g c frames r stands known =
    goes_same c.answer_whole-end.result frames r _ _ c.answer_whole-end.new.self _ _ _ _ _ refl (c.answer_whole-end.ensures.work frames r stands known)
