use Rattle.std.proofs.Common.{◌≡◌, ◌+◌, ◌∙◌, None, ap, refl, sym, append-nil}
use Rattle.frame_run.specs.Lines.{trimmed}
use Rattle.frame_run.specs.Text.{script_text}
use Rattle.frame_run.specs.Script.{asked_of}
use Rattle.frame_run.specs.declared.script.Asked.TheVariants.{Nothing}
use Rattle.frame_run.proofs.LineLemmas.{blank_asked}
use Rattle.frame_run.proofs.StepLemmas.{lands_asked}
use Rattle.frame_run.proofs.WentLemmas.{went_nothing}
use Rattle.frame_run.proofs.stage.Script.take_line.Goals as goal

pub take_asked-requires-clause-holds : goal.take_asked-requires-clause-holds
take_asked-requires-clause-holds g c = c.requires.holds

pub returns-clause-lands : goal.returns-clause-lands
returns-clause-lands g c s lines some raw stands holds =
    c.take_asked.ensures.lands s (lines + 1) some raw (stands.0, ap (λ n. n + 1) stands.1, stands.2) holds

pub returns-clause-text : goal.returns-clause-text
returns-clause-text g c s lines some raw stands holds =
    c.take_asked.ensures.text s (lines + 1) some raw (stands.0, ap (λ n. n + 1) stands.1, stands.2) holds

pub returns-clause-work : goal.returns-clause-work
returns-clause-work g c frames s lines some raw stands caused holds =
    c.take_asked.ensures.work frames s (lines + 1) some raw (stands.0, ap (λ n. n + 1) stands.1, stands.2) caused holds

pub returns-then-is_blank-clause-lands : goal.returns-then-is_blank-clause-lands
returns-then-is_blank-clause-lands g c s lines some raw stands holds =
    let nothing : asked_of (trimmed raw) ≡ Nothing = blank_asked (trimmed raw) (sym (c.is_blank.ensures raw holds) ∙ c.if-is_blank.true) in
    lands_asked None (record c.args.self.now { lines = c.args.self.now.lines + 1 }) (λ v. (g.dyn-1.0.entry v).1) s (lines + 1) some raw Nothing nothing
    (stands.0, ap (λ n. n + 1) stands.1, stands.2)

pub returns-then-is_blank-clause-text : goal.returns-then-is_blank-clause-text
unfolding script_text
returns-then-is_blank-clause-text g c s lines some raw stands holds =
    let nothing : asked_of (trimmed raw) ≡ Nothing = blank_asked (trimmed raw) (sym (c.is_blank.ensures raw holds) ∙ c.if-is_blank.true) in
    rw nothing (sym (append-nil c.args.out.now.items))

pub returns-then-is_blank-clause-work : goal.returns-then-is_blank-clause-work
returns-then-is_blank-clause-work g c frames s lines some raw stands caused holds =
    let nothing : asked_of (trimmed raw) ≡ Nothing = blank_asked (trimmed raw) (sym (c.is_blank.ensures raw holds) ∙ c.if-is_blank.true) in
    went_nothing (record c.args.self.now { lines = c.args.self.now.lines + 1 }) c.args.self.now.live frames s (lines + 1) some raw _ _ _ nothing refl caused
