use Rattle.std.proofs.Common.{◌≡◌, refl}
use Rattle.frame_run.proofs.TurnLemmas.{so_far_both, part_both}
use Rattle.frame_run.proofs.gathered.Gathered.end_line.Goals as goal

pub returns-in-Whole-clause-whole : goal.returns-in-Whole-clause-whole
returns-in-Whole-clause-whole g c whole =
    let line : c.as_slice.result.now ≡ c.args.self.now.line.items =
    rw (c.as_slice.ensures.value, c.replace-line.ensures.value, c.write.ensures.line, c.gather.ensures.line) refl in
    so_far_both _ _ _ c.args.self.now.text.items c.args.self.now.line.items c.gather.new.self.text.items c.as_slice.result.now c.write.new.self.text.items
    c.if-gather.ensures.text line c.write.ensures.text (c.in-Whole.ensures.whole refl) (c.write_all.ensures.whole whole)

pub returns-in-Whole-clause-part : goal.returns-in-Whole-clause-part
returns-in-Whole-clause-part g c =
    let line : c.as_slice.result.now ≡ c.args.self.now.line.items =
    rw (c.as_slice.ensures.value, c.replace-line.ensures.value, c.write.ensures.line, c.gather.ensures.line) refl in
    part_both _ _ _ c.args.self.now.text.items c.args.self.now.line.items c.gather.new.self.text.items c.as_slice.result.now
    c.if-gather.ensures.text line (c.in-Whole.ensures.whole refl) c.write_all.ensures.part
