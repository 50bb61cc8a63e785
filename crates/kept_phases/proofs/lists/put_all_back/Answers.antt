use Rattle.std.proofs.Common.{◌∙◌, refl, map, drop, ℕ, ◌+◌}
use Rattle.fx_handles.specs.declared.Handle.{Handle}
use Rattle.kept_phases.proofs.Offsets.{zero_handle, but_nothing, but_then, wanted_at, pending_next, pending_end}
use Rattle.kept_phases.proofs.Puts.{puts_nothing, puts_then}
use Rattle.kept_phases.proofs.lists.put_all_back.Goals as goal

pub loop-h-init : goal.loop-h-init
loop-h-init c = (but_nothing c.args.r.now.tree, (λ wanted all p. p), (λ s keeps. keeps), (λ cell delegates o keeps. keeps), refl, refl, (λ wanted all. puts_nothing c.render_marks_are_marks.ensures.layout wanted c.args.r.now.tree))

pub loop-h-preserved : goal.loop-h-preserved
loop-h-preserved c =
    let so_far = c.loop-h.invariant in
    let done = c.put_back.ensures in
    let ps = c.args.offsets.now in
    let i = c.loop-h.h-index in
    let z : Handle × ℕ = (zero_handle, 0) in (
      but_then c.args.r.now.tree c.loop-h.r.tree c.put_back.new.r.tree so_far.0 done.others,
      (λ wanted all p.
          done.pending wanted (map (λ (q : Handle × ℕ). q.0) (drop (i + 1) ps)) (wanted_at wanted ps i z all c.loop-h-test.true)
          (pending_next wanted ps i z c.loop-h.r.tree c.loop-h-test.true (so_far.1 wanted all p))),
      (λ s keeps. done.layouts s (so_far.2 s keeps)),
      (λ cell delegates o keeps. done.layers cell delegates o (so_far.3 cell delegates o keeps)),
      done.scale ∙ so_far.4,
      done.spent ∙ so_far.5,
      (λ wanted all.
          puts_then c.render_marks_are_marks.ensures.layout wanted c.args.r.now.tree c.loop-h.r.tree c.put_back.new.r.tree (so_far.6 wanted all) (done.puts wanted (wanted_at wanted ps i z all c.loop-h-test.true))),
    )

pub returns : goal.returns
returns c = record {
  others = c.loop-h.invariant.0;
  done = λ wanted all p. pending_end wanted c.args.offsets.now c.loop-h.h-index c.loop-h.r.tree c.loop-h-test.false (c.loop-h.invariant.1 wanted all p);
  layouts = c.loop-h.invariant.2;
  layers = c.loop-h.invariant.3;
  scale = c.loop-h.invariant.4;
  spent = c.loop-h.invariant.5;
  puts = c.loop-h.invariant.6;
}
