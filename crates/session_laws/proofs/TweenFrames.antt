-- After a frame the fields of tweens have the values that they had when it was built.
use Rattle.std.proofs.Common.{◌≡◌, ℕ, Some, List, [], ◌∷◌, refl, sym, ap, subst, ◌∙◌}
use Rattle.fx_expr.specs.declared.values.Value.{Value}
use Rattle.script_lines.specs.declared.entry.Entry.{Entry}
use Rattle.tickers.specs.Running.{AreApart}
use Rattle.tickers.specs.declared.tween.Tween.{Tween}
use Rattle.template_build.specs.Program.{declarations_of}
use Rattle.plain_tree.specs.PlainNode.{PlainNode}
use Rattle.build_form.specs.FullBuild.{Built, failed, built}
use Rattle.build_form.specs.WellBuilt.{IsWellBuilt}
use Rattle.session_form.specs.Framing.{built_of, framed, after_drops, frame_by}
use Rattle.session_form.specs.State.{SessionState}
use Rattle.live_session.specs.EntryStep.{framed_by, frame_entry, entry_step}
use Rattle.live_session.specs.Fields.{field_in}
use Rattle.live_session.specs.RunState.{RunState, went, state_after}
use Rattle.live_session.specs.Tweens.{with_values, tweens_kept}
use Rattle.session_laws.specs.Focus.{IsThere}
use Rattle.session_laws.specs.Runs.{after_lines}
use Rattle.session_laws.specs.Sound.{IsSoundState}
use Rattle.build_form.specs.Program.{blueprint_of}
use Rattle.build_form.specs.KeptStates.{HadOrIsNew, EachIs}
use Rattle.session_laws.proofs.FrameFields.{framed_field, field_below}
use Rattle.session_laws.proofs.LineMarks.{dropped_same}

-- the state after a frame that is done
pub record FramedTo (s next : SessionState) : Type 0 where
  pub tree : PlainNode
  pub free : ℕ
  pub made : built_of s ≡ built tree free
  pub is : next ≡ after_drops (framed s tree free)

same_run : (a b : RunState) (x y : List ℕ) → went a x ≡ went b y → a ≡ b
same_run a b x y e = cc

session_of : (a b : RunState) (x y : List ℕ) → went a x ≡ went b y → b.session ≡ a.session
session_of a b x y e = ap (λ (r : RunState). r.session) (sym (same_run a b x y e))

by_built : (b : Built) (s : SessionState) (now : ℕ) (ts : List Tween) (r next : RunState) (text : List ℕ) → built_of s ≡ b → framed_by (frame_by b s) now ts r ≡ went next text → FramedTo s next.session
by_built (failed fault) s now ts r next text made is = cc
by_built (built tree free) s now ts r next text made is = record { tree = tree; free = free; made = made; is = session_of _ next _ text is }

pub framed_to : (r next : RunState) (text : List ℕ) → frame_entry r ≡ went next text → FramedTo (with_values r.session.time r.tweens r.session) next.session
framed_to r next text is =
    let s = with_values r.session.time r.tweens r.session in
    by_built (built_of s) s r.session.time (tweens_kept r.session.time r.session r.tweens) r next text refl is

-- its tree is that of the frame: what is dropped changes none
pub frame_tree : (s next : SessionState) (f : FramedTo s next) → next.tree ≡ (framed s f.tree f.free).tree
frame_tree s next f = ap (λ (x : SessionState). x.tree) (f.is ∙ dropped_same (framed s f.tree f.free))

-- a field that was there has its value after the frame, where its node is
pub field_after : (s next : SessionState) (k : ℕ) (name : List ℕ) (v : Value) → IsSoundState s → (f : FramedTo s next) → IsWellBuilt (declarations_of s.program) f.tree
    → EachIs (HadOrIsNew (blueprint_of s.program) s.tree s.next) f.tree → field_in s k name ≡ Some v → IsThere next.tree k → field_in next k name ≡ Some v
field_after s next k name v sound f well states is there =
    let same : next.tree ≡ (framed s f.tree f.free).tree = ap (λ (x : SessionState). x.tree) (f.is ∙ dropped_same (framed s f.tree f.free)) in
    let here : IsThere (framed s f.tree f.free).tree k = subst (λ o. IsThere o k) same there in
    ap (λ (x : SessionState). field_in x k name) (f.is ∙ dropped_same (framed s f.tree f.free))
    ∙ framed_field s f.tree f.free k name sound well states (field_below s k name v sound.numbers is) here ∙ is

-- tweens of a run are on fields of their own
pub run_apart : ((r : RunState) (e : Entry) → AreApart r.tweens → AreApart (state_after r (entry_step r e)).tweens) → (es : List Entry) (r : RunState) → AreApart r.tweens
    → AreApart (after_lines r es).tweens
run_apart next [] r h = h
run_apart next (e ∷ es) r h = run_apart next es (state_after r (entry_step r e)) (next r e h)
