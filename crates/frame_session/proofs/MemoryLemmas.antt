-- Where want of memory may be answered: each refusal that takes no memory comes exactly where the step is refused so.
use Rattle.std.proofs.Common.{◌≡◌, ◌↔◌, Bool, true, false, Result, Ok, Err, IfOk, OnErr, sym, ap, subst, ◌∙◌}
use Rattle.std.specs.declared.alloc.AllocError.{AllocError}
use Rattle.script_lines.specs.declared.command.Command.{Command}
use Rattle.session_form.specs.Outcome.{Outcome, done, refused, faulted, end_of}
use Rattle.session_form.specs.State.{SessionState}
use Rattle.session_form.specs.Step.{step}
use Rattle.session_form.specs.declared.line_end.LineEnd.{LineEnd}
use Rattle.session_form.specs.declared.line_end.LineEnd.TheVariants as line_end
use Rattle.session_form.specs.declared.refusal.Refusal.{Refusal}
use Rattle.frame_session.specs.Memory.{takes_no_memory, MayLackMemory}

-- of a command that is known
pub known_may : {A E : Type 0} (r : Result A E) (s : SessionState) (command known : Command) → command ≡ known
    → OnErr r (MayLackMemory (step s known)) → OnErr r (MayLackMemory (step s command))
known_may r s command known is h = let P : Command → Type 0 = λ x. OnErr r (MayLackMemory (step s x)) in subst P (sym is) h

end_refused : (o : Outcome) (why : Refusal) → end_of o ≡ line_end.Refused why → o ≡ refused why
end_refused (done s text) why e = cc
end_refused (refused reason) why e = cc
end_refused (faulted fault) why e = cc

not_both : (b : Bool) → b ≡ true → b ≡ false → ⊥
not_both b is isnt = cc

pub refused_exactly : (r : Result LineEnd AllocError) (o : Outcome) (why : Refusal) → takes_no_memory why ≡ true → IfOk r (λ e. e ≡ end_of o)
    → OnErr r (MayLackMemory o) → (r ≡ Ok (line_end.Refused why)) ↔ (o ≡ refused why)
refused_exactly (Ok end) o why small h may = (
  λ e. let ends : end ≡ line_end.Refused why = cc in end_refused o why (sym h ∙ ends),
  λ e. ap Ok (h ∙ ap end_of e),
)
refused_exactly (Err none) o why small h may = (
  λ e. cc,
  λ e. let P : Outcome → Type 0 = λ x. MayLackMemory x in absurd (not_both (takes_no_memory why) small (subst P e may)),
)
