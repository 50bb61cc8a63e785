-- What a step stands on: numbers of a command that lie in their ranges go into a call and come out as they are, and the line
-- `root` prints nothing.
use Rattle.std.proofs.Common.{◌≡◌, ◌++◌, ◌∙◌, ℕ, ℤ, List, [], Result, Ok, Err, IfOk, OnOk, refl, sym, ap, subst, arith, to_z, of_z}
use Rattle.std.specs.Int.{w64}
use Rattle.std.proofs.lemmas.Int.{to_z-of_z, ints}
use mir.Val.{SFits}
use Rattle.script_lines.specs.Numbers.{coordinate_reach, side_reach, distance_reach}
use Rattle.script_lines.specs.Ranges.{IsBetween}
use Rattle.session_form.specs.Seeing.{point}
use Rattle.std.proofs.lemmas.List.{append-nil}
use Rattle.delegates.specs.Table.{Plug}
use Rattle.program_form.specs.Template.{PlainTemplate}
use Rattle.program_read.specs.Reading.{Unread, read_as}
use Rattle.program_read.specs.TemplateWalk.{template_of}
use Rattle.program_check.specs.Body.{PlainBody}
use Rattle.program_check.specs.ProgramCheck.{CheckedAt, checked_widget}
use Rattle.session_form.specs.Changing.{root_checked, root_read, root_line}
use Rattle.session_form.specs.Outcome.{Outcome, state_after, text_of, end_of}
use Rattle.std.specs.declared.alloc.AllocError.{AllocError}
use Rattle.frame_session.specs.Ending.{IfGoesOn}
use Rattle.frame_session.specs.StandsFor.{StandsFor}
use Rattle.session_form.specs.State.{SessionState}
use Rattle.session_form.specs.Step.{step}
use Rattle.session_form.specs.declared.line_end.LineEnd.{LineEnd}
use Rattle.session_form.specs.declared.line_end.LineEnd.TheVariants as line_end
use Rattle.script_lines.specs.declared.command.Command.{Command}
use Rattle.frame_session.specs.declared.held.HeldSession.{HeldSession}
use Rattle.frame_session.proofs.RootLemmas.{root_reads}
use Rattle.frame_session.proofs.StandsLemmas.{stands_by}

checked_quiet : (r : CheckedAt PlainBody) (s : SessionState) → text_of (root_checked r s) ≡ []
checked_quiet (Err bad) s = refl
checked_quiet (Ok b) s = refl

read_quiet : (r : Result PlainTemplate Unread) (s : SessionState) → text_of (root_read r s) ≡ []
read_quiet (Err why) s = refl
read_quiet (Ok t) s = checked_quiet (checked_widget s.program t) s

pub root_quiet : (kept : HeldSession) (ds : List Plug) (s : SessionState) (json out : List ℕ) → StandsFor kept ds s → out ≡ out ++ text_of (root_line json s)
root_quiet kept ds s json out h =
    let r = read_as (template_of kept.program.version) json in
    let quiet : text_of (root_line json s) ≡ [] = ap text_of (root_reads json s kept.program r h.program refl) ∙ read_quiet r s in
    sym (ap (λ t. out ++ t) quiet ∙ append-nil out)

-- what holds holds where a result is there
pub ok_holds : {A E P : Type 0} (r : Result A E) → P → OnOk r P
ok_holds (Ok a) p = p
ok_holds (Err e) p = tt

pub ok_then : {A E P Q : Type 0} (r : Result A E) → (P → Q) → OnOk r P → OnOk r Q
ok_then (Ok a) f h = f h
ok_then (Err e) f h = tt

-- a coordinate, a distance and a side
coordinate_fits : (z : ℤ) → IsBetween coordinate_reach z → SFits w64 z
coordinate_fits z h = let low = h.0 in let high = h.1 in omega (arith, ints)

distance_fits : (z : ℤ) → IsBetween distance_reach z → SFits w64 z
distance_fits z h = let low = h.0 in let high = h.1 in omega (arith, ints)

side_fits : (z : ℤ) → IsBetween side_reach z → SFits w64 z
side_fits z h = let low = h.0 in let high = h.1 in omega (arith, ints)

pub distance_stays : (z : ℤ) → IsBetween distance_reach z → to_z w64 (of_z w64 z) ≡ z
distance_stays z h = to_z-of_z w64 z (distance_fits z h)

pub side_stays : (z : ℤ) → IsBetween side_reach z → to_z w64 (of_z w64 z) ≡ z
side_stays z h = to_z-of_z w64 z (side_fits z h)

pub point_stays : (x y : ℤ) → IsBetween coordinate_reach x → IsBetween coordinate_reach y → point (to_z w64 (of_z w64 x)) (to_z w64 (of_z w64 y)) ≡ point x y
point_stays x y hx hy = λ i. point (to_z-of_z w64 x (coordinate_fits x hx) i) (to_z-of_z w64 y (coordinate_fits y hy) i)

-- what stands for the state after an outcome stands for that after an equal one
pub ok_by : {A E : Type 0} (r : Result A E) (kept : HeldSession) (ds : List Plug) (s : SessionState) (o q : Outcome) → o ≡ q
    → OnOk r (StandsFor kept ds (state_after s q)) → OnOk r (StandsFor kept ds (state_after s o))
ok_by (Ok x) kept ds s o q e h = stands_by kept ds s o q e h
ok_by (Err e) kept ds s o q same h = tt

pub stands_on : (r : Result LineEnd AllocError) (kept : HeldSession) (ds : List Plug) (s : SessionState) (o q : Outcome) → o ≡ q → IfGoesOn r (StandsFor kept ds (state_after s q))
    → IfGoesOn r (StandsFor kept ds (state_after s o))
stands_on r kept ds s o q e h = let P : Outcome → Type 0 = λ x. IfGoesOn r (StandsFor kept ds (state_after s x)) in subst P (sym e) h

-- a command that is known, by where it leaves the session, what is printed of it and how it ends
pub known_stands : {A E : Type 0} (r : Result A E) (kept : HeldSession) (ds : List Plug) (s : SessionState) (command known : Command) → command ≡ known
    → OnOk r (StandsFor kept ds (state_after s (step s known))) → OnOk r (StandsFor kept ds (state_after s (step s command)))
known_stands r kept ds s command known is h = ok_by r kept ds s (step s command) (step s known) (ap (step s) is) h

pub known_said : {A E : Type 0} (r : Result A E) (s : SessionState) (old new : List ℕ) (command known : Command) → command ≡ known
    → OnOk r (new ≡ old ++ text_of (step s known)) → OnOk r (new ≡ old ++ text_of (step s command))
known_said r s old new command known is h =
    let P : Command → Type 0 = λ x. OnOk r (new ≡ old ++ text_of (step s x)) in subst P (sym is) h

pub known_ends : {E : Type 0} (r : Result LineEnd E) (s : SessionState) (command known : Command) → command ≡ known
    → IfOk r (λ e. e ≡ end_of (step s known)) → IfOk r (λ e. e ≡ end_of (step s command))
known_ends r s command known is h =
    let P : Command → Type 0 = λ x. IfOk r (λ e. e ≡ end_of (step s x)) in subst P (sym is) h

pub known_quiet : (out : List ℕ) (s : SessionState) (command known : Command) → command ≡ known → text_of (step s known) ≡ []
    → out ≡ out ++ text_of (step s command)
known_quiet out s command known is quiet = sym (ap (λ x. out ++ text_of (step s x)) is ∙ ap (λ t. out ++ t) quiet ∙ append-nil out)

-- one that leaves all as it is, and is done
pub known_stays : (kept : HeldSession) (ds : List Plug) (s : SessionState) (command known : Command) → command ≡ known → state_after s (step s known) ≡ s
    → StandsFor kept ds s → StandsFor kept ds (state_after s (step s command))
known_stays kept ds s command known is same h =
    let P : SessionState → Type 0 = λ x. StandsFor kept ds x in subst P (sym (ap (λ x. state_after s (step s x)) is ∙ same)) h

pub known_done : (s : SessionState) (command known : Command) → command ≡ known → line_end.Done ≡ end_of (step s known) → line_end.Done ≡ end_of (step s command)
known_done s command known is done = done ∙ ap (λ x. end_of (step s x)) (sym is)
