-- What follows from what answers say.
use Rattle.std.proofs.Common.{Option, Some, None, Result, Ok, Err, IfSome}
use Rattle.std.specs.Result.{IfErr, OnOk}
use Rattle.build_form.specs.declared.faults.FrameFault.{FrameFault}
use Rattle.build_form.specs.Step.{Fault}
use Rattle.build_form.specs.FaultView.{fault_of}

pub some_map : {A : Type 0} (P Q : A → Type 0) (o : Option A) → ((x : A) → P x → Q x) → IfSome o P → IfSome o Q
some_map P Q None f h = tt
some_map P Q (Some x) f h = f x h

pub fault_map : {A : Type 0} (P Q : Fault → Type 0) (r : Result A FrameFault) → ((g : Fault) → P g → Q g) → IfErr r (λ f. IfSome (fault_of f) P) → IfErr r (λ f. IfSome (fault_of f) Q)
fault_map P Q (Ok a) f h = tt
fault_map P Q (Err e) f h = some_map P Q (fault_of e) f h

-- what holds anyhow does where there is an answer
pub on_any : {A E : Type 0} (P : Type 0) (r : Result A E) → P → OnOk r P
on_any P (Ok a) h = h
on_any P (Err e) h = tt
