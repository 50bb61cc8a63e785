-- Facts where a run isn't cut off.
use Rattle.std.proofs.Common.{◌≡◌, ◌⊎◌, inl, inr, refl, subst}
use Rattle.frame_run.specs.Status.{OnEnd, OnMemory}
use Rattle.frame_run.specs.Text.{At, reading, running, checked, stopped, over_status}
use Rattle.frame_run.specs.declared.stage.RunStop.TheVariants as stop
use Rattle.frame_run.specs.declared.status.Status.{Status}
use Rattle.frame_run.specs.declared.status.Status.TheVariants.{AllAccepted, SomeRefused, BadWords, BadProgram, FrameFault, ReadFault, WriteFault, NoMemory, TooLong}

pub on_end : (s : Status) (P : Type 0) → P → OnEnd s P
on_end AllAccepted P h = h
on_end SomeRefused P h = h
on_end BadWords P h = h
on_end BadProgram P h = h
on_end FrameFault P h = h
on_end ReadFault P h = tt
on_end WriteFault P h = tt
on_end NoMemory P h = tt
on_end TooLong P h = h

pub OnEnd-map : (s : Status) (P Q : Type 0) → (P → Q) → OnEnd s P → OnEnd s Q
OnEnd-map AllAccepted P Q f h = f h
OnEnd-map SomeRefused P Q f h = f h
OnEnd-map BadWords P Q f h = f h
OnEnd-map BadProgram P Q f h = f h
OnEnd-map FrameFault P Q f h = f h
OnEnd-map ReadFault P Q f h = tt
OnEnd-map WriteFault P Q f h = tt
OnEnd-map NoMemory P Q f h = tt
OnEnd-map TooLong P Q f h = f h

pub OnEnd-both : (s : Status) (P Q : Type 0) → OnEnd s P → OnEnd s Q → OnEnd s (P × Q)
OnEnd-both AllAccepted P Q p q = (p, q)
OnEnd-both SomeRefused P Q p q = (p, q)
OnEnd-both BadWords P Q p q = (p, q)
OnEnd-both BadProgram P Q p q = (p, q)
OnEnd-both FrameFault P Q p q = (p, q)
OnEnd-both ReadFault P Q p q = tt
OnEnd-both WriteFault P Q p q = tt
OnEnd-both NoMemory P Q p q = tt
OnEnd-both TooLong P Q p q = (p, q)

-- a run that wasn't cut off
pub on_end_out : (s : Status) (P : Type 0) → (s ≡ ReadFault → ⊥) → (s ≡ WriteFault → ⊥) → (s ≡ NoMemory → ⊥) → OnEnd s P → P
on_end_out AllAccepted P read write memory h = h
on_end_out SomeRefused P read write memory h = h
on_end_out BadWords P read write memory h = h
on_end_out BadProgram P read write memory h = h
on_end_out FrameFault P read write memory h = h
on_end_out ReadFault P read write memory h = absurd (read refl)
on_end_out WriteFault P read write memory h = absurd (write refl)
on_end_out NoMemory P read write memory h = absurd (memory refl)
on_end_out TooLong P read write memory h = h

-- one whose frame had a fault
pub on_fault : (s : Status) (P : Type 0) → s ≡ FrameFault → OnEnd s P → P
on_fault s P is h = let Q : Status → Type 0 = λ t. OnEnd t P in subst Q is h

-- a run that ends before its input's end hasn't the status of one that ends with it
over_no_end : (at : At) (x : Status) → (x ≡ AllAccepted) ⊎ (x ≡ SomeRefused) → x ≡ over_status at → ⊥
over_no_end (reading task part) x (inl e) o = cc
over_no_end (reading task part) x (inr e) o = cc
over_no_end (running s lines refused) x (inl e) o = cc
over_no_end (running s lines refused) x (inr e) o = cc
over_no_end checked x (inl e) o = cc
over_no_end checked x (inr e) o = cc
over_no_end (stopped stop.BadProgram) x (inl e) o = cc
over_no_end (stopped stop.BadProgram) x (inr e) o = cc
over_no_end (stopped stop.FrameFault) x (inl e) o = cc
over_no_end (stopped stop.FrameFault) x (inr e) o = cc

pub never_done : (s : Status) (at : At) → OnEnd s (s ≡ over_status at) → (s ≡ AllAccepted) ⊎ (s ≡ SomeRefused) → ⊥
never_done s at h (inl e) =
    let P : Status → Type 0 = λ t. OnEnd t (t ≡ over_status at) in over_no_end at AllAccepted (inl refl) (subst P e h)
never_done s at h (inr e) =
    let P : Status → Type 0 = λ t. OnEnd t (t ≡ over_status at) in over_no_end at SomeRefused (inr refl) (subst P e h)

-- ---- unless memory was wanting

pub on_memory : (s : Status) (P : Type 0) → P → OnMemory s P
on_memory AllAccepted P h = h
on_memory SomeRefused P h = h
on_memory BadWords P h = h
on_memory BadProgram P h = h
on_memory FrameFault P h = h
on_memory ReadFault P h = h
on_memory WriteFault P h = h
on_memory NoMemory P h = tt
on_memory TooLong P h = h

pub OnMemory-map : (s : Status) (P Q : Type 0) → (P → Q) → OnMemory s P → OnMemory s Q
OnMemory-map AllAccepted P Q f h = f h
OnMemory-map SomeRefused P Q f h = f h
OnMemory-map BadWords P Q f h = f h
OnMemory-map BadProgram P Q f h = f h
OnMemory-map FrameFault P Q f h = f h
OnMemory-map ReadFault P Q f h = f h
OnMemory-map WriteFault P Q f h = f h
OnMemory-map NoMemory P Q f h = tt
OnMemory-map TooLong P Q f h = f h
