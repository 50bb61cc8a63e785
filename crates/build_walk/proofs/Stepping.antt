-- What steps leave, and when two walks take the same steps.
use Rattle.std.proofs.Common.{◌≡◌, Bool, true, false, cond, List, [], ◌∷◌, refl, ap, ◌∙◌}
use Rattle.build_form.specs.Step.{Fault, Progress, Step, stops, gives, and_then, each}

-- this holds of what a step gives and leaves, if it gives anything
abbrev pub Ends : {A : Type 0} → (A → Progress → Type 0) → Step A → Type 0
Ends P (stops f) = Unit {0}
Ends P (gives x t) = P x t

pub ends_then : {A B : Type 0} (P : A → Progress → Type 0) (R : B → Progress → Type 0) (r : Step A) (later : A → Progress → Step B)
    → Ends P r → ((x : A) (t : Progress) → P x t → Ends R (later x t)) → Ends R (and_then r later)
ends_then P R (stops f) later h next = tt
ends_then P R (gives x t) later h next = next x t h

pub ends_more : {A : Type 0} (P R : A → Progress → Type 0) (r : Step A) → ((x : A) (t : Progress) → P x t → R x t) → Ends P r → Ends R r
ends_more P R (stops f) more h = tt
ends_more P R (gives x t) more h = more x t h

pub ends_unless : {A : Type 0} (P : A → Progress → Type 0) (b : Bool) (f : Fault) (r : Step A) → Ends P r → Ends P (cond b (stops f) r)
ends_unless P true f r h = tt
ends_unless P false f r h = h

pub same_then : {A B : Type 0} (P : A → Progress → Type 0) (r : Step A) (f g : A → Progress → Step B)
    → Ends P r → ((x : A) (t : Progress) → P x t → f x t ≡ g x t) → and_then r f ≡ and_then r g
same_then P (stops e) f g h same = refl
same_then P (gives x t) f g h same = same x t h

-- the same of each of a list
abbrev pub AllOf : {A : Type 0} → (A → Type 0) → List A → Type 0
AllOf P [] = Unit {0}
AllOf P (x ∷ xs) = P x × AllOf P xs

-- where what is left between two steps has some property, steps that are the same there are the same for a whole list
pub each_same : {A B : Type 0} (K : A → Type 0) (Q : Progress → Type 0) (go also : A → Progress → Step B)
    → ((x : A) (s : Progress) → K x → Q s → also x s ≡ go x s) → ((x : A) (s : Progress) → K x → Q s → Ends (λ y t. Q t) (go x s))
    → (xs : List A) (s : Progress) → AllOf K xs → Q s → each also xs s ≡ each go xs s
each_same K Q go also same leaves [] s k q = refl
each_same K Q go also same leaves (x ∷ xs) s k q =
    ap (λ r. and_then r (λ y s1. and_then (each also xs s1) (λ ys s2. gives (y ∷ ys) s2))) (same x s k.0 q)
    ∙ same_then (λ y t. Q t) (go x s) _ _ (leaves x s k.0 q)
    (λ y t q1. ap (λ r. and_then r (λ ys s2. gives (y ∷ ys) s2)) (each_same K Q go also same leaves xs t k.1 q1))

-- what each step of a list leaves
pub each_ends : {A B : Type 0} (K : A → Type 0) (Q : Progress → Type 0) (R : A → B → Type 0) (All : List A → List B → Type 0) (go : A → Progress → Step B)
    → All [] [] → ((x : A) (y : B) (xs : List A) (ys : List B) → R x y → All xs ys → All (x ∷ xs) (y ∷ ys))
    → ((x : A) (s : Progress) → K x → Q s → Ends (λ y t. Q t × R x y) (go x s))
    → (xs : List A) (s : Progress) → AllOf K xs → Q s → Ends (λ ys t. Q t × All xs ys) (each go xs s)
each_ends K Q R All go none more step [] s k q = (q, none)
each_ends K Q R All go none more step (x ∷ xs) s k q =
    ends_then (λ y t. Q t × R x y) (λ ys t. Q t × All (x ∷ xs) ys) (go x s) _ (step x s k.0 q)
    (λ y t h. ends_then (λ ys u. Q u × All xs ys) (λ ys u. Q u × All (x ∷ xs) ys) (each go xs t) _ (each_ends K Q R All go none more step xs t k.1 h.0)
    (λ ys u l. (l.0, more x y xs ys h.1 l.1)))
