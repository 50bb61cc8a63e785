-- Nothing is below a lazy list of the first phase's tree.
use Rattle.std.proofs.Common.{◌≡◌, ℕ, zero, suc, Bool, true, false, cond, Option, List, [], ◌∷◌, refl, ap, subst}
use Rattle.fx_expr.specs.declared.values.Value.{Value}
use Rattle.widget_model.specs.Plain.{PlainWidget, look_of}
use Rattle.plain_tree.specs.PlainNode.{PlainNode, nodes_of}
use Rattle.build_form.specs.Step.{Progress, Step, gives, each}
use Rattle.build_form.specs.BuildRole.{BuildRole, composes, provides, keeps, lists, holds, build_role_of, is_lazy}
use Rattle.build_form.specs.Partner.{Arrival, arrivals, root_arrival}
use Rattle.build_form.specs.Entering.{Blueprint, Basis, first, depth_limit, values_below, waits, put_off, Opening, opened, entered_below, enter}
use Rattle.build_form.specs.FullBuild.{started, basis, first_tree}
use Rattle.build_walk.specs.Merging.{ListsAreBare, AllListsAreBare}
use Rattle.build_walk.proofs.Stepping.{Ends, ends_then, ends_more, AllOf, each_ends}

any : {A : Type 0} (xs : List A) → AllOf (λ x. Unit {0}) xs
any [] = tt
any (x ∷ xs) = (tt, any xs)

abbrev Came : List PlainNode → Type 0
Came ns = AllListsAreBare (nodes_of ns)

each_bare : (go : Arrival → Progress → Step PlainNode) → ((a : Arrival) (s : Progress) → Ends (λ n t. ListsAreBare n) (go a s)) → (arriving : List Arrival) (s : Progress)
    → Ends (λ ns t. Came ns) (each go arriving s)
each_bare go step arriving s =
    ends_more (λ ns t. Unit {0} × Came ns) (λ ns t. Came ns) (each go arriving s) (λ ns t h. h.1)
    (each_ends (λ a. Unit {0}) (λ t. Unit {0}) (λ a n. ListsAreBare n) (λ before ns. Came ns) go tt (λ a n before ns h k. (h, k))
    (λ a t k q. ends_more (λ n u. ListsAreBare n) (λ n u. Unit {0} × ListsAreBare n) (go a t) (λ n u h. (tt, h)) (step a t)) arriving s (any arriving) tt)

-- below a widget there is nothing, where its children wait
abbrev Below : Bool → List PlainNode → Type 0
Below t ns = (t ≡ true → ns ≡ []) × Came ns

below_bare : (go : Arrival → Progress → Step PlainNode) (o : Opening) (s : Progress) (t : Bool) → ((a : Arrival) (s : Progress) → Ends (λ n t. ListsAreBare n) (go a s))
    → Ends (λ ns u. Below t ns) (cond t (put_off o.partner s) (each go (arrivals o.partner o.given) s))
below_bare go o s true step = ((λ e. refl), tt)
below_bare go o s false step =
    ends_more (λ ns t. Came ns) (λ ns t. Below false ns) (each go (arrivals o.partner o.given) s) (λ ns t h. ((λ e. cc), h)) (each_bare go step (arrivals o.partner o.given) s)

list_waits : (r : BuildRole) → is_lazy r ≡ true → waits first r ≡ true
list_waits (composes place props) e = cc
list_waits (provides name value) e = cc
list_waits (keeps kept) e = cc
list_waits (lists extent) e = refl
list_waits holds e = cc

nothing : {A : Type 0} (r : Step A) → Ends (λ x t. Unit {0}) r
nothing (gives x t) = tt
nothing r = tt

enter_bare : (from : Basis) (left : ℕ) (values : List Value) (a : Arrival) (s : Progress) → Ends (λ n t. ListsAreBare n) (enter from first left values a s)
unfolding enter
enter_bare from zero values a s = tt
enter_bare from (suc left) values a s =
    let r = build_role_of (look_of a.widget) in
    ends_then (λ o t. Unit {0}) (λ n t. ListsAreBare n) (opened from values a s) _ (nothing (opened from values a s)) (λ o t u.
    ends_then (λ ns v. Below (waits first r) ns) (λ n v. ListsAreBare n) (entered_below (enter from first left) first values a.widget o t) _
    (below_bare (enter from first left (values_below a.widget values)) o t (waits first r) (λ x v. enter_bare from left (values_below a.widget values) x v))
    (λ ns v h. ((λ e. ap nodes_of (h.0 (list_waits r e))), h.1)))

pub first_bare : (b : Blueprint) (old : Option PlainNode) (next : ℕ) (root : PlainWidget) (tree : PlainNode) (s : Progress) → first_tree b old next root ≡ gives tree s → ListsAreBare tree
first_bare b old next root tree s e =
    subst (Ends (λ n t. ListsAreBare n)) e (enter_bare (basis b old) depth_limit b.defaults (root_arrival old root) (started next))
