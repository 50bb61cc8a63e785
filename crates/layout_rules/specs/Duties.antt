-- What is done at a node: it is laid out as it is asked, or it is measured.
use Rattle.std.specs.Prelude.{◌≡◌, ℕ, zero, suc, ◌+◌, ◌≤◌, ◌^◌, Bool, Option, Some, None, option_map, List, [], ◌∷◌, map}
use Rattle.fx_handles.specs.declared.Handle.{Handle}
use Rattle.node_tree.specs.Forest.{Forest}
use Rattle.node_tree.specs.Forest.Forest.{none, tree}
use Rattle.layout_form.specs.declared.asks.Ask.{Ask}
use Rattle.layout_form.specs.declared.asks.Ask.TheVariants.{AsBox, AsSliver}
use Rattle.layout_walk.specs.Node.{LayoutNode}
use Rattle.layout_walk.specs.Rule.{LayoutParts, later}
use Rattle.layout_walk.specs.Here.{Backs}
use Rattle.layout_walk.specs.Walk.{LaysOut}
use Rattle.layout_walk.specs.Flush.{runs, tree_runs, one_each}
use Rattle.layout_walk.specs.Measure.{measured_in, MeasuredBy, FirstMeasured, measured_runs, first_runs}
use Rattle.layout_rules.specs.declared.duties.Duty.{Duty}
use Rattle.layout_rules.specs.declared.duties.Duty.TheVariants.{Lay, Measure}

-- what a duty leaves of a node and of what is below it
abbrev pub Does : LayoutParts → Backs → Duty → LayoutNode → Forest LayoutNode → LayoutNode → Forest LayoutNode → Type 0
Does P back (Lay ask) v kids w below = LaysOut P back ask v kids w below
Does P back (Measure axis cross) v kids w below =
    MeasuredBy P back axis cross (measured_in axis cross v) v kids w below (λ c. FirstMeasured P back axis c kids below)

abbrev pub DoesIf : LayoutParts → Backs → Option Duty → LayoutNode → Forest LayoutNode → LayoutNode → Forest LayoutNode → Type 0
DoesIf P back None v kids w below = (v ≡ w) × (kids ≡ below)
DoesIf P back (Some duty) v kids w below = Does P back duty v kids w below

abbrev pub duty_of : List (Option Duty) → Option Duty
duty_of [] = None
duty_of (duty ∷ duties) = duty

-- the first n trees have their duties done, and the others are as before
abbrev pub Served : LayoutParts → Backs → ℕ → List (Option Duty) → Forest LayoutNode → Forest LayoutNode → Type 0
Served P back zero duties f g = f ≡ g
Served P back (suc n) duties none none = Unit {0}
Served P back (suc n) duties none (tree k w below rest) = ⊥
Served P back (suc n) duties (tree h v kids more) none = ⊥
Served P back (suc n) duties (tree h v kids more) (tree k w below rest) =
    (h ≡ k) × DoesIf P back (duty_of duties) v kids w below × Served P back n (later duties) more rest

-- all trees have
abbrev pub AllServed : LayoutParts → Backs → List (Option Duty) → Forest LayoutNode → Forest LayoutNode → Type 0
AllServed P back duties none none = Unit {0}
AllServed P back duties none (tree k w below rest) = ⊥
AllServed P back duties (tree h v kids more) none = ⊥
AllServed P back duties (tree h v kids more) (tree k w below rest) =
    (h ≡ k) × DoesIf P back (duty_of duties) v kids w below × AllServed P back (later duties) more rest

-- how many rules a duty runs at a node that counts for n, where the rule of the node at any other handle counts for so much
abbrev pub duty_runs : (Handle → ℕ) → ℕ → LayoutParts → Bool → Duty → LayoutNode → Forest LayoutNode → ℕ
duty_runs w n P outer (Lay ask) v kids = tree_runs n P outer (Some ask) v kids (λ xs. runs w P outer xs kids)
duty_runs w n P outer (Measure axis cross) v kids = measured_runs w P outer axis cross (measured_in axis cross v) kids (λ c. first_runs w P outer axis c kids)

abbrev pub runs_if : (Handle → ℕ) → ℕ → LayoutParts → Bool → Option Duty → LayoutNode → Forest LayoutNode → ℕ
runs_if w n P outer None v kids = 0
runs_if w n P outer (Some duty) v kids = duty_runs w n P outer duty v kids

-- those of the trees after the first n
abbrev pub runs_left : (Handle → ℕ) → LayoutParts → Bool → ℕ → List (Option Duty) → Forest LayoutNode → ℕ
runs_left w P outer n duties none = 0
runs_left w P outer zero duties (tree h v kids rest) = runs_if w (w h) P outer (duty_of duties) v kids + runs_left w P outer zero (later duties) rest
runs_left w P outer (suc n) duties (tree h v kids rest) = runs_left w P outer n (later duties) rest

-- where each counts once
abbrev pub duty_ticks : LayoutParts → Bool → Duty → LayoutNode → Forest LayoutNode → ℕ
duty_ticks P outer duty v kids = duty_runs one_each 1 P outer duty v kids

abbrev pub ticks_if : LayoutParts → Bool → Option Duty → LayoutNode → Forest LayoutNode → ℕ
ticks_if P outer duty v kids = runs_if one_each 1 P outer duty v kids

abbrev pub ticks_left : LayoutParts → Bool → ℕ → List (Option Duty) → Forest LayoutNode → ℕ
ticks_left P outer n duties f = runs_left one_each P outer n duties f

-- a duty may be done: a sliver begins at a length
abbrev pub MayDo : Duty → Type 0
MayDo (Lay (AsBox b)) = Unit {0}
MayDo (Lay (AsSliver b)) = b.offset ≤ 2 ^ 40
MayDo (Measure axis cross) = Unit {0}

abbrev pub MayDoIf : Option Duty → Type 0
MayDoIf None = Unit {0}
MayDoIf (Some duty) = MayDo duty

abbrev pub MayDoAll : List (Option Duty) → Type 0
MayDoAll [] = Unit {0}
MayDoAll (duty ∷ duties) = MayDoIf duty × MayDoAll duties

abbrev pub lay_duties : List (Option Ask) → List (Option Duty)
lay_duties asks = map (λ ask. option_map Lay ask) asks
