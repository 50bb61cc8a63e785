-- Members that are taken out of a template, and templates that are taken out of lists.
use Rattle.std.proofs.Common.{◌≡◌, ℕ, zero, suc, ◌≤◌, max, arith, List, [], ◌∷◌, set, Option, Some, None, ap, sym, refl, ◌∙◌}
use Rattle.std.specs.Global.{Box}
use Rattle.program_form.specs.declared.templates.Template.{Template}
use Rattle.program_form.specs.declared.templates.Part.{Part}
use Rattle.program_form.specs.declared.templates.SlotForm.{SlotForm}
use Rattle.program_form.specs.declared.kinds.KindName.{KindName}
use Rattle.program_form.specs.declared.kinds.KindName.TheVariants as kind
use Rattle.program_form.specs.Key.{PlainKey}
use Rattle.program_check.specs.Place.{PlainPlace}
use Rattle.program_check.specs.Judged.{JudgedPart, JudgedParts, part_at, checked_template, checked_members, checked_inherit, checked_slot, checked_if, checked_each}
use Rattle.program_check.specs.JudgedView.{parts_of, first_three}
use Rattle.program_check.specs.Depth.{depth_of, part_depth_of, parts_depth, children_depth, contents_depth}
use Rattle.program_check.proofs.PartLemmas.{content-depth}

-- ---- what is left where a member was taken: the others stay, and nothing is deeper

pub depth-emptied : (ms : List (Option (Box Part))) (i : ℕ) → parts_depth (set ms i None) ≤ parts_depth ms
depth-emptied [] i = omega arith
depth-emptied (None ∷ ms) zero = omega arith
depth-emptied (Some p ∷ ms) zero = below_max (part_depth_of p.value) (parts_depth ms)
  where
    below_max : (a b : ℕ) → b ≤ max a b
    below_max a b = grind arith
depth-emptied (None ∷ ms) (suc i) = depth-emptied ms i
depth-emptied (Some p ∷ ms) (suc i) = no_deeper (part_depth_of p.value) _ _ (depth-emptied ms i)
  where
    no_deeper : (a b c : ℕ) → b ≤ c → max a b ≤ max a c
    no_deeper a b c h = grind arith

second-stays : (ms : List (Option (Box Part))) → part_at (parts_of (set ms 0 None)) 1 ≡ part_at (parts_of ms) 1
second-stays [] = refl
second-stays (m ∷ ms) = refl

third-stays : (ms : List (Option (Box Part))) → part_at (parts_of (set ms 0 None)) 2 ≡ part_at (parts_of ms) 2
third-stays [] = refl
third-stays (m ∷ ms) = refl

third-stays_second : (ms : List (Option (Box Part))) → part_at (parts_of (set ms 1 None)) 2 ≡ part_at (parts_of ms) 2
third-stays_second [] = refl
third-stays_second (m ∷ []) = refl
third-stays_second (m ∷ n ∷ ms) = refl

-- three members, taken one by one
pub three-taken : (ms after_one after_two : List (Option (Box Part))) (a b c : Option JudgedPart) → a ≡ part_at (parts_of ms) 0 → after_one ≡ set ms 0 None
    → b ≡ part_at (parts_of after_one) 1 → after_two ≡ set after_one 1 None → c ≡ part_at (parts_of after_two) 2 → a ∷ b ∷ c ∷ [] ≡ first_three (parts_of ms)
three-taken ms after_one after_two a b c x one y two z =
    let second : b ≡ part_at (parts_of ms) 1 = y ∙ ap (λ m. part_at (parts_of m) 1) one ∙ second-stays ms in
    let third : c ≡ part_at (parts_of ms) 2 =
    z ∙ ap (λ m. part_at (parts_of m) 2) two ∙ third-stays_second after_one ∙ ap (λ m. part_at (parts_of m) 2) one ∙ third-stays ms in
    cc

-- ---- templates of kinds that have three members at most

pub template-use : (k : KindName) (key : Option PlainKey) (ps qs : JudgedParts) (place : PlainPlace) → k ≡ kind.Use → qs ≡ first_three ps
    → checked_template kind.Use key qs place ≡ checked_template k key ps place
template-use k key ps qs place e h =
    ap (λ ms. checked_template kind.Use key ms place) h ∙ sym (ap (λ k. checked_template k key ps place) e)

pub members-inherit : (k : KindName) (place : PlainPlace) (ps qs : JudgedParts) → k ≡ kind.Inherit → qs ≡ first_three ps → checked_inherit place qs ≡ checked_members k place ps
members-inherit k place ps qs e h = ap (checked_inherit place) h ∙ sym (ap (λ k. checked_members k place ps) e)

pub members-slot : (k : KindName) (place : PlainPlace) (ps qs : JudgedParts) → k ≡ kind.Slot → qs ≡ first_three ps → checked_slot place qs ≡ checked_members k place ps
members-slot k place ps qs e h = ap (checked_slot place) h ∙ sym (ap (λ k. checked_members k place ps) e)

pub members-if : (k : KindName) (place : PlainPlace) (ps qs : JudgedParts) → k ≡ kind.If → qs ≡ first_three ps → checked_if place qs ≡ checked_members k place ps
members-if k place ps qs e h = ap (checked_if place) h ∙ sym (ap (λ k. checked_members k place ps) e)

pub members-each : (k : KindName) (place : PlainPlace) (ps qs : JudgedParts) → k ≡ kind.Each → qs ≡ first_three ps → checked_each place qs ≡ checked_members k place ps
members-each k place ps qs e h = ap (checked_each place) h ∙ sym (ap (λ k. checked_members k place ps) e)

-- ---- how deep lists are: the next template, and those after it

pub children_depth-first : (ts : List Template) (t : Template) (rest : List Template) → ts ≡ t ∷ rest → children_depth ts ≡ max (depth_of t) (children_depth rest)
children_depth-first ts t rest is = ap children_depth is

pub contents_depth-first : (ss : List SlotForm) (s : SlotForm) (rest : List SlotForm) → ss ≡ s ∷ rest → contents_depth ss ≡ max (depth_of s.content) (contents_depth rest)
contents_depth-first ss s rest is = ap contents_depth is ∙ ap (λ n. max n (contents_depth rest)) (content-depth s)
