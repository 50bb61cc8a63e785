-- What is known of all items of a list, once so many were looked at.
use Rattle.std.proofs.Common.{◌≡◌, ◌↔◌, ℕ, zero, suc, ◌+◌, ◌<◌, ◌≤◌, IsTrue, Bool, true, false, Option, Some, None, List, [], ◌∷◌, map, length, drop, get_or, refl, sym, ap, ◌∙◌, subst, arith}
use Rattle.std.specs.Global.{Box}
use Rattle.std.specs.List.{All}
use Rattle.std.specs.declared.rc.Rc.{Rc}
use Rattle.std.specs.declared.alloc.Global.{Global}
use Rattle.std.proofs.lemmas.List.{drop_more, drop_all}
use Rattle.std.proofs.lemmas.List.Elements.{All-nil, All-cons, All-head, All-tail}
use Rattle.program_check.specs.declared.checked.Body.{Body}
use Rattle.program_check.specs.declared.checked.BodyPart.{BodyPart}
use Rattle.program_check.specs.declared.checked.CheckedComponent.{CheckedComponent}
use Rattle.program_check.specs.Body.{members_in, bodies_in}
use Rattle.program_check.specs.BodyView.{plain_body, plain_body_part, plain_members}
use Rattle.program_check.specs.CheckedView.{plain_component}
use Rattle.program_check.proofs.BodyLemmas.{plain_body-out}
use Rattle.widget_model.specs.declared.widgets.Widget.{Widget}
use Rattle.widget_model.specs.Plain.{PlainWidget, widgets_of}
use Rattle.widget_model.specs.PlainLaws.{counts_of-widgets_of}
use Rattle.widget_model.specs.Size.{count_of, count_in}
use Rattle.widget_model.specs.View.{plain_of, shared, slots_in}
use Rattle.versioned_kinds.specs.Lists.{IsNoList, IsNoListKind, is_list_kind}
use Rattle.versioned_kinds.specs.Templates.{BodyKindsMeet, BodyMembersMeet, BodyPartMeets, BodiesMeet}
use Rattle.versioned_kinds.specs.Widgets.{LooksMeet, AllLooksMeet}
use Rattle.first_builds.specs.Listless.{IsListlessComponent}

-- ---- tests

pub told : {P : Type 0} → P → IsTrue true ↔ P
told p = (λ _. p, λ _. refl)

pub told_not : {P : Type 0} → (P → ⊥) → IsTrue false ↔ P
told_not never = (λ e. absurd (let f : false ≡ true = e in cc), λ p. absurd (never p))

pub untrue : {P : Type 0} (b : Bool) → b ≡ false → (IsTrue b ↔ P) → P → ⊥
untrue b off is p = let on = is.1 p in cc

-- ---- items one after another: what is so of all that is left is so of the whole

module _ {A : Type 0} (One : A → Type 0) (Each : List A → Type 0) (opened : (x : A) (xs : List A) → Each (x ∷ xs) ↔ (One x × Each xs)) (Whole : Type 0) (xs : List A) (i : ℕ) where
  module _ (x : A) (within : i < length xs) (is : x ≡ get_or xs i x) (left : Each (drop i xs) ↔ Whole) where
    next : drop i xs ≡ x ∷ drop (i + 1) xs
    next = drop_more xs i x within ∙ ap (λ y. y ∷ drop (i + 1) xs) (sym is)

    pub each_more : One x → Each (drop (i + 1) xs) ↔ Whole
    each_more one = (
      λ rest. left.0 (subst Each (sym next) ((opened x (drop (i + 1) xs)).1 (one, rest))),
      λ whole. ((opened x (drop (i + 1) xs)).0 (subst Each next (left.1 whole))).1,
    )

    pub each_not : (One x → ⊥) → Whole → ⊥
    each_not never whole = never ((opened x (drop (i + 1) xs)).0 (subst Each next (left.1 whole))).0

  pub each_all : Each [] → length xs ≤ i → (Each (drop i xs) ↔ Whole) → Whole
  each_all none past left = left.0 (subst Each (sym (drop_all i xs past)) none)

-- ---- members, templates, components and widgets

abbrev pub MemberIsListless : Option (Box BodyPart) → Type 0
MemberIsListless None = Unit {0}
MemberIsListless (Some p) = BodyPartMeets IsNoListKind (plain_body_part p.value)

abbrev pub MembersAreListless : List (Option (Box BodyPart)) → Type 0
MembersAreListless ms = BodyMembersMeet IsNoListKind (members_in (plain_members ms))

pub members_opened : (m : Option (Box BodyPart)) (ms : List (Option (Box BodyPart))) → MembersAreListless (m ∷ ms) ↔ (MemberIsListless m × MembersAreListless ms)
members_opened None ms = (λ h. (tt, h), λ h. h.1)
members_opened (Some p) ms = (λ h. h, λ h. h)

abbrev pub BodyIsListless : Body → Type 0
BodyIsListless b = BodyKindsMeet IsNoListKind (plain_body b)

abbrev pub BodiesAreListless : List Body → Type 0
BodiesAreListless bs = BodiesMeet IsNoListKind (bodies_in (map plain_body bs))

pub bodies_opened : (b : Body) (bs : List Body) → BodiesAreListless (b ∷ bs) ↔ (BodyIsListless b × BodiesAreListless bs)
bodies_opened b bs = (λ h. h, λ h. h)

-- a template's kind, and its members
pub body_opened : (b : Body) → BodyIsListless b ↔ (IsNoListKind b.w × MembersAreListless b.members.items)
body_opened b =
    let out = plain_body-out b in
    (λ h. subst (BodyKindsMeet IsNoListKind) out h, λ h. subst (BodyKindsMeet IsNoListKind) (sym out) h)

pub body_told : (b : Body) (ms : List (Option (Box BodyPart))) (r : Bool) → ms ≡ b.members.items → is_list_kind b.w ≡ false → (IsTrue r ↔ MembersAreListless ms) → IsTrue r ↔ BodyIsListless b
body_told b ms r same other by_members = (
  λ on. (body_opened b).1 (other, subst MembersAreListless same (by_members.0 on)),
  λ h. by_members.1 (subst MembersAreListless (sym same) ((body_opened b).0 h).1),
)

pub body_not : (b : Body) (r : Bool) → r ≡ is_list_kind b.w → r ≡ true → BodyIsListless b → ⊥
body_not b r is on h = let f : false ≡ true = sym ((body_opened b).0 h).0 ∙ sym is ∙ on in cc

abbrev pub ComponentsAreListless : List CheckedComponent → Type 0
ComponentsAreListless cs = All IsListlessComponent (map plain_component cs)

abbrev pub ComponentIsListless : CheckedComponent → Type 0
ComponentIsListless c = BodyIsListless c.body

pub components_opened : (c : CheckedComponent) (cs : List CheckedComponent) → ComponentsAreListless (c ∷ cs) ↔ (ComponentIsListless c × ComponentsAreListless cs)
components_opened c cs = (
  λ h. (All-head IsListlessComponent (plain_component c) (map plain_component cs) h, All-tail IsListlessComponent (plain_component c) (map plain_component cs) h),
  λ h. All-cons IsListlessComponent (plain_component c) (map plain_component cs) h.0 h.1,
)

pub no_components : ComponentsAreListless []
no_components = All-nil IsListlessComponent

abbrev pub WidgetIsListless : Rc Widget Global → Type 0
WidgetIsListless r = LooksMeet IsNoList (shared r)

abbrev pub WidgetsAreListless : List (Rc Widget Global) → Type 0
WidgetsAreListless rs = AllLooksMeet IsNoList (widgets_of (map shared rs))

pub widgets_opened : (r : Rc Widget Global) (rs : List (Rc Widget Global)) → WidgetsAreListless (r ∷ rs) ↔ (WidgetIsListless r × WidgetsAreListless rs)
widgets_opened r rs = (λ h. h, λ h. h)

-- ---- what stands in a widget is fewer widgets than it

pub slots_fewer : (w : Widget) → count_in (slots_in w.kind) < count_of (plain_of w)
slots_fewer w = omega (arith, counts_of-widgets_of (slots_in w.kind))

pub children_fewer : (w : Widget) (ws : List PlainWidget) → ws ≡ w.children → count_in ws < count_of (plain_of w)
children_fewer w ws is = omega (arith, ap count_in is, counts_of-widgets_of w.children)

pub counted_at : (rs : List (Rc Widget Global)) (i : ℕ) (r : Rc Widget Global) → i < length rs → r ≡ get_or rs i r → count_of (shared r) ≤ count_in (map shared rs)
counted_at [] i r within is = absurd (omega arith)
counted_at (s ∷ rs) zero r within is = omega (arith, ap (λ (x : Rc Widget Global). count_of (shared x)) is)
counted_at (s ∷ rs) (suc i) r within is = omega (arith, counted_at rs i r (omega arith) is)
