-- What is found by its number in the laid trees that a forest of render nodes stores.
use Rattle.std.proofs.Common.{◌≡◌, ℕ, eqb, Bool, true, false, cond, ◌&&◌, Option, Some, None, List, ◌∷◌, ◌++◌, refl, sym, ap, ◌∙◌, inl, inr}
use Rattle.std.proofs.lemmas.Bool.{cases_Bool}
use Rattle.std.specs.Cmp.{unsigned_Decides}
use Rattle.std.specs.Option.{option_or}
use Rattle.fx_geom.specs.declared.shapes.Offset.{Offset}
use Rattle.node_tree.specs.Forest.{Forest}
use Rattle.node_tree.specs.Forest.Forest.{none, tree}
use Rattle.widget_model.specs.Look.{Look}
use Rattle.plain_tree.specs.At.{laid_in}
use Rattle.plain_tree.specs.declared.laid.Facts.{Facts}
use Rattle.plain_tree.specs.Laid.{Laid, laid, Laids, no_laids, more_laids}
use Rattle.plain_tree.specs.Laws.{render_numbers_in, AllDiffer}
use Rattle.plain_tree.proofs.Numbers.{IsIn, in_left, in_right, differs, apart, differ_left, differ_right}
use Rattle.render_tree.specs.Object.{RenderObject, object_look}
use Rattle.render_tree.specs.Plain.{facts_of, offset_or, laids_of, renders_of}

-- a way to find by its number what is in laid trees, which goes below some nodes
pub record Search (X : Type 0) : Type 0 where
  pub find : ℕ → Laids → Option X
  pub value : Offset → ℕ → Look → Facts → Laids → X
  pub enters : Look → Facts → Bool
  pub nothing : (n : ℕ) → find n no_laids ≡ None
  pub more : (n : ℕ) (at : Offset) (m : ℕ) (look : Look) (facts : Facts) (cs ls : Laids)
      → find n (more_laids at (laid m look facts cs) ls) ≡ cond (eqb m n) (Some (value at m look facts cs)) (option_or (cond (enters look facts) (find n cs) None) (find n ls))

pub none_or : {X : Type 0} (a : Option X) → option_or a None ≡ a
none_or None = refl
none_or (Some x) = refl

abbrev numbers : Forest RenderObject → List ℕ
numbers f = render_numbers_in (renders_of f)

module _ {X : Type 0} (s : Search X) where
  abbrev pub value_of : RenderObject → Forest RenderObject → X
  value_of o kids = s.value (offset_or o.offset) o.number (object_look o) (facts_of o) (laids_of kids)

  abbrev pub enters_at : RenderObject → Bool
  enters_at o = s.enters (object_look o) (facts_of o)

  -- each node that is seen is found, and no other
  abbrev pub Told : (ℕ → Option X) → Bool → Forest RenderObject → Type 0
  Told S seen none = Unit {0}
  Told S seen (tree h o kids rest) =
      (S o.number ≡ cond (seen && o.shown) (Some (value_of o kids)) None) × Told S (seen && (o.shown && enters_at o)) kids × Told S seen rest

  told_too : (S T : ℕ → Option X) (seen : Bool) (f : Forest RenderObject) → ((n : ℕ) → IsIn n (numbers f) → T n ≡ S n) → Told S seen f → Told T seen f
  told_too S T seen none same told = tt
  told_too S T seen (tree h o kids rest) same told = (
    same o.number (inl refl) ∙ told.0,
    told_too S T (seen && (o.shown && enters_at o)) kids (λ n i. same n (in_left n (o.number ∷ numbers kids) (numbers rest) (inr i))) told.1,
    told_too S T seen rest (λ n i. same n (in_right n (o.number ∷ numbers kids) (numbers rest) i)) told.2,
  )

  told_none : (S : ℕ → Option X) (f : Forest RenderObject) → ((n : ℕ) → IsIn n (numbers f) → S n ≡ None) → Told S false f
  told_none S none gone = tt
  told_none S (tree h o kids rest) gone = (
    gone o.number (inl refl),
    told_none S kids (λ n i. gone n (in_left n (o.number ∷ numbers kids) (numbers rest) (inr i))),
    told_none S rest (λ n i. gone n (in_right n (o.number ∷ numbers kids) (numbers rest) i)),
  )

  other_number : (m n : ℕ) → (n ≡ m → ⊥) → eqb m n ≡ false
  other_number m n apart = elim (cases_Bool (eqb m n)) [ inl e ↦ absurd (apart (sym ((unsigned_Decides m n).0 e))) | inr e ↦ e ]

  past_one : (n : ℕ) (at : Offset) (m : ℕ) (look : Look) (facts : Facts) (cs ls : Laids) → (n ≡ m → ⊥) → s.find n (more_laids at (laid m look facts cs) ls) ≡ option_or (cond (s.enters look facts) (s.find n cs) None) (s.find n ls)
  past_one n at m look facts cs ls apart =
      s.more n at m look facts cs ls ∙ ap (λ b. cond b (Some (s.value at m look facts cs)) (option_or (cond (s.enters look facts) (s.find n cs) None) (s.find n ls))) (other_number m n apart)

  or_none : (b : Bool) (a c : Option X) → a ≡ None → c ≡ None → option_or (cond b a None) c ≡ None
  or_none true a c e f = ap (λ x. option_or x c) e ∙ f
  or_none false a c e f = f

  missing_node : (n : ℕ) (o : RenderObject) (kids rest : Forest RenderObject) → (n ≡ o.number → ⊥) → s.find n (laids_of kids) ≡ None → s.find n (laids_of rest) ≡ None
      → (b : Bool) → s.find n (cond b (more_laids (offset_or o.offset) (laid o.number (object_look o) (facts_of o) (laids_of kids)) (laids_of rest)) (laids_of rest)) ≡ None
  missing_node n o kids rest other under later true =
      past_one n (offset_or o.offset) o.number (object_look o) (facts_of o) (laids_of kids) (laids_of rest) other
      ∙ or_none (enters_at o) (s.find n (laids_of kids)) (s.find n (laids_of rest)) under later
  missing_node n o kids rest other under later false = later

  pub missing : (n : ℕ) (f : Forest RenderObject) → (IsIn n (numbers f) → ⊥) → s.find n (laids_of f) ≡ None
  missing n none out = s.nothing n
  missing n (tree h o kids rest) out =
      missing_node n o kids rest (λ e. out (inl e)) (missing n kids (λ i. out (in_left n (o.number ∷ numbers kids) (numbers rest) (inr i))))
      (missing n rest (λ i. out (in_right n (o.number ∷ numbers kids) (numbers rest) i))) o.shown

  module _ (o : RenderObject) (kids rest : Forest RenderObject) (differ : AllDiffer (o.number ∷ (numbers kids ++ numbers rest))) where
    abbrev whole : Bool → Laids
    whole b = cond b (more_laids (offset_or o.offset) (laid o.number (object_look o) (facts_of o) (laids_of kids)) (laids_of rest)) (laids_of rest)

    abbrev Goal : Bool → Type 0
    Goal b = (s.find o.number (whole b) ≡ cond b (Some (value_of o kids)) None) × Told (λ n. s.find n (whole b)) (b && enters_at o) kids × Told (λ n. s.find n (whole b)) true rest

    not_here : (n : ℕ) → IsIn n (numbers kids) → n ≡ o.number → ⊥
    not_here n i e = differs o.number n (numbers kids ++ numbers rest) differ.0 (in_left n (numbers kids) (numbers rest) i) (sym e)

    not_first : (n : ℕ) → IsIn n (numbers rest) → n ≡ o.number → ⊥
    not_first n i e = differs o.number n (numbers kids ++ numbers rest) differ.0 (in_right n (numbers kids) (numbers rest) i) (sym e)

    kids_gone : (n : ℕ) → IsIn n (numbers rest) → s.find n (laids_of kids) ≡ None
    kids_gone n i = missing n kids (λ j. apart n (numbers kids) (numbers rest) differ.1 j i)

    rest_gone : (n : ℕ) → IsIn n (numbers kids) → s.find n (laids_of rest) ≡ None
    rest_gone n i = missing n rest (λ j. apart n (numbers kids) (numbers rest) differ.1 i j)

    past : (n : ℕ) → (n ≡ o.number → ⊥) → s.find n (whole true) ≡ option_or (cond (enters_at o) (s.find n (laids_of kids)) None) (s.find n (laids_of rest))
    past n other = past_one n (offset_or o.offset) o.number (object_look o) (facts_of o) (laids_of kids) (laids_of rest) other

    by_enters : (b : Bool) → enters_at o ≡ b → Told (λ n. s.find n (laids_of kids)) true kids → Told (λ n. s.find n (whole true)) b kids
    by_enters true e inner =
        told_too (λ n. s.find n (laids_of kids)) (λ n. s.find n (whole true)) true kids
        (λ n i. past n (not_here n i) ∙ (ap (λ b. option_or (cond b (s.find n (laids_of kids)) None) (s.find n (laids_of rest))) e
        ∙ (ap (option_or (s.find n (laids_of kids))) (rest_gone n i) ∙ none_or (s.find n (laids_of kids))))) inner
    by_enters false e inner =
        told_none (λ n. s.find n (whole true)) kids
        (λ n i. past n (not_here n i) ∙ (ap (λ b. option_or (cond b (s.find n (laids_of kids)) None) (s.find n (laids_of rest))) e ∙ rest_gone n i))

    kids_or : (n : ℕ) (b : Bool) → IsIn n (numbers rest) → option_or (cond b (s.find n (laids_of kids)) None) (s.find n (laids_of rest)) ≡ s.find n (laids_of rest)
    kids_or n true i = ap (λ x. option_or x (s.find n (laids_of rest))) (kids_gone n i)
    kids_or n false i = refl

    told_node : Told (λ n. s.find n (laids_of kids)) true kids → Told (λ n. s.find n (laids_of rest)) true rest → (b : Bool) → Goal b
    told_node inner later true = (
      s.more o.number (offset_or o.offset) o.number (object_look o) (facts_of o) (laids_of kids) (laids_of rest)
          ∙ ap (λ b. cond b (Some (value_of o kids)) (option_or (cond (enters_at o) (s.find o.number (laids_of kids)) None) (s.find o.number (laids_of rest)))) ((unsigned_Decides o.number o.number).1 refl),
      by_enters (enters_at o) refl inner,
      told_too (λ n. s.find n (laids_of rest)) (λ n. s.find n (whole true)) true rest (λ n i. past n (not_first n i) ∙ kids_or n (enters_at o) i) later,
    )
    told_node inner later false = (
      missing o.number rest (λ i. not_first o.number i refl),
      told_none (λ n. s.find n (laids_of rest)) kids rest_gone,
      later,
    )

  pub told : (f : Forest RenderObject) → AllDiffer (numbers f) → Told (λ n. s.find n (laids_of f)) true f
  told none differ = tt
  told (tree h o kids rest) differ =
      told_node o kids rest differ (told kids (differ_left (numbers kids) (numbers rest) differ.1)) (told rest (differ_right (numbers kids) (numbers rest) differ.1)) o.shown

-- ---- laid nodes

pub laid_more : (b : Bool) (x : Laid) (a c : Option Laid) → option_or (cond b (Some x) a) c ≡ cond b (Some x) (option_or a c)
laid_more true x a c = refl
laid_more false x a c = refl

abbrev pub laid_search : Search Laid
laid_search = record {
  find = laid_in;
  value = λ at m look facts cs. laid m look facts cs;
  enters = λ look facts. true;
  nothing = λ n. refl;
  more = λ n at m look facts cs ls. laid_more (eqb m n) (laid m look facts cs) (laid_in n cs) (laid_in n ls);
}
