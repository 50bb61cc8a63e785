-- What is found by its number in laid trees: where a node stands, whether it is painted, and its frame.
use Rattle.std.proofs.Common.{◌≡◌, ℕ, eqb, Bool, true, false, not, cond, ◌&&◌, ◌||◌, Option, Some, None, option_map, List, [], ◌++◌, refl, sym, ap, ◌∙◌, subst, append-nil}
use Rattle.std.proofs.lemmas.List.Folds.{list_any-append}
use Rattle.std.specs.List.{list_any}
use Rattle.std.specs.Option.{option_or}
use Rattle.fx_geom.specs.declared.shapes.Offset.{Offset}
use Rattle.fx_handles.specs.declared.Handle.{Handle}
use Rattle.node_tree.specs.Forest.{Forest}
use Rattle.node_tree.specs.Forest.Forest.{none, tree}
use Rattle.widget_model.specs.Look.{Look}
use Rattle.plain_tree.specs.declared.laid.Facts.{Facts}
use Rattle.screen_form.specs.Hidden.{hides_below, without_hidden, all_without_hidden}
use Rattle.plain_tree.specs.At.{laid_at, laid_in}
use Rattle.plain_tree.specs.Laid.{Laid, laid, Laids, no_laids, more_laids}
use Rattle.plain_tree.specs.Laws.{laid_numbers_of, laid_numbers_in, render_numbers_in, AllDiffer}
use Rattle.work_sets.specs.Before.{frame_in}
use Rattle.work_sets.specs.Paint.{is_painted, stands_at, stands_in}
use Rattle.kept_layers.specs.Group.{opens}
use Rattle.render_tree.specs.Object.{RenderObject, object_look}
use Rattle.render_tree.specs.Plain.{facts_of, frame_or, offset_or, laids_of, laid_of, renders_of}
use Rattle.counted_work.proofs.Framed.{frame_of, same_laid, root_found}
use Rattle.counted_work.proofs.Searching.{Search, Told, laid_search, told}

abbrev pub stand_search : Search Offset
stand_search = record {
  find = stands_in;
  value = λ at m look facts cs. at;
  enters = λ look facts. true;
  nothing = λ n. refl;
  more = λ n at m look facts cs ls. refl;
}

-- ---- what is painted

abbrev pub has_number : ℕ → List ℕ → Bool
has_number n ms = list_any (λ m. eqb m n) ms

abbrev pub if_painted : Bool → Option (Unit {0})
if_painted b = cond b (Some tt) None

painted_cases : (m hides a b : Bool) → if_painted (m || ((cond hides false a) || b)) ≡ cond m (Some tt) (option_or (cond (not hides) (if_painted a) None) (if_painted b))
painted_cases true hides a b = refl
painted_cases false true a b = refl
painted_cases false false true b = refl
painted_cases false false false b = refl

hidden_any : (hides : Bool) (n : ℕ) (cs : Laids) → has_number n (laid_numbers_in (cond hides no_laids (all_without_hidden cs))) ≡ cond hides false (has_number n (laid_numbers_in (all_without_hidden cs)))
hidden_any true n cs = refl
hidden_any false n cs = refl

pub painted_more : (n : ℕ) (at : Offset) (m : ℕ) (look : Look) (facts : Facts) (cs ls : Laids)
    → if_painted (has_number n (laid_numbers_in (all_without_hidden (more_laids at (laid m look facts cs) ls))))
    ≡ cond (eqb m n) (Some tt) (option_or (cond (not (hides_below look facts.frame)) (if_painted (has_number n (laid_numbers_in (all_without_hidden cs)))) None) (if_painted (has_number n (laid_numbers_in (all_without_hidden ls)))))
painted_more n at m look facts cs ls =
    let hides : Bool = hides_below look facts.frame in
    let inner : List ℕ = laid_numbers_in (cond hides no_laids (all_without_hidden cs)) in
    let others : List ℕ = laid_numbers_in (all_without_hidden ls) in
    ap (λ b. if_painted (eqb m n || b)) (list_any-append (λ x. eqb x n) inner others)
    ∙ (ap (λ b. if_painted (eqb m n || (b || has_number n others))) (hidden_any hides n cs)
    ∙ painted_cases (eqb m n) hides (has_number n (laid_numbers_in (all_without_hidden cs))) (has_number n others))

abbrev pub paint_search : Search (Unit {0})
paint_search = record {
  find = λ n ls. if_painted (has_number n (laid_numbers_in (all_without_hidden ls)));
  value = λ at m look facts cs. tt;
  enters = λ look facts. not (hides_below look facts.frame);
  nothing = λ n. refl;
  more = painted_more;
}

-- ---- all three, of each node below a root

module _ (root : Laid) where
  -- a child of a node in the window or not, painted or not
  pub record IsKnown (seen painted : Bool) (o : RenderObject) : Type 0 where
    pub stands : stands_at o.number root ≡ cond (seen && o.shown) (Some (offset_or o.offset)) None
    pub paints : is_painted root o.number ≡ (painted && o.shown)
    pub frame : frame_in root o.number ≡ cond (seen && o.shown) (Some (frame_or o.frame)) None

  abbrev pub AreKnown : Bool → Bool → Forest RenderObject → Type 0
  AreKnown seen painted none = Unit {0}
  AreKnown seen painted (tree h o kids rest) = IsKnown seen painted o × AreKnown (seen && o.shown) (painted && (o.shown && opens o)) kids × AreKnown seen painted rest

  some_or_none : (a b : Bool) → if_painted a ≡ if_painted b → a ≡ b
  some_or_none true true e = refl
  some_or_none true false e = absurd (cc)
  some_or_none false true e = absurd (cc)
  some_or_none false false e = refl

  and_true : (b : Bool) → (b && true) ≡ b
  and_true true = refl
  and_true false = refl

  framed_as : (b : Bool) (x : Laid) → option_map frame_of (cond b (Some x) None) ≡ cond b (Some (frame_of x)) None
  framed_as true x = refl
  framed_as false x = refl

  known_all : (L : ℕ → Option Laid) (S : ℕ → Option Offset) (P : ℕ → Option (Unit {0})) → ((n : ℕ) → laid_at n root ≡ L n) → ((n : ℕ) → stands_at n root ≡ S n) → ((n : ℕ) → if_painted (is_painted root n) ≡ P n)
      → (seen painted : Bool) (f : Forest RenderObject) → Told laid_search L seen f → Told stand_search S seen f → Told paint_search P painted f → AreKnown seen painted f
  known_all L S P l s p seen painted none a b c = tt
  known_all L S P l s p seen painted (tree h o kids rest) a b c = (
    record {
      stands = s o.number ∙ b.0;
      paints = some_or_none (is_painted root o.number) (painted && o.shown) (p o.number ∙ c.0);
      frame = ap (option_map frame_of) (l o.number ∙ a.0) ∙ framed_as (seen && o.shown) (laid o.number (object_look o) (facts_of o) (laids_of kids));
    },
    known_all L S P l s p (seen && o.shown) (painted && (o.shown && opens o)) kids
        (subst (λ x. Told laid_search L (seen && x) kids) (and_true o.shown) a.1) (subst (λ x. Told stand_search S (seen && x) kids) (and_true o.shown) b.1) c.1,
    known_all L S P l s p seen painted rest a.2 b.2 c.2,
  )

-- of a root that is in the window
pub record RootKnown (root : Laid) (o : RenderObject) (kids : Forest RenderObject) : Type 0 where
  pub paints : is_painted root o.number ≡ true
  pub frame : frame_in root o.number ≡ Some (frame_or o.frame)
  pub below : AreKnown root true (opens o) kids

root_paints : (xs : List ℕ) (n : ℕ) → if_painted (has_number n xs) ≡ if_painted (has_number n (xs ++ []))
root_paints xs n = ap (λ ys. if_painted (has_number n ys)) (sym (append-nil xs))

pub root_known : (h : Handle) (o : RenderObject) (kids : Forest RenderObject) (root : Laid) → o.shown ≡ true → laid_of (tree h o kids none) ≡ Some root → AllDiffer (render_numbers_in (renders_of (tree h o kids none))) → RootKnown root o kids
root_known h o kids root shown is differ =
    let f : Forest RenderObject = tree h o kids none in
    let root_is : laid o.number (object_look o) (facts_of o) (laids_of kids) ≡ root = same_laid (laid o.number (object_look o) (facts_of o) (laids_of kids)) root is in
    let whole : laids_of f ≡ more_laids (offset_or o.offset) root no_laids =
    ap (λ b. cond b (more_laids (offset_or o.offset) (laid o.number (object_look o) (facts_of o) (laids_of kids)) no_laids) no_laids) shown ∙ ap (λ r. more_laids (offset_or o.offset) r no_laids) root_is in
    let L : ℕ → Option Laid = λ n. laid_in n (laids_of f) in
    let P : ℕ → Option (Unit {0}) = λ n. if_painted (has_number n (laid_numbers_in (all_without_hidden (laids_of f)))) in
    let l : (n : ℕ) → laid_at n root ≡ L n = λ n. sym (root_found h o kids root shown is n) in
    let p : (n : ℕ) → if_painted (is_painted root n) ≡ P n = λ n.
    root_paints (laid_numbers_of (without_hidden root)) n ∙ ap (λ ls. if_painted (has_number n (laid_numbers_in (all_without_hidden ls)))) (sym whole) in
    let laids = told laid_search f differ in
    let paints = told paint_search f differ in
    let stands = told stand_search kids (kids_differ o kids differ) in
    record {
      paints = some_or_none root (is_painted root o.number) true (p o.number ∙ (paints.0 ∙ ap (λ b. cond b (Some tt) None) shown));
      frame = ap (option_map frame_of) (l o.number ∙ (laids.0 ∙ ap (λ b. cond b (Some (laid o.number (object_look o) (facts_of o) (laids_of kids))) None) shown));
      below = known_all root L (λ n. stands_in n (laids_of kids)) P l (λ n. ap (stands_at n) (sym root_is)) p true (opens o) kids
          (subst (λ b. Told laid_search L (b && true) kids) shown laids.1) stands (subst (λ b. Told paint_search P (b && opens o) kids) shown paints.1);
    }
  where
    kids_differ : (o : RenderObject) (kids : Forest RenderObject) → AllDiffer (render_numbers_in (renders_of (tree h o kids none))) → AllDiffer (render_numbers_in (renders_of kids))
    kids_differ o kids d = subst AllDiffer (append-nil (render_numbers_in (renders_of kids))) d.1
