-- The flagged elements of a forest, in preorder, are those of the marked numbers.
use Rattle.std.proofs.Common.{◌≡◌, ℕ, zero, suc, ◌+◌, ◌≤◌, Bool, true, false, cond, Option, Some, None, option_map, List, [], ◌∷◌, ◌++◌, refl, sym, ap, ◌∙◌, subst, arith}
use Rattle.std.specs.List.{find}
use Rattle.fx_handles.specs.declared.Handle.{Handle}
use Rattle.fx_handles.specs.Handle.{same, times}
use Rattle.fx_handles.specs.HandleLaws.{same-eq, same-true, times-cons}
use Rattle.node_tree.specs.Forest.{TreeNode, Forest, count, In, IsDistinct, Stands}
use Rattle.node_tree.specs.Forest.Forest.{none, tree}
use Rattle.node_tree.specs.Tree.{Tree, node_at}
use Rattle.widget_model.specs.Plain.{PlainWidget}
use Rattle.plain_tree.specs.At.{numbers_of, numbers_in}
use Rattle.plain_tree.specs.PlainNode.{nodes_of as listed}
use Rattle.element_tree.specs.Element.{Element, number_at}
use Rattle.element_tree.specs.Nodes.{nodes_of}
use Rattle.build_walk.specs.Past.{is_marked}
use Rattle.build_walk.specs.Telling.{FlagsAre}
use Rattle.renewed_builds.specs.Renewing.{with_given, stored_at}
use Rattle.renewed_builds.specs.Several.{flagged_in}

-- ---- they stand in the forest

times-append : (k : Handle) (xs ys : List Handle) → times k (xs ++ ys) ≡ times k xs + times k ys
times-append k [] ys = omega arith
times-append k (x ∷ xs) ys =
    let one = times-cons k x xs in
    let both = times-cons k x (xs ++ ys) in
    let more = times-append k xs ys in
    omega (arith, one, both, more)

own_few : (k h : Handle) (b : Bool) → times k (cond b (h ∷ []) []) ≤ cond {A = ℕ} (same h k) 1 0
own_few k h true = let one = times-cons k h [] in omega (arith, one)
own_few k h false = omega arith

pub flagged_few : (k : Handle) (f : Forest Element) → times k (flagged_in f) ≤ count k f
flagged_few k none = omega arith
flagged_few k (tree h e kids rest) =
    let own : List Handle = cond e.dirty (h ∷ []) [] in
    let all = times-append k own (flagged_in kids ++ flagged_in rest) in
    let both = times-append k (flagged_in kids) (flagged_in rest) in
    let here = own_few k h e.dirty in
    let low = flagged_few k kids in
    let more = flagged_few k rest in
    omega (arith, all, both, here, low, more)

pub first_inside : (h : Handle) (hs : List Handle) (f : Forest Element) → flagged_in f ≡ h ∷ hs → In h f
first_inside h hs f is =
    let few = flagged_few h f in
    let one : times h (flagged_in f) ≡ times h (h ∷ hs) = ap (times h) is in
    let head = times-cons h h hs in
    let self : cond {A = ℕ} (same h h) 1 0 ≡ 1 = ap (λ b. cond {A = ℕ} b 1 0) (same-eq h h refl) in
    omega (arith, few, one, head, self)

-- ---- the first one

module _ (t : Tree Element) where
  -- the number of the first of some, or else this one
  abbrev first_or : List Handle → Option ℕ → Option ℕ
  first_or [] later = later
  first_or (h ∷ hs) later = number_at t h

  first_append : (xs ys : List Handle) (later : Option ℕ) → first_or (xs ++ ys) later ≡ first_or xs (first_or ys later)
  first_append [] ys later = refl
  first_append (x ∷ xs) ys later = refl

  module _ (marks : List ℕ) where
    abbrev find_or : List ℕ → Option ℕ → Option ℕ
    find_or [] later = later
    find_or (n ∷ ns) later = cond (is_marked marks n) (Some n) (find_or ns later)

    find_append : (xs ys : List ℕ) (later : Option ℕ) → find_or (xs ++ ys) later ≡ find_or xs (find_or ys later)
    find_append [] ys later = refl
    find_append (x ∷ xs) ys later = ap (λ (o : Option ℕ). cond (is_marked marks x) (Some x) o) (find_append xs ys later)

    find_is : (ns : List ℕ) → find (is_marked marks) ns ≡ find_or ns None
    find_is [] = refl
    find_is (n ∷ ns) = ap (λ (o : Option ℕ). cond (is_marked marks n) (Some n) o) (find_is ns)

    own_first : (h : Handle) (n : ℕ) (b : Bool) (hs : List Handle) (later : Option ℕ) → number_at t h ≡ Some n → first_or (cond b (h ∷ []) [] ++ hs) later ≡ cond b (Some n) (first_or hs later)
    own_first h n true hs later at = at
    own_first h n false hs later at = refl

    firsts : (scrolled : ℕ → ℕ) (p : Option Handle) (f : Forest Element) (later : Option ℕ) → Stands (node_at t) p f → FlagsAre marks f → first_or (flagged_in f) later ≡ find_or (numbers_in (listed (nodes_of scrolled f))) later
    firsts scrolled p none later stands flags = refl
    firsts scrolled p (tree h e kids rest) later stands flags =
        let at : number_at t h ≡ Some e.number = ap (λ (o : Option (TreeNode Element)). option_map (λ (v : Element). v.number) (option_map (λ (n : TreeNode Element). n.value) o)) stands.0 in
        let low = numbers_in (listed (nodes_of scrolled kids)) in
        let more = numbers_in (listed (nodes_of scrolled rest)) in
        own_first h e.number e.dirty (flagged_in kids ++ flagged_in rest) later at
        ∙ (λ i. cond (flags.0 i) (Some e.number) (first_append (flagged_in kids) (flagged_in rest) later i))
        ∙ ap (λ (o : Option ℕ). cond (is_marked marks e.number) (Some e.number) o)
        (firsts scrolled (Some h) kids (first_or (flagged_in rest) later) stands.1 flags.1
        ∙ ap (find_or low) (firsts scrolled p rest later stands.2 flags.2)
        ∙ sym (find_append low more later))

    -- it has the first marked number
    pub first_flagged : (scrolled : ℕ → ℕ) (p : Option Handle) (f : Forest Element) (h : Handle) (hs : List Handle) → Stands (node_at t) p f → FlagsAre marks f → flagged_in f ≡ h ∷ hs
        → find (is_marked marks) (numbers_in (listed (nodes_of scrolled f))) ≡ number_at t h
    first_flagged scrolled p f h hs stands flags is = find_is (numbers_in (listed (nodes_of scrolled f))) ∙ sym (firsts scrolled p f None stands flags) ∙ ap (λ (xs : List Handle). first_or xs None) is

-- ---- once it isn't flagged any more

module _ (h : Handle) where
  -- some without that one
  abbrev others : List Handle → List Handle
  others [] = []
  others (k ∷ ks) = cond (same k h) (others ks) (k ∷ others ks)

  more_others : (k : Handle) (b : Bool) (xs ys : List Handle) → cond b (xs ++ ys) (k ∷ (xs ++ ys)) ≡ cond b xs (k ∷ xs) ++ ys
  more_others k true xs ys = refl
  more_others k false xs ys = refl

  others_append : (xs ys : List Handle) → others (xs ++ ys) ≡ others xs ++ others ys
  others_append [] ys = refl
  others_append (x ∷ xs) ys = ap (λ (l : List Handle). cond (same x h) l (x ∷ l)) (others_append xs ys) ∙ more_others x (same x h) (others xs) (others ys)

  none_other : (xs : List Handle) → times h xs ≡ 0 → others xs ≡ xs
  none_other [] absent = refl
  none_other (x ∷ xs) absent = by_same (same x h) refl (none_other xs (let one = times-cons h x xs in omega (arith, one, absent)))
    where
      by_same : (b : Bool) → same x h ≡ b → others xs ≡ xs → cond b (others xs) (x ∷ others xs) ≡ x ∷ xs
      by_same true is more = absurd (let one = times-cons h x xs in let own : cond {A = ℕ} (same x h) 1 0 ≡ 1 = ap (λ b. cond {A = ℕ} b 1 0) is in omega (arith, one, own, absent))
      by_same false is more = ap (λ (l : List Handle). x ∷ l) more

  own_flag : (ws : List PlainWidget) (k : Handle) (e : Element) (b : Bool) → cond (cond b (with_given ws e) e).dirty (k ∷ []) [] ≡ cond b [] (cond e.dirty (k ∷ []) [])
  own_flag ws k e true = refl
  own_flag ws k e false = refl

  own_others : (k : Handle) (d : Bool) → others (cond d (k ∷ []) []) ≡ cond (same k h) [] (cond d (k ∷ []) [])
  own_others k true = refl
  own_others k false = by_same (same k h)
    where
      by_same : (b : Bool) → [] ≡ cond {A = List Handle} b [] []
      by_same true = refl
      by_same false = refl

  flagged_stored : (ws : List PlainWidget) (f : Forest Element) → flagged_in (stored_at h ws f) ≡ others (flagged_in f)
  flagged_stored ws none = refl
  flagged_stored ws (tree k e kids rest) =
      (λ i. (own_flag ws k e (same k h) ∙ sym (own_others k e.dirty)) i ++ (flagged_stored ws kids i ++ flagged_stored ws rest i))
      ∙ ap (λ (l : List Handle). others (cond e.dirty (k ∷ []) []) ++ l) (sym (others_append (flagged_in kids) (flagged_in rest)))
      ∙ sym (others_append (cond e.dirty (k ∷ []) []) (flagged_in kids ++ flagged_in rest))

  first_gone : (hs : List Handle) → times h hs ≡ 0 → others (h ∷ hs) ≡ hs
  first_gone hs absent = ap (λ (b : Bool). cond b (others hs) (h ∷ others hs)) (same-eq h h refl) ∙ none_other hs absent

  pub flagged_then : (ws : List PlainWidget) (hs : List Handle) (f : Forest Element) → IsDistinct f → flagged_in f ≡ h ∷ hs → flagged_in (stored_at h ws f) ≡ hs
  flagged_then ws hs f distinct is =
      let few = flagged_few h f in
      let once = distinct h in
      let one : times h (flagged_in f) ≡ times h (h ∷ hs) = ap (times h) is in
      let head = times-cons h h hs in
      let self : cond {A = ℕ} (same h h) 1 0 ≡ 1 = ap (λ b. cond {A = ℕ} b 1 0) (same-eq h h refl) in
      flagged_stored ws f ∙ ap others is ∙ first_gone hs (omega (arith, few, once, one, head, self))

-- where none is flagged
flag_gone : (h : Handle) (b : Bool) (hs : List Handle) → cond b (h ∷ []) [] ++ hs ≡ [] → (b ≡ false) × (hs ≡ [])
flag_gone h true hs e = cc
flag_gone h false hs e = (refl, e)

both_gone : (xs ys : List Handle) → xs ++ ys ≡ [] → (xs ≡ []) × (ys ≡ [])
both_gone [] ys e = (refl, e)
both_gone (x ∷ xs) ys e = cc

pub none_flagged_are : (f : Forest Element) → flagged_in f ≡ [] → FlagsAre [] f
none_flagged_are none e = tt
none_flagged_are (tree h e kids rest) is =
    let own = flag_gone h e.dirty (flagged_in kids ++ flagged_in rest) is in
    let low = both_gone (flagged_in kids) (flagged_in rest) own.1 in
    (own.0, none_flagged_are kids low.0, none_flagged_are rest low.1)
