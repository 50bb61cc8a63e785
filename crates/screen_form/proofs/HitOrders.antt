-- Hit paths have numbers of laid nodes from the last in preorder to the first.
use Rattle.std.proofs.Common.{◌≡◌, ℕ, Bool, true, false, inr, List, [], ◌∷◌, ◌++◌, reverse, map, refl, sym, ap, subst, ◌∙◌}
use Rattle.std.proofs.lemmas.List.{append-nil, reverse-append, map-append}
use Rattle.fx_geom.specs.declared.shapes.Offset.{Offset}
use Rattle.fx_geom.specs.Offset.{contains}
use Rattle.widget_model.specs.Look.{Look}
use Rattle.plain_tree.specs.declared.laid.Facts.{Facts}
use Rattle.plain_tree.specs.Laid.{Laid, laid, Laids, no_laids, more_laids}
use Rattle.plain_tree.specs.Laws.{laid_numbers_of, laid_numbers_in, IsLeftOf, DiffersFrom, AllDiffer}
use Rattle.plain_tree.specs.Shown.{shown_size}
use Rattle.screen_form.specs.declared.hit_role.HitRole.{HitRole}
use Rattle.screen_form.specs.declared.hit_role.HitRole.TheVariants.{Ignores, Absorbs, Opaque, Translucent, Defers}
use Rattle.screen_form.specs.HitRole.{hit_role}
use Rattle.screen_form.specs.Hits.{Hit, hit_by, deferring, or_else, asked, asked_last, relative_to, number_of, hits_of}
use Rattle.plain_tree.proofs.Numbers.{left_nothing, left_both, all_left}

left_more : (xs ys vs : List ℕ) → IsLeftOf xs ys → IsLeftOf xs (ys ++ vs)
left_more xs ys vs h = subst (λ l. IsLeftOf l (ys ++ vs)) (append-nil xs) (left_both xs ys [] vs h (left_nothing vs))

left_same : (y : ℕ) → IsLeftOf (y ∷ []) (y ∷ [])
left_same y = inr ([], refl, refl)

reverse_first : (x : ℕ) (xs : List ℕ) → reverse (x ∷ xs) ≡ reverse xs ++ x ∷ []
reverse_first x xs = reverse-append (x ∷ []) xs

-- the numbers that a hit added
abbrev added : Hit → List ℕ
added h = map number_of h.added

-- one node: its number comes after those below it
with_node : (n : ℕ) (look : Look) (facts : Facts) (cs : Laids) (ls : List Laid) (ns : List ℕ) → IsLeftOf (map number_of ls) (reverse ns)
    → IsLeftOf (map number_of (ls ++ laid n look facts cs ∷ [])) (reverse (n ∷ ns))
with_node n look facts cs ls ns below =
    subst (λ l. IsLeftOf l (reverse (n ∷ ns))) (sym (map-append number_of ls (laid n look facts cs ∷ [])))
    (subst (λ l. IsLeftOf (map number_of ls ++ n ∷ []) l) (sym (reverse_first n ns)) (left_both (map number_of ls) (reverse ns) (n ∷ []) (n ∷ []) below (left_same n)))

without_node : (n : ℕ) (ls : List Laid) (ns : List ℕ) → IsLeftOf (map number_of ls) (reverse ns) → IsLeftOf (map number_of ls) (reverse (n ∷ ns))
without_node n ls ns below =
    subst (λ l. IsLeftOf (map number_of ls) l) (sym (reverse_first n ns)) (left_more (map number_of ls) (reverse ns) (n ∷ []) below)

deferred_left : (answer : Bool) (n : ℕ) (look : Look) (facts : Facts) (cs : Laids) (ls : List Laid) (ns : List ℕ) → IsLeftOf (map number_of ls) (reverse ns)
    → IsLeftOf (added (deferring (laid n look facts cs) (record { answer = answer; added = ls }))) (reverse (n ∷ ns))
deferred_left true n look facts cs ls ns below = with_node n look facts cs ls ns below
deferred_left false n look facts cs ls ns below = without_node n ls ns below

node_left : (m : HitRole) (inside : Bool) (n : ℕ) (look : Look) (facts : Facts) (cs : Laids) (below : Hit) (ns : List ℕ) → IsLeftOf (added below) (reverse ns)
    → IsLeftOf (added (hit_by m inside (laid n look facts cs) below)) (reverse (n ∷ ns))
node_left Ignores inside n look facts cs below ns h = left_nothing (reverse (n ∷ ns))
node_left Absorbs true n look facts cs below ns h = left_nothing (reverse (n ∷ ns))
node_left Absorbs false n look facts cs below ns h = left_nothing (reverse (n ∷ ns))
node_left Opaque true n look facts cs below ns h = with_node n look facts cs below.added ns h
node_left Opaque false n look facts cs below ns h = left_nothing (reverse (n ∷ ns))
node_left Translucent true n look facts cs below ns h = with_node n look facts cs below.added ns h
node_left Translucent false n look facts cs below ns h = left_nothing (reverse (n ∷ ns))
node_left Defers true n look facts cs below ns h = deferred_left below.answer n look facts cs below.added ns h
node_left Defers false n look facts cs below ns h = left_nothing (reverse (n ∷ ns))

-- two: what is asked first stands last in preorder
two_left : (answer : Bool) (ls : List Laid) (second : Hit) (ns ms : List ℕ) → IsLeftOf (map number_of ls) (reverse ms) → IsLeftOf (added second) (reverse ns)
    → IsLeftOf (added (or_else (record { answer = answer; added = ls }) second)) (reverse (ns ++ ms))
two_left true ls second ns ms h k =
    subst (λ l. IsLeftOf (map number_of ls) l) (sym (reverse-append ns ms)) (left_more (map number_of ls) (reverse ms) (reverse ns) h)
two_left false ls second ns ms h k =
    subst (λ l. IsLeftOf l (reverse (ns ++ ms))) (sym (map-append number_of ls second.added))
    (subst (λ l. IsLeftOf (map number_of ls ++ added second) l) (sym (reverse-append ns ms)) (left_both (map number_of ls) (reverse ms) (added second) (reverse ns) h k))

mutual
  unfolding asked

  pub order : (l : Laid) (p : Offset) → IsLeftOf (hits_of l p) (reverse (laid_numbers_of l))
  order (laid n look facts cs) p =
      node_left (hit_role look facts.plugged) (contains (shown_size facts.frame) p) n look facts cs (asked_last cs p) (laid_numbers_in cs) (order_in cs p)

  order_in : (ls : Laids) (p : Offset) → IsLeftOf (added (asked_last ls p)) (reverse (laid_numbers_in ls))
  order_in no_laids p = refl
  order_in (more_laids at l ls) p =
      two_left (asked_last ls p).answer (asked_last ls p).added (asked l (relative_to p at)) (laid_numbers_of l) (laid_numbers_in ls)
      (order_in ls p) (order l (relative_to p at))

differs_both : (x : ℕ) (xs ys : List ℕ) → DiffersFrom x xs → DiffersFrom x ys → DiffersFrom x (xs ++ ys)
differs_both x [] ys h k = k
differs_both x (z ∷ zs) ys h k = (h.0, differs_both x zs ys h.1 k)

differs_back : (x : ℕ) (xs : List ℕ) → DiffersFrom x xs → DiffersFrom x (reverse xs)
differs_back x [] h = tt
differs_back x (y ∷ ys) h = subst (DiffersFrom x) (sym (reverse_first y ys)) (differs_both x (reverse ys) (y ∷ []) (differs_back x ys h.1) (h.0, tt))

all_with : (xs : List ℕ) (y : ℕ) → AllDiffer xs → DiffersFrom y xs → AllDiffer (xs ++ y ∷ [])
all_with [] y h d = (tt, tt)
all_with (x ∷ xs) y h d = (differs_both x xs (y ∷ []) h.0 (λ e. d.0 (sym e), tt), all_with xs y h.1 d.1)

all_back : (xs : List ℕ) → AllDiffer xs → AllDiffer (reverse xs)
all_back [] h = tt
all_back (x ∷ xs) h = subst AllDiffer (sym (reverse_first x xs)) (all_with (reverse xs) x (all_back xs h.1) (differs_back x xs h.0))

pub once : (l : Laid) (p : Offset) → AllDiffer (laid_numbers_of l) → AllDiffer (hits_of l p)
once l p h = all_left (hits_of l p) (reverse (laid_numbers_of l)) (order l p) (all_back (laid_numbers_of l) h)

-- nothing is added where the point lies outside
outside : (m : HitRole) (node : Laid) (below : Hit) → (hit_by m false node below).added ≡ []
outside Ignores node below = refl
outside Absorbs node below = refl
outside Opaque node below = refl
outside Translucent node below = refl
outside Defers node below = refl

pub nothing : (n : ℕ) (look : Look) (facts : Facts) (cs : Laids) (p : Offset) → contains (shown_size facts.frame) p ≡ false → hits_of (laid n look facts cs) p ≡ []
unfolding asked
nothing n look facts cs p out =
    ap (λ t. map number_of (hit_by (hit_role look facts.plugged) t (laid n look facts cs) (asked_last cs p)).added) out
    ∙ ap (map number_of) (outside (hit_role look facts.plugged) (laid n look facts cs) (asked_last cs p))
