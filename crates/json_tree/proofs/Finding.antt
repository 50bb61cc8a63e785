-- A search of an object's members, one by one.
use Rattle.std.proofs.Common.{◌≡◌, ℕ, ◌+◌, ◌<◌, List, ◌∷◌, length, drop, get_or, Option, Some, Ordering, Less, Equal, Greater, nat_cmp, is_eq, cond, bytes_eq, refl, sym, ap, ◌∙◌}
use Rattle.std.proofs.lemmas.List.{at_drop_more}
use Rattle.std.proofs.lemmas.Map.Text.{is_eq-slice_cmp}
use Rattle.std.specs.Cmp.Lexicographic.{slice_cmp}
use Rattle.std.specs.Ordering.{match_ordering}
use Rattle.serde_json.specs.Data.{Data, Members, member}
use Rattle.serde_json.specs.Find.{get_member}
use Rattle.json_tree.specs.View.{view, members_view}
use Rattle.json_tree.proofs.Views.{Entry}

tied_or : (o : Ordering) (a b : Option Data) → match_ordering o a b a ≡ cond (is_eq o) b a
tied_or Less a b = refl
tied_or Equal a b = refl
tied_or Greater a b = refl

get_member-first : (name l : List ℕ) (d : Data) (ms : Members) → get_member name (member l d ms) ≡ cond (bytes_eq name l) (Some d) (get_member name ms)
get_member-first name l d ms = tied_or (slice_cmp nat_cmp name l) _ _ ∙ ap (λ b. cond b (Some d) (get_member name ms)) (is_eq-slice_cmp name l)

-- the search at place i
pub find_at : (name : List ℕ) (es : List Entry) (i : ℕ) (e : Entry) → i < length es → e ≡ get_or es i e
    → get_member name (members_view (drop i es)) ≡ cond (bytes_eq name e.0.now) (Some (view e.1)) (get_member name (members_view (drop (i + 1) es)))
find_at name es i e less is =
    at_drop_more (λ xs. get_member name (members_view xs)) es i e less ∙ ap (λ x. get_member name (members_view (x ∷ drop (i + 1) es))) (sym is)
    ∙ get_member-first name e.0.now (view e.1) (members_view (drop (i + 1) es))
