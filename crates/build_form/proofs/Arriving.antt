-- The child widgets of a node so far, with what each is matched to.
use Rattle.std.proofs.Common.{◌≡◌, ℕ, suc, ◌+◌, ◌<◌, Option, List, [], ◌∷◌, ◌++◌, length, map, drop, drop-cons, get_or, sym, ap, ◌∙◌, arith}
use Rattle.std.specs.declared.rc.Rc.{Rc}
use Rattle.std.specs.declared.alloc.Global.{Global}
use Rattle.std.proofs.lemmas.List.{append_assoc, get_or-map, length-map, map-append}
use Rattle.widget_model.specs.declared.widgets.Widget.{Widget}
use Rattle.widget_model.specs.View.{shared}
use Rattle.reconcile.specs.Matching.{matching}
use Rattle.reconcile.proofs.LawLemmas.{length-matching}
use Rattle.plain_tree.specs.PlainNode.{PlainNode}
use Rattle.build_form.specs.Partner.{Arrival, arrival, node_at_any, arrivals_from}

-- as many answers as widgets
pub matched_len : (rs ss : List (Rc Widget Global)) (ms : List (Option ℕ)) → ms ≡ matching (map shared rs) (map shared ss) → length ms ≡ length ss
matched_len rs ss ms e = ap length e ∙ length-matching (map shared rs) (map shared ss) ∙ simp length-map

-- a widget more
pub arrived_more : (nodes : List PlainNode) (rs : List (Rc Widget Global)) (ms : List (Option ℕ)) (i : ℕ) (old new whole : List Arrival) (r : Rc Widget Global) (m : Option ℕ) (a : Arrival)
    → i < length rs → i < length ms → r ≡ get_or rs i r → m ≡ get_or ms i m → a ≡ arrival (shared r) i (node_at_any nodes m) → new ≡ old ++ a ∷ []
    → old ++ arrivals_from nodes i (drop i (map shared rs)) (drop i ms) ≡ whole
    → new ++ arrivals_from nodes (i + 1) (drop (i + 1) (map shared rs)) (drop (i + 1) ms) ≡ whole
arrived_more nodes rs ms i old new whole r m a in_rs in_ms at_r at_m is_a is_new so_far =
    let next : suc i ≡ i + 1 = omega arith in
    let ws = map shared rs in
    let in_ws : i < length ws = rw length-map in_rs in
    let w_is : get_or ws i (shared r) ≡ shared r = get_or-map shared rs i r (shared r) in_rs ∙ ap shared (sym at_r) in
    let ws_is : drop i ws ≡ shared r ∷ drop (suc i) ws = drop-cons ws i (shared r) in_ws ∙ ap (λ w. w ∷ drop (suc i) ws) w_is in
    let ms_is : drop i ms ≡ m ∷ drop (suc i) ms = drop-cons ms i m in_ms ∙ ap (λ x. x ∷ drop (suc i) ms) (sym at_m) in
    let rest = arrivals_from nodes (suc i) (drop (suc i) ws) (drop (suc i) ms) in
    ap (λ k. new ++ arrivals_from nodes k (drop k ws) (drop k ms)) (sym next)
    ∙ ap (λ l. l ++ rest) is_new
    ∙ append_assoc old (a ∷ []) rest
    ∙ ap (λ b. old ++ (b ∷ rest)) is_a
    ∙ sym (ap (λ l. old ++ arrivals_from nodes i l (m ∷ drop (suc i) ms)) ws_is)
    ∙ sym (ap (λ l. old ++ arrivals_from nodes i (drop i ws) l) ms_is)
    ∙ so_far

pub pushed : {A B : Type 0} (f : A → B) (xs ys : List A) (x : A) (y : B) → ys ≡ xs ++ x ∷ [] → f x ≡ y → map f ys ≡ map f xs ++ y ∷ []
pushed f xs ys x y e d = ap (map f) e ∙ map-append f xs (x ∷ []) ∙ ap (λ z. map f xs ++ z ∷ []) d
