-- A paragraph has only one list of lines at a limit.
use Rattle.std.proofs.Common.{◌≡◌, ℕ, ◌<◌, ◌⊎◌, inl, inr, arith, Bool, true, false, List, [], ◌∷◌, ◌++◌, take, drop, Option, ap, ap₂, sym, ◌∙◌, subst}
use Rattle.text_cells.specs.Cluster.{Cluster, Paragraph, width}
use Rattle.text_cells.specs.Line.{fits, IsFit, IsAfterSpace, IsBreak, IsLine, AreLines}
use Rattle.text_cells.specs.Wrapping.{lines_of, AreWrapped}
use Rattle.text_cells.specs.declared.line.Line.{Line}

not_both : (b : Bool) → b ≡ true → b ≡ false → ⊥
not_both b t f = let e : true ≡ false = sym t ∙ f in cc

-- equal, where neither is less
pub equal_from : (m n : ℕ) → (m < n → ⊥) → (n < m → ⊥) → m ≡ n
equal_from m n a b = omega arith

fit_not_less : (limit : Option ℕ) (left : List Cluster) (m n : ℕ) → IsFit limit left m → IsFit limit left n → m < n → ⊥
fit_not_less limit left m n a b less = by_fit b.fit
  where
    by_fit : (fits limit (width (take n left)) ≡ true) ⊎ (n ≡ 1) → ⊥
    by_fit (inl fit) = not_both _ fit (a.most n less b.there)
    by_fit (inr one) = let some = a.some in omega arith

pub fit_only : (limit : Option ℕ) (left : List Cluster) (m n : ℕ) → IsFit limit left m → IsFit limit left n → m ≡ n
fit_only limit left m n a b = equal_from m n (fit_not_less limit left m n a b) (fit_not_less limit left n m b a)

after_not_less : (left : List Cluster) (n p q : ℕ) → IsAfterSpace left n p → IsAfterSpace left n q → p < q → ⊥
after_not_less left n p q a b less = not_both _ b.space (a.last q less b.within)

pub break_only : (left : List Cluster) (n p q : ℕ) → IsBreak left n p → IsBreak left n q → p ≡ q
break_only left n p q (inl a) (inl b) = equal_from p q (after_not_less left n p q a b) (after_not_less left n q p b a)
break_only left n p q (inl a) (inr b) = absurd (not_both _ a.space (b.0.none p a.some a.within))
break_only left n p q (inr a) (inl b) = absurd (not_both _ b.space (a.0.none q b.some b.within))
break_only left n p q (inr a) (inr b) = a.1 ∙ sym b.1

pub line_only : (limit : Option ℕ) (left : List Cluster) (m n : ℕ) → IsLine limit left m → IsLine limit left n → m ≡ n
line_only limit left m n (inl a) (inl b) = a.1 ∙ sym b.1
line_only limit left m n (inl a) (inr b) = absurd (not_both _ a.0 b.0)
line_only limit left m n (inr a) (inl b) = absurd (not_both _ b.0 a.0)
line_only limit left m n (inr a) (inr b) =
    let same : a.1.0 ≡ b.1.0 = fit_only limit left _ _ a.1.1 b.1.1 in
    break_only left b.1.0 m n (let P : ℕ → Type 0 = λ k. IsBreak left k m in subst P same a.1.2) b.1.2

pub lines_only : (limit : Option ℕ) (left : List Cluster) (ms ns : List ℕ) → AreLines limit left ms → AreLines limit left ns → ms ≡ ns
lines_only limit left [] ns a b = absurd a
lines_only limit left (m ∷ ms) [] a b = absurd b
lines_only limit left (m ∷ []) (n ∷ []) a b = ap (λ k. k ∷ []) (line_only limit left m n a.0 b.0)
lines_only limit left (m ∷ []) (n ∷ n2 ∷ ns) a b =
    absurd (let same = line_only limit left m n a.0 b.0 in let whole = a.1 in let less = b.1 in omega arith)
lines_only limit left (m ∷ m2 ∷ ms) (n ∷ []) a b =
    absurd (let same = line_only limit left m n a.0 b.0 in let whole = b.1 in let less = a.1 in omega arith)
lines_only limit left (m ∷ m2 ∷ ms) (n ∷ n2 ∷ ns) a b =
    let same : m ≡ n = line_only limit left m n a.0 b.0 in
    let rest : AreLines limit (drop n left) (m2 ∷ ms) = let P : ℕ → Type 0 = λ k. AreLines limit (drop k left) (m2 ∷ ms) in subst P same a.2 in
    ap₂ (λ k ks. k ∷ ks) same (lines_only limit (drop n left) (m2 ∷ ms) (n2 ∷ ns) rest b.2)

-- a text has only one list of lines at a limit
pub wrapping_only : (limit : Option ℕ) (ps : List Paragraph) (xs ys : List Line) → AreWrapped limit ps xs → AreWrapped limit ps ys → xs ≡ ys
wrapping_only limit [] xs ys a b = a ∙ sym b
wrapping_only limit (p ∷ ps) xs ys (ms, rest_x, lines_x, is_x, more_x) (ns, rest_y, lines_y, is_y, more_y) =
    let counts : ms ≡ ns = lines_only limit p.clusters ms ns lines_x lines_y in
    let rest : rest_x ≡ rest_y = wrapping_only limit ps rest_x rest_y more_x more_y in
    is_x ∙ ap₂ (λ cs r. lines_of p.start p.clusters cs ++ r) counts rest ∙ sym is_y
