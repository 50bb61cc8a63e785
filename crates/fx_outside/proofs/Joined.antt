-- What two reads or two writes, one after the other, come to.
use Rattle.std.proofs.Common.{◌≡◌, ℕ, List, [], ◌++◌, Option, Some, None, option_map, take, drop, refl, ap, sym, subst, ◌∙◌, append_assoc, append-nil}
use Rattle.std.proofs.lemmas.List.{take-append-drop}
use Rattle.fx_outside.specs.Told.{HasRead, HasWritten, HasPart, IsSoFar}

pub written_none : (a : Option (List ℕ)) → HasWritten a a []
written_none None = refl
written_none (Some h) = ap Some (sym (append-nil h))

pub written_more : (a b c : Option (List ℕ)) (v w : List ℕ) → HasWritten a b v → HasWritten b c w → HasWritten a c (v ++ w)
written_more None b c v w p q = q ∙ ap (option_map (λ h. h ++ w)) p
written_more (Some h) b c v w p q = q ∙ ap (option_map (λ h. h ++ w)) p ∙ ap Some (append_assoc h v w)

pub read_none : (a : Option (List ℕ)) → HasRead a a []
read_none None = refl
read_none (Some x) = refl

pub read_more : (a b c : Option (List ℕ)) (r s : List ℕ) → HasRead a b r → HasRead b c s → HasRead a c (r ++ s)
read_more a b None r s p q = p ∙ ap (option_map (λ x. r ++ x)) q
read_more a b (Some x) r s p q = p ∙ ap (option_map (λ x. r ++ x)) q ∙ ap Some (sym (append_assoc r s x))

pub part_of_front : (a b : Option (List ℕ)) (text : List ℕ) (n : ℕ) → HasWritten a b (take n text) → HasPart a b text
part_of_front a b text n h = record { front = take n text; more = drop n text; written = h; whole = sym (take-append-drop n text) }

pub part_none : (a b : Option (List ℕ)) (text : List ℕ) → b ≡ a → HasPart a b text
part_none a b text e = record { front = []; more = text; written = e ∙ written_none a; whole = refl }

pub part_whole : (a b : Option (List ℕ)) (text : List ℕ) → HasWritten a b text → HasPart a b text
part_whole a b text h = record { front = text; more = []; written = h; whole = sym (append-nil text) }

pub part_next : (a b c : Option (List ℕ)) (v w : List ℕ) → HasWritten a b v → HasPart b c w → HasPart a c (v ++ w)
part_next a b c v w p q = record {
  front = v ++ q.front;
  more = q.more;
  written = written_more a b c v q.front p q.written;
  whole = ap (λ t. v ++ t) q.whole ∙ sym (append_assoc v q.front q.more);
}

pub part_longer : (a b : Option (List ℕ)) (v w t : List ℕ) → HasPart a b v → t ≡ v ++ w → HasPart a b t
part_longer a b v w t p e = record {
  front = p.front;
  more = p.more ++ w;
  written = p.written;
  whole = e ∙ ap (λ x. x ++ w) p.whole ∙ append_assoc p.front p.more w;
}

pub so_far_none : (a : Option (List ℕ)) (whole : List ℕ) → IsSoFar a a whole whole
so_far_none a whole = record { front = []; written = written_none a; sum = refl }

pub so_far_more : (a b c : Option (List ℕ)) (whole tail text rest : List ℕ) → IsSoFar a b whole tail → tail ≡ text ++ rest
    → HasWritten b c text → IsSoFar a c whole rest
so_far_more a b c whole tail text rest s e w = record {
  front = s.front ++ text;
  written = written_more a b c s.front text s.written w;
  sum = s.sum ∙ ap (λ t. s.front ++ t) e ∙ sym (append_assoc s.front text rest);
}

pub so_far_end : (a b : Option (List ℕ)) (whole : List ℕ) → IsSoFar a b whole [] → HasWritten a b whole
so_far_end a b whole s =
    let P : List ℕ → Type 0 = λ t. HasWritten a b t in subst P (sym (s.sum ∙ append-nil s.front)) s.written

pub so_far_part : (a b : Option (List ℕ)) (whole rest : List ℕ) → IsSoFar a b whole rest → HasPart a b whole
so_far_part a b whole rest s = record { front = s.front; more = rest; written = s.written; whole = s.sum }

pub part_after : (a b c : Option (List ℕ)) (whole tail text rest : List ℕ) → IsSoFar a b whole tail → tail ≡ text ++ rest
    → HasPart b c text → HasPart a c whole
part_after a b c whole tail text rest s e p = record {
  front = s.front ++ p.front;
  more = p.more ++ rest;
  written = written_more a b c s.front p.front s.written p.written;
  whole = s.sum ∙ ap (λ t. s.front ++ t) (e ∙ ap (λ t. t ++ rest) p.whole ∙ append_assoc p.front p.more rest)
      ∙ sym (append_assoc s.front p.front (p.more ++ rest));
}
