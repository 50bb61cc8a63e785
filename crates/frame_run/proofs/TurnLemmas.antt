-- A turn over a piece of the input, byte by byte.
use Rattle.std.proofs.Common.{◌≡◌, ℕ, ◌+◌, ◌<◌, ◌≤◌, Bool, true, false, inl, inr, List, [], ◌∷◌, ◌++◌, length, drop, get_or, Option, refl, ap, sym, subst, ◌∙◌, add-one, append_assoc, append-nil, drop-cons}
use Rattle.std.proofs.lemmas.Bool.Decides.{eqb_tells}
use Rattle.std.proofs.lemmas.List.{drop_all}
use Rattle.fx_outside.specs.Told.{HasWritten, HasPart, IsSoFar}
use Rattle.fx_outside.proofs.Joined.{written_more, so_far_none, so_far_more, so_far_end, part_next, part_after, part_whole}
use Rattle.frame_run.specs.Lines.{ended_lines, last_line}
use Rattle.frame_run.specs.Text.{At, stopped, after_line, line_text, after_lines, lines_text}
use Rattle.frame_run.specs.Job.{Took, OnWhole, Gathers, Midway, at_fault}
use Rattle.frame_run.specs.declared.stage.RunStop.{RunStop}
use Rattle.frame_run.specs.declared.input.InputTurn.{InputTurn}
use Rattle.frame_run.specs.declared.input.InputTurn.TheVariants.{Goes, Stops, NoMemory, WriteFault}
use Rattle.frame_run.proofs.LinesLemmas.{after_more, text_more, last_line-append, after_lines-stopped, lines_text-stopped}

-- after a front of the whole a front of what comes next is written
so_far_into : (a b c : Option (List ℕ)) (whole tail text later rest : List ℕ) → IsSoFar a b whole tail → tail ≡ text ++ later
    → IsSoFar b c text rest → IsSoFar a c whole (rest ++ later)
so_far_into a b c whole tail text later rest s e t = record {
  front = s.front ++ t.front;
  written = written_more a b c s.front t.front s.written t.written;
  sum = s.sum ∙ ap (λ x. s.front ++ x) (e ∙ ap (λ x. x ++ later) t.sum ∙ append_assoc t.front rest later)
      ∙ sym (append_assoc s.front t.front (rest ++ later));
}

so_far_as : (a b : Option (List ℕ)) (whole rest next : List ℕ) → rest ≡ next → IsSoFar a b whole rest → IsSoFar a b whole next
so_far_as a b whole rest next e s = let P : List ℕ → Type 0 = λ r. IsSoFar a b whole r in subst P e s

-- a text is written, and then a line or a front of it
pub so_far_both : (a b c : Option (List ℕ)) (text line kept slice left : List ℕ) → kept ≡ text → slice ≡ line → left ≡ []
    → HasWritten a b kept → HasWritten b c slice → IsSoFar a c (text ++ line) left
so_far_both a b c text line kept slice left same is none v w = record {
  front = kept ++ slice;
  written = written_more a b c kept slice v w;
  sum = sym (ap (λ t. (kept ++ slice) ++ t) none ∙ append-nil (kept ++ slice) ∙ ap (λ t. t ++ slice) same ∙ ap (λ t. text ++ t) is);
}

pub part_both : (a b c : Option (List ℕ)) (text line kept slice : List ℕ) → kept ≡ text → slice ≡ line
    → HasWritten a b kept → HasPart b c slice → HasPart a c (text ++ line)
part_both a b c text line kept slice same is v p =
    let P : List ℕ → Type 0 = λ t. HasPart a c t in
    subst P (ap (λ t. t ++ slice) same ∙ ap (λ t. text ++ t) is) (part_next a b c kept slice v p)

-- ---- a piece, byte by byte

-- the next byte of a piece, and the rest of it
pub midway_at : (job : At → List ℕ → Type 0) (xs : List ℕ) (i : ℕ) (place : At) (raw : List ℕ) (a b : Option (List ℕ)) (kept text : List ℕ) → i < length xs
    → Midway job (drop i xs) place raw a b kept text → Midway job (get_or xs i 0 ∷ drop (i + 1) xs) place raw a b kept text
midway_at job xs i place raw a b kept text h m =
    let next : drop i xs ≡ get_or xs i 0 ∷ drop (i + 1) xs = rw (add-one, drop-cons xs i 0) refl in
    let P : List ℕ → Type 0 = λ r. Midway job r place raw a b kept text in subst P next m

-- what a byte comes to at any place and line
abbrev AtByte : InputTurn → (At → List ℕ → Type 0) → (At → List ℕ → Type 0) → ℕ → Option (List ℕ) → Option (List ℕ) → List ℕ → List ℕ → Type 0
AtByte result job next x b c before after = (now : At) (raw_now : List ℕ) → job now raw_now
    → Gathers result next (after_lines now (ended_lines raw_now (x ∷ []))) (last_line raw_now (x ∷ [])) b c before after (lines_text now (ended_lines raw_now (x ∷ [])))

-- what is written, gathered and still to come after a byte
after_byte : (result : InputTurn) (job next : At → List ℕ → Type 0) (x : ℕ) (rest : List ℕ) (place : At) (raw : List ℕ) (a b c : Option (List ℕ)) (before after text : List ℕ)
    → (m : Midway job (x ∷ rest) place raw a b before text) → (t : AtByte result job next x b c before after)
    → IsSoFar a c text ((after ++ (t m.now m.raw_now m.stands).rest) ++ lines_text (after_lines m.now (ended_lines m.raw_now (x ∷ []))) (ended_lines (last_line m.raw_now (x ∷ [])) rest))
after_byte result job next x rest place raw a b c before after text m took =
    let t = took m.now m.raw_now m.stands in
    let this = lines_text m.now (ended_lines m.raw_now (x ∷ [])) in
    let later = lines_text (after_lines m.now (ended_lines m.raw_now (x ∷ []))) (ended_lines (last_line m.raw_now (x ∷ [])) rest) in
    let next : before ++ lines_text m.now (ended_lines m.raw_now (x ∷ rest)) ≡ (before ++ this) ++ later =
    ap (λ t. before ++ t) (text_more m.now m.raw_now (x ∷ []) rest) ∙ sym (append_assoc before this later) in
    so_far_into a b c text (before ++ lines_text m.now (ended_lines m.raw_now (x ∷ rest))) (before ++ this) later (after ++ t.rest) m.so_far next t.so_far

-- one byte was taken, and the turn goes on
pub midway_goes : (job next : At → List ℕ → Type 0) (x : ℕ) (rest : List ℕ) (place : At) (raw : List ℕ) (a b c : Option (List ℕ)) (before after text : List ℕ)
    → Midway job (x ∷ rest) place raw a b before text → AtByte Goes job next x b c before after → Midway next rest place raw a c after text
midway_goes job next x rest place raw a b c before after text m took =
    let t = took m.now m.raw_now m.stands in
    let later = lines_text (after_lines m.now (ended_lines m.raw_now (x ∷ []))) (ended_lines (last_line m.raw_now (x ∷ [])) rest) in
    let gathered : after ++ t.rest ≡ after = ap (λ r. after ++ r) t.all ∙ append-nil after in
    record {
      now = after_lines m.now (ended_lines m.raw_now (x ∷ []));
      raw_now = last_line m.raw_now (x ∷ []);
      stands = t.lands;
      comes_to = m.comes_to ∙ after_more m.now m.raw_now (x ∷ []) rest;
      leaves = m.leaves ∙ last_line-append m.raw_now (x ∷ []) rest;
      so_far = so_far_as a c text ((after ++ t.rest) ++ later) (after ++ later) (ap (λ k. k ++ later) gathered)
          (after_byte Goes job next x rest place raw a b c before after text m took);
    }

-- one byte was taken, and the run has stopped
pub midway_stops : (job next : At → List ℕ → Type 0) (x : ℕ) (rest : List ℕ) (place : At) (raw : List ℕ) (a b c : Option (List ℕ)) (first before after text : List ℕ) (stop : RunStop)
    → Midway job (x ∷ rest) place raw a b before (first ++ text) → AtByte (Stops stop) job next x b c before after → Gathers (Stops stop) next place raw a c first after text
midway_stops job next x rest place raw a b c first before after text stop m took =
    let t = took m.now m.raw_now m.stands in
    let lines = ended_lines (last_line m.raw_now (x ∷ [])) rest in
    let later = lines_text (after_lines m.now (ended_lines m.raw_now (x ∷ []))) lines in
    let no_more : later ≡ [] = ap (λ at. lines_text at lines) t.lands ∙ lines_text-stopped stop lines in
    let left : (after ++ t.rest) ++ later ≡ after ++ [] =
    ap (λ r. (after ++ t.rest) ++ r) no_more ∙ append-nil (after ++ t.rest) ∙ ap (λ r. after ++ r) t.all in
    record {
      lands = m.comes_to ∙ after_more m.now m.raw_now (x ∷ []) rest ∙ ap (λ at. after_lines at lines) t.lands ∙ after_lines-stopped stop lines;
      rest = [];
      so_far = so_far_as a c (first ++ text) ((after ++ t.rest) ++ later) (after ++ []) left
          (after_byte (Stops stop) job next x rest place raw a b c before after (first ++ text) m took);
      all = refl;
    }

-- memory was wanting at a byte, or the sink had a fault
midway_left : (result : InputTurn) (job next : At → List ℕ → Type 0) (x : ℕ) (rest : List ℕ) (place : At) (raw : List ℕ) (a b c : Option (List ℕ)) (before after text : List ℕ)
    → Midway job (x ∷ rest) place raw a b before text → AtByte result job next x b c before after → (left : List ℕ) × IsSoFar a c text (after ++ left)
midway_left result job next x rest place raw a b c before after text m took =
    let t = took m.now m.raw_now m.stands in
    let later = lines_text (after_lines m.now (ended_lines m.raw_now (x ∷ []))) (ended_lines (last_line m.raw_now (x ∷ [])) rest) in (
      t.rest ++ later,
      so_far_as a c text ((after ++ t.rest) ++ later) (after ++ (t.rest ++ later)) (append_assoc after t.rest later)
          (after_byte result job next x rest place raw a b c before after text m took),
    )

pub midway_memory : (job next : At → List ℕ → Type 0) (x : ℕ) (rest : List ℕ) (place : At) (raw : List ℕ) (a b c : Option (List ℕ)) (first before after text : List ℕ)
    → Midway job (x ∷ rest) place raw a b before (first ++ text) → AtByte NoMemory job next x b c before after → Gathers NoMemory next place raw a c first after text
midway_memory job next x rest place raw a b c first before after text m took =
    let left = midway_left NoMemory job next x rest place raw a b c before after (first ++ text) m took in
    record { lands = tt; rest = left.0; so_far = left.1; all = tt }

pub midway_fault : (job next : At → List ℕ → Type 0) (x : ℕ) (rest : List ℕ) (place : At) (raw : List ℕ) (a b c : Option (List ℕ)) (first before after text : List ℕ)
    → Midway job (x ∷ rest) place raw a b before (first ++ text) → AtByte WriteFault job next x b c before after → Gathers WriteFault next place raw a c first after text
midway_fault job next x rest place raw a b c first before after text m took =
    let left = midway_left WriteFault job next x rest place raw a b c before after (first ++ text) m took in
    record { lands = tt; rest = left.0; so_far = left.1; all = tt }

-- after the last byte
midway_end : (job : At → List ℕ → Type 0) (place : At) (raw : List ℕ) (a b : Option (List ℕ)) (first after text : List ℕ)
    → Midway job [] place raw a b after (first ++ text) → Gathers Goes job place raw a b first after text
midway_end job place raw a b first after text m =
    let P : At → Type 0 = λ at. job at raw in
    let Q : List ℕ → Type 0 = λ r. job m.now r in
    record { lands = subst P (sym m.comes_to) (subst Q (sym m.leaves) m.stands); rest = []; so_far = m.so_far; all = refl }

pub midway_all : (job : At → List ℕ → Type 0) (xs : List ℕ) (i : ℕ) (place : At) (raw : List ℕ) (a b : Option (List ℕ)) (first after text : List ℕ) → length xs ≤ i
    → Midway job (drop i xs) place raw a b after (first ++ text) → Gathers Goes job place raw a b first after text
midway_all job xs i place raw a b first after text h m =
    let P : List ℕ → Type 0 = λ r. Midway job r place raw a b after (first ++ text) in midway_end job place raw a b first after text (subst P (drop_all i xs h) m)

-- ---- a line that has ended

-- its text was gathered or written
pub line_goes : (job : At → List ℕ → Type 0) (place : At) (raw : List ℕ) (old new : Option (List ℕ)) (before after text line : List ℕ)
    → job place raw → line ≡ text → IsSoFar old new (before ++ line) after → Gathers Goes job place raw old new before after text
line_goes job place raw old new before after text line stands same so_far =
    let P : List ℕ → Type 0 = λ t. IsSoFar old new (before ++ t) (after ++ []) in
    record { lands = stands; rest = []; so_far = subst P same (so_far_as old new (before ++ line) after (after ++ []) (sym (append-nil after)) so_far); all = refl }

pub line_stops : (job : At → List ℕ → Type 0) (place : At) (raw : List ℕ) (old new : Option (List ℕ)) (before after text line : List ℕ) (stop : RunStop)
    → place ≡ stopped stop → line ≡ text → IsSoFar old new (before ++ line) after → Gathers (Stops stop) job place raw old new before after text
line_stops job place raw old new before after text line stop halt same so_far =
    let P : List ℕ → Type 0 = λ t. IsSoFar old new (before ++ t) (after ++ []) in
    record { lands = halt; rest = []; so_far = subst P same (so_far_as old new (before ++ line) after (after ++ []) (sym (append-nil after)) so_far); all = refl }

-- a front of it was written, and nothing is gathered
line_left : (old new : Option (List ℕ)) (before after text line : List ℕ) → line ≡ text → after ≡ [] → HasPart old new (before ++ line)
    → (left : List ℕ) × IsSoFar old new (before ++ text) (after ++ left)
line_left old new before after text line same none p =
    let P : List ℕ → Type 0 = λ t. IsSoFar old new (before ++ t) (after ++ p.more) in
    let left : IsSoFar old new (before ++ line) p.more = record { front = p.front; written = p.written; sum = p.whole } in
    (p.more, subst P same (so_far_as old new (before ++ line) p.more (after ++ p.more) (ap (λ a. a ++ p.more) (sym none)) left))

pub line_memory : (job : At → List ℕ → Type 0) (place : At) (raw : List ℕ) (old new : Option (List ℕ)) (before after text line : List ℕ)
    → line ≡ text → after ≡ [] → HasPart old new (before ++ line) → Gathers NoMemory job place raw old new before after text
line_memory job place raw old new before after text line same none p =
    let left = line_left old new before after text line same none p in record { lands = tt; rest = left.0; so_far = left.1; all = tt }

pub line_fault : (job : At → List ℕ → Type 0) (place : At) (raw : List ℕ) (old new : Option (List ℕ)) (before after text line : List ℕ)
    → line ≡ text → after ≡ [] → HasPart old new (before ++ line) → Gathers WriteFault job place raw old new before after text
line_fault job place raw old new before after text line same none p =
    let left = line_left old new before after text line same none p in record { lands = tt; rest = left.0; so_far = left.1; all = tt }

-- there was no memory for it
pub line_none : (job : At → List ℕ → Type 0) (place : At) (raw : List ℕ) (held : Option (List ℕ)) (before text : List ℕ)
    → Gathers NoMemory job place raw held held before before text
line_none job place raw held before text = record { lands = tt; rest = text; so_far = so_far_none held (before ++ text); all = tt }

-- ---- a byte

-- one that ends the line
pub byte_ends : (result : InputTurn) (job : At → List ℕ → Type 0) (byte : ℕ) (place : At) (raw : List ℕ) (old new : Option (List ℕ)) (before after : List ℕ) → byte ≡ 10
    → Gathers result job (after_line place raw) [] old new before after (line_text place raw)
    → Gathers result job (after_lines place (ended_lines raw (byte ∷ []))) (last_line raw (byte ∷ [])) old new before after (lines_text place (ended_lines raw (byte ∷ [])))
byte_ends result job byte place raw old new before after e took =
    let G : Bool → Type 0 = λ v. Gathers result job (after_lines place (elim v [ true ↦ raw ∷ [] | false ↦ [] ])) (elim v [ true ↦ [] | false ↦ raw ++ byte ∷ [] ])
    old new before after (lines_text place (elim v [ true ↦ raw ∷ [] | false ↦ [] ])) in
    let P : List ℕ → Type 0 = λ t. Gathers result job (after_line place raw) [] old new before after t in
    let line : G true = subst P (sym (append-nil (line_text place raw))) took in
    elim (eqb_tells byte 10) [ inl t ↦ subst G (sym t.0) line | inr t ↦ absurd (t.1 e) ]

-- and one within it
pub byte_goes : (job : At → List ℕ → Type 0) (byte : ℕ) (place : At) (raw : List ℕ) (held : Option (List ℕ)) (before : List ℕ) → (byte ≡ 10 → ⊥)
    → job place (raw ++ byte ∷ [])
    → Gathers Goes job (after_lines place (ended_lines raw (byte ∷ []))) (last_line raw (byte ∷ [])) held held before before (lines_text place (ended_lines raw (byte ∷ [])))
byte_goes job byte place raw held before e stands =
    let G : Bool → Type 0 = λ v. Gathers Goes job (after_lines place (elim v [ true ↦ raw ∷ [] | false ↦ [] ])) (elim v [ true ↦ [] | false ↦ raw ++ byte ∷ [] ])
    held held before before (lines_text place (elim v [ true ↦ raw ∷ [] | false ↦ [] ])) in
    let on : G false = record { lands = stands; rest = []; so_far = so_far_none held (before ++ []); all = refl } in
    elim (eqb_tells byte 10) [ inl t ↦ absurd (e t.1) | inr t ↦ subst G (sym t.0) on ]

-- ---- the end of a piece, where what is gathered is written

-- nothing was gathered before it
from_nothing : (result : InputTurn) (job : At → List ℕ → Type 0) (place : At) (raw : List ℕ) (a b : Option (List ℕ)) (first kept text : List ℕ) → first ≡ []
    → (t : Gathers result job place raw a b first kept text) → IsSoFar a b text (kept ++ t.rest)
from_nothing result job place raw a b first kept text none t =
    let P : List ℕ → Type 0 = λ f. IsSoFar a b (f ++ text) (kept ++ t.rest) in subst P none t.so_far

OnWhole-map : (result : InputTurn) (P Q : Type 0) → (P → Q) → OnWhole result P → OnWhole result Q
OnWhole-map Goes P Q f h = f h
OnWhole-map (Stops stop) P Q f h = f h
OnWhole-map NoMemory P Q f h = tt
OnWhole-map WriteFault P Q f h = tt

-- all of it is written
pub turn_written : (result : InputTurn) (job : At → List ℕ → Type 0) (place : At) (raw : List ℕ) (a b c : Option (List ℕ)) (first kept text : List ℕ) → first ≡ []
    → Gathers result job place raw a b first kept text → HasWritten b c kept → Took result job place raw a c text
turn_written result job place raw a b c first kept text none t w =
    let here : IsSoFar a b text (kept ++ t.rest) = from_nothing result job place raw a b first kept text none t in
    let there : IsSoFar a c text t.rest = so_far_more a b c text (kept ++ t.rest) kept t.rest here refl w in
    let whole : t.rest ≡ [] → HasWritten a c text = λ e. so_far_end a c text (so_far_as a c text t.rest [] e there) in
    record {
      lands = t.lands;
      all = OnWhole-map result (t.rest ≡ []) (HasWritten a c text) whole t.all;
      part = part_after a b c text (kept ++ t.rest) kept t.rest here refl (part_whole b c kept w);
    }

-- a front of it is written
turn_part : (result : InputTurn) (job : At → List ℕ → Type 0) (place : At) (raw : List ℕ) (a b c : Option (List ℕ)) (first kept text : List ℕ) → first ≡ []
    → Gathers result job place raw a b first kept text → HasPart b c kept → HasPart a c text
turn_part result job place raw a b c first kept text none t p =
    part_after a b c text (kept ++ t.rest) kept t.rest (from_nothing result job place raw a b first kept text none t) refl p

pub turn_memory : (result : InputTurn) (job : At → List ℕ → Type 0) (place : At) (raw : List ℕ) (a b c : Option (List ℕ)) (first kept text : List ℕ) → first ≡ []
    → Gathers result job place raw a b first kept text → HasPart b c kept → Took NoMemory job place raw a c text
turn_memory result job place raw a b c first kept text none t p =
    record { lands = tt; all = tt; part = turn_part result job place raw a b c first kept text none t p }

pub turn_fault : (result : InputTurn) (job : At → List ℕ → Type 0) (place : At) (raw : List ℕ) (a b c : Option (List ℕ)) (first kept text : List ℕ) → first ≡ []
    → Gathers result job place raw a b first kept text → HasPart b c kept → Took (at_fault result) job place raw a c text
turn_fault Goes job place raw a b c first kept text none t p =
    record { lands = tt; all = tt; part = turn_part Goes job place raw a b c first kept text none t p }
turn_fault (Stops stop) job place raw a b c first kept text none t p =
    record { lands = tt; all = tt; part = turn_part (Stops stop) job place raw a b c first kept text none t p }
turn_fault NoMemory job place raw a b c first kept text none t p =
    record { lands = tt; all = tt; part = turn_part NoMemory job place raw a b c first kept text none t p }
turn_fault WriteFault job place raw a b c first kept text none t p =
    record { lands = tt; all = tt; part = turn_part WriteFault job place raw a b c first kept text none t p }

pub took_as : (result turn : InputTurn) (job : At → List ℕ → Type 0) (place : At) (raw : List ℕ) (old new : Option (List ℕ)) (text : List ℕ) → result ≡ turn
    → Took turn job place raw old new text → Took result job place raw old new text
took_as result turn job place raw old new text e took =
    let P : InputTurn → Type 0 = λ t. Took t job place raw old new text in subst P (sym e) took
