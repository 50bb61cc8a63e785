-- The work of lines that come one after the other, and of bytes that were taken.
use Rattle.std.proofs.Common.{◌≡◌, ℕ, ◌+◌, ◌-◌, ◌<◌, ◌≤◌, true, false, inl, inr, List, [], ◌∷◌, ◌++◌, length, take, drop, get_or, refl, ap, sym, subst, ◌∙◌, add-one, arith, if◌then◌else◌, nat_le}
use Rattle.std.proofs.lemmas.Bool.Decides.{eqb_tells}
use Rattle.std.proofs.lemmas.List.{take-append-drop}
use Rattle.std.proofs.Math.Seq.{take-suc}
use Rattle.work_sets.specs.Before.{Frames}
use Rattle.work_sets.specs.Work.{Work}
use Rattle.counted_work.specs.Known.{no_frames}
use Rattle.frame_run.specs.Lines.{ended_lines, last_line}
use Rattle.frame_run.specs.Text.{At, start, after_line, after_lines}
use Rattle.frame_run.specs.Words.{Task}
use Rattle.frame_run.specs.Work.{no_work, more_work, line_work, frames_by, frames_after_lines, lines_work, job_work, RoseWithin}
use Rattle.frame_run.specs.Works.{Went, WorksOn, TurnWorks}
use Rattle.frame_run.specs.Job.{at_fault}
use Rattle.frame_run.specs.declared.input.InputTurn.{InputTurn}
use Rattle.frame_run.specs.declared.input.InputTurn.TheVariants.{Goes, Stops, NoMemory, WriteFault}
use Rattle.frame_run.proofs.LimitLemmas.{within, take_front, take_all}
use Rattle.frame_run.proofs.LinesLemmas.{after_more, ended_lines-append, last_line-append}

-- ---- lines

frames_after_lines-append : (frames : Frames) (at : At) (a b : List (List ℕ)) → frames_after_lines frames at (a ++ b) ≡ frames_after_lines (frames_after_lines frames at a) (after_lines at a) b
frames_after_lines-append frames at [] b = refl
frames_after_lines-append frames at (line ∷ a) b = frames_after_lines-append (frames_by (after_line at line) frames) (after_line at line) a b

-- sums of work
same_work : (a b : Work) → a.builds ≡ b.builds → a.layouts ≡ b.layouts → a.paints ≡ b.paints → a ≡ b
same_work a b p q r = λ i. record { builds = p i; layouts = q i; paints = r i }

plus_none : (n : ℕ) → n + 0 ≡ n
plus_none n = omega arith

none_plus : (n : ℕ) → n ≡ 0 + n
none_plus n = omega arith

more_left : (a b c : ℕ) (m n : ℕ) → m ≡ b + c → n ≡ a + b → a + m ≡ n + c
more_left a b c m n p q = omega (arith, p, q)

lines_work-append : (frames : Frames) (at : At) (a b : List (List ℕ))
    → lines_work frames at (a ++ b) ≡ more_work (lines_work frames at a) (lines_work (frames_after_lines frames at a) (after_lines at a) b)
lines_work-append frames at [] b =
    let w = lines_work frames at b in same_work w (more_work no_work w) (none_plus w.builds) (none_plus w.layouts) (none_plus w.paints)
lines_work-append frames at (line ∷ a) b =
    let next = after_line at line in
    let later = frames_by next frames in
    let first = line_work frames at line in
    let more = lines_work later next a in
    let last = lines_work (frames_after_lines later next a) (after_lines next a) b in
    let both = lines_work later next (a ++ b) in
    let e : both ≡ more_work more last = lines_work-append later next a b in
    same_work (more_work first both) (more_work (more_work first more) last)
    (more_left first.builds more.builds last.builds both.builds (first.builds + more.builds) (ap (λ (w : Work). w.builds) e) refl)
    (more_left first.layouts more.layouts last.layouts both.layouts (first.layouts + more.layouts) (ap (λ (w : Work). w.layouts) e) refl)
    (more_left first.paints more.paints last.paints both.paints (first.paints + more.paints) (ap (λ (w : Work). w.paints) e) refl)

-- the lines of some bytes and then those of more
frames_more : (frames : Frames) (at : At) (raw a b : List ℕ) → frames_after_lines frames at (ended_lines raw (a ++ b))
    ≡ frames_after_lines (frames_after_lines frames at (ended_lines raw a)) (after_lines at (ended_lines raw a)) (ended_lines (last_line raw a) b)
frames_more frames at raw a b = ap (frames_after_lines frames at) (ended_lines-append raw a b) ∙ frames_after_lines-append frames at (ended_lines raw a) (ended_lines (last_line raw a) b)

pub work_more : (frames : Frames) (at : At) (raw a b : List ℕ) → lines_work frames at (ended_lines raw (a ++ b))
    ≡ more_work (lines_work frames at (ended_lines raw a)) (lines_work (frames_after_lines frames at (ended_lines raw a)) (after_lines at (ended_lines raw a)) (ended_lines (last_line raw a) b))
work_more frames at raw a b = ap (lines_work frames at) (ended_lines-append raw a b) ∙ lines_work-append frames at (ended_lines raw a) (ended_lines (last_line raw a) b)

-- no more builds, layouts and paints
abbrev pub IsNoMore : Work → Work → Type 0
IsNoMore a b = (a.builds ≤ b.builds) × (a.layouts ≤ b.layouts) × (a.paints ≤ b.paints)

no_more : (a b c : Work) → c ≡ more_work a b → IsNoMore a c
no_more a b c e =
    let u : c.builds ≡ a.builds + b.builds = ap (λ (w : Work). w.builds) e in
    let l : c.layouts ≡ a.layouts + b.layouts = ap (λ (w : Work). w.layouts) e in
    let p : c.paints ≡ a.paints + b.paints = ap (λ (w : Work). w.paints) e in (omega (arith, u), omega (arith, l), omega (arith, p))

-- the lines of a front have no more work
pub work_front : (frames : Frames) (at : At) (raw a b : List ℕ) → IsNoMore (lines_work frames at (ended_lines raw a)) (lines_work frames at (ended_lines raw (a ++ b)))
work_front frames at raw a b = no_more (lines_work frames at (ended_lines raw a)) _ (lines_work frames at (ended_lines raw (a ++ b))) (work_more frames at raw a b)

-- one line
one_line : (frames : Frames) (at : At) (line : List ℕ) → lines_work frames at (line ∷ []) ≡ line_work frames at line
one_line frames at line =
    let w = line_work frames at line in same_work (more_work w no_work) w (plus_none w.builds) (plus_none w.layouts) (plus_none w.paints)

-- ---- what was counted

pub within_none : (work : Work) (u l p : ℕ) → RoseWithin work u u l l p p
within_none work u l p = record { builds = omega arith; layouts = omega arith; paints = omega arith }

pub within_more : (f g h : Work) (bo bm bn lo lm ln po pm pn : ℕ) → h ≡ more_work f g → RoseWithin f bo bm lo lm po pm → RoseWithin g bm bn lm ln pm pn → RoseWithin h bo bn lo ln po pn
within_more f g h bo bm bn lo lm ln po pm pn sum a b =
    let u : h.builds ≡ f.builds + g.builds = ap (λ (w : Work). w.builds) sum in
    let l : h.layouts ≡ f.layouts + g.layouts = ap (λ (w : Work). w.layouts) sum in
    let p : h.paints ≡ f.paints + g.paints = ap (λ (w : Work). w.paints) sum in
    record { builds = omega (arith, u, a.builds, b.builds); layouts = omega (arith, l, a.layouts, b.layouts); paints = omega (arith, p, a.paints, b.paints) }

pub within_up : (f h : Work) (bo bn lo ln po pn : ℕ) → IsNoMore f h → RoseWithin f bo bn lo ln po pn → RoseWithin h bo bn lo ln po pn
within_up f h bo bn lo ln po pn more a = record { builds = omega (arith, more.0, a.builds); layouts = omega (arith, more.1, a.layouts); paints = omega (arith, more.2, a.paints) }

within_same : (f h : Work) (bo bn lo ln po pn : ℕ) → f ≡ h → RoseWithin h bo bn lo ln po pn → RoseWithin f bo bn lo ln po pn
within_same f h bo bn lo ln po pn e a = let P : Work → Type 0 = λ w. RoseWithin w bo bn lo ln po pn in subst P (sym e) a

-- ---- bytes that were taken

pub works_more : (next : At → List ℕ → Type 0) (causes : Frames → At → Type 0) (frames : Frames) (place : At) (raw a b : List ℕ) (bo bm bn lo lm ln po pm pn : ℕ)
    → RoseWithin (lines_work frames place (ended_lines raw a)) bo bm lo lm po pm
    → WorksOn next causes (frames_after_lines frames place (ended_lines raw a)) (after_lines place (ended_lines raw a)) (last_line raw a) b bm bn lm ln pm pn
    → WorksOn next causes frames place raw (a ++ b) bo bn lo ln po pn
works_more next causes frames place raw a b bo bm bn lo lm ln po pm pn before on =
    let there = after_lines (after_lines place (ended_lines raw a)) (ended_lines (last_line raw a) b) in
    let P : At → Type 0 = λ at. next at (last_line raw (a ++ b)) in
    let Q : List ℕ → Type 0 = λ r. next there r in
    let R : At → Type 0 = λ at. causes (frames_after_lines frames place (ended_lines raw (a ++ b))) at in
    let F : Frames → Type 0 = λ fs. causes fs there in
    record {
      stands = subst P (sym (after_more place raw a b)) (subst Q (sym (last_line-append raw a b)) on.stands);
      caused = subst R (sym (after_more place raw a b)) (subst F (sym (frames_more frames place raw a b)) on.caused);
      within = within_more (lines_work frames place (ended_lines raw a))
          (lines_work (frames_after_lines frames place (ended_lines raw a)) (after_lines place (ended_lines raw a)) (ended_lines (last_line raw a) b))
          (lines_work frames place (ended_lines raw (a ++ b))) bo bm bn lo lm ln po pm pn (work_more frames place raw a b) before on.within;
    }

-- by their lines
works_by : (job : At → List ℕ → Type 0) (causes : Frames → At → Type 0) (frames : Frames) (place : At) (raw bytes rest : List ℕ) (lines : List (List ℕ)) (bo bn lo ln po pn : ℕ)
    → ended_lines raw bytes ≡ lines → last_line raw bytes ≡ rest → job (after_lines place lines) rest → causes (frames_after_lines frames place lines) (after_lines place lines)
    → RoseWithin (lines_work frames place lines) bo bn lo ln po pn → WorksOn job causes frames place raw bytes bo bn lo ln po pn
works_by job causes frames place raw bytes rest lines bo bn lo ln po pn are leaves stands caused counted =
    let P : List (List ℕ) → Type 0 = λ ls. job (after_lines place ls) (last_line raw bytes) in
    let Q : List ℕ → Type 0 = λ r. job (after_lines place lines) r in
    let R : List (List ℕ) → Type 0 = λ ls. causes (frames_after_lines frames place ls) (after_lines place ls) in
    let W : List (List ℕ) → Type 0 = λ ls. RoseWithin (lines_work frames place ls) bo bn lo ln po pn in
    record { stands = subst P (sym are) (subst Q (sym leaves) stands); caused = subst R (sym are) caused; within = subst W (sym are) counted }

pub works_none : (job : At → List ℕ → Type 0) (causes : Frames → At → Type 0) (frames : Frames) (place : At) (raw : List ℕ) (u l p : ℕ) → job place raw → causes frames place
    → WorksOn job causes frames place raw [] u u l l p p
works_none job causes frames place raw u l p stands caused = record { stands = stands; caused = caused; within = within_none (lines_work frames place []) u l p }

-- a byte that ends a line
ended_by : (raw : List ℕ) (byte : ℕ) → byte ≡ 10 → ended_lines raw (byte ∷ []) ≡ raw ∷ []
ended_by raw byte e = elim (eqb_tells byte 10) [ inl t ↦ ap (λ v. elim v [ true ↦ raw ∷ [] | false ↦ [] ]) t.0 | inr t ↦ absurd (t.1 e) ]

nothing_after : (raw : List ℕ) (byte : ℕ) → byte ≡ 10 → last_line raw (byte ∷ []) ≡ []
nothing_after raw byte e = elim (eqb_tells byte 10) [ inl t ↦ ap (λ v. elim v [ true ↦ [] | false ↦ raw ++ byte ∷ [] ]) t.0 | inr t ↦ absurd (t.1 e) ]

-- and one within it
none_ended : (raw : List ℕ) (byte : ℕ) → (byte ≡ 10 → ⊥) → ended_lines raw (byte ∷ []) ≡ []
none_ended raw byte e = elim (eqb_tells byte 10) [ inl t ↦ absurd (e t.1) | inr t ↦ ap (λ v. elim v [ true ↦ raw ∷ [] | false ↦ [] ]) t.0 ]

byte_after : (raw : List ℕ) (byte : ℕ) → (byte ≡ 10 → ⊥) → last_line raw (byte ∷ []) ≡ raw ++ byte ∷ []
byte_after raw byte e = elim (eqb_tells byte 10) [ inl t ↦ absurd (e t.1) | inr t ↦ ap (λ v. elim v [ true ↦ [] | false ↦ raw ++ byte ∷ [] ]) t.0 ]

-- the line that ends here was taken
pub line_works : (job : At → List ℕ → Type 0) (causes : Frames → At → Type 0) (frames : Frames) (place : At) (raw : List ℕ) (bo bn lo ln po pn : ℕ) → job (after_line place raw) []
    → Went causes frames (after_line place raw) (line_work frames place raw) bo bn lo ln po pn → WorksOn job causes frames place raw (10 ∷ []) bo bn lo ln po pn
line_works job causes frames place raw bo bn lo ln po pn stands went =
    works_by job causes frames place raw (10 ∷ []) [] (raw ∷ []) bo bn lo ln po pn (ended_by raw 10 refl) (nothing_after raw 10 refl) stands went.caused
    (within_same (lines_work frames place (raw ∷ [])) (line_work frames place raw) bo bn lo ln po pn (one_line frames place raw) went.within)

pub byte_works : (job : At → List ℕ → Type 0) (causes : Frames → At → Type 0) (byte : ℕ) (frames : Frames) (place : At) (raw : List ℕ) (u l p : ℕ) → (byte ≡ 10 → ⊥) → job place (raw ++ byte ∷ []) → causes frames place
    → WorksOn job causes frames place raw (byte ∷ []) u u l l p p
byte_works job causes byte frames place raw u l p e stands caused =
    works_by job causes frames place raw (byte ∷ []) (raw ++ byte ∷ []) [] u u l l p p (none_ended raw byte e) (byte_after raw byte e) stands caused (within_none (lines_work frames place []) u l p)

-- ---- a piece, byte by byte

next_front : (xs : List ℕ) (i : ℕ) → i < length xs → take i xs ++ get_or xs i 0 ∷ [] ≡ take (i + 1) xs
next_front xs i h = rw add-one (sym (take-suc xs i 0 h))

pub works_next : (next : At → List ℕ → Type 0) (causes : Frames → At → Type 0) (frames : Frames) (place : At) (raw xs : List ℕ) (i bo bm bn lo lm ln po pm pn : ℕ) → i < length xs
    → RoseWithin (lines_work frames place (ended_lines raw (take i xs))) bo bm lo lm po pm
    → WorksOn next causes (frames_after_lines frames place (ended_lines raw (take i xs))) (after_lines place (ended_lines raw (take i xs))) (last_line raw (take i xs)) (get_or xs i 0 ∷ []) bm bn lm ln pm pn
    → WorksOn next causes frames place raw (take (i + 1) xs) bo bn lo ln po pn
works_next next causes frames place raw xs i bo bm bn lo lm ln po pm pn h before on =
    let P : List ℕ → Type 0 = λ bs. WorksOn next causes frames place raw bs bo bn lo ln po pn in
    subst P (next_front xs i h) (works_more next causes frames place raw (take i xs) (get_or xs i 0 ∷ []) bo bm bn lo lm ln po pm pn before on)

-- the turn ends at a byte: the work of the whole piece is no less
pub within_piece : (frames : Frames) (place : At) (raw xs : List ℕ) (i bo bm bn lo lm ln po pm pn : ℕ) → i < length xs
    → RoseWithin (lines_work frames place (ended_lines raw (take i xs))) bo bm lo lm po pm
    → RoseWithin (lines_work (frames_after_lines frames place (ended_lines raw (take i xs))) (after_lines place (ended_lines raw (take i xs))) (ended_lines (last_line raw (take i xs)) (get_or xs i 0 ∷ []))) bm bn lm ln pm pn
    → RoseWithin (lines_work frames place (ended_lines raw xs)) bo bn lo ln po pn
within_piece frames place raw xs i bo bm bn lo lm ln po pm pn h before on =
    let front = take i xs ++ get_or xs i 0 ∷ [] in
    let whole : front ++ drop (i + 1) xs ≡ xs = ap (λ t. t ++ drop (i + 1) xs) (next_front xs i h) ∙ take-append-drop (i + 1) xs in
    let W : List ℕ → Type 0 = λ bs. RoseWithin (lines_work frames place (ended_lines raw bs)) bo bn lo ln po pn in
    subst W whole
    (within_up (lines_work frames place (ended_lines raw front)) (lines_work frames place (ended_lines raw (front ++ drop (i + 1) xs))) bo bn lo ln po pn (work_front frames place raw front (drop (i + 1) xs))
    (within_more (lines_work frames place (ended_lines raw (take i xs)))
    (lines_work (frames_after_lines frames place (ended_lines raw (take i xs))) (after_lines place (ended_lines raw (take i xs))) (ended_lines (last_line raw (take i xs)) (get_or xs i 0 ∷ [])))
    (lines_work frames place (ended_lines raw front)) bo bm bn lo lm ln po pm pn (work_more frames place raw (take i xs) (get_or xs i 0 ∷ [])) before on))

-- it ends with the piece
pub works_whole : (job : At → List ℕ → Type 0) (causes : Frames → At → Type 0) (frames : Frames) (place : At) (raw xs : List ℕ) (i bo bn lo ln po pn : ℕ) → length xs ≤ i
    → WorksOn job causes frames place raw (take i xs) bo bn lo ln po pn → WorksOn job causes frames place raw xs bo bn lo ln po pn
works_whole job causes frames place raw xs i bo bn lo ln po pn h on =
    let P : List ℕ → Type 0 = λ bs. WorksOn job causes frames place raw bs bo bn lo ln po pn in subst P (take_all i xs h) on

-- the sink had a fault after it
fault_works : (turn : InputTurn) (job : At → List ℕ → Type 0) (causes : Frames → At → Type 0) (frames : Frames) (place : At) (raw bytes : List ℕ) (bo bn lo ln po pn : ℕ)
    → TurnWorks turn job causes frames place raw bytes bo bn lo ln po pn → TurnWorks (at_fault turn) job causes frames place raw bytes bo bn lo ln po pn
fault_works Goes job causes frames place raw bytes bo bn lo ln po pn on = on.within
fault_works (Stops stop) job causes frames place raw bytes bo bn lo ln po pn counted = counted
fault_works NoMemory job causes frames place raw bytes bo bn lo ln po pn none = tt
fault_works WriteFault job causes frames place raw bytes bo bn lo ln po pn counted = counted

pub works_fault : (result turn : InputTurn) (job : At → List ℕ → Type 0) (causes : Frames → At → Type 0) (frames : Frames) (place : At) (raw bytes : List ℕ) (bo bn lo ln po pn : ℕ)
    → result ≡ at_fault turn → TurnWorks turn job causes frames place raw bytes bo bn lo ln po pn → TurnWorks result job causes frames place raw bytes bo bn lo ln po pn
works_fault result turn job causes frames place raw bytes bo bn lo ln po pn e works =
    let P : InputTurn → Type 0 = λ t. TurnWorks t job causes frames place raw bytes bo bn lo ln po pn in
    subst P (sym e) (fault_works turn job causes frames place raw bytes bo bn lo ln po pn works)

-- there was room for all of it
pub within_room : (frames : Frames) (place : At) (raw : List ℕ) (room : ℕ) (bytes : List ℕ) (bo bn lo ln po pn : ℕ) → length bytes ≤ room
    → RoseWithin (lines_work frames place (ended_lines raw bytes)) bo bn lo ln po pn → RoseWithin (lines_work frames place (ended_lines raw (take room bytes))) bo bn lo ln po pn
within_room frames place raw room bytes bo bn lo ln po pn h counted =
    let P : List ℕ → Type 0 = λ bs. RoseWithin (lines_work frames place (ended_lines raw bs)) bo bn lo ln po pn in subst P (sym (take_all room bytes h)) counted

-- ---- the job's input

-- the lines of a front of it have no more work, whatever comes after it
pub job_front : (task : Task) (limit : ℕ) (r x : List ℕ) → length r ≤ limit → IsNoMore (lines_work no_frames (start task) (ended_lines [] r)) (job_work task limit (r ++ x))
unfolding job_work
job_front task limit r x h =
    let front = lines_work no_frames (start task) (ended_lines [] r) in
    let ended = ended_lines [] (r ++ x) in
    let last = last_line [] (r ++ x) ∷ [] in
    let some : IsNoMore front (lines_work no_frames (start task) ended) = work_front no_frames (start task) [] r x in
    let more : IsNoMore (lines_work no_frames (start task) ended) (lines_work no_frames (start task) (ended ++ last)) =
    no_more (lines_work no_frames (start task) ended) _ (lines_work no_frames (start task) (ended ++ last)) (lines_work-append no_frames (start task) ended last) in
    elim (nat_le (length (r ++ x)) limit) as (λ v. IsNoMore front (lines_work no_frames (start task) (if v then ended ++ last else ended_lines [] (take limit (r ++ x))))) [
      | true ↦ (omega (arith, some.0, more.0), omega (arith, some.1, more.1), omega (arith, some.2, more.2))
      | false ↦
          let P : List ℕ → Type 0 = λ bs. IsNoMore front (lines_work no_frames (start task) (ended_lines [] bs)) in
          subst P (sym (take_front limit r x h)) (work_front no_frames (start task) [] r (take (limit - length r) x))
    ]

-- an input within the limit
pub job_whole : (task : Task) (limit : ℕ) (r : List ℕ) → length r ≤ limit → job_work task limit r
    ≡ more_work (lines_work no_frames (start task) (ended_lines [] r)) (line_work (frames_after_lines no_frames (start task) (ended_lines [] r)) (after_lines (start task) (ended_lines [] r)) (last_line [] r))
unfolding job_work
job_whole task limit r h =
    let ended = ended_lines [] r in
    let last = last_line [] r in
    let there = after_lines (start task) ended in
    let frames = frames_after_lines no_frames (start task) ended in
    let all : lines_work no_frames (start task) (if nat_le (length r) limit then ended ++ last ∷ [] else ended_lines [] (take limit r)) ≡ lines_work no_frames (start task) (ended ++ last ∷ []) =
    ap (λ v. lines_work no_frames (start task) (if v then ended ++ last ∷ [] else ended_lines [] (take limit r))) (within (length r) limit h) in
    all ∙ lines_work-append no_frames (start task) ended (last ∷ []) ∙ ap (more_work (lines_work no_frames (start task) ended)) (one_line frames there last)
