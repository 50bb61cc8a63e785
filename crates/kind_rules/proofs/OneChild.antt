-- What is made of at most one frame.
use Rattle.std.proofs.Common.{◌≡◌, ap, sym, subst, ◌∙◌, Option, Some, None, List, [], ◌∷◌}
use Rattle.std.specs.Prelude.{unwrap_or}
use Rattle.std.specs.List.{All}
use Rattle.std.specs.Option.{ForSome}
use Rattle.std.proofs.lemmas.List.Elements.{All-head}
use Rattle.fx_geom.specs.Size.{HasLengths}
use Rattle.fx_geom.specs.declared.boxes.Bounds.{Bounds}
use Rattle.fx_geom.specs.declared.shapes.Offset.{Offset}
use Rattle.fx_geom.specs.declared.shapes.Size.{Size}
use Rattle.plain_tree.specs.declared.laid.Frame.{Frame}
use Rattle.plain_tree.specs.Shown.{box_size}
use Rattle.layout_form.specs.Single.{Around}
use Rattle.layout_form.specs.Frames.{sizes_by, sized_with, single_makes}
use Rattle.kind_rules.specs.Reading.{first_frame_of}
use Rattle.kind_rules.specs.Ruling.{Ruling, box_ruling}

pub none_made : (a : Around) (b : Bounds) (fs : List Frame) (size : Size) (g : Ruling) → None ≡ first_frame_of fs → size ≡ a.size None
    → g ≡ box_ruling b (sized_with size []) → g ≡ box_ruling b (single_makes a fs)
none_made a b [] size g is sizes e = e ∙ ap (λ (x : Size). box_ruling b (sized_with x [])) sizes
none_made a b (f ∷ fs) size g is sizes e = cc

pub some_made : (a : Around) (b : Bounds) (fs : List Frame) (f : Frame) (inner size : Size) (at : Offset) (g : Ruling)
    → Some f ≡ first_frame_of fs → inner ≡ box_size f → size ≡ a.size (Some inner) → at ≡ a.place size inner
    → g ≡ box_ruling b (sized_with size (at ∷ [])) → g ≡ box_ruling b (single_makes a fs)
some_made a b [] f inner size at g is inners sizes places e = cc
some_made a b (k ∷ fs) f inner size at g is inners sizes places e =
    let same : f ≡ k = cc in
    e ∙ ap (λ (p : Offset). box_ruling b (sized_with size (p ∷ []))) places
    ∙ ap (λ (x : Size). box_ruling b (sized_with x (a.place x inner ∷ []))) sizes
    ∙ ap (λ (i : Size). let x = a.size (Some i) in box_ruling b (sized_with x (a.place x i ∷ []))) (inners ∙ ap box_size same)

-- the size of the child has lengths, where those of all have
pub child_long : (fs : List Frame) (f : Frame) (inner : Size) → All HasLengths (sizes_by fs) → Some f ≡ first_frame_of fs → inner ≡ box_size f → HasLengths inner
child_long [] f inner all is same = cc
child_long (k ∷ fs) f inner all is same =
    let one : f ≡ k = cc in
    subst HasLengths (sym (same ∙ ap box_size one)) (All-head HasLengths (box_size k) (sizes_by fs) all)

pub some_long : (inner : Size) → HasLengths inner → ForSome (Some inner) HasLengths
some_long inner long x e = subst HasLengths (ap (λ (o : Option Size). unwrap_or o inner) e) long
