-- The rule of a box with nobody below it.
use Rattle.std.proofs.Common.{◌≡◌, ap, refl, sym, ◌∙◌, ℕ, Bool, true, false, if◌then◌else◌, Option, Some, None, List, []}
use Rattle.fx_geom.specs.declared.boxes.Bounds.{Bounds}
use Rattle.fx_geom.specs.declared.shapes.Size.{Size}
use Rattle.widget_model.specs.Look.{Look}
use Rattle.plain_tree.specs.declared.render.ParentData.{ParentData}
use Rattle.layout_form.specs.declared.asks.Ask.TheVariants.{AsBox}
use Rattle.layout_form.specs.Object.{Setting}
use Rattle.layout_form.specs.Protocol.{Found}
use Rattle.layout_form.specs.Single.{around}
use Rattle.layout_form.specs.Frames.{Makes, sized_with}
use Rattle.kind_rules.specs.Ruling.{box_ruling}
use Rattle.kind_rules.specs.Asked.{ruling_for}
use Rattle.kind_rules.specs.Lone.{lone_size}
use Rattle.kind_rules.specs.Single.{is_single}
use Rattle.kind_rules.proofs.SingleBoxes.{makes_around}

same_size : (b : Bounds) (size own : Size) → Some size ≡ Some own → box_ruling b (sized_with size []) ≡ box_ruling b (sized_with own [])
same_size b size own is =
    let same : size ≡ own = cc in
    ap (λ (x : Size). box_ruling b (sized_with x [])) same

-- where it is known whether the kind is such a one
lone_by : (s : Setting) (l : Look) (b : Bounds) (size : Size) (count : ℕ) (found : Found) (ds : List ParentData) (single : Bool) → is_single l ≡ single
    → Some size ≡ (if single then Some ((around s l b 0).size None) else None) → box_ruling b (sized_with size []) ≡ ruling_for s l count (AsBox b) found ds []
lone_by s l b size count found ds true knows is =
    same_size b size ((around s l b 0).size None) is ∙ ap (λ (m : Makes). box_ruling b m) (sym (makes_around s l b found ds [] knows))
lone_by s l b size count found ds false knows is = cc

pub lone_rules : (s : Setting) (l : Look) (b : Bounds) (size : Size) (count : ℕ) (found : Found) (ds : List ParentData) → Some size ≡ lone_size s l b
    → box_ruling b (sized_with size []) ≡ ruling_for s l count (AsBox b) found ds []
lone_rules s l b size count found ds is = lone_by s l b size count found ds (is_single l) refl is
