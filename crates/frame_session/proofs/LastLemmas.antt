-- The text of what was shown, which is kept from one frame to the next.
use Rattle.std.proofs.Common.{◌≡◌, Bool, true, false, Option, Some, None, IfSome, List, ℕ, refl, sym, ap, subst, ◌∙◌}
use Rattle.std.proofs.lemmas.Option.{IfSome_then}
use Rattle.std.specs.declared.alloc.Global.{Global}
use Rattle.std.specs.declared.rc.Rc.{Rc}
use Rattle.fx_geom.specs.declared.shapes.Size.{Size}
use Rattle.layer_tree.specs.declared.layers.Layer.{Layer}
use Rattle.plain_tree.specs.Laid.{Laid}
use Rattle.widget_model.specs.Plain.{PlainWidget}
use Rattle.widget_model.specs.View.{shared}
use Rattle.widget_model.specs.declared.widgets.Widget.{Widget}
use Rattle.screen_owner.specs.Screen.{KeptScreen, shown_in, layer_in}
use Rattle.session_form.specs.FrameText.{layers_of}
use Rattle.session_form.specs.State.{Shown}
use Rattle.session_form.proofs.TreeLemmas.{none_some, some_inj}
use Rattle.frame_session.specs.StandsFor.{IsShown, IsTextOf, body_text}

-- ---- the text of what is shown again

shown_again : (cell : Size) (old new : KeptScreen) (before : Option Shown) (now : Shown) → IsShown cell old before → shown_in new ≡ Some now.laid → layer_in new ≡ Some (layers_of cell now)
    → shown_in new ≡ shown_in old → layer_in new ≡ layer_in old → (text : List ℕ) → IsTextOf cell before text → text ≡ body_text (Some now.laid) (layers_of cell now)
shown_again cell old new None now h laid layers same_laid same_layers text is = absurd (none_some (sym (sym laid ∙ (same_laid ∙ h.laid))))
shown_again cell old new (Some x) now h laid layers same_laid same_layers text is =
    let l : Some x.laid ≡ Some now.laid = sym (same_laid ∙ h.laid) ∙ laid in
    let k : Some (layers_of cell x) ≡ Some (layers_of cell now) = sym (same_layers ∙ h.layers) ∙ layers in
    is ∙ (ap (λ (o : Option Laid). body_text o (layers_of cell x)) l ∙ ap (body_text (Some now.laid)) (some_inj k))

-- the text that is kept, as the frame answers
pub last_by : {A : Type 0} (items : A → List ℕ) (again : Bool) (last left : Option A) (cell : Size) (old new : KeptScreen) (before : Option Shown) → (again ≡ true → left ≡ last) → (again ≡ false → left ≡ None)
    → IsShown cell old before → (again ≡ true → (shown_in new ≡ shown_in old) × (layer_in new ≡ layer_in old)) → IfSome last (λ a. IsTextOf cell before (items a))
    → (now : Shown) → shown_in new ≡ Some now.laid → layer_in new ≡ Some (layers_of cell now) → IfSome left (λ a. items a ≡ body_text (Some now.laid) (layers_of cell now))
last_by {A} items true last left cell old new before kept forgot h same holds now laid layers =
    subst (λ (o : Option A). IfSome o (λ a. items a ≡ body_text (Some now.laid) (layers_of cell now))) (sym (kept refl))
    (IfSome_then last holds (λ a is. shown_again cell old new before now h laid layers (same refl).0 (same refl).1 (items a) is))
last_by {A} items false last left cell old new before kept forgot h same holds now laid layers =
    subst (λ (o : Option A). IfSome o (λ a. items a ≡ body_text (Some now.laid) (layers_of cell now))) (sym (forgot refl)) tt

-- ---- where it is printed

-- what has layers is shown
pub shown_there : (cell : Size) (screen : KeptScreen) (shown : Option Shown) (layer : Layer) → IsShown cell screen shown → layer_in screen ≡ Some layer
    → (now : Shown) × (shown ≡ Some now) × (shown_in screen ≡ Some now.laid) × (layer ≡ layers_of cell now)
shown_there cell screen None layer h there = absurd (none_some (sym h.layers ∙ there))
shown_there cell screen (Some now) layer h there = (now, refl, h.laid, some_inj (sym there ∙ h.layers))

pub last_here : {A : Type 0} (items : A → List ℕ) (last : Option A) (cell : Size) (shown : Option Shown) (now : Shown) (laid : Option Laid) (layer : Layer) → shown ≡ Some now → laid ≡ Some now.laid → layer ≡ layers_of cell now
    → IfSome last (λ a. IsTextOf cell shown (items a)) → IfSome last (λ a. items a ≡ body_text laid layer)
last_here items last cell shown now laid layer is is_laid is_layer holds =
    IfSome_then last holds (λ a text. subst (λ (x : Option Shown). IsTextOf cell x (items a)) is text ∙ (λ i. body_text (sym is_laid i) (sym is_layer i)))

pub last_back : {A : Type 0} (items : A → List ℕ) (last : Option A) (cell : Size) (shown : Option Shown) (now : Shown) (laid : Option Laid) (layer : Layer) → shown ≡ Some now → laid ≡ Some now.laid → layer ≡ layers_of cell now
    → IfSome last (λ a. items a ≡ body_text laid layer) → IfSome last (λ a. IsTextOf cell shown (items a))
last_back items last cell shown now laid layer is is_laid is_layer holds =
    IfSome_then last holds (λ a text. subst (λ (x : Option Shown). IsTextOf cell x (items a)) (sym is) (text ∙ (λ i. body_text (is_laid i) (is_layer i))))

-- ---- the root of the last frame

-- the tree is settled for no other root
pub known_root : (o : Option PlainWidget) (kept : Option (Rc Widget Global)) (root : Rc Widget Global) → kept ≡ Some root → IfSome o (λ w. IfSome kept (λ r. w ≡ shared r)) → IfSome o (λ w. w ≡ shared root)
known_root o kept root is holds = IfSome_then o holds (λ w one. subst (λ (x : Option (Rc Widget Global)). IfSome x (λ r. w ≡ shared r)) is one)

pub root_known : (o : Option PlainWidget) (kept : Option (Rc Widget Global)) (root : Rc Widget Global) → kept ≡ Some root → IfSome o (λ w. w ≡ shared root) → IfSome o (λ w. IfSome kept (λ r. w ≡ shared r))
root_known o kept root is holds = IfSome_then o holds (λ w one. subst (λ (x : Option (Rc Widget Global)). IfSome x (λ r. w ≡ shared r)) (sym is) one)

-- nor is it after a line that leaves it settled for none else
pub known_still : (old new : Option PlainWidget) (P : PlainWidget → Type 0) → IfSome new (λ w. old ≡ Some w) → IfSome old P → IfSome new P
known_still old new P only holds = IfSome_then new only (λ w is. subst (λ (o : Option PlainWidget). IfSome o P) is holds)

pub same_only : (old new : Option PlainWidget) → new ≡ old → IfSome new (λ w. old ≡ Some w)
same_only old None same = tt
same_only old (Some w) same = sym same
