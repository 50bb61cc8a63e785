-- What a laid node gives, from what the code's steps gave.
use Rattle.std.proofs.Common.{◌≡◌, ℕ, Bool, true, false, Option, None, List, refl, sym, ap, ◌∙◌}
use Rattle.fx_geom.specs.declared.shapes.Offset.{Offset}
use Rattle.fx_geom.specs.declared.shapes.Rect.{Rect}
use Rattle.widget_model.specs.Look.{Look}
use Rattle.plain_tree.specs.declared.laid.Facts.{Facts}
use Rattle.plain_tree.specs.Laid.{Laid, laid}
use Rattle.laid_cursor.specs.Opened.{opened}
use Rattle.semantics_tree.specs.declared.nodes.SemNode.{SemNode}
use Rattle.screen_form.specs.Sem.{sem, sems_of}
use Rattle.semantics_tree.specs.View.{sem_of}
use Rattle.screen_form.specs.SemanticsRole.{SemanticsRole, hides, says, forms, merges, semantics_role}
use Rattle.screen_form.specs.Semantics.{frame_of}
use Rattle.screen_form.specs.Fragment.{Fragment, together, own, alone, joined, node_of, merged_of, fragment_by, fragment_of, fragment_in, rect_at, number_where}
use Rattle.semantics_tree.specs.Forming.{Heard, begun, after, made}
use Rattle.semantics_tree.proofs.Hearing.{after-together, after-nothing, option_or-nil}

opened_fragment : (l : Laid) (at : Offset)
    → fragment_of l at
    ≡ fragment_by (semantics_role (opened l).look (opened l).facts.frame) (opened l).number (rect_at at (opened l).facts.frame) (fragment_in (opened l).below at)
unfolding fragment_of
opened_fragment (laid number look facts children) at = refl

pub opened_frame : (l : Laid) → frame_of l ≡ (opened l).facts.frame
opened_frame (laid number look facts children) = refl

module _ (l : Laid) (at : Offset) where
  abbrev number : ℕ
  number = (opened l).number

  abbrev look : Look
  look = (opened l).look

  abbrev f : Facts
  f = (opened l).facts

  abbrev below : Fragment
  below = fragment_in (opened l).below at

  fragment-is : (role : SemanticsRole) → role ≡ semantics_role look f.frame → fragment_of l at ≡ fragment_by role number (rect_at at f.frame) below
  fragment-is role is_role = opened_fragment l at ∙ ap (λ r. fragment_by r number (rect_at at f.frame) below) (sym is_role)

  pub hears_hidden : (old : Heard) → hides ≡ semantics_role look f.frame → old ≡ after old (fragment_of l at)
  hears_hidden old is_role = sym (ap (after old) (fragment-is hides is_role) ∙ after-nothing old)

  module _ (old new : Heard) where
    pub hears_said : (label : List ℕ) (button : Bool) → says label button ≡ semantics_role look f.frame → (said : Heard) → said ≡ after old (own label button)
        → new ≡ after said below → new ≡ after old (fragment_of l at)
    hears_said label button is_role said is_said is_new =
        is_new
        ∙ ap (λ h. after h below) is_said
        ∙ after-together old (own label button) below
        ∙ ap (after old) (sym (fragment-is (says label button) is_role))

    pub hears_formed : (label : List ℕ) (button tap long : Bool) → forms label button tap long ≡ semantics_role look f.frame
        → (first said whole : Heard) (a b : Option ℕ) (rect : Rect) (n : SemNode) → first ≡ begun false a b → a ≡ number_where tap number → b ≡ number_where long number
        → said ≡ after first (own label button) → whole ≡ after said below → rect ≡ rect_at at f.frame → sem_of n ≡ made whole number rect
        → new ≡ after old (alone (sem_of n)) → new ≡ after old (fragment_of l at)
    hears_formed label button tap long is_role first said whole a b rect n is_first is_a is_b is_said is_whole is_rect is_made is_new =
        let g = together (own label button) below in
        let all : whole ≡ after (begun false a b) g =
        is_whole
        ∙ ap (λ h. after h below) (is_said ∙ ap (λ h. after h (own label button)) is_first)
        ∙ after-together (begun false a b) (own label button) below in
        let node : sem_of n ≡ node_of number (rect_at at f.frame) (number_where tap number) (number_where long number) g =
        is_made
        ∙ ap (λ h. made h number rect) all
        ∙ (λ i. sem number (is_rect i) (joined g.labels) g.button ((option_or-nil a ∙ is_a) i) ((option_or-nil b ∙ is_b) i) (sems_of g.nodes)) in
        is_new ∙ ap (λ s. after old (alone s)) node ∙ ap (after old) (sym (fragment-is (forms label button tap long) is_role))

    pub hears_merged : merges ≡ semantics_role look f.frame → (first whole : Heard) (rect : Rect) (n : SemNode) → first ≡ begun true None None
        → whole ≡ after first below → rect ≡ rect_at at f.frame → sem_of n ≡ made whole number rect
        → new ≡ after old (alone (sem_of n)) → new ≡ after old (fragment_of l at)
    hears_merged is_role first whole rect n is_first is_whole is_rect is_made is_new =
        let node : sem_of n ≡ merged_of number (rect_at at f.frame) below =
        is_made
        ∙ ap (λ h. made h number rect) (is_whole ∙ ap (λ h. after h below) is_first)
        ∙ ap (λ r. merged_of number r below) is_rect in
        is_new ∙ ap (λ s. after old (alone s)) node ∙ ap (after old) (sym (fragment-is merges is_role))
