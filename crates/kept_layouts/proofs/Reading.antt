-- What a rule of layout reads of a kind and of a setting.
use Rattle.std.proofs.Common.{◌≡◌, ap, refl, sym, ◌∙◌, ℕ, Bool, true, false, not, ◌&&◌, ◌||◌, eqb-true, is_some, List, [], Option, Some, None, if◌then◌else◌}
use Rattle.std.proofs.lemmas.Bool.{and_parts}
use Rattle.fx_geom.specs.declared.boxes.Bounds.{Bounds}
use Rattle.fx_geom.specs.declared.lengths.Len.{Len}
use Rattle.fx_geom.specs.declared.lengths.Len.TheVariants.{Finite, Unbounded}
use Rattle.fx_geom.specs.declared.shapes.Size.{Size}
use Rattle.fx_geom.specs.Len.{finite_or, is_tight_side}
use Rattle.fx_geom.specs.Bounds.{smallest, constrain, is_tight}
use Rattle.delegates.specs.Meaning.{Meaning}
use Rattle.widget_model.specs.Look.{Look, text, offstage, custom_paint, custom_layout, viewport}
use Rattle.work_roles.specs.ForLayout.{for_layout}
use Rattle.work_roles.specs.WorkRole.{is_intrinsic, is_offstage, is_viewport}
use Rattle.plain_tree.specs.declared.laid.Frame.{Frame}
use Rattle.plain_tree.specs.declared.laid.Frame.TheVariants.{Boxed, Sliver}
use Rattle.plain_tree.specs.declared.render.ParentData.{ParentData}
use Rattle.plain_tree.specs.RenderRole.{render_role_of}
use Rattle.layout_form.specs.declared.asks.Ask.{Ask}
use Rattle.layout_form.specs.declared.asks.Ask.TheVariants.{AsBox, AsSliver}
use Rattle.layout_form.specs.Object.{Setting}
use Rattle.layout_form.specs.Single.{Around, painted_box, delegated_box}
use Rattle.layout_form.specs.SliverRule.{view_size}
use Rattle.layout_form.specs.TextRule.{text_size}
use Rattle.layout_form.specs.Protocol.{first_alone}
use Rattle.layout_form.specs.Frames.{frames_given, single_makes, sized_with, Makes}
use Rattle.layout_form.specs.Framed.{answers_of, fixed_size, tight_size, is_blind}
use Rattle.layout_walk.specs.Node.{NodeMember}
use Rattle.layout_walk.specs.Rule.{RuleGift, asks_by, made_by}
use Rattle.layout_walk.specs.Rules.{parts_of, fixed_in}
use Rattle.kept_layouts.specs.Here.{ReadsSame}

-- a member of which a rule of layout reads its kind, and the number of child widgets of a lazy list
abbrev bare : Look → ℕ → NodeMember
bare look count = record { number = 0; look = look; told = record { flex = 0; tight = false; placed = None; index = 0 }; count = count; scroll = 0 }

-- and nothing else
made_bare : (s : Setting) (m : NodeMember) (scroll : ℕ) (ask : Ask) (liked : ℕ) (ds : List ParentData) (gs : List (Ask → Frame))
    → made_by (parts_of s) m scroll ask liked ds gs ≡ made_by (parts_of s) (bare m.look m.count) scroll ask liked ds gs
unfolding made_by asks_by
made_bare s m scroll (AsBox b) liked ds gs = refl
made_bare s m scroll (AsSliver b) liked ds gs = refl

asks_bare : (s : Setting) (m : NodeMember) (scroll : ℕ) (ask : Ask) (liked : ℕ) (ds : List ParentData) (gs : List (Ask → Frame))
    → asks_by (parts_of s) m scroll ask liked ds gs ≡ asks_by (parts_of s) (bare m.look m.count) scroll ask liked ds gs
unfolding asks_by
asks_bare s m scroll (AsBox b) liked ds gs = refl
asks_bare s m scroll (AsSliver b) liked ds gs = refl

-- ---- members that no layout reads

made_read : (s : Setting) (look : Look) (count : ℕ) (scroll : ℕ) (ask : Ask) (liked : ℕ) (ds : List ParentData) (gs : List (Ask → Frame))
    → made_by (parts_of s) (bare (for_layout look) count) scroll ask liked ds gs ≡ made_by (parts_of s) (bare look count) scroll ask liked ds gs
unfolding made_by asks_by
made_read s (text words color) count scroll (AsBox b) liked ds gs = refl
made_read s look count scroll (AsBox b) liked ds gs = refl
made_read s (text words color) count scroll (AsSliver b) liked ds gs = refl
made_read s look count scroll (AsSliver b) liked ds gs = refl

asks_read : (s : Setting) (look : Look) (count : ℕ) (scroll : ℕ) (ask : Ask) (liked : ℕ) (ds : List ParentData) (gs : List (Ask → Frame))
    → asks_by (parts_of s) (bare (for_layout look) count) scroll ask liked ds gs ≡ asks_by (parts_of s) (bare look count) scroll ask liked ds gs
unfolding asks_by
asks_read s (text words color) count scroll (AsBox b) liked ds gs = refl
asks_read s look count scroll (AsBox b) liked ds gs = refl
asks_read s (text words color) count scroll (AsSliver b) liked ds gs = refl
asks_read s look count scroll (AsSliver b) liked ds gs = refl

-- ---- what delegates mean

-- what a box with one child at most makes that goes by its delegate
abbrev by_around : Around → Bool → Bounds → List (Ask → Frame) → RuleGift
by_around a plugged b gs =
    let m : Makes = single_makes a (frames_given (answers_of (first_alone (AsBox a.inner)) gs)) in
    record { facts = record { frame = Boxed b m.size; notes = m.notes; plugged = plugged; scrolled = m.scrolled }; places = m.places }

made_plugged : (s after : Setting) (look : Look) (count : ℕ) → ReadsSame s after look → (scroll : ℕ) (ask : Ask) (liked : ℕ) (ds : List ParentData) (gs : List (Ask → Frame))
    → made_by (parts_of s) (bare look count) scroll ask liked ds gs ≡ made_by (parts_of after) (bare look count) scroll ask liked ds gs
unfolding made_by asks_by
made_plugged s after (custom_paint name) count reads scroll (AsBox b) liked ds gs =
    ap (λ (x : Option Meaning). by_around (painted_box x b) (is_some x) b gs) (reads.delegate name refl)
made_plugged s after (custom_layout name) count reads scroll (AsBox b) liked ds gs =
    ap (λ (x : Option Meaning). by_around (delegated_box x b) (is_some x) b gs) (reads.delegate name refl)
made_plugged s after (text words color) count reads scroll (AsBox b) liked ds gs =
    ap (λ c. let x : Makes = sized_with (constrain b (text_size c words b.max_w)) [] in
    record { facts = record { frame = Boxed b x.size; notes = x.notes; plugged = false; scrolled = x.scrolled }; places = x.places }) reads.cell
made_plugged s after look count reads scroll (AsBox b) liked ds gs = refl
made_plugged s after (custom_paint name) count reads scroll (AsSliver b) liked ds gs =
    ap (λ (x : Option Meaning). record { facts = record { frame = Sliver b (record { scroll = 0; paint = 0 }); notes = record { overflow = 0; unbounded = false }; plugged = is_some x; scrolled = 0 }; places = [] })
    (reads.delegate name refl)
made_plugged s after (custom_layout name) count reads scroll (AsSliver b) liked ds gs =
    ap (λ (x : Option Meaning). record { facts = record { frame = Sliver b (record { scroll = 0; paint = 0 }); notes = record { overflow = 0; unbounded = false }; plugged = is_some x; scrolled = 0 }; places = [] })
    (reads.delegate name refl)
made_plugged s after look count reads scroll (AsSliver b) liked ds gs = refl

asks_plugged : (s after : Setting) (look : Look) (count : ℕ) → ReadsSame s after look → (scroll : ℕ) (ask : Ask) (liked : ℕ) (ds : List ParentData) (gs : List (Ask → Frame))
    → asks_by (parts_of s) (bare look count) scroll ask liked ds gs ≡ asks_by (parts_of after) (bare look count) scroll ask liked ds gs
unfolding asks_by
asks_plugged s after (custom_layout name) count reads scroll (AsBox b) liked ds gs =
    ap (λ (x : Option Meaning). first_alone (AsBox (delegated_box x b).inner)) (reads.delegate name refl)
asks_plugged s after look count reads scroll (AsBox b) liked ds gs = refl
asks_plugged s after look count reads scroll (AsSliver b) liked ds gs = refl

-- ---- both

pub record MadeSame (s after : Setting) (m n : NodeMember) : Type 0 where
  pub made : (scroll : ℕ) (ask : Ask) (liked : ℕ) (ds : List ParentData) (gs : List (Ask → Frame))
      → made_by (parts_of s) n scroll ask liked ds gs ≡ made_by (parts_of after) m scroll ask liked ds gs
  pub asks : (scroll : ℕ) (ask : Ask) (liked : ℕ) (ds : List ParentData) (gs : List (Ask → Frame))
      → asks_by (parts_of s) n scroll ask liked ds gs ≡ asks_by (parts_of after) m scroll ask liked ds gs

abbrev MadeOf : Setting → Look → ℕ → ℕ → Ask → ℕ → List ParentData → List (Ask → Frame) → RuleGift
MadeOf s look count scroll ask liked ds gs = made_by (parts_of s) (bare look count) scroll ask liked ds gs

abbrev AsksOf : Setting → Look → ℕ → ℕ → Ask → ℕ → List ParentData → List (Ask → Frame) → List (Option Ask)
AsksOf s look count scroll ask liked ds gs = asks_by (parts_of s) (bare look count) scroll ask liked ds gs

-- a node was n where s was, and is m now where after is
pub made_same : (s after : Setting) (m n : NodeMember) → for_layout m.look ≡ for_layout n.look → m.count ≡ n.count → ReadsSame s after m.look → MadeSame s after m n
made_same s after m n looks counts reads = record {
  made = λ scroll ask liked ds gs.
      made_bare s n scroll ask liked ds gs
      ∙ (sym (made_read s n.look n.count scroll ask liked ds gs)
      ∙ (ap (λ l. MadeOf s l n.count scroll ask liked ds gs) (sym looks)
      ∙ (made_read s m.look n.count scroll ask liked ds gs
      ∙ (ap (λ c. MadeOf s m.look c scroll ask liked ds gs) (sym counts)
      ∙ (made_plugged s after m.look m.count reads scroll ask liked ds gs ∙ sym (made_bare after m scroll ask liked ds gs))))));
  asks = λ scroll ask liked ds gs.
      asks_bare s n scroll ask liked ds gs
      ∙ (sym (asks_read s n.look n.count scroll ask liked ds gs)
      ∙ (ap (λ l. AsksOf s l n.count scroll ask liked ds gs) (sym looks)
      ∙ (asks_read s m.look n.count scroll ask liked ds gs
      ∙ (ap (λ c. AsksOf s m.look c scroll ask liked ds gs) (sym counts)
      ∙ (asks_plugged s after m.look m.count reads scroll ask liked ds gs ∙ sym (asks_bare after m scroll ask liked ds gs))))));
}

-- ---- other words that read no more of a kind

pub role_read : (look : Look) → render_role_of (for_layout look) ≡ render_role_of look
role_read (text words color) = refl
role_read look = refl

pub blind_offstage : (look : Look) → is_blind look ≡ is_offstage look
blind_offstage (offstage hidden) = refl
blind_offstage look = refl

offstage_read : (look : Look) → is_offstage (for_layout look) ≡ is_offstage look
offstage_read (text words color) = refl
offstage_read look = refl

intrinsic_read : (look : Look) → is_intrinsic (for_layout look) ≡ is_intrinsic look
intrinsic_read (text words color) = refl
intrinsic_read look = refl

pub intrinsic_same : (l k : Look) → for_layout l ≡ for_layout k → is_intrinsic k ≡ true → is_intrinsic l ≡ true
intrinsic_same l k looks e = sym (intrinsic_read l) ∙ (ap is_intrinsic looks ∙ (intrinsic_read k ∙ e))

pub offstage_same : (l k : Look) → for_layout l ≡ for_layout k → is_offstage l ≡ is_offstage k
offstage_same l k looks = sym (offstage_read l) ∙ (ap is_offstage looks ∙ offstage_read k)

pub role_same : (l k : Look) → for_layout l ≡ for_layout k → render_role_of l ≡ render_role_of k
role_same l k looks = sym (role_read l) ∙ (ap render_role_of looks ∙ role_read k)

-- the frame that an ask alone gives, by the kind and the number of child widgets
fixed_read : (look : Look) (count : ℕ) (ask : Ask) → fixed_in (bare (for_layout look) count) ask ≡ fixed_in (bare look count) ask
fixed_read (text words color) count (AsBox b) = refl
fixed_read look count (AsBox b) = refl
fixed_read (text words color) count (AsSliver b) = refl
fixed_read look count (AsSliver b) = refl

fixed_bare : (m : NodeMember) (ask : Ask) → fixed_in m ask ≡ fixed_in (bare m.look m.count) ask
fixed_bare m (AsBox b) = refl
fixed_bare m (AsSliver b) = refl

pub fixed_same : (m n : NodeMember) → for_layout m.look ≡ for_layout n.look → m.count ≡ n.count → (ask : Ask) → fixed_in m ask ≡ fixed_in n ask
fixed_same m n looks counts ask =
    fixed_bare m ask
    ∙ (sym (fixed_read m.look m.count ask)
    ∙ (ap (λ l. fixed_in (bare l m.count) ask) looks
    ∙ (fixed_read n.look m.count ask ∙ (ap (λ c. fixed_in (bare n.look c) ask) counts ∙ sym (fixed_bare n ask)))))

-- the size of a box, where the bounds give it, by two tests of its kind
abbrev pub fixed_by : Bool → Bool → Bounds → Option Size
fixed_by true hidden b = Some (view_size b)
fixed_by false true b = Some (smallest b)
fixed_by false false b = tight_size b

hidden_fixed : (hidden : Bool) (b : Bounds) → fixed_size (offstage hidden) b ≡ fixed_by false (is_offstage (offstage hidden)) b
hidden_fixed true b = refl
hidden_fixed false b = refl

pub fixed_tests : (look : Look) (b : Bounds) → fixed_size look b ≡ fixed_by (is_viewport look) (is_offstage look) b
fixed_tests (offstage hidden) b = hidden_fixed hidden b
fixed_tests (viewport axis) b = refl
fixed_tests look b = refl

-- there is one where the layout of the box tells nothing right above it
pub fixed_there : (view hidden : Bool) (b : Bounds) → (is_tight b || ((view || hidden) || false)) ≡ true → (size : Size) × (fixed_by view hidden b ≡ Some size)
fixed_there true hidden b ends = (view_size b, refl)
fixed_there false true b ends = (smallest b, refl)
fixed_there false false b ends = (smallest b, ap (λ (t : Bool). if t then Some (smallest b) else None) (tight_true (is_tight b) ends))
  where
    tight_true : (t : Bool) → (t || false) ≡ true → t ≡ true
    tight_true true e = refl
    tight_true false e = e

-- in tight bounds it is the one that they leave, whatever the kind
finite_tight : (least : ℕ) (most : Len) → is_tight_side least most ≡ true → finite_or most least ≡ least
finite_tight least (Finite most) e = sym (eqb-true least most e)
finite_tight least Unbounded e = refl

view_tight : (b : Bounds) → is_tight b ≡ true → view_size b ≡ smallest b
view_tight b e =
    let sides = and_parts (is_tight_side b.min_w b.max_w) (is_tight_side b.min_h b.max_h) e in
    λ i. record { w = finite_tight b.min_w b.max_w sides.0 i; h = finite_tight b.min_h b.max_h sides.1 i }

fixed_tight : (view hidden : Bool) (b : Bounds) → is_tight b ≡ true → fixed_by view hidden b ≡ Some (smallest b)
fixed_tight true hidden b e = ap (λ (s : Size). Some s) (view_tight b e)
fixed_tight false true b e = refl
fixed_tight false false b e = ap (λ (t : Bool). if t then Some (smallest b) else None) e

-- so it is the same of two kinds that give it in the same way, unless the bounds are tight
pub fixed_told : (t view hidden other_view other_hidden : Bool) (b : Bounds) → is_tight b ≡ t → (not t && view) ≡ (not t && other_view) → (not t && hidden) ≡ (not t && other_hidden)
    → fixed_by view hidden b ≡ fixed_by other_view other_hidden b
fixed_told true view hidden other_view other_hidden b e views hidings = fixed_tight view hidden b e ∙ sym (fixed_tight other_view other_hidden b e)
fixed_told false view hidden other_view other_hidden b e views hidings =
    ap (λ (x : Bool). fixed_by x hidden b) views ∙ ap (λ (x : Bool). fixed_by other_view x b) hidings
