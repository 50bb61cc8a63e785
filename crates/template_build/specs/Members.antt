-- What the members of a template are in a scene, each by its place in the table of its kind: expressions evaluated and
-- brought into their ranges, words, handlers and names. A member that is left out, or isn't what it is read as, counts
-- as left out.
use Rattle.std.specs.Prelude.{ℕ, min, max, ℤ, pos, negsuc, ◌^◌, Bool, true, false, List, [], map, Option, Some, None, option_map, unwrap_or}
use Rattle.std.specs.Int.{int_min, int_max}
use Rattle.fx_expr.specs.declared.values.Value.{Value}
use Rattle.fx_expr.specs.declared.values.Value.TheVariants as value
use Rattle.fx_expr.specs.declared.handlers.Handler.{Handler}
use Rattle.fx_expr.specs.Exp.{Exp}
use Rattle.fx_expr.specs.Scope.{Env}
use Rattle.fx_expr.specs.Value.{int_in, bool_in, text_in, ints_in}
use Rattle.fx_expr.specs.ValueOf.{value_of}
use Rattle.fx_expr.specs.Closed.{closed}
use Rattle.fx_geom.specs.declared.shapes.Axis.{Axis}
use Rattle.fx_geom.specs.declared.shapes.Axis.TheVariants.{Vertical}
use Rattle.fx_geom.specs.declared.words.MainAlign.{MainAlign}
use Rattle.fx_geom.specs.declared.words.MainAlign.TheVariants as main
use Rattle.fx_geom.specs.declared.words.CrossAlign.{CrossAlign}
use Rattle.fx_geom.specs.declared.words.CrossAlign.TheVariants as cross
use Rattle.fx_geom.specs.declared.words.StackFit.{StackFit}
use Rattle.fx_geom.specs.declared.words.StackFit.TheVariants as stack_fit
use Rattle.fx_geom.specs.Offset.{placement_of}
use Rattle.widget_model.specs.declared.words.MainSize.{MainSize}
use Rattle.widget_model.specs.declared.words.MainSize.TheVariants as main_size
use Rattle.widget_model.specs.declared.words.FlexFit.{FlexFit}
use Rattle.widget_model.specs.declared.words.FlexFit.TheVariants as flex_fit
use Rattle.widget_model.specs.declared.words.Behavior.{Behavior}
use Rattle.widget_model.specs.declared.words.Behavior.TheVariants as behaves
use Rattle.widget_keys.specs.declared.keys.Key.{Key}
use Rattle.widget_keys.specs.declared.keys.Key.TheVariants as key
use Rattle.program_form.specs.declared.words.Word.{Word}
use Rattle.program_form.specs.declared.words.Word.TheVariants as a_word
use Rattle.program_check.specs.Body.{KeyExp, local, global, BodyMembers, PlainBodyPart, expression, word, name, handler, props, part_at}
use Rattle.template_build.specs.Scene.{Scene}

-- ---- expressions

abbrev pub expression_in : Option PlainBodyPart → Option Exp
expression_in (Some (expression e)) = Some e
expression_in p = None

abbrev pub expression_at : BodyMembers → ℕ → Option Exp
expression_at ms i = expression_in (part_at ms i)

abbrev pub value_given : BodyMembers → ℕ → Scene → Option Value
value_given ms i s = option_map (λ e. value_of e s.env) (expression_at ms i)

-- a value of either type; 0 where it is left out
abbrev pub value_or_zero : BodyMembers → ℕ → Scene → Value
value_or_zero ms i s = unwrap_or (value_given ms i s) (value.Int (pos 0))

abbrev pub flag_or : Bool → BodyMembers → ℕ → Scene → Bool
flag_or default ms i s = unwrap_or (option_map bool_in (value_given ms i s)) default

abbrev pub text_or_empty : BodyMembers → ℕ → Scene → List ℕ
text_or_empty ms i s = unwrap_or (option_map text_in (value_given ms i s)) []

abbrev pub ints_or_none : BodyMembers → ℕ → Scene → List ℤ
ints_or_none ms i s = unwrap_or (option_map ints_in (value_given ms i s)) []

-- ---- numbers, brought into their ranges

-- from 0 to a greatest one
abbrev pub up_to : ℕ → ℤ → ℕ
up_to greatest (pos n) = min n greatest
up_to greatest (negsuc n) = 0

-- from a least to a greatest one
abbrev pub between : ℤ → ℤ → ℤ → ℤ
between least greatest z = int_max least (int_min z greatest)

abbrev pub number_given : BodyMembers → ℕ → Scene → Option ℤ
number_given ms i s = option_map int_in (value_given ms i s)

abbrev pub up_to_or : ℕ → ℕ → BodyMembers → ℕ → Scene → ℕ
up_to_or greatest default ms i s = unwrap_or (option_map (up_to greatest) (number_given ms i s)) default

-- the greatest length
abbrev pub most : ℕ
most = 2 ^ 40

abbrev pub length_given : BodyMembers → ℕ → Scene → Option ℕ
length_given ms i s = option_map (up_to most) (number_given ms i s)

abbrev pub length_or_zero : BodyMembers → ℕ → Scene → ℕ
length_or_zero ms i s = up_to_or most 0 ms i s

-- the extent of a list's items is at least 1
abbrev pub extent_at : BodyMembers → ℕ → Scene → ℕ
extent_at ms i s = max 1 (length_or_zero ms i s)

-- a place on either side of 0
abbrev pub place_given : BodyMembers → ℕ → Scene → Option ℤ
place_given ms i s = option_map placement_of (number_given ms i s)

abbrev pub alignment_or : ℤ → BodyMembers → ℕ → Scene → ℤ
alignment_or default ms i s = unwrap_or (option_map (between (negsuc 99) (pos 100)) (number_given ms i s)) default

-- 0xAARRGGBB
abbrev pub color_or : ℕ → BodyMembers → ℕ → Scene → ℕ
color_or default ms i s = up_to_or 0xffff_ffff default ms i s

-- ---- words, each with the first of its list as default

abbrev pub word_in : Option PlainBodyPart → Option Word
word_in (Some (word w)) = Some w
word_in p = None

abbrev pub word_at : BodyMembers → ℕ → Option Word
word_at ms i = word_in (part_at ms i)

abbrev pub main_or_start : Option Word → MainAlign
main_or_start (Some (a_word.Main w)) = w
main_or_start w = main.Start

abbrev pub cross_or_center : Option Word → CrossAlign
cross_or_center (Some (a_word.Cross w)) = w
cross_or_center w = cross.Center

abbrev pub size_or_max : Option Word → MainSize
size_or_max (Some (a_word.Size w)) = w
size_or_max w = main_size.Max

abbrev pub stack_fit_or_loose : Option Word → StackFit
stack_fit_or_loose (Some (a_word.StackFit w)) = w
stack_fit_or_loose w = stack_fit.Loose

abbrev pub flex_fit_or_loose : Option Word → FlexFit
flex_fit_or_loose (Some (a_word.FlexFit w)) = w
flex_fit_or_loose w = flex_fit.Loose

abbrev pub axis_or_vertical : Option Word → Axis
axis_or_vertical (Some (a_word.Axis w)) = w
axis_or_vertical w = Vertical

-- a detector that gives no behavior defers to its child where it has one, and else lets what is behind it be hit too
abbrev pub behavior_without_word : Bool → Behavior
behavior_without_word true = behaves.Defer
behavior_without_word false = behaves.Translucent

abbrev pub behavior_or : Behavior → Option Word → Behavior
behavior_or default (Some (a_word.Behavior w)) = w
behavior_or default w = default

-- ---- names, which are places in lists

abbrev pub name_in : Option PlainBodyPart → ℕ
name_in (Some (name i)) = i
name_in p = 0

abbrev pub name_at : BodyMembers → ℕ → ℕ
name_at ms i = name_in (part_at ms i)

-- ---- handlers: sets of the owner's fields, each closed in the scene

abbrev pub sets_in : Option PlainBodyPart → Option (List (ℕ × Exp))
sets_in (Some (handler sets)) = Some sets
sets_in p = None

abbrev pub closed_set : Env → ℕ × Exp → ℕ × Exp
closed_set s set = (set.0, closed set.1 s)

abbrev pub handler_with : Scene → List (ℕ × Exp) → Handler
handler_with s sets = record { owner = s.owner; sets = map (closed_set s.env) sets }

abbrev pub handler_given : BodyMembers → ℕ → Scene → Option Handler
handler_given ms i s = option_map (handler_with s) (sets_in (part_at ms i))

-- ---- the props of a component, in declared order

abbrev pub props_in : Option PlainBodyPart → List Exp
props_in (Some (props es)) = es
props_in p = []

abbrev pub props_at : BodyMembers → ℕ → Scene → List Value
props_at ms i s = map (λ e. value_of e s.env) (props_in (part_at ms i))

-- ---- keys

abbrev pub exp_in_key : KeyExp → Exp
exp_in_key (local e) = e
exp_in_key (global e) = e

abbrev pub key_value : KeyExp → Env → Key Value
key_value (local e) s = key.Local (value_of e s)
key_value (global e) s = key.Global (value_of e s)

abbrev pub key_in : Option KeyExp → Scene → Key Value
key_in None s = key.None
key_in (Some k) s = key_value k s.env
