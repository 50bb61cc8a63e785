-- The members of a widget lie in their ranges.
use Rattle.std.proofs.Common.{◌≡◌, ℕ, ◌^◌, ◌<◌, ◌≤◌, max, ℤ, pos, negsuc, neg_ℤ, ◌≤ℤ◌, Bool, Option, Some, None, IfSome, option_map, unwrap_or, arith, refl}
use Rattle.std.proofs.lemmas.Int.{ints, clamps}
use Rattle.fx_geom.specs.Offset.{IsPlacement, placement_of}
use Rattle.program_form.specs.declared.kinds.KindName.{KindName}
use Rattle.program_form.specs.declared.kinds.KindName.TheVariants as kind
use Rattle.program_check.specs.Body.{BodyMembers}
use Rattle.widget_model.specs.Typed.{Declarations, IsLength, IsAlignment, FitMembers}
use Rattle.template_build.specs.Scene.{Scene}
use Rattle.template_build.specs.Looks.{look_by}
use Rattle.template_build.specs.Members.{up_to, between, most, number_given}

up_to-within : (greatest : ℕ) (z : ℤ) → up_to greatest z ≤ greatest
up_to-within greatest (pos n) = omega arith
up_to-within greatest (negsuc n) = omega arith

up_to_or-within : (greatest default : ℕ) (z : Option ℤ) → default ≤ greatest → unwrap_or (option_map (up_to greatest) z) default ≤ greatest
up_to_or-within greatest default None h = h
up_to_or-within greatest default (Some z) h = up_to-within greatest z

length_fits : (z : Option ℤ) → IfSome (option_map (up_to most) z) IsLength
length_fits None = tt
length_fits (Some z) = up_to-within most z

length_or_zero_fits : (z : Option ℤ) → IsLength (unwrap_or (option_map (up_to most) z) 0)
length_or_zero_fits z = up_to_or-within most 0 z (omega arith)

between-within : (least greatest z : ℤ) → least ≤ℤ greatest → (least ≤ℤ between least greatest z) × (between least greatest z ≤ℤ greatest)
between-within least greatest z h = (omega (arith, ints, clamps), omega (arith, ints, clamps))

place_fits : (z : Option ℤ) → IfSome (option_map placement_of z) IsPlacement
place_fits None = tt
place_fits (Some z) = between-within (neg_ℤ (pos (2 ^ 40))) (pos (2 ^ 40)) z (omega (arith, ints))

alignment_fits : (default : ℤ) (z : Option ℤ) → IsAlignment default → IsAlignment (unwrap_or (option_map (between (negsuc 99) (pos 100)) z) default)
alignment_fits default None h = h
alignment_fits default (Some z) h = between-within (negsuc 99) (pos 100) z (omega (arith, ints))

color_fits : (default : ℕ) (z : Option ℤ) → default ≤ 0xffff_ffff → unwrap_or (option_map (up_to 0xffff_ffff) z) default < 2 ^ 32
color_fits default z h = omega (arith, up_to_or-within 0xffff_ffff default z h)

extent_fits : (n : ℕ) → n ≤ most → (1 ≤ max 1 n) × (max 1 n ≤ most)
extent_fits n h = (omega arith, omega arith)

center : IsAlignment (pos 0)
center = (omega (arith, ints), omega (arith, ints))

corner : IsAlignment (negsuc 99)
corner = (omega (arith, ints), omega (arith, ints))

-- an Inherit's members are the check's
pub members_fit : (k : KindName) (p : Declarations) (ms : BodyMembers) (s : Scene) (below : Bool)
    → (k ≡ kind.Inherit → FitMembers p (look_by kind.Inherit ms s below)) → FitMembers p (look_by k ms s below)
members_fit kind.SizedBox p ms s below h = (length_fits (number_given ms 0 s), length_fits (number_given ms 1 s))
members_fit kind.ConstrainedBox p ms s below h =
    (length_or_zero_fits (number_given ms 0 s), length_fits (number_given ms 1 s), length_or_zero_fits (number_given ms 2 s), length_fits (number_given ms 3 s))
members_fit kind.Padding p ms s below h =
    (length_or_zero_fits (number_given ms 0 s), length_or_zero_fits (number_given ms 1 s), length_or_zero_fits (number_given ms 2 s), length_or_zero_fits (number_given ms 3 s))
members_fit kind.Align p ms s below h = (alignment_fits (pos 0) (number_given ms 0 s) center, alignment_fits (pos 0) (number_given ms 1 s) center)
members_fit kind.ColoredBox p ms s below h = color_fits 0 (number_given ms 0 s) (omega arith)
members_fit kind.Text p ms s below h = color_fits 0xff00_0000 (number_given ms 1 s) (omega arith)
members_fit kind.Stack p ms s below h = (alignment_fits (negsuc 99) (number_given ms 0 s) corner, alignment_fits (negsuc 99) (number_given ms 1 s) corner)
members_fit kind.Flexible p ms s below h = up_to_or-within 1000000 1 (number_given ms 0 s) (omega arith)
members_fit kind.Positioned p ms s below h =
    (place_fits (number_given ms 0 s), place_fits (number_given ms 1 s), place_fits (number_given ms 2 s), place_fits (number_given ms 3 s), length_fits (number_given ms 4 s), length_fits (number_given ms 5 s))
members_fit kind.Opacity p ms s below h = up_to_or-within 255 255 (number_given ms 0 s) (omega arith)
members_fit kind.SliverPadding p ms s below h =
    (length_or_zero_fits (number_given ms 0 s), length_or_zero_fits (number_given ms 1 s), length_or_zero_fits (number_given ms 2 s), length_or_zero_fits (number_given ms 3 s))
members_fit kind.SliverFixed p ms s below h = extent_fits _ (length_or_zero_fits (number_given ms 0 s))
members_fit kind.SliverLazy p ms s below h = extent_fits _ (length_or_zero_fits (number_given ms 0 s))
members_fit kind.Wrap p ms s below h = (length_or_zero_fits (number_given ms 0 s), length_or_zero_fits (number_given ms 1 s))
members_fit kind.Inherit p ms s below h = h refl
members_fit kind.Slot p ms s below h = (tt, tt)
members_fit kind.If p ms s below h = (tt, tt)
members_fit kind.Each p ms s below h = (tt, tt)
members_fit k p ms s below h = tt
