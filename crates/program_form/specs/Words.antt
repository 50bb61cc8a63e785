-- The words that members of a template are, as data: each list of words, and how each word is written.
use Rattle.std.specs.Prelude.{ℕ, List, [], ◌∷◌, Option, codes}
use Rattle.std.specs.List.{find}
use Rattle.std.specs.Str.{bytes_eq}
use Rattle.fx_geom.specs.declared.words.MainAlign.TheVariants as main
use Rattle.fx_geom.specs.declared.words.CrossAlign.TheVariants as cross
use Rattle.fx_geom.specs.declared.words.StackFit.TheVariants as fit
use Rattle.fx_geom.specs.declared.shapes.Axis.TheVariants as axis
use Rattle.widget_model.specs.declared.words.MainSize.TheVariants as size
use Rattle.widget_model.specs.declared.words.FlexFit.TheVariants as share
use Rattle.widget_model.specs.declared.words.Behavior.TheVariants as hit
use Rattle.program_form.specs.declared.words.Word.{Word}
use Rattle.program_form.specs.declared.words.Word.TheVariants.{Main, Cross, Size, StackFit, FlexFit, Behavior, Axis}
use Rattle.program_form.specs.declared.words.WordList.{WordList}
use Rattle.program_form.specs.declared.words.WordList.TheVariants as list

-- how a word is written
abbrev pub word_text : Word → List ℕ
word_text (Main main.Start) = codes "start"
word_text (Main main.End) = codes "end"
word_text (Main main.Center) = codes "center"
word_text (Main main.Between) = codes "between"
word_text (Main main.Around) = codes "around"
word_text (Main main.Evenly) = codes "evenly"
word_text (Cross cross.Center) = codes "center"
word_text (Cross cross.Start) = codes "start"
word_text (Cross cross.End) = codes "end"
word_text (Cross cross.Stretch) = codes "stretch"
word_text (Size size.Max) = codes "max"
word_text (Size size.Min) = codes "min"
word_text (StackFit fit.Loose) = codes "loose"
word_text (StackFit fit.Expand) = codes "expand"
word_text (StackFit fit.Passthrough) = codes "passthrough"
word_text (FlexFit share.Loose) = codes "loose"
word_text (FlexFit share.Tight) = codes "tight"
word_text (Behavior hit.Defer) = codes "defer"
word_text (Behavior hit.Opaque) = codes "opaque"
word_text (Behavior hit.Translucent) = codes "translucent"
word_text (Axis axis.Vertical) = codes "vertical"
word_text (Axis axis.Horizontal) = codes "horizontal"

-- the words of a list; the first is the one that stands where none is given
unfoldable pub words_of : WordList → List Word
words_of list.Main = Main main.Start ∷ Main main.End ∷ Main main.Center ∷ Main main.Between ∷ Main main.Around ∷ Main main.Evenly ∷ []
words_of list.Cross = Cross cross.Center ∷ Cross cross.Start ∷ Cross cross.End ∷ Cross cross.Stretch ∷ []
words_of list.Size = Size size.Max ∷ Size size.Min ∷ []
words_of list.StackFit = StackFit fit.Loose ∷ StackFit fit.Expand ∷ StackFit fit.Passthrough ∷ []
words_of list.FlexFit = FlexFit share.Loose ∷ FlexFit share.Tight ∷ []
words_of list.Behavior = Behavior hit.Defer ∷ Behavior hit.Opaque ∷ Behavior hit.Translucent ∷ []
words_of list.Axis = Axis axis.Vertical ∷ Axis axis.Horizontal ∷ []

-- the word of a list that is written so, if there is one
abbrev pub word_named : WordList → List ℕ → Option Word
word_named list text = find (λ word. bytes_eq (word_text word) text) (words_of list)
