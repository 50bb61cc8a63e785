-- Builds of small trees that keep outputs, worked by hand: what they come to, and how many components they build.
use Rattle.std.specs.Prelude.{◌≡◌, ℕ, true, Some, None, List, [], ◌∷◌}
use Rattle.fx_expr.specs.declared.values.Value.TheVariants as value
use Rattle.widget_keys.specs.declared.keys.Key.TheVariants as key
use Rattle.widget_model.specs.Plain.{PlainWidget}
use Rattle.build_form.specs.Entering.{Blueprint}
use Rattle.build_form.specs.FullBuild.{Built, failed, built}
use Rattle.build_form.specs.Worked.{screen, starting, again, set, scroll, int, use_of, bare, box, both, ints, g, keyed, list_root, moving, in_first, in_second, shows, chooses, reader, reading, reads, giving, by_their_keys}
use Rattle.build_walk.specs.Counting.{build_count}
use Rattle.build_walk.specs.Keeping.{rebuild}

-- the next frame, where these numbers are marked
abbrev pub keeping : Blueprint → List ℕ → PlainWidget → Built → Built
keeping p marks root (failed fault) = failed fault
keeping p marks root (built tree next) = rebuild p screen (Some tree) marks next root

-- how many components it builds
abbrev pub builds : Blueprint → List ℕ → PlainWidget → Built → ℕ
builds p marks root (failed fault) = 0
builds p marks root (built tree next) = build_count p screen (Some tree) marks next root

-- a reader with a global key, below the first or the second of two providers
abbrev pub keyed_reader : PlainWidget
keyed_reader = use_of 0 reader (key.Global g) [] []

abbrev pub under_first : ℕ → ℕ → PlainWidget
under_first m n = both (giving m keyed_reader ∷ giving n (bare box) ∷ [])

abbrev pub under_second : ℕ → ℕ → PlainWidget
under_second m n = both (giving m (bare box) ∷ giving n keyed_reader ∷ [])

pub record WorksOfRebuilds : Type 0 where
  -- first all is built; a frame over the same tree builds nothing; a marked item is built alone, and so is a marked list, whose
  -- items go on by their keys
  pub first : build_count keyed screen None [] 1 list_root ≡ 4
  pub quiet : builds keyed [] list_root (starting keyed list_root) ≡ 0
  pub item : builds keyed (3 ∷ []) list_root (set 3 (int 9 ∷ []) (starting keyed list_root)) ≡ 1
  pub list : builds keyed (1 ∷ []) list_root (set 1 (ints (3 ∷ 2 ∷ 1 ∷ [])) (starting keyed list_root)) ≡ 1
  pub reordered : keeping keyed (1 ∷ []) list_root (set 1 (ints (3 ∷ 2 ∷ 1 ∷ [])) (starting keyed list_root))
      ≡ again keyed list_root (set 1 (ints (3 ∷ 2 ∷ 1 ∷ [])) (starting keyed list_root))
  -- an item more is built beside the list
  pub longer : builds keyed (1 ∷ []) list_root (set 1 (ints (1 ∷ 2 ∷ 3 ∷ 4 ∷ [])) (starting keyed list_root)) ≡ 2
  -- a field that has a value without a mark isn't noticed: marks are a duty of whoever sets it
  pub unmarked : builds keyed [] list_root (set 1 (ints (3 ∷ 2 ∷ 1 ∷ [])) (starting keyed list_root)) ≡ 0
  -- a state that moves by its global key builds nothing
  pub moved : builds moving [] in_second (starting moving in_first) ≡ 0
  pub moved_is : keeping moving [] in_second (set 3 (int 7 ∷ []) (starting moving in_first)) ≡ again moving in_second (set 3 (int 7 ∷ []) (starting moving in_first))
  -- what is read has another value, or what isn't read has
  pub nearer : builds reading [] (giving 1 (giving 3 reads)) (starting reading (giving 1 (giving 2 reads))) ≡ 1
  pub hidden : builds reading [] (giving 5 (giving 2 reads)) (starting reading (giving 1 (giving 2 reads))) ≡ 0
  pub nearer_is : keeping reading [] (giving 1 (giving 3 reads)) (starting reading (giving 1 (giving 2 reads)))
      ≡ again reading (giving 1 (giving 3 reads)) (starting reading (giving 1 (giving 2 reads)))
  -- a reader that moves below another provider, of another value or of the same
  pub other_provider : builds reading [] (under_second 1 2) (starting reading (under_first 1 2)) ≡ 1
  pub other_provider_is : keeping reading [] (under_second 1 2) (starting reading (under_first 1 2)) ≡ again reading (under_second 1 2) (starting reading (under_first 1 2))
  pub same_value : builds reading [] (under_second 1 1) (starting reading (under_first 1 1)) ≡ 0
  -- what was built before a fault counts
  pub to_a_fault : builds moving (5 ∷ []) (both (shows ∷ chooses ∷ [])) (set 5 (value.Bool true ∷ []) (starting moving (both (shows ∷ chooses ∷ [])))) ≡ 1
  pub fault_is : keeping moving (5 ∷ []) (both (shows ∷ chooses ∷ [])) (set 5 (value.Bool true ∷ []) (starting moving (both (shows ∷ chooses ∷ []))))
      ≡ again moving (both (shows ∷ chooses ∷ [])) (set 5 (value.Bool true ∷ []) (starting moving (both (shows ∷ chooses ∷ []))))
  -- of a lazy list the items that are new
  pub scrolled : builds keyed [] by_their_keys (scroll 1 40000 (starting keyed by_their_keys)) ≡ 2
  pub scrolled_is : keeping keyed [] by_their_keys (scroll 1 40000 (starting keyed by_their_keys)) ≡ again keyed by_their_keys (scroll 1 40000 (starting keyed by_their_keys))
