-- Other looks of nodes, by their numbers.
use Rattle.std.specs.Prelude.{ℕ, ◌==◌, Option, Some, None, List}
use Rattle.std.specs.List.{find}
use Rattle.widget_model.specs.Look.{Look}

-- the node with a number has another look
pub record NewLook : Type 0 where
  pub number : ℕ
  pub look : Look

abbrev pub new_look : ℕ → Look → NewLook
new_look number look = record { number = number; look = look }

abbrev pub look_or : Option NewLook → Look → Look
look_or None was = was
look_or (Some new) was = new.look

-- the look of a node after these: that of the first one of its number, or else the one that it had
abbrev pub look_after : List NewLook → ℕ → Look → Look
look_after news number was = look_or (find (λ n. n.number == number) news) was
