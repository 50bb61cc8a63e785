-- Which children of lazy lists are there, as the program says it.
use Rattle.std.specs.Prelude.{ℕ}
use Rattle.sliver_layout.specs.declared.protocol.Window.{Window}
use Rattle.layout_form.specs.Live.{live_in}
use Rattle.plain_layout.specs.LiveView.{view_kept}
use Rattle.plain_build.specs.declared.ranges.Ranges.{Ranges}

abbrev pub ranges_of : Ranges → ℕ → ℕ → ℕ → Window
ranges_of r number extent count = live_in (view_kept r.views number) extent count r.widen
