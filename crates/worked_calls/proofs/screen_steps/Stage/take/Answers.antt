use Rattle.worked_calls.proofs.screen_steps.Stage.take.Goals as goal

pub frame-requires : goal.frame-requires
frame-requires g c = c.requires

pub scroll-requires : goal.scroll-requires
scroll-requires g c = c.requires

pub make_two_bars-requires : goal.make_two_bars-requires
make_two_bars-requires g c = c.requires

pub unplug-requires : goal.unplug-requires
unplug-requires g c = c.requires

pub returns-in-Show : goal.returns-in-Show
returns-in-Show g c = c.frame.ensures

pub returns-in-Scroll : goal.returns-in-Scroll
returns-in-Scroll g c = c.scroll.ensures

pub returns-in-At : goal.returns-in-At
returns-in-At g c = c.requires

pub returns-in-TwoBars : goal.returns-in-TwoBars
returns-in-TwoBars g c = c.make_two_bars.ensures

pub returns-in-Unplug : goal.returns-in-Unplug
returns-in-Unplug g c = c.unplug.ensures

pub returns-in_ok-check_text-in-Is : goal.returns-in_ok-check_text-in-Is
returns-in_ok-check_text-in-Is g c = c.requires

pub returns-in-Stay : goal.returns-in-Stay
returns-in-Stay g c = c.requires
