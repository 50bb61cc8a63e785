-- The two scales that programs can have.
use Rattle.std.proofs.Common.{lit≤}
use Rattle.fx_geom.specs.declared.scales.Scale.{Scale}

-- 64 u per logical pixel: a cell of 8 by 16 pixels, slops of 18 and 36, a live range that is 250 wider on both sides
abbrev pub standard_scale : Scale
standard_scale = record {
  cell = record { w = 512; h = 1024 };
  slop = 1152;
  pan = 2304;
  widen = 16000;
  nodes = 65536;
  cell_has_width = lit≤ tt;
  cell_has_height = lit≤ tt;
}

-- 256 u per logical pixel: the same in pixels, and sixteen times the nodes
abbrev pub fine_scale : Scale
fine_scale = record {
  cell = record { w = 2048; h = 4096 };
  slop = 4608;
  pan = 9216;
  widen = 64000;
  nodes = 1048576;
  cell_has_width = lit≤ tt;
  cell_has_height = lit≤ tt;
}
