-- how an application is emptied at the end of a run
use Rattle.std.specs.Prelude.{Option, Some, None, List, [], ◌∷◌}
use Rattle.csp_app.specs.PlainApp.{PlainApp}
use Rattle.csp_buffer.specs.Content.{Content}

-- the application without the first of its buffers: one popped, one made, those got by `take`, the oldest first. Where it holds none it stays
abbrev pub without_first : Option Content → Option Content → List Content → PlainApp → PlainApp
without_first (Some _) made held s = record s { taken = None }
without_first None (Some _) held s = record s { made = None }
without_first None None (_ ∷ held) s = record s { held = held }
without_first None None [] s = s

-- the application without the first buffer that it holds, at the end of a run
abbrev pub drained : PlainApp → PlainApp
drained s = without_first s.taken s.made s.held s
