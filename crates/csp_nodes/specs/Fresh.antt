-- The buffers of a node at its opening.
use Rattle.std.specs.Prelude.{ℕ, List, map}
use Rattle.std.specs.List.{range_with_len}
use Rattle.csp_buffer.specs.Content.{Content, cleared}

-- so many buffers, numbered from 0, with nothing in them
abbrev pub fresh_buffers : ℕ → List Content
fresh_buffers count = map cleared (range_with_len 0 count)
