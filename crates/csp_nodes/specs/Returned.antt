-- What a give handed back, as a picture.
use Rattle.std.specs.Prelude.{Result, Ok, Err}
use Rattle.csp_buffer.specs.Content.{Content}
use Rattle.csp_buffer.specs.PlainBuffer.{PlainBuffer}

-- what a give came to, as pictures
abbrev pub shown_give : Result (Unit {0}) PlainBuffer → Result (Unit {0}) Content
shown_give (Ok u) = Ok u
shown_give (Err b) = Err b.picture
