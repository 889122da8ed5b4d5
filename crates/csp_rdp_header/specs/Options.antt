-- the options of a connection
use Rattle.std.specs.Prelude.{ℕ, ◌==◌, ◌||◌, nat_lt, if◌then◌else◌, List, ◌++◌, length, take, drop, Result, Ok, Err}
use Rattle.std.specs.Int.{to_be_bytes, from_be_bytes, w32}
use Rattle.csp_rdp_header.specs.declared.errors.OptionError.{OptionError}
use Rattle.csp_rdp_header.specs.declared.errors.OptionError.TheVariants.{BadLength, BadOption}
use Rattle.csp_rdp_header.specs.declared.options.Options.{Options}
use Rattle.csp_rdp_header.specs.declared.options.TheConstants.{MAX_WINDOW, OPTIONS_LEN}

-- the options where nothing else is said
abbrev pub usual_options : Options
usual_options = record { window = 4; conn_timeout = 10000; packet_timeout = 1000; delayed = 1; ack_timeout = 250; ack_count = 2 }

-- the bytes of the options: six numbers of 32 bits, each the most significant byte first
abbrev pub option_bytes : Options → List ℕ
option_bytes o = to_be_bytes w32 o.window ++ to_be_bytes w32 o.conn_timeout ++ to_be_bytes w32 o.packet_timeout ++ to_be_bytes w32 o.delayed ++ to_be_bytes w32 o.ack_timeout ++ to_be_bytes w32 o.ack_count

-- the number of 32 bits that begins at this byte
abbrev pub number_at : List ℕ → ℕ → ℕ
number_at bytes at = from_be_bytes w32 (take 4 (drop at bytes))

-- the options that 24 bytes are
abbrev pub options_of : List ℕ → Options
options_of bytes = record { window = number_at bytes 0; conn_timeout = number_at bytes 4; packet_timeout = number_at bytes 8; delayed = number_at bytes 12; ack_timeout = number_at bytes 16; ack_count = number_at bytes 20 }

-- the first that is out of its range is refused: the window is 1 to MAX_WINDOW, the connection timeout and the packet timeout at least 1
abbrev pub checked : Options → Result Options OptionError
checked o =
    if o.window == 0 || nat_lt MAX_WINDOW o.window then Err (BadOption 0)
    else if o.conn_timeout == 0 then Err (BadOption 1)
    else if o.packet_timeout == 0 then Err (BadOption 2)
    else Ok o

-- bytes are judged: they must be 24, and each number in its range
abbrev pub judged : List ℕ → Result Options OptionError
judged bytes = if length bytes == OPTIONS_LEN then checked (options_of bytes) else Err BadLength
