-- The steps that lines state.
use Rattle.std.specs.Prelude.{ℕ, ◌+◌, List, if◌then◌else◌}
use Rattle.std.specs.Option.{unwrap_or}
use Rattle.csp_app.specs.PlainStep.{PlainStep}
use Rattle.csp_app.specs.PlainStep as step
use Rattle.csp_base.specs.Priority.{prio_of}
use Rattle.csp_text.specs.Hexadecimal.{bytes_of, hex_number}
use Rattle.csp_scene.specs.Arguments.{word_at, number_at, has_keyword, setting}
use Rattle.csp_scene.specs.declared.limits.TheConstants.{DEFAULT_PRIO, CRC_FLAG, RDP_FLAG, FRAG_FLAG}
use Rattle.csp_scene.specs.declared.table.Keyword.{Keyword}
use Rattle.csp_scene.specs.declared.table.Keyword.TheVariants as keyword
use Rattle.csp_scene.specs.declared.table.Part.{Part}

-- a flag of the header, where the line has the word for it
abbrev pub flag_of : Keyword → ℕ → List Part → ℕ
flag_of keyword flag shape = if has_keyword keyword shape then flag else 0

-- the flags of the header for which a line has the words `crc` and `rdp`
abbrev pub flags_of : List Part → ℕ
flags_of shape = flag_of keyword.Crc CRC_FLAG shape + flag_of keyword.Rdp RDP_FLAG shape

-- those of a connection's packets: with the word `frag` they are pieces of blobs
abbrev pub connect_flags : List Part → ℕ
connect_flags shape = flags_of shape + flag_of keyword.Frag FRAG_FLAG shape

-- the steps that `bind PORT [crc] [rdp]` and `connect SLOT ADDR PORT [prio P] [crc] [rdp] [frag] [from Q]` state
abbrev pub bind_step : List Part → List (List ℕ) → PlainStep
bind_step shape args = step.Bind (number_at args 0) (flags_of shape)

-- the step of a `connect` line
abbrev pub connect_step : List Part → List (List ℕ) → PlainStep
connect_step shape args =
    step.Connect (number_at args 0) (number_at args 1) (number_at args 2) (prio_of (unwrap_or (setting keyword.Prio shape args) DEFAULT_PRIO)) (connect_flags shape) (setting keyword.From shape args)

-- the steps that `send SLOT HEX`, `burst SLOT COUNT LEN`, `blob SLOT LEN SIZE` and `close SLOT` state
abbrev pub send_step : List (List ℕ) → PlainStep
send_step args = step.Send (number_at args 0) (bytes_of (word_at args 1))

-- the step of a `burst` line
abbrev pub burst_step : List (List ℕ) → PlainStep
burst_step args = step.Burst (number_at args 0) (number_at args 1) (number_at args 2)

-- the step of a `blob` line
abbrev pub blob_step : List (List ℕ) → PlainStep
blob_step args = step.Blob (number_at args 0) (number_at args 1) (number_at args 2)

-- the step of a `close` line
abbrev pub close_step : List (List ℕ) → PlainStep
close_step args = step.Close (number_at args 0)

-- the steps that `raw HEADER HEX`, `recv SLOT COUNT [for R]`, `collect SLOT COUNT [for R]` and `wait R` state
abbrev pub raw_step : List (List ℕ) → PlainStep
raw_step args = step.Raw (hex_number (word_at args 0)) (bytes_of (word_at args 1))

-- the step of a `recv` line
abbrev pub recv_step : List Part → List (List ℕ) → PlainStep
recv_step shape args = step.Recv (number_at args 0) (number_at args 1) (setting keyword.For shape args)

-- the step of a `collect` line
abbrev pub collect_step : List Part → List (List ℕ) → PlainStep
collect_step shape args = step.Collect (number_at args 0) (number_at args 1) (setting keyword.For shape args)

-- the step of a `wait` line
abbrev pub wait_step : List (List ℕ) → PlainStep
wait_step args = step.Wait (number_at args 0)
